-- Steps of customers for the test.
use Rattle.std.specs.Prelude.{ℕ, List, [], ◌∷◌}
use Rattle.market_events.specs.declared.bodies.Body.{Body}
use Rattle.market_events.specs.declared.bodies.Body.TheVariants as body
use Rattle.market_events.specs.declared.bodies.PayRule.TheVariants as pay
use Rattle.market_events.specs.declared.links.Link.{Link}
use Rattle.market_events.specs.declared.links.TheConstants.{PAYMENT_TO_CUSTOMER, SHIPMENT_TO_CUSTOMER}
use Rattle.market_events.specs.declared.bodies.Item.{Item}
use Rattle.market_events.specs.Examples.{an_id, mug, mug_lines}
use Rattle.market_events.specs.declared.roles.Role.{Role}
use Rattle.market_events.specs.Standing.{with_step}
use Rattle.market_events.specs.Steps.{Step}

abbrev pub payments : Link
payments = PAYMENT_TO_CUSTOMER

abbrev pub deliveries : Link
deliveries = SHIPMENT_TO_CUSTOMER

-- customer 7 paid the checkout of caller 5 with this number, and did not pay the third
abbrev pub payment : ℕ → Body
payment number = body.Confirmed (an_id 5 number) 7 mug_lines 1950

abbrev pub failure : Body
failure = body.Failed (an_id 5 3) 7 pay.OverLimit

-- one payment, two, and the failure after these
abbrev pub one_paid : List Step
one_paid = with_step Role.Customer [] payments (payment 1)

abbrev pub two_paid : List Step
two_paid = with_step Role.Customer one_paid payments (payment 2)

abbrev pub two_paid_one_failed : List Step
two_paid_one_failed = with_step Role.Customer two_paid payments failure

-- the mug of the first checkout is delivered to customer 7 and to customer 8
abbrev pub mug_to : ℕ → Item
mug_to customer = record { checkout = an_id 5 1; customer = customer; key = mug }

abbrev pub arrival : Body
arrival = body.Delivered (mug_to 7 ∷ mug_to 8 ∷ [])

abbrev pub both_arrived : List Step
both_arrived = with_step Role.Customer [] deliveries arrival
