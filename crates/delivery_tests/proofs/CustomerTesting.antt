-- The steps of the test: each fits those before it.
use Rattle.std.proofs.Common.{◌≡◌, ℕ, true, List, [], refl, ap, subst, ◌∙◌}
use Rattle.market_amounts.specs.declared.keys.RequestId.{RequestId}
use Rattle.market_events.specs.declared.bodies.Body.{Body}
use Rattle.market_events.specs.declared.bodies.Body.TheVariants as body
use Rattle.market_events.specs.declared.bodies.PayRule.TheVariants as pay
use Rattle.market_events.specs.declared.links.Link.{Link}
use Rattle.market_events.specs.declared.links.Link.TheVariants as link
use Rattle.market_events.specs.declared.requests.Ask.TheVariants as ask
use Rattle.market_events.specs.Examples.{an_id}
use Rattle.market_events.specs.Links.{customer_node}
use Rattle.market_events.specs.Requests.{lane_of}
use Rattle.market_events.specs.Services.{fits}
use Rattle.market_events.specs.Standing.{Stands, CanTake, with_step}
use Rattle.market_events.specs.Steps.{Step}
use Rattle.customer_service.specs.declared.tables.Tally.{Tally}
use Rattle.delivery_tests.specs.CustomerExamples.{payments, deliveries, payment, failure, arrival, one_paid, two_paid, two_paid_one_failed}
use Rattle.customer_service.specs.Holds.{Holds}
use Rattle.market_events.specs.declared.roles.Role.{Role}

-- the bodies that have an id of a request, and the link on which the lane of caller 5 asks
abbrev pub failed : RequestId → Body
failed checkout = body.Failed checkout 7 pay.OverLimit

abbrev pub asked : RequestId → Body
asked id = body.Asked (record { id = id; ask = ask.Customer 7 })

abbrev pub lane : Link
lane = link.Asked (lane_of (an_id 5 4)) customer_node

pub first_fits : fits Role.Customer [] payments (payment 1) ≡ true
unfolding fits
first_fits = refl

pub second_fits : fits Role.Customer one_paid payments (payment 2) ≡ true
unfolding fits
second_fits = refl

pub failure_fits : fits Role.Customer two_paid payments failure ≡ true
unfolding fits
failure_fits = refl

pub arrival_fits : fits Role.Customer [] deliveries arrival ≡ true
unfolding fits
arrival_fits = refl

pub question_fits : fits Role.Customer two_paid_one_failed lane (asked (an_id 5 4)) ≡ true
unfolding fits
question_fits = refl
