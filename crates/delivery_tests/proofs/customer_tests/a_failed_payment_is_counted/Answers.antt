use Rattle.std.proofs.Common.{◌≡◌, true, [], refl}
use Rattle.market_amounts.specs.declared.keys.RequestId.{RequestId}
use Rattle.market_events.specs.declared.bodies.Body.{Body}
use Rattle.market_events.specs.declared.bodies.Body.TheVariants.{Failed}
use Rattle.market_events.specs.declared.bodies.PayRule.TheVariants.{NoCard}
use Rattle.market_events.specs.Services.{fits}
use Rattle.market_events.specs.Standing.{Stands, with_step}
use Rattle.customer_service.specs.Holds.{Holds}
use Rattle.delivery_tests.proofs.customer_tests.a_failed_payment_is_counted.Goals as goal
use Rattle.market_events.specs.declared.links.TheConstants.{PAYMENT_TO_CUSTOMER}
use Rattle.market_events.specs.declared.roles.Role.{Role}

abbrev failed : Body
failed = let id : RequestId = record { caller = 5; number = 9 } in Failed id 7 NoCard

fit : fits Role.Customer [] PAYMENT_TO_CUSTOMER failed ≡ true
unfolding fits
fit = refl

pub drive-requires : goal.drive-requires
drive-requires g c = ∣ ([], record { run = tt; held = c.new-customers.ensures }, fit) ∣₁

pub drive-requires-2 : goal.drive-requires-2
unfolding fits
drive-requires-2 g c =
    let stands : Stands Role.Customer Holds c.new-customers.result [] = record { run = tt; held = c.new-customers.ensures } in
    ∣ (with_step Role.Customer [] PAYMENT_TO_CUSTOMER failed, c.in_ok-outs.ensures.stands [] stands fit, refl) ∣₁
