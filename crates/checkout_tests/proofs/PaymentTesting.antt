-- The steps of the tests: each fits those before it.
use Rattle.std.proofs.Common.{◌≡◌, ℕ, ◌≤◌, true, nat_le, List, [], refl, arith}
use Rattle.std.proofs.lemmas.Bool.Decides.{nat_tests}
use Rattle.market_events.specs.declared.bodies.Body.{Body}
use Rattle.market_events.specs.declared.bodies.Body.TheVariants as body
use Rattle.market_events.specs.declared.links.Link.{Link}
use Rattle.market_events.specs.declared.links.TheConstants.{ORDER_TO_PAYMENT}
use Rattle.market_events.specs.Examples.{an_id, mug_invoice}
use Rattle.market_events.specs.ExamplesPayment.{free_lines}
use Rattle.market_events.specs.Services.{fits}
use Rattle.market_events.specs.Standing.{with_step}
use Rattle.market_events.specs.Steps.{Step}
use Rattle.market_events.specs.WellFormed.{limit_max}
use Rattle.checkout_tests.specs.PaymentExamples.{card_asked, from_lane, with_limit}
use Rattle.market_events.specs.declared.roles.Role.{Role}

abbrev pub orders : Link
orders = ORDER_TO_PAYMENT

-- the steps of the tests
abbrev pub billed : ℕ → List Step
billed limit = with_step Role.Payment (with_limit limit) orders mug_invoice

abbrev pub lowered : List Step
lowered = with_step Role.Payment (billed 1950) from_lane (card_asked 4 1949)

abbrev pub free_bill : Body
free_bill = body.Invoice (an_id 7 6) 7 free_lines 0

pub card_fits : (limit : ℕ) → limit ≤ limit_max → fits Role.Payment [] from_lane (card_asked 3 limit) ≡ true
unfolding fits
card_fits limit few =
    let le : nat_le limit limit_max ≡ true = grind (arith, nat_tests) in
    rw le refl

pub bill_fits : (limit : ℕ) → fits Role.Payment (with_limit limit) orders mug_invoice ≡ true
unfolding fits
bill_fits limit = refl

pub first_fits : fits Role.Payment [] orders mug_invoice ≡ true
unfolding fits
first_fits = refl

pub lower_fits : fits Role.Payment (billed 1950) from_lane (card_asked 4 1949) ≡ true
unfolding fits
lower_fits = refl

pub free_fits : fits Role.Payment lowered orders free_bill ≡ true
unfolding fits
free_fits = refl
