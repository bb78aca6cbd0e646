-- What payments take fits: an invoice is of a checkout that none was of before.
use Rattle.std.proofs.Common.{◌≡◌, ℕ, ◌≤◌, true, not, List, count_by, refl, ap, ◌∙◌, arith}
use Rattle.market_amounts.specs.declared.keys.RequestId.{RequestId}
use Rattle.market_events.specs.declared.bodies.Body.{Body}
use Rattle.market_events.specs.declared.bodies.Body.TheVariants as body
use Rattle.market_events.specs.declared.bodies.PricedLine.{PricedLine}
use Rattle.market_events.specs.declared.events.Event.{Event}
use Rattle.market_events.specs.declared.links.TheConstants.{ORDER_TO_PAYMENT}
use Rattle.market_events.specs.declared.requests.Request.{Request}
use Rattle.market_events.specs.Links.{order_node, payment_node}
use Rattle.market_events.specs.declared.roles.Role.{Role}
use Rattle.market_events.specs.Services.{IsRunOf, invoices, role_fits}
use Rattle.market_events.specs.Steps.{Step, made_on}
use Rattle.market_events.proofs.Values.Same.{same_id-self}
use Rattle.market_history.specs.Blocks.{role_at}
use Rattle.market_history.specs.Histories.{Histories}
use Rattle.market_history.specs.Lawful.{IsLawful}
use Rattle.market_laws.specs.Cuts.{steps_at, TookAt, FitsBelow}
use Rattle.market_laws.proofs.Fits.KindsOnLinks.{never-came}
use Rattle.market_laws.proofs.Fits.AloneOnLinks.{invoice-payment, none-taken}
use Rattle.market_laws.proofs.Runs.Orders.{invoices-is-held, held-once}

-- orders make one invoice of a checkout at most
pub invoices-few : (id : RequestId) (steps : List Step) → IsRunOf Role.Order steps → count_by (invoices id) (made_on ORDER_TO_PAYMENT steps) ≤ 1
invoices-few id steps run = omega (arith, invoices-is-held steps run id, held-once steps run id)

module _ (h : Histories) (event : Event) (lawful : IsLawful h) (t : TookAt h payment_node event) where
  -- an invoice
  pub payment-invoice : (checkout : RequestId) (customer : ℕ) (lines : List PricedLine) (total : ℕ) → event.body ≡ body.Invoice checkout customer lines total
      → role_fits Role.Payment (steps_at payment_node t.before) (body.Invoice checkout customer lines total) ≡ true
  payment-invoice checkout customer lines total is =
      ap not (none-taken h payment_node event lawful t ORDER_TO_PAYMENT order_node refl (omega arith) (invoices checkout) (invoice-payment checkout) (ap (invoices checkout) is ∙ same_id-self checkout) (invoices-few checkout))

  -- each body but a request
  pub payment_fits_all : FitsBelow h t.clock → ((request : Request) → event.body ≡ body.Asked request → ⊥) → role_fits (role_at payment_node) (steps_at payment_node t.before) event.body ≡ true
  payment_fits_all below other = by event.body refl
    where
      by : (b : Body) → event.body ≡ b → role_fits Role.Payment (steps_at payment_node t.before) b ≡ true
      by (body.Asked request) is = absurd (other request is)
      by (body.Invoice checkout customer lines total) is = payment-invoice checkout customer lines total is
      by b is = absurd (never-came h payment_node event t b is (omega arith) tt refl)
