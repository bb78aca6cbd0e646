-- What shipments take fits: a payment is of a checkout that none was of before.
use Rattle.std.proofs.Common.{◌≡◌, ℕ, ◌≤◌, true, cond, not, List, [], ◌∷◌, filter, count_by, refl, ap, sym, ◌∙◌, subst, arith}
use Rattle.std.proofs.lemmas.List.Sums.{sum_by-cons}
use Rattle.market_amounts.specs.declared.keys.RequestId.{RequestId}
use Rattle.market_events.specs.declared.bodies.Body.{Body}
use Rattle.market_events.specs.declared.bodies.Body.TheVariants as body
use Rattle.market_events.specs.declared.bodies.PricedLine.{PricedLine}
use Rattle.market_events.specs.declared.events.Event.{Event}
use Rattle.market_events.specs.declared.links.TheConstants.{PAYMENT_TO_STOCK, PAYMENT_TO_SHIPMENT}
use Rattle.market_events.specs.declared.requests.Request.{Request}
use Rattle.market_events.specs.Links.{payment_node, shipment_node}
use Rattle.market_events.specs.declared.roles.Role.{Role}
use Rattle.market_events.specs.Services.{IsRunOf, role_fits}
use Rattle.market_events.specs.Steps.{Step, made_on}
use Rattle.market_events.specs.Stocks.{confirms, settles}
use Rattle.market_events.proofs.Values.Same.{same_id-self}
use Rattle.market_history.specs.Blocks.{role_at}
use Rattle.market_history.specs.Histories.{Histories}
use Rattle.market_history.specs.Lawful.{IsLawful}
use Rattle.market_laws.specs.Cuts.{steps_at, TookAt, FitsBelow}
use Rattle.market_laws.specs.Runs.{is_payment}
use Rattle.market_laws.proofs.Fits.KindsOnLinks.{never-came}
use Rattle.market_laws.proofs.Fits.AloneOnLinks.{confirm-shipment, none-taken}
use Rattle.market_laws.proofs.Runs.Payments.{payments-to-shipment, settles-is-invoices, invoices-once}

-- payments settle a checkout once at most
pub settles-few : (id : RequestId) (steps : List Step) → IsRunOf Role.Payment steps → count_by (settles id) (made_on PAYMENT_TO_STOCK steps) ≤ 1
settles-few id steps run = omega (arith, settles-is-invoices steps run id, invoices-once steps run id)

-- no more is confirmed than settled
confirms_le : (id : RequestId) (bs : List Body) → count_by (confirms id) (filter is_payment bs) ≤ count_by (settles id) bs
confirms_le id [] = omega arith
confirms_le id (b ∷ bs) = by b (confirms_le id bs)
  where
    by : (b : Body) → count_by (confirms id) (filter is_payment bs) ≤ count_by (settles id) bs → count_by (confirms id) (filter is_payment (b ∷ bs)) ≤ count_by (settles id) (b ∷ bs)
    by (body.Confirmed checkout customer lines total) rest =
        omega (arith, rest, sum_by-cons (λ b. cond (confirms id b) 1 0) (body.Confirmed checkout customer lines total) (filter is_payment bs), sum_by-cons (λ b. cond (settles id b) 1 0) (body.Confirmed checkout customer lines total) bs)
    by other rest = omega (arith, rest, sum_by-cons (λ b. cond (settles id b) 1 0) other bs)

-- payments confirm a checkout once at most
pub confirms-few : (id : RequestId) (steps : List Step) → IsRunOf Role.Payment steps → count_by (confirms id) (made_on PAYMENT_TO_SHIPMENT steps) ≤ 1
confirms-few id steps run =
    subst (λ bs. count_by (confirms id) bs ≤ 1) (sym (payments-to-shipment steps run)) (omega (arith, confirms_le id (made_on PAYMENT_TO_STOCK steps), settles-few id steps run))

module _ (h : Histories) (event : Event) (lawful : IsLawful h) (t : TookAt h shipment_node event) where
  -- a payment
  pub shipment-confirmed : (checkout : RequestId) (customer : ℕ) (lines : List PricedLine) (total : ℕ) → event.body ≡ body.Confirmed checkout customer lines total
      → role_fits Role.Shipment (steps_at shipment_node t.before) (body.Confirmed checkout customer lines total) ≡ true
  shipment-confirmed checkout customer lines total is =
      ap not (none-taken h shipment_node event lawful t PAYMENT_TO_SHIPMENT payment_node refl (omega arith) (confirms checkout) (confirm-shipment checkout) (ap (confirms checkout) is ∙ same_id-self checkout) (confirms-few checkout))

  -- each body but a request
  pub shipment_fits_all : FitsBelow h t.clock → ((request : Request) → event.body ≡ body.Asked request → ⊥) → role_fits (role_at shipment_node) (steps_at shipment_node t.before) event.body ≡ true
  shipment_fits_all below other = by event.body refl
    where
      by : (b : Body) → event.body ≡ b → role_fits Role.Shipment (steps_at shipment_node t.before) b ≡ true
      by (body.Asked request) is = absurd (other request is)
      by (body.Confirmed checkout customer lines total) is = shipment-confirmed checkout customer lines total is
      by b is = absurd (never-came h shipment_node event t b is (omega arith) tt refl)
