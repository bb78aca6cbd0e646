-- What customers take fits: a checkout is settled once, and no item is delivered twice.
use Rattle.std.proofs.Common.{◌≡◌, ℕ, ◌≤◌, true, false, not, List, count_by, refl, ap, ◌∙◌, subst, arith}
use Rattle.market_amounts.specs.declared.keys.RequestId.{RequestId}
use Rattle.market_events.specs.declared.bodies.Body.{Body}
use Rattle.market_events.specs.declared.bodies.Body.TheVariants as body
use Rattle.market_events.specs.declared.bodies.Item.{Item}
use Rattle.market_events.specs.declared.bodies.PayRule.{PayRule}
use Rattle.market_events.specs.declared.bodies.PricedLine.{PricedLine}
use Rattle.market_events.specs.declared.events.Event.{Event}
use Rattle.market_events.specs.declared.requests.Request.{Request}
use Rattle.market_events.specs.Links.{payment_node, customer_node}
use Rattle.market_events.specs.declared.roles.Role.{Role}
use Rattle.market_events.specs.Services.{role_fits}
use Rattle.market_events.specs.Stocks.{settles, is_settled}
use Rattle.market_events.specs.declared.links.TheConstants.{PAYMENT_TO_CUSTOMER, SHIPMENT_TO_CUSTOMER}
use Rattle.market_events.proofs.Values.Same.{same_id-self}
use Rattle.market_history.specs.Blocks.{role_at}
use Rattle.market_history.specs.Histories.{Histories}
use Rattle.market_history.specs.Lawful.{IsLawful}
use Rattle.market_laws.specs.Cuts.{steps_at, TookAt, FitsBelow}
use Rattle.market_laws.specs.Runs.{is_delivery}
use Rattle.market_laws.proofs.Fits.KindsOnLinks.{never-came}
use Rattle.market_laws.proofs.Fits.ItemsApart.{apart-before}
use Rattle.market_laws.proofs.Fits.AloneOnLinks.{settle-customer, delivery-customer, came-alone, none-taken}
use Rattle.market_laws.proofs.Fits.Shipments.{settles-few}
use Rattle.market_laws.proofs.Runs.Apart.{items-once}
use Rattle.market_laws.proofs.Runs.Payments.{payments-to-customer}

module _ (h : Histories) (event : Event) (lawful : IsLawful h) (t : TookAt h customer_node event) where
  -- what settles a checkout that was not settled
  unsettled : (checkout : RequestId) → settles checkout event.body ≡ true → is_settled (steps_at customer_node t.before) checkout ≡ false
  unsettled checkout passes =
      none-taken h customer_node event lawful t PAYMENT_TO_CUSTOMER payment_node refl (omega arith) (settles checkout) (settle-customer checkout) passes
      (λ steps run. subst (λ bs. count_by (settles checkout) bs ≤ 1) (payments-to-customer steps run) (settles-few checkout steps run))

  -- a payment, and that there is none
  pub customer-confirmed : (checkout : RequestId) (customer : ℕ) (lines : List PricedLine) (total : ℕ) → event.body ≡ body.Confirmed checkout customer lines total
      → role_fits Role.Customer (steps_at customer_node t.before) (body.Confirmed checkout customer lines total) ≡ true
  customer-confirmed checkout customer lines total is = ap not (unsettled checkout (ap (settles checkout) is ∙ same_id-self checkout))

  pub customer-failed : (checkout : RequestId) (customer : ℕ) (rule : PayRule) → event.body ≡ body.Failed checkout customer rule
      → role_fits Role.Customer (steps_at customer_node t.before) (body.Failed checkout customer rule) ≡ true
  customer-failed checkout customer rule is = ap not (unsettled checkout (ap (settles checkout) is ∙ same_id-self checkout))

  -- a delivery
  pub customer-delivered : FitsBelow h t.clock → (items : List Item) → event.body ≡ body.Delivered items → role_fits Role.Customer (steps_at customer_node t.before) (body.Delivered items) ≡ true
  customer-delivered below items is =
      apart-before h customer_node event lawful t SHIPMENT_TO_CUSTOMER (came-alone h customer_node event t is_delivery SHIPMENT_TO_CUSTOMER delivery-customer (ap is_delivery is)) (omega arith) below refl items is items-once delivery-customer

  -- each body but a request
  pub customer_fits_all : FitsBelow h t.clock → ((request : Request) → event.body ≡ body.Asked request → ⊥) → role_fits (role_at customer_node) (steps_at customer_node t.before) event.body ≡ true
  customer_fits_all below other = by event.body refl
    where
      by : (b : Body) → event.body ≡ b → role_fits Role.Customer (steps_at customer_node t.before) b ≡ true
      by (body.Asked request) is = absurd (other request is)
      by (body.Confirmed checkout customer lines total) is = customer-confirmed checkout customer lines total is
      by (body.Failed checkout customer rule) is = customer-failed checkout customer rule is
      by (body.Delivered items) is = customer-delivered below items is
      by b is = absurd (never-came h customer_node event t b is (omega arith) tt refl)
