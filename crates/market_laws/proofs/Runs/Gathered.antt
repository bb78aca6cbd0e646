-- What the services make in the order in which they take it: orders invoice what stock holds (invoices-held) and end what was not
-- paid (ends-failed), carts tell it (told-unpaid), and shipments ship what was paid (ships-paid).
use Rattle.std.proofs.Common.{◌≡◌, ℕ, Bool, true, false, ◌&&◌, not, cond, List, [], ◌∷◌, ◌++◌, Option, Some, None, length, nat_le, filter_map, refl, ap, sym, ◌∙◌}
use Rattle.std.specs.List.{cons_option}
use Rattle.std.proofs.lemmas.List.Elements.{filter_map-append}
use Rattle.market_amounts.specs.declared.keys.ProductKey.{ProductKey}
use Rattle.market_amounts.specs.declared.keys.RequestId.{RequestId}
use Rattle.market_events.specs.declared.bodies.Body.{Body}
use Rattle.market_events.specs.declared.bodies.Body.TheVariants as body
use Rattle.market_events.specs.declared.bodies.Ending.TheVariants as ending
use Rattle.market_events.specs.declared.bodies.Item.{Item}
use Rattle.market_events.specs.declared.bodies.PayRule.TheVariants as pay
use Rattle.market_events.specs.declared.bodies.StockRule.TheVariants as stock
use Rattle.market_events.specs.declared.changes.Look.{Look}
use Rattle.market_events.specs.declared.changes.Look.TheVariants.{Unknown, Gone, Live}
use Rattle.market_events.specs.declared.links.TheConstants.{ORDER_TO_PAYMENT, ORDER_TO_CART}
use Rattle.market_events.specs.declared.links.TheConstants.{SHIPMENT_TO_ORDER}
use Rattle.market_events.specs.declared.replies.Reply.TheVariants as reply
use Rattle.market_events.specs.declared.replies.Rule.TheVariants as rule
use Rattle.market_events.specs.declared.replies.UndoneRule.TheVariants as undone
use Rattle.market_events.specs.declared.requests.Ask.{Ask}
use Rattle.market_events.specs.declared.requests.Ask.TheVariants as ask
use Rattle.market_events.specs.Carts.{Held, CartSums, cart_sums, cart_asked, cart_rows, checkout_rows, first_gone, has_key, line_rows, remove_rows, view_rows}
use Rattle.market_events.specs.Links.{cart_node}
use Rattle.market_events.specs.Orders.{OrderSums, order_sums, order_rows}
use Rattle.market_events.specs.declared.roles.Role.{Role}
use Rattle.market_events.specs.Services.{Follows, IsRunOf}
use Rattle.market_events.specs.Shipments.{ShipmentSums, shipment_sums, shipment_asked, shipment_rows, delivered_of, deliver_rows, oldest_of}
use Rattle.market_events.specs.Steps.{Step, Sending, taken_bodies, made_in, made_on, told, refused}
use Rattle.market_events.specs.Stocks.{reservation_in}
use Rattle.market_events.specs.WellFormed.{most_lines}
use Rattle.market_events.specs.declared.links.Link.{Link}
use Rattle.market_laws.proofs.Runs.Orders.{quiet-order}
use Rattle.market_events.proofs.Runs.Carts.{answers-cart}
use Rattle.market_events.proofs.Runs.Orders.{answers-order}
use Rattle.market_events.proofs.Steps.SellerEntries.{invoice_in}
use Rattle.market_events.proofs.Steps.Shipments.{answers-shipment}
use Rattle.market_events.proofs.Steps.Taken.{taken_bodies-push, made_in-push, run_has}
use Rattle.market_laws.proofs.Runs.PaymentOutcomes.{failed_in}
use Rattle.market_laws.proofs.Runs.Counts.{on, Joining, joining-on}

-- where each step makes what it takes, what is made is what is taken
pub made-gathered : {B : Type 0} (role : Role) (f : List Sending → List B) (g : Body → Option B) → Joining f → ((before : List Step) (s : Step) → Follows role before s → f s.made ≡ cons_option (g s.body) [])
    → (steps : List Step) → IsRunOf role steps → f (made_in steps) ≡ filter_map g (taken_bodies steps)
made-gathered role f g joining each steps run = run_has role (λ steps. f (made_in steps) ≡ filter_map g (taken_bodies steps)) keeps joining.none steps run
  where
    keeps : (before : List Step) (s : Step) → Follows role before s → f (made_in before) ≡ filter_map g (taken_bodies before) → f (made_in (before ++ s ∷ [])) ≡ filter_map g (taken_bodies (before ++ s ∷ []))
    keeps before s follows same =
        ap f (made_in-push before s) ∙ joining.joins (made_in before) s.made ∙ (λ i. same i ++ each before s follows i)
        ∙ sym (ap (filter_map g) (taken_bodies-push before s) ∙ filter_map-append g (taken_bodies before) (s.body ∷ []))

-- of a link alone
joining-gathered : {B : Type 0} (link : Link) (f : Body → Option B) → Joining (λ made. filter_map f (on link made))
joining-gathered link f = record {
  none = refl;
  joins = λ xs ys. ap (filter_map f) ((joining-on link).joins xs ys) ∙ filter_map-append f (on link xs) (on link ys);
}

pub invoices-held : (steps : List Step) → IsRunOf Role.Order steps → filter_map invoice_in (made_on ORDER_TO_PAYMENT steps) ≡ filter_map reservation_in (taken_bodies steps)
invoices-held =
    made-gathered Role.Order (λ made. filter_map invoice_in (on ORDER_TO_PAYMENT made)) reservation_in (joining-gathered ORDER_TO_PAYMENT invoice_in)
    (λ before s follows. ap (λ made. filter_map invoice_in (on ORDER_TO_PAYMENT made)) (follows.made ∙ answers-order before s.from s.body) ∙ each (order_sums before) s.body)
  where
    each : (s : OrderSums) (b : Body) → filter_map invoice_in (on ORDER_TO_PAYMENT (order_rows s b)) ≡ cons_option (reservation_in b) []
    each s (body.Asked request) = ap (filter_map invoice_in) (quiet-order ORDER_TO_PAYMENT tt s request.id request.ask)
    each s other = refl

-- the checkout whose order ended with no payment
abbrev pub ended_unpaid : Body → Option RequestId
ended_unpaid (body.Ended checkout (ending.Undone rule)) = Some checkout
ended_unpaid other = None

pub ends-failed : (steps : List Step) → IsRunOf Role.Order steps → filter_map ended_unpaid (made_on ORDER_TO_CART steps) ≡ filter_map failed_in (taken_bodies steps)
ends-failed =
    made-gathered Role.Order (λ made. filter_map ended_unpaid (on ORDER_TO_CART made)) failed_in (joining-gathered ORDER_TO_CART ended_unpaid)
    (λ before s follows. ap (λ made. filter_map ended_unpaid (on ORDER_TO_CART made)) (follows.made ∙ answers-order before s.from s.body) ∙ each (order_sums before) s.body)
  where
    each : (s : OrderSums) (b : Body) → filter_map ended_unpaid (on ORDER_TO_CART (order_rows s b)) ≡ cons_option (failed_in b) []
    each s (body.Asked request) = ap (filter_map ended_unpaid) (quiet-order ORDER_TO_CART tt s request.id request.ask)
    each s other = refl

-- the checkout that is told that it was not paid
abbrev pub told_unpaid : Sending → Option RequestId
told_unpaid (link, body.Told id (reply.Undone undone.NoCard)) = Some id
told_unpaid (link, body.Told id (reply.Undone undone.OverLimit)) = Some id
told_unpaid other = None

joining-told : Joining (filter_map told_unpaid)
joining-told = record { none = refl; joins = filter_map-append told_unpaid }

pub told-unpaid : (steps : List Step) → IsRunOf Role.Cart steps → filter_map told_unpaid (made_in steps) ≡ filter_map ended_unpaid (taken_bodies steps)
told-unpaid =
    made-gathered Role.Cart (filter_map told_unpaid) ended_unpaid joining-told
    (λ before s follows. ap (filter_map told_unpaid) (follows.made ∙ answers-cart before s.from s.body) ∙ each (cart_sums before) s.body)
  where
    view : (id : RequestId) (look : Look) → filter_map told_unpaid (view_rows id look) ≡ []
    view id Unknown = refl
    view id (Gone v) = refl
    view id (Live v price freight) = refl

    line : (id : RequestId) (key : ProductKey) (quantity : ℕ) (look : Look) (basket : List (ProductKey × Held)) → filter_map told_unpaid (line_rows id key quantity look basket) ≡ []
    line id key quantity Unknown basket = refl
    line id key quantity (Gone v) basket = refl
    line id key quantity (Live v price freight) basket = by (nat_le most_lines (length basket) && not (has_key basket key))
      where
        by : (full : Bool) → filter_map told_unpaid (cond full (refused cart_node id rule.CartFull) (told cart_node id (reply.Line quantity) ∷ [])) ≡ []
        by true = refl
        by false = refl

    remove : (id : RequestId) (key : ProductKey) (basket : List (ProductKey × Held)) → filter_map told_unpaid (remove_rows id key basket) ≡ []
    remove id key basket = by (has_key basket key)
      where
        by : (has : Bool) → filter_map told_unpaid (cond has (told cart_node id reply.Removed ∷ []) (refused cart_node id rule.NoLine)) ≡ []
        by true = refl
        by false = refl

    checkout : (id : RequestId) (customer : ℕ) (look : ProductKey → Look) (basket : List (ProductKey × Held)) (lacking : Option ProductKey) → filter_map told_unpaid (checkout_rows id customer look basket lacking) ≡ []
    checkout id customer look [] lacking = refl
    checkout id customer look (e ∷ es) (Some key) = refl
    checkout id customer look (e ∷ es) None = refl

    asked : (s : CartSums) (id : RequestId) (a : Ask) → filter_map told_unpaid (cart_asked s id a) ≡ []
    asked s id (ask.View key) = view id (s.look key)
    asked s id (ask.Line customer key quantity voucher) = line id key quantity (s.look key) (s.basket customer)
    asked s id (ask.Remove customer key) = remove id key (s.basket customer)
    asked s id (ask.Checkout customer) = checkout id customer s.look (s.basket customer) (first_gone s.look (s.basket customer))
    asked s id other = refl

    each : (s : CartSums) (b : Body) → filter_map told_unpaid (cart_rows s b) ≡ cons_option (ended_unpaid b) []
    each s (body.Asked request) = asked s request.id request.ask
    each s (body.ReserveFailed id key stock.Gone) = refl
    each s (body.ReserveFailed id key stock.Short) = refl
    each s (body.Ended id (ending.Whole total)) = refl
    each s (body.Ended id (ending.Undone pay.NoCard)) = refl
    each s (body.Ended id (ending.Undone pay.OverLimit)) = refl
    each s other = refl

-- the checkout that was paid, and that is shipped
abbrev pub paid_id : Body → Option RequestId
paid_id (body.Confirmed checkout customer lines total) = Some checkout
paid_id other = None

abbrev pub shipped_in : Body → Option RequestId
shipped_in (body.Shipped checkout) = Some checkout
shipped_in other = None

pub ships-paid : (steps : List Step) → IsRunOf Role.Shipment steps → filter_map shipped_in (made_on SHIPMENT_TO_ORDER steps) ≡ filter_map paid_id (taken_bodies steps)
ships-paid =
    made-gathered Role.Shipment (λ made. filter_map shipped_in (on SHIPMENT_TO_ORDER made)) paid_id (joining-gathered SHIPMENT_TO_ORDER shipped_in)
    (λ before s follows. ap (λ made. filter_map shipped_in (on SHIPMENT_TO_ORDER made)) (follows.made ∙ answers-shipment before s.from s.body) ∙ each (shipment_sums before) s.body)
  where
    deliver : (id : RequestId) (items : List Item) (sellers : ℕ) → filter_map shipped_in (on SHIPMENT_TO_ORDER (deliver_rows id items sellers)) ≡ []
    deliver id [] sellers = refl
    deliver id (i ∷ items) sellers = refl

    asked : (s : ShipmentSums) (id : RequestId) (a : Ask) → filter_map shipped_in (on SHIPMENT_TO_ORDER (shipment_asked s id a)) ≡ []
    asked s id ask.Deliver = deliver id (delivered_of s.waiting) (length (oldest_of s.waiting))
    asked s id other = refl

    each : (s : ShipmentSums) (b : Body) → filter_map shipped_in (on SHIPMENT_TO_ORDER (shipment_rows s b)) ≡ cons_option (paid_id b) []
    each s (body.Asked request) = asked s request.id request.ask
    each s other = refl
