-- The cells that a body may change, by the steps before it.
use Rattle.std.proofs.Common.{◌≡◌, ℕ, ◌≤◌, Bool, true, false, cond, List, [], ◌∷◌, length, Option, Some, None, refl, ap, sym, ◌∙◌, arith, Result, Ok, Err, IfOk}
use Rattle.std.specs.List.{list_any, IsDistinct}
use Rattle.std.proofs.Math.Logic.{∥∥₁_elim}
use Rattle.std.specs.Coded.{le_prop}
use Rattle.std.proofs.lemmas.Bool.{or_parts, or_from, false_from_ne_true, both_ways}
use Rattle.market_amounts.specs.declared.keys.RequestId.{RequestId}
use Rattle.market_events.specs.declared.bodies.Body.{Body}
use Rattle.market_events.specs.declared.bodies.Body.TheVariants as body
use Rattle.market_events.specs.declared.bodies.Item.{Item}
use Rattle.market_events.specs.declared.cells.CellName.{CellName}
use Rattle.market_events.specs.declared.links.Link.{Link}
use Rattle.market_events.specs.declared.requests.Ask.{Ask}
use Rattle.market_events.specs.declared.requests.Ask.TheVariants as ask
use Rattle.market_events.specs.Cells.{cells_of}
use Rattle.market_events.specs.Copies.{last_some}
use Rattle.market_events.specs.Formed.{body_formed}
use Rattle.market_events.specs.Orders.{checkouts_taken}
use Rattle.market_events.specs.Requests.{same_id}
use Rattle.market_events.specs.Services.{IsRunOf, fits}
use Rattle.market_events.specs.Standing.{Stands, CanTake, with_step, step_of, same_name, is_named, value_of, may_change, most_by_ask, most_touched}
use Rattle.market_events.specs.Steps.{Step}
use Rattle.market_events.proofs.Runs.Bounds.{items_formed-most}
use Rattle.market_events.proofs.NamedCells.Named.{value_at, same_name-same}
use Rattle.market_events.proofs.NamedCells.Keyed.{alike, named_list, covers_told, none_some}
use Rattle.market_events.proofs.Runs.Orders.{is_item_for}
use Rattle.market_events.proofs.Values.Same.{same_id-true, same_id-swap}
use Rattle.market_events.proofs.Runs.Standing.{is_run_push, follows_step_of}
use Rattle.market_events.proofs.Steps.Taken.{Parts, fits-parts}
use Rattle.order_service.specs.declared.tables.Order.{Order}
use Rattle.order_service.specs.Cells.{name_by, text_by, checkout_changed}
use Rattle.order_service.specs.Tables.{with_delivered, order_after}
use Rattle.order_service.proofs.TableCells.{naming, texts_by, confirmed, order_cells-by, all_by, within_by}
use Rattle.order_service.proofs.Steps.{order_by-push}
use Rattle.order_service.proofs.Sums.{with_delivered-zero, item_count-none}
use Rattle.order_service.specs.Holds.{order_by, Holds}
use Rattle.market_events.specs.declared.roles.Role.{Role}

-- a name that is not among these has the same value after the step
covers : (steps : List Step) (from : Link) (b : Body) (names : List CellName) → IsRunOf Role.Order steps → fits Role.Order steps from b ≡ true
    → ((id : RequestId) → is_named names (name_by id) ≡ false → order_after (order_by steps) b id ≡ order_by steps id)
    → (name : CellName) → is_named names name ≡ false
    → value_of (cells_of Role.Order (with_step Role.Order steps from b)) name ≡ value_of (cells_of Role.Order steps) name
covers steps from b names run fit named name other =
    covers_told Role.Order steps after name
    (ap (last_some (value_at name)) (order_cells-by after)
    ∙ alike naming (texts_by after) (texts_by steps) (within_by after next) (within_by steps run) (confirmed (checkouts_taken after)) (confirmed (checkouts_taken steps)) (all_by after) (all_by steps) name (λ id small is.
    ap text_by (order_by-push steps (step_of Role.Order steps from b) run parts.due parts.formed id
    ∙ named id (sym (ap (is_named names) is) ∙ other)))
    ∙ sym (ap (last_some (value_at name)) (order_cells-by steps)))
  where
    after : List Step
    after = with_step Role.Order steps from b

    next : IsRunOf Role.Order after
    next = is_run_push Role.Order steps (step_of Role.Order steps from b) run (follows_step_of Role.Order steps from b fit)

    parts : Parts Role.Order steps from b
    parts = fits-parts Role.Order steps from b fit

-- a body that names another checkout, and one that names none
same_some : {A : Type 0} (x y : A) → Some x ≡ Some y → x ≡ y
same_some x y e = cc

kept_unless : (b : Bool) (new old : Option Order) → b ≡ false → cond b new old ≡ old
kept_unless true new old other = cc
kept_unless false new old other = refl

untouched : (orders : RequestId → Option Order) (b : Body) (checkout id : RequestId) → checkout_changed b ≡ Some checkout → same_id id checkout ≡ false → order_after orders b id ≡ orders id
untouched orders b checkout id is other = by b is
  where
    apart : (c : RequestId) → Some c ≡ Some checkout → same_id c id ≡ false
    apart c e = ap (λ c. same_id c id) (same_some c checkout e) ∙ same_id-swap checkout id ∙ other

    by : (b : Body) → checkout_changed b ≡ Some checkout → order_after orders b id ≡ orders id
    by (body.StockConfirmed c customer lines) is = kept_unless (same_id c id) _ (orders id) (apart c is)
    by (body.Confirmed c customer lines total) is = kept_unless (same_id c id) _ (orders id) (apart c is)
    by (body.Failed c customer reason) is = kept_unless (same_id c id) _ (orders id) (apart c is)
    by (body.Shipped c) is = kept_unless (same_id c id) _ (orders id) (apart c is)
    by (body.Delivered items) is = cc
    by other is = refl

untouched_all : (orders : RequestId → Option Order) (b : Body) (id : RequestId) → checkout_changed b ≡ None → ((items : List Item) → b ≡ body.Delivered items → ⊥) → order_after orders b id ≡ orders id
untouched_all orders (body.StockConfirmed c customer lines) id none other = cc
untouched_all orders (body.Confirmed c customer lines total) id none other = cc
untouched_all orders (body.Failed c customer reason) id none other = cc
untouched_all orders (body.Shipped c) id none other = cc
untouched_all orders (body.Delivered items) id none other = absurd (other items refl)
untouched_all orders b id none other = refl

-- a checkout whose name is not among those of items has none of them
named_items : (items : List Item) (id : RequestId) → list_any (λ (i : Item). same_name (name_by id) (name_by i.checkout)) items ≡ false
    → list_any (is_item_for id) items ≡ false
named_items [] id none = refl
named_items (i ∷ more) id none =
    let parts = or_parts (same_name (name_by id) (name_by i.checkout)) (list_any (λ (i : Item). same_name (name_by id) (name_by i.checkout)) more) none in
    or_from (same_id i.checkout id) (list_any (is_item_for id) more)
    (false_from_ne_true (same_id i.checkout id) (λ here. both_ways _ parts.0 (ap (λ n. same_name (name_by id) (name_by n)) (same_id-true i.checkout id here) ∙ same_name-same (name_by id))))
    (named_items more id parts.1)

-- one name, and none
pub one_differs : (name : CellName) → IsDistinct same_name (name ∷ [])
unfolding IsDistinct
one_differs name = (tt, tt)

pub none_differ : IsDistinct same_name []
unfolding IsDistinct
none_differ = tt

-- there may be one name at least
pub one_few : (b : Body) → 1 ≤ most_touched b
one_few (body.Delivered items) = omega arith
one_few (body.Asked request) = by request.ask
  where
    by : (a : Ask) → 1 ≤ most_by_ask a
    by ask.Deliver = omega arith
    by other = omega arith
one_few other = omega arith

-- what the names of a body cover
module _ (table : List (RequestId × Order)) (from : Link) (b : Body) where
  pub one_covers : (checkout : RequestId) (names : List CellName) → checkout_changed b ≡ Some checkout → names ≡ name_by checkout ∷ []
      → (steps : List Step) → Stands Role.Order Holds table steps → fits Role.Order steps from b ≡ true
      → (name : CellName) → is_named names name ≡ false
      → value_of (cells_of Role.Order (with_step Role.Order steps from b)) name ≡ value_of (cells_of Role.Order steps) name
  one_covers checkout names is are steps stands fit =
      covers steps from b names stands.run fit (λ id none.
      untouched (order_by steps) b checkout id is
      (or_parts (same_id id checkout) false (named_list naming (checkout ∷ []) id (sym (ap (λ ns. is_named ns (name_by id)) are) ∙ none))).0)

  pub none_covers : (names : List CellName) → checkout_changed b ≡ None → ((items : List Item) → b ≡ body.Delivered items → ⊥)
      → (steps : List Step) → Stands Role.Order Holds table steps → fits Role.Order steps from b ≡ true
      → (name : CellName) → is_named names name ≡ false
      → value_of (cells_of Role.Order (with_step Role.Order steps from b)) name ≡ value_of (cells_of Role.Order steps) name
  none_covers names is other steps stands fit =
      covers steps from b names stands.run fit (λ id none. untouched_all (order_by steps) b id is other)

  module _ {X Y : Type 0} (items : List Item) (is : b ≡ body.Delivered items) (names : X → List CellName) where
    pub delivered_covers : (r : Result X Y) → IfOk r (λ x. (name : CellName) → is_named (names x) name ≡ list_any (λ (i : Item). same_name name (name_by i.checkout)) items)
        → IfOk r (λ x. (steps : List Step) → Stands Role.Order Holds table steps → fits Role.Order steps from b ≡ true
        → (name : CellName) → is_named (names x) name ≡ false
        → value_of (cells_of Role.Order (with_step Role.Order steps from b)) name ≡ value_of (cells_of Role.Order steps) name)
    delivered_covers (Ok x) are = λ steps stands fit.
        covers steps from b (names x) stands.run fit (λ id none.
        ap (λ b. order_after (order_by steps) b id) is
        ∙ ap (λ n. with_delivered n (order_by steps id)) (item_count-none id (order_by steps id) items (named_items items id (sym (are (name_by id)) ∙ none)))
        ∙ sym (with_delivered-zero (order_by steps id)))
    delivered_covers (Err e) are = tt

    pub delivered_few : (r : Result X Y) (len : X → ℕ) → ((x : X) → len x ≡ length (names x)) → CanTake Role.Order Holds table from b
        → IfOk r (λ x. length (names x) ≤ length items) → IfOk r (λ x. len x ≤ most_touched b)
    delivered_few (Ok x) len same can few =
        ∥∥₁_elim can le_prop (λ it.
        omega (arith, same x, few, items_formed-most items (sym (ap body_formed is) ∙ (fits-parts Role.Order it.0 from b it.2).formed), ap most_touched is))
    delivered_few (Err e) len same can few = tt

-- an order that a body changes has its cell in a table that the body may change
pub touched : (b : Body) (checkout : RequestId) → checkout_changed b ≡ Some checkout → may_change Role.Order b (name_by checkout) ≡ true
touched (body.StockConfirmed id customer lines) checkout is = refl
touched (body.Confirmed id customer lines total) checkout is = refl
touched (body.Failed id customer rule) checkout is = refl
touched (body.Shipped id) checkout is = refl
touched other checkout is = absurd (none_some checkout is)

pub delivered_touched : (b : Body) (items : List Item) → b ≡ body.Delivered items → (checkout : RequestId) → may_change Role.Order b (name_by checkout) ≡ true
delivered_touched b items is checkout = ap (λ x. may_change Role.Order x (name_by checkout)) is
