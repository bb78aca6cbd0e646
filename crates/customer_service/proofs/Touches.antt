-- The cells that a body may change, by the steps before it.
use Rattle.std.proofs.Common.{◌≡◌, ℕ, ◌+◌, ◌≤◌, true, false, cond, not, ◌==◌, List, [], ◌∷◌, length, map, refl, ap, sym, ◌∙◌, arith, Result, Ok, Err, IfOk, ◌⊎◌, inl, inr}
use Rattle.std.specs.List.{list_any, count_by, IsDistinct}
use Rattle.std.proofs.lemmas.Bool.{or_parts, or_from, eqb-true, false_from_ne_true, both_ways}
use Rattle.std.proofs.lemmas.Bool.Decides.{nat_tests}
use Rattle.market_events.specs.declared.bodies.Body.{Body}
use Rattle.market_events.specs.declared.bodies.Body.TheVariants as body
use Rattle.market_events.specs.declared.bodies.Item.{Item}
use Rattle.market_events.specs.declared.bodies.PayRule.{PayRule}
use Rattle.market_events.specs.declared.bodies.PricedLine.{PricedLine}
use Rattle.market_amounts.specs.declared.keys.RequestId.{RequestId}
use Rattle.market_events.specs.declared.cells.CellName.{CellName}
use Rattle.market_events.specs.declared.links.Link.{Link}
use Rattle.market_events.specs.Cells.{cells_of, customers_in}
use Rattle.market_events.specs.Copies.{last_some}
use Rattle.market_events.specs.Customers.{confirms_for, fails_for}
use Rattle.market_events.specs.Orders.{items_in}
use Rattle.market_events.specs.Services.{IsRunOf, fits}
use Rattle.market_events.specs.Standing.{Stands, CanTake, with_step, step_of, same_name, is_named, value_of, may_change, most_touched}
use Rattle.market_events.specs.Steps.{Step}
use Rattle.market_events.proofs.NamedCells.Named.{value_at, same_name-same}
use Rattle.market_events.proofs.NamedCells.Keyed.{alike, named_list, covers_told}
use Rattle.market_events.proofs.Runs.Standing.{is_run_push, follows_step_of}
use Rattle.customer_service.specs.declared.tables.Tally.{Tally}
use Rattle.customer_service.specs.Cells.{name_by, text_by}
use Rattle.customer_service.proofs.Steps.{tally_after, tally_by-push}
use Rattle.customer_service.specs.Holds.{tally_by, Holds}
use Rattle.customer_service.proofs.TableCells.{texts_by, customer_cells-by, within_by, all_by}
use Rattle.customer_service.proofs.Taken.{customers_taken, nothing_in, nothing_of, of_customer}
use Rattle.customer_service.proofs.Counts.{items_within}
use Rattle.customer_service.proofs.Texts.{is_among, naming}
use Rattle.market_events.specs.declared.roles.Role.{Role}

-- a customer who is not among those of a body is counted as before
tally_after-other : (b : Body) (c : ℕ) (t : Tally) → is_among (customers_in b) c ≡ false → tally_after b c t ≡ t
tally_after-other b c t other =
    zero (cond (confirms_for c b) 1 0) (cond (fails_for c b) 1 0) (count_by (of_customer c) (items_in b)) (nothing_in b c ∙ ap not other)
  where
    zero : (x y z : ℕ) → nothing_of x y z ≡ true → (let u : Tally = record { confirmed = t.confirmed + x; failed = t.failed + y; delivered = t.delivered + z } in u ≡ t)
    zero x y z none = grind (arith, nat_tests)

-- a name that is not among these has the same value after the step
pub covers : (steps : List Step) (from : Link) (b : Body) (names : List CellName) → IsRunOf Role.Customer steps → fits Role.Customer steps from b ≡ true
    → ((c : ℕ) → is_named names (name_by c) ≡ false → is_among (customers_in b) c ≡ false)
    → (name : CellName) → is_named names name ≡ false
    → value_of (cells_of Role.Customer (with_step Role.Customer steps from b)) name ≡ value_of (cells_of Role.Customer steps) name
covers steps from b names run fit named name other =
    covers_told Role.Customer steps after name
    (ap (last_some (value_at name)) (customer_cells-by after)
    ∙ alike naming (texts_by after) (texts_by steps) (within_by after next) (within_by steps run) (customers_taken after) (customers_taken steps) (all_by after) (all_by steps) name (λ c small is.
    ap text_by (tally_by-push steps (step_of Role.Customer steps from b) c
    ∙ tally_after-other b c (tally_by steps c) (named c (sym (ap (is_named names) is) ∙ other))))
    ∙ sym (ap (last_some (value_at name)) (customer_cells-by steps)))
  where
    after : List Step
    after = with_step Role.Customer steps from b

    next : IsRunOf Role.Customer after
    next = is_run_push Role.Customer steps (step_of Role.Customer steps from b) run (follows_step_of Role.Customer steps from b fit)

-- a customer whose name is not among those of items is not among their customers
named_items : (items : List Item) (c : ℕ) → list_any (λ (i : Item). same_name (name_by c) (name_by i.customer)) items ≡ false
    → is_among (map (λ (i : Item). i.customer) items) c ≡ false
named_items [] c none = refl
named_items (i ∷ more) c none =
    let parts = or_parts (same_name (name_by c) (name_by i.customer)) (list_any (λ (i : Item). same_name (name_by c) (name_by i.customer)) more) none in
    or_from (c == i.customer) (is_among (map (λ (i : Item). i.customer) more) c)
    (false_from_ne_true (c == i.customer) (λ here. both_ways _ parts.0 (ap (λ n. same_name (name_by n) (name_by i.customer)) (eqb-true c i.customer here) ∙ same_name-same (name_by i.customer))))
    (named_items more c parts.1)

-- one name, and none
pub one_differs : (name : CellName) → IsDistinct same_name (name ∷ [])
unfolding IsDistinct
one_differs name = (tt, tt)

pub none_differ : IsDistinct same_name []
unfolding IsDistinct
none_differ = tt

-- the customers of a payment, and of a body of another kind
pub paying : (b : Body) (customer : ℕ)
    → ((checkout : RequestId) × (lines : List PricedLine) × (total : ℕ) × (b ≡ body.Confirmed checkout customer lines total)) ⊎ ((checkout : RequestId) × (rule : PayRule) × (b ≡ body.Failed checkout customer rule))
    → customers_in b ≡ customer ∷ []
paying b customer (inl it) = ap customers_in it.3
paying b customer (inr it) = ap customers_in it.2

pub paying_touched : (b : Body) (customer : ℕ)
    → ((checkout : RequestId) × (lines : List PricedLine) × (total : ℕ) × (b ≡ body.Confirmed checkout customer lines total)) ⊎ ((checkout : RequestId) × (rule : PayRule) × (b ≡ body.Failed checkout customer rule))
    → may_change Role.Customer b (name_by customer) ≡ true
paying_touched b customer (inl it) = ap (λ x. may_change Role.Customer x (name_by customer)) it.3
paying_touched b customer (inr it) = ap (λ x. may_change Role.Customer x (name_by customer)) it.2

pub no_customers : (b : Body)
    → ((checkout : RequestId) (customer : ℕ) (lines : List PricedLine) (total : ℕ) → b ≡ body.Confirmed checkout customer lines total → ⊥)
    → ((checkout : RequestId) (customer : ℕ) (rule : PayRule) → b ≡ body.Failed checkout customer rule → ⊥)
    → ((items : List Item) → b ≡ body.Delivered items → ⊥)
    → customers_in b ≡ []
no_customers (body.Confirmed checkout customer lines total) confirmed failed delivered = absurd (confirmed checkout customer lines total refl)
no_customers (body.Failed checkout customer rule) confirmed failed delivered = absurd (failed checkout customer rule refl)
no_customers (body.Delivered items) confirmed failed delivered = absurd (delivered items refl)
no_customers (body.Asked request) confirmed failed delivered = refl
no_customers (body.Changed key version change) confirmed failed delivered = refl
no_customers (body.Reserve checkout customer lines) confirmed failed delivered = refl
no_customers (body.ReserveFailed checkout key rule) confirmed failed delivered = refl
no_customers (body.StockConfirmed checkout customer lines) confirmed failed delivered = refl
no_customers (body.Invoice checkout customer lines total) confirmed failed delivered = refl
no_customers (body.Ended checkout ending) confirmed failed delivered = refl
no_customers (body.Shipped checkout) confirmed failed delivered = refl
no_customers (body.Told id reply) confirmed failed delivered = refl

-- what the names of a delivery are
module _ {X Y : Type 0} (table : List (ℕ × Tally)) (from : Link) (b : Body) (items : List Item) (is : b ≡ body.Delivered items) (names : X → List CellName) where
  pub delivered_covers : (r : Result X Y) → IfOk r (λ x. (name : CellName) → is_named (names x) name ≡ list_any (λ (i : Item). same_name name (name_by i.customer)) items)
      → IfOk r (λ x. (steps : List Step) → Stands Role.Customer Holds table steps → fits Role.Customer steps from b ≡ true
      → (name : CellName) → is_named (names x) name ≡ false
      → value_of (cells_of Role.Customer (with_step Role.Customer steps from b)) name ≡ value_of (cells_of Role.Customer steps) name)
  delivered_covers (Ok x) are = λ steps stands fit.
      covers steps from b (names x) stands.run fit (λ c none. ap (λ cs. is_among cs c) (ap customers_in is) ∙ named_items items c (sym (are (name_by c)) ∙ none))
  delivered_covers (Err e) are = tt

  pub delivered_few : (r : Result X Y) (len : X → ℕ) → ((x : X) → len x ≡ length (names x)) → CanTake Role.Customer Holds table from b
      → IfOk r (λ x. length (names x) ≤ length items) → IfOk r (λ x. len x ≤ most_touched b)
  delivered_few (Ok x) len same can few = omega (arith, same x, few, items_within table from b can items is, ap most_touched is)
  delivered_few (Err e) len same can few = tt

pub one_covers : (table : List (ℕ × Tally)) (from : Link) (b : Body) (customer : ℕ) (names : List CellName) → customers_in b ≡ customer ∷ [] → names ≡ name_by customer ∷ []
    → (steps : List Step) → Stands Role.Customer Holds table steps → fits Role.Customer steps from b ≡ true
    → (name : CellName) → is_named names name ≡ false
    → value_of (cells_of Role.Customer (with_step Role.Customer steps from b)) name ≡ value_of (cells_of Role.Customer steps) name
one_covers table from b customer names is are steps stands fit =
    covers steps from b names stands.run fit (λ c none. ap (λ cs. is_among cs c) is ∙ named_list naming (customer ∷ []) c (sym (ap (λ ns. is_named ns (name_by c)) are) ∙ none))

pub none_covers : (table : List (ℕ × Tally)) (from : Link) (b : Body) (names : List CellName) → customers_in b ≡ []
    → (steps : List Step) → Stands Role.Customer Holds table steps → fits Role.Customer steps from b ≡ true
    → (name : CellName) → is_named names name ≡ false
    → value_of (cells_of Role.Customer (with_step Role.Customer steps from b)) name ≡ value_of (cells_of Role.Customer steps) name
none_covers table from b names is steps stands fit =
    covers steps from b names stands.run fit (λ c none. ap (λ cs. is_among cs c) is)
