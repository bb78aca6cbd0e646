-- Bounds on sums after a run, which the checks of numbers need.
use Rattle.std.proofs.Common.{◌≡◌, ℕ, ◌*◌, ◌≤◌, Bool, true, false, ◌&&◌, ◌==◌, List, [], ◌∷◌, ◌++◌, length, nat_le, refl, arith, length-append, leb-true}
use Rattle.std.specs.List.{list_all}
use Rattle.std.proofs.lemmas.List.Sums.{count_by-le-length}
use Rattle.market_events.specs.declared.bodies.Body.{Body}
use Rattle.market_events.specs.declared.bodies.Body.TheVariants as body
use Rattle.market_events.specs.declared.bodies.Item.{Item}
use Rattle.market_events.specs.declared.bodies.PricedLine.{PricedLine}
use Rattle.market_events.specs.Customers.{delivered_count}
use Rattle.market_events.specs.Formed.{line_formed, lines_formed, item_formed, items_formed, body_formed}
use Rattle.market_events.specs.Orders.{items_in}
use Rattle.market_events.specs.Services.{Role, Follows, IsRunOf}
use Rattle.market_events.specs.Steps.{Step}
use Rattle.market_events.specs.WellFormed.{most_lines, most_items, keys_rise}
use Rattle.market_events.proofs.Steps.Customers.{delivered_count-push}
use Rattle.market_events.proofs.Steps.Taken.{fits-parts, run_has}

-- well-formed lines are no more than there may be
pub lines_formed-most : (lines : List PricedLine) → lines_formed lines ≡ true → length lines ≤ most_lines
lines_formed-most lines formed = second (nat_le 1 (length lines)) (nat_le (length lines) most_lines) refl (list_all line_formed lines) (keys_rise lines) formed
  where
    second : (a b : Bool) → nat_le (length lines) most_lines ≡ b → (c d : Bool) → (a && b && c && d) ≡ true → length lines ≤ most_lines
    second true true is c d h = leb-true (length lines) most_lines is
    second true false is c d h = cc
    second false b is c d h = cc

-- well-formed items are no more than there may be
pub items_formed-most : (items : List Item) → items_formed items ≡ true → length items ≤ most_items
items_formed-most items formed = second (nat_le 1 (length items)) (nat_le (length items) most_items) refl (list_all item_formed items) formed
  where
    second : (a b : Bool) → nat_le (length items) most_items ≡ b → (c : Bool) → (a && b && c) ≡ true → length items ≤ most_items
    second true true is c h = leb-true (length items) most_items is
    second true false is c h = cc
    second false b is c h = cc

-- a well-formed body has no more items than there may be
items_in-most : (b : Body) → body_formed b ≡ true → length (items_in b) ≤ most_items
items_in-most (body.Delivered items) formed = items_formed-most items formed
items_in-most (body.Changed key version change) formed = omega arith
items_in-most (body.Reserve checkout customer lines) formed = omega arith
items_in-most (body.ReserveFailed checkout key reason) formed = omega arith
items_in-most (body.StockConfirmed checkout customer lines) formed = omega arith
items_in-most (body.Invoice checkout customer lines total) formed = omega arith
items_in-most (body.Confirmed checkout customer lines total) formed = omega arith
items_in-most (body.Ended checkout ending) formed = omega arith
items_in-most (body.Failed checkout customer reason) formed = omega arith
items_in-most (body.Shipped checkout) formed = omega arith
items_in-most (body.Asked request) formed = omega arith
items_in-most (body.Told id reply) formed = omega arith

-- after a run of customers, a customer has no more packages than so many for each step
pub delivered_count-few : (steps : List Step) → IsRunOf Role.Customer steps → (customer : ℕ) → delivered_count steps customer ≤ most_items * length steps
delivered_count-few steps run customer = run_has Role.Customer (λ steps. delivered_count steps customer ≤ most_items * length steps) more (omega arith) steps run
  where
    more : (steps : List Step) (s : Step) → Follows Role.Customer steps s → delivered_count steps customer ≤ most_items * length steps → delivered_count (steps ++ s ∷ []) customer ≤ most_items * length (steps ++ s ∷ [])
    more steps s follows few =
        omega (arith, few, delivered_count-push steps s customer, length-append steps (s ∷ []), count_by-le-length (λ (i : Item). i.customer == customer) (items_in s.body), items_in-most s.body (fits-parts Role.Customer steps s.from s.body follows.fit).formed)
