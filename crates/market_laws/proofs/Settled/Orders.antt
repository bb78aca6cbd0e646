-- In settled histories the order of a checkout: it is shipped or delivered where it was paid for (order-whole), cancelled where
-- it was not (order-cancelled), and there is none where it is not held (order-none).
use Rattle.std.proofs.Common.{◌≡◌, ℕ, Bool, true, false, not, Option, Some, None, if◌then◌else◌, ◌⊎◌, inl, inr, refl, ◌∙◌, arith}
use Rattle.std.specs.List.{list_any}
use Rattle.market_amounts.specs.declared.keys.RequestId.{RequestId}
use Rattle.market_events.specs.declared.replies.OrderStatus.{OrderStatus}
use Rattle.market_events.specs.declared.replies.OrderStatus.TheVariants as status
use Rattle.market_events.specs.Links.{order_node}
use Rattle.market_events.specs.Orders.{checkouts_taken, is_of, is_nil, is_taken, open_lines, order_status, ships}
use Rattle.market_events.specs.Steps.{taken_bodies}
use Rattle.market_events.specs.Stocks.{confirms, fails}
use Rattle.market_events.proofs.Values.Lists.{any-none}
use Rattle.market_history.specs.Histories.{Histories}
use Rattle.market_history.specs.Lawful.{IsLawful}
use Rattle.market_history.specs.Outstanding.{IsSettled}
use Rattle.market_laws.specs.Runs.{holds_pieces}
use Rattle.market_laws.proofs.Fits.RepliesOnce.{any-counted}
use Rattle.market_laws.proofs.Runs.Orders.{has_order-held}
use Rattle.market_laws.proofs.Settled.Counts.{steps_now, held-orders, failed-orders, shipped-orders}
use Rattle.market_laws.proofs.Settled.Ways.{Counts}

-- the status by its tests
abbrev by_tests : Bool → Bool → Bool → Bool → Bool → Option OrderStatus
by_tests has failed closed shipped paid =
    if not has then None
    else if failed then Some status.Cancelled
    else if closed then Some status.Delivered
    else if shipped then Some status.Shipped
    else if paid then Some status.Paid
    else Some status.Invoiced

whole_by : (has failed closed shipped paid : Bool) → has ≡ true → failed ≡ false → shipped ≡ true → (by_tests has failed closed shipped paid ≡ Some status.Shipped) ⊎ (by_tests has failed closed shipped paid ≡ Some status.Delivered)
whole_by false failed closed shipped paid h f s = let no : ⊥ = cc in absurd no
whole_by true true closed shipped paid h f s = let no : ⊥ = cc in absurd no
whole_by true false true shipped paid h f s = inr refl
whole_by true false false true paid h f s = inl refl
whole_by true false false false paid h f s = let no : ⊥ = cc in absurd no

cancelled_by : (has failed closed shipped paid : Bool) → has ≡ true → failed ≡ true → by_tests has failed closed shipped paid ≡ Some status.Cancelled
cancelled_by true true closed shipped paid h f = refl
cancelled_by true false closed shipped paid h f = cc
cancelled_by false failed closed shipped paid h f = cc

none_by : (has failed closed shipped paid : Bool) → has ≡ false → by_tests has failed closed shipped paid ≡ None
none_by false failed closed shipped paid h = refl
none_by true failed closed shipped paid h = cc

module _ (h : Histories) (lawful : IsLawful h) (settled : IsSettled h) (c : RequestId) where
  -- it has an order where stock holds it
  has_order : {paid failed : ℕ} → Counts h lawful c 1 paid failed → list_any (is_of c) (checkouts_taken (steps_now h lawful order_node)) ≡ true
  has_order n =
      has_order-held c (taken_bodies (steps_now h lawful order_node)) ∙ any-counted (holds_pieces c) (taken_bodies (steps_now h lawful order_node)) (omega (arith, held-orders h lawful settled c, n.held_is))

  pub order-whole : Counts h lawful c 1 1 0 → (order_status (steps_now h lawful order_node) c ≡ Some status.Shipped) ⊎ (order_status (steps_now h lawful order_node) c ≡ Some status.Delivered)
  order-whole n =
      let steps = steps_now h lawful order_node in
      let unfailed = any-none (fails c) (taken_bodies steps) (omega (arith, failed-orders h lawful settled c, n.failed_is)) in
      let shipped = any-counted (ships c) (taken_bodies steps) (omega (arith, shipped-orders h lawful settled c, n.paid_is)) in
      whole_by (list_any (is_of c) (checkouts_taken steps)) (is_taken fails steps c) (is_nil (open_lines steps c)) (is_taken ships steps c) (is_taken confirms steps c) (has_order n) unfailed shipped

  pub order-cancelled : Counts h lawful c 1 0 1 → order_status (steps_now h lawful order_node) c ≡ Some status.Cancelled
  order-cancelled n =
      let steps = steps_now h lawful order_node in
      let failed = any-counted (fails c) (taken_bodies steps) (omega (arith, failed-orders h lawful settled c, n.failed_is)) in
      cancelled_by (list_any (is_of c) (checkouts_taken steps)) (is_taken fails steps c) (is_nil (open_lines steps c)) (is_taken ships steps c) (is_taken confirms steps c) (has_order n) failed

  pub order-none : Counts h lawful c 0 0 0 → order_status (steps_now h lawful order_node) c ≡ None
  order-none n =
      let steps = steps_now h lawful order_node in
      let none = has_order-held c (taken_bodies steps) ∙ any-none (holds_pieces c) (taken_bodies steps) (omega (arith, held-orders h lawful settled c, n.held_is)) in
      none_by (list_any (is_of c) (checkouts_taken steps)) (is_taken fails steps c) (is_nil (open_lines steps c)) (is_taken ships steps c) (is_taken confirms steps c) none
