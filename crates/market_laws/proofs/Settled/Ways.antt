-- In settled histories a checkout went one of three ways: it is not held (counts-early, counts-refused), it is held and paid for
-- (counts-whole), or it is held and was not paid for (counts-failed). Each of these counts is 0 or 1.
use Rattle.std.proofs.Common.{◌≡◌, ℕ, ◌≤◌, Bool, true, List, count_by, refl, arith}
use Rattle.market_amounts.specs.declared.keys.ProductKey.{ProductKey}
use Rattle.market_amounts.specs.declared.keys.RequestId.{RequestId}
use Rattle.market_events.specs.declared.bodies.Body.{Body}
use Rattle.market_events.specs.declared.bodies.Body.TheVariants as body
use Rattle.market_events.specs.declared.bodies.Ending.TheVariants as ending
use Rattle.market_events.specs.declared.bodies.PayRule.{PayRule}
use Rattle.market_events.specs.declared.bodies.StockRule.{StockRule}
use Rattle.market_events.specs.Links.{cart_node, stock_node, order_node, payment_node}
use Rattle.market_events.specs.Orders.{order_total, ships}
use Rattle.market_events.specs.declared.roles.Role.{Role}
use Rattle.market_events.specs.Services.{reserves}
use Rattle.market_events.specs.Steps.{taken_bodies, made_on}
use Rattle.market_events.specs.Stocks.{confirms, fails}
use Rattle.market_events.specs.declared.links.TheConstants.{CART_TO_STOCK, STOCK_TO_ORDER, ORDER_TO_CART}
use Rattle.market_events.specs.declared.links.TheConstants.{PAYMENT_TO_STOCK}
use Rattle.market_events.proofs.Values.Lists.{count-some}
use Rattle.market_events.proofs.Values.Same.{same_id-self}
use Rattle.market_history.specs.Histories.{Histories, journal_at}
use Rattle.market_history.specs.Lawful.{IsLawful}
use Rattle.market_history.specs.Outstanding.{IsSettled}
use Rattle.market_laws.specs.Runs.{Member, holds_pieces}
use Rattle.market_laws.proofs.Origins.Cuts.{any_of_member}
use Rattle.market_laws.proofs.Origins.Made.{steps-run}
use Rattle.market_laws.proofs.Runs.Cart.{sent-le-asked}
use Rattle.market_laws.proofs.Runs.Orders.{undone-failed, whole-shipped}
use Rattle.market_laws.proofs.Runs.ToldOnce.{asked-once}
use Rattle.market_laws.proofs.Settled.Counts.{steps_now, refuses, finishes, finishes-come, sent-on, held-settled, failed-orders, shipped-orders, refused-cart}
use Rattle.market_laws.proofs.Settled.Links.{member-made}

-- a member that passes is counted
pub counted : {A : Type 0} (test : A → Bool) (x : A) (xs : List A) → Member x xs → test x ≡ true → 1 ≤ count_by test xs
counted test x xs here passes = count-some test xs (any_of_member test x xs here passes)

-- how often the checkout is held by stock, paid for, and not paid for
pub record Counts (h : Histories) (lawful : IsLawful h) (c : RequestId) (held paid failed : ℕ) : Type 0 where
  pub held_is : count_by (holds_pieces c) (made_on STOCK_TO_ORDER (steps_now h lawful stock_node)) ≡ held
  pub paid_is : count_by (confirms c) (made_on PAYMENT_TO_STOCK (steps_now h lawful payment_node)) ≡ paid
  pub failed_is : count_by (fails c) (made_on PAYMENT_TO_STOCK (steps_now h lawful payment_node)) ≡ failed

module _ (h : Histories) (lawful : IsLawful h) (settled : IsSettled h) (c : RequestId) where
  -- it was sent on once at most
  sent_few : count_by (reserves c) (made_on CART_TO_STOCK (steps_now h lawful cart_node)) ≤ 1
  sent_few = omega (arith, sent-le-asked (steps_now h lawful cart_node) (steps-run cart_node (journal_at h cart_node)) c, asked-once Role.Cart (steps_now h lawful cart_node) (steps-run cart_node (journal_at h cart_node)) c)

  -- what was not sent on is not held
  pub counts-early : count_by (reserves c) (made_on CART_TO_STOCK (steps_now h lawful cart_node)) ≡ 0 → Counts h lawful c 0 0 0
  counts-early none =
      let on = sent-on h lawful settled c in
      let held = held-settled h lawful settled c in
      record { held_is = omega (arith, none, on); paid_is = omega (arith, none, on, held); failed_is = omega (arith, none, on, held) }

  -- nor is what stock refused
  pub counts-refused : (key : ProductKey) (rule : StockRule) → Member (body.ReserveFailed c key rule) (taken_bodies (steps_now h lawful cart_node)) → Counts h lawful c 0 0 0
  counts-refused key rule here =
      let some = counted (refuses c) (body.ReserveFailed c key rule) (taken_bodies (steps_now h lawful cart_node)) here (same_id-self c) in
      let refused = refused-cart h lawful settled c in
      let on = sent-on h lawful settled c in
      let held = held-settled h lawful settled c in
      let few = sent_few in
      record {
        held_is = omega (arith, some, refused, on, few);
        paid_is = omega (arith, some, refused, on, few, held);
        failed_is = omega (arith, some, refused, on, few, held);
      }

  -- an end that the cart took was made by orders
  ended_made : (b : Body) → finishes c b ≡ true → Member b (taken_bodies (steps_now h lawful cart_node)) → Member b (made_on ORDER_TO_CART (steps_now h lawful order_node))
  ended_made b passes here = member-made h lawful settled cart_node order_node ORDER_TO_CART (omega arith) (omega arith) (omega arith) refl refl (finishes c) (finishes-come c) b passes here

  -- a checkout that is whole is held and paid for, and its total is its order's
  pub counts-whole : (total : ℕ) → Member (body.Ended c (ending.Whole total)) (taken_bodies (steps_now h lawful cart_node)) → Counts h lawful c 1 1 0 × (total ≡ order_total (steps_now h lawful order_node) c)
  counts-whole total here =
      let steps = steps_now h lawful order_node in
      let whole = whole-shipped steps (steps-run order_node (journal_at h order_node)) c total (ended_made (body.Ended c (ending.Whole total)) (same_id-self c) here) in
      let some = counted (ships c) (body.Shipped c) (taken_bodies steps) whole.0 (same_id-self c) in
      let shipped = shipped-orders h lawful settled c in
      let on = sent-on h lawful settled c in
      let held = held-settled h lawful settled c in
      let few = sent_few in (
        record {
          held_is = omega (arith, some, shipped, on, few, held);
          paid_is = omega (arith, some, shipped, on, few, held);
          failed_is = omega (arith, some, shipped, on, few, held);
        },
        whole.1,
      )

  -- one that was undone by payment is held and was not paid for
  pub counts-failed : (rule : PayRule) → Member (body.Ended c (ending.Undone rule)) (taken_bodies (steps_now h lawful cart_node)) → Counts h lawful c 1 0 1
  counts-failed rule here =
      let steps = steps_now h lawful order_node in
      let undone = undone-failed steps (steps-run order_node (journal_at h order_node)) c rule (ended_made (body.Ended c (ending.Undone rule)) (same_id-self c) here) in
      let some = counted (fails c) (body.Failed c undone.0 rule) (taken_bodies steps) undone.1 (same_id-self c) in
      let failed = failed-orders h lawful settled c in
      let on = sent-on h lawful settled c in
      let held = held-settled h lawful settled c in
      let few = sent_few in
      record {
        held_is = omega (arith, some, failed, on, few, held);
        paid_is = omega (arith, some, failed, on, few, held);
        failed_is = omega (arith, some, failed, on, few, held);
      }
