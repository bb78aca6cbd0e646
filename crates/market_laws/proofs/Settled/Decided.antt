-- In settled histories each kept checkout is decided (decided): whole where its order ended whole, else undone.
use Rattle.std.proofs.Common.{◌≡◌, ℕ, Some, true, inl, inr, sym, ◌∙◌}
use Rattle.market_amounts.specs.declared.keys.ProductKey.{ProductKey}
use Rattle.market_amounts.specs.declared.keys.RequestId.{RequestId}
use Rattle.market_events.specs.declared.bodies.Body.TheVariants as body
use Rattle.market_events.specs.declared.bodies.Ending.{Ending}
use Rattle.market_events.specs.declared.bodies.Ending.TheVariants as ending
use Rattle.market_events.specs.declared.bodies.PayRule.TheVariants as pay
use Rattle.market_events.specs.declared.bodies.StockRule.{StockRule}
use Rattle.market_events.specs.declared.bodies.StockRule.TheVariants as stock
use Rattle.market_events.specs.declared.links.TheConstants.{STOCK_TO_ORDER}
use Rattle.market_events.specs.declared.replies.Reply.TheVariants as reply
use Rattle.market_events.specs.declared.replies.UndoneRule.{UndoneRule}
use Rattle.market_events.specs.declared.replies.UndoneRule.TheVariants as undone
use Rattle.market_events.specs.Carts.{undone_by_stock, reply_to_ending}
use Rattle.market_events.specs.Links.{cart_node, stock_node, order_node}
use Rattle.market_events.specs.Orders.{order_total}
use Rattle.market_events.specs.Steps.{taken_bodies, made_on}
use Rattle.market_history.specs.Checkouts.{IsWhole, IsUndone, IsNotOrdered, IsCancelled, IsLeftBy, IsDecided, is_kept_checkout}
use Rattle.market_history.specs.Histories.{Histories}
use Rattle.market_history.specs.Lawful.{IsLawful}
use Rattle.market_history.specs.Once.{reply_at}
use Rattle.market_history.specs.Outstanding.{IsSettled}
use Rattle.market_laws.specs.Runs.{Member}
use Rattle.market_laws.proofs.Runs.CartReplies.{IsEarly}
use Rattle.market_laws.proofs.Settled.Counts.{steps_now}
use Rattle.market_laws.proofs.Settled.Orders.{order-whole, order-cancelled, order-none}
use Rattle.market_laws.proofs.Settled.Replies.{Replied, early, refused, ended, replied}
use Rattle.market_laws.proofs.Moments.ReservationSums.{count-held}
use Rattle.market_laws.proofs.Settled.Stock.{stock-failed, stock-paid}
use Rattle.market_laws.proofs.Settled.Ways.{Counts, counts-early, counts-refused, counts-whole, counts-failed}
use Rattle.market_laws.proofs.Settled.Undone.{unreserved, unreserved-failed, unsold, unspent, entries-none, entries-cancelled}
use Rattle.market_laws.proofs.Settled.WholeEntries.{entries-whole}
use Rattle.market_laws.proofs.Settled.WholePackages.{payment-of, packages-whole, packages-none}
use Rattle.market_laws.proofs.Settled.WholePayments.{paid-to-stock, paid-to-order, paid-to-shipment, paid-to-customer, paid-to-seller, unfailed-to-stock, unfailed-to-order, unfailed-to-customer, unfailed-to-seller}

module _ (h : Histories) (lawful : IsLawful h) (settled : IsSettled h) (c : RequestId) where
  -- it is held and paid for
  is_whole : (total : ℕ) → reply_at h c ≡ Some (reply.Whole total) → Counts h lawful c 1 1 0 → total ≡ order_total (steps_now h lawful order_node) c → IsWhole h c total
  is_whole total is n total_is =
      let p = payment-of h lawful settled c n in
      record {
        reply = is;
        reserved = count-held c (made_on STOCK_TO_ORDER (steps_now h lawful stock_node)) ∙ n.held_is;
        sold = stock-paid h lawful settled c ∙ n.paid_is;
        not_released = stock-failed h lawful settled c ∙ n.failed_is;
        order_total = sym total_is;
        order_status = order-whole h lawful settled c n;
        paid_to_stock = paid-to-stock h lawful settled c n total total_is;
        paid_to_order = paid-to-order h lawful settled c n total total_is;
        paid_to_shipment = paid-to-shipment h lawful settled c n total total_is;
        paid_to_customer = paid-to-customer h lawful settled c n total total_is;
        paid_to_seller = paid-to-seller h lawful settled c n total total_is;
        not_failed_to_stock = unfailed-to-stock h lawful settled c n total total_is;
        not_failed_to_order = unfailed-to-order h lawful settled c n total total_is;
        not_failed_to_customer = unfailed-to-customer h lawful settled c n total total_is;
        not_failed_to_seller = unfailed-to-seller h lawful settled c n total total_is;
        packages = packages-whole h lawful settled c n p;
        entries = entries-whole h lawful settled c n p;
      }

  -- it is not held
  stopped : (rule : UndoneRule) → reply_at h c ≡ Some (reply.Undone rule) → Counts h lawful c 0 0 0 → (IsNotOrdered h c → IsLeftBy h c rule) → IsUndone h c rule
  stopped rule is n left = record {
    reply = is;
    not_reserved = unreserved h lawful settled c n;
    not_sold = unsold h lawful settled c n;
    not_spent = unspent h lawful settled c n;
    no_package = packages-none h lawful settled c n;
    left = left (record { order = order-none h lawful settled c n; entries = entries-none h lawful settled c n });
  }

  -- it is held and was not paid for
  unpaid : (rule : UndoneRule) → reply_at h c ≡ Some (reply.Undone rule) → Counts h lawful c 1 0 1 → (IsCancelled h c → IsLeftBy h c rule) → IsUndone h c rule
  unpaid rule is n left = record {
    reply = is;
    not_reserved = unreserved-failed h lawful settled c n;
    not_sold = unsold h lawful settled c n;
    not_spent = unspent h lawful settled c n;
    no_package = packages-none h lawful settled c n;
    left = left (record { order = order-cancelled h lawful settled c n; entries = entries-cancelled h lawful settled c n });
  }

  by_early : (rule : UndoneRule) → IsEarly rule → reply_at h c ≡ Some (reply.Undone rule) → Counts h lawful c 0 0 0 → IsDecided h c
  by_early undone.CartEmpty soon is n = inr (undone.CartEmpty, stopped undone.CartEmpty is n (λ left. left))
  by_early (undone.Gone key) soon is n = inr (undone.Gone key, stopped (undone.Gone key) is n (λ left. left))
  by_early other soon is n = absurd soon

  by_stock : (key : ProductKey) (rule : StockRule) → reply_at h c ≡ Some (reply.Undone (undone_by_stock rule key)) → Counts h lawful c 0 0 0 → IsDecided h c
  by_stock key stock.Gone is n = inr (undone.Gone key, stopped (undone.Gone key) is n (λ left. left))
  by_stock key stock.Short is n = inr (undone.Short key, stopped (undone.Short key) is n (λ left. left))

  by_end : (end : Ending) → reply_at h c ≡ Some (reply_to_ending end) → Member (body.Ended c end) (taken_bodies (steps_now h lawful cart_node)) → IsDecided h c
  by_end (ending.Whole total) is here = let whole = counts-whole h lawful settled c total here in inl (total, is_whole total is whole.0 whole.1)
  by_end (ending.Undone pay.NoCard) is here = inr (undone.NoCard, unpaid undone.NoCard is (counts-failed h lawful settled c pay.NoCard here) (λ left. left))
  by_end (ending.Undone pay.OverLimit) is here = inr (undone.OverLimit, unpaid undone.OverLimit is (counts-failed h lawful settled c pay.OverLimit here) (λ left. left))

  pub decided : is_kept_checkout h c ≡ true → IsDecided h c
  decided kept = by (replied h lawful settled c kept)
    where
      by : Replied h lawful settled c → IsDecided h c
      by (early rule soon is unsent) = by_early rule soon is (counts-early h lawful settled c unsent)
      by (refused key rule is here) = by_stock key rule is (counts-refused h lawful settled c key rule here)
      by (ended end is here) = by_end end is here
