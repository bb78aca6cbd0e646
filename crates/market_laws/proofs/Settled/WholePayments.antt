-- Of a checkout that is whole: payment said once on each of its links that it was paid, with the total of its order, and no
-- failure (paid-to-stock to paid-to-seller, unfailed-to-stock to unfailed-to-seller). A payment is of what stock holds and of what orders invoiced
-- (payment-traced).
use Rattle.std.proofs.Common.{◌≡◌, ℕ, ◌==◌, true, List, count_by, eq-eqb, refl, ap, sym, ◌∙◌, subst, arith}
use Rattle.market_amounts.specs.declared.keys.RequestId.{RequestId}
use Rattle.market_events.specs.declared.bodies.Body.{Body}
use Rattle.market_events.specs.declared.bodies.Body.TheVariants as body
use Rattle.market_events.specs.declared.bodies.PricedLine.{PricedLine}
use Rattle.market_events.specs.Links.{stock_node, order_node, payment_node}
use Rattle.market_events.specs.Orders.{order_total}
use Rattle.market_events.specs.Requests.{same_id}
use Rattle.market_events.specs.Services.{invoices}
use Rattle.market_events.specs.Steps.{made_on}
use Rattle.market_events.specs.Stocks.{confirms, fails}
use Rattle.market_events.specs.declared.links.Link.{Link}
use Rattle.market_events.specs.declared.links.TheConstants.{STOCK_TO_ORDER, ORDER_TO_PAYMENT}
use Rattle.market_events.specs.declared.links.TheConstants.{PAYMENT_TO_STOCK, PAYMENT_TO_ORDER}
use Rattle.market_events.specs.declared.links.TheConstants.{PAYMENT_TO_SHIPMENT, PAYMENT_TO_CUSTOMER}
use Rattle.market_events.specs.declared.links.TheConstants.{PAYMENT_TO_SELLER}
use Rattle.market_events.proofs.Values.Lists.{and_both, and_from}
use Rattle.market_events.proofs.Values.Same.{same_id-true, same_id-self}
use Rattle.market_history.specs.Checkouts.{pays, made_by_payment, IsPaidOn}
use Rattle.market_history.specs.Histories.{Histories, journal_at}
use Rattle.market_history.specs.Lawful.{IsLawful}
use Rattle.market_history.specs.Outstanding.{IsSettled}
use Rattle.market_laws.specs.Runs.{Member, holds_pieces, is_payment}
use Rattle.market_laws.proofs.Causes.FewOnLinks.{count-members}
use Rattle.market_laws.proofs.Origins.Made.{steps-run}
use Rattle.market_laws.proofs.Settled.Passing.{count-kept}
use Rattle.market_laws.proofs.Runs.Orders.{invoice-held, total-held}
use Rattle.market_laws.proofs.Runs.Payments.{payments-to-order, payments-to-shipment, payments-to-customer, payments-to-seller, confirmed-invoice}
use Rattle.market_laws.proofs.Settled.Counts.{steps_now, holds-come, invoices-come, confirms-payment}
use Rattle.market_laws.proofs.Settled.Links.{member-made}
use Rattle.market_laws.proofs.Settled.Ways.{Counts}

-- what a payment is of: its total is the order's, and it was invoiced and held
pub record Traced (h : Histories) (lawful : IsLawful h) (c : RequestId) (customer : ℕ) (lines : List PricedLine) (total : ℕ) : Type 0 where
  pub total_is : total ≡ order_total (steps_now h lawful order_node) c
  pub invoiced : Member (body.Invoice c customer lines total) (made_on ORDER_TO_PAYMENT (steps_now h lawful order_node))
  pub held : Member (body.StockConfirmed c customer lines) (made_on STOCK_TO_ORDER (steps_now h lawful stock_node))

-- with this total it was paid
pays-confirms : (c : RequestId) (total : ℕ) (b : Body) → pays c total b ≡ true → confirms c b ≡ true
pays-confirms c total (body.Confirmed checkout customer lines t) passes = (and_both (same_id checkout c) (t == total) passes).0
pays-confirms c total other passes = cc

pays-payment : (c : RequestId) (total : ℕ) (b : Body) → pays c total b ≡ true → is_payment b ≡ true
pays-payment c total b passes = confirms-payment c b (pays-confirms c total b passes)

module _ (h : Histories) (lawful : IsLawful h) (settled : IsSettled h) (c : RequestId) where
  pub payment-traced : (customer : ℕ) (lines : List PricedLine) (total : ℕ) → Member (body.Confirmed c customer lines total) (made_on PAYMENT_TO_STOCK (steps_now h lawful payment_node)) → Traced h lawful c customer lines total
  payment-traced customer lines total here =
      let taken = confirmed-invoice (steps_now h lawful payment_node) (steps-run payment_node (journal_at h payment_node)) c customer lines total here in
      let invoiced = member-made h lawful settled payment_node order_node ORDER_TO_PAYMENT (omega arith) (omega arith) (omega arith) refl refl (invoices c) (invoices-come c) (body.Invoice c customer lines total) (same_id-self c) taken in
      let held = invoice-held (steps_now h lawful order_node) (steps-run order_node (journal_at h order_node)) c customer lines total invoiced in
      record {
        total_is = held.1 ∙ sym (total-held (steps_now h lawful order_node) (steps-run order_node (journal_at h order_node)) c customer lines held.0);
        invoiced = invoiced;
        held = member-made h lawful settled order_node stock_node STOCK_TO_ORDER (omega arith) (omega arith) (omega arith) refl refl (holds_pieces c) (holds-come c) (body.StockConfirmed c customer lines) (same_id-self c) held.0;
      }

  module _ (n : Counts h lawful c 1 1 0) (total : ℕ) (is : total ≡ order_total (steps_now h lawful order_node) c) where
    -- each payment of it has this total
    pays_it : (b : Body) → Member b (made_on PAYMENT_TO_STOCK (steps_now h lawful payment_node)) → confirms c b ≡ true → pays c total b ≡ true
    pays_it (body.Confirmed checkout customer lines t) here passes =
        let same : checkout ≡ c = same_id-true checkout c passes in
        let traced = payment-traced customer lines t (subst (λ i. Member (body.Confirmed i customer lines t) (made_on PAYMENT_TO_STOCK (steps_now h lawful payment_node))) same here) in
        and_from (same_id checkout c) (t == total) passes (eq-eqb t total (traced.total_is ∙ sym is))
    pays_it other here passes = cc

    pub paid-to-stock : IsPaidOn h PAYMENT_TO_STOCK c total
    paid-to-stock = record {
      once = n.paid_is;
      so_much =
          let made = made_on PAYMENT_TO_STOCK (steps_now h lawful payment_node) in
          let most = count-members (pays c total) (confirms c) made (λ b here passes. pays-confirms c total b passes) in
          let least = count-members (confirms c) (pays c total) made pays_it in
          omega (arith, most, least, n.paid_is);
    }

    -- the same on a link on which the same was made
    same_paid : (k : Link) → made_on PAYMENT_TO_STOCK (steps_now h lawful payment_node) ≡ made_on k (steps_now h lawful payment_node) → IsPaidOn h k c total
    same_paid k same = record { once = ap (count_by (confirms c)) (sym same) ∙ paid-to-stock.once; so_much = ap (count_by (pays c total)) (sym same) ∙ paid-to-stock.so_much }

    pub paid-to-order : IsPaidOn h PAYMENT_TO_ORDER c total
    paid-to-order = same_paid PAYMENT_TO_ORDER (payments-to-order (steps_now h lawful payment_node) (steps-run payment_node (journal_at h payment_node)))

    pub paid-to-customer : IsPaidOn h PAYMENT_TO_CUSTOMER c total
    paid-to-customer = same_paid PAYMENT_TO_CUSTOMER (payments-to-customer (steps_now h lawful payment_node) (steps-run payment_node (journal_at h payment_node)))

    pub paid-to-seller : IsPaidOn h PAYMENT_TO_SELLER c total
    paid-to-seller = same_paid PAYMENT_TO_SELLER (payments-to-seller (steps_now h lawful payment_node) (steps-run payment_node (journal_at h payment_node)))

    pub paid-to-shipment : IsPaidOn h PAYMENT_TO_SHIPMENT c total
    paid-to-shipment =
        let made = made_on PAYMENT_TO_STOCK (steps_now h lawful payment_node) in
        let on = payments-to-shipment (steps_now h lawful payment_node) (steps-run payment_node (journal_at h payment_node)) in
        record {
          once = ap (count_by (confirms c)) on ∙ count-kept (confirms c) is_payment (confirms-payment c) made ∙ paid-to-stock.once;
          so_much = ap (count_by (pays c total)) on ∙ count-kept (pays c total) is_payment (pays-payment c total) made ∙ paid-to-stock.so_much;
        }

    pub unfailed-to-stock : made_by_payment h PAYMENT_TO_STOCK (fails c) ≡ 0
    unfailed-to-stock = n.failed_is

    pub unfailed-to-order : made_by_payment h PAYMENT_TO_ORDER (fails c) ≡ 0
    unfailed-to-order = ap (count_by (fails c)) (sym (payments-to-order (steps_now h lawful payment_node) (steps-run payment_node (journal_at h payment_node)))) ∙ n.failed_is

    pub unfailed-to-customer : made_by_payment h PAYMENT_TO_CUSTOMER (fails c) ≡ 0
    unfailed-to-customer = ap (count_by (fails c)) (sym (payments-to-customer (steps_now h lawful payment_node) (steps-run payment_node (journal_at h payment_node)))) ∙ n.failed_is

    pub unfailed-to-seller : made_by_payment h PAYMENT_TO_SELLER (fails c) ≡ 0
    unfailed-to-seller = ap (count_by (fails c)) (sym (payments-to-seller (steps_now h lawful payment_node) (steps-run payment_node (journal_at h payment_node)))) ∙ n.failed_is
