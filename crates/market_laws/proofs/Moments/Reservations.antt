-- What stock has reserved is listed (reserved-listed). A checkout has as many events on its way from stock to orders, payments
-- and back as reservations that are listed (way-listed), so each of these waits for just one (listed-wait).
use Rattle.std.proofs.Common.{◌≡◌, ◌+◌, ◌≤◌, Bool, true, false, not, List, ◌∷◌, ◌++◌, filter, filter_map, if◌then◌else◌, sum_by, count_by, refl, ap, sym, ◌∙◌, subst, arith}
use Rattle.std.specs.List.{AllByRecursion, list_any}
use Rattle.market_amounts.specs.declared.keys.ProductKey.{ProductKey}
use Rattle.market_amounts.specs.declared.keys.RequestId.{RequestId}
use Rattle.market_events.specs.declared.bodies.Body.{Body}
use Rattle.market_events.specs.declared.bodies.Body.TheVariants as body
use Rattle.market_events.specs.Links.{stock_node, order_node, payment_node}
use Rattle.market_events.specs.Orders.{is_of}
use Rattle.market_events.specs.declared.roles.Role.{Role}
use Rattle.market_events.specs.Services.{invoices}
use Rattle.market_events.specs.Stocks.{Reservation, reservation_in, reservations, settles, is_settled, pieces_of, reserved}
use Rattle.market_events.specs.declared.links.TheConstants.{STOCK_TO_ORDER, ORDER_TO_PAYMENT}
use Rattle.market_events.specs.declared.links.TheConstants.{PAYMENT_TO_STOCK}
use Rattle.market_events.proofs.Values.Lists.{count-none, count-some, sum_by_agree}
use Rattle.market_events.proofs.Values.Same.{same_id-self}
use Rattle.market_events.proofs.Steps.Pieces.{reserved-is}
use Rattle.market_events.proofs.Runs.Stock.{reserved_once}
use Rattle.market_history.specs.Blocks.{service_steps}
use Rattle.market_history.specs.Checkouts.{bodies_of, listed_reservations}
use Rattle.market_history.specs.Histories.{Histories, journal_at}
use Rattle.market_history.specs.Lawful.{IsLawful}
use Rattle.market_history.specs.Sent.{sent, got}
use Rattle.market_laws.specs.Cuts.{steps_at}
use Rattle.market_laws.specs.Runs.{Member, holds_pieces}
use Rattle.market_laws.specs.Settling.{on_its_way}
use Rattle.market_laws.proofs.Growth.Members.{all-by}
use Rattle.market_laws.proofs.Origins.Cuts.{any_of_member}
use Rattle.market_laws.proofs.Origins.Made.{steps-run, whole}
use Rattle.market_laws.proofs.Moments.ReservationSums.{sum-kept, count-held, count-unsettled}
use Rattle.market_laws.proofs.Fits.KindsOnLinks.{came-on}
use Rattle.market_laws.proofs.Fits.AloneOnLinks.{Alone, invoice-payment, held-order}
use Rattle.market_laws.proofs.Runs.Counts.{member-between}
use Rattle.market_laws.proofs.Runs.Orders.{invoices-is-held}
use Rattle.market_laws.proofs.Runs.Payments.{settles-is-invoices}
use Rattle.market_laws.proofs.Views.Counts.{count-taken, any-taken, made-parts}

-- what settles a checkout comes into stock from payments alone
settle_stock : (id : RequestId) → Alone stock_node (settles id) PAYMENT_TO_STOCK
settle_stock id link (body.Confirmed checkout customer lines total) is into carried passes =
    came-on stock_node PAYMENT_TO_STOCK (body.Confirmed checkout customer lines total) (omega arith) tt refl link is into carried
settle_stock id link (body.Failed checkout customer rule) is into carried passes =
    came-on stock_node PAYMENT_TO_STOCK (body.Failed checkout customer rule) (omega arith) tt refl link is into carried
settle_stock id link other is into carried passes = cc

module _ (h : Histories) (lawful : IsLawful h) where
  -- what payments told stock, as it took it
  abbrev settled : List Body
  settled = bodies_of (got PAYMENT_TO_STOCK (journal_at h stock_node))

  -- stock took what settles a checkout where it is among these
  is_settled_as : (id : RequestId) → is_settled (service_steps h Role.Stock) id ≡ list_any (settles id) settled
  is_settled_as id = any-taken h lawful stock_node (omega arith) PAYMENT_TO_STOCK (settles id) (settle_stock id)

  -- the reservations that stock sent to orders are those that it made
  abbrev all_reservations : List Reservation
  all_reservations = filter_map reservation_in (bodies_of (sent STOCK_TO_ORDER (journal_at h stock_node)))

  reservations_as : all_reservations ≡ reservations (service_steps h Role.Stock)
  reservations_as = ap (filter_map reservation_in) (whole h lawful stock_node (omega arith) STOCK_TO_ORDER)

  -- what stock has reserved is listed
  pub reserved-listed : (key : ProductKey) → reserved (service_steps h Role.Stock) key ≡ sum_by (λ (r : Reservation). pieces_of key r.lines) (listed_reservations h)
  reserved-listed key =
      let steps = service_steps h Role.Stock in
      let keep = λ (r : Reservation). not (list_any (settles r.checkout) settled) in
      let pieces = λ (r : Reservation). pieces_of key r.lines in
      reserved-is steps key
      ∙ sum_by_agree (λ (r : Reservation). if not (is_settled steps r.checkout) then pieces r else 0) (λ (r : Reservation). if keep r then pieces r else 0)
      (λ r. ap (λ b. if not b then pieces r else 0) (is_settled_as r.checkout)) (reservations steps)
      ∙ sym (sum-kept keep pieces (reservations steps))
      ∙ ap (λ rs. sum_by pieces (filter keep rs)) (sym reservations_as)

  module _ (c : RequestId) where
    -- one of them at most is of the checkout
    few : count_by (is_of c) all_reservations ≤ 1
    few = subst (λ rs. count_by (is_of c) rs ≤ 1) (sym reservations_as) (reserved_once (service_steps h Role.Stock) (steps-run stock_node (journal_at h stock_node)) c)

    -- orders made an invoice for each hold that they took, and payments settled each invoice that they took
    invoiced : count_by (invoices c) (bodies_of (sent ORDER_TO_PAYMENT (journal_at h order_node))) ≡ count_by (holds_pieces c) (bodies_of (got STOCK_TO_ORDER (journal_at h order_node)))
    invoiced =
        ap (count_by (invoices c)) (whole h lawful order_node (omega arith) ORDER_TO_PAYMENT)
        ∙ invoices-is-held (steps_at order_node (journal_at h order_node)) (steps-run order_node (journal_at h order_node)) c
        ∙ count-taken h lawful order_node (omega arith) STOCK_TO_ORDER (holds_pieces c) (held-order c)

    paid : count_by (settles c) (bodies_of (sent PAYMENT_TO_STOCK (journal_at h payment_node))) ≡ count_by (invoices c) (bodies_of (got ORDER_TO_PAYMENT (journal_at h payment_node)))
    paid =
        ap (count_by (settles c)) (whole h lawful payment_node (omega arith) PAYMENT_TO_STOCK)
        ∙ settles-is-invoices (steps_at payment_node (journal_at h payment_node)) (steps-run payment_node (journal_at h payment_node)) c
        ∙ count-taken h lawful payment_node (omega arith) ORDER_TO_PAYMENT (invoices c) (invoice-payment c)

    -- what stock sent is on its way or was settled
    balance : on_its_way h c + count_by (settles c) settled ≡ count_by (is_of c) all_reservations
    balance =
        let held = count-held c (bodies_of (sent STOCK_TO_ORDER (journal_at h stock_node))) in
        let first = made-parts h lawful STOCK_TO_ORDER (omega arith) (holds_pieces c) in
        let second = made-parts h lawful ORDER_TO_PAYMENT (omega arith) (invoices c) in
        let third = made-parts h lawful PAYMENT_TO_STOCK (omega arith) (settles c) in
        omega (arith, held, first, second, third, invoiced, paid)

    -- a checkout has as many events on its way as listed reservations
    pub way-listed : on_its_way h c ≡ count_by (is_of c) (listed_reservations h)
    way-listed = by (list_any (settles c) settled) refl (count-unsettled c settled all_reservations)
      where
        by : (any : Bool) → list_any (settles c) settled ≡ any → count_by (is_of c) (listed_reservations h) ≡ (if any then 0 else count_by (is_of c) all_reservations)
            → on_its_way h c ≡ count_by (is_of c) (listed_reservations h)
        by true is listed = omega (arith, listed, balance, few, count-some (settles c) settled is)
        by false is listed = omega (arith, listed, balance, count-none (settles c) settled is)

  -- each listed reservation waits for just one event
  pub listed-wait : AllByRecursion (λ (r : Reservation). on_its_way h r.checkout ≡ 1) (listed_reservations h)
  listed-wait = all-by (λ (r : Reservation). on_its_way h r.checkout ≡ 1) (listed_reservations h) each
    where
      each : (before : List Reservation) (r : Reservation) (after : List Reservation) → listed_reservations h ≡ before ++ r ∷ after → on_its_way h r.checkout ≡ 1
      each before r after is =
          let here : Member r (listed_reservations h) = subst (λ rs. Member r rs) (sym is) (member-between before r after) in
          let some = count-some (is_of r.checkout) (listed_reservations h) (any_of_member (is_of r.checkout) r (listed_reservations h) here (same_id-self r.checkout)) in
          omega (arith, some, way-listed r.checkout, balance r.checkout, few r.checkout)
