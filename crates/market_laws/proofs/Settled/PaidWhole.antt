-- In settled histories each checkout that was paid has the reply that it is whole (paid-replied), so the whole checkouts are the
-- reservations that were paid (whole-held). A payment is of the total of its lines (paid-total).
use Rattle.std.proofs.Common.{◌≡◌, ℕ, ◌≤◌, true, List, [], ◌∷◌, Option, Some, None, is_some, filter, filter_map, count_by, inl, inr, refl, ap, sym, ◌∙◌, subst, arith}
use Rattle.std.specs.List.{cons_option}
use Rattle.market_amounts.specs.declared.keys.RequestId.{RequestId}
use Rattle.market_events.specs.declared.bodies.Body.{Body}
use Rattle.market_events.specs.declared.bodies.Body.TheVariants as body
use Rattle.market_events.specs.declared.bodies.Ending.{Ending}
use Rattle.market_events.specs.declared.bodies.Ending.TheVariants as ending
use Rattle.market_events.specs.declared.bodies.PricedLine.{PricedLine}
use Rattle.market_events.specs.declared.requests.Ask.TheVariants as ask
use Rattle.market_events.specs.declared.requests.Request.{Request}
use Rattle.market_events.specs.Carts.{reply_to_ending}
use Rattle.market_events.specs.Links.{lane_node, cart_node, stock_node, order_node}
use Rattle.market_events.specs.Requests.{lane_of}
use Rattle.market_events.specs.declared.roles.Role.{Role}
use Rattle.market_events.specs.Services.{reserves}
use Rattle.market_events.specs.Steps.{taken_bodies}
use Rattle.market_events.specs.Stocks.{Reservation, confirms}
use Rattle.market_events.specs.WellFormed.{total_of}
use Rattle.market_events.specs.declared.links.TheConstants.{CART_TO_STOCK}
use Rattle.market_events.proofs.Values.Same.{same_id-self}
use Rattle.market_history.specs.Blocks.{service_steps}
use Rattle.market_history.specs.Book.{is_whole_reply, paid_in}
use Rattle.market_history.specs.Checkouts.{asks_checkout, is_kept_checkout}
use Rattle.market_history.specs.Histories.{Histories, journal_at}
use Rattle.market_history.specs.Lawful.{IsLawful}
use Rattle.market_history.specs.Once.{kept_by, with_id, reply_at}
use Rattle.market_history.specs.Outstanding.{IsSettled}
use Rattle.market_laws.specs.Runs.{Member}
use Rattle.market_laws.proofs.Growth.Members.{find-at}
use Rattle.market_laws.proofs.Causes.Tellings.{given_there}
use Rattle.market_laws.proofs.Origins.Made.{steps-run}
use Rattle.market_laws.proofs.Views.Gathered.{keeps-all}
use Rattle.market_laws.proofs.Growth.Outs.{lane_of-small}
use Rattle.market_laws.proofs.Fits.AskedByLanes.{is_with, find-some, given-once}
use Rattle.market_laws.proofs.Fits.RepliesOnce.{only_one}
use Rattle.market_laws.proofs.Runs.Counts.{member-between}
use Rattle.market_laws.proofs.Runs.Cart.{sent-asked}
use Rattle.market_laws.proofs.Runs.Orders.{invoice-held}
use Rattle.market_laws.proofs.Runs.Stock.{held-reserve}
use Rattle.market_laws.proofs.Settled.Counts.{reserves-come}
use Rattle.market_laws.proofs.Settled.Links.{all-taken, member-made}
use Rattle.market_laws.proofs.Settled.Outcomes.{held, settling, was_paid, paid-held}
use Rattle.market_laws.proofs.Settled.Replies.{took-there, Replied, early, refused, ended, replied}
use Rattle.market_laws.proofs.Settled.Ways.{counted, Counts, counts-early, counts-refused, counts-failed}
use Rattle.market_laws.proofs.Growth.Takers.{grown_at}
use Rattle.market_laws.proofs.Settled.WholePayments.{payment-traced}

-- a payment of the body
record IsPaidBy (r : Reservation) (bs : List Body) : Type 0 where
  total : ℕ
  here : Member (body.Confirmed r.checkout r.customer r.lines total) bs

paid-by : (r : Reservation) (bs : List Body) → Member r (filter_map paid_in bs) → IsPaidBy r bs
paid-by r [] here = absurd here
paid-by r (b ∷ bs) here = by b here (λ more. paid-by r bs more)
  where
    later : (b : Body) → IsPaidBy r bs → IsPaidBy r (b ∷ bs)
    later b p = record { total = p.total; here = inr p.here }

    by : (b : Body) → Member r (cons_option (paid_in b) (filter_map paid_in bs)) → (Member r (filter_map paid_in bs) → IsPaidBy r bs) → IsPaidBy r (b ∷ bs)
    by (body.Confirmed checkout customer lines total) (inl same) rest =
        record { total = total; here = inl (ap (λ (q : Reservation). body.Confirmed q.checkout q.customer q.lines total) same) }
    by (body.Confirmed checkout customer lines total) (inr more) rest = later (body.Confirmed checkout customer lines total) (rest more)
    by other more rest = later other (rest more)

module _ (h : Histories) (lawful : IsLawful h) where
  -- a checkout that the cart took is kept
  kept-checkout : (c : RequestId) (customer : ℕ) → Member (body.Asked (record { id = c; ask = ask.Checkout customer })) (taken_bodies (service_steps h Role.Cart)) → is_kept_checkout h c ≡ true
  kept-checkout c customer here = by (with_id c requests) refl (find-some (is_with c) request requests given (same_id-self c))
    where
      request : Request
      request = record { id = c; ask = ask.Checkout customer }

      requests : List Request
      requests = kept_by h (lane_of c)

      given : Member request requests
      given =
          let took = took-there h lawful cart_node (omega arith) (body.Asked request) (subst (λ l. Member (body.Asked request) l) (all-taken h lawful cart_node (omega arith)) here) in
          given_there h lawful cart_node took.0 took.1 request took.2

      by : (o : Option Request) → with_id c requests ≡ o → is_some o ≡ true → asks_checkout o ≡ true
      by None is found = cc
      by (Some r) is found =
          let at = find-at (is_with c) requests r is in
          let there : Member r requests = subst (λ l. Member r l) (sym at.is) (member-between at.before r at.after) in
          let node = lane_node (lane_of c) in
          let small = lane_of-small c in
          let same : r ≡ request = only_one (is_with c) r request requests (given-once node (grown_at h node lawful (omega arith)) c) there given at.passes (same_id-self c) in
          ap (λ q. asks_checkout (Some q)) same

  module _ (settled : IsSettled h) (c : RequestId) (customer : ℕ) (lines : List PricedLine) (total : ℕ) (here : Member (body.Confirmed c customer lines total) (settling h)) where
    -- it was reserved, and asked for
    asked_for : Member (body.Asked (record { id = c; ask = ask.Checkout customer })) (taken_bodies (service_steps h Role.Cart))
    asked_for =
        let stock = held-reserve (service_steps h Role.Stock) (steps-run stock_node (journal_at h stock_node)) c customer lines (payment-traced h lawful settled c customer lines total here).held in
        sent-asked (service_steps h Role.Cart) (steps-run cart_node (journal_at h cart_node)) c customer lines
        (member-made h lawful settled stock_node cart_node CART_TO_STOCK (omega arith) (omega arith) (omega arith) refl refl (reserves c) (reserves-come c) (body.Reserve c customer lines) (same_id-self c) stock)

    paid_once : 1 ≤ count_by (confirms c) (settling h)
    paid_once = counted (confirms c) (body.Confirmed c customer lines total) (settling h) here (same_id-self c)

    unpaid : (held failed : ℕ) → Counts h lawful c held 0 failed → ⊥
    unpaid held failed n = let none : count_by (confirms c) (settling h) ≡ 0 = n.paid_is in let some = paid_once in omega arith

    pub paid-replied : is_whole_reply (reply_at h c) ≡ true
    paid-replied = by (replied h lawful settled c (kept-checkout c customer asked_for))
      where
        by_end : (end : Ending) → reply_at h c ≡ Some (reply_to_ending end) → Member (body.Ended c end) (taken_bodies (service_steps h Role.Cart)) → is_whole_reply (reply_at h c) ≡ true
        by_end (ending.Whole t) is there = ap is_whole_reply is
        by_end (ending.Undone rule) is there = absurd (unpaid 1 1 (counts-failed h lawful settled c rule there))

        by : Replied h lawful settled c → is_whole_reply (reply_at h c) ≡ true
        by (early rule soon is unsent) = absurd (unpaid 0 0 (counts-early h lawful settled c unsent))
        by (refused key rule is there) = absurd (unpaid 0 0 (counts-refused h lawful settled c key rule there))
        by (ended end is there) = by_end end is there

    pub paid-total : total ≡ total_of lines
    paid-total = (invoice-held (service_steps h Role.Order) (steps-run order_node (journal_at h order_node)) c customer lines total (payment-traced h lawful settled c customer lines total here).invoiced).1

  module _ (settled : IsSettled h) where
    -- all that were paid are whole
    pub whole-paid : filter (λ (r : Reservation). is_whole_reply (reply_at h r.checkout)) (filter_map paid_in (settling h)) ≡ filter_map paid_in (settling h)
    whole-paid = keeps-all (λ (r : Reservation). is_whole_reply (reply_at h r.checkout)) (filter_map paid_in (settling h)) each
      where
        each : (r : Reservation) → Member r (filter_map paid_in (settling h)) → is_whole_reply (reply_at h r.checkout) ≡ true
        each r here = let p = paid-by r (settling h) here in paid-replied settled r.checkout r.customer r.lines p.total p.here

    pub whole-held : filter (λ (r : Reservation). is_whole_reply (reply_at h r.checkout)) (filter_map paid_in (settling h)) ≡ filter (was_paid h) (held h)
    whole-held = whole-paid ∙ paid-held h lawful settled
