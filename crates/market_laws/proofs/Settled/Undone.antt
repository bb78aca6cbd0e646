-- Of a checkout that is undone: it counts in nothing that is reserved (unreserved, unreserved-failed), sold (unsold) or spent
-- (unspent); where it was not held no seller has an entry of it (entries-none), and where it was not paid for all its entries are
-- cancelled (entries-cancelled).
use Rattle.std.proofs.Common.{◌≡◌, ℕ, Bool, true, false, ◌&&◌, ◌||◌, not, List, [], ◌∷◌, Some, length, filter, count_by, refl, ap, sym, ◌∙◌, arith}
use Rattle.std.specs.List.{flat_map, list_all, list_any}
use Rattle.std.proofs.lemmas.List.Sums.{length-filter}
use Rattle.market_amounts.specs.declared.keys.RequestId.{RequestId}
use Rattle.market_events.specs.declared.links.TheConstants.{STOCK_TO_ORDER, ORDER_TO_PAYMENT}
use Rattle.market_events.specs.declared.links.TheConstants.{PAYMENT_TO_STOCK}
use Rattle.market_events.specs.declared.replies.OrderStatus.TheVariants as status
use Rattle.market_events.specs.Links.{stock_node, order_node, payment_node, seller_node}
use Rattle.market_events.specs.Orders.{is_item_of, is_of, is_taken, items_taken, ships}
use Rattle.market_events.specs.Sellers.{SellerChange, entries_at, status_at}
use Rattle.market_events.specs.Services.{invoices}
use Rattle.market_events.specs.Steps.{taken_bodies, made_on}
use Rattle.market_events.specs.Stocks.{Reservation, reservations, confirms, fails, is_confirmed, is_settled}
use Rattle.market_events.proofs.Values.Lists.{and_both, any-none, false_from, or_left}
use Rattle.market_events.proofs.Values.Same.{same_id-true}
use Rattle.market_events.proofs.Steps.Taken.{is_settled-is}
use Rattle.market_history.specs.Checkouts.{changes_of, is_cancelled, is_entry_of}
use Rattle.market_history.specs.Histories.{Histories, journal_at}
use Rattle.market_history.specs.Lawful.{IsLawful}
use Rattle.market_history.specs.Outstanding.{IsSettled}
use Rattle.market_laws.specs.Runs.{Member}
use Rattle.market_laws.proofs.Origins.Cuts.{any_of_member, member_of_any}
use Rattle.market_laws.proofs.Origins.Made.{steps-run}
use Rattle.market_laws.proofs.Fits.CopyMembers.{all_of_members}
use Rattle.market_laws.proofs.Fits.RepliesOnce.{any-counted}
use Rattle.market_laws.proofs.Runs.SellerEntries.{entries_in, entry-due}
use Rattle.market_laws.proofs.Runs.SellerStatuses.{due, due-is}
use Rattle.market_laws.proofs.Settled.Counts.{steps_now, held-invoiced}
use Rattle.market_laws.proofs.Settled.Sellers.{count-entries, seller-failed, seller-invoices}
use Rattle.market_laws.proofs.Moments.ReservationSums.{count-held}
use Rattle.market_laws.proofs.Settled.Stock.{stock-failed, stock-paid}
use Rattle.market_laws.proofs.Settled.Ways.{Counts}

-- a list of none
none_of : {A : Type 0} (xs : List A) → length xs ≡ 0 → xs ≡ []
none_of [] none = refl
none_of (x ∷ xs) none = absurd (omega (arith, none))

-- where reservations of the checkout do not pass, none that is of it passes
none_passes : (c : RequestId) (test : RequestId → Bool) (rs : List Reservation) → test c ≡ false → list_any (λ (r : Reservation). is_of c r && test r.checkout) rs ≡ false
none_passes c test rs none = false_from (list_any (λ (r : Reservation). is_of c r && test r.checkout) rs) refuted
  where
    refuted : list_any (λ (r : Reservation). is_of c r && test r.checkout) rs ≡ true → false ≡ true
    refuted any =
        let found = member_of_any (λ (r : Reservation). is_of c r && test r.checkout) rs any in
        let both = and_both (is_of c found.0) (test found.0.checkout) found.2 in
        sym none ∙ ap test (sym (same_id-true found.0.checkout c both.0)) ∙ both.1

module _ (h : Histories) (lawful : IsLawful h) (settled : IsSettled h) (c : RequestId) where
  -- what is not held is not reserved
  pub unreserved : Counts h lawful c 0 0 0 → list_any (λ (r : Reservation). is_of c r && not (is_settled (steps_now h lawful stock_node) r.checkout)) (reservations (steps_now h lawful stock_node)) ≡ false
  unreserved n = false_from (list_any (λ (r : Reservation). is_of c r && not (is_settled (steps_now h lawful stock_node) r.checkout)) (reservations (steps_now h lawful stock_node))) refuted
    where
      refuted : list_any (λ (r : Reservation). is_of c r && not (is_settled (steps_now h lawful stock_node) r.checkout)) (reservations (steps_now h lawful stock_node)) ≡ true → false ≡ true
      refuted any =
          let rs = reservations (steps_now h lawful stock_node) in
          let found = member_of_any (λ (r : Reservation). is_of c r && not (is_settled (steps_now h lawful stock_node) r.checkout)) rs any in
          let mine = (and_both (is_of c found.0) (not (is_settled (steps_now h lawful stock_node) found.0.checkout)) found.2).0 in
          sym (any-none (is_of c) rs (omega (arith, count-held c (made_on STOCK_TO_ORDER (steps_now h lawful stock_node)), n.held_is))) ∙ any_of_member (is_of c) found.0 rs found.1 mine

  -- nor is what failed
  pub unreserved-failed : Counts h lawful c 1 0 1 → list_any (λ (r : Reservation). is_of c r && not (is_settled (steps_now h lawful stock_node) r.checkout)) (reservations (steps_now h lawful stock_node)) ≡ false
  unreserved-failed n =
      let steps = steps_now h lawful stock_node in
      let failed = any-counted (fails c) (taken_bodies steps) (omega (arith, stock-failed h lawful settled c, n.failed_is)) in
      none_passes c (λ id. not (is_settled steps id)) (reservations steps) (ap not (is_settled-is steps c ∙ or_left (is_taken fails steps c) (is_confirmed steps c) failed))

  -- what was not paid for is not sold
  pub unsold : {held failed : ℕ} → Counts h lawful c held 0 failed → list_any (λ (r : Reservation). is_of c r && is_confirmed (steps_now h lawful stock_node) r.checkout) (reservations (steps_now h lawful stock_node)) ≡ false
  unsold n =
      let steps = steps_now h lawful stock_node in
      none_passes c (is_confirmed steps) (reservations steps) (any-none (confirms c) (taken_bodies steps) (omega (arith, stock-paid h lawful settled c, n.paid_is)))

  -- nor spent
  pub unspent : {held failed : ℕ} → Counts h lawful c held 0 failed → list_any (confirms c) (made_on PAYMENT_TO_STOCK (steps_now h lawful payment_node)) ≡ false
  unspent n = any-none (confirms c) (made_on PAYMENT_TO_STOCK (steps_now h lawful payment_node)) (omega (arith, n.paid_is))

  -- what is not held has no entry
  pub entries-none : Counts h lawful c 0 0 0 → (seller : ℕ) → list_any (is_entry_of c) (entries_at (changes_of h seller)) ≡ false
  entries-none n seller =
      let made = made_on ORDER_TO_PAYMENT (steps_now h lawful order_node) in
      let none = seller-invoices h lawful settled c ∙ none_of (filter (invoices c) made) (length-filter (invoices c) made ∙ held-invoiced h lawful settled c ∙ n.held_is) in
      let count = count-entries h lawful settled c (is_entry_of c) (λ e other. other) seller ∙ ap (λ bs. count_by (is_entry_of c) (flat_map (entries_in seller) bs)) none in
      any-none (is_entry_of c) (entries_at (changes_of h seller)) (omega (arith, count))

  -- the entries of what failed are cancelled
  pub entries-cancelled : Counts h lawful c 1 0 1 → (seller : ℕ)
      → list_all (λ (e : SellerChange). not (is_entry_of c e) || is_cancelled (status_at (changes_of h seller) e)) (entries_at (changes_of h seller)) ≡ true
  entries-cancelled n seller =
      all_of_members (λ (e : SellerChange). not (is_entry_of c e) || is_cancelled (status_at (changes_of h seller) e)) (entries_at (changes_of h seller)) (λ e here. by_test e here)
    where
      failed : is_taken fails (steps_now h lawful seller_node) c ≡ true
      failed = any-counted (fails c) (taken_bodies (steps_now h lawful seller_node)) (omega (arith, seller-failed h lawful settled c, n.failed_is))

      by : (e : SellerChange) → Member e (entries_at (changes_of h seller)) → (b : Bool) → is_entry_of c e ≡ b → (not b || is_cancelled (status_at (changes_of h seller) e)) ≡ true
      by e here false other = refl
      by e here true mine =
          let steps = steps_now h lawful seller_node in
          let id = e.checkout in
          let fails_it = ap (is_taken fails steps) (same_id-true id c mine) ∙ failed in
          let cancelled : due steps id e.line.key ≡ status.Cancelled =
          due-is steps id e.line.key true (list_any (is_item_of id e.line.key) (items_taken steps)) (is_taken ships steps id) (is_taken confirms steps id) fails_it refl refl refl in
          ap is_cancelled (entry-due steps (steps-run seller_node (journal_at h seller_node)) seller e here ∙ ap Some cancelled)

      by_test : (e : SellerChange) → Member e (entries_at (changes_of h seller)) → (not (is_entry_of c e) || is_cancelled (status_at (changes_of h seller) e)) ≡ true
      by_test e here = by e here (is_entry_of c e) refl
