-- Lawful histories without the block that began last are lawful, the step that brought it leads from them to those, and it is
-- the last of the merged schedule.
use Rattle.std.proofs.Common.{◌≡◌, ◌≢◌, ℕ, ◌+◌, ◌<◌, ◌≤◌, ◌==◌, Bool, true, false, nat_lt, List, [], ◌∷◌, ◌++◌, Some, length, length-append, eqb-true, refl, ap, sym, ◌∙◌, subst, append-nil, append_assoc, arith}
use Rattle.std.specs.Prelude.{◌*◌, map, find, flat_map}
use Rattle.std.specs.List.{AllByRecursion, range_with_len}
use Rattle.std.specs.Option.{option_to_list}
use Rattle.std.proofs.lemmas.Bool.{eqb-false}
use Rattle.std.proofs.lemmas.Bool.Decides.{nat_tests}
use Rattle.std.proofs.lemmas.List.{map-append, set-set, set-get_or}
use Rattle.market_events.specs.declared.events.Entry.{Entry}
use Rattle.market_events.specs.declared.events.Event.{Event}
use Rattle.market_events.specs.declared.links.Link.{Link}
use Rattle.market_events.specs.Links.{IsLink, sender_of, receiver_of}
use Rattle.market_events.proofs.Values.Offers.{same_link-same}
use Rattle.market_events.specs.declared.nodes.TheConstants.{NODES}
use Rattle.market_history.specs.declared.schedule.Step.{Step}
use Rattle.market_history.specs.Blocks.{Arrival, what_of, grow}
use Rattle.market_history.specs.Histories.{Histories, journal_at, with_journal}
use Rattle.market_history.specs.Lawful.{IsReadyAfter, IsLawfulAt, IsLawful}
use Rattle.market_history.specs.Schedule.{with_block, outcome_of, play_step, Moved, moves_at, in_order, merged}
use Rattle.market_history.specs.Sent.{got_on, sent, got, IsNumbered, IsPrefixOf}
use Rattle.market_history.specs.Stamps.{clock_before}
use Rattle.market_history.proofs.GrowLaws.{got-grow, IsPrefixOf-trans}
use Rattle.market_history.proofs.HistoryLaws.{journal_at-same, journal_at-other, length-with_journal}
use Rattle.market_laws.specs.Grown.{Grown}
use Rattle.market_laws.specs.Merged.{IsDone}
use Rattle.market_laws.proofs.Growth.Members.{all-weaker}
use Rattle.market_laws.proofs.Growth.Lawful.{lawful_of_grown}
use Rattle.market_laws.proofs.Bounds.LinkEnds.{receiver-small, sender-small}
use Rattle.market_laws.proofs.Merged.Moves.{step_for, begins, move_for, moves_of, moves-grow, begins-after, Ended, ended-later, grown-ended}
use Rattle.market_laws.proofs.Merged.Order.{Precedes, precedes-clock, precedes-node, in_order-last}
use Rattle.market_laws.proofs.Merged.Sent.{sent-later, prefix-early, find-numbered}
use Rattle.market_laws.proofs.Merged.Steps.{IsFound, step-plays, step-acts}
use Rattle.market_laws.proofs.Merged.Split.{Splits, range-splits, all-range}
use Rattle.market_laws.proofs.Merged.Top.{EndedBy}

-- a journal that is changed back
with_journal-back : (h : Histories) (n : ℕ) (j : List Entry) → with_journal (with_journal h n j) n (journal_at h n) ≡ h
unfolding with_journal journal_at
with_journal-back h n j = set-set h n j (journal_at h n) ∙ set-get_or h n []

-- the moves of all nodes
abbrev pub moves : Histories → List Moved
moves h = flat_map (moves_at h) (range_with_len 0 NODES)

-- histories without the last of their moves, and the step that it was
pub record OneLess (h : Histories) : Type 0 where
  pub earlier : Histories
  pub last : Step
  pub lawful : IsLawful earlier
  pub leads : play_step earlier last ≡ h
  pub done : IsDone (outcome_of earlier last)
  pub merged_is : merged h ≡ merged earlier ++ last ∷ []
  pub fewer : length (moves h) ≡ length (moves earlier) + 1

module _ (h : Histories) (lawful : IsLawful h) (n : ℕ) (j : List Entry) (a : Arrival) (small : n < NODES) (grown : Grown n j) (ready : IsReadyAfter n j (what_of a)) (is : journal_at h n ≡ grow n j a)
    (each : (k : ℕ) → k < NODES → EndedBy h k (NODES * begins j a + n)) where
  -- the histories without the block
  abbrev without : Histories
  without = with_journal h n j

  here : journal_at without n ≡ j
  here = journal_at-same h n j (subst (λ k. n < k) (sym lawful.each) small)

  other : (k : ℕ) → k ≢ n → journal_at without k ≡ journal_at h k
  other k differs = journal_at-other h n k j differs

  -- nothing came after its begin
  all_ended : (k : ℕ) → k < NODES → Ended k (journal_at h k) (begins j a)
  all_ended k lt =
      let e = each k lt in
      let low = e.low in
      ended-later k (journal_at h k) e.clock (begins j a) (omega arith) e.ended

  -- what was taken was sent without it
  sent_before : (l : Link) → IsLink l → IsPrefixOf (got l (journal_at h (receiver_of l))) (sent l (journal_at without (sender_of l)))
  sent_before l link = by (sender_of l == n) refl
    where
      by : (test : Bool) → (sender_of l == n) ≡ test → IsPrefixOf (got l (journal_at h (receiver_of l))) (sent l (journal_at without (sender_of l)))
      by true same =
          let e : sender_of l ≡ n = eqb-true (sender_of l) n same in
          let more = sent-later l n j a in
          let all_sent : sent l (journal_at h (sender_of l)) ≡ sent l j ++ more.later = ap (λ k. sent l (journal_at h k)) e ∙ ap (sent l) is ∙ more.is in
          let now : sent l (journal_at without (sender_of l)) ≡ sent l j = ap (λ k. sent l (journal_at without k)) e ∙ ap (sent l) here in
          subst (IsPrefixOf (got l (journal_at h (receiver_of l)))) (sym now)
          (prefix-early (begins j a) (got l (journal_at h (receiver_of l))) (sent l j) more.later ((all_ended (receiver_of l) (receiver-small l link)).taken l) more.each
          (subst (IsPrefixOf (got l (journal_at h (receiver_of l)))) all_sent (lawful.matched l link)))
      by false differs =
          subst (λ k. IsPrefixOf (got l (journal_at h (receiver_of l))) (sent l k)) (sym (other (sender_of l) (eqb-false (sender_of l) n differs))) (lawful.matched l link)

  got_before : (l : Link) (k : ℕ) → IsPrefixOf (got l (journal_at without k)) (got l (journal_at h k))
  got_before l k = by (k == n) refl
    where
      by : (test : Bool) → (k == n) ≡ test → IsPrefixOf (got l (journal_at without k)) (got l (journal_at h k))
      by true same =
          let e : k ≡ n = eqb-true k n same in
          let now : got l (journal_at without k) ≡ got l j = ap (λ m. got l (journal_at without m)) e ∙ ap (got l) here in
          (option_to_list (got_on l (what_of a)), ap (λ m. got l (journal_at h m)) e ∙ ap (got l) is ∙ got-grow l n j a ∙ ap (λ events. events ++ option_to_list (got_on l (what_of a))) (sym now))
      by false differs =
          ([], ap (got l) (sym (other k (eqb-false k n differs))) ∙ sym (append-nil (got l (journal_at without k))))

  lawful_at : (k : ℕ) → k < NODES → IsLawfulAt k (journal_at without k)
  lawful_at k lt = by (k == n) refl
    where
      by : (test : Bool) → (k == n) ≡ test → IsLawfulAt k (journal_at without k)
      by true same =
          subst (λ m. IsLawfulAt m (journal_at without m)) (sym (eqb-true k n same)) (subst (IsLawfulAt n) (sym here) (lawful_of_grown n j grown))
      by false differs = subst (IsLawfulAt k) (sym (other k (eqb-false k n differs))) (lawful.lawful k lt)

  without-lawful : IsLawful without
  without-lawful = record {
    each = length-with_journal h n j ∙ lawful.each;
    matched = λ l link.
        IsPrefixOf-trans (got l (journal_at without (receiver_of l))) (got l (journal_at h (receiver_of l))) (sent l (journal_at without (sender_of l)))
        (got_before l (receiver_of l)) (sent_before l link);
    lawful = lawful_at;
  }

  with_block-back : with_block without n a ≡ h
  with_block-back =
      ap (λ k. with_journal without n (grow n k a)) here ∙ ap (with_journal without n) (sym is) ∙ with_journal-back h n j

  ready_now : IsReadyAfter n (journal_at without n) (what_of a)
  ready_now = subst (λ k. IsReadyAfter n k (what_of a)) (sym here) ready

  found_now : IsFound without a
  found_now = by a refl
    where
      by : (b : Arrival) → a ≡ b → IsFound without b
      by (Arrival.Gives request) e = tt
      by (Arrival.Takes event) e =
          let l = event.link in
          let can : IsReadyAfter n j (what_of (Arrival.Takes event)) = subst (λ b. IsReadyAfter n j (what_of b)) e ready in
          let on : got_on l (what_of a) ≡ Some event = ap (λ b. got_on l (what_of b)) e ∙ rw (same_link-same l) refl in
          let taken : got l (journal_at h (receiver_of l)) ≡ got l j ++ event ∷ [] =
          ap (λ k. got l (journal_at h k)) can.1 ∙ ap (got l) is ∙ got-grow l n j a ∙ ap (λ o. got l j ++ option_to_list o) on in
          let prefix = sent_before l can.0 in
          let all_sent : sent l (journal_at without (sender_of l)) ≡ got l j ++ event ∷ prefix.0 =
          prefix.1 ∙ ap (λ events. events ++ prefix.0) taken ∙ append_assoc (got l j) (event ∷ []) prefix.0 in
          let numbered = (without-lawful.lawful (sender_of l) (sender-small l can.0)).sent_numbered l in
          ap (find (λ (x : Event). x.number == event.number)) all_sent
          ∙ find-numbered (got l j) event prefix.0 (subst (λ events. IsNumbered events) all_sent numbered)

  -- the step leads from them to the histories
  step-leads : play_step without (step_for a) ≡ h
  step-leads = step-plays without n a ready_now found_now ∙ with_block-back

  step-done : IsDone (outcome_of without (step_for a))
  step-done = step-acts without n a ready_now found_now

  -- the moves without the last
  moves_here : moves_at h n ≡ moves_at without n ++ move_for n j a ∷ []
  moves_here = ap (moves_of n) is ∙ moves-grow n j a ∙ ap (λ k. moves_of n k ++ move_for n j a ∷ []) (sym here)

  moves_other : (k : ℕ) → k ≢ n → moves_at h k ≡ moves_at without k
  moves_other k differs = ap (moves_of k) (sym (other k differs))

  splits : Splits (moves h) (moves without) (move_for n j a)
  splits = range-splits (moves_at h) (moves_at without) n (move_for n j a) moves_here moves_other 0 NODES (omega arith) small

  precedes : (k : ℕ) → k < NODES → AllByRecursion (λ (z : Moved). Precedes z (move_for n j a)) (moves_at without k)
  precedes k lt = by (k == n) refl
    where
      earlier : (z : Moved) → (z.node ≡ k) × (z.clock ≤ (each k lt).clock) → k ≢ n → (test : Bool) → nat_lt z.clock (begins j a) ≡ test → Precedes z (move_for n j a)
      earlier z at differs true less = precedes-clock z (move_for n j a) (grind (arith, nat_tests))
      earlier z at differs false less =
          let low = (each k lt).low in
          let node = at.0 in
          let clock = at.1 in
          let not_less : begins j a ≤ z.clock = grind (arith, nat_tests) in
          precedes-node z (move_for n j a) (omega arith) (omega arith)

      by : (test : Bool) → (k == n) ≡ test → AllByRecursion (λ (z : Moved). Precedes z (move_for n j a)) (moves_at without k)
      by true same =
          let e : k ≡ n = eqb-true k n same in
          let after = begins-after j a in
          let now : moves_at without k ≡ moves_of n j = ap (λ m. moves_at without m) e ∙ ap (moves_of n) here in
          subst (AllByRecursion (λ (z : Moved). Precedes z (move_for n j a))) (sym now)
          (all-weaker (λ (z : Moved). (z.node ≡ n) × (z.clock ≤ clock_before j)) (λ (z : Moved). Precedes z (move_for n j a))
          (λ z at. let clock = at.1 in precedes-clock z (move_for n j a) (omega arith)) (moves_of n j) (grown-ended n grown).moved)
      by false same =
          let differs = eqb-false k n same in
          subst (AllByRecursion (λ (z : Moved). Precedes z (move_for n j a))) (moves_other k differs)
          (all-weaker (λ (z : Moved). (z.node ≡ k) × (z.clock ≤ (each k lt).clock)) (λ (z : Moved). Precedes z (move_for n j a))
          (λ z at. earlier z at differs (nat_lt z.clock (begins j a)) refl) (moves_at h k) (each k lt).ended.moved)

  merged-back : merged h ≡ merged without ++ step_for a ∷ []
  unfolding merged
  merged-back =
      let s = splits in
      let before : AllByRecursion (λ (z : Moved). Precedes z (move_for n j a)) (s.front ++ s.back) =
      subst (AllByRecursion (λ (z : Moved). Precedes z (move_for n j a))) s.fewer_is (all-range (λ (z : Moved). Precedes z (move_for n j a)) (moves_at without) 0 NODES (λ k lt. precedes k lt)) in
      ap (λ l. map (λ (m : Moved). m.step) (in_order l)) s.more_is ∙ ap (map (λ (m : Moved). m.step)) (in_order-last s.front (move_for n j a) s.back before)
      ∙ map-append (λ (m : Moved). m.step) (in_order (s.front ++ s.back)) (move_for n j a ∷ [])
      ∙ ap (λ l. map (λ (m : Moved). m.step) (in_order l) ++ step_for a ∷ []) (sym s.fewer_is)

  fewer_moves : length (moves h) ≡ length (moves without) + 1
  fewer_moves =
      let s = splits in
      omega (arith, ap length s.more_is, ap length s.fewer_is, length-append s.front (move_for n j a ∷ s.back), length-append s.front s.back)

  pub one_less : OneLess h
  one_less = record {
    earlier = without;
    last = step_for a;
    lawful = without-lawful;
    leads = step-leads;
    done = step-done;
    merged_is = merged-back;
    fewer = fewer_moves;
  }
