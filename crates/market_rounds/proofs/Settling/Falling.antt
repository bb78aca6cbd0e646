-- While anything is still to do, a round makes the measure smaller.
use Rattle.std.proofs.Common.{◌≡◌, ℕ, zero, suc, ◌+◌, ◌^◌, ◌<◌, ◌≤◌, ◌==◌, Bool, true, false, nat_lt, if◌then◌else◌, eqb-true, ltb-true, List, [], ◌∷◌, Some, None, length, take, drop, inl, inr, ◌⊎◌, refl, ap, sym, subst, ◌∙◌, arith}
use Rattle.std.specs.Prelude.{slice_index_or}
use Rattle.std.specs.List.{AllByRecursion, flat_map, list_any}
use Rattle.std.proofs.lemmas.Bool.Decides.{nat_tests}
use Rattle.std.proofs.lemmas.List.{take_all}
use Rattle.market_events.specs.declared.events.Entry.{Entry}
use Rattle.market_events.specs.declared.events.Event.{Event}
use Rattle.market_events.specs.declared.events.Offer.TheVariants as offer
use Rattle.market_events.specs.declared.links.Link.{Link}
use Rattle.market_events.specs.declared.nodes.TheConstants.{NODES}
use Rattle.market_events.specs.declared.requests.Request.{Request}
use Rattle.market_events.specs.Links.{IsLink, sender_of, receiver_of}
use Rattle.market_events.specs.Offers.{offer_of, taken_on}
use Rattle.market_events.specs.Requests.{lane_of}
use Rattle.market_history.specs.Causality.{events_taken}
use Rattle.market_history.specs.Histories.{Histories, journal_at}
use Rattle.market_history.specs.Lawful.{IsLawful}
use Rattle.market_history.specs.Once.{is_waiting}
use Rattle.market_history.specs.Outstanding.{outstanding, IsSettled, IsOldest}
use Rattle.market_history.specs.Schedule.{event_at}
use Rattle.market_history.specs.Sent.{sent, got}
use Rattle.market_laws.specs.Entries.{total_entries}
use Rattle.market_laws.specs.Runs.{Member}
use Rattle.market_laws.proofs.Bounds.Few.{few}
use Rattle.market_laws.proofs.Bounds.LinkEnds.{sender-small, receiver-small}
use Rattle.market_laws.proofs.Bounds.LinkSums.{over_links, over_links-le}
use Rattle.market_laws.proofs.Bounds.Sums.{sum_to, sum_to-le, sum_to-list}
use Rattle.market_laws.proofs.Growth.Due.{taken_on-got}
use Rattle.market_laws.proofs.Growth.Outs.{lane_of-small}
use Rattle.market_laws.proofs.Oldest.Taken.{oldest-named, oldest-taken}
use Rattle.market_laws.proofs.Oldest.Walk.{settled-or-oldest}
use Rattle.market_laws.proofs.Oldest.Places.{out-at}
use Rattle.market_laws.proofs.Origins.Cuts.{any_of_member, member_of_any}
use Rattle.market_laws.proofs.Runs.Counts.{member-left, member-right}
use Rattle.market_laws.proofs.Settled.Lanes.{lanes-idle}
use Rattle.market_links.specs.Slots.{slot_into, slot_from}
use Rattle.market_node.specs.Cores.{CoreState, acknowledged_on, window_of, committed_on}
use Rattle.market_node.specs.Offered.{with_all_offered}
use Rattle.market_rings.specs.declared.fates.Fate.{Fate}
use Rattle.market_rings.specs.declared.fates.Way.TheVariants.{Carry, Ack}
use Rattle.market_rings.specs.Fates.{FatesLeft, fates_at}
use Rattle.market_rings.specs.NodeEnds.{out_at, in_at, events_waiting, counts_waiting}
use Rattle.market_rings.specs.Pushes.{fates_left, pushed_by}
use Rattle.market_turns.specs.Queues.{IsOwnRequest, entries_offered, with_queue, queue_after}
use Rattle.market_turns.specs.Turns.{arrivals, counts_sent, with_counts}
use Rattle.market_rounds.specs.Between.{IsOfLink, IsCarriedBetween, taken_at}
use Rattle.market_rounds.specs.Nodes.{FatedNode, AreReady, AreDone, node_by, queue_by, fates_by, entries_of_node, histories_by}
use Rattle.market_rounds.specs.OneRound.{IsOneRound}
use Rattle.market_rounds.specs.Rounds.{HasMetBetween}
use Rattle.market_rounds.proofs.NewNodes.{histories_are, history_at}
use Rattle.market_rounds.proofs.NodeRounds.{one_of, met_there, turned_out, turned_in, acknowledged_then, events_then, counts_then}
use Rattle.market_rounds.proofs.OneRound.{the_round, at_new, queue_left, ready_after}
use Rattle.market_rounds.proofs.Settling.Growing.{untaken, queue_short, queue_empty}
use Rattle.market_rounds.proofs.Settling.Lists.{no_longer, prefix_short, in_window, past_front, of_member}
use Rattle.market_rounds.proofs.Settling.Oldest.{of_none, of_link_low, of_link_high}
use Rattle.market_rounds.proofs.Settling.Sums.{sum_to-still, over_links-still}
use Rattle.market_rounds.proofs.Settling.Windows.{fates_few, pushed_still, counts_reach}
use Rattle.market_rounds.proofs.Settling.Work.{fates_on, queued_at, work, first_number, waits, reaches, phase_by, phase_on, phase, to_settle}
use Rattle.market_rounds.proofs.Together.{all_begins, queue_begins}

-- how far an event is from being taken, in three steps at most
phase_most : (w : Bool) (taken acknowledged : ℕ) (counts : List ℕ) → phase_by w taken acknowledged counts ≤ 3
phase_most true taken acknowledged counts = omega arith
phase_most false taken acknowledged counts = by_test (reaches taken acknowledged) (list_any (reaches taken) counts)
  where
    by_test : (b c : Bool) → (if b then 1 else if c then 2 else 3) ≤ 3
    by_test true c = omega arith
    by_test false true = omega arith
    by_test false false = omega arith

phase_waits : (w : Bool) (taken acknowledged : ℕ) (counts : List ℕ) → w ≡ true → phase_by w taken acknowledged counts ≤ 0
phase_waits true taken acknowledged counts is = omega arith
phase_waits false taken acknowledged counts is = let no : ⊥ = cc in absurd no

phase_window : (w : Bool) (taken acknowledged : ℕ) (counts : List ℕ) → reaches taken acknowledged ≡ true → phase_by w taken acknowledged counts ≤ 1
phase_window true taken acknowledged counts is = omega arith
phase_window false taken acknowledged counts is =
    let here : phase_by false taken acknowledged counts ≡ 1 = ap (λ b. if b then 1 else if list_any (reaches taken) counts then 2 else 3) is in omega (arith, here)

phase_counts : (w : Bool) (taken acknowledged : ℕ) (counts : List ℕ) → list_any (reaches taken) counts ≡ true → phase_by w taken acknowledged counts ≤ 2
phase_counts true taken acknowledged counts is = omega arith
phase_counts false taken acknowledged counts is = by_test (reaches taken acknowledged) (list_any (reaches taken) counts) is
  where
    by_test : (b c : Bool) → c ≡ true → (if b then 1 else if c then 2 else 3) ≤ 2
    by_test true c is = omega arith
    by_test false true is = omega arith
    by_test false false is = let no : ⊥ = cc in absurd no

-- an element of what is gathered at a place
at_flat : {X Y : Type 0} (f : X → List Y) (d : X) (y : Y) → (Member y (f d) → ⊥) → (xs : List X) (i : ℕ) → Member y (f (slice_index_or xs i d)) → Member y (flat_map f xs)
at_flat f d y none [] i here = absurd (none here)
at_flat f d y none (x ∷ xs) zero here = member-left y (f x) (flat_map f xs) here
at_flat f d y none (x ∷ xs) (suc i) here = member-right y (f x) (flat_map f xs) (at_flat f d y none xs i here)

-- all entries are those of the nodes
total : (h : Histories) → length h ≡ NODES → total_entries h ≡ sum_to (λ n. length (journal_at h n)) NODES
unfolding journal_at
total h each = sum_to-list (λ (j : List Entry). length j) h [] ∙ ap (sum_to (λ n. length (slice_index_or h n []))) each

module _ (old new : List FatedNode) (ready : AreReady old) (round : IsOneRound old new) where
  abbrev h : Histories
  h = histories_by old

  abbrev later : Histories
  later = histories_by new

  lawful : IsLawful h
  lawful = ready.between.lawful

  ready_then : AreReady new
  ready_then = ready_after old new ready round

  -- what a node has once it was offered what waited
  abbrev pub offered_at : ℕ → List Entry
  offered_at n = with_all_offered n (journal_at h n) (arrivals (node_by old n).ends)

  offered_is : (n : ℕ) → n < NODES → entries_offered (node_by old n) ≡ offered_at n
  offered_is n low =
      let is = ready.between.each n low in
      ap (λ k. with_all_offered k (node_by old n).core.entries (arrivals (node_by old n).ends)) is.node_is
      ∙ ap (λ es. with_all_offered n es (arrivals (node_by old n).ends)) is.entries

  pub entries_then : (n : ℕ) → n < NODES → journal_at later n ≡ with_queue n (offered_at n) (queue_by old n)
  entries_then n low =
      history_at new n (omega (arith, low, ready_then.many))
      ∙ ap entries_of_node (at_new old new ready round n low)
      ∙ ap entries_of_node (round.meeting.others n low)
      ∙ (round.turns n low).entries
      ∙ ap (λ k. with_queue k (entries_offered (node_by old n)) (queue_by old n)) (ready.between.each n low).node_is
      ∙ ap (λ es. with_queue n es (queue_by old n)) (offered_is n low)

  pub queue_then : (n : ℕ) → n < NODES → queue_by new n ≡ queue_after (offered_at n) (queue_by old n)
  queue_then n low = queue_left old new ready round n low ∙ ap (λ es. queue_after es (queue_by old n)) (offered_is n low)

  fates_then : (n : ℕ) → n < NODES → fates_by new n ≡ fates_by round.turned n
  fates_then n low =
      ap (λ (node : FatedNode). node.fates) (at_new old new ready round n low) ∙ ap (λ (node : FatedNode). node.fates) (round.meeting.others n low)

  ends_then : (n : ℕ) → n < NODES → (node_by new n).ends ≡ (node_by round.met n).ends
  ends_then n low = ap (λ (node : FatedNode). node.node.ends) (at_new old new ready round n low)

  -- journals get no shorter, queues no longer, and fates no more
  offered_long : (n : ℕ) → length (journal_at h n) ≤ length (offered_at n)
  offered_long n = prefix_short (journal_at h n) (offered_at n) (all_begins n (journal_at h n) (arrivals (node_by old n).ends))

  queued_long : (n : ℕ) → n < NODES → length (offered_at n) ≤ length (journal_at later n)
  queued_long n low =
      let more = prefix_short (offered_at n) (with_queue n (offered_at n) (queue_by old n)) (queue_begins n (offered_at n) (queue_by old n)) in
      let long : length (journal_at later n) ≡ length (with_queue n (offered_at n) (queue_by old n)) = ap (λ (es : List Entry). length es) (entries_then n low) in
      omega (arith, more, long)

  journal_long : (n : ℕ) → n < NODES → length (journal_at h n) ≤ length (journal_at later n)
  journal_long n low = omega (arith, offered_long n, queued_long n low)

  queue_less : (n : ℕ) → n < NODES → queued_at new n ≤ queued_at old n
  queue_less n low =
      let long : queued_at new n ≡ length (queue_after (offered_at n) (queue_by old n)) = ap (λ (rs : List Request). length rs) (queue_then n low) in
      omega (arith, long, queue_short (offered_at n) (queue_by old n))

  module _ (link : Link) (on : IsLink link) where
    abbrev carry_before : List Fate
    carry_before = fates_at (fates_by old (sender_of link)) Carry (slot_from link)

    abbrev ack_before : List Fate
    ack_before = fates_at (fates_by old (receiver_of link)) Ack (slot_into link)

    abbrev window : List Event
    window = window_of (node_by old (sender_of link)).core link

    abbrev back : List ℕ
    back = counts_sent (node_by old (receiver_of link)).core link

    carry_then : fates_at (fates_by new (sender_of link)) Carry (slot_from link) ≡ fates_left window carry_before
    carry_then =
        ap (λ (f : FatesLeft). fates_at f Carry (slot_from link)) (fates_then (sender_of link) (sender-small link on))
        ∙ (turned_out h (node_by old) (node_by round.turned) (node_by round.met) (queue_by old) (fates_by old) (fates_by round.turned) ready.between (the_round old new ready round) link on).unused

    ack_then : fates_at (fates_by new (receiver_of link)) Ack (slot_into link) ≡ fates_left back ack_before
    ack_then =
        ap (λ (f : FatesLeft). fates_at f Ack (slot_into link)) (fates_then (receiver_of link) (receiver-small link on))
        ∙ (turned_in h (node_by old) (node_by round.turned) (node_by round.met) (queue_by old) (fates_by old) (fates_by round.turned) ready.between (the_round old new ready round) link on).unused

    carry_few : length (fates_at (fates_by new (sender_of link)) Carry (slot_from link)) ≤ length carry_before
    carry_few =
        let long : length (fates_at (fates_by new (sender_of link)) Carry (slot_from link)) ≡ length (fates_left window carry_before) = ap (λ (fs : List Fate). length fs) carry_then in
        omega (arith, long, fates_few window carry_before)

    ack_few : length (fates_at (fates_by new (receiver_of link)) Ack (slot_into link)) ≤ length ack_before
    ack_few =
        let long : length (fates_at (fates_by new (receiver_of link)) Ack (slot_into link)) ≡ length (fates_left back ack_before) = ap (λ (fs : List Fate). length fs) ack_then in
        omega (arith, long, fates_few back ack_before)

  fates_less : (link : Link) → IsLink link → fates_on new link ≤ fates_on old link
  fates_less link on = omega (arith, carry_few link on, ack_few link on)

  total_old : total_entries h ≡ sum_to (λ n. length (journal_at h n)) NODES
  total_old = total h lawful.each

  total_new : total_entries later ≡ sum_to (λ n. length (journal_at later n)) NODES
  total_new = total later ready_then.between.lawful.each

  entries_more : total_entries h ≤ total_entries later
  entries_more = omega (arith, total_old, total_new, sum_to-le (λ n. length (journal_at h n)) (λ n. length (journal_at later n)) NODES journal_long)

  queues_less : sum_to (queued_at new) NODES ≤ sum_to (queued_at old) NODES
  queues_less = sum_to-le (queued_at new) (queued_at old) NODES queue_less

  all_fates_less : over_links (fates_on new) ≤ over_links (fates_on old)
  all_fates_less = over_links-le (fates_on new) (fates_on old) fates_less

  work_less : work new ≤ work old
  work_less = omega (arith, entries_more, queues_less, all_fates_less)

  phase_few : phase new ≤ 3
  phase_few = by (settled-or-oldest later ready_then.between.lawful)
    where
      by : IsSettled later ⊎ ((link : Link) × (number : ℕ) × IsLink link × IsOldest later link number) → phase new ≤ 3
      by (inl settled) = omega (arith, of_none later (phase_on new) settled)
      by (inr (link, number, on, o)) =
          omega (
            arith,
            of_link_high later (phase_on new) ready_then.between.lawful link number on o,
            phase_most (waits new link) (taken_at later link) (acknowledged_on (node_by new (sender_of link)).core link) (counts_waiting (out_at (node_by new (sender_of link)).ends (slot_from link))),
          )

  -- where no work was done
  module _ (still : work old ≤ work new) where
    few_then : total_entries later < 2 ^ 24
    few_then = few later ready_then.between.lawful

    same_length : (n : ℕ) → n < NODES → length (journal_at later n) ≤ length (journal_at h n)
    same_length =
        sum_to-still (λ n. length (journal_at later n)) (λ n. length (journal_at h n)) NODES journal_long
        (omega (arith, still, few_then, entries_more, queues_less, all_fates_less, total_old, total_new))

    same_queue : (n : ℕ) → n < NODES → queued_at old n ≤ queued_at new n
    same_queue = sum_to-still (queued_at old) (queued_at new) NODES queue_less (omega (arith, still, few_then, entries_more, queues_less, all_fates_less))

    same_fates : (link : Link) → IsLink link → fates_on old link ≤ fates_on new link
    same_fates = over_links-still (fates_on old) (fates_on new) fates_less (omega (arith, still, few_then, entries_more, queues_less, all_fates_less))

    offered_short : (n : ℕ) → n < NODES → length (offered_at n) ≤ length (journal_at h n)
    offered_short n low = omega (arith, queued_long n low, same_length n low)

    offered_same : (n : ℕ) → n < NODES → offered_at n ≡ journal_at h n
    offered_same n low = no_longer (journal_at h n) (offered_at n) (all_begins n (journal_at h n) (arrivals (node_by old n).ends)) (offered_short n low)

    queued_same : (n : ℕ) → n < NODES → journal_at later n ≡ journal_at h n
    queued_same n low =
        entries_then n low
        ∙ no_longer (offered_at n) (with_queue n (offered_at n) (queue_by old n)) (queue_begins n (offered_at n) (queue_by old n))
        (let long : length (journal_at later n) ≡ length (with_queue n (offered_at n) (queue_by old n)) = ap (λ (es : List Entry). length es) (entries_then n low) in
        omega (arith, long, same_length n low, offered_long n))
        ∙ offered_same n low

    same_histories : later ≡ h
    same_histories =
        histories_are new h ready_then.many lawful.each (λ n low. sym (history_at new n (omega (arith, low, ready_then.many))) ∙ queued_same n low)

    -- nothing was taken of what waited, and a lane that does not wait has an empty queue
    none_taken : (n : ℕ) → n < NODES → (e : Event) → Member e (arrivals (node_by old n).ends) → offer_of n (events_taken (journal_at h n)) e ≡ offer.Take → ⊥
    none_taken n low = untaken n (journal_at h n) (arrivals (node_by old n).ends) (offered_short n low)

    none_queued : (n : ℕ) → n < NODES → is_waiting (journal_at h n) ≡ false → queue_by old n ≡ []
    none_queued n low free =
        queue_empty n (journal_at h n) (queue_by old n) free
        (subst (λ es. length (with_queue n es (queue_by old n)) ≤ length (journal_at h n)) (offered_same n low)
        (let long : length (journal_at later n) ≡ length (with_queue n (offered_at n) (queue_by old n)) = ap (λ (es : List Entry). length es) (entries_then n low) in
        omega (arith, long, same_length n low)))
        (subst (λ es. length (queue_by old n) ≤ length (queue_after es (queue_by old n))) (offered_same n low)
        (let long : queued_at new n ≡ length (queue_after (offered_at n) (queue_by old n)) = ap (λ (rs : List Request). length rs) (queue_then n low) in
        omega (arith, long, same_queue n low)))

    settled_done : IsSettled h → AreDone old
    settled_done settled = record { settled = settled; queues = λ n low. by_queue n low (queue_by old n) refl (ready.own n low) }
      where
        by_queue : (n : ℕ) → n < NODES → (queue : List Request) → queue_by old n ≡ queue → AllByRecursion (IsOwnRequest n) queue → queue_by old n ≡ []
        by_queue n low [] is own = is
        by_queue n low (r ∷ rs) is own =
            none_queued n low (subst (λ k. is_waiting (journal_at h k) ≡ false) own.0.1 (lanes-idle h lawful settled (lane_of r.id) (lane_of-small r.id)))

    -- of the oldest event
    module _ (link : Link) (count : ℕ) (on : IsLink link) (o : IsOldest h link count) where
      abbrev core : CoreState
      core = (node_by old (sender_of link)).core

      abbrev taken : ℕ
      taken = taken_at h link

      abbrev acknowledged : ℕ
      acknowledged = acknowledged_on core link

      low_s : sender_of link < NODES
      low_s = sender-small link on

      low_r : receiver_of link < NODES
      low_r = receiver-small link on

      abbrev there : IsCarriedBetween h link (node_by old (sender_of link)) (node_by old (receiver_of link))
      there = ready.between.links link on

      abbrev m : HasMetBetween link (node_by round.turned (sender_of link)).ends (node_by round.turned (receiver_of link)).ends (node_by round.met (sender_of link)).ends (node_by round.met (receiver_of link)).ends
      m = met_there h (node_by old) (node_by round.turned) (node_by round.met) (queue_by old) (fates_by old) (fates_by round.turned) ready.between (the_round old new ready round) link on

      own_link : o.event.link ≡ link
      own_link = let at = out-at h lawful link on [] o.event o.rest o.first in at.on

      number_is : first_number (outstanding h link) ≡ o.event.number
      number_is = ap first_number o.first

      taken_is : taken ≡ length (got link (journal_at h (receiver_of link)))
      taken_is = taken_on-got link (journal_at h (receiver_of link))

      -- the events of the link, all of them released
      all_sent : sent link (take core.committed core.entries) ≡ sent link (journal_at h (sender_of link))
      all_sent =
          let is = ready.between.each (sender_of link) low_s in
          ap (λ n. sent link (take n core.entries)) is.committed
          ∙ ap (λ es. sent link (take (length (journal_at h (sender_of link))) es)) is.entries
          ∙ ap (sent link) (take_all (length (journal_at h (sender_of link))) (journal_at h (sender_of link)) (omega arith))

      first_left : drop taken (sent link (take core.committed core.entries)) ≡ o.event ∷ o.rest
      first_left = ap (drop taken) all_sent ∙ ap (λ n. drop n (sent link (journal_at h (sender_of link)))) taken_is ∙ o.first

      -- it does not wait, since it would be taken
      is_it : (x : Event) → IsOfLink h link x → x.number ≡ o.event.number → x ≡ o.event
      is_it x of same =
          one_of (event_at h link count) x o.event
          (ap (event_at h link) (sym (same ∙ o.named)) ∙ subst (λ l. event_at h l x.number ≡ Some x) of.on of.made.made)
          (oldest-named h lawful link count on o)

      would_be_taken : offer_of (receiver_of link) (events_taken (journal_at h (receiver_of link))) o.event ≡ offer.Take
      would_be_taken =
          subst (λ l. offer_of (receiver_of l) (events_taken (journal_at h (receiver_of l))) o.event ≡ offer.Take) own_link (oldest-taken h lawful link count on o)

      waits_not : waits old link ≡ true → ⊥
      waits_not test =
          let found = member_of_any (λ (e : Event). e.number == first_number (outstanding h link)) (events_waiting (in_at (node_by old (receiver_of link)).ends (slot_into link))) test in
          let number : found.0.number ≡ first_number (outstanding h link) = eqb-true found.0.number (first_number (outstanding h link)) found.2 in
          let here : Member found.0 there.into.events.waiting = subst (λ w. Member found.0 (events_waiting w)) there.at_receiver found.1 in
          let is = is_it found.0 (of_member (IsOfLink h link) found.0 there.into.events.waiting there.carried.waiting_made here) (number ∙ number_is) in
          none_taken (receiver_of link) low_r o.event
          (at_flat events_waiting None o.event (λ never. never) (node_by old (receiver_of link)).ends.ins (slot_into link) (subst (λ x. Member x (events_waiting (in_at (node_by old (receiver_of link)).ends (slot_into link)))) is found.1))
          would_be_taken

      same_carry : length (carry_before link on) ≤ length (fates_left (window link on) (carry_before link on))
      same_carry =
          let long : length (fates_at (fates_by new (sender_of link)) Carry (slot_from link)) ≡ length (fates_left (window link on) (carry_before link on)) = ap (λ (fs : List Fate). length fs) (carry_then link on) in
          omega (arith, long, same_fates link on, ack_few link on)

      same_ack : length (ack_before link on) ≤ length (fates_left (back link on) (ack_before link on))
      same_ack =
          let long : length (fates_at (fates_by new (receiver_of link)) Ack (slot_into link)) ≡ length (fates_left (back link on) (ack_before link on)) = ap (λ (fs : List Fate). length fs) (ack_then link on) in
          omega (arith, long, same_fates link on, carry_few link on)

      -- in the window: it is pushed, and waits
      waits_then : reaches taken acknowledged ≡ true → waits new link ≡ true
      waits_then test =
          let near : taken < acknowledged + 7 = ltb-true taken (acknowledged + 7) test in
          let inside : Member o.event (window link on) = in_window acknowledged taken 7 (sent link (take core.committed core.entries)) o.event o.rest there.carried.acknowledged_taken near first_left in
          let pushed : Member o.event (pushed_by (window link on) (carry_before link on) there.out.events.held) = pushed_still o.event (window link on) (carry_before link on) there.out.events.held inside same_carry in
          let waiting : Member o.event m.new_into.events.waiting =
          subst (Member o.event) (sym (events_then h (node_by old) (node_by round.turned) (node_by round.met) (queue_by old) (fates_by old) (fates_by round.turned) ready.between (the_round old new ready round) link on)) pushed in
          let at : in_at (node_by new (receiver_of link)).ends (slot_into link) ≡ Some m.new_into = ap (λ ends. in_at ends (slot_into link)) (ends_then (receiver_of link) low_r) ∙ m.new_at_receiver in
          let own : first_number (outstanding later link) ≡ o.event.number = ap (λ k. first_number (outstanding k link)) same_histories ∙ number_is in
          let passes : (o.event.number == first_number (outstanding later link)) ≡ true = grind (arith, nat_tests) in
          any_of_member (λ (e : Event). e.number == first_number (outstanding later link)) o.event (events_waiting (in_at (node_by new (receiver_of link)).ends (slot_into link)))
          (subst (λ w. Member o.event (events_waiting w)) (sym at) waiting) passes

      same_taken : taken_at later link ≡ taken
      same_taken = ap (λ k. taken_at k link) same_histories

      acknowledged_now : acknowledged_on (node_by new (sender_of link)).core link ≡ with_counts link core.entries core.committed acknowledged there.out.counts.waiting
      acknowledged_now =
          ap (λ (node : FatedNode). acknowledged_on node.node.core link) (at_new old new ready round (sender_of link) low_s)
          ∙ acknowledged_then h (node_by old) (node_by round.turned) (node_by round.met) (queue_by old) (fates_by old) (fates_by round.turned) ready.between (the_round old new ready round) link on

      -- a count that brings it into the window waits: it is noted
      reaches_then : list_any (reaches taken) (counts_waiting (out_at (node_by old (sender_of link)).ends (slot_from link))) ≡ true → reaches (taken_at later link) (acknowledged_on (node_by new (sender_of link)).core link) ≡ true
      reaches_then test =
          let found = member_of_any (reaches taken) (counts_waiting (out_at (node_by old (sender_of link)).ends (slot_from link))) test in
          let near : taken < found.0 + 7 = ltb-true taken (found.0 + 7) found.2 in
          let here : Member found.0 there.out.counts.waiting = subst (λ w. Member found.0 (counts_waiting w)) there.at_sender found.1 in
          let low : found.0 ≤ taken = of_member (λ n. n ≤ taken) found.0 there.out.counts.waiting there.carried.waiting_taken here in
          let made : taken < length (sent link (take core.committed core.entries)) = past_front taken (sent link (take core.committed core.entries)) o.event o.rest first_left in
          let noted = counts_reach link core.entries core.committed acknowledged there.out.counts.waiting found.0 here (omega (arith, low, made)) in
          let now : taken_at later link < acknowledged_on (node_by new (sender_of link)).core link + 7 = omega (arith, near, noted, same_taken, acknowledged_now) in
          grind (arith, nat_tests)

      committed_is : committed_on (node_by old (receiver_of link)).core link ≡ taken
      committed_is =
          let is = ready.between.each (receiver_of link) low_r in
          let other = (node_by old (receiver_of link)).core in
          ap (λ n. taken_on (events_taken (take n other.entries)) link) is.committed
          ∙ ap (λ es. taken_on (events_taken (take (length (journal_at h (receiver_of link))) es)) link) is.entries
          ∙ ap (λ es. taken_on (events_taken es) link) (take_all (length (journal_at h (receiver_of link))) (journal_at h (receiver_of link)) (omega arith))

      -- past the window: the count of what was taken is sent back
      counted : reaches taken acknowledged ≡ false → Member taken (back link on)
      counted test =
          let far : acknowledged + 7 ≤ taken = grind (arith, nat_tests) in
          let same : taken_on (events_taken (node_by old (receiver_of link)).core.entries) link ≡ taken = ap (λ es. taken_on (events_taken es) link) (ready.between.each (receiver_of link) low_r).entries in
          let some : nat_lt 0 (taken_on (events_taken (node_by old (receiver_of link)).core.entries) link) ≡ true = grind (arith, nat_tests) in
          let is : back link on ≡ committed_on (node_by old (receiver_of link)).core link ∷ [] = ap (λ b. if b then committed_on (node_by old (receiver_of link)).core link ∷ [] else []) some in
          subst (Member taken) (sym is) (inl (sym committed_is))

      counts_wait : reaches taken acknowledged ≡ false → list_any (reaches (taken_at later link)) (counts_waiting (out_at (node_by new (sender_of link)).ends (slot_from link))) ≡ true
      counts_wait test =
          let pushed : Member taken (pushed_by (back link on) (ack_before link on) there.into.counts.held) = pushed_still taken (back link on) (ack_before link on) there.into.counts.held (counted test) same_ack in
          let waiting : Member taken m.new_out.counts.waiting =
          subst (Member taken) (sym (counts_then h (node_by old) (node_by round.turned) (node_by round.met) (queue_by old) (fates_by old) (fates_by round.turned) ready.between (the_round old new ready round) link on)) pushed in
          let at : out_at (node_by new (sender_of link)).ends (slot_from link) ≡ Some m.new_out = ap (λ ends. out_at ends (slot_from link)) (ends_then (sender_of link) low_s) ∙ m.new_at_sender in
          let near : taken_at later link < taken + 7 = omega (arith, same_taken) in
          let passes : reaches (taken_at later link) taken ≡ true = grind (arith, nat_tests) in
          any_of_member (reaches (taken_at later link)) taken (counts_waiting (out_at (node_by new (sender_of link)).ends (slot_from link))) (subst (λ w. Member taken (counts_waiting w)) (sym at) waiting) passes

      nearer : phase_on new link < phase_on old link
      nearer = by_wait (waits old link) refl (reaches taken acknowledged) refl (list_any (reaches taken) (counts_waiting (out_at (node_by old (sender_of link)).ends (slot_from link)))) refl
        where
          by_wait : (w : Bool) → waits old link ≡ w → (b : Bool) → reaches taken acknowledged ≡ b → (c : Bool) → list_any (reaches taken) (counts_waiting (out_at (node_by old (sender_of link)).ends (slot_from link))) ≡ c
              → phase_on new link < (if w then 0 else if b then 1 else if c then 2 else 3)
          by_wait true w b is_b c is_c = absurd (waits_not w)
          by_wait false w true is_b c is_c = omega (arith, phase_waits (waits new link) (taken_at later link) (acknowledged_on (node_by new (sender_of link)).core link) (counts_waiting (out_at (node_by new (sender_of link)).ends (slot_from link))) (waits_then is_b))
          by_wait false w false is_b true is_c = omega (arith, phase_window (waits new link) (taken_at later link) (acknowledged_on (node_by new (sender_of link)).core link) (counts_waiting (out_at (node_by new (sender_of link)).ends (slot_from link))) (reaches_then is_c))
          by_wait false w false is_b false is_c = omega (arith, phase_counts (waits new link) (taken_at later link) (acknowledged_on (node_by new (sender_of link)).core link) (counts_waiting (out_at (node_by new (sender_of link)).ends (slot_from link))) (counts_wait is_b))

      phase_less : phase new < phase old
      phase_less =
          let o_then : IsOldest later link count = subst (λ k. IsOldest k link count) (sym same_histories) o in
          omega (arith, nearer, of_link_low h (phase_on old) lawful link count on o, of_link_high later (phase_on new) ready_then.between.lawful link count on o_then)

  -- the measure falls
  pub falls : (AreDone old → ⊥) → to_settle new < to_settle old
  falls undone = by_work (nat_lt (work new) (work old)) refl
    where
      by_oldest : work old ≤ work new → IsSettled h ⊎ ((link : Link) × (number : ℕ) × IsLink link × IsOldest h link number) → to_settle new < to_settle old
      by_oldest still (inl settled) = absurd (undone (settled_done still settled))
      by_oldest still (inr (link, number, on, o)) = omega (arith, still, work_less, phase_less still link number on o)

      by_work : (b : Bool) → nat_lt (work new) (work old) ≡ b → to_settle new < to_settle old
      by_work true test = let less : work new < work old = grind (arith, nat_tests) in omega (arith, less, phase_few)
      by_work false test = let still : work old ≤ work new = grind (arith, nat_tests) in by_oldest still (settled-or-oldest h lawful)
