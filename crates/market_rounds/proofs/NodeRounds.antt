-- What holds between rounds holds after one more.
use Rattle.std.proofs.Common.{◌≡◌, ℕ, zero, suc, ◌+◌, ◌<◌, ◌≤◌, Bool, true, false, nat_lt, if◌then◌else◌, List, [], ◌∷◌, Option, Some, None, length, take, drop, refl, ap, subst, sym, ◌∙◌, arith, length-append}
use Rattle.std.specs.List.{AllByRecursion, flat_map, slice_index_or}
use Rattle.std.proofs.lemmas.List.{length-take, take_all}
use Rattle.std.proofs.lemmas.List.Elements.{filter_map-append}
use Rattle.market_events.specs.declared.events.Entry.{Entry}
use Rattle.market_events.specs.declared.events.Event.{Event}
use Rattle.market_events.specs.declared.links.Link.{Link}
use Rattle.market_events.specs.declared.nodes.TheConstants.{NODES}
use Rattle.market_events.specs.declared.requests.Request.{Request}
use Rattle.market_events.specs.Links.{IsLink, sender_of, receiver_of}
use Rattle.market_events.specs.Offers.{taken_on}
use Rattle.market_history.specs.Causality.{events_taken}
use Rattle.market_history.specs.Histories.{Histories, journal_at}
use Rattle.market_history.specs.Sent.{sent, got, got_on, IsPrefixOf}
use Rattle.market_history.specs.Schedule.{play}
use Rattle.market_laws.proofs.Bounds.LinkEnds.{sender-small, receiver-small}
use Rattle.market_laws.proofs.Growth.Due.{taken_on-got}
use Rattle.market_laws.proofs.Growth.Members.{all-append, all-weaker}
use Rattle.market_links.specs.Slots.{slot_into, slot_from}
use Rattle.market_node.specs.Cores.{CoreState, acknowledged_on, window_of, committed_on}
use Rattle.market_node.specs.Offered.{with_all_offered}
use Rattle.market_rings.specs.declared.fates.Way.TheVariants.{Carry, Ack}
use Rattle.market_rings.specs.declared.link_ends.LinkOut.{LinkOut}
use Rattle.market_rings.specs.declared.link_ends.LinkIn.{LinkIn}
use Rattle.market_rings.specs.Fates.{FatesLeft, fates_at}
use Rattle.market_rings.specs.LinkEnds.{HasMet}
use Rattle.market_rings.specs.NodeEnds.{out_at, in_at, events_waiting}
use Rattle.market_rings.specs.Pushes.{pushed_by}
use Rattle.market_rings.specs.RingEnds.{with_sent, with_all_popped}
use Rattle.market_rings.specs.Wiring.{HasLinkIn}
use Rattle.market_turns.specs.Queues.{entries_offered, with_entries_of, with_queue}
use Rattle.market_turns.specs.Turns.{NodeState, HasTurnedOut, HasTurnedIn, arrivals, counts_sent, with_counts, with_node_committed}
use Rattle.market_rounds.specs.Between.{IsOfLink, IsCarried, IsCarriedBetween, IsNode, AreBetween, taken_at}
use Rattle.market_rounds.specs.Rounds.{HasMetBetween, IsRound}
use Rattle.market_rounds.specs.Turning.{WasMade, after_turns, turns_steps}
use Rattle.market_rounds.proofs.LinkRounds.{link_round}
use Rattle.market_rounds.proofs.MadeEvents.{sent_made}
use Rattle.market_rounds.proofs.RingRounds.{ring_round}
use Rattle.market_rounds.proofs.Together.{AreTurned, turned_first, turned_next, turn_begins}

-- what holds at each slot holds of all that is gathered
flat_all : {X Y : Type 0} (P : Y → Type 0) (f : X → List Y) (d : X) (xs : List X) → ((i : ℕ) → i < length xs → AllByRecursion P (f (slice_index_or xs i d))) → AllByRecursion P (flat_map f xs)
flat_all P f d [] each = tt
flat_all P f d (x ∷ xs) each =
    all-append P (f x) (flat_map f xs) (each 0 (omega arith)) (flat_all P f d xs (λ i below. each (suc i) (omega arith)))

-- what holds of all holds of a front, and without a front
all_take : {A : Type 0} (P : A → Type 0) (n : ℕ) (xs : List A) → AllByRecursion P xs → AllByRecursion P (take n xs)
all_take P zero xs all = tt
all_take P (suc n) [] all = tt
all_take P (suc n) (x ∷ xs) all = (all.0, all_take P n xs all.1)

all_drop : {A : Type 0} (P : A → Type 0) (n : ℕ) (xs : List A) → AllByRecursion P xs → AllByRecursion P (drop n xs)
all_drop P zero xs all = all
all_drop P (suc n) [] all = tt
all_drop P (suc n) (x ∷ xs) all = all_drop P n xs all.1

pub one_of : {A : Type 0} (o : Option A) (x y : A) → o ≡ Some x → o ≡ Some y → x ≡ y
one_of o x y a b = let same : Some x ≡ Some y = sym a ∙ b in cc

-- what waits at a node was made, and is for it
pub record IsFor (h : Histories) (n : ℕ) (e : Event) : Type 0 where
  pub made : WasMade h e
  pub into : receiver_of e.link ≡ n

module _ (h : Histories) (nodes : ℕ → NodeState) (between : AreBetween h nodes) where
  at_slot : (n : ℕ) → n < NODES → (slot : ℕ) (o : Option LinkIn) → in_at (nodes n).ends slot ≡ o → AllByRecursion (IsFor h n) (events_waiting o)
  at_slot n low slot None is = tt
  at_slot n low slot (Some into) is =
      let has : HasLinkIn n slot = between.only n slot into low is in
      let there = between.links has.link has.is_link in
      let same : into ≡ there.into =
      one_of (in_at (nodes n).ends slot) into there.into is
      (subst (λ k. in_at (nodes k).ends slot ≡ Some there.into) has.receiver (subst (λ s. in_at (nodes (receiver_of has.link)).ends s ≡ Some there.into) has.at_slot there.at_receiver)) in
      subst (λ (i : LinkIn). AllByRecursion (IsFor h n) i.events.waiting) (sym same)
      (all-weaker (IsOfLink h has.link) (IsFor h n) (λ e of. record { made = of.made; into = ap receiver_of of.on ∙ has.receiver }) there.into.events.waiting there.carried.waiting_made)

  pub all_waiting : (n : ℕ) → n < NODES → AllByRecursion (IsFor h n) (arrivals (nodes n).ends)
  all_waiting n low =
      flat_all (IsFor h n) events_waiting None (nodes n).ends.ins (λ slot below. at_slot n low slot (slice_index_or (nodes n).ends.ins slot None) refl)

  -- the window of a link is of made events of the link
  pub window_made : (link : Link) → IsLink link → AllByRecursion (IsOfLink h link) (window_of (nodes (sender_of link)).core link)
  window_made link on =
      let is = between.each (sender_of link) (sender-small link on) in
      let all : sent link (take (nodes (sender_of link)).core.committed (nodes (sender_of link)).core.entries) ≡ sent link (journal_at h (sender_of link)) =
      ap (λ n. sent link (take n (nodes (sender_of link)).core.entries)) is.committed
      ∙ ap (λ es. sent link (take (length (journal_at h (sender_of link))) es)) is.entries
      ∙ ap (sent link) (take_all (length (journal_at h (sender_of link))) (journal_at h (sender_of link)) (omega arith)) in
      all_take (IsOfLink h link) 7 (drop (acknowledged_on (nodes (sender_of link)).core link) (sent link (take (nodes (sender_of link)).core.committed (nodes (sender_of link)).core.entries)))
      (all_drop (IsOfLink h link) (acknowledged_on (nodes (sender_of link)).core link) (sent link (take (nodes (sender_of link)).core.committed (nodes (sender_of link)).core.entries))
      (subst (AllByRecursion (IsOfLink h link)) (sym all) (sent_made h link between.lawful on)))

  -- and of seven at most
  pub window_few : (link : Link) → length (window_of (nodes (sender_of link)).core link) ≤ 7
  window_few link =
      let most = length-take 7 (drop (acknowledged_on (nodes (sender_of link)).core link) (sent link (take (nodes (sender_of link)).core.committed (nodes (sender_of link)).core.entries))) in omega arith

  -- the count that is sent back is that of the events taken
  counts_by : (b : Bool) (n top : ℕ) → n ≤ top → AllByRecursion (λ k. k ≤ top) (if b then n ∷ [] else [])
  counts_by true n top few = (few, tt)
  counts_by false n top few = tt

  counts_length : (b : Bool) (n : ℕ) → length (if b then n ∷ [] else []) ≤ 1
  counts_length true n = omega arith
  counts_length false n = omega arith

  pub counts_taken : (link : Link) → IsLink link → AllByRecursion (λ k. k ≤ taken_at h link) (counts_sent (nodes (receiver_of link)).core link)
  counts_taken link on =
      let is = between.each (receiver_of link) (receiver-small link on) in
      let all : committed_on (nodes (receiver_of link)).core link ≡ taken_at h link =
      ap (λ n. taken_on (events_taken (take n (nodes (receiver_of link)).core.entries)) link) is.committed
      ∙ ap (λ es. taken_on (events_taken (take (length (journal_at h (receiver_of link))) es)) link) is.entries
      ∙ ap (λ es. taken_on (events_taken es) link) (take_all (length (journal_at h (receiver_of link))) (journal_at h (receiver_of link)) (omega arith)) in
      counts_by (nat_lt 0 (taken_on (events_taken (nodes (receiver_of link)).core.entries) link)) (committed_on (nodes (receiver_of link)).core link) (taken_at h link) (omega arith)

  pub counts_few : (link : Link) → length (counts_sent (nodes (receiver_of link)).core link) ≤ 1
  counts_few link = counts_length (nat_lt 0 (taken_on (events_taken (nodes (receiver_of link)).core.entries) link)) (committed_on (nodes (receiver_of link)).core link)

-- as many events were taken at least
taken_more : (link : Link) (xs ys : List Entry) → IsPrefixOf xs ys → taken_on (events_taken xs) link ≤ taken_on (events_taken ys) link
taken_more link xs ys (more, is) =
    let long : length (got link ys) ≡ length (got link xs) + length (got link more) =
    ap (λ es. length (got link es)) is ∙ ap (λ (es : List Event). length es) (filter_map-append (λ (x : Entry). got_on link x.what) xs more) ∙ length-append (got link xs) (got link more) in
    omega (arith, taken_on-got link xs, taken_on-got link ys)

module _ (h : Histories) (nodes turned met : ℕ → NodeState) (queues : ℕ → List Request) (fates left : ℕ → FatesLeft) (between : AreBetween h nodes) (round : IsRound nodes turned met queues fates left) where
  abbrev events : ℕ → List Event
  events n = arrivals (nodes n).ends

  abbrev later : Histories
  later = after_turns events queues h NODES

  made_at : (n : ℕ) → n < NODES → AllByRecursion (WasMade h) (events n)
  made_at n low = all-weaker (IsFor h n) (WasMade h) (λ e is. is.made) (events n) (all_waiting h nodes between n low)

  into_at : (n : ℕ) → n < NODES → AllByRecursion (λ (e : Event). receiver_of e.link ≡ n) (events n)
  into_at n low = all-weaker (IsFor h n) (λ (e : Event). receiver_of e.link ≡ n) (λ e is. is.into) (events n) (all_waiting h nodes between n low)

  abbrev ToNode : ℕ → Type 0
  ToNode n = AreTurned events queues h between.lawful made_at into_at round.own n

  up_to : (k : ℕ) → k ≤ NODES → ToNode k
  up_to zero few = turned_first events queues h between.lawful made_at into_at round.own
  up_to (suc k) few = turned_next events queues h between.lawful made_at into_at round.own k (omega arith) (up_to k (omega arith))

  all_turned : ToNode NODES
  all_turned = up_to NODES (omega arith)

  entries_at : (n : ℕ) → n < NODES → (met n).core.entries ≡ journal_at later n
  entries_at n low =
      let is = between.each n low in
      ap (λ (s : CoreState). s.entries) (round.cores n low)
      ∙ (round.turns n low).entries
      ∙ ap (λ k. with_queue k (with_all_offered k (nodes n).core.entries (events n)) (queues n)) is.node_is
      ∙ ap (λ es. with_queue n (with_all_offered n es (events n)) (queues n)) is.entries
      ∙ sym (all_turned.turned n low)

  node_at : (n : ℕ) → n < NODES → IsNode later n (with_node_committed (met n))
  node_at n low = record {
    node_is =
        ap (λ (s : CoreState). s.node) (round.cores n low) ∙ (round.turns n low).links.node ∙ (between.each n low).node_is;
    entries = entries_at n low;
    committed = ap (λ (es : List Entry). length es) (entries_at n low);
    slots = ap (λ (s : CoreState). length s.acknowledged) (round.cores n low) ∙ (round.turns n low).slots;
  }

  more_taken : (link : Link) → IsLink link → taken_at h link ≤ taken_at later link
  more_taken link on =
      let r = receiver_of link in
      let low = receiver-small link on in
      taken_more link (journal_at h r) (journal_at later r)
      (subst (IsPrefixOf (journal_at h r)) (sym (all_turned.turned r low)) (turn_begins r (journal_at h r) (events r) (queues r)))

  module _ (link : Link) (on : IsLink link) where
    abbrev s : ℕ
    s = sender_of link

    abbrev r : ℕ
    r = receiver_of link

    -- what the link's rings carried before the round, and its ends when they were brought together
    abbrev pub carried_before : IsCarriedBetween h link (nodes (sender_of link)) (nodes (receiver_of link))
    carried_before = between.links link on

    abbrev pub met_there : HasMetBetween link (turned (sender_of link)).ends (turned (receiver_of link)).ends (met (sender_of link)).ends (met (receiver_of link)).ends
    met_there = round.links link on

    abbrev pub turned_out : HasTurnedOut (nodes (sender_of link)) (with_entries_of (turned (sender_of link)) (entries_offered (nodes (sender_of link)))) (fates (sender_of link)) (left (sender_of link)) link
    turned_out = (round.turns (sender_of link) (sender-small link on)).links.outs link on (sym (between.each (sender_of link) (sender-small link on)).node_is)

    abbrev pub turned_in : HasTurnedIn (nodes (receiver_of link)) (with_entries_of (turned (receiver_of link)) (entries_offered (nodes (receiver_of link)))) (fates (receiver_of link)) (left (receiver_of link)) link
    turned_in = (round.turns (receiver_of link) (receiver-small link on)).links.ins link on (sym (between.each (receiver_of link) (receiver-small link on)).node_is)

    old_out : turned_out.out ≡ carried_before.out
    old_out = one_of (out_at (nodes s).ends (slot_from link)) turned_out.out carried_before.out turned_out.there carried_before.at_sender

    old_into : turned_in.into ≡ carried_before.into
    old_into = one_of (in_at (nodes r).ends (slot_into link)) turned_in.into carried_before.into turned_in.there carried_before.at_receiver

    abbrev sent_out : LinkOut → LinkOut
    sent_out out = record { events = with_sent out.events (window_of (nodes s).core link) (fates_at (fates s) Carry (slot_from link)); counts = with_all_popped out.counts }

    abbrev sent_back : LinkIn → LinkIn
    sent_back into = record { events = with_all_popped into.events; counts = with_sent into.counts (counts_sent (nodes r).core link) (fates_at (fates r) Ack (slot_into link)) }

    same_out : met_there.out ≡ sent_out carried_before.out
    same_out = one_of (out_at (turned s).ends (slot_from link)) met_there.out _ met_there.at_sender turned_out.turned ∙ ap sent_out old_out

    same_into : met_there.into ≡ sent_back carried_before.into
    same_into = one_of (in_at (turned r).ends (slot_into link)) met_there.into _ met_there.at_receiver turned_in.turned ∙ ap sent_back old_into

    looked : HasMet (sent_out carried_before.out) (sent_back carried_before.into) met_there.new_out met_there.new_into
    looked =
        subst (λ (o : LinkOut). HasMet o (sent_back carried_before.into) met_there.new_out met_there.new_into) same_out
        (subst (λ (i : LinkIn). HasMet met_there.out i met_there.new_out met_there.new_into) same_into met_there.met)

    pub acknowledged_then : acknowledged_on (met (sender_of link)).core link
        ≡ with_counts link (nodes (sender_of link)).core.entries (nodes (sender_of link)).core.committed (acknowledged_on (nodes (sender_of link)).core link) carried_before.out.counts.waiting
    acknowledged_then =
        ap (λ (c : CoreState). acknowledged_on c link) (round.cores s (sender-small link on))
        ∙ turned_out.noted
        ∙ ap (λ (o : LinkOut). with_counts link (nodes s).core.entries (nodes s).core.committed (acknowledged_on (nodes s).core link) o.counts.waiting) old_out

    -- what waits on the link's rings after the round
    pub events_then : met_there.new_into.events.waiting ≡ pushed_by (window_of (nodes (sender_of link)).core link) (fates_at (fates (sender_of link)) Carry (slot_from link)) carried_before.out.events.held
    events_then =
        (ring_round 21 7 carried_before.out.events carried_before.into.events (window_of (nodes s).core link) (fates_at (fates s) Carry (slot_from link)) met_there.new_out.events met_there.new_into.events
        carried_before.carried.events looked.0 (window_few h nodes between link) (omega arith)).waiting

    pub counts_then : met_there.new_out.counts.waiting ≡ pushed_by (counts_sent (nodes (receiver_of link)).core link) (fates_at (fates (receiver_of link)) Ack (slot_into link)) carried_before.into.counts.held
    counts_then =
        (ring_round 3 1 carried_before.into.counts carried_before.out.counts (counts_sent (nodes r).core link) (fates_at (fates r) Ack (slot_into link)) met_there.new_into.counts met_there.new_out.counts
        carried_before.carried.counts looked.1 (counts_few h nodes between link) (omega arith)).waiting

    link_at : IsCarriedBetween later link (with_node_committed (met (sender_of link))) (with_node_committed (met (receiver_of link)))
    link_at = record {
      out = met_there.new_out;
      into = met_there.new_into;
      at_sender = met_there.new_at_sender;
      at_receiver = met_there.new_at_receiver;
      carried = subst (λ n. IsCarried later link n met_there.new_out met_there.new_into) (sym acknowledged_then)
          (link_round h later link (λ e of. record { made = all_turned.still_made e of.made; on = of.on }) (more_taken link on)
          (window_of (nodes s).core link) (counts_sent (nodes r).core link) (fates_at (fates s) Carry (slot_from link)) (fates_at (fates r) Ack (slot_into link))
          (nodes s).core.entries (nodes s).core.committed (acknowledged_on (nodes s).core link)
          (window_made h nodes between link on) (window_few h nodes between link) (counts_taken h nodes between link on) (counts_few h nodes between link)
          carried_before.out carried_before.into met_there.new_out met_there.new_into carried_before.carried looked);
    }

  pub round_keeps : AreBetween (play h (turns_steps events queues h NODES)) (λ n. with_node_committed (met n))
  round_keeps = subst (λ k. AreBetween k (λ n. with_node_committed (met n))) (sym all_turned.played) (record {
    lawful = all_turned.still_lawful;
    each = node_at;
    links = link_at;
    only = round.only;
  })
