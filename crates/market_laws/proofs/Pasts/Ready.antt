-- What was made on a service link into a node, and what an event that the node took counts, the node took before (past-ready);
-- and what was made on the link of an event before it was taken before it (link-before).
use Rattle.std.proofs.Common.{◌≡◌, ℕ, ◌+◌, ◌<◌, ◌≤◌, Bool, true, false, nat_le, nat_lt, List, [], ◌∷◌, ◌++◌, length, slice_index, if◌then◌else◌, refl, ap, sym, ◌∙◌, subst, append_assoc, arith}
use Rattle.std.proofs.lemmas.List.Elements.{filter_map-append}
use Rattle.market_events.specs.declared.events.Entry.{Entry}
use Rattle.market_events.specs.declared.events.Event.{Event}
use Rattle.market_events.specs.declared.events.Offer.TheVariants as offer
use Rattle.market_events.specs.declared.events.What.TheVariants.{Taken, Made}
use Rattle.market_events.specs.declared.links.Link.{Link}
use Rattle.market_events.specs.declared.links.Link.TheVariants.{Service}
use Rattle.market_events.specs.declared.links.TheConstants.{SERVICE_LINKS}
use Rattle.market_events.specs.Links.{IsLink, sender_of, receiver_of}
use Rattle.market_events.specs.Offers.{taken_on, counts_of, is_ready}
use Rattle.market_events.proofs.Values.Offers.{met_of_ready, slice_index-counts_of}
use Rattle.market_history.specs.Causality.{events_taken}
use Rattle.market_history.specs.Histories.{Histories, journal_at}
use Rattle.market_history.specs.Lawful.{IsLawful}
use Rattle.market_history.specs.Sent.{got_on, sent, got, IsPrefixOf}
use Rattle.market_laws.specs.Cuts.{entry_with, StandsIn, TookAt, MadeAt}
use Rattle.market_laws.proofs.Growth.Members.{gathered-at}
use Rattle.market_laws.proofs.Clocks.Rising.{within-earlier, within_stands, made_made}
use Rattle.market_laws.proofs.Origins.Places.{took_stands, made_stands, took_of}
use Rattle.market_laws.proofs.Origins.Senders.{sent-split, took-made, made-as}
use Rattle.market_laws.proofs.Growth.Due.{taken_on-got}
use Rattle.market_laws.proofs.Growth.Made.{got_on-is}
use Rattle.market_laws.proofs.Growth.Takers.{stands-due}

-- node n took the event before the clock
pub record TookEarlier (h : Histories) (n : ℕ) (event : Event) (top : ℕ) : Type 0 where
  pub took : TookAt h n event
  pub clock : took.clock < top

-- a prefix that reaches past a place has the element there
prefix_place : {A : Type 0} (us : List A) (x : A) (vs front rest : List A) → us ++ x ∷ vs ≡ front ++ rest → length us < length front → (ws : List A) × (front ≡ us ++ x ∷ ws)
prefix_place us x vs [] rest e lt = absurd (omega arith)
prefix_place [] x vs (f ∷ front) rest e lt = let same : f ≡ x = cc in (front, ap (λ y. y ∷ front) same)
prefix_place (u ∷ us) x vs (f ∷ front) rest e lt =
    let same : f ≡ u = cc in
    let more : us ++ x ∷ vs ≡ front ++ rest = cc in
    let found = prefix_place us x vs front rest more (omega arith) in
    (found.0, λ i. same i ∷ found.1 i)

ready_of : (below above ready : Bool) → (if below then offer.Old else if above then offer.Ahead else if ready then offer.Take else offer.NotReady) ≡ offer.Take → ready ≡ true
ready_of true above ready e = let no : ⊥ = cc in absurd no
ready_of false true ready e = let no : ⊥ = cc in absurd no
ready_of false false true e = refl
ready_of false false false e = let no : ⊥ = cc in absurd no

module _ (h : Histories) (s : ℕ) (event : Event) (lawful : IsLawful h) (t : TookAt h s event) where
  -- an event that stands among those that were taken before on a link was taken before
  pub got_earlier : (link : Link) (other : Event) (front back : List Event) → got link t.before ≡ front ++ other ∷ back → TookEarlier h s other t.clock
  got_earlier link other front back is =
      let at = gathered-at (λ (y : Entry). got_on link y.what) t.before front other back is in
      let within : StandsIn at.before at.at t.before = record { after = at.after; is = at.is } in
      let y = entry_with t.clock (Taken event) in
      let stands = within_stands h s at.before at.at y (took_stands h s event t) within in
      record {
        took = took_of h s at.at other lawful stands (got_on-is link at.at.what other at.gives).0;
        clock = within-earlier h s at.before at.at y lawful (took_stands h s event t) within;
      }

  -- the event needs no service link into the node further than it was taken
  past_met : (k : ℕ) → k < SERVICE_LINKS → receiver_of (Service k) ≡ s → slice_index event.past k ≤ length (got (Service k) t.before)
  past_met k lt into =
      let taken = events_taken t.before in
      let count = taken_on taken event.link in
      let ready : is_ready s (counts_of taken) event.past ≡ true =
      ready_of (nat_le event.number count) (nat_lt (count + 1) event.number) (is_ready s (counts_of taken) event.past) t.ready.3 in
      omega (arith, met_of_ready s (counts_of taken) event.past ready k lt into, slice_index-counts_of taken k lt, taken_on-got (Service k) t.before)

  -- what was taken on a link is what was made on it, up to some point
  matched_before : (link : Link) → IsLink link → receiver_of link ≡ s → IsPrefixOf (got link t.before) (sent link (journal_at h (sender_of link)))
  matched_before link on into =
      let matched = lawful.matched link on in
      let later = entry_with t.clock (Taken event) ∷ t.after in (
        got link later ++ matched.0,
        matched.1 ∙ ap (λ n. got link (journal_at h n) ++ matched.0) into ∙ ap (λ j. got link j ++ matched.0) t.is
            ∙ ap (λ l. l ++ matched.0) (filter_map-append (λ (y : Entry). got_on link y.what) t.before later) ∙ append_assoc (got link t.before) (got link later) matched.0,
      )

  -- what was made on a service link into the node, and what the event counts, was taken before
  pub past-ready : (k n : ℕ) → k < SERVICE_LINKS → receiver_of (Service k) ≡ s → (other : Event) → MadeAt h n other → other.link ≡ Service k → other.number ≤ slice_index event.past k → TookEarlier h s other t.clock
  past-ready k n lt into other m on counted =
      let link = other.link in
      let leads : receiver_of link ≡ s = ap receiver_of on ∙ into in
      let prefix = matched_before link (made-as h lawful n other m).on leads in
      let there : sent link (journal_at h (sender_of link)) ≡ sent link m.before ++ other ∷ sent link m.after =
      ap (λ i. sent link (journal_at h i)) m.leaves ∙ ap (sent link) m.is ∙ sent-split other m.before other.clock m.after in
      let number : other.number ≡ length (sent link m.before) + 1 = (stands-due h n (entry_with other.clock (Made other)) lawful (made_stands h n other m)).number in
      let long : length (got (Service k) t.before) ≡ length (got link t.before) = ap (λ l. length (got l t.before)) (sym on) in
      let far : length (sent link m.before) < length (got link t.before) = omega (arith, number, long, counted, past_met k lt into) in
      let at = prefix_place (sent link m.before) other (sent link m.after) (got link t.before) prefix.0 (sym there ∙ prefix.1) far in
      got_earlier link other (sent link m.before) at.0 at.1

  -- what was made on the event's link before it was taken before it
  pub link-before : (n : ℕ) (other : Event) → MadeAt h n other → other.link ≡ event.link → other.clock < event.clock → TookEarlier h s other t.clock
  link-before n other m same less =
      let link = event.link in
      let f = took-made h lawful s event t in
      let o = subst (λ k. MadeAt h k other) (sym m.leaves ∙ ap sender_of same) m in
      let within = made_made h (sender_of link) lawful other event o f.made less in
      let there : got link t.before ≡ sent other.link o.before ++ other ∷ sent other.link within.after =
      sym f.same ∙ ap (sent link) within.is ∙ ap (λ l. sent l (o.before ++ entry_with other.clock (Made other) ∷ within.after)) (sym same)
      ∙ sent-split other o.before other.clock within.after in
      got_earlier link other (sent other.link o.before) (sent other.link within.after) there
