-- Places of the words of pasts: where an event was made (made_there), where it was taken (taken_there), and where those were made
-- or taken that a journal had seen (seen_there, took_there); and back (made-seen, took-seen, took-taken).
use Rattle.std.proofs.Common.{◌≡◌, ℕ, zero, suc, ◌<◌, ◌≤◌, List, [], ◌∷◌, ◌++◌, length, Option, Some, ◌⊎◌, inl, inr, filter_map, refl, ap, sym, ◌∙◌, subst, arith}
use Rattle.std.specs.Prelude.{slice_index_or, Contains}
use Rattle.std.proofs.Math.Nat.{lt_of_not-le}
use Rattle.std.proofs.lemmas.List.{get_or_past}
use Rattle.std.proofs.lemmas.List.Elements.{Contains-append_right}
use Rattle.market_events.specs.declared.events.Entry.{Entry}
use Rattle.market_events.specs.declared.events.Event.{Event}
use Rattle.market_events.specs.declared.events.What.{What}
use Rattle.market_events.specs.declared.events.What.TheVariants.{Given, Taken, Made, Answered}
use Rattle.market_events.specs.declared.links.Link.{Link}
use Rattle.market_events.specs.Links.{sender_of}
use Rattle.market_events.proofs.Values.Offers.{same_link-true}
use Rattle.market_events.specs.declared.nodes.TheConstants.{NODES}
use Rattle.market_history.specs.Causality.{event_taken, event_seen, events_taken, events_seen, IsMadeAfter}
use Rattle.market_history.specs.Histories.{Histories, journal_at}
use Rattle.market_history.specs.Lawful.{IsLawful}
use Rattle.market_history.specs.Sent.{event_made_on, sent}
use Rattle.market_laws.specs.Cuts.{entry_with, StandsIn, TookAt, MadeAt}
use Rattle.market_laws.specs.Pasts.{IsMadeOn, IsTakenAfter}
use Rattle.market_laws.proofs.Growth.Members.{gathered-at}
use Rattle.market_laws.proofs.Clocks.Rising.{within-earlier, within_stands, took_took, took_made, made_made}
use Rattle.market_laws.proofs.Origins.Cuts.{gathered-here}
use Rattle.market_laws.proofs.Origins.Places.{made_stands, took_of, made_of, made_clock}
use Rattle.market_laws.proofs.Growth.Made.{event_taken-is, made_on-is}
use Rattle.market_laws.proofs.Pasts.Ready.{TookEarlier}
use Rattle.market_laws.proofs.Growth.Takers.{StandsAt}

-- an element stands in its list
split_at : {A : Type 0} (xs : List A) (x : A) (k : ℕ) → k < length xs → slice_index_or xs k x ≡ x → (us : List A) × (vs : List A) × (xs ≡ us ++ x ∷ vs)
split_at [] x k lt e = absurd (omega arith)
split_at (y ∷ ys) x zero lt e = ([], ys, ap (λ z. z ∷ ys) e)
split_at (y ∷ ys) x (suc k) lt e =
    let rest = split_at ys x k (omega arith) e in (y ∷ rest.0, rest.1, ap (λ l. y ∷ l) rest.2)

contains_split : {A : Type 0} (xs : List A) (x : A) → Contains xs x → (us : List A) × (vs : List A) × (xs ≡ us ++ x ∷ vs)
contains_split xs x here = split_at xs x here.0 here.1 here.2

contains_here : {A : Type 0} (us : List A) (x : A) (vs : List A) → Contains (us ++ x ∷ vs) x
contains_here us x vs = let first : Contains (x ∷ vs) x = (0, omega arith, refl) in Contains-append_right us (x ∷ vs) x first

-- what is gathered of an entry that stands in a list
contains_gathered : {A B : Type 0} (f : A → Option B) (before : List A) (x : A) (xs : List A) (y : B) → StandsIn before x xs → f x ≡ Some y → Contains (filter_map f xs) y
contains_gathered f before x xs y s is =
    subst (λ l. Contains l y) (sym (ap (filter_map f) s.is ∙ gathered-here f before x s.after y is)) (contains_here (filter_map f before) y (filter_map f s.after))

-- beyond the nodes there are no journals
far_empty : (h : Histories) (n : ℕ) → length h ≡ NODES → NODES ≤ n → journal_at h n ≡ []
unfolding journal_at
far_empty h n each far = get_or_past h n [] (omega arith)

none_there : (before : List Entry) (x : Entry) (rest : List Entry) → [] ≡ before ++ x ∷ rest → ⊥
none_there [] x rest e = cc
none_there (y ∷ before) x rest e = cc

event_seen-is : (what : What) (event : Event) → event_seen what ≡ Some event → (what ≡ Taken event) ⊎ (what ≡ Made event)
event_seen-is (Given request) event e = let no : ⊥ = cc in absurd no
event_seen-is (Taken other) event e = let same : other ≡ event = cc in inl (ap Taken same)
event_seen-is (Made other) event e = let same : other ≡ event = cc in inr (ap Made same)
event_seen-is (Answered id reply) event e = let no : ⊥ = cc in absurd no

-- node n made the event before the clock
pub record MadeEarlier (h : Histories) (n : ℕ) (event : Event) (top : ℕ) : Type 0 where
  pub made : MadeAt h n event
  pub clock : event.clock < top

-- node n made the event right after these entries, or took it
pub record MadeAfter (h : Histories) (n : ℕ) (event : Event) (before : List Entry) : Type 0 where
  pub made : MadeAt h n event
  pub after : made.before ≡ before

pub record TookAfter (h : Histories) (n : ℕ) (event : Event) (before : List Entry) : Type 0 where
  pub took : TookAt h n event
  pub after : took.before ≡ before

-- the link's sender made the event, on this link
pub record MadeOn (h : Histories) (link : Link) (event : Event) : Type 0 where
  pub made : MadeAt h (sender_of link) event
  pub on : event.link ≡ link

module _ (h : Histories) (lawful : IsLawful h) where
  -- an entry stands in the journal of a node
  a_node : (n : ℕ) (before : List Entry) (x : Entry) (rest : List Entry) → journal_at h n ≡ before ++ x ∷ rest → n < NODES
  a_node n before x rest is =
      lt_of_not-le (λ beyond. none_there before x rest (sym (far_empty h n lawful.each beyond) ∙ is))

  abbrev stands_there : (n : ℕ) (before : List Entry) (x : Entry) (rest : List Entry) → journal_at h n ≡ before ++ x ∷ rest → StandsAt h n x
  stands_there n before x rest is = record { node = a_node n before x rest is; before = before; after = rest; is = is }

  -- the place where an event was made
  pub made_after : (n : ℕ) (event : Event) (before : List Entry) → IsMadeAfter (journal_at h n) before event → MadeAfter h n event before
  made_after n event before made =
      record { made = made_of h n made.0 event lawful (stands_there n before made.0 made.1 made.3) made.2; after = refl }

  pub made_there : (link : Link) (event : Event) → IsMadeOn h link event → MadeOn h link event
  made_there link event here =
      let n = sender_of link in
      let split = contains_split (sent link (journal_at h n)) event here in
      let at = gathered-at (λ (y : Entry). event_made_on link y.what) (journal_at h n) split.0 event split.1 split.2 in
      let is = made_on-is link at.at.what event at.gives in
      record { made = made_of h n at.at event lawful (stands_there n at.before at.at at.after at.is) is.0; on = same_link-true event.link link is.1 }

  -- the place where it was taken
  pub taken_there : (n : ℕ) (event : Event) (before : List Entry) → IsTakenAfter (journal_at h n) before event → TookAfter h n event before
  taken_there n event before taken =
      record { took = took_of h n taken.0 event lawful (stands_there n before taken.0 taken.1 taken.3) taken.2; after = refl }

  module _ (n : ℕ) (event : Event) (m : MadeAt h n event) where
    module _ (before : List Entry) (x : Entry) (within : StandsIn before x m.before) where
      below : StandsAt h n x
      below = within_stands h n before x (entry_with event.clock (Made event)) (made_stands h n event m) within

      sooner : x.clock < event.clock
      sooner = within-earlier h n before x (entry_with event.clock (Made event)) lawful (made_stands h n event m) within

      -- an entry before that took an event, or made one
      pub took_here : (other : Event) → x.what ≡ Taken other → TookEarlier h n other event.clock
      took_here other is = record { took = took_of h n x other lawful below is; clock = sooner }

      pub made_here : (other : Event) → x.what ≡ Made other → MadeEarlier h n other event.clock
      made_here other is =
          let same = made_clock h n x other lawful below is in
          record { made = made_of h n x other lawful below is; clock = omega (arith, same, sooner) }

      seen_here : (other : Event) → (x.what ≡ Taken other) ⊎ (x.what ≡ Made other) → TookEarlier h n other event.clock ⊎ MadeEarlier h n other event.clock
      seen_here other (inl is) = inl (took_here other is)
      seen_here other (inr is) = inr (made_here other is)

    -- what its node had seen before was taken before, or made before
    pub seen_there : (other : Event) → Contains (events_seen m.before) other → TookEarlier h n other event.clock ⊎ MadeEarlier h n other event.clock
    seen_there other here =
        let split = contains_split (events_seen m.before) other here in
        let at = gathered-at (λ (y : Entry). event_seen y.what) m.before split.0 other split.1 split.2 in
        seen_here at.before at.at (record { after = at.after; is = at.is }) other (event_seen-is at.at.what other at.gives)

    pub took_there : (other : Event) → Contains (events_taken m.before) other → TookEarlier h n other event.clock
    took_there other here =
        let split = contains_split (events_taken m.before) other here in
        let at = gathered-at (λ (y : Entry). event_taken y.what) m.before split.0 other split.1 split.2 in
        took_here at.before at.at (record { after = at.after; is = at.is }) other (event_taken-is at.at.what other at.gives)

    -- and back
    pub made-seen : (other : Event) → MadeAt h n other → other.clock < event.clock → Contains (events_seen m.before) other
    made-seen other o less =
        contains_gathered (λ (y : Entry). event_seen y.what) o.before (entry_with other.clock (Made other)) m.before other (made_made h n lawful other event o m less) refl

    pub took-seen : (other : Event) → (t : TookAt h n other) → t.clock < event.clock → Contains (events_seen m.before) other
    took-seen other t less =
        contains_gathered (λ (y : Entry). event_seen y.what) t.before (entry_with t.clock (Taken other)) m.before other (took_made h n lawful other event t m less) refl

    pub took-taken : (other : Event) → (t : TookAt h n other) → t.clock < event.clock → Contains (events_taken m.before) other
    took-taken other t less =
        contains_gathered (λ (y : Entry). event_taken y.what) t.before (entry_with t.clock (Taken other)) m.before other (took_made h n lawful other event t m less) refl

  -- what a node took before it took another event
  pub took-before : (n : ℕ) (event : Event) (t : TookAt h n event) (other : Event) (u : TookAt h n other) → u.clock < t.clock → Contains (events_taken t.before) other
  took-before n event t other u less =
      contains_gathered (λ (y : Entry). event_taken y.what) u.before (entry_with u.clock (Taken other)) t.before other (took_took h n lawful other event u t less) refl
