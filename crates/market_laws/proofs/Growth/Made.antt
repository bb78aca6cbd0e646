-- Each entry of a grown journal: what it made, answered or took.
use Rattle.std.proofs.Common.{◌≡◌, ℕ, ◌<◌, Bool, true, false, List, [], ◌∷◌, Some, None, if◌then◌else◌, refl, ap, sym, subst}
use Rattle.std.specs.Prelude.{fold}
use Rattle.std.specs.List.{AllByRecursion}
use Rattle.market_events.specs.declared.events.Entry.{Entry}
use Rattle.market_events.specs.declared.events.Event.{Event}
use Rattle.market_events.specs.declared.events.What.{What}
use Rattle.market_events.specs.declared.events.What.TheVariants.{Given, Taken, Made, Answered}
use Rattle.market_events.specs.declared.links.Link.{Link}
use Rattle.market_events.specs.Links.{same_link}
use Rattle.market_events.specs.declared.nodes.TheConstants.{NODES}
use Rattle.market_history.specs.Blocks.{Out, Arrival, what_of, with_what, with_out}
use Rattle.market_history.specs.Causality.{event_taken}
use Rattle.market_history.specs.Journals.{IsLane}
use Rattle.market_history.specs.Sent.{event_made_on, got_on, sent}
use Rattle.market_history.proofs.GrowLaws.{entry_of, what_left, with_out-is, outs_after, grow-is}
use Rattle.market_laws.specs.Grown.{Grown, nothing, more}
use Rattle.market_laws.proofs.Growth.Members.{all-append, all-gathered}
use Rattle.market_laws.proofs.Growth.Outs.{IsMade, IsOut, outs-made}

-- an event was made as a node makes it, and a lane answered
abbrev pub IsMadeAt : ℕ → What → Type 0
IsMadeAt n (Given request) = Unit {0}
IsMadeAt n (Taken event) = Unit {0}
IsMadeAt n (Made event) = IsMade n event.link event.body
IsMadeAt n (Answered id reply) = IsLane n

made_left : (n : ℕ) (before : List Entry) (out : Out) → IsOut n out → IsMadeAt n (what_left before out)
made_left n before (Out.Makes link b) ok = ok
made_left n before (Out.Answers id reply) ok = ok

made_arrival : (n : ℕ) (arrival : Arrival) → IsMadeAt n (what_of arrival)
made_arrival n (Arrival.Gives request) = tt
made_arrival n (Arrival.Takes event) = tt

made_outs : (n : ℕ) (j : List Entry) (outs : List Out) → AllByRecursion (λ (x : Entry). IsMadeAt n x.what) j → AllByRecursion (IsOut n) outs → AllByRecursion (λ (x : Entry). IsMadeAt n x.what) (fold with_out j outs)
made_outs n j [] each ok = each
made_outs n j (out ∷ outs) each ok =
    made_outs n (with_out j out) outs
    (subst (AllByRecursion (λ (x : Entry). IsMadeAt n x.what)) (sym (with_out-is j out))
    (all-append (λ (x : Entry). IsMadeAt n x.what) j (entry_of j (what_left j out) ∷ []) each (made_left n j out ok.0, tt))) ok.1

-- in a grown journal all that was made was made so
pub grown-made : (n : ℕ) → n < NODES → {j : List Entry} → Grown n j → AllByRecursion (λ (x : Entry). IsMadeAt n x.what) j
grown-made n lt nothing = tt
grown-made n lt (more j a grown ready) =
    subst (AllByRecursion (λ (x : Entry). IsMadeAt n x.what)) (sym (grow-is n j a))
    (made_outs n (with_what j (what_of a)) (outs_after n j a)
    (all-append (λ (x : Entry). IsMadeAt n x.what) j (entry_of j (what_of a) ∷ []) (grown-made n lt grown) (made_arrival n a, tt)) (outs-made n lt j a ready))

-- an entry that took an event
pub event_taken-is : (what : What) (event : Event) → event_taken what ≡ Some event → what ≡ Taken event
event_taken-is (Given request) event e = let no : ⊥ = cc in absurd no
event_taken-is (Taken other) event e = let same : other ≡ event = cc in ap Taken same
event_taken-is (Made other) event e = let no : ⊥ = cc in absurd no
event_taken-is (Answered id reply) event e = let no : ⊥ = cc in absurd no

-- an event on a link is the one that was made
pub made_on-is : (link : Link) (what : What) (event : Event) → event_made_on link what ≡ Some event → (what ≡ Made event) × (same_link event.link link ≡ true)
made_on-is link (Given request) event e = let no : ⊥ = cc in absurd no
made_on-is link (Taken other) event e = let no : ⊥ = cc in absurd no
made_on-is link (Made other) event e = by (same_link other.link link) refl e
  where
    by : (test : Bool) → same_link other.link link ≡ test → (if test then Some other else None) ≡ Some event → (Made other ≡ Made event) × (same_link event.link link ≡ true)
    by true is e = let same : other ≡ event = cc in (ap Made same, subst (λ (w : Event). same_link w.link link ≡ true) same is)
    by false is e = let no : ⊥ = cc in absurd no
made_on-is link (Answered id reply) event e = let no : ⊥ = cc in absurd no

pub got_on-is : (link : Link) (what : What) (event : Event) → got_on link what ≡ Some event → (what ≡ Taken event) × (same_link event.link link ≡ true)
got_on-is link (Given request) event e = let no : ⊥ = cc in absurd no
got_on-is link (Made other) event e = let no : ⊥ = cc in absurd no
got_on-is link (Taken other) event e = by (same_link other.link link) refl e
  where
    by : (test : Bool) → same_link other.link link ≡ test → (if test then Some other else None) ≡ Some event → (Taken other ≡ Taken event) × (same_link event.link link ≡ true)
    by true is e = let same : other ≡ event = cc in (ap Taken same, subst (λ (w : Event). same_link w.link link ≡ true) same is)
    by false is e = let no : ⊥ = cc in absurd no
got_on-is link (Answered id reply) event e = let no : ⊥ = cc in absurd no

-- an event that was sent on a link was made on it, as a node makes it
pub record IsSentAs (n : ℕ) (link : Link) (event : Event) : Type 0 where
  pub same : same_link event.link link ≡ true
  pub made : IsMade n event.link event.body

pub sent-made : (n : ℕ) → n < NODES → (j : List Entry) → Grown n j → (link : Link) → AllByRecursion (IsSentAs n link) (sent link j)
sent-made n lt j grown link = all-gathered (λ (x : Entry). event_made_on link x.what) (λ (x : Entry). IsMadeAt n x.what) (IsSentAs n link) one j (grown-made n lt grown)
  where
    one : (x : Entry) (event : Event) → event_made_on link x.what ≡ Some event → IsMadeAt n x.what → IsSentAs n link event
    one x event on made =
        let is = made_on-is link x.what event on in
        record { same = is.1; made = subst (IsMadeAt n) is.0 made }
