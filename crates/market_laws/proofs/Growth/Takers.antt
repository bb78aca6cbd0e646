-- What is known of an entry of lawful histories, and who made an event that was taken.
use Rattle.std.proofs.Common.{◌≡◌, ℕ, ◌<◌, List, [], ◌∷◌, ◌++◌, ap, sym, ◌∙◌, subst, append_assoc}
use Rattle.std.specs.List.{AllByRecursion}
use Rattle.std.proofs.lemmas.List.Elements.{filter_map-append}
use Rattle.market_events.specs.declared.events.Entry.{Entry}
use Rattle.market_events.specs.declared.events.Event.{Event}
use Rattle.market_events.specs.declared.events.What.TheVariants.{Taken, Made}
use Rattle.market_events.specs.Links.{sender_of}
use Rattle.market_events.proofs.Values.Offers.{same_link-same}
use Rattle.market_events.specs.declared.nodes.TheConstants.{NODES}
use Rattle.market_history.specs.Histories.{Histories, journal_at}
use Rattle.market_history.specs.Lawful.{IsReadyAfter, IsLawful}
use Rattle.market_history.specs.Sent.{event_made_on, got_on, sent, got}
use Rattle.market_history.specs.Stamps.{EachAfter}
use Rattle.market_history.proofs.SentLaws.{got-push-taken}
use Rattle.market_history.proofs.StampLaws.{EachAfter-at}
use Rattle.market_laws.specs.Grown.{Grown}
use Rattle.market_laws.proofs.Growth.Members.{all-at, gathered-at}
use Rattle.market_laws.proofs.Growth.Due.{IsDue}
use Rattle.market_laws.proofs.Growth.Lawful.{grown_of_lawful, grown-due}
use Rattle.market_laws.proofs.Bounds.LinkEnds.{sender-small}
use Rattle.market_laws.proofs.Growth.Made.{IsMadeAt, grown-made, made_on-is}

-- an entry of a node's journal, with those before and after it
pub record StandsAt (h : Histories) (n : ℕ) (x : Entry) : Type 0 where
  pub node : n < NODES
  pub before : List Entry
  pub after : List Entry
  pub is : journal_at h n ≡ before ++ x ∷ after

pub grown_at : (h : Histories) (n : ℕ) → IsLawful h → n < NODES → Grown n (journal_at h n)
grown_at h n lawful lt = grown_of_lawful n (journal_at h n) (lawful.lawful n lt)

-- it was due after those before it
pub stands-due : (h : Histories) (n : ℕ) (x : Entry) → IsLawful h → (s : StandsAt h n x) → IsDue n s.before x
stands-due h n x lawful s =
    EachAfter-at (IsDue n) [] s.before x s.after (subst (EachAfter (IsDue n) []) s.is (grown-due n (grown_at h n lawful s.node)))

-- what it made, it made as a node does
pub stands-made : (h : Histories) (n : ℕ) (x : Entry) → IsLawful h → StandsAt h n x → IsMadeAt n x.what
stands-made h n x lawful s =
    all-at (λ (y : Entry). IsMadeAt n y.what) s.before x s.after (subst (AllByRecursion (λ (y : Entry). IsMadeAt n y.what)) s.is (grown-made n s.node (grown_at h n lawful s.node)))

-- the entry that made an event
pub record MadeThere (h : Histories) (event : Event) : Type 0 where
  pub entry : Entry
  pub what : entry.what ≡ Made event
  pub stands : StandsAt h (sender_of event.link) entry

-- an event that was taken was made by its sender
pub taken-made : (h : Histories) (n : ℕ) (x : Entry) (event : Event) → IsLawful h → StandsAt h n x → x.what ≡ Taken event → MadeThere h event
taken-made h n x event lawful s is =
    let ready : IsReadyAfter n s.before (Taken event) = subst (IsReadyAfter n s.before) is (stands-due h n x lawful s).ready in
    let link = event.link in
    let here : got link (journal_at h n) ≡ got link s.before ++ event ∷ got link s.after =
    ap (got link) s.is ∙ ap (got link) (sym (append_assoc s.before (x ∷ []) s.after)) ∙ filter_map-append (λ (y : Entry). got_on link y.what) (s.before ++ x ∷ []) s.after
    ∙ ap (λ l. l ++ got link s.after) (got-push-taken link s.before x event is (same_link-same link)) ∙ append_assoc (got link s.before) (event ∷ []) (got link s.after) in
    let matched = lawful.matched link ready.0 in
    let there : sent link (journal_at h (sender_of link)) ≡ got link s.before ++ event ∷ (got link s.after ++ matched.0) =
    matched.1 ∙ ap (λ n. got link (journal_at h n) ++ matched.0) ready.1 ∙ ap (λ l. l ++ matched.0) here ∙ append_assoc (got link s.before) (event ∷ got link s.after) matched.0 in
    let at = gathered-at (λ (y : Entry). event_made_on link y.what) (journal_at h (sender_of link)) (got link s.before) event (got link s.after ++ matched.0) there in
    record {
      entry = at.at;
      what = (made_on-is link at.at.what event at.gives).0;
      stands = record { node = sender-small link ready.0; before = at.before; after = at.after; is = at.is };
    }
