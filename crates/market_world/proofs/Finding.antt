-- The first events that wait, link by link, and the oldest of them.
use Rattle.std.proofs.Common.{◌≡◌, ℕ, ◌+◌, ◌^◌, ◌<◌, ◌≤◌, ◌==◌, Bool, true, false, List, [], ◌∷◌, ◌++◌, Option, Some, None, is_some, Bor, length, if◌then◌else◌, eqb-true, refl, ap, sym, ◌∙◌, subst, arith}
use Rattle.std.specs.Prelude.{slice_get, IfSome}
use Rattle.std.specs.Option.{option_copied}
use Rattle.std.specs.List.{AllByRecursion}
use Rattle.std.proofs.lemmas.Bool.{eqb-false}
use Rattle.market_events.specs.declared.events.Event.{Event}
use Rattle.market_events.specs.declared.links.Link.{Link}
use Rattle.market_events.specs.Links.{IsLink, index_of, sender_of, receiver_of}
use Rattle.market_events.specs.Offers.{taken_on}
use Rattle.market_events.specs.declared.links.TheConstants.{LINKS}
use Rattle.market_history.specs.Causality.{events_taken}
use Rattle.market_history.specs.Histories.{Histories, journal_at}
use Rattle.market_history.specs.Lawful.{IsLawful}
use Rattle.market_history.specs.Outstanding.{outstanding, IsSettled, IsOldest, is_no_later}
use Rattle.market_history.specs.Sent.{got, sent}
use Rattle.market_history.proofs.CoreEntries.{length-filter_map}
use Rattle.market_laws.proofs.Growth.Members.{all-weaker}
use Rattle.market_laws.proofs.Growth.Due.{taken_on-got}
use Rattle.market_laws.proofs.Bounds.Few.{few, length-few}
use Rattle.market_laws.proofs.Bounds.LinkEnds.{receiver-small}
use Rattle.market_laws.proofs.Oldest.Places.{came, sent-parts, numbered, out-at}
use Rattle.market_laws.proofs.Oldest.Walk.{comes_other, no_later-through, own_later}
use Rattle.market_node.specs.Notes.{event_with}
use Rattle.market_node.proofs.PlaceLaws.{event_with-at}
use Rattle.market_world.specs.Waiting.{first_of, older_of, AreSettledBelow, IsOldestBelow, IsFoundBelow}
use Rattle.market_world.proofs.Linking.{one_index, index_small}

-- the element after a list is the first of what follows
get_after : {A : Type 0} (xs ys : List A) → slice_get (xs ++ ys) (length xs) ≡ slice_get ys 0
get_after [] ys = refl
get_after (x ∷ xs) ys = get_after xs ys

-- where there is nothing, nothing is copied
pub copied_none : {A : Type 0} (o : Option (Bor A)) → is_some o ≡ false → option_copied o ≡ None
copied_none None e = refl
copied_none (Some x) e = let no : ⊥ = cc in absurd no

none_of : {A : Type 0} (xs : List A) → slice_get xs 0 ≡ None → xs ≡ []
none_of [] e = refl
none_of (x ∷ xs) e = let no : ⊥ = cc in absurd no

some_of : {A : Type 0} (xs : List A) (x : A) → slice_get xs 0 ≡ Some x → (rest : List A) × (xs ≡ x ∷ rest)
some_of [] x e = let no : ⊥ = cc in absurd no
some_of (y ∷ ys) x e = let same : y ≡ x = cc in (ys, ap (λ z. z ∷ ys) same)

-- what holds of the links before one, and of that one, holds of the links before the next
one_more : (P : Link → Type 0) (n : ℕ) (at : Link) → IsLink at → index_of at ≡ n → ((link : Link) → IsLink link → index_of link < n → P link) → P at → (link : Link) → IsLink link → index_of link < n + 1 → P link
one_more P n at on is below here link other less = by (index_of link == n) refl
  where
    by : (test : Bool) → (index_of link == n) ≡ test → P link
    by true same = subst P (one_index at link on other (is ∙ sym (eqb-true (index_of link) n same))) here
    by false differs = let no = eqb-false (index_of link) n differs in below link other (omega (arith, no, less))

-- one link more without an event that waits
pub settled-more : (h : Histories) (n : ℕ) (link : Link) → IsLink link → index_of link ≡ n → AreSettledBelow h n → first_of h link ≡ None → AreSettledBelow h (n + 1)
settled-more h n link on is below none = one_more (λ l. outstanding h l ≡ []) n link on is below (none_of (outstanding h link) none)

pub settled-all : (h : Histories) → AreSettledBelow h LINKS → IsSettled h
settled-all h below = λ link on. below link on (index_small link on)

module _ (h : Histories) (lawful : IsLawful h) where
  -- the event after those that were taken is the first that waits
  pub first-with : (link : Link) (count : ℕ) → IsLink link → count ≡ taken_on (events_taken (journal_at h (receiver_of link))) link → event_with link (count + 1) (journal_at h (sender_of link)) ≡ first_of h link
  first-with link count on is =
      event_with-at link (journal_at h (sender_of link)) count (count + 1) (numbered h lawful link on) refl
      ∙ ap (slice_get (sent link (journal_at h (sender_of link)))) (is ∙ taken_on-got link (journal_at h (receiver_of link)))
      ∙ ap (λ events. slice_get events (length (came h link))) (sent-parts h lawful link on)
      ∙ get_after (came h link) (outstanding h link)

  -- and they are few
  pub taken-few : (link : Link) (count : ℕ) → IsLink link → count ≡ taken_on (events_taken (journal_at h (receiver_of link))) link → count < 2 ^ 24
  taken-few link count on is =
      omega (arith, is, taken_on-got link (journal_at h (receiver_of link)), length-few h lawful (receiver_of link) (receiver-small link on), few h lawful, got_few)
    where
      got_few : length (got link (journal_at h (receiver_of link))) ≤ length (journal_at h (receiver_of link))
      got_few = length-filter_map _ (journal_at h (receiver_of link))

  abbrev AllLater : Event → List Event → Type 0
  AllLater event events = AllByRecursion (λ (e : Event). is_no_later event e ≡ true) events

  -- the first event that waits on a link is of that link
  link-of_first : (link : Link) → IsLink link → (event : Event) (rest : List Event) → outstanding h link ≡ event ∷ rest → event.link ≡ link
  link-of_first link on event rest out = let here = out-at h lawful link on [] event rest out in here.on

  pub first-is_link : (link : Link) → IsLink link → (first : Option Event) → first ≡ first_of h link → IfSome first (λ event. IsLink event.link)
  first-is_link link on None is = tt
  first-is_link link on (Some event) is =
      let out = some_of (outstanding h link) event (sym is) in
      subst IsLink (sym (link-of_first link on event out.0 out.1)) on

  module _ (n : ℕ) (link : Link) (on : IsLink link) (is : index_of link ≡ n) where
    -- nothing waits on the link
    still : (before : Event) → IsOldestBelow h n before → outstanding h link ≡ [] → IsOldestBelow h (n + 1) before
    still before o none = record {
      on = o.on;
      rest = o.rest;
      first = o.first;
      least = one_more (λ l. AllLater before (outstanding h l)) n link on is o.least (subst (AllLater before) (sym none) tt);
    }

    -- its first event is the oldest
    newer : (event : Event) (rest : List Event) → outstanding h link ≡ event ∷ rest → ((l : Link) → IsLink l → index_of l < n → AllLater event (outstanding h l)) → IsOldestBelow h (n + 1) event
    newer event rest out below =
        let same = sym (link-of_first link on event rest out) in
        record {
          on = subst IsLink same on;
          rest = rest;
          first = subst (λ l. outstanding h l ≡ event ∷ rest) same out;
          least = one_more (λ l. AllLater event (outstanding h l)) n link on is below (subst (AllLater event) (sym out) (own_later h lawful link on event rest out));
        }

    -- the oldest so far, and the first event of the link
    module _ (before : Event) (o : IsOldestBelow h n before) (event : Event) (rest : List Event) (out : outstanding h link ≡ event ∷ rest) where
      later_of : (e f : Event) → is_no_later e f ≡ true → (events : List Event) → AllLater f events → AllLater e events
      later_of e f one events each = all-weaker (λ (g : Event). is_no_later f g ≡ true) (λ (g : Event). is_no_later e g ≡ true) (λ g two. no_later-through e f g one two) events each

      kept : is_no_later before event ≡ true → IsOldestBelow h (n + 1) before
      kept earlier = record {
        on = o.on;
        rest = o.rest;
        first = o.first;
        least = one_more (λ l. AllLater before (outstanding h l)) n link on is o.least
            (later_of before event earlier (outstanding h link) (subst (AllLater event) (sym out) (own_later h lawful link on event rest out)));
      }

      taken_over : is_no_later before event ≡ false → IsOldestBelow h (n + 1) event
      taken_over later =
          let other_way : is_no_later event before ≡ true = comes_other before.clock (sender_of before.link) event.clock (sender_of event.link) later in
          newer event rest out (λ l other less. later_of event before other_way (outstanding h l) (o.least l other less))

      older-of_both : IsOldestBelow h (n + 1) (if is_no_later before event then before else event)
      older-of_both = by (is_no_later before event) refl
        where
          by : (test : Bool) → is_no_later before event ≡ test → IsOldestBelow h (n + 1) (if test then before else event)
          by true test = kept test
          by false test = taken_over test

    -- whichever waits
    pub older-found : (found first : Option Event) → IsFoundBelow h n found → first_of h link ≡ first → IsFoundBelow h (n + 1) (older_of found first)
    older-found None None below none = settled-more h n link on is below none
    older-found (Some before) None o none = still before o (none_of (outstanding h link) none)
    older-found None (Some event) below some =
        let out = some_of (outstanding h link) event some in
        newer event out.0 out.1 (λ l other less. subst (AllLater event) (sym (below l other less)) tt)
    older-found (Some before) (Some event) o some =
        let out = some_of (outstanding h link) event some in
        older-of_both before o event out.0 out.1

  -- after all links
  pub oldest-of_all : (event : Event) → IsOldestBelow h LINKS event → IsOldest h event.link event.number
  oldest-of_all event o = record {
    event = event;
    named = refl;
    rest = o.rest;
    first = o.first;
    least = λ other on. o.least other on (index_small other on);
  }
