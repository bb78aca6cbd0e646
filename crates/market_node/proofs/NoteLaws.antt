-- What is noted beside a journal, with one entry more.
use Rattle.std.proofs.Common.{◌≡◌, ℕ, ◌+◌, ◌-◌, ◌<◌, ◌≤◌, Bool, true, false, ◌==◌, nat_lt, nat_le, if◌then◌else◌, List, [], ◌∷◌, ◌++◌, Some, None, length, slice_index, ◌≢◌, refl, ap, subst, sym, ◌∙◌, arith, replicate}
use Rattle.std.specs.List.{slice_set}
use Rattle.std.proofs.lemmas.Bool.Decides.{nat_tests}
use Rattle.std.proofs.lemmas.List.{length-set, get_or-set_same, get_or-set_other, get_or-replicate, length-replicate}
use Rattle.market_events.specs.declared.events.Entry.{Entry}
use Rattle.market_events.specs.declared.events.Event.{Event}
use Rattle.market_events.specs.declared.events.Offer.TheVariants as offer
use Rattle.market_events.specs.declared.events.What.TheVariants.{Taken, Made}
use Rattle.market_events.specs.declared.links.Link.{Link}
use Rattle.market_events.specs.Counts.{IsMergeOf}
use Rattle.market_events.specs.Links.{IsLink, sender_of, receiver_of, same_link}
use Rattle.market_events.specs.Offers.{taken_on, counts_of, is_ready, offer_by}
use Rattle.market_events.specs.declared.links.TheConstants.{SERVICE_LINKS}
use Rattle.market_events.proofs.Values.Offers.{same_link-true, of_each_count}
use Rattle.market_history.specs.Causality.{count_told, event_taken, events_taken, past_of}
use Rattle.market_history.specs.Sent.{event_made_on, sent, IsNumbered}
use Rattle.market_history.proofs.CoreEntries.{events_taken-push-taken, events_taken-push-none, past_of-push-none}
use Rattle.market_history.proofs.SentLaws.{sent-push-none, sent-push-some, IsNumbered-push}
use Rattle.market_history.proofs.CausalityLaws.{past_of-by}
use Rattle.market_history.proofs.StampLaws.{clock_before-push}
use Rattle.market_history.specs.Stamps.{clock_before}
use Rattle.market_links.proofs.SlotLaws.{apart_from, from_below, into_below}
use Rattle.market_links.specs.Slots.{slot_into, slot_from}
use Rattle.market_links.specs.declared.slots.TheConstants.{SLOTS}
use Rattle.market_node.specs.Notes.{AreNotes, raised_on, places_of, at_slot, no_places, HaveRoom}
use Rattle.market_node.specs.PlaceStates.{PlaceState}
use Rattle.market_node.proofs.PlaceLaws.{places_of-push-made, places_of-push-none}
use Rattle.market_node.proofs.RaiseLaws.{past_of-taken, past_of-made, counts_of-next, counted_next}

-- an event that is taken has the next number of its link
pub next_of_take : (count node : ℕ) (counts : List ℕ) (event : Event) → offer_by count node counts event ≡ offer.Take → event.number ≡ count + 1
next_of_take count node counts event take =
    by_tests (nat_le event.number count) (nat_lt (count + 1) event.number) (is_ready node counts event.past) refl refl take
  where
    by_tests : (old ahead ready : Bool) → nat_le event.number count ≡ old → nat_lt (count + 1) event.number ≡ ahead
        → (if old then offer.Old else if ahead then offer.Ahead else if ready then offer.Take else offer.NotReady) ≡ offer.Take → event.number ≡ count + 1
    by_tests true ahead ready o a take = let no : ⊥ = cc in absurd no
    by_tests false true ready o a take = let no : ⊥ = cc in absurd no
    by_tests false false ready o a take = grind (arith, nat_tests)

-- an entry that neither took nor made an event
pub AreNotes-quiet : (node : ℕ) (xs : List Entry) (x : Entry) (clock : ℕ) (known services receivers : List ℕ) (lists : List PlaceState) → AreNotes node xs clock known services receivers lists
    → ((k : ℕ) → count_told x k ≡ 0) → event_taken x.what ≡ None → ((link : Link) → event_made_on link x.what ≡ None)
    → AreNotes node (xs ++ x ∷ []) x.clock known services receivers lists
AreNotes-quiet node xs x clock known services receivers lists notes told taken made = record {
  clock = sym (clock_before-push xs x);
  known = notes.known ∙ sym (past_of-push-none xs x told);
  services = notes.services ∙ sym (ap counts_of (events_taken-push-none xs x taken));
  received = notes.received;
  receivers = λ link is into. notes.receivers link is into ∙ sym (ap (λ t. taken_on t link) (events_taken-push-none xs x taken));
  listed = notes.listed;
  places = λ link is from. notes.places link is from ∙ sym (places_of-push-none link xs x (made link));
  numbered = λ link. subst (λ events. IsNumbered events) (sym (sent-push-none link xs x (made link))) (notes.numbered link);
}

-- an entry that took the next event of a link into the node
pub AreNotes-taken : (node : ℕ) (xs : List Entry) (x : Entry) (event : Event) (merged : List ℕ) (clock : ℕ) (known services receivers : List ℕ) (lists : List PlaceState) → AreNotes node xs clock known services receivers lists
    → x.what ≡ Taken event → IsLink event.link → receiver_of event.link ≡ node → event.number ≡ taken_on (events_taken xs) event.link + 1
    → length merged ≡ length known → IsMergeOf merged known event.past
    → AreNotes node (xs ++ x ∷ []) x.clock (raised_on merged event.link event.number) (raised_on services event.link event.number)
    (slice_set receivers (slot_into event.link) (slice_index receivers (slot_into event.link) + 1)) lists
AreNotes-taken node xs x event merged clock known services receivers lists notes is is_link into next long merge = record {
  clock = sym (clock_before-push xs x);
  known = past_of-taken xs x event merged is is_link (long ∙ ap (λ (counts : List ℕ). length counts) notes.known) (subst (λ old. IsMergeOf merged old event.past) notes.known merge);
  services =
      ap (λ counts. raised_on counts event.link event.number) notes.services
      ∙ counts_of-next (events_taken xs) event event.link refl is_link next
      ∙ sym (ap counts_of pushed);
  received = length-set receivers (slot_into event.link) (slice_index receivers (slot_into event.link) + 1) ∙ notes.received;
  receivers = λ link other there.
      counted_next node receivers (events_taken xs) event notes.received is_link into notes.receivers link other there
      ∙ sym (ap (λ t. taken_on t link) pushed);
  listed = notes.listed;
  places = λ link other from. notes.places link other from ∙ sym (places_of-push-none link xs x (none link));
  numbered = λ link. subst (λ events. IsNumbered events) (sym (sent-push-none link xs x (none link))) (notes.numbered link);
}
  where
    pushed : events_taken (xs ++ x ∷ []) ≡ events_taken xs ++ event ∷ []
    pushed = events_taken-push-taken xs x event is

    none : (link : Link) → event_made_on link x.what ≡ None
    none link = ap (λ w. event_made_on link w) is

-- what the places of a slot become, and those of the others
pub at_slot-set : (lists : List PlaceState) (slot other : ℕ) (p : PlaceState) (b : Bool) → (slot == other) ≡ b → slot < length lists → at_slot (slice_set lists slot p) other ≡ (if b then p else at_slot lists other)
at_slot-set lists slot other p true test below =
    let e : slot ≡ other = grind (arith, nat_tests) in
    let P : ℕ → Type 0 = λ i. at_slot (slice_set lists slot p) i ≡ p in
    subst P e (get_or-set_same lists slot p no_places below)
at_slot-set lists slot other p false test below =
    let differs : other ≢ slot = grind (arith, nat_tests) in get_or-set_other lists slot other p no_places differs

-- an entry that made the next event of a link out of the node
pub AreNotes-made : (node : ℕ) (xs : List Entry) (x : Entry) (event : Event) (p : PlaceState) (clock : ℕ) (known services receivers : List ℕ) (lists : List PlaceState) → AreNotes node xs clock known services receivers lists
    → x.what ≡ Made event → IsLink event.link → sender_of event.link ≡ node → event.number ≡ length (sent event.link xs) + 1
    → p.places ≡ (at_slot lists (slot_from event.link)).places ++ length xs ∷ []
    → AreNotes node (xs ++ x ∷ []) x.clock (raised_on known event.link event.number) services receivers (slice_set lists (slot_from event.link) p)
AreNotes-made node xs x event p clock known services receivers lists notes is is_link from next placed = record {
  clock = sym (clock_before-push xs x);
  known = ap (λ counts. raised_on counts event.link event.number) notes.known ∙ past_of-made xs x event is is_link;
  services = notes.services ∙ sym (ap counts_of untaken);
  received = notes.received;
  receivers = λ link other into. notes.receivers link other into ∙ sym (ap (λ t. taken_on t link) untaken);
  listed = length-set lists (slot_from event.link) p ∙ notes.listed;
  places = λ link other there. by_places link (same_link event.link link) refl other there;
  numbered = λ link. by_numbers link (same_link event.link link) refl;
}
  where
    untaken : events_taken (xs ++ x ∷ []) ≡ events_taken xs
    untaken = events_taken-push-none xs x (ap event_taken is)

    below : slot_from event.link < length lists
    below = let low = from_below event.link is_link in let long = notes.listed in omega arith

    made_here : (link : Link) → same_link event.link link ≡ true → event_made_on link x.what ≡ Some event
    made_here link same = ap (λ w. event_made_on link w) is ∙ ap (λ b. if b then Some event else None) same

    made_elsewhere : (link : Link) → same_link event.link link ≡ false → event_made_on link x.what ≡ None
    made_elsewhere link other = ap (λ w. event_made_on link w) is ∙ ap (λ b. if b then Some event else None) other

    by_places : (link : Link) (b : Bool) → same_link event.link link ≡ b → IsLink link → sender_of link ≡ node
        → (at_slot (slice_set lists (slot_from event.link) p) (slot_from link)).places ≡ places_of link (xs ++ x ∷ [])
    by_places link true same other there =
        let slot : (slot_from event.link == slot_from link) ≡ true = sym (apart_from event.link link is_link other (from ∙ sym there)) ∙ same in
        let here : slot_from event.link ≡ slot_from link = grind (arith, nat_tests) in
        ap (λ (q : PlaceState). q.places) (at_slot-set lists (slot_from event.link) (slot_from link) p true slot below)
        ∙ placed
        ∙ ap (λ i. (at_slot lists i).places ++ length xs ∷ []) here
        ∙ ap (λ ps. ps ++ length xs ∷ []) (notes.places link other there)
        ∙ sym (places_of-push-made link xs x event (made_here link same))
    by_places link false same other there =
        let slot : (slot_from event.link == slot_from link) ≡ false = sym (apart_from event.link link is_link other (from ∙ sym there)) ∙ same in
        ap (λ (q : PlaceState). q.places) (at_slot-set lists (slot_from event.link) (slot_from link) p false slot below)
        ∙ notes.places link other there
        ∙ sym (places_of-push-none link xs x (made_elsewhere link same))

    by_numbers : (link : Link) (b : Bool) → same_link event.link link ≡ b → IsNumbered (sent link (xs ++ x ∷ []))
    by_numbers link true same =
        let on : event.number ≡ length (sent link xs) + 1 = next ∙ ap (λ (l : Link). length (sent l xs) + 1) (same_link-true event.link link same) in
        subst (λ events. IsNumbered events) (sym (sent-push-some link xs x event (made_here link same)))
        (IsNumbered-push (sent link xs) event (notes.numbered link) on)
    by_numbers link false same =
        subst (λ events. IsNumbered events) (sym (sent-push-none link xs x (made_elsewhere link same))) (notes.numbered link)

-- one place less at each slot, where one of them got a place
pub HaveRoom-push : (lists : List PlaceState) (slot room : ℕ) (p : PlaceState) → slot < length lists → p.spare ≡ (at_slot lists slot).spare - 1 → slot < SLOTS → HaveRoom lists room → HaveRoom (slice_set lists slot p) (room - 1)
HaveRoom-push lists slot room p below less within rooms other there = by_test (slot == other) refl
  where
    by_test : (b : Bool) → (slot == other) ≡ b → room - 1 ≤ (at_slot (slice_set lists slot p) other).spare
    by_test true test =
        let is : at_slot (slice_set lists slot p) other ≡ p = at_slot-set lists slot other p true test below in
        let spare : (at_slot (slice_set lists slot p) other).spare ≡ (at_slot lists slot).spare - 1 = ap (λ (q : PlaceState). q.spare) is ∙ less in
        let had : room ≤ (at_slot lists slot).spare = rooms slot within in omega arith
    by_test false test =
        let is : at_slot (slice_set lists slot p) other ≡ at_slot lists other = at_slot-set lists slot other p false test below in
        let spare : (at_slot (slice_set lists slot p) other).spare ≡ (at_slot lists other).spare = ap (λ (q : PlaceState). q.spare) is in
        let had : room ≤ (at_slot lists other).spare = rooms other there in omega arith

-- less room, and as much as there was
pub HaveRoom-less : (lists : List PlaceState) (room : ℕ) → HaveRoom lists room → HaveRoom lists (room - 1)
HaveRoom-less lists room rooms slot below = let had : room ≤ (at_slot lists slot).spare = rooms slot below in omega arith

-- what is noted, under equal names
pub same_notes : (node other : ℕ) (xs ys : List Entry) (clock later : ℕ) (known knows services serves receivers receives : List ℕ) (lists listing : List PlaceState)
    → node ≡ other → xs ≡ ys → clock ≡ later → known ≡ knows → services ≡ serves → receivers ≡ receives → lists ≡ listing
    → AreNotes other ys later knows serves receives listing → AreNotes node xs clock known services receivers lists
same_notes node other xs ys clock later known knows services serves receivers receives lists listing n e c k s r l notes = record {
  clock = c ∙ notes.clock ∙ ap (λ zs. clock_before zs) (sym e);
  known = k ∙ notes.known ∙ ap (λ zs. past_of zs) (sym e);
  services = s ∙ notes.services ∙ ap (λ zs. counts_of (events_taken zs)) (sym e);
  received = ap (λ counts. length counts) r ∙ notes.received;
  receivers = λ link is into.
      ap (λ counts. slice_index counts (slot_into link)) r ∙ notes.receivers link is (into ∙ n) ∙ ap (λ zs. taken_on (events_taken zs) link) (sym e);
  listed = ap (λ (ps : List PlaceState). length ps) l ∙ notes.listed;
  places = λ link is from.
      ap (λ (ps : List PlaceState). (at_slot ps (slot_from link)).places) l ∙ notes.places link is (from ∙ n) ∙ ap (λ zs. places_of link zs) (sym e);
  numbered = λ link. subst (λ zs. IsNumbered (sent link zs)) (sym e) (notes.numbered link);
}

-- nothing happened yet
pub AreNotes-none : (node : ℕ) (known services receivers : List ℕ) (lists : List PlaceState)
    → length known ≡ SERVICE_LINKS → ((k : ℕ) → slice_index known k ≡ 0) → length services ≡ SERVICE_LINKS → ((k : ℕ) → slice_index services k ≡ 0)
    → receivers ≡ replicate SLOTS 0 → lists ≡ replicate SLOTS no_places → AreNotes node [] 0 known services receivers lists
AreNotes-none node known services receivers lists long none wide zero r l = record {
  clock = refl;
  known = past_of-by [] known long (λ k lt. none k);
  services = of_each_count [] services wide (λ k lt. zero k);
  received = ap (λ counts. length counts) r ∙ length-replicate {A = ℕ} SLOTS 0;
  receivers = λ link is into.
      ap (λ counts. slice_index counts (slot_into link)) r ∙ get_or-replicate SLOTS (slot_into link) 0 0 (into_below link is);
  listed = ap (λ (ps : List PlaceState). length ps) l ∙ length-replicate SLOTS no_places;
  places = λ link is from.
      ap (λ (ps : List PlaceState). (at_slot ps (slot_from link)).places) l
      ∙ ap (λ (p : PlaceState). p.places) (get_or-replicate SLOTS (slot_from link) no_places no_places (from_below link is));
  numbered = λ link. refl;
}
