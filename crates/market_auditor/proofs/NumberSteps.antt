-- The watcher of numbers, with one entry more.
use Rattle.std.proofs.Common.{◌≡◌, ◌≢◌, ℕ, ◌+◌, ◌<◌, ◌==◌, Bool, true, false, if◌then◌else◌, List, [], ◌∷◌, ◌++◌, Some, None, length, replicate, slice_index, refl, ap, sym, ◌∙◌, subst, arith, length-append}
use Rattle.std.specs.Prelude.{◌↔◌}
use Rattle.std.specs.List.{slice_set}
use Rattle.std.specs.Option.{option_to_list}
use Rattle.std.proofs.lemmas.Bool.Decides.{nat_tests}
use Rattle.std.proofs.lemmas.List.{length-set, get_or-set_same, get_or-set_other, get_or-replicate, length-replicate, append-nil}
use Rattle.market_events.specs.declared.events.Entry.{Entry}
use Rattle.market_events.specs.declared.events.Event.{Event}
use Rattle.market_events.specs.declared.events.What.TheVariants.{Taken, Made}
use Rattle.market_events.specs.declared.links.Link.{Link}
use Rattle.market_events.specs.Links.{IsLink, sender_of, receiver_of, same_link}
use Rattle.market_events.proofs.Values.Offers.{same_link-true}
use Rattle.market_history.specs.Histories.{Histories}
use Rattle.market_history.specs.Sent.{event_made_on, got_on, sent, got}
use Rattle.market_history.proofs.SentLaws.{sent-push, got-push}
use Rattle.market_links.proofs.SlotLaws.{from_below, into_below, apart_from, apart_into}
use Rattle.market_links.specs.Slots.{slot_from, slot_into}
use Rattle.market_links.specs.declared.slots.TheConstants.{SLOTS}
use Rattle.market_auditor.specs.declared.verdicts.Criterion.TheVariants.{C1}
use Rattle.market_auditor.specs.Criteria.{HasNextNumber}
use Rattle.market_auditor.specs.Numbers.{AreNumbers}
use Rattle.market_auditor.specs.Watching.{IsLookedAt, Judges}
use Rattle.market_auditor.proofs.Looking.{judge, taken_there, made_there}

-- what stands at a place after a write
pub set_at : (counts : List ℕ) (i j value : ℕ) (b : Bool) → (i == j) ≡ b → i < length counts → slice_index (slice_set counts i value) j ≡ (if b then value else slice_index counts j)
set_at counts i j value true test within =
    let e : i ≡ j = grind (arith, nat_tests) in
    let P : ℕ → Type 0 = λ k. slice_index (slice_set counts i value) k ≡ value in
    subst P e (get_or-set_same counts i value 0 within)
set_at counts i j value false test within =
    let differs : j ≢ i = grind (arith, nat_tests) in get_or-set_other counts i j value 0 differs

-- the events of a link with one more, and without
length-more : (events : List Event) (event : Event) (b : Bool) → length (events ++ option_to_list (if b then Some event else None)) ≡ (if b then length events + 1 else length events)
length-more events event true = length-append events (event ∷ [])
length-more events event false = ap (λ (l : List Event). length l) (append-nil events)

pub none_seen : (n : ℕ) (made taken : List ℕ) → made ≡ replicate SLOTS 0 → taken ≡ replicate SLOTS 0 → AreNumbers made taken n []
none_seen n made taken m t = record {
  made_each = ap (λ (l : List ℕ). length l) m ∙ length-replicate {A = ℕ} SLOTS 0;
  taken_each = ap (λ (l : List ℕ). length l) t ∙ length-replicate {A = ℕ} SLOTS 0;
  made_on = λ link is from. ap (λ (l : List ℕ). slice_index l (slot_from link)) m ∙ get_or-replicate SLOTS (slot_from link) 0 0 (from_below link is);
  taken_on = λ link is into. ap (λ (l : List ℕ). slice_index l (slot_into link)) t ∙ get_or-replicate SLOTS (slot_into link) 0 0 (into_below link is);
}

module _ (n : ℕ) (before : List Entry) (x : Entry) (made taken : List ℕ) (saw : AreNumbers made taken n before) where
  sent_same : (link : Link) → event_made_on link x.what ≡ None → length (sent link before) ≡ length (sent link (before ++ x ∷ []))
  sent_same link none = sym (ap (λ (l : List Event). length l) (sent-push link before x ∙ ap (λ o. sent link before ++ option_to_list o) none ∙ append-nil (sent link before)))

  got_same : (link : Link) → got_on link x.what ≡ None → length (got link before) ≡ length (got link (before ++ x ∷ []))
  got_same link none = sym (ap (λ (l : List Event). length l) (got-push link before x ∙ ap (λ o. got link before ++ option_to_list o) none ∙ append-nil (got link before)))

  -- an entry that neither made nor took an event
  pub numbers_quiet : ((link : Link) → event_made_on link x.what ≡ None) → ((link : Link) → got_on link x.what ≡ None) → AreNumbers made taken n (before ++ x ∷ [])
  numbers_quiet unmade untaken = record {
    made_each = saw.made_each;
    taken_each = saw.taken_each;
    made_on = λ link is from. saw.made_on link is from ∙ sent_same link (unmade link);
    taken_on = λ link is into. saw.taken_on link is into ∙ got_same link (untaken link);
  }

  module _ (event : Event) (later : List ℕ) where
    -- an event was made
    pub numbers_made : x.what ≡ Made event → IsLink event.link → sender_of event.link ≡ n → event.number ≡ length (sent event.link before) + 1 → later ≡ slice_set made (slot_from event.link) event.number → AreNumbers later taken n (before ++ x ∷ [])
    numbers_made is on leaves number set = record {
      made_each = ap (λ (l : List ℕ). length l) set ∙ length-set made (slot_from event.link) event.number ∙ saw.made_each;
      taken_each = saw.taken_each;
      made_on = λ link other from. by link other from (same_link event.link link) refl;
      taken_on = λ link other into. saw.taken_on link other into ∙ got_same link (ap (got_on link) is);
    }
      where
        below : slot_from event.link < length made
        below = let low = from_below event.link on in let long = saw.made_each in omega arith

        by : (link : Link) → IsLink link → sender_of link ≡ n → (b : Bool) → same_link event.link link ≡ b → slice_index later (slot_from link) ≡ length (sent link (before ++ x ∷ []))
        by link other from b same =
            ap (λ (l : List ℕ). slice_index l (slot_from link)) set
            ∙ set_at made (slot_from event.link) (slot_from link) event.number b (sym (apart_from event.link link on other (leaves ∙ sym from)) ∙ same) below
            ∙ value b same
            ∙ sym (length-more (sent link before) event b)
            ∙ sym (ap (λ (l : List Event). length l) (sent-push link before x ∙ ap (λ w. sent link before ++ option_to_list (event_made_on link w)) is ∙ ap (λ b. sent link before ++ option_to_list (if b then Some event else None)) same))
          where
            value : (b : Bool) → same_link event.link link ≡ b → (if b then event.number else slice_index made (slot_from link)) ≡ (if b then length (sent link before) + 1 else length (sent link before))
            value true same = number ∙ ap (λ l. length (sent l before) + 1) (same_link-true event.link link same)
            value false same = saw.made_on link other from

    -- an event was taken
    pub numbers_taken : x.what ≡ Taken event → IsLink event.link → receiver_of event.link ≡ n → event.number ≡ length (got event.link before) + 1 → later ≡ slice_set taken (slot_into event.link) event.number → AreNumbers made later n (before ++ x ∷ [])
    numbers_taken is on leads number set = record {
      made_each = saw.made_each;
      taken_each = ap (λ (l : List ℕ). length l) set ∙ length-set taken (slot_into event.link) event.number ∙ saw.taken_each;
      made_on = λ link other from. saw.made_on link other from ∙ sent_same link (ap (event_made_on link) is);
      taken_on = λ link other into. by link other into (same_link event.link link) refl;
    }
      where
        below : slot_into event.link < length taken
        below = let low = into_below event.link on in let long = saw.taken_each in omega arith

        by : (link : Link) → IsLink link → receiver_of link ≡ n → (b : Bool) → same_link event.link link ≡ b → slice_index later (slot_into link) ≡ length (got link (before ++ x ∷ []))
        by link other into b same =
            ap (λ (l : List ℕ). slice_index l (slot_into link)) set
            ∙ set_at taken (slot_into event.link) (slot_into link) event.number b (sym (apart_into event.link link on other (leads ∙ sym into)) ∙ same) below
            ∙ value b same
            ∙ sym (length-more (got link before) event b)
            ∙ sym (ap (λ (l : List Event). length l) (got-push link before x ∙ ap (λ w. got link before ++ option_to_list (got_on link w)) is ∙ ap (λ b. got link before ++ option_to_list (if b then Some event else None)) same))
          where
            value : (b : Bool) → same_link event.link link ≡ b → (if b then event.number else slice_index taken (slot_into link)) ≡ (if b then length (got link before) + 1 else length (got link before))
            value true same = number ∙ ap (λ l. length (got l before) + 1) (same_link-true event.link link same)
            value false same = saw.taken_on link other into

-- what the watcher says of an entry
module _ (h : Histories) (n : ℕ) (before : List Entry) (x : Entry) (at : IsLookedAt C1 h n before x) (made taken : List ℕ) (saw : AreNumbers made taken n before) where
  pub judged_made : (event : Event) (later : List ℕ) (right : Bool) → x.what ≡ Made event → ((right ≡ true) ↔ (event.number ≡ slice_index made (slot_from event.link) + 1))
      → (right ≡ true → later ≡ slice_set made (slot_from event.link) event.number) → Judges C1 h n before x (AreNumbers later taken n) right
  judged_made event later right is next noted =
      let there = made_there C1 h n before x at event is in
      let counted : slice_index made (slot_from event.link) ≡ length (sent event.link before) = saw.made_on event.link there.0.link there.1 in
      judge right
      (λ yes. subst (HasNextNumber before) (sym is) (next.0 yes ∙ ap (λ k. k + 1) counted))
      (λ asks. next.1 (subst (HasNextNumber before) is asks ∙ ap (λ k. k + 1) (sym counted)))
      (λ yes asks. numbers_made n before x made taken saw event later is there.0.link there.1 (subst (HasNextNumber before) is asks) (noted yes))

  pub judged_taken : (event : Event) (later : List ℕ) (right : Bool) → x.what ≡ Taken event → ((right ≡ true) ↔ (event.number ≡ slice_index taken (slot_into event.link) + 1))
      → (right ≡ true → later ≡ slice_set taken (slot_into event.link) event.number) → Judges C1 h n before x (AreNumbers made later n) right
  judged_taken event later right is next noted =
      let there = taken_there C1 h n before x at event is in
      let counted : slice_index taken (slot_into event.link) ≡ length (got event.link before) = saw.taken_on event.link there.0.link there.1 in
      judge right
      (λ yes. subst (HasNextNumber before) (sym is) (next.0 yes ∙ ap (λ k. k + 1) counted))
      (λ asks. next.1 (subst (HasNextNumber before) is asks ∙ ap (λ k. k + 1) (sym counted)))
      (λ yes asks. numbers_taken n before x made taken saw event later is there.0.link there.1 (subst (HasNextNumber before) is asks) (noted yes))
