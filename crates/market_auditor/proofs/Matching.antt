-- What was taken on a link is what was made on it, where each event that was taken is the one with its number.
use Rattle.std.proofs.Common.{◌≡◌, ℕ, ◌+◌, Bool, true, false, List, [], ◌∷◌, ◌++◌, Some, None, if◌then◌else◌, length, refl, ap, sym, ◌∙◌, subst, append-nil, append_assoc}
use Rattle.std.specs.Prelude.{slice_get}
use Rattle.std.specs.Option.{option_to_list}
use Rattle.std.proofs.lemmas.List.Elements.{filter_map-append}
use Rattle.market_events.specs.declared.events.Entry.{Entry}
use Rattle.market_events.specs.declared.events.Event.{Event}
use Rattle.market_events.specs.declared.events.What.{What}
use Rattle.market_events.specs.declared.events.What.TheVariants.{Given, Taken, Made, Answered}
use Rattle.market_events.specs.declared.links.Link.{Link}
use Rattle.market_events.specs.Links.{same_link, sender_of}
use Rattle.market_events.proofs.Values.Offers.{same_link-true, same_link-same}
use Rattle.market_history.specs.Histories.{Histories, journal_at}
use Rattle.market_history.specs.Schedule.{event_at}
use Rattle.market_history.specs.Sent.{got_on, got, sent, IsNumbered, IsPrefixOf}
use Rattle.market_history.specs.Stamps.{EachAfter}
use Rattle.market_history.proofs.SentLaws.{got-push, got-push-taken, IsPrefixOf-next}
use Rattle.market_node.proofs.PlaceLaws.{event_with-at, slice_get-seam}
use Rattle.market_auditor.specs.Criteria.{HasNextNumber, IsAsMade}

module _ (h : Histories) (link : Link) (numbered : IsNumbered (sent link (journal_at h (sender_of link)))) where
  -- the event with a number
  pub event-with : (index number : ℕ) → number ≡ index + 1 → event_at h link number ≡ slice_get (sent link (journal_at h (sender_of link))) index
  event-with index number is = event_with-at link (journal_at h (sender_of link)) index number numbered is

  one : (before : List Entry) (event : Event) (test : Bool) → same_link event.link link ≡ test → IsPrefixOf (got link before) (sent link (journal_at h (sender_of link)))
      → event.number ≡ length (got event.link before) + 1 → event_at h event.link event.number ≡ Some event
      → IsPrefixOf (got link before ++ option_to_list (if test then Some event else None)) (sent link (journal_at h (sender_of link)))
  one before event true same prefix number is =
      let on : event.link ≡ link = same_link-true event.link link same in
      let next : event.number ≡ length (got link before) + 1 = number ∙ ap (λ l. length (got l before) + 1) on in
      let there : event_at h link event.number ≡ Some event = subst (λ l. event_at h l event.number ≡ Some event) on is in
      IsPrefixOf-next (got link before) (sent link (journal_at h (sender_of link))) event prefix (sym (event-with (length (got link before)) event.number next) ∙ there)
  one before event false same prefix number is = subst (λ l. IsPrefixOf l (sent link (journal_at h (sender_of link)))) (sym (append-nil (got link before))) prefix

  step : (before : List Entry) (what : What) → IsPrefixOf (got link before) (sent link (journal_at h (sender_of link))) → HasNextNumber before what → IsAsMade h what
      → IsPrefixOf (got link before ++ option_to_list (got_on link what)) (sent link (journal_at h (sender_of link)))
  step before (Given request) prefix number is = subst (λ l. IsPrefixOf l (sent link (journal_at h (sender_of link)))) (sym (append-nil (got link before))) prefix
  step before (Taken event) prefix number is = one before event (same_link event.link link) refl prefix number is
  step before (Made event) prefix number is = subst (λ l. IsPrefixOf l (sent link (journal_at h (sender_of link)))) (sym (append-nil (got link before))) prefix
  step before (Answered id reply) prefix number is = subst (λ l. IsPrefixOf l (sent link (journal_at h (sender_of link)))) (sym (append-nil (got link before))) prefix

  matched_from : (before xs : List Entry) → IsPrefixOf (got link before) (sent link (journal_at h (sender_of link)))
      → EachAfter (λ b (x : Entry). HasNextNumber b x.what) before xs → EachAfter (λ b (x : Entry). IsAsMade h x.what) before xs
      → IsPrefixOf (got link (before ++ xs)) (sent link (journal_at h (sender_of link)))
  matched_from before [] prefix numbers made = subst (λ l. IsPrefixOf (got link l) (sent link (journal_at h (sender_of link)))) (sym (append-nil before)) prefix
  matched_from before (x ∷ xs) prefix numbers made =
      subst (λ l. IsPrefixOf (got link l) (sent link (journal_at h (sender_of link)))) (append_assoc before (x ∷ []) xs)
      (matched_from (before ++ x ∷ []) xs
      (subst (λ l. IsPrefixOf l (sent link (journal_at h (sender_of link)))) (sym (got-push link before x)) (step before x.what prefix numbers.0 made.0))
      numbers.1 made.1)

  -- what a journal took of the link
  pub matched_all : (journal : List Entry) → EachAfter (λ b (x : Entry). HasNextNumber b x.what) [] journal → EachAfter (λ b (x : Entry). IsAsMade h x.what) [] journal
      → IsPrefixOf (got link journal) (sent link (journal_at h (sender_of link)))
  matched_all journal numbers made = matched_from [] journal (sent link (journal_at h (sender_of link)), refl) numbers made

  -- and an event that is taken is the one with its number, where what was taken is matched
  pub as_made : (before : List Entry) (x : Entry) (rest : List Entry) (event : Event) → x.what ≡ Taken event → event.link ≡ link → event.number ≡ length (got link before) + 1
      → IsPrefixOf (got link (before ++ x ∷ rest)) (sent link (journal_at h (sender_of link))) → event_at h link event.number ≡ Some event
  as_made before x rest event is on next (more, prefix) =
      event-with (length (got link before)) event.number next
      ∙ ap (λ l. slice_get l (length (got link before)))
      (prefix ∙ ap (λ l. l ++ more) here ∙ append_assoc (got link before) (event ∷ got link rest) more)
      ∙ slice_get-seam (got link before) event (got link rest ++ more)
    where
      here : got link (before ++ x ∷ rest) ≡ got link before ++ event ∷ got link rest
      here =
          ap (got link) (sym (append_assoc before (x ∷ []) rest)) ∙ filter_map-append (λ (y : Entry). got_on link y.what) (before ++ x ∷ []) rest
          ∙ ap (λ l. l ++ got link rest) (got-push-taken link before x event is (subst (λ l. same_link event.link l ≡ true) on (same_link-same event.link)))
          ∙ append_assoc (got link before) (event ∷ []) (got link rest)
