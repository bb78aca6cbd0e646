-- What is read at the places at which a lane notes that a request was given and answered.
use Rattle.std.proofs.Common.{◌≡◌, ℕ, List, Option, Some, None, length, refl, ap, sym, ◌∙◌}
use Rattle.std.specs.Prelude.{slice_get}
use Rattle.std.specs.Option.{option_copied}
use Rattle.std.specs.Slice.{IsItemAt}
use Rattle.std.proofs.lemmas.Option.{slice_get_past, slice_get_read}
use denote.Bor.{Bor}
use Rattle.market_amounts.specs.declared.keys.RequestId.{RequestId}
use Rattle.market_events.specs.declared.events.Entry.{Entry}
use Rattle.market_history.specs.Once.{requests_given, with_id, reply_in, reply_of}
use Rattle.market_node.specs.declared.table.Kept.{Kept}
use Rattle.market_node.specs.Keeping.{given_in, first_place, kept_if, KeepsRequests, request_places_at}
use Rattle.market_node.proofs.KeepLaws.{not_given, not_answered}
use Rattle.market_node.proofs.ReadLaws.{of_entry, reply_there, request_there}

-- where what is kept says that the request was given and answered
kept_places : (given answered : Option ℕ) (kept : Kept) → kept_if given answered ≡ Some kept → (given ≡ Some kept.given) × (answered ≡ kept.answered)
kept_places None answered kept is = let no : ⊥ = cc in absurd no
kept_places (Some place) answered kept is =
    let same : record { given = place; answered = answered } ≡ kept = cc in
    (ap (λ (k : Kept). Some k.given) same, ap (λ (k : Kept). k.answered) same)

no_given : (given answered : Option ℕ) → kept_if given answered ≡ None → given ≡ None
no_given None answered none = refl
no_given (Some place) answered none = let no : ⊥ = cc in absurd no

-- the places of a request that a lane's table has
places_kept : (xs : List Entry) (table : List (RequestId × Kept)) (count : ℕ) (waiting : Option RequestId) (id : RequestId) (kept : Kept) → KeepsRequests xs table count waiting → request_places_at table id ≡ Some kept
    → (first_place (given_in id) 0 xs ≡ Some kept.given) × (first_place (reply_in id) 0 xs ≡ kept.answered)
places_kept xs table count waiting id kept keeps there =
    kept_places (first_place (given_in id) 0 xs) (first_place (reply_in id) 0 xs) kept (sym (keeps.each id) ∙ there)

-- a request that the table has not was not given
pub request_absent : (xs : List Entry) (table : List (RequestId × Kept)) (count : ℕ) (waiting : Option RequestId) (id : RequestId) → KeepsRequests xs table count waiting → request_places_at table id ≡ None → with_id id (requests_given xs) ≡ None
request_absent xs table count waiting id keeps none =
    not_given id xs (no_given (first_place (given_in id) 0 xs) (first_place (reply_in id) 0 xs) (sym (keeps.each id) ∙ none))

-- and was not answered
pub reply_absent : (xs : List Entry) (table : List (RequestId × Kept)) (count : ℕ) (waiting : Option RequestId) (id : RequestId) → KeepsRequests xs table count waiting → request_places_at table id ≡ None → reply_of xs id ≡ None
reply_absent xs table count waiting id keeps none = keeps.answered id (request_absent xs table count waiting id keeps none)

-- the request that the table has
pub request_kept : (xs : List Entry) (table : List (RequestId × Kept)) (count : ℕ) (waiting : Option RequestId) (id : RequestId) (kept : Kept) → KeepsRequests xs table count waiting → request_places_at table id ≡ Some kept
    → with_id id (requests_given xs) ≡ of_entry (given_in id) (slice_get xs kept.given)
request_kept xs table count waiting id kept keeps there =
    request_there id xs kept.given (places_kept xs table count waiting id kept keeps there).0

-- and its reply, where it has one
pub reply_kept : (xs : List Entry) (table : List (RequestId × Kept)) (count : ℕ) (waiting : Option RequestId) (id : RequestId) (kept : Kept) (place : ℕ) → KeepsRequests xs table count waiting → request_places_at table id ≡ Some kept → kept.answered ≡ Some place
    → reply_of xs id ≡ of_entry (reply_in id) (slice_get xs place)
reply_kept xs table count waiting id kept place keeps there answered =
    reply_there id xs place ((places_kept xs table count waiting id kept keeps there).1 ∙ answered)

pub reply_open : (xs : List Entry) (table : List (RequestId × Kept)) (count : ℕ) (waiting : Option RequestId) (id : RequestId) (kept : Kept) → KeepsRequests xs table count waiting → request_places_at table id ≡ Some kept → kept.answered ≡ None → reply_of xs id ≡ None
reply_open xs table count waiting id kept keeps there open_one =
    not_answered id xs ((places_kept xs table count waiting id kept keeps there).1 ∙ open_one)

-- what is lent at a place is what stands there
pub copied_at : {X : Type 0} (xs : List X) (i : ℕ) (r : Option (Bor X)) → IsItemAt xs i r → option_copied r ≡ slice_get xs i
copied_at xs i None item = sym (slice_get_past xs i item.3)
copied_at xs i (Some x) item = sym (slice_get_read xs (length xs) i x.now refl item.3.0 item.1)

-- what is read at the place at which a request was given
pub request_read : (xs es : List Entry) (table : List (RequestId × Kept)) (count : ℕ) (waiting : Option RequestId) (id : RequestId) (kept : Kept) (lent : Option (Bor Entry)) → KeepsRequests xs table count waiting → Some kept ≡ request_places_at table id
    → IsItemAt es kept.given lent → es ≡ xs → of_entry (given_in id) (option_copied lent) ≡ with_id id (requests_given xs)
request_read xs es table count waiting id kept lent keeps there item same =
    ap (λ o. of_entry (given_in id) o) (copied_at es kept.given lent item ∙ ap (λ l. slice_get l kept.given) same)
    ∙ sym (request_kept xs table count waiting id kept keeps (sym there))

-- and at the place at which it was answered
pub reply_read : (xs es : List Entry) (table : List (RequestId × Kept)) (count : ℕ) (waiting : Option RequestId) (id : RequestId) (kept : Kept) (place : ℕ) (lent : Option (Bor Entry)) → KeepsRequests xs table count waiting → Some kept ≡ request_places_at table id
    → kept.answered ≡ Some place → IsItemAt es place lent → es ≡ xs → of_entry (reply_in id) (option_copied lent) ≡ reply_of xs id
reply_read xs es table count waiting id kept place lent keeps there answered item same =
    ap (λ o. of_entry (reply_in id) o) (copied_at es place lent item ∙ ap (λ l. slice_get l place) same)
    ∙ sym (reply_kept xs table count waiting id kept place keeps (sym there) answered)
