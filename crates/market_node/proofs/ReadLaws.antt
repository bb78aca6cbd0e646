-- What is read of the entries at the places that are noted.
use Rattle.std.proofs.Common.{◌≡◌, ℕ, ◌+◌, List, ◌∷◌, ◌++◌, Option, Some, None, length, ap, sym, ◌∙◌, arith}
use Rattle.std.specs.Prelude.{slice_get}
use Rattle.market_amounts.specs.declared.keys.RequestId.{RequestId}
use Rattle.market_events.specs.declared.events.Entry.{Entry}
use Rattle.market_events.specs.declared.events.What.{What}
use Rattle.market_events.specs.declared.links.Link.{Link}
use Rattle.market_history.specs.Once.{requests_given, with_id, reply_in, reply_of}
use Rattle.market_history.specs.Sent.{event_made_on, sent}
use Rattle.market_node.specs.Keeping.{given_in, first_place}
use Rattle.market_node.specs.Notes.{places_of}
use Rattle.market_node.proofs.KeepLaws.{given_at, answered_at, with_id-first}
use Rattle.market_node.proofs.PlaceLaws.{place_leads, slice_get-seam}

-- what f gives of an entry, where there is one
abbrev pub of_entry : {B : Type 0} → (What → Option B) → Option Entry → Option B
of_entry f None = None
of_entry f (Some x) = f x.what

seam : (xs before : List Entry) (x : Entry) (after : List Entry) (place : ℕ) → xs ≡ before ++ x ∷ after → place ≡ 0 + length before → slice_get xs place ≡ Some x
seam xs before x after place split there =
    let at : place ≡ length before = omega arith in
    ap (λ (l : List Entry). slice_get l place) split ∙ ap (λ i. slice_get (before ++ x ∷ after) i) at ∙ slice_get-seam before x after

-- the reply to an id
pub reply_there : (id : RequestId) (xs : List Entry) (place : ℕ) → first_place (reply_in id) 0 xs ≡ Some place → reply_of xs id ≡ of_entry (reply_in id) (slice_get xs place)
reply_there id xs place at =
    let it = answered_at id xs place at in
    it.first ∙ sym it.gives ∙ ap (λ o. of_entry (reply_in id) o) (sym (seam xs it.before it.entry it.after place it.split it.there))

-- the request with an id
pub request_there : (id : RequestId) (xs : List Entry) (place : ℕ) → first_place (given_in id) 0 xs ≡ Some place → with_id id (requests_given xs) ≡ of_entry (given_in id) (slice_get xs place)
request_there id xs place at =
    let it = given_at id xs place at in
    with_id-first id xs ∙ it.first ∙ sym it.gives ∙ ap (λ o. of_entry (given_in id) o) (sym (seam xs it.before it.entry it.after place it.split it.there))

-- the event of a link
pub event_there : (link : Link) (xs : List Entry) (index place : ℕ) → slice_get (places_of link xs) index ≡ Some place → slice_get (sent link xs) index ≡ of_entry (event_made_on link) (slice_get xs place)
event_there link xs index place at =
    let it = place_leads link xs index place at in
    it.indexed ∙ sym it.on ∙ ap (λ o. of_entry (event_made_on link) o) (sym (seam xs it.before it.entry it.after place it.split it.there))
