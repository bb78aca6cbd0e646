-- What happened, of the fields behind the clock.
use Rattle.std.proofs.Common.{◌≡◌, ℕ, ◌==◌, ◌&&◌, Bool, true, false, cond, List, [], ◌∷◌, ◌++◌, length, codes, Some, None, Ok, refl, ap, ◌∙◌, subst, arith}
use Rattle.std.specs.Fmt.{decimal}
use Rattle.std.specs.Result.{result_ok}
use Rattle.std.proofs.lemmas.Slice.Eq.{bytes_eq-Decides}
use Rattle.market_amounts.specs.declared.keys.RequestId.{RequestId}
use Rattle.market_events.specs.declared.events.Event.{Event}
use Rattle.market_events.specs.declared.events.What.{What}
use Rattle.market_events.specs.declared.events.What.TheVariants.{Given, Taken, Made, Answered}
use Rattle.market_events.specs.declared.replies.Reply.{Reply}
use Rattle.market_events.specs.Texts.{id_text, text_of_request, text_of_reply, text_of_body}
use Rattle.market_events.specs.WellFormed.{IsRequest, IsReply, IsRequestId}
use Rattle.market_texts.specs.Readers.{request_of_text, reply_of_text}
use Rattle.market_texts.proofs.TextLaws.{request_reads, request_spelled, reply_reads, reply_spelled}
use Rattle.market_words.specs.Words.{same_text, id_of}
use Rattle.market_words.proofs.WordNames.{id_word}
use Rattle.market_rows.specs.Reading.{◌then◌, RowFields, cut_at, has_no_event, answer_read, event_read, given_read, answered_read, what_read}
use Rattle.market_rows.specs.Rows.{link_text, past_text, answer_text, what_fields}
use Rattle.market_rows.proofs.Cuts.{cut_reads, cut_spelled}
use Rattle.market_rows.proofs.Readings.{both_apart, one_number, then_apart, passed, ok_apart, some_same}
use Rattle.market_rows.proofs.Events.{IsSpelledEvent, event_reads, event_spelled}

-- each part of what happened is in its range
abbrev pub IsSpelledWhat : What → Type 0
IsSpelledWhat (Given request) = IsRequest request
IsSpelledWhat (Taken event) = IsSpelledEvent event
IsSpelledWhat (Made event) = IsSpelledEvent event
IsSpelledWhat (Answered id reply) = IsRequestId id × IsReply reply

-- the fields behind the clock
abbrev pub behind_clock : RowFields → List (List ℕ)
behind_clock f = f.kind ∷ f.link ∷ f.number ∷ f.sent ∷ f.past ∷ f.body ∷ []

-- the fields of what happened, behind these three
abbrev event_row : List ℕ → List ℕ → List ℕ → List ℕ → Event → RowFields
event_row node place clock kind e = record {
  node = node;
  place = place;
  clock = clock;
  kind = kind;
  link = link_text e.link;
  number = decimal e.number;
  sent = decimal e.clock;
  past = past_text e.past;
  body = text_of_body e.body;
}

abbrev bare_row : List ℕ → List ℕ → List ℕ → List ℕ → List ℕ → RowFields
bare_row node place clock kind body =
    record { node = node; place = place; clock = clock; kind = kind; link = []; number = []; sent = []; past = []; body = body }

abbrev pub row_behind : List ℕ → List ℕ → List ℕ → What → RowFields
row_behind node place clock (Given request) = bare_row node place clock (codes "given") (text_of_request request)
row_behind node place clock (Taken event) = event_row node place clock (codes "taken") event
row_behind node place clock (Made event) = event_row node place clock (codes "made") event
row_behind node place clock (Answered id reply) = bare_row node place clock (codes "answered") (answer_text id reply)

-- an answer is read of its text
answer_reads : (id : RequestId) (reply : Reply) → IsRequestId id → IsReply reply → answer_read (answer_text id reply) ≡ Some (id, reply)
answer_reads id reply id_is reply_is =
    let cut : cut_at 32 (answer_text id reply) ≡ Some (id_text id, text_of_reply reply) = cut_reads 32 (id_text id) (text_of_reply reply) (id_word.bare id id_is) in
    let one : id_of (id_text id) ≡ Ok id = id_word.reads id id_is in
    let other : reply_of_text (text_of_reply reply) ≡ Ok reply = reply_reads reply reply_is in
    ap (λ o. o then λ p. result_ok (id_of p.0) then λ i. result_ok (reply_of_text p.1) then λ r. Some (i, r)) cut
    ∙ ap (λ o. result_ok o then λ i. result_ok (reply_of_text (text_of_reply reply)) then λ r. Some (i, r)) one
    ∙ ap (λ o. result_ok o then λ r. Some (id, r)) other

-- and of no other
answer_spelled : (t : List ℕ) (a : RequestId × Reply) → answer_read t ≡ Some a → IsRequestId a.0 × IsReply a.1 × (t ≡ answer_text a.0 a.1)
answer_spelled t a e =
    let one = then_apart (cut_at 32 t) (λ p. result_ok (id_of p.0) then λ id. result_ok (reply_of_text p.1) then λ reply. Some (id, reply)) a e in
    let two = then_apart (result_ok (id_of one.0.0)) (λ id. result_ok (reply_of_text one.0.1) then λ reply. Some (id, reply)) a one.2 in
    let three = then_apart (result_ok (reply_of_text one.0.1)) (λ reply. Some (two.0, reply)) a two.2 in
    let id = id_word.spelled one.0.0 two.0 (ok_apart (id_of one.0.0) two.0 two.1) in
    let reply = reply_spelled one.0.1 three.0 (ok_apart (reply_of_text one.0.1) three.0 three.1) in
    subst (λ (x : RequestId × Reply). IsRequestId x.0 × IsReply x.1 × (t ≡ answer_text x.0 x.1)) (some_same (two.0, three.0) a three.2) (
      id.0,
      reply.0,
      cut_spelled 32 t one.0 one.1 ∙ ap (λ front. front ++ 32 ∷ one.0.1) id.1 ∙ ap (λ behind. id_text two.0 ++ 32 ∷ behind) reply.1,
    )

-- what happened is read of its fields
pub what_reads : (node place clock : List ℕ) (w : What) → IsSpelledWhat w → what_read (row_behind node place clock w) ≡ Some w
what_reads node place clock (Given request) is = let it : request_of_text (text_of_request request) ≡ Ok request = request_reads request is in ap (λ r. result_ok r then λ request. Some (Given request)) it
what_reads node place clock (Taken event) is = ap (λ o. o then λ event. Some (Taken event)) (event_reads node place clock (codes "taken") event is)
what_reads node place clock (Made event) is = ap (λ o. o then λ event. Some (Made event)) (event_reads node place clock (codes "made") event is)
what_reads node place clock (Answered id reply) is = ap (λ o. o then λ a. Some (Answered a.0 a.1)) (answer_reads id reply is.0 is.1)

-- where the fields of an event are empty
nothing : (text : List ℕ) → (length text == 0) ≡ true → text ≡ []
nothing [] e = refl
nothing (b ∷ bs) e = let none : length (b ∷ bs) ≡ 0 = one_number (length (b ∷ bs)) 0 e in absurd (omega (arith, none))

no_event : (f : RowFields) → has_no_event f ≡ true → (f.link ≡ []) × (f.number ≡ []) × (f.sent ≡ []) × (f.past ≡ [])
no_event f e =
    let three = both_apart ((length f.link == 0) && (length f.number == 0) && (length f.sent == 0)) (length f.past == 0) e in
    let two = both_apart ((length f.link == 0) && (length f.number == 0)) (length f.sent == 0) three.0 in
    let one = both_apart (length f.link == 0) (length f.number == 0) two.0 in
    (nothing f.link one.0, nothing f.number one.1, nothing f.sent two.1, nothing f.past three.1)

-- what is said of fields by their kind
abbrev Spells : RowFields → What → Type 0
Spells f w = IsSpelledWhat w × (behind_clock f ≡ what_fields w)

given_spelled : (f : RowFields) (w : What) → f.kind ≡ codes "given" → given_read f ≡ Some w → Spells f w
given_spelled f w kind e =
    let test = passed (has_no_event f) (result_ok (request_of_text f.body) then λ request. Some (Given request)) w e in
    let empty = no_event f test.0 in
    let made = then_apart (result_ok (request_of_text f.body)) (λ request. Some (Given request)) w test.1 in
    let known = request_spelled f.body made.0 (ok_apart (request_of_text f.body) made.0 made.1) in
    subst (Spells f) (some_same (Given made.0) w made.2)
    (known.0, λ i. kind i ∷ empty.0 i ∷ empty.1 i ∷ empty.2 i ∷ empty.3 i ∷ known.1 i ∷ [])

answered_spelled : (f : RowFields) (w : What) → f.kind ≡ codes "answered" → answered_read f ≡ Some w → Spells f w
answered_spelled f w kind e =
    let test = passed (has_no_event f) (answer_read f.body then λ a. Some (Answered a.0 a.1)) w e in
    let empty = no_event f test.0 in
    let made = then_apart (answer_read f.body) (λ a. Some (Answered a.0 a.1)) w test.1 in
    let known = answer_spelled f.body made.0 made.1 in
    subst (Spells f) (some_same (Answered made.0.0 made.0.1) w made.2)
    ((known.0, known.1), λ i. kind i ∷ empty.0 i ∷ empty.1 i ∷ empty.2 i ∷ empty.3 i ∷ known.2 i ∷ [])

taken_spelled : (f : RowFields) (w : What) → f.kind ≡ codes "taken" → (event_read f then λ event. Some (Taken event)) ≡ Some w → Spells f w
taken_spelled f w kind e =
    let made = then_apart (event_read f) (λ event. Some (Taken event)) w e in
    let known = event_spelled f made.0 made.1 in
    subst (Spells f) (some_same (Taken made.0) w made.2) (known.0, λ i. kind i ∷ known.1 i)

made_spelled : (f : RowFields) (w : What) → f.kind ≡ codes "made" → (event_read f then λ event. Some (Made event)) ≡ Some w → Spells f w
made_spelled f w kind e =
    let made = then_apart (event_read f) (λ event. Some (Made event)) w e in
    let known = event_spelled f made.0 made.1 in
    subst (Spells f) (some_same (Made made.0) w made.2) (known.0, λ i. kind i ∷ known.1 i)

-- and of no others
pub what_spelled : (f : RowFields) (w : What) → what_read f ≡ Some w → Spells f w
what_spelled f w e = by_given (same_text f.kind (codes "given")) refl e
  where
    by_answered : (b : Bool) → same_text f.kind (codes "answered") ≡ b → cond b (answered_read f) None ≡ Some w → Spells f w
    by_answered true same e = answered_spelled f w ((bytes_eq-Decides f.kind (codes "answered")).0 same) e
    by_answered false other e = absurd (cc)

    by_made : (b : Bool) → same_text f.kind (codes "made") ≡ b
        → cond b (event_read f then λ event. Some (Made event)) (cond (same_text f.kind (codes "answered")) (answered_read f) None) ≡ Some w → Spells f w
    by_made true same e = made_spelled f w ((bytes_eq-Decides f.kind (codes "made")).0 same) e
    by_made false other e = by_answered (same_text f.kind (codes "answered")) refl e

    by_taken : (b : Bool) → same_text f.kind (codes "taken") ≡ b
        → cond b (event_read f then λ event. Some (Taken event))
        (cond (same_text f.kind (codes "made")) (event_read f then λ event. Some (Made event)) (cond (same_text f.kind (codes "answered")) (answered_read f) None)) ≡ Some w
        → Spells f w
    by_taken true same e = taken_spelled f w ((bytes_eq-Decides f.kind (codes "taken")).0 same) e
    by_taken false other e = by_made (same_text f.kind (codes "made")) refl e

    by_given : (b : Bool) → same_text f.kind (codes "given") ≡ b
        → cond b (given_read f) (cond (same_text f.kind (codes "taken")) (event_read f then λ event. Some (Taken event))
        (cond (same_text f.kind (codes "made")) (event_read f then λ event. Some (Made event)) (cond (same_text f.kind (codes "answered")) (answered_read f) None))) ≡ Some w
        → Spells f w
    by_given true same e = given_spelled f w ((bytes_eq-Decides f.kind (codes "given")).0 same) e
    by_given false other e = by_taken (same_text f.kind (codes "taken")) refl e
