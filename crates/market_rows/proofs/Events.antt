-- The fields of an event.
use Rattle.std.proofs.Common.{◌≡◌, ◌≤◌, ℕ, List, [], ◌∷◌, Some, Ok, subst}
use Rattle.std.specs.Fmt.{decimal}
use Rattle.std.specs.Result.{result_ok}
use Rattle.market_events.specs.declared.events.Event.{Event}
use Rattle.market_events.specs.Counts.{AreCounts}
use Rattle.market_events.specs.Links.{IsLink}
use Rattle.market_events.specs.Texts.{text_of_body}
use Rattle.market_events.specs.WellFormed.{IsBody}
use Rattle.market_texts.specs.Readers.{body_of_text}
use Rattle.market_texts.proofs.TextLaws.{body_reads, body_spelled}
use Rattle.market_words.specs.Names.{id_max}
use Rattle.market_rows.specs.Reading.{◌then◌, RowFields, clock_max, link_read, number_read, clock_read, past_read, event_read}
use Rattle.market_rows.specs.Rows.{link_text, past_text, event_fields}
use Rattle.market_rows.proofs.Readings.{then_apart, ok_apart, some_same, clock_field, number_field}
use Rattle.market_rows.proofs.LinkTexts.{link_field}
use Rattle.market_rows.proofs.PastTexts.{past_field}

-- each part of an event is in its range
pub record IsSpelledEvent (event : Event) : Type 0 where
  pub link : IsLink event.link
  pub number : (1 ≤ event.number) × (event.number ≤ id_max)
  pub clock : event.clock ≤ clock_max
  pub past : AreCounts event.past
  pub body : IsBody event.body

-- the five fields of an event
abbrev pub event_list : RowFields → List (List ℕ)
event_list f = f.link ∷ f.number ∷ f.sent ∷ f.past ∷ f.body ∷ []

-- an event is read of its fields
pub event_reads : (node place clock kind : List ℕ) (e : Event) → IsSpelledEvent e → event_read (record {
  node = node;
  place = place;
  clock = clock;
  kind = kind;
  link = link_text e.link;
  number = decimal e.number;
  sent = decimal e.clock;
  past = past_text e.past;
  body = text_of_body e.body;
}) ≡ Some e
event_reads node place clock kind e is =
    let l : link_read (link_text e.link) ≡ Some e.link = link_field.reads e.link is.link in
    let n : number_read (decimal e.number) ≡ Some e.number = number_field.reads e.number is.number in
    let c : clock_read (decimal e.clock) ≡ Some e.clock = clock_field.reads e.clock is.clock in
    let p : past_read (past_text e.past) ≡ Some e.past = past_field.reads e.past is.past in
    let b : body_of_text (text_of_body e.body) ≡ Ok e.body = body_reads e.body is.body in
    rw (l, n, c, p, b)

-- and of no others
pub event_spelled : (f : RowFields) (e : Event) → event_read f ≡ Some e → IsSpelledEvent e × (event_list f ≡ event_fields e)
event_spelled f e read =
    let one = then_apart (link_read f.link) (λ link. number_read f.number then λ number. clock_read f.sent then λ clock. past_read f.past then λ past.
    result_ok (body_of_text f.body) then λ body. Some (record { link = link; number = number; clock = clock; past = past; body = body })) e read in
    let two = then_apart (number_read f.number) (λ number. clock_read f.sent then λ clock. past_read f.past then λ past.
    result_ok (body_of_text f.body) then λ body. Some (record { link = one.0; number = number; clock = clock; past = past; body = body })) e one.2 in
    let three = then_apart (clock_read f.sent) (λ clock. past_read f.past then λ past.
    result_ok (body_of_text f.body) then λ body. Some (record { link = one.0; number = two.0; clock = clock; past = past; body = body })) e two.2 in
    let four = then_apart (past_read f.past) (λ past.
    result_ok (body_of_text f.body) then λ body. Some (record { link = one.0; number = two.0; clock = three.0; past = past; body = body })) e three.2 in
    let five = then_apart (result_ok (body_of_text f.body)) (λ body. Some (record { link = one.0; number = two.0; clock = three.0; past = four.0; body = body })) e four.2 in
    let made : Event = record { link = one.0; number = two.0; clock = three.0; past = four.0; body = five.0 } in
    let l = link_field.spelled f.link one.0 one.1 in
    let n = number_field.spelled f.number two.0 two.1 in
    let c = clock_field.spelled f.sent three.0 three.1 in
    let p = past_field.spelled f.past four.0 four.1 in
    let b = body_spelled f.body five.0 (ok_apart (body_of_text f.body) five.0 five.1) in
    subst (λ x. IsSpelledEvent x × (event_list f ≡ event_fields x)) (some_same made e five.2)
    (record { link = l.0; number = n.0; clock = c.0; past = p.0; body = b.0 }, λ i. l.1 i ∷ n.1 i ∷ c.1 i ∷ p.1 i ∷ b.1 i ∷ [])
