-- What is read of the text of a row: none where it is not of the form.
use Rattle.std.specs.Prelude.{◌≡◌, ℕ, zero, suc, ◌==◌, Bool, false, ◌&&◌, nat_lt, List, [], ◌∷◌, length}
use Rattle.std.specs.Prelude.{codes, Option, Some, None, Result, Ok, Err, MatchResult, if◌then◌else◌}
use Rattle.std.specs.Result.{result_ok}
use Rattle.std.specs.List.{join_with_byte}
use Rattle.market_amounts.specs.declared.keys.RequestId.{RequestId}
use Rattle.market_edges.specs.Shelves.{most_rows}
use Rattle.market_events.specs.declared.events.Entry.{Entry}
use Rattle.market_events.specs.declared.events.Event.{Event}
use Rattle.market_events.specs.declared.events.What.{What}
use Rattle.market_events.specs.declared.events.What.TheVariants.{Given, Taken, Made, Answered}
use Rattle.market_events.specs.declared.links.Link.{Link}
use Rattle.market_events.specs.declared.links.Link.TheVariants.{Service, Asked, Told}
use Rattle.market_events.specs.declared.links.TheConstants.{SERVICE_LINKS}
use Rattle.market_events.specs.declared.replies.Reply.{Reply}
use Rattle.market_texts.specs.declared.faults.BodyFault.{BodyFault}
use Rattle.market_texts.specs.declared.faults.BodyFault.TheVariants as text
use Rattle.market_texts.specs.Readers.{request_of_text, reply_of_text, body_of_text}
use Rattle.market_words.specs.declared.faults.WordFault.{WordFault}
use Rattle.market_words.specs.Names.{id_max}
use Rattle.market_words.specs.Words.{same_text, pieces, number_up_to, number_id, above_zero, id_of}
use Rattle.market_rows.specs.declared.faults.RowFault.{RowFault}
use Rattle.market_rows.specs.declared.faults.RowFault.TheVariants.{Bad, OutOfMemory}
use Rattle.market_rows.specs.Happening.{happens}

-- one after the other, where there is something
infixr 10 ◌then◌
abbrev pub ◌then◌ : {A B : Type 0} → Option A → (A → Option B) → Option B
(Some a) then f = f a
None then f = None

-- what a fault says of a text, unless it is want of memory
abbrev pub TellsNone : {A : Type 0} → Option A → RowFault → Type 0
TellsNone said Bad = said ≡ None
TellsNone said OutOfMemory = Unit {0}

-- what an answer says of a text
abbrev pub Tells : {A : Type 0} → Result A RowFault → Option A → Type 0
Tells result said = MatchResult result (λ a. said ≡ Some a) (TellsNone said)

-- the fault of a row whose body has this fault
abbrev pub row_fault : BodyFault → RowFault
row_fault (text.Bad error) = Bad
row_fault text.OutOfMemory = OutOfMemory

-- what stands in front of the first byte c, and what stands behind it
abbrev pub parts_of : ℕ → List (List ℕ) → Option (List ℕ × List ℕ)
parts_of c (front ∷ next ∷ more) = Some (front, join_with_byte c (next ∷ more))
parts_of c other = None

abbrev pub cut_at : ℕ → List ℕ → Option (List ℕ × List ℕ)
cut_at c text = parts_of c (pieces c text)

-- the fields of a row
pub record RowFields : Type 0 where
  pub node : List ℕ
  pub place : List ℕ
  pub clock : List ℕ
  pub kind : List ℕ
  pub link : List ℕ
  pub number : List ℕ
  pub sent : List ℕ
  pub past : List ℕ
  pub body : List ℕ

-- eight fields with a comma behind each, and the last one
abbrev pub fields_read : List ℕ → Option RowFields
fields_read text =
    cut_at 44 text then λ node. cut_at 44 node.1 then λ place. cut_at 44 place.1 then λ clock.
    cut_at 44 clock.1 then λ kind. cut_at 44 kind.1 then λ link. cut_at 44 link.1 then λ number.
    cut_at 44 number.1 then λ sent. cut_at 44 sent.1 then λ past. Some (record {
      node = node.0;
      place = place.0;
      clock = clock.0;
      kind = kind.0;
      link = link.0;
      number = number.0;
      sent = sent.0;
      past = past.0;
      body = past.1;
    })

-- the greatest clock: 2^62
abbrev pub clock_max : ℕ
clock_max = 4_611_686_018_427_387_904

abbrev pub clock_read : List ℕ → Option ℕ
clock_read text = result_ok (number_up_to clock_max text)

-- the number of an event: from 1 on
abbrev pub number_read : List ℕ → Option ℕ
number_read text = result_ok (above_zero (number_up_to id_max text))

-- whether the text is that of the number
abbrev pub is_read : ℕ → Result ℕ WordFault → Bool
is_read number (Ok n) = n == number
is_read number (Err fault) = false

abbrev pub says : ℕ → List ℕ → Bool
says number text = is_read number (number_id text)

-- two numbers, of which each has a limit
abbrev pub two_read : ℕ → ℕ → List (List ℕ) → Option (ℕ × ℕ)
two_read a b (first ∷ second ∷ []) =
    result_ok (number_up_to a first) then λ m. result_ok (number_up_to b second) then λ n. Some (m, n)
two_read a b other = None

abbrev pub two_numbers_read : ℕ → ℕ → List ℕ → Option (ℕ × ℕ)
two_numbers_read a b text = two_read a b (pieces 46 text)

-- the greatest lane, service and number of a service link
abbrev pub lane_max : ℕ
lane_max = 15

abbrev pub service_max : ℕ
service_max = 7

abbrev pub service_link_max : ℕ
service_link_max = 15

abbrev pub service_link_read : List ℕ → Option Link
service_link_read text = result_ok (number_up_to service_link_max text) then λ n. Some (Service n)

abbrev pub asked_link_read : List ℕ → Option Link
asked_link_read text = two_numbers_read lane_max service_max text then λ p. Some (Asked p.0 p.1)

abbrev pub told_link_read : List ℕ → Option Link
told_link_read text = two_numbers_read service_max lane_max text then λ p. Some (Told p.0 p.1)

-- L, A or T, and the numbers
abbrev pub link_read : List ℕ → Option Link
link_read [] = None
link_read (letter ∷ more) =
    if letter == 76 then service_link_read more
    else if letter == 65 then asked_link_read more
    else if letter == 84 then told_link_read more
    else None

-- so many counts, and no more
abbrev pub counts_read : ℕ → List (List ℕ) → Option (List ℕ)
counts_read zero [] = Some []
counts_read zero (t ∷ ts) = None
counts_read (suc n) [] = None
counts_read (suc n) (t ∷ ts) = result_ok (number_id t) then λ c. counts_read n ts then λ cs. Some (c ∷ cs)

unfoldable pub past_read : List ℕ → Option (List ℕ)
past_read text = counts_read SERVICE_LINKS (pieces 32 text)

-- the event of its fields
abbrev pub event_read : RowFields → Option Event
event_read f =
    link_read f.link then λ link. number_read f.number then λ number. clock_read f.sent then λ clock.
    past_read f.past then λ past. result_ok (body_of_text f.body) then λ body.
    Some (record { link = link; number = number; clock = clock; past = past; body = body })

-- the four fields of an event are empty
abbrev pub has_no_event : RowFields → Bool
has_no_event f =
    (length f.link == 0) && (length f.number == 0) && (length f.sent == 0) && (length f.past == 0)

-- ID REPLY
abbrev pub answer_read : List ℕ → Option (RequestId × Reply)
answer_read text =
    cut_at 32 text then λ p. result_ok (id_of p.0) then λ id. result_ok (reply_of_text p.1) then λ reply.
    Some (id, reply)

abbrev pub given_read : RowFields → Option What
given_read f =
    if has_no_event f then (result_ok (request_of_text f.body) then λ request. Some (Given request)) else None

abbrev pub answered_read : RowFields → Option What
answered_read f = if has_no_event f then (answer_read f.body then λ a. Some (Answered a.0 a.1)) else None

-- what happened, by the kind
abbrev pub what_read : RowFields → Option What
what_read f =
    if same_text f.kind (codes "given") then given_read f
    else if same_text f.kind (codes "taken") then (event_read f then λ event. Some (Taken event))
    else if same_text f.kind (codes "made") then (event_read f then λ event. Some (Made event))
    else if same_text f.kind (codes "answered") then answered_read f
    else None

-- the fields name this node and this place
abbrev pub names_place : ℕ → ℕ → RowFields → Bool
names_place node place f = says node f.node && says place f.place && nat_lt place most_rows

-- the entry of the fields that may stand in the node's journal
abbrev pub stamped_read : ℕ → RowFields → Option Entry
stamped_read node f =
    clock_read f.clock then λ clock. what_read f then λ what.
    if happens node clock what then Some (record { clock = clock; what = what }) else None

-- the entry that may stand at this place of the node's journal
abbrev pub entry_from : ℕ → ℕ → RowFields → Option Entry
entry_from node place f = if names_place node place f then stamped_read node f else None

unfoldable pub entry_read : ℕ → ℕ → List ℕ → Option Entry
entry_read node place text = fields_read text then λ f. entry_from node place f
