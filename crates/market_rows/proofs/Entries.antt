-- An entry is read of its row, and of no other text.
use Rattle.std.proofs.Common.{◌≡◌, ◌≤◌, ◌<◌, ℕ, ◌&&◌, nat_lt, true, List, ◌∷◌, Some, None, Result, Ok, Err, codes, if◌then◌else◌, refl, ap, sym, ◌∙◌, subst, arith, eq-eqb}
use Rattle.std.specs.Fmt.{decimal}
use Rattle.std.specs.List.{join_with_byte}
use Rattle.std.proofs.lemmas.Bool.Decides.{nat_tests}
use Rattle.market_edges.specs.Shelves.{most_rows}
use Rattle.market_events.specs.declared.events.Entry.{Entry}
use Rattle.market_events.specs.declared.events.What.{What}
use Rattle.market_events.specs.declared.events.What.TheVariants.{Given, Taken, Made, Answered}
use Rattle.market_events.specs.declared.nodes.TheConstants.{NODES}
use Rattle.market_history.specs.Journals.{IsEntry}
use Rattle.market_words.specs.declared.faults.WordFault.{WordFault}
use Rattle.market_words.specs.Names.{id_max}
use Rattle.market_words.specs.Words.{number_id}
use Rattle.market_words.proofs.WordCuts.{Lacks, lacks_by_test}
use Rattle.market_words.proofs.WordNumbers.{decimal_lacks, number_id_word}
use Rattle.market_rows.specs.Happening.{happens}
use Rattle.market_rows.specs.Reading.{◌then◌, RowFields, fields_read, is_read, says, clock_max, clock_read, what_read, entry_from, entry_read}
use Rattle.market_rows.specs.Rows.{what_fields, text_of_row}
use Rattle.market_rows.proofs.FieldCuts.{with_commas, fields_reads, fields_spelled}
use Rattle.market_rows.proofs.WhatTests.{spelled_what, formed_what, happens-true, CanHappen-tested}
use Rattle.market_rows.proofs.LinkTexts.{link_field}
use Rattle.market_rows.proofs.PastTexts.{past_field}
use Rattle.market_rows.proofs.Readings.{both_passed, both_apart, one_number, then_apart, passed, some_same, clock_field, number_field}
use Rattle.market_rows.proofs.Whats.{IsSpelledWhat, behind_clock, row_behind, what_reads, what_spelled}

-- the text of a number says it
says-decimal : (n : ℕ) → n ≤ id_max → says n (decimal n) ≡ true
says-decimal n high = ap (is_read n) (number_id_word.reads n high) ∙ eq-eqb n n refl

-- and no other text does
says-spelled : (n : ℕ) (t : List ℕ) → says n t ≡ true → t ≡ decimal n
says-spelled n t e = by_result (number_id t) refl e
  where
    by_result : (r : Result ℕ WordFault) → number_id t ≡ r → is_read n r ≡ true → t ≡ decimal n
    by_result (Ok m) was e = let is : m ≡ n = one_number m n e in (number_id_word.spelled t m was).1 ∙ ap decimal is
    by_result (Err fault) was e = absurd (cc)

-- with commas they are the row
parts_row : (node place clock : ℕ) (w : What) → with_commas (row_behind (decimal node) (decimal place) (decimal clock) w) ≡ join_with_byte 44 (decimal node ∷ decimal place ∷ decimal clock ∷ what_fields w)
parts_row node place clock (Given request) = refl
parts_row node place clock (Taken event) = refl
parts_row node place clock (Made event) = refl
parts_row node place clock (Answered id reply) = refl

-- and they are read of it
fields_of_row : (node place clock : ℕ) (w : What) → node ≤ id_max → place ≤ id_max → clock ≤ clock_max → IsSpelledWhat w
    → fields_read (with_commas (row_behind (decimal node) (decimal place) (decimal clock) w)) ≡ Some (row_behind (decimal node) (decimal place) (decimal clock) w)
fields_of_row node place clock w node_high place_high clock_high is = by_what w is
  where
    n : Lacks 44 (decimal node)
    n = decimal_lacks 44 node refl (omega arith)

    p : Lacks 44 (decimal place)
    p = decimal_lacks 44 place refl (omega arith)

    c : Lacks 44 (decimal clock)
    c = clock_field.bare clock clock_high

    by_what : (w : What) → IsSpelledWhat w
        → fields_read (with_commas (row_behind (decimal node) (decimal place) (decimal clock) w)) ≡ Some (row_behind (decimal node) (decimal place) (decimal clock) w)
    by_what (Given request) is = fields_reads (row_behind (decimal node) (decimal place) (decimal clock) (Given request)) n p c (lacks_by_test 44 (codes "given") refl) tt tt tt tt
    by_what (Taken event) is = fields_reads (row_behind (decimal node) (decimal place) (decimal clock) (Taken event)) n p c (lacks_by_test 44 (codes "taken") refl)
        (link_field.bare event.link is.link) (number_field.bare event.number is.number) (clock_field.bare event.clock is.clock) (past_field.bare event.past is.past)
    by_what (Made event) is = fields_reads (row_behind (decimal node) (decimal place) (decimal clock) (Made event)) n p c (lacks_by_test 44 (codes "made") refl)
        (link_field.bare event.link is.link) (number_field.bare event.number is.number) (clock_field.bare event.clock is.clock) (past_field.bare event.past is.past)
    by_what (Answered id reply) is = fields_reads (row_behind (decimal node) (decimal place) (decimal clock) (Answered id reply)) n p c (lacks_by_test 44 (codes "answered") refl) tt tt tt tt

-- the first three fields, whatever happened
pub node_field : (node place clock : List ℕ) (w : What) → (row_behind node place clock w).node ≡ node
node_field node place clock (Given request) = refl
node_field node place clock (Taken event) = refl
node_field node place clock (Made event) = refl
node_field node place clock (Answered id reply) = refl

pub place_field : (node place clock : List ℕ) (w : What) → (row_behind node place clock w).place ≡ place
place_field node place clock (Given request) = refl
place_field node place clock (Taken event) = refl
place_field node place clock (Made event) = refl
place_field node place clock (Answered id reply) = refl

clock_field_is : (node place clock : List ℕ) (w : What) → (row_behind node place clock w).clock ≡ clock
clock_field_is node place clock (Given request) = refl
clock_field_is node place clock (Taken event) = refl
clock_field_is node place clock (Made event) = refl
clock_field_is node place clock (Answered id reply) = refl

-- the fields that are read of a row
pub row_read : (node place : ℕ) (entry : Entry) → IsEntry node place entry → fields_read (text_of_row node place entry) ≡ Some (row_behind (decimal node) (decimal place) (decimal entry.clock) entry.what)
row_read node place entry is =
    ap fields_read (sym (parts_row node place entry.clock entry.what))
    ∙ fields_of_row node place entry.clock entry.what (omega (arith, is.node_high)) (omega (arith, is.place_high)) (omega (arith, is.clock_high))
    (spelled_what node entry.clock entry.what is.formed.what is.what)

-- what is read where the tests of node and place pass, what happened is read, and its test passes
from_fields : (node place clock : ℕ) (w : What) (f : RowFields) → says node f.node ≡ true → says place f.place ≡ true → nat_lt place most_rows ≡ true
    → clock_read f.clock ≡ Some clock → what_read f ≡ Some w → happens node clock w ≡ true → entry_from node place f ≡ Some (record { clock = clock; what = w })
from_fields node place clock w f at_node at_place low on_clock read can =
    ap (λ b. if b then
    (clock_read f.clock then λ c. what_read f then λ what. if happens node c what then Some (record { clock = c; what = what }) else None) else None)
    (both_passed (both_passed at_node at_place) low)
    ∙ ap (λ o. o then λ c. what_read f then λ what. if happens node c what then Some (record { clock = c; what = what }) else None) on_clock
    ∙ ap (λ o. o then λ what. if happens node clock what then Some (record { clock = clock; what = what }) else None) read
    ∙ ap (λ b. if b then Some (record { clock = clock; what = w }) else None) can

-- an entry is read of its row
pub entry_reads : (node place : ℕ) (entry : Entry) → IsEntry node place entry → entry_read node place (text_of_row node place entry) ≡ Some entry
unfolding entry_read
entry_reads node place entry is =
    let n = decimal node in
    let p = decimal place in
    let c = decimal entry.clock in
    let w = entry.what in
    let node_high : node ≤ id_max = omega (arith, is.node_high) in
    let place_high : place ≤ id_max = omega (arith, is.place_high) in
    let clock_high : entry.clock ≤ clock_max = omega (arith, is.clock_high) in
    let spelled = spelled_what node entry.clock w is.formed.what is.what in
    let low : nat_lt place most_rows ≡ true = grind (arith, nat_tests, is.place_high) in
    ap (λ r. r then λ f. entry_from node place f) (row_read node place entry is) ∙ from_fields node place entry.clock w (row_behind n p c w)
    (ap (says node) (node_field n p c w) ∙ says-decimal node node_high) (ap (says place) (place_field n p c w) ∙ says-decimal place place_high) low
    (ap clock_read (clock_field_is n p c w) ∙ clock_field.reads entry.clock clock_high) (what_reads n p c w spelled) (happens-true node entry.clock w is.what)

-- the row of fields that say node and place
row_spelled : (node place clock : ℕ) (w : What) (f : RowFields) → f.node ≡ decimal node → f.place ≡ decimal place → f.clock ≡ decimal clock → behind_clock f ≡ what_fields w
    → with_commas f ≡ join_with_byte 44 (decimal node ∷ decimal place ∷ decimal clock ∷ what_fields w)
row_spelled node place clock w f at_node at_place on_clock behind = λ i. join_with_byte 44 (at_node i ∷ at_place i ∷ on_clock i ∷ behind i)

-- and of no other text
from_spelled : (node place : ℕ) (entry : Entry) (f : RowFields) → node < NODES → entry_from node place f ≡ Some entry → IsEntry node place entry × (with_commas f ≡ text_of_row node place entry)
from_spelled node place entry f high e =
    let tests = passed (says node f.node && says place f.place && nat_lt place most_rows)
    (clock_read f.clock then λ clock. what_read f then λ what. if happens node clock what then Some (record { clock = clock; what = what }) else None) entry e in
    let outer = both_apart (says node f.node && says place f.place) (nat_lt place most_rows) tests.0 in
    let inner = both_apart (says node f.node) (says place f.place) outer.0 in
    let low : place < 4_294_967_295 = grind (arith, nat_tests, outer.1) in
    let one = then_apart (clock_read f.clock) (λ clock. what_read f then λ what. if happens node clock what then Some (record { clock = clock; what = what }) else None) entry tests.1 in
    let two = then_apart (what_read f) (λ what. if happens node one.0 what then Some (record { clock = one.0; what = what }) else None) entry one.2 in
    let can = passed (happens node one.0 two.0) (Some (record { clock = one.0; what = two.0 })) entry two.2 in
    let made : Entry = record { clock = one.0; what = two.0 } in
    let clock = clock_field.spelled f.clock one.0 one.1 in
    let what = what_spelled f two.0 two.1 in
    subst (λ x. IsEntry node place x × (with_commas f ≡ text_of_row node place x)) (some_same made entry can.1) (
      record {
        formed = record { what = formed_what two.0 what.0 };
        node_high = high;
        place_high = low;
        clock_high = omega (arith, clock.0);
        what = CanHappen-tested node one.0 two.0 high what.0 can.0;
      },
      row_spelled node place one.0 two.0 f (says-spelled node f.node inner.0) (says-spelled place f.place inner.1) clock.1 what.1,
    )

pub entry_spelled : (node place : ℕ) (text : List ℕ) (entry : Entry) → node < NODES → entry_read node place text ≡ Some entry → IsEntry node place entry × (text ≡ text_of_row node place entry)
unfolding entry_read
entry_spelled node place text entry high e =
    let apart = then_apart (fields_read text) (λ f. entry_from node place f) entry e in
    let known = from_spelled node place entry apart.0 high apart.2 in
    (known.0, fields_spelled text apart.0 apart.1 ∙ known.1)
