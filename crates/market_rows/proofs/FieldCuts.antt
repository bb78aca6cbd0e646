-- The fields of a row.
use Rattle.std.proofs.Common.{◌≡◌, ℕ, List, [], ◌∷◌, ◌++◌, Option, Some, refl, ap, ◌∙◌}
use Rattle.std.specs.List.{join_with_byte}
use Rattle.market_words.proofs.WordCuts.{Lacks}
use Rattle.market_rows.specs.Reading.{◌then◌, RowFields, cut_at, fields_read}
use Rattle.market_rows.proofs.Cuts.{cut_reads, cut_spelled}
use Rattle.market_rows.proofs.Readings.{then_apart, some_same}

-- the fields with commas between them
abbrev pub with_commas : RowFields → List ℕ
with_commas f = join_with_byte 44 (f.node ∷ f.place ∷ f.clock ∷ f.kind ∷ f.link ∷ f.number ∷ f.sent ∷ f.past ∷ f.body ∷ [])

-- a field, and what stands behind its comma
abbrev comma : List ℕ → List ℕ → List ℕ
comma front rest = front ++ 44 ∷ rest

-- the fields of a text that begins with a field, by those behind it
abbrev Behind : Type 0
Behind = List ℕ → List ℕ → Option RowFields

abbrev field_then : List ℕ → Behind → Option RowFields
field_then text f = cut_at 44 text then λ p. f p.0 p.1

-- where the first field has no comma, the rest follows
field_reads : (front rest : List ℕ) (f : Behind) (r : Option RowFields) → Lacks 44 front → f front rest ≡ r → field_then (comma front rest) f ≡ r
field_reads front rest f r bare behind = ap (λ (o : Option (List ℕ × List ℕ)). o then λ p. f p.0 p.1) (cut_reads 44 front rest bare) ∙ behind

-- what stands in front of the rest
field_spelled : (text : List ℕ) (f : Behind) (r : RowFields) → field_then text f ≡ Some r → (front : List ℕ) × (rest : List ℕ) × (text ≡ comma front rest) × (f front rest ≡ Some r)
field_spelled text f r e =
    let apart = then_apart (cut_at 44 text) (λ p. f p.0 p.1) r e in
    (apart.0.0, apart.0.1, cut_spelled 44 text apart.0 apart.1, apart.2)

-- the last fields are known, those before them are to be read
abbrev eighth : List ℕ → List ℕ → List ℕ → List ℕ → List ℕ → List ℕ → List ℕ → Behind
eighth node place clock kind link number sent past body =
    Some (record { node = node; place = place; clock = clock; kind = kind; link = link; number = number; sent = sent; past = past; body = body })

abbrev seventh : List ℕ → List ℕ → List ℕ → List ℕ → List ℕ → List ℕ → Behind
seventh node place clock kind link number sent rest = field_then rest (eighth node place clock kind link number sent)

abbrev sixth : List ℕ → List ℕ → List ℕ → List ℕ → List ℕ → Behind
sixth node place clock kind link number rest = field_then rest (seventh node place clock kind link number)

abbrev fifth : List ℕ → List ℕ → List ℕ → List ℕ → Behind
fifth node place clock kind link rest = field_then rest (sixth node place clock kind link)

abbrev fourth : List ℕ → List ℕ → List ℕ → Behind
fourth node place clock kind rest = field_then rest (fifth node place clock kind)

abbrev third : List ℕ → List ℕ → Behind
third node place clock rest = field_then rest (fourth node place clock)

abbrev second : List ℕ → Behind
second node place rest = field_then rest (third node place)

abbrev first : Behind
first node rest = field_then rest (second node)

-- eight fields that have no comma, and the last one, are read of them
pub fields_reads : (f : RowFields) → Lacks 44 f.node → Lacks 44 f.place → Lacks 44 f.clock → Lacks 44 f.kind → Lacks 44 f.link → Lacks 44 f.number → Lacks 44 f.sent → Lacks 44 f.past
    → fields_read (with_commas f) ≡ Some f
fields_reads f node place clock kind link number sent past =
    field_reads f.node _ first (Some f) node
    (field_reads f.place _ (second f.node) (Some f) place
    (field_reads f.clock _ (third f.node f.place) (Some f) clock
    (field_reads f.kind _ (fourth f.node f.place f.clock) (Some f) kind
    (field_reads f.link _ (fifth f.node f.place f.clock f.kind) (Some f) link
    (field_reads f.number _ (sixth f.node f.place f.clock f.kind f.link) (Some f) number
    (field_reads f.sent _ (seventh f.node f.place f.clock f.kind f.link f.number) (Some f) sent
    (field_reads f.past f.body (eighth f.node f.place f.clock f.kind f.link f.number f.sent) (Some f) past refl)))))))

-- and whatever is read is what stands between the commas
pub fields_spelled : (text : List ℕ) (f : RowFields) → fields_read text ≡ Some f → text ≡ with_commas f
fields_spelled text f e =
    let node = field_spelled text first f e in
    let place = field_spelled node.1 (second node.0) f node.3 in
    let clock = field_spelled place.1 (third node.0 place.0) f place.3 in
    let kind = field_spelled clock.1 (fourth node.0 place.0 clock.0) f clock.3 in
    let link = field_spelled kind.1 (fifth node.0 place.0 clock.0 kind.0) f kind.3 in
    let number = field_spelled link.1 (sixth node.0 place.0 clock.0 kind.0 link.0) f link.3 in
    let sent = field_spelled number.1 (seventh node.0 place.0 clock.0 kind.0 link.0 number.0) f number.3 in
    let past = field_spelled sent.1 (eighth node.0 place.0 clock.0 kind.0 link.0 number.0 sent.0) f sent.3 in
    let made : RowFields = record { node = node.0; place = place.0; clock = clock.0; kind = kind.0; link = link.0; number = number.0; sent = sent.0; past = past.0; body = past.1 } in
    let whole : text ≡ with_commas made =
    node.2 ∙ ap (comma node.0) (place.2 ∙ ap (comma place.0) (clock.2 ∙ ap (comma clock.0) (kind.2 ∙ ap (comma kind.0)
    (link.2 ∙ ap (comma link.0) (number.2 ∙ ap (comma number.0) (sent.2 ∙ ap (comma sent.0) past.2)))))) in
    whole ∙ ap with_commas (some_same made f past.3)
