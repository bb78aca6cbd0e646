-- What csv's reader finds, record after record.
use Rattle.std.proofs.Common.{◌≡◌, ◌≤◌, ◌<◌, ℕ, zero, suc, ◌+◌, Bool, true, false, cond, nat_eq, List, [], ◌∷◌, length, Option, Some, None, refl, ap, ap₂, add-one, subst, ◌∙◌, sym, arith, Bor}
use Rattle.std.proofs.lemmas.Bool.{false≢true}
use Rattle.csv.specs.Reading.{Reached, Ready, ReadRecord, default_config, records_from, records_next, strip_bom}
use Rattle.csv.specs.Machine.{Read, next_record, step, is_end, ends_at_end, start_record, start_field, in_field, after_end, ends_with, fields_after, field_after, carriage_return}
use Rattle.csv.specs.declared.parser.State.{State}
use Rattle.csv.specs.declared.parser.State.TheVariants as st
use Rattle.csv.specs.declared.parser.Action.{Action}
use Rattle.csv.specs.declared.parser.Action.TheVariants as act
use Rattle.csv.specs.declared.parser.Terminator.TheVariants as term
use Rattle.csv.specs.declared.reader.Reader.{Reader}
use Rattle.csv.proofs.ReadFacts.{rows-more, rows-end}
use Rattle.market.specs.Records.{records_of, Reads, ReadsOne}

-- where a step ends a record, the next state is not inside one
abbrev EndsBetween : State × Action → Type 0
EndsBetween p = is_end p.1 ≡ true → ends_at_end p.0 ≡ false

one_of : (b : Bool) (p q : State × Action) → EndsBetween p → EndsBetween q → EndsBetween (cond b p q)
one_of true p q f g = f
one_of false p q f g = g

goes_on : (s : State) (a : Action) → is_end a ≡ false → EndsBetween (s, a)
goes_on s a e h = absurd (false≢true (sym e ∙ h))

ends : (c : ℕ) → EndsBetween (after_end term.CRLF c, act.EndRecord)
ends c = by (nat_eq c carriage_return)
  where
    by : (b : Bool) → true ≡ true → ends_at_end (cond b st.AfterCr st.StartRecord) ≡ false
    by true h = refl
    by false h = refl

in_field-ends : (c : ℕ) → EndsBetween (in_field default_config c)
in_field-ends c = one_of (nat_eq c 44) _ _ (goes_on st.StartField act.EndField refl) (one_of (ends_with term.CRLF c) _ _ (ends c) (goes_on st.InField act.Copy refl))

start_field-ends : (c : ℕ) → EndsBetween (start_field default_config c)
start_field-ends c = one_of (nat_eq c 34) _ _ (goes_on st.InQuoted act.Skip refl) (in_field-ends c)

start_record-ends : (c : ℕ) → EndsBetween (start_record default_config c)
start_record-ends c = one_of (ends_with term.CRLF c) _ _ (goes_on st.StartRecord act.Skip refl) (start_field-ends c)

step-ends : (s : State) (c : ℕ) → EndsBetween (step default_config s c)
step-ends st.StartRecord c = start_record-ends c
step-ends st.StartField c = start_field-ends c
step-ends st.InField c = in_field-ends c
step-ends st.InQuoted c = one_of (nat_eq c 34) _ _ (goes_on st.AfterQuote act.Skip refl) (goes_on st.InQuoted act.Copy refl)
step-ends st.AfterQuote c = one_of (nat_eq c 34) _ _ (goes_on st.InQuoted act.Copy refl) (in_field-ends c)
step-ends st.InEscape c = goes_on st.InQuoted act.Copy refl
step-ends st.InComment c = one_of (nat_eq c 10) _ _ (goes_on st.StartRecord act.Skip refl) (goes_on st.InComment act.Skip refl)
step-ends st.AfterCr c = one_of (nat_eq c 10) _ _ (goes_on st.StartRecord act.Skip refl) (start_record-ends c)

-- a record that was read leaves a state between records, and at most n bytes
abbrev EndsWithin : ℕ → Option Read → Type 0
EndsWithin n None = Unit {0}
EndsWithin n (Some r) = (ends_at_end r.1 ≡ false) × (length r.2 ≤ n)

wider : (n : ℕ) (o : Option Read) → EndsWithin n o → EndsWithin (suc n) o
wider n None h = h
wider n (Some r) h = (h.0, omega arith)

within_one_of : (n : ℕ) (b : Bool) (r : Read) (o : Option Read) → (b ≡ true → EndsWithin n (Some r)) → EndsWithin n o → EndsWithin n (cond b (Some r) o)
within_one_of n true r o here later = here refl
within_one_of n false r o here later = later

ends_within : (s : State) (f : List (List ℕ)) (p xs : List ℕ) → EndsWithin (length xs) (next_record default_config s f p xs)
unfolding next_record
ends_within s f p [] = within_one_of 0 (ends_at_end s) _ None (λ e. (refl, omega arith)) tt
ends_within s f p (c ∷ rest) = wider (length rest) _ (within_one_of (length rest) (is_end (step default_config s c).1) _ _
    (λ e. (step-ends s c e, omega arith))
    (ends_within (step default_config s c).0 (fields_after (step default_config s c).1 f p) (field_after (step default_config s c).1 c p) rest))

ends_within_rest : (s : State) (f : List (List ℕ)) (p : List ℕ) (c : ℕ) (rest : List ℕ) → EndsWithin (length rest) (next_record default_config s f p (c ∷ rest))
unfolding next_record
ends_within_rest s f p c rest = within_one_of (length rest) (is_end (step default_config s c).1) _ _
    (λ e. (step-ends s c e, omega arith))
    (ends_within (step default_config s c).0 (fields_after (step default_config s c).1 f p) (field_after (step default_config s c).1 c p) rest)

-- a read from between two records leaves such a place again, and fewer bytes
pub shorter : (s : State) (xs : List ℕ) (r : Read) → ends_at_end s ≡ false → next_record default_config s [] [] xs ≡ Some r
    → (ends_at_end r.1 ≡ false) × (length r.2 < length xs)
unfolding next_record
shorter s [] r between e = cc (rw between at e)
shorter s (c ∷ rest) r between e = let h = subst (EndsWithin (length rest)) e (ends_within_rest s [] [] c rest) in (h.0, omega arith)

-- more turns than bytes are enough
next_alike : (o : Option Read) (f g : State → List ℕ → List (List (List ℕ))) → ((r : Read) → o ≡ Some r → f r.1 r.2 ≡ g r.1 r.2) → records_next f o ≡ records_next g o
next_alike None f g h = refl
next_alike (Some r) f g h = ap (λ rest. r.0 ∷ rest) (h r refl)

pub enough : (n m : ℕ) (s : State) (xs : List ℕ) → ends_at_end s ≡ false → length xs < n → length xs < m
    → records_from default_config n s xs ≡ records_from default_config m s xs
unfolding records_from
enough zero m s xs between a b = absurd (omega arith)
enough (suc n) zero s xs between a b = absurd (omega arith)
enough (suc n) (suc m) s xs between a b = next_alike (next_record default_config s [] [] xs) _ _
    (λ r e. let less = shorter s xs r between e in enough n m r.1 r.2 less.0 (omega arith) (omega arith))

-- a text has at most as many records as bytes
next_length : (o : Option Read) (f : State → List ℕ → List (List (List ℕ))) (n : ℕ) → ((r : Read) → o ≡ Some r → length (f r.1 r.2) < n) → length (records_next f o) ≤ n
next_length None f n h = omega arith
next_length (Some r) f n h = omega (arith, h r refl)

pub few_records : (n : ℕ) (s : State) (xs : List ℕ) → ends_at_end s ≡ false → length (records_from default_config n s xs) ≤ length xs
unfolding records_from
few_records zero s xs between = omega arith
few_records (suc n) s xs between = next_length (next_record default_config s [] [] xs) _ _
    (λ r e. let less = shorter s xs r between e in omega (arith, few_records n r.1 r.2 less.0))

unmarked : (b : Bool) (xs ys : List ℕ) → length xs ≤ length ys → length (cond b xs ys) ≤ length ys
unmarked true xs ys h = h
unmarked false xs ys h = omega arith

pub length-strip_bom : (xs : List ℕ) → length (strip_bom xs) ≤ length xs
unfolding strip_bom
length-strip_bom [] = omega arith
length-strip_bom (a ∷ []) = omega arith
length-strip_bom (a ∷ b ∷ []) = omega arith
length-strip_bom (a ∷ b ∷ c ∷ rest) = unmarked _ rest (a ∷ b ∷ c ∷ rest) (omega arith)

pub length-records_of : (text : List ℕ) → length (records_of text) ≤ length text
length-records_of text = omega (arith, length-strip_bom text, few_records (length (strip_bom text) + 1) st.StartRecord (strip_bom text) refl)

-- what csv ensures of a read is one record less
pub found_one : (old new : Reader (Bor (List ℕ))) (fields : List (List ℕ)) (rest : List (List (List ℕ)))
    → Reads old rest → Ready new → ReadRecord (λ s. Some s.now) old new true fields → ReadsOne rest true fields new
unfolding Reached records_from
found_one old new fields rest reads ready read =
    let m = rows-more (λ s. Some s.now) old new fields default_config old.state reads.left reads.left [] reads.config reads.source (refl, refl) read in
    let p = m.2.0 in
    let same_state = m.2.3.0 in
    let same_left = m.2.3.1 in
    let less = shorter old.state reads.left p reads.between m.2.1 in
    let turns = enough (length reads.left) (length m.0 + 1) p.1 p.2 less.0 less.1 (omega (arith, ap length same_left)) in
    let first : records_from default_config (suc (length reads.left)) old.state reads.left ≡ p.0 ∷ records_from default_config (length reads.left) p.1 p.2
    = ap (records_next (records_from default_config (length reads.left))) m.2.1 in
    let whole : rest ≡ p.0 ∷ records_from default_config (length reads.left) p.1 p.2 = sym (rw add-one at reads.records) ∙ first in
    subst (λ rs. ReadsOne rs true fields new) (sym whole) (
      refl,
      m.2.2,
      record {
        trims = read.3 ∙ reads.trims;
        ready = ready;
        config = read.2 ∙ reads.config;
        left = m.0;
        source = m.1;
        between = rw same_state at less.0;
        records = ap₂ (records_from default_config (length m.0 + 1)) (sym same_state) (sym same_left) ∙ sym turns;
      },
    )

pub found_none : (old new : Reader (Bor (List ℕ))) (fields : List (List ℕ)) (rest : List (List (List ℕ)))
    → Reads old rest → ReadRecord (λ s. Some s.now) old new false fields → ReadsOne rest false fields new
unfolding records_from
found_none old new fields rest reads read =
    let none = rows-end (λ s. Some s.now) old new fields default_config reads.left reads.config reads.source read in
    let first : records_from default_config (suc (length reads.left)) old.state reads.left ≡ [] = ap (records_next (records_from default_config (length reads.left))) none in
    let whole : rest ≡ [] = sym (rw add-one at reads.records) ∙ first in
    subst (λ rs. ReadsOne rs false fields new) (sym whole) refl

pub read_one : (old new : Reader (Bor (List ℕ))) (found : Bool) (fields : List (List ℕ)) (rest : List (List (List ℕ)))
    → Reads old rest → Ready new → ReadRecord (λ s. Some s.now) old new found fields → ReadsOne rest found fields new
read_one old new true fields rest reads ready read = found_one old new fields rest reads ready read
read_one old new false fields rest reads ready read = found_none old new fields rest reads read
