-- A list whose pieces are read one after the other: what is said of it so far, and at the end.
use Rattle.std.proofs.Common.{◌≡◌, ℕ, Bool, true, false, List, [], ◌∷◌, ◌++◌, map, Option, Some, None, is_none, Result, Ok, Err, if◌then◌else◌, refl, ap, sym, ◌∙◌, append_assoc, append-nil}
use Rattle.market_words.specs.declared.faults.WordFault.{WordFault}
use Rattle.market_words.specs.declared.faults.WordFault.TheVariants.{Field, Range}
use Rattle.market_words.specs.Results.{◌>>=◌}
use Rattle.market_words.specs.Words.{both, onto, all_of}

-- a list, unless it breaks a rule
abbrev pub ruled : {A : Type 0} → (List A → Bool) → List A → Result (List A) WordFault
ruled breaks xs = if breaks xs then Err Field else Ok xs

-- what is said so far: the list, or its fault
abbrev pub so_far : {A : Type 0} → List A → Option WordFault → Result (List A) WordFault
so_far xs None = Ok xs
so_far xs (Some fault) = Err fault

-- what is said in the end, where this was said of the pieces so far and these are left
abbrev pub in_the_end : {A : Type 0} → (List A → Bool) → Result (List A) WordFault → List (Result A WordFault) → Result (List A) WordFault
in_the_end breaks said [] = said
in_the_end breaks said (Ok a ∷ more) = in_the_end breaks (said >>= λ xs. ruled breaks (xs ++ a ∷ [])) more
in_the_end breaks said (Err Range ∷ more) = in_the_end breaks (Err Range) more
in_the_end breaks said (Err Field ∷ more) = Err Field

-- a list that breaks the rule breaks it with more behind it
abbrev pub Breaks : {A : Type 0} → (List A → Bool) → Type 0
Breaks breaks = (xs ys : _) → breaks xs ≡ true → breaks (xs ++ ys) ≡ true

-- a fault, where a list of these was to be read
abbrev failed : (A : Type 0) → WordFault → Result (List A) WordFault
failed A fault = Err fault

-- one result in front of the rest: an item, a number out of range, and a misspelled piece
ok_then : {A B : Type 0} (a : A) (fault : WordFault) (rest : Result (List A) WordFault) → (rest >>= λ xs. failed B fault) ≡ (onto (λ p. p.0 ∷ p.1) (both (Ok a) rest) >>= λ xs. Err fault)
ok_then a fault (Ok xs) = refl
ok_then a fault (Err f) = refl

range_then : {A B : Type 0} (f : List A → Result (List B) WordFault) (rest : Result (List A) WordFault) → (rest >>= λ xs. failed B Range) ≡ (onto (λ p. p.0 ∷ p.1) (both (Err Range) rest) >>= f)
range_then f (Ok xs) = refl
range_then f (Err g) = refl

field_then : {A B : Type 0} (f : List A → Result (List B) WordFault) (rest : Result (List A) WordFault) → Err Field ≡ (onto (λ p. p.0 ∷ p.1) (both (Err Field) rest) >>= f)
field_then f (Ok xs) = refl
field_then f (Err g) = refl

-- behind a fault, the first kind of fault counts
after_fault : {A : Type 0} (breaks : List A → Bool) (fault : WordFault) (more : List (Result A WordFault)) → in_the_end breaks (Err fault) more ≡ (all_of more >>= λ xs. Err fault)
after_fault breaks fault [] = refl
after_fault breaks fault (Ok a ∷ more) = after_fault breaks fault more ∙ ok_then a fault (all_of more)
after_fault breaks fault (Err Range ∷ more) = after_fault breaks Range more ∙ range_then (λ xs. Err fault) (all_of more)
after_fault breaks fault (Err Field ∷ more) = field_then (λ xs. Err fault) (all_of more)

-- one more behind a list that breaks no rule
more_ruled : {A : Type 0} (breaks : List A → Bool) (xs : List A) (a : A) (rest : Result (List A) WordFault) → (rest >>= λ ys. ruled breaks ((xs ++ a ∷ []) ++ ys)) ≡ (onto (λ p. p.0 ∷ p.1) (both (Ok a) rest) >>= λ ys. ruled breaks (xs ++ ys))
more_ruled breaks xs a (Ok ys) = ap (ruled breaks) (append_assoc xs (a ∷ []) ys)
more_ruled breaks xs a (Err f) = refl

-- one more behind a list that breaks a rule
more_broken : {A : Type 0} (breaks : List A → Bool) → Breaks breaks → (xs : List A) (a : A) (rest : Result (List A) WordFault) → breaks (xs ++ a ∷ []) ≡ true → (rest >>= λ ys. Err Field) ≡ (onto (λ p. p.0 ∷ p.1) (both (Ok a) rest) >>= λ ys. ruled breaks (xs ++ ys))
more_broken breaks closed xs a (Ok ys) broken =
    let whole : breaks (xs ++ a ∷ ys) ≡ true = ap breaks (sym (append_assoc xs (a ∷ []) ys)) ∙ closed (xs ++ a ∷ []) ys broken in rw whole
more_broken breaks closed xs a (Err f) broken = refl

-- one more, by whether the list breaks a rule with it
one_more : {A : Type 0} (breaks : List A → Bool) → Breaks breaks → (xs : List A) (a : A) (more : List (Result A WordFault)) (b : Bool) → breaks (xs ++ a ∷ []) ≡ b
    → (breaks (xs ++ a ∷ []) ≡ false → in_the_end breaks (Ok (xs ++ a ∷ [])) more ≡ (all_of more >>= λ ys. ruled breaks ((xs ++ a ∷ []) ++ ys)))
    → in_the_end breaks (if b then Err Field else Ok (xs ++ a ∷ [])) more ≡ (onto (λ p. p.0 ∷ p.1) (both (Ok a) (all_of more)) >>= λ ys. ruled breaks (xs ++ ys))
one_more breaks closed xs a more true broken rest = after_fault breaks Field more ∙ more_broken breaks closed xs a (all_of more) broken
one_more breaks closed xs a more false still rest = rest still ∙ more_ruled breaks xs a (all_of more)

-- behind a list that breaks no rule
behind_list : {A : Type 0} (breaks : List A → Bool) → Breaks breaks → (xs : List A) (more : List (Result A WordFault)) → breaks xs ≡ false
    → in_the_end breaks (Ok xs) more ≡ (all_of more >>= λ ys. ruled breaks (xs ++ ys))
behind_list breaks closed xs [] fine = rw (append-nil xs, fine)
behind_list breaks closed xs (Ok a ∷ more) fine = one_more breaks closed xs a more (breaks (xs ++ a ∷ [])) refl (λ still. behind_list breaks closed (xs ++ a ∷ []) more still)
behind_list breaks closed xs (Err Range ∷ more) fine = after_fault breaks Range more ∙ range_then (λ ys. ruled breaks (xs ++ ys)) (all_of more)
behind_list breaks closed xs (Err Field ∷ more) fine = field_then (λ ys. ruled breaks (xs ++ ys)) (all_of more)

-- what is read of the pieces so far, with those that are left, stands for the whole list
pub record StandsFor {A : Type 0} (breaks : List A → Bool) (read : List ℕ → Result A WordFault) (whole : List (List ℕ)) (xs : List A) (fault : Option WordFault) (left : List (List ℕ)) : Type 0 where
  pub said : in_the_end breaks (so_far xs fault) (map read left) ≡ (all_of (map read whole) >>= ruled breaks)
  pub fine : is_none fault ≡ true → breaks xs ≡ false

-- no piece is read yet
pub begins : {A : Type 0} (breaks : List A → Bool) → Breaks breaks → breaks [] ≡ false → (read : List ℕ → Result A WordFault) (whole : List (List ℕ))
    → StandsFor breaks read whole [] None whole
begins breaks closed empty read whole = record { said = behind_list breaks closed [] (map read whole) empty; fine = λ none. empty }

-- one more, which breaks no rule
pub goes_on : {A : Type 0} (breaks : List A → Bool) (read : List ℕ → Result A WordFault) (whole : List (List ℕ)) (xs : List A) (fault : Option WordFault) (left : List (List ℕ)) (piece : List ℕ) (more : List (List ℕ)) (a : A)
    → StandsFor breaks read whole xs fault left → left ≡ piece ∷ more → read piece ≡ Ok a → is_none fault ≡ true → breaks (xs ++ a ∷ []) ≡ false
    → StandsFor breaks read whole (xs ++ a ∷ []) fault more
goes_on breaks read whole xs None left piece more a stands next reads none still = record {
  said = rw (next, reads, still) at stands.said;
  fine = λ e. still;
}
goes_on breaks read whole xs (Some fault) left piece more a stands next reads none still = absurd (cc)

-- one more, which breaks a rule
pub breaks_off : {A : Type 0} (breaks : List A → Bool) (read : List ℕ → Result A WordFault) (whole : List (List ℕ)) (xs : List A) (fault : Option WordFault) (left : List (List ℕ)) (piece : List ℕ) (more : List (List ℕ)) (a : A)
    → StandsFor breaks read whole xs fault left → left ≡ piece ∷ more → read piece ≡ Ok a → is_none fault ≡ true → breaks (xs ++ a ∷ []) ≡ true
    → StandsFor breaks read whole xs (Some Field) more
breaks_off breaks read whole xs None left piece more a stands next reads none broken = record {
  said = rw (next, reads, broken) at stands.said;
  fine = λ e. cc;
}
breaks_off breaks read whole xs (Some fault) left piece more a stands next reads none broken = absurd (cc)

-- one more behind a fault
pub stays : {A : Type 0} (breaks : List A → Bool) (read : List ℕ → Result A WordFault) (whole : List (List ℕ)) (xs : List A) (fault : Option WordFault) (left : List (List ℕ)) (piece : List ℕ) (more : List (List ℕ)) (a : A)
    → StandsFor breaks read whole xs fault left → left ≡ piece ∷ more → read piece ≡ Ok a → is_none fault ≡ false
    → StandsFor breaks read whole xs fault more
stays breaks read whole xs None left piece more a stands next reads some = absurd (cc)
stays breaks read whole xs (Some fault) left piece more a stands next reads some = record {
  said = rw (next, reads) at stands.said;
  fine = λ e. cc;
}
