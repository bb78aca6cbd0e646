-- The rows of a dashboard, one word after the other.
use Rattle.std.proofs.Common.{◌≡◌, ◌≤◌, ◌<◌, ℕ, zero, suc, ◌+◌, ◌-◌, List, [], ◌∷◌, ◌++◌, length, Result, Ok, Err, refl, ap, sym, ◌∙◌, append_assoc, length-append, arith}
use Rattle.market_events.specs.WellFormed.{most_rows_shown}
use Rattle.market_texts.specs.declared.faults.BodyError.{BodyError}
use Rattle.market_texts.specs.declared.faults.BodyError.TheVariants as bad
use Rattle.market_words.specs.declared.faults.WordFault.{WordFault}
use Rattle.market_events.specs.declared.replies.EntryRow.{EntryRow}
use Rattle.market_words.specs.Results.{◌>>=◌}
use Rattle.market_texts.specs.Reading.{Words, row_of, rows, rows_from, fault_at}

-- what is said of all rows, by those in front and what is said of the rest
abbrev pub behind : List EntryRow → Result (List EntryRow × Words) BodyError → Result (List EntryRow × Words) BodyError
behind front (Ok r) = Ok (front ++ r.0, r.1)
behind front (Err error) = Err error

-- the rows so far, with the words that are left, stand for the rows of the words at first
pub record StandsForRows (first : Words) (front : List EntryRow) (left : Words) : Type 0 where
  pub said : behind front (rows_from (most_rows_shown - length front) left.place left.left) ≡ rows first
  pub few : length front ≤ most_rows_shown
  pub near : left.place ≤ first.place + length front

-- behind no rows
behind_none : (said : Result (List EntryRow × Words) BodyError) → behind [] said ≡ said
behind_none (Ok r) = refl
behind_none (Err error) = refl

-- no row is read yet
pub rows_begin : (first : Words) → StandsForRows first [] first
rows_begin first = record {
  said = behind_none (rows_from most_rows_shown first.place first.left);
  few = omega arith;
  near = omega arith;
}

-- a row in front of the rest, behind other rows
one_behind : (front : List EntryRow) (row : EntryRow) (rest : Result (List EntryRow × Words) BodyError)
    → behind front (rest >>= λ rs. Ok (row ∷ rs.0, rs.1)) ≡ behind (front ++ row ∷ []) rest
one_behind front row (Ok r) = ap (λ (rs : List EntryRow). Ok (rs, r.1)) (sym (append_assoc front (row ∷ []) r.0))
one_behind front row (Err error) = refl

-- one more row
pub row_more : (first : Words) (front : List EntryRow) (old new : Words) (text : List ℕ) (row : EntryRow)
    → StandsForRows first front old → old.left ≡ text ∷ new.left → new.place ≡ old.place + 1 → row_of text ≡ Ok row → length front < most_rows_shown
    → StandsForRows first (front ++ row ∷ []) new
row_more first front old new text row stands next on reads room =
    let len : length (front ++ row ∷ []) ≡ length front + 1 = length-append front (row ∷ []) in
    let one_less : most_rows_shown - length front ≡ suc (most_rows_shown - length (front ++ row ∷ [])) = omega arith in record {
      said = rw on (sym (one_behind front row (rows_from (most_rows_shown - length (front ++ row ∷ [])) (old.place + 1) new.left)) ∙ rw (one_less, next, reads) at stands.said);
      few = omega arith;
      near = omega (arith, stands.near);
    }

-- a word that is no row is a fault, with room for it or not
bad_row : (room : ℕ) (place : ℕ) (text : List ℕ) (more : List (List ℕ)) (fault : WordFault) → row_of text ≡ Err fault → rows_from room place (text ∷ more) ≡ Err (fault_at place fault)
bad_row zero place text more fault reads = rw reads
bad_row (suc room) place text more fault reads = rw reads

-- a word that is no row
pub row_bad : (first : Words) (front : List EntryRow) (old : Words) (text : List ℕ) (more : List (List ℕ)) (fault : WordFault)
    → StandsForRows first front old → old.left ≡ text ∷ more → row_of text ≡ Err fault → rows first ≡ Err (fault_at old.place fault)
row_bad first front old text more fault stands next reads =
    sym stands.said ∙ rw (next, bad_row (most_rows_shown - length front) old.place text more fault reads)

-- a row too many
pub row_over : (first : Words) (front : List EntryRow) (old : Words) (text : List ℕ) (more : List (List ℕ)) (row : EntryRow)
    → StandsForRows first front old → old.left ≡ text ∷ more → row_of text ≡ Ok row → most_rows_shown ≤ length front → rows first ≡ Err (bad.Field old.place)
row_over first front old text more row stands next reads full =
    let none : most_rows_shown - length front ≡ 0 = omega arith in sym stands.said ∙ rw (next, none, reads)
