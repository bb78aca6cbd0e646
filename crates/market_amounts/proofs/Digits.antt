-- Digits, one after the other.
use Rattle.std.proofs.Common.{refl, false, Bool, not, None, position, ◌∷◌, ◌&&◌, cond, ◌≡◌, ◌≤◌, ◌<◌, ℕ, ◌+◌, ◌-◌, ◌*◌, true, List, [], length, get_or, take, arith}
use Rattle.std.specs.List.{position_or_len}
use Rattle.std.proofs.lemmas.Bool.Decides.{nat_tests}
use Rattle.std.specs.Str.{all_ascii_digits}
use Rattle.std.specs.Str.Parse.{digits_value}
use Rattle.std.specs.Char.{is_ascii_digit}
use Rattle.std.proofs.lemmas.Str.Parse.{IsNumeralModel, numerals_by_value, tells_all_ascii_digits, digit_at, digits_value-take-le}
use Rattle.std.proofs.lemmas.Str.{digit_value_digit}
use Rattle.std.proofs.lemmas.Int.Digits.{digits_value_more}

pub numerals : IsNumeralModel (λ ds. all_ascii_digits ds ≡ true) (digits_value 10)
numerals = numerals_by_value _ tells_all_ascii_digits

-- what the digit at a place is, and what it adds
pub record IsStep (digits : List ℕ) (i : ℕ) : Type 0 where
  pub low : 48 ≤ get_or digits i 0
  pub high : get_or digits i 0 ≤ 57
  pub more : digits_value 10 (take (i + 1) digits) ≡ digits_value 10 (take i digits) * 10 + (get_or digits i 0 - 48)
  pub part : digits_value 10 (take (i + 1) digits) ≤ digits_value 10 digits

pub digit_step : (digits : List ℕ) (i : ℕ) → all_ascii_digits digits ≡ true → i < length digits → IsStep digits i
digit_step digits i all below =
    let range = digit_at digits i (numerals.to digits all) below in
    let value = digit_value_digit (get_or digits i 0) range in
    record {
      low = omega arith;
      high = omega arith;
      more = omega (arith, digits_value_more 10 digits i below);
      part = digits_value-take-le 10 digits (i + 1) (omega arith);
    }

-- where no byte is found that is no digit, all are digits
passes_all : (digits : List ℕ) → length digits ≤ position_or_len (λ byte. not (is_ascii_digit byte)) digits → all_ascii_digits digits ≡ true
passes_all [] h = refl
passes_all (c ∷ cs) h = first (is_ascii_digit c) h (passes_all cs)
  where
    first : (b : Bool) → length (c ∷ cs) ≤ cond (not (not b)) (1 + position_or_len (λ byte. not (is_ascii_digit byte)) cs) 0
        → (length cs ≤ position_or_len (λ byte. not (is_ascii_digit byte)) cs → all_ascii_digits cs ≡ true)
        → (b && all_ascii_digits cs) ≡ true
    first true h rest = rest (omega arith)
    first false h rest = absurd (omega arith)

pub all_digits : (digits : List ℕ) → position (λ byte. not (is_ascii_digit byte)) digits ≡ None → all_ascii_digits digits ≡ true
all_digits digits none = passes_all digits (grind (arith, nat_tests, none))
