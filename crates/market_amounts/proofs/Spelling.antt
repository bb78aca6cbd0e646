-- A text is read as a number just where it is what is written of that number.
use Rattle.std.proofs.Common.{refl, ap, sym, true, false, Bool, not, Option, None, Some, Result, Ok, Err, position, ◌∷◌, ◌&&◌, cond, nat_lt, ◌==◌, ◌≡◌, ◌≤◌, ◌<◌, ℕ, ◌+◌, ◌^◌, List, [], length, get_or, slice_index, IfOk, arith}
use Rattle.std.specs.List.{position_or_len}
use Rattle.std.specs.Option.{option_map_or}
use Rattle.std.specs.Char.{is_ascii_digit}
use Rattle.std.specs.Fmt.{decimal}
use Rattle.std.specs.Str.{all_ascii_digits}
use Rattle.std.specs.Str.Parse.{digits_value}
use Rattle.std.proofs.lemmas.Bool.Decides.{nat_tests}
use Rattle.std.proofs.lemmas.Fmt.{decimal_digit}
use Rattle.market_amounts.specs.declared.numbers.NumberError.{NumberError}
use Rattle.market_amounts.specs.declared.numbers.NumberError.TheVariants.{Empty, NotDigit, LeadingZero, TooLarge}
use Rattle.market_amounts.specs.Numbers.{number_of, number_in_digits}
use Rattle.market_amounts.proofs.Digits.{numerals, all_digits}
use Rattle.market_amounts.proofs.Decimals.{decimal_digits, decimal_value, decimal_first, digits_written}

-- where all bytes are digits, none is found that is no digit
finds_none : (digits : List ℕ) → all_ascii_digits digits ≡ true → position (λ byte. not (is_ascii_digit byte)) digits ≡ None
finds_none digits all = grind (arith, nat_tests, passed digits all)
  where
    passed : (digits : List ℕ) → all_ascii_digits digits ≡ true → position_or_len (λ byte. not (is_ascii_digit byte)) digits ≡ length digits
    passed [] h = refl
    passed (c ∷ cs) h = first (is_ascii_digit c) h (passed cs)
      where
        first : (b : Bool) → (b && all_ascii_digits cs) ≡ true
            → (all_ascii_digits cs ≡ true → position_or_len (λ byte. not (is_ascii_digit byte)) cs ≡ length cs)
            → cond (not (not b)) (1 + position_or_len (λ byte. not (is_ascii_digit byte)) cs) 0 ≡ length (c ∷ cs)
        first true h rest = let same = rest h in omega arith
        first false h rest = cc

-- only 0 is written with a 0 first
one_zero : (n : ℕ) → n < 2 ^ 128 → get_or (decimal n) 0 0 ≡ 48 → length (decimal n) ≡ 1
one_zero n small zero = by_size (nat_lt 0 n) refl
  where
    by_size : (b : Bool) → nat_lt 0 n ≡ b → length (decimal n) ≡ 1
    by_size true above = let first = decimal_first n small (grind (arith, nat_tests, above)) in absurd (omega arith)
    by_size false none = let is_zero : n ≡ 0 = grind (arith, nat_tests, none) in rw is_zero (ap length (decimal_digit 0 (omega arith)))

-- digits with no leading zero and a value within the limit
digits_read : (digits : List ℕ) (limit n : ℕ) → (get_or digits 0 0 ≡ 48 → length digits ≡ 1) → digits_value 10 digits ≡ n → n ≤ limit → number_in_digits digits limit ≡ Ok n
digits_read digits limit n first value within = grind (arith, nat_tests)

digits_spelled : (digits : List ℕ) (limit : ℕ) → limit < 2 ^ 128 → all_ascii_digits digits ≡ true → 0 < length digits → IfOk (number_in_digits digits limit) (λ n. digits ≡ decimal n)
digits_spelled digits limit small all some = by_first (nat_lt 1 (length digits) && (slice_index digits 0 == 48)) refl
  where
    by_value : (b : Bool) → nat_lt limit (digits_value 10 digits) ≡ b → (get_or digits 0 0 ≡ 48 → length digits ≡ 1) → IfOk {E = NumberError} (cond b (Err TooLarge) (Ok (digits_value 10 digits))) (λ n. digits ≡ decimal n)
    by_value true above first = tt
    by_value false within first = sym (digits_written digits (numerals.to digits all) some first (grind (arith, nat_tests, within)))

    by_first : (b : Bool) → (nat_lt 1 (length digits) && (slice_index digits 0 == 48)) ≡ b → IfOk {E = NumberError} (cond b (Err LeadingZero) (cond (nat_lt limit (digits_value 10 digits)) (Err TooLarge) (Ok (digits_value 10 digits)))) (λ n. digits ≡ decimal n)
    by_first true leading = tt
    by_first false plain = by_value (nat_lt limit (digits_value 10 digits)) refl (λ zero. grind (arith, nat_tests, plain, zero))

-- what is written of a number up to the limit is no empty text, has digits only, and is read as that number
pub written_some : (text : List ℕ) (limit n : ℕ) → limit < 2 ^ 128 → text ≡ decimal n → n ≤ limit → 0 < length text
written_some text limit n small e within = let some : 0 < length (decimal n) = omega (arith, (decimal_digits n (omega arith)).1) in rw e some

pub written_digits : (text : List ℕ) (limit n : ℕ) → limit < 2 ^ 128 → text ≡ decimal n → n ≤ limit → position (λ byte. not (is_ascii_digit byte)) text ≡ None
written_digits text limit n small e within = rw e (finds_none (decimal n) (numerals.from (decimal n) (decimal_value n (omega arith)).0))

pub written_read : (text : List ℕ) (limit n : ℕ) → limit < 2 ^ 128 → text ≡ decimal n → n ≤ limit → number_in_digits text limit ≡ Ok n
written_read text limit n small e within = rw e (digits_read (decimal n) limit n (one_zero n (omega arith)) (decimal_value n (omega arith)).1 within)

pub read_spelled : (digits : List ℕ) (limit : ℕ) → limit < 2 ^ 128 → position (λ byte. not (is_ascii_digit byte)) digits ≡ None → 0 < length digits → IfOk (number_in_digits digits limit) (λ n. digits ≡ decimal n)
read_spelled digits limit small none some = digits_spelled digits limit small (all_digits digits none) some

-- what is written of a number up to the limit is read as it
pub number_reads : (n limit : ℕ) → n ≤ limit → limit < 2 ^ 128 → number_of (decimal n) limit ≡ Ok n
number_reads n limit within small =
    let some = written_some (decimal n) limit n small refl within in
    let none = written_digits (decimal n) limit n small refl within in
    let read = written_read (decimal n) limit n small refl within in
    grind (arith, nat_tests, some, none, read)

-- a text that is read as a number is what is written of it, and the number is within the limit
pub number_spelled : (t : List ℕ) (limit n : ℕ) → limit < 2 ^ 128 → number_of t limit ≡ Ok n → (n ≤ limit) × (t ≡ decimal n)
number_spelled t limit n small read = by_length (length t == 0) refl read
  where
    of_digits : (b : Bool) → nat_lt limit (digits_value 10 t) ≡ b → (c : Bool) → cond {A = Result ℕ NumberError} c (Err LeadingZero) (cond b (Err TooLarge) (Ok (digits_value 10 t))) ≡ Ok n → n ≤ limit
    of_digits b above true e = cc
    of_digits true above false e = cc
    of_digits false within false e = let same : digits_value 10 t ≡ n = cc in grind (arith, nat_tests, within)

    by_place : 0 < length t → (o : Option ℕ) → position (λ byte. not (is_ascii_digit byte)) t ≡ o → option_map_or (λ place. Err (NotDigit place)) o (number_in_digits t limit) ≡ Ok n → (n ≤ limit) × (t ≡ decimal n)
    by_place some (Some place) found e = cc
    by_place some None none e = (of_digits _ refl _ e, rw e at (read_spelled t limit small none some))

    by_length : (b : Bool) → (length t == 0) ≡ b → cond {A = Result ℕ NumberError} b (Err Empty) (option_map_or (λ place. Err (NotDigit place)) (position (λ byte. not (is_ascii_digit byte)) t) (number_in_digits t limit)) ≡ Ok n → (n ≤ limit) × (t ≡ decimal n)
    by_length true empty e = cc
    by_length false some e = by_place (grind (arith, nat_tests, some)) _ refl e
