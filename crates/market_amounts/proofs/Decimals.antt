-- What is written of a number of up to 128 bits, and of which number digits are written.
use Rattle.std.proofs.Common.{ap, sym, ◌∙◌, ◌≡◌, ◌≤◌, ◌<◌, ℕ, ◌+◌, ◌*◌, ◌/◌, ◌%◌, ◌^◌, List, [], ◌∷◌, ◌++◌, length, get_or, arith, append_assoc, append-nil, length-append}
use Rattle.std.proofs.Math.ListN.{get_or-append}
use Rattle.std.specs.List.{AllByRecursion}
use Rattle.std.specs.Char.{digit_value}
use Rattle.std.specs.Fmt.{decimal}
use Rattle.std.specs.Str.Parse.{AllDigits, digits_value, digits_value_after}
use Rattle.std.proofs.lemmas.Fmt.{decimal_digit, decimal_is_IsNumeral_wide, decimal_step_wide, decimal_by_steps_wide}
use Rattle.std.proofs.lemmas.Str.{digit_value_digit}
use Rattle.std.proofs.lemmas.Str.Parse.{digit_from_value}

-- a digit as it is written
abbrev pub IsDigit : ℕ → Type 0
IsDigit byte = (48 ≤ byte) × (byte ≤ 57)

digits_by_value : (digits : List ℕ) → AllDigits 10 digits → AllByRecursion IsDigit digits
digits_by_value [] all = tt
digits_by_value (c ∷ cs) all = let range = digit_from_value c all.0 in ((omega arith, omega arith), digits_by_value cs all.1)

module _ (n : ℕ) (small : n < 2 ^ 128) where
  -- each byte is a digit, and there is one at least
  pub decimal_digits : AllByRecursion IsDigit (decimal n) × (1 ≤ length (decimal n))
  decimal_digits = let numeral = (decimal_is_IsNumeral_wide n (omega arith)).0 in (digits_by_value (decimal n) numeral.1, omega (arith, numeral.0))

  -- the digits stand for the number
  pub decimal_value : AllDigits 10 (decimal n) × (digits_value 10 (decimal n) ≡ n)
  decimal_value = let numeral = decimal_is_IsNumeral_wide n (omega arith) in (numeral.0.1, numeral.1)

  -- no 0 stands first, but in 0 itself
  pub decimal_first : 0 < n → 48 < get_or (decimal n) 0 0
  decimal_first some =
      (decimal_by_steps_wide (λ m ds. (0 < length ds) × (0 < m → 48 < get_or ds 0 0)) (λ m l. (omega arith, λ a. omega arith))
      (λ m ds l h. (omega (arith, length-append ds ((48 + m % 10) ∷ [])), λ a. omega (arith, get_or-append ds ((48 + m % 10) ∷ []) 0 0 h.0, h.1 (omega arith)))) n (omega arith)).1 some

value_no_less : (n : ℕ) (digits : List ℕ) → n ≤ digits_value_after 10 n digits
value_no_less n [] = omega arith
value_no_less n (c ∷ cs) = omega (arith, value_no_less (n * 10 + digit_value c) cs)

-- digits after those of a number
digits_after : (n : ℕ) (digits : List ℕ) → 0 < n → AllDigits 10 digits → digits_value_after 10 n digits < 2 ^ 128 → decimal (digits_value_after 10 n digits) ≡ decimal n ++ digits
digits_after n [] some all small = sym (append-nil (decimal n))
digits_after n (c ∷ cs) some all small =
    let m : ℕ = n * 10 + digit_value c in
    let digit = digit_value_digit c (digit_from_value c all.0) in
    let front : m / 10 ≡ n = omega (arith, all.0) in
    let end : 48 + m % 10 ≡ c = omega (arith, all.0) in
    digits_after m cs (omega arith) all.1 small
    ∙ ap (λ x. x ++ cs) (decimal_step_wide m (omega arith) (omega (arith, value_no_less m cs)) ∙ (λ i. decimal (front i) ++ (end i ∷ [])))
    ∙ append_assoc (decimal n) (c ∷ []) cs

-- digits with no leading 0, or 0 alone, are what is written of their value
pub digits_written : (digits : List ℕ) → AllDigits 10 digits → 0 < length digits → (get_or digits 0 0 ≡ 48 → length digits ≡ 1) → digits_value 10 digits < 2 ^ 128 → decimal (digits_value 10 digits) ≡ digits
digits_written [] all some lead small = absurd (omega arith)
digits_written (c ∷ []) all some lead small =
    let digit = digit_value_digit c (digit_from_value c all.0) in
    decimal_digit (0 * 10 + digit_value c) (omega (arith, all.0)) ∙ ap (λ x. x ∷ []) (omega arith)
digits_written (c ∷ e ∷ cs) all some lead small =
    let digit = digit_value_digit c (digit_from_value c all.0) in
    let no : c ≡ 48 → ⊥ = λ zero. omega (arith, lead zero) in
    let is : 48 + (0 * 10 + digit_value c) ≡ c = omega arith in
    digits_after (0 * 10 + digit_value c) (e ∷ cs) (omega arith) all.1 small
    ∙ ap (λ x. x ++ (e ∷ cs)) (decimal_digit (0 * 10 + digit_value c) (omega (arith, all.0)) ∙ ap (λ x. x ∷ []) is)
