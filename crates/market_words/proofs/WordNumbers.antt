-- Numbers as words.
use Rattle.std.proofs.Common.{◌≡◌, ◌≤◌, ◌<◌, ℕ, ◌^◌, ◌==◌, ◌&&◌, nat_le, Bool, true, false, cond, List, [], ◌∷◌, Result, Ok, Err, refl, ap, ◌∙◌, arith}
use Rattle.std.specs.Fmt.{decimal}
use Rattle.std.specs.List.{AllByRecursion}
use Rattle.std.proofs.lemmas.Bool.Decides.{nat_tests}
use Rattle.market_amounts.specs.declared.numbers.NumberError.{NumberError}
use Rattle.market_amounts.specs.declared.numbers.NumberError.TheVariants as number
use Rattle.market_amounts.specs.Numbers.{number_of}
use Rattle.market_amounts.proofs.Decimals.{IsDigit, decimal_digits}
use Rattle.market_amounts.proofs.Spelling.{number_reads, number_spelled}
use Rattle.market_words.specs.declared.faults.WordFault.{WordFault}
use Rattle.market_words.specs.declared.faults.WordFault.TheVariants.{Range}
use Rattle.market_words.specs.Names.{id_max, IsId}
use Rattle.market_words.specs.Words.{spelled_number, number_up_to, above_zero, number_id}
use Rattle.market_words.proofs.WordCuts.{Lacks}
use Rattle.market_words.proofs.WordReads.{ReadsWord}

-- digits lack each byte that is no digit
digits_lack : (c : ℕ) (digits : List ℕ) → (nat_le 48 c && nat_le c 57) ≡ false → AllByRecursion IsDigit digits → Lacks c digits
digits_lack c [] other all = tt
digits_lack c (b ∷ bs) other all = (differs c b other all.0, digits_lack c bs other all.1)
  where
    differs : (c b : ℕ) → (nat_le 48 c && nat_le c 57) ≡ false → IsDigit b → (b == c) ≡ false
    differs c b other digit = grind (arith, nat_tests, other)

-- so does what is written of a number
pub decimal_lacks : (c n : ℕ) → (nat_le 48 c && nat_le c 57) ≡ false → n < 2 ^ 128 → Lacks c (decimal n)
decimal_lacks c n other small = digits_lack c (decimal n) other (decimal_digits n small).0

-- a number up to a limit
pub number_word : (limit : ℕ) → limit < 2 ^ 128 → ReadsWord (number_up_to limit) decimal (λ n. n ≤ limit)
number_word limit small = record {
  reads = λ n within. ap spelled_number (number_reads n limit within small);
  spelled = λ t n e. number_spelled t limit n small (of_result (number_of t limit) n e);
  bare = λ n within. decimal_lacks 32 n refl (omega arith);
}
  where
    of_result : (r : Result ℕ NumberError) (n : ℕ) → spelled_number r ≡ Ok n → r ≡ Ok n
    of_result (Ok m) n e = cc
    of_result (Err number.Empty) n e = absurd (cc)
    of_result (Err (number.NotDigit place)) n e = absurd (cc)
    of_result (Err number.LeadingZero) n e = absurd (cc)
    of_result (Err number.TooLarge) n e = absurd (cc)

-- a number from 1 on passes
above_zero_reads : (n : ℕ) → 1 ≤ n → above_zero (Ok n) ≡ Ok n
above_zero_reads n some = grind (arith, nat_tests)

-- a number that passed is from 1 on
above_zero_apart : (r : Result ℕ WordFault) (n : ℕ) → above_zero r ≡ Ok n → (r ≡ Ok n) × (1 ≤ n)
above_zero_apart (Err fault) n e = absurd (cc)
above_zero_apart (Ok m) n e = let apart = by_zero (m == 0) refl e in (ap Ok apart.0, apart.1)
  where
    by_zero : (b : Bool) → (m == 0) ≡ b → cond {A = Result ℕ WordFault} b (Err Range) (Ok m) ≡ Ok n → (m ≡ n) × (1 ≤ n)
    by_zero true zero e = absurd (cc)
    by_zero false some e = let same : m ≡ n = cc in (same, grind (arith, nat_tests, some))

-- a number from 1 up to a limit
pub positive_word : (limit : ℕ) → limit < 2 ^ 128 → ReadsWord (λ text. above_zero (number_up_to limit text)) decimal (λ n. (1 ≤ n) × (n ≤ limit))
positive_word limit small = record {
  reads = λ n ok. ap above_zero (plain.reads n ok.1) ∙ above_zero_reads n ok.0;
  spelled = λ t n e.
      let apart = above_zero_apart (number_up_to limit t) n e in
      let spelled = plain.spelled t n apart.0 in ((apart.1, spelled.0), spelled.1);
  bare = λ n ok. plain.bare n ok.1;
}
  where
    plain : ReadsWord (number_up_to limit) decimal (λ n. n ≤ limit)
    plain = number_word limit small

-- a number of an id
pub number_id_word : ReadsWord number_id decimal IsId
number_id_word = number_word id_max (omega arith)
