-- Numbers as words.
use Rattle.std.proofs.Common.{◌≡◌, ◌≤◌, ℕ, ◌*◌, ◌==◌, Bool, true, false, cond, List, [], ◌∷◌, length, if◌then◌else◌, Result, Ok, Err, refl, ap, ◌∙◌, arith}
use Rattle.std.specs.Fmt.{decimal}
use Rattle.std.specs.List.{AllByRecursion}
use Rattle.std.proofs.lemmas.Bool.Decides.{nat_tests}
use Rattle.std.proofs.lemmas.Nat.{mul-le}
use Rattle.market_amounts.specs.Amounts.{amount_of}
use Rattle.market_events.specs.declared.bodies.PricedLine.{PricedLine}
use Rattle.market_words.specs.declared.faults.WordFault.{WordFault}
use Rattle.market_words.specs.declared.faults.WordFault.TheVariants.{Range}
use Rattle.market_words.specs.Words.{number_up_to, above_zero}
use Rattle.market_texts.specs.Reading.{cents, quantity, this_total}
use Rattle.market_words.specs.Results.{◌>>=◌}
use Rattle.market_events.specs.WellFormed.{cents_max, quantity_max, pieces_max, limit_max, total_max, amount_max, AreCents, ArePieces, IsQuantity, IsLine, AreLines, total_of}
use Rattle.market_words.proofs.WordNumbers.{number_word, positive_word}
use Rattle.market_words.proofs.WordReads.{ReadsWord, then_apart}

-- an amount of cents
pub cents_word : ReadsWord cents decimal AreCents
cents_word = number_word cents_max (omega arith)

-- pieces that are stocked
pub pieces_word : ReadsWord (number_up_to pieces_max) decimal ArePieces
pieces_word = number_word pieces_max (omega arith)

-- the limit of a card
pub limit_word : ReadsWord (number_up_to limit_max) decimal (λ n. n ≤ limit_max)
limit_word = number_word limit_max (omega arith)

-- a total
pub total_word : ReadsWord (number_up_to total_max) decimal (λ n. n ≤ total_max)
total_word = number_word total_max (omega arith)

-- the amount of a dashboard
pub amount_word : ReadsWord (number_up_to amount_max) decimal (λ n. n ≤ amount_max)
amount_word = number_word amount_max (omega arith)

-- the pieces of a line
pub quantity_word : ReadsWord quantity decimal IsQuantity
quantity_word = positive_word quantity_max (omega arith)

-- the pieces of a stock request
pub stocked_word : ReadsWord (λ text. above_zero (number_up_to pieces_max text)) decimal (λ n. (1 ≤ n) × (n ≤ pieces_max))
stocked_word = positive_word pieces_max (omega arith)

-- a total that is to be this sum
abbrev this : ℕ → ℕ → Result ℕ WordFault
this sum n = if n == sum then Ok n else Err Range

-- the sum itself passes
this_reads : (sum n : ℕ) → n ≡ sum → this sum n ≡ Ok n
this_reads sum n is = grind (arith, nat_tests)

-- a number that passed is the sum
this_apart : (sum m n : ℕ) → this sum m ≡ Ok n → (m ≡ n) × (n ≡ sum)
this_apart sum m n e = by_test (m == sum) refl e
  where
    by_test : (b : Bool) → (m == sum) ≡ b → cond {A = Result ℕ WordFault} b (Ok m) (Err Range) ≡ Ok n → (m ≡ n) × (n ≡ sum)
    by_test true is e = let same : m ≡ n = cc in (same, grind (arith, nat_tests, is))
    by_test false other e = absurd (cc)

-- a total beside lines
pub this_total_word : (sum : ℕ) → ReadsWord (this_total sum) decimal (λ n. (n ≡ sum) × (n ≤ total_max))
this_total_word sum = record {
  reads = λ n ok. ap (λ r. r >>= this sum) (total_word.reads n ok.1) ∙ this_reads sum n ok.0;
  spelled = λ t n e.
      let apart = then_apart (number_up_to total_max t) (this sum) n e in
      let same = this_apart sum apart.0 n apart.2 in
      let spelled = total_word.spelled t n (apart.1 ∙ ap Ok same.0) in ((same.1, spelled.0), spelled.1);
  bare = λ n ok. total_word.bare n ok.1;
}

-- what a line costs at most
amount_of_line-le : (price pieces freight voucher : ℕ) → price ≤ cents_max → pieces ≤ quantity_max → freight ≤ cents_max → amount_of price pieces freight voucher ≤ 1_001_000_000_000
amount_of_line-le price pieces freight voucher p q f = omega (arith, mul-le price pieces cents_max quantity_max p q)

-- what lines cost together is a total
pub total_of_lines-le : (lines : List PricedLine) → AreLines lines → total_of lines ≤ total_max
total_of_lines-le lines ok = let bound = by_each lines ok.each in let most = ok.most in omega (arith, bound)
  where
    by_each : (lines : List PricedLine) → AllByRecursion IsLine lines → total_of lines ≤ length lines * 1_001_000_000_000
    by_each [] each = omega arith
    by_each (line ∷ more) each =
        let one = amount_of_line-le line.price line.quantity line.freight line.voucher each.0.price each.0.quantity.1 each.0.freight in
        omega (arith, one, by_each more each.1)
