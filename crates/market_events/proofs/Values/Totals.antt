-- What lines cost together, one line after the other.
use Rattle.std.proofs.Common.{◌≡◌, ◌<◌, ℕ, ◌+◌, List, [], ◌∷◌, ◌++◌, length, get_or, take, ap, ◌∙◌, arith}
use Rattle.std.proofs.lemmas.List.{take_more}
use Rattle.market_amounts.specs.Amounts.{amount_of}
use Rattle.market_events.specs.declared.bodies.PricedLine.{PricedLine}
use Rattle.market_events.specs.WellFormed.{total_of}

-- what a line costs
abbrev pub cost : PricedLine → ℕ
cost line = amount_of line.price line.quantity line.freight line.voucher

-- the total with one more line
total_of-more : (lines : List PricedLine) (line : PricedLine) → total_of (lines ++ line ∷ []) ≡ total_of lines + cost line
total_of-more [] line = omega arith
total_of-more (a ∷ more) line = ap (λ n. cost a + n) (total_of-more more line) ∙ omega arith

-- one more line costs what it costs
pub total_of-step : (lines : List PricedLine) (i : ℕ) (line : PricedLine) → i < length lines → line ≡ get_or lines i line → total_of (take (i + 1) lines) ≡ total_of (take i lines) + cost line
total_of-step lines i line below is =
    ap total_of (take_more lines i line below) ∙ rw (← is) (total_of-more (take i lines) line)
