-- The lines of a checkout are of products that are live, so that stock refuses one for want of pieces alone.
use Rattle.std.proofs.Common.{◌≡◌, ℕ, ◌-◌, Bool, true, false, not, nat_lt, cond, List, [], ◌∷◌, Option, Some, None, option_map, filter_map, find, if◌then◌else◌, refl, ap, ◌∙◌, arith}
use Rattle.std.specs.List.{list_all, cons_option}
use Rattle.std.specs.Option.{option_or}
use Rattle.market_amounts.specs.declared.keys.ProductKey.{ProductKey}
use Rattle.market_events.specs.declared.bodies.PricedLine.{PricedLine}
use Rattle.market_events.specs.declared.bodies.StockRule.{StockRule}
use Rattle.market_events.specs.declared.bodies.StockRule.TheVariants as stock
use Rattle.market_events.specs.declared.changes.Look.{Look}
use Rattle.market_events.specs.declared.changes.Look.TheVariants.{Unknown, Gone, Live}
use Rattle.market_events.specs.Carts.{Held, priced, priced_by}
use Rattle.market_events.specs.Looks.{is_live}
use Rattle.market_events.specs.Services.{is_known}
use Rattle.market_events.specs.Stocks.{StockSums, line_refusal, first_some}
use Rattle.market_events.proofs.Values.Lists.{and_both}
use Rattle.market_history.specs.Sequential.{first_short}
use Rattle.market.proofs.Agreeing.Checkouts.{all_weaker}

-- each line's product is live
pub lines_live : (look : ProductKey → Look) (basket : List (ProductKey × Held)) → list_all (λ (line : PricedLine). is_live (look line.key)) (filter_map (priced look) basket) ≡ true
lines_live look [] = refl
lines_live look (e ∷ es) = either (look e.0) refl (lines_live look es)
  where
    either : (l : Look) → look e.0 ≡ l → list_all (λ (line : PricedLine). is_live (look line.key)) (filter_map (priced look) es) ≡ true
        → list_all (λ (line : PricedLine). is_live (look line.key)) (cons_option (priced_by e.0 e.1 l) (filter_map (priced look) es)) ≡ true
    either Unknown is rest = rest
    either (Gone v) is rest = rest
    either (Live v price freight) is rest = rw is rest

-- and so it is known
pub lines_known : (look : ProductKey → Look) (lines : List PricedLine) → list_all (λ (line : PricedLine). is_live (look line.key)) lines ≡ true → list_all (λ (line : PricedLine). is_known (look line.key)) lines ≡ true
lines_known look lines all = all_weaker (λ (line : PricedLine). is_live (look line.key)) (λ (line : PricedLine). is_known (look line.key)) (λ line live. known (look line.key) live) lines all
  where
    known : (l : Look) → is_live l ≡ true → is_known l ≡ true
    known Unknown live = cc
    known (Gone v) live = refl
    known (Live v price freight) live = refl

-- why the first line is refused: too few pieces
abbrev pub short_of : Option ProductKey → Option (ProductKey × StockRule)
short_of None = None
short_of (Some key) = Some (key, stock.Short)

pub refused_short : (s : StockSums) → ((key : ProductKey) → s.reserved key ≡ 0) → (lines : List PricedLine) → list_all (λ (line : PricedLine). is_live (s.look line.key)) lines ≡ true
    → first_some (line_refusal s) lines ≡ short_of (first_short s.on_hand lines)
refused_short s none [] all = refl
refused_short s none (line ∷ lines) all =
    let both = and_both (is_live (s.look line.key)) (list_all (λ (line : PricedLine). is_live (s.look line.key)) lines) all in
    ap (λ o. option_or o (first_some (line_refusal s) lines)) (one both.0)
    ∙ either (nat_lt (s.on_hand line.key) line.quantity) (refused_short s none lines both.1)
  where
    free : (n m : ℕ) → m ≡ 0 → n - m ≡ n
    free n m e = omega (arith, e)

    one : is_live (s.look line.key) ≡ true → line_refusal s line ≡ (if nat_lt (s.on_hand line.key) line.quantity then Some (line.key, stock.Short) else None)
    one live =
        ap (λ b. if not b then Some (line.key, stock.Gone) else if nat_lt (s.on_hand line.key - s.reserved line.key) line.quantity then Some (line.key, stock.Short) else None) live
        ∙ ap (λ n. if nat_lt n line.quantity then Some (line.key, stock.Short) else None) (free (s.on_hand line.key) (s.reserved line.key) (none line.key))

    either : (b : Bool) → first_some (line_refusal s) lines ≡ short_of (first_short s.on_hand lines)
        → option_or (if b then Some (line.key, stock.Short) else None) (first_some (line_refusal s) lines)
        ≡ short_of (option_map (λ (l : PricedLine). l.key) (cond b (Some line) (find (λ (l : PricedLine). nat_lt (s.on_hand l.key) l.quantity) lines)))
    either true rest = refl
    either false rest = rest
