-- The rules on lines and items, one piece after the other.
use Rattle.std.proofs.Common.{◌≡◌, ◌≤◌, ◌<◌, ℕ, zero, suc, ◌-◌, Bool, true, false, not, ◌||◌, ◌&&◌, nat_lt, List, [], ◌∷◌, ◌++◌, length, None, refl, ap, sym, length-append, get_or, arith}
use Rattle.std.proofs.lemmas.Bool.Decides.{nat_tests}
use Rattle.market_events.specs.declared.bodies.Item.{Item}
use Rattle.market_events.specs.declared.bodies.PricedLine.{PricedLine}
use Rattle.market_words.specs.Words.{pieces}
use Rattle.market_texts.specs.Reading.{item_read, line_read}
use Rattle.market_texts.specs.Cutting.{lines_break, last_below}
use Rattle.market_events.specs.WellFormed.{most_lines, most_items, key_below, keys_rise}
use Rattle.market_texts.proofs.Gathering.{Breaks, StandsFor, begins}

-- items that are too many
abbrev pub items_break : List Item → Bool
items_break items = nat_lt most_items (length items)

-- too many items are too many with more behind them
items_closed : Breaks items_break
items_closed xs ys h = grind (arith, nat_tests, h, length-append xs ys)

-- no item is read yet
pub items_begin : (text : List ℕ) → StandsFor items_break item_read (pieces 59 text) [] None (pieces 59 text)
items_begin text = begins items_break items_closed refl item_read (pieces 59 text)

-- there is room for one more, or there is not
pub items_room : (items : List Item) (item : Item) → length items < most_items → items_break (items ++ item ∷ []) ≡ false
items_room items item room = grind (arith, nat_tests, length-append items (item ∷ []))

pub items_full : (items : List Item) (item : Item) → most_items ≤ length items → items_break (items ++ item ∷ []) ≡ true
items_full items item full = grind (arith, nat_tests, length-append items (item ∷ []))

-- lines that do not rise, and more behind them
falls_on : (xs ys : List PricedLine) → keys_rise xs ≡ false → keys_rise (xs ++ ys) ≡ false
falls_on [] ys h = cc
falls_on (a ∷ []) ys h = cc
falls_on (a ∷ b ∷ more) ys h = first (key_below a.key b.key) h (falls_on (b ∷ more) ys)
  where
    first : (below : Bool) → (below && keys_rise (b ∷ more)) ≡ false → (keys_rise (b ∷ more) ≡ false → keys_rise (b ∷ (more ++ ys)) ≡ false) → (below && keys_rise (b ∷ (more ++ ys))) ≡ false
    first true h rest = rest h
    first false h rest = refl

-- lines that break a rule break it with more behind them
lines_closed : Breaks lines_break
lines_closed xs ys h = by_rise (keys_rise xs) refl h
  where
    by_rise : (b : Bool) → keys_rise xs ≡ b → (nat_lt most_lines (length xs) || not b) ≡ true → (nat_lt most_lines (length (xs ++ ys)) || not (keys_rise (xs ++ ys))) ≡ true
    by_rise true rise h = grind (arith, nat_tests, h, length-append xs ys)
    by_rise false rise h = rw (falls_on xs ys rise) (grind (arith, nat_tests))

-- no line is read yet
pub lines_begin : (text : List ℕ) → StandsFor lines_break line_read (pieces 59 text) [] None (pieces 59 text)
lines_begin text = begins lines_break lines_closed refl line_read (pieces 59 text)

-- the last line is the one at the last place
last_below_at : (xs : List PricedLine) (x d : PricedLine) (i : ℕ) → length xs ≡ suc i → last_below xs x ≡ key_below (get_or xs i d).key x.key
last_below_at [] x d i h = absurd (omega arith)
last_below_at (a ∷ []) x d zero h = refl
last_below_at (a ∷ []) x d (suc i) h = absurd (omega arith)
last_below_at (a ∷ b ∷ more) x d zero h = absurd (omega arith)
last_below_at (a ∷ b ∷ more) x d (suc i) h = last_below_at (b ∷ more) x d i (omega arith)

-- the same, with the place counted from the length
pub last_is_below : (xs : List PricedLine) (x d : PricedLine) → 0 < length xs → last_below xs x ≡ key_below (get_or xs (length xs - 1) d).key x.key
last_is_below xs x d some = last_below_at xs x d (length xs - 1) (omega arith)

-- lines rise with one more behind them where the last is below it
rises_on : (xs : List PricedLine) (x : PricedLine) → keys_rise xs ≡ true → keys_rise (xs ++ x ∷ []) ≡ last_below xs x
rises_on [] x h = refl
rises_on (a ∷ []) x h = by (key_below a.key x.key)
  where
    by : (b : Bool) → (b && true) ≡ b
    by true = refl
    by false = refl
rises_on (a ∷ b ∷ more) x h = first (key_below a.key b.key) h (rises_on (b ∷ more) x)
  where
    first : (below : Bool) → (below && keys_rise (b ∷ more)) ≡ true → (keys_rise (b ∷ more) ≡ true → keys_rise (b ∷ (more ++ x ∷ [])) ≡ last_below (b ∷ more) x) → (below && keys_rise (b ∷ (more ++ x ∷ []))) ≡ last_below (b ∷ more) x
    first true h rest = rest h
    first false h rest = cc

-- whether a line may stand behind lines that break no rule
pub may_follow : (xs : List PricedLine) (x : PricedLine) (short : Bool) → lines_break xs ≡ false → short ≡ nat_lt (length xs) most_lines → (short && last_below xs x) ≡ not (lines_break (xs ++ x ∷ []))
may_follow xs x short fine is = by_rise (keys_rise xs) refl fine
  where
    by_last : (b : Bool) → (short && b) ≡ not (nat_lt most_lines (length (xs ++ x ∷ [])) || not b)
    by_last true = grind (arith, nat_tests, is, length-append xs (x ∷ []))
    by_last false = grind (arith, nat_tests)

    by_rise : (b : Bool) → keys_rise xs ≡ b → (nat_lt most_lines (length xs) || not b) ≡ false → (short && last_below xs x) ≡ not (lines_break (xs ++ x ∷ []))
    by_rise true rise fine = rw (rises_on xs x rise) (by_last (last_below xs x))
    by_rise false rise fine = absurd (grind (arith, nat_tests, fine))

-- what is not the other is the other's negation
pub turned : (a b : Bool) → a ≡ not b → b ≡ not a
turned a true e = sym (ap not e)
turned a false e = sym (ap not e)
