-- Pieces of lines that are reserved, sold or released one after the other.
use Rattle.std.proofs.Common.{◌≡◌, ℕ, ◌+◌, ◌-◌, ◌≤◌, ◌<◌, Bool, true, false, List, [], ◌∷◌, ◌++◌, length, take, drop, get_or, Option, if◌then◌else◌, refl, ap, sym, ◌∙◌, add-one, arith}
use Rattle.std.specs.List.{list_any}
use Rattle.std.specs.Option.{option_or}
use Rattle.std.proofs.lemmas.List.{take-append-drop}
use Rattle.std.proofs.lemmas.List.Sums.{sum_by-append, sum_by-cons}
use Rattle.std.proofs.Math.Seq.{take-suc, drop-cons}
use Rattle.market_amounts.specs.declared.keys.ProductKey.{ProductKey}
use Rattle.market_events.specs.declared.bodies.PricedLine.{PricedLine}
use Rattle.market_events.specs.Requests.{same_key}
use Rattle.market_events.specs.Stocks.{pieces_of, first_some}
use Rattle.market_events.proofs.Values.Lists.{or_parts}
use Rattle.market_events.proofs.Values.Same.{same_key-self}
use Rattle.market_events.proofs.Steps.Pieces.{pieces_of-push}
use Rattle.stock_service.specs.declared.levels.Act.{Act}
use Rattle.stock_service.specs.declared.levels.Act.TheVariants.{Reserve, Sell, Release}
use Rattle.stock_service.specs.Amounts.{Amounts, no_pieces, amounts_after, CanAct}

-- nothing was done yet
pub after_none : (act : Act) (was : Amounts) → was ≡ amounts_after act 0 was
after_none Reserve was = let e : was.reserved ≡ was.reserved + 0 = omega arith in λ i. record { on_hand = was.on_hand; reserved = e i }
after_none Sell was = let e : was.reserved ≡ was.reserved - 0 = omega arith in let d : was.on_hand ≡ was.on_hand - 0 = omega arith in λ i. record { on_hand = d i; reserved = e i }
after_none Release was = let e : was.reserved ≡ was.reserved - 0 = omega arith in λ i. record { on_hand = was.on_hand; reserved = e i }

-- where there are no pieces, nothing can be done with some
pub cannot_act : (act : Act) (pieces : ℕ) → 1 ≤ pieces → CanAct act pieces no_pieces → ⊥
cannot_act Reserve pieces some can = absurd (omega (arith, some, can))
cannot_act Sell pieces some can = absurd (omega (arith, some, can))
cannot_act Release pieces some can = absurd (omega (arith, some, can))

-- some pieces, and then more
pub after_more : (act : Act) (pieces more : ℕ) (was : Amounts) → amounts_after act more (amounts_after act pieces was) ≡ amounts_after act (pieces + more) was
after_more Reserve pieces more was =
    let e : was.reserved + pieces + more ≡ was.reserved + (pieces + more) = omega arith in λ i. record { on_hand = was.on_hand; reserved = e i }
after_more Sell pieces more was =
    let e : was.reserved - pieces - more ≡ was.reserved - (pieces + more) = omega arith in
    let d : was.on_hand - pieces - more ≡ was.on_hand - (pieces + more) = omega arith in λ i. record { on_hand = d i; reserved = e i }
after_more Release pieces more was =
    let e : was.reserved - pieces - more ≡ was.reserved - (pieces + more) = omega arith in λ i. record { on_hand = was.on_hand; reserved = e i }

-- what can be done with all pieces can be done with more of them after some
pub can_more : (act : Act) (pieces more all : ℕ) (was : Amounts) → CanAct act all was → pieces + more ≤ all → CanAct act more (amounts_after act pieces was)
can_more Reserve pieces more all was can part = omega (arith, can, part)
can_more Sell pieces more all was can part = omega (arith, can, part)
can_more Release pieces more all was can part = omega (arith, can, part)

-- some of the lines have no more pieces than all
pub pieces_of-take : (key : ProductKey) (lines : List PricedLine) (i : ℕ) → pieces_of key (take i lines) ≤ pieces_of key lines
pieces_of-take key lines i =
    omega (
      arith,
      ap (pieces_of key) (take-append-drop i lines),
      sum_by-append (λ (line : PricedLine). if same_key line.key key then line.quantity else 0) (take i lines) (drop i lines),
    )

-- the line at a place of the list, behind those in front of it
pub pieces_of-next : (key : ProductKey) (lines : List PricedLine) (i : ℕ) (d : PricedLine) → i < length lines
    → pieces_of key (take (i + 1) lines) ≡ pieces_of key (take i lines) + (if same_key (get_or lines i d).key key then (get_or lines i d).quantity else 0)
pieces_of-next key lines i d h =
    let next : take (i + 1) lines ≡ take i lines ++ get_or lines i d ∷ [] = rw add-one (take-suc lines i d h) in
    ap (pieces_of key) next ∙ pieces_of-push key (take i lines) (get_or lines i d)

-- that line's pieces fit behind those in front of it
pub pieces_of-fit : (lines : List PricedLine) (i : ℕ) (d : PricedLine) → i < length lines
    → pieces_of (get_or lines i d).key (take i lines) + (get_or lines i d).quantity ≤ pieces_of (get_or lines i d).key lines
pieces_of-fit lines i d h =
    let line = get_or lines i d in
    let next : pieces_of (get_or lines i d).key (take (i + 1) lines) ≡ pieces_of (get_or lines i d).key (take i lines) + (get_or lines i d).quantity
    = pieces_of-next (get_or lines i d).key lines i d h ∙ ap (λ b. pieces_of (get_or lines i d).key (take i lines) + (if b then (get_or lines i d).quantity else 0)) (same_key-self (get_or lines i d).key) in
    omega (arith, next, pieces_of-take (get_or lines i d).key lines (i + 1))

-- what one more line leaves
pub after_next : (act : Act) (key k : ProductKey) (pieces before : ℕ) (was : Amounts)
    → (if same_key key k then amounts_after act pieces (amounts_after act before was) else amounts_after act before was) ≡ amounts_after act (before + (if same_key key k then pieces else 0)) was
after_next act key k pieces before was = either (same_key key k)
  where
    either : (b : Bool) → (if b then amounts_after act pieces (amounts_after act before was) else amounts_after act before was) ≡ amounts_after act (before + (if b then pieces else 0)) was
    either true = after_more act before pieces was
    either false = let e : before ≡ before + 0 = omega arith in ap (λ n. amounts_after act n was) e

-- the first line that is refused stands behind those in front of it, which are not
pub first_some-drop : {B : Type 0} (f : PricedLine → Option B) (lines : List PricedLine) (i : ℕ) (d : PricedLine) → i < length lines
    → first_some f (drop i lines) ≡ option_or (f (get_or lines i d)) (first_some f (drop (i + 1) lines))
first_some-drop f lines i d h =
    let next : drop i lines ≡ get_or lines i d ∷ drop (i + 1) lines = rw add-one (drop-cons lines i d h) in
    ap (first_some f) next

-- whether a line is of the product
abbrev pub is_lined : ProductKey → List PricedLine → Bool
is_lined key lines = list_any (λ (line : PricedLine). same_key line.key key) lines

-- a product of which no line is has no pieces in them
pub pieces_of-none : (key : ProductKey) (lines : List PricedLine) → is_lined key lines ≡ false → pieces_of key lines ≡ 0
pieces_of-none key [] none = refl
pieces_of-none key (line ∷ more) none =
    let both = or_parts (same_key line.key key) (is_lined key more) none in
    sum_by-cons (λ (line : PricedLine). if same_key line.key key then line.quantity else 0) line more
    ∙ rw both.0 (omega (arith, pieces_of-none key more both.1))

-- so its pieces stay as they were
pub after-none : (act : Act) (key : ProductKey) (lines : List PricedLine) (was : Amounts) → is_lined key lines ≡ false → amounts_after act (pieces_of key lines) was ≡ was
after-none act key lines was none = ap (λ n. amounts_after act n was) (pieces_of-none key lines none) ∙ sym (after_none act was)
