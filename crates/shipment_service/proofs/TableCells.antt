-- The cells of packages, by the table of all packages and by the steps.
use Rattle.std.proofs.Common.{◌≡◌, ℕ, ◌+◌, ◌-◌, ◌<◌, ◌≤◌, ◌^◌, ◌==◌, ◌||◌, Bool, true, false, cond, List, [], ◌∷◌, ◌++◌, length, map, take, get_or, slice_get, Option, Some, None, is_some, option_map, zero, suc, codes, if◌then◌else◌, add-one, refl, ap, sym, ◌∙◌, arith}
use Rattle.std.proofs.Math.Seq.{take-suc}
use Rattle.std.specs.Fmt.{decimal}
use Rattle.std.specs.List.{cons_option, enumerate_from, range_with_len, join_with_byte}
use Rattle.std.proofs.lemmas.Bool.Decides.{nat_tests}
use Rattle.std.proofs.lemmas.List.{map-append, length-map, length-take-le}
use Rattle.market_events.specs.declared.bodies.Item.{Item}
use Rattle.market_events.specs.CellLists.{Within, put_cell, put_all, cells_by}
use Rattle.market_events.specs.Cells.{cells_of, cells_listed, shipment_cells, package_text, with_value}
use Rattle.market_events.specs.Copies.{last_some}
use Rattle.market_events.specs.declared.roles.Role.{Role}
use Rattle.market_events.specs.Services.{IsRunOf}
use Rattle.market_events.specs.Shipments.{packages, is_open}
use Rattle.market_events.specs.Steps.{Step}
use Rattle.market_events.specs.Texts.{id_text}
use Rattle.market_events.specs.WellFormed.{IsId}
use Rattle.market_events.proofs.NamedCells.Named.{value_at}
use Rattle.market_events.proofs.NamedCells.Keyed.{IsNaming, HasAll, IsFilled, is_among, said_at, joined_filled, put_all-append, entries_told, number_naming}
use Rattle.market_events.proofs.Steps.Taken.{run-few}
use Rattle.shipment_service.specs.declared.package.Package.{Package}
use Rattle.shipment_service.specs.Cells.{name_by, text_by, cell_by, table_cells, texts_in}
use Rattle.shipment_service.specs.Holds.{package_by, packages_by}
use Rattle.shipment_service.proofs.Runs.{enumerate-append, packages-few}

-- numbers have names of their own
pub naming : IsNaming (λ a b. a == b) name_by IsId
naming = number_naming (codes "package")

-- a package more
pub table-more : (ps : List Package) (i : ℕ) (d : Package) → i < length ps
    → put_cell (put_all [] (table_cells (take i ps))) (cell_by (i + 1, get_or ps i d)) ≡ put_all [] (table_cells (take (i + 1) ps))
table-more ps i d below =
    let next : take (i + 1) ps ≡ take i ps ++ get_or ps i d ∷ [] = rw add-one (take-suc ps i d below) in
    let n : i + 1 ≡ 1 + length (take i ps) = omega (arith, length-take-le i ps (omega arith)) in
    put_all-append [] (table_cells (take i ps)) (cell_by (i + 1, get_or ps i d) ∷ [])
    ∙ ap (put_all [])
    (ap (λ k. table_cells (take i ps) ++ cell_by (k, get_or ps i d) ∷ []) n
    ∙ sym (ap table_cells next ∙ ap (map cell_by) (enumerate-append 1 (take i ps) (get_or ps i d ∷ [])) ∙ map-append cell_by (enumerate_from 1 (take i ps)) ((1 + length (take i ps), get_or ps i d) ∷ [])))

-- the text at a number
text-none : (ps : List Package) → texts_in ps 0 ≡ None
text-none ps = refl

pub text-at : (ps : List Package) (i : ℕ) → texts_in ps (1 + i) ≡ option_map text_by (slice_get ps i)
text-at ps i =
    let some : (1 + i == 0) ≡ false = grind (arith, nat_tests) in
    let same : 1 + i - 1 ≡ i = omega arith in
    ap (λ b. cond b None (option_map text_by (slice_get ps (1 + i - 1)))) some ∙ ap (λ k. option_map text_by (slice_get ps k)) same

-- the cells are those of the numbers
range-cells : (text : ℕ → Option (List ℕ)) (from : ℕ) (ps : List Package) → ((i : ℕ) → text (from + i) ≡ option_map text_by (slice_get ps i))
    → map cell_by (enumerate_from from ps) ≡ cells_by name_by text (range_with_len from (length ps))
range-cells text from [] each = refl
range-cells text from (p ∷ ps) each =
    let start : from ≡ from + 0 = omega arith in
    let here : text from ≡ Some (text_by p) = ap text start ∙ each 0 in
    let rest : map cell_by (enumerate_from (from + 1) ps) ≡ cells_by name_by text (range_with_len (from + 1) (length ps))
    = range-cells text (from + 1) ps (λ i. ap text (next from i) ∙ each (suc i)) in
    ap (λ cells. cell_by (from, p) ∷ cells) rest
    ∙ sym (ap (λ (t : Option (List ℕ)). cons_option (with_value (name_by from).table (name_by from).key t) (cells_by name_by text (range_with_len (from + 1) (length ps)))) here)
  where
    next : (from i : ℕ) → from + 1 + i ≡ from + suc i
    next from i = omega arith

pub table-cells : (ps : List Package) → table_cells ps ≡ cells_by name_by (texts_in ps) (range_with_len 1 (length ps))
table-cells ps = range-cells (texts_in ps) 1 ps (text-at ps)

-- the numbers of a range
pub range-among : (from n k : ℕ) → from ≤ k → k < from + n → is_among (λ a b. a == b) (range_with_len from n) k ≡ true
range-among from zero k low high = absurd (omega arith)
range-among from (suc n) k low high = by (k == from) refl (λ apart. range-among (from + 1) n k (after from k low apart) (omega arith))
  where
    after : (from k : ℕ) → from ≤ k → (k == from) ≡ false → from + 1 ≤ k
    after from k low apart = grind (arith, nat_tests)

    by : (b : Bool) → (k == from) ≡ b → ((k == from) ≡ false → is_among (λ a b. a == b) (range_with_len (from + 1) n) k ≡ true) → ((k == from) || is_among (λ a b. a == b) (range_with_len (from + 1) n) k) ≡ true
    by true is rest = rw is refl
    by false apart rest = rw apart (rest apart)

-- a place with a package is within
pub get-within : (ps : List Package) (i : ℕ) → is_some (option_map text_by (slice_get ps i)) ≡ true → i < length ps
get-within [] i some = cc
get-within (p ∷ ps) zero some = omega arith
get-within (p ∷ ps) (suc i) some = omega (arith, get-within ps i some)

-- a number with a text is that of a package
text-within : (ps : List Package) (k : ℕ) → is_some (texts_in ps k) ≡ true → (1 ≤ k) × (k < 1 + length ps)
text-within ps k some = by (k == 0) refl some
  where
    above : (k == 0) ≡ false → 1 ≤ k
    above h = grind (arith, nat_tests)

    by : (b : Bool) → (k == 0) ≡ b → is_some (cond b None (option_map text_by (slice_get ps (k - 1)))) ≡ true → (1 ≤ k) × (k < 1 + length ps)
    by true is some = cc
    by false is some = let low = above is in let within = get-within ps (k - 1) some in (low, omega arith)

-- a text is not empty
filled-append : (xs ys : List ℕ) → IsFilled (Some xs) → IsFilled (Some (xs ++ ys))
filled-append [] ys filled = absurd filled
filled-append (x ∷ xs) ys filled = tt

pub text-filled : (ps : List Package) (k : ℕ) → IsFilled (texts_in ps k)
text-filled ps k = by (k == 0) (slice_get ps (k - 1))
  where
    by : (b : Bool) (o : Option Package) → IsFilled (cond b None (option_map text_by o))
    by true o = tt
    by false None = tt
    by false (Some p) =
        filled-append (join_with_byte 58 (id_text p.item.checkout ∷ decimal p.item.customer ∷ decimal p.item.key.seller ∷ decimal p.item.key.product ∷ [])) (if p.is_open then codes " open" else codes " closed")
        (joined_filled 58 (id_text p.item.checkout) (decimal p.item.customer) (decimal p.item.key.seller ∷ decimal p.item.key.product ∷ []))

-- a table that is not too long
module _ (ps : List Package) (small : length ps < 2 ^ 32) where
  pub texts-small : Within IsId (texts_in ps)
  texts-small k some = let within = text-within ps k some in omega (arith, within.1)

  pub texts-all : HasAll (λ a b. a == b) (texts_in ps) (range_with_len 1 (length ps))
  texts-all k some = let within = text-within ps k some in range-among 1 (length ps) k within.0 within.1

  -- the cells of the service
  module _ (steps : List Step) (is : ps ≡ packages_by steps) where
    pub cells-same : table_cells ps ≡ shipment_cells steps
    cells-same = ap table_cells is ∙ each 1 (packages steps)
      where
        each : (from : ℕ) (items : List Item) → map cell_by (enumerate_from from (map (package_by steps) items))
            ≡ map (λ (p : ℕ × Item). said_at (name_by p.0) (package_text p.1 (is_open steps p.1))) (enumerate_from from items)
        each from [] = refl
        each from (i ∷ items) = ap (λ cells. cell_by (from, package_by steps i) ∷ cells) (each (from + 1) items)

    pub table-told : cells_listed (table_cells ps) ≡ cells_of Role.Shipment steps
    table-told = entries_told Role.Shipment steps (put_all [] (table_cells ps)) (table_cells ps) refl (λ name. ap (last_some (value_at name)) cells-same)

-- the packages of a run are not too many
pub run-small : (steps : List Step) → IsRunOf Role.Shipment steps → length (packages_by steps) < 2 ^ 32
run-small steps run = omega (arith, length-map (packages steps) (package_by steps), packages-few steps run, run-few Role.Shipment steps run)
