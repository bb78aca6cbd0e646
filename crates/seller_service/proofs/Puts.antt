-- Cells that are put one after the other, of numbered elements, and names that are put so.
use Rattle.std.proofs.Common.{◌≡◌, ℕ, ◌+◌, ◌<◌, ◌≤◌, Bool, true, false, cond, ◌||◌, nat_le, List, [], ◌∷◌, ◌++◌, map, length, take, get_or, count_by, leb-true, refl, ap, sym, ◌∙◌, arith, ◌⊎◌, inr}
use Rattle.std.specs.List.{enumerate_from}
use Rattle.std.proofs.lemmas.Bool.{eqb-true, leb-false}
use Rattle.std.proofs.lemmas.List.{take_more, map_push, length-take-le}
use Rattle.market_events.specs.declared.cells.Cell.{Cell}
use Rattle.market_events.specs.declared.cells.CellName.{CellName}
use Rattle.market_events.specs.CellLists.{put_cell, put_all}
use Rattle.market_events.specs.Sellers.{SellerChange}
use Rattle.market_events.specs.Standing.{same_name, is_named}
use Rattle.market_events.proofs.NamedCells.Named.{same_name-same, same_name-true}
use Rattle.market_events.proofs.NamedCells.Keyed.{put_all-append}
use Rattle.market_events.proofs.Values.Lists.{or_left, or_right}
use Rattle.seller_service.specs.Tables.{is_of_seller}
use Rattle.seller_service.proofs.Lists.{count_by-next, enumerate-push}

-- the cells of the elements so far, with that of the next one
numbered-next : {A : Type 0} (f : ℕ × A → Cell) (xs : List A) (i : ℕ) (d : A) → i < length xs
    → map f (enumerate_from 1 (take (i + 1) xs)) ≡ map f (enumerate_from 1 (take i xs)) ++ f (i + 1, get_or xs i d) ∷ []
numbered-next f xs i d below =
    let number : 1 + length (take i xs) ≡ i + 1 = omega (arith, length-take-le i xs (omega arith)) in
    ap (λ ys. map f (enumerate_from 1 ys)) (take_more xs i d below) ∙ ap (map f) (enumerate-push 1 (take i xs) (get_or xs i d))
    ∙ map_push f (enumerate_from 1 (take i xs)) (1 + length (take i xs), get_or xs i d)
    ∙ ap (λ n. map f (enumerate_from 1 (take i xs)) ++ f (n, get_or xs i d) ∷ []) number

-- one more is put
pub put-next : {A : Type 0} (f : ℕ × A → Cell) (xs : List A) (i : ℕ) (x : A) (start was now : List (CellName × List ℕ)) → i < length xs → x ≡ get_or xs i x
    → was ≡ put_all start (map f (enumerate_from 1 (take i xs))) → now ≡ put_cell was (f (i + 1, x)) → now ≡ put_all start (map f (enumerate_from 1 (take (i + 1) xs)))
put-next f xs i x start was now below is before e =
    e ∙ ap (λ es. put_cell es (f (i + 1, x))) before
    ∙ put_all-append start (map f (enumerate_from 1 (take i xs))) (f (i + 1, x) ∷ [])
    ∙ ap (λ x. put_all start (map f (enumerate_from 1 (take i xs)) ++ f (i + 1, x) ∷ [])) is
    ∙ sym (ap (put_all start) (numbered-next f xs i x below))

-- names of the numbers that are added to those of each seller, with the next one
pub named-next : (at : ℕ → ℕ → CellName) (length_of : ℕ → ℕ) (changes : List SellerChange) (i : ℕ) (c : SellerChange) → i < length changes → c ≡ get_or changes i c
    → (old new : List CellName) (name : CellName) → name ≡ at c.line.key.seller (length_of c.line.key.seller + count_by (is_of_seller c.line.key.seller) (take i changes) + 1)
    → ((other : CellName) → is_named new other ≡ (same_name other name || is_named old other))
    → ((seller number : ℕ) → length_of seller < number → number ≤ length_of seller + count_by (is_of_seller seller) (take i changes) → is_named old (at seller number) ≡ true)
    → (seller number : ℕ) → length_of seller < number → number ≤ length_of seller + count_by (is_of_seller seller) (take (i + 1) changes) → is_named new (at seller number) ≡ true
named-next at length_of changes i c below is old new name told put was seller number above few =
    put (at seller number) ∙ by (nat_le number (length_of seller + count_by (is_of_seller seller) (take i changes))) refl
  where
    count : count_by (is_of_seller seller) (take (i + 1) changes) ≡ count_by (is_of_seller seller) (take i changes) + cond (is_of_seller seller c) 1 0
    count = count_by-next (is_of_seller seller) changes i c below ∙ ap (λ x. count_by (is_of_seller seller) (take i changes) + cond (is_of_seller seller x) 1 0) (sym is)

    here : length_of seller + count_by (is_of_seller seller) (take i changes) < number → (b : Bool) → is_of_seller seller c ≡ b → (same_name (at seller number) name || is_named old (at seller number)) ≡ true
    here beyond false other =
        let none : ◌≡◌ {A = ℕ} (cond (is_of_seller seller c) 1 0) 0 = ap (λ b. cond b 1 0) other in
        absurd (omega (arith, few, beyond, count, none))
    here beyond true own =
        let one : ◌≡◌ {A = ℕ} (cond (is_of_seller seller c) 1 0) 1 = ap (λ b. cond b 1 0) own in
        let same : c.line.key.seller ≡ seller = eqb-true c.line.key.seller seller own in
        let next : length_of seller + count_by (is_of_seller seller) (take i changes) + 1 ≡ number = omega (arith, few, beyond, count, one) in
        or_left (same_name (at seller number) name) (is_named old (at seller number))
        (ap (same_name (at seller number)) (told ∙ ap (λ s. at s (length_of s + count_by (is_of_seller s) (take i changes) + 1)) same ∙ ap (at seller) next) ∙ same_name-same (at seller number))

    by : (b : Bool) → nat_le number (length_of seller + count_by (is_of_seller seller) (take i changes)) ≡ b → (same_name (at seller number) name || is_named old (at seller number)) ≡ true
    by true e = or_right (same_name (at seller number) name) (was seller number above (leb-true number (length_of seller + count_by (is_of_seller seller) (take i changes)) e))
    by false e = here (leb-false number (length_of seller + count_by (is_of_seller seller) (take i changes)) e) (is_of_seller seller c) refl

-- and what was named still is
pub named-stay : (old new : List CellName) (name other : CellName) → ((other : CellName) → is_named new other ≡ (same_name other name || is_named old other)) → is_named old other ≡ true → is_named new other ≡ true
named-stay old new name other put was = put other ∙ or_right (same_name other name) was

-- what is named is of this table, or was named before
pub tables-next : (old new : List CellName) (name : CellName) (table : List ℕ) → name.table ≡ table → ((other : CellName) → is_named new other ≡ (same_name other name || is_named old other))
    → (start : List CellName) → ((other : CellName) → is_named old other ≡ true → (is_named start other ≡ true) ⊎ (other.table ≡ table))
    → (other : CellName) → is_named new other ≡ true → (is_named start other ≡ true) ⊎ (other.table ≡ table)
tables-next old new name table of put start was other here = by (same_name other name) refl (sym (put other) ∙ here)
  where
    by : (b : Bool) → same_name other name ≡ b → (b || is_named old other) ≡ true → (is_named start other ≡ true) ⊎ (other.table ≡ table)
    by true same e = inr (ap (λ (n : CellName). n.table) (same_name-true other name same) ∙ of)
    by false apart e = was other e
