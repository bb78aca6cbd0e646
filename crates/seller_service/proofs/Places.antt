-- The places of the sellers' cells: their names, and the cells as those of a list of places.
use Rattle.std.proofs.Common.{◌≡◌, ℕ, ◌+◌, ◌≤◌, zero, suc, Bool, true, false, ◌==◌, ◌&&◌, ◌||◌, List, [], ◌∷◌, ◌++◌, Option, Some, None, is_some, option_map, map, length, codes, refl, ap, ap₂, sym, subst, ◌∙◌, arith}
use Rattle.std.specs.Fmt.{decimal}
use Rattle.std.specs.List.{enumerate_from, flat_map, list_any, cons_option, slice_get}
use Rattle.std.proofs.lemmas.Bool.{and_parts, eqb-true, eq-eqb, or_left, or_right}
use Rattle.std.proofs.lemmas.List.Elements.{filter_map-append}
use Rattle.std.proofs.lemmas.List.Folds.{list_any-append}
use Rattle.market_amounts.specs.declared.keys.ProductKey.{ProductKey}
use Rattle.market_events.specs.declared.cells.CellName.{CellName}
use Rattle.market_events.specs.CellLists.{cells_by, key_cell}
use Rattle.market_events.specs.CellNames.{key_name}
use Rattle.market_events.specs.Formed.{key_formed}
use Rattle.market_events.specs.Cells.{with_value, entry_text, entry_number}
use Rattle.market_events.specs.Sellers.{SellerChange, entries_at, line_cost}
use Rattle.market_events.specs.Texts.{id_text, status_text}
use Rattle.market_events.proofs.Values.Formed.{key_decides}
use Rattle.market_events.proofs.NamedCells.Keyed.{IsNaming, HasAll, IsFilled, is_among, key_naming, said_at, joined_filled}
use Rattle.market_events.proofs.Values.Lists.{and_from}
use Rattle.seller_service.specs.declared.cells.Place.{Place}
use Rattle.seller_service.specs.declared.cells.Place.TheVariants as place
use Rattle.seller_service.specs.Cells.{numbered, place_name, at_number, change_text, text_at, cells_of_seller, IsSpelledPlace}

-- the seller of a place, and its number
abbrev pub seller_of : Place → ℕ
seller_of (place.Entry seller number) = seller
seller_of (place.Change seller number) = seller

abbrev pub same_place : Place → Place → Bool
same_place (place.Entry s n) (place.Entry t m) = (s == t) && (n == m)
same_place (place.Change s n) (place.Change t m) = (s == t) && (n == m)
same_place p q = false

same_place-true : (p q : Place) → same_place p q ≡ true → p ≡ q
same_place-true (place.Entry s n) (place.Entry t m) e =
    let both = and_parts (s == t) (n == m) e in λ i. place.Entry (eqb-true s t both.0 i) (eqb-true n m both.1 i)
same_place-true (place.Change s n) (place.Change t m) e =
    let both = and_parts (s == t) (n == m) e in λ i. place.Change (eqb-true s t both.0 i) (eqb-true n m both.1 i)
same_place-true (place.Entry s n) (place.Change t m) e = cc
same_place-true (place.Change s n) (place.Entry t m) e = cc

pub same_place-self : (p : Place) → same_place p p ≡ true
same_place-self (place.Entry s n) = and_from (s == s) (n == n) (eq-eqb s s refl) (eq-eqb n n refl)
same_place-self (place.Change s n) = and_from (s == s) (n == n) (eq-eqb s s refl) (eq-eqb n n refl)

-- the two tables have other names
apart : codes "entry" ≡ codes "change" → ⊥
apart e = five (ap (length {A = ℕ}) e)
  where
    five : ◌≡◌ {A = ℕ} 5 6 → ⊥
    five same = omega (arith, same)

place_exact : (p q : Place) → IsSpelledPlace p → IsSpelledPlace q → place_name p ≡ place_name q → p ≡ q
place_exact (place.Entry s n) (place.Entry t m) small tiny e =
    ap (λ (k : ProductKey). place.Entry k.seller k.product) ((key_naming (codes "entry")).exact (numbered s n) (numbered t m) small tiny e)
place_exact (place.Change s n) (place.Change t m) small tiny e =
    ap (λ (k : ProductKey). place.Change k.seller k.product) ((key_naming (codes "change")).exact (numbered s n) (numbered t m) small tiny e)
place_exact (place.Entry s n) (place.Change t m) small tiny e = absurd (apart (ap (λ (n : CellName). n.table) e))
place_exact (place.Change s n) (place.Entry t m) small tiny e = absurd (apart (sym (ap (λ (n : CellName). n.table) e)))

pub naming : IsNaming same_place place_name IsSpelledPlace
naming = record { is = same_place-true; itself = same_place-self; exact = place_exact }

-- the element with a number that is not 0
at_number-next : {A : Type 0} (xs : List A) (i : ℕ) → at_number xs (1 + i) ≡ slice_get xs i
at_number-next xs i = let e : 1 + i ≡ suc i = omega arith in ap (at_number xs) e

-- places in a row, with what is said of each
in_row : {A : Type 0} (text : Place → Option (List ℕ)) (at : ℕ → Place) (said : A → List ℕ) (n : ℕ) (xs : List A)
    → ((i : ℕ) (x : A) → slice_get xs i ≡ Some x → text (at (n + i)) ≡ Some (said x))
    → map (λ (p : ℕ × A). said_at (place_name (at p.0)) (said p.1)) (enumerate_from n xs) ≡ cells_by place_name text (map (λ (p : ℕ × A). at p.0) (enumerate_from n xs))
in_row text at said n [] are = refl
in_row {A = A} text at said n (x ∷ xs) are =
    ap (λ rest. said_at (place_name (at n)) (said x) ∷ rest) (in_row text at said (n + 1) xs (λ i y e. subst (λ k. text (at k) ≡ Some (said y)) (shift i) (are (suc i) y e)))
    ∙ sym (ap (λ (t : Option (List ℕ)). cons_option (with_value (place_name (at n)).table (place_name (at n)).key t) (cells_by place_name text (map (λ (p : ℕ × A). at p.0) (enumerate_from (n + 1) xs)))) here)
  where
    shift : (i : ℕ) → n + suc i ≡ (n + 1) + i
    shift i = omega arith

    here : text (at n) ≡ Some (said x)
    here = let e : n + 0 ≡ n = omega arith in subst (λ k. text (at k) ≡ Some (said x)) e (are 0 x refl)

-- the places of a seller with these changes
abbrev pub entry_places : ℕ → List SellerChange → List Place
entry_places seller entries = map (λ (p : ℕ × SellerChange). place.Entry seller p.0) (enumerate_from 1 entries)

abbrev pub change_places : ℕ → List SellerChange → List Place
change_places seller changes = map (λ (p : ℕ × SellerChange). place.Change seller p.0) (enumerate_from 1 changes)

abbrev pub places_of : ℕ → List SellerChange → List Place
places_of seller changes = entry_places seller (entries_at changes) ++ change_places seller changes

-- the cells of a seller are those of these places
cells_of-places : (changes : ℕ → List SellerChange) (seller : ℕ) → cells_of_seller seller (changes seller) ≡ cells_by place_name (text_at changes) (places_of seller (changes seller))
cells_of-places changes seller =
    ap₂ (λ a b. a ++ b)
    (in_row (text_at changes) (place.Entry seller) entry_text 1 (entries_at (changes seller)) (λ i x e. ap (option_map entry_text) (at_number-next (entries_at (changes seller)) i ∙ e)))
    (in_row (text_at changes) (place.Change seller) (change_text (entries_at (changes seller))) 1 (changes seller)
    (λ i x e. ap (option_map (change_text (entries_at (changes seller)))) (at_number-next (changes seller) i ∙ e)))
    ∙ sym (filter_map-append (key_cell place_name (text_at changes)) (entry_places seller (entries_at (changes seller))) (change_places seller (changes seller)))

-- the places of some sellers
abbrev pub places_in : (ℕ → List SellerChange) → List ℕ → List Place
places_in changes sellers = flat_map (λ seller. places_of seller (changes seller)) sellers

pub cells-places : (changes : ℕ → List SellerChange) (sellers : List ℕ) → flat_map (λ seller. cells_of_seller seller (changes seller)) sellers ≡ cells_by place_name (text_at changes) (places_in changes sellers)
cells-places changes [] = refl
cells-places changes (s ∷ sellers) =
    ap₂ (λ a b. a ++ b) (cells_of-places changes s) (cells-places changes sellers)
    ∙ sym (filter_map-append (key_cell place_name (text_at changes)) (places_of s (changes s)) (places_in changes sellers))

-- a number at which there is an element is in the row
row_has : {A : Type 0} (at : ℕ → Place) (n : ℕ) (xs : List A) (i : ℕ) → is_some (slice_get xs i) ≡ true → is_among same_place (map (λ (p : ℕ × A). at p.0) (enumerate_from n xs)) (at (n + i)) ≡ true
row_has at n [] i some = cc
row_has {A = A} at n (x ∷ xs) zero some =
    or_left (same_place (at (n + 0)) (at n)) (is_among same_place (map (λ (p : ℕ × A). at p.0) (enumerate_from (n + 1) xs)) (at (n + 0))) (let e : n + 0 ≡ n = omega arith in ap (λ k. same_place (at k) (at n)) e ∙ same_place-self (at n))
row_has {A = A} at n (x ∷ xs) (suc i) some =
    or_right (same_place (at (n + suc i)) (at n)) (is_among same_place (map (λ (p : ℕ × A). at p.0) (enumerate_from (n + 1) xs)) (at (n + suc i)))
    (let e : n + suc i ≡ (n + 1) + i = omega arith in ap (λ k. is_among same_place (map (λ (p : ℕ × A). at p.0) (enumerate_from (n + 1) xs)) (at k)) e ∙ row_has at (n + 1) xs i some)

-- and so is a number that has an element, from 1
numbers_have : {A : Type 0} (at : ℕ → Place) (xs : List A) (number : ℕ) → is_some (at_number xs number) ≡ true → is_among same_place (map (λ (p : ℕ × A). at p.0) (enumerate_from 1 xs)) (at number) ≡ true
numbers_have at xs zero some = cc
numbers_have {A = A} at xs (suc i) some = let e : suc i ≡ 1 + i = omega arith in ap (λ k. is_among same_place (map (λ (p : ℕ × A). at p.0) (enumerate_from 1 xs)) (at k)) e ∙ row_has at 1 xs i some

-- what is said of something stands there
pub some_from : {A B : Type 0} (f : A → B) (o : Option A) → is_some (option_map f o) ≡ true → is_some o ≡ true
some_from f None some = some
some_from f (Some x) some = refl

-- the places of a seller have each place of which something is said
pub places_have : (changes : ℕ → List SellerChange) (p : Place) → is_some (text_at changes p) ≡ true → is_among same_place (places_of (seller_of p) (changes (seller_of p))) p ≡ true
places_have changes (place.Entry s n) some =
    list_any-append (λ d. same_place (place.Entry s n) d) (entry_places s (entries_at (changes s))) (change_places s (changes s))
    ∙ or_left (is_among same_place (entry_places s (entries_at (changes s))) (place.Entry s n)) (is_among same_place (change_places s (changes s)) (place.Entry s n))
    (numbers_have (place.Entry s) (entries_at (changes s)) n (some_from entry_text (at_number (entries_at (changes s)) n) some))
places_have changes (place.Change s n) some =
    list_any-append (λ d. same_place (place.Change s n) d) (entry_places s (entries_at (changes s))) (change_places s (changes s))
    ∙ or_right (is_among same_place (entry_places s (entries_at (changes s))) (place.Change s n)) (is_among same_place (change_places s (changes s)) (place.Change s n))
    (numbers_have (place.Change s) (changes s) n (some_from (change_text (entries_at (changes s))) (at_number (changes s) n) some))

-- nothing is said of places of a seller without changes
at_none : {A : Type 0} (n : ℕ) → at_number {A = A} [] n ≡ None
at_none zero = refl
at_none (suc n) = refl

pub text_none : (changes : ℕ → List SellerChange) (p : Place) → changes (seller_of p) ≡ [] → text_at changes p ≡ None
text_none changes (place.Entry s n) none = ap (λ cs. option_map entry_text (at_number (entries_at cs) n)) none ∙ ap (option_map entry_text) (at_none n)
text_none changes (place.Change s n) none = ap (λ cs. option_map (change_text (entries_at cs)) (at_number cs n)) none ∙ ap (option_map (change_text [])) (at_none n)

-- the places of sellers, where each other one has no changes
pub all_places : (changes : ℕ → List SellerChange) (sellers : List ℕ) → ((seller : ℕ) → list_any (λ s. seller == s) sellers ≡ false → changes seller ≡ []) → HasAll same_place (text_at changes) (places_in changes sellers)
all_places changes sellers others p some = by (list_any (λ s. seller_of p == s) sellers) refl
  where
    within : (ss : List ℕ) → list_any (λ s. seller_of p == s) ss ≡ true → is_among same_place (places_in changes ss) p ≡ true
    within [] any = cc
    within (s ∷ ss) any =
        list_any-append (λ d. same_place p d) (places_of s (changes s)) (places_in changes ss) ∙ at (seller_of p == s) refl any (within ss)
      where
        at : (b : Bool) → (seller_of p == s) ≡ b → ((seller_of p == s) || list_any (λ s. seller_of p == s) ss) ≡ true → (list_any (λ s. seller_of p == s) ss ≡ true → is_among same_place (places_in changes ss) p ≡ true)
            → (is_among same_place (places_of s (changes s)) p || is_among same_place (places_in changes ss) p) ≡ true
        at true here any rest =
            or_left (is_among same_place (places_of s (changes s)) p) (is_among same_place (places_in changes ss) p)
            (subst (λ s. is_among same_place (places_of s (changes s)) p ≡ true) (eqb-true (seller_of p) s here) (places_have changes p some))
        at false other any rest =
            or_right (is_among same_place (places_of s (changes s)) p) (is_among same_place (places_in changes ss) p) (rest (sym (ap (λ b. b || list_any (λ s. seller_of p == s) ss) other) ∙ any))

    by : (b : Bool) → list_any (λ s. seller_of p == s) sellers ≡ b → is_among same_place (places_in changes sellers) p ≡ true
    by true any = within sellers any
    by false none = let gone : false ≡ true = sym (ap is_some (text_none changes p (others (seller_of p) none))) ∙ some in cc

-- a number with an element is no more than there are
pub at_few : {A : Type 0} (xs : List A) (n : ℕ) → is_some (at_number xs n) ≡ true → n ≤ length xs
at_few xs zero some = omega arith
at_few xs (suc i) some = each xs i some
  where
    each : {A : Type 0} (xs : List A) (i : ℕ) → is_some (slice_get xs i) ≡ true → suc i ≤ length xs
    each [] i some = cc
    each (x ∷ xs) zero some = omega arith
    each (x ∷ xs) (suc i) some = let rest = each xs i some in omega arith

-- a text is not empty
pub text_filled : (changes : ℕ → List SellerChange) (p : Place) → IsFilled (text_at changes p)
text_filled changes (place.Entry s n) = by (at_number (entries_at (changes s)) n)
  where
    by : (o : Option SellerChange) → IsFilled (option_map entry_text o)
    by None = tt
    by (Some e) = joined_filled 58 (id_text e.checkout) (decimal e.line.key.product) (decimal e.line.quantity ∷ decimal (line_cost e.line) ∷ [])
text_filled changes (place.Change s n) = by (at_number (changes s) n)
  where
    by : (o : Option SellerChange) → IsFilled (option_map (change_text (entries_at (changes s))) o)
    by None = tt
    by (Some c) = joined_filled 32 (decimal (entry_number (entries_at (changes s)) c)) (status_text c.status) []

-- a name that no key in either table has
pub unplaced : (name : CellName) → ((key : ProductKey) → key_formed key ≡ true → name ≡ key_name (codes "entry") key → ⊥) → ((key : ProductKey) → key_formed key ≡ true → name ≡ key_name (codes "change") key → ⊥)
    → (p : Place) → IsSpelledPlace p → name ≡ place_name p → ⊥
unplaced name entry change (place.Entry s n) small is = entry (numbered s n) ((key_decides (numbered s n)).1 small) is
unplaced name entry change (place.Change s n) small is = change (numbered s n) ((key_decides (numbered s n)).1 small) is

-- the place of a name is the one that was found
pub placed_entry : (name : CellName) (key : ProductKey) → key_formed key ≡ true → name ≡ key_name (codes "entry") key → (p : Place) → IsSpelledPlace p → name ≡ place_name p → place.Entry key.seller key.product ≡ p
placed_entry name key formed found p small is = place_exact (place.Entry key.seller key.product) p ((key_decides key).0 formed) small (sym found ∙ is)

pub placed_change : (name : CellName) (key : ProductKey) → key_formed key ≡ true → name ≡ key_name (codes "change") key → (p : Place) → IsSpelledPlace p → name ≡ place_name p → place.Change key.seller key.product ≡ p
placed_change name key formed found p small is = place_exact (place.Change key.seller key.product) p ((key_decides key).0 formed) small (sym found ∙ is)
