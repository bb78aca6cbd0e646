-- Cells by name: what stands at each name of the cells of a list, and when two lists have the same cells.
use Rattle.std.proofs.Common.{◌≡◌, ℕ, Bool, true, false, cond, T, List, [], ◌∷◌, map, Option, Some, None, is_some, unwrap_or, if◌then◌else◌, ◌||◌, refl, ap, sym, ◌∙◌}
use Rattle.std.specs.Cmp.{IsTotalOrder, then_total, on_total}
use Rattle.std.specs.Cmp.Lexicographic.{slice_cmp, lists_total}
use Rattle.std.specs.FinMap.Entries as entries
use Rattle.std.specs.FinMap.Entries.{by_order}
use Rattle.std.specs.List.{fold}
use Rattle.std.specs.BTreeMap.{insert_entry}
use Rattle.std.specs.Option.{option_or}
use Rattle.std.specs.Ordering.{nat_cmp, ordering_then, is_eq, match_ordering}
use Rattle.std.specs.declared.cmp.Ordering.{Ordering}
use Rattle.std.specs.declared.cmp.Ordering.TheVariants.{Less, Equal, Greater}
use Rattle.std.proofs.lemmas.Cmp.{nat_cmp_total, tied_itself}
use Rattle.std.proofs.lemmas.Map.Lookups.{exact_bytes}
use Rattle.market_events.specs.declared.cells.Cell.{Cell}
use Rattle.market_events.specs.declared.cells.CellName.{CellName}
use Rattle.market_events.specs.Cells.{text_cmp, name_cmp, cells_listed, cells_of, all_cells}
use Rattle.market_events.specs.Copies.{last_some}
use Rattle.market_events.specs.Services.{Role}
use Rattle.market_events.specs.Standing.{same_name, has_cell, value_of}
use Rattle.market_events.specs.Steps.{Step}

-- names are ordered by their bytes, and names that compare alike are the same
text_cmp_total : IsTotalOrder (slice_cmp nat_cmp)
text_cmp_total = lists_total nat_cmp_total

pub name_cmp_total : IsTotalOrder name_cmp
name_cmp_total = then_total (on_total (λ (n : CellName). n.table) text_cmp_total) (on_total (λ (n : CellName). n.key) text_cmp_total)

pub name_exact : (a b : CellName) → name_cmp a b ≡ Equal → a ≡ b
name_exact a b e =
    let both = parts (text_cmp a.table b.table) (text_cmp a.key b.key) e in
    same (exact_bytes a.table b.table both.0) (exact_bytes a.key b.key both.1)
  where
    parts : (x y : Ordering) → ordering_then x y ≡ Equal → (x ≡ Equal) × (y ≡ Equal)
    parts Less y e = cc
    parts Equal y e = (refl, e)
    parts Greater y e = cc

    name : List ℕ → List ℕ → CellName
    name t k = record { table = t; key = k }

    same : {s t k l : List ℕ} → s ≡ t → k ≡ l → name s k ≡ name t l
    same e f = cc

pub same_name-true : (a b : CellName) → same_name a b ≡ true → a ≡ b
same_name-true a b h = name_exact a b (equal (name_cmp a b) h)
  where
    equal : (o : Ordering) → is_eq o ≡ true → o ≡ Equal
    equal Less h = cc
    equal Equal h = refl
    equal Greater h = cc

pub same_name-same : (a : CellName) → same_name a a ≡ true
same_name-same a = ap is_eq (tied_itself name_cmp_total a)

-- the cells as entries
abbrev pub put_cell : List (CellName × List ℕ) → Cell → List (CellName × List ℕ)
put_cell es c = entries.put name_cmp c.name c.value es

abbrev pub entries_of : List Cell → List (CellName × List ℕ)
entries_of all = fold put_cell [] all

abbrev pub cell_at : CellName × List ℕ → Cell
cell_at e = record { name = e.0; value = e.1 }

-- an entry is put where a map inserts it
pub put-insert_entry : (es : List (CellName × List ℕ)) (k : CellName) (v : List ℕ) → entries.put name_cmp k v es ≡ insert_entry name_cmp es k v
put-insert_entry [] k v = refl
put-insert_entry (e ∷ es) k v = by (name_cmp k e.0) ∙ ap (λ rest. match_ordering (name_cmp k e.0) ((k, v) ∷ e ∷ es) ((e.0, v) ∷ es) (e ∷ rest)) (put-insert_entry es k v)
  where
    by : (o : Ordering) → by_order o ((k, v) ∷ e ∷ es) ((e.0, v) ∷ es) (e ∷ entries.put name_cmp k v es)
        ≡ match_ordering o ((k, v) ∷ e ∷ es) ((e.0, v) ∷ es) (e ∷ entries.put name_cmp k v es)
    by Less = refl
    by Equal = refl
    by Greater = refl

-- the value of a cell, where it has the name
abbrev pub value_at : CellName → Cell → Option (List ℕ)
value_at name c = if same_name name c.name then Some c.value else None

-- what is found at a name is the last value of it
found_from : (name : CellName) (all : List Cell) (es : List (CellName × List ℕ))
    → entries.find name_cmp name (fold put_cell es all) ≡ option_or (last_some (value_at name) all) (entries.find name_cmp name es)
found_from name [] es = refl
found_from name (c ∷ more) es =
    found_from name more (put_cell es c)
    ∙ ap (λ (o : Option (List ℕ)). option_or (last_some (value_at name) more) o) (entries.find-put name_cmp name_cmp_total name c.name c.value es)
    ∙ either (last_some (value_at name) more) (same_name name c.name) (entries.find name_cmp name es)
  where
    either : (o : Option (List ℕ)) (b : Bool) (was : Option (List ℕ)) → option_or o (cond b (Some c.value) was) ≡ option_or (option_or o (cond b (Some c.value) None)) was
    either None true was = refl
    either None false was = refl
    either (Some v) true was = refl
    either (Some v) false was = refl

pub found : (name : CellName) (all : List Cell) → entries.find name_cmp name (entries_of all) ≡ last_some (value_at name) all
found name all = found_from name all [] ∙ or_none (last_some (value_at name) all)
  where
    or_none : (o : Option (List ℕ)) → option_or o None ≡ o
    or_none None = refl
    or_none (Some v) = refl

-- the entries rise
sorted_from : (all : List Cell) (es : List (CellName × List ℕ)) → T (entries.is_sorted name_cmp es) → T (entries.is_sorted name_cmp (fold put_cell es all))
sorted_from [] es sorted = sorted
sorted_from (c ∷ more) es sorted = sorted_from more (put_cell es c) (entries.is_sorted-put name_cmp name_cmp_total c.name c.value es sorted)

-- lists that have the same last value at each name have the same cells
pub same_cells : (all others : List Cell) → ((name : CellName) → last_some (value_at name) all ≡ last_some (value_at name) others) → cells_listed all ≡ cells_listed others
same_cells all others same =
    ap (map cell_at)
    (entries.same_entries name_cmp name_cmp_total name_exact (entries_of all) (entries_of others) (sorted_from all [] tt) (sorted_from others [] tt)
    (λ name. found name all ∙ same name ∙ sym (found name others)))

-- the value of a name, and whether there is a cell of it
value_of-map : (name : CellName) (es : List (CellName × List ℕ)) → value_of (map cell_at es) name ≡ unwrap_or (entries.find name_cmp name es) []
value_of-map name [] = refl
value_of-map name (e ∷ es) = ap (λ v. cond (same_name name e.0) e.1 v) (value_of-map name es) ∙ either (same_name name e.0) (entries.find name_cmp name es)
  where
    either : (b : Bool) (o : Option (List ℕ)) → cond b e.1 (unwrap_or o []) ≡ unwrap_or (cond b (Some e.1) o) []
    either true o = refl
    either false o = refl

pub value_of-listed : (all : List Cell) (name : CellName) → value_of (cells_listed all) name ≡ unwrap_or (last_some (value_at name) all) []
value_of-listed all name = value_of-map name (entries_of all) ∙ ap (λ (o : Option (List ℕ)). unwrap_or o []) (found name all)

has_cell-map : (name : CellName) (es : List (CellName × List ℕ)) → has_cell (map cell_at es) name ≡ is_some (entries.find name_cmp name es)
has_cell-map name [] = refl
has_cell-map name (e ∷ es) = ap (λ b. same_name name e.0 || b) (has_cell-map name es) ∙ either (same_name name e.0) (entries.find name_cmp name es)
  where
    either : (b : Bool) (o : Option (List ℕ)) → (b || is_some o) ≡ is_some (cond b (Some e.1) o)
    either true o = refl
    either false o = refl

pub has_cell-listed : (all : List Cell) (name : CellName) → has_cell (cells_listed all) name ≡ is_some (last_some (value_at name) all)
has_cell-listed all name = has_cell-map name (entries_of all) ∙ ap is_some (found name all)

-- the cells of a service are those of its list
pub cells_of-listed : (role : Role) (steps : List Step) → cells_of role steps ≡ cells_listed (all_cells role steps)
unfolding cells_of
cells_of-listed role steps = refl
