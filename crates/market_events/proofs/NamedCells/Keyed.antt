-- The cells of a table by its keys: what stands at each name, and when two tables have the same cells.
use Rattle.std.proofs.Common.{◌≡◌, ℕ, Bool, true, false, cond, ◌==◌, ◌&&◌, ◌||◌, List, [], ◌∷◌, ◌++◌, map, filter_map, Option, Some, None, is_some, unwrap_or, if◌then◌else◌, refl, ap, ap₂, sym, subst, ◌∙◌, Result, Ok, Err, IfOk, ◌↔◌}
use Rattle.std.specs.List.{cons_option, list_any, AllByRecursion, IsDistinct, join_with_byte}
use Rattle.std.specs.Option.{option_or}
use Rattle.std.proofs.lemmas.Bool.{and_parts, eqb-true, eq-eqb, false_from_ne_true, both_ways, or_parts, or_from, or_left, or_right}
use Rattle.std.proofs.lemmas.List.Sums.{fold-append}
use Rattle.market_amounts.specs.declared.keys.ProductKey.{ProductKey}
use Rattle.market_events.specs.declared.cells.Cell.{Cell}
use Rattle.market_events.specs.declared.cells.CellName.{CellName}
use Rattle.market_events.specs.CellLists.{put_cell, put_all, put_some, put_each, entry_cells_of, key_cell, cells_by, Within}
use Rattle.market_events.specs.CellNames.{number_name, key_name, id_name, basket_name}
use Rattle.market_events.specs.Cells.{cells_of, all_cells, with_value}
use Rattle.market_events.specs.Copies.{last_some}
use Rattle.market_events.specs.Requests.{same_key, same_id}
use Rattle.market_events.specs.Services.{Role}
use Rattle.market_events.specs.Standing.{same_name, is_named, has_cell, value_of}
use Rattle.market_events.specs.Steps.{Step}
use Rattle.market_events.specs.WellFormed.{IsId, IsKey, IsRequestId}
use Rattle.market_events.proofs.NamedCells.Named.{value_at, same_cells, value_of-listed, has_cell-listed, cells_of-listed, same_name-true, same_name-same}
use Rattle.market_events.proofs.NamedCells.Spelled.{key_of_word, one_key, basket_word, IsBasketKey}
use Rattle.market_events.proofs.Values.Lists.{and_from}
use Rattle.market_events.proofs.Values.Same.{same_key-true, same_key-self, same_id-true, same_id-self}
use Rattle.market_words.proofs.WordNames.{id_word, key_word}
use Rattle.market_words.proofs.WordNumbers.{number_id_word}

-- the keys that are small have names of their own, and a test tells keys apart
pub record IsNaming {K : Type 0} (same : K → K → Bool) (name : K → CellName) (IsSmall : K → Type 0) : Type 0 where
  pub is : (k l : K) → same k l ≡ true → k ≡ l
  pub itself : (k : K) → same k k ≡ true
  pub exact : (k l : K) → IsSmall k → IsSmall l → name k ≡ name l → k ≡ l

-- a key is among these
abbrev pub is_among : {K : Type 0} → (K → K → Bool) → List K → K → Bool
is_among same keys k = list_any (λ d. same k d) keys

-- each key that has a text is among these
abbrev pub HasAll : {K : Type 0} → (K → K → Bool) → (K → Option (List ℕ)) → List K → Type 0
HasAll {K = K} same text keys = (k : K) → is_some (text k) ≡ true → is_among same keys k ≡ true

-- the name is that of a key with a text
pub record IsNamed {K : Type 0} (name : K → CellName) (text : K → Option (List ℕ)) (at : CellName) : Type 0 where
  pub key : K
  pub is : at ≡ name key
  pub some : is_some (text key) ≡ true

-- a value of the cell of a key
value_here : (at name : CellName) (o : Option (List ℕ)) (rest : List Cell)
    → last_some (value_at at) (cons_option (with_value name.table name.key o) rest) ≡ option_or (last_some (value_at at) rest) (cond (same_name at name) o None)
value_here at name None rest = by (same_name at name) (last_some (value_at at) rest)
  where
    by : (b : Bool) (o : Option (List ℕ)) → o ≡ option_or o (cond b None None)
    by true None = refl
    by true (Some v) = refl
    by false None = refl
    by false (Some v) = refl
value_here at name (Some v) rest = refl

module _ {K : Type 0} {same : K → K → Bool} {name : K → CellName} {IsSmall : K → Type 0} (law : IsNaming same name IsSmall) where
  -- names are the same where keys are
  pub same_name-by : (k l : K) → IsSmall k → IsSmall l → same_name (name k) (name l) ≡ same k l
  same_name-by k l small tiny = by (same k l) refl
    where
      by : (b : Bool) → same k l ≡ b → same_name (name k) (name l) ≡ b
      by true e = ap (λ n. same_name (name k) (name n)) (sym (law.is k l e)) ∙ same_name-same (name k)
      by false e = false_from_ne_true _ (λ alike.
          both_ways (same k l) e (ap (same k) (sym (law.exact k l small tiny (same_name-true (name k) (name l) alike))) ∙ law.itself k))

  -- what stands at the name of a key
  last_at : (text : K → Option (List ℕ)) → Within IsSmall text → (keys : List K) (k : K) → IsSmall k
      → last_some (value_at (name k)) (cells_by name text keys) ≡ (if is_among same keys k then text k else None)
  last_at text within [] k small = refl
  last_at text within (d ∷ more) k small =
      value_here (name k) (name d) (text d) (cells_by name text more)
      ∙ ap (λ (o : Option (List ℕ)). option_or o (cond (same_name (name k) (name d)) (text d) None)) (last_at text within more k small)
      ∙ ap (option_or (if is_among same more k then text k else None)) (here (text d) refl)
      ∙ join (is_among same more k) (same k d) (text k)
    where
      -- at another key, or one without a text, nothing stands
      here : (o : Option (List ℕ)) → text d ≡ o → cond (same_name (name k) (name d)) (text d) None ≡ (if same k d then text k else None)
      here None gone =
          ap (λ (o : Option (List ℕ)). cond (same_name (name k) (name d)) o None) gone ∙ nothing (same_name (name k) (name d)) ∙ sym (none (same k d) refl)
        where
          nothing : (b : Bool) → cond {A = Option (List ℕ)} b None None ≡ None
          nothing true = refl
          nothing false = refl

          none : (b : Bool) → same k d ≡ b → (if b then text k else None) ≡ None
          none true e = ap text (law.is k d e) ∙ gone
          none false e = refl
      here (Some v) some =
          ap (λ b. cond b (text d) None) (same_name-by k d small (within d (ap is_some some))) ∙ alike (same k d) refl
        where
          alike : (b : Bool) → same k d ≡ b → cond b (text d) None ≡ (if b then text k else None)
          alike true e = ap text (sym (law.is k d e))
          alike false e = refl

      join : (m b : Bool) (t : Option (List ℕ)) → option_or (if m then t else None) (if b then t else None) ≡ (if b || m then t else None)
      join true true None = refl
      join true true (Some v) = refl
      join true false None = refl
      join true false (Some v) = refl
      join false true t = refl
      join false false t = refl

  pub at_key : (text : K → Option (List ℕ)) → Within IsSmall text → (keys : List K) → HasAll same text keys → (k : K) → IsSmall k
      → last_some (value_at (name k)) (cells_by name text keys) ≡ text k
  at_key text within keys all k small = last_at text within keys k small ∙ by (text k) refl
    where
      by : (o : Option (List ℕ)) → text k ≡ o → (if is_among same keys k then text k else None) ≡ text k
      by None gone = ap (λ (o : Option (List ℕ)). if is_among same keys k then o else None) gone ∙ nothing (is_among same keys k) ∙ sym gone
        where
          nothing : (b : Bool) → cond {A = Option (List ℕ)} b None None ≡ None
          nothing true = refl
          nothing false = refl
      by (Some v) some = ap (λ b. cond b (text k) None) (all k (ap is_some some))

  pub at_name : (text : K → Option (List ℕ)) → Within IsSmall text → (keys : List K) → HasAll same text keys → (at : CellName) (k : K) → IsSmall k → at ≡ name k
      → last_some (value_at at) (cells_by name text keys) ≡ text k
  at_name text within keys all at k small is = ap (λ n. last_some (value_at n) (cells_by name text keys)) is ∙ at_key text within keys all k small

-- a name at which a cell stands is that of a key with a text
pub named_at : {K : Type 0} (name : K → CellName) (text : K → Option (List ℕ)) (keys : List K) (at : CellName) (v : List ℕ)
    → last_some (value_at at) (cells_by name text keys) ≡ Some v → IsNamed name text at
named_at name text [] at v e = cc
named_at name text (d ∷ more) at v e =
    by (λ w. named_at name text more at w) (last_some (value_at at) (cells_by name text more)) refl (same_name at (name d)) refl (text d) refl
    (sym (value_here at (name d) (text d) (cells_by name text more)) ∙ e)
  where
    by : ((w : List ℕ) → last_some (value_at at) (cells_by name text more) ≡ Some w → IsNamed name text at)
        → (o : Option (List ℕ)) → last_some (value_at at) (cells_by name text more) ≡ o → (b : Bool) → same_name at (name d) ≡ b → (t : Option (List ℕ)) → text d ≡ t
        → option_or (last_some (value_at at) (cells_by name text more)) (cond (same_name at (name d)) (text d) None) ≡ Some v → IsNamed name text at
    by rest (Some w) later b test t is e = rest w later
    by rest None later true test (Some w) is e = record { key = d; is = same_name-true at (name d) test; some = ap is_some is }
    by rest None later true test None is e = let gone : option_or None (cond true None None) ≡ Some v = sym (ap₂ option_or later (ap₂ (λ b (t : Option (List ℕ)). cond b t None) test is)) ∙ e in cc
    by rest None later false test t is e = let gone : option_or None None ≡ Some v = sym (ap₂ option_or later (ap (λ b. cond b (text d) None) test)) ∙ e in cc

module _ {K : Type 0} {same : K → K → Bool} {name : K → CellName} {IsSmall : K → Type 0} (law : IsNaming same name IsSmall) where
  -- a name that no small key has
  pub at_none : (text : K → Option (List ℕ)) → Within IsSmall text → (keys : List K) (at : CellName) → ((k : K) → IsSmall k → at ≡ name k → ⊥)
      → last_some (value_at at) (cells_by name text keys) ≡ None
  at_none text within keys at other = by (last_some (value_at at) (cells_by name text keys)) refl
    where
      by : (o : Option (List ℕ)) → last_some (value_at at) (cells_by name text keys) ≡ o → last_some (value_at at) (cells_by name text keys) ≡ None
      by None e = e
      by (Some v) e = let n = named_at name text keys at v e in absurd (other n.key (within n.key n.some) n.is)

  -- a name at which two tables have the same texts
  pub alike : (text other : K → Option (List ℕ)) → Within IsSmall text → Within IsSmall other → (keys others : List K) → HasAll same text keys → HasAll same other others
      → (at : CellName) → ((k : K) → IsSmall k → at ≡ name k → text k ≡ other k)
      → last_some (value_at at) (cells_by name text keys) ≡ last_some (value_at at) (cells_by name other others)
  alike text other within inside keys others all every at agree =
      by (last_some (value_at at) (cells_by name text keys)) refl (last_some (value_at at) (cells_by name other others)) refl
    where
      at_small : (k : K) → IsSmall k → at ≡ name k → last_some (value_at at) (cells_by name text keys) ≡ last_some (value_at at) (cells_by name other others)
      at_small k small is =
          ap (λ n. last_some (value_at n) (cells_by name text keys)) is ∙ at_key law text within keys all k small ∙ agree k small is
          ∙ sym (ap (λ n. last_some (value_at n) (cells_by name other others)) is ∙ at_key law other inside others every k small)

      by : (o : Option (List ℕ)) → last_some (value_at at) (cells_by name text keys) ≡ o → (p : Option (List ℕ)) → last_some (value_at at) (cells_by name other others) ≡ p
          → last_some (value_at at) (cells_by name text keys) ≡ last_some (value_at at) (cells_by name other others)
      by None e None d = e ∙ sym d
      by (Some v) e p d = let n = named_at name text keys at v e in at_small n.key (within n.key n.some) n.is
      by None e (Some v) d = let n = named_at name other others at v d in at_small n.key (inside n.key n.some) n.is

  -- a key that is not among these has a name that is not among theirs, and the other way
  pub named_list : (keys : List K) (k : K) → is_named (map name keys) (name k) ≡ false → is_among same keys k ≡ false
  named_list [] k other = refl
  named_list (d ∷ more) k other =
      let parts = or_parts (same_name (name k) (name d)) (is_named (map name more) (name k)) other in
      or_from (same k d) (is_among same more k)
      (false_from_ne_true (same k d) (λ here. both_ways _ parts.0 (ap (λ n. same_name (name n) (name d)) (law.is k d here) ∙ same_name-same (name d))))
      (named_list more k parts.1)

  -- what holds of each key that is among these
  pub each_among : (P : K → Type 0) (keys : List K) → ((k : K) → is_among same keys k ≡ true → P k) → AllByRecursion P keys
  each_among P [] all = tt
  each_among P (k ∷ more) all = (all k (or_left (same k k) (is_among same more k) (law.itself k)), each_among P more (λ l among. all l (or_right (same l k) (is_among same more l) among)))

  -- names of keys that differ are apart
  names_apart : (k : K) → IsSmall k → (others : List K) → AllByRecursion (λ d. same k d ≡ false) others → AllByRecursion IsSmall others
      → AllByRecursion (λ n. same_name (name k) n ≡ false) (map name others)
  names_apart k small [] apart all = tt
  names_apart k small (d ∷ more) apart all = (same_name-by law k d small all.0 ∙ apart.0, names_apart k small more apart.1 all.1)

  pub names_distinct : (keys : List K) → IsDistinct same keys → AllByRecursion IsSmall keys → IsDistinct same_name (map name keys)
  unfolding IsDistinct
  names_distinct [] differ all = tt
  names_distinct (k ∷ more) differ all = (names_apart k all.0 more differ.0 all.1, names_distinct more differ.1 all.1)

-- texts that are the same make the same cells
pub cells_by-same : {K : Type 0} (name : K → CellName) (text other : K → Option (List ℕ)) → ((k : K) → text k ≡ other k) → (keys : List K)
    → cells_by name text keys ≡ cells_by name other keys
cells_by-same name text other agree [] = refl
cells_by-same name text other agree (k ∷ more) =
    ap₂ (λ (t : Option (List ℕ)) rest. cons_option (with_value (name k).table (name k).key t) rest) (agree k) (cells_by-same name text other agree more)

-- a list of cells, each by its key, where it has one
abbrev pub cell_of_key : {K : Type 0} → (K → CellName) → (K → Option (List ℕ)) → Option K → Option Cell
cell_of_key name text None = None
cell_of_key name text (Some k) = key_cell name text k

pub cells_by-each : {A K : Type 0} (name : K → CellName) (text : K → Option (List ℕ)) (f : A → Option Cell) (key : A → Option K)
    → ((x : A) → f x ≡ cell_of_key name text (key x)) → (xs : List A) → filter_map f xs ≡ cells_by name text (filter_map key xs)
cells_by-each name text f key each [] = refl
cells_by-each {A = A} {K = K} name text f key each (x ∷ xs) = ap₂ cons_option (each x) (cells_by-each name text f key each xs) ∙ by (key x)
  where
    by : (o : Option K) → cons_option (cell_of_key name text o) (cells_by name text (filter_map key xs)) ≡ cells_by name text (cons_option o (filter_map key xs))
    by None = refl
    by (Some k) = refl

-- cells of keys that all have a text
abbrev pub said_at : CellName → List ℕ → Cell
said_at name value = record { name = name; value = value }

pub cells_by-map : {K : Type 0} (name : K → CellName) (text : K → Option (List ℕ)) (said : K → List ℕ) (keys : List K)
    → AllByRecursion (λ k. text k ≡ Some (said k)) keys → map (λ k. said_at (name k) (said k)) keys ≡ cells_by name text keys
cells_by-map name text said [] all = refl
cells_by-map name text said (k ∷ more) all =
    ap (λ rest. said_at (name k) (said k) ∷ rest) (cells_by-map name text said more all.1)
    ∙ sym (ap (λ (t : Option (List ℕ)). cons_option (with_value (name k).table (name k).key t) (cells_by name text more)) all.0)

-- the cells of one table behind those of another one
pub last_some-append : {A B : Type 0} (f : A → Option B) (xs ys : List A) → last_some f (xs ++ ys) ≡ option_or (last_some f ys) (last_some f xs)
last_some-append f [] ys = or_none (last_some f ys)
  where
    or_none : {B : Type 0} (o : Option B) → o ≡ option_or o None
    or_none None = refl
    or_none (Some y) = refl
last_some-append f (x ∷ xs) ys = ap (λ o. option_or o (f x)) (last_some-append f xs ys) ∙ or_assoc (last_some f ys) (last_some f xs) (f x)
  where
    or_assoc : {B : Type 0} (a b c : Option B) → option_or (option_or a b) c ≡ option_or a (option_or b c)
    or_assoc None b c = refl
    or_assoc (Some z) b c = refl

-- putting the cells of each key
pub put_each-all : {A : Type 0} (cell_of : A → Option Cell) (es : List (CellName × List ℕ)) (xs : List A) → put_each cell_of es xs ≡ put_all es (filter_map cell_of xs)
put_each-all cell_of es [] = refl
put_each-all cell_of es (x ∷ more) = put_each-all cell_of (put_some es (cell_of x)) more ∙ by (cell_of x)
  where
    by : (o : Option Cell) → put_all (put_some es o) (filter_map cell_of more) ≡ put_all es (cons_option o (filter_map cell_of more))
    by None = refl
    by (Some c) = refl

pub put_all-append : (es : List (CellName × List ℕ)) (a b : List Cell) → put_all (put_all es a) b ≡ put_all es (a ++ b)
put_all-append es a b = sym (fold-append put_cell es a b)

-- entries that all cells were put into, one after the other, are the cells of the service
pub entries_told : (role : Role) (steps : List Step) (es : List (CellName × List ℕ)) (all : List Cell) → es ≡ put_all [] all
    → ((name : CellName) → last_some (value_at name) all ≡ last_some (value_at name) (all_cells role steps)) → entry_cells_of es ≡ cells_of role steps
entries_told role steps es all put same =
    ap entry_cells_of put ∙ same_cells all (all_cells role steps) same ∙ sym (cells_of-listed role steps)

-- the value of a service's cell, and whether there is one
pub value_of-cells : (role : Role) (steps : List Step) (name : CellName) → value_of (cells_of role steps) name ≡ unwrap_or (last_some (value_at name) (all_cells role steps)) []
value_of-cells role steps name = ap (λ cells. value_of cells name) (cells_of-listed role steps) ∙ value_of-listed (all_cells role steps) name

pub has_cell-cells : (role : Role) (steps : List Step) (name : CellName) → has_cell (cells_of role steps) name ≡ is_some (last_some (value_at name) (all_cells role steps))
has_cell-cells role steps name = ap (λ cells. has_cell cells name) (cells_of-listed role steps) ∙ has_cell-listed (all_cells role steps) name

-- a value that is not empty
abbrev pub IsFilled : Option (List ℕ) → Type 0
IsFilled None = Unit {0}
IsFilled (Some []) = ⊥
IsFilled (Some (b ∷ bs)) = Unit {0}

pub or_filled : (a b : Option (List ℕ)) → IsFilled a → IsFilled b → IsFilled (option_or a b)
or_filled None b first second = second
or_filled (Some v) b first second = first

pub joined_filled : (c : ℕ) (a b : List ℕ) (more : List (List ℕ)) → IsFilled (Some (join_with_byte c (a ∷ b ∷ more)))
joined_filled c [] b more = tt
joined_filled c (x ∷ xs) b more = tt

pub last_filled : {K : Type 0} (name : K → CellName) (text : K → Option (List ℕ)) → ((k : K) → IsFilled (text k)) → (keys : List K) (at : CellName)
    → IsFilled (last_some (value_at at) (cells_by name text keys))
last_filled name text filled [] at = tt
last_filled name text filled (k ∷ more) at =
    subst IsFilled (sym (value_here at (name k) (text k) (cells_by name text more)))
    (or_filled (last_some (value_at at) (cells_by name text more)) (cond (same_name at (name k)) (text k) None) (last_filled name text filled more at) (if_filled (same_name at (name k)) (text k) (filled k)))
  where
    if_filled : (b : Bool) (o : Option (List ℕ)) → IsFilled o → IsFilled (cond b o None)
    if_filled true o filled = filled
    if_filled false o filled = tt

-- what a service ensures of the value at a name
pub value_told : (role : Role) (steps : List Step) (name : CellName) (value : Option (List ℕ)) → value ≡ last_some (value_at name) (all_cells role steps)
    → (text : List ℕ) → text ≡ unwrap_or value [] → text ≡ value_of (cells_of role steps) name
value_told role steps name value is text e = e ∙ ap (λ (o : Option (List ℕ)). unwrap_or o []) is ∙ sym (value_of-cells role steps name)

pub none_told : (role : Role) (steps : List Step) (name : CellName) (value : Option (List ℕ)) → IsFilled value → value ≡ last_some (value_at name) (all_cells role steps)
    → (text : List ℕ) → text ≡ unwrap_or value [] → (text ≡ []) ↔ (has_cell (cells_of role steps) name ≡ false)
none_told role steps name value filled is text e =
    let has : has_cell (cells_of role steps) name ≡ is_some value = has_cell-cells role steps name ∙ ap is_some (sym is) in by value filled e has
  where
    by : (o : Option (List ℕ)) → IsFilled o → text ≡ unwrap_or o [] → has_cell (cells_of role steps) name ≡ is_some o → (text ≡ []) ↔ (has_cell (cells_of role steps) name ≡ false)
    by None filled e has = ((λ _. has), (λ _. e))
    by (Some []) filled e has = absurd filled
    by (Some (b ∷ bs)) filled e has = ((λ none. empty (sym e ∙ none)), (λ none. absurd (both_ways _ none has)))
      where
        empty : (b ∷ bs) ≡ [] → has_cell (cells_of role steps) name ≡ false
        empty e = cc

-- what a service ensures of the names that a step touches
pub covers_told : (role : Role) (before after : List Step) (name : CellName) → last_some (value_at name) (all_cells role after) ≡ last_some (value_at name) (all_cells role before)
    → value_of (cells_of role after) name ≡ value_of (cells_of role before) name
covers_told role before after name same =
    value_of-cells role after name ∙ ap (λ (o : Option (List ℕ)). unwrap_or o []) same ∙ sym (value_of-cells role before name)

-- the names of a table, by each kind of key
pub number_naming : (table : List ℕ) → IsNaming (λ a b. a == b) (number_name table) IsId
number_naming table = record {
  is = eqb-true;
  itself = λ k. eq-eqb k k refl;
  exact = λ k l small tiny e. one_key (key_of_word number_id_word) k l small tiny (ap (λ (n : CellName). n.key) e);
}

pub key_naming : (table : List ℕ) → IsNaming same_key (key_name table) IsKey
key_naming table = record {
  is = same_key-true;
  itself = same_key-self;
  exact = λ k l small tiny e. one_key (key_of_word key_word) k l small tiny (ap (λ (n : CellName). n.key) e);
}

pub id_naming : (table : List ℕ) → IsNaming same_id (id_name table) IsRequestId
id_naming table = record {
  is = same_id-true;
  itself = same_id-self;
  exact = λ k l small tiny e. one_key (key_of_word id_word) k l small tiny (ap (λ (n : CellName). n.key) e);
}

-- customers and products
abbrev pub same_line_of : ℕ × ProductKey → ℕ × ProductKey → Bool
same_line_of a b = (a.0 == b.0) && same_key a.1 b.1

pub basket_naming : (table : List ℕ) → IsNaming same_line_of (basket_name table) IsBasketKey
basket_naming table = record {
  is = λ k l e.
      let both = and_parts (k.0 == l.0) (same_key k.1 l.1) e in
      λ i. (eqb-true k.0 l.0 both.0 i, same_key-true k.1 l.1 both.1 i);
  itself = λ k. and_from (k.0 == k.0) (same_key k.1 k.1) (eq-eqb k.0 k.0 refl) (same_key-self k.1);
  exact = λ k l small tiny e. one_key basket_word k l small tiny (ap (λ (n : CellName). n.key) e);
}

pub map-same : {A : Type 0} (xs : List A) → map (λ x. x) xs ≡ xs
map-same [] = refl
map-same (x ∷ xs) = ap (λ more. x ∷ more) (map-same xs)

-- a fact of a result, as another one
pub if_ok : {X E : Type 0} {P Q : X → Type 0} → ((x : X) → P x → Q x) → (r : Result X E) → IfOk r P → IfOk r Q
if_ok to (Ok x) p = to x p
if_ok to (Err e) p = tt

pub none_some : {A : Type 0} (x : A) → None ≡ Some x → ⊥
none_some x e = cc
