-- The cells of a copy are those of the changes that it is the copy of.
use Rattle.std.proofs.Common.{◌≡◌, ℕ, Bool, true, false, cond, ◌&&◌, ◌||◌, List, [], ◌∷◌, ◌++◌, map, filter_map, Option, Some, None, is_some, unwrap_or, refl, ap, ap₂, sym, subst, ◌∙◌}
use Rattle.std.specs.Prelude.{codes}
use Rattle.std.specs.Fmt.{decimal}
use Rattle.std.specs.BTreeMap.{is_at}
use Rattle.std.specs.List.{cons_option, list_all}
use Rattle.std.specs.Map.{keys_of, lookup}
use Rattle.std.specs.Option.{option_or}
use Rattle.std.proofs.lemmas.Bool.{both_ways}
use Rattle.market_amounts.specs.declared.keys.ProductKey.{ProductKey}
use Rattle.market_events.specs.declared.bodies.Body.{Body}
use Rattle.market_events.specs.declared.bodies.Body.TheVariants as body
use Rattle.market_events.specs.declared.cells.CellName.{CellName}
use Rattle.market_events.specs.declared.changes.Look.{Look}
use Rattle.market_events.specs.declared.changes.Look.TheVariants.{Unknown, Gone, Live}
use Rattle.market_events.specs.Carts.{changes_taken}
use Rattle.market_events.specs.CellLists.{cells_by, Within}
use Rattle.market_events.specs.CellNames.{key_name}
use Rattle.market_events.specs.Cells.{look_text, look_cells, with_value}
use Rattle.market_events.specs.Copies.{ProductChange, last_some, change_of, price_set, freight_set, look_of, copy_of}
use Rattle.market_events.specs.Formed.{id_formed, key_formed, change_formed, body_formed}
use Rattle.market_events.specs.Products.{change_in}
use Rattle.market_events.specs.Steps.{key_cmp, Step, taken_bodies}
use Rattle.market_events.specs.Requests.{same_key}
use Rattle.market_events.specs.declared.roles.Role.{Role}
use Rattle.market_events.specs.Services.{IsRunOf}
use Rattle.market_events.specs.Standing.{same_name}
use Rattle.market_events.specs.Texts.{key_text}
use Rattle.market_events.specs.WellFormed.{IsKey}
use Rattle.market_events.proofs.NamedCells.Named.{value_at, same_name-same}
use Rattle.market_events.proofs.Steps.Copies.{copy_of-push-other}
use Rattle.market_events.proofs.Values.Formed.{key_decides}
use Rattle.market_events.proofs.NamedCells.Keyed.{is_among, HasAll, IsFilled, joined_filled, last_filled, key_naming, at_key, at_none, alike, cells_by-same}
use Rattle.market_events.proofs.Values.Keys.{eq_by_key_cmp}
use Rattle.market_events.proofs.Values.Lists.{and_both, and_from}
use Rattle.market_events.proofs.Values.Same.{same_key-true}
use Rattle.market_events.proofs.Steps.Taken.{taken_formed}
use Rattle.cart_replica.specs.Copy.{IsCopyOf}
use Rattle.cart_replica.specs.CopyCells.{text_in, copy_cells, AreKeysFormed}

-- what changes leave of a product, as a text
abbrev pub text_by : List ProductChange → ProductKey → Option (List ℕ)
text_by changes key = look_text (copy_of changes key)

-- the products of changes
abbrev pub changed_keys : List ProductChange → List ProductKey
changed_keys changes = map (λ (c : ProductChange). c.key) changes

-- the cells of changes are those of their keys
cells_from : (table : List ℕ) (changes more : List ProductChange)
    → filter_map (λ (c : ProductChange). with_value table (key_text c.key) (look_text (copy_of changes c.key))) more ≡ cells_by (key_name table) (text_by changes) (changed_keys more)
cells_from table changes [] = refl
cells_from table changes (c ∷ more) = ap (cons_option (with_value table (key_text c.key) (look_text (copy_of changes c.key)))) (cells_from table changes more)

-- the cells of a list of changes are those of the products that it changes
pub look_cells-by : (table : List ℕ) (changes : List ProductChange) → look_cells table changes ≡ cells_by (key_name table) (text_by changes) (changed_keys changes)
look_cells-by table changes = cells_from table changes changes

-- a product that no change is of is unknown
no_change : (changes : List ProductChange) (key : ProductKey) → is_among same_key (changed_keys changes) key ≡ false → last_some (change_of key) changes ≡ None
no_change [] key none = refl
no_change (c ∷ more) key none = by (no_change more key) (same_key key c.key) refl none
  where
    by : (is_among same_key (changed_keys more) key ≡ false → last_some (change_of key) more ≡ None) → (b : Bool) → same_key key c.key ≡ b
        → (same_key key c.key || is_among same_key (changed_keys more) key) ≡ false → option_or (last_some (change_of key) more) (cond (same_key key c.key) (Some c) None) ≡ None
    by later true here none =
        let both : (true || is_among same_key (changed_keys more) key) ≡ false = sym (ap (λ b. b || is_among same_key (changed_keys more) key) here) ∙ none in cc
    by later false other none =
        let rest : is_among same_key (changed_keys more) key ≡ false = sym (ap (λ b. b || is_among same_key (changed_keys more) key) other) ∙ none in
        ap₂ option_or (later rest) (ap (λ b. cond b (Some c) None) other)

-- each product with a text is among those of the changes
pub changes_all : (changes : List ProductChange) → HasAll same_key (text_by changes) (changed_keys changes)
changes_all changes key some = by (is_among same_key (changed_keys changes) key) refl
  where
    by : (b : Bool) → is_among same_key (changed_keys changes) key ≡ b → is_among same_key (changed_keys changes) key ≡ true
    by true among = among
    by false none =
        let gone : false ≡ true
        = sym (ap (λ (o : Option ProductChange). is_some (look_text (look_of o (last_some (price_set key) changes) (last_some (freight_set key) changes)))) (no_change changes key none))
        ∙ some in
        cc

-- where all keys are well formed, such a product is
among_formed : (changes : List ProductChange) → AreKeysFormed changes → (key : ProductKey) → is_among same_key (changed_keys changes) key ≡ true → key_formed key ≡ true
among_formed [] formed key among = cc
among_formed (c ∷ more) formed key among =
    let both = and_both (key_formed c.key) (list_all (λ (c : ProductChange). key_formed c.key) more) formed in by (same_key key c.key) refl both.0 (among_formed more both.1 key) among
  where
    by : (b : Bool) → same_key key c.key ≡ b → key_formed c.key ≡ true → (is_among same_key (changed_keys more) key ≡ true → key_formed key ≡ true)
        → (same_key key c.key || is_among same_key (changed_keys more) key) ≡ true → key_formed key ≡ true
    by true here one rest among = ap key_formed (same_key-true key c.key here) ∙ one
    by false other one rest among = rest (sym (ap (λ b. b || is_among same_key (changed_keys more) key) other) ∙ among)

-- changes of well-formed keys show texts of well-formed keys alone
pub changes_within : (changes : List ProductChange) → AreKeysFormed changes → Within IsKey (text_by changes)
changes_within changes formed key some = (key_decides key).0 (among_formed changes formed key (changes_all changes key some))

-- each product with a text has an entry
pub entries_all : (entries : List (ProductKey × Look)) → HasAll same_key (text_in entries) (keys_of entries)
entries_all [] key some = some
entries_all (e ∷ es) key some = by (entries_all es key) (same_key key e.0) refl
  where
    test : is_at (key_cmp key) e.0 ≡ same_key key e.0
    test = eq_by_key_cmp key e.0

    by : (is_some (text_in es key) ≡ true → is_among same_key (keys_of es) key ≡ true) → (b : Bool) → same_key key e.0 ≡ b
        → (same_key key e.0 || is_among same_key (keys_of es) key) ≡ true
    by rest true here = rw here refl
    by rest false other =
        rw other (rest (sym (ap (λ b. is_some (look_text (unwrap_or (cond b (Some e.1) (lookup (is_at (key_cmp key)) es)) Unknown))) (test ∙ other)) ∙ some))

-- the cells of a copy have at each name what those of the changes have
pub copy_cells-same : (table : List ℕ) (entries : List (ProductKey × Look)) (changes : List ProductChange) → IsCopyOf entries changes → AreKeysFormed changes
    → (name : CellName) → last_some (value_at name) (copy_cells table entries) ≡ last_some (value_at name) (look_cells table changes)
copy_cells-same table entries changes copied formed name =
    ap (last_some (value_at name)) (cells_by-same (key_name table) (text_in entries) (text_by changes) (λ key. ap look_text (copied key)) (keys_of entries))
    ∙ alike (key_naming table) (text_by changes) (text_by changes) (changes_within changes formed) (changes_within changes formed) (keys_of entries) (changed_keys changes)
    (λ key some. entries_all entries key (ap (λ look. is_some (look_text look)) (copied key) ∙ some)) (changes_all changes) name (λ key small is. refl)
    ∙ sym (ap (last_some (value_at name)) (look_cells-by table changes))

-- what stands at the name of a product, and at a name of none
pub look_cells-at : (table : List ℕ) (changes : List ProductChange) → AreKeysFormed changes → (key : ProductKey) → key_formed key ≡ true
    → last_some (value_at (key_name table key)) (look_cells table changes) ≡ text_by changes key
look_cells-at table changes formed key known =
    ap (last_some (value_at (key_name table key))) (look_cells-by table changes)
    ∙ at_key (key_naming table) (text_by changes) (changes_within changes formed) (changed_keys changes) (changes_all changes) key ((key_decides key).0 known)

-- a name of no well-formed key has no cell
pub look_cells-none : (table : List ℕ) (changes : List ProductChange) → AreKeysFormed changes → (name : CellName)
    → ((key : ProductKey) → key_formed key ≡ true → name ≡ key_name table key → ⊥) → last_some (value_at name) (look_cells table changes) ≡ None
look_cells-none table changes formed name other =
    ap (last_some (value_at name)) (look_cells-by table changes)
    ∙ at_none (key_naming table) (text_by changes) (changes_within changes formed) (changed_keys changes) name (λ key small is. other key ((key_decides key).1 small) is)

-- one change more
pub AreKeysFormed-push : (changes : List ProductChange) (c : ProductChange) → AreKeysFormed changes → key_formed c.key ≡ true → AreKeysFormed (changes ++ c ∷ [])
AreKeysFormed-push [] c formed one = and_from (key_formed c.key) true one refl
AreKeysFormed-push (d ∷ more) c formed one =
    let both = and_both (key_formed d.key) (list_all (λ (c : ProductChange). key_formed c.key) more) formed in
    and_from (key_formed d.key) (list_all (λ (c : ProductChange). key_formed c.key) (more ++ c ∷ [])) both.0 (AreKeysFormed-push more c both.1 one)

-- it changes the cell of its product alone
pub look_cells-push : (table : List ℕ) (changes : List ProductChange) (c : ProductChange) → AreKeysFormed changes → key_formed c.key ≡ true
    → (name : CellName) → same_name name (key_name table c.key) ≡ false
    → last_some (value_at name) (look_cells table (changes ++ c ∷ [])) ≡ last_some (value_at name) (look_cells table changes)
look_cells-push table changes c formed one name other =
    ap (last_some (value_at name)) (look_cells-by table (changes ++ c ∷ []))
    ∙ alike (key_naming table) (text_by (changes ++ c ∷ [])) (text_by changes) (changes_within (changes ++ c ∷ []) (AreKeysFormed-push changes c formed one)) (changes_within changes formed)
    (changed_keys (changes ++ c ∷ [])) (changed_keys changes) (changes_all (changes ++ c ∷ [])) (changes_all changes) name (λ key small is. same key is (same_key key c.key) refl)
    ∙ sym (ap (last_some (value_at name)) (look_cells-by table changes))
  where
    same : (key : ProductKey) → name ≡ key_name table key → (b : Bool) → same_key key c.key ≡ b → text_by (changes ++ c ∷ []) key ≡ text_by changes key
    same key is true here =
        absurd (both_ways _ other (ap (λ n. same_name n (key_name table c.key)) (is ∙ ap (key_name table) (same_key-true key c.key here)) ∙ same_name-same (key_name table c.key)))
    same key is false differs = ap look_text (copy_of-push-other changes c key differs)

-- the changes of well-formed bodies are of well-formed keys
pub changes_in-keys : (bs : List Body) → list_all body_formed bs ≡ true → AreKeysFormed (filter_map change_in bs)
changes_in-keys [] all = refl
changes_in-keys (b ∷ bs) all = let both = and_both (body_formed b) (list_all body_formed bs) all in one b both.0 (changes_in-keys bs both.1)
  where
    one : (b : Body) → body_formed b ≡ true → AreKeysFormed (filter_map change_in bs) → AreKeysFormed (cons_option (change_in b) (filter_map change_in bs))
    one (body.Changed key version c) formed rest =
        let outer = and_both (key_formed key && id_formed version) (change_formed c) formed in
        let inner = and_both (key_formed key) (id_formed version) outer.0 in
        and_from (key_formed key) _ inner.0 rest
    one other formed rest = rest

-- and so are those that a run took
pub changes_taken-keys : (role : Role) (steps : List Step) → IsRunOf role steps → AreKeysFormed (changes_taken steps)
changes_taken-keys role steps run = changes_in-keys (taken_bodies steps) (taken_formed role steps run)

-- what is found at the name of a product
module _ (entries : List (ProductKey × Look)) (table : List ℕ) (name : CellName) (key : ProductKey) (known : key_formed key ≡ true) (is : name ≡ key_name table key)
    (value : Option (List ℕ)) (shown : value ≡ text_in entries key) where
  -- the value is that of each key that has the name
  pub found_is : (other : ProductKey) → key_formed other ≡ true → name ≡ key_name table other → value ≡ text_in entries other
  found_is other formed like =
      let naming = key_naming table in shown ∙ ap (text_in entries) (naming.exact key other ((key_decides key).0 known) ((key_decides other).0 formed) (sym is ∙ like))

  -- and that of the cell of whichever changes the entries are the copy of
  pub found_copied : (changes : List ProductChange) → IsCopyOf entries changes → AreKeysFormed changes → value ≡ last_some (value_at name) (look_cells table changes)
  found_copied changes copied formed =
      shown ∙ ap look_text (copied key) ∙ sym (look_cells-at table changes formed key known) ∙ ap (λ n. last_some (value_at n) (look_cells table changes)) (sym is)

-- no text of a product is empty
pub look_filled : (look : Look) → IsFilled (look_text look)
look_filled Unknown = tt
look_filled (Gone v) = joined_filled 32 (codes "gone") (decimal v) []
look_filled (Live v price freight) = joined_filled 32 (codes "live") (decimal v) (decimal price ∷ decimal freight ∷ [])

-- so none of the cells is empty
pub look_cells-filled : (table : List ℕ) (changes : List ProductChange) (name : CellName) → IsFilled (last_some (value_at name) (look_cells table changes))
look_cells-filled table changes name =
    subst (λ cells. IsFilled (last_some (value_at name) cells)) (sym (look_cells-by table changes))
    (last_filled (key_name table) (text_by changes) (λ key. look_filled (copy_of changes key)) (changed_keys changes) name)
