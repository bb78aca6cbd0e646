-- The names that a body touches cover what a step with it changes.
use Rattle.std.proofs.Common.{◌≡◌, ℕ, ◌≤◌, Bool, true, false, cond, ◌&&◌, ◌||◌, ◌==◌, List, [], ◌∷◌, ◌++◌, length, map, filter_map, Option, Some, None, is_some, if◌then◌else◌, refl, ap, ap₂, sym, ◌∙◌, arith, eqb-true, eq-eqb, subst}
use Rattle.std.proofs.Math.Logic.{∥∥₁_elim}
use Rattle.std.specs.BTreeMap.{is_at}
use Rattle.std.specs.Coded.{le_prop}
use Rattle.std.specs.List.{list_any, AllByRecursion, IsDistinct}
use Rattle.std.specs.Map.{keys_of}
use Rattle.std.specs.Option.{option_or}
use Rattle.std.proofs.lemmas.Bool.{both_ways}
use Rattle.std.proofs.lemmas.List.{length-map}
use Rattle.std.proofs.lemmas.Map.Keys.{IsDistinct-from_sorted, IsDistinct-prop}
use Rattle.cart_replica.specs.CopyCells.{copy_table}
use Rattle.market_amounts.specs.declared.keys.ProductKey.{ProductKey}
use Rattle.market_amounts.specs.declared.keys.RequestId.{RequestId}
use Rattle.market_events.specs.declared.bodies.Body.{Body}
use Rattle.market_events.specs.declared.bodies.Body.TheVariants as body
use Rattle.market_events.specs.declared.cells.CellName.{CellName}
use Rattle.market_events.specs.declared.links.Link.{Link}
use Rattle.market_events.specs.declared.requests.Ask.{Ask}
use Rattle.market_events.specs.declared.requests.Ask.TheVariants as ask
use Rattle.market_events.specs.declared.requests.Request.{Request}
use Rattle.market_events.specs.declared.changes.Change.{Change}
use Rattle.market_events.specs.Carts.{Held, changes_taken, is_accepted, is_sent_on, body_leaves, leaves, joined, basket_at, basket_of}
use Rattle.market_events.specs.CellNames.{basket_name, key_name}
use Rattle.market_events.specs.Cells.{cells_of, look_cells, held_text}
use Rattle.market_events.specs.Copies.{last_some}
use Rattle.market_events.specs.Formed.{body_formed, key_formed, id_formed, change_formed}
use Rattle.market_events.specs.Products.{change_in}
use Rattle.market_events.specs.Requests.{same_key}
use Rattle.market_events.specs.declared.roles.Role.{Role}
use Rattle.market_events.specs.Services.{IsRunOf, fits}
use Rattle.market_events.specs.Standing.{Stands, step_of, with_step, same_name, is_named, value_of, CanTake, may_change, most_by_ask, most_touched}
use Rattle.market_events.specs.Steps.{Step, key_cmp}
use Rattle.market_events.proofs.Steps.Baskets.{find-basket_of, is_sorted-basket_of}
use Rattle.market_events.proofs.Steps.Carts.{basket_at-push, basket_at-push-same}
use Rattle.market_events.proofs.NamedCells.Named.{value_at}
use Rattle.market_events.proofs.NamedCells.Spelled.{IsBasketKey}
use Rattle.market_events.proofs.Values.Keys.{eq_by_key_cmp, find-lookup, sorted-of}
use Rattle.market_events.proofs.NamedCells.Keyed.{is_among, same_line_of, basket_naming, named_list, names_distinct, alike, covers_told}
use Rattle.market_events.proofs.Values.Lists.{and_both, or_parts, or_right}
use Rattle.market_events.proofs.Values.Same.{same_key-self, same_key-swap}
use Rattle.market_events.proofs.Runs.Carts.{basket_of-few}
use Rattle.market_events.proofs.Runs.Standing.{is_fit, is_run_push, follows_step_of}
use Rattle.market_events.proofs.Steps.Taken.{changes_taken-push}
use Rattle.market_events.proofs.NamedCells.Touched.{named_none, one_may_change, map_may_change}
use Rattle.cart_replica.proofs.CopyCells.{look_cells-push, changes_taken-keys}
use Rattle.cart_replica.proofs.Names.{one_distinct, none_distinct}
use Rattle.cart_replica.proofs.Taking.{looks_still}
use Rattle.cart_service.specs.Cells.{basket_table, keys_in, asked_names, names_touched, line_held}
use Rattle.cart_service.specs.Holds.{Holds}
use Rattle.cart_service.specs.Tables.{lines_at, CartTables}
use Rattle.cart_service.proofs.TableCells.{text_by, lines_asked, basket_cell-by, steps_all, steps_within, found_key, keys_among, line_cells, cart_cells-parts}
use Rattle.cart_service.proofs.Left.{swap_numbers}

module _ (steps : List Step) (run : IsRunOf Role.Cart steps) (from : Link) (b : Body) (fit : fits Role.Cart steps from b ≡ true) where
  abbrev step : Step
  step = step_of Role.Cart steps from b

  -- the steps with one more
  abbrev after : List Step
  after = with_step Role.Cart steps from b

  -- they are a run
  run_after : IsRunOf Role.Cart after
  run_after = is_run_push Role.Cart steps step run (follows_step_of Role.Cart steps from b fit)

  -- a name of which the step changes no line
  lines_same : (name : CellName) → ((line : ℕ × ProductKey) → name ≡ basket_name basket_table line → basket_at after line.0 line.1 ≡ basket_at steps line.0 line.1)
      → last_some (value_at name) (line_cells after) ≡ last_some (value_at name) (line_cells steps)
  lines_same name same =
      ap (last_some (value_at name)) (basket_cell-by after)
      ∙ alike (basket_naming basket_table) (text_by after) (text_by steps) (steps_within after run_after) (steps_within steps run) (lines_asked after) (lines_asked steps) (steps_all after) (steps_all steps)
      name (λ line small is. ap held_text (same line is))
      ∙ sym (ap (last_some (value_at name)) (basket_cell-by steps))

  -- a name at which the step changes neither the copy nor a line
  step_covers : (name : CellName) → last_some (value_at name) (look_cells copy_table (changes_taken after)) ≡ last_some (value_at name) (look_cells copy_table (changes_taken steps))
      → ((line : ℕ × ProductKey) → name ≡ basket_name basket_table line → basket_at after line.0 line.1 ≡ basket_at steps line.0 line.1)
      → value_of (cells_of Role.Cart after) name ≡ value_of (cells_of Role.Cart steps) name
  step_covers name looks same =
      covers_told Role.Cart steps after name
      (cart_cells-parts after name
      ∙ ap₂ option_or (lines_same name same) looks
      ∙ sym (cart_cells-parts steps name))

  -- a step that tells no change leaves the cells of the copy
  looks_same : change_in b ≡ None → (name : CellName) → last_some (value_at name) (look_cells copy_table (changes_taken after)) ≡ last_some (value_at name) (look_cells copy_table (changes_taken steps))
  looks_same none name = looks_still copy_table name steps step none

  -- where the step leaves nothing of a product
  left_none : (c : ℕ) (k : ProductKey) → body_leaves c k b (is_accepted step) (is_sent_on step) ≡ None → basket_at after c k ≡ basket_at steps c k
  left_none c k none = basket_at-push-same steps step c k none

  -- and where it takes a product away that was not there
  left_away : (c : ℕ) (k : ProductKey) (sent : Bool) → body_leaves c k b (is_accepted step) (is_sent_on step) ≡ (if sent then Some None else None) → basket_at steps c k ≡ None
      → basket_at after c k ≡ basket_at steps c k
  left_away c k true is none = basket_at-push steps step c k ∙ ap (λ o. joined (option_or o (last_some (leaves c k) steps))) is ∙ sym none
  left_away c k false is none = left_none c k is

-- a name that is not among those of some lines is that of another line
other_line : (lines : List (ℕ × ProductKey)) (name : CellName) (line : ℕ × ProductKey) → is_named (map (basket_name basket_table) lines) name ≡ false → name ≡ basket_name basket_table line
    → is_among same_line_of lines line ≡ false
other_line lines name line other is =
    named_list (basket_naming basket_table) lines line (sym (ap (is_named (map (basket_name basket_table) lines)) is) ∙ other)

-- a line or a removal leaves nothing of another line
line_none : (c d : ℕ) (k q : ProductKey) (accepted : Bool) (left : Option Held) → is_among same_line_of ((d, q) ∷ []) (c, k) ≡ false
    → (if (d == c) && same_key q k && accepted then Some left else None) ≡ None
line_none c d k q accepted left other = either (d == c) refl (same_key q k) refl
  where
    apart : (a b : Bool) → (c == d) ≡ a → same_key k q ≡ b → ((a && b) || false) ≡ false
    apart a b e f = sym (ap₂ (λ x y. (x && y) || false) e f) ∙ other

    either : (a : Bool) → (d == c) ≡ a → (b : Bool) → same_key q k ≡ b → (if a && b && accepted then Some left else None) ≡ None
    either true at true same = let no = apart true true (swap_numbers c d ∙ at) (same_key-swap k q ∙ same) in cc
    either true at false same = refl
    either false at b same = refl

-- a product that is not among the keys of the lines is not in them
not_held : (lines : List (ProductKey × Held)) (c : ℕ) (k : ProductKey) → is_among same_line_of (keys_in c lines) (c, k) ≡ false → line_held lines k ≡ None
not_held lines c k other = by (line_held lines k) refl
  where
    by : (o : Option Held) → line_held lines k ≡ o → line_held lines k ≡ None
    by None is = is
    by (Some v) is = absurd (both_ways _ other (keys_among c k (keys_of lines) (found_key lines k v is)))

module _ (kept : CartTables) (from : Link) (b : Body) (steps : List Step) (stands : Stands Role.Cart Holds kept steps) (fit : fits Role.Cart steps from b ≡ true) where
  abbrev made : Step
  made = step_of Role.Cart steps from b

  -- what the step leaves of a line, where this is what the body leaves
  abbrev Leaves : Body → Type 0
  Leaves x = (c : ℕ) (k : ProductKey) → body_leaves c k b (is_accepted made) (is_sent_on made) ≡ body_leaves c k x (is_accepted made) (is_sent_on made)

  -- a request leaves each line whose name is not among its names
  asked_same : (name : CellName) (id : RequestId) (what : Ask) → Leaves (body.Asked (record { id = id; ask = what })) → is_named (asked_names kept.baskets what) name ≡ false
      → (line : ℕ × ProductKey) → name ≡ basket_name basket_table line → basket_at (with_step Role.Cart steps from b) line.0 line.1 ≡ basket_at steps line.0 line.1
  asked_same name id (ask.Line d q quantity voucher) is other line at =
      left_none steps stands.run from b fit line.0 line.1
      (is line.0 line.1 ∙ line_none line.0 d line.1 q (is_accepted made) (Some (record { quantity = quantity; voucher = voucher })) (other_line ((d, q) ∷ []) name line other at))
  asked_same name id (ask.Remove d q) is other line at =
      left_none steps stands.run from b fit line.0 line.1 (is line.0 line.1 ∙ line_none line.0 d line.1 q (is_accepted made) None (other_line ((d, q) ∷ []) name line other at))
  asked_same name id (ask.Checkout d) is other line at = either (d == line.0) refl
    where
      among : is_among same_line_of (keys_in d (lines_at kept.baskets d)) line ≡ false
      among = other_line (keys_in d (lines_at kept.baskets d)) name line other at

      either : (a : Bool) → (d == line.0) ≡ a → basket_at (with_step Role.Cart steps from b) line.0 line.1 ≡ basket_at steps line.0 line.1
      either true same =
          left_away steps stands.run from b fit line.0 line.1 (is_sent_on made) (is line.0 line.1 ∙ ap (λ a. if a && is_sent_on made then Some None else None) same)
          (sym (find-basket_of steps line.0 line.1) ∙ find-lookup key_cmp line.1 (basket_of steps line.0)
          ∙ not_held (basket_of steps line.0) line.0 line.1
          (sym (ap₂ (λ n lines. is_among same_line_of (keys_in n lines) line) (eqb-true d line.0 same) (ap (lines_at kept.baskets) (eqb-true d line.0 same) ∙ stands.held.lines line.0)) ∙ among))
      either false differ = left_none steps stands.run from b fit line.0 line.1 (is line.0 line.1 ∙ ap (λ a. if a && is_sent_on made then Some None else None) differ)
  asked_same name id what is other line at = left_none steps stands.run from b fit line.0 line.1 (is line.0 line.1)

  -- a step changes no cell whose name is not among those of its body
  pub body_covers : (name : CellName) → is_named (names_touched kept.baskets b) name ≡ false
      → value_of (cells_of Role.Cart (with_step Role.Cart steps from b)) name ≡ value_of (cells_of Role.Cart steps) name
  body_covers name = by b refl
    where
      is_left : (x : Body) → b ≡ x → Leaves x
      is_left x is c k = ap (λ y. body_leaves c k y (is_accepted made) (is_sent_on made)) is

      by : (x : Body) → b ≡ x → is_named (names_touched kept.baskets x) name ≡ false → value_of (cells_of Role.Cart (with_step Role.Cart steps from b)) name ≡ value_of (cells_of Role.Cart steps) name
      by (body.Changed key version change) is other =
          let outer = and_both (key_formed key && id_formed version) (change_formed change) (sym (ap body_formed is) ∙ (is_fit Role.Cart steps from b fit).formed) in
          step_covers steps stands.run from b fit name
          (ap (λ changes. last_some (value_at name) (look_cells copy_table changes)) (changes_taken-push steps made ∙ ap (λ x. changes_taken steps ++ filter_map change_in (x ∷ [])) is)
          ∙ look_cells-push copy_table (changes_taken steps) (record { key = key; version = version; change = change }) (changes_taken-keys Role.Cart steps stands.run)
          (and_both (key_formed key) (id_formed version) outer.0).0 name (or_parts (same_name name (key_name copy_table key)) false other).0)
          (λ line at. left_none steps stands.run from b fit line.0 line.1 (is_left (body.Changed key version change) is line.0 line.1))
      by (body.Asked request) is other =
          step_covers steps stands.run from b fit name (looks_same steps stands.run from b fit (ap change_in is) name)
          (asked_same name request.id request.ask (is_left (body.Asked request) is) other)
      by x is other =
          step_covers steps stands.run from b fit name (looks_same steps stands.run from b fit (ap change_in is) name)
          (λ line at. left_none steps stands.run from b fit line.0 line.1 (is_left x is line.0 line.1))

  -- the lines of a customer have keys that differ, of well-formed customers and products
  keys_differ : (c : ℕ) (keys : List ProductKey) → IsDistinct same_key keys → IsDistinct same_line_of (map (λ key. (c, key)) keys)
  unfolding IsDistinct
  keys_differ c [] differ = tt
  keys_differ c (k ∷ keys) differ = (apart keys differ.0, keys_differ c keys differ.1)
    where
      apart : (more : List ProductKey) → AllByRecursion (λ q. same_key k q ≡ false) more → AllByRecursion (λ l. same_line_of (c, k) l ≡ false) (map (λ key. (c, key)) more)
      apart [] all = tt
      apart (q ∷ more) all = (rw (eq-eqb c c refl) all.0, apart more all.1)

  -- the products of a customer's lines differ
  basket_keys_differ : (c : ℕ) → IsDistinct same_key (keys_of (lines_at kept.baskets c))
  basket_keys_differ c =
      subst (λ lines. IsDistinct same_key (keys_of lines)) (sym (stands.held.lines c))
      (subst (λ same. IsDistinct same (keys_of (basket_of steps c))) (λ i a b. eq_by_key_cmp a b i)
      (IsDistinct-from_sorted key_cmp (keys_of (basket_of steps c)) (sorted-of key_cmp (basket_of steps c) (is_sorted-basket_of steps c))))

  -- a key of lines has a line
  has_line : (lines : List (ProductKey × Held)) (k : ProductKey) → list_any (λ q. same_key k q) (keys_of lines) ≡ true → is_some (line_held lines k) ≡ true
  has_line [] k any = cc
  has_line (e ∷ lines) k any = either (same_key k e.0) refl (has_line lines k) any
    where
      either : (b : Bool) → same_key k e.0 ≡ b → (list_any (λ q. same_key k q) (keys_of lines) ≡ true → is_some (line_held lines k) ≡ true) → (b || list_any (λ q. same_key k q) (keys_of lines)) ≡ true
          → is_some (cond (is_at (key_cmp k) e.0) (Some e.1) (line_held lines k)) ≡ true
      either true same rest any = rw (eq_by_key_cmp k e.0 ∙ same) refl
      either false same rest any = rw (eq_by_key_cmp k e.0 ∙ same) (rest any)

  -- and the lines are of well-formed customers and products
  basket_keys_small : (c : ℕ) → AllByRecursion IsBasketKey (keys_in c (lines_at kept.baskets c))
  basket_keys_small c = all (keys_of (lines_at kept.baskets c)) (λ k any. any)
    where
      small : (k : ProductKey) → list_any (λ q. same_key k q) (keys_of (lines_at kept.baskets c)) ≡ true → IsBasketKey (c, k)
      small k any =
          steps_within steps stands.run (c, k)
          (some (basket_at steps c k) (ap is_some (sym (find-basket_of steps c k) ∙ find-lookup key_cmp k (basket_of steps c) ∙ ap (λ lines. line_held lines k) (sym (stands.held.lines c)))
          ∙ has_line (lines_at kept.baskets c) k any))
        where
          some : (o : Option Held) → is_some o ≡ true → is_some (held_text o) ≡ true
          some None is = is
          some (Some held) is = refl

      all : (keys : List ProductKey) → ((k : ProductKey) → list_any (λ q. same_key k q) keys ≡ true → list_any (λ q. same_key k q) (keys_of (lines_at kept.baskets c)) ≡ true)
          → AllByRecursion IsBasketKey (map (λ key. (c, key)) keys)
      all [] within = tt
      all (k ∷ keys) within =
          (small k (within k (ap (λ x. x || list_any (λ q. same_key k q) keys) (same_key-self k))), all keys (λ q any. within q (or_right (same_key q k) any)))

  -- the names differ
  asked_differ : (what : Ask) → IsDistinct same_name (asked_names kept.baskets what)
  asked_differ (ask.Line d q quantity voucher) = one_distinct (basket_name basket_table (d, q))
  asked_differ (ask.Remove d q) = one_distinct (basket_name basket_table (d, q))
  asked_differ (ask.Checkout d) =
      names_distinct (basket_naming basket_table) (keys_in d (lines_at kept.baskets d)) (keys_differ d (keys_of (lines_at kept.baskets d)) (basket_keys_differ d)) (basket_keys_small d)
  asked_differ other = none_distinct

  -- and so do the names of a body
  pub body_differ : (x : Body) → IsDistinct same_name (names_touched kept.baskets x)
  body_differ (body.Changed key version change) = one_distinct (key_name copy_table key)
  body_differ (body.Asked request) = asked_differ request.ask
  body_differ other = none_distinct

  -- and they are few
  asked_few : (what : Ask) → length (asked_names kept.baskets what) ≤ most_by_ask what
  asked_few (ask.Line d q quantity voucher) = omega arith
  asked_few (ask.Remove d q) = omega arith
  asked_few (ask.Checkout d) =
      omega (
        arith,
        length-map (keys_in d (lines_at kept.baskets d)) (basket_name basket_table),
        length-map {B = ℕ × ProductKey} (keys_of (lines_at kept.baskets d)) (λ (key : ProductKey). (d, key)),
        length-map (lines_at kept.baskets d) (λ (e : ProductKey × Held). e.0),
        ap length (stands.held.lines d),
        basket_of-few steps stands.run d,
      )
  asked_few other = omega arith

  -- and so are those of a body
  pub body_few : (x : Body) → length (names_touched kept.baskets x) ≤ most_touched x
  body_few (body.Changed key version change) = omega arith
  body_few (body.Asked request) = asked_few request.ask
  body_few other = omega arith

-- the cells that a body touches are of tables that it may change
pub body_touched : (baskets : List (ℕ × List (ProductKey × Held))) (b : Body) (name : CellName) → is_named (names_touched baskets b) name ≡ true → may_change Role.Cart b name ≡ true
body_touched baskets (body.Changed key version change) name here = one_may_change Role.Cart (body.Changed key version change) (key_name copy_table key) refl name here
body_touched baskets (body.Asked request) name here = by request.ask here
  where
    by : (what : Ask) → is_named (asked_names baskets what) name ≡ true → may_change Role.Cart (body.Asked (record { id = request.id; ask = what })) name ≡ true
    by (ask.Line d q quantity voucher) named =
        one_may_change Role.Cart (body.Asked (record { id = request.id; ask = ask.Line d q quantity voucher })) (basket_name basket_table (d, q)) refl name named
    by (ask.Remove d q) named = one_may_change Role.Cart (body.Asked (record { id = request.id; ask = ask.Remove d q })) (basket_name basket_table (d, q)) refl name named
    by (ask.Checkout d) named =
        map_may_change Role.Cart (body.Asked (record { id = request.id; ask = ask.Checkout d })) (basket_name basket_table) (λ line. refl) name (keys_in d (lines_at baskets d)) named
    by other named = named_none name named
body_touched baskets other name here = named_none name here

-- names that are those of the body
module _ (kept : CartTables) (from : Link) (b : Body) (names : List CellName) (are : names ≡ names_touched kept.baskets b) where
  -- they cover what it changes
  pub covers : (steps : List Step) → Stands Role.Cart Holds kept steps → fits Role.Cart steps from b ≡ true → (name : CellName) → is_named names name ≡ false
      → value_of (cells_of Role.Cart (with_step Role.Cart steps from b)) name ≡ value_of (cells_of Role.Cart steps) name
  covers steps stands fit name other = body_covers kept from b steps stands fit name (sym (ap (λ ns. is_named ns name) are) ∙ other)

  -- they are of tables that it may change
  pub tables : (name : CellName) → is_named names name ≡ true → may_change Role.Cart b name ≡ true
  tables name here = body_touched kept.baskets b name (sym (ap (λ ns. is_named ns name) are) ∙ here)

  -- they differ
  pub differ : CanTake Role.Cart Holds kept from b → IsDistinct same_name names
  differ can = subst (IsDistinct same_name) (sym are) (∥∥₁_elim can (IsDistinct-prop same_name (names_touched kept.baskets b)) (λ it. body_differ kept from b it.0 it.1 it.2 b))

  -- and are few
  pub few : CanTake Role.Cart Holds kept from b → length names ≤ most_touched b
  few can = omega (arith, ap length are, body_most)
    where
      body_most : length (names_touched kept.baskets b) ≤ most_touched b
      body_most = ∥∥₁_elim can le_prop (λ it. body_few kept from b it.0 it.1 it.2 b)

-- of the other bodies there is no name
pub names_none : (baskets : List (ℕ × List (ProductKey × Held))) (b : Body) → ((key : ProductKey) (version : ℕ) (change : Change) → b ≡ body.Changed key version change → ⊥)
    → ((request : Request) → b ≡ body.Asked request → ⊥) → names_touched baskets b ≡ []
names_none baskets (body.Changed key version change) changed asked = absurd (changed key version change refl)
names_none baskets (body.Asked request) changed asked = absurd (asked request refl)
names_none baskets other changed asked = refl
