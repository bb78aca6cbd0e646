-- The cells of the tables are those of the steps.
use Rattle.std.proofs.Common.{◌≡◌, ℕ, Bool, true, false, cond, ◌&&◌, ◌||◌, ◌==◌, List, [], ◌∷◌, ◌++◌, map, filter_map, Option, Some, None, is_some, unwrap_or, if◌then◌else◌, refl, ap, ap₂, sym, ◌∙◌, eqb-true, eq-eqb}
use Rattle.std.specs.BTreeMap.{is_at}
use Rattle.std.specs.List.{cons_option, list_any, list_all, flat_map}
use Rattle.std.specs.Map.{keys_of}
use Rattle.std.specs.Option.{option_or}
use Rattle.std.proofs.lemmas.Bool.{leb-true}
use Rattle.std.proofs.lemmas.List.Elements.{filter_map-append}
use Rattle.std.proofs.lemmas.List.Folds.{list_any-append}
use Rattle.market_amounts.specs.declared.keys.ProductKey.{ProductKey}
use Rattle.market_events.specs.declared.bodies.Body.{Body}
use Rattle.market_events.specs.declared.bodies.Body.TheVariants as body
use Rattle.market_events.specs.declared.cells.Cell.{Cell}
use Rattle.market_events.specs.declared.cells.CellName.{CellName}
use Rattle.market_events.specs.declared.requests.Ask.{Ask}
use Rattle.market_events.specs.declared.requests.Ask.TheVariants as ask
use Rattle.market_events.specs.Carts.{Held, is_accepted, is_sent_on, asked_leaves, body_leaves, leaves, joined, basket_at, basket_of, changes_taken}
use Rattle.market_events.specs.CellLists.{cells_by, key_cell, Within, put_all, entry_cells_of}
use Rattle.market_events.specs.CellNames.{basket_name}
use Rattle.market_events.specs.Cells.{basket_cell_asked, basket_cell, held_text, look_cells, all_cells, cells_of}
use Rattle.market_events.specs.Copies.{last_some}
use Rattle.market_events.specs.Entries.{entry_at}
use Rattle.market_events.specs.Formed.{id_formed, key_formed, quantity_formed, cents_formed, ask_formed, request_id_formed, body_formed}
use Rattle.market_events.specs.Requests.{same_key}
use Rattle.market_events.specs.declared.roles.Role.{Role}
use Rattle.market_events.specs.Services.{IsRunOf}
use Rattle.market_events.specs.Standing.{Stands}
use Rattle.market_events.specs.Steps.{Step, taken_bodies, key_cmp}
use Rattle.market_events.specs.WellFormed.{id_max}
use Rattle.market_events.proofs.Steps.Baskets.{find-basket_of}
use Rattle.market_events.proofs.NamedCells.Named.{value_at}
use Rattle.market_events.proofs.NamedCells.Spelled.{IsBasketKey}
use Rattle.market_events.proofs.Values.Entries.{entry-among}
use Rattle.market_events.proofs.Values.Formed.{key_decides}
use Rattle.market_events.proofs.Values.Keys.{eq_by_key_cmp, find-lookup}
use Rattle.market_events.proofs.NamedCells.Keyed.{is_among, HasAll, same_line_of, basket_naming, cell_of_key, cells_by-each, alike, last_some-append, entries_told}
use Rattle.market_events.proofs.Values.Lists.{and_both, or_right}
use Rattle.market_events.proofs.Values.Same.{same_key-true, same_key-swap}
use Rattle.market_events.proofs.Steps.Taken.{taken_formed}
use Rattle.cart_replica.specs.CopyCells.{copy_cells, copy_table}
use Rattle.cart_replica.proofs.CopyCells.{copy_cells-same, changes_taken-keys}
use Rattle.cart_service.specs.Cells.{basket_table, keys_in, lines_cells, basket_cells, line_held, held_line_text, basket_text_in}
use Rattle.cart_service.specs.Holds.{Holds}
use Rattle.cart_service.specs.Tables.{lines_at, CartTables}
use Rattle.cart_service.proofs.Left.{swap_numbers}

-- the customer and the product of a line that was asked for
abbrev pub asked_line : Ask → Option (ℕ × ProductKey)
asked_line (ask.Line customer key quantity voucher) = Some (customer, key)
asked_line other = None

-- the line that a body asked for
abbrev pub body_line : Body → Option (ℕ × ProductKey)
body_line (body.Asked request) = asked_line request.ask
body_line other = None

-- the lines that steps asked for
abbrev pub lines_asked : List Step → List (ℕ × ProductKey)
lines_asked steps = filter_map body_line (taken_bodies steps)

-- what steps leave of a line, as a text
abbrev pub text_by : List Step → ℕ × ProductKey → Option (List ℕ)
text_by steps line = held_text (basket_at steps line.0 line.1)

-- the cells of the steps are those of the lines that were asked for
pub basket_cell-by : (steps : List Step) → filter_map (basket_cell steps) (taken_bodies steps) ≡ cells_by (basket_name basket_table) (text_by steps) (lines_asked steps)
basket_cell-by steps = cells_by-each (basket_name basket_table) (text_by steps) (basket_cell steps) body_line each (taken_bodies steps)
  where
    asked : (what : Ask) → basket_cell_asked steps what ≡ cell_of_key (basket_name basket_table) (text_by steps) (asked_line what)
    asked (ask.Line customer key quantity voucher) = refl
    asked other = refl

    each : (b : Body) → basket_cell steps b ≡ cell_of_key (basket_name basket_table) (text_by steps) (body_line b)
    each (body.Asked request) = asked request.ask
    each other = refl

-- a line that a request leaves was asked for
asked_among : (c : ℕ) (q : ProductKey) (what : Ask) (accepted sent : Bool) (held : Held) → asked_leaves c q what accepted sent ≡ Some (Some held)
    → (lines : List (ℕ × ProductKey)) → is_among same_line_of (cons_option (asked_line what) lines) (c, q) ≡ true
asked_among c q (ask.Line d k quantity voucher) accepted sent held is lines = either (d == c) refl (same_key k q) refl accepted is
  where
    either : (a : Bool) → (d == c) ≡ a → (b : Bool) → same_key k q ≡ b → (e : Bool)
        → (if a && b && e then Some (Some (record { quantity = quantity; voucher = voucher })) else None) ≡ Some (Some held)
        → (((c == d) && same_key q k) || is_among same_line_of lines (c, q)) ≡ true
    either true at true same e is = rw (swap_numbers c d, at, same_key-swap q k, same) refl
    either true at false same e is = cc
    either false at b same e is = cc
asked_among c q (ask.Remove d k) accepted sent held is lines = either ((d == c) && same_key k q && accepted) is
  where
    either : (b : Bool) → (if b then Some None else None) ≡ Some (Some held) → is_among same_line_of lines (c, q) ≡ true
    either true is = cc
    either false is = cc
asked_among c q (ask.Checkout d) accepted sent held is lines = either ((d == c) && sent) is
  where
    either : (b : Bool) → (if b then Some None else None) ≡ Some (Some held) → is_among same_line_of lines (c, q) ≡ true
    either true is = cc
    either false is = cc
asked_among c q other accepted sent held is lines = cc

-- and so was one that a body leaves
body_among : (c : ℕ) (q : ProductKey) (b : Body) (accepted sent : Bool) (held : Held) → body_leaves c q b accepted sent ≡ Some (Some held)
    → (lines : List (ℕ × ProductKey)) → is_among same_line_of (cons_option (body_line b) lines) (c, q) ≡ true
body_among c q (body.Asked request) accepted sent held is lines = asked_among c q request.ask accepted sent held is lines
body_among c q other accepted sent held is lines = cc

-- and so was one that steps leave
steps_among : (steps : List Step) (c : ℕ) (q : ProductKey) (held : Held) → last_some (leaves c q) steps ≡ Some (Some held) → is_among same_line_of (lines_asked steps) (c, q) ≡ true
steps_among [] c q held is = cc
steps_among (s ∷ more) c q held is = either (last_some (leaves c q) more) is (λ rest. steps_among more c q held rest)
  where
    later : (o : Option (ℕ × ProductKey)) → is_among same_line_of (lines_asked more) (c, q) ≡ true → is_among same_line_of (cons_option o (lines_asked more)) (c, q) ≡ true
    later None any = any
    later (Some line) any = or_right (same_line_of (c, q) line) any

    either : (o : Option (Option Held)) → option_or o (leaves c q s) ≡ Some (Some held) → (o ≡ Some (Some held) → is_among same_line_of (lines_asked more) (c, q) ≡ true)
        → is_among same_line_of (cons_option (body_line s.body) (lines_asked more)) (c, q) ≡ true
    either None is rest = body_among c q s.body (is_accepted s) (is_sent_on s) held is (lines_asked more)
    either (Some o) is rest = later (body_line s.body) (rest is)

-- so each line that has a text is among those that were asked for
pub steps_all : (steps : List Step) → HasAll same_line_of (text_by steps) (lines_asked steps)
steps_all steps line some = by (last_some (leaves line.0 line.1) steps) refl some
  where
    by : (o : Option (Option Held)) → last_some (leaves line.0 line.1) steps ≡ o → is_some (held_text (joined o)) ≡ true → is_among same_line_of (lines_asked steps) line ≡ true
    by None is some = cc
    by (Some None) is some = cc
    by (Some (Some held)) is some = steps_among steps line.0 line.1 held is

-- the lines that a run asked for have well-formed customers and products
lines_formed : (bs : List Body) → list_all body_formed bs ≡ true → (line : ℕ × ProductKey) → is_among same_line_of (filter_map body_line bs) line ≡ true → (id_formed line.0 ≡ true) × (key_formed line.1 ≡ true)
lines_formed [] formed line among = cc
lines_formed (b ∷ bs) formed line among =
    let both = and_both (body_formed b) (list_all body_formed bs) formed in one b both.0 (lines_formed bs both.1 line) among
  where
    here : (d : ℕ) (k : ProductKey) → id_formed d ≡ true → key_formed k ≡ true → same_line_of line (d, k) ≡ true → (id_formed line.0 ≡ true) × (key_formed line.1 ≡ true)
    here d k small tiny same =
        let both = and_both (line.0 == d) (same_key line.1 k) same in
        (ap id_formed (eqb-true line.0 d both.0) ∙ small, ap key_formed (same_key-true line.1 k both.1) ∙ tiny)

    asked : (what : Ask) → ask_formed what ≡ true → (is_among same_line_of (filter_map body_line bs) line ≡ true → (id_formed line.0 ≡ true) × (key_formed line.1 ≡ true))
        → is_among same_line_of (cons_option (asked_line what) (filter_map body_line bs)) line ≡ true → (id_formed line.0 ≡ true) × (key_formed line.1 ≡ true)
    asked (ask.Line d k quantity voucher) formed rest among =
        let outer = and_both (id_formed d && key_formed k && quantity_formed quantity) (cents_formed voucher) formed in
        let middle = and_both (id_formed d && key_formed k) (quantity_formed quantity) outer.0 in
        let inner = and_both (id_formed d) (key_formed k) middle.0 in
        either (same_line_of line (d, k)) refl inner.0 inner.1 among
      where
        either : (b : Bool) → same_line_of line (d, k) ≡ b → id_formed d ≡ true → key_formed k ≡ true → (b || is_among same_line_of (filter_map body_line bs) line) ≡ true
            → (id_formed line.0 ≡ true) × (key_formed line.1 ≡ true)
        either true same small tiny among = here d k small tiny same
        either false same small tiny among = rest among
    asked other formed rest among = rest among

    one : (b : Body) → body_formed b ≡ true → (is_among same_line_of (filter_map body_line bs) line ≡ true → (id_formed line.0 ≡ true) × (key_formed line.1 ≡ true))
        → is_among same_line_of (cons_option (body_line b) (filter_map body_line bs)) line ≡ true → (id_formed line.0 ≡ true) × (key_formed line.1 ≡ true)
    one (body.Asked request) formed rest among = asked request.ask (and_both (request_id_formed request.id) (ask_formed request.ask) formed).1 rest among
    one other formed rest among = rest among

-- so the lines of a run that have a text are well formed
pub steps_within : (steps : List Step) → IsRunOf Role.Cart steps → Within IsBasketKey (text_by steps)
steps_within steps run line some =
    let both = lines_formed (taken_bodies steps) (taken_formed Role.Cart steps run) line (steps_all steps line some) in
    (leb-true line.0 id_max both.0, (key_decides line.1).0 both.1)

-- a look-up among the lines of a customer that finds something finds one of the keys
pub found_key : (es : List (ProductKey × Held)) (k : ProductKey) (v : Held) → line_held es k ≡ Some v → list_any (λ q. same_key k q) (keys_of es) ≡ true
found_key [] k v found = cc
found_key (e ∷ es) k v found = either (is_at (key_cmp k) e.0) refl (λ rest. found_key es k v rest) found
  where
    either : (b : Bool) → is_at (key_cmp k) e.0 ≡ b → (line_held es k ≡ Some v → list_any (λ q. same_key k q) (keys_of es) ≡ true)
        → cond b (Some e.1) (line_held es k) ≡ Some v → (same_key k e.0 || list_any (λ q. same_key k q) (keys_of es)) ≡ true
    either true at rest found = rw (sym (eq_by_key_cmp k e.0) ∙ at) refl
    either false at rest found = or_right (same_key k e.0) (rest found)

-- a product of a customer's keys is among the customer's lines
pub keys_among : (c : ℕ) (k : ProductKey) (keys : List ProductKey) → list_any (λ q. same_key k q) keys ≡ true → is_among same_line_of (map (λ q. (c, q)) keys) (c, k) ≡ true
keys_among c k [] any = any
keys_among c k (q ∷ keys) any = either (same_key k q) refl (keys_among c k keys) any
  where
    either : (b : Bool) → same_key k q ≡ b → (list_any (λ q. same_key k q) keys ≡ true → is_among same_line_of (map (λ q. (c, q)) keys) (c, k) ≡ true)
        → (b || list_any (λ q. same_key k q) keys) ≡ true → (((c == c) && same_key k q) || is_among same_line_of (map (λ q. (c, q)) keys) (c, k)) ≡ true
    either true same rest any = rw (eq-eqb c c refl, same) refl
    either false same rest any = or_right ((c == c) && same_key k q) (rest any)

-- of what one of these gives, all is among what they give
flat_among : (f : ℕ → List (ℕ × ProductKey)) (cs : List ℕ) (c : ℕ) (line : ℕ × ProductKey) → list_any (λ d. c == d) cs ≡ true → is_among same_line_of (f c) line ≡ true
    → is_among same_line_of (flat_map f cs) line ≡ true
flat_among f [] c line any here = cc
flat_among f (d ∷ cs) c line any here =
    list_any-append (λ other. same_line_of line other) (f d) (flat_map f cs) ∙ either (c == d) refl (λ rest. flat_among f cs c line rest here) any
  where
    left : (a b : Bool) → a ≡ true → (a || b) ≡ true
    left true b h = refl
    left false b h = cc

    either : (b : Bool) → (c == d) ≡ b → (list_any (λ d. c == d) cs ≡ true → is_among same_line_of (flat_map f cs) line ≡ true) → (b || list_any (λ d. c == d) cs) ≡ true
        → (is_among same_line_of (f d) line || is_among same_line_of (flat_map f cs) line) ≡ true
    either true same rest any = left (is_among same_line_of (f d) line) (is_among same_line_of (flat_map f cs) line) (ap (λ x. is_among same_line_of (f x) line) (sym (eqb-true c d same)) ∙ here)
    either false same rest any = or_right (is_among same_line_of (f d) line) (rest any)

-- the lines of all baskets
abbrev pub line_keys : List (ℕ × List (ProductKey × Held)) → List (ℕ × ProductKey)
line_keys baskets = flat_map (λ customer. keys_in customer (lines_at baskets customer)) (keys_of baskets)

-- each line that the baskets have a text of is among their lines
pub baskets_all : (baskets : List (ℕ × List (ProductKey × Held))) → HasAll same_line_of (basket_text_in baskets) (line_keys baskets)
baskets_all baskets line some = by (entry_at baskets line.0) refl some
  where
    inside : (lines : List (ProductKey × Held)) → entry_at baskets line.0 ≡ Some lines → is_some (held_line_text lines line) ≡ true → is_among same_line_of (line_keys baskets) line ≡ true
    inside lines found some = at (line_held lines line.1) refl some
      where
        at : (o : Option Held) → line_held lines line.1 ≡ o → is_some (held_text o) ≡ true → is_among same_line_of (line_keys baskets) line ≡ true
        at None is some = cc
        at (Some held) is some =
            flat_among (λ customer. keys_in customer (lines_at baskets customer)) (keys_of baskets) line.0 line (entry-among baskets line.0 lines found)
            (ap (λ (o : Option (List (ProductKey × Held))). is_among same_line_of (keys_in line.0 (unwrap_or o [])) line) found ∙ keys_among line.0 line.1 (keys_of lines) (found_key lines line.1 held is))

    by : (o : Option (List (ProductKey × Held))) → entry_at baskets line.0 ≡ o → is_some (held_line_text (unwrap_or o []) line) ≡ true → is_among same_line_of (line_keys baskets) line ≡ true
    by None found some = cc
    by (Some lines) found some = inside lines found some

-- the cells of the baskets are those of their lines
pub basket_cells-by : (baskets : List (ℕ × List (ProductKey × Held))) → basket_cells baskets ≡ cells_by (basket_name basket_table) (basket_text_in baskets) (line_keys baskets)
basket_cells-by baskets = flat (keys_of baskets)
  where
    keyed : (c : ℕ) (keys : List ProductKey) → cells_by (basket_name basket_table) (held_line_text (lines_at baskets c)) (map (λ key. (c, key)) keys)
        ≡ cells_by (basket_name basket_table) (basket_text_in baskets) (map (λ key. (c, key)) keys)
    keyed c [] = refl
    keyed c (k ∷ keys) = ap (cons_option (key_cell (basket_name basket_table) (basket_text_in baskets) (c, k))) (keyed c keys)

    flat : (cs : List ℕ) → flat_map (λ c. lines_cells c (lines_at baskets c)) cs ≡ cells_by (basket_name basket_table) (basket_text_in baskets) (flat_map (λ c. keys_in c (lines_at baskets c)) cs)
    flat [] = refl
    flat (c ∷ cs) =
        ap₂ (λ a b. a ++ b) (keyed c (keys_of (lines_at baskets c))) (flat cs)
        ∙ sym (filter_map-append (key_cell (basket_name basket_table) (basket_text_in baskets)) (keys_in c (lines_at baskets c)) (flat_map (λ c. keys_in c (lines_at baskets c)) cs))

-- the baskets have of each line what the steps leave
pub text_in-by : (baskets : List (ℕ × List (ProductKey × Held))) (steps : List Step) → ((customer : ℕ) → lines_at baskets customer ≡ basket_of steps customer)
    → (line : ℕ × ProductKey) → basket_text_in baskets line ≡ text_by steps line
text_in-by baskets steps lines line =
    ap (λ es. held_line_text es line) (lines line.0) ∙ ap held_text (sym (find-lookup key_cmp line.1 (basket_of steps line.0)) ∙ find-basket_of steps line.0 line.1)

module _ (baskets : List (ℕ × List (ProductKey × Held))) (steps : List Step) (run : IsRunOf Role.Cart steps) (lines : (customer : ℕ) → lines_at baskets customer ≡ basket_of steps customer) where
  within : Within IsBasketKey (basket_text_in baskets)
  within line some = steps_within steps run line (ap is_some (sym (text_in-by baskets steps lines line)) ∙ some)

  -- the cells of the baskets have at each name what those of the steps have
  pub basket_cells-same : (name : CellName) → last_some (value_at name) (basket_cells baskets) ≡ last_some (value_at name) (filter_map (basket_cell steps) (taken_bodies steps))
  basket_cells-same name =
      ap (last_some (value_at name)) (basket_cells-by baskets)
      ∙ alike (basket_naming basket_table) (basket_text_in baskets) (text_by steps) within (steps_within steps run) (line_keys baskets) (lines_asked steps) (baskets_all baskets) (steps_all steps)
      name (λ line small is. text_in-by baskets steps lines line)
      ∙ sym (ap (last_some (value_at name)) (basket_cell-by steps))

-- what stands of the lines of the baskets, after steps
abbrev pub line_cells : List Step → List Cell
line_cells steps = filter_map (basket_cell steps) (taken_bodies steps)

-- what both tables have at a name, one behind the other
pub cart_cells-parts : (steps : List Step) (name : CellName) → last_some (value_at name) (all_cells Role.Cart steps)
    ≡ option_or (last_some (value_at name) (line_cells steps)) (last_some (value_at name) (look_cells copy_table (changes_taken steps)))
cart_cells-parts steps name = last_some-append (value_at name) (look_cells copy_table (changes_taken steps)) (line_cells steps)

-- so what is told of the tables is what is told of the steps
pub cells_told : (kept : CartTables) (steps : List Step) → Stands Role.Cart Holds kept steps
    → entry_cells_of (put_all [] (copy_cells copy_table kept.copy ++ basket_cells kept.baskets)) ≡ cells_of Role.Cart steps
cells_told kept steps stands =
    entries_told Role.Cart steps (put_all [] (copy_cells copy_table kept.copy ++ basket_cells kept.baskets)) (copy_cells copy_table kept.copy ++ basket_cells kept.baskets) refl
    (λ name. last_some-append (value_at name) (copy_cells copy_table kept.copy) (basket_cells kept.baskets)
    ∙ ap₂ option_or (basket_cells-same kept.baskets steps stands.run stands.held.lines name)
    (copy_cells-same copy_table kept.copy (changes_taken steps) stands.held.copied (changes_taken-keys Role.Cart steps stands.run) name)
    ∙ sym (cart_cells-parts steps name))
