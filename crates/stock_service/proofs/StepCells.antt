-- The cells of stock, by the steps of a run.
use Rattle.std.proofs.Common.{◌≡◌, ℕ, ◌+◌, ◌≤◌, Bool, true, false, cond, ◌&&◌, ◌||◌, List, [], ◌∷◌, ◌++◌, map, filter_map, find, Option, Some, None, is_some, option_map, count_by, codes, if◌then◌else◌, refl, ap, ap₂, sym, ◌∙◌, append_assoc, arith}
use Rattle.std.specs.List.{cons_option, join_with_byte}
use Rattle.std.specs.Option.{option_or}
use Rattle.std.proofs.lemmas.List.Folds.{find-append}
use Rattle.std.proofs.lemmas.List.Sums.{sum_by-append, sum_by-cons}
use Rattle.cart_replica.specs.CopyCells.{copy_table}
use Rattle.market_amounts.specs.declared.keys.ProductKey.{ProductKey}
use Rattle.market_amounts.specs.declared.keys.RequestId.{RequestId}
use Rattle.market_events.specs.declared.bodies.Body.{Body}
use Rattle.market_events.specs.declared.bodies.Body.TheVariants as body
use Rattle.market_events.specs.declared.bodies.PricedLine.{PricedLine}
use Rattle.market_events.specs.declared.cells.Cell.{Cell}
use Rattle.market_events.specs.declared.cells.CellName.{CellName}
use Rattle.market_events.specs.declared.requests.Ask.{Ask}
use Rattle.market_events.specs.declared.requests.Ask.TheVariants as ask
use Rattle.market_events.specs.Carts.{changes_taken, is_accepted}
use Rattle.market_events.specs.CellLists.{Within, cells_by}
use Rattle.market_events.specs.Cells.{level_cell, level_cell_asked, level_cell_of, held_cell, held_line, with_value, look_cells, stock_cells}
use Rattle.market_events.specs.Copies.{last_some}
use Rattle.market_events.specs.Orders.{is_of}
use Rattle.market_events.specs.Requests.{same_key, same_id}
use Rattle.market_events.specs.declared.roles.Role.{Role}
use Rattle.market_events.specs.Services.{IsRunOf}
use Rattle.market_events.specs.Steps.{Step}
use Rattle.market_events.specs.Stocks.{Reservation, reservations, is_settled, on_hand, reserved}
use Rattle.market_events.specs.Texts.{key_text, id_text}
use Rattle.market_events.specs.WellFormed.{IsKey, IsRequestId}
use Rattle.market_events.proofs.Values.Formed.{key_decides, request_id_decides}
use Rattle.market_events.proofs.NamedCells.Named.{value_at}
use Rattle.market_events.proofs.NamedCells.Keyed.{HasAll, is_among, last_some-append}
use Rattle.market_events.proofs.Values.Lists.{or_true, any-none}
use Rattle.market_events.proofs.Steps.Reservations.{found-none}
use Rattle.market_events.proofs.Values.Same.{same_key-true, same_key-self, same_id-self, same_id-swap}
use Rattle.market_events.proofs.Runs.Stock.{reserved_once}
use Rattle.stock_service.specs.Cells.{level_name, held_name, pieces_text, lines_value}
use Rattle.stock_service.specs.Holds.{stocks_in, stocks_asked, was_stocked, lines_held}
use Rattle.stock_service.proofs.Formed.{stocked-formed, held-formed}

-- the texts of levels and of reservations, by the steps
abbrev pub levels_by : List Step → ProductKey → Option (List ℕ)
levels_by steps key = if was_stocked steps key then Some (pieces_text (on_hand steps key) (reserved steps key)) else None

-- the text of what a checkout holds, by the steps
abbrev pub held_by : List Step → RequestId → Option (List ℕ)
held_by steps id = lines_value (lines_held steps id)

-- the product that a step stocked
abbrev pub key_asked : Ask → Option ProductKey
key_asked (ask.Stock key pieces) = Some key
key_asked other = None

-- the product that a body stocks
abbrev pub key_in : Body → Option ProductKey
key_in (body.Asked request) = key_asked request.ask
key_in other = None

-- the product that a step stocked, where it was accepted
abbrev pub key_stocked : Step → Option ProductKey
key_stocked s = if is_accepted s then key_in s.body else None

-- the products that steps stocked
abbrev pub keys_stocked : List Step → List ProductKey
keys_stocked steps = filter_map key_stocked steps

-- a step stocked the product that it stocked
one_stocked : (s : Step) (key : ProductKey) → key_stocked s ≡ Some key → (is_accepted s && stocks_in key s.body) ≡ true
one_stocked s key is = accepted (is_accepted s) s.body is
  where
    one : {A : Type 0} {x y : A} → Some x ≡ Some y → x ≡ y
    one e = cc

    asked : (what : Ask) → key_asked what ≡ Some key → stocks_asked key what ≡ true
    asked (ask.Stock k pieces) is = ap (λ k. same_key k key) (one is) ∙ same_key-self key
    asked other is = cc

    in_body : (b : Body) → key_in b ≡ Some key → stocks_in key b ≡ true
    in_body (body.Asked request) is = asked request.ask is
    in_body other is = cc

    accepted : (a : Bool) (b : Body) → (if a then key_in b else None) ≡ Some key → (a && stocks_in key b) ≡ true
    accepted true b is = in_body b is
    accepted false b is = cc

-- the cell of the level of a product, by the steps
abbrev said : List Step → ProductKey → Cell
said steps key = record { name = level_name key; value = pieces_text (on_hand steps key) (reserved steps key) }

-- a step has the cell of the product that it stocked
level_cell-is : (steps : List Step) (s : Step) → level_cell steps s ≡ option_map (said steps) (key_stocked s)
level_cell-is steps s = accepted (is_accepted s) s.body
  where
    asked : (what : Ask) → level_cell_asked steps what ≡ option_map (said steps) (key_asked what)
    asked (ask.Stock key pieces) = refl
    asked other = refl

    in_body : (b : Body) → level_cell_of steps b ≡ option_map (said steps) (key_in b)
    in_body (body.Asked request) = asked request.ask
    in_body other = refl

    accepted : (a : Bool) (b : Body) → (if a then level_cell_of steps b else None) ≡ option_map (said steps) (if a then key_in b else None)
    accepted true b = in_body b
    accepted false b = refl

-- the cells of the levels
level_cells-from : (steps xs : List Step) → ((key : ProductKey) → was_stocked xs key ≡ true → was_stocked steps key ≡ true)
    → filter_map (level_cell steps) xs ≡ cells_by level_name (levels_by steps) (keys_stocked xs)
level_cells-from steps [] all = refl
level_cells-from steps (s ∷ more) all =
    ap (λ (o : Option Cell). cons_option o (filter_map (level_cell steps) more)) (level_cell-is steps s)
    ∙ by (key_stocked s) refl (level_cells-from steps more (λ key is. all key (or_true (is_accepted s && stocks_in key s.body) (was_stocked more key) is)))
  where
    or_first : (a b : Bool) → a ≡ true → (a || b) ≡ true
    or_first true b h = refl
    or_first false b h = cc

    by : (o : Option ProductKey) → key_stocked s ≡ o → filter_map (level_cell steps) more ≡ cells_by level_name (levels_by steps) (keys_stocked more)
        → cons_option (option_map (said steps) o) (filter_map (level_cell steps) more) ≡ cells_by level_name (levels_by steps) (cons_option o (keys_stocked more))
    by None is rest = rest
    by (Some key) is rest =
        let there = all key (or_first (is_accepted s && stocks_in key s.body) (was_stocked more key) (one_stocked s key is)) in
        ap (λ cells. said steps key ∷ cells) rest
        ∙ sym (ap (λ b. cons_option (with_value (codes "stock") (key_text key) (if b then Some (pieces_text (on_hand steps key) (reserved steps key)) else None)) (cells_by level_name (levels_by steps) (keys_stocked more))) there)

-- so the cells of the levels are those of the products that were stocked
pub level_cells-by : (steps : List Step) → filter_map (level_cell steps) steps ≡ cells_by level_name (levels_by steps) (keys_stocked steps)
level_cells-by steps = level_cells-from steps steps (λ key is. is)

-- each product of which pieces were stocked is among those of the steps
stocked-among : (steps : List Step) (key : ProductKey) → was_stocked steps key ≡ true → is_among same_key (keys_stocked steps) key ≡ true
stocked-among [] key is = cc
stocked-among (s ∷ more) key is = first (is_accepted s && stocks_in key s.body) refl (λ later. stocked-among more key later) is
  where
    asked : (what : Ask) → stocks_asked key what ≡ true → key_asked what ≡ Some key
    asked (ask.Stock k pieces) is = ap (λ k. Some k) (same_key-true k key is)
    asked other is = cc

    in_body : (b : Body) → stocks_in key b ≡ true → key_in b ≡ Some key
    in_body (body.Asked request) is = asked request.ask is
    in_body other is = cc

    accepted : (a : Bool) (b : Body) → (a && stocks_in key b) ≡ true → (if a then key_in b else None) ≡ Some key
    accepted true b is = in_body b is
    accepted false b is = cc

    later : (o : Option ProductKey) → is_among same_key (keys_stocked more) key ≡ true → is_among same_key (cons_option o (keys_stocked more)) key ≡ true
    later None is = is
    later (Some k) is = or_true (same_key key k) (is_among same_key (keys_stocked more) key) is

    or_first : (a b : Bool) → a ≡ true → (a || b) ≡ true
    or_first true b h = refl
    or_first false b h = cc

    first : (b : Bool) → (is_accepted s && stocks_in key s.body) ≡ b → (was_stocked more key ≡ true → is_among same_key (keys_stocked more) key ≡ true) → (b || was_stocked more key) ≡ true → is_among same_key (keys_stocked (s ∷ more)) key ≡ true
    first true here rest is =
        ap (λ (o : Option ProductKey). is_among same_key (cons_option o (keys_stocked more)) key) (accepted (is_accepted s) s.body here)
        ∙ or_first (same_key key key) (is_among same_key (keys_stocked more) key) (same_key-self key)
    first false other rest is = later (key_stocked s) (rest is)

-- a text that is there is of a product that was stocked
some_level : (steps : List Step) (key : ProductKey) → is_some (levels_by steps key) ≡ true → was_stocked steps key ≡ true
some_level steps key some = by (was_stocked steps key) some
  where
    by : (b : Bool) → is_some (if b then Some (pieces_text (on_hand steps key) (reserved steps key)) else None) ≡ true → b ≡ true
    by true some = refl
    by false some = cc

-- each product that has a text is among those that were stocked
pub levels-all : (steps : List Step) → HasAll same_key (levels_by steps) (keys_stocked steps)
levels-all steps key some = stocked-among steps key (some_level steps key some)

-- and its key is well formed
pub levels-within : (steps : List Step) → IsRunOf Role.Stock steps → Within IsKey (levels_by steps)
levels-within steps run key some = (key_decides key).0 (stocked-formed steps run key (some_level steps key some))

-- the cells of the reservations
abbrev pub checkouts : List Reservation → List RequestId
checkouts rs = map (λ (r : Reservation). r.checkout) rs

-- the cells of some reservations, behind those in front of them
held_cells-from : (steps : List Step) → IsRunOf Role.Stock steps → (before more : List Reservation) → reservations steps ≡ before ++ more
    → filter_map (held_cell steps) more ≡ cells_by held_name (held_by steps) (checkouts more)
held_cells-from steps run before [] is = refl
held_cells-from steps run before (r ∷ more) is =
    ap₂ cons_option (by (is_settled steps r.checkout)) (held_cells-from steps run (before ++ r ∷ []) more (is ∙ sym (append_assoc before (r ∷ []) more)))
    ∙ refl
  where
    counted : count_by (is_of r.checkout) before + count_by (is_of r.checkout) (r ∷ more) ≤ 1
    counted = omega (
      arith,
      reserved_once steps run r.checkout,
      ap (count_by (is_of r.checkout)) is,
      sum_by-append (λ (q : Reservation). cond (is_of r.checkout q) 1 0) before (r ∷ more),
    )

    itself : count_by (is_of r.checkout) (r ∷ more) ≡ 1 + count_by (is_of r.checkout) more
    itself = sum_by-cons (λ (q : Reservation). cond (is_of r.checkout q) 1 0) r more ∙ ap (λ b. cond b 1 0 + count_by (is_of r.checkout) more) (same_id-self r.checkout)

    found : find (is_of r.checkout) (reservations steps) ≡ Some r
    found =
        ap (find (is_of r.checkout)) is ∙ find-append (is_of r.checkout) before (r ∷ more)
        ∙ ap (λ (o : Option Reservation). option_or o (find (is_of r.checkout) (r ∷ more))) (found-none r.checkout before (any-none (is_of r.checkout) before (omega (arith, counted, itself))))
        ∙ ap (λ b. cond b (Some r) (find (is_of r.checkout) more)) (same_id-self r.checkout)

    by : (b : Bool) → (if b then None else Some (record { name = held_name r.checkout; value = join_with_byte 59 (map held_line r.lines) }))
        ≡ with_value (codes "held") (id_text r.checkout) (lines_value (if b then None else option_map (λ (r : Reservation). r.lines) (find (is_of r.checkout) (reservations steps))))
    by true = refl
    by false = sym (ap (λ (o : Option Reservation). with_value (codes "held") (id_text r.checkout) (lines_value (option_map (λ (r : Reservation). r.lines) o))) found)

-- so the cells of what is held are those of the reservations
pub held_cells-by : (steps : List Step) → IsRunOf Role.Stock steps → filter_map (held_cell steps) (reservations steps) ≡ cells_by held_name (held_by steps) (checkouts (reservations steps))
held_cells-by steps run = held_cells-from steps run [] (reservations steps) refl

-- a reservation that is found is among them
found-among : (id : RequestId) (rs : List Reservation) (r : Reservation) → find (is_of id) rs ≡ Some r → is_among same_id (checkouts rs) id ≡ true
found-among id [] r found = cc
found-among id (q ∷ rs) r found = by (is_of id q) refl found (λ more. found-among id rs r more)
  where
    or_first : (a b : Bool) → a ≡ true → (a || b) ≡ true
    or_first true b h = refl
    or_first false b h = cc

    by : (b : Bool) → is_of id q ≡ b → cond b (Some q) (find (is_of id) rs) ≡ Some r → (find (is_of id) rs ≡ Some r → is_among same_id (checkouts rs) id ≡ true) → (same_id id q.checkout || is_among same_id (checkouts rs) id) ≡ true
    by true is found rest = or_first (same_id id q.checkout) (is_among same_id (checkouts rs) id) (same_id-swap id q.checkout ∙ is)
    by false is found rest = or_true (same_id id q.checkout) (is_among same_id (checkouts rs) id) (rest found)

record Held (steps : List Step) (id : RequestId) : Type 0 where
  lines : List PricedLine
  is : lines_held steps id ≡ Some lines

-- a checkout that has a text holds lines
some_held : (steps : List Step) (id : RequestId) → is_some (held_by steps id) ≡ true → Held steps id
some_held steps id some = by (lines_held steps id) refl some
  where
    by : (o : Option (List PricedLine)) → lines_held steps id ≡ o → is_some (lines_value o) ≡ true → Held steps id
    by None is some = cc
    by (Some lines) is some = record { lines = lines; is = is }

-- each checkout that has a text is among the reservations
pub held-all : (steps : List Step) → HasAll same_id (held_by steps) (checkouts (reservations steps))
held-all steps id some = by (is_settled steps id) (find (is_of id) (reservations steps)) refl (some_held steps id some).is
  where
    by : {lines : List PricedLine} (b : Bool) (o : Option Reservation) → find (is_of id) (reservations steps) ≡ o → (if b then None else option_map (λ (r : Reservation). r.lines) o) ≡ Some lines → is_among same_id (checkouts (reservations steps)) id ≡ true
    by true o found e = cc
    by false None found e = cc
    by false (Some r) found e = found-among id (reservations steps) r found

-- and its id is well formed
pub held-within : (steps : List Step) → IsRunOf Role.Stock steps → Within IsRequestId (held_by steps)
held-within steps run id some = let h = some_held steps id some in (request_id_decides id).0 (held-formed steps run id h.lines h.is).checkout

-- what the three tables have at a name, one behind the other
pub stock_cells-parts : (steps : List Step) (name : CellName) → last_some (value_at name) (stock_cells steps)
    ≡ option_or (last_some (value_at name) (filter_map (held_cell steps) (reservations steps)))
    (option_or (last_some (value_at name) (filter_map (level_cell steps) steps)) (last_some (value_at name) (look_cells copy_table (changes_taken steps))))
stock_cells-parts steps name =
    last_some-append (value_at name) (look_cells copy_table (changes_taken steps) ++ filter_map (level_cell steps) steps) (filter_map (held_cell steps) (reservations steps))
    ∙ ap (option_or (last_some (value_at name) (filter_map (held_cell steps) (reservations steps))))
    (last_some-append (value_at name) (look_cells copy_table (changes_taken steps)) (filter_map (level_cell steps) steps))
