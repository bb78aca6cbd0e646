-- The names that a body touches cover what a step with it changes.
use Rattle.std.proofs.Common.{◌≡◌, ℕ, ◌+◌, true, false, ◌&&◌, ◌||◌, not, List, [], ◌∷◌, ◌++◌, filter_map, Option, Some, None, IfSome, length, nat_le, ◌≤◌, arith, codes, if◌then◌else◌, refl, ap, sym, subst, ◌∙◌}
use Rattle.std.specs.List.{list_any, list_all, IsDistinct}
use Rattle.std.proofs.lemmas.Bool.Decides.{nat_tests}
use Rattle.std.specs.Option.{option_or}
use Rattle.std.specs.Ordering.{is_eq}
use Rattle.std.proofs.lemmas.Bool.{or_parts, or_from, false_from_ne_true, both_ways}
use Rattle.std.proofs.Math.Logic.{∥∥₁_elim}
use Rattle.std.specs.Coded.{le_prop}
use Rattle.cart_replica.specs.CopyCells.{copy_table}
use Rattle.market_amounts.specs.declared.keys.ProductKey.{ProductKey}
use Rattle.market_amounts.specs.declared.keys.RequestId.{RequestId}
use Rattle.market_events.specs.declared.bodies.Body.{Body}
use Rattle.market_events.specs.declared.bodies.Body.TheVariants as body
use Rattle.market_events.specs.declared.bodies.PayRule.{PayRule}
use Rattle.market_events.specs.declared.bodies.PricedLine.{PricedLine}
use Rattle.market_events.specs.declared.bodies.StockRule.{StockRule}
use Rattle.market_events.specs.declared.cells.CellName.{CellName}
use Rattle.market_events.specs.declared.changes.Change.{Change}
use Rattle.market_events.specs.declared.links.Link.{Link}
use Rattle.market_events.specs.declared.links.TheConstants.{STOCK_TO_ORDER}
use Rattle.market_events.specs.declared.requests.Ask.{Ask}
use Rattle.market_events.specs.declared.requests.Ask.TheVariants as ask
use Rattle.market_events.specs.declared.requests.Request.{Request}
use Rattle.market_events.specs.Carts.{changes_taken}
use Rattle.market_events.specs.Cells.{cells_of, level_cell, held_cell, look_cells, text_cmp}
use Rattle.market_events.specs.Copies.{last_some, copy_of}
use Rattle.market_events.specs.Formed.{key_formed, id_formed, change_formed, line_formed, lines_formed}
use Rattle.market_events.specs.Orders.{is_taken}
use Rattle.market_events.specs.Requests.{same_key, same_id}
use Rattle.market_events.specs.declared.roles.Role.{Role}
use Rattle.market_events.specs.Services.{IsRunOf, fits, reserves, is_known}
use Rattle.market_events.specs.Standing.{Stands, CanTake, step_of, with_step, same_name, is_named, value_of, may_change, tables_of, most_by_ask}
use Rattle.market_events.specs.Steps.{Step, body_on}
use Rattle.market_events.specs.Stocks.{reservation_in, reservations, first_some, line_refusal, reserve_rows, stock_sums, on_hand}
use Rattle.market_events.specs.WellFormed.{keys_rise, most_lines}
use Rattle.market_events.proofs.NamedCells.Named.{value_at, same_name-same}
use Rattle.market_events.proofs.NamedCells.Keyed.{alike, key_naming, id_naming, covers_told}
use Rattle.market_events.proofs.Values.Lists.{and_both, not_true, or_false}
use Rattle.market_events.proofs.Values.Same.{same_key-true, same_id-true}
use Rattle.market_events.proofs.Runs.Standing.{is_run_push, follows_step_of}
use Rattle.market_events.proofs.Steps.Taken.{fits-parts, changes_taken-push}
use Rattle.market_events.proofs.Runs.Stock.{answers-stock, checkout_formed-lines}
use Rattle.market_events.proofs.Steps.Stock.{no_reservations}
use Rattle.market_events.proofs.NamedCells.Touched.{named_none, or_may_change, one_may_change, any_may_change}
use Rattle.cart_replica.proofs.CopyCells.{look_cells-push, changes_taken-keys}
use Rattle.cart_replica.proofs.Names.{one_distinct, none_distinct}
use Rattle.cart_replica.proofs.Taking.{looks_still}
use Rattle.stock_service.specs.declared.levels.Act.TheVariants.{Reserve, Sell, Release}
use Rattle.stock_service.specs.Cells.{copy_name, level_name, held_name, is_touched, asked_names, pieces_text, lines_value}
use Rattle.stock_service.specs.declared.service.Stocks.{Stocks}
use Rattle.stock_service.specs.Holds.{Holds, amounts_by, was_stocked, lines_held}
use Rattle.stock_service.specs.Tables.{lines_at}
use Rattle.stock_service.specs.Amounts.{can_stock}
use Rattle.stock_service.proofs.Steps.{Waits, confirmed_waits, failed_waits, at_waiting, fits_as}
use Rattle.stock_service.proofs.Formed.{held-formed}
use Rattle.stock_service.proofs.StepCells.{levels_by, held_by, level_cells-by, held_cells-by, keys_stocked, checkouts, levels-all, levels-within, held-all, held-within, stock_cells-parts}
use Rattle.stock_service.proofs.Sums.{IsQuiet, quiet-amounts, quiet-lines, unstocked-there, body-quiet, reserved-amounts, reserved-there, reserved-lines, settled-lines, confirmed-amounts, failed-amounts, Stocked, stocked-by, asked-quiet, stocks-other}
use Rattle.stock_service.proofs.Acts.{is_lined, after-none}

-- what stays as it was at a name
pub record Stays (steps : List Step) (s : Step) (name : CellName) : Type 0 where
  pub looks : last_some (value_at name) (look_cells copy_table (changes_taken (steps ++ s ∷ []))) ≡ last_some (value_at name) (look_cells copy_table (changes_taken steps))
  pub amounts : (key : ProductKey) → name ≡ level_name key → amounts_by (steps ++ s ∷ []) key ≡ amounts_by steps key
  pub there : (key : ProductKey) → name ≡ level_name key → was_stocked (steps ++ s ∷ []) key ≡ was_stocked steps key
  pub lines : (id : RequestId) → name ≡ held_name id → lines_held (steps ++ s ∷ []) id ≡ lines_held steps id

-- then the value of its cell does
pub stays_told : (steps : List Step) (s : Step) (name : CellName) → IsRunOf Role.Stock steps → IsRunOf Role.Stock (steps ++ s ∷ []) → Stays steps s name
    → value_of (cells_of Role.Stock (steps ++ s ∷ [])) name ≡ value_of (cells_of Role.Stock steps) name
stays_told steps s name run next stays = covers_told Role.Stock steps (steps ++ s ∷ []) name
    (stock_cells-parts (steps ++ s ∷ []) name ∙ (λ i. option_or (held i) (option_or (levels i) (stays.looks i))) ∙ sym (stock_cells-parts steps name))
  where
    level : (key : ProductKey) → name ≡ level_name key → levels_by (steps ++ s ∷ []) key ≡ levels_by steps key
    level key is = λ i. if stays.there key is i then Some (pieces_text (stays.amounts key is i).on_hand (stays.amounts key is i).reserved) else None

    levels : last_some (value_at name) (filter_map (level_cell (steps ++ s ∷ [])) (steps ++ s ∷ [])) ≡ last_some (value_at name) (filter_map (level_cell steps) steps)
    levels =
        ap (last_some (value_at name)) (level_cells-by (steps ++ s ∷ []))
        ∙ alike (key_naming (codes "stock")) (levels_by (steps ++ s ∷ [])) (levels_by steps) (levels-within (steps ++ s ∷ []) next) (levels-within steps run)
        (keys_stocked (steps ++ s ∷ [])) (keys_stocked steps) (levels-all (steps ++ s ∷ [])) (levels-all steps) name (λ key small is. level key is)
        ∙ sym (ap (last_some (value_at name)) (level_cells-by steps))

    held : last_some (value_at name) (filter_map (held_cell (steps ++ s ∷ [])) (reservations (steps ++ s ∷ []))) ≡ last_some (value_at name) (filter_map (held_cell steps) (reservations steps))
    held =
        ap (last_some (value_at name)) (held_cells-by (steps ++ s ∷ []) next)
        ∙ alike (id_naming (codes "held")) (held_by (steps ++ s ∷ [])) (held_by steps) (held-within (steps ++ s ∷ []) next) (held-within steps run)
        (checkouts (reservations (steps ++ s ∷ []))) (checkouts (reservations steps)) (held-all (steps ++ s ∷ [])) (held-all steps) name (λ id small is. ap lines_value (stays.lines id is))
        ∙ sym (ap (last_some (value_at name)) (held_cells-by steps run))

-- a name that is not that of a key is that of another key
other_key : (name : CellName) (k key : ProductKey) → same_name name (level_name k) ≡ false → name ≡ level_name key → same_key k key ≡ false
other_key name k key other is = false_from_ne_true (same_key k key) (λ same.
    both_ways _ other (ap (λ n. same_name n (level_name k)) (is ∙ ap level_name (sym (same_key-true k key same))) ∙ same_name-same (level_name k)))

-- the same of a checkout
other_id : (name : CellName) (checkout id : RequestId) → same_name name (held_name checkout) ≡ false → name ≡ held_name id → same_id checkout id ≡ false
other_id name checkout id other is = false_from_ne_true (same_id checkout id) (λ same.
    both_ways _ other (ap (λ n. same_name n (held_name checkout)) (is ∙ ap held_name (sym (same_id-true checkout id same))) ∙ same_name-same (held_name checkout)))

-- and of the products of lines
other_keys : (name : CellName) (lines : List PricedLine) (key : ProductKey) → list_any (λ (line : PricedLine). same_name name (level_name line.key)) lines ≡ false → name ≡ level_name key → is_lined key lines ≡ false
other_keys name [] key other is = refl
other_keys name (line ∷ more) key other is =
    let both = or_parts (same_name name (level_name line.key)) (list_any (λ (line : PricedLine). same_name name (level_name line.key)) more) other in
    or_from (same_key line.key key) (is_lined key more) (other_key name line.key key both.0 is) (other_keys name more key both.1 is)

module _ (steps : List Step) (from : Link) (name : CellName) (run : IsRunOf Role.Stock steps) where
  -- a step that touches no level and nothing that is held
  quiet_stays : (s : Step) → IsQuiet steps s → last_some (value_at name) (look_cells copy_table (changes_taken (steps ++ s ∷ []))) ≡ last_some (value_at name) (look_cells copy_table (changes_taken steps)) → Stays steps s name
  quiet_stays s q looks = record {
    looks = looks;
    amounts = λ key is. quiet-amounts steps s q key;
    there = λ key is. unstocked-there steps s key (q.unstocked key);
    lines = λ id is. quiet-lines steps s q id;
  }

  -- a change leaves all but the cell of its product
  pub changed_stays : (key : ProductKey) (version : ℕ) (change : Change) → fits Role.Stock steps from (body.Changed key version change) ≡ true → same_name name (copy_name key) ≡ false
      → Stays steps (step_of Role.Stock steps from (body.Changed key version change)) name
  changed_stays key version change fit other =
      let s = step_of Role.Stock steps from (body.Changed key version change) in
      let outer = and_both (key_formed key && id_formed version) (change_formed change) (fits-parts Role.Stock steps from (body.Changed key version change) fit).formed in
      quiet_stays s (body-quiet steps s (body.Changed key version change) refl (no_reservations s (answers-stock steps from (body.Changed key version change))) (λ id. refl) (λ key. refl) (λ key. refl))
      (ap (λ changes. last_some (value_at name) (look_cells copy_table changes)) (changes_taken-push steps s)
      ∙ look_cells-push copy_table (changes_taken steps) (record { key = key; version = version; change = change }) (changes_taken-keys Role.Stock steps run) (and_both (key_formed key) (id_formed version) outer.0).0 name other)

  -- a request that stocks nothing leaves all
  pub asked_stays : (id : RequestId) (asks : Ask) → ((key : ProductKey) (pieces : ℕ) → asks ≡ ask.Stock key pieces → ⊥) → Stays steps (step_of Role.Stock steps from (body.Asked (record { id = id; ask = asks }))) name
  asked_stays id asks other =
      let s = step_of Role.Stock steps from (body.Asked (record { id = id; ask = asks })) in
      quiet_stays s (asked-quiet steps s id asks refl (answers-stock steps from (body.Asked (record { id = id; ask = asks }))) other) (looks_still copy_table name steps s refl)

  -- a request for stock leaves all but the level of its product
  pub stock_stays : (id : RequestId) (k : ProductKey) (pieces : ℕ) → same_name name (level_name k) ≡ false → Stays steps (step_of Role.Stock steps from (body.Asked (record { id = id; ask = ask.Stock k pieces }))) name
  stock_stays id k pieces other =
      let s = step_of Role.Stock steps from (body.Asked (record { id = id; ask = ask.Stock k pieces })) in
      let can = can_stock (copy_of (changes_taken steps) k) pieces (on_hand steps k) in
      let stocked : Stocked steps s run id k pieces refl (can_stock (copy_of (changes_taken steps) k) pieces (on_hand steps k))
      = stocked-by steps s run id k pieces refl (copy_of (changes_taken steps) k) (answers-stock steps from (body.Asked (record { id = id; ask = ask.Stock k pieces }))) in
      record {
        looks = looks_still copy_table name steps s refl;
        amounts = λ key is. stocked.each key
            ∙ ap (λ b. if b && can_stock (copy_of (changes_taken steps) k) pieces (on_hand steps k) then (let was = amounts_by steps k in record was { on_hand = was.on_hand + pieces }) else amounts_by steps key) (other_key name k key other is);
        there = λ key is. stocked.there key ∙ ap (λ b. was_stocked steps key || (b && can_stock (copy_of (changes_taken steps) k) pieces (on_hand steps k))) (other_key name k key other is) ∙ or_false (was_stocked steps key);
        lines = λ checkout is. stocked.lines checkout;
      }

  -- a reservation leaves all but the levels of its lines and what its checkout holds
  pub reserve_stays : (checkout : RequestId) (customer : ℕ) (lines : List PricedLine) → fits Role.Stock steps from (body.Reserve checkout customer lines) ≡ true
      → is_touched checkout lines name ≡ false → Stays steps (step_of Role.Stock steps from (body.Reserve checkout customer lines)) name
  reserve_stays checkout customer lines fit other = by (first_some (line_refusal (stock_sums steps)) lines) (answers-stock steps from (body.Reserve checkout customer lines))
    where
      apart : (same_name name (held_name checkout) ≡ false) × (list_any (λ (line : PricedLine). same_name name (level_name line.key)) lines ≡ false)
      apart = or_parts (same_name name (held_name checkout)) (list_any (λ (line : PricedLine). same_name name (level_name line.key)) lines) other

      by : (o : Option (ProductKey × StockRule)) → (step_of Role.Stock steps from (body.Reserve checkout customer lines)).made ≡ reserve_rows checkout customer lines o → Stays steps (step_of Role.Stock steps from (body.Reserve checkout customer lines)) name
      by (Some refusal) made =
          quiet_stays (step_of Role.Stock steps from (body.Reserve checkout customer lines)) (body-quiet steps (step_of Role.Stock steps from (body.Reserve checkout customer lines)) (body.Reserve checkout customer lines) refl
          (ap (λ m. filter_map reservation_in (filter_map (body_on STOCK_TO_ORDER) m)) made) (λ id. refl) (λ key. refl) (λ key. refl)) (looks_still copy_table name steps (step_of Role.Stock steps from (body.Reserve checkout customer lines)) refl)
      by None made =
          let due = and_both (not (is_taken reserves steps checkout)) (list_all (λ (line : PricedLine). is_known (copy_of (changes_taken steps) line.key)) lines) (fits-parts Role.Stock steps from (body.Reserve checkout customer lines) fit).due in
          let new = not_true (is_taken reserves steps checkout) due.0 in
          let s = step_of Role.Stock steps from (body.Reserve checkout customer lines) in
          record {
            looks = looks_still copy_table name steps s refl;
            amounts = λ key is. reserved-amounts steps s run checkout customer lines refl made new key ∙ after-none Reserve key lines (amounts_by steps key) (other_keys name lines key apart.1 is);
            there = λ key is. reserved-there steps s run checkout customer lines refl made new key;
            lines = λ id is. reserved-lines steps s run checkout customer lines refl made new id ∙ ap (λ b. if b then Some lines else lines_held steps id) (other_id name checkout id apart.0 is);
          }

  -- a checkout is settled, whose lines are these
  module _ (checkout : RequestId) (customer : ℕ) (w : Waits steps checkout)
      (other : is_touched checkout w.reservation.lines name ≡ false) where
    apart : (same_name name (held_name checkout) ≡ false) × (list_any (λ (line : PricedLine). same_name name (level_name line.key)) w.reservation.lines ≡ false)
    apart = or_parts (same_name name (held_name checkout)) (list_any (λ (line : PricedLine). same_name name (level_name line.key)) w.reservation.lines) other

    -- the payment leaves all other cells
    pub confirmed_stays : (lines : List PricedLine) (total : ℕ) → Stays steps (step_of Role.Stock steps from (body.Confirmed checkout customer lines total)) name
    confirmed_stays lines total =
        let s = step_of Role.Stock steps from (body.Confirmed checkout customer lines total) in
        let made = answers-stock steps from (body.Confirmed checkout customer lines total) in
        record {
          looks = looks_still copy_table name steps s refl;
          amounts = λ key is. confirmed-amounts steps s run checkout w.reservation made w.is customer lines total refl key ∙ after-none Sell key w.reservation.lines (amounts_by steps key) (other_keys name w.reservation.lines key apart.1 is);
          there = λ key is. unstocked-there steps s key (stocks-other s key refl);
          lines = λ id is. settled-lines steps s checkout (no_reservations s made) (λ id. refl) id ∙ ap (λ b. if b then None else lines_held steps id) (other_id name checkout id apart.0 is);
        }

    -- and so does its failure
    pub failed_stays : (reason : PayRule) → Stays steps (step_of Role.Stock steps from (body.Failed checkout customer reason)) name
    failed_stays reason =
        let s = step_of Role.Stock steps from (body.Failed checkout customer reason) in
        let made = answers-stock steps from (body.Failed checkout customer reason) in
        record {
          looks = looks_still copy_table name steps s refl;
          amounts = λ key is. failed-amounts steps s run checkout w.reservation made w.is customer reason refl key ∙ after-none Release key w.reservation.lines (amounts_by steps key) (other_keys name w.reservation.lines key apart.1 is);
          there = λ key is. unstocked-there steps s key (stocks-other s key refl);
          lines = λ id is. settled-lines steps s checkout (no_reservations s made) (λ id. refl) id ∙ ap (λ b. if b then None else lines_held steps id) (other_id name checkout id apart.0 is);
        }

-- what a name that is not touched shows
abbrev pub Covered : List Step → Link → Body → CellName → Type 0
Covered steps from b name = value_of (cells_of Role.Stock (with_step Role.Stock steps from b)) name ≡ value_of (cells_of Role.Stock steps) name

-- names that cover what a body changes
abbrev pub Covering : Stocks → Link → Body → List CellName → Type 0
Covering stocks from b names =
    (steps : List Step) → Stands Role.Stock Holds stocks steps → fits Role.Stock steps from b ≡ true → (name : CellName) → is_named names name ≡ false → Covered steps from b name

-- what stays for a body stays for each that is the same
covered : (steps : List Step) (from : Link) (b c : Body) (name : CellName) → IsRunOf Role.Stock steps → b ≡ c → fits Role.Stock steps from b ≡ true
    → (fits Role.Stock steps from c ≡ true → Stays steps (step_of Role.Stock steps from c) name) → Covered steps from b name
covered steps from b c name run is fit stays =
    let next = fits_as steps from b c is fit in
    subst (λ x. Covered steps from x name) (sym is)
    (stays_told steps (step_of Role.Stock steps from c) name run (is_run_push Role.Stock steps (step_of Role.Stock steps from c) run (follows_step_of Role.Stock steps from c next)) (stays next))

-- lines of a checkout are few
few_lines : (lines : List PricedLine) → lines_formed lines ≡ true → length lines ≤ 63
few_lines lines formed =
    let third = and_both (nat_le 1 (length lines) && nat_le (length lines) most_lines && list_all line_formed lines) (keys_rise lines) formed in
    let second = and_both (nat_le 1 (length lines) && nat_le (length lines) most_lines) (list_all line_formed lines) third.0 in
    let first = (and_both (nat_le 1 (length lines)) (nat_le (length lines) most_lines) second.0).1 in
    grind (arith, nat_tests)

module _ (stocks : Stocks) (from : Link) (b : Body) where
  -- the name of the product covers what its change changes
  pub changed_covers : (key : ProductKey) (version : ℕ) (change : Change) → b ≡ body.Changed key version change → (names : List CellName) → names ≡ copy_name key ∷ [] → Covering stocks from b names
  changed_covers key version change is names are steps stands fit name other =
      covered steps from b (body.Changed key version change) name stands.run is fit (λ next.
      changed_stays steps from name stands.run key version change next (or_parts (same_name name (copy_name key)) false (sym (ap (λ ns. is_named ns name) are) ∙ other)).0)

  -- the same of a request
  pub asked_covers : (request : Request) → b ≡ body.Asked request → (names : List CellName) → names ≡ asked_names request.ask → Covering stocks from b names
  asked_covers request is names are steps stands fit name other =
      covered steps from b (body.Asked request) name stands.run is fit (λ next. by request.ask (sym (ap (λ ns. is_named ns name) are) ∙ other))
    where
      by : (what : Ask) → is_named (asked_names what) name ≡ false → Stays steps (step_of Role.Stock steps from (body.Asked (record { id = request.id; ask = what }))) name
      by (ask.Stock key pieces) other = stock_stays steps from name stands.run request.id key pieces (or_parts (same_name name (level_name key)) false other).0
      by what other = asked_stays steps from name stands.run request.id what (λ key pieces e. cc)

  -- and of a checkout
  pub reserve_covers : (checkout : RequestId) (customer : ℕ) (lines : List PricedLine) → b ≡ body.Reserve checkout customer lines
      → (names : List CellName) → ((name : CellName) → is_named names name ≡ is_touched checkout lines name) → Covering stocks from b names
  reserve_covers checkout customer lines is names named steps stands fit name other =
      covered steps from b (body.Reserve checkout customer lines) name stands.run is fit (λ next.
      reserve_stays steps from name stands.run checkout customer lines next (sym (named name) ∙ other))

  -- the lines that are held are those of the reservation
  waiting_named : (steps : List Step) → Stands Role.Stock Holds stocks steps → (checkout : RequestId) (w : Waits steps checkout) (names : List CellName)
      → IfSome (lines_at stocks.held checkout) (λ lines. (name : CellName) → is_named names name ≡ is_touched checkout lines name)
      → (name : CellName) → is_named names name ≡ is_touched checkout w.reservation.lines name
  waiting_named steps stands checkout w names named =
      subst (λ (o : Option (List PricedLine)). IfSome o (λ lines. (name : CellName) → is_named names name ≡ is_touched checkout lines name))
      (at_waiting stocks steps stands.held checkout w) named

  -- and of one that was paid
  pub confirmed_covers : (checkout : RequestId) (customer : ℕ) (lines : List PricedLine) (total : ℕ) → b ≡ body.Confirmed checkout customer lines total
      → (names : List CellName) → IfSome (lines_at stocks.held checkout) (λ lines. (name : CellName) → is_named names name ≡ is_touched checkout lines name) → Covering stocks from b names
  confirmed_covers checkout customer lines total is names named steps stands fit name other =
      covered steps from b (body.Confirmed checkout customer lines total) name stands.run is fit (λ next.
      let w = confirmed_waits steps from stands.run checkout customer lines total next in
      confirmed_stays steps from name stands.run checkout customer w (sym (waiting_named steps stands checkout w names named name) ∙ other) lines total)

  -- and of one whose payment failed
  pub failed_covers : (checkout : RequestId) (customer : ℕ) (reason : PayRule) → b ≡ body.Failed checkout customer reason
      → (names : List CellName) → IfSome (lines_at stocks.held checkout) (λ lines. (name : CellName) → is_named names name ≡ is_touched checkout lines name) → Covering stocks from b names
  failed_covers checkout customer reason is names named steps stands fit name other =
      covered steps from b (body.Failed checkout customer reason) name stands.run is fit (λ next.
      let w = failed_waits steps from stands.run checkout customer reason next in
      failed_stays steps from name stands.run checkout customer w (sym (waiting_named steps stands checkout w names named name) ∙ other) reason)

  -- the names are few
  pub reserve_few : (checkout : RequestId) (customer : ℕ) (lines : List PricedLine) → b ≡ body.Reserve checkout customer lines → CanTake Role.Stock Holds stocks from b
      → (count : ℕ) → count ≤ length lines + 1 → count ≤ 64
  reserve_few checkout customer lines is can count few = ∥∥₁_elim can le_prop (λ it.
      let formed = (fits-parts Role.Stock it.0 from (body.Reserve checkout customer lines) (fits_as it.0 from b (body.Reserve checkout customer lines) is it.2)).formed in
      omega (arith, few, few_lines lines (checkout_formed-lines checkout customer lines formed)))

  -- those of a reservation that waits are few
  waiting_few : (steps : List Step) → Stands Role.Stock Holds stocks steps → (checkout : RequestId) → Waits steps checkout
      → (count : ℕ) → IfSome (lines_at stocks.held checkout) (λ lines. count ≤ length lines + 1) → count ≤ 64
  waiting_few steps stands checkout w count few =
      let at = at_waiting stocks steps stands.held checkout w in
      let formed = held-formed steps stands.run checkout w.reservation.lines (sym (stands.held.lines checkout) ∙ at) in
      let small : count ≤ length w.reservation.lines + 1 = subst (λ (o : Option (List PricedLine)). IfSome o (λ lines. count ≤ length lines + 1)) at few in
      omega (arith, small, few_lines w.reservation.lines formed.all)

  -- so those of a checkout that was paid are
  pub confirmed_few : (checkout : RequestId) (customer : ℕ) (lines : List PricedLine) (total : ℕ) → b ≡ body.Confirmed checkout customer lines total → CanTake Role.Stock Holds stocks from b
      → (count : ℕ) → IfSome (lines_at stocks.held checkout) (λ lines. count ≤ length lines + 1) → count ≤ 64
  confirmed_few checkout customer lines total is can count few = ∥∥₁_elim can le_prop (λ it.
      waiting_few it.0 it.1 checkout (confirmed_waits it.0 from it.1.run checkout customer lines total (fits_as it.0 from b (body.Confirmed checkout customer lines total) is it.2)) count few)

  -- and those of one whose payment failed
  pub failed_few : (checkout : RequestId) (customer : ℕ) (reason : PayRule) → b ≡ body.Failed checkout customer reason → CanTake Role.Stock Holds stocks from b
      → (count : ℕ) → IfSome (lines_at stocks.held checkout) (λ lines. count ≤ length lines + 1) → count ≤ 64
  failed_few checkout customer reason is can count few = ∥∥₁_elim can le_prop (λ it.
      waiting_few it.0 it.1 checkout (failed_waits it.0 from it.1.run checkout customer reason (fits_as it.0 from b (body.Failed checkout customer reason) is it.2)) count few)

-- a request touches few cells
pub asked_few : (what : Ask) → length (asked_names what) ≤ most_by_ask what
asked_few ask.Deliver = omega arith
asked_few (ask.Stock key pieces) = omega arith
asked_few other = omega arith

-- the names differ
pub changed_differ : (key : ProductKey) → IsDistinct same_name (copy_name key ∷ [])
changed_differ key = one_distinct (copy_name key)

-- those of a request
pub asked_differ : (what : Ask) → IsDistinct same_name (asked_names what)
asked_differ (ask.Stock key pieces) = one_distinct (level_name key)
asked_differ other = none_distinct

-- the cells that a body touches are of tables that it may change
pub changed_touched : (b : Body) (key q : ProductKey) (version : ℕ) (change : Change) → b ≡ body.Changed key version change → may_change Role.Stock b (copy_name q) ≡ true
changed_touched b key q version change is = ap (λ x. may_change Role.Stock x (copy_name q)) is

-- so are those of a request
pub asked_touched : (request : Request) (b : Body) → b ≡ body.Asked request → (name : CellName) → is_named (asked_names request.ask) name ≡ true → may_change Role.Stock b name ≡ true
asked_touched request b is name here = ap (λ x. may_change Role.Stock x name) is ∙ by request.ask here
  where
    by : (what : Ask) → is_named (asked_names what) name ≡ true → may_change Role.Stock (body.Asked (record { id = request.id; ask = what })) name ≡ true
    by (ask.Stock key pieces) named = one_may_change Role.Stock (body.Asked (record { id = request.id; ask = ask.Stock key pieces })) (level_name key) refl name named
    by other named = named_none name named

-- of a checkout with its lines
pub lines_touched : (b : Body) → ((table : List ℕ) → list_any (λ t. is_eq (text_cmp t table)) (codes "stock" ∷ codes "held" ∷ []) ≡ list_any (λ t. is_eq (text_cmp t table)) (tables_of Role.Stock b))
    → (checkout : RequestId) (lines : List PricedLine) (name : CellName) → is_touched checkout lines name ≡ true → may_change Role.Stock b name ≡ true
lines_touched b tables checkout lines name =
    or_may_change Role.Stock b name (held_name checkout) (list_any (λ (line : PricedLine). same_name name (level_name line.key)) lines) (sym (tables (codes "held")))
    (any_may_change Role.Stock b (λ (line : PricedLine). level_name line.key) (λ line. sym (tables (codes "stock"))) name lines)
