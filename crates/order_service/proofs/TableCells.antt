-- The cells of the orders, by their names and by the checkouts that a run took; the table's are those of the service.
use Rattle.std.proofs.Common.{◌≡◌, ℕ, Bool, true, false, cond, ◌&&◌, ◌||◌, List, [], ◌∷◌, ◌++◌, length, filter_map, Option, Some, None, is_some, codes, refl, ap, ap₂, sym, ◌∙◌, subst, leb-true, le-leb}
use Rattle.std.specs.Fmt.{decimal}
use Rattle.std.specs.List.{list_any, list_all}
use Rattle.std.specs.Map.{keys_of}
use Rattle.std.proofs.lemmas.List.Folds.{list_all-append}
use Rattle.market_amounts.specs.declared.keys.RequestId.{RequestId}
use Rattle.market_events.specs.declared.bodies.Body.{Body}
use Rattle.market_events.specs.declared.bodies.Body.TheVariants as body
use Rattle.market_events.specs.declared.cells.CellName.{CellName}
use Rattle.market_events.specs.declared.replies.OrderStatus.{OrderStatus}
use Rattle.market_events.specs.CellLists.{Within, put_all, cells_by}
use Rattle.market_events.specs.Cells.{cells_of, cells_listed, order_cells, order_text, with_value}
use Rattle.market_events.specs.Copies.{last_some}
use Rattle.market_events.specs.Formed.{id_formed, request_id_formed, lines_formed, body_formed}
use Rattle.market_events.specs.Orders.{checkouts_taken, is_of, order_status, order_total, open_lines}
use Rattle.market_events.specs.Requests.{same_id}
use Rattle.market_events.specs.Services.{Follows, IsRunOf}
use Rattle.market_events.specs.Standing.{Stands}
use Rattle.market_events.specs.Steps.{Step}
use Rattle.market_events.specs.Stocks.{Reservation, reservation_in}
use Rattle.market_events.specs.Texts.{status_text, id_text}
use Rattle.market_events.specs.WellFormed.{IsRequestId, id_max}
use Rattle.market_events.proofs.NamedCells.Named.{value_at}
use Rattle.market_events.proofs.Values.Keys.{eq_by_id_cmp}
use Rattle.market_events.proofs.NamedCells.Keyed.{IsNaming, HasAll, IsFilled, is_among, id_naming, joined_filled, alike, cells_by-each, entries_told}
use Rattle.market_events.proofs.Values.Lists.{and_both, all-any}
use Rattle.market_events.proofs.Steps.Orders.{checkouts_taken-push}
use Rattle.market_events.proofs.Values.Same.{same_id-true, same_id-swap}
use Rattle.market_events.proofs.Runs.OrderStatuses.{has_order-by_status}
use Rattle.market_events.proofs.Steps.Taken.{fits-parts, run_has}
use Rattle.order_service.specs.declared.tables.Order.{Order}
use Rattle.order_service.specs.Cells.{name_by, text_by, texts_in, table_cells}
use Rattle.order_service.specs.Tables.{order_at}
use Rattle.order_service.proofs.Steps.{order_of}
use Rattle.order_service.specs.Holds.{order_customer, order_by, Holds}
use Rattle.market_events.specs.declared.roles.Role.{Role}

-- checkouts have names of their own
pub naming : IsNaming same_id name_by IsRequestId
naming = id_naming (codes "order")

-- a text is not empty
pub text_filled : (o : Option Order) → IsFilled (text_by o)
text_filled None = tt
text_filled (Some order) = joined_filled 32 (status_text order.status) (decimal order.total) (decimal order.undelivered ∷ [])

-- a table has an entry of each checkout of which it has an order
pub keys_all : (table : List (RequestId × Order)) → HasAll same_id (texts_in table) (keys_of table)
keys_all [] id some = some
keys_all (e ∷ es) id some = by (keys_all es id) (same_id id e.0) refl
  where
    by : (is_some (texts_in es id) ≡ true → is_among same_id (keys_of es) id ≡ true) → (b : Bool) → same_id id e.0 ≡ b → (same_id id e.0 || is_among same_id (keys_of es) id) ≡ true
    by rest true here = rw here refl
    by rest false other =
        rw other (rest (sym (ap (λ b. is_some (text_by (cond b (Some e.1) (order_at es id)))) (eq_by_id_cmp id e.0 ∙ other)) ∙ some))

-- the texts of orders, by the steps
abbrev pub texts_by : List Step → RequestId → Option (List ℕ)
texts_by steps id = text_by (order_by steps id)

-- the checkouts that stock confirmed
abbrev pub confirmed : List Reservation → List RequestId
confirmed rs = filter_map (λ (r : Reservation). Some r.checkout) rs

-- the cells of the service are those of these checkouts
pub order_cells-by : (steps : List Step) → order_cells steps ≡ cells_by name_by (texts_by steps) (confirmed (checkouts_taken steps))
order_cells-by steps =
    cells_by-each name_by (texts_by steps)
    (λ (r : Reservation). with_value (codes "order") (id_text r.checkout) (order_text (order_total steps r.checkout) (length (open_lines steps r.checkout)) (order_status steps r.checkout)))
    (λ (r : Reservation). Some r.checkout)
    (λ r. ap (with_value (codes "order") (id_text r.checkout)) (said (order_status steps r.checkout) (order_customer steps r.checkout) (order_total steps r.checkout) (length (open_lines steps r.checkout))))
    (checkouts_taken steps)
  where
    said : (o : Option OrderStatus) (customer total left : ℕ) → order_text total left o ≡ text_by (order_of o customer total left)
    said None customer total left = refl
    said (Some st) customer total left = refl

-- a checkout with a text was confirmed
has_text : (steps : List Step) (id : RequestId) → is_some (texts_by steps id) ≡ true → list_any (is_of id) (checkouts_taken steps) ≡ true
has_text steps id some =
    has_order-by_status steps id ∙ sym (same (order_status steps id) (order_customer steps id) (order_total steps id) (length (open_lines steps id))) ∙ some
  where
    same : (o : Option OrderStatus) (customer total left : ℕ) → is_some (text_by (order_of o customer total left)) ≡ is_some o
    same None customer total left = refl
    same (Some st) customer total left = refl

pub all_by : (steps : List Step) → HasAll same_id (texts_by steps) (confirmed (checkouts_taken steps))
all_by steps id some = among (checkouts_taken steps) ∙ has_text steps id some
  where
    among : (rs : List Reservation) → is_among same_id (confirmed rs) id ≡ list_any (is_of id) rs
    among [] = refl
    among (r ∷ rs) = ap₂ (λ a b. a || b) (same_id-swap id r.checkout) (among rs)

-- well-formed ids
pub small : (id : RequestId) → request_id_formed id ≡ true → IsRequestId id
small id formed =
    let both = and_both (id_formed id.caller) (id_formed id.number) formed in
    record { caller = leb-true id.caller id_max both.0; number = leb-true id.number id_max both.1 }

pub small_formed : (id : RequestId) → IsRequestId id → request_id_formed id ≡ true
small_formed id is = rw (le-leb id.caller id_max is.caller) (le-leb id.number id_max is.number)

-- the checkouts of a run have such ids
abbrev is_id_formed : Reservation → Bool
is_id_formed r = request_id_formed r.checkout

ids_formed : (steps : List Step) → IsRunOf Role.Order steps → list_all is_id_formed (checkouts_taken steps) ≡ true
ids_formed steps run = run_has Role.Order (λ steps. list_all is_id_formed (checkouts_taken steps) ≡ true) keeps refl steps run
  where
    one : (b : Body) → body_formed b ≡ true → list_all is_id_formed (filter_map reservation_in (b ∷ [])) ≡ true
    one (body.StockConfirmed checkout customer lines) formed =
        rw ((and_both (request_id_formed checkout) (id_formed customer) (and_both (request_id_formed checkout && id_formed customer) (lines_formed lines) formed).0).0) refl
    one (body.Changed key version change) formed = refl
    one (body.Reserve checkout customer lines) formed = refl
    one (body.ReserveFailed checkout key reason) formed = refl
    one (body.Invoice checkout customer lines total) formed = refl
    one (body.Confirmed checkout customer lines total) formed = refl
    one (body.Ended checkout ending) formed = refl
    one (body.Failed checkout customer reason) formed = refl
    one (body.Shipped checkout) formed = refl
    one (body.Delivered items) formed = refl
    one (body.Asked request) formed = refl
    one (body.Told id reply) formed = refl

    keeps : (steps : List Step) (s : Step) → Follows Role.Order steps s → list_all is_id_formed (checkouts_taken steps) ≡ true → list_all is_id_formed (checkouts_taken (steps ++ s ∷ [])) ≡ true
    keeps steps s follows all =
        rw (checkouts_taken-push steps s, list_all-append is_id_formed (checkouts_taken steps) (filter_map reservation_in (s.body ∷ [])), all) (one s.body (fits-parts Role.Order steps s.from s.body follows.fit).formed)

pub within_by : (steps : List Step) → IsRunOf Role.Order steps → Within IsRequestId (texts_by steps)
within_by steps run id some =
    all-any is_id_formed (is_of id) (IsRequestId id) (λ r formed is. subst IsRequestId (same_id-true r.checkout id is) (small r.checkout formed))
    (checkouts_taken steps) (ids_formed steps run) (has_text steps id some)

-- the cells of a table have at each name what those of the service have
module _ (table : List (RequestId × Order)) (steps : List Step) (stands : Stands Role.Order Holds table steps) where
  same_text : (id : RequestId) → texts_in table id ≡ texts_by steps id
  same_text id = ap text_by (stands.held.each id)

  pub table_within : Within IsRequestId (texts_in table)
  table_within id some = within_by steps stands.run id (ap is_some (sym (same_text id)) ∙ some)

  pub table_same : (name : CellName) → last_some (value_at name) (table_cells table) ≡ last_some (value_at name) (order_cells steps)
  table_same name =
      alike naming (texts_in table) (texts_by steps) table_within (within_by steps stands.run) (keys_of table) (confirmed (checkouts_taken steps)) (keys_all table) (all_by steps) name (λ id small is. same_text id)
      ∙ sym (ap (last_some (value_at name)) (order_cells-by steps))

  pub table_told : cells_listed (table_cells table) ≡ cells_of Role.Order steps
  table_told = entries_told Role.Order steps (put_all [] (table_cells table)) (table_cells table) refl table_same
