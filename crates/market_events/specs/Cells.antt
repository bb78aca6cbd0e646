-- The cells of a service: its tables as texts, by name.
use Rattle.std.specs.Prelude.{ℕ, ◌+◌, Bool, List, [], ◌∷◌, ◌++◌}
use Rattle.std.specs.Prelude.{Option, Some, None, length, map, filter_map, fold, codes, if◌then◌else◌}
use Rattle.std.specs.Fmt.{decimal}
use Rattle.std.specs.List.{flat_map, enumerate_from, join_with_byte}
use Rattle.std.specs.Cmp.Lexicographic.{slice_cmp}
use Rattle.std.specs.Ordering.{nat_cmp, ordering_then}
use Rattle.std.specs.declared.cmp.Ordering.{Ordering}
use Rattle.std.specs.FinMap.Entries as entries
use Rattle.market_amounts.specs.declared.keys.ProductKey.{ProductKey}
use Rattle.market_events.specs.declared.bodies.Body.{Body}
use Rattle.market_events.specs.declared.bodies.Body.TheVariants as body
use Rattle.market_events.specs.declared.bodies.Item.{Item}
use Rattle.market_events.specs.declared.bodies.PricedLine.{PricedLine}
use Rattle.market_events.specs.declared.cells.Cell.{Cell}
use Rattle.market_events.specs.declared.cells.CellName.{CellName}
use Rattle.market_events.specs.declared.changes.Look.{Look}
use Rattle.market_events.specs.declared.changes.Look.TheVariants.{Unknown, Gone, Live}
use Rattle.market_events.specs.declared.replies.OrderStatus.{OrderStatus}
use Rattle.market_events.specs.declared.requests.Ask.{Ask}
use Rattle.market_events.specs.declared.requests.Ask.TheVariants as ask
use Rattle.market_events.specs.Carts.{changes_taken, Held, basket_at, is_accepted}
use Rattle.market_events.specs.Copies.{ProductChange, copy_of}
use Rattle.market_events.specs.Customers.{confirmed_count, failed_count, delivered_count}
use Rattle.market_events.specs.Orders.{checkouts_taken, order_status, order_total, open_lines}
use Rattle.market_events.specs.Payments.{limit_of, spent}
use Rattle.market_events.specs.Products.{changes_made}
use Rattle.market_events.specs.Sellers.{SellerChange, seller_changes, entries_at, same_entry, line_cost}
use Rattle.market_events.specs.Services.{Role}
use Rattle.market_events.specs.Shipments.{packages, is_open}
use Rattle.market_events.specs.Steps.{Step, taken_bodies}
use Rattle.market_events.specs.Stocks.{Reservation, reservations, is_settled, on_hand, reserved}
use Rattle.market_events.specs.Texts.{spaced, id_text, key_text, status_text}

-- names by the bytes of the table, then of the key
abbrev pub text_cmp : List ℕ → List ℕ → Ordering
text_cmp a b = slice_cmp nat_cmp a b

abbrev pub name_cmp : CellName → CellName → Ordering
name_cmp a b = ordering_then (text_cmp a.table b.table) (text_cmp a.key b.key)

abbrev pub cell : List ℕ → List ℕ → List ℕ → Cell
cell table key value = record { name = record { table = table; key = key }; value = value }

-- cells by rising name, the last of each name
abbrev pub cells_listed : List Cell → List Cell
cells_listed all =
    map (λ (e : CellName × List ℕ). record { name = e.0; value = e.1 })
    (fold (λ (es : List (CellName × List ℕ)) (c : Cell). entries.put name_cmp c.name c.value es) [] all)

-- what is shown of a product
abbrev pub look_text : Look → Option (List ℕ)
look_text Unknown = None
look_text (Gone v) = Some (spaced (codes "gone" ∷ decimal v ∷ []))
look_text (Live v price freight) =
    Some (spaced (codes "live" ∷ decimal v ∷ decimal price ∷ decimal freight ∷ []))

abbrev pub with_value : List ℕ → List ℕ → Option (List ℕ) → Option Cell
with_value table key None = None
with_value table key (Some value) = Some (cell table key value)

-- a cell for each product that a change was of
abbrev pub look_cells : List ℕ → List ProductChange → List Cell
look_cells table changes =
    filter_map (λ (c : ProductChange). with_value table (key_text c.key) (look_text (copy_of changes c.key)))
    changes

abbrev pub product_cells : List Step → List Cell
product_cells steps = look_cells (codes "product") (changes_made steps)

-- the baskets: of each product that a customer set a line of, and has in the basket
abbrev pub basket_key : ℕ → ProductKey → List ℕ
basket_key customer key = join_with_byte 58 (decimal customer ∷ decimal key.seller ∷ decimal key.product ∷ [])

abbrev pub held_text : Option Held → Option (List ℕ)
held_text None = None
held_text (Some held) = Some (spaced (decimal held.quantity ∷ decimal held.voucher ∷ []))

abbrev pub basket_cell_asked : List Step → Ask → Option Cell
basket_cell_asked steps (ask.Line customer key quantity voucher) =
    with_value (codes "basket") (basket_key customer key) (held_text (basket_at steps customer key))
basket_cell_asked steps other = None

abbrev pub basket_cell : List Step → Body → Option Cell
basket_cell steps (body.Asked request) = basket_cell_asked steps request.ask
basket_cell steps other = None

abbrev pub cart_cells : List Step → List Cell
cart_cells steps =
    look_cells (codes "copy") (changes_taken steps) ++ filter_map (basket_cell steps) (taken_bodies steps)

-- on hand and reserved of each product that pieces were stocked of
abbrev pub level_text : List Step → ProductKey → List ℕ
level_text steps key = spaced (decimal (on_hand steps key) ∷ decimal (reserved steps key) ∷ [])

abbrev pub level_cell_asked : List Step → Ask → Option Cell
level_cell_asked steps (ask.Stock key pieces) =
    Some (cell (codes "stock") (key_text key) (level_text steps key))
level_cell_asked steps other = None

abbrev pub level_cell_of : List Step → Body → Option Cell
level_cell_of steps (body.Asked request) = level_cell_asked steps request.ask
level_cell_of steps other = None

abbrev pub level_cell : List Step → Step → Option Cell
level_cell steps s = if is_accepted s then level_cell_of steps s.body else None

-- the pieces that a reservation holds
abbrev pub held_line : PricedLine → List ℕ
held_line line =
    join_with_byte 58 (decimal line.key.seller ∷ decimal line.key.product ∷ decimal line.quantity ∷ [])

abbrev pub held_cell : List Step → Reservation → Option Cell
held_cell steps r =
    if is_settled steps r.checkout then None
    else Some (cell (codes "held") (id_text r.checkout) (join_with_byte 59 (map held_line r.lines)))

abbrev pub stock_cells : List Step → List Cell
stock_cells steps =
    look_cells (codes "copy") (changes_taken steps) ++ filter_map (level_cell steps) steps
    ++ filter_map (held_cell steps) (reservations steps)

-- status, total and lines that are open, of each order
abbrev pub order_text : ℕ → ℕ → Option OrderStatus → Option (List ℕ)
order_text total lines None = None
order_text total lines (Some status) = Some (spaced (status_text status ∷ decimal total ∷ decimal lines ∷ []))

abbrev pub order_cells : List Step → List Cell
order_cells steps =
    filter_map (λ (r : Reservation). with_value (codes "order") (id_text r.checkout)
    (order_text (order_total steps r.checkout) (length (open_lines steps r.checkout))
    (order_status steps r.checkout))) (checkouts_taken steps)

-- limit and spent of each customer with a card
abbrev pub account_text : ℕ → Option ℕ → Option (List ℕ)
account_text paid None = None
account_text paid (Some limit) = Some (spaced (decimal limit ∷ decimal paid ∷ []))

abbrev pub account_cell_asked : List Step → Ask → Option Cell
account_cell_asked steps (ask.Card customer limit) =
    with_value (codes "account") (decimal customer)
    (account_text (spent steps customer) (limit_of steps customer))
account_cell_asked steps other = None

abbrev pub account_cell : List Step → Body → Option Cell
account_cell steps (body.Asked request) = account_cell_asked steps request.ask
account_cell steps other = None

abbrev pub payment_cells : List Step → List Cell
payment_cells steps = filter_map (account_cell steps) (taken_bodies steps)

-- each package with its number
abbrev pub package_text : Item → Bool → List ℕ
package_text item is_open =
    join_with_byte 58 (id_text item.checkout ∷ decimal item.customer ∷ decimal item.key.seller
    ∷ decimal item.key.product ∷ [])
    ++ (if is_open then codes " open" else codes " closed")

abbrev pub shipment_cells : List Step → List Cell
shipment_cells steps =
    map (λ (p : ℕ
    × Item). cell (codes "package") (decimal p.0) (package_text p.1 (is_open steps p.1)))
    (enumerate_from 1 (packages steps))

-- the three counts of each customer of whom one is above 0
abbrev pub customers_in : Body → List ℕ
customers_in (body.Confirmed checkout customer lines total) = customer ∷ []
customers_in (body.Failed checkout customer rule) = customer ∷ []
customers_in (body.Delivered items) = map (λ (i : Item). i.customer) items
customers_in other = []

abbrev pub customer_text : List Step → ℕ → List ℕ
customer_text steps c =
    spaced (decimal (confirmed_count steps c) ∷ decimal (failed_count steps c)
    ∷ decimal (delivered_count steps c) ∷ [])

abbrev pub customer_cells : List Step → List Cell
customer_cells steps =
    map (λ c. cell (codes "customer") (decimal c) (customer_text steps c))
    (flat_map customers_in (taken_bodies steps))

-- the sellers of the lines that were invoiced
abbrev pub sellers_in : Body → List ℕ
sellers_in (body.Invoice checkout customer lines total) = map (λ (line : PricedLine). line.key.seller) lines
sellers_in other = []

-- the place of an entry among those of its seller, from 1
abbrev pub entry_number : List SellerChange → SellerChange → ℕ
entry_number [] entry = 1
entry_number (e ∷ more) entry = if same_entry e entry then 1 else 1 + entry_number more entry

abbrev pub seller_key : ℕ → ℕ → List ℕ
seller_key seller n = join_with_byte 58 (decimal seller ∷ decimal n ∷ [])

abbrev pub entry_text : SellerChange → List ℕ
entry_text e =
    join_with_byte 58 (id_text e.checkout ∷ decimal e.line.key.product ∷ decimal e.line.quantity
    ∷ decimal (line_cost e.line) ∷ [])

abbrev pub entry_cells : ℕ → List SellerChange → List Cell
entry_cells seller changes =
    map (λ (p : ℕ
    × SellerChange). cell (codes "entry") (seller_key seller p.0) (entry_text p.1))
    (enumerate_from 1 (entries_at changes))

abbrev pub change_cells : ℕ → List SellerChange → List Cell
change_cells seller changes =
    map (λ (p : ℕ × SellerChange). cell (codes "change") (seller_key seller p.0)
    (spaced (decimal (entry_number (entries_at changes) p.1) ∷ status_text p.1.status
    ∷ []))) (enumerate_from 1 changes)

abbrev pub seller_cells : List Step → List Cell
seller_cells steps =
    flat_map (λ seller. entry_cells seller (seller_changes steps seller)
    ++ change_cells seller (seller_changes steps seller))
    (flat_map sellers_in (taken_bodies steps))

abbrev pub all_cells : Role → List Step → List Cell
all_cells Role.Cart steps = cart_cells steps
all_cells Role.Product steps = product_cells steps
all_cells Role.Stock steps = stock_cells steps
all_cells Role.Order steps = order_cells steps
all_cells Role.Payment steps = payment_cells steps
all_cells Role.Shipment steps = shipment_cells steps
all_cells Role.Customer steps = customer_cells steps
all_cells Role.Seller steps = seller_cells steps

-- the cells of a service after these steps, by rising name
unfoldable pub cells_of : Role → List Step → List Cell
cells_of role steps = cells_listed (all_cells role steps)
