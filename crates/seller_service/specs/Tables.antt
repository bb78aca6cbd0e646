-- What the tables of the sellers hold, and what an event makes of them.
use Rattle.std.specs.Prelude.{ℕ, Bool, ◌==◌, List, [], Option, map, find, filter_map, option_map, unwrap_or}
use Rattle.std.specs.Prelude.{if◌then◌else◌}
use Rattle.std.specs.BTreeMap.{is_at}
use Rattle.std.specs.Map.{lookup}
use Rattle.std.specs.Ordering.{nat_cmp}
use Rattle.market_amounts.specs.declared.keys.RequestId.{RequestId}
use Rattle.market_events.specs.declared.bodies.Body.{Body}
use Rattle.market_events.specs.declared.bodies.Body.TheVariants as body
use Rattle.market_events.specs.declared.bodies.Item.{Item}
use Rattle.market_events.specs.declared.bodies.PricedLine.{PricedLine}
use Rattle.market_events.specs.declared.replies.OrderStatus.{OrderStatus}
use Rattle.market_events.specs.declared.replies.OrderStatus.TheVariants as status
use Rattle.market_events.specs.Requests.{same_id, same_key}
use Rattle.market_events.specs.Sellers.{SellerChange, SellerSums}
use Rattle.market_events.specs.Steps.{id_cmp}

-- the changes that a table has of a seller
abbrev pub changes_at : List (ℕ × List SellerChange) → ℕ → List SellerChange
changes_at table seller = unwrap_or (lookup (is_at (nat_cmp seller)) table) []

-- the lines that a table has of a checkout's invoice
abbrev pub lines_at : List (RequestId × List PricedLine) → RequestId → List PricedLine
lines_at table id = unwrap_or (lookup (is_at (id_cmp id)) table) []

-- the sellers with the changes of each, and the checkouts with the lines of their invoices
pub record SellerTables : Type 0 where
  pub ledgers : List (ℕ × List SellerChange)
  pub invoices : List (RequestId × List PricedLine)

-- the sums of sellers, as a table has them
abbrev pub sums_at : List (ℕ × List SellerChange) → SellerSums
sums_at table = record { changes = changes_at table }

-- the change is of an entry of the seller
abbrev pub is_of_seller : ℕ → SellerChange → Bool
is_of_seller seller change = change.line.key.seller == seller

-- a line of a checkout, with this status
abbrev pub marks : RequestId → OrderStatus → PricedLine → SellerChange
marks id status line = record { checkout = id; line = line; status = status }

-- lines of a checkout, each with this status
abbrev pub all_marked : RequestId → OrderStatus → List PricedLine → List SellerChange
all_marked id status lines = map (marks id status) lines

-- the line of an item, delivered
abbrev pub delivered_by : (RequestId → List PricedLine) → Item → Option SellerChange
delivered_by invoices item =
    option_map (marks item.checkout status.Delivered)
    (find (λ (line : PricedLine). same_key line.key item.key) (invoices item.checkout))

-- the changes of all sellers that a body brings, by the lines of the invoices
abbrev pub brought_by : (RequestId → List PricedLine) → Body → List SellerChange
brought_by invoices (body.Invoice id customer lines total) = all_marked id status.Invoiced lines
brought_by invoices (body.Confirmed id customer lines total) = all_marked id status.Paid (invoices id)
brought_by invoices (body.Failed id customer rule) = all_marked id status.Cancelled (invoices id)
brought_by invoices (body.Shipped id) = all_marked id status.Shipped (invoices id)
brought_by invoices (body.Delivered items) = filter_map (delivered_by invoices) items
brought_by invoices other = []

-- the lines of the invoices after this body
abbrev pub lines_after : (RequestId → List PricedLine) → Body → RequestId → List PricedLine
lines_after invoices (body.Invoice checkout customer lines total) id =
    if same_id checkout id then lines else invoices id
lines_after invoices other id = invoices id
