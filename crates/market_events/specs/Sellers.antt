-- Sellers: the changes of each seller's entries, and what a dashboard shows of them.
use Rattle.std.specs.Prelude.{ℕ, ◌*◌, Bool, true, false, ◌==◌, ◌&&◌, List, [], ◌∷◌, ◌++◌, Option, Some}
use Rattle.std.specs.Prelude.{None, length, map, filter, filter_map, take, drop, if◌then◌else◌}
use Rattle.std.specs.List.{sum_by, flat_map}
use Rattle.market_amounts.specs.Amounts.{amount_of}
use Rattle.market_amounts.specs.declared.keys.ProductKey.{ProductKey}
use Rattle.market_amounts.specs.declared.keys.RequestId.{RequestId}
use Rattle.market_events.specs.WellFormed.{most_rows_shown}
use Rattle.market_events.specs.declared.bodies.Body.{Body}
use Rattle.market_events.specs.declared.bodies.Body.TheVariants as body
use Rattle.market_events.specs.declared.bodies.Item.{Item}
use Rattle.market_events.specs.declared.bodies.PricedLine.{PricedLine}
use Rattle.market_events.specs.declared.replies.EntryRow.{EntryRow}
use Rattle.market_events.specs.declared.replies.OrderStatus.{OrderStatus}
use Rattle.market_events.specs.declared.replies.OrderStatus.TheVariants as status
use Rattle.market_events.specs.declared.replies.Reply.TheVariants as reply
use Rattle.market_events.specs.declared.requests.Ask.{Ask}
use Rattle.market_events.specs.declared.requests.Ask.TheVariants as ask
use Rattle.market_events.specs.Copies.{last_some}
use Rattle.market_events.specs.Links.{seller_node}
use Rattle.market_events.specs.Requests.{same_key, same_id}
use Rattle.market_events.specs.Steps.{Step, Sending, taken_bodies, told}

-- a change of an entry of a seller: a line of a checkout, and the status that it gets
pub record SellerChange : Type 0 where
  pub checkout : RequestId
  pub line : PricedLine
  pub status : OrderStatus

-- the lines of the checkout's invoice
abbrev pub lines_invoiced : RequestId → Body → List PricedLine
lines_invoiced id (body.Invoice checkout customer lines total) = if same_id checkout id then lines else []
lines_invoiced id other = []

abbrev pub invoice_lines : List Body → RequestId → List PricedLine
invoice_lines before id = flat_map (lines_invoiced id) before

-- lines of a seller, each with this status
abbrev pub marked : ℕ → RequestId → OrderStatus → List PricedLine → List SellerChange
marked seller id status lines =
    map (λ (line : PricedLine). record { checkout = id; line = line; status = status })
    (filter (λ (line : PricedLine). line.key.seller == seller) lines)

-- the lines of the checkout's invoice with these keys, in the order of the keys
abbrev pub lines_with_keys : List PricedLine → List ProductKey → List PricedLine
lines_with_keys lines keys =
    flat_map (λ key. filter (λ (line : PricedLine). same_key line.key key) lines) keys

-- the item's line in the invoice of its checkout, where it is of the seller
abbrev pub item_delivered : List Body → ℕ → Item → List SellerChange
item_delivered before seller item =
    marked seller item.checkout status.Delivered
    (lines_with_keys (invoice_lines before item.checkout) (item.key ∷ []))

-- the changes of a seller that an event brings after these
abbrev pub changes_by : ℕ → List Body → Body → List SellerChange
changes_by seller before (body.Invoice checkout customer lines total) =
    marked seller checkout status.Invoiced lines
changes_by seller before (body.Confirmed checkout customer lines total) =
    marked seller checkout status.Paid
    (lines_with_keys (invoice_lines before checkout) (map (λ (line : PricedLine). line.key) lines))
changes_by seller before (body.Failed checkout customer rule) =
    marked seller checkout status.Cancelled (invoice_lines before checkout)
changes_by seller before (body.Shipped checkout) =
    marked seller checkout status.Shipped (invoice_lines before checkout)
changes_by seller before (body.Delivered items) = flat_map (item_delivered before seller) items
changes_by seller before other = []

-- the changes of a seller, in the order of the events, and within one event in the order of its lines or
-- items
abbrev pub changes_after : ℕ → List Body → List Body → List SellerChange
changes_after seller before [] = []
changes_after seller before (b ∷ bs) =
    changes_by seller before b ++ changes_after seller (before ++ b ∷ []) bs

abbrev pub seller_changes : List Step → ℕ → List SellerChange
seller_changes steps seller = changes_after seller [] (taken_bodies steps)

-- an entry is added where it is invoiced
abbrev pub adds : OrderStatus → Bool
adds status.Invoiced = true
adds other = false

abbrev pub is_invoiced : SellerChange → Bool
is_invoiced change = adds change.status

-- the entries after these changes, in the order in which they were added
abbrev pub entries_at : List SellerChange → List SellerChange
entries_at changes = filter is_invoiced changes

abbrev pub same_entry : SellerChange → SellerChange → Bool
same_entry a b = same_id a.checkout b.checkout && same_key a.line.key b.line.key

-- the entry's last status
abbrev pub status_at : List SellerChange → SellerChange → Option OrderStatus
status_at changes entry =
    last_some (λ (c : SellerChange). if same_entry c entry then Some c.status else None) changes

abbrev pub line_cost : PricedLine → ℕ
line_cost line = amount_of line.price line.quantity line.freight line.voucher

abbrev pub row_with : SellerChange → OrderStatus → EntryRow
row_with entry status = record {
  checkout = entry.checkout;
  product = entry.line.key.product;
  quantity = entry.line.quantity;
  amount = line_cost entry.line;
  status = status;
}

-- the row of an entry that is invoiced, paid or shipped
abbrev pub row_by : SellerChange → Option OrderStatus → Option EntryRow
row_by entry (Some status.Invoiced) = Some (row_with entry status.Invoiced)
row_by entry (Some status.Paid) = Some (row_with entry status.Paid)
row_by entry (Some status.Shipped) = Some (row_with entry status.Shipped)
row_by entry other = None

-- the entries in progress after these changes
abbrev pub in_progress_at : List SellerChange → List EntryRow
in_progress_at changes = filter_map (λ entry. row_by entry (status_at changes entry)) (entries_at changes)

-- what they come to
abbrev pub amount_at : List SellerChange → ℕ
amount_at changes = sum_by (λ (row : EntryRow). row.amount) (in_progress_at changes)

-- page n of them, counted from 0
abbrev pub page_of : ℕ → List EntryRow → List EntryRow
page_of n rows = take most_rows_shown (drop (most_rows_shown * n) rows)

pub record SellerSums : Type 0 where
  pub changes : ℕ → List SellerChange

abbrev pub seller_sums : List Step → SellerSums
seller_sums steps = record { changes = seller_changes steps }

-- the present point, which is how many changes there were, and the entries that are in progress there
abbrev pub dashboard_rows : RequestId → List SellerChange → List Sending
dashboard_rows id changes =
    told seller_node id
    (reply.Dashboard (length changes) (length (in_progress_at changes)) (amount_at changes)
    (page_of 0 (in_progress_at changes))) ∷ []

abbrev pub seller_asked : SellerSums → RequestId → Ask → List Sending
seller_asked s id (ask.Dashboard seller) = dashboard_rows id (s.changes seller)
seller_asked s id other = []

abbrev pub seller_rows : SellerSums → Body → List Sending
seller_rows s (body.Asked request) = seller_asked s request.id request.ask
seller_rows s other = []
