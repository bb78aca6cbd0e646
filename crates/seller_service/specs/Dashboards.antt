-- The entries of a seller, and which of them are in progress.
use Rattle.std.specs.Prelude.{List, Option, None, length, if◌then◌else◌}
use Rattle.std.specs.BTreeMap.{is_at}
use Rattle.std.specs.Map.{lookup}
use Rattle.std.specs.Ordering.{ordering_then}
use Rattle.std.specs.declared.cmp.Ordering.{Ordering}
use Rattle.market_events.specs.declared.replies.EntryRow.{EntryRow}
use Rattle.market_events.specs.declared.replies.OrderStatus.{OrderStatus}
use Rattle.market_events.specs.declared.replies.Reply.{Reply}
use Rattle.market_events.specs.declared.replies.Reply.TheVariants as reply
use Rattle.market_events.specs.Sellers.{SellerChange, is_invoiced, row_by, in_progress_at, amount_at, page_of}
use Rattle.market_events.specs.Steps.{id_cmp, key_cmp}
use Rattle.seller_service.specs.declared.change.EntryId.{EntryId}

-- which entry a change is of
abbrev pub id_at : SellerChange → EntryId
id_at change = record { checkout = change.checkout; product = change.line.key }

-- entries by checkout, then product
abbrev pub entry_cmp : EntryId → EntryId → Ordering
entry_cmp a b = ordering_then (id_cmp a.checkout b.checkout) (key_cmp a.product b.product)

-- the status that a table has of an entry
abbrev pub status_in_table : List (EntryId × OrderStatus) → EntryId → Option OrderStatus
status_in_table table id = lookup (is_at (entry_cmp id)) table

-- the row of the entry that a change adds, where it adds one that is in progress
abbrev pub shown_at : (EntryId → Option OrderStatus) → SellerChange → Option EntryRow
shown_at statuses change = if is_invoiced change then row_by change (statuses (id_at change)) else None

-- what a dashboard shows of a seller with these changes
abbrev pub dashboard_at : List SellerChange → Reply
dashboard_at changes =
    let rows = in_progress_at changes in
    reply.Dashboard (length changes) (length rows) (amount_at changes) (page_of 0 rows)
