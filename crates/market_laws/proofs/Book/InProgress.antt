-- In settled histories the entries in progress are the book's (progress-book): the lines of whole checkouts that no delivery has.
use Rattle.std.proofs.Common.{◌≡◌, ℕ, ◌≤◌, Bool, true, false, cond, not, List, [], ◌∷◌, ◌++◌, Option, Some, None, map, filter, filter_map, if◌then◌else◌, count_by, refl, ap, ◌∙◌, arith}
use Rattle.std.specs.List.{cons_option, flat_map, list_any}
use Rattle.market_amounts.specs.declared.keys.RequestId.{RequestId}
use Rattle.market_events.specs.declared.bodies.Body.{Body}
use Rattle.market_events.specs.declared.bodies.Body.TheVariants as body
use Rattle.market_events.specs.declared.bodies.Item.{Item}
use Rattle.market_events.specs.declared.bodies.PricedLine.{PricedLine}
use Rattle.market_events.specs.declared.links.TheConstants.{STOCK_TO_ORDER}
use Rattle.market_events.specs.declared.replies.EntryRow.{EntryRow}
use Rattle.market_events.specs.declared.replies.OrderStatus.TheVariants as status
use Rattle.market_events.specs.Links.{seller_node}
use Rattle.market_events.specs.Orders.{is_item_of, is_of, is_taken, items_taken, ships}
use Rattle.market_events.specs.Sellers.{SellerChange, entries_at, in_progress_at, marked, row_by, seller_changes, status_at}
use Rattle.market_events.specs.declared.roles.Role.{Role}
use Rattle.market_events.specs.Shipments.{items_made}
use Rattle.market_events.specs.Steps.{Step, taken_bodies, made_on}
use Rattle.market_events.specs.Stocks.{Reservation, confirms, fails}
use Rattle.market_events.proofs.Values.Lists.{any-none, count-none, count-some}
use Rattle.market_events.proofs.Values.Same.{same_id-self}
use Rattle.market_events.proofs.Steps.SellerEntries.{invoice_in}
use Rattle.market_history.specs.Blocks.{service_steps}
use Rattle.market_history.specs.Book.{lines_for, rows_under_way, shipped_row}
use Rattle.market_history.specs.Histories.{Histories, journal_at}
use Rattle.market_history.specs.Lawful.{IsLawful}
use Rattle.market_history.specs.Outstanding.{IsSettled}
use Rattle.market_laws.specs.Runs.{Member}
use Rattle.market_laws.proofs.Origins.Made.{steps-run}
use Rattle.market_laws.proofs.Views.Gathered.{gathered-joined, gathered-mapped, gathered-members, gathered-none, joined-kept, joined-members}
use Rattle.market_laws.proofs.Moments.ReservationSums.{count-held}
use Rattle.market_laws.proofs.Fits.RepliesOnce.{any-counted}
use Rattle.market_laws.proofs.Runs.SellerEntries.{entries_in, entries-invoiced, entry-due}
use Rattle.market_laws.proofs.Runs.SellerStatuses.{due, due-is, status_due}
use Rattle.market_laws.proofs.Settled.Counts.{held-settled}
use Rattle.market_laws.proofs.Settled.Outcomes.{held, settling, was_paid, sellers-held, settled-few}
use Rattle.market_laws.proofs.Settled.Sellers.{seller-failed, seller-shipped, seller-items}
use Rattle.market_laws.proofs.Settled.Ways.{counted}

-- the entries of a reservation
abbrev entries_for : ℕ → Reservation → List SellerChange
entries_for seller r = marked seller r.checkout status.Invoiced r.lines

entries-joined : (seller : ℕ) (bs : List Body) → flat_map (entries_in seller) bs ≡ flat_map (entries_for seller) (filter_map invoice_in bs)
entries-joined seller [] = refl
entries-joined seller (b ∷ bs) = by b (entries-joined seller bs)
  where
    by : (b : Body) → flat_map (entries_in seller) bs ≡ flat_map (entries_for seller) (filter_map invoice_in bs) → entries_in seller b ++ flat_map (entries_in seller) bs ≡ flat_map (entries_for seller) (cons_option (invoice_in b) (filter_map invoice_in bs))
    by (body.Invoice checkout customer lines total) rest = ap (λ l. marked seller checkout status.Invoiced lines ++ l) rest
    by other rest = rest

-- the row of an entry by whether it was delivered
row_if : RequestId → PricedLine → Bool → Option EntryRow
row_if c line delivered = if delivered then None else Some (shipped_row c line)

rows-shipped : (items : List Item) (c : RequestId) (lines : List PricedLine) (row : PricedLine → Option EntryRow) → ((line : PricedLine) → row line ≡ row_if c line (list_any (is_item_of c line.key) items))
    → filter_map row lines ≡ map (shipped_row c) (filter (λ (line : PricedLine). not (list_any (is_item_of c line.key) items)) lines)
unfolding row_if
rows-shipped items c [] row is = refl
rows-shipped items c (line ∷ lines) row is = ap (λ o. cons_option o (filter_map row lines)) (is line) ∙ by (list_any (is_item_of c line.key) items) (rows-shipped items c lines row is)
  where
    by : (b : Bool) → filter_map row lines ≡ map (shipped_row c) (filter (λ (line : PricedLine). not (list_any (is_item_of c line.key) items)) lines)
        → cons_option (if b then None else Some (shipped_row c line)) (filter_map row lines) ≡ map (shipped_row c) (cond (not b) (line ∷ filter (λ (line : PricedLine). not (list_any (is_item_of c line.key) items)) lines) (filter (λ (line : PricedLine). not (list_any (is_item_of c line.key) items)) lines))
    by true rest = rest
    by false rest = ap (λ l. shipped_row c line ∷ l) rest

module _ (h : Histories) (lawful : IsLawful h) (settled : IsSettled h) (seller : ℕ) where
  abbrev steps : List Step
  steps = service_steps h Role.Seller

  abbrev items : List Item
  items = items_made (service_steps h Role.Shipment)

  -- the row of an entry by the status that is due
  row_due : SellerChange → Option EntryRow
  row_due e = row_by e (Some (due steps e.checkout e.line.key))

  module _ (r : Reservation) (here : Member r (held h)) where
    abbrev c : RequestId
    c = r.checkout

    -- a line of the reservation
    abbrev entry : PricedLine → SellerChange
    entry line = record { checkout = r.checkout; line = line; status = status.Invoiced }

    items_same : (line : PricedLine) → list_any (is_item_of c line.key) (items_taken steps) ≡ list_any (is_item_of c line.key) items
    items_same line = ap (list_any (is_item_of c line.key)) (seller-items h lawful settled)

    -- where it was paid, a line is shipped, or delivered
    row_paid : was_paid h r ≡ true → (line : PricedLine) → row_due (entry line) ≡ row_if c line (list_any (is_item_of c line.key) items)
    unfolding row_due row_if
    row_paid is line =
        ap (λ st. row_by (entry line) (Some st)) (due-is steps c line.key false (list_any (is_item_of c line.key) items) true (is_taken confirms steps c) unfailed (items_same line) shipped refl)
        ∙ by (list_any (is_item_of c line.key) items)
      where
        some : 1 ≤ count_by (confirms c) (settling h)
        some = count-some (confirms c) (settling h) is

        unfailed : is_taken fails steps c ≡ false
        unfailed = any-none (fails c) (taken_bodies steps) (let one = some in let few = settled-few h lawful settled c in let same = seller-failed h lawful settled c in omega arith)

        shipped : is_taken ships steps c ≡ true
        shipped = any-counted (ships c) (taken_bodies steps) (let one = some in let same = seller-shipped h lawful settled c in omega arith)

        by : (d : Bool) → row_by (entry line) (Some (status_due false d true (is_taken confirms steps c))) ≡ (if d then None else Some (shipped_row c line))
        by true = refl
        by false = refl

    -- where it was not, a line is cancelled
    row_unpaid : was_paid h r ≡ false → (line : PricedLine) → row_due (entry line) ≡ None
    unfolding row_due
    row_unpaid is line =
        ap (λ st. row_by (entry line) (Some st)) (due-is steps c line.key true (list_any (is_item_of c line.key) (items_taken steps)) (is_taken ships steps c) (is_taken confirms steps c) cancelled refl refl refl)
      where
        cancelled : is_taken fails steps c ≡ true
        cancelled =
            let some = counted (is_of c) r (held h) here (same_id-self c) in
            let none = count-none (confirms c) (settling h) is in
            let all = held-settled h lawful settled c in
            let each = count-held c (made_on STOCK_TO_ORDER (service_steps h Role.Stock)) in
            let same = seller-failed h lawful settled c in
            any-counted (fails c) (taken_bodies steps) (omega arith)

    rows : filter_map row_due (entries_for seller r) ≡ (if was_paid h r then rows_under_way items seller r else [])
    rows = gathered-mapped row_due entry (lines_for seller r.lines) ∙ by (was_paid h r) refl
      where
        by : (b : Bool) → was_paid h r ≡ b → filter_map (λ line. row_due (entry line)) (lines_for seller r.lines) ≡ (if b then rows_under_way items seller r else [])
        by true is = rows-shipped items c (lines_for seller r.lines) (λ line. row_due (entry line)) (row_paid is)
        by false is = gathered-none (λ line. row_due (entry line)) (row_unpaid is) (lines_for seller r.lines)

  pub progress-book : in_progress_at (seller_changes steps seller) ≡ flat_map (rows_under_way items seller) (filter (was_paid h) (held h))
  unfolding row_due
  progress-book =
      gathered-members (λ (e : SellerChange). row_by e (status_at (seller_changes steps seller) e)) row_due (entries_at (seller_changes steps seller))
      (λ e here. ap (row_by e) (entry-due steps (steps-run seller_node (journal_at h seller_node)) seller e here))
      ∙ ap (filter_map row_due) (entries-invoiced seller [] (taken_bodies steps) ∙ entries-joined seller (taken_bodies steps) ∙ ap (flat_map (entries_for seller)) (sellers-held h lawful settled))
      ∙ gathered-joined row_due (entries_for seller) (held h)
      ∙ joined-members (λ (r : Reservation). filter_map row_due (entries_for seller r)) (λ (r : Reservation). if was_paid h r then rows_under_way items seller r else []) (held h) rows
      ∙ joined-kept (was_paid h) (rows_under_way items seller) (held h)
