-- The book: what was accepted in histories, the tables of the services at the journals' ends, and what these
-- are as sums of what was accepted.
use Rattle.std.specs.Prelude.{◌≡◌, ℕ, ◌+◌, ◌*◌, Bool, true, false, not, ◌==◌, Option, Some, None, List}
use Rattle.std.specs.Prelude.{[], map, filter, length, if◌then◌else◌}
use Rattle.std.specs.List.{filter_map, flat_map, list_any, sum_by, count_by}
use Rattle.market_amounts.specs.declared.keys.ProductKey.{ProductKey}
use Rattle.market_amounts.specs.declared.keys.RequestId.{RequestId}
use Rattle.market_events.specs.declared.bodies.Body.{Body}
use Rattle.market_events.specs.declared.bodies.Body.TheVariants as body
use Rattle.market_events.specs.declared.bodies.Item.{Item}
use Rattle.market_events.specs.declared.bodies.PricedLine.{PricedLine}
use Rattle.market_events.specs.declared.changes.Look.{Look}
use Rattle.market_events.specs.declared.links.TheConstants.{PAYMENT_TO_STOCK}
use Rattle.market_events.specs.declared.replies.EntryRow.{EntryRow}
use Rattle.market_events.specs.declared.replies.OrderStatus.{OrderStatus}
use Rattle.market_events.specs.declared.replies.OrderStatus.TheVariants as status
use Rattle.market_events.specs.declared.replies.Reply.{Reply}
use Rattle.market_events.specs.declared.replies.Reply.TheVariants as reply
use Rattle.market_events.specs.declared.replies.UndoneRule.{UndoneRule}
use Rattle.market_events.specs.declared.replies.UndoneRule.TheVariants as undone
use Rattle.market_events.specs.declared.requests.Ask.{Ask}
use Rattle.market_events.specs.declared.requests.Ask.TheVariants as ask
use Rattle.market_events.specs.Carts.{Held, basket_of, changes_taken, is_accepted, is_sent_on}
use Rattle.market_events.specs.Copies.{copy_of, version_of}
use Rattle.market_events.specs.Customers.{confirmed_count, failed_count, delivered_count}
use Rattle.market_events.specs.Orders.{is_of, is_item_of, order_status, order_total}
use Rattle.market_events.specs.Payments.{limit_of, spent}
use Rattle.market_events.specs.Products.{changes_made}
use Rattle.market_events.specs.Sellers.{in_progress_at, row_with, seller_changes}
use Rattle.market_events.specs.declared.roles.Role.{Role}
use Rattle.market_events.specs.Shipments.{packages, open_packages, items_made}
use Rattle.market_events.specs.Steps.{Step, Sending, made_in, made_on, taken_bodies}
use Rattle.market_events.specs.Stocks.{Reservation, on_hand, reserved, reservations}
use Rattle.market_history.specs.Acts.{Acts, BasketAct, StockAct, CardAct, basket_by, on_hand_by, status_by}
use Rattle.market_history.specs.Acts.{total_by, limit_by, count_for, packages_of_checkouts}
use Rattle.market_history.specs.Acts.{paid_for_checkouts, packages_waiting}
use Rattle.market_history.specs.Blocks.{service_steps}
use Rattle.market_history.specs.Histories.{Histories}
use Rattle.market_history.specs.Once.{reply_at}

-- an accepted line or removal, or a checkout that was sent on
abbrev pub basket_act_of : Ask → Bool → Bool → Option BasketAct
basket_act_of (ask.Line customer key quantity voucher) accepted sent_on =
    if accepted then Some
    (BasketAct.Left customer key (Some (record { quantity = quantity; voucher = voucher }))) else None
basket_act_of (ask.Remove customer key) accepted sent_on =
    if accepted then Some (BasketAct.Left customer key None) else None
basket_act_of (ask.Checkout customer) accepted sent_on =
    if sent_on then Some (BasketAct.Emptied customer) else None
basket_act_of other accepted sent_on = None

abbrev pub basket_act_in : Body → Bool → Bool → Option BasketAct
basket_act_in (body.Asked request) accepted sent_on = basket_act_of request.ask accepted sent_on
basket_act_in other accepted sent_on = None

abbrev pub basket_act : Step → Option BasketAct
basket_act step = basket_act_in step.body (is_accepted step) (is_sent_on step)

-- an accepted request to stock pieces
abbrev pub stock_act_of : Ask → Bool → Option StockAct
stock_act_of (ask.Stock key pieces) accepted =
    if accepted then Some (record { key = key; pieces = pieces }) else None
stock_act_of other accepted = None

abbrev pub stock_act_in : Body → Bool → Option StockAct
stock_act_in (body.Asked request) accepted = stock_act_of request.ask accepted
stock_act_in other accepted = None

abbrev pub stock_act : Step → Option StockAct
stock_act step = stock_act_in step.body (is_accepted step)

-- a card that was set
abbrev pub card_act_of : Ask → Option CardAct
card_act_of (ask.Card customer limit) = Some (record { customer = customer; limit = limit })
card_act_of other = None

abbrev pub card_act : Body → Option CardAct
card_act (body.Asked request) = card_act_of request.ask
card_act other = None

-- the checkout that the body says to be paid
abbrev pub paid_in : Body → Option Reservation
paid_in (body.Confirmed checkout customer lines total) =
    Some (record { checkout = checkout; customer = customer; lines = lines })
paid_in other = None

abbrev pub is_whole_reply : Option Reply → Bool
is_whole_reply (Some (reply.Whole total)) = true
is_whole_reply other = false

-- the checkout that a body tells to be undone, with the rule
abbrev pub undone_sent : Sending → Option (RequestId × UndoneRule)
undone_sent (link, body.Told id (reply.Undone rule)) = Some (id, rule)
undone_sent other = None

abbrev pub is_unpaid : UndoneRule → Bool
is_unpaid undone.NoCard = true
is_unpaid undone.OverLimit = true
is_unpaid other = false

-- the checkouts that the cart told to be undone, in that order
abbrev pub undone_at : Histories → List (RequestId × UndoneRule)
undone_at h = filter_map undone_sent (made_in (service_steps h Role.Cart))

-- of those that were not paid, what stock had reserved
abbrev pub unpaid_of : Histories → (RequestId × UndoneRule) → List Reservation
unpaid_of h u = if is_unpaid u.1 then filter (is_of u.0) (reservations (service_steps h Role.Stock)) else []

-- what was accepted: changes in the product service's order, lines and removals and checkouts sent on in the
-- cart's, pieces in stock's, cards and whole checkouts in payment's, undone checkouts in the cart's,
-- deliveries in shipment's, and the changes of each seller's entries
unfoldable pub acts_of : Histories → Acts
acts_of h = record {
  changes = changes_made (service_steps h Role.Product);
  baskets = filter_map basket_act (service_steps h Role.Cart);
  stocked = filter_map stock_act (service_steps h Role.Stock);
  cards = filter_map card_act (taken_bodies (service_steps h Role.Payment));
  whole =
      filter (λ (r : Reservation). is_whole_reply (reply_at h r.checkout))
      (filter_map paid_in (made_on PAYMENT_TO_STOCK (service_steps h Role.Payment)));
  undone = undone_at h;
  unpaid = flat_map (unpaid_of h) (undone_at h);
  items = items_made (service_steps h Role.Shipment);
  entries = seller_changes (service_steps h Role.Seller);
}

-- the tables of the services
pub record Tables : Type 0 where
  pub look : ProductKey → Look
  pub version : ProductKey → ℕ
  pub cart_copy : ProductKey → Look
  pub stock_copy : ProductKey → Look
  pub basket : ℕ → List (ProductKey × Held)
  pub on_hand : ProductKey → ℕ
  pub reserved : ProductKey → ℕ
  pub order_status : RequestId → Option OrderStatus
  pub order_total : RequestId → ℕ
  pub limit : ℕ → Option ℕ
  pub spent : ℕ → ℕ
  pub packages : List Item
  pub open_packages : List Item
  pub confirmed : ℕ → ℕ
  pub failed : ℕ → ℕ
  pub delivered : ℕ → ℕ
  pub in_progress : ℕ → List EntryRow
  pub point : ℕ → ℕ

-- the sums over the steps that the services took
unfoldable pub tables_at_end : Histories → Tables
tables_at_end h = record {
  look = copy_of (changes_made (service_steps h Role.Product));
  version = version_of (changes_made (service_steps h Role.Product));
  cart_copy = copy_of (changes_taken (service_steps h Role.Cart));
  stock_copy = copy_of (changes_taken (service_steps h Role.Stock));
  basket = basket_of (service_steps h Role.Cart);
  on_hand = on_hand (service_steps h Role.Stock);
  reserved = reserved (service_steps h Role.Stock);
  order_status = order_status (service_steps h Role.Order);
  order_total = order_total (service_steps h Role.Order);
  limit = limit_of (service_steps h Role.Payment);
  spent = spent (service_steps h Role.Payment);
  packages = packages (service_steps h Role.Shipment);
  open_packages = open_packages (service_steps h Role.Shipment);
  confirmed = confirmed_count (service_steps h Role.Customer);
  failed = failed_count (service_steps h Role.Customer);
  delivered = delivered_count (service_steps h Role.Customer);
  in_progress = λ seller. in_progress_at (seller_changes (service_steps h Role.Seller) seller);
  point = λ seller. length (seller_changes (service_steps h Role.Seller) seller);
}

-- the lines of a seller
abbrev pub lines_for : ℕ → List PricedLine → List PricedLine
lines_for seller lines = filter (λ (line : PricedLine). line.key.seller == seller) lines

abbrev pub line_count : ℕ → List Reservation → ℕ
line_count seller checkouts = sum_by (λ (r : Reservation). length (lines_for seller r.lines)) checkouts

-- the row of a line that was shipped
abbrev pub shipped_row : RequestId → PricedLine → EntryRow
shipped_row checkout line =
    row_with (record { checkout = checkout; line = line; status = status.Shipped }) status.Shipped

-- the lines of the seller in a whole checkout that no delivery has
abbrev pub rows_under_way : List Item → ℕ → Reservation → List EntryRow
rows_under_way items seller r =
    map (shipped_row r.checkout)
    (filter (λ (line : PricedLine). not (list_any (is_item_of r.checkout line.key) items))
    (lines_for seller r.lines))

-- the tables as sums of what was accepted
unfoldable pub book : Acts → Tables
book acts = record {
  look = copy_of acts.changes;
  version = version_of acts.changes;
  cart_copy = copy_of acts.changes;
  stock_copy = copy_of acts.changes;
  basket = basket_by acts.baskets;
  on_hand = on_hand_by acts;
  reserved = λ key. 0;
  order_status = status_by acts;
  order_total = total_by acts;
  limit = limit_by acts.cards;
  spent = paid_for_checkouts acts.whole;
  packages = packages_of_checkouts acts.whole;
  open_packages = packages_waiting acts.whole acts.items;
  confirmed = count_for acts.whole;
  failed = count_for acts.unpaid;
  delivered = λ customer. count_by (λ (i : Item). i.customer == customer) acts.items;
  in_progress = λ seller. flat_map (rows_under_way acts.items seller) acts.whole;
  point = λ seller. 3 * line_count seller acts.whole + 2 * line_count seller acts.unpaid
      + count_by (λ (i : Item). i.key.seller == seller) acts.items;
}

-- the tables are the same at each key, id, customer and seller
pub record AreSameTables (a b : Tables) : Type 0 where
  pub look : (key : ProductKey) → a.look key ≡ b.look key
  pub version : (key : ProductKey) → a.version key ≡ b.version key
  pub cart_copy : (key : ProductKey) → a.cart_copy key ≡ b.cart_copy key
  pub stock_copy : (key : ProductKey) → a.stock_copy key ≡ b.stock_copy key
  pub basket : (customer : ℕ) → a.basket customer ≡ b.basket customer
  pub on_hand : (key : ProductKey) → a.on_hand key ≡ b.on_hand key
  pub reserved : (key : ProductKey) → a.reserved key ≡ b.reserved key
  pub order_status : (checkout : RequestId) → a.order_status checkout ≡ b.order_status checkout
  pub order_total : (checkout : RequestId) → a.order_total checkout ≡ b.order_total checkout
  pub limit : (customer : ℕ) → a.limit customer ≡ b.limit customer
  pub spent : (customer : ℕ) → a.spent customer ≡ b.spent customer
  pub packages : a.packages ≡ b.packages
  pub open_packages : a.open_packages ≡ b.open_packages
  pub confirmed : (customer : ℕ) → a.confirmed customer ≡ b.confirmed customer
  pub failed : (customer : ℕ) → a.failed customer ≡ b.failed customer
  pub delivered : (customer : ℕ) → a.delivered customer ≡ b.delivered customer
  pub in_progress : (seller : ℕ) → a.in_progress seller ≡ b.in_progress seller
  pub point : (seller : ℕ) → a.point seller ≡ b.point seller

-- the histories are the book: every table is the sum of what was accepted
abbrev pub IsBook : Histories → Type 0
IsBook h = AreSameTables (tables_at_end h) (book (acts_of h))
