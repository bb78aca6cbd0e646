-- Checkouts: when one is whole and when it is undone in stock, order, payment and shipment, and the
-- reservations that are listed.
use Rattle.std.specs.Prelude.{◌≡◌, ℕ, Bool, true, false, not, ◌==◌, ◌&&◌, ◌||◌, Option, Some, None, List}
use Rattle.std.specs.Prelude.{map, filter, count_by, ◌⊎◌, if◌then◌else◌}
use Rattle.std.specs.List.{filter_map, list_any, list_all, AllByRecursion}
use Rattle.market_amounts.specs.declared.keys.RequestId.{RequestId}
use Rattle.market_events.specs.declared.bodies.Body.{Body}
use Rattle.market_events.specs.declared.bodies.Body.TheVariants as body
use Rattle.market_events.specs.declared.bodies.Item.{Item}
use Rattle.market_events.specs.declared.bodies.PricedLine.{PricedLine}
use Rattle.market_events.specs.declared.events.Event.{Event}
use Rattle.market_events.specs.declared.links.Link.{Link}
use Rattle.market_events.specs.declared.links.TheConstants.{STOCK_TO_ORDER, PAYMENT_TO_STOCK}
use Rattle.market_events.specs.declared.links.TheConstants.{PAYMENT_TO_ORDER, PAYMENT_TO_SHIPMENT}
use Rattle.market_events.specs.declared.links.TheConstants.{PAYMENT_TO_CUSTOMER, PAYMENT_TO_SELLER}
use Rattle.market_events.specs.declared.replies.OrderStatus.{OrderStatus}
use Rattle.market_events.specs.declared.replies.OrderStatus.TheVariants as status
use Rattle.market_events.specs.declared.replies.Reply.TheVariants as reply
use Rattle.market_events.specs.declared.replies.UndoneRule.{UndoneRule}
use Rattle.market_events.specs.declared.replies.UndoneRule.TheVariants as undone
use Rattle.market_events.specs.declared.requests.Ask.{Ask}
use Rattle.market_events.specs.declared.requests.Ask.TheVariants as ask
use Rattle.market_events.specs.declared.requests.Request.{Request}
use Rattle.market_events.specs.Links.{stock_node}
use Rattle.market_events.specs.Orders.{is_of, order_status, order_total}
use Rattle.market_events.specs.Requests.{lane_of, same_id}
use Rattle.market_events.specs.Sellers.{SellerChange, entries_at, same_entry, seller_changes, status_at}
use Rattle.market_events.specs.declared.roles.Role.{Role}
use Rattle.market_events.specs.Shipments.{is_open, packages}
use Rattle.market_events.specs.Steps.{made_on, taken_bodies}
use Rattle.market_events.specs.Stocks.{Reservation, reservation_in, reservations, confirms, fails, settles}
use Rattle.market_events.specs.Stocks.{is_confirmed, is_settled}
use Rattle.market_history.specs.Acts.{lines_of}
use Rattle.market_history.specs.Blocks.{service_steps}
use Rattle.market_history.specs.Histories.{Histories, journal_at}
use Rattle.market_history.specs.Once.{kept_by, with_id, reply_at}
use Rattle.market_history.specs.Sent.{sent, got}

-- the lines that stock reserved for the checkout
abbrev pub lines_reserved : Histories → RequestId → List PricedLine
lines_reserved h c = lines_of (reservations (service_steps h Role.Stock)) c

-- the body says that the checkout was paid with this total
abbrev pub pays : RequestId → ℕ → Body → Bool
pays c total (body.Confirmed checkout customer lines t) = same_id checkout c && (t == total)
pays c total other = false

-- how many bodies that pass the test were made on the link by payment
abbrev pub made_by_payment : Histories → Link → (Body → Bool) → ℕ
made_by_payment h link test = count_by test (made_on link (service_steps h Role.Payment))

-- payment said once on the link that the checkout was paid, with this total
pub record IsPaidOn (h : Histories) (link : Link) (c : RequestId) (total : ℕ) : Type 0 where
  pub once : made_by_payment h link (confirms c) ≡ 1
  pub so_much : made_by_payment h link (pays c total) ≡ 1

-- the changes of the entries of a seller
abbrev pub changes_of : Histories → ℕ → List SellerChange
changes_of h seller = seller_changes (service_steps h Role.Seller) seller

-- the entry of a line of the checkout, and its package
abbrev pub entry_for : RequestId → PricedLine → SellerChange
entry_for c line = record { checkout = c; line = line; status = status.Invoiced }

-- the package of a line is open
abbrev pub is_under_way : Histories → RequestId → PricedLine → Bool
is_under_way h c line =
    is_open (service_steps h Role.Shipment) (record { checkout = c; customer = 0; key = line.key })

-- the seller of the line has one entry of it, which is shipped, and delivered where its package is closed
pub record HasEntry (h : Histories) (c : RequestId) (line : PricedLine) : Type 0 where
  pub one : count_by (same_entry (entry_for c line)) (entries_at (changes_of h line.key.seller)) ≡ 1
  pub status : status_at (changes_of h line.key.seller) (entry_for c line)
      ≡ Some (if is_under_way h c line then status.Shipped else status.Delivered)

-- the checkout is whole with this total
pub record IsWhole (h : Histories) (c : RequestId) (total : ℕ) : Type 0 where
  -- its reply says so
  pub reply : reply_at h c ≡ Some (reply.Whole total)
  -- stock reserved its lines once, and took its payment once and no failure of it
  pub reserved : count_by (is_of c) (reservations (service_steps h Role.Stock)) ≡ 1
  pub sold : count_by (confirms c) (taken_bodies (service_steps h Role.Stock)) ≡ 1
  pub not_released : count_by (fails c) (taken_bodies (service_steps h Role.Stock)) ≡ 0
  -- its order has this total, and is shipped or delivered
  pub order_total : order_total (service_steps h Role.Order) c ≡ total
  pub order_status : (order_status (service_steps h Role.Order) c ≡ Some status.Shipped)
      ⊎ (order_status (service_steps h Role.Order) c ≡ Some status.Delivered)
  -- payment said so to stock, order, shipment, customer and seller, and said no failure
  pub paid_to_stock : IsPaidOn h PAYMENT_TO_STOCK c total
  pub paid_to_order : IsPaidOn h PAYMENT_TO_ORDER c total
  pub paid_to_shipment : IsPaidOn h PAYMENT_TO_SHIPMENT c total
  pub paid_to_customer : IsPaidOn h PAYMENT_TO_CUSTOMER c total
  pub paid_to_seller : IsPaidOn h PAYMENT_TO_SELLER c total
  pub not_failed_to_stock : made_by_payment h PAYMENT_TO_STOCK (fails c) ≡ 0
  pub not_failed_to_order : made_by_payment h PAYMENT_TO_ORDER (fails c) ≡ 0
  pub not_failed_to_customer : made_by_payment h PAYMENT_TO_CUSTOMER (fails c) ≡ 0
  pub not_failed_to_seller : made_by_payment h PAYMENT_TO_SELLER (fails c) ≡ 0
  -- shipment has exactly one package for each of its lines
  pub packages : map (λ (p : Item). p.key)
      (filter (λ (p : Item). same_id p.checkout c) (packages (service_steps h Role.Shipment)))
      ≡ map (λ (line : PricedLine). line.key) (lines_reserved h c)
  -- each line's seller has its entry
  pub entries : AllByRecursion (HasEntry h c) (lines_reserved h c)

-- the entry is of the checkout
abbrev pub is_entry_of : RequestId → SellerChange → Bool
is_entry_of c entry = same_id entry.checkout c

abbrev pub is_cancelled : Option OrderStatus → Bool
is_cancelled (Some status.Cancelled) = true
is_cancelled other = false

-- the checkout has no order, and no seller has an entry of it
pub record IsNotOrdered (h : Histories) (c : RequestId) : Type 0 where
  pub order : order_status (service_steps h Role.Order) c ≡ None
  pub entries : (seller : ℕ) → list_any (is_entry_of c) (entries_at (changes_of h seller)) ≡ false

-- its order is cancelled, and so are all its entries
pub record IsCancelled (h : Histories) (c : RequestId) : Type 0 where
  pub order : order_status (service_steps h Role.Order) c ≡ Some status.Cancelled
  pub entries : (seller : ℕ)
      → list_all (λ (e : SellerChange). not (is_entry_of c e)
      || is_cancelled (status_at (changes_of h seller) e)) (entries_at (changes_of h seller)) ≡ true

-- what the rule leaves: it was stopped before there was an order, or it was not paid
abbrev pub IsLeftBy : Histories → RequestId → UndoneRule → Type 0
IsLeftBy h c undone.CartEmpty = IsNotOrdered h c
IsLeftBy h c (undone.Gone key) = IsNotOrdered h c
IsLeftBy h c (undone.Short key) = IsNotOrdered h c
IsLeftBy h c undone.NoCard = IsCancelled h c
IsLeftBy h c undone.OverLimit = IsCancelled h c

-- the checkout is undone with this rule
pub record IsUndone (h : Histories) (c : RequestId) (rule : UndoneRule) : Type 0 where
  -- its reply names the rule
  pub reply : reply_at h c ≡ Some (reply.Undone rule)
  -- it counts in nothing that is reserved, sold or spent, and has no package
  pub not_reserved : list_any (λ (r : Reservation). is_of c r
      && not (is_settled (service_steps h Role.Stock) r.checkout)) (reservations (service_steps h Role.Stock))
      ≡ false
  pub not_sold : list_any (λ (r : Reservation). is_of c r
      && is_confirmed (service_steps h Role.Stock) r.checkout) (reservations (service_steps h Role.Stock))
      ≡ false
  pub not_spent : list_any (confirms c) (made_on PAYMENT_TO_STOCK (service_steps h Role.Payment)) ≡ false
  pub no_package : list_any (λ (p : Item). same_id p.checkout c) (packages (service_steps h Role.Shipment))
      ≡ false
  pub left : IsLeftBy h c rule

abbrev pub is_checkout : Ask → Bool
is_checkout (ask.Checkout customer) = true
is_checkout other = false

abbrev pub asks_checkout : Option Request → Bool
asks_checkout None = false
asks_checkout (Some r) = is_checkout r.ask

-- the id is of a checkout that is kept
abbrev pub is_kept_checkout : Histories → RequestId → Bool
is_kept_checkout h c = asks_checkout (with_id c (kept_by h (lane_of c)))

-- the checkout is whole with some total or undone with some rule
abbrev pub IsDecided : Histories → RequestId → Type 0
IsDecided h c = ((total : ℕ) × IsWhole h c total) ⊎ ((rule : UndoneRule) × IsUndone h c rule)

-- the bodies of these events
abbrev pub bodies_of : List Event → List Body
bodies_of events = map (λ (e : Event). e.body) events

-- the listed reservations: those that stock sent to order, for whose checkout it took neither payment nor
-- failure
abbrev pub listed_reservations : Histories → List Reservation
listed_reservations h =
    filter (λ (r : Reservation). not
    (list_any (settles r.checkout) (bodies_of (got PAYMENT_TO_STOCK (journal_at h stock_node)))))
    (filter_map reservation_in (bodies_of (sent STOCK_TO_ORDER (journal_at h stock_node))))
