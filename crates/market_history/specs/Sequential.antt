-- The sequential market: requests answered one after the other by the tables, each with all its effects at
-- once.
use Rattle.std.specs.Prelude.{ℕ, ◌+◌, nat_le, nat_lt, List, [], ◌∷◌, ◌++◌, Option, Some, None, option_map}
use Rattle.std.specs.Prelude.{filter_map, find, if◌then◌else◌, unwrap_or}
use Rattle.std.specs.List.{list_any, flat_map}
use Rattle.market_amounts.specs.declared.keys.ProductKey.{ProductKey}
use Rattle.market_amounts.specs.declared.keys.RequestId.{RequestId}
use Rattle.market_events.specs.declared.bodies.Body.TheVariants as body
use Rattle.market_events.specs.declared.bodies.Item.{Item}
use Rattle.market_events.specs.declared.bodies.PayRule.{PayRule}
use Rattle.market_events.specs.declared.bodies.PayRule.TheVariants as pay
use Rattle.market_events.specs.declared.bodies.PricedLine.{PricedLine}
use Rattle.market_events.specs.declared.links.TheConstants.{PRODUCT_TO_STOCK}
use Rattle.market_events.specs.declared.replies.OrderStatus.TheVariants as status
use Rattle.market_events.specs.declared.replies.Reply.{Reply}
use Rattle.market_events.specs.declared.replies.Reply.TheVariants as reply
use Rattle.market_events.specs.declared.replies.Rule.TheVariants as rule
use Rattle.market_events.specs.declared.replies.UndoneRule.{UndoneRule}
use Rattle.market_events.specs.declared.replies.UndoneRule.TheVariants as undone
use Rattle.market_events.specs.declared.requests.Ask.{Ask}
use Rattle.market_events.specs.declared.requests.Ask.TheVariants as ask
use Rattle.market_events.specs.declared.requests.Request.{Request}
use Rattle.market_events.specs.Carts.{Held, cart_asked, first_gone, is_refusal, priced, undone_by_payment}
use Rattle.market_events.specs.Copies.{ProductChange, copy_of, last_some}
use Rattle.market_events.specs.Customers.{customer_asked}
use Rattle.market_events.specs.Orders.{order_asked}
use Rattle.market_events.specs.Payments.{payment_asked}
use Rattle.market_events.specs.Products.{change_in, product_asked}
use Rattle.market_events.specs.Sellers.{SellerChange, marked, lines_with_keys, seller_asked}
use Rattle.market_events.specs.Shipments.{delivered_of, shipment_asked}
use Rattle.market_events.specs.Steps.{Sending, body_on}
use Rattle.market_events.specs.Stocks.{Reservation, stock_asked}
use Rattle.market_events.specs.WellFormed.{total_of}
use Rattle.market_history.specs.Acts.{Acts, BasketAct, StockAct, basket_by, lines_of, limit_by}
use Rattle.market_history.specs.Acts.{on_hand_by, product_table, cart_table, stock_table, order_table}
use Rattle.market_history.specs.Acts.{payment_table, shipment_table, customer_table, seller_table}
use Rattle.market_history.specs.Acts.{paid_for_checkouts, packages_waiting}

-- what a request other than a checkout is answered by its service's table
abbrev pub rows_for : Acts → RequestId → Ask → List Sending
rows_for acts id (ask.Create key price freight) =
    product_asked (product_table acts) id (ask.Create key price freight)
rows_for acts id (ask.Price key price) = product_asked (product_table acts) id (ask.Price key price)
rows_for acts id (ask.Delete key) = product_asked (product_table acts) id (ask.Delete key)
rows_for acts id (ask.View key) = cart_asked (cart_table acts) id (ask.View key)
rows_for acts id (ask.Line customer key quantity voucher) =
    cart_asked (cart_table acts) id (ask.Line customer key quantity voucher)
rows_for acts id (ask.Remove customer key) = cart_asked (cart_table acts) id (ask.Remove customer key)
rows_for acts id (ask.Checkout customer) = []
rows_for acts id (ask.Stock key pieces) = stock_asked (stock_table acts) id (ask.Stock key pieces)
rows_for acts id (ask.Level key) = stock_asked (stock_table acts) id (ask.Level key)
rows_for acts id (ask.Order checkout) = order_asked (order_table acts) id (ask.Order checkout)
rows_for acts id (ask.Card customer limit) = payment_asked (payment_table acts) id (ask.Card customer limit)
rows_for acts id ask.Deliver = shipment_asked (shipment_table acts) id ask.Deliver
rows_for acts id (ask.Customer customer) = customer_asked (customer_table acts) id (ask.Customer customer)
rows_for acts id (ask.Dashboard seller) = seller_asked (seller_table acts) id (ask.Dashboard seller)

-- the reply that an event tells
abbrev pub reply_told : Sending → Option Reply
reply_told (link, body.Told id r) = Some r
reply_told other = None

-- the reply among what is answered: a request has one
abbrev pub reply_among : List Sending → Reply
reply_among rows = unwrap_or (last_some reply_told rows) (reply.Refused rule.Unknown)

-- what a checkout comes to: it is stopped at the cart, it is short of pieces, it is not paid, or it is whole
pub data Verdict : Type 0 where
  Stopped : UndoneRule → Verdict
  Short : ProductKey → Verdict
  Unpaid : PayRule → Verdict
  Whole : Verdict

-- the lines of a customer's basket with the prices of now
abbrev pub basket_priced : Acts → ℕ → List PricedLine
basket_priced acts customer = filter_map (priced (copy_of acts.changes)) (basket_by acts.baskets customer)

-- the least product of which fewer pieces are on hand
abbrev pub first_short : (ProductKey → ℕ) → List PricedLine → Option ProductKey
first_short on_hand lines =
    option_map (λ (line : PricedLine). line.key)
    (find (λ (line : PricedLine). nat_lt (on_hand line.key) line.quantity) lines)

-- by the card
abbrev pub verdict_of_card : Option ℕ → ℕ → Verdict
verdict_of_card None due = Unpaid pay.NoCard
verdict_of_card (Some limit) due = if nat_le due limit then Whole else Unpaid pay.OverLimit

-- by what is on hand, and then by the card
abbrev pub verdict_of_stock : Option ProductKey → Option ℕ → ℕ → Verdict
verdict_of_stock (Some key) limit due = Short key
verdict_of_stock None limit due = verdict_of_card limit due

-- by the basket and the least product in it that is not live, then by what is on hand, and then by the card
abbrev pub verdict_of_basket : List (ProductKey × Held) → Option ProductKey → Option ProductKey → Option ℕ → ℕ
    → Verdict
verdict_of_basket [] first short limit due = Stopped undone.CartEmpty
verdict_of_basket (e ∷ es) (Some key) short limit due = Stopped (undone.Gone key)
verdict_of_basket (e ∷ es) None short limit due = verdict_of_stock short limit due

abbrev pub verdict : Acts → ℕ → Verdict
verdict acts customer =
    verdict_of_basket (basket_by acts.baskets customer)
    (first_gone (copy_of acts.changes) (basket_by acts.baskets customer))
    (first_short (on_hand_by acts) (basket_priced acts customer))
    (limit_by acts.cards customer) (paid_for_checkouts acts.whole customer
    + total_of (basket_priced acts customer))

abbrev pub reply_to_verdict : Verdict → ℕ → Reply
reply_to_verdict (Stopped rule) total = reply.Undone rule
reply_to_verdict (Short key) total = reply.Undone (undone.Short key)
reply_to_verdict (Unpaid rule) total = reply.Undone (undone_by_payment rule)
reply_to_verdict Whole total = reply.Whole total

abbrev pub reply_to_ask : Acts → RequestId → Ask → Reply
reply_to_ask acts id (ask.Checkout customer) =
    reply_to_verdict (verdict acts customer) (total_of (basket_priced acts customer))
reply_to_ask acts id other = reply_among (rows_for acts id other)

abbrev pub sequential_reply : Acts → Request → Reply
sequential_reply acts r = reply_to_ask acts r.id r.ask

-- the changes that are told to stock, as they are told to the cart
abbrev pub changes_in : List Sending → List ProductChange
changes_in rows = filter_map change_in (filter_map (body_on PRODUCT_TO_STOCK) rows)

abbrev pub with_changes : Acts → List Sending → Acts
with_changes acts rows = record acts { changes = acts.changes ++ changes_in rows }

-- with one more act, unless a refusal is told
abbrev pub with_left : Acts → BasketAct → List Sending → Acts
with_left acts act rows =
    record acts { baskets = if list_any is_refusal rows then acts.baskets else acts.baskets ++ act ∷ [] }

abbrev pub with_stocked : Acts → StockAct → List Sending → Acts
with_stocked acts act rows =
    record acts { stocked = if list_any is_refusal rows then acts.stocked else acts.stocked ++ act ∷ [] }

-- with a checkout: its basket is empty once it was sent on; all its lines get each status before the next one
abbrev pub entries_unpaid : RequestId → List PricedLine → ℕ → List SellerChange
entries_unpaid id lines seller =
    marked seller id status.Invoiced lines ++ marked seller id status.Cancelled lines

abbrev pub entries_whole : RequestId → List PricedLine → ℕ → List SellerChange
entries_whole id lines seller = marked seller id status.Invoiced lines
    ++ (marked seller id status.Paid lines ++ marked seller id status.Shipped lines)

abbrev pub with_checkout : Acts → Reservation → Verdict → Acts
with_checkout acts r (Stopped rule) = record acts { undone = acts.undone ++ (r.checkout, rule) ∷ [] }
with_checkout acts r (Short key) = record acts {
  baskets = acts.baskets ++ BasketAct.Emptied r.customer ∷ [];
  undone = acts.undone ++ (r.checkout, undone.Short key) ∷ [];
}
with_checkout acts r (Unpaid rule) = record acts {
  baskets = acts.baskets ++ BasketAct.Emptied r.customer ∷ [];
  undone = acts.undone ++ (r.checkout, undone_by_payment rule) ∷ [];
  unpaid = acts.unpaid ++ r ∷ [];
  entries = λ seller. acts.entries seller ++ entries_unpaid r.checkout r.lines seller;
}
with_checkout acts r Whole = record acts {
  baskets = acts.baskets ++ BasketAct.Emptied r.customer ∷ [];
  whole = acts.whole ++ r ∷ [];
  entries = λ seller. acts.entries seller ++ entries_whole r.checkout r.lines seller;
}

-- with a delivery: the entry of each item's line, where it is of the seller
abbrev pub entry_delivered : Acts → ℕ → Item → List SellerChange
entry_delivered acts seller item =
    marked seller item.checkout status.Delivered (lines_with_keys (lines_of (acts.whole
    ++ acts.unpaid) item.checkout) (item.key ∷ []))

abbrev pub with_items : Acts → List Item → Acts
with_items acts items = record acts {
  items = acts.items ++ items;
  entries = λ seller. acts.entries seller ++ flat_map (entry_delivered acts seller) items;
}

-- what a request leaves
abbrev pub acts_asked : Acts → RequestId → Ask → Acts
acts_asked acts id (ask.Create key price freight) =
    with_changes acts (rows_for acts id (ask.Create key price freight))
acts_asked acts id (ask.Price key price) = with_changes acts (rows_for acts id (ask.Price key price))
acts_asked acts id (ask.Delete key) = with_changes acts (rows_for acts id (ask.Delete key))
acts_asked acts id (ask.View key) = acts
acts_asked acts id (ask.Line customer key quantity voucher) =
    with_left acts (BasketAct.Left customer key (Some (record { quantity = quantity; voucher = voucher })))
    (rows_for acts id (ask.Line customer key quantity voucher))
acts_asked acts id (ask.Remove customer key) =
    with_left acts (BasketAct.Left customer key None) (rows_for acts id (ask.Remove customer key))
acts_asked acts id (ask.Checkout customer) =
    with_checkout acts (record { checkout = id; customer = customer; lines = basket_priced acts customer })
    (verdict acts customer)
acts_asked acts id (ask.Stock key pieces) =
    with_stocked acts (record { key = key; pieces = pieces }) (rows_for acts id (ask.Stock key pieces))
acts_asked acts id (ask.Level key) = acts
acts_asked acts id (ask.Order checkout) = acts
acts_asked acts id (ask.Card customer limit) =
    record acts { cards = acts.cards ++ record { customer = customer; limit = limit } ∷ [] }
acts_asked acts id ask.Deliver = with_items acts (delivered_of (packages_waiting acts.whole acts.items))
acts_asked acts id (ask.Customer customer) = acts
acts_asked acts id (ask.Dashboard seller) = acts

abbrev pub sequential_step : Acts → Request → Acts
sequential_step acts r = acts_asked acts r.id r.ask

-- the acts that requests leave, where they are answered one after the other after these acts
abbrev pub acts_after : Acts → List Request → Acts
acts_after acts [] = acts
acts_after acts (r ∷ rs) = acts_after (sequential_step acts r) rs
