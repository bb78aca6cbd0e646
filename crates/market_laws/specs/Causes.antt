-- The causes of a checkout's events. For each kind of them: in which blocks it is made, and that those make
-- it whole; that it is made once; and what its receiver took before.
use Rattle.std.specs.Prelude.{◌≡◌, ℕ, ◌≤◌, List, [], ◌∷◌, ◌++◌, ◌⊎◌, map, length, is_some, count_by, Bool}
use Rattle.std.specs.Prelude.{true, false, Option, Some, None}
use Rattle.std.specs.List.{flat_map, sum_by}
use Rattle.market_amounts.specs.declared.keys.ProductKey.{ProductKey}
use Rattle.market_amounts.specs.declared.keys.RequestId.{RequestId}
use Rattle.market_events.specs.declared.bodies.Body.{Body}
use Rattle.market_events.specs.declared.bodies.Body.TheVariants as body
use Rattle.market_events.specs.declared.bodies.Ending.{Ending}
use Rattle.market_events.specs.declared.bodies.Ending.TheVariants as ending
use Rattle.market_events.specs.declared.bodies.Item.{Item}
use Rattle.market_events.specs.declared.bodies.PayRule.{PayRule}
use Rattle.market_events.specs.declared.bodies.PricedLine.{PricedLine}
use Rattle.market_events.specs.declared.bodies.StockRule.{StockRule}
use Rattle.market_events.specs.declared.changes.Change.{Change}
use Rattle.market_events.specs.declared.events.Entry.{Entry}
use Rattle.market_events.specs.declared.events.Event.{Event}
use Rattle.market_events.specs.declared.events.What.TheVariants.{Taken}
use Rattle.market_events.specs.declared.links.Link.{Link}
use Rattle.market_events.specs.declared.links.Link.TheVariants.{Asked, Told}
use Rattle.market_events.specs.declared.links.TheConstants.{PRODUCT_TO_STOCK, CART_TO_STOCK, STOCK_TO_CART}
use Rattle.market_events.specs.declared.links.TheConstants.{STOCK_TO_ORDER, ORDER_TO_PAYMENT, ORDER_TO_SELLER}
use Rattle.market_events.specs.declared.links.TheConstants.{ORDER_TO_CART, PAYMENT_TO_STOCK, PAYMENT_TO_ORDER}
use Rattle.market_events.specs.declared.links.TheConstants.{PAYMENT_TO_SHIPMENT, PAYMENT_TO_CUSTOMER}
use Rattle.market_events.specs.declared.links.TheConstants.{PAYMENT_TO_SELLER, SHIPMENT_TO_ORDER}
use Rattle.market_events.specs.declared.links.TheConstants.{SHIPMENT_TO_SELLER, SHIPMENT_TO_CUSTOMER}
use Rattle.market_events.specs.declared.replies.Reply.{Reply}
use Rattle.market_events.specs.declared.replies.Reply.TheVariants as reply
use Rattle.market_events.specs.declared.replies.UndoneRule.{UndoneRule}
use Rattle.market_events.specs.declared.requests.Ask.TheVariants as ask
use Rattle.market_events.specs.AnswerShape.{id_in}
use Rattle.market_events.specs.Carts.{undone_by_stock, reply_to_ending}
use Rattle.market_events.specs.Links.{sender_of, cart_node, stock_node, order_node, shipment_node}
use Rattle.market_events.specs.Links.{seller_node}
use Rattle.market_events.specs.Orders.{items_in, is_item_of, ships}
use Rattle.market_events.specs.Requests.{lane_of, same_id}
use Rattle.market_events.specs.Services.{ends, invoices, is_line_of, reserves}
use Rattle.market_events.specs.Steps.{Sending, told}
use Rattle.market_events.specs.Stocks.{settles}
use Rattle.market_history.specs.Blocks.{Part, part_of, parts_of, input_in, inputs_of, made_out}
use Rattle.market_history.specs.Checkouts.{bodies_of}
use Rattle.market_history.specs.Histories.{Histories, journal_at}
use Rattle.market_history.specs.Outstanding.{all_links}
use Rattle.market_history.specs.Sent.{sent, got}
use Rattle.market_laws.specs.Cuts.{entry_with, TookAt, MadeAt}
use Rattle.market_laws.specs.Runs.{Member, holds_pieces, tells}

-- the event was made in the block of one that its node took: this body, on this link
pub record IsCausedBy (h : Histories) (n : ℕ) (made : Event) (m : MadeAt h n made) (link : Link) (b : Body) :
    Type 0 where
  pub event : Event
  pub took : TookAt h n event
  pub on : event.link ≡ link
  pub body_is : event.body ≡ b
  -- no other block began between them
  pub between : List Entry
  pub is : m.before ≡ took.before ++ entry_with took.clock (Taken event) ∷ between
  pub same_block : inputs_of between ≡ []

-- a block begins here, or nothing follows
abbrev pub BeginsBlock : List Entry → Type 0
BeginsBlock [] = Unit {0}
BeginsBlock (x ∷ xs) = is_some (input_in (part_of x.what)) ≡ true

-- the block of an event that was taken makes just these, in this order
pub record MakesJust (h : Histories) (n : ℕ) (event : Event) (t : TookAt h n event) (made : List Sending) :
    Type 0 where
  pub block : List Entry
  pub rest : List Entry
  pub is : t.after ≡ block ++ rest
  pub parts : parts_of block ≡ map (λ (s : Sending). Part.Left (made_out s)) made
  pub ends : BeginsBlock rest

-- one event at most that was made on the link passes the test
abbrev pub IsMadeOnce : Histories → Link → (Body → Bool) → Type 0
IsMadeOnce h link test = count_by test (bodies_of (sent link (journal_at h (sender_of link)))) ≤ 1

-- the body was taken on the link, by these entries of a journal
abbrev pub HasTaken : List Entry → Link → Body → Type 0
HasTaken entries link b = Member b (bodies_of (got link entries))

-- it is one of these links
abbrev pub IsOnOneOf : List Link → Link → Type 0
IsOnOneOf links link = Member link links

-- the body on each of these links, in this order
abbrev pub on_each : List Link → Body → List Sending
on_each links b = map (λ link. (link, b)) links

-- the links on which orders send an invoice, payments a payment and a failure of one, and shipments what they
-- shipped and what they delivered
abbrev pub invoice_links : List Link
invoice_links = ORDER_TO_SELLER ∷ ORDER_TO_PAYMENT ∷ []

abbrev pub failure_links : List Link
failure_links = PAYMENT_TO_STOCK ∷ PAYMENT_TO_CUSTOMER ∷ PAYMENT_TO_SELLER ∷ PAYMENT_TO_ORDER ∷ []

abbrev pub payment_links : List Link
payment_links =
    PAYMENT_TO_STOCK ∷ PAYMENT_TO_CUSTOMER ∷ PAYMENT_TO_SELLER ∷ PAYMENT_TO_ORDER ∷ PAYMENT_TO_SHIPMENT ∷ []

abbrev pub shipment_links : List Link
shipment_links = SHIPMENT_TO_SELLER ∷ SHIPMENT_TO_ORDER ∷ []

abbrev pub delivery_links : List Link
delivery_links = SHIPMENT_TO_CUSTOMER ∷ SHIPMENT_TO_SELLER ∷ SHIPMENT_TO_ORDER ∷ []

-- a customer asks for the checkout
abbrev pub checkout_asked : RequestId → ℕ → Body
checkout_asked c customer = body.Asked (record { id = c; ask = ask.Checkout customer })

-- how a Reserve is made
pub record ReservesHaveCauses (h : Histories) (c : RequestId) : Type 0 where
  -- on the link from the cart to stock, in the block of the checkout's request, for its customer
  pub cause : (n : ℕ) (made : Event) (m : MadeAt h n made) (customer : ℕ) (lines : List PricedLine)
      → made.body ≡ body.Reserve c customer lines
      → (made.link ≡ CART_TO_STOCK)
      × IsCausedBy h n made m (Asked (lane_of c) cart_node) (checkout_asked c customer)
  -- the block of a checkout's request makes a Reserve, or tells that the checkout is undone
  pub makes : (n : ℕ) (event : Event) (t : TookAt h n event) (customer : ℕ)
      → event.body ≡ checkout_asked c customer
      → ((lines : List PricedLine)
      × MakesJust h n event t ((CART_TO_STOCK, body.Reserve c customer lines) ∷ []))
      ⊎ ((rule : UndoneRule) × MakesJust h n event t (told cart_node c (reply.Undone rule) ∷ []))
  pub once : IsMadeOnce h CART_TO_STOCK (reserves c)
  -- stock took a change of each of its keys before
  pub changes_before : (event : Event) (t : TookAt h stock_node event) (customer : ℕ)
      (lines : List PricedLine) → event.body ≡ body.Reserve c customer lines
      → (line : PricedLine) → Member line lines
      → (version : ℕ) × (change : Change)
      × HasTaken t.before PRODUCT_TO_STOCK (body.Changed line.key version change)

-- how stock answers
pub record StockAnswersHaveCauses (h : Histories) (c : RequestId) : Type 0 where
  -- a StockConfirmed is made on the link to orders, in the block of a Reserve for the same customer, of the
  -- same lines
  pub confirmed_cause : (n : ℕ) (made : Event) (m : MadeAt h n made) (customer : ℕ) (lines : List PricedLine)
      → made.body ≡ body.StockConfirmed c customer lines
      → (made.link ≡ STOCK_TO_ORDER) × IsCausedBy h n made m CART_TO_STOCK (body.Reserve c customer lines)
  -- a ReserveFailed is made on the link to the cart, in the block of a Reserve
  pub failed_cause : (n : ℕ) (made : Event) (m : MadeAt h n made) (key : ProductKey) (rule : StockRule)
      → made.body ≡ body.ReserveFailed c key rule
      → (made.link ≡ STOCK_TO_CART)
      × ((customer : ℕ) × (lines : List PricedLine)
      × IsCausedBy h n made m CART_TO_STOCK (body.Reserve c customer lines))
  -- the block of a Reserve makes one of the two
  pub makes : (n : ℕ) (event : Event) (t : TookAt h n event) (customer : ℕ) (lines : List PricedLine)
      → event.link ≡ CART_TO_STOCK → event.body ≡ body.Reserve c customer lines
      → MakesJust h n event t ((STOCK_TO_ORDER, body.StockConfirmed c customer lines) ∷ [])
      ⊎ ((key : ProductKey) × (rule : StockRule)
      × MakesJust h n event t ((STOCK_TO_CART, body.ReserveFailed c key rule) ∷ []))
  pub confirmed_once : IsMadeOnce h STOCK_TO_ORDER (holds_pieces c)
  pub failed_once : IsMadeOnce h STOCK_TO_CART (ends c)

-- how invoices are made
pub record InvoicesHaveCauses (h : Histories) (c : RequestId) : Type 0 where
  -- on the links of invoices, in the block of a StockConfirmed for the same customer, of the same lines
  pub cause : (n : ℕ) (made : Event) (m : MadeAt h n made) (customer : ℕ) (lines : List PricedLine)
      (total : ℕ) → made.body ≡ body.Invoice c customer lines total
      → IsOnOneOf invoice_links made.link
      × IsCausedBy h n made m STOCK_TO_ORDER (body.StockConfirmed c customer lines)
  -- the block of a StockConfirmed makes both
  pub makes : (n : ℕ) (event : Event) (t : TookAt h n event) (customer : ℕ) (lines : List PricedLine)
      → event.link ≡ STOCK_TO_ORDER → event.body ≡ body.StockConfirmed c customer lines
      → (total : ℕ) × MakesJust h n event t (on_each invoice_links (body.Invoice c customer lines total))
  pub once_to_seller : IsMadeOnce h ORDER_TO_SELLER (invoices c)
  pub once_to_payment : IsMadeOnce h ORDER_TO_PAYMENT (invoices c)

-- how payments are made
pub record PaymentsHaveCauses (h : Histories) (c : RequestId) : Type 0 where
  -- a Confirmed is made on the links of payments, in the block of an Invoice for the same customer, of the
  -- same lines and total
  pub confirmed_cause : (n : ℕ) (made : Event) (m : MadeAt h n made) (customer : ℕ) (lines : List PricedLine)
      (total : ℕ) → made.body ≡ body.Confirmed c customer lines total
      → IsOnOneOf payment_links made.link
      × IsCausedBy h n made m ORDER_TO_PAYMENT (body.Invoice c customer lines total)
  -- a Failed is made on those of failures, in the block of an Invoice for the same customer
  pub failed_cause : (n : ℕ) (made : Event) (m : MadeAt h n made) (customer : ℕ) (rule : PayRule)
      → made.body ≡ body.Failed c customer rule
      → IsOnOneOf failure_links made.link
      × ((lines : List PricedLine) × (total : ℕ)
      × IsCausedBy h n made m ORDER_TO_PAYMENT (body.Invoice c customer lines total))
  -- the block of an Invoice that payments take makes all of the one, or all of the other
  pub makes : (n : ℕ) (event : Event) (t : TookAt h n event) (customer : ℕ) (lines : List PricedLine)
      (total : ℕ) → event.link ≡ ORDER_TO_PAYMENT
      → event.body ≡ body.Invoice c customer lines total
      → MakesJust h n event t (on_each payment_links (body.Confirmed c customer lines total))
      ⊎ ((rule : PayRule)
      × MakesJust h n event t (on_each failure_links (body.Failed c customer rule)))
  -- either of them once on each link
  pub once_to_stock : IsMadeOnce h PAYMENT_TO_STOCK (settles c)
  pub once_to_customer : IsMadeOnce h PAYMENT_TO_CUSTOMER (settles c)
  pub once_to_seller : IsMadeOnce h PAYMENT_TO_SELLER (settles c)
  pub once_to_order : IsMadeOnce h PAYMENT_TO_ORDER (settles c)
  pub once_to_shipment : IsMadeOnce h PAYMENT_TO_SHIPMENT (settles c)
  -- sellers took the invoice before
  pub confirmed_before : (event : Event) (t : TookAt h seller_node event) (customer : ℕ)
      (lines : List PricedLine) (total : ℕ) → event.body ≡ body.Confirmed c customer lines total
      → (sum : ℕ) × HasTaken t.before ORDER_TO_SELLER (body.Invoice c customer lines sum)
  pub failed_before : (event : Event) (t : TookAt h seller_node event) (customer : ℕ) (rule : PayRule)
      → event.body ≡ body.Failed c customer rule
      → (lines : List PricedLine) × (sum : ℕ)
      × HasTaken t.before ORDER_TO_SELLER (body.Invoice c customer lines sum)

-- how shipments are made
pub record ShipmentsHaveCauses (h : Histories) (c : RequestId) : Type 0 where
  -- on the links of shipments, in the block of a Confirmed
  pub cause : (n : ℕ) (made : Event) (m : MadeAt h n made) → made.body ≡ body.Shipped c
      → IsOnOneOf shipment_links made.link
      × ((customer : ℕ) × (lines : List PricedLine) × (total : ℕ)
      × IsCausedBy h n made m PAYMENT_TO_SHIPMENT (body.Confirmed c customer lines total))
  -- the block of a Confirmed that shipments take makes both
  pub makes : (n : ℕ) (event : Event) (t : TookAt h n event) (customer : ℕ) (lines : List PricedLine)
      (total : ℕ) → event.link ≡ PAYMENT_TO_SHIPMENT
      → event.body ≡ body.Confirmed c customer lines total
      → MakesJust h n event t (on_each shipment_links (body.Shipped c))
  pub once_to_seller : IsMadeOnce h SHIPMENT_TO_SELLER (ships c)
  pub once_to_order : IsMadeOnce h SHIPMENT_TO_ORDER (ships c)
  -- orders and sellers took the payment before
  pub order_before : (event : Event) (t : TookAt h order_node event) → event.body ≡ body.Shipped c
      → (customer : ℕ) × (lines : List PricedLine) × (total : ℕ)
      × HasTaken t.before PAYMENT_TO_ORDER (body.Confirmed c customer lines total)
  pub seller_before : (event : Event) (t : TookAt h seller_node event) → event.body ≡ body.Shipped c
      → (customer : ℕ) × (lines : List PricedLine) × (total : ℕ)
      × HasTaken t.before PAYMENT_TO_SELLER (body.Confirmed c customer lines total)

-- an ending has its cause: it is undone by the rule of a Failed, or whole after a Shipped
abbrev pub EndingIsCaused : (h : Histories) (n : ℕ) (made : Event) → MadeAt h n made → RequestId → Ending
    → Type 0
EndingIsCaused h n made m c (ending.Undone rule) =
    (customer : ℕ) × IsCausedBy h n made m PAYMENT_TO_ORDER (body.Failed c customer rule)
EndingIsCaused h n made m c (ending.Whole total) = IsCausedBy h n made m SHIPMENT_TO_ORDER (body.Shipped c)

-- how endings are made
pub record EndingsHaveCauses (h : Histories) (c : RequestId) : Type 0 where
  -- on the link from orders to the cart, in the block of a Failed, or of a Shipped
  pub cause : (n : ℕ) (made : Event) (m : MadeAt h n made) (end : Ending) → made.body ≡ body.Ended c end
      → (made.link ≡ ORDER_TO_CART) × EndingIsCaused h n made m c end
  -- the block of a Failed that orders take makes one, and so does that of a Shipped
  pub failed_makes : (n : ℕ) (event : Event) (t : TookAt h n event) (customer : ℕ) (rule : PayRule)
      → event.link ≡ PAYMENT_TO_ORDER → event.body ≡ body.Failed c customer rule
      → MakesJust h n event t ((ORDER_TO_CART, body.Ended c (ending.Undone rule)) ∷ [])
  pub shipped_makes : (n : ℕ) (event : Event) (t : TookAt h n event) → event.link ≡ SHIPMENT_TO_ORDER
      → event.body ≡ body.Shipped c
      → (total : ℕ) × MakesJust h n event t ((ORDER_TO_CART, body.Ended c (ending.Whole total)) ∷ [])
  pub once : IsMadeOnce h ORDER_TO_CART (ends c)

-- why a checkout is told: it was undone by its request's own block, stock refused it, or it ended
pub data TellingIsCaused (h : Histories) (n : ℕ) (made : Event) (m : MadeAt h n made) (c : RequestId)
    (r : Reply) : Type 0 where
  by_request : (customer : ℕ) (rule : UndoneRule) → r ≡ reply.Undone rule
      → IsCausedBy h n made m (Asked (lane_of c) cart_node) (checkout_asked c customer)
      → TellingIsCaused h n made m c r
  by_stock : (key : ProductKey) (rule : StockRule) → r ≡ reply.Undone (undone_by_stock rule key)
      → IsCausedBy h n made m STOCK_TO_CART (body.ReserveFailed c key rule)
      → TellingIsCaused h n made m c r
  by_end : (end : Ending) → r ≡ reply_to_ending end → IsCausedBy h n made m ORDER_TO_CART (body.Ended c end)
      → TellingIsCaused h n made m c r

-- how checkouts are told
pub record TellingsHaveCauses (h : Histories) (c : RequestId) : Type 0 where
  -- on the link from the cart to the lane of the checkout, in one of these blocks
  pub cause : (n : ℕ) (made : Event) (m : MadeAt h n made) (r : Reply) → made.body ≡ body.Told c r
      → (made.link ≡ Told cart_node (lane_of c)) × TellingIsCaused h n made m c r
  -- the block of a ReserveFailed tells it, and so does that of an Ended
  pub failed_makes : (n : ℕ) (event : Event) (t : TookAt h n event) (key : ProductKey) (rule : StockRule)
      → event.link ≡ STOCK_TO_CART → event.body ≡ body.ReserveFailed c key rule
      → MakesJust h n event t (told cart_node c (reply.Undone (undone_by_stock rule key)) ∷ [])
  pub ended_makes : (n : ℕ) (event : Event) (t : TookAt h n event) (end : Ending) → event.link ≡ ORDER_TO_CART
      → event.body ≡ body.Ended c end
      → MakesJust h n event t (told cart_node c (reply_to_ending end) ∷ [])
  pub once : IsMadeOnce h (Told cart_node (lane_of c)) (tells c)

-- a request to deliver
abbrev pub delivery_asked : RequestId → Body
delivery_asked id = body.Asked (record { id = id; ask = ask.Deliver })

-- a delivery of the item has its cause: a request to deliver, which shipments took after the payment of the
-- item's line
pub record DeliveryIsCaused (h : Histories) (n : ℕ) (made : Event) (m : MadeAt h n made) (item : Item) : Type
    0 where
  pub id : RequestId
  pub cause : IsCausedBy h n made m (Asked (lane_of id) shipment_node) (delivery_asked id)
  pub lines : List PricedLine
  pub total : ℕ
  pub line : is_line_of lines item ≡ true
  pub paid_before : HasTaken cause.took.before PAYMENT_TO_SHIPMENT
      (body.Confirmed item.checkout item.customer lines total)

-- how deliveries are made
pub record DeliveriesHaveCauses (h : Histories) (c : RequestId) : Type 0 where
  -- a Delivered with a line of the checkout is made on the links of deliveries, in the block of a request to
  -- deliver
  pub cause : (n : ℕ) (made : Event) (m : MadeAt h n made) (items : List Item) (item : Item)
      → made.body ≡ body.Delivered items → Member item items → item.checkout ≡ c
      → IsOnOneOf delivery_links made.link × DeliveryIsCaused h n made m item
  -- the block of a request to deliver makes all three, of the same items, and tells how many; or it tells of
  -- none
  pub makes : (n : ℕ) (event : Event) (t : TookAt h n event) (id : RequestId) → event.body ≡ delivery_asked id
      → ((items : List Item) × (sellers : ℕ)
      × MakesJust h n event t (on_each delivery_links (body.Delivered items)
      ++ told shipment_node id (reply.Delivered sellers (length items)) ∷ []))
      ⊎ MakesJust h n event t (told shipment_node id (reply.Delivered 0 0) ∷ [])
  -- each line of the checkout is in one of them at most, on each link
  pub once : (key : ProductKey) (link : Link) → Member link delivery_links
      → count_by (is_item_of c key)
      (flat_map items_in (bodies_of (sent link (journal_at h shipment_node)))) ≤ 1
  -- orders and sellers took the shipment before
  pub order_before : (event : Event) (t : TookAt h order_node event) (items : List Item) (item : Item)
      → event.body ≡ body.Delivered items → Member item items → item.checkout ≡ c
      → HasTaken t.before SHIPMENT_TO_ORDER (body.Shipped c)
  pub seller_before : (event : Event) (t : TookAt h seller_node event) (items : List Item) (item : Item)
      → event.body ≡ body.Delivered items → Member item items → item.checkout ≡ c
      → HasTaken t.before SHIPMENT_TO_SELLER (body.Shipped c)

-- the body names the checkout; a change and a delivery name none
abbrev pub is_name_of : RequestId → Option RequestId → Bool
is_name_of c None = false
is_name_of c (Some id) = same_id id c

abbrev pub names : RequestId → Body → Bool
names c b = is_name_of c (id_in b)

-- how many events that name the checkout were made on a link, and on all links
abbrev pub made_for : Histories → RequestId → Link → ℕ
made_for h c link = count_by (names c) (bodies_of (sent link (journal_at h (sender_of link))))

unfoldable pub all_made_for : Histories → RequestId → ℕ
all_made_for h c = sum_by (made_for h c) all_links
