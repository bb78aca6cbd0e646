-- Lists of steps that are no runs: for each clause of the laws on runs one for which it is false.
use Rattle.std.specs.Prelude.{◌≡◌, ℕ, ◌+◌, ◌≤◌, true, List, [], ◌∷◌, ◌++◌, count_by, filter, filter_map}
use Rattle.market_events.specs.declared.bodies.Body.{Body}
use Rattle.market_events.specs.declared.bodies.Body.TheVariants as body
use Rattle.market_events.specs.declared.bodies.Ending.TheVariants as ending
use Rattle.market_events.specs.declared.bodies.PayRule.TheVariants as pay
use Rattle.market_events.specs.declared.bodies.PricedLine.{PricedLine}
use Rattle.market_events.specs.declared.bodies.StockRule.TheVariants as stock
use Rattle.market_events.specs.declared.changes.Change.TheVariants.{Created}
use Rattle.market_events.specs.declared.links.Link.TheVariants.{Asked}
use Rattle.market_events.specs.declared.links.TheConstants.{PRODUCT_TO_CART, PRODUCT_TO_STOCK, CART_TO_STOCK}
use Rattle.market_events.specs.declared.links.TheConstants.{STOCK_TO_CART, STOCK_TO_ORDER, ORDER_TO_PAYMENT}
use Rattle.market_events.specs.declared.links.TheConstants.{ORDER_TO_SELLER, ORDER_TO_CART, PAYMENT_TO_STOCK}
use Rattle.market_events.specs.declared.links.TheConstants.{PAYMENT_TO_ORDER, PAYMENT_TO_SHIPMENT}
use Rattle.market_events.specs.declared.links.TheConstants.{PAYMENT_TO_CUSTOMER, PAYMENT_TO_SELLER}
use Rattle.market_events.specs.declared.links.TheConstants.{SHIPMENT_TO_ORDER, SHIPMENT_TO_SELLER}
use Rattle.market_events.specs.declared.links.TheConstants.{SHIPMENT_TO_CUSTOMER}
use Rattle.market_events.specs.declared.replies.Reply.TheVariants as reply
use Rattle.market_events.specs.declared.requests.Ask.TheVariants as ask
use Rattle.market_events.specs.Copies.{copy_of}
use Rattle.market_events.specs.Links.{cart_node, product_node, shipment_node}
use Rattle.market_events.specs.Orders.{order_total, ships}
use Rattle.market_events.specs.Products.{change_in}
use Rattle.market_events.specs.declared.roles.Role.{Role}
use Rattle.market_events.specs.Services.{IsRunOf, asks, change_fits, ends, invoices, items_apart, reserves}
use Rattle.market_events.specs.Shipments.{items_made}
use Rattle.market_events.specs.Steps.{Step, taken_bodies, made_on, told}
use Rattle.market_events.specs.Stocks.{confirms, fails, on_hand, reserved, settles, sold, stocked}
use Rattle.market_events.specs.WellFormed.{total_of}
use Rattle.market_history.specs.Examples.{mug, id, create, created, caller_lane}
use Rattle.market_laws.specs.CounterexampleValues.{mugs, asks_for, checkout_for, reserve_for, held_for}
use Rattle.market_laws.specs.CounterexampleValues.{invoice_for, paid_with, shipped, parcel, delivered, step}
use Rattle.market_laws.specs.Runs.{Member, IsPaidFor, bodies_made, tells, holds_pieces, is_payment}
use Rattle.market_laws.specs.Runs.{is_delivery}

-- a request that nothing was made of, once and twice
abbrev pub untold : List Step
untold = step (Asked caller_lane product_node) (asks_for 1 create) [] ∷ []

abbrev pub asked_twice : List Step
asked_twice = step (Asked caller_lane product_node) (asks_for 1 create) []
    ∷ step (Asked caller_lane product_node) (asks_for 1 create) [] ∷ []

-- a request with two replies
abbrev pub told_twice : List Step
told_twice =
    step (Asked caller_lane product_node) (asks_for 1 create)
    (told product_node (id 1) (reply.Created 1) ∷ told product_node (id 1) (reply.Created 1) ∷ []) ∷ []

-- runs_tell_once
pub record TellingCounterexamples : Type 0 where
  pub untold_no_run : IsRunOf Role.Product untold → ⊥
  pub untold_each : (count_by (tells (id 1)) (bodies_made untold)
      ≡ count_by (asks (id 1)) (taken_bodies untold)) → ⊥
  pub asked_twice_no_run : IsRunOf Role.Product asked_twice → ⊥
  pub asked_once : (count_by (asks (id 1)) (taken_bodies asked_twice) ≤ 1) → ⊥
  pub told_twice_no_run : IsRunOf Role.Product told_twice → ⊥
  pub told_more : (count_by (tells (id 1)) (bodies_made told_twice)
      ≤ count_by (asks (id 1)) (taken_bodies told_twice)) → ⊥

-- a request to the cart that nothing was made of
abbrev pub cart_silent : List Step
cart_silent = step (Asked caller_lane cart_node) (asks_for 1 (ask.View mug)) [] ∷ []

-- an end of a checkout that was not sent on
abbrev pub ended_unsent : List Step
ended_unsent = step ORDER_TO_CART (body.Ended (id 5) (ending.Whole 1950)) [] ∷ []

-- a checkout that was sent on twice, and one that was sent on for another customer
abbrev pub sent_twice : List Step
sent_twice =
    step (Asked caller_lane cart_node) (checkout_for 7) ((CART_TO_STOCK, reserve_for 7)
    ∷ (CART_TO_STOCK, reserve_for 7) ∷ [])
    ∷ []

abbrev pub sent_for_another : List Step
sent_for_another =
    step (Asked caller_lane cart_node) (checkout_for 7) ((CART_TO_STOCK, reserve_for 8) ∷ []) ∷ []

-- cart_runs
pub record CartCounterexamples : Type 0 where
  pub silent_no_run : IsRunOf Role.Cart cart_silent → ⊥
  pub silent_told : (count_by (tells (id 1)) (bodies_made cart_silent)
      + count_by (reserves (id 1)) (made_on CART_TO_STOCK cart_silent)
      ≡ count_by (asks (id 1)) (taken_bodies cart_silent)
      + count_by (ends (id 1)) (taken_bodies cart_silent)) → ⊥
  pub unsent_no_run : IsRunOf Role.Cart ended_unsent → ⊥
  pub unsent_ended : (count_by (ends (id 5)) (taken_bodies ended_unsent)
      ≤ count_by (reserves (id 5)) (made_on CART_TO_STOCK ended_unsent)) → ⊥
  pub twice_no_run : IsRunOf Role.Cart sent_twice → ⊥
  pub twice_sent : (count_by (reserves (id 5)) (made_on CART_TO_STOCK sent_twice)
      ≤ count_by (asks (id 5)) (taken_bodies sent_twice)) → ⊥
  pub another_no_run : IsRunOf Role.Cart sent_for_another → ⊥
  pub another_sent : Member (reserve_for 8) (made_on CART_TO_STOCK sent_for_another)
  pub another_asked : Member (checkout_for 8) (taken_bodies sent_for_another) → ⊥

-- a change that stock alone was told, and one that leaves out versions
abbrev pub told_stock_alone : List Step
told_stock_alone =
    step (Asked caller_lane product_node) (asks_for 1 create) ((PRODUCT_TO_STOCK, created) ∷ []) ∷ []

abbrev pub late_change : Body
late_change = body.Changed mug 5 (Created 1000 50)

abbrev pub versions_left_out : List Step
versions_left_out =
    step (Asked caller_lane product_node) (asks_for 1 create) ((PRODUCT_TO_STOCK, late_change)
    ∷ (PRODUCT_TO_CART, late_change)
    ∷ []) ∷ []

-- product_runs
pub record ProductCounterexamples : Type 0 where
  pub alone_no_run : IsRunOf Role.Product told_stock_alone → ⊥
  pub alone_carts : (made_on PRODUCT_TO_CART told_stock_alone ≡ made_on PRODUCT_TO_STOCK told_stock_alone) → ⊥
  pub left_out_no_run : IsRunOf Role.Product versions_left_out → ⊥
  pub left_out_made : made_on PRODUCT_TO_STOCK versions_left_out ≡ [] ++ late_change ∷ []
  pub left_out_fits : (change_fits (copy_of (filter_map change_in []) mug) 5 (Created 1000 50) ≡ true) → ⊥

-- pieces asked for with no answer, once and twice
abbrev pub unanswered : List Step
unanswered = step CART_TO_STOCK (reserve_for 7) [] ∷ []

abbrev pub reserved_twice : List Step
reserved_twice = step CART_TO_STOCK (reserve_for 7) [] ∷ step CART_TO_STOCK (reserve_for 7) [] ∷ []

-- pieces that are held for another customer, and a failure of a checkout that did not ask for pieces
abbrev pub held_for_another : List Step
held_for_another = step CART_TO_STOCK (reserve_for 7) ((STOCK_TO_ORDER, held_for 8) ∷ []) ∷ []

abbrev pub another_failed : List Step
another_failed =
    step CART_TO_STOCK (reserve_for 7) ((STOCK_TO_CART, body.ReserveFailed (id 6) mug stock.Short) ∷ []) ∷ []

-- pieces that were never stocked are held, and then sold
abbrev pub held_unstocked : List Step
held_unstocked = step CART_TO_STOCK (reserve_for 7) ((STOCK_TO_ORDER, held_for 7) ∷ []) ∷ []

abbrev pub sold_unstocked : List Step
sold_unstocked =
    step CART_TO_STOCK (reserve_for 7) ((STOCK_TO_ORDER, held_for 7) ∷ [])
    ∷ step PAYMENT_TO_STOCK (paid_with 1950) [] ∷ []

-- stock_runs, and of reserved_is_listed what it says of runs
pub record StockCounterexamples : Type 0 where
  pub unanswered_no_run : IsRunOf Role.Stock unanswered → ⊥
  pub unanswered_each : (count_by (holds_pieces (id 5)) (made_on STOCK_TO_ORDER unanswered)
      + count_by (ends (id 5)) (made_on STOCK_TO_CART unanswered)
      ≡ count_by (reserves (id 5)) (taken_bodies unanswered)) → ⊥
  pub twice_no_run : IsRunOf Role.Stock reserved_twice → ⊥
  pub twice_taken : (count_by (reserves (id 5)) (taken_bodies reserved_twice) ≤ 1) → ⊥
  pub another_no_run : IsRunOf Role.Stock held_for_another → ⊥
  pub another_held : Member (held_for 8) (made_on STOCK_TO_ORDER held_for_another)
  pub another_reserved : Member (reserve_for 8) (taken_bodies held_for_another) → ⊥
  pub failed_no_run : IsRunOf Role.Stock another_failed → ⊥
  pub failed_made : Member (body.ReserveFailed (id 6) mug stock.Short) (made_on STOCK_TO_CART another_failed)
  pub failed_reserved : ((customer : ℕ) × (lines : List PricedLine)
      × Member (body.Reserve (id 6) customer lines) (taken_bodies another_failed)) → ⊥
  pub held_no_run : IsRunOf Role.Stock held_unstocked → ⊥
  pub held_covered : (reserved held_unstocked mug ≤ on_hand held_unstocked mug) → ⊥
  -- what was sold beyond what was stocked is not seen in what is on hand
  pub sold_no_run : IsRunOf Role.Stock sold_unstocked → ⊥
  pub sold_covered : reserved sold_unstocked mug ≤ on_hand sold_unstocked mug
  pub sold_within : (sold sold_unstocked mug + reserved sold_unstocked mug ≤ stocked sold_unstocked mug) → ⊥

-- an order that payments alone were told, one that was told to nobody, and one that was taken twice
abbrev pub told_payment_alone : List Step
told_payment_alone = step STOCK_TO_ORDER (held_for 7) ((ORDER_TO_PAYMENT, invoice_for 7) ∷ []) ∷ []

abbrev pub not_invoiced : List Step
not_invoiced = step STOCK_TO_ORDER (held_for 7) [] ∷ []

abbrev pub ordered_twice : List Step
ordered_twice = step STOCK_TO_ORDER (held_for 7) [] ∷ step STOCK_TO_ORDER (held_for 7) [] ∷ []

-- an order with two invoices, and one with an invoice for another customer
abbrev pub invoiced_twice : List Step
invoiced_twice =
    step STOCK_TO_ORDER (held_for 7) ((ORDER_TO_PAYMENT, invoice_for 7) ∷ (ORDER_TO_PAYMENT, invoice_for 7)
    ∷ []) ∷ []

abbrev pub invoiced_another : List Step
invoiced_another = step STOCK_TO_ORDER (held_for 7) ((ORDER_TO_PAYMENT, invoice_for 8) ∷ []) ∷ []

-- a shipment after which no end was told, and one after which two were
abbrev pub not_ended : List Step
not_ended = step SHIPMENT_TO_ORDER shipped [] ∷ []

abbrev pub whole : Body
whole = body.Ended (id 5) (ending.Whole 1950)

abbrev pub ended_twice : List Step
ended_twice = step SHIPMENT_TO_ORDER shipped ((ORDER_TO_CART, whole) ∷ (ORDER_TO_CART, whole) ∷ []) ∷ []

-- a failure that is told with another rule
abbrev pub undone_otherwise : List Step
undone_otherwise =
    step PAYMENT_TO_ORDER (body.Failed (id 5) 7 pay.OverLimit)
    ((ORDER_TO_CART, body.Ended (id 5) (ending.Undone pay.NoCard)) ∷ []) ∷ []

-- order_runs
pub record OrderCounterexamples : Type 0 where
  pub alone_no_run : IsRunOf Role.Order told_payment_alone → ⊥
  pub alone_sellers : (made_on ORDER_TO_PAYMENT told_payment_alone
      ≡ made_on ORDER_TO_SELLER told_payment_alone) → ⊥
  pub not_invoiced_no_run : IsRunOf Role.Order not_invoiced → ⊥
  pub not_invoiced_each : (count_by (invoices (id 5)) (made_on ORDER_TO_PAYMENT not_invoiced)
      ≡ count_by (holds_pieces (id 5)) (taken_bodies not_invoiced)) → ⊥
  pub ordered_no_run : IsRunOf Role.Order ordered_twice → ⊥
  pub ordered_once : (count_by (holds_pieces (id 5)) (taken_bodies ordered_twice) ≤ 1) → ⊥
  pub ordered_held : Member (held_for 7) (taken_bodies ordered_twice)
  pub ordered_total : (order_total ordered_twice (id 5) ≡ total_of mugs) → ⊥
  pub invoiced_no_run : IsRunOf Role.Order invoiced_twice → ⊥
  pub invoiced_once : (count_by (invoices (id 5)) (made_on ORDER_TO_PAYMENT invoiced_twice) ≤ 1) → ⊥
  pub another_no_run : IsRunOf Role.Order invoiced_another → ⊥
  pub another_made : Member (invoice_for 8) (made_on ORDER_TO_PAYMENT invoiced_another)
  pub another_held : Member (held_for 8) (taken_bodies invoiced_another) → ⊥
  pub not_ended_no_run : IsRunOf Role.Order not_ended → ⊥
  pub not_ended_each : (count_by (ends (id 5)) (made_on ORDER_TO_CART not_ended)
      ≡ count_by (fails (id 5)) (taken_bodies not_ended)
      + count_by (ships (id 5)) (taken_bodies not_ended)) → ⊥
  pub ended_no_run : IsRunOf Role.Order ended_twice → ⊥
  pub ended_once : (count_by (ends (id 5)) (made_on ORDER_TO_CART ended_twice) ≤ 1) → ⊥
  -- it is told to be whole with a total that its order does not have
  pub ended_made : Member whole (made_on ORDER_TO_CART ended_twice)
  pub ended_total : (1950 ≡ order_total ended_twice (id 5)) → ⊥
  pub otherwise_no_run : IsRunOf Role.Order undone_otherwise → ⊥
  pub otherwise_made : Member (body.Ended (id 5) (ending.Undone pay.NoCard))
      (made_on ORDER_TO_CART undone_otherwise)
  pub otherwise_failed : ((customer : ℕ)
      × Member (body.Failed (id 5) customer pay.NoCard) (taken_bodies undone_otherwise)) → ⊥

-- a payment that stock alone was told
abbrev pub paid_stock_alone : List Step
paid_stock_alone = step ORDER_TO_PAYMENT (invoice_for 7) ((PAYMENT_TO_STOCK, paid_with 1950) ∷ []) ∷ []

-- an invoice that nothing was made of, once and twice
abbrev pub unsettled : List Step
unsettled = step ORDER_TO_PAYMENT (invoice_for 7) [] ∷ []

abbrev pub billed_twice : List Step
billed_twice = step ORDER_TO_PAYMENT (invoice_for 7) [] ∷ step ORDER_TO_PAYMENT (invoice_for 7) [] ∷ []

-- a payment of less than the invoice says, and a failure for another customer
abbrev pub paid_less : List Step
paid_less = step ORDER_TO_PAYMENT (invoice_for 7) ((PAYMENT_TO_STOCK, paid_with 1949) ∷ []) ∷ []

abbrev pub failed_another : List Step
failed_another =
    step ORDER_TO_PAYMENT (invoice_for 7) ((PAYMENT_TO_STOCK, body.Failed (id 5) 8 pay.NoCard) ∷ []) ∷ []

-- payment_runs
pub record PaymentCounterexamples : Type 0 where
  pub alone_no_run : IsRunOf Role.Payment paid_stock_alone → ⊥
  pub alone_orders : (made_on PAYMENT_TO_STOCK paid_stock_alone ≡ made_on PAYMENT_TO_ORDER paid_stock_alone)
      → ⊥
  pub alone_customers : (made_on PAYMENT_TO_STOCK paid_stock_alone
      ≡ made_on PAYMENT_TO_CUSTOMER paid_stock_alone) → ⊥
  pub alone_sellers : (made_on PAYMENT_TO_STOCK paid_stock_alone ≡ made_on PAYMENT_TO_SELLER paid_stock_alone)
      → ⊥
  pub alone_shipments : (made_on PAYMENT_TO_SHIPMENT paid_stock_alone
      ≡ filter is_payment (made_on PAYMENT_TO_STOCK paid_stock_alone)) → ⊥
  pub unsettled_no_run : IsRunOf Role.Payment unsettled → ⊥
  pub unsettled_each : (count_by (settles (id 5)) (made_on PAYMENT_TO_STOCK unsettled)
      ≡ count_by (invoices (id 5)) (taken_bodies unsettled)) → ⊥
  pub billed_no_run : IsRunOf Role.Payment billed_twice → ⊥
  pub billed_once : (count_by (invoices (id 5)) (taken_bodies billed_twice) ≤ 1) → ⊥
  pub less_no_run : IsRunOf Role.Payment paid_less → ⊥
  pub less_made : Member (paid_with 1949) (made_on PAYMENT_TO_STOCK paid_less)
  pub less_invoiced : Member (body.Invoice (id 5) 7 mugs 1949) (taken_bodies paid_less) → ⊥
  pub another_no_run : IsRunOf Role.Payment failed_another → ⊥
  pub another_made : Member (body.Failed (id 5) 8 pay.NoCard) (made_on PAYMENT_TO_STOCK failed_another)
  pub another_invoiced : ((lines : List PricedLine) × (total : ℕ)
      × Member (body.Invoice (id 5) 8 lines total) (taken_bodies failed_another)) → ⊥

-- a shipment that orders alone were told, and one of another checkout
abbrev pub shipped_order_alone : List Step
shipped_order_alone = step PAYMENT_TO_SHIPMENT (paid_with 1950) ((SHIPMENT_TO_ORDER, shipped) ∷ []) ∷ []

abbrev pub shipped_another : List Step
shipped_another =
    step PAYMENT_TO_SHIPMENT (paid_with 1950) ((SHIPMENT_TO_ORDER, body.Shipped (id 6)) ∷ []) ∷ []

-- a payment that nothing was made of, once and twice
abbrev pub not_shipped : List Step
not_shipped = step PAYMENT_TO_SHIPMENT (paid_with 1950) [] ∷ []

abbrev pub paid_twice : List Step
paid_twice = step PAYMENT_TO_SHIPMENT (paid_with 1950) [] ∷ step PAYMENT_TO_SHIPMENT (paid_with 1950) [] ∷ []

-- a delivery of what was neither paid nor shipped, told to orders alone; and one of an item twice
abbrev pub delivered_unshipped : List Step
delivered_unshipped = step (Asked caller_lane shipment_node) (asks_for 9 ask.Deliver)
    ((SHIPMENT_TO_ORDER, delivered) ∷ []) ∷ []

abbrev pub delivered_twice : List Step
delivered_twice =
    step (Asked caller_lane shipment_node) (asks_for 9 ask.Deliver) ((SHIPMENT_TO_CUSTOMER, delivered)
    ∷ (SHIPMENT_TO_CUSTOMER, delivered) ∷ []) ∷ []

-- shipment_runs
pub record ShipmentCounterexamples : Type 0 where
  pub alone_no_run : IsRunOf Role.Shipment shipped_order_alone → ⊥
  pub alone_sellers : (made_on SHIPMENT_TO_ORDER shipped_order_alone
      ≡ made_on SHIPMENT_TO_SELLER shipped_order_alone) → ⊥
  pub another_no_run : IsRunOf Role.Shipment shipped_another → ⊥
  pub another_made : Member (body.Shipped (id 6)) (made_on SHIPMENT_TO_ORDER shipped_another)
  pub another_paid : ((customer : ℕ) × (lines : List PricedLine) × (total : ℕ)
      × Member (body.Confirmed (id 6) customer lines total) (taken_bodies shipped_another)) → ⊥
  pub not_shipped_no_run : IsRunOf Role.Shipment not_shipped → ⊥
  pub not_shipped_each : (count_by (ships (id 5)) (made_on SHIPMENT_TO_ORDER not_shipped)
      ≡ count_by (confirms (id 5)) (taken_bodies not_shipped)) → ⊥
  pub paid_no_run : IsRunOf Role.Shipment paid_twice → ⊥
  pub paid_once : (count_by (confirms (id 5)) (taken_bodies paid_twice) ≤ 1) → ⊥
  pub unshipped_no_run : IsRunOf Role.Shipment delivered_unshipped → ⊥
  pub unshipped_customers : (made_on SHIPMENT_TO_CUSTOMER delivered_unshipped
      ≡ filter is_delivery (made_on SHIPMENT_TO_ORDER delivered_unshipped)) → ⊥
  pub unshipped_made : made_on SHIPMENT_TO_ORDER delivered_unshipped ≡ [] ++ delivered ∷ []
  pub unshipped_before : Member shipped [] → ⊥
  pub unshipped_paid : IsPaidFor delivered_unshipped parcel → ⊥
  pub delivered_no_run : IsRunOf Role.Shipment delivered_twice → ⊥
  pub delivered_once : (items_apart [] (items_made delivered_twice) ≡ true) → ⊥
