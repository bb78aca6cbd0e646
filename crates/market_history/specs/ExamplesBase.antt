-- A checkout that is whole: a product is created and stocked, a card is set, and two pieces of it are checked
-- out.
use Rattle.std.specs.Prelude.{◌≡◌, ℕ, List, [], ◌∷◌, ◌++◌, Some}
use Rattle.market_events.specs.declared.bodies.Item.{Item}
use Rattle.market_events.specs.declared.bodies.PricedLine.{PricedLine}
use Rattle.market_events.specs.declared.changes.Change.TheVariants.{Created}
use Rattle.market_events.specs.declared.changes.Look.TheVariants.{Live}
use Rattle.market_events.specs.declared.links.TheConstants.{PRODUCT_TO_CART, PRODUCT_TO_STOCK, CART_TO_STOCK}
use Rattle.market_events.specs.declared.links.TheConstants.{STOCK_TO_ORDER, ORDER_TO_PAYMENT, ORDER_TO_SELLER}
use Rattle.market_events.specs.declared.links.TheConstants.{ORDER_TO_CART, PAYMENT_TO_STOCK, PAYMENT_TO_ORDER}
use Rattle.market_events.specs.declared.links.TheConstants.{PAYMENT_TO_SHIPMENT, PAYMENT_TO_CUSTOMER}
use Rattle.market_events.specs.declared.links.TheConstants.{PAYMENT_TO_SELLER, SHIPMENT_TO_ORDER}
use Rattle.market_events.specs.declared.links.TheConstants.{SHIPMENT_TO_SELLER}
use Rattle.market_events.specs.declared.replies.EntryRow.{EntryRow}
use Rattle.market_events.specs.declared.replies.OrderStatus.TheVariants as status
use Rattle.market_events.specs.declared.replies.Reply.TheVariants as reply
use Rattle.market_events.specs.declared.requests.Ask.TheVariants as ask
use Rattle.market_events.specs.Examples.{asked_by_7, told_to_7}
use Rattle.market_events.specs.Links.{cart_node, product_node, stock_node, payment_node}
use Rattle.market_events.specs.Stocks.{Reservation}
use Rattle.market_history.specs.Output.{summary_of}
use Rattle.market_history.specs.declared.schedule.Step.{Step}
use Rattle.market_history.specs.Acts.{Acts, BasketAct, no_acts, status_by}
use Rattle.market_history.specs.Acts.{packages_waiting}
use Rattle.market_history.specs.Book.{Tables, acts_of, book, tables_at_end}
use Rattle.market_history.specs.Checkouts.{IsWhole}
use Rattle.market_history.specs.Examples.{mug, id, give, offer, create}
use Rattle.market_history.specs.Histories.{Histories, no_histories}
use Rattle.market_history.specs.Once.{reply_at}
use Rattle.market_history.specs.Schedule.{play}

-- a request that a service answers at once
abbrev pub answered_by : ℕ → ℕ → ℕ → List Step
answered_by service asked told = offer (asked_by_7 service) asked ∷ offer (told_to_7 service) told ∷ []

abbrev pub base_steps : List Step
base_steps =
    give 1 create ∷ offer (asked_by_7 product_node) 1 ∷ offer PRODUCT_TO_STOCK 1 ∷ offer PRODUCT_TO_CART 1
    ∷ offer (told_to_7 product_node) 1
    ∷ give 2 (ask.Stock mug 3) ∷ (answered_by stock_node 1 1 ++
    give 3 (ask.Card 7 10000) ∷ (answered_by payment_node 1 1 ++
    give 4 (ask.Line 7 mug 2 100) ∷ (answered_by cart_node 1 1 ++
    give 5 (ask.Checkout 7) ∷ offer (asked_by_7 cart_node) 2
    ∷ offer CART_TO_STOCK 1 ∷ offer STOCK_TO_ORDER 1 ∷ offer ORDER_TO_SELLER 1 ∷ offer ORDER_TO_PAYMENT 1
    ∷ offer PAYMENT_TO_STOCK 1 ∷ offer PAYMENT_TO_CUSTOMER 1 ∷ offer PAYMENT_TO_SELLER 1
    ∷ offer PAYMENT_TO_ORDER 1 ∷ offer PAYMENT_TO_SHIPMENT 1
    ∷ offer SHIPMENT_TO_SELLER 1 ∷ offer SHIPMENT_TO_ORDER 1 ∷ offer ORDER_TO_CART 1
    ∷ offer (told_to_7 cart_node) 2
    ∷ [])))

abbrev pub base : Histories
base = play no_histories base_steps

abbrev pub base_line : PricedLine
base_line = record { key = mug; quantity = 2; price = 1000; freight = 50; voucher = 100 }

abbrev pub base_checkout : Reservation
base_checkout = record { checkout = id 5; customer = 7; lines = base_line ∷ [] }

abbrev pub base_item : Item
base_item = record { checkout = id 5; customer = 7; key = mug }

abbrev pub base_row : EntryRow
base_row = record { checkout = id 5; product = 10; quantity = 2; amount = 1950; status = status.Shipped }

-- what was accepted
pub record HasBaseActs (acts : Acts) : Type 0 where
  pub changes : acts.changes ≡ record { key = mug; version = 1; change = Created 1000 50 } ∷ []
  pub baskets : acts.baskets
      ≡ BasketAct.Left 7 mug (Some (record { quantity = 2; voucher = 100 })) ∷ BasketAct.Emptied 7 ∷ []
  pub stocked : acts.stocked ≡ record { key = mug; pieces = 3 } ∷ []
  pub cards : acts.cards ≡ record { customer = 7; limit = 10000 } ∷ []
  pub whole : acts.whole ≡ base_checkout ∷ []
  pub undone : acts.undone ≡ []
  pub unpaid : acts.unpaid ≡ []
  pub items : acts.items ≡ []

-- the tables at the product, the checkout, the customer and the seller
pub record HasBaseTables (t : Tables) : Type 0 where
  pub look : t.look mug ≡ Live 1 1000 50
  pub version : t.version mug ≡ 1
  pub cart_copy : t.cart_copy mug ≡ Live 1 1000 50
  pub stock_copy : t.stock_copy mug ≡ Live 1 1000 50
  pub basket : t.basket 7 ≡ []
  pub on_hand : t.on_hand mug ≡ 1
  pub reserved : t.reserved mug ≡ 0
  pub order_status : t.order_status (id 5) ≡ Some status.Shipped
  pub order_total : t.order_total (id 5) ≡ 1950
  pub limit : t.limit 7 ≡ Some 10000
  pub spent : t.spent 7 ≡ 1950
  pub packages : t.packages ≡ base_item ∷ []
  pub open_packages : t.open_packages ≡ base_item ∷ []
  pub confirmed : t.confirmed 7 ≡ 1
  pub failed : t.failed 7 ≡ 0
  pub delivered : t.delivered 7 ≡ 0
  pub in_progress : t.in_progress 5 ≡ base_row ∷ []
  pub point : t.point 5 ≡ 3

-- the checkout is whole, and its mug came for this customer, who may be another one
abbrev pub served : ℕ → Acts
served customer = record no_acts {
  whole = base_checkout ∷ [];
  items = record { checkout = id 5; customer = customer; key = mug } ∷ [];
}

-- only an item of its own customer delivers the order's line, but any of its line closes the package
pub record HasServedTables : Type 0 where
  pub order_of_own : status_by (served 7) (id 5) ≡ Some status.Delivered
  pub order_of_other : status_by (served 8) (id 5) ≡ Some status.Shipped
  pub package_of_own : packages_waiting (served 7).whole (served 7).items ≡ []
  pub package_of_other : packages_waiting (served 8).whole (served 8).items ≡ []

pub record BaseExamples : Type 0 where
  pub reply : reply_at base (id 5) ≡ Some (reply.Whole 1950)
  pub whole : IsWhole base (id 5) 1950
  pub acts : HasBaseActs (acts_of base)
  pub tables : HasBaseTables (tables_at_end base)
  pub book : HasBaseTables (book (acts_of base))
  pub served : HasServedTables
  pub counts : summary_of base
      ≡ record {
        requests = 5;
        whole = 1;
        undone = 0;
        outstanding = 0;
        confirmed = 1950;
        packages = 1;
        delivered = 0;
      }
