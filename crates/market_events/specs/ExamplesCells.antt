-- The cells of each service, by rising name: table, key and value.
use Rattle.std.specs.Prelude.{◌≡◌, List, [], ◌∷◌, ◌++◌, codes}
use Prim.Native.String.{String}
use Rattle.market_events.specs.declared.bodies.Body.TheVariants as body
use Rattle.market_events.specs.declared.bodies.PayRule.TheVariants as pay
use Rattle.market_events.specs.declared.cells.Cell.{Cell}
use Rattle.market_events.specs.declared.changes.Change.TheVariants as change
use Rattle.market_events.specs.declared.links.TheConstants.{PRODUCT_TO_CART, PRODUCT_TO_STOCK}
use Rattle.market_events.specs.declared.requests.Ask.TheVariants as ask
use Rattle.market_events.specs.declared.replies.Reply.TheVariants as reply
use Rattle.market_events.specs.Cells.{cell, cells_of}
use Rattle.market_events.specs.Examples.{a_key, mug, cup, makes}
use Rattle.market_events.specs.ExamplesBase.{cart_of_base, product_of_base, stock_of_base, order_of_base}
use Rattle.market_events.specs.ExamplesBase.{payment_of_base, shipment_of_base, customer_of_base}
use Rattle.market_events.specs.ExamplesBase.{seller_of_base}
use Rattle.market_events.specs.ExamplesCart.{sees, sees_mug, sees_cup, lines_up, lines_mug, removes_mug}
use Rattle.market_events.specs.ExamplesCart.{mug_is_out}
use Rattle.market_events.specs.ExamplesCustomer.{two_arrived}
use Rattle.market_events.specs.ExamplesOrder.{half_delivered, mug_is_cancelled}
use Rattle.market_events.specs.ExamplesPayment.{sets_card, mug_bill, fails_by}
use Rattle.market_events.specs.ExamplesProduct.{mug_created, mug_deleted, asks_product, product_tells}
use Rattle.market_events.specs.ExamplesSeller.{one_delivered}
use Rattle.market_events.specs.ExamplesShipment.{ten_delivered}
use Rattle.market_events.specs.ExamplesStock.{three_products, two_reserved, reserve, reserved, mugs, cups}
use Rattle.market_events.specs.Services.{Role}
use Rattle.market_events.specs.Steps.{Step}

abbrev pub a_cell : String → String → String → Cell
a_cell table key value = cell (codes table) (codes key) (codes value)

-- at the end of the base workload
pub record BaseCells : Type 0 where
  pub cart : cells_of Role.Cart cart_of_base ≡ a_cell "copy" "5:10" "live 1 1000 50" ∷ []
  pub product : cells_of Role.Product product_of_base ≡ a_cell "product" "5:10" "live 1 1000 50" ∷ []
  pub stock : cells_of Role.Stock stock_of_base
      ≡ a_cell "copy" "5:10" "live 1 1000 50" ∷ a_cell "stock" "5:10" "1 0" ∷ []
  pub order : cells_of Role.Order order_of_base ≡ a_cell "order" "7.5" "shipped 1950 1" ∷ []
  pub payment : cells_of Role.Payment payment_of_base ≡ a_cell "account" "7" "10000 1950" ∷ []
  pub shipment : cells_of Role.Shipment shipment_of_base ≡ a_cell "package" "1" "7.5:7:5:10 open" ∷ []
  pub customer : cells_of Role.Customer customer_of_base ≡ a_cell "customer" "7" "1 0 0" ∷ []
  pub seller :
      cells_of Role.Seller seller_of_base
      ≡ a_cell "change" "5:1" "1 invoiced" ∷ a_cell "change" "5:2" "1 paid"
      ∷ a_cell "change" "5:3" "1 shipped"
      ∷ a_cell "entry" "5:1" "7.5:10:2:1950" ∷ []

-- product 9 of seller 5 is created beside the mug
abbrev pub nine_created : Step
nine_created =
    makes (asks_product 8 (ask.Create (a_key 5 9) 30 60))
    ((PRODUCT_TO_STOCK, body.Changed (a_key 5 9) 1 (change.Created 30 60))
    ∷ (PRODUCT_TO_CART, body.Changed (a_key 5 9) 1 (change.Created 30 60))
    ∷ product_tells 8 (reply.Created 1) ∷ [])

-- checkout 9 reserves a mug and a cup
abbrev pub mug_and_cup_reserved : List Step
mug_and_cup_reserved =
    three_products ++ makes (reserve (mugs 1 ∷ cups 1 ∷ [])) (reserved (mugs 1 ∷ cups 1 ∷ [])) ∷ []

abbrev pub over_limit : List Step
over_limit = sets_card 3 7 1949 ∷ makes mug_bill (fails_by pay.OverLimit) ∷ []

pub record MoreCells : Type 0 where
  pub no_cells : cells_of Role.Seller [] ≡ []
  pub keys_by_bytes :
      cells_of Role.Product (nine_created ∷ mug_created ∷ mug_deleted ∷ [])
      ≡ a_cell "product" "5:10" "gone 2" ∷ a_cell "product" "5:9" "live 1 30 60" ∷ []
  pub basket_with_two_lines :
      cells_of Role.Cart (sees_mug ∷ sees_cup ∷ lines_up 1 cup ∷ lines_mug ∷ sees mug 2 (change.Priced 1200)
      ∷ [])
      ≡ a_cell "basket" "7:5:10" "2 100" ∷ a_cell "basket" "7:5:11" "1 0"
      ∷ a_cell "copy" "5:10" "live 2 1200 50" ∷ a_cell "copy" "5:11" "live 1 30 60" ∷ []
  pub line_removed :
      cells_of Role.Cart (sees_mug ∷ lines_mug ∷ removes_mug ∷ sees mug 2 change.Deleted ∷ [])
      ≡ a_cell "copy" "5:10" "gone 2" ∷ []
  pub basket_sent_on : cells_of Role.Cart mug_is_out ≡ a_cell "copy" "5:10" "live 1 1000 50" ∷ []
  pub pieces_held :
      cells_of Role.Stock two_reserved
      ≡ a_cell "copy" "5:10" "live 1 1000 50" ∷ a_cell "held" "7.5" "5:10:2" ∷ a_cell "stock" "5:10" "3 2"
      ∷ []
  pub two_lines_held :
      cells_of Role.Stock mug_and_cup_reserved
      ≡ a_cell "copy" "5:10" "live 1 1000 50" ∷ a_cell "copy" "5:11" "live 1 30 60"
      ∷ a_cell "copy" "6:10" "gone 2"
      ∷ a_cell "held" "7.9" "5:10:1;5:11:1"
      ∷ a_cell "stock" "5:10" "3 1" ∷ a_cell "stock" "5:11" "1 1" ∷ a_cell "stock" "6:10" "5 0" ∷ []
  pub orders_delivered_in_part :
      cells_of Role.Order half_delivered
      ≡ a_cell "order" "7.5" "delivered 1950 0" ∷ a_cell "order" "7.6" "shipped 2010 1" ∷ []
  pub order_cancelled : cells_of Role.Order mug_is_cancelled ≡ a_cell "order" "7.5" "cancelled 1950 1" ∷ []
  pub account_not_spent : cells_of Role.Payment over_limit ≡ a_cell "account" "7" "1949 0" ∷ []
  pub no_account_without_card : cells_of Role.Payment (makes mug_bill (fails_by pay.NoCard) ∷ []) ≡ []
  pub packages_by_bytes :
      cells_of Role.Shipment ten_delivered
      ≡ a_cell "package" "1" "7.1:7:30:10 closed" ∷ a_cell "package" "10" "7.2:7:9:10 closed"
      ∷ a_cell "package" "11" "7.2:7:10:10 open"
      ∷ a_cell "package" "2" "7.2:7:1:10 closed" ∷ a_cell "package" "3" "7.2:7:2:10 closed"
      ∷ a_cell "package" "4" "7.2:7:3:10 closed"
      ∷ a_cell "package" "5" "7.2:7:4:10 closed" ∷ a_cell "package" "6" "7.2:7:5:10 closed"
      ∷ a_cell "package" "7" "7.2:7:6:10 closed"
      ∷ a_cell "package" "8" "7.2:7:7:10 closed" ∷ a_cell "package" "9" "7.2:7:8:10 closed" ∷ []
  pub two_customers : cells_of Role.Customer two_arrived
      ≡ a_cell "customer" "7" "2 1 2" ∷ a_cell "customer" "9" "1 0 1" ∷ []
  pub two_sellers :
      cells_of Role.Seller one_delivered
      ≡ a_cell "change" "5:1" "1 invoiced" ∷ a_cell "change" "5:10" "2 delivered"
      ∷ a_cell "change" "5:2" "1 paid"
      ∷ a_cell "change" "5:3" "1 shipped" ∷ a_cell "change" "5:4" "2 invoiced"
      ∷ a_cell "change" "5:5" "3 invoiced"
      ∷ a_cell "change" "5:6" "2 paid" ∷ a_cell "change" "5:7" "3 paid"
      ∷ a_cell "change" "5:8" "2 shipped" ∷ a_cell "change" "5:9" "3 shipped"
      ∷ a_cell "change" "6:1" "1 invoiced" ∷ a_cell "change" "6:2" "1 paid"
      ∷ a_cell "change" "6:3" "1 shipped"
      ∷ a_cell "entry" "5:1" "7.5:10:2:1950" ∷ a_cell "entry" "5:2" "7.6:10:1:1050"
      ∷ a_cell "entry" "5:3" "7.6:11:1:60"
      ∷ a_cell "entry" "6:1" "7.6:10:3:150" ∷ []

pub record CellExamples : Type 0 where
  pub base : BaseCells
  pub more : MoreCells
