-- Which inputs fit stock, case by case.
use Rattle.std.specs.Prelude.{◌≡◌, ℕ, Bool, true, false, List, [], ◌∷◌, ◌++◌, map}
use Rattle.std.specs.List.{range_with_len}
use Rattle.market_events.specs.declared.bodies.Body.TheVariants as body
use Rattle.market_events.specs.declared.bodies.PayRule.TheVariants as pay
use Rattle.market_events.specs.declared.bodies.PricedLine.{PricedLine}
use Rattle.market_events.specs.declared.bodies.StockRule.TheVariants as stock
use Rattle.market_events.specs.declared.changes.Change.{Change}
use Rattle.market_events.specs.declared.changes.Change.TheVariants as change
use Rattle.market_events.specs.declared.links.TheConstants.{PRODUCT_TO_CART, PRODUCT_TO_STOCK, CART_TO_STOCK}
use Rattle.market_events.specs.declared.links.TheConstants.{STOCK_TO_CART, STOCK_TO_ORDER, PAYMENT_TO_STOCK}
use Rattle.market_events.specs.declared.links.TheConstants.{PAYMENT_TO_ORDER}
use Rattle.market_events.specs.declared.requests.Ask.TheVariants as ask
use Rattle.market_events.specs.Examples.{a_key, an_id, a_line, makes, mug, basket, mug_change}
use Rattle.market_events.specs.Examples.{mug_lines, mug_reserve, mug_reserved, mug_paid}
use Rattle.market_events.specs.ExamplesStock.{hears, hears_mug, three_mugs, two_reserved, two_paid}
use Rattle.market_events.specs.ExamplesStock.{two_set_free, three_products, reserve, mugs, cups, pots}
use Rattle.market_events.specs.ExamplesStock.{asks_stock}
use Rattle.market_events.specs.Services.{Role, fits, reactions}
use Rattle.market_events.specs.Steps.{Step, Sending}

abbrev pub stock_takes : List Step → Sending → Bool
stock_takes steps taken = fits Role.Stock steps taken.0 taken.1

-- a change of the mug for stock
abbrev pub mug_told : ℕ → Change → Sending
mug_told version change = (PRODUCT_TO_STOCK, body.Changed mug version change)

abbrev pub mug_is_gone : List Step
mug_is_gone = hears_mug ∷ hears mug 2 change.Deleted ∷ []

-- the base workload's reserve, that it was refused, and what payments tell of it
abbrev pub base_reserve : Sending
base_reserve = (CART_TO_STOCK, mug_reserve)

abbrev pub none_reserved : List Step
none_reserved =
    hears_mug ∷ makes base_reserve ((STOCK_TO_CART, body.ReserveFailed basket mug stock.Short) ∷ []) ∷ []

abbrev pub paid : Sending
paid = (PAYMENT_TO_STOCK, mug_paid)

abbrev pub not_paid : Sending
not_paid = (PAYMENT_TO_STOCK, body.Failed basket 7 pay.NoCard)

-- one piece of each of the products 1 to n of seller 8, which all are known
abbrev pub eights : ℕ → List PricedLine
eights n = map (λ k. a_line (a_key 8 k) 1 1000 50 0) (range_with_len 1 n)

abbrev pub hears_33 : List Step
hears_33 = map (λ k. hears (a_key 8 k) 1 (change.Created 1000 50)) (range_with_len 1 33)

pub record StockRequestFits : Type 0 where
  pub new_request : stock_takes three_mugs (asks_stock 9 (ask.Level mug)) ≡ true
  pub request_again : stock_takes three_mugs (asks_stock 2 (ask.Stock mug 3)) ≡ false
  pub id_again_with_other_request : stock_takes three_mugs (asks_stock 2 (ask.Level mug)) ≡ false
  pub view_is_for_the_cart : stock_takes three_mugs (asks_stock 9 (ask.View mug)) ≡ false
  pub stock_0_pieces : stock_takes three_mugs (asks_stock 9 (ask.Stock mug 0)) ≡ false
  pub stock_the_most_pieces : stock_takes three_mugs (asks_stock 9 (ask.Stock mug 1000000000)) ≡ true
  pub stock_more_than_the_most : stock_takes three_mugs (asks_stock 9 (ask.Stock mug 1000000001)) ≡ false

pub record StockChangeFits : Type 0 where
  pub first_creation : stock_takes [] (mug_told 1 (change.Created 1000 50)) ≡ true
  pub deletion_of_unknown : stock_takes [] (mug_told 1 change.Deleted) ≡ false
  pub next_version : stock_takes three_mugs (mug_told 2 change.Deleted) ≡ true
  pub version_two_above : stock_takes three_mugs (mug_told 3 change.Deleted) ≡ false
  pub creation_of_live : stock_takes three_mugs (mug_told 2 (change.Created 900 40)) ≡ false
  pub creation_of_gone : stock_takes mug_is_gone (mug_told 3 (change.Created 900 40)) ≡ true
  pub price_of_gone : stock_takes mug_is_gone (mug_told 3 (change.Priced 1200)) ≡ false
  pub change_for_the_cart : stock_takes [] (PRODUCT_TO_CART, mug_change) ≡ false

pub record StockReserveFits : Type 0 where
  pub reserve_once : stock_takes three_mugs base_reserve ≡ true
  pub reserve_of_more_than_there_is : stock_takes three_mugs (reserve (mugs 4 ∷ [])) ≡ true
  pub reserve_again : stock_takes two_reserved base_reserve ≡ false
  pub reserve_again_after_payment : stock_takes two_paid base_reserve ≡ false
  pub reserve_again_after_refusal : stock_takes none_reserved base_reserve ≡ false
  pub checkout_again_with_other_lines : stock_takes two_reserved (
    CART_TO_STOCK,
    body.Reserve basket 7 (mugs 1
        ∷ []),
  ) ≡ false
  pub second_checkout : stock_takes two_reserved (reserve mug_lines) ≡ true
  pub reserve_of_unknown : stock_takes three_mugs (reserve (cups 1 ∷ [])) ≡ false
  pub reserve_with_an_unknown_line : stock_takes three_mugs (reserve (mugs 1 ∷ cups 1 ∷ [])) ≡ false
  pub reserve_of_gone : stock_takes three_products (reserve (pots 1 ∷ [])) ≡ true
  pub lines_by_rising_key : stock_takes three_products (reserve (mugs 1 ∷ cups 1 ∷ pots 1 ∷ [])) ≡ true
  pub lines_by_falling_product : stock_takes three_products (reserve (cups 1 ∷ mugs 1 ∷ [])) ≡ false
  pub lines_by_falling_seller : stock_takes three_products (reserve (pots 1 ∷ cups 1 ∷ [])) ≡ false
  pub two_lines_of_one_product : stock_takes three_products (reserve (mugs 1 ∷ mugs 1 ∷ [])) ≡ false
  pub reserve_of_no_lines : stock_takes three_products (reserve []) ≡ false
  pub line_of_0_pieces : stock_takes three_products (reserve (mugs 0 ∷ [])) ≡ false
  pub line_of_1001_pieces : stock_takes three_products (reserve (mugs 1001 ∷ [])) ≡ false
  pub reserve_of_32_lines : stock_takes hears_33 (reserve (eights 32)) ≡ true
  pub reserve_of_33_lines : stock_takes hears_33 (reserve (eights 33)) ≡ false
  pub reserve_on_the_link_from_payments : stock_takes three_mugs (PAYMENT_TO_STOCK, mug_reserve) ≡ false
  pub confirmation_is_for_orders : stock_takes two_reserved (STOCK_TO_ORDER, mug_reserved) ≡ false
  pub reserve_is_answered : reactions Role.Stock three_mugs CART_TO_STOCK mug_reserve
      ≡ (STOCK_TO_ORDER, mug_reserved) ∷ []
  pub reserve_again_is_not : reactions Role.Stock two_reserved CART_TO_STOCK mug_reserve ≡ []
  pub reserve_of_unknown_is_not : reactions Role.Stock [] CART_TO_STOCK mug_reserve ≡ []

pub record StockPaymentFits : Type 0 where
  pub payment : stock_takes two_reserved paid ≡ true
  pub payment_of_other_customer : stock_takes two_reserved
      (PAYMENT_TO_STOCK, body.Confirmed basket 8 mug_lines 1950) ≡ false
  pub payment_of_fewer_pieces : stock_takes two_reserved
      (PAYMENT_TO_STOCK, body.Confirmed basket 7 (a_line mug 1 1000 50 100 ∷ []) 950) ≡ false
  pub payment_with_other_voucher : stock_takes two_reserved
      (PAYMENT_TO_STOCK, body.Confirmed basket 7 (a_line mug 2 1000 50 99 ∷ []) 1951) ≡ false
  pub payment_with_one_more_line : stock_takes two_reserved
      (PAYMENT_TO_STOCK, body.Confirmed basket 7 (mug_lines ++ cups 1 ∷ []) 2040) ≡ false
  pub payment_with_other_total : stock_takes two_reserved
      (PAYMENT_TO_STOCK, body.Confirmed basket 7 mug_lines 1949) ≡ false
  pub payment_without_reserve : stock_takes three_mugs paid ≡ false
  pub payment_after_refusal : stock_takes none_reserved paid ≡ false
  pub payment_twice : stock_takes two_paid paid ≡ false
  pub payment_after_failure : stock_takes two_set_free paid ≡ false
  pub payment_for_orders : stock_takes two_reserved (PAYMENT_TO_ORDER, mug_paid) ≡ false
  pub failure : stock_takes two_reserved not_paid ≡ true
  pub failure_of_other_customer : stock_takes two_reserved (PAYMENT_TO_STOCK, body.Failed basket 8 pay.NoCard)
      ≡ false
  pub failure_of_other_checkout : stock_takes two_reserved
      (PAYMENT_TO_STOCK, body.Failed (an_id 7 6) 7 pay.NoCard) ≡ false
  pub failure_without_reserve : stock_takes three_mugs not_paid ≡ false
  pub failure_twice : stock_takes two_set_free not_paid ≡ false
  pub failure_after_payment : stock_takes two_paid not_paid ≡ false
  pub shipment_is_for_orders : stock_takes two_paid (PAYMENT_TO_STOCK, body.Shipped basket) ≡ false

pub record StockFits : Type 0 where
  pub requests : StockRequestFits
  pub changes : StockChangeFits
  pub reserves : StockReserveFits
  pub payments : StockPaymentFits
