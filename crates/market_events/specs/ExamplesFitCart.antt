-- Which inputs fit the cart and the product service, case by case.
use Rattle.std.specs.Prelude.{◌≡◌, ℕ, Bool, true, false, List, [], ◌∷◌, ◌++◌}
use Rattle.market_events.specs.declared.bodies.Body.TheVariants as body
use Rattle.market_events.specs.declared.bodies.Ending.TheVariants as ending
use Rattle.market_events.specs.declared.bodies.PayRule.TheVariants as pay
use Rattle.market_events.specs.declared.bodies.StockRule.TheVariants as stock
use Rattle.market_events.specs.declared.changes.Change.{Change}
use Rattle.market_events.specs.declared.changes.Change.TheVariants as change
use Rattle.market_events.specs.declared.links.TheConstants.{PRODUCT_TO_CART, PRODUCT_TO_STOCK, CART_TO_STOCK}
use Rattle.market_events.specs.declared.links.TheConstants.{STOCK_TO_CART, ORDER_TO_CART}
use Rattle.market_events.specs.declared.replies.Reply.TheVariants as reply
use Rattle.market_events.specs.declared.replies.UndoneRule.TheVariants as undone
use Rattle.market_events.specs.declared.requests.Ask.TheVariants as ask
use Rattle.market_events.specs.Examples.{an_id, makes, mug, basket, mug_change, mug_reserve}
use Rattle.market_events.specs.Examples.{mug_ended, asked_by_7, asked_by_20}
use Rattle.market_events.specs.ExamplesCart.{sees, sees_mug, sees_cup, lines_mug, mug_is_out, mug_is_ended}
use Rattle.market_events.specs.ExamplesCart.{asks_cart, cart_tells}
use Rattle.market_events.specs.ExamplesProduct.{mug_created, mug_changes, asks_product}
use Rattle.market_events.specs.Links.{cart_node, product_node}
use Rattle.market_events.specs.Services.{Role, fits, reactions}
use Rattle.market_events.specs.Steps.{Step, Sending}

abbrev pub cart_takes : List Step → Sending → Bool
cart_takes steps taken = fits Role.Cart steps taken.0 taken.1

abbrev pub product_takes : List Step → Sending → Bool
product_takes steps taken = fits Role.Product steps taken.0 taken.1

-- the mug was deleted
abbrev pub mug_is_gone : List Step
mug_is_gone = sees_mug ∷ sees mug 2 change.Deleted ∷ []

-- a change of the mug for the cart
abbrev pub mug_sent : ℕ → Change → Sending
mug_sent version change = (PRODUCT_TO_CART, body.Changed mug version change)

-- stock or orders tell of checkout 5
abbrev pub stock_fails : Sending
stock_fails = (STOCK_TO_CART, body.ReserveFailed basket mug stock.Short)

abbrev pub order_ends : Sending
order_ends = (ORDER_TO_CART, mug_ended)

abbrev pub mug_failed : List Step
mug_failed = mug_is_out ++ makes stock_fails (cart_tells 5 (reply.Undone (undone.Short mug)) ∷ []) ∷ []

pub record CartRequestFits : Type 0 where
  pub new_request : cart_takes mug_is_out (asks_cart 9 (ask.View mug)) ≡ true
  pub new_id_of_other_caller :
      cart_takes mug_is_out
      (asked_by_20 cart_node, body.Asked (record { id = an_id 20 4; ask = ask.View mug })) ≡ true
  pub request_again : cart_takes mug_is_out (asks_cart 4 (ask.Line 7 mug 2 100)) ≡ false
  pub id_again_with_other_request : cart_takes mug_is_out (asks_cart 4 (ask.View mug)) ≡ false
  pub request_for_product : cart_takes mug_is_out (asks_product 9 (ask.Delete mug)) ≡ false
  pub request_for_product_on_the_carts_link : cart_takes mug_is_out (asks_cart 9 (ask.Delete mug)) ≡ false
  pub request_on_the_link_to_product : cart_takes mug_is_out (asks_product 9 (ask.View mug)) ≡ false
  pub line_of_0_pieces : cart_takes (sees_mug ∷ []) (asks_cart 9 (ask.Line 7 mug 0 0)) ≡ false
  pub line_of_1000_pieces : cart_takes (sees_mug ∷ []) (asks_cart 9 (ask.Line 7 mug 1000 1000000000)) ≡ true
  pub line_of_1001_pieces : cart_takes (sees_mug ∷ []) (asks_cart 9 (ask.Line 7 mug 1001 0)) ≡ false
  pub voucher_above_the_range : cart_takes (sees_mug ∷ []) (asks_cart 9 (ask.Line 7 mug 1 1000000001)) ≡ false
  pub new_request_is_answered :
      reactions Role.Cart mug_is_out (asked_by_7 cart_node)
      (body.Asked (record { id = an_id 7 9; ask = ask.View mug }))
      ≡ cart_tells 9 (reply.View 1 1000 50) ∷ []
  pub request_again_is_not :
      reactions Role.Cart mug_is_out (asked_by_7 cart_node)
      (body.Asked (record { id = an_id 7 4; ask = ask.View mug }))
      ≡ []

pub record CartChangeFits : Type 0 where
  pub first_creation : cart_takes [] (mug_sent 1 (change.Created 1000 50)) ≡ true
  pub first_version_is_2 : cart_takes [] (mug_sent 2 (change.Created 1000 50)) ≡ false
  pub price_of_unknown : cart_takes (sees_cup ∷ []) (mug_sent 1 (change.Priced 1200)) ≡ false
  pub deletion_of_unknown : cart_takes (sees_cup ∷ []) (mug_sent 1 change.Deleted) ≡ false
  pub next_version : cart_takes (sees_mug ∷ []) (mug_sent 2 (change.Priced 1200)) ≡ true
  pub same_version : cart_takes (sees_mug ∷ []) (mug_sent 1 (change.Priced 1200)) ≡ false
  pub version_two_above : cart_takes (sees_mug ∷ []) (mug_sent 3 (change.Priced 1200)) ≡ false
  pub creation_of_live : cart_takes (sees_mug ∷ []) (mug_sent 2 (change.Created 900 40)) ≡ false
  pub deletion_of_live : cart_takes (sees_mug ∷ []) (mug_sent 2 change.Deleted) ≡ true
  pub price_of_gone : cart_takes mug_is_gone (mug_sent 3 (change.Priced 1200)) ≡ false
  pub deletion_of_gone : cart_takes mug_is_gone (mug_sent 3 change.Deleted) ≡ false
  pub creation_of_gone : cart_takes mug_is_gone (mug_sent 3 (change.Created 900 40)) ≡ true
  pub creation_of_gone_starts_anew : cart_takes mug_is_gone (mug_sent 1 (change.Created 900 40)) ≡ false
  pub price_above_the_range : cart_takes (sees_mug ∷ []) (mug_sent 2 (change.Priced 1000000001)) ≡ false
  pub change_for_stock : cart_takes [] (PRODUCT_TO_STOCK, mug_change) ≡ false
  pub change_on_the_link_from_stock : cart_takes [] (STOCK_TO_CART, mug_change) ≡ false

pub record CartEndFits : Type 0 where
  pub stock_fails_the_checkout : cart_takes mug_is_out stock_fails ≡ true
  pub stock_fails_without_reserve : cart_takes (sees_mug ∷ lines_mug ∷ []) stock_fails ≡ false
  pub stock_fails_other_checkout : cart_takes mug_is_out
      (STOCK_TO_CART, body.ReserveFailed (an_id 7 6) mug stock.Short) ≡ false
  pub stock_fails_twice : cart_takes mug_failed stock_fails ≡ false
  pub stock_fails_after_the_end : cart_takes mug_is_ended stock_fails ≡ false
  pub stock_fails_on_the_link_from_orders : cart_takes mug_is_out
      (ORDER_TO_CART, body.ReserveFailed basket mug stock.Short) ≡ false
  pub order_ends_the_checkout : cart_takes mug_is_out order_ends ≡ true
  pub order_ends_it_undone : cart_takes mug_is_out
      (ORDER_TO_CART, body.Ended basket (ending.Undone pay.NoCard)) ≡ true
  pub order_ends_without_reserve : cart_takes (sees_mug ∷ lines_mug ∷ []) order_ends ≡ false
  pub order_ends_other_checkout : cart_takes mug_is_out
      (ORDER_TO_CART, body.Ended (an_id 7 6) (ending.Whole 1950)) ≡ false
  pub order_ends_twice : cart_takes mug_is_ended order_ends ≡ false
  pub order_ends_after_stock_failed : cart_takes mug_failed order_ends ≡ false
  pub order_ends_on_the_link_from_stock : cart_takes mug_is_out (STOCK_TO_CART, mug_ended) ≡ false
  pub reserve_is_for_stock : cart_takes mug_is_out (CART_TO_STOCK, mug_reserve) ≡ false
  pub reply_is_for_a_lane : cart_takes mug_is_out (cart_tells 5 (reply.Whole 1950)) ≡ false

pub record CartFits : Type 0 where
  pub requests : CartRequestFits
  pub changes : CartChangeFits
  pub ends : CartEndFits

pub record ProductFits : Type 0 where
  pub new_request : product_takes (mug_created ∷ []) (asks_product 9 (ask.Price mug 1200)) ≡ true
  pub request_again : product_takes (mug_created ∷ []) (asks_product 1 (ask.Create mug 1000 50)) ≡ false
  pub id_again_with_other_request : product_takes (mug_created ∷ []) (asks_product 1 (ask.Price mug 1200))
      ≡ false
  pub view_is_for_the_cart : product_takes (mug_created ∷ []) (asks_product 9 (ask.View mug)) ≡ false
  pub price_in_the_range : product_takes [] (asks_product 9 (ask.Create mug 1000000000 1000000000)) ≡ true
  pub freight_above_the_range : product_takes [] (asks_product 9 (ask.Create mug 1000 1000000001)) ≡ false
  pub change_is_for_the_cart : product_takes (mug_created ∷ []) (PRODUCT_TO_CART, mug_change) ≡ false
  pub new_request_is_answered :
      reactions Role.Product (mug_created
      ∷ []) (asked_by_7 product_node) (body.Asked (record { id = an_id 7 9; ask = ask.Price mug 1200 }))
      ≡ mug_changes 9 2 (change.Priced 1200) (reply.Priced 2)
  pub request_again_is_not :
      reactions Role.Product (mug_created
      ∷ []) (asked_by_7 product_node) (body.Asked (record { id = an_id 7 1; ask = ask.Price mug 1200 })) ≡ []
