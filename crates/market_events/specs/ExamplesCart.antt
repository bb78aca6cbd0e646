-- What the cart answers, case by case.
use Rattle.std.specs.Prelude.{◌≡◌, ℕ, List, [], ◌∷◌, ◌++◌, map}
use Rattle.std.specs.List.{range_with_len}
use Rattle.market_amounts.specs.declared.keys.ProductKey.{ProductKey}
use Rattle.market_events.specs.declared.bodies.Body.TheVariants as body
use Rattle.market_events.specs.declared.bodies.Ending.TheVariants as ending
use Rattle.market_events.specs.declared.bodies.PayRule.TheVariants as pay
use Rattle.market_events.specs.declared.bodies.PricedLine.{PricedLine}
use Rattle.market_events.specs.declared.bodies.StockRule.TheVariants as stock
use Rattle.market_events.specs.declared.changes.Change.{Change}
use Rattle.market_events.specs.declared.changes.Change.TheVariants as change
use Rattle.market_events.specs.declared.links.TheConstants.{PRODUCT_TO_CART, CART_TO_STOCK, STOCK_TO_CART}
use Rattle.market_events.specs.declared.links.TheConstants.{ORDER_TO_CART}
use Rattle.market_events.specs.declared.replies.Reply.{Reply}
use Rattle.market_events.specs.declared.replies.Reply.TheVariants as reply
use Rattle.market_events.specs.declared.replies.Rule.{Rule}
use Rattle.market_events.specs.declared.replies.Rule.TheVariants as rule
use Rattle.market_events.specs.declared.replies.UndoneRule.{UndoneRule}
use Rattle.market_events.specs.declared.replies.UndoneRule.TheVariants as undone
use Rattle.market_events.specs.declared.requests.Ask.{Ask}
use Rattle.market_events.specs.declared.requests.Ask.TheVariants as ask
use Rattle.market_events.specs.Examples.{a_key, an_id, a_line, request, answer, refusal, makes, quiet, mug}
use Rattle.market_events.specs.Examples.{cup, pot, basket, mug_change, mug_lines, mug_reserve, mug_ended}
use Rattle.market_events.specs.Examples.{asked_by_20, told_to_20}
use Rattle.market_events.specs.Links.{cart_node}
use Rattle.market_events.specs.Services.{Role, answers}
use Rattle.market_events.specs.Steps.{Step, Sending}

abbrev pub cart_makes : List Step → Sending → List Sending
cart_makes steps taken = answers Role.Cart steps taken.0 taken.1

-- the request of caller 7 with this number for this service, and what the caller is told of it
abbrev pub asks_cart : ℕ → Ask → Sending
asks_cart = request cart_node

abbrev pub cart_tells : ℕ → Reply → Sending
cart_tells = answer cart_node

abbrev pub cart_refuses : ℕ → Rule → Sending
cart_refuses = refusal cart_node

-- the change comes from the product service
abbrev pub sees : ProductKey → ℕ → Change → Step
sees key version change = quiet (PRODUCT_TO_CART, body.Changed key version change)

abbrev pub sees_mug : Step
sees_mug = quiet (PRODUCT_TO_CART, mug_change)

-- cup and pot, of price 30 and freight 60
abbrev pub sees_cup : Step
sees_cup = sees cup 1 (change.Created 30 60)

abbrev pub sees_pot : Step
sees_pot = sees pot 1 (change.Created 30 60)

-- customer 7 sets a line of one piece, or of two mugs, by the request with this number
abbrev pub lines_up : ℕ → ProductKey → Step
lines_up number key = makes (asks_cart number (ask.Line 7 key 1 0)) (cart_tells number (reply.Line 1) ∷ [])

abbrev pub lines_mug : Step
lines_mug = makes (asks_cart 4 (ask.Line 7 mug 2 100)) (cart_tells 4 (reply.Line 2) ∷ [])

abbrev pub removes_mug : Step
removes_mug = makes (asks_cart 8 (ask.Remove 7 mug)) (cart_tells 8 reply.Removed ∷ [])

-- request 5 checks the basket out, which is sent on to stock
abbrev pub sends_mug : Step
sends_mug = makes (asks_cart 5 (ask.Checkout 7)) ((CART_TO_STOCK, mug_reserve) ∷ [])

abbrev pub mug_is_out : List Step
mug_is_out = sees_mug ∷ lines_mug ∷ sends_mug ∷ []

abbrev pub mug_is_ended : List Step
mug_is_ended = mug_is_out ++ makes (ORDER_TO_CART, mug_ended) (cart_tells 5 (reply.Whole 1950) ∷ []) ∷ []

-- the same by request 5 of caller 20, on its own lane
abbrev pub mug_is_out_for_20 : List Step
mug_is_out_for_20 =
    sees_mug ∷ lines_mug
    ∷ makes (asked_by_20 cart_node, body.Asked (record { id = an_id 20 5; ask = ask.Checkout 7 }))
    ((CART_TO_STOCK, body.Reserve (an_id 20 5) 7 mug_lines) ∷ []) ∷ []

-- customer 8 has a mug too, and checks out
abbrev pub customer_8_checked_out : List Step
customer_8_checked_out =
    sees_mug ∷ lines_mug ∷ makes (asks_cart 5 (ask.Line 8 mug 1 0)) (cart_tells 5 (reply.Line 1) ∷ [])
    ∷ makes (asks_cart 8 (ask.Checkout 8)) ((
      CART_TO_STOCK,
      body.Reserve (an_id 7 8) 8 (a_line mug 1 1000 50 0
          ∷ []),
    ) ∷ []) ∷ []

-- request 9 checks out customer 7
abbrev pub checks_out : Sending
checks_out = asks_cart 9 (ask.Checkout 7)

abbrev pub sent_on : List PricedLine → List Sending
sent_on lines = (CART_TO_STOCK, body.Reserve (an_id 7 9) 7 lines) ∷ []

abbrev pub undone_by : ℕ → UndoneRule → List Sending
undone_by number rule = cart_tells number (reply.Undone rule) ∷ []

-- products 1 to 33 of seller 8, and lines of the first of them
abbrev pub sees_33 : List Step
sees_33 = map (λ n. sees (a_key 8 n) 1 (change.Created 1000 50)) (range_with_len 1 33)

abbrev pub has_lines : ℕ → List Step
has_lines n = sees_33 ++ map (λ k. lines_up k (a_key 8 k)) (range_with_len 1 n)

pub record ViewExamples : Type 0 where
  pub view_of_unknown : cart_makes [] (asks_cart 9 (ask.View mug)) ≡ cart_refuses 9 rule.Unknown ∷ []
  pub view_of_other : cart_makes (sees_mug ∷ []) (asks_cart 9 (ask.View cup))
      ≡ cart_refuses 9 rule.Unknown ∷ []
  pub view_of_live : cart_makes (sees_mug ∷ []) (asks_cart 9 (ask.View mug))
      ≡ cart_tells 9 (reply.View 1 1000 50) ∷ []
  pub view_after_price_keeps_freight :
      cart_makes (sees_mug ∷ sees mug 2 (change.Priced 1200) ∷ []) (asks_cart 9 (ask.View mug))
      ≡ cart_tells 9 (reply.View 2 1200 50) ∷ []
  pub view_of_gone : cart_makes (sees_mug ∷ sees mug 2 change.Deleted ∷ []) (asks_cart 9 (ask.View mug))
      ≡ cart_refuses 9 rule.Gone ∷ []
  pub view_after_second_create :
      cart_makes (sees_mug ∷ sees mug 2 change.Deleted ∷ sees mug 3 (change.Created 900 40)
      ∷ []) (asks_cart 9 (ask.View mug))
      ≡ cart_tells 9 (reply.View 3 900 40) ∷ []

pub record LineExamples : Type 0 where
  pub line_of_unknown : cart_makes [] (asks_cart 9 (ask.Line 7 mug 2 100)) ≡ cart_refuses 9 rule.Unknown ∷ []
  pub line_of_gone :
      cart_makes (sees_mug ∷ sees mug 2 change.Deleted ∷ []) (asks_cart 9 (ask.Line 7 mug 2 100))
      ≡ cart_refuses 9 rule.Gone ∷ []
  pub line_of_live : cart_makes (sees_mug ∷ []) (asks_cart 9 (ask.Line 7 mug 2 100))
      ≡ cart_tells 9 (reply.Line 2) ∷ []
  pub line_again : cart_makes (sees_mug ∷ lines_mug ∷ []) (asks_cart 9 (ask.Line 7 mug 5 0))
      ≡ cart_tells 9 (reply.Line 5) ∷ []

pub record RemoveExamples : Type 0 where
  pub remove_of_no_line : cart_makes (sees_mug ∷ []) (asks_cart 9 (ask.Remove 7 mug))
      ≡ cart_refuses 9 rule.NoLine ∷ []
  pub remove_of_line : cart_makes (sees_mug ∷ lines_mug ∷ []) (asks_cart 9 (ask.Remove 7 mug))
      ≡ cart_tells 9 reply.Removed ∷ []
  pub remove_of_other_line : cart_makes (sees_mug ∷ lines_mug ∷ []) (asks_cart 9 (ask.Remove 7 cup))
      ≡ cart_refuses 9 rule.NoLine ∷ []
  pub remove_of_other_customer : cart_makes (sees_mug ∷ lines_mug ∷ []) (asks_cart 9 (ask.Remove 8 mug))
      ≡ cart_refuses 9 rule.NoLine ∷ []
  pub remove_after_remove :
      cart_makes (sees_mug ∷ lines_mug ∷ removes_mug ∷ []) (asks_cart 9 (ask.Remove 7 mug))
      ≡ cart_refuses 9 rule.NoLine ∷ []
  pub remove_after_checkout :
      cart_makes mug_is_out (asks_cart 9 (ask.Remove 7 mug)) ≡ cart_refuses 9 rule.NoLine ∷ []
  pub remove_of_gone :
      cart_makes (sees_mug ∷ lines_mug ∷ sees mug 2 change.Deleted ∷ []) (asks_cart 9 (ask.Remove 7 mug))
      ≡ cart_tells 9 reply.Removed ∷ []
  pub remove_after_refused_line :
      cart_makes (makes (asks_cart 4 (ask.Line 7 mug 2 100)) (cart_refuses 4 rule.Unknown ∷ []) ∷ sees_mug
      ∷ []) (asks_cart 9 (ask.Remove 7 mug))
      ≡ cart_refuses 9 rule.NoLine ∷ []

pub record CheckoutExamples : Type 0 where
  pub checkout_of_empty_basket : cart_makes (sees_mug ∷ []) checks_out ≡ undone_by 9 undone.CartEmpty
  pub checkout_of_other_customer : cart_makes (sees_mug ∷ lines_mug ∷ []) (asks_cart 9 (ask.Checkout 8))
      ≡ undone_by 9 undone.CartEmpty
  pub checkout_of_line : cart_makes (sees_mug ∷ lines_mug ∷ []) (asks_cart 5 (ask.Checkout 7))
      ≡ (CART_TO_STOCK, mug_reserve) ∷ []
  pub checkout_after_checkout : cart_makes mug_is_out checks_out ≡ undone_by 9 undone.CartEmpty
  pub checkout_after_remove : cart_makes (sees_mug ∷ lines_mug ∷ removes_mug ∷ []) checks_out
      ≡ undone_by 9 undone.CartEmpty
  pub remove_takes_one_line_out :
      cart_makes (sees_cup ∷ sees_mug ∷ lines_up 1 cup ∷ lines_mug ∷ removes_mug ∷ []) checks_out
      ≡ sent_on (a_line cup 1 30 60 0 ∷ [])
  pub checkout_takes_only_its_customers_lines : cart_makes customer_8_checked_out checks_out
      ≡ sent_on mug_lines
  pub lines_rise_by_key :
      cart_makes (sees_pot ∷ sees_cup ∷ sees_mug ∷ lines_up 1 pot ∷ lines_up 2 cup ∷ lines_mug
      ∷ []) checks_out
      ≡ sent_on (a_line mug 2 1000 50 100 ∷ a_line cup 1 30 60 0 ∷ a_line pot 1 30 60 0 ∷ [])
  pub lines_have_the_price_of_the_copy :
      cart_makes (sees_mug ∷ lines_mug ∷ sees mug 2 (change.Priced 1200) ∷ []) checks_out
      ≡ sent_on (a_line mug 2 1200 50 100 ∷ [])
  pub last_line_counts :
      cart_makes (sees_mug ∷ lines_mug ∷ lines_up 8 mug ∷ []) checks_out
      ≡ sent_on (a_line mug 1 1000 50 0 ∷ [])
  pub line_after_remove_counts :
      cart_makes (sees_mug ∷ lines_mug ∷ removes_mug ∷ lines_up 9 mug ∷ []) (asks_cart 10 (ask.Checkout 7))
      ≡ (CART_TO_STOCK, body.Reserve (an_id 7 10) 7 (a_line mug 1 1000 50 0 ∷ [])) ∷ []
  pub least_gone_is_named :
      cart_makes
      (sees_pot ∷ sees_cup ∷ sees_mug ∷ lines_up 1 pot ∷ lines_up 2 cup ∷ lines_mug
      ∷ sees pot 2 change.Deleted ∷ sees cup 2 change.Deleted ∷ [])
      checks_out
      ≡ undone_by 9 (undone.Gone cup)
  pub basket_stays_that_was_not_sent_on :
      cart_makes
      (sees_mug ∷ lines_mug ∷ sees mug 2 change.Deleted
      ∷ makes (asks_cart 8 (ask.Checkout 7)) (undone_by 8 (undone.Gone mug))
      ∷ sees mug 3 (change.Created 900 40) ∷ [])
      checks_out
      ≡ sent_on (a_line mug 2 900 40 100 ∷ [])

pub record EndExamples : Type 0 where
  pub reserve_failed_gone : cart_makes mug_is_out (STOCK_TO_CART, body.ReserveFailed basket mug stock.Gone)
      ≡ undone_by 5 (undone.Gone mug)
  pub reserve_failed_short : cart_makes mug_is_out (STOCK_TO_CART, body.ReserveFailed basket mug stock.Short)
      ≡ undone_by 5 (undone.Short mug)
  pub ended_without_card : cart_makes mug_is_out (ORDER_TO_CART, body.Ended basket (ending.Undone pay.NoCard))
      ≡ undone_by 5 undone.NoCard
  pub ended_over_limit : cart_makes mug_is_out
      (ORDER_TO_CART, body.Ended basket (ending.Undone pay.OverLimit)) ≡ undone_by 5 undone.OverLimit
  pub ended_whole : cart_makes mug_is_out (ORDER_TO_CART, mug_ended) ≡ cart_tells 5 (reply.Whole 1950) ∷ []
  pub caller_20_is_told_on_its_lane :
      cart_makes mug_is_out_for_20 (ORDER_TO_CART, body.Ended (an_id 20 5) (ending.Whole 1950))
      ≡ (told_to_20 cart_node, body.Told (an_id 20 5) (reply.Whole 1950)) ∷ []
  pub change_is_nothing : cart_makes [] (PRODUCT_TO_CART, mug_change) ≡ []

-- a basket has room for 32 products
pub record FullExamples : Type 0 where
  pub line_32 : cart_makes (has_lines 31) (asks_cart 99 (ask.Line 7 (a_key 8 32) 3 0))
      ≡ cart_tells 99 (reply.Line 3) ∷ []
  pub line_33 : cart_makes (has_lines 32) (asks_cart 99 (ask.Line 7 (a_key 8 33) 3 0))
      ≡ cart_refuses 99 rule.CartFull ∷ []
  pub line_of_a_key_that_is_there : cart_makes (has_lines 32) (asks_cart 99 (ask.Line 7 (a_key 8 17) 3 0))
      ≡ cart_tells 99 (reply.Line 3) ∷ []
  pub line_33_of_unknown : cart_makes (has_lines 32) (asks_cart 99 (ask.Line 7 mug 3 0))
      ≡ cart_refuses 99 rule.Unknown ∷ []
  pub line_of_other_customer : cart_makes (has_lines 32) (asks_cart 99 (ask.Line 8 (a_key 8 33) 3 0))
      ≡ cart_tells 99 (reply.Line 3) ∷ []
  pub line_after_remove_of_another :
      cart_makes (has_lines 32
      ++ makes (asks_cart 98 (ask.Remove 7 (a_key 8 17))) (cart_tells 98 reply.Removed ∷ []) ∷ [])
      (asks_cart 99 (ask.Line 7 (a_key 8 33) 3 0))
      ≡ cart_tells 99 (reply.Line 3) ∷ []

pub record CartExamples : Type 0 where
  pub view : ViewExamples
  pub line : LineExamples
  pub remove : RemoveExamples
  pub checkout : CheckoutExamples
  pub ends : EndExamples
  pub full : FullExamples
