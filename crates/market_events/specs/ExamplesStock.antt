-- What stock answers, case by case.
use Rattle.std.specs.Prelude.{◌≡◌, ℕ, List, [], ◌∷◌, ◌++◌}
use Rattle.market_amounts.specs.declared.keys.ProductKey.{ProductKey}
use Rattle.market_events.specs.declared.bodies.Body.TheVariants as body
use Rattle.market_events.specs.declared.bodies.PayRule.TheVariants as pay
use Rattle.market_events.specs.declared.bodies.PricedLine.{PricedLine}
use Rattle.market_events.specs.declared.bodies.StockRule.{StockRule}
use Rattle.market_events.specs.declared.bodies.StockRule.TheVariants as stock
use Rattle.market_events.specs.declared.changes.Change.{Change}
use Rattle.market_events.specs.declared.changes.Change.TheVariants as change
use Rattle.market_events.specs.declared.links.TheConstants.{PRODUCT_TO_STOCK, CART_TO_STOCK, STOCK_TO_CART}
use Rattle.market_events.specs.declared.links.TheConstants.{STOCK_TO_ORDER, PAYMENT_TO_STOCK}
use Rattle.market_events.specs.declared.replies.Reply.{Reply}
use Rattle.market_events.specs.declared.replies.Reply.TheVariants as reply
use Rattle.market_events.specs.declared.replies.Rule.{Rule}
use Rattle.market_events.specs.declared.replies.Rule.TheVariants as rule
use Rattle.market_events.specs.declared.requests.Ask.{Ask}
use Rattle.market_events.specs.declared.requests.Ask.TheVariants as ask
use Rattle.market_events.specs.Examples.{an_id, a_line, request, answer, refusal, makes, quiet, mug, cup, pot}
use Rattle.market_events.specs.Examples.{basket, mug_change, mug_reserve, mug_reserved, mug_paid}
use Rattle.market_events.specs.Links.{stock_node}
use Rattle.market_events.specs.Services.{Role, answers}
use Rattle.market_events.specs.Steps.{Step, Sending}

abbrev pub stock_makes : List Step → Sending → List Sending
stock_makes steps taken = answers Role.Stock steps taken.0 taken.1

-- the request of caller 7 with this number for this service, and what the caller is told of it
abbrev pub asks_stock : ℕ → Ask → Sending
asks_stock = request stock_node

abbrev pub stock_tells : ℕ → Reply → Sending
stock_tells = answer stock_node

abbrev pub stock_refuses : ℕ → Rule → Sending
stock_refuses = refusal stock_node

-- the change comes from the product service
abbrev pub hears : ProductKey → ℕ → Change → Step
hears key version change = quiet (PRODUCT_TO_STOCK, body.Changed key version change)

abbrev pub hears_mug : Step
hears_mug = quiet (PRODUCT_TO_STOCK, mug_change)

-- request with this number stocks pieces, of which there were none
abbrev pub stocks : ℕ → ProductKey → ℕ → Step
stocks number key pieces =
    makes (asks_stock number (ask.Stock key pieces)) (stock_tells number (reply.Stocked pieces) ∷ [])

-- there are three mugs, of which two are reserved, and then paid or set free
abbrev pub three_mugs : List Step
three_mugs = hears_mug ∷ stocks 2 mug 3 ∷ []

abbrev pub two_reserved : List Step
two_reserved = three_mugs ++ makes (CART_TO_STOCK, mug_reserve) ((STOCK_TO_ORDER, mug_reserved) ∷ []) ∷ []

abbrev pub two_paid : List Step
two_paid = two_reserved ++ quiet (PAYMENT_TO_STOCK, mug_paid) ∷ []

abbrev pub two_set_free : List Step
two_set_free = two_reserved ++ quiet (PAYMENT_TO_STOCK, body.Failed basket 7 pay.NoCard) ∷ []

-- three mugs and one cup, and the pot is gone of which there were five
abbrev pub three_products : List Step
three_products =
    three_mugs ++ hears cup 1 (change.Created 30 60) ∷ stocks 3 cup 1 ∷ hears pot 1 (change.Created 30 60)
    ∷ stocks 4 pot 5
    ∷ hears pot 2 change.Deleted ∷ []

-- nearly as many pieces as there can be
abbrev pub nearly_full : List Step
nearly_full = hears_mug ∷ stocks 2 mug 999999999 ∷ []

-- checkout 9 of customer 7 asks for these lines
abbrev pub reserve : List PricedLine → Sending
reserve lines = (CART_TO_STOCK, body.Reserve (an_id 7 9) 7 lines)

abbrev pub reserved : List PricedLine → List Sending
reserved lines = (STOCK_TO_ORDER, body.StockConfirmed (an_id 7 9) 7 lines) ∷ []

abbrev pub failed : ProductKey → StockRule → List Sending
failed key rule = (STOCK_TO_CART, body.ReserveFailed (an_id 7 9) key rule) ∷ []

-- a line of so many mugs, cups or pots
abbrev pub mugs : ℕ → PricedLine
mugs n = a_line mug n 1000 50 0

abbrev pub cups : ℕ → PricedLine
cups n = a_line cup n 30 60 0

abbrev pub pots : ℕ → PricedLine
pots n = a_line pot n 30 60 0

pub record StockedExamples : Type 0 where
  pub stock_of_unknown : stock_makes [] (asks_stock 9 (ask.Stock mug 3)) ≡ stock_refuses 9 rule.Unknown ∷ []
  pub stock_of_gone : stock_makes three_products (asks_stock 9 (ask.Stock pot 3))
      ≡ stock_refuses 9 rule.Gone ∷ []
  pub stock_of_live : stock_makes (hears_mug ∷ []) (asks_stock 9 (ask.Stock mug 3))
      ≡ stock_tells 9 (reply.Stocked 3) ∷ []
  pub stock_again : stock_makes three_mugs (asks_stock 9 (ask.Stock mug 4))
      ≡ stock_tells 9 (reply.Stocked 7) ∷ []
  pub stock_beside_reserved : stock_makes two_reserved (asks_stock 9 (ask.Stock mug 4))
      ≡ stock_tells 9 (reply.Stocked 7) ∷ []
  pub stock_after_payment : stock_makes two_paid (asks_stock 9 (ask.Stock mug 4))
      ≡ stock_tells 9 (reply.Stocked 5) ∷ []
  pub stock_up_to_the_most : stock_makes nearly_full (asks_stock 9 (ask.Stock mug 1))
      ≡ stock_tells 9 (reply.Stocked 1000000000) ∷ []
  pub stock_over_the_most : stock_makes nearly_full (asks_stock 9 (ask.Stock mug 2))
      ≡ stock_refuses 9 rule.StockOver ∷ []

pub record LevelExamples : Type 0 where
  pub level_of_unknown : stock_makes three_mugs (asks_stock 9 (ask.Level cup))
      ≡ stock_refuses 9 rule.Unknown ∷ []
  pub level_of_none : stock_makes (hears_mug ∷ []) (asks_stock 9 (ask.Level mug))
      ≡ stock_tells 9 (reply.Level 0 0) ∷ []
  pub level_of_three : stock_makes three_mugs (asks_stock 9 (ask.Level mug))
      ≡ stock_tells 9 (reply.Level 3 0) ∷ []
  pub level_of_gone : stock_makes three_products (asks_stock 9 (ask.Level pot))
      ≡ stock_tells 9 (reply.Level 5 0) ∷ []
  pub level_of_reserved : stock_makes two_reserved (asks_stock 9 (ask.Level mug))
      ≡ stock_tells 9 (reply.Level 3 2) ∷ []
  pub level_after_payment : stock_makes two_paid (asks_stock 9 (ask.Level mug))
      ≡ stock_tells 9 (reply.Level 1 0) ∷ []
  pub level_after_failure : stock_makes two_set_free (asks_stock 9 (ask.Level mug))
      ≡ stock_tells 9 (reply.Level 3 0) ∷ []
  pub level_after_refusal :
      stock_makes (nearly_full ++ makes (asks_stock 8 (ask.Stock mug 2)) (stock_refuses 8 rule.StockOver ∷ [])
      ∷ []) (asks_stock 9 (ask.Level mug))
      ≡ stock_tells 9 (reply.Level 999999999 0) ∷ []

pub record ReserveExamples : Type 0 where
  pub reserve_of_base : stock_makes three_mugs (CART_TO_STOCK, mug_reserve)
      ≡ (STOCK_TO_ORDER, mug_reserved) ∷ []
  pub reserve_of_all : stock_makes three_mugs (reserve (mugs 3 ∷ [])) ≡ reserved (mugs 3 ∷ [])
  pub reserve_of_too_many : stock_makes three_mugs (reserve (mugs 4 ∷ [])) ≡ failed mug stock.Short
  pub reserve_of_gone : stock_makes three_products (reserve (pots 2 ∷ [])) ≡ failed pot stock.Gone
  pub reserve_of_too_many_of_gone : stock_makes three_products (reserve (pots 6 ∷ [])) ≡ failed pot stock.Gone
  pub reserve_of_two_lines : stock_makes three_products (reserve (mugs 1 ∷ cups 1 ∷ []))
      ≡ reserved (mugs 1 ∷ cups 1 ∷ [])
  pub reserve_with_one_refused : stock_makes three_products (reserve (mugs 3 ∷ cups 2 ∷ []))
      ≡ failed cup stock.Short
  pub least_of_two_refused_is_named : stock_makes three_products (reserve (mugs 3 ∷ cups 2 ∷ pots 1 ∷ []))
      ≡ failed cup stock.Short
  pub least_of_three_refused_is_named : stock_makes three_products (reserve (mugs 4 ∷ cups 2 ∷ pots 1 ∷ []))
      ≡ failed mug stock.Short
  pub least_refused_is_gone :
      stock_makes (three_products ++ hears mug 2 change.Deleted ∷ []) (reserve (mugs 3 ∷ cups 2 ∷ []))
      ≡ failed mug stock.Gone
  pub reserve_of_the_rest : stock_makes two_reserved (reserve (mugs 1 ∷ [])) ≡ reserved (mugs 1 ∷ [])
  pub reserve_of_more_than_the_rest : stock_makes two_reserved (reserve (mugs 2 ∷ []))
      ≡ failed mug stock.Short
  pub reserve_after_payment : stock_makes two_paid (reserve (mugs 1 ∷ [])) ≡ reserved (mugs 1 ∷ [])
  pub reserve_of_what_is_paid : stock_makes two_paid (reserve (mugs 2 ∷ [])) ≡ failed mug stock.Short
  pub reserve_after_failure : stock_makes two_set_free (reserve (mugs 3 ∷ [])) ≡ reserved (mugs 3 ∷ [])

pub record QuietExamples : Type 0 where
  pub change_is_nothing : stock_makes [] (PRODUCT_TO_STOCK, mug_change) ≡ []
  pub payment_is_nothing : stock_makes two_reserved (PAYMENT_TO_STOCK, mug_paid) ≡ []
  pub failure_is_nothing : stock_makes two_reserved (PAYMENT_TO_STOCK, body.Failed basket 7 pay.NoCard) ≡ []

pub record StockExamples : Type 0 where
  pub stocking : StockedExamples
  pub level : LevelExamples
  pub reserving : ReserveExamples
  pub other : QuietExamples
