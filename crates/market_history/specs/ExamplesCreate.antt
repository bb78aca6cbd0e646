-- The histories after one request to create a product.
use Rattle.std.specs.Prelude.{◌≡◌, ℕ, List, [], ◌∷◌, replicate}
use Rattle.market_events.specs.declared.bodies.Body.TheVariants as body
use Rattle.market_events.specs.declared.events.Event.{Event}
use Rattle.market_events.specs.declared.events.Offer.TheVariants as offers
use Rattle.market_events.specs.declared.links.TheConstants.{PRODUCT_TO_CART, PRODUCT_TO_STOCK}
use Rattle.market_events.specs.declared.replies.Reply.TheVariants as reply
use Rattle.market_events.specs.Examples.{asked_by_7, told_to_7}
use Rattle.market_events.specs.Links.{product_node}
use Rattle.market_history.specs.declared.schedule.Give.TheVariants as gives
use Rattle.market_history.specs.declared.schedule.Outcome.TheVariants as outcome
use Rattle.market_history.specs.declared.schedule.Step.{Step}
use Rattle.market_history.specs.Examples.{id, request, give, offer, event, given, taken, made, answered}
use Rattle.market_history.specs.Examples.{create, created}
use Rattle.market_history.specs.Histories.{Histories, no_histories}
use Rattle.market_history.specs.Schedule.{outcomes, play, merged}

-- counts of the first two service links, and 0 for the others
abbrev pub past : ℕ → ℕ → List ℕ
past zeroth first = zeroth ∷ first ∷ replicate 14 0

-- the lane of caller 7 asks the product service
abbrev pub asked : Event
asked = event (asked_by_7 product_node) 1 2 (past 0 0) (body.Asked (request 1 create))

-- the product service tells stock first, then the cart, then the lane
abbrev pub to_stock : Event
to_stock = event PRODUCT_TO_STOCK 1 4 (past 0 0) created

abbrev pub to_cart : Event
to_cart = event PRODUCT_TO_CART 1 5 (past 0 1) created

abbrev pub to_lane : Event
to_lane = event (told_to_7 product_node) 1 6 (past 1 1) (body.Told (id 1) (reply.Created 1))

-- cart, product service, stock and the lane have entries
abbrev pub after_create : Histories
after_create =
    (taken 6 to_cart ∷ [])
    ∷ (taken 3 asked ∷ made to_stock ∷ made to_cart ∷ made to_lane ∷ [])
    ∷ (taken 5 to_stock ∷ [])
    ∷ [] ∷ [] ∷ [] ∷ [] ∷ [] ∷ [] ∷ [] ∷ [] ∷ [] ∷ [] ∷ [] ∷ []
    ∷ (given 1 (request 1 create) ∷ made asked ∷ taken 7 to_lane ∷ answered 8 (id 1) (reply.Created 1) ∷ [])
    ∷ [] ∷ [] ∷ [] ∷ [] ∷ [] ∷ [] ∷ [] ∷ [] ∷ []

abbrev pub create_steps : List Step
create_steps = give 1 create ∷ offer (asked_by_7 product_node) 1 ∷ offer PRODUCT_TO_STOCK 1
    ∷ offer PRODUCT_TO_CART 1
    ∷ offer (told_to_7 product_node) 1 ∷ []

pub record CreateExamples : Type 0 where
  -- the steps leave these histories
  pub left : play no_histories create_steps ≡ after_create
  pub outcomes : outcomes no_histories create_steps
      ≡ outcome.Gave gives.Asked ∷ outcome.Offered offers.Take ∷ outcome.Offered offers.Take
      ∷ outcome.Offered offers.Take ∷ outcome.Offered offers.Take ∷ []
  -- the schedule that they came by, and the histories that it leaves
  pub schedule : merged after_create ≡ create_steps
  pub replayed : play no_histories (merged after_create) ≡ after_create
