-- A schedule in which events are offered before what they rest on was taken.
use Rattle.std.specs.Prelude.{◌≡◌, List, [], ◌∷◌, Some}
use Rattle.market_events.specs.declared.events.Offer.TheVariants.{Take, Old, NotReady}
use Rattle.market_events.specs.declared.links.TheConstants.{PRODUCT_TO_CART, PRODUCT_TO_STOCK, CART_TO_STOCK}
use Rattle.market_events.specs.declared.links.TheConstants.{STOCK_TO_CART}
use Rattle.market_events.specs.declared.replies.Reply.TheVariants as reply
use Rattle.market_events.specs.declared.replies.UndoneRule.TheVariants as undone
use Rattle.market_events.specs.declared.requests.Ask.TheVariants as ask
use Rattle.market_events.specs.Examples.{asked_by_7, told_to_7}
use Rattle.market_events.specs.Links.{cart_node, product_node}
use Rattle.market_history.specs.declared.schedule.Give.TheVariants as gives
use Rattle.market_history.specs.declared.schedule.Outcome.{Outcome}
use Rattle.market_history.specs.declared.schedule.Outcome.TheVariants.{Gave, Offered, NeverMade}
use Rattle.market_history.specs.declared.schedule.Step.{Step}
use Rattle.market_history.specs.Examples.{mug, id, give, offer, create}
use Rattle.market_history.specs.Histories.{Histories, no_histories}
use Rattle.market_history.specs.Once.{reply_at}
use Rattle.market_history.specs.Schedule.{outcomes, play}

abbrev pub causal_steps : List Step
causal_steps =
    -- the product is created, and a line of it asked for before the cart took the change
    give 1 create ∷ offer (asked_by_7 product_node) 1 ∷ offer (told_to_7 product_node) 1
    ∷ give 2 (ask.Line 7 mug 1 0)
    ∷ offer (asked_by_7 cart_node) 1
    -- once it took the change, it takes the line
    ∷ offer PRODUCT_TO_CART 1 ∷ offer (asked_by_7 cart_node) 1 ∷ offer (told_to_7 cart_node) 1
    ∷ give 3 (ask.Checkout 7)
    ∷ offer (asked_by_7 cart_node) 2
    -- stock takes the checkout's lines once it took the change, and once only
    ∷ offer CART_TO_STOCK 1
    ∷ offer PRODUCT_TO_STOCK 1 ∷ offer CART_TO_STOCK 1 ∷ offer CART_TO_STOCK 1
    ∷ offer CART_TO_STOCK 2
    -- there are no pieces
    ∷ offer STOCK_TO_CART 1 ∷ offer (told_to_7 cart_node) 2 ∷ []

abbrev pub causal_outcomes : List Outcome
causal_outcomes =
    Gave gives.Asked ∷ Offered Take ∷ Offered Take ∷ Gave gives.Asked
    ∷ Offered NotReady
    ∷ Offered Take ∷ Offered Take ∷ Offered Take ∷ Gave gives.Asked
    ∷ Offered Take
    ∷ Offered NotReady
    ∷ Offered Take ∷ Offered Take ∷ Offered Old
    ∷ NeverMade
    ∷ Offered Take ∷ Offered Take ∷ []

abbrev pub after_causal : Histories
after_causal = play no_histories causal_steps

pub record CausalExamples : Type 0 where
  pub outcomes : outcomes no_histories causal_steps ≡ causal_outcomes
  pub reply : reply_at after_causal (id 3) ≡ Some (reply.Undone (undone.Short mug))
