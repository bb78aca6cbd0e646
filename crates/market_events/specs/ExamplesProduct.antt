-- What the product service answers, case by case.
use Rattle.std.specs.Prelude.{◌≡◌, ℕ, List, [], ◌∷◌}
use Rattle.market_events.specs.declared.bodies.Body.TheVariants as body
use Rattle.market_events.specs.declared.changes.Change.{Change}
use Rattle.market_events.specs.declared.changes.Change.TheVariants as change
use Rattle.market_events.specs.declared.links.TheConstants.{PRODUCT_TO_CART, PRODUCT_TO_STOCK}
use Rattle.market_events.specs.declared.replies.Reply.{Reply}
use Rattle.market_events.specs.declared.replies.Reply.TheVariants as reply
use Rattle.market_events.specs.declared.replies.Rule.{Rule}
use Rattle.market_events.specs.declared.replies.Rule.TheVariants as rule
use Rattle.market_events.specs.declared.requests.Ask.{Ask}
use Rattle.market_events.specs.declared.requests.Ask.TheVariants as ask
use Rattle.market_events.specs.Examples.{an_id, request, answer, refusal, makes, mug, cup, mug_change}
use Rattle.market_events.specs.Examples.{asked_by_20, told_to_20}
use Rattle.market_events.specs.Links.{product_node}
use Rattle.market_events.specs.Services.{Role, answers}
use Rattle.market_events.specs.Steps.{Step, Sending}

abbrev pub product_makes : List Step → Sending → List Sending
product_makes steps taken = answers Role.Product steps taken.0 taken.1

-- the request of caller 7 with this number for this service, and what the caller is told of it
abbrev pub asks_product : ℕ → Ask → Sending
asks_product = request product_node

abbrev pub product_tells : ℕ → Reply → Sending
product_tells = answer product_node

abbrev pub product_refuses : ℕ → Rule → Sending
product_refuses = refusal product_node

-- this change of the mug to stock, then to the cart, and then the reply
abbrev pub mug_changes : ℕ → ℕ → Change → Reply → List Sending
mug_changes number version change reply =
    (PRODUCT_TO_STOCK, body.Changed mug version change) ∷ (PRODUCT_TO_CART, body.Changed mug version change)
    ∷ product_tells number reply ∷ []

-- the mug is created, gets another price, and is deleted after its creation
abbrev pub mug_created : Step
mug_created =
    makes (asks_product 1 (ask.Create mug 1000 50))
    (mug_changes 1 1 (change.Created 1000 50) (reply.Created 1))

abbrev pub mug_priced : Step
mug_priced =
    makes (asks_product 2 (ask.Price mug 1200)) (mug_changes 2 2 (change.Priced 1200) (reply.Priced 2))

abbrev pub mug_deleted : Step
mug_deleted = makes (asks_product 2 (ask.Delete mug)) (mug_changes 2 2 change.Deleted (reply.Deleted 2))

-- a second creation of the mug is refused
abbrev pub mug_refused : Step
mug_refused = makes (asks_product 2 (ask.Create mug 900 40)) (product_refuses 2 rule.Exists ∷ [])

pub record ProductExamples : Type 0 where
  -- create
  pub create_of_unknown : product_makes [] (asks_product 1 (ask.Create mug 1000 50))
      ≡ mug_changes 1 1 (change.Created 1000 50) (reply.Created 1)
  pub create_of_live : product_makes (mug_created ∷ []) (asks_product 2 (ask.Create mug 900 40))
      ≡ product_refuses 2 rule.Exists ∷ []
  pub create_after_delete_is_version_3 :
      product_makes (mug_created ∷ mug_deleted ∷ []) (asks_product 3 (ask.Create mug 900 40))
      ≡ mug_changes 3 3 (change.Created 900 40) (reply.Created 3)
  pub create_of_other_is_version_1 :
      product_makes (mug_created ∷ mug_priced ∷ []) (asks_product 3 (ask.Create cup 30 50))
      ≡ (PRODUCT_TO_STOCK, body.Changed cup 1 (change.Created 30 50))
      ∷ (PRODUCT_TO_CART, body.Changed cup 1 (change.Created 30 50))
      ∷ product_tells 3 (reply.Created 1) ∷ []
  -- price
  pub price_of_unknown : product_makes [] (asks_product 1 (ask.Price mug 1200))
      ≡ product_refuses 1 rule.Unknown ∷ []
  pub price_of_gone : product_makes (mug_created ∷ mug_deleted ∷ []) (asks_product 3 (ask.Price mug 1200))
      ≡ product_refuses 3 rule.Gone ∷ []
  pub price_of_live :
      product_makes (mug_created ∷ []) (asks_product 2 (ask.Price mug 1200))
      ≡ mug_changes 2 2 (change.Priced 1200) (reply.Priced 2)
  pub price_after_price_is_version_3 :
      product_makes (mug_created ∷ mug_priced ∷ []) (asks_product 3 (ask.Price mug 1300))
      ≡ mug_changes 3 3 (change.Priced 1300) (reply.Priced 3)
  pub price_after_refusal_is_version_2 :
      product_makes (mug_created ∷ mug_refused ∷ []) (asks_product 3 (ask.Price mug 1200))
      ≡ mug_changes 3 2 (change.Priced 1200) (reply.Priced 2)
  -- delete
  pub delete_of_unknown : product_makes [] (asks_product 1 (ask.Delete mug))
      ≡ product_refuses 1 rule.Unknown ∷ []
  pub delete_of_other : product_makes (mug_created ∷ []) (asks_product 2 (ask.Delete cup))
      ≡ product_refuses 2 rule.Unknown ∷ []
  pub delete_of_gone : product_makes (mug_created ∷ mug_deleted ∷ []) (asks_product 3 (ask.Delete mug))
      ≡ product_refuses 3 rule.Gone ∷ []
  pub delete_of_live : product_makes (mug_created ∷ []) (asks_product 2 (ask.Delete mug))
      ≡ mug_changes 2 2 change.Deleted (reply.Deleted 2)
  pub delete_after_price_is_version_3 :
      product_makes (mug_created ∷ mug_priced ∷ []) (asks_product 3 (ask.Delete mug))
      ≡ mug_changes 3 3 change.Deleted (reply.Deleted 3)
  -- caller 20 is told on its own lane; another event is answered by nothing
  pub caller_20_is_told_on_its_lane :
      product_makes []
      (asked_by_20 product_node, body.Asked (record { id = an_id 20 1; ask = ask.Delete mug }))
      ≡ (told_to_20 product_node, body.Told (an_id 20 1) (reply.Refused rule.Unknown)) ∷ []
  pub change_is_nothing : product_makes [] (PRODUCT_TO_STOCK, mug_change) ≡ []
