-- The product service: what it answers, by the changes that it made.
use Rattle.std.specs.Prelude.{ℕ, ◌+◌, List, [], ◌∷◌, Option, Some, None, filter_map}
use Rattle.market_amounts.specs.declared.keys.ProductKey.{ProductKey}
use Rattle.market_amounts.specs.declared.keys.RequestId.{RequestId}
use Rattle.market_events.specs.declared.bodies.Body.{Body}
use Rattle.market_events.specs.declared.bodies.Body.TheVariants as body
use Rattle.market_events.specs.declared.changes.Change.{Change}
use Rattle.market_events.specs.declared.changes.Change.TheVariants as change
use Rattle.market_events.specs.declared.changes.Look.{Look}
use Rattle.market_events.specs.declared.changes.Look.TheVariants.{Unknown, Gone, Live}
use Rattle.market_events.specs.declared.links.TheConstants.{PRODUCT_TO_CART, PRODUCT_TO_STOCK}
use Rattle.market_events.specs.declared.replies.Reply.{Reply}
use Rattle.market_events.specs.declared.replies.Reply.TheVariants as reply
use Rattle.market_events.specs.declared.replies.Rule.TheVariants as rule
use Rattle.market_events.specs.declared.requests.Ask.{Ask}
use Rattle.market_events.specs.declared.requests.Ask.TheVariants as ask
use Rattle.market_events.specs.Copies.{ProductChange, copy_of, version_of}
use Rattle.market_events.specs.Links.{product_node}
use Rattle.market_events.specs.Steps.{Step, Sending, made_on, told, refused}

-- the change that a body tells
abbrev pub change_in : Body → Option ProductChange
change_in (body.Changed key version change) = Some (record { key = key; version = version; change = change })
change_in other = None

-- the changes that were made, for stock
abbrev pub changes_made : List Step → List ProductChange
changes_made steps = filter_map change_in (made_on PRODUCT_TO_STOCK steps)

-- what it shows of a product, and how many changes that had
pub record ProductSums : Type 0 where
  pub look : ProductKey → Look
  pub version : ProductKey → ℕ

abbrev pub product_sums : List Step → ProductSums
product_sums steps = record { look = copy_of (changes_made steps); version = version_of (changes_made steps) }

-- the change to stock and to the cart, and the reply to the lane
abbrev pub changed : RequestId → ProductKey → ℕ → Change → Reply → List Sending
changed id key version change reply =
    (PRODUCT_TO_STOCK, body.Changed key version change) ∷ (PRODUCT_TO_CART, body.Changed key version change)
    ∷ told product_node id reply ∷ []

-- create: refused where the product is live
abbrev pub create_rows : RequestId → ProductKey → Change → Look → ℕ → List Sending
create_rows id key change (Live v price freight) version = refused product_node id rule.Exists
create_rows id key change other version = changed id key (version + 1) change (reply.Created (version + 1))

-- price and delete: refused where it is unknown or gone
abbrev pub price_rows : RequestId → ProductKey → Change → Look → ℕ → List Sending
price_rows id key change Unknown version = refused product_node id rule.Unknown
price_rows id key change (Gone v) version = refused product_node id rule.Gone
price_rows id key change (Live v price freight) version =
    changed id key (version + 1) change (reply.Priced (version + 1))

abbrev pub delete_rows : RequestId → ProductKey → Look → ℕ → List Sending
delete_rows id key Unknown version = refused product_node id rule.Unknown
delete_rows id key (Gone v) version = refused product_node id rule.Gone
delete_rows id key (Live v price freight) version =
    changed id key (version + 1) change.Deleted (reply.Deleted (version + 1))

abbrev pub product_asked : ProductSums → RequestId → Ask → List Sending
product_asked s id (ask.Create key price freight) =
    create_rows id key (change.Created price freight) (s.look key) (s.version key)
product_asked s id (ask.Price key price) =
    price_rows id key (change.Priced price) (s.look key) (s.version key)
product_asked s id (ask.Delete key) = delete_rows id key (s.look key) (s.version key)
product_asked s id other = []

abbrev pub product_rows : ProductSums → Body → List Sending
product_rows s (body.Asked request) = product_asked s request.id request.ask
product_rows s other = []
