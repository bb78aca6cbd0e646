-- Changes that requests ask for: when they are refused, and what is told of them.
use Rattle.std.specs.Prelude.{ℕ, ◌+◌, List, Option, Some, None, filter_map}
use Rattle.std.specs.Option.{option_map}
use Rattle.market_amounts.specs.declared.keys.ProductKey.{ProductKey}
use Rattle.market_amounts.specs.declared.keys.RequestId.{RequestId}
use Rattle.market_events.specs.declared.bodies.Body.{Body}
use Rattle.market_events.specs.declared.bodies.Body.TheVariants as body
use Rattle.market_events.specs.declared.changes.Change.{Change}
use Rattle.market_events.specs.declared.changes.Change.TheVariants as change
use Rattle.market_events.specs.declared.changes.Look.{Look}
use Rattle.market_events.specs.declared.changes.Look.TheVariants.{Unknown, Gone, Live}
use Rattle.market_events.specs.declared.links.TheConstants.{PRODUCT_TO_STOCK}
use Rattle.market_events.specs.declared.replies.Reply.{Reply}
use Rattle.market_events.specs.declared.replies.Reply.TheVariants as reply
use Rattle.market_events.specs.declared.replies.Rule.{Rule}
use Rattle.market_events.specs.declared.replies.Rule.TheVariants as rule
use Rattle.market_events.specs.declared.requests.Ask.{Ask}
use Rattle.market_events.specs.declared.requests.Ask.TheVariants as ask
use Rattle.market_events.specs.Copies.{ProductChange}
use Rattle.market_events.specs.Links.{product_node}
use Rattle.market_events.specs.Products.{ProductSums, change_in, changed}
use Rattle.market_events.specs.Steps.{Sending, body_on, refused}

-- the product that a request asks to change, and the change
abbrev pub change_wanted : Ask → Option (ProductKey × Change)
change_wanted (ask.Create key price freight) = Some (key, change.Created price freight)
change_wanted (ask.Price key price) = Some (key, change.Priced price)
change_wanted (ask.Delete key) = Some (key, change.Deleted)
change_wanted other = None

-- the product that a body asks to change
abbrev pub key_wanted : Body → Option ProductKey
key_wanted (body.Asked request) =
    option_map (λ (wanted : ProductKey × Change). wanted.0) (change_wanted request.ask)
key_wanted other = None

-- why a price or a deletion of a product that shows this is refused
abbrev pub absence_of : Look → Option Rule
absence_of Unknown = Some rule.Unknown
absence_of (Gone v) = Some rule.Gone
absence_of (Live v price freight) = None

-- why a creation is
abbrev pub presence_of : Look → Option Rule
presence_of Unknown = None
presence_of (Gone v) = None
presence_of (Live v price freight) = Some rule.Exists

-- why a change of a product that shows this is refused
abbrev pub refusal_by : Look → Change → Option Rule
refusal_by look (change.Created price freight) = presence_of look
refusal_by look (change.Priced price) = absence_of look
refusal_by look change.Deleted = absence_of look

-- the reply to a change, with the version that it makes
abbrev pub reply_by : Change → ℕ → Reply
reply_by (change.Created price freight) version = reply.Created version
reply_by (change.Priced price) version = reply.Priced version
reply_by change.Deleted version = reply.Deleted version

-- what a change makes that is asked for: a refusal by this rule, or where there is none the next version
abbrev pub rows_unless : RequestId → ProductKey → Change → ℕ → Option Rule → List Sending
rows_unless id key c version None = changed id key (version + 1) c (reply_by c (version + 1))
rows_unless id key c version (Some rule) = refused product_node id rule

-- the same by the sums of products
abbrev pub rows_of : ProductSums → RequestId → ProductKey → Change → List Sending
rows_of s id key c = rows_unless id key c (s.version key) (refusal_by (s.look key) c)

-- the changes that are told to stock
abbrev pub changes_told : List Sending → List ProductChange
changes_told made = filter_map change_in (filter_map (body_on PRODUCT_TO_STOCK) made)
