-- Shipments: what they answer, by the packages of paid checkouts and the deliveries that were made.
use Rattle.std.specs.Prelude.{ℕ, Bool, ◌==◌, ◌&&◌, not, List, [], ◌∷◌, ◌++◌, length, map}
use Rattle.std.specs.Prelude.{filter, take, if◌then◌else◌}
use Rattle.std.specs.List.{list_any, flat_map}
use Rattle.market_amounts.specs.declared.keys.RequestId.{RequestId}
use Rattle.market_events.specs.declared.bodies.Body.{Body}
use Rattle.market_events.specs.declared.bodies.Body.TheVariants as body
use Rattle.market_events.specs.declared.bodies.Item.{Item}
use Rattle.market_events.specs.declared.bodies.PricedLine.{PricedLine}
use Rattle.market_events.specs.declared.links.TheConstants.{SHIPMENT_TO_ORDER, SHIPMENT_TO_SELLER}
use Rattle.market_events.specs.declared.links.TheConstants.{SHIPMENT_TO_CUSTOMER}
use Rattle.market_events.specs.declared.replies.Reply.TheVariants as reply
use Rattle.market_events.specs.declared.requests.Ask.{Ask}
use Rattle.market_events.specs.declared.requests.Ask.TheVariants as ask
use Rattle.market_events.specs.Links.{shipment_node}
use Rattle.market_events.specs.Orders.{items_in, is_item_of}
use Rattle.market_events.specs.Requests.{same_id}
use Rattle.market_events.specs.Steps.{Step, Sending, taken_bodies, made_on, told}

-- the packages of a paid checkout, one for each line
abbrev pub packages_in : Body → List Item
packages_in (body.Confirmed checkout customer lines total) =
    map (λ (line : PricedLine). record { checkout = checkout; customer = customer; key = line.key }) lines
packages_in other = []

-- all packages, in the order of their numbers, which count from 1
abbrev pub packages : List Step → List Item
packages steps = flat_map packages_in (taken_bodies steps)

-- the items of the deliveries, which customers are told of
abbrev pub items_made : List Step → List Item
items_made steps = flat_map items_in (made_on SHIPMENT_TO_CUSTOMER steps)

-- no delivery has the package
abbrev pub is_open : List Step → Item → Bool
is_open steps p = not (list_any (is_item_of p.checkout p.key) (items_made steps))

-- the open packages by number
abbrev pub open_packages : List Step → List Item
open_packages steps = filter (is_open steps) (packages steps)

-- the first package of each seller, where front stands before them
abbrev pub firsts_after : List Item → List Item → List Item
firsts_after front [] = []
firsts_after front (p ∷ ps) =
    if list_any (λ (q : Item). q.key.seller == p.key.seller) front then firsts_after (front ++ p ∷ []) ps
    else p ∷ firsts_after (front ++ p ∷ []) ps

-- how many sellers a delivery serves at most
abbrev pub most_sellers : ℕ
most_sellers = 10

-- the oldest open package of each of the first ten sellers
abbrev pub oldest_of : List Item → List Item
oldest_of waiting = take most_sellers (firsts_after [] waiting)

-- the open packages with the seller and the checkout of one of these
abbrev pub delivered_of : List Item → List Item
delivered_of waiting =
    filter (λ (p : Item). list_any (λ (o : Item). (o.key.seller == p.key.seller)
    && same_id o.checkout p.checkout) (oldest_of waiting)) waiting

-- the packages that are open, by number
pub record ShipmentSums : Type 0 where
  pub waiting : List Item

abbrev pub shipment_sums : List Step → ShipmentSums
shipment_sums steps = record { waiting = open_packages steps }

abbrev pub deliver_rows : RequestId → List Item → ℕ → List Sending
deliver_rows id [] sellers = told shipment_node id (reply.Delivered 0 0) ∷ []
deliver_rows id (i ∷ more) sellers =
    (SHIPMENT_TO_CUSTOMER, body.Delivered (i ∷ more)) ∷ (SHIPMENT_TO_SELLER, body.Delivered (i ∷ more))
    ∷ (SHIPMENT_TO_ORDER, body.Delivered (i ∷ more))
    ∷ told shipment_node id (reply.Delivered sellers (length (i ∷ more))) ∷ []

abbrev pub shipment_asked : ShipmentSums → RequestId → Ask → List Sending
shipment_asked s id ask.Deliver = deliver_rows id (delivered_of s.waiting) (length (oldest_of s.waiting))
shipment_asked s id other = []

abbrev pub shipment_rows : ShipmentSums → Body → List Sending
shipment_rows s (body.Asked request) = shipment_asked s request.id request.ask
shipment_rows s (body.Confirmed checkout customer lines total) =
    (SHIPMENT_TO_SELLER, body.Shipped checkout) ∷ (SHIPMENT_TO_ORDER, body.Shipped checkout) ∷ []
shipment_rows s other = []
