-- What the examples speak of, and the base workload: what each service takes of it, in order, and what it
-- makes. Customer 7 of caller 7 buys two mugs of the three that are stocked, with a voucher, and pays by
-- card.
use Rattle.std.specs.Prelude.{ℕ, List, [], ◌∷◌}
use Rattle.market_amounts.specs.declared.keys.ProductKey.{ProductKey}
use Rattle.market_amounts.specs.declared.keys.RequestId.{RequestId}
use Rattle.market_events.specs.declared.bodies.Body.{Body}
use Rattle.market_events.specs.declared.bodies.Body.TheVariants as body
use Rattle.market_events.specs.declared.bodies.Ending.TheVariants as ending
use Rattle.market_events.specs.declared.bodies.Item.{Item}
use Rattle.market_events.specs.declared.bodies.PricedLine.{PricedLine}
use Rattle.market_events.specs.declared.changes.Change.TheVariants as change
use Rattle.market_events.specs.declared.links.Link.{Link}
use Rattle.market_events.specs.declared.links.Link.TheVariants.{Asked, Told}
use Rattle.market_events.specs.declared.replies.Reply.{Reply}
use Rattle.market_events.specs.declared.replies.Reply.TheVariants as reply
use Rattle.market_events.specs.declared.replies.Rule.{Rule}
use Rattle.market_events.specs.declared.requests.Ask.{Ask}
use Rattle.market_events.specs.Requests.{lane_of}
use Rattle.market_events.specs.Steps.{Step, Sending}

abbrev pub a_key : ℕ → ℕ → ProductKey
a_key seller product = record { seller = seller; product = product }

abbrev pub an_id : ℕ → ℕ → RequestId
an_id caller number = record { caller = caller; number = number }

-- product, quantity, price, freight and voucher
abbrev pub a_line : ProductKey → ℕ → ℕ → ℕ → ℕ → PricedLine
a_line key quantity price freight voucher =
    record { key = key; quantity = quantity; price = price; freight = freight; voucher = voucher }

-- a product that customer 7 had of a checkout
abbrev pub an_item : RequestId → ProductKey → Item
an_item checkout key = record { checkout = checkout; customer = 7; key = key }

-- the same, but that it names customer 8
abbrev pub strange_item : RequestId → ProductKey → Item
strange_item checkout key = record { checkout = checkout; customer = 8; key = key }

-- the lanes of callers 7 and 20
abbrev pub lane_of_7 : ℕ
lane_of_7 = lane_of (an_id 7 1)

abbrev pub lane_of_20 : ℕ
lane_of_20 = lane_of (an_id 20 1)

-- the links on which these lanes ask a service, and those on which they are told
abbrev pub asked_by_7 : ℕ → Link
asked_by_7 service = Asked lane_of_7 service

abbrev pub told_to_7 : ℕ → Link
told_to_7 service = Told service lane_of_7

abbrev pub asked_by_20 : ℕ → Link
asked_by_20 service = Asked lane_of_20 service

abbrev pub told_to_20 : ℕ → Link
told_to_20 service = Told service lane_of_20

-- the request of caller 7 with this number, on the link to the service with this node
abbrev pub request : ℕ → ℕ → Ask → Sending
request service number ask = (asked_by_7 service, body.Asked (record { id = an_id 7 number; ask = ask }))

-- what this service tells the lane of the request of caller 7 with this number
abbrev pub answer : ℕ → ℕ → Reply → Sending
answer service number reply = (told_to_7 service, body.Told (an_id 7 number) reply)

abbrev pub refusal : ℕ → ℕ → Rule → Sending
refusal service number rule = answer service number (reply.Refused rule)

-- a step that takes this and makes these, and one that makes nothing
abbrev pub makes : Sending → List Sending → Step
makes taken made = record { from = taken.0; body = taken.1; made = made }

abbrev pub quiet : Sending → Step
quiet taken = makes taken []

-- products of sellers 5 and 6
abbrev pub mug : ProductKey
mug = a_key 5 10

abbrev pub cup : ProductKey
cup = a_key 5 11

abbrev pub pot : ProductKey
pot = a_key 6 10

-- request 5 of caller 7 is the checkout
abbrev pub basket : RequestId
basket = an_id 7 5

abbrev pub mug_change : Body
mug_change = body.Changed mug 1 (change.Created 1000 50)

-- 2 times 1000, and 50, less 100: they cost 1950
abbrev pub mug_lines : List PricedLine
mug_lines = a_line mug 2 1000 50 100 ∷ []

abbrev pub mug_reserve : Body
mug_reserve = body.Reserve basket 7 mug_lines

abbrev pub mug_reserved : Body
mug_reserved = body.StockConfirmed basket 7 mug_lines

abbrev pub mug_invoice : Body
mug_invoice = body.Invoice basket 7 mug_lines 1950

abbrev pub mug_paid : Body
mug_paid = body.Confirmed basket 7 mug_lines 1950

abbrev pub mug_shipped : Body
mug_shipped = body.Shipped basket

abbrev pub mug_ended : Body
mug_ended = body.Ended basket (ending.Whole 1950)
