-- Values for the worked examples.
use Rattle.std.specs.Prelude.{ℕ, List}
use Rattle.market_amounts.specs.declared.keys.ProductKey.{ProductKey}
use Rattle.market_amounts.specs.declared.keys.RequestId.{RequestId}
use Rattle.market_events.specs.declared.bodies.Body.{Body}
use Rattle.market_events.specs.declared.bodies.Body.TheVariants as body
use Rattle.market_events.specs.declared.changes.Change.TheVariants.{Created}
use Rattle.market_events.specs.declared.events.Entry.{Entry}
use Rattle.market_events.specs.declared.events.Event.{Event}
use Rattle.market_events.specs.declared.events.What.TheVariants.{Given, Taken, Made, Answered}
use Rattle.market_events.specs.declared.links.Link.{Link}
use Rattle.market_events.specs.declared.replies.Reply.{Reply}
use Rattle.market_events.specs.declared.requests.Ask.{Ask}
use Rattle.market_events.specs.declared.requests.Ask.TheVariants as ask
use Rattle.market_events.specs.declared.requests.Request.{Request}
use Rattle.market_events.specs.Links.{lane_node}
use Rattle.market_events.specs.Requests.{lane_of}
use Rattle.market_history.specs.declared.schedule.Step.{Step}
use Rattle.market_history.specs.declared.schedule.Step.TheVariants as step

-- product 10 of seller 5
abbrev pub mug : ProductKey
mug = record { seller = 5; product = 10 }

-- requests of caller 7
abbrev pub id : ℕ → RequestId
id number = record { caller = 7; number = number }

abbrev pub request : ℕ → Ask → Request
request number ask = record { id = id number; ask = ask }

-- the lane of this caller, and its node
abbrev pub caller_lane : ℕ
caller_lane = lane_of (id 1)

abbrev pub caller_node : ℕ
caller_node = lane_node caller_lane

-- given to this lane, and offered
abbrev pub give : ℕ → Ask → Step
give number ask = step.Give (request number ask)

abbrev pub offer : Link → ℕ → Step
offer link number = step.Offer link number

abbrev pub event : Link → ℕ → ℕ → List ℕ → Body → Event
event link number clock past b = record { link = link; number = number; clock = clock; past = past; body = b }

-- entries with their clocks
abbrev pub given : ℕ → Request → Entry
given clock r = record { clock = clock; what = Given r }

abbrev pub taken : ℕ → Event → Entry
taken clock e = record { clock = clock; what = Taken e }

abbrev pub made : Event → Entry
made e = record { clock = e.clock; what = Made e }

abbrev pub answered : ℕ → RequestId → Reply → Entry
answered clock i r = record { clock = clock; what = Answered i r }

-- the product is created with price 1000 and freight 50
abbrev pub create : Ask
create = ask.Create mug 1000 50

abbrev pub created : Body
created = body.Changed mug 1 (Created 1000 50)
