-- The tests of what may happen at a node.
use Rattle.std.specs.Prelude.{ℕ, Bool, true, false, ◌==◌, ◌&&◌, nat_le}
use Rattle.market_events.specs.declared.bodies.Body.{Body}
use Rattle.market_events.specs.declared.bodies.Body.TheVariants as body
use Rattle.market_events.specs.declared.events.Event.{Event}
use Rattle.market_events.specs.declared.events.What.{What}
use Rattle.market_events.specs.declared.events.What.TheVariants.{Given, Taken, Made, Answered}
use Rattle.market_events.specs.declared.links.Link.{Link}
use Rattle.market_events.specs.declared.links.Link.TheVariants as link
use Rattle.market_events.specs.declared.replies.Reply.{Reply}
use Rattle.market_events.specs.declared.replies.Reply.TheVariants as reply
use Rattle.market_events.specs.declared.replies.Rule.{Rule}
use Rattle.market_events.specs.declared.replies.Rule.TheVariants as rule
use Rattle.market_events.specs.declared.roles.TheConstants.{SERVICES}
use Rattle.market_events.specs.Carried.{carries}
use Rattle.market_events.specs.Links.{IsLink, lane_node, sender_of, receiver_of}
use Rattle.market_events.specs.Requests.{lane_of}

abbrev pub is_asked_by : ℕ → Body → Bool
is_asked_by lane (body.Asked request) = lane_of request.id == lane
is_asked_by lane other = true

-- a lane asks its own requests
abbrev pub asks_own : Link → Body → Bool
asks_own (link.Asked lane service) b = is_asked_by lane b
asks_own other b = true

-- a service refuses by the rule
abbrev pub is_of_service : Rule → Bool
is_of_service rule.LaneFull = false
is_of_service rule.RequestDiffers = false
is_of_service other = true

-- a lane can keep the reply
abbrev pub can_be_kept : Reply → Bool
can_be_kept (reply.Refused rule) = is_of_service rule
can_be_kept other = true

-- the link can carry the body, and a lane asks its own requests
abbrev pub is_sent_right : Event → Bool
is_sent_right event = carries event.link event.body && asks_own event.link event.body

-- the numbers of an event's link are in their ranges
abbrev pub HasLink : What → Type 0
HasLink (Given request) = Unit {0}
HasLink (Taken event) = IsLink event.link
HasLink (Made event) = IsLink event.link
HasLink (Answered id reply) = Unit {0}

-- it may happen at the node with this clock
abbrev pub happens : ℕ → ℕ → What → Bool
happens node clock (Given request) = lane_node (lane_of request.id) == node
happens node clock (Taken event) = is_sent_right event && (receiver_of event.link == node)
happens node clock (Made event) =
    is_sent_right event && (sender_of event.link == node) && (event.clock == clock)
happens node clock (Answered id reply) = nat_le SERVICES node && can_be_kept reply
