-- Blocks: what comes to a node, what it makes of it, and how a journal grows by one block.
use Rattle.std.specs.Prelude.{ℕ, ◌+◌, Option, Some, None, List, [], ◌∷◌, ◌++◌, map, length, nat_lt}
use Rattle.std.specs.Prelude.{fold, if◌then◌else◌, ◌==◌}
use Rattle.std.specs.List.{filter_map}
use Rattle.market_amounts.specs.declared.keys.RequestId.{RequestId}
use Rattle.market_events.specs.declared.bodies.Body.{Body}
use Rattle.market_events.specs.declared.bodies.Body.TheVariants as body
use Rattle.market_events.specs.declared.events.Entry.{Entry}
use Rattle.market_events.specs.declared.events.Event.{Event}
use Rattle.market_events.specs.declared.events.What.{What}
use Rattle.market_events.specs.declared.events.What.TheVariants.{Given, Taken, Made, Answered}
use Rattle.market_events.specs.declared.links.Link.{Link}
use Rattle.market_events.specs.declared.links.Link.TheVariants.{Asked}
use Rattle.market_events.specs.declared.replies.Reply.{Reply}
use Rattle.market_events.specs.declared.requests.Request.{Request}
use Rattle.market_events.specs.Links.{cart_node, product_node, stock_node, order_node, payment_node}
use Rattle.market_events.specs.Links.{shipment_node, customer_node, service_by_ask}
use Rattle.market_events.specs.Requests.{lane_of}
use Rattle.market_events.specs.declared.roles.Role.{Role}
use Rattle.market_events.specs.declared.roles.TheConstants.{SERVICES}
use Rattle.market_events.specs.Services.{node_of, fits, reactions}
use Rattle.market_events.specs.Standing.{with_step}
use Rattle.market_events.specs.Steps.{Step, Sending}
use Rattle.market_history.specs.Causality.{past_of}
use Rattle.market_history.specs.Histories.{Histories, journal_at}
use Rattle.market_history.specs.Sent.{sent}
use Rattle.market_history.specs.Stamps.{clock_before, stamp_of}

-- what comes to a node: a request that it is given, or a body that it takes on a link
pub data Input : Type 0 where
  Gives : Request → Input
  Takes : Link → Body → Input

-- what a node makes of it: a body on a link, or an answer to a request
pub data Out : Type 0 where
  Makes : Link → Body → Out
  Answers : RequestId → Reply → Out

-- a part of a block, without number, clock and past: what came, or what was made of it
pub data Part : Type 0 where
  Came : Input → Part
  Left : Out → Part

abbrev pub part_of : What → Part
part_of (Given request) = Part.Came (Input.Gives request)
part_of (Taken event) = Part.Came (Input.Takes event.link event.body)
part_of (Made event) = Part.Left (Out.Makes event.link event.body)
part_of (Answered id reply) = Part.Left (Out.Answers id reply)

abbrev pub input_in : Part → Option Input
input_in (Part.Came input) = Some input
input_in (Part.Left out) = None

-- the parts of a journal
abbrev pub parts_of : List Entry → List Part
parts_of entries = map (λ (x : Entry). part_of x.what) entries

-- what came to the node, in order
abbrev pub inputs_of : List Entry → List Input
inputs_of entries = filter_map (λ (x : Entry). input_in (part_of x.what)) entries

-- the service with this number
abbrev pub role_at : ℕ → Role
role_at n =
    if n == cart_node then Role.Cart else if n == product_node then Role.Product else if n == stock_node then
    Role.Stock
    else if n == order_node then Role.Order else if n == payment_node then Role.Payment
    else if n == shipment_node then Role.Shipment else if n == customer_node then Role.Customer else
    Role.Seller

-- the steps of a service with one input more, which joins them where it fits
abbrev pub with_input : Role → List Step → Input → List Step
with_input role steps (Input.Gives request) = steps
with_input role steps (Input.Takes from b) =
    if fits role steps from b then with_step role steps from b else steps

-- the steps that a service took
abbrev pub steps_of : Role → List Input → List Step
steps_of role inputs = fold (with_input role) [] inputs

-- the steps that a service took by its journal
abbrev pub service_steps : Histories → Role → List Step
service_steps h role = steps_of role (inputs_of (journal_at h (node_of role)))

abbrev pub made_out : Sending → Out
made_out sending = Out.Makes sending.0 sending.1

-- a service makes what it answers to a body, after the steps that it took
abbrev pub service_outs : Role → List Step → Input → List Out
service_outs role steps (Input.Gives request) = []
service_outs role steps (Input.Takes from b) = map made_out (reactions role steps from b)

abbrev pub told_outs : Body → List Out
told_outs (body.Told id reply) = Out.Answers id reply ∷ []
told_outs other = []

-- a lane asks a request's service, and answers what it is told
abbrev pub lane_outs : Input → List Out
lane_outs (Input.Gives request) =
    Out.Makes (Asked (lane_of request.id) (service_by_ask request.ask)) (body.Asked request) ∷ []
lane_outs (Input.Takes from b) = told_outs b

-- how many of the nodes are services; those after them are lanes
abbrev pub services : ℕ
services = SERVICES

-- what the node makes of an input, after those that came before it
unfoldable pub node_outs : ℕ → List Input → Input → List Out
node_outs n before input =
    if nat_lt n services then service_outs (role_at n) (steps_of (role_at n) before) input else lane_outs
    input

-- one block: the input, and what the node makes of it
abbrev pub block : ℕ → List Input → Input → List Part
block n before input = Part.Came input ∷ map (λ out. Part.Left out) (node_outs n before input)

-- blocks of these inputs, one after the other
abbrev pub blocks_after : ℕ → List Input → List Input → List Part
blocks_after n before [] = []
blocks_after n before (input ∷ inputs) = block n before input ++ blocks_after n (before ++ input ∷ []) inputs

-- what arrives: a request that is given, or an event that is taken
pub data Arrival : Type 0 where
  Gives : Request → Arrival
  Takes : Event → Arrival

abbrev pub what_of : Arrival → What
what_of (Arrival.Gives request) = Given request
what_of (Arrival.Takes event) = Taken event

abbrev pub input_of : Arrival → Input
input_of (Arrival.Gives request) = Input.Gives request
input_of (Arrival.Takes event) = Input.Takes event.link event.body

-- the journal with one entry more, with its stamp
abbrev pub with_what : List Entry → What → List Entry
with_what entries what = entries ++ record { clock = stamp_of (clock_before entries) what; what = what } ∷ []

-- the next event of a link: with its number, its clock and its past
abbrev pub next_event : List Entry → Link → Body → Event
next_event entries link b = record {
  link = link;
  number = length (sent link entries) + 1;
  clock = clock_before entries + 1;
  past = past_of entries;
  body = b;
}

abbrev pub with_out : List Entry → Out → List Entry
with_out entries (Out.Makes link b) = with_what entries (Made (next_event entries link b))
with_out entries (Out.Answers id reply) = with_what entries (Answered id reply)

-- the journal with one block more
unfoldable pub grow : ℕ → List Entry → Arrival → List Entry
grow n entries arrival =
    fold with_out (with_what entries (what_of arrival)) (node_outs n (inputs_of entries) (input_of arrival))
