-- The lane of a request sits in a group, and answers for all nodes.
use Rattle.std.proofs.Common.{◌≡◌, ◌≢◌, ℕ, List, Option, Result, IfOk, ap, subst, sym, arith}
use Rattle.market_events.specs.declared.events.Entry.{Entry}
use Rattle.market_events.specs.declared.replies.Reply.{Reply}
use Rattle.market_events.specs.declared.requests.Request.{Request}
use Rattle.market_events.specs.declared.roles.Role.{Role}
use Rattle.market_events.specs.Links.{lane_node, node_of}
use Rattle.market_events.specs.Requests.{lane_of}
use Rattle.market_history.specs.Once.{answer_by, reply_of, requests_given, with_id}
use Rattle.market_rounds.specs.declared.seats.Seat.{Seat}
use Rattle.market_rounds.specs.declared.seats.Seat.TheVariants as seat
use Rattle.market_rounds.specs.Groups.{GroupState, number_at, at_seat, in_order}
use Rattle.market_rounds.specs.Nodes.{FatedNode, at_node, entries_of_lane}
use Rattle.market_rounds.proofs.GroupNodes.{all, group_of, node_at_seat}

-- no service has the number of a lane
no_service : (role : Role) (lane : ℕ) → node_of role ≡ lane_node lane → ⊥
no_service Role.Cart lane is = omega (arith, is)
no_service Role.Product lane is = omega (arith, is)
no_service Role.Stock lane is = omega (arith, is)
no_service Role.Order lane is = omega (arith, is)
no_service Role.Payment lane is = omega (arith, is)
no_service Role.Shipment lane is = omega (arith, is)
no_service Role.Customer lane is = omega (arith, is)
no_service Role.Seller lane is = omega (arith, is)

not_service : (role : Role) (place : Seat) (lane : ℕ) → number_at role place ≡ lane_node lane → place ≢ seat.Service
not_service role place lane is same = no_service role lane (subst (λ s. number_at role s ≡ lane_node lane) same is)

module _ (cart product stock order payment shipment customer seller : GroupState) where
  abbrev groups : List GroupState
  groups = all cart product stock order payment shipment customer seller

  abbrev own : Role → GroupState
  own role = group_of cart product stock order payment shipment customer seller role

  seat_entries : (role : Role) (place : Seat) (n : ℕ) → number_at role place ≡ n → (at_node (in_order groups) n).node.core.entries ≡ (at_seat place (own role)).node.core.entries
  seat_entries role place n is =
      subst (λ k. (at_node (in_order groups) k).node.core.entries ≡ (at_seat place (own role)).node.core.entries) is
      (ap (λ (x : FatedNode). x.node.core.entries) (node_at_seat cart product stock order payment shipment customer seller role place))

  pub lane_answer : {E : Type 0} (result : Result (Option Reply) E) (role : Role) (place : Seat) (request : Request) → number_at role place ≡ lane_node (lane_of request.id)
      → (place ≢ seat.Service → IfOk result (λ answer. answer ≡ answer_by (with_id request.id (requests_given (at_seat place (own role)).node.core.entries)) (reply_of (at_seat place (own role)).node.core.entries request.id) request))
      → IfOk result (λ answer. answer ≡ answer_by (with_id request.id (requests_given (entries_of_lane (in_order groups) request.id))) (reply_of (entries_of_lane (in_order groups) request.id) request.id) request)
  lane_answer result role place request is says =
      subst (λ (entries : List Entry). IfOk result (λ answer. answer ≡ answer_by (with_id request.id (requests_given entries)) (reply_of entries request.id) request))
      (sym (seat_entries role place (lane_node (lane_of request.id)) is)) (says (not_service role place (lane_of request.id) is))
