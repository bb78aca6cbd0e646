-- The groups that take their turns at the same time: a service's node and two lanes.
use Rattle.std.specs.Prelude.{ℕ, ◌+◌, ◌*◌, List, [], ◌∷◌, ◌++◌, map}
use Rattle.std.specs.List.{flat_map, range_with_len}
use Rattle.market_events.specs.declared.nodes.TheConstants.{NODES}
use Rattle.market_events.specs.declared.roles.Role.{Role}
use Rattle.market_events.specs.Links.{node_of, lane_node}
use Rattle.market_rounds.specs.declared.seats.Seat.{Seat}
use Rattle.market_rounds.specs.declared.seats.Seat.TheVariants as seat
use Rattle.market_node.specs.Offered.{FitsService}
use Rattle.market_turns.specs.Queues.{CanTurnLane}
use Rattle.market_turns.specs.Turns.{CanTurn}
use Rattle.market_rounds.specs.Nodes.{FatedNode, HasTurnedWithQueue, idle_node}

pub record GroupState : Type 0 where
  pub service : FatedNode
  pub first : FatedNode
  pub second : FatedNode

-- the node of a seat in the group of a service: group g has service g and the lanes 2g and 2g + 1
abbrev pub number_at : Role → Seat → ℕ
number_at role seat.Service = node_of role
number_at role seat.First = lane_node (2 * node_of role)
number_at role seat.Second = lane_node (2 * node_of role + 1)

abbrev pub at_seat : Seat → GroupState → FatedNode
at_seat seat.Service group = group.service
at_seat seat.First group = group.first
at_seat seat.Second group = group.second

abbrev pub with_seat : Seat → GroupState → FatedNode → GroupState
with_seat seat.Service group node = record group { service = node }
with_seat seat.First group node = record group { first = node }
with_seat seat.Second group node = record group { second = node }

-- the nodes of the groups, by number
abbrev pub in_order : List GroupState → List FatedNode
in_order groups =
    map (λ (g : GroupState). g.service) groups
    ++ flat_map (λ (g : GroupState). g.first ∷ g.second ∷ []) groups

abbrev pub idle_group : Role → GroupState
idle_group role = record {
  service = idle_node (number_at role seat.Service);
  first = idle_node (number_at role seat.First);
  second = idle_node (number_at role seat.Second);
}

abbrev pub idle_nodes : List FatedNode
idle_nodes = map idle_node (range_with_len 0 NODES)

-- each node of the group of a service may turn
pub record CanTurnGroup (role : Role) (group : GroupState) : Type 0 where
  pub service : CanTurn (FitsService role) group.service.node
  pub first : CanTurnLane (record { node = group.first.node; queue = group.first.queue })
  pub second : CanTurnLane (record { node = group.second.node; queue = group.second.queue })

-- each node of the group turned
pub record HasTurnedGroup (old new : GroupState) : Type 0 where
  pub service : HasTurnedWithQueue old.service new.service
  pub first : HasTurnedWithQueue old.first new.first
  pub second : HasTurnedWithQueue old.second new.second
