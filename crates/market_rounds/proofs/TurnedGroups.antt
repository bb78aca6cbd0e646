-- Where each group may turn and has turned, each node has.
use Rattle.std.proofs.Common.{ℕ, ◌<◌, List, [], ◌∷◌, Result, Ok, Err, OnOk}
use Rattle.market_events.specs.declared.nodes.TheConstants.{NODES}
use Rattle.market_events.specs.declared.roles.Role.{Role}
use Rattle.market_events.specs.Links.{node_of}
use Rattle.market_node.specs.Offered.{FitsService}
use Rattle.market_turns.specs.Queues.{CanTurnLane}
use Rattle.market_turns.specs.Turns.{CanTurn}
use Rattle.market_rounds.specs.Groups.{GroupState, HasTurnedGroup, in_order}
use Rattle.market_rounds.specs.Nodes.{FatedNode, AreReady, HasTurnedWithQueue, at_node, node_by, queue_by, histories_by}
use Rattle.market_rounds.proofs.EachNode.{each_node}
use Rattle.market_rounds.proofs.Offering.{low_node}
use Rattle.market_rounds.proofs.ReadyNodes.{service_may_turn, lane_may_turn}

-- a node that may turn with its queue, as a service and as a lane
pub service_can : (nodes : List FatedNode) → AreReady nodes → (role : Role) → CanTurn (FitsService role) (node_by nodes (node_of role))
service_can nodes ready role = service_may_turn (histories_by nodes) (node_by nodes) ready.between role (low_node role)

pub lane_can : (nodes : List FatedNode) → AreReady nodes → (n : ℕ) → n < NODES → CanTurnLane (record { node = node_by nodes n; queue = queue_by nodes n })
lane_can nodes ready n low = lane_may_turn (histories_by nodes) (node_by nodes) ready.between n low (queue_by nodes n) (ready.own n low)

module _ (cart product stock order payment shipment customer seller new_cart new_product new_stock new_order new_payment new_shipment new_customer new_seller : GroupState) where
  abbrev before : List FatedNode
  before = in_order (cart ∷ product ∷ stock ∷ order ∷ payment ∷ shipment ∷ customer ∷ seller ∷ [])

  abbrev after : List FatedNode
  after = in_order (new_cart ∷ new_product ∷ new_stock ∷ new_order ∷ new_payment ∷ new_shipment ∷ new_customer ∷ new_seller ∷ [])

  pub all_turned : HasTurnedGroup cart new_cart → HasTurnedGroup product new_product → HasTurnedGroup stock new_stock → HasTurnedGroup order new_order → HasTurnedGroup payment new_payment → HasTurnedGroup shipment new_shipment → HasTurnedGroup customer new_customer → HasTurnedGroup seller new_seller → (n : ℕ) → n < NODES → HasTurnedWithQueue (at_node before n) (at_node after n)
  all_turned t_cart t_product t_stock t_order t_payment t_shipment t_customer t_seller = each_node (λ n. HasTurnedWithQueue (at_node before n) (at_node after n))
      t_cart.service t_product.service t_stock.service t_order.service t_payment.service t_shipment.service t_customer.service t_seller.service
      t_cart.first t_cart.second t_product.first t_product.second t_stock.first t_stock.second t_order.first t_order.second t_payment.first t_payment.second t_shipment.first t_shipment.second t_customer.first t_customer.second t_seller.first t_seller.second

  -- where the turns succeed
  pub all_turned_ok : {E : Type 0} (result : Result (Unit {0}) E) → OnOk result (HasTurnedGroup cart new_cart) → OnOk result (HasTurnedGroup product new_product) → OnOk result (HasTurnedGroup stock new_stock) → OnOk result (HasTurnedGroup order new_order) → OnOk result (HasTurnedGroup payment new_payment) → OnOk result (HasTurnedGroup shipment new_shipment) → OnOk result (HasTurnedGroup customer new_customer) → OnOk result (HasTurnedGroup seller new_seller) → OnOk result ((n : ℕ) → n < NODES → HasTurnedWithQueue (at_node before n) (at_node after n))
  all_turned_ok (Ok u) a b c d e f h i = all_turned a b c d e f h i
  all_turned_ok (Err x) a b c d e f h i = a
