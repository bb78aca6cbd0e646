use Rattle.market_rounds.proofs.Offering.{low_node}
use Rattle.market_rounds.proofs.ReadyNodes.{service_may_turn, lane_may_turn}
use Rattle.market_rounds.proofs.laws.nodes_may_turn_between_rounds.Goals as goal

pub returns-clause-services : goal.returns-clause-services
returns-clause-services c h nodes role between = service_may_turn h nodes between role (low_node role)

pub returns-clause-lanes : goal.returns-clause-lanes
returns-clause-lanes c h nodes n queue between low own = lane_may_turn h nodes between n low queue own
