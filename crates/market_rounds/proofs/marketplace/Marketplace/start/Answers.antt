use Rattle.market_rounds.proofs.Answering.{none_done}
use Rattle.market_rounds.proofs.marketplace.Marketplace.start.Goals as goal

pub invariant_of-result : goal.invariant_of-result
invariant_of-result c = λ usable. (c.in_ok-nodes.ensures.ready, none_done c.in_ok-nodes.nodes c.in_ok-nodes.ensures.histories c.in_ok-nodes.ensures.queues)
