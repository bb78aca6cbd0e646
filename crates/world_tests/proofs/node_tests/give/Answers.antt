use Rattle.world_tests.proofs.TestedNodes.{grew_given}
use Rattle.world_tests.proofs.node_tests.give.Goals as goal

pub returns-clause-grew : goal.returns-clause-grew
returns-clause-grew c =
    grew_given c.give.result c.args.lane.now c.give.new.self c.args.request.now c.requires.small.node c.give.ensures.asked c.give.ensures.other c.give.ensures.err
