use Rattle.market_node.proofs.MakingLaws.{making_next}
use Rattle.market_node.proofs.making.make_all.Goals as goal

pub loop-link-preserved : goal.loop-link-preserved
loop-link-preserved c =
    making_next c.args.recorder.now c.args.outs c.loop-link.recorder c.make.new.self c.loop-link.outs c.first.new.self c.in-Some.link c.in-Some.body
    c.loop-link.invariant c.in-Some.ensures.first c.make.ensures
