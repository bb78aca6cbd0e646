use Rattle.std.proofs.Common.{refl, sym, ◌∙◌, arith}
use Rattle.market_world.proofs.Finding.{copied_none, settled-more}
use Rattle.market_rounds.specs.Nodes.{histories_by}
use Rattle.market_rounds.proofs.Settling.Done.{all_done}
use Rattle.market_rounds.proofs.nodes.Nodes.are_done.Goals as goal

pub loop-index-preserved : goal.loop-index-preserved
loop-index-preserved c =
    settled-more (histories_by c.args.self.now) c.loop-index.index c.link_at.result c.link_at.ensures.link c.link_at.ensures.index c.loop-index.invariant
    (sym c.waiting.ensures ∙ copied_none c.waiting.result (sym c.if-is_some.ensures))

pub returns : goal.returns
returns c = (
  λ yes. all_done c.args.self.now c.requires c.loop-lane.invariant.0 (λ lane low. c.loop-lane.invariant.1 lane (omega (arith, low, c.loop-lane-test.false))),
  λ done. refl,
)
