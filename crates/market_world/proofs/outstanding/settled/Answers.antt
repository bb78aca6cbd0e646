-- Nothing waits on one link more; and after all of them every checkout is whole or undone.
use Rattle.std.proofs.Common.{◌≡◌, sym, ◌∙◌, subst, arith}
use Rattle.market_events.specs.declared.links.TheConstants.{LINKS}
use Rattle.market_world.specs.Waiting.{AreSettledBelow}
use Rattle.market_world.proofs.Finding.{copied_none, settled-more, settled-all}
use Rattle.market_world.proofs.SoundWorlds.{complete_of}
use Rattle.market_world.proofs.outstanding.settled.Goals as goal

pub loop-index-preserved : goal.loop-index-preserved
loop-index-preserved c = (
  settled-more c.args.world.now c.loop-index.index c.link_at.result c.link_at.ensures.link c.link_at.ensures.index c.loop-index.invariant.0
      (sym c.waiting.ensures.first ∙ copied_none c.waiting.result (sym c.if-is_some.ensures)),
  λ some. c.waiting.ensures.lawful,
)

pub returns-clause-complete : goal.returns-clause-complete
returns-clause-complete c =
    let all : c.loop-index.index ≡ LINKS = omega (arith, c.loop-index-test.false, c.loop-index.auto.index-end) in
    λ settled. complete_of c.args.world.now (c.loop-index.invariant.1 (omega (arith, all)))
    (settled-all c.args.world.now (subst (AreSettledBelow c.args.world.now) all c.loop-index.invariant.0))
