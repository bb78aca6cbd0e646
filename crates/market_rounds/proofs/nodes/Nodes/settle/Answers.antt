use Rattle.std.proofs.Common.{◌≡◌, true, false, refl}
use Rattle.market_rounds.proofs.Settling.Falling.{falls}
use Rattle.market_rounds.proofs.Settling.Going.{gone_further, gone_round, done_kept}
use Rattle.market_rounds.proofs.nodes.Nodes.settle.Goals as goal

pub loop-self-smaller : goal.loop-self-smaller
loop-self-smaller g c =
    falls c.loop-self.self c.round.new.self c.loop-self.invariant.0 c.in_ok-round.ensures.round (λ done. let is : false ≡ true = c.loop-self-test.ensures.1 done in let never : ⊥ = cc in never)

pub loop-self-preserved : goal.loop-self-preserved
loop-self-preserved g c = (
  c.in_ok-round.ensures.ready,
  gone_further _ c.loop-self.self c.round.new.self c.loop-self.invariant.1 (gone_round c.loop-self.self c.round.new.self c.loop-self.invariant.0 c.in_ok-round.ensures.round),
)

pub returns-clause-kept : goal.returns-clause-kept
returns-clause-kept g c = done_kept c.args.self.now c.loop-self.self c.loop-self.invariant.0 (c.loop-self-test.ensures.0 refl) c.loop-self.invariant.1
