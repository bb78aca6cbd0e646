-- Each fate goes to the end that its packet is sent from.
use Rattle.std.proofs.Common.{◌≡◌, ◌+◌, List, take, subst, sym}
use Rattle.market_rounds.specs.declared.plan.Planned.{Planned}
use Rattle.market_rounds.proofs.Planning.{AreFated, fated_start, fated_at, same_but_fates}
use Rattle.market_rounds.proofs.nodes.Nodes.plan.Goals as goal

pub loop-planned-init : goal.loop-planned-init
loop-planned-init c = (fated_start c.args.self.now c.self.inside.groups c.drop_fates.new.self c.self.view_is c.requires c.in_ok-drop_fates.ensures, c.self.invariant)

pub loop-planned-preserved : goal.loop-planned-preserved
loop-planned-preserved c =
    let same : c.fates-planned-items.result.now ≡ c.args.plan.now = c.fates-planned-items.ensures.fates in (
      subst (λ (plan : List Planned). AreFated (take (c.loop-planned.planned-index + 1) plan) c.args.self.now c.add_fate.new.self) same
          (fated_at c.fates-planned-items.result.now c.loop-planned.planned-index _ c.args.self.now c.loop-planned.self-inside.groups c.add_fate.new.self
          c.sending_end-node.result.0 c.sending_end-node.result.1 c.sending_end-node.ensures.node c.sending_end-node.ensures.slot c.loop-planned-test.true c.fates-planned-items.ensures.links
          (subst (λ (plan : List Planned). AreFated (take c.loop-planned.planned-index plan) c.args.self.now c.loop-planned.self-inside.groups) (sym same) c.loop-planned.invariant.0)
          c.in_ok-add_fate.ensures),
      c.loop-planned.invariant.1,
    )

pub returns-clause-ready : goal.returns-clause-ready
returns-clause-ready c = same_but_fates c.args.self.now c.loop-planned.self-inside.groups c.requires c.loop-planned.invariant.0.only
