-- One lane more.
use Rattle.std.proofs.Common.{[], ap, ◌∙◌}
use Rattle.std.proofs.lemmas.List.{replicate_more}
use Rattle.market_events.specs.Links.{lane_node}
use Rattle.market_node.specs.Cores.{CoreState}
use Rattle.market_world.proofs.Ranges.{range_more, gathered_more}
use Rattle.market_world.proofs.lanes.Lanes.new.Goals as goal

pub loop-lane-preserved : goal.loop-lane-preserved
loop-lane-preserved c = (
  range_more (λ (core : CoreState). core.node) (lane_node 0) c.loop-lane.lane c.push.new.self.items c.loop-lane.lanes.items c.in_ok-new.field-0 c.in_ok-push.ensures.items c.loop-lane.invariant.0
      (ap (λ (core : CoreState). core.node) c.in_ok-new.ensures),
  gathered_more (λ (core : CoreState). core.entries) c.push.new.self.items c.loop-lane.lanes.items c.in_ok-new.field-0 _ [] c.in_ok-push.ensures.items c.loop-lane.invariant.1
      (ap (λ (core : CoreState). core.entries) c.in_ok-new.ensures) ∙ replicate_more c.loop-lane.lane [],
)
