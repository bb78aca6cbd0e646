use Rattle.std.proofs.Common.{rules, ◌≡◌, ap, ◌∙◌, arith}
use Rattle.market_history.specs.Blocks.{grow, Arrival}
use Rattle.market_history.specs.declared.schedule.Give.TheVariants as give
use Rattle.market_node.specs.Cores.{CoreState}
use Rattle.market_node.specs.Keeping.{is_awaited}
use Rattle.world_tests.specs.TestedNodes.{tested_node}
use Rattle.world_tests.proofs.TestedNodes.{first_awaited}
use Rattle.world_tests.proofs.node_tests.a_lane_keeps_what_it_asks.Goals as goal

pub tell-requires-clause-awaited : goal.tell-requires-clause-awaited
tell-requires-clause-awaited g c =
    let first = c.remove-first.result in
    let asked : c.in_ok-give.field-0 ≡ give.Asked = search rules in
    ap (λ (core : CoreState). is_awaited core.entries first.id) (c.in_ok-give.ensures.asked asked)
    ∙ ap (λ (core : CoreState). is_awaited (grow core.node core.entries (Arrival.Gives first)) first.id) c.in_ok-lane.ensures
    ∙ first_awaited tested_node first (omega arith)
