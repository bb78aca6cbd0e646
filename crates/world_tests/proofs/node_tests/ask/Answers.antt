use Rattle.std.proofs.Common.{rules, ◌≡◌}
use Rattle.market_history.specs.Once.{reply_of}
use Rattle.market_history.specs.declared.schedule.Give.TheVariants as give
use Rattle.world_tests.proofs.TestedNodes.{asked_awaited, none_copied}
use Rattle.world_tests.proofs.node_tests.ask.Goals as goal

pub returns-clause-awaited : goal.returns-clause-awaited
returns-clause-awaited c open_one =
    let request = c.args.request.now in
    let asked : c.in_ok-give.field-0 ≡ give.Asked = search rules in
    asked_awaited c.args.lane.now c.give.new.lane request c.requires.small.node (c.in_ok-give.ensures.asked asked)
    (none_copied c.kept.result c.is_none.result (reply_of c.give.new.lane.entries request.id) c.kept.ensures c.is_none.ensures open_one)
