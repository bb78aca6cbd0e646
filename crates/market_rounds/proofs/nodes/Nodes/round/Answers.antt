use Rattle.market_rounds.specs.OneRound.{IsOneRound}
use Rattle.market_rounds.proofs.OneRound.{joined_after, histories_after, ready_after}
use Rattle.market_rounds.proofs.nodes.Nodes.round.Goals as goal

pub meet-requires-clause-joined : goal.meet-requires-clause-joined
meet-requires-clause-joined g c = joined_after c.args.self.now c.turn.new.self c.requires c.in_ok-turn.ensures.turned

pub returns-clause-ready : goal.returns-clause-ready
returns-clause-ready g c =
    let round : IsOneRound c.args.self.now c.release.new.self =
    record { turned = c.turn.new.self; met = c.meet.new.self; turns = c.in_ok-turn.ensures.turned; meeting = c.meet.ensures; committed = c.release.ensures } in
    ready_after c.args.self.now c.release.new.self c.requires round

pub returns-clause-played : goal.returns-clause-played
returns-clause-played g c =
    let round : IsOneRound c.args.self.now c.release.new.self =
    record { turned = c.turn.new.self; met = c.meet.new.self; turns = c.in_ok-turn.ensures.turned; meeting = c.meet.ensures; committed = c.release.ensures } in
    histories_after c.args.self.now c.release.new.self c.requires round

pub returns-clause-round : goal.returns-clause-round
returns-clause-round g c =
    record { turned = c.turn.new.self; met = c.meet.new.self; turns = c.in_ok-turn.ensures.turned; meeting = c.meet.ensures; committed = c.release.ensures }
