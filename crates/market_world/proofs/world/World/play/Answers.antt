-- A count that is told changes nothing.
use Rattle.std.proofs.Common.{ap, sym, ◌∙◌}
use Rattle.market_history.specs.Schedule.{outcome_of, play_step}
use Rattle.market_world.proofs.Stepping.{told_outcome, told_play}
use Rattle.market_world.proofs.world.World.play.Goals as goal

pub returns-in-Ack-clause-outcome : goal.returns-in-Ack-clause-outcome
returns-in-Ack-clause-outcome c = told_outcome c.args.self.now c.in-Ack.field-0 c.in-Ack.field-1 ∙ ap (outcome_of c.args.self.now) (sym c.in-Ack.is)

pub returns-in-Ack-clause-histories : goal.returns-in-Ack-clause-histories
returns-in-Ack-clause-histories c = told_play c.args.self.now c.in-Ack.field-0 c.in-Ack.field-1 ∙ ap (play_step c.args.self.now) (sym c.in-Ack.is)
