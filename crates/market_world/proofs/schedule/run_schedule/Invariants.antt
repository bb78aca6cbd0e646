-- The steps so far were played.
use Rattle.std.proofs.Common.{◌≡◌, take}
use Rattle.market_history.specs.Lawful.{IsLawful}
use Rattle.market_history.specs.Schedule.{outcomes, play}
use Rattle.market_world.proofs.schedule.run_schedule.Given as goal

abbrev pub invariant-loop-step : goal.invariant-loop-step
invariant-loop-step l =
    IsLawful l.world × (l.world ≡ play l.fn.world (take l.step-index l.steps)) × (l.seen.items ≡ outcomes l.fn.world (take l.step-index l.steps))
