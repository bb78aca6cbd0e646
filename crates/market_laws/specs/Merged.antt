-- Steps that acted.
use Rattle.std.specs.Prelude.{◌≡◌, ◌⊎◌}
use Rattle.market_events.specs.declared.events.Offer.TheVariants as offer
use Rattle.market_history.specs.declared.schedule.Give.TheVariants as give
use Rattle.market_history.specs.declared.schedule.Outcome.{Outcome}
use Rattle.market_history.specs.declared.schedule.Outcome.TheVariants as outcome

-- the request that was given was asked, or the event that was offered was taken
abbrev pub IsDone : Outcome → Type 0
IsDone o = (o ≡ outcome.Gave give.Asked) ⊎ (o ≡ outcome.Offered offer.Take)
