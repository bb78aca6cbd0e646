-- Step by step.
use Rattle.market_events.proofs.Runs.Stock.{reserved-le-on_hand, sold-reserved-le-stocked}
use Rattle.stock_service.proofs.laws.reserved_is_on_hand.Goals as goal

pub returns : goal.returns
returns c = record { covered = reserved-le-on_hand; within = sold-reserved-le-stocked }
