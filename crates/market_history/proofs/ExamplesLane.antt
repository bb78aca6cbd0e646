-- What a lane does with requests, by computation.
use Rattle.std.proofs.Common.{refl}
use Rattle.market_history.specs.ExamplesLane.{LaneExamples}

pub lane_examples : LaneExamples
lane_examples = record {
  asked = refl;
  first = refl;
  kept = refl;
  differs = refl;
  waiting = refl;
  again = refl;
  differs_first = refl;
  full = refl;
  waits_first = refl;
  reply = refl;
  no_reply = refl;
}
