-- The histories after one request to create a product, by computation.
use Rattle.std.proofs.Common.{refl}
use Rattle.market_events.specs.Offers.{counts_of, is_ready}
use Rattle.market_events.specs.Services.{answers, fits, reactions}
use Rattle.market_history.specs.Blocks.{grow, node_outs}
use Rattle.market_history.specs.Causality.{past_of}
use Rattle.market_history.specs.ExamplesCreate.{CreateExamples}
use Rattle.market_history.specs.Histories.{journal_at, with_journal}
use Rattle.market_history.specs.Schedule.{merged, outcome_of, play_step}

pub create_examples : CreateExamples
unfolding answers fits reactions counts_of is_ready past_of journal_at with_journal node_outs grow outcome_of play_step merged
create_examples = record { left = refl; outcomes = refl; schedule = refl; replayed = refl }
