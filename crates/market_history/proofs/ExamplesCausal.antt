-- Events offered before what they rest on was taken, by computation.
use Rattle.std.proofs.Common.{refl}
use Rattle.market_events.specs.Offers.{counts_of, is_ready}
use Rattle.market_events.specs.Services.{answers, fits, reactions}
use Rattle.market_history.specs.Blocks.{grow, node_outs}
use Rattle.market_history.specs.Causality.{past_of}
use Rattle.market_history.specs.ExamplesCausal.{CausalExamples}
use Rattle.market_history.specs.Histories.{journal_at, with_journal}
use Rattle.market_history.specs.Schedule.{outcome_of, play_step}

pub causal_examples : CausalExamples
unfolding answers fits reactions counts_of is_ready past_of journal_at with_journal node_outs grow outcome_of play_step
causal_examples = record { outcomes = refl; reply = refl }
