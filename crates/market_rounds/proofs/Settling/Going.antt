-- Journals begin as they were, and what each lane keeps with its queue stays the same, round after round.
use Rattle.std.proofs.Common.{◌≡◌, ℕ, ◌<◌, List, [], refl, ap, sym, subst, ◌∙◌, arith}
use Rattle.std.proofs.lemmas.List.{append-nil}
use Rattle.market_events.specs.declared.events.Entry.{Entry}
use Rattle.market_events.specs.declared.lanes.TheConstants.{LANES}
use Rattle.market_events.specs.declared.nodes.TheConstants.{NODES}
use Rattle.market_events.specs.Links.{lane_node}
use Rattle.market_history.specs.Histories.{journal_at}
use Rattle.market_history.specs.Once.{kept_by, requests_given}
use Rattle.market_history.specs.Sent.{IsPrefixOf}
use Rattle.market_history.proofs.GrowLaws.{IsPrefixOf-trans}
use Rattle.market_laws.proofs.Growth.Lawful.{grown_of_lawful}
use Rattle.market_turns.specs.Queues.{with_queue}
use Rattle.market_turns.specs.Turns.{arrivals}
use Rattle.market_rounds.specs.Nodes.{FatedNode, AreReady, AreDone, node_by, queue_by, histories_by}
use Rattle.market_rounds.specs.OneRound.{IsOneRound}
use Rattle.market_rounds.specs.Settling.{HaveGoneOn}
use Rattle.market_rounds.proofs.KeptOnce.{due, due_kept, grown-distinct, turn_keeps_due}
use Rattle.market_rounds.proofs.Settling.Falling.{offered_at, entries_then, queue_then}
use Rattle.market_rounds.proofs.Together.{turn_begins}

pub gone_none : (nodes : List FatedNode) → HaveGoneOn nodes nodes
gone_none nodes = record {
  begun = λ n low. ([], sym (append-nil (journal_at (histories_by nodes) n)));
  due = λ lane low. refl;
}

pub gone_further : (first old new : List FatedNode) → HaveGoneOn first old → HaveGoneOn old new → HaveGoneOn first new
gone_further first old new before after = record {
  begun = λ n low.
      IsPrefixOf-trans (journal_at (histories_by first) n) (journal_at (histories_by old) n) (journal_at (histories_by new) n) (before.begun n low) (after.begun n low);
  due = λ lane low. after.due lane low ∙ before.due lane low;
}

pub gone_round : (old new : List FatedNode) → AreReady old → IsOneRound old new → HaveGoneOn old new
gone_round old new ready round = record {
  begun = λ n low.
      subst (IsPrefixOf (journal_at (histories_by old) n)) (sym (entries_then old new ready round n low))
      (turn_begins n (journal_at (histories_by old) n) (arrivals (node_by old n).ends) (queue_by old n));
  due = λ lane low.
      let n = lane_node lane in
      let below : lane_node lane < NODES = omega (arith, low) in
      ap (λ (es : List Entry). due (requests_given es) (queue_by new (lane_node lane))) (entries_then old new ready round (lane_node lane) below)
      ∙ ap (due (requests_given (with_queue (lane_node lane) (offered_at old new ready round (lane_node lane)) (queue_by old (lane_node lane))))) (queue_then old new ready round (lane_node lane) below)
      ∙ turn_keeps_due (lane_node lane) (journal_at (histories_by old) (lane_node lane)) (arrivals (node_by old (lane_node lane)).ends) (queue_by old (lane_node lane))
      (grown-distinct (lane_node lane) (grown_of_lawful (lane_node lane) (journal_at (histories_by old) (lane_node lane)) (ready.between.lawful.lawful (lane_node lane) below)));
}

-- where all is done, a lane keeps what was due
pub done_kept : (old new : List FatedNode) → AreReady new → AreDone new → HaveGoneOn old new → (lane : ℕ) → lane < LANES → kept_by (histories_by new) lane ≡ due (kept_by (histories_by old) lane) (queue_by old (lane_node lane))
done_kept old new ready done gone lane low =
    let below : lane_node lane < NODES = omega (arith, low) in
    sym (due_kept (lane_node lane) (grown_of_lawful (lane_node lane) (journal_at (histories_by new) (lane_node lane)) (ready.between.lawful.lawful (lane_node lane) below)))
    ∙ ap (due (kept_by (histories_by new) lane)) (sym (done.queues (lane_node lane) below))
    ∙ gone.due lane low
