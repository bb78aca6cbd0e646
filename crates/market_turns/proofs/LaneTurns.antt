-- A lane's turn is one of its links, and then it goes through its queue.
use Rattle.std.proofs.Common.{◌≡◌, List, ap, subst, sym, ◌∙◌}
use Rattle.market_events.specs.declared.events.Entry.{Entry}
use Rattle.market_events.specs.declared.requests.Request.{Request}
use Rattle.market_node.specs.Cores.{CoreState, with_entries}
use Rattle.market_rings.specs.Fates.{FatesLeft}
use Rattle.market_turns.specs.Queues.{LaneState, HasTurnedLane, entries_offered, with_queue, queue_after}
use Rattle.market_turns.specs.Turns.{NodeState, HasTurned}

pub lane_turned : (old : LaneState) (middle : NodeState) (core : CoreState) (queue : List Request) (fates left : FatesLeft) → HasTurned old.node middle fates left
    → core ≡ with_entries middle.core (with_queue middle.core.node middle.core.entries old.queue)
    → queue ≡ queue_after middle.core.entries old.queue
    → HasTurnedLane old (record { node = record { core = core; ends = middle.ends }; queue = queue }) fates left
lane_turned old middle core queue fates left turned asked rest = record {
  links = subst (λ (node : NodeState). HasTurned old.node node fates left) same turned;
  entries = ap (λ (c : CoreState). c.entries) asked
      ∙ ap (λ n. with_queue n middle.core.entries old.queue) turned.node
      ∙ ap (λ (es : List Entry). with_queue old.node.core.node es old.queue) turned.entries;
  queue = rest ∙ ap (λ (es : List Entry). queue_after es old.queue) turned.entries;
}
  where
    same : middle ≡ record { core = record core { entries = entries_offered old.node }; ends = middle.ends }
    same =
        ap (λ (es : List Entry). record middle { core = record middle.core { entries = es } }) turned.entries
        ∙ sym (ap (λ (c : CoreState). record middle { core = record c { entries = entries_offered old.node } }) asked)
