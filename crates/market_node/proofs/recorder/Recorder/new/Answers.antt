use Rattle.std.proofs.Common.{◌≡◌, ◌∙◌, List, [], ap, subst, sym, arith}
use Rattle.market_events.specs.declared.events.Entry.{Entry}
use Rattle.market_history.specs.Journals.{JournalState}
use Rattle.market_node.specs.Notes.{AreNotes}
use Rattle.market_node.specs.Sending.{AreSenders}
use Rattle.market_node.specs.Settled.{AreSettled}
use Rattle.market_node.proofs.NoteLaws.{AreNotes-none}
use Rattle.market_node.proofs.SenderLaws.{senders_first}
use Rattle.market_node.proofs.SettledLaws.{settled_first}
use Rattle.market_node.proofs.recorder.Recorder.new.Goals as goal

pub invariant_of-result : goal.invariant_of-result
invariant_of-result c =
    let node : c.new-3.result.node ≡ c.args.node = ap (λ (j : JournalState). j.node) c.new-3.ensures in
    let none : c.new-3.result.entries ≡ [] = ap (λ (j : JournalState). j.entries) c.new-3.ensures in
    record {
      node_high = omega (arith, c.get-number.ensures.value, c.get-number.ensures.in_range);
      notes = subst (λ (es : List Entry). AreNotes c.new-3.result.node es 0 c.zero.result c.new-received.result.services c.new-received.result.receivers c.in_ok-lists.lists) (sym none)
          (AreNotes-none c.new-3.result.node c.zero.result c.new-received.result.services c.new-received.result.receivers c.in_ok-lists.lists
          c.zero.ensures.len c.zero.ensures.each c.new-received.ensures.len c.new-received.ensures.services c.new-received.ensures.receivers c.in_ok-lists.ensures);
      committed = omega arith;
      spared = omega arith;
      rooms = λ slot below. omega arith;
      senders = subst (λ (es : List Entry). AreSenders c.new-3.result.node es 0 0 c.in_ok-senders.senders) (sym none)
          (senders_first c.new-3.result.node c.in_ok-senders.senders c.in_ok-senders.ensures.many (λ link is from. c.in_ok-senders.ensures.each link is (from ∙ node)));
      settled = subst (λ (es : List Entry). AreSettled c.new-3.result.node es 0 c.new-received.result.receivers) (sym none) (settled_first c.new-3.result.node c.new-received.result.receivers c.new-received.ensures.receivers);
    }
