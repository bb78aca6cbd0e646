use Rattle.std.proofs.Common.{◌+◌, refl, arith}
use Rattle.market_events.specs.declared.events.What.TheVariants.{Answered}
use Rattle.market_node.proofs.GrownLaws.{sending_quiet, settled_still}
use Rattle.market_node.proofs.NoteLaws.{HaveRoom-less}
use Rattle.market_node.proofs.RecordLaws.{at_most-push, entry_at, notes_answered}
use Rattle.market_node.proofs.recorder.Recorder.answer.Goals as goal

pub invariant_of-self : goal.invariant_of-self
invariant_of-self c =
    let old = c.self.inside in
    let new = c.write.new.journal in
    record {
      node_high = omega (arith, c.write.ensures.node, c.self.invariant.node_high);
      notes = notes_answered old.journal.node new.node old.journal.entries new.entries old.clock (old.clock + 1) c.args.id c.args.reply
          old.known old.received.services old.received.receivers old.lists c.self.invariant.notes c.write.ensures.node c.write.ensures.entries;
      committed = at_most-push old.journal.entries new.entries (entry_at (old.clock + 1) (Answered c.args.id c.args.reply)) old.committed c.write.ensures.entries c.self.invariant.committed;
      spared = omega (arith, c.write.ensures.spare, c.self.invariant.spared);
      rooms = HaveRoom-less old.lists old.room c.self.invariant.rooms;
      senders = sending_quiet old.journal.node new.node old.journal.entries new.entries (entry_at (old.clock + 1) (Answered c.args.id c.args.reply)) old.committed c.write.ensures.node c.write.ensures.entries c.self.invariant.committed
          old.room old.senders (λ link. refl) c.self.invariant.senders;
      settled = settled_still old.journal.node new.node old.journal.entries new.entries (entry_at (old.clock + 1) (Answered c.args.id c.args.reply)) old.committed c.write.ensures.node c.write.ensures.entries c.self.invariant.committed
          old.settled c.self.invariant.settled;
    }
