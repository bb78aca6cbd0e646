use Rattle.std.proofs.Common.{◌≡◌, List, length, ap, subst, sym, ◌∙◌, refl, arith}
use Rattle.market_events.specs.declared.events.Entry.{Entry}
use Rattle.market_node.specs.Records.{RecordState}
use Rattle.market_node.specs.Sending.{AreSenders, acknowledged_of}
use Rattle.market_node.specs.Settled.{AreSettled}
use Rattle.market_node.proofs.RecordLaws.{state, same_parts}
use Rattle.market_node.proofs.SenderLaws.{senders_released, acknowledged-released}
use Rattle.market_node.proofs.SettledLaws.{settled_all}
use Rattle.market_node.proofs.recorder.Recorder.release.Goals as goal

pub invariant_of-self : goal.invariant_of-self
invariant_of-self c =
    let old = c.self.inside in
    let all : length c.entries.result.now ≡ length c.self.inside.journal.entries = ap (λ (es : List Entry). length es) c.entries.ensures.value in
    record {
      node_high = c.self.invariant.node_high;
      notes = c.self.invariant.notes;
      committed = omega arith;
      spared = c.self.invariant.spared;
      rooms = c.self.invariant.rooms;
      senders = subst (λ n. AreSenders old.journal.node old.journal.entries n old.room c.release.new.self) (sym all)
          (subst (λ ss. AreSenders old.journal.node old.journal.entries (length old.journal.entries) old.room ss) (sym c.release.ensures)
          (senders_released old.journal.node old.journal.entries old.committed old.room old.senders c.self.invariant.senders));
      settled = subst (λ n. AreSettled old.journal.node old.journal.entries n old.received.receivers) (sym all)
          (settled_all old.journal.node old.journal.entries old.received.receivers c.self.invariant.notes.received c.self.invariant.notes.receivers);
    }

pub returns : goal.returns
returns c =
    let old = c.self.inside in
    same_parts old.journal.node old.journal.node old.journal.entries old.journal.entries (length c.entries.result.now) (length old.journal.entries)
    (acknowledged_of c.release.new.self) (acknowledged_of old.senders) old.room old.room
    refl refl (ap (λ (es : List Entry). length es) c.entries.ensures.value)
    (ap (λ ss. acknowledged_of ss) c.release.ensures ∙ acknowledged-released old.senders) refl
    ∙ ap (λ (r : RecordState). state r.node r.entries (length r.entries) r.acknowledged r.room) c.self.view_is
