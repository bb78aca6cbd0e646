use Rattle.std.proofs.Common.{◌≡◌, max, List, length, ap, subst, sym, ◌∙◌, refl, arith}
use Rattle.market_events.specs.declared.events.Entry.{Entry}
use Rattle.market_node.specs.Records.{RecordState}
use Rattle.market_node.specs.Sending.{AreSenders, acknowledged_of}
use Rattle.market_node.proofs.GrownLaws.{sending_same, settled_same}
use Rattle.market_node.proofs.RecordLaws.{state, same_parts, notes_reserved, on_err}
use Rattle.market_node.proofs.SenderLaws.{senders_roomier, senders_kept, acknowledged-roomier}
use Rattle.market_node.proofs.recorder.Recorder.reserve.Goals as goal

pub invariant_of-self-in_err-reserve-3 : goal.invariant_of-self-in_err-reserve-3
invariant_of-self-in_err-reserve-3 c =
    let old = c.self.inside in
    let new = c.reserve.new.self in
    let more = c.reserve-3.new.self in
    let same : c.reserve.new.self.node ≡ c.self.inside.journal.node = c.reserve.ensures.node in
    let entries : c.reserve.new.self.entries ≡ c.self.inside.journal.entries = c.reserve.ensures.entries in
    record {
      node_high = omega (arith, same, c.self.invariant.node_high);
      notes = notes_reserved old.journal.node new.node old.journal.entries new.entries old.clock old.known old.received.services old.received.receivers old.lists c.reserve-2.new.self
          c.self.invariant.notes same entries c.reserve-2.ensures.len c.reserve-2.ensures.places;
      committed = let long : length new.entries ≡ length old.journal.entries = ap (λ (es : List Entry). length es) entries in omega (arith, c.self.invariant.committed);
      spared = omega (arith, c.reserve.ensures.spare, c.self.invariant.spared);
      rooms = λ slot below. let had = c.self.invariant.rooms slot below in let now = c.reserve-2.ensures.spare slot in omega arith;
      senders = sending_same old.journal.node new.node old.journal.entries new.entries old.committed same entries old.room more (senders_kept old.journal.node old.journal.entries old.committed old.room old.senders more c.self.invariant.senders c.reserve-3.ensures.roomier);
      settled = settled_same old.journal.node new.node old.journal.entries new.entries old.committed same entries old.settled c.self.invariant.settled;
    }

pub returns-in_err-reserve-3-clause-err : goal.returns-in_err-reserve-3-clause-err
returns-in_err-reserve-3-clause-err c =
    let old = c.self.inside in
    let new = c.reserve.new.self in
    let more = c.reserve-3.new.self in
    let same : c.reserve.new.self.node ≡ c.self.inside.journal.node = c.reserve.ensures.node in
    let entries : c.reserve.new.self.entries ≡ c.self.inside.journal.entries = c.reserve.ensures.entries in
    let same_state = same_parts new.node old.journal.node new.entries old.journal.entries old.committed old.committed (acknowledged_of more) (acknowledged_of old.senders) old.room old.room
    same entries refl (acknowledged-roomier old.senders more c.reserve-3.ensures.roomier) refl
    in on_err c.from_residual-in_err-reserve-3.result _ (same_state ∙ c.self.view_is)

pub invariant_of-self-2 : goal.invariant_of-self-2
invariant_of-self-2 c =
    let old = c.self.inside in
    let new = c.reserve.new.self in
    let more = c.reserve-3.new.self in
    let same : c.reserve.new.self.node ≡ c.self.inside.journal.node = c.reserve.ensures.node in
    let entries : c.reserve.new.self.entries ≡ c.self.inside.journal.entries = c.reserve.ensures.entries in
    record {
      node_high = omega (arith, same, c.self.invariant.node_high);
      notes = notes_reserved old.journal.node new.node old.journal.entries new.entries old.clock old.known old.received.services old.received.receivers old.lists c.reserve-2.new.self
          c.self.invariant.notes same entries c.reserve-2.ensures.len c.reserve-2.ensures.places;
      committed = let long : length new.entries ≡ length old.journal.entries = ap (λ (es : List Entry). length es) entries in omega (arith, c.self.invariant.committed);
      spared = omega (arith, c.reserve.ensures.spare, c.in_ok-reserve.ensures.room, c.self.invariant.spared, c.max-self-inside.ensures);
      rooms = λ slot below. let had = c.self.invariant.rooms slot below in let now = c.reserve-2.ensures.spare slot in let got = c.in_ok-reserve-2.ensures.room slot below in omega (arith, c.max-self-inside.ensures);
      senders = sending_same old.journal.node new.node old.journal.entries new.entries old.committed same entries c.max-self-inside.result more (subst (λ n. AreSenders old.journal.node old.journal.entries old.committed n more) (sym c.max-self-inside.ensures)
          (senders_roomier old.journal.node old.journal.entries old.committed old.room c.args.more old.senders more c.self.invariant.senders c.reserve-3.ensures.roomier c.in_ok-reserve-3.ensures.room));
      settled = settled_same old.journal.node new.node old.journal.entries new.entries old.committed same entries old.settled c.self.invariant.settled;
    }

pub returns-clause-ok : goal.returns-clause-ok
returns-clause-ok c =
    let old = c.self.inside in
    let new = c.reserve.new.self in
    let more = c.reserve-3.new.self in
    let same : c.reserve.new.self.node ≡ c.self.inside.journal.node = c.reserve.ensures.node in
    let entries : c.reserve.new.self.entries ≡ c.self.inside.journal.entries = c.reserve.ensures.entries in
    same_parts new.node old.journal.node new.entries old.journal.entries old.committed old.committed (acknowledged_of more) (acknowledged_of old.senders) c.max-self-inside.result (max old.room c.args.more)
    same entries refl (acknowledged-roomier old.senders more c.reserve-3.ensures.roomier) c.max-self-inside.ensures
    ∙ ap (λ (r : RecordState). state r.node r.entries r.committed r.acknowledged (max r.room c.args.more)) c.self.view_is
