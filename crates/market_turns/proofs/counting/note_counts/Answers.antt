use Rattle.std.proofs.Common.{◌≡◌, ◌<◌, None, length, refl, ap, sym, ◌∙◌, arith}
use Rattle.std.specs.List.{slice_index_or, slice_set}
use Rattle.market_events.specs.Links.{sender_of}
use Rattle.market_rings.specs.NodeEnds.{NodeEnds, counts_taken, counts_waiting, out_at}
use Rattle.market_turns.proofs.Noting.{noted_none, noted_link}
use Rattle.market_turns.proofs.Slots.{changed_here, changed_more}
use Rattle.market_turns.proofs.counting.note_counts.Goals as goal

pub loop-slot-preserved-in_default : goal.loop-slot-preserved-in_default
loop-slot-preserved-in_default g c =
    let i = c.loop-slot.slot in
    let outs = c.args.ends.now.outs in
    let below : c.loop-slot.slot < length c.args.ends.now.outs = omega (arith, c.loop-slot-test.true, c.slots-slot-end.ensures.outs) in (
      c.in_ok-counts.ensures.taken
          ∙ ap (λ (ends : NodeEnds). record ends { outs = slice_set ends.outs i (counts_taken (slice_index_or ends.outs i None)) }) c.loop-slot.invariant.0
          ∙ ap (λ ends. record c.args.ends.now { outs = ends }) (changed_more counts_taken None outs _ i below refl),
      noted_none (g.C.Core.state c.args.core.now) c.args.ends.now (g.C.Core.state c.loop-slot.core) i c.loop-slot.invariant.1
          (λ link is from at. let there = c.link_from.ensures.found link is (from ∙ sym (c.node-node.ensures ∙ c.journal.ensures.node)) at in let none = c.in_default.is in let no : ⊥ = cc in no),
    )

pub loop-slot-preserved : goal.loop-slot-preserved
loop-slot-preserved g c =
    let i = c.loop-slot.slot in
    let outs = c.args.ends.now.outs in
    let below : c.loop-slot.slot < length c.args.ends.now.outs = omega (arith, c.loop-slot-test.true, c.slots-slot-end.ensures.outs) in
    let from : sender_of c.in-Some.link ≡ (g.C.Core.state c.args.core.now).node = c.in-Some.ensures.from ∙ c.node-node.ensures ∙ c.journal.ensures.node in
    let counts : c.deref.result.now ≡ counts_waiting (out_at c.args.ends.now c.loop-slot.slot) =
    c.deref.ensures.value ∙ c.in_ok-counts.ensures.counts ∙ ap (λ (ends : NodeEnds). counts_waiting (out_at ends i)) c.loop-slot.invariant.0
    ∙ ap counts_waiting (changed_here counts_taken None outs i below) in (
      c.in_ok-counts.ensures.taken
          ∙ ap (λ (ends : NodeEnds). record ends { outs = slice_set ends.outs i (counts_taken (slice_index_or ends.outs i None)) }) c.loop-slot.invariant.0
          ∙ ap (λ ends. record c.args.ends.now { outs = ends }) (changed_more counts_taken None outs _ i below refl),
      noted_link (g.C.Core.state c.args.core.now) c.args.ends.now (g.C.Core.state c.loop-slot.core) (g.C.Core.state c.note_all.new.core) i c.in-Some.link c.deref.result.now c.loop-slot.invariant.1
          c.in-Some.ensures.link from c.in-Some.ensures.at_slot (omega (arith, c.loop-slot-test.true, c.slots-slot-end.ensures.full, c.journal.ensures.slots)) counts c.note_all.ensures
          (λ other is there at. let one = c.link_from.ensures.found other is (there ∙ sym (c.node-node.ensures ∙ c.journal.ensures.node)) at in let here = c.in-Some.is in cc),
    )
