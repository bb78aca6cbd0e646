use Rattle.std.proofs.Common.{◌≡◌, ◌+◌, ◌<◌, ◌++◌, None, List, length, drop, ap, refl, sym, ◌∙◌, arith}
use Rattle.std.specs.List.{flat_map, slice_index_or, slice_set}
use Rattle.market_events.specs.declared.events.Event.{Event}
use Rattle.market_rings.specs.NodeEnds.{NodeEnds, events_taken, events_waiting, in_at}
use Rattle.market_turns.specs.Turns.{arrivals}
use Rattle.market_turns.proofs.Offers.{offered_can, offered_front}
use Rattle.market_turns.proofs.Slots.{drop_one, changed_here, changed_more}
use Rattle.market_turns.proofs.taking.take_events.Goals as goal

pub offer_all-requires : goal.offer_all-requires
offer_all-requires g c =
    let i = c.loop-slot.slot in
    let ins = c.args.ends.now.ins in
    let below : c.loop-slot.slot < length c.args.ends.now.ins = omega (arith, c.loop-slot-test.true, c.slots-slot-end.ensures.ins) in
    let here = changed_here events_taken None ins i below in
    let events : c.deref.result.now ≡ events_waiting (slice_index_or c.args.ends.now.ins c.loop-slot.slot None) =
    c.deref.ensures.value ∙ c.in_ok-events.ensures.events ∙ ap (λ (ends : NodeEnds). events_waiting (in_at ends i)) c.loop-slot.invariant.0 ∙ ap events_waiting here in
    let next : flat_map events_waiting (drop c.loop-slot.slot c.args.ends.now.ins) ≡ c.deref.result.now ++ flat_map events_waiting (drop (c.loop-slot.slot + 1) c.args.ends.now.ins) =
    ap (flat_map events_waiting) (drop_one ins i None below) ∙ ap (λ (es : List Event). es ++ flat_map events_waiting (drop (i + 1) ins)) (sym events) in
    offered_can g.C.Core.can_take (g.C.Core.state c.args.core.now) (arrivals c.args.ends.now) (g.C.Core.state c.loop-slot.core) (flat_map events_waiting (drop i ins)) c.deref.result.now
    (flat_map events_waiting (drop (i + 1) ins)) c.loop-slot.invariant.1 next

pub loop-slot-preserved : goal.loop-slot-preserved
loop-slot-preserved g c =
    let i = c.loop-slot.slot in
    let ins = c.args.ends.now.ins in
    let below : c.loop-slot.slot < length c.args.ends.now.ins = omega (arith, c.loop-slot-test.true, c.slots-slot-end.ensures.ins) in
    let here = changed_here events_taken None ins i below in
    let events : c.deref.result.now ≡ events_waiting (slice_index_or c.args.ends.now.ins c.loop-slot.slot None) =
    c.deref.ensures.value ∙ c.in_ok-events.ensures.events ∙ ap (λ (ends : NodeEnds). events_waiting (in_at ends i)) c.loop-slot.invariant.0 ∙ ap events_waiting here in
    let next : flat_map events_waiting (drop c.loop-slot.slot c.args.ends.now.ins) ≡ c.deref.result.now ++ flat_map events_waiting (drop (c.loop-slot.slot + 1) c.args.ends.now.ins) =
    ap (flat_map events_waiting) (drop_one ins i None below) ∙ ap (λ (es : List Event). es ++ flat_map events_waiting (drop (i + 1) ins)) (sym events) in (
      c.in_ok-events.ensures.taken
          ∙ ap (λ (ends : NodeEnds). record ends { ins = slice_set ends.ins i (events_taken (slice_index_or ends.ins i None)) }) c.loop-slot.invariant.0
          ∙ ap (λ ends. record c.args.ends.now { ins = ends }) (changed_more events_taken None ins _ i below refl),
      offered_front g.C.Core.can_take (g.C.Core.state c.args.core.now) (arrivals c.args.ends.now) (g.C.Core.state c.loop-slot.core) (g.C.Core.state c.offer_all.new.core)
          (flat_map events_waiting (drop i ins)) c.deref.result.now (flat_map events_waiting (drop (i + 1) ins)) c.loop-slot.invariant.1 next c.in_ok-offer_all.ensures,
    )
