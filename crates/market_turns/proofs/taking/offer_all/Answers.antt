use Rattle.std.proofs.Common.{◌≡◌, ◌+◌, ◌∷◌, drop, ap, sym, ◌∙◌}
use Rattle.std.proofs.lemmas.List.{drop_all}
use Rattle.market_events.specs.declared.events.Event.{Event}
use Rattle.market_turns.proofs.Offers.{offered_head, offered_next, offered_last}
use Rattle.market_turns.proofs.Slots.{drop_one}
use Rattle.market_turns.proofs.taking.offer_all.Goals as goal

pub offer-requires : goal.offer-requires
offer-requires g c =
    let i = c.loop-event.event-index in
    let events = c.args.events.now in
    let event = c.event-item.result in
    let next : drop c.loop-event.event-index c.args.events.now ≡ c.event-item.result ∷ drop (c.loop-event.event-index + 1) c.args.events.now =
    drop_one events i event c.loop-event-test.true ∙ ap (λ (e : Event). e ∷ drop (i + 1) events) (sym c.event-item.is) in
    offered_head g.C.Core.can_take (g.C.Core.state c.args.core.now) events (g.C.Core.state c.loop-event.core) (drop i events) (drop (i + 1) events) event c.loop-event.invariant next

pub loop-event-preserved : goal.loop-event-preserved
loop-event-preserved g c =
    let i = c.loop-event.event-index in
    let events = c.args.events.now in
    let event = c.event-item.result in
    let next : drop c.loop-event.event-index c.args.events.now ≡ c.event-item.result ∷ drop (c.loop-event.event-index + 1) c.args.events.now =
    drop_one events i event c.loop-event-test.true ∙ ap (λ (e : Event). e ∷ drop (i + 1) events) (sym c.event-item.is) in
    offered_next g.C.Core.can_take (g.C.Core.state c.args.core.now) events (g.C.Core.state c.loop-event.core) (g.C.Core.state c.offer.new.self) (drop i events) (drop (i + 1) events) event c.loop-event.invariant next
    c.in_ok-offer.ensures.offered

pub returns : goal.returns
returns g c =
    offered_last g.C.Core.can_take (g.C.Core.state c.args.core.now) c.args.events.now (g.C.Core.state c.loop-event.core) (drop c.loop-event.event-index c.args.events.now) c.loop-event.invariant
    (drop_all c.loop-event.event-index c.args.events.now c.loop-event-test.false)
