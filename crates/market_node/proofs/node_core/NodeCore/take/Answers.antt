use Rattle.std.proofs.Common.{rules, ◌≡◌, ◌-◌, max, length, ap, arith}
use Rattle.market_events.specs.declared.events.Offer.TheVariants as offer
use Rattle.market_history.specs.Blocks.{inputs_of, steps_of}
use Rattle.market_history.specs.Stamps.{clock_before}
use Rattle.market_node.specs.Cores.{CoreState}
use Rattle.market_node.proofs.ServiceLaws.{fit_of, TookIt, took_clock, took_can, took_grown, made_node, made_committed, made_acknowledged, grown_core, can_make_all, core_taken}
use Rattle.market_node.proofs.node_core.NodeCore.take.Goals as goal

pub make_all-requires-clause-each : goal.make_all-requires-clause-each
make_all-requires-clause-each g c =
    let role = g.S.Service.role in
    let holds = g.S.Service.holds in
    let old = c.self.inside.recorder in
    let event = c.args.event.now in
    let takes : c.offer-offer.result ≡ offer.Take = search rules in
    let fit = fit_of old c.args.self.now role event c.offer-offer.result c.self.view_is c.requires.fits c.offer-offer.ensures takes in
    let made = c.in_ok-accept.ensures.made (steps_of role (inputs_of old.entries)) c.self.invariant.stands fit in
    let it : TookIt c.self.inside.recorder c.reserve.new.self c.take.new.self c.args.event.now c.in_ok-taken.taken (max c.self.inside.recorder.room 9) (c.reserve.new.self.room - 1) = record { held_is = c.in_ok-reserve.ensures.ok; taken_is = c.in_ok-taken.ensures; took_is = c.take.ensures } in
    took_can old c.reserve.new.self c.take.new.self event c.in_ok-taken.taken (max old.room 9) (c.reserve.new.self.room - 1) it c.accept.new.outs
    (can_make_all role holds old c.self.inside.service event.link event.body c.accept.new.outs c.self.invariant fit made)

pub make_all-requires-clause-clock : goal.make_all-requires-clause-clock
make_all-requires-clause-clock g c =
    let role = g.S.Service.role in
    let holds = g.S.Service.holds in
    let old = c.self.inside.recorder in
    let event = c.args.event.now in
    let takes : c.offer-offer.result ≡ offer.Take = search rules in
    let fit = fit_of old c.args.self.now role event c.offer-offer.result c.self.view_is c.requires.fits c.offer-offer.ensures takes in
    let made = c.in_ok-accept.ensures.made (steps_of role (inputs_of old.entries)) c.self.invariant.stands fit in
    let it : TookIt c.self.inside.recorder c.reserve.new.self c.take.new.self c.args.event.now c.in_ok-taken.taken (max c.self.inside.recorder.room 9) (c.reserve.new.self.room - 1) = record { held_is = c.in_ok-reserve.ensures.ok; taken_is = c.in_ok-taken.ensures; took_is = c.take.ensures } in
    let can = can_make_all role holds old c.self.inside.service event.link event.body c.accept.new.outs c.self.invariant fit made in
    let before : clock_before c.self.inside.recorder.entries ≡ clock_before c.args.self.now.entries = ap (λ (s : CoreState). clock_before s.entries) c.self.view_is in
    omega (arith, can.few, c.requires.arrives.clock, took_clock old c.reserve.new.self c.take.new.self event c.in_ok-taken.taken (max old.room 9) (c.reserve.new.self.room - 1) it)

pub invariant_of-self-2 : goal.invariant_of-self-2
invariant_of-self-2 g c =
    let role = g.S.Service.role in
    let holds = g.S.Service.holds in
    let old = c.self.inside.recorder in
    let event = c.args.event.now in
    let takes : c.offer-offer.result ≡ offer.Take = search rules in
    let fit = fit_of old c.args.self.now role event c.offer-offer.result c.self.view_is c.requires.fits c.offer-offer.ensures takes in
    let made = c.in_ok-accept.ensures.made (steps_of role (inputs_of old.entries)) c.self.invariant.stands fit in
    let it : TookIt c.self.inside.recorder c.reserve.new.self c.take.new.self c.args.event.now c.in_ok-taken.taken (max c.self.inside.recorder.room 9) (c.reserve.new.self.room - 1) = record { held_is = c.in_ok-reserve.ensures.ok; taken_is = c.in_ok-taken.ensures; took_is = c.take.ensures } in
    let rest = c.take.new.self.room - length c.accept.new.outs in
    core_taken role holds old c.make_all.new.recorder c.self.inside.service c.accept.new.self event c.self.invariant
    (made_node old c.reserve.new.self c.take.new.self event c.in_ok-taken.taken (max old.room 9) (c.reserve.new.self.room - 1) it c.accept.new.outs c.make_all.new.recorder rest c.make_all.ensures)
    fit (c.in_ok-accept.ensures.kept (steps_of role (inputs_of old.entries)) c.self.invariant.stands fit)
    (took_grown old c.reserve.new.self c.take.new.self event c.in_ok-taken.taken (max old.room 9) (c.reserve.new.self.room - 1) it role c.accept.new.outs c.make_all.new.recorder rest c.self.invariant.node made c.make_all.ensures)

pub returns-clause-taken : goal.returns-clause-taken
returns-clause-taken g c = λ takes.
    let role = g.S.Service.role in
    let old = c.self.inside.recorder in
    let event = c.args.event.now in
    let fit = fit_of old c.args.self.now role event c.offer-offer.result c.self.view_is c.requires.fits c.offer-offer.ensures takes in
    let made = c.in_ok-accept.ensures.made (steps_of role (inputs_of old.entries)) c.self.invariant.stands fit in
    let it : TookIt c.self.inside.recorder c.reserve.new.self c.take.new.self c.args.event.now c.in_ok-taken.taken (max c.self.inside.recorder.room 9) (c.reserve.new.self.room - 1) = record { held_is = c.in_ok-reserve.ensures.ok; taken_is = c.in_ok-taken.ensures; took_is = c.take.ensures } in
    let rest = c.take.new.self.room - length c.accept.new.outs in
    grown_core old c.make_all.new.recorder c.args.self.now event c.self.view_is
    (made_node old c.reserve.new.self c.take.new.self event c.in_ok-taken.taken (max old.room 9) (c.reserve.new.self.room - 1) it c.accept.new.outs c.make_all.new.recorder rest c.make_all.ensures)
    (made_committed old c.reserve.new.self c.take.new.self event c.in_ok-taken.taken (max old.room 9) (c.reserve.new.self.room - 1) it c.accept.new.outs c.make_all.new.recorder rest c.make_all.ensures)
    (made_acknowledged old c.reserve.new.self c.take.new.self event c.in_ok-taken.taken (max old.room 9) (c.reserve.new.self.room - 1) it c.accept.new.outs c.make_all.new.recorder rest c.make_all.ensures)
    (took_grown old c.reserve.new.self c.take.new.self event c.in_ok-taken.taken (max old.room 9) (c.reserve.new.self.room - 1) it role c.accept.new.outs c.make_all.new.recorder rest c.self.invariant.node made c.make_all.ensures)
