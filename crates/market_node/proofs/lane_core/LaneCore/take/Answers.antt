use Rattle.std.proofs.Common.{◌≡◌, ◌≤◌, true, rules, ap, subst, sym, ◌∙◌, arith}
use denote.Enum.Bare.{same_true}
use Rattle.market_events.specs.declared.bodies.Body.TheVariants as body
use Rattle.market_events.specs.declared.events.Event.{Event}
use Rattle.market_events.specs.declared.events.Offer.TheVariants as offer
use Rattle.market_events.specs.declared.events.What.TheVariants.{Taken}
use Rattle.market_events.specs.declared.replies.Reply.{Reply}
use Rattle.market_events.specs.contracts.events.Offer.{the_type}
use Rattle.market_events.specs.Carried.{carries}
use Rattle.market_events.specs.Offers.{offer_of}
use Rattle.market_events.specs.declared.roles.TheConstants.{SERVICES}
use Rattle.market_history.specs.Blocks.{Out, with_out, with_what}
use Rattle.market_history.specs.Causality.{events_taken}
use Rattle.market_history.specs.Journals.{IsLane}
use Rattle.market_history.specs.Stamps.{clock_before}
use Rattle.market_history.proofs.CoreGrow.{grow-told}
use Rattle.market_history.proofs.ReplyLaws.{told-kept}
use Rattle.market_node.specs.Cores.{CoreState, with_entries}
use Rattle.market_node.specs.Keeping.{IsAwaitedBy, is_awaited}
use Rattle.market_node.specs.Records.{RecordState}
use Rattle.market_node.proofs.LaneLaws.{answers, clock_moved, moved, not_so}
use Rattle.market_node.proofs.lane_core.LaneCore.take.Goals as goal

pub answer-requires-clause-kept : goal.answer-requires-clause-kept
answer-requires-clause-kept c =
    let told : c.args.event.now.body ≡ body.Told c.in-Some.id c.in_ok-reply.reply = c.in-Some.ensures.some ∙ ap (λ (r : Reply). body.Told c.in-Some.id r) (sym c.in_ok-reply.ensures) in
    told-kept c.args.event.now.link c.in-Some.id c.in_ok-reply.reply (subst (λ b. carries c.args.event.now.link b ≡ true) told c.requires.arrives.carried)

pub answer-requires-clause-clock : goal.answer-requires-clause-clock
answer-requires-clause-clock c =
    let risen = clock_moved c.self.inside.recorder c.reserve.new.self c.take.new.self (Taken c.in_ok-taken.taken) _ _ c.in_ok-reserve.ensures.ok c.take.ensures in
    let seen = ap (λ (s : CoreState). clock_before s.entries) c.self.view_is in
    let same = ap (λ (e : Event). e.clock) c.in_ok-taken.ensures in
    let low = c.requires.arrives.clock in
    omega arith

pub invariant_of-self-2 : goal.invariant_of-self-2
invariant_of-self-2 c =
    let is = moved c.self.inside.recorder c.reserve.new.self c.take.new.self c.answer.new.self (Taken c.in_ok-taken.taken) (Out.Answers c.in-Some.id c.in_ok-reply.reply) _ _ _
    c.in_ok-reserve.ensures.ok c.take.ensures c.answer.ensures
    in
    let due : c.offer-offer.result ≡ offer.Take = same_true the_type (search rules) _ _ (not_so _ c.if-ne.ensures) in
    let awaits : IsAwaitedBy c.args.self.now.entries c.args.event.now.body =
    c.requires.awaited (ap (λ (s : CoreState). offer_of s.node (events_taken s.entries) c.args.event.now) (sym c.self.view_is) ∙ sym c.offer-offer.ensures ∙ due)
    in
    let awaited : is_awaited c.args.self.now.entries c.in-Some.id ≡ true = subst (λ b. IsAwaitedBy c.args.self.now.entries b) c.in-Some.ensures.some awaits in
    record {
      lane = subst IsLane (sym (ap (λ (s : CoreState). s.node) is)) c.self.invariant.lane;
      keeps = answers c.self.inside.recorder.entries c.answer.new.self.entries c.entries.result.now c.in_ok-taken.taken c.in-Some.id c.in_ok-reply.reply _ _ _ _ c.self.invariant.keeps
          (ap (λ (s : CoreState). is_awaited s.entries c.in-Some.id) c.self.view_is ∙ awaited)
          c.note_answer.ensures
          (c.entries.ensures.value ∙ c.journal.ensures.entries ∙ ap (λ (s : RecordState). s.entries) c.in_ok-reserve.ensures.ok)
          (ap (λ (s : CoreState). s.entries) is);
    }

pub returns-clause-taken : goal.returns-clause-taken
returns-clause-taken c due =
    moved c.self.inside.recorder c.reserve.new.self c.take.new.self c.answer.new.self (Taken c.in_ok-taken.taken) (Out.Answers c.in-Some.id c.in_ok-reply.reply) _ _ _
    c.in_ok-reserve.ensures.ok c.take.ensures c.answer.ensures
    ∙ ap (λ (s : CoreState). with_entries s (with_out (with_what s.entries (Taken c.in_ok-taken.taken)) (Out.Answers c.in-Some.id c.in_ok-reply.reply))) c.self.view_is
    ∙ ap (λ (e : Event). with_entries c.args.self.now (with_out (with_what c.args.self.now.entries (Taken e)) (Out.Answers c.in-Some.id c.in_ok-reply.reply))) c.in_ok-taken.ensures
    ∙ sym (ap (λ es. with_entries c.args.self.now es)
    (grow-told c.args.self.now.node c.args.self.now.entries c.args.event.now c.in-Some.id c.in_ok-reply.reply (subst (λ (s : CoreState). SERVICES ≤ s.node) c.self.view_is c.self.invariant.lane.0)
    (c.in-Some.ensures.some ∙ ap (λ (r : Reply). body.Told c.in-Some.id r) (sym c.in_ok-reply.ensures))))
