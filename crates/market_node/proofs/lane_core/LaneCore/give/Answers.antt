use Rattle.std.proofs.Common.{◌≤◌, rules, ap, subst, sym, ◌∙◌, arith}
use denote.Enum.Bare.{same_true}
use Rattle.market_events.specs.declared.bodies.Body.TheVariants as body
use Rattle.market_events.specs.declared.events.What.TheVariants.{Given}
use Rattle.market_events.specs.declared.links.Link.{Link}
use Rattle.market_events.specs.declared.roles.TheConstants.{SERVICES}
use Rattle.market_history.specs.contracts.schedule.Give.{the_type}
use Rattle.market_history.specs.Blocks.{Out, with_out, with_what}
use Rattle.market_history.specs.Journals.{IsLane}
use Rattle.market_history.specs.Once.{give_of}
use Rattle.market_history.specs.Stamps.{clock_before}
use Rattle.market_history.proofs.CoreGrow.{grow-given}
use Rattle.market_node.specs.Cores.{CoreState, with_entries}
use Rattle.market_node.specs.Records.{RecordState}
use Rattle.market_node.proofs.LaneLaws.{asks, clock_moved, moved, not_so}
use Rattle.market_node.proofs.lane_core.LaneCore.give.Goals as goal

pub make-requires-clause-clock : goal.make-requires-clause-clock
make-requires-clause-clock c =
    let risen = clock_moved c.self.inside.recorder c.reserve.new.self c.give.new.self (Given c.args.request.now) _ _ c.in_ok-reserve.ensures.ok c.give.ensures in
    let seen = ap (λ (s : CoreState). clock_before s.entries) c.self.view_is in
    let low = c.requires.clock in
    omega arith

pub invariant_of-self-2 : goal.invariant_of-self-2
invariant_of-self-2 c =
    let is = moved c.self.inside.recorder c.reserve.new.self c.give.new.self c.make.new.self (Given c.args.request.now) (Out.Makes c.asking_link.result (body.Asked c.args.request.now)) _ _ _
    c.in_ok-reserve.ensures.ok c.give.ensures c.make.ensures
    in
    record {
      lane = subst IsLane (sym (ap (λ (s : CoreState). s.node) is)) c.self.invariant.lane;
      keeps = asks c.self.inside.recorder.entries c.make.new.self.entries c.entries.result.now c.args.request.now c.asking_link.result (body.Asked c.args.request.now) _ _ _ _ c.self.invariant.keeps
          (ap (λ (s : CoreState). give_of s.entries c.args.request.now) c.self.view_is
          ∙ sym c.judge-give.ensures
          ∙ same_true the_type (search rules) _ _ (not_so _ c.if-ne.ensures))
          c.in_ok-keep.ensures.each
          (c.entries.ensures.value ∙ c.journal.ensures.entries ∙ ap (λ (s : RecordState). s.entries) c.in_ok-reserve.ensures.ok)
          (ap (λ (s : CoreState). s.entries) is);
    }

pub returns-clause-asked : goal.returns-clause-asked
returns-clause-asked c asked =
    moved c.self.inside.recorder c.reserve.new.self c.give.new.self c.make.new.self (Given c.args.request.now) (Out.Makes c.asking_link.result (body.Asked c.args.request.now)) _ _ _
    c.in_ok-reserve.ensures.ok c.give.ensures c.make.ensures
    ∙ ap (λ (s : CoreState). with_entries s (with_out (with_what s.entries (Given c.args.request.now)) (Out.Makes c.asking_link.result (body.Asked c.args.request.now)))) c.self.view_is
    ∙ ap (λ (to : Link). with_entries c.args.self.now (with_out (with_what c.args.self.now.entries (Given c.args.request.now)) (Out.Makes to (body.Asked c.args.request.now)))) c.asking_link.ensures
    ∙ sym (ap (λ es. with_entries c.args.self.now es)
    (grow-given c.args.self.now.node c.args.self.now.entries c.args.request.now (subst (λ (s : CoreState). SERVICES ≤ s.node) c.self.view_is c.self.invariant.lane.0)))
