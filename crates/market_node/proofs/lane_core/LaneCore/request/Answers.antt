use Rattle.std.proofs.Common.{Option, sym, ap, ◌∙◌}
use Rattle.std.specs.Option.{option_copied}
use denote.Bor.{Bor}
use Rattle.market_events.specs.declared.events.Entry.{Entry}
use Rattle.market_events.specs.declared.requests.Request.{Request}
use Rattle.market_history.specs.Once.{requests_given, with_id}
use Rattle.market_node.specs.Cores.{CoreState}
use Rattle.market_node.specs.Keeping.{given_in}
use Rattle.market_node.proofs.ReadLaws.{of_entry}
use Rattle.market_node.proofs.KeptLaws.{request_absent, request_read}
use Rattle.market_node.proofs.lane_core.LaneCore.request.Goals as goal

pub returns-in_err-place : goal.returns-in_err-place
returns-in_err-place c =
    ap (λ (o : Option (Bor Request)). option_copied o) c.from_residual.ensures
    ∙ sym (request_absent _ _ _ _ c.args.id c.self.invariant.keeps (sym c.in_err-place.ensures.value))
    ∙ ap (λ (s : CoreState). with_id c.args.id (requests_given s.entries)) c.self.view_is

pub returns-in_err-get : goal.returns-in_err-get
returns-in_err-get c =
    ap (λ (o : Option (Bor Request)). option_copied o) c.from_residual-in_err-get.ensures
    ∙ ap (λ (o : Option (Bor Entry)). of_entry (given_in c.args.id) (option_copied o)) (sym c.in_err-get.was)
    ∙ request_read _ _ _ _ _ c.args.id c.in_ok-place.field-0.now c.get-2.result c.self.invariant.keeps c.in_ok-place.ensures.value c.get-2.ensures.lookup
    (c.entries.ensures.value ∙ c.journal.ensures.entries)
    ∙ ap (λ (s : CoreState). with_id c.args.id (requests_given s.entries)) c.self.view_is

pub returns : goal.returns
returns c =
    c.given_in.ensures
    ∙ ap (λ (o : Option (Bor Entry)). of_entry (given_in c.args.id) (option_copied o)) (sym c.in_ok-get.was)
    ∙ request_read _ _ _ _ _ c.args.id c.in_ok-place.field-0.now c.get-2.result c.self.invariant.keeps c.in_ok-place.ensures.value c.get-2.ensures.lookup
    (c.entries.ensures.value ∙ c.journal.ensures.entries)
    ∙ ap (λ (s : CoreState). with_id c.args.id (requests_given s.entries)) c.self.view_is
