use Rattle.std.proofs.Common.{Option, sym, ap, ◌∙◌}
use Rattle.std.specs.Option.{option_copied}
use denote.Bor.{Bor}
use Rattle.market_events.specs.declared.events.Entry.{Entry}
use Rattle.market_events.specs.declared.replies.Reply.{Reply}
use Rattle.market_history.specs.Once.{reply_in, reply_of}
use Rattle.market_node.specs.Cores.{CoreState}
use Rattle.market_node.proofs.ReadLaws.{of_entry}
use Rattle.market_node.proofs.KeptLaws.{reply_absent, reply_open, reply_read}
use Rattle.market_node.proofs.lane_core.LaneCore.kept.Goals as goal

pub returns-in_err-get : goal.returns-in_err-get
returns-in_err-get c =
    ap (λ (o : Option (Bor Reply)). option_copied o) c.from_residual.ensures
    ∙ sym (reply_absent _ _ _ _ c.args.id c.self.invariant.keeps (sym c.in_err-get.ensures.value))
    ∙ ap (λ (s : CoreState). reply_of s.entries c.args.id) c.self.view_is

pub returns-in_err-place : goal.returns-in_err-place
returns-in_err-place c =
    ap (λ (o : Option (Bor Reply)). option_copied o) c.from_residual-in_err-place.ensures
    ∙ sym (reply_open _ _ _ _ c.args.id c.in_ok-get.field-0.now c.self.invariant.keeps (sym c.in_ok-get.ensures.value) c.in_err-place.was)
    ∙ ap (λ (s : CoreState). reply_of s.entries c.args.id) c.self.view_is

pub returns-in_err-get-2 : goal.returns-in_err-get-2
returns-in_err-get-2 c =
    ap (λ (o : Option (Bor Reply)). option_copied o) c.from_residual-in_err-get-2.ensures
    ∙ ap (λ (o : Option (Bor Entry)). of_entry (reply_in c.args.id) (option_copied o)) (sym c.in_err-get-2.was)
    ∙ reply_read _ _ _ _ _ c.args.id c.in_ok-get.field-0.now c.in_ok-place.place c.get-2.result c.self.invariant.keeps c.in_ok-get.ensures.value c.in_ok-place.was c.get-2.ensures.lookup
    (c.entries.ensures.value ∙ c.journal.ensures.entries)
    ∙ ap (λ (s : CoreState). reply_of s.entries c.args.id) c.self.view_is

pub returns : goal.returns
returns c =
    c.reply_in.ensures
    ∙ ap (λ (o : Option (Bor Entry)). of_entry (reply_in c.args.id) (option_copied o)) (sym c.in_ok-get-2.was)
    ∙ reply_read _ _ _ _ _ c.args.id c.in_ok-get.field-0.now c.in_ok-place.place c.get-2.result c.self.invariant.keeps c.in_ok-get.ensures.value c.in_ok-place.was c.get-2.ensures.lookup
    (c.entries.ensures.value ∙ c.journal.ensures.entries)
    ∙ ap (λ (s : CoreState). reply_of s.entries c.args.id) c.self.view_is
