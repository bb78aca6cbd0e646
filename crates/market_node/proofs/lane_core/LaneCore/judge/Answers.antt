use Rattle.std.proofs.Common.{◌≡◌, Option, None, Some, is_some, nat_lt, refl, sym, ap, ◌∙◌}
use Rattle.std.specs.Option.{option_copied}
use denote.Bor.{Bor}
use Rattle.market_events.specs.declared.replies.Reply.{Reply}
use Rattle.market_history.specs.Once.{give_by, give_of, most_kept, reply_of, requests_given, with_id}
use Rattle.market_node.specs.Cores.{CoreState}
use Rattle.market_node.proofs.WaitLaws.{judged}
use Rattle.market_node.proofs.lane_core.LaneCore.judge.Goals as goal

is_some-copied : (o : Option (Bor Reply)) → is_some o ≡ is_some (option_copied o)
is_some-copied None = refl
is_some-copied (Some x) = refl

pub returns : goal.returns
returns c =
    c.decide.ensures
    ∙ ap (λ a. give_by (option_copied c.request.result) a c.is_some-2.result (nat_lt c.self.inside.count most_kept) c.args.request.now) (c.is_some.ensures ∙ is_some-copied c.kept.result)
    ∙ ap (λ w. give_by (option_copied c.request.result) (is_some (option_copied c.kept.result)) w (nat_lt c.self.inside.count most_kept) c.args.request.now) c.is_some-2.ensures
    ∙ judged _ _ _ _ c.args.request.now (option_copied c.request.result) (option_copied c.kept.result) c.self.invariant.keeps
    (c.request.ensures ∙ sym (ap (λ (s : CoreState). with_id c.args.request.now.id (requests_given s.entries)) c.self.view_is))
    (c.kept.ensures ∙ sym (ap (λ (s : CoreState). reply_of s.entries c.args.request.now.id) c.self.view_is))
    ∙ ap (λ (s : CoreState). give_of s.entries c.args.request.now) c.self.view_is
