use Rattle.std.proofs.Common.{sym, ◌∙◌}
use Rattle.std.proofs.Math.Logic.{∥∥₁_elim}
use Rattle.market.specs.Once.{kept_of}
use Rattle.market.proofs.Kept.Hands.{passes_over, is_next, takes_in}
use Rattle.market.proofs.hand.Hand.take.Goals as goal
use Rattle.market_history.specs.Once.{most_kept}

pub returns-then-not-can_keep : goal.returns-then-not-can_keep
returns-then-not-can_keep c = λ given stands. passes_over c.args.self.now given c.args.request.now stands (sym c.can_keep.ensures ∙ c.if-not-can_keep.true)

pub ask-requires-clause-next : goal.ask-requires-clause-next
ask-requires-clause-next c =
    ∥∥₁_elim c.requires.stands squash₁
    (λ it. ∣ (kept_of most_kept it.0, it.1.serves, is_next c.args.self.now it.0 c.args.request.now it.1 (sym c.can_keep.ensures ∙ c.if-not-can_keep.false)) ∣₁)

pub returns : goal.returns
returns c = λ given stands.
    let may = sym c.can_keep.ensures ∙ c.if-not-can_keep.false in
    let next = is_next c.args.self.now given c.args.request.now stands may in
    takes_in c.args.self.now given c.args.request.now stands _ c.in_ok-reply.reply may c.in_ok-keep.ensures.ok
    (c.in_ok-reply.ensures.replied (kept_of most_kept given) stands.serves next) (c.in_ok-reply.ensures.serves_on (kept_of most_kept given) stands.serves next)
