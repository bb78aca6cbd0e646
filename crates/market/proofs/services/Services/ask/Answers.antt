use Rattle.std.proofs.Common.{◌≡◌, Some, sym, ◌∙◌, subst}
use Rattle.std.proofs.Math.Logic.{∥∥₁_elim}
use Rattle.std.proofs.lemmas.Bool.{false≢true}
use Rattle.market_events.specs.WellFormed.{IsReply}
use Rattle.market_events.specs.declared.replies.Reply.{Reply}
use Rattle.market_history.specs.Acts.{no_acts}
use Rattle.market.specs.Carrying.{IsTrace, with_request}
use Rattle.market_history.specs.Sequential.{acts_after, sequential_reply}
use Rattle.market.proofs.Carrying.Served.{next_answered, next_told, next_reply_formed, serves_more, formed_reply, formed_is}
use Rattle.market.proofs.services.Services.ask.Goals as goal

-- the same in an option
same_in : (a b : Reply) → Some a ≡ Some b → a ≡ b
same_in a b e = cc

pub give-requires : goal.give-requires
give-requires c =
    ∥∥₁_elim c.requires.next squash₁
    (λ it. ∣ (it.1.taken, it.1.stand, (next_answered c.args.self.now it.0 c.args.request.now it.1 it.2 c.requires.formed).fit) ∣₁)

pub carry-requires : goal.carry-requires
carry-requires c =
    ∥∥₁_elim c.requires.next squash₁
    (λ it.
    let answered = next_answered c.args.self.now it.0 c.args.request.now it.1 it.2 c.requires.formed in
    ∣ (
      with_request it.1.taken c.args.request.now,
      c.in_ok-made.ensures.stands_on it.1.taken it.1.stand answered.fit,
      (answered.trace, subst (λ made. IsTrace (with_request it.1.taken c.args.request.now) made answered.trace) (sym (c.in_ok-made.ensures.made it.1.taken it.1.stand answered.fit)) answered.carried),
    ) ∣₁)

pub unreachable-requires : goal.unreachable-requires
unreachable-requires c =
    ∥∥₁_elim c.requires.next (λ x y. absurd x)
    (λ it.
    let answered = next_answered c.args.self.now it.0 c.args.request.now it.1 it.2 c.requires.formed in
    let carried = subst (λ made. IsTrace (with_request it.1.taken c.args.request.now) made answered.trace) (sym (c.in_ok-made.ensures.made it.1.taken it.1.stand answered.fit)) answered.carried in
    let told = c.in_ok-reply.ensures.told (with_request it.1.taken c.args.request.now) answered.trace (c.in_ok-made.ensures.stands_on it.1.taken it.1.stand answered.fit) carried in
    cc (sym c.in-None.is ∙ told ∙ next_told c.args.self.now it.0 c.args.request.now it.1 it.2 c.requires.formed))

pub returns-clause-replied : goal.returns-clause-replied
returns-clause-replied c = λ requests serves next.
    let answered = next_answered c.args.self.now requests c.args.request.now serves next c.requires.formed in
    let carried = subst (λ made. IsTrace (with_request serves.taken c.args.request.now) made answered.trace) (sym (c.in_ok-made.ensures.made serves.taken serves.stand answered.fit)) answered.carried in
    same_in c.in-Some.reply (sequential_reply (acts_after no_acts requests) c.args.request.now)
    (sym c.in-Some.is ∙ c.in_ok-reply.ensures.told (with_request serves.taken c.args.request.now) answered.trace (c.in_ok-made.ensures.stands_on serves.taken serves.stand answered.fit) carried
    ∙ next_told c.args.self.now requests c.args.request.now serves next c.requires.formed)

pub returns-clause-serves_on : goal.returns-clause-serves_on
returns-clause-serves_on c = λ requests serves next.
    let answered = next_answered c.args.self.now requests c.args.request.now serves next c.requires.formed in
    let carried = subst (λ made. IsTrace (with_request serves.taken c.args.request.now) made answered.trace) (sym (c.in_ok-made.ensures.made serves.taken serves.stand answered.fit)) answered.carried in
    serves_more c.args.self.now requests c.args.request.now serves next c.requires.formed c.carry.new.self
    (c.in_ok-reply.ensures.stands_on (with_request serves.taken c.args.request.now) answered.trace (c.in_ok-made.ensures.stands_on serves.taken serves.stand answered.fit) carried)

pub returns-clause-formed : goal.returns-clause-formed
returns-clause-formed c =
    formed_reply c.in-Some.reply
    (λ no. ∥∥₁_elim c.requires.next (λ x y. absurd x)
    (λ it.
    let answered = next_answered c.args.self.now it.0 c.args.request.now it.1 it.2 c.requires.formed in
    let carried = subst (λ made. IsTrace (with_request it.1.taken c.args.request.now) made answered.trace) (sym (c.in_ok-made.ensures.made it.1.taken it.1.stand answered.fit)) answered.carried in
    let same = same_in c.in-Some.reply (sequential_reply (acts_after no_acts it.0) c.args.request.now)
    (sym c.in-Some.is ∙ c.in_ok-reply.ensures.told (with_request it.1.taken c.args.request.now) answered.trace (c.in_ok-made.ensures.stands_on it.1.taken it.1.stand answered.fit) carried
    ∙ next_told c.args.self.now it.0 c.args.request.now it.1 it.2 c.requires.formed) in
    false≢true (sym no ∙ formed_is c.in-Some.reply (subst IsReply (sym same) (next_reply_formed c.args.self.now it.0 c.args.request.now it.1 it.2 c.requires.formed)))))
