use Rattle.std.proofs.Common.{◌<◌, ◌++◌, None, ap, sym, subst, ◌∙◌}
use Rattle.std.specs.Option.{option_or}
use Rattle.market_history.specs.Sequential.{reply_told}
use Rattle.market.proofs.Carrying.Passing.{StandsAt, IsCarrying, begins, can_pass, goes_on, lighter, empty_of_rest, stands_in_the_end, told_in_the_end}
use Rattle.market.proofs.Carrying.Weights.{weights}
use Rattle.market.proofs.services.Services.carry.Goals as goal

pub loop-link-init : goal.loop-link-init
loop-link-init c =
    subst (λ waiting. IsCarrying c.args.self.now c.args.self.now c.args.made waiting None) (sym (c.in_ok-append.ensures ∙ ap (λ waiting. waiting ++ c.args.made) c.new-waiting.ensures.items))
    (begins c.args.self.now c.args.made)

pub pass-requires : goal.pass-requires
pass-requires c =
    can_pass c.args.self.now c.loop-link.self c.args.made c.pop_front.new.self.items (c.in-Some.link, c.in-Some.body) c.loop-link.reply
    (subst (λ waiting. IsCarrying c.args.self.now c.loop-link.self c.args.made waiting c.loop-link.reply) c.in-Some.ensures.items c.loop-link.invariant) c.requires

pub loop-link-smaller : goal.loop-link-smaller
loop-link-smaller c =
    subst (λ waiting. weights waiting < weights c.loop-link.waiting.items) (sym c.in_ok-append-2.ensures)
    (subst (λ old. weights (c.pop_front.new.self.items ++ c.in_ok-made.made) < weights old) (sym c.in-Some.ensures.items)
    (lighter c.args.self.now c.loop-link.self c.args.made c.pop_front.new.self.items (c.in-Some.link, c.in-Some.body) c.loop-link.reply
    (subst (λ waiting. IsCarrying c.args.self.now c.loop-link.self c.args.made waiting c.loop-link.reply) c.in-Some.ensures.items c.loop-link.invariant) c.requires c.in_ok-made.made c.in_ok-made.ensures.made))

pub loop-link-preserved : goal.loop-link-preserved
loop-link-preserved c = λ taken trace stand carried.
    subst (λ reply. StandsAt c.pass.new.self c.append-in-Some.new.waiting.items reply taken trace) (sym (c.or-reply.ensures ∙ ap (λ o. option_or o c.loop-link.reply) (c.told.ensures c.in-Some.link)))
    (subst (λ waiting. StandsAt c.pass.new.self waiting (option_or (reply_told (c.in-Some.link, c.in-Some.body)) c.loop-link.reply) taken trace) (sym c.in_ok-append-2.ensures)
    (goes_on c.args.self.now c.loop-link.self c.args.made c.pop_front.new.self.items (c.in-Some.link, c.in-Some.body) c.loop-link.reply
    (subst (λ waiting. IsCarrying c.args.self.now c.loop-link.self c.args.made waiting c.loop-link.reply) c.in-Some.ensures.items c.loop-link.invariant)
    c.pass.new.self c.in_ok-made.made c.in_ok-made.ensures.made c.in_ok-made.ensures.stands_on taken trace stand carried))

pub returns-clause-told : goal.returns-clause-told
returns-clause-told c = λ taken trace stand carried.
    told_in_the_end c.args.self.now c.loop-link.self c.args.made c.loop-link.reply
    (subst (λ waiting. IsCarrying c.args.self.now c.loop-link.self c.args.made waiting c.loop-link.reply) (empty_of_rest c.loop-link.waiting.items (c.in_default.ensures.items ∙ c.in_default.ensures.rest)) c.loop-link.invariant)
    taken trace stand carried

pub returns-clause-stands_on : goal.returns-clause-stands_on
returns-clause-stands_on c = λ taken trace stand carried.
    stands_in_the_end c.args.self.now c.loop-link.self c.args.made c.loop-link.reply
    (subst (λ waiting. IsCarrying c.args.self.now c.loop-link.self c.args.made waiting c.loop-link.reply) (empty_of_rest c.loop-link.waiting.items (c.in_default.ensures.items ∙ c.in_default.ensures.rest)) c.loop-link.invariant)
    taken trace stand carried
