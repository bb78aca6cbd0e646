use Rattle.std.proofs.Common.{rules, ◌≡◌, ◌∷◌, ◌++◌, map, ap, sym, ◌∙◌}
use Rattle.std.specs.Map.{keys_of}
use Rattle.std.specs.Map.Iter.{deref}
use Rattle.std.proofs.lemmas.Map.Iter.{iter_end, rest_so_far, rest_more}
use Rattle.market_events.specs.Carts.{first_gone}
use Rattle.market_events.specs.Looks.{is_live}
use Rattle.cart_replica.specs.Copy.{look_at}
use Rattle.cart_service.proofs.Lines.{first_gone-next, first_gone-none, none_gone-push}
use Rattle.cart_service.proofs.basket.Basket.first_gone.Goals as goal

pub loop-key-preserved : goal.loop-key-preserved
loop-key-preserved c =
    none_gone-push (look_at c.args.copy.now) deref c.loop-key.yielded c.in-Some.key c.loop-key.invariant
    (ap is_live (sym c.look.ensures.value) ∙ sym c.is_live.ensures ∙ c.if-not-is_live.false)

pub returns-then-not-is_live : goal.returns-then-not-is_live
returns-then-not-is_live c =
    let next : c.loop-key.key-iterator ≡ c.in-Some.key.now ∷ c.next.new.self = search (rules, rest_more) in
    let so_far : keys_of c.self.inside.lines.entries ≡ map deref c.loop-key.yielded ++ c.loop-key.key-iterator = search (rules, rest_so_far) in
    first_gone-next (look_at c.args.copy.now) c.self.inside.lines.entries (map deref c.loop-key.yielded) c.in-Some.key.now c.next.new.self
    (so_far ∙ ap (λ keys. map deref c.loop-key.yielded ++ keys) next) c.loop-key.invariant
    (ap is_live (sym c.look.ensures.value) ∙ sym c.is_live.ensures ∙ c.if-not-is_live.true)
    ∙ ap (first_gone (look_at c.args.copy.now)) c.self.view_is

pub returns : goal.returns
returns c =
    let all : map deref c.loop-key.yielded ≡ keys_of c.self.inside.lines.entries = search (rules, iter_end) in
    first_gone-none (look_at c.args.copy.now) c.self.inside.lines.entries (map deref c.loop-key.yielded) all c.loop-key.invariant ∙ ap (first_gone (look_at c.args.copy.now)) c.self.view_is
