use Rattle.std.proofs.Common.{ap, sym, ◌∙◌}
use Rattle.std.specs.Map.Iter.{deref_pair}
use Rattle.market_events.specs.Carts.{priced_by, priced}
use Rattle.cart_replica.specs.Copy.{look_at}
use Rattle.cart_service.proofs.Lines.{priced-push, priced-none}
use Rattle.cart_service.proofs.basket.Basket.priced.Goals as goal

pub loop-key-preserved-in-Continue-1 : goal.loop-key-preserved-in-Continue-1
loop-key-preserved-in-Continue-1 c =
    c.in_ok-push.ensures.items
    ∙ priced-push (priced (look_at c.args.copy.now)) deref_pair c.loop-key.yielded (c.in-Some.key, c.in-Some.held) c.loop-key.lines.items c.in-Some-priced_line.line c.loop-key.invariant
    (ap (priced_by c.in-Some.key.now c.in-Some.held.now) (sym c.look.ensures.value) ∙ sym c.priced_line.ensures ∙ c.in-Some-priced_line.is)

pub loop-key-preserved : goal.loop-key-preserved
loop-key-preserved c =
    priced-none (priced (look_at c.args.copy.now)) deref_pair c.loop-key.yielded (c.in-Some.key, c.in-Some.held) c.loop-key.lines.items c.loop-key.invariant
    (ap (priced_by c.in-Some.key.now c.in-Some.held.now) (sym c.look.ensures.value) ∙ sym c.priced_line.ensures ∙ c.in_default.is)
