use Rattle.std.proofs.Common.{◌+◌, ◌&&◌, not, nat_le, length, is_some, if◌then◌else◌, ap, ◌∙◌}
use Rattle.market_events.specs.Carts.{has_key}
use Rattle.market_events.specs.WellFormed.{most_lines}
use Rattle.cart_service.proofs.Lines.{set-few}
use Rattle.cart_service.proofs.basket.Basket.set.Goals as goal

pub invariant_of-self-2 : goal.invariant_of-self-2
invariant_of-self-2 c = (
  set-few c.self.inside.lines.entries c.args.key (length c.insert.new.self.entries) (ap (λ lines. nat_le most_lines (length lines) && not (has_key lines c.args.key)) c.self.view_is ∙ c.requires)
      c.self.invariant.0
      (c.in_ok-insert.ensures.len ∙ ap (λ o. length c.self.inside.lines.entries + (if is_some o then 0 else 1)) c.in_ok-insert.ensures.old),
  c.in_ok-insert.ensures.ordered,
)
