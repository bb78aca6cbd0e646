use Rattle.std.proofs.Common.{rules, ◌≡◌, ◌==◌, [], unwrap_or, if◌then◌else◌, ap, ◌∙◌}
use Rattle.std.specs.BTreeMap.{insert_entry}
use Rattle.std.proofs.lemmas.Result.{on_ok_weaker}
use Rattle.market_events.specs.Steps.{key_cmp}
use Rattle.cart_service.specs.Tables.{lines_at}
use Rattle.cart_service.proofs.Lines.{baskets_set}
use Rattle.cart_service.proofs.baskets.Baskets.set.Goals as goal

pub returns-in-Some-clause-ok : goal.returns-in-Some-clause-ok
returns-in-Some-clause-ok c =
    let sets = baskets_set c.self.inside.baskets.entries (c.get_mut.follows.lender c.set.new.self).entries c.args.customer c.set.new.self ((c.get_mut.follows.holds c.set.new.self).3 (search rules)).0 in
    on_ok_weaker c.set.result (λ set d.
    let is : c.set.new.self ≡ insert_entry key_cmp (lines_at c.args.self.now c.args.customer) c.args.key c.args.held
    = set ∙ ap (λ lines. insert_entry key_cmp lines c.args.key c.args.held) (ap (λ o. unwrap_or o []) c.in-Some.ensures.value ∙ ap (λ baskets. lines_at baskets c.args.customer) c.self.view_is) in
    sets d ∙ (λ i. if d == c.args.customer then is i else lines_at (c.self.view_is i) d)) c.set.ensures.ok
