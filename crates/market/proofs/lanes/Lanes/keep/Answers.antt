use Rattle.std.proofs.Common.{◌≡◌, [], ◌∷◌, ◌++◌, length, arith, ap, ◌∙◌, cond, Some}
use Rattle.std.specs.BTreeMap.{is_at}
use Rattle.market.specs.Lanes.{kept_at, place_at}
use Rattle.market.proofs.Kept.Places.{one_kept}
use Rattle.market.proofs.lanes.Lanes.keep.Goals as goal
use Rattle.market_amounts.specs.Keys.{id_cmp}

pub invariant_of-self-2 : goal.invariant_of-self-2
invariant_of-self-2 c =
    let at : c.len.result ≡ length c.self.inside.kept.items = omega (arith, c.len.ensures, c.reserve.new.self.ok.0, ap length c.reserve.ensures.items) in
    one_kept c.self.inside.kept.items c.push.new.self.items c.self.inside.places.entries c.insert.new.self.entries c.self.inside.counts c.args.kept c.lane.result
    (ap (λ kept. kept_at kept c.args.kept.request.id) c.self.view_is ∙ c.requires.new_id)
    (c.in_ok-push.ensures.items ∙ ap (λ kept. kept ++ c.args.kept ∷ []) c.reserve.ensures.items)
    (λ id. c.in_ok-insert.ensures.updates.0 id ∙ ap (λ n. cond (is_at (id_cmp c.args.kept.request.id) id) (Some n) (place_at c.self.inside.places.entries id)) at)
    c.lane.ensures.value (omega arith) c.requires.formed c.self.invariant
