use Rattle.std.proofs.Common.{◌≡◌, ℕ, rules, map, take, IfOk, vec_items, ap, ◌∙◌}
use Rattle.std.proofs.lemmas.Iterator.{YieldsList-from_map, YieldsList-from_take, items_from_collect}
use Rattle.std.proofs.lemmas.Iterator.Consumers.{YieldsList-from_rest, YieldsList-at}
use Rattle.market_events.proofs.NamedCells.Keyed.{map-same, if_ok}
use Rattle.shipment_service.proofs.oldest.Oldest.first_served.Goals as goal

pub returns-clause-first : goal.returns-clause-first
returns-clause-first c =
    let entries = c.self.inside.by_number.entries in
    let all : IfOk c.collect.result (λ v. vec_items v ≡ map (λ (p : ℕ × ℕ). p) (take 10 entries))
    = items_from_collect _ c.collect.ensures.ran
    (YieldsList-from_map _ (λ (p : ℕ × ℕ). p)
    (YieldsList-at c.map.ensures.source (YieldsList-from_take 10 (YieldsList-at c.take-first.ensures.source (YieldsList-from_rest entries c.iter.ensures.rest)) c.take-first.ensures.count))
    c.map.ensures.closure (λ x r q k. search rules)) in
    if_ok (λ turns e. e ∙ map-same (take 10 entries) ∙ ap (take 10) c.self.view_is) c.collect.result all
