use Rattle.std.proofs.Common.{rules, ◌≡◌, map, sym, subst, ◌∙◌}
use Rattle.std.specs.List.{IsDistinct}
use Rattle.std.proofs.lemmas.Map.Iter.{iter_end}
use Rattle.market_events.specs.Standing.{same_name}
use Rattle.market_events.proofs.NamedCells.Names.{rising_differ}
use Rattle.market_events.proofs.NamedCells.Keyed.{map-same}
use Rattle.market_events.proofs.name_lists.NameList.into_names.Goals as goal

pub returns-clause-same : goal.returns-clause-same
returns-clause-same c =
    let all : map (λ e. e) c.loop-name.yielded ≡ c.self.inside.names.keys = search (rules, iter_end) in
    c.loop-name.invariant ∙ sym (map-same c.loop-name.yielded) ∙ all ∙ c.self.view_is

pub returns-clause-differ : goal.returns-clause-differ
returns-clause-differ c =
    let all : map (λ e. e) c.loop-name.yielded ≡ c.self.inside.names.keys = search (rules, iter_end) in
    subst (IsDistinct same_name) (sym (c.loop-name.invariant ∙ sym (map-same c.loop-name.yielded) ∙ all))
    (rising_differ c.self.inside.names.keys c.self.invariant)
