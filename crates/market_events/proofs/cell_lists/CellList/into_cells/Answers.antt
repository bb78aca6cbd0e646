use Rattle.std.proofs.Common.{rules, ◌≡◌, map, ap, sym, ◌∙◌}
use Rattle.std.proofs.lemmas.Map.Iter.{iter_end}
use Rattle.market_events.specs.CellLists.{entry_cells_of}
use Rattle.market_events.proofs.NamedCells.Keyed.{map-same}
use Rattle.market_events.proofs.cell_lists.CellList.into_cells.Goals as goal

pub returns : goal.returns
returns c =
    let all : map (λ e. e) c.loop-name.yielded ≡ c.self.inside.values.entries = search (rules, iter_end) in
    c.loop-name.invariant ∙ ap entry_cells_of (sym (map-same c.loop-name.yielded) ∙ all ∙ c.self.view_is)
