use Rattle.std.proofs.Common.{rules, ◌≡◌, map, ap, ◌∙◌}
use Rattle.std.specs.Map.{keys_of}
use Rattle.std.specs.Map.Iter.{deref}
use Rattle.std.proofs.lemmas.Map.Iter.{iter_end}
use Rattle.market_events.specs.CellLists.{put_each, key_cell}
use Rattle.market_events.proofs.NamedCells.Keyed.{put_each-all}
use Rattle.stock_service.specs.Cells.{held_name, held_in}
use Rattle.stock_service.proofs.held_lines.HeldLines.put_cells.Goals as goal

pub returns : goal.returns
returns c =
    let all : map deref c.loop-checkout.yielded ≡ keys_of c.self.inside.lines.entries = search (rules, iter_end) in
    c.loop-checkout.invariant
    ∙ ap (put_each (key_cell held_name (held_in c.args.self.now)) c.args.cells.now) (all ∙ ap keys_of c.self.view_is)
    ∙ put_each-all (key_cell held_name (held_in c.args.self.now)) c.args.cells.now (keys_of c.args.self.now)
