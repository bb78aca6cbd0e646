use Rattle.std.proofs.Common.{rules, ◌≡◌, map, ap, ◌∙◌}
use Rattle.std.specs.Map.{keys_of}
use Rattle.std.specs.Map.Iter.{deref}
use Rattle.std.proofs.lemmas.Map.Iter.{iter_end}
use Rattle.market_events.specs.CellLists.{put_each, key_cell}
use Rattle.market_events.specs.CellNames.{key_name}
use Rattle.market_events.proofs.NamedCells.Keyed.{put_each-all}
use Rattle.cart_replica.specs.CopyCells.{text_in}
use Rattle.cart_replica.proofs.cells.put_looks.Goals as goal

pub returns : goal.returns
returns c =
    let entries = c.args.looks.now.entries in
    let all : map deref c.loop-key.yielded ≡ keys_of entries = search (rules, iter_end) in
    c.loop-key.invariant ∙ ap (put_each (key_cell (key_name c.args.table.now) (text_in entries)) c.args.cells.now) all
    ∙ put_each-all (key_cell (key_name c.args.table.now) (text_in entries)) c.args.cells.now (keys_of entries)
