use Rattle.std.proofs.Common.{◌≡◌, ap, sym, ◌∙◌}
use Rattle.std.specs.BTreeMap.{insert_entry}
use Rattle.market_events.specs.CellLists.{put_cell}
use Rattle.market_events.specs.Cells.{name_cmp}
use Rattle.market_events.proofs.NamedCells.Named.{put-insert_entry}
use Rattle.market_events.proofs.cell_lists.CellList.put.Goals as goal

pub returns-clause-ok : goal.returns-clause-ok
returns-clause-ok c =
    let was = c.self.inside.values.entries in
    let put : c.insert.new.self.entries ≡ insert_entry name_cmp was c.args.name c.args.value = c.in_ok-insert.ensures.entries in
    put ∙ sym (put-insert_entry was c.args.name c.args.value) ∙ ap (λ es. put_cell es (record { name = c.args.name; value = c.args.value })) c.self.view_is
