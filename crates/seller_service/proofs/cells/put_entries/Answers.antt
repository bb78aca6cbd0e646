use Rattle.std.proofs.Common.{ℕ, codes, ap₂, ◌∙◌}
use Rattle.market_events.specs.CellLists.{put_cell}
use Rattle.market_events.specs.Cells.{cell, seller_key, entry_text}
use Rattle.market_events.specs.Sellers.{SellerChange}
use Rattle.seller_service.proofs.Puts.{put-next}
use Rattle.seller_service.proofs.cells.put_entries.Goals as goal

pub loop-index-preserved : goal.loop-index-preserved
loop-index-preserved c =
    put-next (λ (p : ℕ × SellerChange). cell (codes "entry") (seller_key c.args.seller p.0) (entry_text p.1)) c.args.entries.now c.loop-index.index c.index-entries-index.result
    c.args.cells.now c.loop-index.cells c.put.new.self c.loop-index-test.true c.index-entries-index.is c.loop-index.invariant
    (c.in_ok-put.ensures.ok ∙ ap₂ (λ name value. put_cell c.loop-index.cells (record { name = name; value = value })) c.in_ok-name.ensures c.in_ok-text_of_entry.ensures)
