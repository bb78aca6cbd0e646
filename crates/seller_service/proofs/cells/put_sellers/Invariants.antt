use Rattle.std.proofs.Common.{◌≡◌}
use Rattle.std.specs.List.{flat_map}
use Rattle.market_events.specs.CellLists.{put_all}
use Rattle.seller_service.specs.Cells.{cells_of_seller}
use Rattle.seller_service.specs.Tables.{changes_at}
use Rattle.seller_service.proofs.cells.put_sellers.Given as goal

abbrev pub invariant-loop-seller : goal.invariant-loop-seller
invariant-loop-seller l = l.cells ≡ put_all l.fn.cells (flat_map (λ s. cells_of_seller s (changes_at l.ledgers s)) l.yielded)
