-- The cells of the examples, by computation.
use Rattle.std.proofs.Common.{refl}
use Rattle.std.specs.Fmt.{digits}
use Rattle.market_events.specs.ExamplesCells.{BaseCells, MoreCells, CellExamples}
use Rattle.market_events.specs.Cells.{cells_of}

base_cells : BaseCells
unfolding cells_of digits
base_cells = record {
  cart = refl;
  product = refl;
  stock = refl;
  order = refl;
  payment = refl;
  shipment = refl;
  customer = refl;
  seller = refl;
}

more_cells : MoreCells
unfolding cells_of digits
more_cells = record {
  no_cells = refl;
  keys_by_bytes = refl;
  basket_with_two_lines = refl;
  line_removed = refl;
  basket_sent_on = refl;
  pieces_held = refl;
  two_lines_held = refl;
  orders_delivered_in_part = refl;
  order_cancelled = refl;
  account_not_spent = refl;
  no_account_without_card = refl;
  packages_by_bytes = refl;
  two_customers = refl;
  two_sellers = refl;
}

pub cell_examples : CellExamples
cell_examples = record {
  base = base_cells;
  more = more_cells;
}
