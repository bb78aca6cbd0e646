-- What the tables of stock hold, by their entries.
use Rattle.std.specs.Prelude.{Bool, is_some, List, Option, unwrap_or}
use Rattle.std.specs.BTreeMap.{is_at}
use Rattle.std.specs.Map.{lookup}
use Rattle.market_amounts.specs.declared.keys.ProductKey.{ProductKey}
use Rattle.market_amounts.specs.declared.keys.RequestId.{RequestId}
use Rattle.market_events.specs.declared.bodies.PricedLine.{PricedLine}
use Rattle.market_events.specs.declared.changes.Look.{Look}
use Rattle.market_events.specs.Steps.{key_cmp, id_cmp}
use Rattle.market_events.specs.Stocks.{StockSums}
use Rattle.cart_replica.specs.Copy.{look_at}
use Rattle.stock_service.specs.Amounts.{Amounts, no_pieces}

-- the pieces that the levels have of a product, and whether they have a level of it
abbrev pub amounts_at : List (ProductKey × Amounts) → ProductKey → Amounts
amounts_at levels key = unwrap_or (lookup (is_at (key_cmp key)) levels) no_pieces

-- whether the levels have a level of the product
abbrev pub has_at : List (ProductKey × Amounts) → ProductKey → Bool
has_at levels key = is_some (lookup (is_at (key_cmp key)) levels)

-- the lines that are held of a checkout
abbrev pub lines_at : List (RequestId × List PricedLine) → RequestId → Option (List PricedLine)
lines_at held id = lookup (is_at (id_cmp id)) held

-- the sums of stock, as the tables have them
abbrev pub sums_at : List (ProductKey × Look) → List (ProductKey × Amounts) → StockSums
sums_at looks levels = record {
  look = look_at looks;
  on_hand = λ key. (amounts_at levels key).on_hand;
  reserved = λ key. (amounts_at levels key).reserved;
}
