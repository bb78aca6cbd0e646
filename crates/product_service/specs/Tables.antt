-- What the table of products holds.
use Rattle.std.specs.Prelude.{List}
use Rattle.market_amounts.specs.declared.keys.ProductKey.{ProductKey}
use Rattle.market_events.specs.declared.changes.Look.{Look}
use Rattle.market_events.specs.Looks.{look_version}
use Rattle.market_events.specs.Products.{ProductSums}
use Rattle.cart_replica.specs.Copy.{look_at}

-- the sums of products, as the entries have them
abbrev pub sums_at : List (ProductKey × Look) → ProductSums
sums_at entries = record {
  look = λ key. look_at entries key;
  version = λ key. look_version (look_at entries key);
}
