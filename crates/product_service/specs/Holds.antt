-- Which steps the service holds.
use Rattle.std.specs.Prelude.{◌≡◌, List}
use Rattle.market_amounts.specs.declared.keys.ProductKey.{ProductKey}
use Rattle.market_events.specs.declared.changes.Look.{Look}
use Rattle.market_events.specs.Copies.{version_of}
use Rattle.market_events.specs.Looks.{look_version}
use Rattle.market_events.specs.Products.{changes_made}
use Rattle.market_events.specs.Steps.{Step}
use Rattle.cart_replica.specs.Copy.{look_at, IsCopyOf}

-- the entries show what the changes that the steps made leave, and of each product how many it had
pub record Holds (entries : List (ProductKey × Look)) (steps : List Step) : Type 0 where
  pub copies : IsCopyOf entries (changes_made steps)
  pub versions : (key : ProductKey) → look_version (look_at entries key) ≡ version_of (changes_made steps) key
