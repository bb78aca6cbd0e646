-- What a copy shows of the changes of the products.
use Rattle.std.specs.Prelude.{◌≡◌, ℕ, ◌≤◌, List, length, take}
use Rattle.market_amounts.specs.declared.keys.ProductKey.{ProductKey}
use Rattle.market_events.specs.declared.changes.Look.{Look}
use Rattle.market_events.specs.Copies.{ProductChange, copy_of}

-- what is shown of each product is what some first changes leave of it
pub record ShowsFirst (shown : ProductKey → Look) (changes : List ProductChange) : Type 0 where
  pub first : ℕ
  pub within : first ≤ length changes
  pub shows : (key : ProductKey) → shown key ≡ copy_of (take first changes) key
