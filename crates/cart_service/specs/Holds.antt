-- Which steps the cart holds: its tables are the sums over them.
use Rattle.std.specs.Prelude.{◌≡◌, ℕ, List}
use Rattle.market_events.specs.Carts.{changes_taken, basket_of}
use Rattle.market_events.specs.Steps.{Step}
use Rattle.cart_replica.specs.Copy.{IsCopyOf}
use Rattle.cart_service.specs.Tables.{lines_at, CartTables}

-- the copy shows what the changes that were taken leave, and each customer has the basket of the steps
pub record Holds (kept : CartTables) (steps : List Step) : Type 0 where
  pub copied : IsCopyOf kept.copy (changes_taken steps)
  pub lines : (customer : ℕ) → lines_at kept.baskets customer ≡ basket_of steps customer
