-- For which steps the table of accounts stands.
use Rattle.std.specs.Prelude.{◌≡◌, ℕ, List}
use Rattle.market_events.specs.Payments.{limit_of, spent}
use Rattle.market_events.specs.Steps.{Step}
use Rattle.payment_service.specs.declared.tables.Account.{Account}
use Rattle.payment_service.specs.Tables.{limit_at, spent_at}

-- the table has of each customer what the steps say
pub record Holds (table : List (ℕ × Account)) (steps : List Step) : Type 0 where
  pub limits : (customer : ℕ) → limit_at table customer ≡ limit_of steps customer
  pub spent : (customer : ℕ) → spent_at table customer ≡ spent steps customer
