-- For which steps the table of what is counted stands.
use Rattle.std.specs.Prelude.{◌≡◌, ℕ, List}
use Rattle.market_events.specs.Customers.{confirmed_count, failed_count, delivered_count}
use Rattle.market_events.specs.Steps.{Step}
use Rattle.customer_service.specs.declared.tables.Tally.{Tally}
use Rattle.customer_service.specs.Tables.{tally_at}

-- what the steps say of the customer
abbrev pub tally_by : List Step → ℕ → Tally
tally_by steps customer = record {
  confirmed = confirmed_count steps customer;
  failed = failed_count steps customer;
  delivered = delivered_count steps customer;
}

-- the table has of each customer what the steps say
pub record Holds (table : List (ℕ × Tally)) (steps : List Step) : Type 0 where
  pub each : (customer : ℕ) → tally_at table customer ≡ tally_by steps customer
