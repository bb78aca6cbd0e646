-- The table of what is counted: what it has of a customer.
use Rattle.std.specs.Prelude.{ℕ, List, Option, IsSome, unwrap_or}
use Rattle.market_events.specs.Customers.{CustomerSums}
use Rattle.market_events.specs.Entries.{entry_at}
use Rattle.customer_service.specs.declared.tables.Tally.{Tally}

abbrev pub nothing : Tally
nothing = record { confirmed = 0; failed = 0; delivered = 0 }

-- the customer's entry, and what it counts, which without one is nothing
abbrev pub tally_at_customer : List (ℕ × Tally) → ℕ → Option Tally
tally_at_customer table customer = entry_at table customer

abbrev pub HasTally : List (ℕ × Tally) → ℕ → Type 0
HasTally table customer = IsSome (tally_at_customer table customer)

abbrev pub tally_at : List (ℕ × Tally) → ℕ → Tally
tally_at table customer = unwrap_or (tally_at_customer table customer) nothing

-- the sums of customers, as the table has them
abbrev pub sums_at : List (ℕ × Tally) → CustomerSums
sums_at table = record {
  confirmed = λ customer. (tally_at table customer).confirmed;
  failed = λ customer. (tally_at table customer).failed;
  delivered = λ customer. (tally_at table customer).delivered;
}
