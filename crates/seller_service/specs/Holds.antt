-- The steps that the tables of the sellers hold.
use Rattle.std.specs.Prelude.{◌≡◌, ℕ, List}
use Rattle.market_amounts.specs.declared.keys.RequestId.{RequestId}
use Rattle.market_events.specs.Sellers.{invoice_lines, seller_changes}
use Rattle.market_events.specs.Steps.{Step, taken_bodies}
use Rattle.seller_service.specs.Tables.{changes_at, lines_at, SellerTables}

-- the tables have of each seller and of each checkout what the steps say
pub record Holds (tables : SellerTables) (steps : List Step) : Type 0 where
  pub changes : (seller : ℕ) → changes_at tables.ledgers seller ≡ seller_changes steps seller
  pub lines : (id : RequestId) → lines_at tables.invoices id ≡ invoice_lines (taken_bodies steps) id
