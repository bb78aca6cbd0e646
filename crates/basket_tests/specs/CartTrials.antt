-- What a trial of the cart knows of the steps that it took.
use Rattle.std.specs.Prelude.{◌≡◌, ℕ, ◌≤◌, true, List, length}
use Rattle.cart_service.specs.Tables.{CartTables}
use Rattle.market_amounts.specs.declared.keys.RequestId.{RequestId}
use Rattle.market_amounts.specs.declared.keys.ProductKey.{ProductKey}
use Rattle.market_events.specs.declared.changes.Look.{Look}
use Rattle.market_events.specs.Carts.{changes_taken}
use Rattle.market_events.specs.declared.roles.Role.{Role}
use Rattle.market_events.specs.Services.{is_new}
use Rattle.market_events.specs.Standing.{Stands}
use Rattle.market_events.specs.Steps.{Step}
use Rattle.cart_replica.specs.Copy.{IsCopyOf}
use Rattle.cart_service.specs.Holds.{Holds}

-- the id of a request of the trial
abbrev pub trial_id : ℕ → RequestId
trial_id number = record { caller = 7; number = number }

-- the cart took at most this many steps, no request of this number or a later one, and the changes of this
-- copy
pub record IsTrialOf (carts : CartTables) (shown : List (ProductKey
    × Look)) (next : ℕ) (steps : List Step) : Type 0 where
  pub stands : Stands Role.Cart Holds carts steps
  pub few : length steps ≤ next
  pub new : (number : ℕ) → next ≤ number → is_new steps (trial_id number) ≡ true
  pub shows : IsCopyOf shown (changes_taken steps)

abbrev pub IsTrial : CartTables → List (ProductKey × Look) → ℕ → Type 0
IsTrial carts shown next = ∥ ((steps : List Step) × IsTrialOf carts shown next steps) ∥₁
