-- A copy of the changes that steps took: which change can be taken next, and what a step leaves that takes none.
use Rattle.std.proofs.Common.{◌≡◌, ℕ, ◌+◌, true, List, [], ◌∷◌, ◌++◌, None, ap, sym, subst, arith}
use Rattle.std.proofs.Math.Bool.{Bool-set}
use Rattle.std.proofs.Math.Logic.{∥∥₁_elim}
use Rattle.std.proofs.Math.Nat.{ℕ_set}
use Rattle.market_amounts.specs.declared.keys.ProductKey.{ProductKey}
use Rattle.market_events.specs.declared.bodies.Body.{Body}
use Rattle.market_events.specs.declared.cells.CellName.{CellName}
use Rattle.market_events.specs.declared.changes.Change.{Change}
use Rattle.market_events.specs.declared.changes.Look.{Look}
use Rattle.market_events.specs.declared.links.Link.{Link}
use Rattle.market_events.specs.Carts.{changes_taken}
use Rattle.market_events.specs.CellLists.{last_value}
use Rattle.market_events.specs.Cells.{look_cells}
use Rattle.market_events.specs.Looks.{look_version, can_change}
use Rattle.market_events.specs.Products.{change_in}
use Rattle.market_events.specs.declared.roles.Role.{Role}
use Rattle.market_events.specs.Services.{fits, change_fits}
use Rattle.market_events.specs.Standing.{Stands, CanTake}
use Rattle.market_events.specs.Steps.{Step}
use Rattle.market_events.proofs.Steps.Taken.{changes_taken-same, change_fits-can, change_fits-version}
use Rattle.cart_replica.specs.Copy.{IsCopyOf}

-- the copy, where a step takes no change
pub copied_still : (entries : List (ProductKey × Look)) (steps : List Step) (s : Step) → IsCopyOf entries (changes_taken steps) → change_in s.body ≡ None
    → IsCopyOf entries (changes_taken (steps ++ s ∷ []))
copied_still entries steps s copied none = subst (IsCopyOf entries) (sym (changes_taken-same steps s none)) copied

-- and its cells
pub looks_still : (table : List ℕ) (name : CellName) (steps : List Step) (s : Step) → change_in s.body ≡ None
    → last_value name (look_cells table (changes_taken (steps ++ s ∷ []))) ≡ last_value name (look_cells table (changes_taken steps))
looks_still table name steps s none = ap (λ changes. last_value name (look_cells table changes)) (changes_taken-same steps s none)

-- a change that fits each run which the service may stand for
module _ {Kept : Type 0} (role : Role) (holds : Kept → List Step → Type 0) (kept : Kept) (from : Link) (b : Body) (can : CanTake role holds kept from b)
    (look : Look) (version : ℕ) (change : Change)
    (due : (steps : List Step) → Stands role holds kept steps → fits role steps from b ≡ true → change_fits look version change ≡ true) where
  -- it has the next version
  pub next_version : version ≡ look_version look + 1
  next_version = ∥∥₁_elim can (hlevel ℕ_set) (λ it. let e = change_fits-version look version change (due it.0 it.1 it.2) in omega arith)

  -- and may come next
  pub may_change : can_change look change ≡ true
  may_change = ∥∥₁_elim can (hlevel Bool-set) (λ it. change_fits-can look version change (due it.0 it.1 it.2))
