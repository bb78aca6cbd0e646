-- The steps that the tables of shipments hold.
use Rattle.std.specs.Prelude.{◌≡◌, ℕ, List, map, filter}
use Rattle.std.specs.List.{enumerate_from}
use Rattle.market_events.specs.declared.bodies.Item.{Item}
use Rattle.market_events.specs.Shipments.{packages, is_open}
use Rattle.market_events.specs.Steps.{Step}
use Rattle.shipment_service.specs.declared.package.Package.{Package}
use Rattle.shipment_service.specs.declared.service.Shipments.{Shipments}
use Rattle.shipment_service.specs.Tables.{Waits}

-- each package, and whether it is open
abbrev pub package_by : List Step → Item → Package
package_by steps item = record { item = item; is_open = is_open steps item }

abbrev pub packages_by : List Step → List Package
packages_by steps = map (package_by steps) (packages steps)

-- the open packages with their numbers
abbrev pub waiting_by : List Step → List (ℕ × Item)
waiting_by steps = filter (λ (p : ℕ × Item). is_open steps p.1) (enumerate_from 1 (packages steps))

-- the tables have what the steps say
pub record Holds (shipments : Shipments) (steps : List Step) : Type 0 where
  pub packages : shipments.packages ≡ packages_by steps
  pub waiting : Waits shipments.waiting.queues shipments.waiting.oldest (waiting_by steps)
