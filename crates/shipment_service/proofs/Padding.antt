-- A package for what lies past the end of a list.
use Rattle.std.proofs.Common.{ℕ, false}
use Rattle.market_events.specs.declared.bodies.Item.{Item}
use Rattle.shipment_service.specs.declared.package.Package.{Package}

abbrev pub no_item : Item
no_item = record { checkout = record { caller = 0; number = 0 }; customer = 0; key = record { seller = 0; product = 0 } }

abbrev pub no_package : ℕ × Item
no_package = (0, no_item)

abbrev pub no_parcel : Package
no_parcel = record { item = no_item; is_open = false }
