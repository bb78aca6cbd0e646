-- The slots of links at their receivers and at their senders: a service link has its number, and a link
-- between a lane and a service has the number of the other end, after those of all service links.
use Rattle.std.specs.Prelude.{ℕ, ◌+◌}
use Rattle.market_events.specs.declared.links.Link.{Link}
use Rattle.market_events.specs.declared.links.Link.TheVariants.{Service, Asked, Told}
use Rattle.market_events.specs.declared.links.TheConstants.{SERVICE_LINKS}

abbrev pub slot_into : Link → ℕ
slot_into (Service number) = number
slot_into (Asked lane service) = SERVICE_LINKS + lane
slot_into (Told service lane) = SERVICE_LINKS + service

abbrev pub slot_from : Link → ℕ
slot_from (Service number) = number
slot_from (Asked lane service) = SERVICE_LINKS + service
slot_from (Told service lane) = SERVICE_LINKS + lane
