-- How many pieces there are of a product, and what is left of them.
use Rattle.std.specs.Prelude.{ℕ, ◌+◌, ◌-◌, ◌≤◌, Bool, false, not, nat_lt}
use Rattle.market_events.specs.declared.changes.Look.{Look}
use Rattle.market_events.specs.declared.changes.Look.TheVariants.{Unknown, Gone, Live}
use Rattle.market_events.specs.WellFormed.{pieces_max}
use Rattle.stock_service.specs.declared.levels.Act.{Act}
use Rattle.stock_service.specs.declared.levels.Act.TheVariants.{Reserve, Sell, Release}

-- the pieces of a product that are on hand, and those of them that are reserved
pub record Amounts : Type 0 where
  pub on_hand : ℕ
  pub reserved : ℕ

-- a product of which nothing was stocked
abbrev pub no_pieces : Amounts
no_pieces = record { on_hand = 0; reserved = 0 }

-- what is left where so many pieces are reserved, sold or released
abbrev pub amounts_after : Act → ℕ → Amounts → Amounts
amounts_after Reserve pieces was = record { on_hand = was.on_hand; reserved = was.reserved + pieces }
amounts_after Sell pieces was = record { on_hand = was.on_hand - pieces; reserved = was.reserved - pieces }
amounts_after Release pieces was = record { on_hand = was.on_hand; reserved = was.reserved - pieces }

-- pieces can be reserved that are free, and sold or released that are reserved
abbrev pub CanAct : Act → ℕ → Amounts → Type 0
CanAct Reserve pieces was = was.reserved + pieces ≤ was.on_hand
CanAct Sell pieces was = pieces ≤ was.reserved
CanAct Release pieces was = pieces ≤ was.reserved

-- whether more pieces can be stocked, of a product that shows so and has so many on hand
abbrev pub can_stock : Look → ℕ → ℕ → Bool
can_stock Unknown pieces here = false
can_stock (Gone v) pieces here = false
can_stock (Live v price freight) pieces here = not (nat_lt pieces_max (here + pieces))
