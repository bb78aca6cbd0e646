-- What one more change of a product makes of what a copy shows of it.
use Rattle.std.specs.Prelude.{ℕ, Bool, true, false}
use Rattle.market_events.specs.declared.changes.Change.{Change}
use Rattle.market_events.specs.declared.changes.Change.TheVariants.{Created, Priced, Deleted}
use Rattle.market_events.specs.declared.changes.Look.{Look}
use Rattle.market_events.specs.declared.changes.Look.TheVariants.{Unknown, Gone, Live}

-- the version that is shown, 0 of a product that had no change
abbrev pub look_version : Look → ℕ
look_version Unknown = 0
look_version (Gone v) = v
look_version (Live v price freight) = v

-- whether the product is there
abbrev pub is_live : Look → Bool
is_live Unknown = false
is_live (Gone v) = false
is_live (Live v price freight) = true

-- whether a change may come next: a price or a deletion only of a product that is there
abbrev pub can_change : Look → Change → Bool
can_change look (Created price freight) = true
can_change look (Priced price) = is_live look
can_change look Deleted = is_live look

-- the freight that is shown, 0 where none is
abbrev pub shown_freight : Look → ℕ
shown_freight Unknown = 0
shown_freight (Gone v) = 0
shown_freight (Live v price freight) = freight

-- what one more change leaves, with the version that it makes
abbrev pub look_after : Look → ℕ → Change → Look
look_after look version (Created price freight) = Live version price freight
look_after look version (Priced price) = Live version price (shown_freight look)
look_after look version Deleted = Gone version
