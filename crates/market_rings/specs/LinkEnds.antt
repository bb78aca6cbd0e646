-- The ends of the two rings of a link.
use Rattle.std.specs.Prelude.{◌≡◌}
use Rattle.market_rings.specs.RingEnds.{AreNew, IsLooked}
use Rattle.market_rings.specs.declared.link_ends.LinkOut.{LinkOut}
use Rattle.market_rings.specs.declared.link_ends.LinkIn.{LinkIn}

-- the two ends of each ring are in pairs
abbrev pub AreOfOneLink : LinkOut → LinkIn → Type 0
AreOfOneLink out into = (out.events.ring ≡ into.events.ring) × (into.counts.ring ≡ out.counts.ring)

-- nothing was pushed on either ring
abbrev pub IsNewLink : LinkOut → LinkIn → Type 0
IsNewLink out into = AreNew out.events into.events × AreNew into.counts out.counts

-- each ring's ends were brought together
abbrev pub HasMet : LinkOut → LinkIn → LinkOut → LinkIn → Type 0
HasMet out into new_out new_into =
    IsLooked out.events into.events new_out.events new_into.events
    × IsLooked into.counts out.counts new_into.counts new_out.counts
