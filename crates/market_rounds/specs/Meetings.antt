-- The ends of one link are brought together, among those of all nodes.
use Rattle.std.specs.Prelude.{◌≡◌, ◌≢◌, ℕ, List, length}
use Rattle.market_events.specs.declared.links.Link.{Link}
use Rattle.market_events.specs.Links.{sender_of, receiver_of}
use Rattle.market_rings.specs.NodeEnds.{NodeEnds, HaveMet}
use Rattle.market_rings.specs.Wiring.{ends_of}

-- the ends of the link met, and those of all other nodes are as they were
pub record IsMeeting (before after : List NodeEnds) (link : Link) : Type 0 where
  pub many : length after ≡ length before
  pub met : HaveMet (ends_of before (sender_of link)) (ends_of before (receiver_of link))
      (ends_of after (sender_of link)) (ends_of after (receiver_of link)) link
  pub others : (n : ℕ) → n ≢ sender_of link → n ≢ receiver_of link → ends_of after n ≡ ends_of before n
