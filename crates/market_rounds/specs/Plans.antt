-- The fates of a plan, link by link.
use Rattle.std.specs.Prelude.{◌≡◌, ℕ, Bool, true, false, ◌&&◌, List, filter, map}
use Rattle.market_events.specs.declared.links.Link.{Link}
use Rattle.market_events.specs.Links.{IsLink, same_link, sender_of, receiver_of}
use Rattle.market_links.specs.Slots.{slot_into, slot_from}
use Rattle.market_rings.specs.declared.fates.Fate.{Fate}
use Rattle.market_rings.specs.declared.fates.Way.{Way}
use Rattle.market_rings.specs.declared.fates.Way.TheVariants.{Carry, Ack}
use Rattle.market_rings.specs.Fates.{fates_at}
use Rattle.market_rounds.specs.declared.plan.Planned.{Planned}
use Rattle.market_rounds.specs.Nodes.{FatedNode, fates_by}

abbrev pub same_way : Way → Way → Bool
same_way Carry Carry = true
same_way Ack Ack = true
same_way a b = false

-- the node that sends packets on the link this way, and the link's slot there
abbrev pub end_of : Way → Link → ℕ
end_of Carry link = sender_of link
end_of Ack link = receiver_of link

abbrev pub slot_at_end : Way → Link → ℕ
slot_at_end Carry link = slot_from link
slot_at_end Ack link = slot_into link

-- the fates that a plan has for a link and a way, in order
abbrev pub planned_on : List Planned → Link → Way → List Fate
planned_on plan link way =
    map (λ (p : Planned). p.fate) (filter (λ (p : Planned). same_link p.link link && same_way p.way way) plan)

-- the sender of each link has the plan's fates of its events, and the receiver those of its counts
abbrev pub HavePlan : List Planned → List FatedNode → Type 0
HavePlan plan nodes = (link : Link) (way : Way) → IsLink link
    → fates_at (fates_by nodes (end_of way link)) way (slot_at_end way link) ≡ planned_on plan link way
