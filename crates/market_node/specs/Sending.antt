-- The senders of the links out of a node.
use Rattle.std.specs.Prelude.{◌≡◌, ℕ, ◌<◌, ◌≤◌, ◌&&◌, nat_lt, nat_le, if◌then◌else◌, List, [], length, map}
use Rattle.std.specs.Prelude.{drop, take, slice_index_or}
use Rattle.market_events.specs.declared.events.Entry.{Entry}
use Rattle.market_events.specs.declared.events.Event.{Event}
use Rattle.market_events.specs.declared.links.Link.{Link}
use Rattle.market_events.specs.declared.links.TheConstants.{PRODUCT_TO_CART}
use Rattle.market_events.specs.Links.{IsLink, sender_of}
use Rattle.market_history.specs.Sent.{sent}
use Rattle.market_links.specs.SenderStates.{SenderState}
use Rattle.market_links.specs.Slots.{slot_from}
use Rattle.market_links.specs.declared.slots.TheConstants.{SLOTS}

-- a sender that has no events
abbrev pub new_sender : Link → SenderState
new_sender link = record { link = link; under_way = []; acknowledged = 0; released = 0; spare = 0 }

-- what is at the slot: past the last one a sender that has no events, of any link
abbrev pub sender_at : List SenderState → ℕ → SenderState
sender_at senders slot = slice_index_or senders slot (new_sender PRODUCT_TO_CART)

-- how many events were acknowledged, by slot
abbrev pub acknowledged_of : List SenderState → List ℕ
acknowledged_of senders = map (λ (s : SenderState). s.acknowledged) senders

-- all of a sender but its room
abbrev pub but_room : SenderState → SenderState
but_room sender = record sender { spare = 0 }

-- the same senders, with at least the room that there was
pub record AreRoomier (before after : List SenderState) : Type 0 where
  pub same : map but_room after ≡ map but_room before
  pub spare : (slot : ℕ) → (sender_at before slot).spare ≤ (sender_at after slot).spare

-- what may be sent of a link: the first seven events, or fewer, that are released and not acknowledged
abbrev pub window_on : Link → List Entry → ℕ → ℕ → List Event
window_on link entries committed acknowledged =
    take 7 (drop acknowledged (sent link (take committed entries)))

-- the acknowledged count of a link after a count came back: that count, where it is greater and not above the
-- released events
abbrev pub with_count : Link → List Entry → ℕ → ℕ → ℕ → ℕ
with_count link entries committed acknowledged count =
    if nat_lt acknowledged count && nat_le count (length (sent link (take committed entries)))
    then count else acknowledged

-- the sender has the events that were made on the link and are not acknowledged; released are those whose
-- entries are committed
pub record IsSenderOf (link : Link) (entries : List Entry) (committed : ℕ)
    (sender : SenderState) : Type 0 where
  pub same_link : sender.link ≡ link
  pub under_way : sender.under_way ≡ drop sender.acknowledged (sent link entries)
  pub released : sender.released ≡ length (sent link (take committed entries))
  pub within : sender.acknowledged ≤ sender.released

-- each link out of the node has its sender, with room for so many more events
pub record AreSenders (node : ℕ) (entries : List Entry) (committed room : ℕ) (senders : List SenderState) :
    Type 0 where
  pub many : length senders ≡ SLOTS
  pub each : (link : Link) → IsLink link → sender_of link ≡ node
      → IsSenderOf link entries committed (sender_at senders (slot_from link))
  pub rooms : (slot : ℕ) → slot < SLOTS → room ≤ (sender_at senders slot).spare
