-- Lawful histories: each journal is a list of blocks, with the numbers, clocks and pasts that are due, each
-- block began when it could, and what was taken on a link is what was made on it, up to some point.
use Rattle.std.specs.Prelude.{◌≡◌, ℕ, ◌<◌, true, List, [], length}
use Rattle.market_events.specs.declared.events.Entry.{Entry}
use Rattle.market_events.specs.declared.events.What.{What}
use Rattle.market_events.specs.declared.events.What.TheVariants.{Given, Taken, Made, Answered}
use Rattle.market_events.specs.declared.events.Offer.TheVariants.{Take}
use Rattle.market_events.specs.declared.links.Link.{Link}
use Rattle.market_events.specs.Carried.{carries}
use Rattle.market_events.specs.Links.{IsLink, lane_node, sender_of, receiver_of}
use Rattle.market_events.specs.Offers.{offer_of}
use Rattle.market_events.specs.Requests.{lane_of}
use Rattle.market_events.specs.WellFormed.{IsRequest}
use Rattle.market_events.specs.declared.nodes.TheConstants.{NODES}
use Rattle.market_history.specs.declared.schedule.Give.TheVariants as give
use Rattle.market_history.specs.Blocks.{parts_of, inputs_of, blocks_after}
use Rattle.market_history.specs.Causality.{HasPasts, events_taken}
use Rattle.market_history.specs.Histories.{Histories, journal_at}
use Rattle.market_history.specs.Once.{give_of}
use Rattle.market_history.specs.Sent.{sent, got, IsNumbered, IsMatchedOn}
use Rattle.market_history.specs.Stamps.{EachAfter, IsStamped}

-- it may come to the node after these entries: a request to its own lane, which asks it; or an event to its
-- receiver, by a link that can carry it, where it is due. What a node makes is bound by the blocks alone
abbrev pub IsReadyAfter : ℕ → List Entry → What → Type 0
IsReadyAfter n before (Given request) =
    IsRequest request × (lane_node (lane_of request.id) ≡ n) × (give_of before request ≡ give.Asked)
IsReadyAfter n before (Taken event) =
    IsLink event.link × (receiver_of event.link ≡ n) × (carries event.link event.body ≡ true)
    × (offer_of n (events_taken before) event ≡ Take)
IsReadyAfter n before (Made event) = Unit {0}
IsReadyAfter n before (Answered id reply) = Unit {0}

-- each entry came when it could
abbrev pub IsReady : ℕ → List Entry → Type 0
IsReady n entries = EachAfter (λ before (x : Entry). IsReadyAfter n before x.what) [] entries

-- the journal of a node is lawful
pub record IsLawfulAt (n : ℕ) (entries : List Entry) : Type 0 where
  -- the numbers of each link's events are 1, 2 and so on
  pub sent_numbered : (link : Link) → IsNumbered (sent link entries)
  pub got_numbered : (link : Link) → IsNumbered (got link entries)
  -- each entry has its clock, and each event that was made its past
  pub stamped : IsStamped entries
  pub pasts : HasPasts entries
  -- each input came when it could
  pub ready : IsReady n entries
  -- each input is followed by exactly what the node makes of it
  pub blocks : parts_of entries ≡ blocks_after n [] (inputs_of entries)

-- what was taken on each link is what was made on it, up to some point
abbrev pub IsMatched : Histories → Type 0
IsMatched h = (link : Link) → IsLink link
    → IsMatchedOn link (journal_at h (sender_of link)) (journal_at h (receiver_of link))

pub record IsLawful (h : Histories) : Type 0 where
  pub each : length h ≡ NODES
  pub matched : IsMatched h
  pub lawful : (n : ℕ) → n < NODES → IsLawfulAt n (journal_at h n)
