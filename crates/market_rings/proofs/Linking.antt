-- Links, their indices and their slots.
use Rattle.std.proofs.Common.{◌≡◌, ◌<◌, ap, arith}
use Rattle.market_events.specs.declared.links.Link.{Link}
use Rattle.market_events.specs.declared.links.Link.TheVariants.{Service, Asked, Told}
use Rattle.market_events.specs.Links.{IsLink, index_of, sender_of, receiver_of}
use Rattle.market_links.specs.Slots.{slot_into, slot_from}
use Rattle.market_links.specs.declared.slots.TheConstants.{SLOTS}

-- links with one index are one
pub one_index : (a b : Link) → IsLink a → IsLink b → index_of a ≡ index_of b → a ≡ b
one_index (Service m) (Service n) one two e = ap Service e
one_index (Asked i s) (Asked j t) one two e =
    let lane : i ≡ j = omega (arith, one.1, two.1) in
    let service : s ≡ t = omega (arith, one.1, two.1) in
    cc
one_index (Told s i) (Told t j) one two e =
    let lane : i ≡ j = omega (arith, one.0, two.0) in
    let service : s ≡ t = omega (arith, one.0, two.0) in
    cc
one_index (Service m) (Asked j t) one two e = absurd (omega (arith, one))
one_index (Service m) (Told t j) one two e = absurd (omega (arith, one))
one_index (Asked i s) (Service n) one two e = absurd (omega (arith, two))
one_index (Told s i) (Service n) one two e = absurd (omega (arith, two))
one_index (Asked i s) (Told t j) one two e = absurd (omega (arith, one.0, one.1))
one_index (Told s i) (Asked j t) one two e = absurd (omega (arith, two.0, two.1))

-- links out of one node with one slot have one index
pub one_sender : (a b : Link) → IsLink a → IsLink b → sender_of a ≡ sender_of b → slot_from a ≡ slot_from b → index_of a ≡ index_of b
one_sender (Service m) (Service n) one two from slot = slot
one_sender (Asked i s) (Asked j t) one two from slot = omega arith
one_sender (Told s i) (Told t j) one two from slot = omega arith
one_sender (Service m) (Asked j t) one two from slot = absurd (omega (arith, one))
one_sender (Service m) (Told t j) one two from slot = absurd (omega (arith, one))
one_sender (Asked i s) (Service n) one two from slot = absurd (omega (arith, two))
one_sender (Told s i) (Service n) one two from slot = absurd (omega (arith, two))
one_sender (Asked i s) (Told t j) one two from slot = absurd (omega (arith, two.0))
one_sender (Told s i) (Asked j t) one two from slot = absurd (omega (arith, one.0))

-- links into one node with one slot have one index
pub one_receiver : (a b : Link) → IsLink a → IsLink b → receiver_of a ≡ receiver_of b → slot_into a ≡ slot_into b → index_of a ≡ index_of b
one_receiver (Service m) (Service n) one two to slot = slot
one_receiver (Asked i s) (Asked j t) one two to slot = omega arith
one_receiver (Told s i) (Told t j) one two to slot = omega arith
one_receiver (Service m) (Asked j t) one two to slot = absurd (omega (arith, one))
one_receiver (Service m) (Told t j) one two to slot = absurd (omega (arith, one))
one_receiver (Asked i s) (Service n) one two to slot = absurd (omega (arith, two))
one_receiver (Told s i) (Service n) one two to slot = absurd (omega (arith, two))
one_receiver (Asked i s) (Told t j) one two to slot = absurd (omega (arith, one.1))
one_receiver (Told s i) (Asked j t) one two to slot = absurd (omega (arith, two.1))

pub slot_from_small : (link : Link) → IsLink link → slot_from link < SLOTS
slot_from_small (Service n) on = omega (arith, on)
slot_from_small (Asked lane s) on = omega (arith, on.1)
slot_from_small (Told s lane) on = omega (arith, on.1)

pub slot_into_small : (link : Link) → IsLink link → slot_into link < SLOTS
slot_into_small (Service n) on = omega (arith, on)
slot_into_small (Asked lane s) on = omega (arith, on.0)
slot_into_small (Told s lane) on = omega (arith, on.0)
