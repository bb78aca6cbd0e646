-- The fields of the ends of a ring, and what they are seen as.
use Rattle.std.specs.Prelude.{◌≡◌, ◌≤◌}
use Rattle.rtrb.specs.Ring.{sent, known_free, producer_capacity, received, known_items}
use Rattle.market_rings.specs.RingEnds.{Pushing, Popping}
use Rattle.market_rings.specs.declared.outlets.Outlet.TheInside as outlet
use Rattle.market_rings.specs.declared.inlets.Inlet.TheInside as inlet

module _ {T : Type 0} where
  abbrev pub pushing_of : outlet.Inside T → Pushing T
  pushing_of a = record {
    ring =
        record {
          words = a.producer.end.words;
          slots = a.producer.end.slots;
          names = a.producer.end.names;
          heap = a.producer.end.heap;
        };
    pushed = sent a.producer;
    held = a.held.items;
    free = a.free;
  }

  -- the slots that are counted as free are free
  abbrev pub HasFree : outlet.Inside T → Type 0
  HasFree a = (producer_capacity a.producer ≡ 64) × (a.free ≤ known_free a.producer)

  abbrev pub popping_of : inlet.Inside T → Popping T
  popping_of a = record {
    ring =
        record {
          words = a.consumer.end.words;
          slots = a.consumer.end.slots;
          names = a.consumer.end.names;
          heap = a.consumer.end.heap;
        };
    popped = received a.consumer;
    waiting = known_items a.consumer;
  }
