-- What the two ends of a ring are seen as.
use Rattle.std.specs.Prelude.{◌≡◌, ℕ, ◌+◌, ◌-◌, ◌*◌, List, [], ◌++◌, length}
use denote.RawPtr.{Ptr}
use Rattle.std.specs.declared.alloc.Global.{Global}
use Rattle.rtrb.specs.Shared.{Names}
use Rattle.market_rings.specs.declared.fates.Fate.{Fate}
use Rattle.market_rings.specs.Pushes.{pushed_at_once, held_back, pushed_of, pushed_by, held_after}

-- which ring it is
pub record Ring : Type 0 where
  pub words : Ptr
  pub slots : Ptr
  pub names : Names
  pub heap : Global

-- the end that pushes
pub record Pushing (T : Type 0) : Type 0 where
  pub ring : Ring
  -- every packet that was pushed, oldest first
  pub pushed : List T
  -- the packets that are pushed after those that are sent next, oldest first
  pub held : List T
  -- how many slots are known to be free
  pub free : ℕ

-- the end that pops
pub record Popping (T : Type 0) : Type 0 where
  pub ring : Ring
  -- every packet that was popped, oldest first
  pub popped : List T
  -- the packets that the last meeting told of and that were not popped, oldest first
  pub waiting : List T

module _ {T : Type 0} where
  -- with a packet more
  abbrev pub with_pushed : Pushing T → List T → Pushing T
  with_pushed outlet packets =
      record outlet { pushed = outlet.pushed ++ packets; free = outlet.free - length packets }

  -- one packet met its fate
  abbrev pub IsMet : Pushing T → T → Fate → Pushing T → Type 0
  IsMet before packet fate after =
      after ≡ record (with_pushed before (pushed_at_once fate packet)) {
        held = before.held
            ++ held_back fate packet;
      }

  -- the packets met the fates
  abbrev pub AreMet : Pushing T → List T → List Fate → Pushing T → Type 0
  AreMet before packets fates after =
      after ≡ record (with_pushed before (pushed_of packets fates)) {
        held = before.held
            ++ held_after packets fates;
      }

  -- how many packets can be pushed where these are sent and those are held
  abbrev pub most_pushed : List T → List T → ℕ
  most_pushed packets held = 2 * length packets + length held

  -- these packets were sent with these fates
  abbrev pub with_sent : Pushing T → List T → List Fate → Pushing T
  with_sent outlet packets fates = record outlet {
    pushed = outlet.pushed ++ pushed_by packets fates outlet.held;
    held = held_after packets fates;
    free = outlet.free - length (pushed_by packets fates outlet.held);
  }

  -- all that waited was popped
  abbrev pub with_all_popped : Popping T → Popping T
  with_all_popped inlet = record inlet { popped = inlet.popped ++ inlet.waiting; waiting = [] }

  -- the two ends of a ring on which nothing was pushed
  abbrev pub AreNew : Pushing T → Popping T → Type 0
  AreNew outlet inlet = (outlet ≡ record { ring = inlet.ring; pushed = []; held = []; free = 64 })
      × (inlet.popped ≡ []) × (inlet.waiting ≡ [])

  -- what was popped and what waits is now what was pushed, all other slots are known to be free, and nothing
  -- else changed
  pub record IsLooked (outlet : Pushing T) (inlet : Popping T) (new_outlet : Pushing T)
      (new_inlet : Popping T) : Type 0 where
    pub waiting : new_inlet.popped ++ new_inlet.waiting ≡ outlet.pushed
    pub free : new_outlet.free + length new_inlet.waiting ≡ 64
    pub same_outlet : new_outlet ≡ record outlet { free = new_outlet.free }
    pub same_inlet : new_inlet ≡ record inlet { waiting = new_inlet.waiting }
