-- What a sender is, and what its steps make of it.
use Rattle.std.specs.Prelude.{◌≡◌, ℕ, ◌+◌, ◌-◌, ◌≤◌, ◌&&◌, nat_lt, nat_le, List, [], ◌∷◌, ◌++◌, length, take}
use Rattle.std.specs.Prelude.{drop, if◌then◌else◌}
use Rattle.market_events.specs.declared.links.Link.{Link}
use Rattle.market_events.specs.declared.events.Event.{Event}

pub record SenderState : Type 0 where
  pub link : Link
  -- the events that are not acknowledged, oldest first
  pub under_way : List Event
  -- how many events were acknowledged
  pub acknowledged : ℕ
  -- how many events were released
  pub released : ℕ
  -- how many events may be appended without taking memory
  pub spare : ℕ

-- the events are of the link, and have the numbers after n, in order
abbrev pub Follow : Link → ℕ → List Event → Type 0
Follow link n [] = Unit {0}
Follow link n (e ∷ es) = (e.link ≡ link) × (e.number ≡ n + 1) × Follow link (n + 1) es

pub record IsSenderState (sender : SenderState) : Type 0 where
  pub numbered : Follow sender.link sender.acknowledged sender.under_way
  pub above : sender.acknowledged ≤ sender.released
  pub appended : sender.released ≤ sender.acknowledged + length sender.under_way

-- the number of the event that comes next
abbrev pub next_number : SenderState → ℕ
next_number sender = sender.acknowledged + length sender.under_way + 1

-- with one event more, which takes a spare place where there is one
abbrev pub with_event : SenderState → Event → SenderState
with_event sender event =
    record sender { under_way = sender.under_way ++ event ∷ []; spare = sender.spare - 1 }

-- a count that is above the acknowledged and not above the released forgets the events up to it
abbrev pub with_ack : SenderState → ℕ → SenderState
with_ack sender count =
    if nat_lt sender.acknowledged count && nat_le count sender.released
    then record sender
    { acknowledged = count; under_way = drop (count - sender.acknowledged) sender.under_way }
    else sender

-- every event is released
abbrev pub with_release : SenderState → SenderState
with_release sender = record sender { released = sender.acknowledged + length sender.under_way }

-- the first released events that are not acknowledged, seven at most
abbrev pub window_of : SenderState → List Event
window_of sender = take 7 (take (sender.released - sender.acknowledged) sender.under_way)
