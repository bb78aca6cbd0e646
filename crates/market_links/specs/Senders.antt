-- What a sender's fields are seen as, and what they keep.
use Rattle.std.specs.Prelude.{◌≡◌, ◌+◌, ◌≤◌, length, drop, vec_len, vec_capacity}
use Rattle.market_links.specs.declared.sender.Sender.TheInside.{Inside}
use Rattle.market_links.specs.SenderStates.{SenderState, Follow}

-- the first events are acknowledged, and the others under way
abbrev pub state_of : Inside → SenderState
state_of a = record {
  link = a.link;
  under_way = drop a.gone a.events.items;
  acknowledged = a.acknowledged;
  released = a.released;
  spare = a.spare;
}

pub record IsKept (a : Inside) : Type 0 where
  pub numbered : Follow a.link a.acknowledged (drop a.gone a.events.items)
  pub counted : a.acknowledged + length (drop a.gone a.events.items) ≡ a.appended
  pub above : a.acknowledged ≤ a.released
  pub within : a.released ≤ a.appended
  -- no more are kept that are acknowledged than that are under way
  pub half : a.gone + a.gone ≤ vec_len a.events
  -- the spare places are there
  pub room : vec_len a.events + a.spare ≤ vec_capacity a.events
