-- What is taken in time: what a lane is told is for a request that was given to it before and has no reply
-- yet.
use Rattle.std.specs.Prelude.{◌≡◌, ℕ, true, List, [], is_some, None}
use Rattle.market_amounts.specs.declared.keys.RequestId.{RequestId}
use Rattle.market_events.specs.declared.bodies.Body.{Body}
use Rattle.market_events.specs.declared.bodies.Body.TheVariants as body
use Rattle.market_events.specs.declared.events.Entry.{Entry}
use Rattle.market_events.specs.declared.events.What.{What}
use Rattle.market_events.specs.declared.events.What.TheVariants.{Given, Taken, Made, Answered}
use Rattle.market_history.specs.Once.{requests_given, with_id, reply_of}
use Rattle.market_history.specs.Stamps.{EachAfter}
use Rattle.market_laws.specs.Cuts.{FitsAfter}

-- each event that the service n took fitted the steps that it took before
abbrev pub EachFits : ℕ → List Entry → Type 0
EachFits n entries = EachAfter (λ before (x : Entry). FitsAfter n before x.what) [] entries

-- a request with this id was given to the lane, and has no reply
pub record IsAwaited (before : List Entry) (id : RequestId) : Type 0 where
  pub given : is_some (with_id id (requests_given before)) ≡ true
  pub waits : reply_of before id ≡ None

-- a reply is for a request that awaits it
abbrev pub IsInTime : List Entry → Body → Type 0
IsInTime before (body.Told id reply) = IsAwaited before id
IsInTime before other = Unit {0}

-- a reply that is taken comes in time
abbrev pub InTimeAfter : List Entry → What → Type 0
InTimeAfter before (Given request) = Unit {0}
InTimeAfter before (Taken event) = IsInTime before event.body
InTimeAfter before (Made event) = Unit {0}
InTimeAfter before (Answered id reply) = Unit {0}

-- each reply that the lane took came in time
abbrev pub EachInTime : List Entry → Type 0
EachInTime entries = EachAfter (λ before (x : Entry). InTimeAfter before x.what) [] entries
