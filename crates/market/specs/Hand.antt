-- What a hand stands for: the requests that it was given.
use Rattle.std.specs.Prelude.{◌≡◌, List}
use Rattle.market_events.specs.declared.requests.Request.{Request}
use Rattle.market.specs.declared.lanes.Kept.{Kept}
use Rattle.market.specs.declared.hand.Hand.{Hand}
use Rattle.market.specs.Once.{kept_of}
use Rattle.market.specs.Replies.{sequential_replies}
use Rattle.market.specs.Services.{Serves}
use Rattle.market_history.specs.Once.{most_kept}

-- what is kept of the given requests, with the replies of the sequential market
abbrev pub kept_replies : List Request → List Kept
kept_replies given = sequential_replies (kept_of most_kept given)

-- the lanes keep what they keep of the given requests, and the services answered these
pub record HandStands (hand : Hand) (given : List Request) : Type 0 where
  pub kept : hand.lanes ≡ kept_replies given
  pub serves : Serves hand.services (kept_of most_kept given)
