-- What a lane does with requests that it is given.
use Rattle.std.specs.Prelude.{◌≡◌, List, [], ◌∷◌, Some, None}
use Rattle.market_events.specs.declared.events.Entry.{Entry}
use Rattle.market_events.specs.declared.replies.Reply.TheVariants as reply
use Rattle.market_events.specs.declared.requests.Ask.TheVariants as ask
use Rattle.market_history.specs.declared.schedule.Give.TheVariants as gives
use Rattle.market_history.specs.Examples.{mug, id, request, given, taken, made, answered, create}
use Rattle.market_history.specs.ExamplesCreate.{asked, to_lane}
use Rattle.market_history.specs.Once.{give_with, reply_of}

-- a request that was asked, and then answered
abbrev pub lane_asked : List Entry
lane_asked = given 1 (request 1 create) ∷ made asked ∷ []

abbrev pub lane_answered : List Entry
lane_answered =
    given 1 (request 1 create) ∷ made asked ∷ taken 7 to_lane ∷ answered 8 (id 1) (reply.Created 1) ∷ []

pub record LaneExamples : Type 0 where
  -- a new request is asked where the lane has room
  pub asked : give_with 2 lane_answered (request 2 (ask.View mug)) ≡ gives.Asked
  pub first : give_with 1 [] (request 1 create) ≡ gives.Asked
  -- one with an id that is kept and answered, with the same content and with other content
  pub kept : give_with 1 lane_answered (request 1 create) ≡ gives.Kept
  pub differs : give_with 1 lane_answered (request 1 (ask.Create mug 1000 51)) ≡ gives.Differs
  -- while a reply is due: any other request waits, and so does the same one; other content is seen first
  pub waiting : give_with 2 lane_asked (request 2 (ask.View mug)) ≡ gives.Waiting
  pub again : give_with 2 lane_asked (request 1 create) ≡ gives.Waiting
  pub differs_first : give_with 2 lane_asked (request 1 (ask.View mug)) ≡ gives.Differs
  -- waiting is seen before that there is no room
  pub full : give_with 1 lane_answered (request 2 (ask.View mug)) ≡ gives.Full
  pub waits_first : give_with 1 lane_asked (request 2 (ask.View mug)) ≡ gives.Waiting
  -- the reply
  pub reply : reply_of lane_answered (id 1) ≡ Some (reply.Created 1)
  pub no_reply : reply_of lane_asked (id 1) ≡ None
