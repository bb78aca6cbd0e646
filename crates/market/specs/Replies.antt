-- Requests answered one after the other by the sequential market, with their replies.
use Rattle.std.specs.Prelude.{List, [], ◌∷◌}
use Rattle.market_events.specs.declared.requests.Request.{Request}
use Rattle.market.specs.declared.lanes.Kept.{Kept}
use Rattle.market_history.specs.Acts.{Acts, no_acts}
use Rattle.market_history.specs.Sequential.{sequential_reply, sequential_step}

-- requests with their replies, where they are answered one after the other after these acts
abbrev pub replies_after : Acts → List Request → List Kept
replies_after acts [] = []
replies_after acts (r ∷ rs) =
    record { request = r; reply = sequential_reply acts r } ∷ replies_after (sequential_step acts r) rs

-- requests with their replies from the empty market on
abbrev pub sequential_replies : List Request → List Kept
sequential_replies requests = replies_after no_acts requests
