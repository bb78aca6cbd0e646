-- What a marketplace is to those who use it, and what requests leave of it.
use Rattle.std.specs.Prelude.{◌≡◌, ℕ, ◌<◌, Bool, List, map, Some}
use Rattle.market_events.specs.declared.lanes.TheConstants.{LANES}
use Rattle.market_events.specs.declared.replies.Reply.{Reply}
use Rattle.market_events.specs.declared.requests.Request.{Request}
use Rattle.market_history.specs.Histories.{Histories, BeginsWith}
use Rattle.market_history.specs.Once.{answer_for, kept_by, kept_with}
use Rattle.market_history.specs.Outstanding.{IsSettled}
use Rattle.market_world.specs.Sound.{IsComplete, IsSound}

-- the journals of its nodes, and whether it can go on
pub record MarketState : Type 0 where
  pub histories : Histories
  pub usable : Bool

-- the histories go on, each lane keeps its own of the given requests too, each once, and no event is
-- outstanding
pub record HaveSettled (before after : Histories) (given : List Request) : Type 0 where
  pub begun : BeginsWith after before
  pub kept : (lane : ℕ) → lane < LANES → kept_by after lane ≡ kept_with before lane given
  pub settled : IsSettled after
  pub sound : IsSound after
  pub complete : IsComplete after

-- one reply for each request: its answer by these histories
abbrev pub AreAnswers : Histories → List Request → List Reply → Type 0
AreAnswers h given replies = map (λ (reply : Reply). Some reply) replies ≡ map (answer_for h) given
