-- Histories of which the laws on settled histories are false: lawful and unsettled, or settled and unlawful.
use Rattle.std.specs.Prelude.{◌≡◌, true, false, is_some, [], ◌∷◌}
use Rattle.market_events.specs.declared.links.Link.TheVariants.{Asked}
use Rattle.market_events.specs.declared.replies.Reply.TheVariants as reply
use Rattle.market_events.specs.declared.requests.Ask.TheVariants as ask
use Rattle.market_events.specs.Links.{product_node}
use Rattle.market_history.specs.Book.{IsBook}
use Rattle.market_history.specs.Checkouts.{is_kept_checkout, IsDecided}
use Rattle.market_history.specs.Examples.{id, request, give, offer, given, answered, create, caller_lane}
use Rattle.market_history.specs.Examples.{caller_node}
use Rattle.market_history.specs.Histories.{Histories, journal_at, no_histories}
use Rattle.market_history.specs.Lawful.{IsLawful}
use Rattle.market_history.specs.Once.{is_waiting, kept_by, reply_at}
use Rattle.market_history.specs.Outstanding.{IsSettled}
use Rattle.market_history.specs.Schedule.{play}
use Rattle.market_laws.specs.CounterexamplesHistories.{of_one, never_made}
use Rattle.market_laws.specs.Runs.{Member}

-- a request that is on its way, and one of which nothing was made
abbrev pub waiting : Histories
waiting = play no_histories (give 1 create ∷ [])

abbrev pub forgotten : Histories
forgotten = of_one caller_node (given 1 (request 1 create) ∷ [])

-- a checkout that is on its way, and one that is answered to be whole with no order
abbrev pub undecided : Histories
undecided = play no_histories (give 5 (ask.Checkout 7) ∷ [])

abbrev pub whole_unordered : Histories
whole_unordered =
    of_one caller_node (given 1 (request 5 (ask.Checkout 7)) ∷ answered 2 (id 5) (reply.Whole 1950) ∷ [])

-- a change that neither the cart nor stock took yet
abbrev pub untold : Histories
untold = play no_histories (give 1 create ∷ offer (Asked caller_lane product_node) 1 ∷ [])

pub record SettledCounterexamples : Type 0 where
  -- settled_lanes_answer
  pub waiting_lawful : IsLawful waiting
  pub waiting_unsettled : IsSettled waiting → ⊥
  pub waiting_kept : Member (request 1 create) (kept_by waiting caller_lane)
  pub waiting_idle : (is_waiting (journal_at waiting (caller_node)) ≡ false) → ⊥
  pub waiting_answered : (is_some (reply_at waiting (id 1)) ≡ true) → ⊥
  pub forgotten_unlawful : IsLawful forgotten → ⊥
  pub forgotten_settled : IsSettled forgotten
  pub forgotten_kept : Member (request 1 create) (kept_by forgotten caller_lane)
  pub forgotten_idle : (is_waiting (journal_at forgotten (caller_node)) ≡ false) → ⊥
  pub forgotten_answered : (is_some (reply_at forgotten (id 1)) ≡ true) → ⊥
  -- settled_checkouts_are_decided
  pub undecided_lawful : IsLawful undecided
  pub undecided_unsettled : IsSettled undecided → ⊥
  pub undecided_kept : is_kept_checkout undecided (id 5) ≡ true
  pub undecided_decided : IsDecided undecided (id 5) → ⊥
  pub unordered_unlawful : IsLawful whole_unordered → ⊥
  pub unordered_settled : IsSettled whole_unordered
  pub unordered_kept : is_kept_checkout whole_unordered (id 5) ≡ true
  pub unordered_decided : IsDecided whole_unordered (id 5) → ⊥
  -- settled_histories_are_the_book
  pub untold_lawful : IsLawful untold
  pub untold_unsettled : IsSettled untold → ⊥
  pub untold_book : IsBook untold → ⊥
  -- the copies show what was never made
  pub never_settled : IsSettled never_made
  pub never_book : IsBook never_made → ⊥
