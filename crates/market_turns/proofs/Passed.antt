-- A lane's queue, request by request.
use Rattle.std.proofs.Common.{◌≡◌, List}
use Rattle.std.specs.List.{AllByRecursion}
use Rattle.market_events.specs.declared.requests.Request.{Request}
use Rattle.market_node.specs.Cores.{CoreState}
use Rattle.market_turns.specs.Queues.{IsOwnRequest, queue_after, with_queue}

-- of the whole queue, these requests are left to go through
pub record ArePassed (core : CoreState) (all : List Request) (now : CoreState) (left : List Request) : Type 0 where
  pub same : now ≡ core
  pub own : AllByRecursion (IsOwnRequest core.node) left
  pub asks : with_queue core.node core.entries left ≡ with_queue core.node core.entries all
  pub leaves : queue_after core.entries left ≡ queue_after core.entries all
