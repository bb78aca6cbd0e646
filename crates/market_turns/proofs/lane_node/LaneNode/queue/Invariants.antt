use Rattle.std.proofs.Common.{◌≡◌, ◌++◌, take}
use Rattle.market_turns.proofs.lane_node.LaneNode.queue.Given as goal

-- the requests so far stand at the end of the queue
abbrev pub invariant-loop-request : goal.invariant-loop-request
invariant-loop-request l =
    (l.self-inside.node ≡ l.fn.self.node) × (l.self-inside.queue.items ≡ l.fn.self.queue ++ take l.request-index l.fn.requests.items)
