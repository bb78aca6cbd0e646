use Rattle.std.proofs.Common.{◌≡◌, take}
use Rattle.std.specs.List.{flat_map}
use Rattle.market.specs.Hand.{kept_replies, HandStands}
use Rattle.market.specs.Output.{answer_line}
use Rattle.market.proofs.answers.run_text.Given as goal

-- the hand stands for the requests so far, and these are their lines
abbrev pub invariant-loop-request : goal.invariant-loop-request
invariant-loop-request l =
    HandStands l.hand (take l.request-index l.requests)
    × (l.text.items ≡ flat_map (answer_line (kept_replies (take l.request-index l.requests))) (take l.request-index l.requests))
