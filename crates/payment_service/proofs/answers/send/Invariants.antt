use Rattle.std.proofs.Common.{◌≡◌, ◌++◌, map, take}
use Rattle.payment_service.proofs.answers.send.Given as goal

-- the body is sent on the links so far
abbrev pub invariant-loop-link : goal.invariant-loop-link
invariant-loop-link l = l.outs ≡ l.fn.outs ++ map (λ link. (link, l.body)) (take l.link-index l.links)
