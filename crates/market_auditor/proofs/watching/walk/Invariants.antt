-- What the watcher saw of the first entries.
use Rattle.market_auditor.proofs.Walking.{HasSeen}
use Rattle.market_auditor.proofs.watching.walk.Given as goal

abbrev pub invariant-loop-place : goal.invariant-loop-place
invariant-loop-place g l = HasSeen g.W.Watcher.criterion g.W.Watcher.saw l.fn.watcher l.watcher l.entries l.place
