-- One entry more, and the first that is not right.
use Rattle.std.proofs.Common.{◌≡◌, ◌≤◌, true, false, Bool, length, subst, arith}
use Rattle.market_auditor.specs.Watching.{Judges}
use Rattle.market_auditor.proofs.Walking.{few_places, stands_at, seen_nothing, seen_next, first_here}
use Rattle.market_auditor.proofs.watching.walk.Goals as goal

pub look-requires : goal.look-requires
look-requires g c = stands_at c.args.entries.now c.loop-place.place c.index-entries-place.result c.loop-place-test.true c.index-entries-place.is c.requires

pub loop-place-init : goal.loop-place-init
loop-place-init g c = seen_nothing _ _ _ c.args.watcher.now _

pub loop-place-preserved : goal.loop-place-preserved
loop-place-preserved g c =
    let yes : c.in_ok-look.field-0 ≡ true = grind arith in
    seen_next g.W.Watcher.criterion g.W.Watcher.saw c.args.watcher.now c.loop-place.watcher c.args.entries.now c.loop-place.place c.index-entries-place.result c.loop-place-test.true c.index-entries-place.is c.loop-place.invariant c.look.new.self
    (λ h n before saw at. subst (λ (right : Bool). Judges g.W.Watcher.criterion h n before c.index-entries-place.result (g.W.Watcher.saw c.look.new.self h n) right) yes (c.in_ok-look.ensures h n before saw at))

pub overflow_cast-result : goal.overflow_cast-result
overflow_cast-result g c =
    let most : length c.args.entries.now ≤ 4_294_967_295 = few_places c.args.entries.now c.requires in
    let lt = c.loop-place-test.true in
    omega arith

pub returns-then-not-branch : goal.returns-then-not-branch
returns-then-not-branch g c =
    let never : c.in_ok-look.field-0 ≡ false = grind arith in
    first_here g.W.Watcher.criterion g.W.Watcher.saw c.args.watcher.now c.loop-place.watcher c.args.entries.now c.loop-place.place c.index-entries-place.result c.loop-place-test.true c.index-entries-place.is c.loop-place.invariant c.look.new.self
    (λ h n before saw at. subst (λ (right : Bool). Judges g.W.Watcher.criterion h n before c.index-entries-place.result (g.W.Watcher.saw c.look.new.self h n) right) never (c.in_ok-look.ensures h n before saw at))

pub overflow_cast-result-else-may_end : goal.overflow_cast-result-else-may_end
overflow_cast-result-else-may_end g c =
    let most : length c.args.entries.now ≤ 4_294_967_295 = few_places c.args.entries.now c.requires in
    omega arith
