-- The event after those that were taken.
use Rattle.std.proofs.Common.{◌^◌, ◌<◌, ap, ◌∙◌, arith}
use Rattle.market_history.specs.Histories.{Histories}
use Rattle.market_world.specs.Waiting.{first_of}
use Rattle.market_world.proofs.Finding.{first-with, taken-few}
use Rattle.market_world.proofs.world.World.waiting.Goals as goal

pub overflow_add-taken : goal.overflow_add-taken
overflow_add-taken c =
    let few : c.taken-taken.result < 2 ^ 24 = taken-few c.self.inside.cores c.self.invariant c.args.link c.taken-taken.result c.requires c.taken-taken.ensures in
    omega arith

pub returns-clause-first : goal.returns-clause-first
returns-clause-first c =
    c.event.ensures ∙ first-with c.self.inside.cores c.self.invariant c.args.link c.taken-taken.result c.requires c.taken-taken.ensures
    ∙ ap (λ (h : Histories). first_of h c.args.link) c.self.view_is
