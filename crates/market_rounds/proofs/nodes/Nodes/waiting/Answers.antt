-- The event after those that were taken.
use Rattle.std.proofs.Common.{◌^◌, ◌<◌, List, ap, subst, sym, ◌∙◌, arith}
use Rattle.market_rounds.specs.Nodes.{FatedNode, AreReady, histories_by}
use Rattle.market_world.specs.Waiting.{first_of}
use Rattle.market_rounds.proofs.Settling.Done.{taken_few, first_there}
use Rattle.market_rounds.proofs.nodes.Nodes.waiting.Goals as goal

pub overflow_add-taken : goal.overflow_add-taken
overflow_add-taken c =
    let few : c.taken-taken.result < 2 ^ 24 = taken_few c.self.inside.groups (subst AreReady (sym c.self.view_is) c.requires.ready) c.args.link c.taken-taken.result c.requires.link c.taken-taken.ensures in
    omega (arith, few)

pub returns : goal.returns
returns c =
    c.event.ensures
    ∙ first_there c.self.inside.groups (subst AreReady (sym c.self.view_is) c.requires.ready) c.args.link c.taken-taken.result c.requires.link c.taken-taken.ensures
    ∙ ap (λ (nodes : List FatedNode). first_of (histories_by nodes) c.args.link) c.self.view_is
