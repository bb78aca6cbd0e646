use Rattle.std.proofs.Common.{◌≡◌, IfOk, ◌∙◌}
use Rattle.market_history.specs.Once.{give_of}
use Rattle.market_world.specs.Arriving.{CanGive, after_give_of}
use Rattle.market_world.proofs.LaneOrder.{node_there, order_kept, of_lane, of_core, left_there}
use Rattle.market_world.proofs.lanes.Lanes.give.Goals as goal

pub give_at-requires : goal.give_at-requires
give_at-requires c =
    of_core c.self.inside.lanes.items c.self.invariant c.args.lane c.requires.lane c.args.self.now c.self.view_is c.index_mut.result.now c.index_mut.ensures.value
    (λ n entries. CanGive n entries c.args.request.now) c.requires.can

pub invariant_of-self : goal.invariant_of-self
invariant_of-self c =
    order_kept c.self.inside.lanes.items c.self.invariant c.args.lane c.requires.lane c.give_at.new.core
    (c.give_at.ensures.node ∙ node_there c.self.inside.lanes.items c.self.invariant c.args.lane c.requires.lane c.index_mut.result.now c.index_mut.ensures.value)

pub returns-clause-gives : goal.returns-clause-gives
returns-clause-gives c =
    of_lane c.self.inside.lanes.items c.self.invariant c.args.lane c.requires.lane c.args.self.now c.self.view_is c.index_mut.result.now c.index_mut.ensures.value
    (λ n entries. IfOk c.give_at.result (λ seen. seen ≡ give_of entries c.args.request.now)) c.give_at.ensures.gives

pub returns-clause-after : goal.returns-clause-after
returns-clause-after c =
    left_there c.self.inside.lanes.items c.self.invariant c.args.lane c.requires.lane c.args.self.now c.self.view_is c.index_mut.result.now c.index_mut.ensures.value
    c.give_at.new.core (λ n entries. after_give_of n entries c.args.request.now c.give_at.result) c.give_at.ensures.after
