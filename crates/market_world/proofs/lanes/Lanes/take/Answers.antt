use Rattle.std.proofs.Common.{◌≡◌, IfOk, ◌∙◌}
use Rattle.market_events.specs.Offers.{offer_of}
use Rattle.market_history.specs.Causality.{events_taken}
use Rattle.market_world.specs.Arriving.{CanOffer, after_offer_of}
use Rattle.market_world.proofs.LaneOrder.{node_there, order_kept, of_lane, of_core, left_there}
use Rattle.market_world.proofs.lanes.Lanes.take.Goals as goal

pub take_at-requires : goal.take_at-requires
take_at-requires c =
    of_core c.self.inside.lanes.items c.self.invariant c.args.lane c.requires.lane c.args.self.now c.self.view_is c.index_mut.result.now c.index_mut.ensures.value
    (λ n entries. CanOffer n entries c.args.event.now) c.requires.can

pub invariant_of-self : goal.invariant_of-self
invariant_of-self c =
    order_kept c.self.inside.lanes.items c.self.invariant c.args.lane c.requires.lane c.take_at.new.core
    (c.take_at.ensures.node ∙ node_there c.self.inside.lanes.items c.self.invariant c.args.lane c.requires.lane c.index_mut.result.now c.index_mut.ensures.value)

pub returns-clause-offers : goal.returns-clause-offers
returns-clause-offers c =
    of_lane c.self.inside.lanes.items c.self.invariant c.args.lane c.requires.lane c.args.self.now c.self.view_is c.index_mut.result.now c.index_mut.ensures.value
    (λ n entries. IfOk c.take_at.result (λ seen. seen ≡ offer_of n (events_taken entries) c.args.event.now)) c.take_at.ensures.offers

pub returns-clause-after : goal.returns-clause-after
returns-clause-after c =
    left_there c.self.inside.lanes.items c.self.invariant c.args.lane c.requires.lane c.args.self.now c.self.view_is c.index_mut.result.now c.index_mut.ensures.value
    c.take_at.new.core (λ n entries. after_offer_of n entries c.args.event.now c.take_at.result) c.take_at.ensures.after
