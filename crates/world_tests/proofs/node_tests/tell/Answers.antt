use Rattle.std.proofs.Common.{refl, arith}
use Rattle.market_events.specs.declared.bodies.Body.TheVariants as body
use Rattle.market_events.specs.declared.events.Event.{Event}
use Rattle.market_events.specs.declared.replies.Reply.TheVariants as reply
use Rattle.world_tests.specs.declared.node_tests.TheConstants.{CART_TO_LANE}
use Rattle.world_tests.proofs.TestedNodes.{grew_told}
use Rattle.world_tests.proofs.node_tests.tell.Goals as goal

pub returns : goal.returns
returns c =
    let event : Event = record { link = CART_TO_LANE; number = c.args.number; clock = 4; past = c.zero.result; body = body.Told c.args.id reply.Removed } in
    record {
      grew = grew_told c.take.result c.args.lane.now c.take.new.self event c.args.id reply.Removed c.requires.small.node refl (omega arith)
          c.take.ensures.taken c.take.ensures.other c.take.ensures.err;
    }
