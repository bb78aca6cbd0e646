-- One lane more gets its requests.
use Rattle.std.proofs.Common.{List, ap, subst, sym, ◌∙◌, arith}
use Rattle.std.specs.List.{AllByRecursion, slice_set}
use Rattle.market_events.specs.declared.requests.Request.{Request}
use Rattle.market_events.specs.Links.{lane_node}
use Rattle.market_turns.specs.Queues.{IsOwnRequest}
use Rattle.market_rounds.specs.Nodes.{at_node, with_requests}
use Rattle.market_rounds.proofs.Queueing.{given_none, given_lane, given_all, own_of}
use Rattle.market_rounds.proofs.nodes.Nodes.give.Goals as goal

pub loop-lane-init : goal.loop-lane-init
loop-lane-init c = (c.requires.ready, given_none c.args.given.now c.args.self.now)

pub loop-lane-preserved : goal.loop-lane-preserved
loop-lane-preserved c = (
  c.in_ok-queue.ensures.ready c.loop-lane.invariant.0
      (subst (AllByRecursion (IsOwnRequest (lane_node c.loop-lane.lane))) (sym c.in_ok-own.ensures) (own_of c.loop-lane.lane c.args.given.now c.requires.formed)),
  given_lane c.args.given.now c.args.self.now c.loop-lane.self c.queue.new.self c.loop-lane.lane c.loop-lane-test.true c.loop-lane.invariant.0 c.loop-lane.invariant.1
      (c.in_ok-queue.ensures.queued
      ∙ ap (λ (rs : List Request). slice_set c.loop-lane.self (lane_node c.loop-lane.lane) (with_requests (at_node c.loop-lane.self (lane_node c.loop-lane.lane)) rs)) c.in_ok-own.ensures),
)

pub returns-clause-given : goal.returns-clause-given
returns-clause-given c = given_all c.args.given.now c.args.self.now c.loop-lane.self c.loop-lane.lane (omega (arith, c.loop-lane-test.false)) c.loop-lane.invariant.1
