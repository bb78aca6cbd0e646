-- The first event of a link is an event of a link; one link more; and after all of them the oldest is taken.
use Rattle.std.proofs.Common.{◌≡◌, ◌+◌, Option, Some, Bor, sym, subst, arith}
use Rattle.std.specs.Option.{option_copied}
use Rattle.market_events.specs.declared.events.Event.{Event}
use Rattle.market_events.specs.declared.links.TheConstants.{LINKS}
use Rattle.market_laws.proofs.Oldest.Taken.{oldest-outcome}
use Rattle.market_world.specs.Waiting.{IsFoundBelow, IsOldestBelow}
use Rattle.market_world.proofs.Finding.{first-is_link, older-found, oldest-of_all}
use Rattle.market_world.proofs.outstanding.oldest.Goals as goal

pub loop-index-preserved : goal.loop-index-preserved
loop-index-preserved c = (
  subst (IsFoundBelow c.args.world.now (c.loop-index.index + 1)) (sym c.older-found.ensures)
      (older-found c.args.world.now c.waiting.ensures.lawful c.loop-index.index c.link_at.result c.link_at.ensures.link c.link_at.ensures.index
      (option_copied c.loop-index.found) (option_copied c.waiting.result) c.loop-index.invariant.0 (sym c.waiting.ensures.first)),
  λ some. c.waiting.ensures.lawful,
)

pub older-found-requires-clause-first : goal.older-found-requires-clause-first
older-found-requires-clause-first c = first-is_link c.args.world.now c.waiting.ensures.lawful c.link_at.result c.link_at.ensures.link (option_copied c.waiting.result) c.waiting.ensures.first

pub returns-clause-taken : goal.returns-clause-taken
returns-clause-taken c =
    let all : c.loop-index.index ≡ LINKS = omega (arith, c.loop-index-test.false, c.loop-index.auto.index-end) in
    let lawful = c.loop-index.invariant.1 (omega (arith, all)) in
    let found : IsOldestBelow c.args.world.now LINKS c.in_ok-event.event.now =
    subst (λ n. IsFoundBelow c.args.world.now n (Some c.in_ok-event.event.now)) all (subst (λ (f : Option (Bor Event)). IsFoundBelow c.args.world.now c.loop-index.index (option_copied f)) c.in_ok-event.was c.loop-index.invariant.0) in
    oldest-outcome c.args.world.now lawful c.in_ok-event.event.now.link c.in_ok-event.event.now.number found.on (oldest-of_all c.args.world.now lawful c.in_ok-event.event.now found)
