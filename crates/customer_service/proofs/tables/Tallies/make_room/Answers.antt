use Rattle.std.proofs.Common.{◌∙◌, take}
use Rattle.std.proofs.lemmas.List.Elements.{All-more, All-weaker}
use Rattle.market_events.specs.declared.bodies.Item.{Item}
use Rattle.customer_service.specs.Tables.{tally_at, HasTally}
use Rattle.customer_service.proofs.Entries.{set_same, no_item}
use Rattle.customer_service.proofs.tables.Tallies.make_room.Goals as goal

pub loop-item-preserved : goal.loop-item-preserved
loop-item-preserved c = record {
  unchanged = λ q. set_same (tally_at c.loop-item.self) (tally_at c.set.new.self) _ c.get-tally.result c.get-tally.ensures c.in_ok-set.ensures.ok q
      ∙ c.loop-item.invariant.unchanged q;
  entered = All-more (λ (i : Item). HasTally c.set.new.self i.customer) c.args.items.now c.loop-item.item-index no_item c.loop-item-test.true
      (All-weaker (λ (i : Item). HasTally c.loop-item.self i.customer) (λ (i : Item). HasTally c.set.new.self i.customer)
      (λ i. c.in_ok-set.ensures.others i.customer) (take c.loop-item.item-index c.args.items.now) c.loop-item.invariant.entered)
      c.in_ok-set.ensures.entered;
}
