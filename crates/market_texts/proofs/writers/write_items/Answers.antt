use Rattle.std.proofs.Common.{arith}
use Rattle.std.proofs.lemmas.Grind.{common_steps}
use Rattle.market_events.specs.declared.bodies.Item.{Item}
use Rattle.market_events.specs.Texts.{item_text}
use Rattle.market_words.proofs.Joining.{joined_more}
use Rattle.market_texts.proofs.writers.write_items.Goals as goal

pub loop-index-preserved : goal.loop-index-preserved
loop-index-preserved c =
    let none : Item = record { checkout = record { caller = 0; number = 0 }; customer = 0; key = record { seller = 0; product = 0 } } in
    grind (arith, common_steps, joined_more 59 item_text c.args.items.now c.loop-index.index none c.loop-index-test.true)
