use Rattle.std.proofs.Common.{◌≡◌, ◌++◌, take}
use Rattle.market_events.specs.Texts.{items_text}
use Rattle.market_texts.proofs.writers.write_items.Given as goal

abbrev pub invariant-loop-index : goal.invariant-loop-index
invariant-loop-index l = l.out.items ≡ l.initial.out.items ++ items_text (take l.index l.items)
