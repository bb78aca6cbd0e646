use Rattle.std.proofs.Common.{◌≡◌, ◌++◌, take}
use Rattle.market_events.specs.Texts.{lines_text}
use Rattle.market_texts.proofs.writers.write_lines.Given as goal

abbrev pub invariant-loop-index : goal.invariant-loop-index
invariant-loop-index l = l.out.items ≡ l.initial.out.items ++ lines_text (take l.index l.lines)
