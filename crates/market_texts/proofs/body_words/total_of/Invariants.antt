use Rattle.std.proofs.Common.{◌≡◌, ◌≤◌, ◌*◌, take}
use Rattle.market_events.specs.WellFormed.{total_of}
use Rattle.market_texts.proofs.body_words.total_of.Given as goal

-- the total so far is that of the lines so far, each of which adds 64 bits
abbrev pub invariant-loop-line : goal.invariant-loop-line
invariant-loop-line l = record {
  exact : l.total ≡ total_of (take l.line-index l.lines);
  room : l.total ≤ 18_446_744_073_709_551_615 * l.line-index;
}
