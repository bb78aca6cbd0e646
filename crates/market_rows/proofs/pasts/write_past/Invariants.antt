use Rattle.std.proofs.Common.{◌≡◌, ◌++◌, take, string_bytes}
use Rattle.market_rows.specs.Rows.{past_text}
use Rattle.market_rows.proofs.pasts.write_past.Given as goal

abbrev pub invariant-loop-link : goal.invariant-loop-link
invariant-loop-link l = string_bytes l.out ≡ string_bytes l.initial.out ++ past_text (take l.link l.past)
