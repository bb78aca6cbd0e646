use Rattle.std.proofs.Common.{◌≡◌}
use Rattle.market_events.proofs.name_lists.NameList.into_names.Given as goal

abbrev pub invariant-loop-name : goal.invariant-loop-name
invariant-loop-name l = l.all.items ≡ l.yielded
