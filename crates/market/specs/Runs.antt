-- What a run says of its input.
use Rattle.std.specs.Prelude.{◌≡◌, ℕ, List, Result, Err}
use Rattle.market.specs.Statuses.{input_rule_of}
use Rattle.market_events.specs.declared.requests.Request.{Request}
use Rattle.market_texts.specs.declared.workload.WorkRule.{WorkRule}
use Rattle.market.specs.declared.statuses.Status.{Status}
use Rattle.market.specs.declared.statuses.Status.TheVariants.{Done, Usage, InputTooLong, BadInput, ReadFault}
use Rattle.market.specs.declared.statuses.Status.TheVariants.{WriteFault, OutOfMemory}

-- why bytes give no output: a bad record, or want of memory
abbrev pub TellsBad : Result (List Request) (ℕ × WorkRule) → Status → Type 0
TellsBad said (BadInput n rule) =
    (broken : WorkRule) × (said ≡ Err (n, broken)) × (rule ≡ input_rule_of broken)
TellsBad said OutOfMemory = Unit {0}
TellsBad said Done = ⊥
TellsBad said Usage = ⊥
TellsBad said InputTooLong = ⊥
TellsBad said ReadFault = ⊥
TellsBad said WriteFault = ⊥
