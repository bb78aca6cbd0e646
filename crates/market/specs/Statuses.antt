-- How commands end.
use Rattle.std.specs.Prelude.{ℕ, Bool, true, false, List, [], ◌∷◌, ◌++◌, codes}
use Rattle.std.specs.Fmt.{decimal}
use Rattle.market_texts.specs.declared.workload.WorkRule.{WorkRule}
use Rattle.market_texts.specs.declared.workload.WorkRule.TheVariants as work
use Rattle.market.specs.declared.statuses.InputRule.{InputRule}
use Rattle.market.specs.declared.statuses.InputRule.TheVariants as input
use Rattle.market.specs.declared.statuses.Status.{Status}
use Rattle.market.specs.declared.statuses.Status.TheVariants.{Done, Usage, InputTooLong, BadInput, ReadFault}
use Rattle.market.specs.declared.statuses.Status.TheVariants.{WriteFault, OutOfMemory}

-- the rule of a workload record among those of all inputs
abbrev pub input_rule_of : WorkRule → InputRule
input_rule_of work.Fields = input.Fields
input_rule_of work.Number = input.Number
input_rule_of work.Range = input.Range
input_rule_of work.Kind = input.Kind

-- the text of a rule
abbrev pub rule_text : InputRule → List ℕ
rule_text input.Fields = codes "fields"
rule_text input.Number = codes "number"
rule_text input.Range = codes "range"
rule_text input.Kind = codes "kind"

-- the text of a status
abbrev pub text_of_status : Status → List ℕ
text_of_status Done = []
text_of_status Usage = codes "usage"
text_of_status InputTooLong = codes "input too long"
text_of_status (BadInput n rule) = codes "line " ++ (decimal n ++ (codes ": " ++ rule_text rule))
text_of_status ReadFault = codes "read fault"
text_of_status WriteFault = codes "write fault"
text_of_status OutOfMemory = codes "out of memory"

-- what is told of a status: its text and a line feed, and nothing where the command was done
abbrev pub told_of : Status → List ℕ
told_of Done = []
told_of status = text_of_status status ++ 10 ∷ []

-- the exit status
abbrev pub exit_of : Status → ℕ
exit_of Done = 0
exit_of Usage = 2
exit_of InputTooLong = 3
exit_of (BadInput n rule) = 3
exit_of ReadFault = 4
exit_of WriteFault = 5
exit_of OutOfMemory = 9

-- whether the whole input was read before this
abbrev pub has_read_all : Status → Bool
has_read_all Done = true
has_read_all (BadInput n rule) = true
has_read_all WriteFault = true
has_read_all Usage = false
has_read_all InputTooLong = false
has_read_all ReadFault = false
has_read_all OutOfMemory = false

-- whether nothing was written before this
abbrev pub writes_nothing : Status → Bool
writes_nothing Done = false
writes_nothing WriteFault = false
writes_nothing (BadInput n rule) = true
writes_nothing Usage = true
writes_nothing InputTooLong = true
writes_nothing ReadFault = true
writes_nothing OutOfMemory = true
