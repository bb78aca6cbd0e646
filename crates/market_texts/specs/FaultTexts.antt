-- The texts of faults.
use Rattle.std.specs.Prelude.{ℕ, List, ◌++◌, codes}
use Rattle.std.specs.Fmt.{decimal}
use Rattle.market_texts.specs.declared.faults.BodyError.{BodyError}
use Rattle.market_texts.specs.declared.faults.BodyError.TheVariants as bad
use Rattle.market_texts.specs.declared.faults.BodyFault.{BodyFault}
use Rattle.market_texts.specs.declared.faults.BodyFault.TheVariants.{Bad, OutOfMemory}
use Rattle.market_texts.specs.declared.workload.WorkRule.{WorkRule}
use Rattle.market_texts.specs.declared.workload.WorkRule.TheVariants as rule

abbrev pub error_text : BodyError → List ℕ
error_text bad.Kind = codes "kind"
error_text (bad.Field place) = codes "field " ++ decimal place
error_text (bad.Range place) = codes "range " ++ decimal place
error_text bad.Extra = codes "extra"

abbrev pub fault_text : BodyFault → List ℕ
fault_text (Bad error) = error_text error
fault_text OutOfMemory = codes "out of memory"

abbrev pub work_rule_text : WorkRule → List ℕ
work_rule_text rule.Fields = codes "fields"
work_rule_text rule.Number = codes "number"
work_rule_text rule.Range = codes "range"
work_rule_text rule.Kind = codes "kind"
