-- The requests of an input, or its first bad record.
use Rattle.std.specs.Prelude.{◌≡◌, ℕ, ◌+◌, List, [], ◌∷◌, Result, Ok, Err}
use Rattle.market_words.specs.Results.{◌>>=◌}
use Rattle.market_texts.specs.Workload.{request_of}
use Rattle.market_events.specs.declared.requests.Request.{Request}
use Rattle.market_texts.specs.declared.workload.WorkRule.{WorkRule}
use Rattle.market.specs.Records.{records_of}
use Rattle.market.specs.declared.workload.WorkFault.{WorkFault}
use Rattle.market.specs.declared.workload.WorkFault.TheVariants.{Line, OutOfMemory}

-- a refusal with the number of its record
abbrev pub at_record : ℕ → Result Request WorkRule → Result Request (ℕ × WorkRule)
at_record n (Ok request) = Ok request
at_record n (Err rule) = Err (n, rule)

-- the requests of records that stand after n others, or the number and the rule of the first that breaks one
abbrev pub requests_after : ℕ → List (List (List ℕ)) → Result (List Request) (ℕ × WorkRule)
requests_after n [] = Ok []
requests_after n (r ∷ rs) =
    at_record (n + 1) (request_of r) >>= λ q. requests_after (n + 1) rs >>= λ qs. Ok (q ∷ qs)

-- the requests of an input, or the number, from 1, and the rule of its first bad record
abbrev pub workload_of : List ℕ → Result (List Request) (ℕ × WorkRule)
workload_of text = requests_after 0 (records_of text)

-- what a fault says, unless it is want of memory
abbrev pub TellsWorkFault : {A : Type 0} → Result A (ℕ × WorkRule) → WorkFault → Type 0
TellsWorkFault said (Line n rule) = said ≡ Err (n, rule)
TellsWorkFault said OutOfMemory = Unit {0}
