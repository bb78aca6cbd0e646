use Rattle.std.proofs.Common.{◌≡◌, ◌-◌, vec_len}
use Rattle.std.specs.List.{All}
use Rattle.market_events.specs.WellFormed.{IsRequest}
use Rattle.market.proofs.Reading.Workloads.{StandsBehind}
use Rattle.market.proofs.workload.read_workload.Given as goal

-- the requests so far, in front of those of the records that are left, are those of the input, and well formed
abbrev pub invariant-records : goal.invariant-records
invariant-records l = StandsBehind l.fn.text l.reader l.number l.requests.items × (vec_len l.requests ≡ l.number) × All IsRequest l.requests.items

abbrev pub decreases-records : goal.decreases-records
decreases-records l = 67_108_864 - l.number
