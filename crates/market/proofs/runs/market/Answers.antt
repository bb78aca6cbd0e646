use Rattle.market.proofs.Reading.Ended.{done_or_memory}
use Rattle.market.proofs.runs.market.Goals as goal

pub returns-in-Some-Run-clause-complete : goal.returns-in-Some-Run-clause-complete
returns-in-Some-Run-clause-complete g c = λ form bytes told within requests valid calm_in calm_out.
    done_or_memory c.run.result bytes requests _ _ within valid calm_in calm_out
    c.run.ensures.no_usage c.run.ensures.read_fault (λ e. c.run.ensures.too_long_told e bytes told)
    (λ n rule e. c.run.ensures.bad_input n rule e bytes told) c.run.ensures.write_fault
