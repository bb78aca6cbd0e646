use Rattle.std.proofs.Common.{◌<◌, subst, arith}
use Rattle.market_events.specs.declared.nodes.TheConstants.{NODES}
use Rattle.market_rows.specs.Reading.{Tells, entry_read}
use Rattle.market_rows.proofs.RowAnswers.{answer_stands, answer_spelled, answer_reads, answer_bad}
use Rattle.market_rows.proofs.readers.read_row.Goals as goal

pub returns : goal.returns
returns c =
    let node = c.args.node in
    let place = c.args.place in
    let text = c.args.row.now.text in
    let high : node < NODES = omega arith in
    let said = subst (λ t. Tells c.entry.result (entry_read node place t)) c.as_slice-text.ensures c.entry.ensures in
    record {
      stands = answer_stands node place text c.entry.result high said;
      spelled = answer_spelled node place text c.entry.result high said;
      reads = answer_reads node place text c.entry.result said;
      bad = answer_bad node place text c.entry.result said;
    }
