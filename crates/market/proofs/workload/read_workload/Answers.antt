use Rattle.std.proofs.Common.{Err, ap, ◌∙◌, arith}
use Rattle.std.proofs.lemmas.Result.{err_from_is_err_and}
use Rattle.std.proofs.lemmas.List.Elements.{All-nil, All-push}
use Rattle.market_events.specs.WellFormed.{IsRequest}
use Rattle.csv.specs.Records.{fields_of}
use Rattle.market.proofs.Reading.Workloads.{begins, goes_on, tells_fault, still_less, ends}
use Rattle.market.proofs.workload.read_workload.Goals as goal

pub records-init : goal.records-init
records-init c = (
  rw c.new-requests.ensures.items (begins c.args.text.now c.open_records-reader.result c.open_records-reader.ensures c.requires),
  c.new-requests.ensures.len,
  rw c.new-requests.ensures.items (All-nil IsRequest),
)

pub returns-in_err-id-clause-reads : goal.returns-in_err-id-clause-reads
returns-in_err-id-clause-reads c =
    let found = rw c.if-branch.true at c.in_ok-next_record.ensures in
    let exit = err_from_is_err_and c.from_residual-in_err-id.result c.from_residual-in_err-id.ensures.1 in
    tells_fault c.args.text.now c.records.reader c.next_record.new.reader c.records.number c.records.requests.items (fields_of c.next_record.new.row)
    c.records.invariant.0 found _ c.in_err-id.ensures.reads _ (exit.1 ∙ ap Err exit.2)

pub records-smaller : goal.records-smaller
records-smaller c =
    let found = rw c.if-branch.true at c.in_ok-next_record.ensures in
    let less = still_less c.args.text.now c.records.reader c.next_record.new.reader c.records.number c.records.requests.items (fields_of c.next_record.new.row) c.records.invariant.0 found in
    omega arith

pub records-preserved : goal.records-preserved
records-preserved c =
    let found = rw c.if-branch.true at c.in_ok-next_record.ensures in (
      rw c.in_ok-push.ensures.items (goes_on c.args.text.now c.records.reader c.next_record.new.reader c.records.number c.records.requests.items (fields_of c.next_record.new.row) _ c.records.invariant.0 found c.in_ok-id.ensures.reads),
      omega (arith, c.in_ok-push.ensures.len, c.records.invariant.1),
      rw c.in_ok-push.ensures.items (All-push IsRequest c.records.requests.items _ c.records.invariant.2 c.in_ok-id.ensures.formed),
    )

pub returns-clause-reads : goal.returns-clause-reads
returns-clause-reads c =
    let found = rw c.if-branch.false at c.in_ok-next_record.ensures in
    ends c.args.text.now c.records.reader c.next_record.new.reader c.records.number c.records.requests.items (fields_of c.next_record.new.row) c.records.invariant.0 found

pub returns-clause-few : goal.returns-clause-few
returns-clause-few c = omega (arith, c.records.invariant.0.within, c.records.invariant.1)

pub returns-clause-formed : goal.returns-clause-formed
returns-clause-formed c = c.records.invariant.2
