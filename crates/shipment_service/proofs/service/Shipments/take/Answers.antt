use Rattle.std.proofs.Common.{◌+◌, length, ap, sym, ◌∙◌, arith}
use Rattle.std.proofs.Math.Logic.{∥∥₁_elim}
use Rattle.std.specs.Coded.{le_prop}
use Rattle.market_events.specs.declared.bodies.Body.TheVariants as body
use Rattle.market_events.specs.Shipments.{packages_in, shipment_rows, shipment_sums}
use Rattle.shipment_service.specs.Holds.{waiting_by}
use Rattle.shipment_service.proofs.Steps.{can_serve, room, deliver-made, deliver-kept, ship-made, ship-kept, quiet-made, quiet-kept, quiet-asked, waiting-below, table-length, no_other}
use Rattle.shipment_service.proofs.Outcomes.{on_ok2, on_err2}
use Rattle.std.proofs.lemmas.Result.{on_ok_weaker}
use Rattle.shipment_service.proofs.Runs.{waiting-lined, waiting-rise}
use Rattle.shipment_service.proofs.service.Shipments.take.Goals as goal

pub deliver-requires-clause-few : goal.deliver-requires-clause-few
deliver-requires-clause-few c =
    let self = c.args.self.now in
    ∥∥₁_elim c.requires.can squash₁ (λ it. ∣ (waiting_by it.1, can_serve self it.1 it.2.run it.2.held) ∣₁)

pub ship-requires-clause-room : goal.ship-requires-clause-room
ship-requires-clause-room c =
    let self = c.args.self.now in
    ∥∥₁_elim c.requires.can le_prop (λ it.
    omega (
      arith,
      room self it.1 it.2.run it.2.held it.0 c.args.body.now it.3 c.in-Confirmed.checkout c.in-Confirmed.customer c.in-Confirmed.lines c.in-Confirmed.field-3 c.in-Confirmed.is,
      ap length c.as_slice.ensures,
    ))

pub returns-in-Deliver-clause-made : goal.returns-in-Deliver-clause-made
returns-in-Deliver-clause-made c =
    let self = c.args.self.now in
    on_ok_weaker c.deliver.result (λ made from steps stands fit.
    made (waiting_by steps) stands.held.waiting (waiting-lined steps stands.run)
    ∙ deliver-made self steps stands.run stands.held from c.args.body.now fit c.in-Asked.request c.in-Asked.is c.in-Deliver.is)
    c.deliver.ensures.made

pub returns-in-Deliver-clause-kept : goal.returns-in-Deliver-clause-kept
returns-in-Deliver-clause-kept c =
    let self = c.args.self.now in
    let new = c.deliver.new.self in
    on_ok2 (λ closed left from steps stands fit.
    deliver-kept self steps stands.run stands.held from c.args.body.now fit c.in-Asked.request c.in-Asked.is c.in-Deliver.is
    new (closed (waiting_by steps) stands.held.waiting (waiting-lined steps stands.run)) (left (waiting_by steps) stands.held.waiting (waiting-lined steps stands.run)))
    c.deliver.result c.deliver.ensures.closed c.deliver.ensures.left

pub returns-in-Deliver-clause-err : goal.returns-in-Deliver-clause-err
returns-in-Deliver-clause-err c =
    on_err2 (λ same waits steps held. record { packages = same ∙ held.packages; waiting = waits (waiting_by steps) held.waiting (waiting-rise steps) })
    c.deliver.result c.deliver.ensures.same c.deliver.ensures.err

pub returns-in_default-ask : goal.returns-in_default-ask
returns-in_default-ask c =
    let self = c.args.self.now in
    record {
      made = λ from steps stands fit.
          c.requires.empty
          ∙ quiet-made self steps stands.run stands.held from c.args.body.now fit (ap packages_in c.in-Asked.is)
          (ap (shipment_rows (shipment_sums steps)) c.in-Asked.is ∙ quiet-asked steps c.in-Asked.request c.in_default-ask.not-Deliver);
      kept = λ from steps stands fit.
          quiet-kept self steps stands.run stands.held from c.args.body.now fit (ap packages_in c.in-Asked.is)
          (ap (shipment_rows (shipment_sums steps)) c.in-Asked.is ∙ quiet-asked steps c.in-Asked.request c.in_default-ask.not-Deliver);
      err = tt;
    }

pub returns-in-Confirmed-clause-made : goal.returns-in-Confirmed-clause-made
returns-in-Confirmed-clause-made c =
    let self = c.args.self.now in
    on_ok_weaker c.ship.result (λ made from steps stands fit.
    made
    ∙ ship-made self steps stands.run stands.held from c.args.body.now fit c.in-Confirmed.checkout c.in-Confirmed.customer c.in-Confirmed.lines c.in-Confirmed.field-3 c.in-Confirmed.is)
    c.ship.ensures.made

pub returns-in-Confirmed-clause-kept : goal.returns-in-Confirmed-clause-kept
returns-in-Confirmed-clause-kept c =
    let self = c.args.self.now in
    let new = c.ship.new.self in
    let lines = c.as_slice.result.now in
    let is = c.in-Confirmed.is ∙ ap (λ lines. body.Confirmed c.in-Confirmed.checkout c.in-Confirmed.customer lines c.in-Confirmed.field-3) (sym c.as_slice.ensures) in
    on_ok2 (λ packed waits from steps stands fit.
    ship-kept self steps stands.run stands.held from c.args.body.now fit c.in-Confirmed.checkout c.in-Confirmed.customer lines c.in-Confirmed.field-3 is
    new packed waits)
    c.ship.result c.ship.ensures.packed c.ship.ensures.waits

pub returns-in-Confirmed-clause-err : goal.returns-in-Confirmed-clause-err
returns-in-Confirmed-clause-err c =
    let self = c.args.self.now in
    on_err2 (λ same waits steps held.
    record {
      packages = same ∙ held.packages;
      waiting = waits (waiting_by steps) held.waiting (waiting-below steps (length self.packages + 1) (omega (arith, table-length self.packages steps held.packages)));
    })
    c.ship.result c.ship.ensures.same c.ship.ensures.err

pub returns-in_default : goal.returns-in_default
returns-in_default c = record {
  made = λ from steps stands fit. absurd (no_other steps from c.args.body.now fit c.in_default.not-Asked c.in_default.not-Confirmed);
  kept = λ from steps stands fit. absurd (no_other steps from c.args.body.now fit c.in_default.not-Asked c.in_default.not-Confirmed);
  err = tt;
}
