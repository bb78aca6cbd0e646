use Rattle.std.proofs.Common.{◌≡◌, ◌+◌, None, length, map, ap, ap₂, sym, subst, ◌∙◌, arith}
use Rattle.std.proofs.Math.Logic.{∥∥₁_elim}
use Rattle.std.specs.Coded.{le_prop}
use Rattle.std.specs.List.{IsDistinct, range_with_len}
use Rattle.market_events.specs.declared.roles.Role.{Role}
use Rattle.std.specs.Map.{keys_of}
use Rattle.std.proofs.lemmas.List.{length-map}
use Rattle.std.proofs.lemmas.Map.Keys.{IsDistinct-prop}
use Rattle.market_events.specs.Shipments.{packages_in, shipment_rows, shipment_sums}
use Rattle.market_events.specs.Standing.{same_name, is_named, may_change, most_touched, most_by_ask}
use Rattle.market_events.proofs.NamedCells.Keyed.{if_ok}
use Rattle.market_events.proofs.NamedCells.Touched.{none_touched, map_may_change}
use Rattle.shipment_service.specs.Cells.{name_by, names_from}
use Rattle.shipment_service.specs.Tables.{put_at, groups_of}
use Rattle.shipment_service.proofs.Steps.{room, taken-few, quiet-asked, no_other}
use Rattle.shipment_service.proofs.Touches.{none-differ, names-length}
use Rattle.shipment_service.proofs.Touches.{payment-covers, delivery-covers, quiet-covers, taken-differ, lines-few, picked-by, delivering-touched}
use Rattle.shipment_service.proofs.service.ShipmentsTabled.touches.Goals as goal

pub names_behind-requires : goal.names_behind-requires
names_behind-requires c =
    let self = c.args.self.now in
    ∥∥₁_elim c.requires le_prop (λ it.
    omega (
      arith,
      room self it.0 it.1.run it.1.held c.args._from c.args.body.now it.2 c.in-Confirmed.field-0 c.in-Confirmed.field-1 c.in-Confirmed.lines c.in-Confirmed.field-3 c.in-Confirmed.is,
      c.len.ensures,
      ap length c.as_slice.ensures,
    ))

pub returns-in-Confirmed-clause-covers : goal.returns-in-Confirmed-clause-covers
returns-in-Confirmed-clause-covers c =
    let self = c.args.self.now in
    let before : c.len.result + 1 ≡ length self.packages + 1 = omega (arith, c.len.ensures) in
    if_ok (λ names e steps stands fit.
    payment-covers self steps stands.run stands.held c.args._from c.args.body.now fit c.in-Confirmed.field-0 c.in-Confirmed.field-1 c.in-Confirmed.lines c.in-Confirmed.field-3 c.in-Confirmed.is
    names.items (e ∙ ap₂ names_from before (ap length c.as_slice.ensures)))
    c.names_behind.result c.names_behind.ensures.named

pub returns-in-Confirmed-clause-few : goal.returns-in-Confirmed-clause-few
returns-in-Confirmed-clause-few c =
    if_ok (λ names e.
    ∥∥₁_elim c.requires le_prop (λ it.
    omega (
      arith,
      names.ok.0,
      ap length e,
      names-length (c.len.result + 1) (length c.as_slice.result.now),
      ap length c.as_slice.ensures,
      lines-few it.0 c.args._from c.args.body.now it.2 c.in-Confirmed.field-0 c.in-Confirmed.field-1 c.in-Confirmed.lines c.in-Confirmed.field-3 c.in-Confirmed.is,
      ap most_touched c.in-Confirmed.is,
    )))
    c.names_behind.result c.names_behind.ensures.named

pub returns-in_ok-numbers-in-Deliver-clause-covers : goal.returns-in_ok-numbers-in-Deliver-clause-covers
returns-in_ok-numbers-in-Deliver-clause-covers c =
    let numbers : c.as_slice-in-Deliver-2.result.now ≡ keys_of c.in_ok-picked-in-Deliver.picked = c.as_slice-in-Deliver-2.ensures.value ∙ c.in_ok-numbers-in-Deliver.ensures.ok in
    let self = c.args.self.now in
    if_ok (λ names e steps stands fit.
    let taken = picked-by self steps stands.run stands.held c.in_ok-turns-in-Deliver.ensures.rising c.in_ok-turns-in-Deliver.turns.items c.in_ok-turns-in-Deliver.ensures.first
    c.in_ok-picked-in-Deliver.picked c.in_ok-numbers-in-Deliver.ensures.rising (λ n. c.in_ok-picked-in-Deliver.ensures n ∙ ap (λ ts. put_at n None (groups_of self.waiting.queues ts)) c.as_slice-in-Deliver.ensures.value) in
    delivery-covers self steps stands.run stands.held c.args._from c.args.body.now fit c.in-Asked.request c.in-Asked.is c.in-Deliver.is
    names.items (e ∙ ap (map name_by) numbers ∙ ap (λ es. map name_by (keys_of es)) taken))
    c.names_of.result c.names_of.ensures

pub returns-in_ok-numbers-in-Deliver-clause-differ : goal.returns-in_ok-numbers-in-Deliver-clause-differ
returns-in_ok-numbers-in-Deliver-clause-differ c =
    let numbers : c.as_slice-in-Deliver-2.result.now ≡ keys_of c.in_ok-picked-in-Deliver.picked = c.as_slice-in-Deliver-2.ensures.value ∙ c.in_ok-numbers-in-Deliver.ensures.ok in
    let self = c.args.self.now in
    if_ok (λ names e.
    ∥∥₁_elim c.requires (IsDistinct-prop same_name names.items) (λ it.
    let taken = picked-by self it.0 it.1.run it.1.held c.in_ok-turns-in-Deliver.ensures.rising c.in_ok-turns-in-Deliver.turns.items c.in_ok-turns-in-Deliver.ensures.first
    c.in_ok-picked-in-Deliver.picked c.in_ok-numbers-in-Deliver.ensures.rising (λ n. c.in_ok-picked-in-Deliver.ensures n ∙ ap (λ ts. put_at n None (groups_of self.waiting.queues ts)) c.as_slice-in-Deliver.ensures.value) in
    subst (IsDistinct same_name) (sym (e ∙ ap (map name_by) numbers ∙ ap (λ es. map name_by (keys_of es)) taken)) (taken-differ it.0 it.1.run)))
    c.names_of.result c.names_of.ensures

pub returns-in_ok-numbers-in-Deliver-clause-few : goal.returns-in_ok-numbers-in-Deliver-clause-few
returns-in_ok-numbers-in-Deliver-clause-few c =
    let numbers : c.as_slice-in-Deliver-2.result.now ≡ keys_of c.in_ok-picked-in-Deliver.picked = c.as_slice-in-Deliver-2.ensures.value ∙ c.in_ok-numbers-in-Deliver.ensures.ok in
    let self = c.args.self.now in
    if_ok (λ names e.
    ∥∥₁_elim c.requires le_prop (λ it.
    let taken = picked-by self it.0 it.1.run it.1.held c.in_ok-turns-in-Deliver.ensures.rising c.in_ok-turns-in-Deliver.turns.items c.in_ok-turns-in-Deliver.ensures.first
    c.in_ok-picked-in-Deliver.picked c.in_ok-numbers-in-Deliver.ensures.rising (λ n. c.in_ok-picked-in-Deliver.ensures n ∙ ap (λ ts. put_at n None (groups_of self.waiting.queues ts)) c.as_slice-in-Deliver.ensures.value) in
    omega (
      arith,
      names.ok.0,
      ap length e,
      length-map c.as_slice-in-Deliver-2.result.now name_by,
      ap length numbers,
      length-map c.in_ok-picked-in-Deliver.picked (λ p. p.0),
      ap length taken,
      taken-few it.0 it.1.run,
      ap most_touched c.in-Asked.is ∙ ap most_by_ask c.in-Deliver.is,
    )))
    c.names_of.result c.names_of.ensures

pub returns-in_default-ask : goal.returns-in_default-ask
returns-in_default-ask c =
    let self = c.args.self.now in
    record {
      covers = λ steps stands fit.
          quiet-covers self steps stands.run stands.held c.args._from c.args.body.now fit (ap packages_in c.in-Asked.is)
          (ap (shipment_rows (shipment_sums steps)) c.in-Asked.is ∙ quiet-asked steps c.in-Asked.request c.in_default-ask.not-Deliver) _;
      tables = none_touched Role.Shipment c.args.body.now c.new.result.items c.new.ensures.items;
      differ = rw c.new.ensures.items none-differ;
      few = omega arith;
    }

pub returns-in_default : goal.returns-in_default
returns-in_default c = record {
  covers = λ steps stands fit. absurd (no_other steps c.args._from c.args.body.now fit c.in_default.not-Asked c.in_default.not-Confirmed);
  tables = none_touched Role.Shipment c.args.body.now c.new-in_default.result.items c.new-in_default.ensures.items;
  differ = rw c.new-in_default.ensures.items none-differ;
  few = omega arith;
}

pub returns-in-Confirmed-clause-tables : goal.returns-in-Confirmed-clause-tables
returns-in-Confirmed-clause-tables c =
    if_ok (λ names e name here.
    map_may_change Role.Shipment c.args.body.now name_by (λ n. ap (λ b. may_change Role.Shipment b (name_by n)) c.in-Confirmed.is) name
    (range_with_len (c.len.result + 1) (length c.as_slice.result.now)) (sym (ap (λ ns. is_named ns name) e) ∙ here))
    c.names_behind.result c.names_behind.ensures.named

pub returns-in_ok-numbers-in-Deliver-clause-tables : goal.returns-in_ok-numbers-in-Deliver-clause-tables
returns-in_ok-numbers-in-Deliver-clause-tables c =
    if_ok (λ names e name here.
    map_may_change Role.Shipment c.args.body.now name_by (delivering-touched c.args.body.now c.in-Asked.request c.in-Asked.is c.in-Deliver.is) name
    c.as_slice-in-Deliver-2.result.now (sym (ap (λ ns. is_named ns name) e) ∙ here))
    c.names_of.result c.names_of.ensures
