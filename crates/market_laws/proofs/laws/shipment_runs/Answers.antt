-- Each clause is a law of RunsShipment or of RunsApart.
use Rattle.market_laws.proofs.Runs.Apart.{items-once}
use Rattle.market_laws.proofs.Runs.Shipments.{shipments-to-seller, deliveries-to-customer, shipped-is, confirms-once, shipped-paid, delivered-shipped, delivered-paid}
use Rattle.market_laws.proofs.laws.shipment_runs.Goals as goal

pub returns : goal.returns
returns c = record {
  sellers_told = shipments-to-seller;
  customers_told = deliveries-to-customer;
  shipped = shipped-is;
  paid_once = confirms-once;
  shipped_for = shipped-paid;
  delivered_once = items-once;
  shipped_before = delivered-shipped;
  paid_for = delivered-paid;
}
