-- Each clause is a law of RunsPayment.
use Rattle.market_laws.proofs.Runs.Payments.{payments-to-order, payments-to-shipment, payments-to-customer, payments-to-seller, settles-is-invoices, invoices-once, confirmed-invoice, failed-invoice}
use Rattle.market_laws.proofs.laws.payment_runs.Goals as goal

pub returns : goal.returns
returns c = record {
  orders_told = payments-to-order;
  customers_told = payments-to-customer;
  sellers_told = payments-to-seller;
  shipments_told = payments-to-shipment;
  settled = settles-is-invoices;
  invoiced_once = invoices-once;
  paid = confirmed-invoice;
  unpaid = failed-invoice;
}
