-- One file for each kind of event.
use Rattle.market_laws.proofs.Causes.Deliveries.{deliveries-caused}
use Rattle.market_laws.proofs.Causes.Endings.{endings-caused}
use Rattle.market_laws.proofs.Causes.FewInAll.{few-caused}
use Rattle.market_laws.proofs.Causes.Invoices.{invoices-caused}
use Rattle.market_laws.proofs.Causes.Payments.{payments-caused}
use Rattle.market_laws.proofs.Causes.Reserves.{reserves-caused}
use Rattle.market_laws.proofs.Causes.Shipments.{shipments-caused}
use Rattle.market_laws.proofs.Causes.StockReplies.{stock-answers}
use Rattle.market_laws.proofs.Causes.Tellings.{tellings-caused}
use Rattle.market_laws.proofs.laws.events_have_causes.Goals as goal

pub returns : goal.returns
returns f = record {
  reserves = λ h c lawful. reserves-caused h lawful c;
  stock_answers = λ h c lawful. stock-answers h lawful c;
  invoices = λ h c lawful. invoices-caused h lawful c;
  payments = λ h c lawful. payments-caused h lawful c;
  shipments = λ h c lawful. shipments-caused h lawful c;
  endings = λ h c lawful. endings-caused h lawful c;
  tellings = λ h c lawful kept. tellings-caused h lawful c kept;
  deliveries = λ h c lawful. deliveries-caused h lawful c;
  few = λ h c lawful kept. few-caused h lawful c kept;
}
