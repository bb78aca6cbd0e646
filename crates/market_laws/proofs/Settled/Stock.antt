-- In settled histories stock took each payment and each failure once (stock-paid, stock-failed).
use Rattle.std.proofs.Common.{◌≡◌, count_by, refl, arith}
use Rattle.market_amounts.specs.declared.keys.RequestId.{RequestId}
use Rattle.market_events.specs.declared.bodies.Body.TheVariants as body
use Rattle.market_events.specs.Links.{stock_node, payment_node}
use Rattle.market_events.specs.Steps.{taken_bodies, made_on}
use Rattle.market_events.specs.Stocks.{confirms, fails}
use Rattle.market_events.specs.declared.links.TheConstants.{PAYMENT_TO_STOCK}
use Rattle.market_history.specs.Histories.{Histories}
use Rattle.market_history.specs.Lawful.{IsLawful}
use Rattle.market_history.specs.Outstanding.{IsSettled}
use Rattle.market_laws.proofs.Settled.Counts.{steps_now}
use Rattle.market_laws.proofs.Settled.Links.{ComesOn, count-made}

confirms-stock : (id : RequestId) → ComesOn stock_node PAYMENT_TO_STOCK (confirms id)
confirms-stock id (body.Confirmed checkout customer lines total) passes = (tt, refl)
confirms-stock id other passes = cc

fails-stock : (id : RequestId) → ComesOn stock_node PAYMENT_TO_STOCK (fails id)
fails-stock id (body.Failed checkout customer rule) passes = (tt, refl)
fails-stock id other passes = cc

module _ (h : Histories) (lawful : IsLawful h) (settled : IsSettled h) (id : RequestId) where
  pub stock-paid : count_by (confirms id) (taken_bodies (steps_now h lawful stock_node)) ≡ count_by (confirms id) (made_on PAYMENT_TO_STOCK (steps_now h lawful payment_node))
  stock-paid = count-made h lawful settled stock_node payment_node PAYMENT_TO_STOCK (omega arith) (omega arith) (omega arith) refl refl (confirms id) (confirms-stock id)

  pub stock-failed : count_by (fails id) (taken_bodies (steps_now h lawful stock_node)) ≡ count_by (fails id) (made_on PAYMENT_TO_STOCK (steps_now h lawful payment_node))
  stock-failed = count-made h lawful settled stock_node payment_node PAYMENT_TO_STOCK (omega arith) (omega arith) (omega arith) refl refl (fails id) (fails-stock id)
