-- A request carried through the services, by its kind.
use Rattle.std.proofs.Common.{◌≡◌, true}
use Rattle.market_amounts.specs.declared.keys.RequestId.{RequestId}
use Rattle.market_events.specs.declared.bodies.Body.TheVariants as body
use Rattle.market_events.specs.declared.requests.Ask.{Ask}
use Rattle.market_events.specs.declared.requests.Ask.TheVariants as ask
use Rattle.market_events.specs.declared.requests.Request.{Request}
use Rattle.market_events.specs.Formed.{body_formed}
use Rattle.market_events.proofs.Values.Formed.{IsBody-body_formed}
use Rattle.market_history.specs.Acts.{Acts}
use Rattle.market_events.specs.WellFormed.{IsRequest}
use Rattle.market.specs.Agreeing.{HasTables, IsAnswered}
use Rattle.market.specs.Carrying.{Taken, AreRuns, IsNew}
use Rattle.market_history.specs.Sequential.{reply_to_ask, acts_asked}
use Rattle.market.proofs.Carrying.Deliver.{ends_deliver}
use Rattle.market.proofs.Carrying.Others.{ends_view, ends_line, ends_remove, ends_stock, ends_level, ends_order, ends_card, ends_customer, ends_dashboard}
use Rattle.market.proofs.Carrying.Products.{ends_create, ends_price, ends_delete}
use Rattle.market.proofs.Carrying.CheckoutEnds.{ends_checkout}
use Rattle.market.proofs.Carrying.Ends.{Ends, answered}
use Rattle.market.proofs.Carrying.Fits.{fits_asked}

module _ (taken : Taken) (acts : Acts) (id : RequestId) (runs : AreRuns taken) (tables : HasTables taken acts) where
  by_kind : (what : Ask) → (let r : Request = record { id = id; ask = what } in IsNew taken r → body_formed (body.Asked r) ≡ true → Ends taken r (reply_to_ask acts id what) (acts_asked acts id what))
  by_kind (ask.Create key price freight) new formed = ends_create taken acts runs tables id key price freight new (fits_asked taken id (ask.Create key price freight) new formed)
  by_kind (ask.Price key price) new formed = ends_price taken acts runs tables id key price new (fits_asked taken id (ask.Price key price) new formed)
  by_kind (ask.Delete key) new formed = ends_delete taken acts runs tables id key new (fits_asked taken id (ask.Delete key) new formed)
  by_kind (ask.View key) new formed = ends_view taken acts tables id key (fits_asked taken id (ask.View key) new formed)
  by_kind (ask.Line customer key quantity voucher) new formed = ends_line taken acts tables id customer key quantity voucher (fits_asked taken id (ask.Line customer key quantity voucher) new formed)
  by_kind (ask.Remove customer key) new formed = ends_remove taken acts tables id customer key (fits_asked taken id (ask.Remove customer key) new formed)
  by_kind (ask.Checkout customer) new formed = ends_checkout taken acts runs tables id customer new (fits_asked taken id (ask.Checkout customer) new formed)
  by_kind (ask.Stock key pieces) new formed = ends_stock taken acts tables id key pieces (fits_asked taken id (ask.Stock key pieces) new formed)
  by_kind (ask.Level key) new formed = ends_level taken acts tables id key (fits_asked taken id (ask.Level key) new formed)
  by_kind (ask.Order checkout) new formed = ends_order taken acts tables id checkout (fits_asked taken id (ask.Order checkout) new formed)
  by_kind (ask.Card customer limit) new formed = ends_card taken acts tables id customer limit (fits_asked taken id (ask.Card customer limit) new formed)
  by_kind ask.Deliver new formed = ends_deliver taken acts runs tables id new (fits_asked taken id ask.Deliver new formed)
  by_kind (ask.Customer customer) new formed = ends_customer taken acts tables id customer (fits_asked taken id (ask.Customer customer) new formed)
  by_kind (ask.Dashboard seller) new formed = ends_dashboard taken acts tables id seller (fits_asked taken id (ask.Dashboard seller) new formed)

pub is_answered : (taken : Taken) (acts : Acts) (r : Request) → AreRuns taken → HasTables taken acts → IsNew taken r → IsRequest r → IsAnswered taken acts r
is_answered taken acts r runs tables new formed = answered taken acts r (by_kind taken acts r.id runs tables r.ask new (IsBody-body_formed (body.Asked r) formed))
