-- A new request fits its service.
use Rattle.std.proofs.Common.{◌≡◌, true, refl}
use Rattle.market_events.specs.declared.bodies.Body.TheVariants as body
use Rattle.market_events.specs.declared.requests.Ask.{Ask}
use Rattle.market_events.specs.declared.requests.Ask.TheVariants as ask
use Rattle.market_events.specs.declared.requests.Request.{Request}
use Rattle.market_events.specs.Formed.{body_formed}
use Rattle.market_events.specs.declared.roles.Role.{Role}
use Rattle.market_amounts.specs.declared.keys.RequestId.{RequestId}
use Rattle.market.specs.Carrying.{Taken, IsNew, request_fits}
use Rattle.market.proofs.Carrying.Fresh.{fits_by, few_before, none_asked}

module _ (taken : Taken) (id : RequestId) where
  pub fits_asked : (what : Ask) → (let r : Request = record { id = id; ask = what } in IsNew taken r → body_formed (body.Asked r) ≡ true → request_fits taken r ≡ true)
  fits_asked (ask.Create key price freight) new formed = fits_by Role.Product taken.products _ _ (few_before taken.products (new.few Role.Product)) formed refl refl (none_asked id taken.products (new.fresh Role.Product))
  fits_asked (ask.Price key price) new formed = fits_by Role.Product taken.products _ _ (few_before taken.products (new.few Role.Product)) formed refl refl (none_asked id taken.products (new.fresh Role.Product))
  fits_asked (ask.Delete key) new formed = fits_by Role.Product taken.products _ _ (few_before taken.products (new.few Role.Product)) formed refl refl (none_asked id taken.products (new.fresh Role.Product))
  fits_asked (ask.View key) new formed = fits_by Role.Cart taken.carts _ _ (few_before taken.carts (new.few Role.Cart)) formed refl refl (none_asked id taken.carts (new.fresh Role.Cart))
  fits_asked (ask.Line customer key quantity voucher) new formed = fits_by Role.Cart taken.carts _ _ (few_before taken.carts (new.few Role.Cart)) formed refl refl (none_asked id taken.carts (new.fresh Role.Cart))
  fits_asked (ask.Remove customer key) new formed = fits_by Role.Cart taken.carts _ _ (few_before taken.carts (new.few Role.Cart)) formed refl refl (none_asked id taken.carts (new.fresh Role.Cart))
  fits_asked (ask.Checkout customer) new formed = fits_by Role.Cart taken.carts _ _ (few_before taken.carts (new.few Role.Cart)) formed refl refl (none_asked id taken.carts (new.fresh Role.Cart))
  fits_asked (ask.Stock key pieces) new formed = fits_by Role.Stock taken.stocks _ _ (few_before taken.stocks (new.few Role.Stock)) formed refl refl (none_asked id taken.stocks (new.fresh Role.Stock))
  fits_asked (ask.Level key) new formed = fits_by Role.Stock taken.stocks _ _ (few_before taken.stocks (new.few Role.Stock)) formed refl refl (none_asked id taken.stocks (new.fresh Role.Stock))
  fits_asked (ask.Order checkout) new formed = fits_by Role.Order taken.orders _ _ (few_before taken.orders (new.few Role.Order)) formed refl refl (none_asked id taken.orders (new.fresh Role.Order))
  fits_asked (ask.Card customer limit) new formed = fits_by Role.Payment taken.payments _ _ (few_before taken.payments (new.few Role.Payment)) formed refl refl (none_asked id taken.payments (new.fresh Role.Payment))
  fits_asked ask.Deliver new formed = fits_by Role.Shipment taken.shipments _ _ (few_before taken.shipments (new.few Role.Shipment)) formed refl refl (none_asked id taken.shipments (new.fresh Role.Shipment))
  fits_asked (ask.Customer customer) new formed = fits_by Role.Customer taken.customers _ _ (few_before taken.customers (new.few Role.Customer)) formed refl refl (none_asked id taken.customers (new.fresh Role.Customer))
  fits_asked (ask.Dashboard seller) new formed = fits_by Role.Seller taken.sellers _ _ (few_before taken.sellers (new.few Role.Seller)) formed refl refl (none_asked id taken.sellers (new.fresh Role.Seller))
