-- The examples of shipments hold by computation.
use Rattle.std.proofs.Common.{refl}
use Rattle.market_events.specs.ExamplesShipment.{ShipmentExamples}
use Rattle.market_events.specs.Services.{answers}

pub shipment_examples : ShipmentExamples
unfolding answers
shipment_examples = record {
  payment_is_shipped = refl;
  deliver_none = refl;
  deliver_base = refl;
  deliver_base_again = refl;
  ten_of_eleven_sellers = refl;
  then_the_eleventh = refl;
  then_none = refl;
  older_checkout_of_a_seller = refl;
  then_the_later_checkout = refl;
  each_seller_has_its_own_oldest = refl;
  then_what_is_left = refl;
}
