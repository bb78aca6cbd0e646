-- The base workload's steps are runs, and meet on their links, by computation.
use Rattle.std.proofs.Common.{refl}
use Rattle.market_events.specs.ExamplesBase.{BaseRuns, BaseLinks, BaseExamples}
use Rattle.market_events.specs.Services.{fits, answers}

base_runs : BaseRuns
unfolding fits answers
base_runs = record {
  cart = (record { fit = refl; made = refl }, (record { fit = refl; made = refl }, (record { fit = refl; made = refl }, (record { fit = refl; made = refl }, tt))));
  product = (record { fit = refl; made = refl }, tt);
  stock = (record { fit = refl; made = refl }, (record { fit = refl; made = refl }, (record { fit = refl; made = refl }, (record { fit = refl; made = refl }, tt))));
  order = (record { fit = refl; made = refl }, (record { fit = refl; made = refl }, (record { fit = refl; made = refl }, tt)));
  payment = (record { fit = refl; made = refl }, (record { fit = refl; made = refl }, tt));
  shipment = (record { fit = refl; made = refl }, tt);
  customer = (record { fit = refl; made = refl }, tt);
  seller = (record { fit = refl; made = refl }, (record { fit = refl; made = refl }, (record { fit = refl; made = refl }, tt)));
}

base_links : BaseLinks
base_links = record {
  product_to_cart = (refl, refl);
  product_to_stock = (refl, refl);
  cart_to_stock = (refl, refl);
  stock_to_cart = (refl, refl);
  stock_to_order = (refl, refl);
  order_to_payment = (refl, refl);
  order_to_seller = (refl, refl);
  order_to_cart = (refl, refl);
  payment_to_stock = (refl, refl);
  payment_to_order = (refl, refl);
  payment_to_shipment = (refl, refl);
  payment_to_customer = (refl, refl);
  payment_to_seller = (refl, refl);
  shipment_to_order = (refl, refl);
  shipment_to_seller = (refl, refl);
  shipment_to_customer = (refl, refl);
}

pub base_examples : BaseExamples
base_examples = record { runs = base_runs; links = base_links }
