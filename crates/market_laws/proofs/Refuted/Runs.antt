-- Lists of steps that are no runs, by computation.
use Rattle.std.proofs.Common.{ℕ, List, length, filter_map, inl, refl, ap, arith}
use Rattle.market_events.specs.declared.bodies.Body.{Body}
use Rattle.market_events.specs.declared.bodies.Body.TheVariants as body
use Rattle.market_events.specs.declared.links.TheConstants.{CART_TO_STOCK, ORDER_TO_SELLER, SHIPMENT_TO_ORDER}
use Rattle.market_events.specs.declared.links.Link.{Link}
use Rattle.market_events.specs.declared.requests.Ask.{Ask}
use Rattle.market_events.specs.declared.requests.Ask.TheVariants as ask
use Rattle.market_events.specs.Services.{answers, fits}
use Rattle.market_events.specs.Steps.{Sending, body_on}
use Rattle.market_laws.specs.CounterexamplesRuns.{TellingCounterexamples, CartCounterexamples, ProductCounterexamples, StockCounterexamples, OrderCounterexamples, PaymentCounterexamples, ShipmentCounterexamples}
use Rattle.market_laws.proofs.Refuted.Refuting.{not_true, apart, above, not_only}

-- how many bodies are sent on a link
abbrev sent_on : Link → List Sending → ℕ
sent_on link made = length (filter_map (body_on link) made)

-- the checkout, the customer who asks for one, and the total that a body tells
abbrev checkout_in : Body → ℕ
checkout_in (body.Reserve checkout customer lines) = checkout.number
checkout_in (body.Confirmed checkout customer lines total) = checkout.number
checkout_in other = 0

abbrev asked_by : Ask → ℕ
asked_by (ask.Checkout customer) = customer
asked_by other = 0

abbrev customer_in : Body → ℕ
customer_in (body.Asked request) = asked_by request.ask
customer_in other = 0

abbrev total_in : Body → ℕ
total_in (body.Invoice checkout customer lines total) = total
total_in other = 0

pub telling : TellingCounterexamples
unfolding answers fits
telling = record {
  untold_no_run = λ run. apart 0 3 (ap length run.0.made) refl;
  untold_each = λ e. apart 0 1 e refl;
  asked_twice_no_run = λ run. apart 0 3 (ap length run.0.made) refl;
  asked_once = λ few. above 2 1 few refl;
  told_twice_no_run = λ run. apart 2 3 (ap length run.0.made) refl;
  told_more = λ few. above 2 1 few refl;
}

pub cart : CartCounterexamples
unfolding answers fits
cart = record {
  silent_no_run = λ run. apart 0 1 (ap length run.0.made) refl;
  silent_told = λ e. apart 0 1 e refl;
  unsent_no_run = λ run. not_true run.0.fit;
  unsent_ended = λ few. above 1 0 few refl;
  twice_no_run = λ run. apart 2 1 (ap length run.0.made) refl;
  twice_sent = λ few. above 2 1 few refl;
  another_no_run = λ run. apart 1 0 (ap (sent_on CART_TO_STOCK) run.0.made) refl;
  another_sent = inl refl;
  another_asked = λ here. not_only _ _ (λ same. apart 8 7 (ap customer_in same) refl) here;
}

pub product : ProductCounterexamples
unfolding answers fits
product = record {
  alone_no_run = λ run. apart 1 3 (ap length run.0.made) refl;
  alone_carts = λ e. apart 0 1 (ap length e) refl;
  left_out_no_run = λ run. apart 2 3 (ap length run.0.made) refl;
  left_out_made = refl;
  left_out_fits = λ e. not_true e;
}

pub stock : StockCounterexamples
unfolding answers fits
stock = record {
  unanswered_no_run = λ run. not_true run.0.fit;
  unanswered_each = λ e. apart 0 1 e refl;
  twice_no_run = λ run. not_true run.0.fit;
  twice_taken = λ few. above 2 1 few refl;
  another_no_run = λ run. not_true run.0.fit;
  another_held = inl refl;
  another_reserved = λ here. not_only _ _ (λ same. cc) here;
  failed_no_run = λ run. not_true run.0.fit;
  failed_made = inl refl;
  failed_reserved = λ e. not_only _ _ (λ same. apart 6 5 (ap checkout_in same) refl) e.2;
  held_no_run = λ run. not_true run.0.fit;
  held_covered = λ few. above 2 0 few refl;
  sold_no_run = λ run. not_true run.0.fit;
  sold_covered = omega arith;
  sold_within = λ few. above 2 0 few refl;
}

pub order : OrderCounterexamples
unfolding answers fits
order = record {
  alone_no_run = λ run. apart 1 2 (ap length run.0.made) refl;
  alone_sellers = λ e. apart 1 0 (ap length e) refl;
  not_invoiced_no_run = λ run. apart 0 2 (ap length run.0.made) refl;
  not_invoiced_each = λ e. apart 0 1 e refl;
  ordered_no_run = λ run. apart 0 2 (ap length run.0.made) refl;
  ordered_once = λ few. above 2 1 few refl;
  ordered_held = inl refl;
  ordered_total = λ e. apart 3900 1950 e refl;
  invoiced_no_run = λ run. apart 0 1 (ap (sent_on ORDER_TO_SELLER) run.0.made) refl;
  invoiced_once = λ few. above 2 1 few refl;
  another_no_run = λ run. apart 1 2 (ap length run.0.made) refl;
  another_made = inl refl;
  another_held = λ here. not_only _ _ (λ same. cc) here;
  not_ended_no_run = λ run. not_true run.0.fit;
  not_ended_each = λ e. apart 0 1 e refl;
  ended_no_run = λ run. not_true run.0.fit;
  ended_once = λ few. above 2 1 few refl;
  ended_made = inl refl;
  ended_total = λ e. apart 1950 0 e refl;
  otherwise_no_run = λ run. not_true run.0.fit;
  otherwise_made = inl refl;
  otherwise_failed = λ e. not_only _ _ (λ same. cc) e.1;
}

pub payment : PaymentCounterexamples
unfolding answers fits
payment = record {
  alone_no_run = λ run. apart 1 4 (ap length run.0.made) refl;
  alone_orders = λ e. apart 1 0 (ap length e) refl;
  alone_customers = λ e. apart 1 0 (ap length e) refl;
  alone_sellers = λ e. apart 1 0 (ap length e) refl;
  alone_shipments = λ e. apart 0 1 (ap length e) refl;
  unsettled_no_run = λ run. apart 0 4 (ap length run.0.made) refl;
  unsettled_each = λ e. apart 0 1 e refl;
  billed_no_run = λ run. apart 0 4 (ap length run.0.made) refl;
  billed_once = λ few. above 2 1 few refl;
  less_no_run = λ run. apart 1 4 (ap length run.0.made) refl;
  less_made = inl refl;
  less_invoiced = λ here. not_only _ _ (λ same. apart 1949 1950 (ap total_in same) refl) here;
  another_no_run = λ run. apart 1 4 (ap length run.0.made) refl;
  another_made = inl refl;
  another_invoiced = λ e. not_only _ _ (λ same. cc) e.2;
}

pub shipment : ShipmentCounterexamples
unfolding answers fits
shipment = record {
  alone_no_run = λ run. apart 1 2 (ap length run.0.made) refl;
  alone_sellers = λ e. apart 1 0 (ap length e) refl;
  another_no_run = λ run. apart 1 2 (ap (length) run.0.made) refl;
  another_made = inl refl;
  another_paid = λ e. not_only _ _ (λ same. apart 6 5 (ap checkout_in same) refl) e.3;
  not_shipped_no_run = λ run. apart 0 2 (ap length run.0.made) refl;
  not_shipped_each = λ e. apart 0 1 e refl;
  paid_no_run = λ run. apart 0 2 (ap length run.0.made) refl;
  paid_once = λ few. above 2 1 few refl;
  unshipped_no_run = λ run. apart 1 0 (ap (sent_on SHIPMENT_TO_ORDER) run.0.made) refl;
  unshipped_customers = λ e. apart 0 1 (ap length e) refl;
  unshipped_made = refl;
  unshipped_before = λ here. here;
  unshipped_paid = λ paid. not_only _ _ (λ same. cc) paid.taken;
  delivered_no_run = λ run. apart 2 1 (ap length run.0.made) refl;
  delivered_once = λ e. not_true e;
}
