-- Customers: what they answer, and how a checkout and a delivery keep them in step with what was accepted.
use Rattle.std.proofs.Common.{◌≡◌, ℕ, ◌+◌, ◌<◌, true, ◌&&◌, not, cond, ◌==◌, List, [], ◌∷◌, ◌++◌, length, if◌then◌else◌, count_by, refl, ap, sym, ◌∙◌}
use Rattle.std.proofs.lemmas.List.Sums.{sum_by_push}
use Rattle.market_amounts.specs.declared.keys.RequestId.{RequestId}
use Rattle.market_events.specs.declared.bodies.Body.{Body}
use Rattle.market_events.specs.declared.bodies.Body.TheVariants as body
use Rattle.market_events.specs.declared.bodies.Item.{Item}
use Rattle.market_events.specs.declared.bodies.PayRule.{PayRule}
use Rattle.market_events.specs.declared.bodies.PricedLine.{PricedLine}
use Rattle.market_events.specs.declared.links.Link.{Link}
use Rattle.market_events.specs.declared.links.TheConstants.{PAYMENT_TO_CUSTOMER, SHIPMENT_TO_CUSTOMER}
use Rattle.market_events.specs.declared.requests.Ask.{Ask}
use Rattle.market_events.specs.Customers.{CustomerSums, customer_sums, customer_asked}
use Rattle.market_events.specs.Formed.{checkout_formed, id_formed, lines_formed, items_formed, request_id_formed}
use Rattle.market_events.specs.declared.roles.Role.{Role}
use Rattle.market_events.specs.Services.{answers, fits, most_steps, items_apart}
use Rattle.market_events.specs.Standing.{step_of, with_step}
use Rattle.market_events.specs.Steps.{Step}
use Rattle.market_events.specs.Stocks.{Reservation}
use Rattle.market_events.specs.WellFormed.{total_of}
use Rattle.market_events.proofs.Steps.Customers.{answers-customer, confirmed_count-same, confirmed_count-confirmed, failed_count-same, failed_count-failed}
use Rattle.market_events.proofs.Values.Lists.{and_from, and_both}
use Rattle.market_events.proofs.Steps.Orders.{items_taken-same, items_taken-push}
use Rattle.market_history.specs.Acts.{Acts, count_for, customer_table}
use Rattle.market.specs.Agreeing.{CustomersAgree}
use Rattle.market.specs.Carrying.{IsFresh, most_made}
use Rattle.market.proofs.Carrying.Fresh.{same_number, fits_by, few_before, none_settled}

module _ (steps : List Step) (acts : Acts) (agree : CustomersAgree steps acts) where
  table_same : customer_sums steps ≡ customer_table acts
  table_same = λ i. of_all (λ customer. agree.confirmed customer i) (λ customer. agree.failed customer i) (λ customer. count_by (λ (item : Item). item.customer == customer) (agree.items i))
    where
      of_all : (ℕ → ℕ) → (ℕ → ℕ) → (ℕ → ℕ) → CustomerSums
      of_all confirmed failed delivered = record { confirmed = confirmed; failed = failed; delivered = delivered }

  -- a request is answered by the table, and changes nothing
  pub customers_answer : (from : Link) (id : RequestId) (what : Ask) → answers Role.Customer steps from (body.Asked (record { id = id; ask = what })) ≡ customer_asked (customer_table acts) id what
  customers_answer from id what = answers-customer steps from (body.Asked (record { id = id; ask = what })) ∙ ap (λ s. customer_asked s id what) table_same

  pub customers_asked : (from : Link) (id : RequestId) (what : Ask) → CustomersAgree (with_step Role.Customer steps from (body.Asked (record { id = id; ask = what }))) acts
  customers_asked from id what =
      let s = step_of Role.Customer steps from (body.Asked (record { id = id; ask = what })) in
      record {
        confirmed = λ c. confirmed_count-same steps s c refl ∙ agree.confirmed c;
        failed = λ c. failed_count-same steps s c refl ∙ agree.failed c;
        items = items_taken-same steps s refl ∙ agree.items;
      }

  -- a delivery
  module _ (items : List Item) (formed : items_formed items ≡ true) (apart : items_apart acts.items items ≡ true) (few : length steps + most_made < most_steps) where
    abbrev pub customers_delivered : List Step
    customers_delivered = with_step Role.Customer steps SHIPMENT_TO_CUSTOMER (body.Delivered items)

    pub delivery_fits : fits Role.Customer steps SHIPMENT_TO_CUSTOMER (body.Delivered items) ≡ true
    delivery_fits = fits_by Role.Customer steps SHIPMENT_TO_CUSTOMER (body.Delivered items) (few_before steps few) formed refl refl (ap (λ before. items_apart before items) agree.items ∙ apart)

    pub delivery_made : answers Role.Customer steps SHIPMENT_TO_CUSTOMER (body.Delivered items) ≡ []
    delivery_made = answers-customer steps SHIPMENT_TO_CUSTOMER (body.Delivered items)

    pub customers_served : (after : Acts) → after.whole ≡ acts.whole → after.unpaid ≡ acts.unpaid → after.items ≡ acts.items ++ items → CustomersAgree customers_delivered after
    customers_served after whole unpaid more =
        let s = step_of Role.Customer steps SHIPMENT_TO_CUSTOMER (body.Delivered items) in
        record {
          confirmed = λ c. confirmed_count-same steps s c refl ∙ agree.confirmed c ∙ ap (λ rs. count_for rs c) (sym whole);
          failed = λ c. failed_count-same steps s c refl ∙ agree.failed c ∙ ap (λ rs. count_for rs c) (sym unpaid);
          items = items_taken-push steps s ∙ ap (λ before. before ++ items) agree.items ∙ sym more;
        }

-- a checkout is paid or not
module _ (steps : List Step) (acts : Acts) (agree : CustomersAgree steps acts) (id : RequestId) (customer : ℕ) (lines : List PricedLine) (fresh : IsFresh steps id)
    (formed : checkout_formed id customer lines ≡ true) (few : length steps + most_made < most_steps) where
  abbrev r : Reservation
  r = record { checkout = id; customer = customer; lines = lines }

  abbrev pub payment : Body
  payment = body.Confirmed id customer lines (total_of lines)

  abbrev pub customers_paid : List Step
  customers_paid = with_step Role.Customer steps PAYMENT_TO_CUSTOMER payment

  pub payment_fits : fits Role.Customer steps PAYMENT_TO_CUSTOMER payment ≡ true
  payment_fits =
      fits_by Role.Customer steps PAYMENT_TO_CUSTOMER payment (few_before steps few) (and_from (checkout_formed id customer lines) (total_of lines == total_of lines) formed (same_number (total_of lines))) refl refl
      (ap not (none_settled id steps fresh))

  pub payment_made : answers Role.Customer steps PAYMENT_TO_CUSTOMER payment ≡ []
  payment_made = answers-customer steps PAYMENT_TO_CUSTOMER payment

  pub customers_whole : (after : Acts) → after.whole ≡ acts.whole ++ r ∷ [] → after.unpaid ≡ acts.unpaid → after.items ≡ acts.items → CustomersAgree customers_paid after
  customers_whole after whole unpaid items =
      let s = step_of Role.Customer steps PAYMENT_TO_CUSTOMER payment in
      record {
        confirmed = λ c. confirmed_count-confirmed steps s id customer lines (total_of lines) refl c ∙ ap (λ n. n + (if customer == c then 1 else 0)) (agree.confirmed c)
            ∙ sym (sum_by_push (λ (r : Reservation). cond (r.customer == c) 1 0) acts.whole r) ∙ ap (λ rs. count_for rs c) (sym whole);
        failed = λ c. failed_count-same steps s c refl ∙ agree.failed c ∙ ap (λ rs. count_for rs c) (sym unpaid);
        items = items_taken-same steps s refl ∙ agree.items ∙ sym items;
      }

  module _ (reason : PayRule) where
    abbrev pub failure : Body
    failure = body.Failed id customer reason

    abbrev pub customers_failed : List Step
    customers_failed = with_step Role.Customer steps PAYMENT_TO_CUSTOMER failure

    pub failure_fits : fits Role.Customer steps PAYMENT_TO_CUSTOMER failure ≡ true
    failure_fits = fits_by Role.Customer steps PAYMENT_TO_CUSTOMER failure (few_before steps few) (and_both (request_id_formed id && id_formed customer) (lines_formed lines) formed).0 refl refl (ap not (none_settled id steps fresh))

    pub failure_made : answers Role.Customer steps PAYMENT_TO_CUSTOMER failure ≡ []
    failure_made = answers-customer steps PAYMENT_TO_CUSTOMER failure

    pub customers_unpaid : (after : Acts) → after.whole ≡ acts.whole → after.unpaid ≡ acts.unpaid ++ r ∷ [] → after.items ≡ acts.items → CustomersAgree customers_failed after
    customers_unpaid after whole unpaid items =
        let s = step_of Role.Customer steps PAYMENT_TO_CUSTOMER failure in
        record {
          confirmed = λ c. confirmed_count-same steps s c refl ∙ agree.confirmed c ∙ ap (λ rs. count_for rs c) (sym whole);
          failed = λ c. failed_count-failed steps s id customer reason refl c ∙ ap (λ n. n + (if customer == c then 1 else 0)) (agree.failed c)
              ∙ sym (sum_by_push (λ (r : Reservation). cond (r.customer == c) 1 0) acts.unpaid r) ∙ ap (λ rs. count_for rs c) (sym unpaid);
          items = items_taken-same steps s refl ∙ agree.items ∙ sym items;
        }
