-- Payments: what they answer, and how a card and a checkout keep them in step with what was accepted.
use Rattle.std.proofs.Common.{◌≡◌, ℕ, ◌+◌, ◌<◌, Bool, true, false, not, ◌==◌, List, [], ◌∷◌, ◌++◌, Option, Some, None, length, filter_map, if◌then◌else◌, refl, ap, sym, ◌∙◌}
use Rattle.std.specs.Option.{option_or}
use Rattle.std.proofs.lemmas.List.Sums.{sum_by_push}
use Rattle.market_amounts.specs.declared.keys.RequestId.{RequestId}
use Rattle.market_events.specs.declared.bodies.Body.{Body}
use Rattle.market_events.specs.declared.bodies.Body.TheVariants as body
use Rattle.market_events.specs.declared.bodies.PayRule.{PayRule}
use Rattle.market_events.specs.declared.bodies.PricedLine.{PricedLine}
use Rattle.market_events.specs.declared.links.Link.{Link}
use Rattle.market_events.specs.declared.links.TheConstants.{ORDER_TO_PAYMENT, PAYMENT_TO_STOCK}
use Rattle.market_events.specs.declared.requests.Ask.{Ask}
use Rattle.market_events.specs.declared.requests.Ask.TheVariants as ask
use Rattle.market_events.specs.Formed.{checkout_formed}
use Rattle.market_events.specs.Payments.{PaymentSums, spent, payment_sums, payment_asked, confirmed_rows, failed_rows, invoice_rows}
use Rattle.market_events.specs.declared.roles.Role.{Role}
use Rattle.market_events.specs.Services.{answers, fits, most_steps}
use Rattle.market_events.specs.Standing.{step_of, with_step}
use Rattle.market_events.specs.Steps.{Step, body_on}
use Rattle.market_events.specs.Stocks.{Reservation}
use Rattle.market_events.specs.WellFormed.{total_of}
use Rattle.market_events.proofs.Steps.Copies.{last_some-push}
use Rattle.market_events.proofs.Values.Lists.{and_from}
use Rattle.market_events.proofs.Steps.Payments.{limit_of-same, limit_of-card, spent-same, spent-confirmed, spent-failed, answers-payment}
use Rattle.market_history.specs.Acts.{Acts, card_limit, limit_by, payment_table, paid_for_checkouts}
use Rattle.market.specs.Agreeing.{PaymentsAgree}
use Rattle.market.specs.Carrying.{IsFresh, most_made}
use Rattle.market.proofs.Carrying.Fresh.{same_number, fits_by, few_before, none_invoiced}

module _ (steps : List Step) (acts : Acts) (agree : PaymentsAgree steps acts) where
  table_same : payment_sums steps ≡ payment_table acts
  table_same = λ i. of_both (λ customer. agree.limit customer i) (λ customer. agree.spent customer i)
    where
      of_both : (ℕ → Option ℕ) → (ℕ → ℕ) → PaymentSums
      of_both limit spent = record { limit = limit; spent = spent }

  -- a request is answered by the table
  pub payments_answer : (from : Link) (id : RequestId) (what : Ask) → answers Role.Payment steps from (body.Asked (record { id = id; ask = what })) ≡ payment_asked (payment_table acts) id what
  payments_answer from id what = answers-payment steps from (body.Asked (record { id = id; ask = what })) ∙ ap (λ s. payment_asked s id what) table_same

  -- a card is set
  module _ (from : Link) (id : RequestId) (customer limit : ℕ) where
    abbrev card : Body
    card = body.Asked (record { id = id; ask = ask.Card customer limit })

    either : (c : ℕ) (test : Bool) → (if test then Some limit else limit_by acts.cards c) ≡ option_or (if test then Some limit else None) (limit_by acts.cards c)
    either c true = refl
    either c false = refl

    pub payments_carded : PaymentsAgree (with_step Role.Payment steps from card) (record acts { cards = acts.cards ++ record { customer = customer; limit = limit } ∷ [] })
    payments_carded =
        let s = step_of Role.Payment steps from card in
        record {
          limit = λ c. limit_of-card steps s id customer limit refl c ∙ ap (λ o. if customer == c then Some limit else o) (agree.limit c) ∙ either c (customer == c)
              ∙ sym (last_some-push (card_limit c) acts.cards (record { customer = customer; limit = limit }));
          spent = λ c. spent-same steps s c (ap (filter_map (body_on PAYMENT_TO_STOCK)) (answers-payment steps from card)) ∙ agree.spent c;
        }

-- an invoice is paid or not
module _ (steps : List Step) (acts : Acts) (agree : PaymentsAgree steps acts) (id : RequestId) (customer : ℕ) (lines : List PricedLine) (fresh : IsFresh steps id)
    (formed : checkout_formed id customer lines ≡ true) (few : length steps + most_made < most_steps) where
  abbrev r : Reservation
  r = record { checkout = id; customer = customer; lines = lines }

  abbrev pub invoice : Body
  invoice = body.Invoice id customer lines (total_of lines)

  abbrev pub payments_invoiced : List Step
  payments_invoiced = with_step Role.Payment steps ORDER_TO_PAYMENT invoice

  abbrev s : Step
  s = step_of Role.Payment steps ORDER_TO_PAYMENT invoice

  pub invoice_fits : fits Role.Payment steps ORDER_TO_PAYMENT invoice ≡ true
  invoice_fits =
      fits_by Role.Payment steps ORDER_TO_PAYMENT invoice (few_before steps few) (and_from (checkout_formed id customer lines) (total_of lines == total_of lines) formed (same_number (total_of lines))) refl refl
      (ap not (none_invoiced id steps fresh))

  pub invoice_made : answers Role.Payment steps ORDER_TO_PAYMENT invoice ≡ invoice_rows id customer lines (total_of lines) (limit_by acts.cards customer) (paid_for_checkouts acts.whole customer)
  invoice_made =
      answers-payment steps ORDER_TO_PAYMENT invoice
      ∙ ap (λ (t : PaymentSums). invoice_rows id customer lines (total_of lines) (t.limit customer) (t.spent customer)) (table_same steps acts agree)

  pub payments_whole : answers Role.Payment steps ORDER_TO_PAYMENT invoice ≡ confirmed_rows (body.Confirmed id customer lines (total_of lines)) → (after : Acts) → after.cards ≡ acts.cards → after.whole ≡ acts.whole ++ r ∷ []
      → PaymentsAgree payments_invoiced after
  payments_whole made after cards whole = record {
    limit = λ c. limit_of-same steps s c refl ∙ agree.limit c ∙ ap (λ cards. limit_by cards c) (sym cards);
    spent = λ c. spent-confirmed steps s id customer lines (total_of lines) made c ∙ ap (λ n. n + (if customer == c then total_of lines else 0)) (agree.spent c)
        ∙ sym (sum_by_push (λ (r : Reservation). if r.customer == c then total_of r.lines else 0) acts.whole r) ∙ ap (λ whole. paid_for_checkouts whole c) (sym whole);
  }

  pub payments_unpaid : (reason : PayRule) → answers Role.Payment steps ORDER_TO_PAYMENT invoice ≡ failed_rows (body.Failed id customer reason) → (after : Acts) → after.cards ≡ acts.cards → after.whole ≡ acts.whole
      → PaymentsAgree payments_invoiced after
  payments_unpaid reason made after cards whole = record {
    limit = λ c. limit_of-same steps s c refl ∙ agree.limit c ∙ ap (λ cards. limit_by cards c) (sym cards);
    spent = λ c. spent-failed steps s id customer reason made c ∙ agree.spent c ∙ ap (λ whole. paid_for_checkouts whole c) (sym whole);
  }
