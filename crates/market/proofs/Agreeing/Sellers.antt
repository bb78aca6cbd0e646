-- Sellers: what they answer, and how a checkout and a delivery keep them in step with what was accepted.
use Rattle.std.proofs.Common.{◌≡◌, ℕ, ◌+◌, ◌<◌, true, false, ◌&&◌, ◌||◌, not, ◌==◌, List, [], ◌∷◌, ◌++◌, length, map, refl, ap, sym, ◌∙◌, append_assoc}
use Rattle.std.specs.List.{list_any, list_all, flat_map}
use Rattle.std.proofs.lemmas.List.Folds.{list_any-append}
use Rattle.market_amounts.specs.declared.keys.RequestId.{RequestId}
use Rattle.market_events.specs.declared.bodies.Body.{Body}
use Rattle.market_events.specs.declared.bodies.Body.TheVariants as body
use Rattle.market_events.specs.declared.bodies.Item.{Item}
use Rattle.market_events.specs.declared.bodies.PayRule.{PayRule}
use Rattle.market_events.specs.declared.bodies.PricedLine.{PricedLine}
use Rattle.market_events.specs.declared.links.Link.{Link}
use Rattle.market_events.specs.declared.links.TheConstants.{ORDER_TO_SELLER, PAYMENT_TO_SELLER}
use Rattle.market_events.specs.declared.links.TheConstants.{SHIPMENT_TO_SELLER}
use Rattle.market_events.specs.declared.replies.OrderStatus.TheVariants as status
use Rattle.market_events.specs.declared.requests.Ask.{Ask}
use Rattle.market_events.specs.Formed.{request_id_formed, id_formed, lines_formed, checkout_formed, items_formed}
use Rattle.market_events.specs.Orders.{is_of, is_taken, ships, items_taken}
use Rattle.market_events.specs.Requests.{same_id}
use Rattle.market_events.specs.Sellers.{SellerChange, SellerSums, invoice_lines, marked, lines_with_keys, seller_changes, seller_sums, seller_asked}
use Rattle.market_events.specs.declared.roles.Role.{Role}
use Rattle.market_events.specs.Services.{answers, fits, most_steps, is_line_of, invoices_for, invoices_lines, items_apart, seller_item_fits}
use Rattle.market_events.specs.Standing.{step_of, with_step}
use Rattle.market_events.specs.Steps.{Step, taken_bodies, same_lines}
use Rattle.market_events.specs.Stocks.{Reservation, confirms, is_settled}
use Rattle.market_events.specs.WellFormed.{total_of}
use Rattle.market_events.proofs.Values.Lists.{and_from, and_both, or_true, or_left, or_false, any_weaker, list_any-push}
use Rattle.market_events.proofs.Steps.Orders.{items_taken-same, items_taken-push}
use Rattle.market_events.proofs.Values.Same.{same_id-self, same_lines-self}
use Rattle.market_events.proofs.Steps.SellerChanges.{seller_changes-push, seller_changes-same, invoice_lines-push, invoice_lines-same}
use Rattle.market_events.proofs.Runs.Sellers.{invoice_lines-none}
use Rattle.market_events.proofs.Steps.SellerEntries.{answers-seller}
use Rattle.market_events.proofs.Steps.Taken.{any_taken-push, is_taken-same, is_taken-push, is_settled-push}
use Rattle.market_events.proofs.Runs.Stock.{checkout_formed-lines, lines_formed-rise}
use Rattle.market_history.specs.Acts.{Acts, lines_if, lines_of, seller_table}
use Rattle.market_laws.proofs.Runs.SellerPoints.{own-keys}
use Rattle.market.specs.Agreeing.{SellersAgree}
use Rattle.market.specs.Carrying.{IsFresh, most_made}
use Rattle.market_history.specs.Sequential.{entries_unpaid, entries_whole, entry_delivered}
use Rattle.market.proofs.Agreeing.Checkouts.{lines-whole, lines-unpaid, is_line_in, line_among, all_weaker}
use Rattle.market.proofs.Carrying.Fresh.{same_number, fits_by, few_before, few_after_one, few_after_two, none_invoiced, none_settled, none_shipped}

module _ (steps : List Step) (acts : Acts) (agree : SellersAgree steps acts) where
  table_same : seller_sums steps ≡ seller_table acts
  table_same = λ i. of_changes (λ seller. agree.entries seller i)
    where
      of_changes : (ℕ → List SellerChange) → SellerSums
      of_changes changes = record { changes = changes }

  -- a request is answered by the table, and changes nothing
  pub sellers_answer : (from : Link) (id : RequestId) (what : Ask) → answers Role.Seller steps from (body.Asked (record { id = id; ask = what })) ≡ seller_asked (seller_table acts) id what
  sellers_answer from id what = answers-seller steps from (body.Asked (record { id = id; ask = what })) ∙ ap (λ s. seller_asked s id what) table_same

  pub sellers_asked : (from : Link) (id : RequestId) (what : Ask) → SellersAgree (with_step Role.Seller steps from (body.Asked (record { id = id; ask = what }))) acts
  sellers_asked from id what =
      let s = step_of Role.Seller steps from (body.Asked (record { id = id; ask = what })) in
      record {
        entries = λ seller. seller_changes-same steps s seller refl ∙ agree.entries seller;
        lines = λ i. invoice_lines-same steps s i refl ∙ agree.lines i;
        shipped = λ i. is_taken-same ships steps s i refl ∙ agree.shipped i;
        items = items_taken-same steps s refl ∙ agree.items;
      }

  -- a delivery of lines of whole checkouts
  module _ (items : List Item) (formed : items_formed items ≡ true) (apart : items_apart acts.items items ≡ true) (of_whole : list_all (is_line_in acts.whole) items ≡ true) (few : length steps + most_made < most_steps) where
    abbrev pub sellers_delivered : List Step
    sellers_delivered = with_step Role.Seller steps SHIPMENT_TO_SELLER (body.Delivered items)

    item_fits : (item : Item) → is_line_in acts.whole item ≡ true → seller_item_fits steps item ≡ true
    item_fits item among =
        and_from (is_taken ships steps item.checkout) (is_line_of (invoice_lines (taken_bodies steps) item.checkout) item)
        (agree.shipped item.checkout ∙ any_weaker (λ (r : Reservation). is_of item.checkout r && is_line_of r.lines item) (is_of item.checkout) (λ r both. (and_both (is_of item.checkout r) (is_line_of r.lines item) both).0) acts.whole among)
        (ap (λ lines. is_line_of lines item) (agree.lines item.checkout) ∙ sym (line_among item.checkout item (acts.whole ++ acts.unpaid))
        ∙ list_any-append (λ (r : Reservation). is_of item.checkout r && is_line_of r.lines item) acts.whole acts.unpaid
        ∙ or_left (is_line_in acts.whole item) (list_any (λ (r : Reservation). is_of item.checkout r && is_line_of r.lines item) acts.unpaid) among)

    pub seller_delivery_fits : fits Role.Seller steps SHIPMENT_TO_SELLER (body.Delivered items) ≡ true
    seller_delivery_fits =
        fits_by Role.Seller steps SHIPMENT_TO_SELLER (body.Delivered items) (few_before steps few) formed refl refl
        (and_from (items_apart (items_taken steps) items) (list_all (seller_item_fits steps) items) (ap (λ before. items_apart before items) agree.items ∙ apart)
        (all_weaker (is_line_in acts.whole) (seller_item_fits steps) item_fits items of_whole))

    pub seller_delivery_made : answers Role.Seller steps SHIPMENT_TO_SELLER (body.Delivered items) ≡ []
    seller_delivery_made = answers-seller steps SHIPMENT_TO_SELLER (body.Delivered items)

    pub sellers_served : (after : Acts) → after.whole ≡ acts.whole → after.unpaid ≡ acts.unpaid → after.items ≡ acts.items ++ items
        → ((seller : ℕ) → after.entries seller ≡ acts.entries seller ++ flat_map (entry_delivered acts seller) items) → SellersAgree sellers_delivered after
    sellers_served after whole unpaid more entries =
        let s = step_of Role.Seller steps SHIPMENT_TO_SELLER (body.Delivered items) in
        record {
          entries = λ seller. seller_changes-push steps s seller
              ∙ (λ i. agree.entries seller i ++ flat_map (λ (item : Item). marked seller item.checkout status.Delivered (lines_with_keys (agree.lines item.checkout i) (item.key ∷ []))) items)
              ∙ sym (entries seller);
          lines = λ i. invoice_lines-same steps s i refl ∙ agree.lines i ∙ sym (λ j. lines_of (whole j ++ unpaid j) i);
          shipped = λ i. is_taken-same ships steps s i refl ∙ agree.shipped i ∙ ap (list_any (is_of i)) (sym whole);
          items = items_taken-push steps s ∙ ap (λ before. before ++ items) agree.items ∙ sym more;
        }

-- a checkout is invoiced
module _ (steps : List Step) (acts : Acts) (agree : SellersAgree steps acts) (id : RequestId) (customer : ℕ) (lines : List PricedLine) (fresh : IsFresh steps id)
    (new_checkout : list_any (is_of id) (acts.whole ++ acts.unpaid) ≡ false) (formed : checkout_formed id customer lines ≡ true) (few : length steps + most_made < most_steps) where
  abbrev r : Reservation
  r = record { checkout = id; customer = customer; lines = lines }

  abbrev pub seller_invoice : Body
  seller_invoice = body.Invoice id customer lines (total_of lines)

  abbrev pub sellers_invoiced : List Step
  sellers_invoiced = with_step Role.Seller steps ORDER_TO_SELLER seller_invoice

  abbrev first : Step
  first = step_of Role.Seller steps ORDER_TO_SELLER seller_invoice

  total_formed : (checkout_formed id customer lines && (total_of lines == total_of lines)) ≡ true
  total_formed = and_from (checkout_formed id customer lines) (total_of lines == total_of lines) formed (same_number (total_of lines))

  pub seller_invoice_fits : fits Role.Seller steps ORDER_TO_SELLER seller_invoice ≡ true
  seller_invoice_fits = fits_by Role.Seller steps ORDER_TO_SELLER seller_invoice (few_before steps few) total_formed refl refl (ap not (none_invoiced id steps fresh))

  pub seller_invoice_made : answers Role.Seller steps ORDER_TO_SELLER seller_invoice ≡ []
  seller_invoice_made = answers-seller steps ORDER_TO_SELLER seller_invoice

  -- its lines are those of the checkout
  own_lines : invoice_lines (taken_bodies sellers_invoiced) id ≡ lines
  own_lines = invoice_lines-push steps first id ∙ rw (invoice_lines-none steps id (none_invoiced id steps fresh), same_id-self id)

  lines_now : (i : RequestId) → invoice_lines (taken_bodies sellers_invoiced) i ≡ lines_of (acts.whole ++ acts.unpaid) i ++ lines_if i r
  lines_now i = invoice_lines-push steps first i ∙ ap (λ ls. ls ++ lines_if i r) (agree.lines i)

  entries_now : (seller : ℕ) → seller_changes sellers_invoiced seller ≡ acts.entries seller ++ marked seller id status.Invoiced lines
  entries_now seller = seller_changes-push steps first seller ∙ ap (λ cs. cs ++ marked seller id status.Invoiced lines) (agree.entries seller)

  unsettled : is_settled sellers_invoiced id ≡ false
  unsettled = is_settled-push steps first id ∙ or_false (is_settled steps id) ∙ none_settled id steps fresh

  -- it is paid, and shipped
  abbrev pub seller_payment : Body
  seller_payment = body.Confirmed id customer lines (total_of lines)

  abbrev pub sellers_paid : List Step
  sellers_paid = with_step Role.Seller sellers_invoiced PAYMENT_TO_SELLER seller_payment

  abbrev second : Step
  second = step_of Role.Seller sellers_invoiced PAYMENT_TO_SELLER seller_payment

  pub seller_payment_fits : fits Role.Seller sellers_invoiced PAYMENT_TO_SELLER seller_payment ≡ true
  seller_payment_fits =
      fits_by Role.Seller sellers_invoiced PAYMENT_TO_SELLER seller_payment (few_after_one steps first few) total_formed refl refl
      (and_from (list_any (invoices_lines id customer lines) (taken_bodies sellers_invoiced)) (not (is_settled sellers_invoiced id))
      (any_taken-push (invoices_lines id customer lines) steps first
      ∙ or_true (list_any (invoices_lines id customer lines) (taken_bodies steps)) (invoices_lines id customer lines seller_invoice)
      (and_from (same_id id id && (customer == customer)) (same_lines lines lines) (and_from (same_id id id) (customer == customer) (same_id-self id) (same_number customer)) (same_lines-self lines)))
      (ap not unsettled))

  pub seller_payment_made : answers Role.Seller sellers_invoiced PAYMENT_TO_SELLER seller_payment ≡ []
  seller_payment_made = answers-seller sellers_invoiced PAYMENT_TO_SELLER seller_payment

  abbrev pub sellers_shipped : List Step
  sellers_shipped = with_step Role.Seller sellers_paid SHIPMENT_TO_SELLER (body.Shipped id)

  abbrev third : Step
  third = step_of Role.Seller sellers_paid SHIPMENT_TO_SELLER (body.Shipped id)

  id_is_formed : request_id_formed id ≡ true
  id_is_formed = (and_both (request_id_formed id) (id_formed customer) (and_both (request_id_formed id && id_formed customer) (lines_formed lines) formed).0).0

  pub seller_shipment_fits : fits Role.Seller sellers_paid SHIPMENT_TO_SELLER (body.Shipped id) ≡ true
  seller_shipment_fits =
      fits_by Role.Seller sellers_paid SHIPMENT_TO_SELLER (body.Shipped id) (few_after_two steps first second few) id_is_formed refl refl
      (and_from (is_taken confirms sellers_paid id) (not (is_taken ships sellers_paid id))
      (is_taken-push confirms sellers_invoiced second id ∙ or_true (is_taken confirms sellers_invoiced id) (same_id id id) (same_id-self id))
      (ap not (is_taken-same ships sellers_invoiced second id refl ∙ is_taken-same ships steps first id refl ∙ none_shipped id steps fresh)))

  pub seller_shipment_made : answers Role.Seller sellers_paid SHIPMENT_TO_SELLER (body.Shipped id) ≡ []
  seller_shipment_made = answers-seller sellers_paid SHIPMENT_TO_SELLER (body.Shipped id)

  paid_lines : lines_with_keys (invoice_lines (taken_bodies sellers_invoiced) id) (map (λ (line : PricedLine). line.key) lines) ≡ lines
  paid_lines = ap (λ own. lines_with_keys own (map (λ (line : PricedLine). line.key) lines)) own_lines ∙ own-keys lines (lines_formed-rise lines (checkout_formed-lines id customer lines formed))

  pub sellers_whole : (after : Acts) → after.whole ≡ acts.whole ++ r ∷ [] → after.unpaid ≡ acts.unpaid → after.items ≡ acts.items
      → ((seller : ℕ) → after.entries seller ≡ acts.entries seller ++ entries_whole id lines seller) → SellersAgree sellers_shipped after
  sellers_whole after whole unpaid items entries = record {
    entries = λ seller. seller_changes-push sellers_paid third seller
        ∙ ap (λ cs. cs ++ marked seller id status.Shipped (invoice_lines (taken_bodies sellers_paid) id)) (seller_changes-push sellers_invoiced second seller)
        ∙ (λ i. (entries_now seller i ++ marked seller id status.Paid (paid_lines i)) ++ marked seller id status.Shipped ((invoice_lines-same sellers_invoiced second id refl ∙ own_lines) i))
        ∙ append_assoc (acts.entries seller ++ marked seller id status.Invoiced lines) (marked seller id status.Paid lines) (marked seller id status.Shipped lines)
        ∙ append_assoc (acts.entries seller) (marked seller id status.Invoiced lines) (marked seller id status.Paid lines ++ marked seller id status.Shipped lines)
        ∙ sym (entries seller);
    lines = λ i. invoice_lines-same sellers_paid third i refl ∙ invoice_lines-same sellers_invoiced second i refl ∙ lines_now i
        ∙ sym (lines-whole acts.whole acts.unpaid r i new_checkout) ∙ sym (λ j. lines_of (whole j ++ unpaid j) i);
    shipped = λ i. is_taken-push ships sellers_paid third i ∙ ap (λ b. b || same_id id i) (is_taken-same ships sellers_invoiced second i refl ∙ is_taken-same ships steps first i refl ∙ agree.shipped i)
        ∙ sym (list_any-push (is_of i) acts.whole r) ∙ ap (list_any (is_of i)) (sym whole);
    items = items_taken-same sellers_paid third refl ∙ items_taken-same sellers_invoiced second refl ∙ items_taken-same steps first refl ∙ agree.items ∙ sym items;
  }

  -- or it is not paid
  module _ (reason : PayRule) where
    abbrev pub seller_failure : Body
    seller_failure = body.Failed id customer reason

    abbrev pub sellers_failed : List Step
    sellers_failed = with_step Role.Seller sellers_invoiced PAYMENT_TO_SELLER seller_failure

    abbrev failing : Step
    failing = step_of Role.Seller sellers_invoiced PAYMENT_TO_SELLER seller_failure

    pub seller_failure_fits : fits Role.Seller sellers_invoiced PAYMENT_TO_SELLER seller_failure ≡ true
    seller_failure_fits =
        fits_by Role.Seller sellers_invoiced PAYMENT_TO_SELLER seller_failure (few_after_one steps first few) (and_both (request_id_formed id && id_formed customer) (lines_formed lines) formed).0 refl refl
        (and_from (list_any (invoices_for id customer) (taken_bodies sellers_invoiced)) (not (is_settled sellers_invoiced id))
        (any_taken-push (invoices_for id customer) steps first
        ∙ or_true (list_any (invoices_for id customer) (taken_bodies steps)) (invoices_for id customer seller_invoice) (and_from (same_id id id) (customer == customer) (same_id-self id) (same_number customer)))
        (ap not unsettled))

    pub seller_failure_made : answers Role.Seller sellers_invoiced PAYMENT_TO_SELLER seller_failure ≡ []
    seller_failure_made = answers-seller sellers_invoiced PAYMENT_TO_SELLER seller_failure

    pub sellers_unpaid : (after : Acts) → after.whole ≡ acts.whole → after.unpaid ≡ acts.unpaid ++ r ∷ [] → after.items ≡ acts.items
        → ((seller : ℕ) → after.entries seller ≡ acts.entries seller ++ entries_unpaid id lines seller) → SellersAgree sellers_failed after
    sellers_unpaid after whole unpaid items entries = record {
      entries = λ seller. seller_changes-push sellers_invoiced failing seller
          ∙ (λ i. entries_now seller i ++ marked seller id status.Cancelled (own_lines i))
          ∙ append_assoc (acts.entries seller) (marked seller id status.Invoiced lines) (marked seller id status.Cancelled lines)
          ∙ sym (entries seller);
      lines = λ i. invoice_lines-same sellers_invoiced failing i refl ∙ lines_now i ∙ sym (lines-unpaid acts.whole acts.unpaid r i) ∙ sym (λ j. lines_of (whole j ++ unpaid j) i);
      shipped = λ i. is_taken-same ships sellers_invoiced failing i refl ∙ is_taken-same ships steps first i refl ∙ agree.shipped i ∙ ap (list_any (is_of i)) (sym whole);
      items = items_taken-same sellers_invoiced failing refl ∙ items_taken-same steps first refl ∙ agree.items ∙ sym items;
    }
