-- Shipments: what they answer, and how a checkout and a delivery keep them in step with what was accepted.
use Rattle.std.proofs.Common.{◌≡◌, ℕ, ◌+◌, ◌<◌, ◌≤◌, true, false, not, ◌==◌, List, [], ◌∷◌, ◌++◌, length, filter, filter_map, refl, ap, sym, subst, ◌∙◌}
use Rattle.std.specs.List.{list_any, list_all, flat_map}
use Rattle.market_amounts.specs.declared.keys.RequestId.{RequestId}
use Rattle.market_events.specs.declared.bodies.Body.{Body}
use Rattle.market_events.specs.declared.bodies.Body.TheVariants as body
use Rattle.market_events.specs.declared.bodies.Item.{Item}
use Rattle.market_events.specs.declared.bodies.PricedLine.{PricedLine}
use Rattle.market_events.specs.declared.links.Link.{Link}
use Rattle.market_events.specs.declared.links.TheConstants.{PAYMENT_TO_SHIPMENT, SHIPMENT_TO_ORDER}
use Rattle.market_events.specs.declared.links.TheConstants.{SHIPMENT_TO_SELLER, SHIPMENT_TO_CUSTOMER}
use Rattle.market_events.specs.declared.requests.Ask.{Ask}
use Rattle.market_events.specs.declared.requests.Ask.TheVariants as ask
use Rattle.market_events.specs.Formed.{checkout_formed, items_formed}
use Rattle.market_events.specs.Orders.{items_in, is_item_of}
use Rattle.market_events.specs.declared.roles.Role.{Role}
use Rattle.market_events.specs.Services.{IsRunOf, answers, fits, most_steps, items_apart}
use Rattle.market_events.specs.Shipments.{packages, open_packages, delivered_of, oldest_of, shipment_sums, shipment_asked, ShipmentSums}
use Rattle.market_events.specs.Standing.{step_of, with_step}
use Rattle.market_events.specs.Steps.{Step, body_on}
use Rattle.market_events.specs.Stocks.{Reservation}
use Rattle.market_events.specs.WellFormed.{total_of}
use Rattle.market_events.proofs.Values.Lists.{and_from, not_true, any_filter-none, flat_map-push}
use Rattle.market_events.proofs.Runs.Orders.{is_item_for}
use Rattle.market_events.proofs.Runs.Packages.{delivered_of-formed}
use Rattle.market_events.proofs.Steps.Shipments.{packages-push, packages-same, items_made-push, items_made-same, answers-shipment, deliver_rows-items, goes_with}
use Rattle.market_events.proofs.Runs.Shipments.{ShipmentRun-of}
use Rattle.market_events.proofs.Runs.Stock.{checkout_formed-lines, lines_formed-rise}
use Rattle.market_history.specs.Acts.{Acts, packages_for, shipment_table, packages_of_checkouts, packages_waiting}
use Rattle.market_laws.specs.Runs.{lines_apart}
use Rattle.market_laws.proofs.Runs.Apart.{apart-append, apart-items, apart-filter, paid-apart}
use Rattle.market.specs.Agreeing.{ShipmentsAgree}
use Rattle.market.specs.Carrying.{IsFresh, most_made}
use Rattle.market.proofs.Agreeing.Checkouts.{is_line_in}
use Rattle.market.proofs.Carrying.Fresh.{same_number, fits_by, few_before, none_confirmed}
use Rattle.market.proofs.Agreeing.Packages.{all-filter, packages-lines}

module _ (steps : List Step) (acts : Acts) (agree : ShipmentsAgree steps acts) where
  waiting_same : open_packages steps ≡ packages_waiting acts.whole acts.items
  waiting_same = λ i. filter (λ (p : Item). not (list_any (is_item_of p.checkout p.key) (agree.items i))) (agree.packed i)

  table_same : shipment_sums steps ≡ shipment_table acts
  table_same = ap of_waiting waiting_same
    where
      of_waiting : List Item → ShipmentSums
      of_waiting waiting = record { waiting = waiting }

  -- a request is answered by the table
  pub shipments_answer : (from : Link) (id : RequestId) (what : Ask) → answers Role.Shipment steps from (body.Asked (record { id = id; ask = what })) ≡ shipment_asked (shipment_table acts) id what
  shipments_answer from id what = answers-shipment steps from (body.Asked (record { id = id; ask = what })) ∙ ap (λ s. shipment_asked s id what) table_same

  -- the items of a delivery are well formed, stand in no earlier one and occur once, and are lines of whole checkouts
  abbrev pub delivered : List Item
  delivered = delivered_of (packages_waiting acts.whole acts.items)

  pub delivered_formed : IsRunOf Role.Shipment steps → 1 ≤ length delivered → items_formed delivered ≡ true
  delivered_formed run some =
      ap (λ waiting. items_formed (delivered_of waiting)) (sym waiting_same) ∙ delivered_of-formed steps run (subst (λ waiting. 1 ≤ length (delivered_of waiting)) (sym waiting_same) some)

  pub delivered_apart : items_apart acts.items delivered ≡ true
  delivered_apart =
      apart-items acts.items delivered
      (apart-filter (goes_with (oldest_of (packages_waiting acts.whole acts.items))) acts.items acts.items (λ p kept here. here) (packages_waiting acts.whole acts.items)
      (apart-filter (λ (p : Item). not (list_any (is_item_of p.checkout p.key) acts.items)) [] acts.items (λ p kept none. not_true (list_any (is_item_of p.checkout p.key) acts.items) kept) (packages_of_checkouts acts.whole)
      (ap (lines_apart []) (sym agree.packed) ∙ agree.apart)))

  pub delivered_lines : list_all (is_line_in acts.whole) delivered ≡ true
  delivered_lines =
      all-filter (is_line_in acts.whole) (goes_with (oldest_of (packages_waiting acts.whole acts.items))) (packages_waiting acts.whole acts.items)
      (all-filter (is_line_in acts.whole) (λ (p : Item). not (list_any (is_item_of p.checkout p.key) acts.items)) (packages_of_checkouts acts.whole) (packages-lines acts.whole))

  -- they are of no request that is new
  pub delivered_old : IsRunOf Role.Shipment steps → (id : RequestId) → IsFresh steps id → list_any (is_item_for id) delivered ≡ false
  delivered_old run id fresh =
      any_filter-none (is_item_for id) (goes_with (oldest_of (packages_waiting acts.whole acts.items))) (packages_waiting acts.whole acts.items)
      (any_filter-none (is_item_for id) (λ (p : Item). not (list_any (is_item_of p.checkout p.key) acts.items)) (packages_of_checkouts acts.whole)
      (ap (list_any (is_item_for id)) (sym agree.packed) ∙ (ShipmentRun-of steps run).unpacked id (none_confirmed id steps fresh)))

  -- a delivery
  pub shipments_served : (from : Link) (id : RequestId) (after : Acts) → after.whole ≡ acts.whole → after.items ≡ acts.items ++ delivered
      → ShipmentsAgree (with_step Role.Shipment steps from (body.Asked (record { id = id; ask = ask.Deliver }))) after
  shipments_served from id after whole more =
      let s = step_of Role.Shipment steps from (body.Asked (record { id = id; ask = ask.Deliver })) in
      record {
        packed = packages-same steps s refl ∙ agree.packed ∙ ap packages_of_checkouts (sym whole);
        items = items_made-push steps s
            ∙ (λ i. agree.items i ++ flat_map items_in (filter_map (body_on SHIPMENT_TO_CUSTOMER) (shipments_answer from id ask.Deliver i)))
            ∙ ap (λ items. acts.items ++ items) (deliver_rows-items id delivered (length (oldest_of (packages_waiting acts.whole acts.items)))) ∙ sym more;
        apart = ap (lines_apart []) (packages-same steps s refl) ∙ agree.apart;
      }

-- a checkout that is paid
module _ (steps : List Step) (acts : Acts) (agree : ShipmentsAgree steps acts) (run : IsRunOf Role.Shipment steps) (id : RequestId) (customer : ℕ) (lines : List PricedLine) (fresh : IsFresh steps id)
    (formed : checkout_formed id customer lines ≡ true) (few : length steps + most_made < most_steps) where
  abbrev r : Reservation
  r = record { checkout = id; customer = customer; lines = lines }

  abbrev pub shipment_paid : Body
  shipment_paid = body.Confirmed id customer lines (total_of lines)

  abbrev pub shipments_paid : List Step
  shipments_paid = with_step Role.Shipment steps PAYMENT_TO_SHIPMENT shipment_paid

  pub shipment_fits : fits Role.Shipment steps PAYMENT_TO_SHIPMENT shipment_paid ≡ true
  shipment_fits =
      fits_by Role.Shipment steps PAYMENT_TO_SHIPMENT shipment_paid (few_before steps few) (and_from (checkout_formed id customer lines) (total_of lines == total_of lines) formed (same_number (total_of lines))) refl refl
      (ap not (none_confirmed id steps fresh))

  pub shipment_made : answers Role.Shipment steps PAYMENT_TO_SHIPMENT shipment_paid ≡ (SHIPMENT_TO_SELLER, body.Shipped id) ∷ (SHIPMENT_TO_ORDER, body.Shipped id) ∷ []
  shipment_made = answers-shipment steps PAYMENT_TO_SHIPMENT shipment_paid

  pub shipments_whole : (after : Acts) → after.whole ≡ acts.whole ++ r ∷ [] → after.items ≡ acts.items → ShipmentsAgree shipments_paid after
  shipments_whole after whole items =
      let s = step_of Role.Shipment steps PAYMENT_TO_SHIPMENT shipment_paid in
      record {
        packed = packages-push steps s ∙ ap (λ ps. ps ++ packages_for r) agree.packed ∙ sym (flat_map-push packages_for acts.whole r) ∙ ap packages_of_checkouts (sym whole);
        items = items_made-same steps s (ap (λ made. flat_map items_in (filter_map (body_on SHIPMENT_TO_CUSTOMER) made)) shipment_made) ∙ agree.items ∙ sym items;
        apart = ap (lines_apart []) (packages-push steps s) ∙ apart-append [] (packages steps) (packages_for r)
            ∙ and_from (lines_apart [] (packages steps)) (lines_apart (packages steps) (packages_for r)) agree.apart
            (paid-apart id customer lines 0 (packages steps) ((ShipmentRun-of steps run).unpacked id (none_confirmed id steps fresh)) (lines_formed-rise lines (checkout_formed-lines id customer lines formed)));
      }
