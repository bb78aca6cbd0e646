-- In settled histories what sellers took: each invoice of orders (seller-invoices), each payment, failure and shipment once
-- (seller-paid, seller-failed, seller-shipped), and the items of all deliveries (seller-items). So the entries of a checkout are
-- those of its invoice (count-entries).
use Rattle.std.proofs.Common.{◌≡◌, ℕ, Bool, false, List, [], ◌∷◌, length, filter, count_by, refl, ap, sym, ◌∙◌, arith}
use Rattle.std.specs.List.{AllByRecursion, flat_map}
use Rattle.std.proofs.lemmas.List.Sums.{length-filter}
use Rattle.market_amounts.specs.declared.keys.RequestId.{RequestId}
use Rattle.market_events.specs.declared.bodies.Body.{Body}
use Rattle.market_events.specs.declared.bodies.Body.TheVariants as body
use Rattle.market_events.specs.declared.links.TheConstants.{ORDER_TO_PAYMENT, PAYMENT_TO_STOCK, ORDER_TO_SELLER, PAYMENT_TO_SELLER, SHIPMENT_TO_SELLER}
use Rattle.market_events.specs.declared.replies.OrderStatus.TheVariants as status
use Rattle.market_events.specs.Links.{order_node, payment_node, shipment_node, seller_node}
use Rattle.market_events.specs.Orders.{items_in, items_taken, ships}
use Rattle.market_events.specs.Requests.{same_id}
use Rattle.market_events.specs.Sellers.{SellerChange, entries_at, marked}
use Rattle.market_events.specs.Services.{invoices}
use Rattle.market_events.specs.Shipments.{items_made}
use Rattle.market_events.specs.Steps.{taken_bodies, made_on}
use Rattle.market_events.specs.Stocks.{confirms, fails}
use Rattle.market_history.specs.Checkouts.{changes_of}
use Rattle.market_history.specs.Histories.{Histories, journal_at}
use Rattle.market_history.specs.Lawful.{IsLawful}
use Rattle.market_history.specs.Outstanding.{IsSettled}
use Rattle.market_laws.specs.Runs.{is_delivery}
use Rattle.market_laws.proofs.Origins.Made.{steps-run}
use Rattle.market_laws.proofs.Settled.Passing.{joined-passing, filter-joined}
use Rattle.market_laws.proofs.Runs.Orders.{invoices-to-seller}
use Rattle.market_laws.proofs.Runs.Payments.{payments-to-seller}
use Rattle.market_laws.proofs.Runs.Shipments.{shipments-to-seller, deliveries-to-customer, shipped-is}
use Rattle.market_laws.proofs.Runs.SellerEntries.{entries_in, entries-invoiced}
use Rattle.market_laws.proofs.Runs.SellerStatuses.{marked-each}
use Rattle.market_laws.proofs.Settled.Counts.{steps_now, paid-shipments}
use Rattle.market_laws.proofs.Settled.Links.{ComesOn, count-made, filter-made}

-- where each kind comes in
invoices-seller : (id : RequestId) → ComesOn seller_node ORDER_TO_SELLER (invoices id)
invoices-seller id (body.Invoice checkout customer lines total) passes = (tt, refl)
invoices-seller id other passes = cc

confirms-seller : (id : RequestId) → ComesOn seller_node PAYMENT_TO_SELLER (confirms id)
confirms-seller id (body.Confirmed checkout customer lines total) passes = (tt, refl)
confirms-seller id other passes = cc

fails-seller : (id : RequestId) → ComesOn seller_node PAYMENT_TO_SELLER (fails id)
fails-seller id (body.Failed checkout customer rule) passes = (tt, refl)
fails-seller id other passes = cc

ships-seller : (id : RequestId) → ComesOn seller_node SHIPMENT_TO_SELLER (ships id)
ships-seller id (body.Shipped checkout) passes = (tt, refl)
ships-seller id other passes = cc

deliveries-seller : ComesOn seller_node SHIPMENT_TO_SELLER is_delivery
deliveries-seller (body.Delivered items) passes = (tt, refl)
deliveries-seller other passes = cc

-- only deliveries have items
pub no_items : (b : Body) → is_delivery b ≡ false → items_in b ≡ []
no_items (body.Delivered items) none = cc
no_items other none = refl

-- where none passes, none is kept
filter-none : {A : Type 0} (test : A → Bool) (xs : List A) → AllByRecursion (λ (x : A). test x ≡ false) xs → filter test xs ≡ []
filter-none test [] all = refl
filter-none test (x ∷ xs) all = rw all.0 (filter-none test xs all.1)

module _ (h : Histories) (lawful : IsLawful h) (settled : IsSettled h) where
  -- sellers took the items that shipments delivered
  pub seller-items : items_taken (steps_now h lawful seller_node) ≡ items_made (steps_now h lawful shipment_node)
  seller-items =
      let steps = steps_now h lawful shipment_node in
      let run = steps-run shipment_node (journal_at h shipment_node) in
      joined-passing is_delivery items_in no_items (taken_bodies (steps_now h lawful seller_node))
      ∙ ap (flat_map items_in)
      (filter-made h lawful settled seller_node shipment_node SHIPMENT_TO_SELLER (omega arith) (omega arith) (omega arith) refl refl is_delivery deliveries-seller
      ∙ ap (filter is_delivery) (sym (shipments-to-seller steps run)) ∙ sym (deliveries-to-customer steps run))

  module _ (c : RequestId) where
    pub seller-invoices : filter (invoices c) (taken_bodies (steps_now h lawful seller_node)) ≡ filter (invoices c) (made_on ORDER_TO_PAYMENT (steps_now h lawful order_node))
    seller-invoices =
        filter-made h lawful settled seller_node order_node ORDER_TO_SELLER (omega arith) (omega arith) (omega arith) refl refl (invoices c) (invoices-seller c)
        ∙ ap (filter (invoices c)) (sym (invoices-to-seller (steps_now h lawful order_node) (steps-run order_node (journal_at h order_node))))

    pub seller-paid : count_by (confirms c) (taken_bodies (steps_now h lawful seller_node)) ≡ count_by (confirms c) (made_on PAYMENT_TO_STOCK (steps_now h lawful payment_node))
    seller-paid =
        count-made h lawful settled seller_node payment_node PAYMENT_TO_SELLER (omega arith) (omega arith) (omega arith) refl refl (confirms c) (confirms-seller c)
        ∙ ap (count_by (confirms c)) (sym (payments-to-seller (steps_now h lawful payment_node) (steps-run payment_node (journal_at h payment_node))))

    pub seller-failed : count_by (fails c) (taken_bodies (steps_now h lawful seller_node)) ≡ count_by (fails c) (made_on PAYMENT_TO_STOCK (steps_now h lawful payment_node))
    seller-failed =
        count-made h lawful settled seller_node payment_node PAYMENT_TO_SELLER (omega arith) (omega arith) (omega arith) refl refl (fails c) (fails-seller c)
        ∙ ap (count_by (fails c)) (sym (payments-to-seller (steps_now h lawful payment_node) (steps-run payment_node (journal_at h payment_node))))

    pub seller-shipped : count_by (ships c) (taken_bodies (steps_now h lawful seller_node)) ≡ count_by (confirms c) (made_on PAYMENT_TO_STOCK (steps_now h lawful payment_node))
    seller-shipped =
        let steps = steps_now h lawful shipment_node in
        let run = steps-run shipment_node (journal_at h shipment_node) in
        count-made h lawful settled seller_node shipment_node SHIPMENT_TO_SELLER (omega arith) (omega arith) (omega arith) refl refl (ships c) (ships-seller c)
        ∙ ap (count_by (ships c)) (sym (shipments-to-seller steps run)) ∙ shipped-is steps run c ∙ paid-shipments h lawful settled c

    -- of entries that pass only where they are of the checkout, as many pass as the checkout's invoices add
    pub count-entries : (test : SellerChange → Bool) → ((e : SellerChange) → same_id e.checkout c ≡ false → test e ≡ false) → (seller : ℕ)
        → count_by test (entries_at (changes_of h seller)) ≡ count_by test (flat_map (entries_in seller) (filter (invoices c) (taken_bodies (steps_now h lawful seller_node))))
    count-entries test of seller =
        let bs = taken_bodies (steps_now h lawful seller_node) in
        let kept = filter (invoices c) bs in
        let mine = λ (b : Body). filter test (entries_in seller b) in
        ap (count_by test) (entries-invoiced seller [] bs) ∙ sym (length-filter test (flat_map (entries_in seller) bs))
        ∙ ap length (filter-joined test (entries_in seller) bs ∙ joined-passing (invoices c) mine others bs ∙ sym (filter-joined test (entries_in seller) kept))
        ∙ length-filter test (flat_map (entries_in seller) kept)
      where
        others : (b : Body) → invoices c b ≡ false → filter test (entries_in seller b) ≡ []
        others (body.Invoice checkout customer lines total) other =
            filter-none test (marked seller checkout status.Invoiced lines) (marked-each (λ (e : SellerChange). test e ≡ false) seller checkout status.Invoiced (λ line. of (record { checkout = checkout; line = line; status = status.Invoiced }) other) lines)
        others b other = refl
