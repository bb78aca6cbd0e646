-- In settled histories what payments, shipments and customers counted is the book's: what was spent (spent-book), the packages
-- (packages-book), and how many payments were confirmed, failed and delivered (confirmed-book, failed-book, delivered-book).
use Rattle.std.proofs.Common.{◌≡◌, ℕ, ◌==◌, Bool, false, cond, not, List, [], ◌∷◌, ◌++◌, filter, filter_map, if◌then◌else◌, sum_by, count_by, inl, refl, ap, sym, ◌∙◌, arith}
use Rattle.std.specs.List.{cons_option, flat_map}
use Rattle.std.proofs.lemmas.List.Sums.{sum_by-cons}
use Rattle.market_events.specs.declared.bodies.Body.{Body}
use Rattle.market_events.specs.declared.bodies.Body.TheVariants as body
use Rattle.market_events.specs.declared.bodies.Item.{Item}
use Rattle.market_events.specs.Customers.{confirms_for, fails_for, confirmed_count, failed_count, delivered_count}
use Rattle.market_events.specs.Links.{payment_node, shipment_node, customer_node}
use Rattle.market_events.specs.Orders.{items_in, items_taken}
use Rattle.market_events.specs.Payments.{total_paid, spent}
use Rattle.market_events.specs.declared.roles.Role.{Role}
use Rattle.market_events.specs.Shipments.{packages_in, packages, items_made}
use Rattle.market_events.specs.Stocks.{Reservation}
use Rattle.market_events.specs.WellFormed.{total_of}
use Rattle.market_events.specs.declared.links.TheConstants.{PAYMENT_TO_SHIPMENT, PAYMENT_TO_CUSTOMER, SHIPMENT_TO_CUSTOMER}
use Rattle.market_history.specs.Acts.{packages_for, count_for, packages_of_checkouts, paid_for_checkouts}
use Rattle.market_history.specs.Blocks.{service_steps}
use Rattle.market_history.specs.Book.{paid_in}
use Rattle.market_history.specs.Histories.{Histories, journal_at}
use Rattle.market_history.specs.Lawful.{IsLawful}
use Rattle.market_history.specs.Outstanding.{IsSettled}
use Rattle.market_laws.specs.Runs.{Member, is_delivery, is_payment}
use Rattle.market_laws.proofs.Origins.Made.{steps-run}
use Rattle.market_laws.proofs.Views.GatheredOnLinks.{lists-made}
use Rattle.market_laws.proofs.Views.Gathered.{sum-gathered}
use Rattle.market_laws.proofs.Settled.Passing.{joined-passing}
use Rattle.market_laws.proofs.Runs.PaymentOutcomes.{AreSettled, none, paid, failed, Picks, picks-later}
use Rattle.market_laws.proofs.Runs.Payments.{payments-to-shipment, payments-to-customer}
use Rattle.market_laws.proofs.Settled.Links.{ComesOn, count-made}
use Rattle.market_laws.proofs.Settled.Outcomes.{held, settling, was_paid, settled-held, paid-picks}
use Rattle.market_laws.proofs.Settled.Sellers.{no_items}
use Rattle.market_laws.proofs.Settled.PaidWhole.{paid-total}

-- where these bodies come in
payment-shipments : ComesOn shipment_node PAYMENT_TO_SHIPMENT is_payment
payment-shipments (body.Confirmed checkout customer lines total) passes = (tt, refl)
payment-shipments other passes = cc

confirms-customers : (customer : ℕ) → ComesOn customer_node PAYMENT_TO_CUSTOMER (confirms_for customer)
confirms-customers customer (body.Confirmed checkout c lines total) passes = (tt, refl)
confirms-customers customer other passes = cc

fails-customers : (customer : ℕ) → ComesOn customer_node PAYMENT_TO_CUSTOMER (fails_for customer)
fails-customers customer (body.Failed checkout c rule) passes = (tt, refl)
fails-customers customer other passes = cc

delivery-customers : ComesOn customer_node SHIPMENT_TO_CUSTOMER is_delivery
delivery-customers (body.Delivered items) passes = (tt, refl)
delivery-customers other passes = cc

-- only payments have packages
no_packages : (b : Body) → is_payment b ≡ false → packages_in b ≡ []
no_packages (body.Confirmed checkout customer lines total) fails = cc
no_packages other fails = refl

-- the packages of payments are those of the checkouts that they pay
packages-paid : (bs : List Body) → flat_map packages_in bs ≡ packages_of_checkouts (filter_map paid_in bs)
packages-paid [] = refl
packages-paid (b ∷ bs) = by b (packages-paid bs)
  where
    by : (b : Body) → flat_map packages_in bs ≡ packages_of_checkouts (filter_map paid_in bs) → packages_in b ++ flat_map packages_in bs ≡ packages_of_checkouts (cons_option (paid_in b) (filter_map paid_in bs))
    by (body.Confirmed checkout customer lines total) rest = ap (λ l. packages_for (record { checkout = checkout; customer = customer; lines = lines }) ++ l) rest
    by other rest = rest

-- as many payments of a customer as checkouts that they pay
confirmed-paid : (customer : ℕ) (bs : List Body) → count_by (confirms_for customer) bs ≡ count_for (filter_map paid_in bs) customer
confirmed-paid customer bs = sum-gathered (λ b. cond (confirms_for customer b) 1 0) paid_in (λ (r : Reservation). cond (r.customer == customer) 1 0) bs (λ b here. each b)
  where
    each : (b : Body) → cond (confirms_for customer b) 1 0 ≡ sum_by (λ (r : Reservation). cond (r.customer == customer) 1 0) (cons_option (paid_in b) [])
    each (body.Confirmed checkout c lines total) = omega (arith, sum_by-cons (λ (r : Reservation). cond (r.customer == customer) 1 0) (record { checkout = checkout; customer = c; lines = lines }) [])
    each other = refl

-- as many failures of a customer as reservations that were not paid
failures-unpaid : (picks : Reservation → Bool) (customer : ℕ) {rs : List Reservation} {bs : List Body} → AreSettled rs bs → Picks picks bs → count_by (fails_for customer) bs ≡ count_for (filter (λ (r : Reservation). not (picks r)) rs) customer
failures-unpaid picks customer none p = refl
failures-unpaid picks customer (paid r total {rs = rs} {bs = bs} rest) p =
    let more = failures-unpaid picks customer rest (picks-later p) in
    let first = sum_by-cons (λ b. cond (fails_for customer b) 1 0) (body.Confirmed r.checkout r.customer r.lines total) bs in
    let left : count_for (filter (λ (q : Reservation). not (picks q)) (r ∷ rs)) customer ≡ count_for (filter (λ (q : Reservation). not (picks q)) rs) customer = rw (p.yes r total (inl refl)) refl in
    omega (arith, more, first, left)
failures-unpaid picks customer (failed r rule {rs = rs} {bs = bs} rest) p =
    let more = failures-unpaid picks customer rest (picks-later p) in
    let first = sum_by-cons (λ b. cond (fails_for customer b) 1 0) (body.Failed r.checkout r.customer rule) bs in
    let others = filter (λ (q : Reservation). not (picks q)) rs in
    let left : count_for (filter (λ (q : Reservation). not (picks q)) (r ∷ rs)) customer ≡ count_for (r ∷ others) customer = rw (p.no r rule (inl refl)) refl in
    omega (arith, more, first, left, sum_by-cons (λ (q : Reservation). cond (q.customer == customer) 1 0) r others)

module _ (h : Histories) (lawful : IsLawful h) (settled : IsSettled h) where
  pub spent-book : (customer : ℕ) → spent (service_steps h Role.Payment) customer ≡ paid_for_checkouts (filter_map paid_in (settling h)) customer
  spent-book customer = sum-gathered (total_paid customer) paid_in cost (settling h) each
    where
      cost : Reservation → ℕ
      cost r = if r.customer == customer then total_of r.lines else 0

      each : (b : Body) → Member b (settling h) → total_paid customer b ≡ sum_by cost (cons_option (paid_in b) [])
      each (body.Confirmed checkout c lines total) here =
          ap (λ n. if c == customer then n else 0) (paid-total h lawful settled checkout c lines total here)
          ∙ omega (arith, sum_by-cons cost (record { checkout = checkout; customer = c; lines = lines }) [])
      each other here = refl

  pub packages-book : packages (service_steps h Role.Shipment) ≡ packages_of_checkouts (filter_map paid_in (settling h))
  packages-book =
      lists-made h lawful settled shipment_node payment_node PAYMENT_TO_SHIPMENT (omega arith) (omega arith) (omega arith) refl refl packages_in is_payment no_packages payment-shipments
      ∙ ap (flat_map packages_in) (payments-to-shipment (service_steps h Role.Payment) (steps-run payment_node (journal_at h payment_node)))
      ∙ sym (joined-passing is_payment packages_in no_packages (settling h)) ∙ packages-paid (settling h)

  pub confirmed-book : (customer : ℕ) → confirmed_count (service_steps h Role.Customer) customer ≡ count_for (filter_map paid_in (settling h)) customer
  confirmed-book customer =
      count-made h lawful settled customer_node payment_node PAYMENT_TO_CUSTOMER (omega arith) (omega arith) (omega arith) refl refl (confirms_for customer) (confirms-customers customer)
      ∙ ap (count_by (confirms_for customer)) (sym (payments-to-customer (service_steps h Role.Payment) (steps-run payment_node (journal_at h payment_node)))) ∙ confirmed-paid customer (settling h)

  pub failed-book : (customer : ℕ) → failed_count (service_steps h Role.Customer) customer ≡ count_for (filter (λ (r : Reservation). not (was_paid h r)) (held h)) customer
  failed-book customer =
      count-made h lawful settled customer_node payment_node PAYMENT_TO_CUSTOMER (omega arith) (omega arith) (omega arith) refl refl (fails_for customer) (fails-customers customer)
      ∙ ap (count_by (fails_for customer)) (sym (payments-to-customer (service_steps h Role.Payment) (steps-run payment_node (journal_at h payment_node))))
      ∙ failures-unpaid (was_paid h) customer (settled-held h lawful settled) (paid-picks h lawful settled)

  pub customer-items : items_taken (service_steps h Role.Customer) ≡ items_made (service_steps h Role.Shipment)
  customer-items = lists-made h lawful settled customer_node shipment_node SHIPMENT_TO_CUSTOMER (omega arith) (omega arith) (omega arith) refl refl items_in is_delivery no_items delivery-customers

  pub delivered-book : (customer : ℕ) → delivered_count (service_steps h Role.Customer) customer ≡ count_by (λ (i : Item). i.customer == customer) (items_made (service_steps h Role.Shipment))
  delivered-book customer = ap (count_by (λ (i : Item). i.customer == customer)) customer-items
