-- How many events that name a checkout go on each service link: one at most (few-cart-to-stock and so on), and on the two from stock together (few-from-stock).
use Rattle.std.proofs.Common.{◌≡◌, ℕ, ◌+◌, ◌<◌, ◌≤◌, Bool, true, false, cond, List, [], ◌∷◌, count_by, inl, inr, refl, ap, subst, arith}
use Rattle.std.proofs.lemmas.List.Sums.{sum_by-cons}
use Rattle.market_amounts.specs.declared.keys.RequestId.{RequestId}
use Rattle.market_events.specs.declared.bodies.Body.{Body}
use Rattle.market_events.specs.declared.bodies.Body.TheVariants as body
use Rattle.market_events.specs.declared.events.Entry.{Entry}
use Rattle.market_events.specs.declared.events.Event.{Event}
use Rattle.market_events.specs.declared.links.Link.{Link}
use Rattle.market_events.specs.Carried.{carries}
use Rattle.market_events.specs.Links.{cart_node, product_node, stock_node, order_node, payment_node, shipment_node}
use Rattle.market_events.specs.Orders.{ships}
use Rattle.market_events.specs.Services.{ends, invoices, reserves}
use Rattle.market_events.specs.Stocks.{settles}
use Rattle.market_events.specs.declared.links.TheConstants.{PRODUCT_TO_CART, PRODUCT_TO_STOCK, CART_TO_STOCK}
use Rattle.market_events.specs.declared.links.TheConstants.{STOCK_TO_CART, STOCK_TO_ORDER, ORDER_TO_PAYMENT}
use Rattle.market_events.specs.declared.links.TheConstants.{ORDER_TO_SELLER, ORDER_TO_CART, PAYMENT_TO_STOCK}
use Rattle.market_events.specs.declared.links.TheConstants.{PAYMENT_TO_ORDER, PAYMENT_TO_SHIPMENT}
use Rattle.market_events.specs.declared.links.TheConstants.{PAYMENT_TO_CUSTOMER, PAYMENT_TO_SELLER}
use Rattle.market_events.specs.declared.links.TheConstants.{SHIPMENT_TO_ORDER, SHIPMENT_TO_SELLER}
use Rattle.market_events.specs.declared.links.TheConstants.{SHIPMENT_TO_CUSTOMER}
use Rattle.market_events.proofs.Values.Offers.{same_link-true}
use Rattle.market_events.specs.declared.nodes.TheConstants.{NODES}
use Rattle.market_history.specs.Histories.{Histories, journal_at}
use Rattle.market_history.specs.Lawful.{IsLawful}
use Rattle.market_history.specs.Sent.{event_made_on, sent}
use Rattle.market_history.proofs.GrowSent.{bodies_on}
use Rattle.market_laws.specs.Causes.{made_for, names}
use Rattle.market_laws.specs.Cuts.{steps_at, MadeAt}
use Rattle.market_laws.specs.Runs.{Member, holds_pieces}
use Rattle.market_laws.proofs.Growth.Members.{gathered-at}
use Rattle.market_laws.proofs.Causes.Endings.{endings-caused}
use Rattle.market_laws.proofs.Causes.Invoices.{invoices-caused}
use Rattle.market_laws.proofs.Causes.Payments.{payments-caused}
use Rattle.market_laws.proofs.Causes.Reserves.{reserves-caused}
use Rattle.market_laws.proofs.Causes.Shipments.{shipments-caused}
use Rattle.market_laws.proofs.Origins.Cuts.{map-split}
use Rattle.market_laws.proofs.Origins.Made.{steps-run, whole}
use Rattle.market_laws.proofs.Origins.Places.{made_of}
use Rattle.market_laws.proofs.Origins.Senders.{made-as}
use Rattle.market_laws.proofs.Growth.Made.{made_on-is}
use Rattle.market_laws.proofs.Runs.Counts.{member-split}
use Rattle.market_laws.proofs.Runs.Stock.{answered-is, reserves-once}
use Rattle.market_laws.proofs.Growth.Takers.{StandsAt}

-- what is made on a link, as an event
pub record MadeOn (h : Histories) (n : ℕ) (link : Link) (b : Body) : Type 0 where
  pub event : Event
  pub made : MadeAt h n event
  pub on : event.link ≡ link
  pub body_is : event.body ≡ b

pub made-of-member : (h : Histories) → IsLawful h → (n : ℕ) → n < NODES → (link : Link) (b : Body) → Member b (bodies_on link (journal_at h n)) → MadeOn h n link b
made-of-member h lawful n lt link b here =
    let split = member-split b (bodies_on link (journal_at h n)) here in
    let at = map-split (λ (e : Event). e.body) (sent link (journal_at h n)) split.0 b split.1 split.2 in
    let place = gathered-at (λ (x : Entry). event_made_on link x.what) (journal_at h n) at.front at.at at.back at.is in
    let what = made_on-is link place.at.what at.at place.gives in
    let stands : StandsAt h n place.at = record { node = lt; before = place.before; after = place.after; is = place.is } in
    record { event = at.at; made = made_of h n place.at at.at lawful stands what.0; on = same_link-true at.at.link link what.1; body_is = at.at_is }

-- where each member that passes one test passes another, no more pass it
pub count-members : {A : Type 0} (test other : A → Bool) (xs : List A) → ((x : A) → Member x xs → test x ≡ true → other x ≡ true) → count_by test xs ≤ count_by other xs
count-members test other [] each = omega arith
count-members test other (x ∷ xs) each =
    by (test x) refl (count-members test other xs (λ y here. each y (inr here)))
  where
    by : (b : Bool) → test x ≡ b → count_by test xs ≤ count_by other xs → count_by test (x ∷ xs) ≤ count_by other (x ∷ xs)
    by true is rest =
        let also = each x (inl refl) is in
        let one : ◌≡◌ {A = ℕ} (cond (test x) 1 0) 1 = rw is refl in
        let same : ◌≡◌ {A = ℕ} (cond (other x) 1 0) 1 = rw also refl in
        omega (arith, rest, one, same, sum_by-cons (λ y. cond (test y) 1 0) x xs, sum_by-cons (λ y. cond (other y) 1 0) x xs)
    by false is rest =
        let none : ◌≡◌ {A = ℕ} (cond (test x) 1 0) 0 = rw is refl in
        omega (arith, rest, none, sum_by-cons (λ y. cond (test y) 1 0) x xs, sum_by-cons (λ y. cond (other y) 1 0) x xs)

-- what passes no test is none
pub count-never : {A : Type 0} (xs : List A) → count_by (λ (x : A). false) xs ≡ 0
count-never [] = refl
count-never (x ∷ xs) = omega (arith, sum_by-cons (λ y. 0) x xs, count-never xs)

-- what names a checkout on each link is of one kind
abbrev IsKindOn : Link → (RequestId → Body → Bool) → Type 0
IsKindOn link kind = (c : RequestId) (b : Body) → carries link b ≡ true → names c b ≡ true → kind c b ≡ true

-- changes and deliveries name none
none_to_cart : IsKindOn PRODUCT_TO_CART (λ c b. false)
none_to_cart c (body.Changed key version change) carried named = named
none_to_cart c other carried named = carried

none_to_stock : IsKindOn PRODUCT_TO_STOCK (λ c b. false)
none_to_stock c (body.Changed key version change) carried named = named
none_to_stock c other carried named = carried

none_to_customer : IsKindOn SHIPMENT_TO_CUSTOMER (λ c b. false)
none_to_customer c (body.Delivered items) carried named = named
none_to_customer c other carried named = carried

reserves_on : IsKindOn CART_TO_STOCK reserves
reserves_on c (body.Reserve checkout customer lines) carried named = named
reserves_on c other carried named = cc

refusals_on : IsKindOn STOCK_TO_CART ends
refusals_on c (body.ReserveFailed checkout key rule) carried named = named
refusals_on c other carried named = cc

held_on : IsKindOn STOCK_TO_ORDER holds_pieces
held_on c (body.StockConfirmed checkout customer lines) carried named = named
held_on c other carried named = cc

invoices_to_payment : IsKindOn ORDER_TO_PAYMENT invoices
invoices_to_payment c (body.Invoice checkout customer lines total) carried named = named
invoices_to_payment c other carried named = cc

invoices_to_seller : IsKindOn ORDER_TO_SELLER invoices
invoices_to_seller c (body.Invoice checkout customer lines total) carried named = named
invoices_to_seller c other carried named = cc

ends_on : IsKindOn ORDER_TO_CART ends
ends_on c (body.Ended checkout end) carried named = named
ends_on c other carried named = cc

settles_to_stock : IsKindOn PAYMENT_TO_STOCK settles
settles_to_stock c (body.Confirmed checkout customer lines total) carried named = named
settles_to_stock c (body.Failed checkout customer rule) carried named = named
settles_to_stock c other carried named = cc

settles_to_order : IsKindOn PAYMENT_TO_ORDER settles
settles_to_order c (body.Confirmed checkout customer lines total) carried named = named
settles_to_order c (body.Failed checkout customer rule) carried named = named
settles_to_order c other carried named = cc

settles_to_shipment : IsKindOn PAYMENT_TO_SHIPMENT settles
settles_to_shipment c (body.Confirmed checkout customer lines total) carried named = named
settles_to_shipment c other carried named = cc

settles_to_customer : IsKindOn PAYMENT_TO_CUSTOMER settles
settles_to_customer c (body.Confirmed checkout customer lines total) carried named = named
settles_to_customer c (body.Failed checkout customer rule) carried named = named
settles_to_customer c other carried named = cc

settles_to_seller : IsKindOn PAYMENT_TO_SELLER settles
settles_to_seller c (body.Confirmed checkout customer lines total) carried named = named
settles_to_seller c (body.Failed checkout customer rule) carried named = named
settles_to_seller c other carried named = cc

ships_to_order : IsKindOn SHIPMENT_TO_ORDER ships
ships_to_order c (body.Shipped checkout) carried named = named
ships_to_order c (body.Delivered items) carried named = cc
ships_to_order c other carried named = cc

ships_to_seller : IsKindOn SHIPMENT_TO_SELLER ships
ships_to_seller c (body.Shipped checkout) carried named = named
ships_to_seller c (body.Delivered items) carried named = cc
ships_to_seller c other carried named = cc

module _ (h : Histories) (lawful : IsLawful h) (c : RequestId) where
  -- no more events name it on a link than are of the link's kind
  as_kind : (link : Link) (n : ℕ) → n < NODES → (kind : RequestId → Body → Bool) → IsKindOn link kind → count_by (names c) (bodies_on link (journal_at h n)) ≤ count_by (kind c) (bodies_on link (journal_at h n))
  as_kind link n lt kind is_kind = count-members (names c) (kind c) (bodies_on link (journal_at h n)) each
    where
      each : (b : Body) → Member b (bodies_on link (journal_at h n)) → names c b ≡ true → kind c b ≡ true
      each b here named =
          let m = made-of-member h lawful n lt link b here in
          let carried = (made-as h lawful n m.event m.made).carried in
          is_kind c b (subst (λ l. carries l b ≡ true) m.on (subst (λ x. carries m.event.link x ≡ true) m.body_is carried)) named

  as_none : (link : Link) (n : ℕ) → n < NODES → IsKindOn link (λ c b. false) → count_by (names c) (bodies_on link (journal_at h n)) ≤ 0
  as_none link n lt is_kind = omega (arith, as_kind link n lt (λ c b. false) is_kind, count-never (bodies_on link (journal_at h n)))

  -- stock holds its pieces or refuses it, and not both
  one_answer : count_by (holds_pieces c) (bodies_on STOCK_TO_ORDER (journal_at h stock_node)) + count_by (ends c) (bodies_on STOCK_TO_CART (journal_at h stock_node)) ≤ 1
  one_answer =
      let steps = steps_at stock_node (journal_at h stock_node) in
      let run = steps-run stock_node (journal_at h stock_node) in
      let held = ap (count_by (holds_pieces c)) (whole h lawful stock_node (omega arith) STOCK_TO_ORDER) in
      let refused = ap (count_by (ends c)) (whole h lawful stock_node (omega arith) STOCK_TO_CART) in
      omega (arith, held, refused, answered-is steps run c, reserves-once steps run c)

  pub few-from-stock : made_for h c STOCK_TO_CART + made_for h c STOCK_TO_ORDER ≤ 1
  few-from-stock = omega (arith, one_answer, as_kind STOCK_TO_CART stock_node (omega arith) ends refusals_on, as_kind STOCK_TO_ORDER stock_node (omega arith) holds_pieces held_on)

  pub few-product-to-cart : made_for h c PRODUCT_TO_CART ≤ 0
  few-product-to-cart = as_none PRODUCT_TO_CART product_node (omega arith) none_to_cart

  pub few-product-to-stock : made_for h c PRODUCT_TO_STOCK ≤ 0
  few-product-to-stock = as_none PRODUCT_TO_STOCK product_node (omega arith) none_to_stock

  pub few-shipment-to-customer : made_for h c SHIPMENT_TO_CUSTOMER ≤ 0
  few-shipment-to-customer = as_none SHIPMENT_TO_CUSTOMER shipment_node (omega arith) none_to_customer

  pub few-cart-to-stock : made_for h c CART_TO_STOCK ≤ 1
  few-cart-to-stock = omega (arith, as_kind CART_TO_STOCK cart_node (omega arith) reserves reserves_on, (reserves-caused h lawful c).once)

  pub few-order-to-payment : made_for h c ORDER_TO_PAYMENT ≤ 1
  few-order-to-payment = omega (arith, as_kind ORDER_TO_PAYMENT order_node (omega arith) invoices invoices_to_payment, (invoices-caused h lawful c).once_to_payment)

  pub few-order-to-seller : made_for h c ORDER_TO_SELLER ≤ 1
  few-order-to-seller = omega (arith, as_kind ORDER_TO_SELLER order_node (omega arith) invoices invoices_to_seller, (invoices-caused h lawful c).once_to_seller)

  pub few-order-to-cart : made_for h c ORDER_TO_CART ≤ 1
  few-order-to-cart = omega (arith, as_kind ORDER_TO_CART order_node (omega arith) ends ends_on, (endings-caused h lawful c).once)

  pub few-payment-to-stock : made_for h c PAYMENT_TO_STOCK ≤ 1
  few-payment-to-stock = omega (arith, as_kind PAYMENT_TO_STOCK payment_node (omega arith) settles settles_to_stock, (payments-caused h lawful c).once_to_stock)

  pub few-payment-to-order : made_for h c PAYMENT_TO_ORDER ≤ 1
  few-payment-to-order = omega (arith, as_kind PAYMENT_TO_ORDER payment_node (omega arith) settles settles_to_order, (payments-caused h lawful c).once_to_order)

  pub few-payment-to-shipment : made_for h c PAYMENT_TO_SHIPMENT ≤ 1
  few-payment-to-shipment = omega (arith, as_kind PAYMENT_TO_SHIPMENT payment_node (omega arith) settles settles_to_shipment, (payments-caused h lawful c).once_to_shipment)

  pub few-payment-to-customer : made_for h c PAYMENT_TO_CUSTOMER ≤ 1
  few-payment-to-customer = omega (arith, as_kind PAYMENT_TO_CUSTOMER payment_node (omega arith) settles settles_to_customer, (payments-caused h lawful c).once_to_customer)

  pub few-payment-to-seller : made_for h c PAYMENT_TO_SELLER ≤ 1
  few-payment-to-seller = omega (arith, as_kind PAYMENT_TO_SELLER payment_node (omega arith) settles settles_to_seller, (payments-caused h lawful c).once_to_seller)

  pub few-shipment-to-order : made_for h c SHIPMENT_TO_ORDER ≤ 1
  few-shipment-to-order = omega (arith, as_kind SHIPMENT_TO_ORDER shipment_node (omega arith) ships ships_to_order, (shipments-caused h lawful c).once_to_order)

  pub few-shipment-to-seller : made_for h c SHIPMENT_TO_SELLER ≤ 1
  few-shipment-to-seller = omega (arith, as_kind SHIPMENT_TO_SELLER shipment_node (omega arith) ships ships_to_seller, (shipments-caused h lawful c).once_to_seller)
