-- With its request a checkout makes at most 14 events: of the links between lanes and services, one each way has one.
use Rattle.std.proofs.Common.{◌≡◌, ℕ, zero, suc, ◌+◌, ◌<◌, ◌≤◌, ◌==◌, Bool, true, false, cond, List, [], ◌∷◌, ◌++◌, eqb-true, refl, ap, sym, ◌∙◌, subst, arith, nat_le}
use Rattle.std.proofs.lemmas.Bool.Decides.{nat_tests}
use Rattle.std.specs.List.{flat_map, sum_by, range_with_len}
use Rattle.std.proofs.lemmas.Bool.{eqb-false}
use Rattle.std.proofs.lemmas.List.Sums.{sum_by-cons}
use Rattle.market_amounts.specs.declared.keys.RequestId.{RequestId}
use Rattle.market_events.specs.declared.bodies.Body.{Body}
use Rattle.market_events.specs.declared.bodies.Body.TheVariants as body
use Rattle.market_events.specs.declared.lanes.TheConstants.{LANES}
use Rattle.market_events.specs.declared.links.Link.{Link}
use Rattle.market_events.specs.declared.links.Link.TheVariants.{Asked, Told}
use Rattle.market_events.specs.Carried.{carries}
use Rattle.market_events.specs.Links.{cart_node, lane_node, service_by_ask, product_node, stock_node, order_node, payment_node, shipment_node, customer_node, seller_node}
use Rattle.market_events.specs.Requests.{lane_of}
use Rattle.market_events.specs.Services.{asks}
use Rattle.market_events.specs.declared.links.TheConstants.{PRODUCT_TO_CART, PRODUCT_TO_STOCK, CART_TO_STOCK}
use Rattle.market_events.specs.declared.links.TheConstants.{STOCK_TO_CART, STOCK_TO_ORDER, ORDER_TO_PAYMENT}
use Rattle.market_events.specs.declared.links.TheConstants.{ORDER_TO_SELLER, ORDER_TO_CART, PAYMENT_TO_STOCK}
use Rattle.market_events.specs.declared.links.TheConstants.{PAYMENT_TO_ORDER, PAYMENT_TO_SHIPMENT}
use Rattle.market_events.specs.declared.links.TheConstants.{PAYMENT_TO_CUSTOMER, PAYMENT_TO_SELLER}
use Rattle.market_events.specs.declared.links.TheConstants.{SHIPMENT_TO_ORDER, SHIPMENT_TO_SELLER}
use Rattle.market_events.specs.declared.links.TheConstants.{SHIPMENT_TO_CUSTOMER}
use Rattle.market_events.specs.declared.roles.TheConstants.{SERVICES}
use Rattle.market_events.proofs.Values.Same.{same_id-true}
use Rattle.market_history.specs.Checkouts.{is_kept_checkout}
use Rattle.market_history.specs.Histories.{Histories, journal_at}
use Rattle.market_history.specs.Journals.{AsksOwn}
use Rattle.market_history.specs.Lawful.{IsLawful}
use Rattle.market_history.specs.Once.{kept_by, requests_given}
use Rattle.market_history.specs.Outstanding.{service_links, lane_links, all_links}
use Rattle.market_history.proofs.GrowSent.{bodies_on}
use Rattle.market_laws.specs.Causes.{made_for, all_made_for, names}
use Rattle.market_laws.specs.Runs.{Member, tells}
use Rattle.market_laws.proofs.Causes.FewOnLinks.{MadeOn, made-of-member, count-members, count-never, few-product-to-cart, few-product-to-stock, few-cart-to-stock, few-from-stock, few-order-to-payment, few-order-to-seller, few-order-to-cart, few-payment-to-stock, few-payment-to-order, few-payment-to-shipment, few-payment-to-customer, few-payment-to-seller, few-shipment-to-order, few-shipment-to-seller, few-shipment-to-customer}
use Rattle.market_laws.proofs.Causes.Tellings.{asks-for, tellings-caused}
use Rattle.market_laws.proofs.Origins.Senders.{made-as}
use Rattle.market_laws.proofs.Bounds.Sums.{all_of_range}
use Rattle.market_laws.proofs.Growth.Outs.{lane_of-small}
use Rattle.market_laws.proofs.Fits.AskedByLanes.{asked-view, asked-given, asked-few}
use Rattle.market_laws.proofs.Growth.Takers.{grown_at}

-- a sum from the right
total : {A : Type 0} → (A → ℕ) → List A → ℕ
total f [] = 0
total f (x ∷ xs) = f x + total f xs

total-is : {A : Type 0} (f : A → ℕ) (xs : List A) → sum_by f xs ≡ total f xs
unfolding total
total-is f [] = refl
total-is f (x ∷ xs) = sum_by-cons f x xs ∙ ap (λ k. f x + k) (total-is f xs)

total-append : {A : Type 0} (f : A → ℕ) (xs ys : List A) → total f (xs ++ ys) ≡ total f xs + total f ys
unfolding total
total-append f [] ys = omega arith
total-append f (x ∷ xs) ys = omega (arith, total-append f xs ys)

total-parts : {A B : Type 0} (f : B → ℕ) (g : A → List B) (xs : List A) → total f (flat_map g xs) ≡ total (λ x. total f (g x)) xs
unfolding total
total-parts f g [] = refl
total-parts f g (x ∷ xs) = omega (arith, total-append f (g x) (flat_map g xs), total-parts f g xs)

total-le : (f g : ℕ → ℕ) (a n : ℕ) → a + n ≤ LANES → ((i : ℕ) → i < LANES → f i ≤ g i) → total f (range_with_len a n) ≤ total g (range_with_len a n)
unfolding total
total-le f g a zero small le = omega arith
total-le f g a (suc n) small le = omega (arith, le a (omega arith), total-le f g (a + 1) n (omega arith) le)

-- a term of one lane alone
one_lane : (lane : ℕ) → lane < LANES → total (λ i. cond (i == lane) 2 0) (range_with_len 0 LANES) ≤ 2
unfolding total
one_lane lane lt =
    let test : nat_le (total (λ i. cond (i == lane) 2 0) (range_with_len 0 LANES)) 2 ≡ true =
    all_of_range (λ lane. nat_le (total (λ i. cond (i == lane) 2 0) (range_with_len 0 LANES)) 2) 0 LANES refl lane (omega arith) lt in
    grind (arith, nat_tests)

-- the links of a lane, and those between services
lane_parts : (f : Link → ℕ) (lane : ℕ) → total f (lane_links lane)
    ≡ f (Asked lane cart_node) + (f (Asked lane product_node) + (f (Asked lane stock_node) + (f (Asked lane order_node) + (f (Asked lane payment_node) + (f (Asked lane shipment_node) + (f (Asked lane customer_node) + (f (Asked lane seller_node)
    + (f (Told cart_node lane) + (f (Told product_node lane) + (f (Told stock_node lane) + (f (Told order_node lane) + (f (Told payment_node lane) + (f (Told shipment_node lane) + (f (Told customer_node lane) + (f (Told seller_node lane) + 0)))))))))))))))
unfolding total
lane_parts f lane = refl

service_parts : (f : Link → ℕ) → total f service_links
    ≡ f PRODUCT_TO_CART + (f PRODUCT_TO_STOCK + (f CART_TO_STOCK + (f STOCK_TO_CART + (f STOCK_TO_ORDER + (f ORDER_TO_PAYMENT + (f ORDER_TO_SELLER + (f ORDER_TO_CART
    + (f PAYMENT_TO_STOCK + (f PAYMENT_TO_ORDER + (f PAYMENT_TO_SHIPMENT + (f PAYMENT_TO_CUSTOMER + (f PAYMENT_TO_SELLER + (f SHIPMENT_TO_ORDER + (f SHIPMENT_TO_SELLER + (f SHIPMENT_TO_CUSTOMER + 0)))))))))))))))
unfolding total
service_parts f = refl

-- all links
over_all : (f : Link → ℕ) → sum_by f all_links ≡ total f service_links + total (λ lane. total f (lane_links lane)) (range_with_len 0 LANES)
over_all f =
    total-is f all_links ∙ total-append f service_links (flat_map lane_links (range_with_len 0 LANES)) ∙ ap (λ k. total f service_links + k) (total-parts f lane_links (range_with_len 0 LANES))

-- what the parts come to
at_most : (whole one other bound : ℕ) → whole ≡ one + other → one ≤ 12 → other ≤ bound → bound ≤ 2 → whole ≤ 14
at_most whole one other bound all first second third = omega arith

-- what names a checkout is its request, or its reply
asks_on : (lane s : ℕ) (c : RequestId) (b : Body) → carries (Asked lane s) b ≡ true → names c b ≡ true → asks c b ≡ true
asks_on lane s c (body.Asked request) carried named = named
asks_on lane s c other carried named = cc

module _ (h : Histories) (lawful : IsLawful h) (c : RequestId) (kept : is_kept_checkout h c ≡ true) where
  -- the request comes from the lane of its id, for the cart
  asked_from : (lane s : ℕ) → lane < LANES → (b : Body) → Member b (bodies_on (Asked lane s) (journal_at h (lane_node lane))) → names c b ≡ true → (lane ≡ lane_of c) × (s ≡ cart_node)
  asked_from lane s lt b here named =
      let link = Asked lane s in
      let m = made-of-member h lawful (lane_node lane) (omega arith) link b here in
      let as_made = made-as h lawful (lane_node lane) m.event m.made in
      let carried = subst (λ l. carries l b ≡ true) m.on (subst (λ x. carries m.event.link x ≡ true) m.body_is as_made.carried) in
      let own = subst (λ l. AsksOwn l b) m.on (subst (λ x. AsksOwn m.event.link x) m.body_is as_made.own) in
      by b carried own here named
    where
      by : (b : Body) → carries (Asked lane s) b ≡ true → AsksOwn (Asked lane s) b → Member b (bodies_on (Asked lane s) (journal_at h (lane_node lane))) → names c b ≡ true → (lane ≡ lane_of c) × (s ≡ cart_node)
      by (body.Asked request) carried own here named =
          let same : request.id ≡ c = same_id-true request.id c named in
          let node = lane_node lane in
          let given = asked-given (Asked lane s) request (requests_given (journal_at h node)) (subst (λ l. Member (body.Asked request) l) (asked-view node (omega arith) (Asked lane s) (grown_at h node lawful (omega arith))) here) in
          let at : lane ≡ lane_of c = sym own ∙ ap lane_of same in
          let asks = asks-for h lawful c kept request same (subst (λ i. Member request (kept_by h i)) at given) in
          (at, sym (eqb-true (service_by_ask request.ask) s carried) ∙ ap service_by_ask asks.1)
      by other carried own here named = let no : ⊥ = cc in absurd no

  asked_none : (lane s : ℕ) → lane < LANES → (lane ≡ lane_of c → s ≡ cart_node → ⊥) → made_for h c (Asked lane s) ≤ 0
  asked_none lane s lt differs =
      let bs = bodies_on (Asked lane s) (journal_at h (lane_node lane)) in
      omega (arith, count-members (names c) (λ b. false) bs (λ b here named. let at = asked_from lane s lt b here named in absurd (differs at.0 at.1)), count-never bs)

  asked_one : (lane s : ℕ) → lane < LANES → made_for h c (Asked lane s) ≤ 1
  asked_one lane s lt =
      let node = lane_node lane in
      let bs = bodies_on (Asked lane s) (journal_at h node) in
      omega (arith, count-members (names c) (asks c) bs each, asked-few node (omega arith) (Asked lane s) (grown_at h node lawful (omega arith)) c)
    where
      each : (b : Body) → Member b (bodies_on (Asked lane s) (journal_at h (lane_node lane))) → names c b ≡ true → asks c b ≡ true
      each b here named =
          let m = made-of-member h lawful (lane_node lane) (omega arith) (Asked lane s) b here in
          let as_made = made-as h lawful (lane_node lane) m.event m.made in
          asks_on lane s c b (subst (λ l. carries l b ≡ true) m.on (subst (λ x. carries m.event.link x ≡ true) m.body_is as_made.carried)) named

  -- the reply goes from the cart to that lane
  told_from : (s lane : ℕ) → s < SERVICES → (b : Body) → Member b (bodies_on (Told s lane) (journal_at h s)) → names c b ≡ true → (Told s lane ≡ Told cart_node (lane_of c)) × (tells c b ≡ true)
  told_from s lane lt b here named =
      let m = made-of-member h lawful s (omega arith) (Told s lane) b here in
      let as_made = made-as h lawful s m.event m.made in
      let carried = subst (λ l. carries l b ≡ true) m.on (subst (λ x. carries m.event.link x ≡ true) m.body_is as_made.carried) in
      by b m carried named
    where
      by : (b : Body) → MadeOn h s (Told s lane) b → carries (Told s lane) b ≡ true → names c b ≡ true → (Told s lane ≡ Told cart_node (lane_of c)) × (tells c b ≡ true)
      by (body.Told id r) m carried named =
          let body_is = m.body_is ∙ ap (λ i. body.Told i r) (same_id-true id c named) in
          (sym m.on ∙ ((tellings-caused h lawful c kept).cause s m.event m.made r body_is).0, named)
      by other m carried named = let no : ⊥ = cc in absurd no

  told_none : (s lane : ℕ) → s < SERVICES → (lane ≡ lane_of c → s ≡ cart_node → ⊥) → made_for h c (Told s lane) ≤ 0
  told_none s lane lt differs =
      let bs = bodies_on (Told s lane) (journal_at h s) in
      omega (arith, count-members (names c) (λ b. false) bs each, count-never bs)
    where
      each : (b : Body) → Member b (bodies_on (Told s lane) (journal_at h s)) → names c b ≡ true → false ≡ true
      each b here named =
          let same = (told_from s lane lt b here named).0 in
          let at : lane ≡ lane_of c = cc in
          let cart : s ≡ cart_node = cc in
          absurd (differs at cart)

  told_one : (lane : ℕ) → lane ≡ lane_of c → made_for h c (Told cart_node lane) ≤ 1
  told_one lane at =
      subst (λ i. made_for h c (Told cart_node i) ≤ 1) (sym at)
      (let bs = bodies_on (Told cart_node (lane_of c)) (journal_at h cart_node) in
      omega (arith, count-members (names c) (tells c) bs (λ b here named. (told_from cart_node (lane_of c) (omega arith) b here named).1), (tellings-caused h lawful c kept).once))

  -- the links of a lane
  lane_few : (lane : ℕ) → lane < LANES → total (made_for h c) (lane_links lane) ≤ cond (lane == lane_of c) 2 0
  lane_few lane lt =
      let f = made_for h c in
      let parts = lane_parts f lane in
      let asked : (s : ℕ) → 1 ≤ s → f (Asked lane s) ≤ 0 = (λ s low. asked_none lane s lt (λ at cart. omega arith)) in
      let told : (s : ℕ) → 1 ≤ s → s < SERVICES → f (Told s lane) ≤ 0 = (λ s low small. told_none s lane small (λ at cart. omega arith)) in
      let rest : total f (lane_links lane) ≤ f (Asked lane cart_node) + f (Told cart_node lane) =
      omega (
        arith,
        parts,
        asked product_node (omega arith),
        asked stock_node (omega arith),
        asked order_node (omega arith),
        asked payment_node (omega arith),
        asked shipment_node (omega arith),
        asked customer_node (omega arith),
        asked seller_node (omega arith),
        told product_node (omega arith) (omega arith),
        told stock_node (omega arith) (omega arith),
        told order_node (omega arith) (omega arith),
        told payment_node (omega arith) (omega arith),
        told shipment_node (omega arith) (omega arith),
        told customer_node (omega arith) (omega arith),
        told seller_node (omega arith) (omega arith),
      ) in
      by (lane == lane_of c) refl rest
    where
      by : (test : Bool) → (lane == lane_of c) ≡ test → total (made_for h c) (lane_links lane) ≤ made_for h c (Asked lane cart_node) + made_for h c (Told cart_node lane) → total (made_for h c) (lane_links lane) ≤ cond test 2 0
      by true is rest = let at = eqb-true lane (lane_of c) is in omega (arith, rest, asked_one lane cart_node lt, told_one lane at)
      by false is rest =
          let differs = eqb-false lane (lane_of c) is in
          omega (arith, rest, asked_none lane cart_node lt (λ at cart. differs at), told_none cart_node lane (omega arith) (λ at cart. differs at))

  services_few : total (made_for h c) service_links ≤ 12
  services_few =
      let f = made_for h c in
      let parts = service_parts f in
      omega (
        arith,
        parts,
        few-product-to-cart h lawful c,
        few-product-to-stock h lawful c,
        few-cart-to-stock h lawful c,
        few-from-stock h lawful c,
        few-order-to-payment h lawful c,
        few-order-to-seller h lawful c,
        few-order-to-cart h lawful c,
        few-payment-to-stock h lawful c,
        few-payment-to-order h lawful c,
        few-payment-to-shipment h lawful c,
        few-payment-to-customer h lawful c,
        few-payment-to-seller h lawful c,
        few-shipment-to-order h lawful c,
        few-shipment-to-seller h lawful c,
        few-shipment-to-customer h lawful c,
      )

  all_made : all_made_for h c ≡ total (made_for h c) service_links + total (λ lane. total (made_for h c) (lane_links lane)) (range_with_len 0 LANES)
  unfolding all_made_for
  all_made = over_all (made_for h c)

  -- on all links
  pub few-caused : all_made_for h c ≤ 14
  few-caused =
      at_most (all_made_for h c) (total (made_for h c) service_links) (total (λ lane. total (made_for h c) (lane_links lane)) (range_with_len 0 LANES)) (total (λ lane. cond (lane == lane_of c) 2 0) (range_with_len 0 LANES)) all_made
      services_few (total-le (λ lane. total (made_for h c) (lane_links lane)) (λ lane. cond (lane == lane_of c) 2 0) 0 LANES (omega arith) lane_few) (one_lane (lane_of c) (lane_of-small c))
