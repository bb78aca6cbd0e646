-- How shipments are made: to sellers and to orders, once, in the block of the Confirmed; orders and sellers took the payment before.
use Rattle.std.proofs.Common.{◌≡◌, ℕ, ◌<◌, ◌≤◌, length, not, true, List, [], ◌∷◌, count_by, refl, ap, sym, ◌∙◌, subst, arith}
use Rattle.market_amounts.specs.declared.keys.RequestId.{RequestId}
use Rattle.market_events.specs.declared.bodies.Body.{Body}
use Rattle.market_events.specs.declared.bodies.Body.TheVariants as body
use Rattle.market_events.specs.declared.bodies.Item.{Item}
use Rattle.market_events.specs.declared.bodies.PricedLine.{PricedLine}
use Rattle.market_events.specs.declared.events.Event.{Event}
use Rattle.market_events.specs.declared.links.Link.{Link}
use Rattle.market_events.specs.declared.links.TheConstants.{PAYMENT_TO_ORDER, PAYMENT_TO_SHIPMENT, PAYMENT_TO_SELLER, SHIPMENT_TO_ORDER, SHIPMENT_TO_SELLER}
use Rattle.market_events.specs.declared.requests.Ask.{Ask}
use Rattle.market_events.specs.declared.requests.Ask.TheVariants as ask
use Rattle.market_events.specs.Links.{receiver_of, order_node, shipment_node, seller_node}
use Rattle.market_events.specs.Orders.{is_taken, ships}
use Rattle.market_events.specs.declared.roles.Role.{Role}
use Rattle.market_events.specs.Services.{role_fits}
use Rattle.market_events.specs.Shipments.{ShipmentSums, shipment_sums, shipment_asked, shipment_rows, deliver_rows, delivered_of, oldest_of}
use Rattle.market_events.specs.Stocks.{confirms}
use Rattle.market_events.proofs.Values.Lists.{and_both}
use Rattle.market_events.proofs.Values.Same.{same_id-true, same_id-self}
use Rattle.market_events.proofs.Steps.Shipments.{answers-shipment}
use Rattle.market_history.specs.Blocks.{services}
use Rattle.market_history.specs.Histories.{Histories}
use Rattle.market_history.specs.Lawful.{IsLawful}
use Rattle.market_laws.specs.Causes.{HasTaken, IsCausedBy, MakesJust, on_each, ShipmentsHaveCauses, shipment_links}
use Rattle.market_laws.specs.Cuts.{steps_at, TookAt, MadeAt}
use Rattle.market_laws.specs.Runs.{Member}
use Rattle.market_laws.proofs.Causes.Blocks.{due-here, made-few, not-among, same-body, makes-these, among-answers, caused-by, made-by, has-taken, made-at, took-at}
use Rattle.market_laws.proofs.Origins.Causes.{cause}
use Rattle.market_laws.proofs.Origins.Once.{TookBefore, taken-before-any}
use Rattle.market_laws.proofs.Fits.KindsOnLinks.{came, ComesBy}
use Rattle.market_laws.proofs.Fits.Orders.{ships-few}
use Rattle.market_laws.proofs.Runs.Shipments.{shipments-to-seller}

-- a payment of the checkout
abbrev IsPaymentOf : RequestId → Body → Type 0
IsPaymentOf c b = (customer : ℕ) × (lines : List PricedLine) × (total : ℕ) × (b ≡ body.Confirmed c customer lines total)

-- shipments ship nothing for a request
asked_ships : (s : ShipmentSums) (id : RequestId) (a : Ask) (link : Link) (c : RequestId) → Member (link, body.Shipped c) (shipment_asked s id a) → ⊥
asked_ships s id ask.Deliver link c here = by (delivered_of s.waiting) here
  where
    by : (items : List Item) → Member (link, body.Shipped c) (deliver_rows id items (length (oldest_of s.waiting))) → ⊥
    by [] here = not-among (ships c) (deliver_rows id [] (length (oldest_of s.waiting))) (link, body.Shipped c) refl here (same_id-self c)
    by (i ∷ more) here = not-among (ships c) (deliver_rows id (i ∷ more) (length (oldest_of s.waiting))) (link, body.Shipped c) refl here (same_id-self c)
asked_ships s id other link c here = here

-- but for a payment alone
shipped_for : (s : ShipmentSums) (b : Body) (link : Link) (c : RequestId) → Member (link, body.Shipped c) (shipment_rows s b) → IsPaymentOf c b
shipped_for s (body.Asked request) link c here = absurd (asked_ships s request.id request.ask link c here)
shipped_for s (body.Confirmed id buyer ls sum) link c here =
    let same : body.Shipped c ≡ body.Shipped id = same-body shipment_links (body.Shipped id) (link, body.Shipped c) here in
    let id_is : id ≡ c = cc in
    (buyer, ls, sum, ap (λ i. body.Confirmed i buyer ls sum) id_is)
shipped_for s other link c here = absurd here

module _ (h : Histories) (lawful : IsLawful h) (c : RequestId) where
  -- the block of what was shipped
  abbrev Paid : (n : ℕ) (made : Event) → MadeAt h n made → Type 0
  Paid n made m = (customer : ℕ) × (lines : List PricedLine) × (total : ℕ) × IsCausedBy h n made m PAYMENT_TO_SHIPMENT (body.Confirmed c customer lines total)

  shipped : (made : Event) (m : MadeAt h shipment_node made) → made.body ≡ body.Shipped c → Paid shipment_node made m
  shipped made m is =
      let o = cause h shipment_node made lawful (omega arith) m in
      let steps = steps_at shipment_node o.took.before in
      let here = subst (λ l. Member (made.link, body.Shipped c) l) (answers-shipment steps o.event.link o.event.body) (among-answers h shipment_node made m o (body.Shipped c) is) in
      let for = shipped_for (shipment_sums steps) o.event.body made.link c here in
      let b = body.Confirmed c for.0 for.1 for.2 in
      (for.0, for.1, for.2, caused-by h shipment_node made m o PAYMENT_TO_SHIPMENT b (came h shipment_node o.event o.took b for.3 (omega arith) tt PAYMENT_TO_SHIPMENT refl) for.3)

  makes_shipped : (event : Event) (customer : ℕ) (lines : List PricedLine) (total : ℕ) → event.body ≡ body.Confirmed c customer lines total → (t : TookAt h shipment_node event)
      → MakesJust h shipment_node event t (on_each shipment_links (body.Shipped c))
  makes_shipped event customer lines total is t =
      let steps = steps_at shipment_node t.before in
      makes-these h lawful shipment_node (omega arith) event t (on_each shipment_links (body.Shipped c)) (answers-shipment steps event.link event.body ∙ ap (shipment_rows (shipment_sums steps)) is)

  -- a payment that was taken before
  payment_before : (s : ℕ) (event : Event) (t : TookAt h s event) → s < services → (link : Link)
      → ((customer : ℕ) (lines : List PricedLine) (total : ℕ) → ComesBy s link (body.Confirmed c customer lines total)) → is_taken confirms (steps_at s t.before) c ≡ true
      → (customer : ℕ) × (lines : List PricedLine) × (total : ℕ) × HasTaken t.before link (body.Confirmed c customer lines total)
  payment_before s event t small link comes any =
      let found = taken-before-any h s event lawful t (confirms c) any in by found.0 found.1 found.2
    where
      by : (b : Body) → TookBefore h s t.clock b → confirms c b ≡ true → (customer : ℕ) × (lines : List PricedLine) × (total : ℕ) × HasTaken t.before link (body.Confirmed c customer lines total)
      by (body.Confirmed id buyer ls sum) u passes = (
        buyer,
        ls,
        sum,
        has-taken h s event lawful t (body.Confirmed c buyer ls sum) (subst (λ i. TookBefore h s t.clock (body.Confirmed i buyer ls sum)) (same_id-true id c passes) u) small tt link (comes buyer ls sum),
      )
      by other u passes = let no : ⊥ = cc in absurd no

  -- what orders and sellers took before a shipment
  order_before : (event : Event) (t : TookAt h order_node event) → event.body ≡ body.Shipped c
      → (customer : ℕ) × (lines : List PricedLine) × (total : ℕ) × HasTaken t.before PAYMENT_TO_ORDER (body.Confirmed c customer lines total)
  order_before event t is =
      let steps = steps_at order_node t.before in
      let due : role_fits Role.Order steps (body.Shipped c) ≡ true = subst (λ b. role_fits Role.Order steps b ≡ true) is (due-here h lawful order_node (omega arith) event t) in
      payment_before order_node event t (omega arith) PAYMENT_TO_ORDER (λ customer lines total. refl) (and_both (is_taken confirms steps c) (not (is_taken ships steps c)) due).0

  seller_before : (event : Event) (t : TookAt h seller_node event) → event.body ≡ body.Shipped c
      → (customer : ℕ) × (lines : List PricedLine) × (total : ℕ) × HasTaken t.before PAYMENT_TO_SELLER (body.Confirmed c customer lines total)
  seller_before event t is =
      let steps = steps_at seller_node t.before in
      let due : role_fits Role.Seller steps (body.Shipped c) ≡ true = subst (λ b. role_fits Role.Seller steps b ≡ true) is (due-here h lawful seller_node (omega arith) event t) in
      payment_before seller_node event t (omega arith) PAYMENT_TO_SELLER (λ customer lines total. refl) (and_both (is_taken confirms steps c) (not (is_taken ships steps c)) due).0

  -- how shipments are made
  pub shipments-caused : ShipmentsHaveCauses h c
  shipments-caused = record {
    cause = λ n made m is.
        let by = made-by h lawful n made m (body.Shipped c) is tt shipment_node shipment_links refl in
        (by.0, made-at h made (λ n m. Paid n made m) shipment_node n by.1 (λ m. shipped made m is) m);
    makes = λ n event t customer lines total on is.
        took-at h event (λ n t. MakesJust h n event t (on_each shipment_links (body.Shipped c))) shipment_node n (sym (ap receiver_of on) ∙ t.ready.1) (makes_shipped event customer lines total is) t;
    once_to_seller = made-few h lawful shipment_node (omega arith) SHIPMENT_TO_SELLER (ships c) (λ steps run. subst (λ bs. count_by (ships c) bs ≤ 1) (shipments-to-seller steps run) (ships-few c steps run));
    once_to_order = made-few h lawful shipment_node (omega arith) SHIPMENT_TO_ORDER (ships c) (ships-few c);
    order_before = order_before;
    seller_before = seller_before;
  }
