-- How deliveries are made: to customers, sellers and orders, each line once, in the block of a request to deliver that shipments take
-- after the payment; orders and sellers took the shipment before.
use Rattle.std.proofs.Common.{◌≡◌, ℕ, ◌<◌, ◌≤◌, ◌&&◌, true, length, List, [], ◌∷◌, ◌++◌, ◌⊎◌, count_by, inl, inr, refl, ap, sym, ◌∙◌, subst, arith}
use Rattle.std.specs.List.{flat_map, list_any, list_all}
use Rattle.market_amounts.specs.declared.keys.ProductKey.{ProductKey}
use Rattle.market_amounts.specs.declared.keys.RequestId.{RequestId}
use Rattle.market_events.specs.declared.bodies.Body.{Body}
use Rattle.market_events.specs.declared.bodies.Body.TheVariants as body
use Rattle.market_events.specs.declared.bodies.Item.{Item}
use Rattle.market_events.specs.declared.events.Event.{Event}
use Rattle.market_events.specs.declared.links.Link.{Link}
use Rattle.market_events.specs.declared.links.Link.TheVariants.{Asked}
use Rattle.market_events.specs.declared.links.TheConstants.{SHIPMENT_TO_ORDER, SHIPMENT_TO_SELLER, PAYMENT_TO_SHIPMENT}
use Rattle.market_events.specs.declared.requests.Ask.{Ask}
use Rattle.market_events.specs.declared.requests.Ask.TheVariants as ask
use Rattle.market_events.specs.declared.requests.Request.{Request}
use Rattle.market_events.specs.declared.replies.Reply.TheVariants as reply
use Rattle.market_events.specs.Carried.{carries}
use Rattle.market_events.specs.Links.{order_node, shipment_node, seller_node}
use Rattle.market_events.specs.Orders.{checkouts_taken, is_item_of, is_of, is_taken, items_in, items_taken, ships}
use Rattle.market_events.specs.Requests.{lane_of}
use Rattle.market_events.specs.Sellers.{invoice_lines}
use Rattle.market_events.specs.declared.roles.Role.{Role}
use Rattle.market_events.specs.Services.{IsRunOf, answers, is_line_of, items_apart, order_item_fits, role_fits, seller_item_fits}
use Rattle.market_events.specs.Shipments.{ShipmentSums, shipment_sums, shipment_asked, shipment_rows, deliver_rows, delivered_of, oldest_of}
use Rattle.market_events.specs.Standing.{step_of}
use Rattle.market_events.specs.Steps.{Step, made_on, taken_bodies, told}
use Rattle.market_events.specs.Stocks.{Reservation}
use Rattle.market_events.proofs.Values.Lists.{and_both}
use Rattle.market_events.proofs.Values.Same.{same_id-true}
use Rattle.market_events.proofs.Steps.Shipments.{answers-shipment}
use Rattle.market_events.proofs.Steps.Taken.{taken_bodies-push}
use Rattle.market_history.specs.Blocks.{role_at, services}
use Rattle.market_history.specs.Checkouts.{bodies_of}
use Rattle.market_history.specs.Histories.{Histories, journal_at}
use Rattle.market_history.specs.Lawful.{IsLawful}
use Rattle.market_history.specs.Sent.{sent}
use Rattle.market_laws.specs.Causes.{HasTaken, IsOnOneOf, DeliveryIsCaused, MakesJust, on_each, delivery_asked, DeliveriesHaveCauses, delivery_links}
use Rattle.market_laws.specs.Cuts.{steps_at, TookAt, MadeAt}
use Rattle.market_laws.specs.Runs.{Member, is_delivery, lines_apart, IsPaidFor}
use Rattle.market_laws.proofs.Causes.Blocks.{due-here, not-among, among-answers, caused-by, makes-these, made-by, has-taken, made-at, took-at}
use Rattle.market_laws.proofs.Causes.Counts.{apart-few}
use Rattle.market_laws.proofs.Origins.Causes.{Cause, cause, cause_steps, cause-run, cause-made-on}
use Rattle.market_laws.proofs.Origins.Made.{steps-run, whole}
use Rattle.market_laws.proofs.Origins.Once.{TookBefore, taken-before, taken-before-any}
use Rattle.market_laws.proofs.Fits.Asked.{asked-for, asked-on}
use Rattle.market_laws.proofs.Fits.KindsOnLinks.{ComesBy}
use Rattle.market_laws.proofs.Fits.CopyMembers.{member_of_all}
use Rattle.market_laws.proofs.Fits.ItemsApart.{items_once-order, items_once-seller}
use Rattle.market_laws.proofs.Runs.Apart.{items-once}
use Rattle.market_laws.proofs.Runs.Counts.{member-either, member-filter}
use Rattle.market_laws.proofs.Runs.Shipments.{deliveries-to-customer, delivered-paid, shipments-to-seller}

-- shipments deliver for a request to deliver alone
asked_delivers : (s : ShipmentSums) (id : RequestId) (a : Ask) (link : Link) (items : List Item) → Member (link, body.Delivered items) (shipment_asked s id a) → body.Asked (record { id = id; ask = a }) ≡ delivery_asked id
asked_delivers s id ask.Deliver link items here = refl
asked_delivers s id other link items here = absurd here

delivered_for : (s : ShipmentSums) (b : Body) (link : Link) (items : List Item) → Member (link, body.Delivered items) (shipment_rows s b) → (id : RequestId) × (b ≡ delivery_asked id)
delivered_for s (body.Asked request) link items here = (request.id, asked_delivers s request.id request.ask link items here)
delivered_for s (body.Confirmed id buyer ls sum) link items here =
    absurd (not-among is_delivery (shipment_rows s (body.Confirmed id buyer ls sum)) (link, body.Delivered items) refl here refl)
delivered_for s other link items here = absurd here

-- what they deliver on one of the links they deliver to orders
to_orders : (link : Link) → Member link delivery_links → (steps : List Step) → IsRunOf Role.Shipment steps → (b : Body) → Member b (made_on link steps) → Member b (made_on SHIPMENT_TO_ORDER steps)
to_orders link (inl same) steps run b here =
    member-filter is_delivery b (made_on SHIPMENT_TO_ORDER steps) (subst (λ l. Member b l) (deliveries-to-customer steps run) (subst (λ l. Member b (made_on l steps)) same here))
to_orders link (inr (inl same)) steps run b here = subst (λ l. Member b l) (sym (shipments-to-seller steps run)) (subst (λ l. Member b (made_on l steps)) same here)
to_orders link (inr (inr (inl same))) steps run b here = subst (λ l. Member b (made_on l steps)) same here
to_orders link (inr (inr (inr never))) steps run b here = absurd never

-- and no item twice on any of them
apart_on : (link : Link) → Member link delivery_links → (steps : List Step) → IsRunOf Role.Shipment steps → lines_apart [] (flat_map items_in (made_on link steps)) ≡ true
apart_on link (inl same) steps run = subst (λ l. lines_apart [] (flat_map items_in (made_on l steps)) ≡ true) (sym same) (items-once steps run)
apart_on link (inr (inl same)) steps run = subst (λ l. lines_apart [] (flat_map items_in (made_on l steps)) ≡ true) (sym same) (items_once-seller steps run)
apart_on link (inr (inr (inl same))) steps run = subst (λ l. lines_apart [] (flat_map items_in (made_on l steps)) ≡ true) (sym same) (items_once-order steps run)
apart_on link (inr (inr (inr never))) steps run = absurd never

module _ (h : Histories) (lawful : IsLawful h) where
  module _ (made : Event) (m : MadeAt h shipment_node made) (items : List Item) (item : Item) (is : made.body ≡ body.Delivered items) (here : Member item items) where
    abbrev o : Cause h shipment_node made m
    o = cause h shipment_node made lawful (omega arith) m

    -- the request to deliver
    asked_for : (id : RequestId) × (o.event.body ≡ delivery_asked id)
    asked_for =
        let steps = steps_at shipment_node o.took.before in
        delivered_for (shipment_sums steps) o.event.body made.link items
        (subst (λ l. Member (made.link, body.Delivered items) l) (answers-shipment steps o.event.link o.event.body) (among-answers h shipment_node made m o (body.Delivered items) is))

    -- the payment of the item
    paid_for : IsOnOneOf delivery_links made.link → IsPaidFor (cause_steps h shipment_node made m o) item
    paid_for on =
        let steps = cause_steps h shipment_node made m o in
        let run = cause-run h shipment_node made m o in
        let there = cause-made-on h shipment_node made m o made.link refl in
        delivered-paid steps run items (subst (λ b. Member b (made_on SHIPMENT_TO_ORDER steps)) is (to_orders made.link on steps run made.body there)) item here

    -- it was taken before the request
    paid_then : (b : Body) → (b ≡ o.event.body → ⊥) → Member b (taken_bodies (cause_steps h shipment_node made m o)) → Member b (taken_bodies (steps_at shipment_node o.took.before))
    paid_then b differs there =
        let steps = steps_at shipment_node o.took.before in
        by (member-either b (taken_bodies steps) (o.event.body ∷ []) (subst (λ l. Member b l) (taken_bodies-push steps (step_of (role_at shipment_node) steps o.event.link o.event.body)) there))
      where
        by : Member b (taken_bodies (steps_at shipment_node o.took.before)) ⊎ Member b (o.event.body ∷ []) → Member b (taken_bodies (steps_at shipment_node o.took.before))
        by (inl before) = before
        by (inr (inl same)) = absurd (differs same)
        by (inr (inr never)) = absurd never

    delivered : IsOnOneOf delivery_links made.link → DeliveryIsCaused h shipment_node made m item
    delivered on =
        let for = asked_for in
        let paid = paid_for on in
        let b = body.Confirmed item.checkout item.customer paid.lines paid.total in
        let before = paid_then b (λ same. let both : b ≡ delivery_asked for.0 = same ∙ for.1 in cc) paid.taken in
        record {
          id = for.0;
          cause = caused-by h shipment_node made m o (Asked (lane_of for.0) shipment_node) (delivery_asked for.0) (asked-on h lawful shipment_node o.event o.took (record { id = for.0; ask = ask.Deliver }) for.1) for.1;
          lines = paid.lines;
          total = paid.total;
          line = paid.line;
          paid_before = has-taken h shipment_node o.event lawful o.took b (taken-before h shipment_node o.event lawful o.took b before) (omega arith) tt PAYMENT_TO_SHIPMENT refl;
        }

  -- a shipment that was taken before
  shipment_before : (c : RequestId) (s : ℕ) (event : Event) (t : TookAt h s event) → s < services → (link : Link) → ComesBy s link (body.Shipped c) → is_taken ships (steps_at s t.before) c ≡ true
      → HasTaken t.before link (body.Shipped c)
  shipment_before c s event t small link comes any =
      let found = taken-before-any h s event lawful t (ships c) any in by found.0 found.1 found.2
    where
      by : (b : Body) → TookBefore h s t.clock b → ships c b ≡ true → HasTaken t.before link (body.Shipped c)
      by (body.Shipped id) u passes =
          has-taken h s event lawful t (body.Shipped c) (subst (λ i. TookBefore h s t.clock (body.Shipped i)) (same_id-true id c passes) u) small tt link comes
      by other u passes = let no : ⊥ = cc in absurd no

  -- the block of a request to deliver
  abbrev Delivers : (n : ℕ) (event : Event) → TookAt h n event → RequestId → Type 0
  Delivers n event t id =
      ((items : List Item) × (sellers : ℕ)
      × MakesJust h n event t (on_each delivery_links (body.Delivered items) ++ told shipment_node id (reply.Delivered sellers (length items)) ∷ []))
      ⊎ MakesJust h n event t (told shipment_node id (reply.Delivered 0 0) ∷ [])

  makes_delivered : (event : Event) (id : RequestId) → event.body ≡ delivery_asked id → (t : TookAt h shipment_node event) → Delivers shipment_node event t id
  makes_delivered event id is t =
      let steps = steps_at shipment_node t.before in
      let s = shipment_sums steps in
      by (delivered_of s.waiting) (length (oldest_of s.waiting)) (answers-shipment steps event.link event.body ∙ ap (shipment_rows s) is)
    where
      by : (items : List Item) (sellers : ℕ) → answers (role_at shipment_node) (steps_at shipment_node t.before) event.link event.body ≡ deliver_rows id items sellers → Delivers shipment_node event t id
      by [] sellers rows = inr (makes-these h lawful shipment_node (omega arith) event t (told shipment_node id (reply.Delivered 0 0) ∷ []) rows)
      by (i ∷ more) sellers rows = inl (
        i ∷ more,
        sellers,
        makes-these h lawful shipment_node (omega arith) event t (on_each delivery_links (body.Delivered (i ∷ more)) ++ told shipment_node id (reply.Delivered sellers (length (i ∷ more))) ∷ []) rows,
      )

  -- shipments alone take one
  asked_node : (n : ℕ) (event : Event) (t : TookAt h n event) (id : RequestId) → event.body ≡ delivery_asked id → shipment_node ≡ n
  asked_node n event t id is =
      let request : Request = record { id = id; ask = ask.Deliver } in
      let on = asked-on h lawful n event t request is in
      asked-for (lane_of id) n request (subst (λ b. carries (Asked (lane_of id) n) b ≡ true) is (subst (λ l. carries l event.body ≡ true) on t.ready.2))

  module _ (c : RequestId) where
    order_before : (event : Event) (t : TookAt h order_node event) (items : List Item) (item : Item) → event.body ≡ body.Delivered items → Member item items → item.checkout ≡ c → HasTaken t.before SHIPMENT_TO_ORDER (body.Shipped c)
    order_before event t items item is here same =
        let steps = steps_at order_node t.before in
        let due : role_fits Role.Order steps (body.Delivered items) ≡ true = subst (λ b. role_fits Role.Order steps b ≡ true) is (due-here h lawful order_node (omega arith) event t) in
        let all = (and_both (items_apart (items_taken steps) items) (list_all (order_item_fits steps) items) due).1 in
        let one = member_of_all (order_item_fits steps) item items all here in
        let line = list_any (λ (r : Reservation). is_of item.checkout r && is_line_of r.lines item) (checkouts_taken steps) in
        shipment_before c order_node event t (omega arith) SHIPMENT_TO_ORDER refl (ap (is_taken ships steps) (sym same) ∙ (and_both (is_taken ships steps item.checkout) line one).0)

    seller_before : (event : Event) (t : TookAt h seller_node event) (items : List Item) (item : Item) → event.body ≡ body.Delivered items → Member item items → item.checkout ≡ c → HasTaken t.before SHIPMENT_TO_SELLER (body.Shipped c)
    seller_before event t items item is here same =
        let steps = steps_at seller_node t.before in
        let due : role_fits Role.Seller steps (body.Delivered items) ≡ true = subst (λ b. role_fits Role.Seller steps b ≡ true) is (due-here h lawful seller_node (omega arith) event t) in
        let all = (and_both (items_apart (items_taken steps) items) (list_all (seller_item_fits steps) items) due).1 in
        let one = member_of_all (seller_item_fits steps) item items all here in
        let line = is_line_of (invoice_lines (taken_bodies steps) item.checkout) item in
        shipment_before c seller_node event t (omega arith) SHIPMENT_TO_SELLER refl (ap (is_taken ships steps) (sym same) ∙ (and_both (is_taken ships steps item.checkout) line one).0)

    line_once : (key : ProductKey) (link : Link) → Member link delivery_links → count_by (is_item_of c key) (flat_map items_in (bodies_of (sent link (journal_at h shipment_node)))) ≤ 1
    line_once key link among =
        let steps = steps_at shipment_node (journal_at h shipment_node) in
        subst (λ bs. count_by (is_item_of c key) (flat_map items_in bs) ≤ 1) (sym (whole h lawful shipment_node (omega arith) link))
        (apart-few [] (flat_map items_in (made_on link steps)) c key (apart_on link among steps (steps-run shipment_node (journal_at h shipment_node))))

    -- how deliveries are made
    pub deliveries-caused : DeliveriesHaveCauses h c
    deliveries-caused = record {
      cause = λ n made m items item is here same.
          let by = made-by h lawful n made m (body.Delivered items) is tt shipment_node delivery_links refl in
          (by.0, made-at h made (λ n m. DeliveryIsCaused h n made m item) shipment_node n by.1 (λ m. delivered made m items item is here by.0) m);
      makes = λ n event t id is. took-at h event (λ n t. Delivers n event t id) shipment_node n (asked_node n event t id is) (makes_delivered event id is) t;
      once = line_once;
      order_before = order_before;
      seller_before = seller_before;
    }
