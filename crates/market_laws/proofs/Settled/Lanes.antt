-- In settled histories each request that a lane keeps has its reply (kept-answered), so no lane waits (lanes-idle): the request
-- was asked and taken, its service told it (told-each), and the lane took what it was told.
use Rattle.std.proofs.Common.{◌≡◌, ℕ, ◌<◌, Bool, true, false, List, [], ◌∷◌, Option, Some, None, is_some, is_none, filter_map, if◌then◌else◌, count_by, inl, inr, ◌⊎◌, ap, sym, ◌∙◌, subst, arith}
use Rattle.std.specs.Prelude.{map}
use Rattle.std.specs.List.{cons_option}
use Rattle.std.specs.Option.{option_to_list}
use Rattle.market_amounts.specs.declared.keys.RequestId.{RequestId}
use Rattle.market_events.specs.declared.bodies.Body.{Body}
use Rattle.market_events.specs.declared.bodies.Body.TheVariants as body
use Rattle.market_events.specs.declared.events.Entry.{Entry}
use Rattle.market_events.specs.declared.events.Event.{Event}
use Rattle.market_events.specs.declared.links.Link.TheVariants.{Asked, Told}
use Rattle.market_events.specs.declared.replies.Reply.{Reply}
use Rattle.market_events.specs.declared.requests.Request.{Request}
use Rattle.market_events.specs.Links.{lane_node, service_by_ask, same_link, cart_node, product_node, stock_node, order_node, payment_node, shipment_node, customer_node, seller_node}
use Rattle.market_events.specs.Requests.{lane_of}
use Rattle.market_events.specs.declared.roles.Role.{Role}
use Rattle.market_events.specs.Services.{node_of, asks}
use Rattle.market_events.specs.Steps.{taken_bodies, made_in, body_on}
use Rattle.market_events.specs.declared.lanes.TheConstants.{LANES}
use Rattle.market_events.proofs.Values.Lists.{count-some, false_from}
use Rattle.market_events.proofs.Values.Offers.{same_link-same}
use Rattle.market_events.proofs.Values.Same.{same_id-true, same_id-self}
use Rattle.market_history.specs.Blocks.{Arrival, what_of, role_at, services}
use Rattle.market_history.specs.Causality.{events_taken}
use Rattle.market_history.specs.Histories.{Histories, journal_at}
use Rattle.market_history.specs.Lawful.{IsReadyAfter, IsLawful}
use Rattle.market_history.specs.Once.{request_in, requests_given, reply_of, is_waiting, kept_by, reply_at}
use Rattle.market_history.specs.Outstanding.{IsSettled}
use Rattle.market_history.proofs.GrowLaws.{requests_given-grow}
use Rattle.market_history.proofs.GrowSent.{bodies_on}
use Rattle.market_laws.specs.Grown.{Grown, nothing, more}
use Rattle.market_laws.specs.Runs.{Member, bodies_made, tells}
use Rattle.market_laws.proofs.Origins.Cuts.{any_of_member, member_of_any}
use Rattle.market_laws.proofs.Origins.Made.{steps-run, whole}
use Rattle.market_laws.proofs.Growth.Outs.{by_service, node_of-role_at, service_by_ask-small, lane_of-small}
use Rattle.market_laws.proofs.Settled.FirstReply.{reply-is, told-some}
use Rattle.market_laws.proofs.Fits.AskedByLanes.{asked_on, asked-view}
use Rattle.market_laws.proofs.Fits.RepliesOnce.{any-counted}
use Rattle.market_laws.proofs.Runs.Counts.{member-either}
use Rattle.market_laws.proofs.Runs.Cart.{told-sent-is}
use Rattle.market_laws.proofs.Runs.Lanes.{told-to-lane}
use Rattle.market_laws.proofs.Runs.ToldOnce.{told-is}
use Rattle.market_laws.proofs.Settled.Counts.{steps_now, ended-sent}
use Rattle.market_laws.proofs.Settled.Links.{all-taken, settled-bodies}
use Rattle.market_laws.proofs.Growth.Takers.{grown_at}

-- a request that a node was given is one of its lane
pub given-own : (n : ℕ) {j : List Entry} → Grown n j → (r : Request) → Member r (requests_given j) → lane_node (lane_of r.id) ≡ n
given-own n nothing r here = absurd here
given-own n (more j a grown ready) r here =
    by a ready (member-either r (requests_given j) (option_to_list (request_in (what_of a))) (subst (λ l. Member r l) (requests_given-grow n j a) here)) (λ there. given-own n grown r there)
  where
    by : (b : Arrival) → IsReadyAfter n j (what_of b) → Member r (requests_given j) ⊎ Member r (option_to_list (request_in (what_of b))) → (Member r (requests_given j) → lane_node (lane_of r.id) ≡ n) → lane_node (lane_of r.id) ≡ n
    by b can (inl there) rest = rest there
    by (Arrival.Gives request) can (inr (inl same)) rest = ap (λ (q : Request). lane_node (lane_of q.id)) same ∙ can.1
    by (Arrival.Gives request) can (inr (inr never)) rest = absurd never
    by (Arrival.Takes event) can (inr never) rest = absurd never

-- a request that was given is asked on its link
asks-it : (r : Request) (rs : List Request) → Member r rs → Member (body.Asked r) (filter_map (asked_on (Asked (lane_of r.id) (service_by_ask r.ask))) rs)
asks-it r [] here = absurd here
asks-it r (q ∷ rs) (inl same) =
    let link = Asked (lane_of r.id) (service_by_ask r.ask) in
    let on : same_link (Asked (lane_of q.id) (service_by_ask q.ask)) link ≡ true = subst (λ (p : Request). same_link (Asked (lane_of p.id) (service_by_ask p.ask)) link ≡ true) same (same_link-same link) in
    rw on (inl (ap body.Asked same))
asks-it r (q ∷ rs) (inr later) = by (same_link (Asked (lane_of q.id) (service_by_ask q.ask)) (Asked (lane_of r.id) (service_by_ask r.ask))) (asks-it r rs later)
  where
    by : (test : Bool) → Member (body.Asked r) (filter_map (asked_on (Asked (lane_of r.id) (service_by_ask r.ask))) rs)
        → Member (body.Asked r) (cons_option (if test then Some (body.Asked q) else None) (filter_map (asked_on (Asked (lane_of r.id) (service_by_ask r.ask))) rs))
    by true rest = inr rest
    by false rest = rest

module _ (h : Histories) (lawful : IsLawful h) (settled : IsSettled h) where
  -- each service told as much as it was asked
  pub told-each : (id : RequestId) (s : ℕ) → s < services → count_by (tells id) (bodies_made (steps_now h lawful s)) ≡ count_by (asks id) (taken_bodies (steps_now h lawful s))
  told-each id s lt =
      by_service (λ s. count_by (tells id) (bodies_made (steps_now h lawful s)) ≡ count_by (asks id) (taken_bodies (steps_now h lawful s))) cart
      (told-is Role.Product (λ e. cc) (steps_now h lawful product_node) (steps-run product_node (journal_at h product_node)) id)
      (told-is Role.Stock (λ e. cc) (steps_now h lawful stock_node) (steps-run stock_node (journal_at h stock_node)) id)
      (told-is Role.Order (λ e. cc) (steps_now h lawful order_node) (steps-run order_node (journal_at h order_node)) id)
      (told-is Role.Payment (λ e. cc) (steps_now h lawful payment_node) (steps-run payment_node (journal_at h payment_node)) id)
      (told-is Role.Shipment (λ e. cc) (steps_now h lawful shipment_node) (steps-run shipment_node (journal_at h shipment_node)) id)
      (told-is Role.Customer (λ e. cc) (steps_now h lawful customer_node) (steps-run customer_node (journal_at h customer_node)) id)
      (told-is Role.Seller (λ e. cc) (steps_now h lawful seller_node) (steps-run seller_node (journal_at h seller_node)) id) s lt
    where
      cart : count_by (tells id) (bodies_made (steps_now h lawful cart_node)) ≡ count_by (asks id) (taken_bodies (steps_now h lawful cart_node))
      cart = omega (arith, told-sent-is (steps_now h lawful cart_node) (steps-run cart_node (journal_at h cart_node)) id, ended-sent h lawful settled id)

  module _ (lane : ℕ) (lt : lane < LANES) (r : Request) (kept : Member r (kept_by h lane)) where
    -- it is of this lane
    pub kept-lane : lane_of r.id ≡ lane
    kept-lane = let own = given-own (lane_node lane) (grown_at h (lane_node lane) lawful (omega arith)) r kept in omega arith

    -- its service took it
    pub kept-taken : Member (body.Asked r) (taken_bodies (steps_now h lawful (service_by_ask r.ask)))
    kept-taken =
        let s = service_by_ask r.ask in
        let link = Asked (lane_of r.id) s in
        let node = lane_node (lane_of r.id) in
        let given : Member r (requests_given (journal_at h node)) = subst (λ l. Member r (requests_given (journal_at h (lane_node l)))) (sym kept-lane) kept in
        let asked : Member (body.Asked r) (bodies_on link (journal_at h node)) =
        subst (λ l. Member (body.Asked r) l) (sym (asked-view node (omega arith) link (grown_at h node lawful (let small = lane_of-small r.id in omega arith)))) (asks-it r (requests_given (journal_at h node)) given) in
        subst (λ l. Member (body.Asked r) l) (sym (all-taken h lawful s (service_by_ask-small r.ask)))
        (settled-bodies h lawful settled link (lane_of-small r.id, service_by_ask-small r.ask) (body.Asked r) asked)

    -- its service told it
    kept_told : (reply : Reply) × Member (body.Told r.id reply) (bodies_made (steps_now h lawful (service_by_ask r.ask)))
    kept_told =
        let s = service_by_ask r.ask in
        let some = count-some (asks r.id) (taken_bodies (steps_now h lawful s)) (any_of_member (asks r.id) (body.Asked r) (taken_bodies (steps_now h lawful s)) kept-taken (same_id-self r.id)) in
        let found = member_of_any (tells r.id) (bodies_made (steps_now h lawful s)) (any-counted (tells r.id) (bodies_made (steps_now h lawful s)) (omega (arith, some, told-each r.id s (service_by_ask-small r.ask)))) in
        by found.0 found.1 found.2
      where
        by : (b : Body) → Member b (bodies_made (steps_now h lawful (service_by_ask r.ask))) → tells r.id b ≡ true → (reply : Reply) × Member (body.Told r.id reply) (bodies_made (steps_now h lawful (service_by_ask r.ask)))
        by (body.Told id reply) here passes = (reply, subst (λ i. Member (body.Told i reply) (bodies_made (steps_now h lawful (service_by_ask r.ask)))) (same_id-true id r.id passes) here)
        by other here passes = cc

    -- its lane answered it
    pub kept-answered : is_some (reply_at h r.id) ≡ true
    kept-answered =
        let s = service_by_ask r.ask in
        let small = service_by_ask-small r.ask in
        let node = lane_node (lane_of r.id) in
        let b = body.Told r.id kept_told.0 in
        let link = Told s (lane_of r.id) in
        let sent : Member b (filter_map (body_on (Told (node_of (role_at s)) (lane_of r.id))) (made_in (steps_now h lawful s))) = told-to-lane (role_at s) (steps_now h lawful s) (steps-run s (journal_at h s)) r.id kept_told.0 kept_told.1 in
        let there : Member b (bodies_on link (journal_at h s)) =
        subst (λ l. Member b l) (sym (whole h lawful s small link)) (subst (λ k. Member b (filter_map (body_on (Told k (lane_of r.id))) (made_in (steps_now h lawful s)))) (node_of-role_at s small) sent) in
        let taken = settled-bodies h lawful settled link (small, lane_of-small r.id) b there in
        let few = lane_of-small r.id in
        ap (λ o. is_some o) (reply-is node (omega arith) (grown_at h node lawful (omega arith)) r.id)
        ∙ told-some r.id b (map (λ (e : Event). e.body) (events_taken (journal_at h node))) taken (same_id-self r.id)

  -- no lane waits
  pub lanes-idle : (lane : ℕ) → lane < LANES → is_waiting (journal_at h (lane_node lane)) ≡ false
  lanes-idle lane lt = false_from (is_waiting (journal_at h (lane_node lane))) refuted
    where
      waits : (o : Option Reply) → is_none o ≡ true → is_some o ≡ true → false ≡ true
      waits None none some = some
      waits (Some reply) none some = none

      refuted : is_waiting (journal_at h (lane_node lane)) ≡ true → false ≡ true
      refuted any =
          let found = member_of_any (λ (r : Request). is_none (reply_of (journal_at h (lane_node lane)) r.id)) (kept_by h lane) any in
          let own = kept-lane lane lt found.0 found.1 in
          waits (reply_of (journal_at h (lane_node lane)) found.0.id) found.2
          (subst (λ l. is_some (reply_of (journal_at h (lane_node l)) found.0.id) ≡ true) own (kept-answered lane lt found.0 found.1))
