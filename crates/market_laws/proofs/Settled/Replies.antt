-- In settled histories a kept checkout has its reply, and this is why (replied): it was undone at once and not sent on, stock
-- refused it, or its order ended.
use Rattle.std.proofs.Common.{◌≡◌, ℕ, ◌<◌, true, false, Option, Some, None, is_some, count_by, refl, ap, sym, ◌∙◌, subst, arith}
use Rattle.std.specs.Prelude.{map, filter_map}
use Rattle.market_amounts.specs.declared.keys.ProductKey.{ProductKey}
use Rattle.market_amounts.specs.declared.keys.RequestId.{RequestId}
use Rattle.market_events.specs.declared.bodies.Body.{Body}
use Rattle.market_events.specs.declared.bodies.Body.TheVariants as body
use Rattle.market_events.specs.declared.bodies.Ending.{Ending}
use Rattle.market_events.specs.declared.bodies.StockRule.{StockRule}
use Rattle.market_events.specs.declared.events.Entry.{Entry}
use Rattle.market_events.specs.declared.events.Event.{Event}
use Rattle.market_events.specs.declared.links.Link.TheVariants.{Told}
use Rattle.market_events.specs.declared.links.TheConstants.{CART_TO_STOCK}
use Rattle.market_events.specs.declared.nodes.TheConstants.{NODES}
use Rattle.market_events.specs.declared.replies.Reply.{Reply}
use Rattle.market_events.specs.declared.replies.Reply.TheVariants as reply
use Rattle.market_events.specs.declared.replies.UndoneRule.{UndoneRule}
use Rattle.market_events.specs.declared.requests.Ask.{Ask}
use Rattle.market_events.specs.declared.requests.Ask.TheVariants as ask
use Rattle.market_events.specs.declared.requests.Request.{Request}
use Rattle.market_events.specs.Carts.{undone_by_stock, reply_to_ending}
use Rattle.market_events.specs.Links.{cart_node, lane_node, sender_of, service_by_ask}
use Rattle.market_events.specs.Requests.{lane_of, same_id}
use Rattle.market_events.specs.declared.roles.Role.{Role}
use Rattle.market_events.specs.Services.{asks, reserves}
use Rattle.market_events.specs.Steps.{taken_bodies, made_in, made_on, body_on}
use Rattle.market_events.proofs.Values.Same.{same_id-true, same_id-self}
use Rattle.market_history.specs.Causality.{event_taken, events_taken}
use Rattle.market_history.specs.Checkouts.{is_checkout, asks_checkout, is_kept_checkout}
use Rattle.market_history.specs.Histories.{Histories, journal_at}
use Rattle.market_history.specs.Lawful.{IsLawful}
use Rattle.market_history.specs.Once.{kept_by, with_id, reply_at}
use Rattle.market_history.specs.Outstanding.{IsSettled}
use Rattle.market_laws.specs.Cuts.{TookAt}
use Rattle.market_laws.specs.Runs.{Member, bodies_made}
use Rattle.market_laws.proofs.Growth.Members.{gathered-at, find-at}
use Rattle.market_laws.proofs.Causes.Tellings.{tellings-caused}
use Rattle.market_laws.proofs.Origins.Cuts.{map-split}
use Rattle.market_laws.proofs.Origins.Made.{steps-run, made-whole-on}
use Rattle.market_laws.proofs.Origins.Places.{took_of}
use Rattle.market_laws.proofs.Origins.Senders.{took-made, took-made-on}
use Rattle.market_laws.proofs.Growth.Made.{event_taken-is}
use Rattle.market_laws.proofs.Growth.Outs.{lane_of-small}
use Rattle.market_laws.proofs.Settled.FirstReply.{reply-is, first-told}
use Rattle.market_laws.proofs.Fits.AskedByLanes.{is_with}
use Rattle.market_laws.proofs.Fits.RepliesOnce.{made-all, only_one}
use Rattle.market_laws.proofs.Runs.Counts.{member-split, member-between}
use Rattle.market_laws.proofs.Runs.CartReplies.{IsEarly, ToldFor, at_once, by_stock, by_end, by_other, told-for}
use Rattle.market_laws.proofs.Runs.ToldOnce.{asked-once}
use Rattle.market_laws.proofs.Settled.Counts.{steps_now}
use Rattle.market_laws.proofs.Settled.Lanes.{kept-taken, kept-answered}
use Rattle.market_laws.proofs.Growth.Takers.{StandsAt, grown_at}

-- a body that a node took, by its event
pub took-there : (h : Histories) → IsLawful h → (n : ℕ) → n < NODES → (b : Body) → Member b (map (λ (e : Event). e.body) (events_taken (journal_at h n))) → (event : Event) × TookAt h n event × (event.body ≡ b)
took-there h lawful n lt b here =
    let split = member-split b (map (λ (e : Event). e.body) (events_taken (journal_at h n))) here in
    let at = map-split (λ (e : Event). e.body) (events_taken (journal_at h n)) split.0 b split.1 split.2 in
    let place = gathered-at (λ (x : Entry). event_taken x.what) (journal_at h n) at.front at.at at.back at.is in
    let stands : StandsAt h n place.at = record { node = lt; before = place.before; after = place.after; is = place.is } in
    (at.at, took_of h n place.at at.at lawful stands (event_taken-is place.at.what at.at place.gives), at.at_is)

-- the request of a kept checkout
pub record KeptRequest (h : Histories) (c : RequestId) : Type 0 where
  pub request : Request
  pub id_is : request.id ≡ c
  pub asks : is_checkout request.ask ≡ true
  pub kept : Member request (kept_by h (lane_of c))

pub kept-request : (h : Histories) (c : RequestId) → is_kept_checkout h c ≡ true → KeptRequest h c
kept-request h c is = by (with_id c (kept_by h (lane_of c))) refl is
  where
    by : (o : Option Request) → with_id c (kept_by h (lane_of c)) ≡ o → asks_checkout o ≡ true → KeptRequest h c
    by None found is = let no : ⊥ = cc in absurd no
    by (Some r) found is =
        let at = find-at (is_with c) (kept_by h (lane_of c)) r found in
        record { request = r; id_is = same_id-true r.id c at.passes; asks = is; kept = subst (λ l. Member r l) (sym at.is) (member-between at.before r at.after) }

-- a checkout is for the cart
for_cart : (a : Ask) → is_checkout a ≡ true → service_by_ask a ≡ cart_node
for_cart (ask.Checkout customer) is = refl
for_cart other is = let no : ⊥ = cc in absurd no

module _ (h : Histories) (lawful : IsLawful h) (settled : IsSettled h) (c : RequestId) where
  -- its reply, and why
  pub data Replied : Type 0 where
    early : (rule : UndoneRule) → IsEarly rule → reply_at h c ≡ Some (reply.Undone rule) → count_by (reserves c) (made_on CART_TO_STOCK (steps_now h lawful cart_node)) ≡ 0 → Replied
    refused : (key : ProductKey) (rule : StockRule) → reply_at h c ≡ Some (reply.Undone (undone_by_stock rule key)) → Member (body.ReserveFailed c key rule) (taken_bodies (steps_now h lawful cart_node)) → Replied
    ended : (end : Ending) → reply_at h c ≡ Some (reply_to_ending end) → Member (body.Ended c end) (taken_bodies (steps_now h lawful cart_node)) → Replied

  module _ (kept : is_kept_checkout h c ≡ true) where
    -- the cart took its request
    pub cart-asked : (k : KeptRequest h c) → Member (body.Asked k.request) (taken_bodies (steps_now h lawful cart_node))
    cart-asked k =
        subst (λ s. Member (body.Asked k.request) (taken_bodies (steps_now h lawful s))) (for_cart k.request.ask k.asks)
        (kept-taken h lawful settled (lane_of c) (lane_of-small c) k.request k.kept)

    -- it has a reply
    has_reply : (k : KeptRequest h c) → is_some (reply_at h c) ≡ true
    has_reply k = subst (λ i. is_some (reply_at h i) ≡ true) k.id_is (kept-answered h lawful settled (lane_of c) (lane_of-small c) k.request k.kept)

    -- the cart told it
    cart_told : (r : Reply) → reply_at h c ≡ Some r → Member (body.Told c r) (bodies_made (steps_now h lawful cart_node))
    cart_told r is =
        let lane = lane_of c in
        let node = lane_node lane in
        let small = lane_of-small c in
        let here = first-told c r (map (λ (e : Event). e.body) (events_taken (journal_at h node))) (sym (reply-is node (omega arith) (grown_at h node lawful (omega arith)) c) ∙ is) in
        let took = took-there h lawful node (omega arith) (body.Told c r) here in
        let made = took-made h lawful node took.0 took.1 in
        let on = ((tellings-caused h lawful c kept).cause (sender_of took.0.link) took.0 made.made r took.2).0 in
        let at = took-made-on h lawful node took.0 (Told cart_node lane) took.1 on in
        made-all (Told cart_node lane) (body.Told c r) (made_in (steps_now h lawful cart_node))
        (subst (λ b. Member b (filter_map (body_on (Told cart_node lane)) (made_in (steps_now h lawful cart_node)))) took.2 (made-whole-on h lawful cart_node (omega arith) took.0 (Told cart_node lane) at.made on))

    -- its request is no other request
    no_other : (k : KeptRequest h c) (request : Request) → request.id ≡ c → is_checkout request.ask ≡ false → Member (body.Asked request) (taken_bodies (steps_now h lawful cart_node)) → ⊥
    no_other k request same other here =
        let taken = taken_bodies (steps_now h lawful cart_node) in
        let one : body.Asked request ≡ body.Asked k.request =
        only_one (asks c) (body.Asked request) (body.Asked k.request) taken (asked-once Role.Cart (steps_now h lawful cart_node) (steps-run cart_node (journal_at h cart_node)) c) here (cart-asked k)
        (ap (λ i. same_id i c) same ∙ same_id-self c) (ap (λ i. same_id i c) k.id_is ∙ same_id-self c) in
        let alike : request ≡ k.request = cc in
        let is = ap (λ (q : Request). is_checkout q.ask) alike ∙ k.asks in
        cc

    pub replied : Replied
    replied = by (reply_at h c) refl (has_reply k)
      where
        k : KeptRequest h c
        k = kept-request h c kept

        why : (r : Reply) → reply_at h c ≡ Some r → ToldFor (steps_now h lawful cart_node) c r → Replied
        why r is (at_once rule reply_is soon asked unsent) = early rule soon (is ∙ ap Some reply_is) unsent
        why r is (by_stock key rule reply_is here) = refused key rule (is ∙ ap Some reply_is) here
        why r is (by_end end reply_is here) = ended end (is ∙ ap Some reply_is) here
        why r is (by_other request same other here) = absurd (no_other k request same other here)

        by : (o : Option Reply) → reply_at h c ≡ o → is_some o ≡ true → Replied
        by None is some = let no : ⊥ = cc in absurd no
        by (Some r) is some = why r is (told-for c r (steps_now h lawful cart_node) (steps-run cart_node (journal_at h cart_node)) (cart_told r is))
