-- How checkouts are told: once, by the cart, in the block of the checkout's request, of a ReserveFailed or of an Ended.
use Rattle.std.proofs.Common.{◌≡◌, ℕ, ◌<◌, true, List, [], ◌∷◌, ◌++◌, Option, Some, None, count_by, inl, inr, refl, ap, sym, ◌∙◌, subst, arith}
use Rattle.std.specs.List.{AllByRecursion}
use Rattle.market_amounts.specs.declared.keys.ProductKey.{ProductKey}
use Rattle.market_amounts.specs.declared.keys.RequestId.{RequestId}
use Rattle.market_events.specs.declared.bodies.Body.{Body}
use Rattle.market_events.specs.declared.bodies.Body.TheVariants as body
use Rattle.market_events.specs.declared.events.Event.{Event}
use Rattle.market_events.specs.declared.links.Link.{Link}
use Rattle.market_events.specs.declared.links.Link.TheVariants.{Service, Asked, Told}
use Rattle.market_events.specs.declared.links.TheConstants.{STOCK_TO_CART, ORDER_TO_CART}
use Rattle.market_events.specs.declared.replies.Reply.{Reply}
use Rattle.market_events.specs.declared.replies.Reply.TheVariants as reply
use Rattle.market_events.specs.declared.replies.UndoneRule.{UndoneRule}
use Rattle.market_events.specs.declared.replies.UndoneRule.TheVariants as undone
use Rattle.market_events.specs.declared.requests.Ask.{Ask}
use Rattle.market_events.specs.declared.requests.Ask.TheVariants as ask
use Rattle.market_events.specs.declared.requests.Request.{Request}
use Rattle.market_events.specs.AnswerShape.{IsAnswer, id_in}
use Rattle.market_events.specs.Carried.{carries}
use Rattle.market_events.specs.Carts.{Held, CartSums, cart_sums, cart_rows, checkout_rows, first_gone, undone_by_stock, reply_to_ending}
use Rattle.market_events.specs.Links.{IsLink, sender_of, receiver_of, cart_node, lane_node, service_by_ask}
use Rattle.market_events.specs.Requests.{lane_of, same_id}
use Rattle.market_events.specs.Services.{asks}
use Rattle.market_events.specs.Steps.{Sending, made_in, taken_bodies, told}
use Rattle.market_events.proofs.Runs.Carts.{answers-cart}
use Rattle.market_events.proofs.Values.Lists.{count-some}
use Rattle.market_events.proofs.Values.Same.{same_id-true, same_id-self}
use Rattle.market_history.specs.Blocks.{role_at, services}
use Rattle.market_history.specs.Checkouts.{is_checkout, asks_checkout, is_kept_checkout}
use Rattle.market_history.specs.Histories.{Histories, journal_at}
use Rattle.market_history.specs.Lawful.{IsLawful}
use Rattle.market_history.specs.Once.{kept_by, with_id, requests_given}
use Rattle.market_history.proofs.GrowSent.{bodies_on}
use Rattle.market_laws.specs.Causes.{IsMadeOnce, MakesJust, TellingIsCaused, by_request, by_stock, by_end, checkout_asked, TellingsHaveCauses}
use Rattle.market_laws.specs.Cuts.{steps_at, TookAt, MadeAt}
use Rattle.market_laws.specs.Runs.{Member, bodies_made, tells}
use Rattle.market_laws.proofs.Growth.Members.{all-at, find-at}
use Rattle.market_laws.proofs.Causes.Blocks.{makes-these, among-answers, caused-by, made-at, took-at}
use Rattle.market_laws.proofs.Causes.Replies.{IsTold}
use Rattle.market_laws.proofs.Origins.Causes.{Cause, cause, cause_steps, cause-run, cause-made-on, origin}
use Rattle.market_laws.proofs.Origins.Cuts.{any_of_member, member_of_any}
use Rattle.market_laws.proofs.Origins.Made.{steps-run, whole}
use Rattle.market_laws.proofs.Origins.Senders.{made-as, sent-bodies}
use Rattle.market_laws.proofs.Growth.Outs.{answers-shape, lane_of-small}
use Rattle.market_laws.proofs.Fits.Asked.{asked-for, asked-on}
use Rattle.market_laws.proofs.Fits.AskedByLanes.{is_with, asked-view, asked-given, given-once}
use Rattle.market_laws.proofs.Fits.KindsOnLinks.{came}
use Rattle.market_laws.proofs.Fits.RepliesOnce.{made-all, count-made-all, any-counted, only_one}
use Rattle.market_laws.proofs.Runs.Counts.{member-between}
use Rattle.market_laws.proofs.Runs.ToldOnce.{told-le, asked-once}
use Rattle.market_laws.proofs.Growth.Takers.{grown_at}

-- a service makes what it tells
told_sender : (link : Link) (c : RequestId) (r : Reply) (n : ℕ) → IsLink link → carries link (body.Told c r) ≡ true → sender_of link ≡ n → n < services
told_sender (Service k) c r n on carried leaves = let no : ⊥ = cc in absurd no
told_sender (Asked lane s) c r n on carried leaves = let no : ⊥ = cc in absurd no
told_sender (Told s lane) c r n on carried leaves = subst (λ k. k < services) leaves on.0

-- a checkout's request, by what it asks
checkout_of : (a : Ask) → is_checkout a ≡ true → (customer : ℕ) × (a ≡ ask.Checkout customer)
checkout_of (ask.Checkout customer) is = (customer, refl)
checkout_of other is = let no : ⊥ = cc in absurd no

-- what the cart tells of a checkout's request is that it is undone
undone_told : (id : RequestId) (buyer : ℕ) (s : CartSums) (basket : List (ProductKey × Held)) (lacking : Option ProductKey) (link : Link) (c : RequestId) (r : Reply)
    → Member (link, body.Told c r) (checkout_rows id buyer s.look basket lacking) → (why : UndoneRule) × (r ≡ reply.Undone why)
undone_told id buyer s [] lacking link c r (inl e) = let same : body.Told c r ≡ body.Told id (reply.Undone undone.CartEmpty) = ap (λ (s : Sending). s.1) e in (undone.CartEmpty, cc)
undone_told id buyer s [] lacking link c r (inr never) = absurd never
undone_told id buyer s (i ∷ is) (Some key) link c r (inl e) = let same : body.Told c r ≡ body.Told id (reply.Undone (undone.Gone key)) = ap (λ (s : Sending). s.1) e in (undone.Gone key, cc)
undone_told id buyer s (i ∷ is) (Some key) link c r (inr never) = absurd never
undone_told id buyer s (i ∷ is) None link c r (inl e) = absurd (subst (λ (s : Sending). IsTold s.1) e tt)
undone_told id buyer s (i ∷ is) None link c r (inr never) = absurd never

module _ (h : Histories) (lawful : IsLawful h) where
  -- a request that a service took was given to the lane of its id
  pub given_there : (n : ℕ) (event : Event) (t : TookAt h n event) (request : Request) → event.body ≡ body.Asked request → Member request (kept_by h (lane_of request.id))
  given_there n event t request is =
      let lane = lane_node (lane_of request.id) in
      let link = event.link in
      let at : sender_of link ≡ lane = ap sender_of (asked-on h lawful n event t request is) in
      let there = sent-bodies h lawful n event t in
      let here : Member event.body (bodies_on link (journal_at h (sender_of link))) = subst (λ l. Member event.body l) (sym there.1) (member-between _ event.body there.0) in
      let moved : Member (body.Asked request) (bodies_on link (journal_at h lane)) = subst (λ b. Member b (bodies_on link (journal_at h lane))) is (subst (λ k. Member event.body (bodies_on link (journal_at h k))) at here) in
      let small = lane_of-small request.id in
      asked-given link request (requests_given (journal_at h lane))
      (subst (λ l. Member (body.Asked request) l) (asked-view lane (omega arith) link (grown_at h lane lawful (omega arith))) moved)

  module _ (c : RequestId) (kept : is_kept_checkout h c ≡ true) where
    -- the request with the checkout's id asks for it
    pub asks-for : (request : Request) → request.id ≡ c → Member request (kept_by h (lane_of c)) → (customer : ℕ) × (request.ask ≡ ask.Checkout customer)
    asks-for request same here = by (with_id c (kept_by h (lane_of c))) refl kept
      where
        by : (o : Option Request) → with_id c (kept_by h (lane_of c)) ≡ o → asks_checkout o ≡ true → (customer : ℕ) × (request.ask ≡ ask.Checkout customer)
        by None found is = let no : ⊥ = cc in absurd no
        by (Some r) found is =
            let lane = lane_node (lane_of c) in
            let small = lane_of-small c in
            let requests = kept_by h (lane_of c) in
            let at = find-at (is_with c) requests r found in
            let there : Member r requests = subst (λ l. Member r l) (sym at.is) (member-between at.before r at.after) in
            let alike : r ≡ request = only_one (is_with c) r request requests (given-once lane (grown_at h lane lawful (omega arith)) c) there here at.passes (ap (λ i. same_id i c) same ∙ same_id-self c) in
            let asks = checkout_of r.ask is in
            (asks.0, ap (λ (q : Request). q.ask) (sym alike) ∙ asks.1)

    -- a request with its id that a service took is the checkout's, and the service is the cart
    taken_for : (n : ℕ) (event : Event) (t : TookAt h n event) (request : Request) → event.body ≡ body.Asked request → request.id ≡ c → (customer : ℕ) × (event.body ≡ checkout_asked c customer) × (cart_node ≡ n)
    taken_for n event t request is same =
        let asks = asks-for request same (subst (λ i. Member request (kept_by h (lane_of i))) same (given_there n event t request is)) in
        let on = asked-on h lawful n event t request is in
        let for = asked-for (lane_of request.id) n request (subst (λ b. carries (Asked (lane_of request.id) n) b ≡ true) is (subst (λ l. carries l event.body ≡ true) on t.ready.2)) in
        (asks.0, is ∙ (λ i. body.Asked (record { id = same i; ask = asks.1 i })), ap service_by_ask (sym asks.1) ∙ for)

    -- the cart alone tells it
    told_by_cart : (n : ℕ) → n < services → (made : Event) (m : MadeAt h n made) (r : Reply) → made.body ≡ body.Told c r → cart_node ≡ n
    told_by_cart n lt made m r is =
        let o = cause h n made lawful lt m in
        let steps = cause_steps h n made m o in
        let here : Member made.body (bodies_made steps) = made-all made.link made.body (made_in steps) (cause-made-on h n made m o made.link refl) in
        let some = count-some (tells c) (bodies_made steps) (any_of_member (tells c) made.body (bodies_made steps) here (ap (tells c) is ∙ same_id-self c)) in
        let le = told-le (role_at n) steps (cause-run h n made m o) c in
        let found = member_of_any (asks c) (taken_bodies steps) (any-counted (asks c) (taken_bodies steps) (omega (arith, le, some))) in
        by o found.0 found.1 found.2
      where
        by : (o : Cause h n made m) → (b : Body) → Member b (taken_bodies (cause_steps h n made m o)) → asks c b ≡ true → cart_node ≡ n
        by o (body.Asked request) here same =
            let back = origin h n made m o lawful (body.Asked request) here in
            (taken_for n back.event back.took request back.body_is (same_id-true request.id c same)).2
        by o other here same = let no : ⊥ = cc in absurd no

    module _ (made : Event) (m : MadeAt h cart_node made) (r : Reply) (is : made.body ≡ body.Told c r) where
      abbrev o : Cause h cart_node made m
      o = cause h cart_node made lawful (omega arith) m

      -- what its shape says
      shape : IsAnswer (role_at cart_node) o.event.body (made.link, body.Told c r)
      shape =
          let steps = steps_at cart_node o.took.before in
          let all = answers-shape (role_at cart_node) steps o.event.link o.event.body (steps-run cart_node o.took.before) o.fit in
          all-at (IsAnswer (role_at cart_node) o.event.body) o.front (made.link, body.Told c r) o.back
          (subst (AllByRecursion (IsAnswer (role_at cart_node) o.event.body)) (o.answered ∙ ap (λ b. o.front ++ (made.link, b) ∷ o.back) is) all.each)

      told_link : made.link ≡ Told cart_node (lane_of c)
      told_link = shape.lane

      told_why : (b : Body) → o.event.body ≡ b → Member (made.link, body.Told c r) (cart_rows (cart_sums (steps_at cart_node o.took.before)) b) → TellingIsCaused h cart_node made m c r
      told_why (body.Asked request) body_is here =
          let s = cart_sums (steps_at cart_node o.took.before) in
          let named : id_in o.event.body ≡ Some c = shape.named in
          let of : Some request.id ≡ Some c = ap id_in (sym body_is) ∙ named in
          let same : request.id ≡ c = cc in
          let for = taken_for cart_node o.event o.took request body_is same in
          let moved : Member (made.link, body.Told c r) (cart_rows s (checkout_asked c for.0)) = subst (λ b. Member (made.link, body.Told c r) (cart_rows s b)) (sym body_is ∙ for.1) here in
          let why = undone_told c for.0 s (s.basket for.0) (first_gone s.look (s.basket for.0)) made.link c r moved in
          by_request for.0 why.0 why.1
          (caused-by h cart_node made m o (Asked (lane_of c) cart_node) (checkout_asked c for.0) (asked-on h lawful cart_node o.event o.took (record { id = c; ask = ask.Checkout for.0 }) for.1) for.1)
      told_why (body.ReserveFailed id key rule) body_is (inl e) =
          let same : body.Told c r ≡ body.Told id (reply.Undone (undone_by_stock rule key)) = ap (λ (s : Sending). s.1) e in
          let id_is : id ≡ c = cc in
          let b_is : o.event.body ≡ body.ReserveFailed c key rule = body_is ∙ ap (λ i. body.ReserveFailed i key rule) id_is in
          let reply_is : r ≡ reply.Undone (undone_by_stock rule key) = cc in
          by_stock key rule reply_is (caused-by h cart_node made m o STOCK_TO_CART (body.ReserveFailed c key rule) (came h cart_node o.event o.took (body.ReserveFailed c key rule) b_is (omega arith) tt STOCK_TO_CART refl) b_is)
      told_why (body.ReserveFailed id key rule) body_is (inr never) = absurd never
      told_why (body.Ended id end) body_is (inl e) =
          let same : body.Told c r ≡ body.Told id (reply_to_ending end) = ap (λ (s : Sending). s.1) e in
          let id_is : id ≡ c = cc in
          let b_is : o.event.body ≡ body.Ended c end = body_is ∙ ap (λ i. body.Ended i end) id_is in
          let reply_is : r ≡ reply_to_ending end = cc in
          by_end end reply_is (caused-by h cart_node made m o ORDER_TO_CART (body.Ended c end) (came h cart_node o.event o.took (body.Ended c end) b_is (omega arith) tt ORDER_TO_CART refl) b_is)
      told_why (body.Ended id end) body_is (inr never) = absurd never
      told_why other body_is here = absurd here

      told_cause : (made.link ≡ Told cart_node (lane_of c)) × TellingIsCaused h cart_node made m c r
      told_cause =
          let steps = steps_at cart_node o.took.before in (
            told_link,
            told_why o.event.body refl
                (subst (λ l. Member (made.link, body.Told c r) l) (answers-cart steps o.event.link o.event.body) (among-answers h cart_node made m o (body.Told c r) is)),
          )

    tells_for : (event : Event) (b : Body) → event.body ≡ b → (t : TookAt h cart_node event) (made : List Sending) → cart_rows (cart_sums (steps_at cart_node t.before)) b ≡ made → MakesJust h cart_node event t made
    tells_for event b is t made rows =
        let steps = steps_at cart_node t.before in
        makes-these h lawful cart_node (omega arith) event t made (answers-cart steps event.link event.body ∙ ap (cart_rows (cart_sums steps)) is ∙ rows)

    once_told : IsMadeOnce h (Told cart_node (lane_of c)) (tells c)
    once_told =
        let link = Told cart_node (lane_of c) in
        let steps = steps_at cart_node (journal_at h cart_node) in
        let run = steps-run cart_node (journal_at h cart_node) in
        let all = ap (count_by (tells c)) (whole h lawful cart_node (omega arith) link) in
        omega (arith, all, count-made-all (tells c) link (made_in steps), told-le (role_at cart_node) steps run c, asked-once (role_at cart_node) steps run c)

    -- how checkouts are told
    pub tellings-caused : TellingsHaveCauses h c
    tellings-caused = record {
      cause = λ n made m r is.
          let as_made = made-as h lawful n made m in
          let lt = told_sender made.link c r n as_made.on (subst (λ b. carries made.link b ≡ true) is as_made.carried) m.leaves in
          made-at h made (λ n m. (made.link ≡ Told cart_node (lane_of c)) × TellingIsCaused h n made m c r) cart_node n (told_by_cart n lt made m r is) (λ m. told_cause made m r is) m;
      failed_makes = λ n event t key rule on is.
          let made = told cart_node c (reply.Undone (undone_by_stock rule key)) ∷ [] in
          took-at h event (λ n t. MakesJust h n event t made) cart_node n (sym (ap receiver_of on) ∙ t.ready.1) (λ t. tells_for event (body.ReserveFailed c key rule) is t made refl) t;
      ended_makes = λ n event t end on is.
          let made = told cart_node c (reply_to_ending end) ∷ [] in
          took-at h event (λ n t. MakesJust h n event t made) cart_node n (sym (ap receiver_of on) ∙ t.ready.1) (λ t. tells_for event (body.Ended c end) is t made refl) t;
      once = once_told;
    }
