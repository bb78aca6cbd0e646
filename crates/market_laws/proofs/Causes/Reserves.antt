-- How a Reserve is made: from the cart to stock, once, in the block of the checkout's request; stock took a change of each of its keys before.
use Rattle.std.proofs.Common.{◌≡◌, ℕ, ◌≤◌, ◌&&◌, not, nat_le, length, true, List, [], ◌∷◌, ◌⊎◌, Option, Some, None, count_by, filter_map, inl, inr, refl, ap, ◌∙◌, subst, arith}
use Rattle.std.specs.List.{list_all}
use Rattle.market_amounts.specs.declared.keys.ProductKey.{ProductKey}
use Rattle.market_amounts.specs.declared.keys.RequestId.{RequestId}
use Rattle.market_events.specs.declared.bodies.Body.{Body}
use Rattle.market_events.specs.declared.bodies.Body.TheVariants as body
use Rattle.market_events.specs.declared.bodies.PricedLine.{PricedLine}
use Rattle.market_events.specs.declared.changes.Change.{Change}
use Rattle.market_events.specs.declared.changes.Look.{Look}
use Rattle.market_events.specs.declared.changes.Look.TheVariants.{Unknown, Gone, Live}
use Rattle.market_events.specs.declared.events.Event.{Event}
use Rattle.market_events.specs.declared.links.Link.{Link}
use Rattle.market_events.specs.declared.links.Link.TheVariants.{Asked}
use Rattle.market_events.specs.declared.links.TheConstants.{PRODUCT_TO_STOCK, CART_TO_STOCK}
use Rattle.market_events.specs.declared.replies.Reply.TheVariants as reply
use Rattle.market_events.specs.declared.replies.Rule.TheVariants as rule
use Rattle.market_events.specs.declared.replies.UndoneRule.{UndoneRule}
use Rattle.market_events.specs.declared.replies.UndoneRule.TheVariants as undone
use Rattle.market_events.specs.declared.requests.Ask.{Ask}
use Rattle.market_events.specs.declared.requests.Ask.TheVariants as ask
use Rattle.market_events.specs.declared.requests.Request.{Request}
use Rattle.market_events.specs.Carried.{carries}
use Rattle.market_events.specs.Carts.{Held, CartSums, changes_taken, cart_sums, has_key, view_rows, line_rows, remove_rows, priced, first_gone, checkout_rows, cart_asked, cart_rows}
use Rattle.market_events.specs.Copies.{copy_of}
use Rattle.market_events.specs.Links.{cart_node, stock_node}
use Rattle.market_events.specs.Orders.{is_taken}
use Rattle.market_events.specs.Requests.{lane_of}
use Rattle.market_events.specs.declared.roles.Role.{Role}
use Rattle.market_events.specs.Services.{IsRunOf, answers, is_known, reserves, role_fits}
use Rattle.market_events.specs.Steps.{Step, Sending, made_on, refused, taken_bodies, told}
use Rattle.market_events.specs.WellFormed.{most_lines}
use Rattle.market_events.proofs.Runs.Carts.{answers-cart}
use Rattle.market_events.proofs.Values.Lists.{and_both}
use Rattle.market_history.specs.Blocks.{role_at}
use Rattle.market_history.specs.Histories.{Histories}
use Rattle.market_history.specs.Lawful.{IsLawful}
use Rattle.market_laws.specs.Causes.{HasTaken, IsCausedBy, MakesJust, checkout_asked, ReservesHaveCauses}
use Rattle.market_laws.specs.Cuts.{steps_at, TookAt, MadeAt}
use Rattle.market_laws.specs.Runs.{Member}
use Rattle.market_laws.proofs.Causes.Blocks.{due-here, made-few, makes-these, among-answers, caused-by, made-by, only-link, has-taken, made-at, took-at}
use Rattle.market_laws.proofs.Causes.Replies.{AllTold, told-member, told-either}
use Rattle.market_laws.proofs.Origins.Causes.{cause}
use Rattle.market_laws.proofs.Origins.Once.{taken-before}
use Rattle.market_laws.proofs.Fits.Asked.{asked-for, asked-on}
use Rattle.market_laws.proofs.Fits.CopyMembers.{known-told, member_of_all}
use Rattle.market_laws.proofs.Runs.Cart.{sent-le-asked}
use Rattle.market_laws.proofs.Runs.ToldOnce.{asked-once}

-- the cart answers other requests by telling a lane
view_tells : (id : RequestId) (look : Look) → AllTold (view_rows id look)
view_tells id Unknown = (tt, tt)
view_tells id (Gone v) = (tt, tt)
view_tells id (Live v price freight) = (tt, tt)

line_tells : (id : RequestId) (key : ProductKey) (quantity : ℕ) (look : Look) (basket : List (ProductKey × Held)) → AllTold (line_rows id key quantity look basket)
line_tells id key quantity Unknown basket = (tt, tt)
line_tells id key quantity (Gone v) basket = (tt, tt)
line_tells id key quantity (Live v price freight) basket =
    told-either (nat_le most_lines (length basket) && not (has_key basket key)) (refused cart_node id rule.CartFull) (told cart_node id (reply.Line quantity) ∷ []) (tt, tt) (tt, tt)

remove_tells : (id : RequestId) (key : ProductKey) (basket : List (ProductKey × Held)) → AllTold (remove_rows id key basket)
remove_tells id key basket = told-either (has_key basket key) (told cart_node id reply.Removed ∷ []) (refused cart_node id rule.NoLine) (tt, tt) (tt, tt)

-- of a checkout it sends on that checkout
sent_for : (s : CartSums) (id : RequestId) (buyer : ℕ) (basket : List (ProductKey × Held)) (lacking : Option ProductKey) (link : Link) (c : RequestId) (customer : ℕ) (lines : List PricedLine)
    → Member (link, body.Reserve c customer lines) (checkout_rows id buyer s.look basket lacking) → checkout_asked id buyer ≡ checkout_asked c customer
sent_for s id buyer [] lacking link c customer lines here = absurd (told-member (checkout_rows id buyer s.look [] lacking) (link, body.Reserve c customer lines) (tt, tt) here)
sent_for s id buyer (e ∷ es) (Some key) link c customer lines here =
    absurd (told-member (checkout_rows id buyer s.look (e ∷ es) (Some key)) (link, body.Reserve c customer lines) (tt, tt) here)
sent_for s id buyer (e ∷ es) None link c customer lines (inl e2) =
    let same : body.Reserve c customer lines ≡ body.Reserve id buyer (filter_map (priced s.look) (e ∷ es)) = ap (λ (s : Sending). s.1) e2 in
    let id_is : id ≡ c = cc in
    let buyer_is : buyer ≡ customer = cc in
    λ i. checkout_asked (id_is i) (buyer_is i)
sent_for s id buyer (e ∷ es) None link c customer lines (inr never) = absurd never

asked_sends : (s : CartSums) (id : RequestId) (a : Ask) (link : Link) (c : RequestId) (customer : ℕ) (lines : List PricedLine) → Member (link, body.Reserve c customer lines) (cart_asked s id a)
    → body.Asked (record { id = id; ask = a }) ≡ checkout_asked c customer
asked_sends s id (ask.View key) link c customer lines here = absurd (told-member (cart_asked s id (ask.View key)) (link, body.Reserve c customer lines) (view_tells id (s.look key)) here)
asked_sends s id (ask.Line buyer key quantity voucher) link c customer lines here =
    absurd (told-member (cart_asked s id (ask.Line buyer key quantity voucher)) (link, body.Reserve c customer lines) (line_tells id key quantity (s.look key) (s.basket buyer)) here)
asked_sends s id (ask.Remove buyer key) link c customer lines here =
    absurd (told-member (cart_asked s id (ask.Remove buyer key)) (link, body.Reserve c customer lines) (remove_tells id key (s.basket buyer)) here)
asked_sends s id (ask.Checkout buyer) link c customer lines here = sent_for s id buyer (s.basket buyer) (first_gone s.look (s.basket buyer)) link c customer lines here
asked_sends s id other link c customer lines here = absurd here

-- the cart sends on for a checkout's request alone
reserved_for : (s : CartSums) (b : Body) (link : Link) (c : RequestId) (customer : ℕ) (lines : List PricedLine) → Member (link, body.Reserve c customer lines) (cart_rows s b) → b ≡ checkout_asked c customer
reserved_for s (body.Asked request) link c customer lines here = asked_sends s request.id request.ask link c customer lines here
reserved_for s (body.ReserveFailed id key why) link c customer lines here =
    absurd (told-member (cart_rows s (body.ReserveFailed id key why)) (link, body.Reserve c customer lines) (tt, tt) here)
reserved_for s (body.Ended id end) link c customer lines here = absurd (told-member (cart_rows s (body.Ended id end)) (link, body.Reserve c customer lines) (tt, tt) here)
reserved_for s other link c customer lines here = absurd here

-- the cart sends a checkout on once at most
sent_few : (id : RequestId) (steps : List Step) → IsRunOf Role.Cart steps → count_by (reserves id) (made_on CART_TO_STOCK steps) ≤ 1
sent_few id steps run = omega (arith, sent-le-asked steps run id, asked-once Role.Cart steps run id)

module _ (h : Histories) (lawful : IsLawful h) (c : RequestId) where
  -- a checkout's request is taken by the cart alone
  pub asked-node : (n : ℕ) (event : Event) (t : TookAt h n event) (customer : ℕ) → event.body ≡ checkout_asked c customer → cart_node ≡ n
  asked-node n event t customer is =
      let request : Request = record { id = c; ask = ask.Checkout customer } in
      let on = asked-on h lawful n event t request is in
      asked-for (lane_of c) n request (subst (λ b. carries (Asked (lane_of c) n) b ≡ true) is (subst (λ l. carries l event.body ≡ true) on t.ready.2))

  reserved : (made : Event) (m : MadeAt h cart_node made) (customer : ℕ) (lines : List PricedLine) → made.body ≡ body.Reserve c customer lines
      → IsCausedBy h cart_node made m (Asked (lane_of c) cart_node) (checkout_asked c customer)
  reserved made m customer lines is =
      let o = cause h cart_node made lawful (omega arith) m in
      let steps = steps_at cart_node o.took.before in
      let b = body.Reserve c customer lines in
      let here = subst (λ l. Member (made.link, b) l) (answers-cart steps o.event.link o.event.body) (among-answers h cart_node made m o b is) in
      let for = reserved_for (cart_sums steps) o.event.body made.link c customer lines here in
      caused-by h cart_node made m o (Asked (lane_of c) cart_node) (checkout_asked c customer) (asked-on h lawful cart_node o.event o.took (record { id = c; ask = ask.Checkout customer }) for) for

  -- the block of a checkout's request
  abbrev Sends : (n : ℕ) (event : Event) → TookAt h n event → ℕ → Type 0
  Sends n event t customer =
      ((lines : List PricedLine) × MakesJust h n event t ((CART_TO_STOCK, body.Reserve c customer lines) ∷ []))
      ⊎ ((why : UndoneRule) × MakesJust h n event t (told cart_node c (reply.Undone why) ∷ []))

  makes_sent : (event : Event) (customer : ℕ) → event.body ≡ checkout_asked c customer → (t : TookAt h cart_node event) → Sends cart_node event t customer
  makes_sent event customer is t =
      let steps = steps_at cart_node t.before in
      let s = cart_sums steps in
      by s (s.basket customer) (first_gone s.look (s.basket customer)) (answers-cart steps event.link event.body ∙ ap (cart_rows s) is)
    where
      by : (s : CartSums) (basket : List (ProductKey × Held)) (lacking : Option ProductKey) → answers (role_at cart_node) (steps_at cart_node t.before) event.link event.body ≡ checkout_rows c customer s.look basket lacking
          → Sends cart_node event t customer
      by s [] lacking rows = inr (undone.CartEmpty, makes-these h lawful cart_node (omega arith) event t (told cart_node c (reply.Undone undone.CartEmpty) ∷ []) rows)
      by s (e ∷ es) (Some key) rows = inr (undone.Gone key, makes-these h lawful cart_node (omega arith) event t (told cart_node c (reply.Undone (undone.Gone key)) ∷ []) rows)
      by s (e ∷ es) None rows =
          let lines = filter_map (priced s.look) (e ∷ es) in
          inl (lines, makes-these h lawful cart_node (omega arith) event t ((CART_TO_STOCK, body.Reserve c customer lines) ∷ []) rows)

  -- what stock took before a Reserve
  change_before : (event : Event) (t : TookAt h stock_node event) (customer : ℕ) (lines : List PricedLine) → event.body ≡ body.Reserve c customer lines
      → (line : PricedLine) → Member line lines → (version : ℕ) × (change : Change) × HasTaken t.before PRODUCT_TO_STOCK (body.Changed line.key version change)
  change_before event t customer lines is line here =
      let steps = steps_at stock_node t.before in
      let due : role_fits Role.Stock steps (body.Reserve c customer lines) ≡ true = subst (λ b. role_fits Role.Stock steps b ≡ true) is (due-here h lawful stock_node (omega arith) event t) in
      let test = (λ (l : PricedLine). is_known (copy_of (changes_taken steps) l.key)) in
      let all = (and_both (not (is_taken reserves steps c)) (list_all test lines) due).1 in
      let last = known-told (taken_bodies steps) line.key (member_of_all test line lines all here) in
      let b = body.Changed line.key last.0 last.1 in
      (last.0, last.1, has-taken h stock_node event lawful t b (taken-before h stock_node event lawful t b last.2) (omega arith) tt PRODUCT_TO_STOCK refl)

  -- how a Reserve is made
  pub reserves-caused : ReservesHaveCauses h c
  reserves-caused = record {
    cause = λ n made m customer lines is.
        let by = made-by h lawful n made m (body.Reserve c customer lines) is tt cart_node (CART_TO_STOCK ∷ []) refl in (
          only-link CART_TO_STOCK made.link by.0,
          made-at h made (λ n m. IsCausedBy h n made m (Asked (lane_of c) cart_node) (checkout_asked c customer)) cart_node n by.1 (λ m. reserved made m customer lines is) m,
        );
    makes = λ n event t customer is. took-at h event (λ n t. Sends n event t customer) cart_node n (asked-node n event t customer is) (makes_sent event customer is) t;
    once = made-few h lawful cart_node (omega arith) CART_TO_STOCK (reserves c) (sent_few c);
    changes_before = change_before;
  }
