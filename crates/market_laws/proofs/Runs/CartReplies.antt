-- Why the cart told a reply, after a run (told-for): at once for a checkout that it did not send on, for a refusal of stock, for
-- the end of an order, or for a request that is no checkout.
use Rattle.std.proofs.Common.{◌≡◌, ℕ, ◌≤◌, true, false, cond, List, [], ◌∷◌, ◌++◌, Option, Some, None, IfSome, count_by, ◌⊎◌, inl, inr, refl, ap, sym, ◌∙◌, subst, arith}
use Rattle.std.specs.Prelude.{map}
use Rattle.std.specs.List.{AllByRecursion}
use Rattle.std.proofs.lemmas.List.{map-append}
use Rattle.market_amounts.specs.declared.keys.ProductKey.{ProductKey}
use Rattle.market_amounts.specs.declared.keys.RequestId.{RequestId}
use Rattle.market_events.specs.declared.bodies.Body.{Body}
use Rattle.market_events.specs.declared.bodies.Body.TheVariants as body
use Rattle.market_events.specs.declared.bodies.Ending.{Ending}
use Rattle.market_events.specs.declared.bodies.StockRule.{StockRule}
use Rattle.market_events.specs.declared.links.TheConstants.{CART_TO_STOCK}
use Rattle.market_events.specs.declared.replies.Reply.{Reply}
use Rattle.market_events.specs.declared.replies.Reply.TheVariants as reply
use Rattle.market_events.specs.declared.replies.UndoneRule.{UndoneRule}
use Rattle.market_events.specs.declared.replies.UndoneRule.TheVariants as undone
use Rattle.market_events.specs.declared.requests.Ask.{Ask}
use Rattle.market_events.specs.declared.requests.Ask.TheVariants as ask
use Rattle.market_events.specs.declared.requests.Request.{Request}
use Rattle.market_events.specs.AnswerShape.{id_in, IsAnswer}
use Rattle.market_events.specs.Carts.{Held, CartSums, cart_sums, cart_asked, cart_rows, checkout_rows, first_gone, undone_by_stock, reply_to_ending}
use Rattle.market_events.specs.Requests.{same_id}
use Rattle.market_events.specs.declared.roles.Role.{Role}
use Rattle.market_events.specs.Services.{Follows, IsRunOf, asks, reserves, ends}
use Rattle.market_events.specs.Steps.{Step, Sending, taken_bodies, made_in, made_on}
use Rattle.market_events.proofs.Runs.Carts.{answers-cart}
use Rattle.market_events.proofs.Values.Lists.{count-some}
use Rattle.market_events.proofs.Values.Same.{same_id-self}
use Rattle.market_events.proofs.Steps.Taken.{taken_bodies-push, made_in-push, run-push}
use Rattle.market_history.specs.Checkouts.{is_checkout}
use Rattle.market_laws.specs.Runs.{Member, bodies_made, tells}
use Rattle.market_laws.proofs.Causes.Replies.{IsTold}
use Rattle.market_laws.proofs.Origins.Cuts.{any_of_member}
use Rattle.market_laws.proofs.Growth.Outs.{answers-shape}
use Rattle.market_laws.proofs.Runs.Counts.{adding-on, count_on, member-either, member-left, member-between, run_with, sum_made-push, sum_taken-push}
use Rattle.market_laws.proofs.Runs.Cart.{few-at, sent-le-asked}
use Rattle.market_laws.proofs.Runs.ToldOnce.{asked-once}

-- a rule by which a checkout is undone before stock has it
abbrev pub IsEarly : UndoneRule → Type 0
IsEarly undone.CartEmpty = Unit {0}
IsEarly (undone.Gone key) = Unit {0}
IsEarly other = ⊥

-- why the cart told this reply
pub data ToldFor (steps : List Step) (c : RequestId) (r : Reply) : Type 0 where
  at_once : (rule : UndoneRule) → r ≡ reply.Undone rule → IsEarly rule → 1 ≤ count_by (asks c) (taken_bodies steps) → count_by (reserves c) (made_on CART_TO_STOCK steps) ≡ 0 → ToldFor steps c r
  by_stock : (key : ProductKey) (rule : StockRule) → r ≡ reply.Undone (undone_by_stock rule key) → Member (body.ReserveFailed c key rule) (taken_bodies steps) → ToldFor steps c r
  by_end : (end : Ending) → r ≡ reply_to_ending end → Member (body.Ended c end) (taken_bodies steps) → ToldFor steps c r
  by_other : (request : Request) → request.id ≡ c → is_checkout request.ask ≡ false → Member (body.Asked request) (taken_bodies steps) → ToldFor steps c r

-- what a checkout is told at once is that it is undone early
told_early : (id : RequestId) (customer : ℕ) (s : CartSums) (basket : List (ProductKey × Held)) (lacking : Option ProductKey) (c : RequestId) (r : Reply)
    → Member (body.Told c r) (map (λ (m : Sending). m.1) (checkout_rows id customer s.look basket lacking)) → (rule : UndoneRule) × (r ≡ reply.Undone rule) × IsEarly rule
told_early id customer s [] lacking c r (inl e) = (undone.CartEmpty, cc, tt)
told_early id customer s [] lacking c r (inr never) = absurd never
told_early id customer s (i ∷ is) (Some key) c r (inl e) = (undone.Gone key, cc, tt)
told_early id customer s (i ∷ is) (Some key) c r (inr never) = absurd never
told_early id customer s (i ∷ is) None c r (inl e) = absurd (subst IsTold e tt)
told_early id customer s (i ∷ is) None c r (inr never) = absurd never

-- what was taken stays taken
still : (before : List Step) (s : Step) (b : Body) → Member b (taken_bodies before) → Member b (taken_bodies (before ++ s ∷ []))
still before s b here = subst (λ l. Member b l) (sym (taken_bodies-push before s)) (member-left b (taken_bodies before) (s.body ∷ []) here)

-- what a step tells a checkout it tells for a body that names it
named_by : (input : Body) (made : List Sending) (c : RequestId) (r : Reply) → AllByRecursion (IsAnswer Role.Cart input) made → Member (body.Told c r) (map (λ (m : Sending). m.1) made) → id_in input ≡ Some c
named_by input [] c r all here = absurd here
named_by input (m ∷ made) c r all (inl same) = subst (λ b. IfSome (id_in b) (λ id. id_in input ≡ Some id)) (sym same) all.0.named
named_by input (m ∷ made) c r all (inr later) = named_by input made c r all.1 later

module _ (c : RequestId) (r : Reply) where
  -- it is for what it is for after one more step too
  kept_for : (before : List Step) (s : Step) → IsRunOf Role.Cart before → Follows Role.Cart before s → ToldFor before c r → ToldFor (before ++ s ∷ []) c r
  kept_for before s run follows (at_once rule is early asked unsent) =
      let once = asked-once Role.Cart (before ++ s ∷ []) (run-push Role.Cart before s run follows) c in
      let taken = sum_taken-push (λ b. cond (asks c b) 1 0) before s in
      let few = (few-at c before s follows).sent in
      let sent = sum_made-push (count_on CART_TO_STOCK (reserves c)) (adding-on CART_TO_STOCK (reserves c)) before s in
      at_once rule is early (omega (arith, taken, asked)) (omega (arith, sent, few, taken, once, asked, unsent))
  kept_for before s run follows (by_stock key rule is here) = by_stock key rule is (still before s (body.ReserveFailed c key rule) here)
  kept_for before s run follows (by_end end is here) = by_end end is (still before s (body.Ended c end) here)
  kept_for before s run follows (by_other request same is here) = by_other request same is (still before s (body.Asked request) here)

  -- why a step told it
  step_for : (before : List Step) (s : Step) → IsRunOf Role.Cart before → Follows Role.Cart before s → Member (body.Told c r) (map (λ (m : Sending). m.1) s.made) → ToldFor (before ++ s ∷ []) c r
  step_for before s run follows here =
      let each = (answers-shape Role.Cart before s.from s.body run follows.fit).each in
      let named = named_by s.body s.made c r (subst (λ made. AllByRecursion (IsAnswer Role.Cart s.body) made) (sym follows.made) each) here in
      by s.body refl named (subst (λ made. Member (body.Told c r) (map (λ (m : Sending). m.1) made)) (follows.made ∙ answers-cart before s.from s.body) here)
    where
      sums : CartSums
      sums = cart_sums before

      here_now : (b : Body) → s.body ≡ b → Member b (taken_bodies (before ++ s ∷ []))
      here_now b is = subst (λ l. Member b l) (sym (taken_bodies-push before s)) (subst (λ x. Member b (taken_bodies before ++ x ∷ [])) (sym is) (member-between (taken_bodies before) b []))

      -- a checkout that is told at once is not sent on
      early : (rule : UndoneRule) → r ≡ reply.Undone rule → IsEarly rule → asks c s.body ≡ true → ToldFor (before ++ s ∷ []) c r
      early rule is why asked =
          let once = asked-once Role.Cart (before ++ s ∷ []) (run-push Role.Cart before s run follows) c in
          let taken = sum_taken-push (λ b. cond (asks c b) 1 0) before s in
          let one : ◌≡◌ {A = ℕ} (cond (asks c s.body) 1 0) 1 = rw asked refl in
          let none : ◌≡◌ {A = ℕ} (cond (ends c s.body) 1 0) 0 = unended s.body asked in
          let few = (few-at c before s follows).told in
          let some = count-some (tells c) (map (λ (m : Sending). m.1) s.made) (any_of_member (tells c) (body.Told c r) (map (λ (m : Sending). m.1) s.made) here (same_id-self c)) in
          let le = sent-le-asked before run c in
          let sent = sum_made-push (count_on CART_TO_STOCK (reserves c)) (adding-on CART_TO_STOCK (reserves c)) before s in
          at_once rule is why (omega (arith, taken, one)) (omega (arith, sent, few, some, one, none, le, taken, once))
        where
          unended : (b : Body) → asks c b ≡ true → ◌≡◌ {A = ℕ} (cond (ends c b) 1 0) 0
          unended (body.Asked request) asked = refl
          unended other asked = cc

      by_ask : (request : Request) → s.body ≡ body.Asked request → request.id ≡ c → (a : Ask) → request.ask ≡ a → Member (body.Told c r) (map (λ (m : Sending). m.1) (cart_asked sums request.id a)) → ToldFor (before ++ s ∷ []) c r
      by_ask request is same (ask.Checkout customer) asked told =
          let why = told_early request.id customer sums (sums.basket customer) (first_gone sums.look (sums.basket customer)) c r told in
          early why.0 why.1 why.2 (ap (asks c) is ∙ ap (λ i. same_id i c) same ∙ same_id-self c)
      by_ask request is same other asked told = by_other request same (ap is_checkout asked) (here_now (body.Asked request) is)

      by : (b : Body) → s.body ≡ b → id_in b ≡ Some c → Member (body.Told c r) (map (λ (m : Sending). m.1) (cart_rows sums b)) → ToldFor (before ++ s ∷ []) c r
      by (body.Asked request) is named told = let same : request.id ≡ c = cc in by_ask request is same request.ask refl told
      by (body.ReserveFailed id key rule) is named (inl e) =
          let same : id ≡ c = cc in
          let reply_is : r ≡ reply.Undone (undone_by_stock rule key) = cc in
          by_stock key rule reply_is (here_now (body.ReserveFailed c key rule) (is ∙ ap (λ i. body.ReserveFailed i key rule) same))
      by (body.ReserveFailed id key rule) is named (inr never) = absurd never
      by (body.Ended id end) is named (inl e) =
          let same : id ≡ c = cc in
          let reply_is : r ≡ reply_to_ending end = cc in
          by_end end reply_is (here_now (body.Ended c end) (is ∙ ap (λ i. body.Ended i end) same))
      by (body.Ended id end) is named (inr never) = absurd never
      by other is named told = absurd told

  -- why the cart told it
  pub told-for : (steps : List Step) → IsRunOf Role.Cart steps → Member (body.Told c r) (bodies_made steps) → ToldFor steps c r
  told-for steps run here = run_with Role.Cart (λ steps. Member (body.Told c r) (bodies_made steps) → ToldFor steps c r) keeps (λ none. absurd none) steps run here
    where
      keeps : (before : List Step) (s : Step) → IsRunOf Role.Cart before → Follows Role.Cart before s → (Member (body.Told c r) (bodies_made before) → ToldFor before c r) → Member (body.Told c r) (bodies_made (before ++ s ∷ [])) → ToldFor (before ++ s ∷ []) c r
      keeps before s run follows rest here =
          by (member-either (body.Told c r) (bodies_made before) (map (λ (m : Sending). m.1) s.made)
          (subst (λ l. Member (body.Told c r) l) (ap (map (λ (m : Sending). m.1)) (made_in-push before s) ∙ map-append (λ (m : Sending). m.1) (made_in before) s.made) here))
        where
          by : Member (body.Told c r) (bodies_made before) ⊎ Member (body.Told c r) (map (λ (m : Sending). m.1) s.made) → ToldFor (before ++ s ∷ []) c r
          by (inl there) = kept_for before s run follows (rest there)
          by (inr now) = step_for before s run follows now
