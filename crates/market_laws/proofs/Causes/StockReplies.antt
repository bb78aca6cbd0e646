-- How stock answers: a StockConfirmed or a ReserveFailed, once, in the block of the Reserve.
use Rattle.std.proofs.Common.{◌≡◌, ℕ, ◌+◌, ◌≤◌, nat_lt, List, [], ◌∷◌, ◌⊎◌, Option, Some, None, count_by, inl, inr, refl, ap, sym, ◌∙◌, subst, arith}
use Rattle.market_amounts.specs.declared.keys.ProductKey.{ProductKey}
use Rattle.market_amounts.specs.declared.keys.RequestId.{RequestId}
use Rattle.market_events.specs.declared.bodies.Body.{Body}
use Rattle.market_events.specs.declared.bodies.Body.TheVariants as body
use Rattle.market_events.specs.declared.bodies.PricedLine.{PricedLine}
use Rattle.market_events.specs.declared.bodies.StockRule.{StockRule}
use Rattle.market_events.specs.declared.changes.Look.{Look}
use Rattle.market_events.specs.declared.changes.Look.TheVariants.{Unknown, Gone, Live}
use Rattle.market_events.specs.declared.events.Event.{Event}
use Rattle.market_events.specs.declared.links.Link.{Link}
use Rattle.market_events.specs.declared.links.TheConstants.{CART_TO_STOCK, STOCK_TO_CART, STOCK_TO_ORDER}
use Rattle.market_events.specs.declared.requests.Ask.{Ask}
use Rattle.market_events.specs.declared.requests.Ask.TheVariants as ask
use Rattle.market_events.specs.Links.{receiver_of, stock_node}
use Rattle.market_events.specs.declared.replies.Reply.TheVariants as reply
use Rattle.market_events.specs.declared.replies.Rule.TheVariants as rule
use Rattle.market_events.specs.declared.roles.Role.{Role}
use Rattle.market_events.specs.Services.{IsRunOf, answers, ends}
use Rattle.market_events.specs.Steps.{Step, Sending, made_on, told, refused}
use Rattle.market_events.specs.WellFormed.{pieces_max}
use Rattle.market_events.specs.Stocks.{StockSums, stock_sums, stock_rows, level_rows, stock_asked, line_refusal, first_some, reserve_rows, stock_taken_rows}
use Rattle.market_events.proofs.Runs.Stock.{answers-stock}
use Rattle.market_history.specs.Blocks.{role_at}
use Rattle.market_history.specs.Histories.{Histories}
use Rattle.market_history.specs.Lawful.{IsLawful}
use Rattle.market_laws.specs.Causes.{IsCausedBy, MakesJust, StockAnswersHaveCauses}
use Rattle.market_laws.specs.Cuts.{steps_at, TookAt, MadeAt}
use Rattle.market_laws.specs.Runs.{Member, holds_pieces}
use Rattle.market_laws.proofs.Causes.Blocks.{made-few, makes-these, among-answers, caused-by, made-by, only-link, made-at, took-at}
use Rattle.market_laws.proofs.Causes.Replies.{AllTold, told-member, told-either}
use Rattle.market_laws.proofs.Origins.Causes.{cause}
use Rattle.market_laws.proofs.Fits.KindsOnLinks.{came}
use Rattle.market_laws.proofs.Fits.Orders.{held-few}
use Rattle.market_laws.proofs.Runs.Stock.{answered-is, reserves-once}

-- stock answers a request by telling a lane
stock_tells : (s : StockSums) (id : RequestId) (a : Ask) → AllTold (stock_asked s id a)
stock_tells s id (ask.Stock key pieces) = by (s.look key)
  where
    by : (look : Look) → AllTold (stock_rows id pieces look (s.on_hand key))
    by Unknown = (tt, tt)
    by (Gone v) = (tt, tt)
    by (Live v price freight) = told-either (nat_lt pieces_max (s.on_hand key + pieces)) (refused stock_node id rule.StockOver) (told stock_node id (reply.Stocked (s.on_hand key + pieces)) ∷ []) (tt, tt) (tt, tt)
stock_tells s id (ask.Level key) = by (s.look key)
  where
    by : (look : Look) → AllTold (level_rows id look (s.on_hand key) (s.reserved key))
    by Unknown = (tt, tt)
    by (Gone v) = (tt, tt)
    by (Live v price freight) = (tt, tt)
stock_tells s id other = tt

-- it holds pieces for a Reserve alone
held_for : (s : StockSums) (b : Body) (link : Link) (c : RequestId) (customer : ℕ) (lines : List PricedLine) → Member (link, body.StockConfirmed c customer lines) (stock_taken_rows s b) → b ≡ body.Reserve c customer lines
held_for s (body.Asked request) link c customer lines here =
    absurd (told-member (stock_asked s request.id request.ask) (link, body.StockConfirmed c customer lines) (stock_tells s request.id request.ask) here)
held_for s (body.Reserve id buyer ls) link c customer lines here = by (first_some (line_refusal s) ls) here
  where
    by : (o : Option (ProductKey × StockRule)) → Member (link, body.StockConfirmed c customer lines) (reserve_rows id buyer ls o) → body.Reserve id buyer ls ≡ body.Reserve c customer lines
    by None (inl e) = let same : body.StockConfirmed c customer lines ≡ body.StockConfirmed id buyer ls = ap (λ (s : Sending). s.1) e in cc
    by None (inr never) = absurd never
    by (Some refusal) (inl e) = let same : body.StockConfirmed c customer lines ≡ body.ReserveFailed id refusal.0 refusal.1 = ap (λ (s : Sending). s.1) e in let no : ⊥ = cc in absurd no
    by (Some refusal) (inr never) = absurd never
held_for s other link c customer lines here = absurd here

-- and refuses a Reserve alone
refused_for : (s : StockSums) (b : Body) (link : Link) (c : RequestId) (key : ProductKey) (rule : StockRule) → Member (link, body.ReserveFailed c key rule) (stock_taken_rows s b)
    → (customer : ℕ) × (lines : List PricedLine) × (b ≡ body.Reserve c customer lines)
refused_for s (body.Asked request) link c key rule here =
    absurd (told-member (stock_asked s request.id request.ask) (link, body.ReserveFailed c key rule) (stock_tells s request.id request.ask) here)
refused_for s (body.Reserve id buyer ls) link c key rule here = (buyer, ls, by (first_some (line_refusal s) ls) here)
  where
    by : (o : Option (ProductKey × StockRule)) → Member (link, body.ReserveFailed c key rule) (reserve_rows id buyer ls o) → body.Reserve id buyer ls ≡ body.Reserve c buyer ls
    by None (inl e) = let same : body.ReserveFailed c key rule ≡ body.StockConfirmed id buyer ls = ap (λ (s : Sending). s.1) e in let no : ⊥ = cc in absurd no
    by None (inr never) = absurd never
    by (Some refusal) (inl e) = let same : body.ReserveFailed c key rule ≡ body.ReserveFailed id refusal.0 refusal.1 = ap (λ (s : Sending). s.1) e in cc
    by (Some refusal) (inr never) = absurd never
refused_for s other link c key rule here = absurd here

-- it refuses a checkout once at most
refused_few : (id : RequestId) (steps : List Step) → IsRunOf Role.Stock steps → count_by (ends id) (made_on STOCK_TO_CART steps) ≤ 1
refused_few id steps run = omega (arith, answered-is steps run id, reserves-once steps run id)

module _ (h : Histories) (lawful : IsLawful h) (c : RequestId) where
  confirmed : (made : Event) (m : MadeAt h stock_node made) (customer : ℕ) (lines : List PricedLine) → made.body ≡ body.StockConfirmed c customer lines → IsCausedBy h stock_node made m CART_TO_STOCK (body.Reserve c customer lines)
  confirmed made m customer lines is =
      let o = cause h stock_node made lawful (omega arith) m in
      let steps = steps_at stock_node o.took.before in
      let here = subst (λ l. Member (made.link, body.StockConfirmed c customer lines) l) (answers-stock steps o.event.link o.event.body) (among-answers h stock_node made m o (body.StockConfirmed c customer lines) is) in
      let for = held_for (stock_sums steps) o.event.body made.link c customer lines here in
      caused-by h stock_node made m o CART_TO_STOCK (body.Reserve c customer lines) (came h stock_node o.event o.took (body.Reserve c customer lines) for (omega arith) tt CART_TO_STOCK refl) for

  failed : (made : Event) (m : MadeAt h stock_node made) (key : ProductKey) (rule : StockRule) → made.body ≡ body.ReserveFailed c key rule
      → (customer : ℕ) × (lines : List PricedLine) × IsCausedBy h stock_node made m CART_TO_STOCK (body.Reserve c customer lines)
  failed made m key rule is =
      let o = cause h stock_node made lawful (omega arith) m in
      let steps = steps_at stock_node o.took.before in
      let here = subst (λ l. Member (made.link, body.ReserveFailed c key rule) l) (answers-stock steps o.event.link o.event.body) (among-answers h stock_node made m o (body.ReserveFailed c key rule) is) in
      let for = refused_for (stock_sums steps) o.event.body made.link c key rule here in
      let b = body.Reserve c for.0 for.1 in
      (for.0, for.1, caused-by h stock_node made m o CART_TO_STOCK b (came h stock_node o.event o.took b for.2 (omega arith) tt CART_TO_STOCK refl) for.2)

  -- the block of a Reserve
  abbrev Answered : (n : ℕ) (event : Event) → TookAt h n event → ℕ → List PricedLine → Type 0
  Answered n event t customer lines =
      MakesJust h n event t ((STOCK_TO_ORDER, body.StockConfirmed c customer lines) ∷ [])
      ⊎ ((key : ProductKey) × (rule : StockRule) × MakesJust h n event t ((STOCK_TO_CART, body.ReserveFailed c key rule) ∷ []))

  answered : (event : Event) (customer : ℕ) (lines : List PricedLine) → event.body ≡ body.Reserve c customer lines → (t : TookAt h stock_node event) → Answered stock_node event t customer lines
  answered event customer lines is t =
      let steps = steps_at stock_node t.before in
      by (first_some (line_refusal (stock_sums steps)) lines) (answers-stock steps event.link event.body ∙ ap (stock_taken_rows (stock_sums steps)) is)
    where
      by : (o : Option (ProductKey × StockRule)) → answers (role_at stock_node) (steps_at stock_node t.before) event.link event.body ≡ reserve_rows c customer lines o → Answered stock_node event t customer lines
      by None rows = inl (makes-these h lawful stock_node (omega arith) event t ((STOCK_TO_ORDER, body.StockConfirmed c customer lines) ∷ []) rows)
      by (Some refusal) rows = inr (refusal.0, refusal.1, makes-these h lawful stock_node (omega arith) event t ((STOCK_TO_CART, body.ReserveFailed c refusal.0 refusal.1) ∷ []) rows)

  -- how stock answers
  pub stock-answers : StockAnswersHaveCauses h c
  stock-answers = record {
    confirmed_cause = λ n made m customer lines is.
        let by = made-by h lawful n made m (body.StockConfirmed c customer lines) is tt stock_node (STOCK_TO_ORDER ∷ []) refl in
        (only-link STOCK_TO_ORDER made.link by.0, made-at h made (λ n m. IsCausedBy h n made m CART_TO_STOCK (body.Reserve c customer lines)) stock_node n by.1 (λ m. confirmed made m customer lines is) m);
    failed_cause = λ n made m key rule is.
        let by = made-by h lawful n made m (body.ReserveFailed c key rule) is tt stock_node (STOCK_TO_CART ∷ []) refl in (
          only-link STOCK_TO_CART made.link by.0,
          made-at h made (λ n m. (customer : ℕ) × (lines : List PricedLine) × IsCausedBy h n made m CART_TO_STOCK (body.Reserve c customer lines)) stock_node n by.1 (λ m. failed made m key rule is) m,
        );
    makes = λ n event t customer lines on is.
        took-at h event (λ n t. Answered n event t customer lines) stock_node n (sym (ap receiver_of on) ∙ t.ready.1) (answered event customer lines is) t;
    confirmed_once = made-few h lawful stock_node (omega arith) STOCK_TO_ORDER (holds_pieces c) (held-few c);
    failed_once = made-few h lawful stock_node (omega arith) STOCK_TO_CART (ends c) (refused_few c);
  }
