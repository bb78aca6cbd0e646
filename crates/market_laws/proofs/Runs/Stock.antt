-- What holds of stock after a run: each checkout that it was sent is answered once, to the cart or to orders.
use Rattle.std.proofs.Common.{◌≡◌, ℕ, ◌+◌, ◌≤◌, Bool, true, false, cond, not, nat_lt, List, [], ◌∷◌, Option, Some, None, count_by, refl, ap, sym, subst, ◌∙◌, arith}
use Rattle.std.specs.List.{list_any, list_all}
use Rattle.market_amounts.specs.declared.keys.ProductKey.{ProductKey}
use Rattle.market_amounts.specs.declared.keys.RequestId.{RequestId}
use Rattle.market_events.specs.declared.bodies.Body.{Body}
use Rattle.market_events.specs.declared.bodies.Body.TheVariants as body
use Rattle.market_events.specs.declared.bodies.PricedLine.{PricedLine}
use Rattle.market_events.specs.declared.bodies.StockRule.{StockRule}
use Rattle.market_events.specs.declared.changes.Look.{Look}
use Rattle.market_events.specs.declared.changes.Look.TheVariants.{Unknown, Gone, Live}
use Rattle.market_events.specs.declared.links.TheConstants.{STOCK_TO_CART, STOCK_TO_ORDER}
use Rattle.market_events.specs.declared.replies.Reply.{Reply}
use Rattle.market_events.specs.declared.replies.Reply.TheVariants as reply
use Rattle.market_events.specs.declared.replies.Rule.TheVariants as rule
use Rattle.market_events.specs.declared.requests.Ask.{Ask}
use Rattle.market_events.specs.declared.requests.Ask.TheVariants as ask
use Rattle.market_events.specs.Carts.{changes_taken}
use Rattle.market_events.specs.Copies.{copy_of}
use Rattle.market_events.specs.Links.{stock_node, service_by_ask}
use Rattle.market_events.specs.Orders.{is_taken}
use Rattle.market_events.specs.Requests.{same_id}
use Rattle.market_events.specs.declared.roles.Role.{Role}
use Rattle.market_events.specs.Services.{Follows, IsRunOf, role_fits, is_known, asks, reserves, ends}
use Rattle.market_events.specs.Steps.{Step, Sending, taken_bodies, made_on, told, refused}
use Rattle.market_events.specs.Stocks.{StockSums, stock_rows, level_rows, stock_asked, reserve_rows, first_some, line_refusal, stock_taken_rows, stock_sums}
use Rattle.market_events.specs.WellFormed.{pieces_max}
use Rattle.market_events.specs.declared.links.Link.TheVariants.{Service, Asked, Told}
use Rattle.market_events.specs.declared.links.Link.{Link}
use Rattle.market_events.proofs.Values.Lists.{and_both, not_true}
use Rattle.market_events.proofs.Values.Same.{same_id-true}
use Rattle.market_events.proofs.Runs.Stock.{answers-stock}
use Rattle.market_laws.specs.Runs.{Member, bodies_made, tells, holds_pieces}
use Rattle.market_laws.proofs.Runs.Counts.{on, count_on, count_all, adding-on, adding-both, made-is-taken, taken_once, member-taken, IsHere, told-is-asked, one, IsBetween}
use Rattle.market_laws.proofs.Runs.Causes.{made_by}

-- what holds of the answers holds of what a step makes
stock_makes : (P : List Sending → Body → Type 0) → ((s : StockSums) (b : Body) → P (stock_taken_rows s b) b) → (before : List Step) (s : Step) → Follows Role.Stock before s → P s.made s.body
stock_makes P holds before s follows = subst (λ made. P made s.body) (sym (follows.made ∙ answers-stock before s.from s.body)) (holds (stock_sums before) s.body)

-- what holds of nothing, where the request is not for stock, and of one reply, holds of what a request makes
asked_cases : (P : List Sending → Type 0) (s : StockSums) (id : RequestId) (a : Ask) → ((service_by_ask a ≡ stock_node → ⊥) → P []) → ((r : Reply) → P (told stock_node id r ∷ [])) → P (stock_asked s id a)
asked_cases P s id (ask.Stock key pieces) nothing tell = stocks (s.look key) (s.on_hand key)
  where
    by_room : (over : Bool) (here : ℕ) → P (cond over (refused stock_node id rule.StockOver) (told stock_node id (reply.Stocked here) ∷ []))
    by_room true here = tell (reply.Refused rule.StockOver)
    by_room false here = tell (reply.Stocked here)

    stocks : (look : Look) (here : ℕ) → P (stock_rows id pieces look here)
    stocks Unknown here = tell (reply.Refused rule.Unknown)
    stocks (Gone v) here = tell (reply.Refused rule.Gone)
    stocks (Live v price freight) here = by_room (nat_lt pieces_max (here + pieces)) (here + pieces)
asked_cases P s id (ask.Level key) nothing tell = levels (s.look key)
  where
    levels : (look : Look) → P (level_rows id look (s.on_hand key) (s.reserved key))
    levels Unknown = tell (reply.Refused rule.Unknown)
    levels (Gone v) = tell (reply.Level (s.on_hand key) (s.reserved key))
    levels (Live v price freight) = tell (reply.Level (s.on_hand key) (s.reserved key))
asked_cases P s id other nothing tell = nothing (λ here. absurd (omega arith))

-- a request makes nothing on a service link
quiet : (link : Link) → IsBetween link → (s : StockSums) (id : RequestId) (a : Ask) → on link (stock_asked s id a) ≡ []
quiet (Asked lane service) never s id a = absurd never
quiet (Told service lane) never s id a = absurd never
quiet (Service n) between s id a = asked_cases (λ made. on (Service n) made ≡ []) s id a (λ elsewhere. refl) (λ r. refl)

-- stock tells as much as it was asked
pub stock_told-is : (steps : List Step) → IsRunOf Role.Stock steps → (id : RequestId) → count_by (tells id) (bodies_made steps) ≡ count_by (asks id) (taken_bodies steps)
stock_told-is steps run id = told-is-asked Role.Stock id (stock_makes (λ made b. IsHere Role.Stock b → count_all (tells id) made ≡ cond (asks id b) 1 0) each) steps run
  where
    answer : (checkout : RequestId) (customer : ℕ) (lines : List PricedLine) (refusal : Option (ProductKey × StockRule)) → count_all (tells id) (reserve_rows checkout customer lines refusal) ≡ 0
    answer checkout customer lines None = refl
    answer checkout customer lines (Some refusal) = refl

    each : (s : StockSums) (b : Body) → IsHere Role.Stock b → count_all (tells id) (stock_taken_rows s b) ≡ cond (asks id b) 1 0
    each s (body.Asked request) here = asked_cases (λ made. count_all (tells id) made ≡ cond (same_id request.id id) 1 0) s request.id request.ask (λ elsewhere. absurd (elsewhere here)) (λ r. omega arith)
    each s (body.Reserve checkout customer lines) here = answer checkout customer lines (first_some (line_refusal s) lines)
    each s other here = refl

-- each checkout that stock was sent is answered once
pub answered-is : (steps : List Step) → IsRunOf Role.Stock steps → (id : RequestId) → count_by (holds_pieces id) (made_on STOCK_TO_ORDER steps) + count_by (ends id) (made_on STOCK_TO_CART steps) ≡ count_by (reserves id) (taken_bodies steps)
answered-is steps run id =
    made-is-taken Role.Stock (λ made. count_on STOCK_TO_ORDER (holds_pieces id) made + count_on STOCK_TO_CART (ends id) made) (λ b. cond (reserves id b) 1 0) (adding-both (adding-on STOCK_TO_ORDER (holds_pieces id)) (adding-on STOCK_TO_CART (ends id)))
    (stock_makes (λ made b. count_on STOCK_TO_ORDER (holds_pieces id) made + count_on STOCK_TO_CART (ends id) made ≡ cond (reserves id b) 1 0) each) steps run
  where
    answer : (checkout : RequestId) (customer : ℕ) (lines : List PricedLine) (refusal : Option (ProductKey × StockRule)) → count_on STOCK_TO_ORDER (holds_pieces id) (reserve_rows checkout customer lines refusal) + count_on STOCK_TO_CART (ends id) (reserve_rows checkout customer lines refusal) ≡ cond (same_id checkout id) 1 0
    answer checkout customer lines None = omega arith
    answer checkout customer lines (Some refusal) = omega arith

    each : (s : StockSums) (b : Body) → count_on STOCK_TO_ORDER (holds_pieces id) (stock_taken_rows s b) + count_on STOCK_TO_CART (ends id) (stock_taken_rows s b) ≡ cond (reserves id b) 1 0
    each s (body.Asked request) = asked_cases (λ made. count_on STOCK_TO_ORDER (holds_pieces id) made + count_on STOCK_TO_CART (ends id) made ≡ 0) s request.id request.ask (λ elsewhere. refl) (λ r. refl)
    each s (body.Reserve checkout customer lines) = answer checkout customer lines (first_some (line_refusal s) lines)
    each s other = refl

-- a checkout is sent once at most
pub reserves-once : (steps : List Step) → IsRunOf Role.Stock steps → (id : RequestId) → count_by (reserves id) (taken_bodies steps) ≤ 1
reserves-once steps run id = taken_once Role.Stock (reserves id) new steps run
  where
    new : (before : List Step) (b : Body) → role_fits Role.Stock before b ≡ true → reserves id b ≡ true → list_any (reserves id) (taken_bodies before) ≡ false
    new before (body.Reserve checkout customer lines) fit same =
        let both = and_both (not (is_taken reserves before checkout)) (list_all (λ (line : PricedLine). is_known (copy_of (changes_taken before) line.key)) lines) fit in
        ap (λ id. list_any (reserves id) (taken_bodies before)) (sym (same_id-true checkout id same)) ∙ not_true (list_any (reserves checkout) (taken_bodies before)) both.0
    new before other fit same = cc

-- what holds a checkout's pieces, or not, by what was sent
abbrev IsAnswerTo : Body → Body → Type 0
IsAnswerTo (body.StockConfirmed checkout customer lines) b = b ≡ body.Reserve checkout customer lines
IsAnswerTo (body.ReserveFailed checkout key rule) b = (customer : ℕ) × (lines : List PricedLine) × (b ≡ body.Reserve checkout customer lines)
IsAnswerTo other b = ⊥

-- what is made on a link answers a checkout that was sent, where what a checkout makes there does
answer_to : (link : Link) → IsBetween link → ((checkout : RequestId) (customer : ℕ) (lines : List PricedLine) (refusal : Option (ProductKey × StockRule)) (made : Body) → on link (reserve_rows checkout customer lines refusal) ≡ made ∷ [] → IsAnswerTo made (body.Reserve checkout customer lines))
    → (s : StockSums) (b made : Body) → on link (stock_taken_rows s b) ≡ made ∷ [] → IsAnswerTo made b
answer_to link between answer s (body.Asked request) made is = let none = quiet link between s request.id request.ask in cc
answer_to link between answer s (body.Reserve checkout customer lines) made is = answer checkout customer lines (first_some (line_refusal s) lines) made is
answer_to link between answer s other made is = cc

-- to orders, and to the cart
held : (checkout : RequestId) (customer : ℕ) (lines : List PricedLine) (refusal : Option (ProductKey × StockRule)) (made : Body) → on STOCK_TO_ORDER (reserve_rows checkout customer lines refusal) ≡ made ∷ [] → IsAnswerTo made (body.Reserve checkout customer lines)
held checkout customer lines None made is = subst (λ m. IsAnswerTo m (body.Reserve checkout customer lines)) (one is) refl
held checkout customer lines (Some refusal) made is = cc

failed : (checkout : RequestId) (customer : ℕ) (lines : List PricedLine) (refusal : Option (ProductKey × StockRule)) (made : Body) → on STOCK_TO_CART (reserve_rows checkout customer lines refusal) ≡ made ∷ [] → IsAnswerTo made (body.Reserve checkout customer lines)
failed checkout customer lines None made is = cc
failed checkout customer lines (Some refusal) made is = subst (λ m. IsAnswerTo m (body.Reserve checkout customer lines)) (one is) (customer, lines, refl)

-- the step that made it took the checkout
answered_for : (link : Link) → ((s : StockSums) (b made : Body) → on link (stock_taken_rows s b) ≡ made ∷ [] → IsAnswerTo made b) → (steps : List Step) (made : Body) → IsRunOf Role.Stock steps → Member made (made_on link steps) → (b : Body) × IsAnswerTo made b × Member b (taken_bodies steps)
answered_for link answers steps made run here =
    let m = (made_by Role.Stock link steps made run here).1 in
    (m.step.body, answers (stock_sums m.before) m.step.body made (sym (ap (on link) (m.follows.made ∙ answers-stock m.before m.step.from m.step.body)) ∙ m.here), member-taken steps m.before m.step m.after m.is)

-- pieces are held for a checkout that was sent with these lines
pub held-reserve : (steps : List Step) → IsRunOf Role.Stock steps → (checkout : RequestId) (customer : ℕ) (lines : List PricedLine) → Member (body.StockConfirmed checkout customer lines) (made_on STOCK_TO_ORDER steps) → Member (body.Reserve checkout customer lines) (taken_bodies steps)
held-reserve steps run checkout customer lines here =
    let found = answered_for STOCK_TO_ORDER (answer_to STOCK_TO_ORDER tt held) steps (body.StockConfirmed checkout customer lines) run here in
    subst (λ b. Member b (taken_bodies steps)) found.1 found.2

-- pieces are refused to a checkout that was sent
pub failed-reserve : (steps : List Step) → IsRunOf Role.Stock steps → (checkout : RequestId) (key : ProductKey) (rule : StockRule) → Member (body.ReserveFailed checkout key rule) (made_on STOCK_TO_CART steps) → (customer : ℕ) × (lines : List PricedLine) × Member (body.Reserve checkout customer lines) (taken_bodies steps)
failed-reserve steps run checkout key rule here =
    let found = answered_for STOCK_TO_CART (answer_to STOCK_TO_CART tt failed) steps (body.ReserveFailed checkout key rule) run here in
    (found.1.0, found.1.1, subst (λ b. Member b (taken_bodies steps)) found.1.2 found.2)
