-- What holds of orders after a run: a checkout is invoiced once for what stock holds, and ends once.
use Rattle.std.proofs.Common.{◌≡◌, ℕ, ◌+◌, ◌≤◌, Bool, true, false, cond, ◌||◌, List, [], ◌∷◌, ◌++◌, Option, Some, None, filter_map, count_by, ◌⊎◌, inl, inr, refl, ap, sym, subst, ◌∙◌, arith, append-nil, append_assoc}
use Rattle.std.specs.List.{list_any}
use Rattle.market_amounts.specs.declared.keys.RequestId.{RequestId}
use Rattle.market_events.specs.declared.bodies.Body.{Body}
use Rattle.market_events.specs.declared.bodies.Body.TheVariants as body
use Rattle.market_events.specs.declared.bodies.Ending.TheVariants as ending
use Rattle.market_events.specs.declared.bodies.PayRule.{PayRule}
use Rattle.market_events.specs.declared.bodies.PricedLine.{PricedLine}
use Rattle.market_events.specs.declared.links.TheConstants.{ORDER_TO_PAYMENT, ORDER_TO_SELLER, ORDER_TO_CART}
use Rattle.market_events.specs.declared.replies.OrderStatus.{OrderStatus}
use Rattle.market_events.specs.declared.requests.Ask.{Ask}
use Rattle.market_events.specs.declared.requests.Ask.TheVariants as ask
use Rattle.market_events.specs.Links.{order_node, service_by_ask}
use Rattle.market_events.specs.Orders.{OrderSums, checkouts_taken, is_of, is_taken, ships, order_total, order_reply_rows, order_asked, order_rows, order_sums}
use Rattle.market_events.specs.Requests.{same_id}
use Rattle.market_events.specs.declared.roles.Role.{Role}
use Rattle.market_events.specs.Services.{Follows, RunsFrom, IsRunOf, role_fits, asks, invoices, ends, is_for}
use Rattle.market_events.specs.Steps.{Step, Sending, taken_bodies, made_on}
use Rattle.market_events.specs.Stocks.{reservation_in, confirms, fails, is_settled}
use Rattle.market_events.specs.WellFormed.{total_of}
use Rattle.market_events.specs.declared.links.Link.{Link}
use Rattle.market_events.specs.declared.links.Link.TheVariants.{Service, Asked, Told}
use Rattle.market_events.proofs.Values.Lists.{and_not, or_parts, or_true, not_true, count-none, sum_by_plus}
use Rattle.market_events.proofs.Steps.Orders.{has_order-same, has_order-confirmed, order_total-same, order_total-confirmed, order_total-new}
use Rattle.market_events.proofs.Runs.Orders.{answers-order, OrderRun-of}
use Rattle.market_events.proofs.Values.Same.{same_id-true, same_id-self}
use Rattle.market_events.proofs.Steps.Taken.{taken_bodies-push, is_settled-is, fits-parts, run_has}
use Rattle.market_laws.specs.Runs.{Member, bodies_made, tells, holds_pieces}
use Rattle.market_laws.proofs.Runs.Counts.{on, count_on, count_all, joining-on, adding-on, made-is-taken, same_made, taken_once, member-taken, member-either, IsHere, told-is-asked, one, IsBetween}
use Rattle.market_laws.proofs.Runs.Causes.{MadeOn, made_by}

-- what holds of the answers holds of what a step makes
order_makes : (P : List Sending → Body → Type 0) → ((s : OrderSums) (b : Body) → P (order_rows s b) b) → (before : List Step) (s : Step) → Follows Role.Order before s → P s.made s.body
order_makes P holds before s follows = subst (λ made. P made s.body) (sym (follows.made ∙ answers-order before s.from s.body)) (holds (order_sums before) s.body)

-- a request makes nothing on a service link
pub quiet-order : (link : Link) → IsBetween link → (s : OrderSums) (id : RequestId) (a : Ask) → on link (order_asked s id a) ≡ []
quiet-order (Service n) between s id (ask.Order checkout) = by_status (s.status checkout)
  where
    by_status : (st : Option OrderStatus) → on (Service n) (order_reply_rows id st (s.total checkout)) ≡ []
    by_status None = refl
    by_status (Some st) = refl
quiet-order (Service n) between s id other = refl
quiet-order (Asked lane service) never s id a = absurd never
quiet-order (Told service lane) never s id a = absurd never

-- orders tell as much as they were asked
pub order_told-is : (steps : List Step) → IsRunOf Role.Order steps → (id : RequestId) → count_by (tells id) (bodies_made steps) ≡ count_by (asks id) (taken_bodies steps)
order_told-is steps run id = told-is-asked Role.Order id (order_makes (λ made b. IsHere Role.Order b → count_all (tells id) made ≡ cond (asks id b) 1 0) each) steps run
  where
    by_status : (known : RequestId) (st : Option OrderStatus) (total : ℕ) → count_all (tells id) (order_reply_rows known st total) ≡ cond (same_id known id) 1 0
    by_status known None total = omega arith
    by_status known (Some st) total = omega arith

    asked : (s : OrderSums) (known : RequestId) (a : Ask) → service_by_ask a ≡ order_node → count_all (tells id) (order_asked s known a) ≡ cond (same_id known id) 1 0
    asked s known (ask.Order checkout) here = by_status known (s.status checkout) (s.total checkout)
    asked s known other here = absurd (omega arith)

    each : (s : OrderSums) (b : Body) → IsHere Role.Order b → count_all (tells id) (order_rows s b) ≡ cond (asks id b) 1 0
    each s (body.Asked request) here = asked s request.id request.ask here
    each s other here = refl

-- the same goes to payments and to sellers
pub invoices-to-seller : (steps : List Step) → IsRunOf Role.Order steps → made_on ORDER_TO_PAYMENT steps ≡ made_on ORDER_TO_SELLER steps
invoices-to-seller steps run = same_made Role.Order (on ORDER_TO_PAYMENT) (on ORDER_TO_SELLER) (joining-on ORDER_TO_PAYMENT) (joining-on ORDER_TO_SELLER) (order_makes (λ made b. on ORDER_TO_PAYMENT made ≡ on ORDER_TO_SELLER made) each) steps run
  where
    each : (s : OrderSums) (b : Body) → on ORDER_TO_PAYMENT (order_rows s b) ≡ on ORDER_TO_SELLER (order_rows s b)
    each s (body.Asked request) = quiet-order ORDER_TO_PAYMENT tt s request.id request.ask ∙ sym (quiet-order ORDER_TO_SELLER tt s request.id request.ask)
    each s other = refl

-- as much is invoiced as stock holds
pub invoices-is-held : (steps : List Step) → IsRunOf Role.Order steps → (id : RequestId) → count_by (invoices id) (made_on ORDER_TO_PAYMENT steps) ≡ count_by (holds_pieces id) (taken_bodies steps)
invoices-is-held steps run id = made-is-taken Role.Order (count_on ORDER_TO_PAYMENT (invoices id)) (λ b. cond (holds_pieces id b) 1 0) (adding-on ORDER_TO_PAYMENT (invoices id)) (order_makes (λ made b. count_on ORDER_TO_PAYMENT (invoices id) made ≡ cond (holds_pieces id b) 1 0) each) steps run
  where
    each : (s : OrderSums) (b : Body) → count_on ORDER_TO_PAYMENT (invoices id) (order_rows s b) ≡ cond (holds_pieces id b) 1 0
    each s (body.Asked request) = ap (count_by (invoices id)) (quiet-order ORDER_TO_PAYMENT tt s request.id request.ask)
    each s other = omega arith

-- a checkout has an order, where stock said that it holds its pieces
pub has_order-held : (id : RequestId) (bs : List Body) → list_any (is_of id) (filter_map reservation_in bs) ≡ list_any (holds_pieces id) bs
has_order-held id [] = refl
has_order-held id (b ∷ bs) = one b (has_order-held id bs)
  where
    one : (b : Body) → list_any (is_of id) (filter_map reservation_in bs) ≡ list_any (holds_pieces id) bs → list_any (is_of id) (filter_map reservation_in (b ∷ bs)) ≡ (holds_pieces id b || list_any (holds_pieces id) bs)
    one (body.StockConfirmed checkout customer lines) rest = ap (λ c. same_id checkout id || c) rest
    one other rest = rest

-- stock says once at most that it holds a checkout's pieces
pub held-once : (steps : List Step) → IsRunOf Role.Order steps → (id : RequestId) → count_by (holds_pieces id) (taken_bodies steps) ≤ 1
held-once steps run id = taken_once Role.Order (holds_pieces id) new steps run
  where
    new : (before : List Step) (b : Body) → role_fits Role.Order before b ≡ true → holds_pieces id b ≡ true → list_any (holds_pieces id) (taken_bodies before) ≡ false
    new before (body.StockConfirmed checkout customer lines) fit same =
        ap (λ id. list_any (holds_pieces id) (taken_bodies before)) (sym (same_id-true checkout id same)) ∙ sym (has_order-held checkout (taken_bodies before)) ∙ not_true (list_any (is_of checkout) (checkouts_taken before)) fit
    new before other fit same = cc

-- a checkout is invoiced once at most
pub invoices-once : (steps : List Step) → IsRunOf Role.Order steps → (id : RequestId) → count_by (invoices id) (made_on ORDER_TO_PAYMENT steps) ≤ 1
invoices-once steps run id = omega (arith, invoices-is-held steps run id, held-once steps run id)

-- as much ends as failed and was shipped
pub ends-is : (steps : List Step) → IsRunOf Role.Order steps → (id : RequestId) → count_by (ends id) (made_on ORDER_TO_CART steps) ≡ count_by (fails id) (taken_bodies steps) + count_by (ships id) (taken_bodies steps)
ends-is steps run id =
    made-is-taken Role.Order (count_on ORDER_TO_CART (ends id)) (λ b. cond (fails id b) 1 0 + cond (ships id b) 1 0) (adding-on ORDER_TO_CART (ends id)) (order_makes (λ made b. count_on ORDER_TO_CART (ends id) made ≡ cond (fails id b) 1 0 + cond (ships id b) 1 0) each) steps run
    ∙ sum_by_plus (λ b. cond (fails id b) 1 0) (λ b. cond (ships id b) 1 0) (taken_bodies steps)
  where
    each : (s : OrderSums) (b : Body) → count_on ORDER_TO_CART (ends id) (order_rows s b) ≡ cond (fails id b) 1 0 + cond (ships id b) 1 0
    each s (body.Asked request) = ap (count_by (ends id)) (quiet-order ORDER_TO_CART tt s request.id request.ask)
    each s other = omega arith

-- a payment fails once at most
pub fails-once : (steps : List Step) → IsRunOf Role.Order steps → (id : RequestId) → count_by (fails id) (taken_bodies steps) ≤ 1
fails-once steps run id = taken_once Role.Order (fails id) new steps run
  where
    new : (before : List Step) (b : Body) → role_fits Role.Order before b ≡ true → fails id b ≡ true → list_any (fails id) (taken_bodies before) ≡ false
    new before (body.Failed checkout customer reason) fit same =
        let unsettled = (and_not (list_any (is_for checkout customer) (checkouts_taken before)) (is_settled before checkout) fit).1 in
        ap (λ id. list_any (fails id) (taken_bodies before)) (sym (same_id-true checkout id same))
        ∙ (or_parts (is_taken fails before checkout) (is_taken confirms before checkout) (sym (is_settled-is before checkout) ∙ unsettled)).0
    new before other fit same = cc

-- a checkout is shipped once at most
pub ships-once : (steps : List Step) → IsRunOf Role.Order steps → (id : RequestId) → count_by (ships id) (taken_bodies steps) ≤ 1
ships-once steps run id = taken_once Role.Order (ships id) new steps run
  where
    new : (before : List Step) (b : Body) → role_fits Role.Order before b ≡ true → ships id b ≡ true → list_any (ships id) (taken_bodies before) ≡ false
    new before (body.Shipped checkout) fit same =
        ap (λ id. list_any (ships id) (taken_bodies before)) (sym (same_id-true checkout id same)) ∙ (and_not (is_taken confirms before checkout) (is_taken ships before checkout) fit).1
    new before other fit same = cc

-- a checkout ends once at most
pub ends-once : (steps : List Step) → IsRunOf Role.Order steps → (id : RequestId) → count_by (ends id) (made_on ORDER_TO_CART steps) ≤ 1
ends-once steps run id = either (is_taken fails steps id) refl (is_taken ships steps id) refl
  where
    either : (f : Bool) → is_taken fails steps id ≡ f → (s : Bool) → is_taken ships steps id ≡ s → count_by (ends id) (made_on ORDER_TO_CART steps) ≤ 1
    either true failed true shipped =
        let at = (OrderRun-of steps run).at id in
        let unpaid = at.apart failed in
        let paid = at.paid_first shipped in
        cc
    either true failed false unshipped = omega (arith, ends-is steps run id, fails-once steps run id, count-none (ships id) (taken_bodies steps) unshipped)
    either false unfailed s is = omega (arith, ends-is steps run id, ships-once steps run id, count-none (fails id) (taken_bodies steps) unfailed)

-- what orders make to payments and to the cart, by what they took, where the totals are these
abbrev IsOrderOf : (RequestId → ℕ) → Body → Body → Type 0
IsOrderOf total (body.Invoice checkout customer lines sum) b = (b ≡ body.StockConfirmed checkout customer lines) × (sum ≡ total_of lines)
IsOrderOf total (body.Ended checkout (ending.Undone rule)) b = (customer : ℕ) × (b ≡ body.Failed checkout customer rule)
IsOrderOf total (body.Ended checkout (ending.Whole sum)) b = (b ≡ body.Shipped checkout) × (sum ≡ total checkout)
IsOrderOf total other b = ⊥

-- to payments, and to the cart
invoice_of : (s : OrderSums) (b made : Body) → on ORDER_TO_PAYMENT (order_rows s b) ≡ made ∷ [] → IsOrderOf s.total made b
invoice_of s (body.Asked request) made is = let none = quiet-order ORDER_TO_PAYMENT tt s request.id request.ask in cc
invoice_of s (body.StockConfirmed checkout customer lines) made is = subst (λ m. IsOrderOf s.total m (body.StockConfirmed checkout customer lines)) (one is) (refl, refl)
invoice_of s other made is = cc

end_of : (s : OrderSums) (b made : Body) → on ORDER_TO_CART (order_rows s b) ≡ made ∷ [] → IsOrderOf s.total made b
end_of s (body.Asked request) made is = let none = quiet-order ORDER_TO_CART tt s request.id request.ask in cc
end_of s (body.Failed checkout customer reason) made is = subst (λ m. IsOrderOf s.total m (body.Failed checkout customer reason)) (one is) (customer, refl)
end_of s (body.Shipped checkout) made is = subst (λ m. IsOrderOf s.total m (body.Shipped checkout)) (one is) (refl, refl)
end_of s other made is = cc

-- an invoice is for what stock holds, with its total
pub invoice-held : (steps : List Step) → IsRunOf Role.Order steps → (checkout : RequestId) (customer : ℕ) (lines : List PricedLine) (total : ℕ) → Member (body.Invoice checkout customer lines total) (made_on ORDER_TO_PAYMENT steps) → Member (body.StockConfirmed checkout customer lines) (taken_bodies steps) × (total ≡ total_of lines)
invoice-held steps run checkout customer lines total here =
    let m = (made_by Role.Order ORDER_TO_PAYMENT steps (body.Invoice checkout customer lines total) run here).1 in
    let is = invoice_of (order_sums m.before) m.step.body (body.Invoice checkout customer lines total) (sym (ap (on ORDER_TO_PAYMENT) (m.follows.made ∙ answers-order m.before m.step.from m.step.body)) ∙ m.here) in
    (subst (λ b. Member b (taken_bodies steps)) is.0 (member-taken steps m.before m.step m.after m.is), is.1)

-- what made an end
ended_for : (steps : List Step) → IsRunOf Role.Order steps → (made : Body) → Member made (made_on ORDER_TO_CART steps) → (xs : List Body) × (m : MadeOn Role.Order ORDER_TO_CART steps xs made) × IsOrderOf (order_total m.before) made m.step.body
ended_for steps run made here =
    let found = made_by Role.Order ORDER_TO_CART steps made run here in
    let m = found.1 in
    (found.0, m, end_of (order_sums m.before) m.step.body made (sym (ap (on ORDER_TO_CART) (m.follows.made ∙ answers-order m.before m.step.from m.step.body)) ∙ m.here))

-- a checkout that ends undone failed by this rule
pub undone-failed : (steps : List Step) → IsRunOf Role.Order steps → (checkout : RequestId) (rule : PayRule) → Member (body.Ended checkout (ending.Undone rule)) (made_on ORDER_TO_CART steps) → (customer : ℕ) × Member (body.Failed checkout customer rule) (taken_bodies steps)
undone-failed steps run checkout rule here =
    let found = ended_for steps run (body.Ended checkout (ending.Undone rule)) here in
    (found.2.0, subst (λ b. Member b (taken_bodies steps)) found.2.1 (member-taken steps found.1.before found.1.step found.1.after found.1.is))

-- a checkout that has an order keeps it, and its total
pub order_stays : (id : RequestId) (before : List Step) (s : Step) → Follows Role.Order before s → list_any (is_of id) (checkouts_taken before) ≡ true → (list_any (is_of id) (checkouts_taken (before ++ s ∷ [])) ≡ true) × (order_total (before ++ s ∷ []) id ≡ order_total before id)
order_stays id before s follows has = one_more s.body refl (fits-parts Role.Order before s.from s.body follows.fit).due
  where
    same : reservation_in s.body ≡ None → (list_any (is_of id) (checkouts_taken (before ++ s ∷ [])) ≡ true) × (order_total (before ++ s ∷ []) id ≡ order_total before id)
    same none = (has_order-same before s id none ∙ has, order_total-same before s id none)

    either : (checkout : RequestId) (lines : List PricedLine) → list_any (is_of checkout) (checkouts_taken before) ≡ false → (b : Bool) → same_id checkout id ≡ b → order_total before id + cond (same_id checkout id) (total_of lines) 0 ≡ order_total before id
    either checkout lines new true at = let none = ap (λ id. list_any (is_of id) (checkouts_taken before)) (sym (same_id-true checkout id at)) ∙ new in cc
    either checkout lines new false at = rw at (omega arith)

    one_more : (b : Body) → s.body ≡ b → role_fits Role.Order before b ≡ true → (list_any (is_of id) (checkouts_taken (before ++ s ∷ [])) ≡ true) × (order_total (before ++ s ∷ []) id ≡ order_total before id)
    one_more (body.StockConfirmed checkout customer lines) is fit = (
      has_order-confirmed before s checkout customer lines is id ∙ rw has refl,
      order_total-confirmed before s checkout customer lines is id ∙ either checkout lines (not_true (list_any (is_of checkout) (checkouts_taken before)) fit) (same_id checkout id) refl,
    )
    one_more other is fit = same (ap reservation_in is)

-- and after a run of more steps
pub total_stays : (id : RequestId) (before rest : List Step) → RunsFrom Role.Order before rest → list_any (is_of id) (checkouts_taken before) ≡ true → order_total (before ++ rest) id ≡ order_total before id
total_stays id before [] more has = ap (λ steps. order_total steps id) (append-nil before)
total_stays id before (s ∷ ss) more has =
    let now = order_stays id before s more.0 has in
    ap (λ steps. order_total steps id) (sym (append_assoc before (s ∷ []) ss)) ∙ total_stays id (before ++ s ∷ []) ss more.1 now.0 ∙ now.1

-- where stock holds these lines, there is an order with their total
abbrev HasTotal : RequestId → ℕ → List PricedLine → List Step → Type 0
HasTotal checkout customer lines steps = Member (body.StockConfirmed checkout customer lines) (taken_bodies steps) → (list_any (is_of checkout) (checkouts_taken steps) ≡ true) × (order_total steps checkout ≡ total_of lines)

-- the total of an order is that of the lines that stock holds
pub total-held : (steps : List Step) → IsRunOf Role.Order steps → (checkout : RequestId) (customer : ℕ) (lines : List PricedLine) → Member (body.StockConfirmed checkout customer lines) (taken_bodies steps) → order_total steps checkout ≡ total_of lines
total-held steps run checkout customer lines here = (run_has Role.Order (HasTotal checkout customer lines) keeps (λ here. absurd here) steps run here).1
  where
    confirmed : (before : List Step) (s : Step) → Follows Role.Order before s → s.body ≡ body.StockConfirmed checkout customer lines → (list_any (is_of checkout) (checkouts_taken (before ++ s ∷ [])) ≡ true) × (order_total (before ++ s ∷ []) checkout ≡ total_of lines)
    confirmed before s follows is =
        let fit = subst (λ b. role_fits Role.Order before b ≡ true) is (fits-parts Role.Order before s.from s.body follows.fit).due in (
          has_order-confirmed before s checkout customer lines is checkout ∙ or_true (list_any (is_of checkout) (checkouts_taken before)) (same_id checkout checkout) (same_id-self checkout),
          order_total-new before s checkout customer lines is (not_true (list_any (is_of checkout) (checkouts_taken before)) fit),
        )

    keeps : (before : List Step) (s : Step) → Follows Role.Order before s → HasTotal checkout customer lines before → HasTotal checkout customer lines (before ++ s ∷ [])
    keeps before s follows rest here = either (member-either (body.StockConfirmed checkout customer lines) (taken_bodies before) (s.body ∷ []) (subst (λ bs. Member (body.StockConfirmed checkout customer lines) bs) (taken_bodies-push before s) here))
      where
        either : Member (body.StockConfirmed checkout customer lines) (taken_bodies before) ⊎ Member (body.StockConfirmed checkout customer lines) (s.body ∷ []) → (list_any (is_of checkout) (checkouts_taken (before ++ s ∷ [])) ≡ true) × (order_total (before ++ s ∷ []) checkout ≡ total_of lines)
        either (inl earlier) = let had = rest earlier in let now = order_stays checkout before s follows had.0 in (now.0, now.1 ∙ had.1)
        either (inr (inl now)) = confirmed before s follows (sym now)
        either (inr (inr none)) = absurd none

-- a checkout that ends whole was shipped, with the total of its order
pub whole-shipped : (steps : List Step) → IsRunOf Role.Order steps → (checkout : RequestId) (total : ℕ) → Member (body.Ended checkout (ending.Whole total)) (made_on ORDER_TO_CART steps) → Member (body.Shipped checkout) (taken_bodies steps) × (total ≡ order_total steps checkout)
whole-shipped steps run checkout total here =
    let found = ended_for steps run (body.Ended checkout (ending.Whole total)) here in
    let m = found.1 in (
      subst (λ b. Member b (taken_bodies steps)) found.2.0 (member-taken steps m.before m.step m.after m.is),
      found.2.1 ∙ sym (ap (λ steps. order_total steps checkout) m.is ∙ total_stays checkout m.before (m.step ∷ m.after) (m.follows, m.rest) (has_order m.before m.run (shipped_fits m.before m.step.body found.2.0 (fits-parts Role.Order m.before m.step.from m.step.body m.follows.fit).due))),
    )
  where
    shipped_fits : (before : List Step) (b : Body) → b ≡ body.Shipped checkout → role_fits Role.Order before b ≡ true → is_taken confirms before checkout ≡ true
    shipped_fits before b is fit = (and_not (is_taken confirms before checkout) (is_taken ships before checkout) (subst (λ b. role_fits Role.Order before b ≡ true) is fit)).0

    has_order : (before : List Step) → IsRunOf Role.Order before → is_taken confirms before checkout ≡ true → list_any (is_of checkout) (checkouts_taken before) ≡ true
    has_order before run paid = either (list_any (is_of checkout) (checkouts_taken before)) refl
      where
        either : (b : Bool) → list_any (is_of checkout) (checkouts_taken before) ≡ b → list_any (is_of checkout) (checkouts_taken before) ≡ true
        either true is = is
        either false is = let at = (OrderRun-of before run).at checkout in let unpaid = at.unpaid is in cc
