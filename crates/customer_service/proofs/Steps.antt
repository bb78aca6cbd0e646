-- What one more step makes of what is counted, and of what is told.
use Rattle.std.proofs.Common.{◌≡◌, ℕ, ◌+◌, true, false, cond, ◌==◌, List, [], ◌∷◌, ◌++◌, Result, Ok, Err, OnOk, refl, ap, ◌∙◌}
use Rattle.std.proofs.Math.Logic.{∥∥₁_elim}
use Rattle.std.specs.List.{count_by, flat_map}
use Rattle.std.proofs.lemmas.Grind.{flat_map-append}
use Rattle.std.proofs.lemmas.List.{map-append, append-nil}
use Rattle.std.proofs.lemmas.List.Sums.{sum_by_push, sum_by-append}
use Rattle.market_amounts.specs.declared.keys.RequestId.{RequestId}
use Rattle.market_events.specs.declared.bodies.Body.{Body}
use Rattle.market_events.specs.declared.bodies.Body.TheVariants as body
use Rattle.market_events.specs.declared.bodies.Item.{Item}
use Rattle.market_events.specs.declared.bodies.PayRule.{PayRule}
use Rattle.market_events.specs.declared.bodies.PricedLine.{PricedLine}
use Rattle.market_events.specs.declared.links.Link.{Link}
use Rattle.market_events.specs.declared.requests.Ask.{Ask}
use Rattle.market_events.specs.declared.requests.Ask.TheVariants as ask
use Rattle.market_events.specs.declared.requests.Request.{Request}
use Rattle.market_events.specs.Customers.{confirms_for, fails_for, confirmed_count, failed_count, delivered_count, customer_sums, customer_asked, customer_rows}
use Rattle.market_events.specs.Orders.{items_in, items_taken}
use Rattle.market_events.specs.Services.{answers, fits, reactions, customer_fits}
use Rattle.market_events.specs.Standing.{CanTake}
use Rattle.market_events.specs.Steps.{Step, taken_bodies, told}
use Rattle.market_events.specs.Links.{customer_node}
use Rattle.market_events.specs.declared.replies.Reply.TheVariants as reply
use Rattle.market_events.proofs.Runs.Standing.{is_fit, reactions-fit}
use Rattle.customer_service.specs.declared.tables.Tally.{Tally}
use Rattle.customer_service.specs.Tables.{sums_at}
use Rattle.customer_service.specs.Holds.{tally_by, Holds}
use Rattle.market_events.specs.declared.roles.Role.{Role}

-- what one more body makes of what is counted of the customer
abbrev pub tally_after : Body → ℕ → Tally → Tally
tally_after b c t = record {
  confirmed = t.confirmed + cond (confirms_for c b) 1 0;
  failed = t.failed + cond (fails_for c b) 1 0;
  delivered = t.delivered + count_by (λ (i : Item). i.customer == c) (items_in b);
}

taken_bodies-push : (steps : List Step) (s : Step) → taken_bodies (steps ++ s ∷ []) ≡ taken_bodies steps ++ s.body ∷ []
taken_bodies-push steps s = map-append (λ (s : Step). s.body) steps (s ∷ [])

items_taken-push : (steps : List Step) (s : Step) → items_taken (steps ++ s ∷ []) ≡ items_taken steps ++ items_in s.body
items_taken-push steps s =
    ap (flat_map items_in) (taken_bodies-push steps s) ∙ flat_map-append items_in (taken_bodies steps) (s.body ∷ [])
    ∙ ap (λ more. items_taken steps ++ more) (append-nil (items_in s.body))

pub tally_by-push : (steps : List Step) (s : Step) (c : ℕ) → tally_by (steps ++ s ∷ []) c ≡ tally_after s.body c (tally_by steps c)
tally_by-push steps s c =
    let confirmed : confirmed_count (steps ++ s ∷ []) c ≡ confirmed_count steps c + cond (confirms_for c s.body) 1 0
    = ap (count_by (confirms_for c)) (taken_bodies-push steps s) ∙ sum_by_push (λ b. cond (confirms_for c b) 1 0) (taken_bodies steps) s.body in
    let failed : failed_count (steps ++ s ∷ []) c ≡ failed_count steps c + cond (fails_for c s.body) 1 0
    = ap (count_by (fails_for c)) (taken_bodies-push steps s) ∙ sum_by_push (λ b. cond (fails_for c b) 1 0) (taken_bodies steps) s.body in
    let delivered : delivered_count (steps ++ s ∷ []) c ≡ delivered_count steps c + count_by (λ (i : Item). i.customer == c) (items_in s.body)
    = ap (count_by (λ (i : Item). i.customer == c)) (items_taken-push steps s)
    ∙ sum_by-append (λ (i : Item). cond (i.customer == c) 1 0) (items_taken steps) (items_in s.body) in
    cc

-- a body of another kind does not fit
pub no_other : (old : List (ℕ × Tally)) (from : Link) (b : Body) → CanTake Role.Customer Holds old from b
    → ((steps : List Step) → customer_fits steps b ≡ false) → ⊥
no_other old from b can other = ∥∥₁_elim can (λ x y. absurd x) (λ it.
    let kind = (is_fit Role.Customer it.0 from b it.2).kind in
    let none = other it.0 in
    cc)

-- what is made for an input that fits
pub makes : (steps : List Step) (from : Link) (b : Body) → fits Role.Customer steps from b ≡ true
    → reactions Role.Customer steps from b ≡ customer_rows (customer_sums steps) b
unfolding answers
makes steps from b fit = reactions-fit Role.Customer steps from b fit

-- a request is answered by what is counted
pub asked_by : (old : List (ℕ × Tally)) (steps : List Step) → Holds old steps → (id : RequestId) (a : Ask)
    → customer_asked (sums_at old) id a ≡ customer_asked (customer_sums steps) id a
asked_by old steps counted id (ask.Customer c) =
    ap (λ (t : Tally). told customer_node id (reply.Customer t.confirmed t.failed t.delivered) ∷ []) (counted.each c)
asked_by old steps counted id (ask.Create key price freight) = refl
asked_by old steps counted id (ask.Price key price) = refl
asked_by old steps counted id (ask.Delete key) = refl
asked_by old steps counted id (ask.View key) = refl
asked_by old steps counted id (ask.Line customer key quantity voucher) = refl
asked_by old steps counted id (ask.Remove customer key) = refl
asked_by old steps counted id (ask.Checkout customer) = refl
asked_by old steps counted id (ask.Stock key pieces) = refl
asked_by old steps counted id (ask.Level key) = refl
asked_by old steps counted id (ask.Order checkout) = refl
asked_by old steps counted id (ask.Card customer limit) = refl
asked_by old steps counted id ask.Deliver = refl
asked_by old steps counted id (ask.Dashboard seller) = refl

-- what follows of success follows of it
pub on_ok : {T E P Q : Type 0} (r : Result T E) → (P → Q) → OnOk r P → OnOk r Q
on_ok (Ok x) f p = f p
on_ok (Err e) f p = tt

-- the other kinds of bodies
pub other_kind : (b : Body)
    → ((checkout : RequestId) (customer : ℕ) (lines : List PricedLine) (total : ℕ) → b ≡ body.Confirmed checkout customer lines total → ⊥)
    → ((checkout : RequestId) (customer : ℕ) (rule : PayRule) → b ≡ body.Failed checkout customer rule → ⊥)
    → ((items : List Item) → b ≡ body.Delivered items → ⊥)
    → ((request : Request) → b ≡ body.Asked request → ⊥)
    → (steps : List Step) → customer_fits steps b ≡ false
other_kind (body.Confirmed checkout customer lines total) confirmed failed delivered asked steps = absurd (confirmed checkout customer lines total refl)
other_kind (body.Failed checkout customer rule) confirmed failed delivered asked steps = absurd (failed checkout customer rule refl)
other_kind (body.Delivered items) confirmed failed delivered asked steps = absurd (delivered items refl)
other_kind (body.Asked request) confirmed failed delivered asked steps = absurd (asked request refl)
other_kind (body.Changed key version change) confirmed failed delivered asked steps = refl
other_kind (body.Reserve checkout customer lines) confirmed failed delivered asked steps = refl
other_kind (body.ReserveFailed checkout key rule) confirmed failed delivered asked steps = refl
other_kind (body.StockConfirmed checkout customer lines) confirmed failed delivered asked steps = refl
other_kind (body.Invoice checkout customer lines total) confirmed failed delivered asked steps = refl
other_kind (body.Ended checkout ending) confirmed failed delivered asked steps = refl
other_kind (body.Shipped checkout) confirmed failed delivered asked steps = refl
other_kind (body.Told id reply) confirmed failed delivered asked steps = refl
