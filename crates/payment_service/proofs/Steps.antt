-- What one more step makes of accounts.
use Rattle.std.proofs.Common.{◌≡◌, ℕ, ◌+◌, Bool, true, false, ◌==◌, nat_le, List, Option, Some, None, Ok, Err, filter_map, if◌then◌else◌, sum_by, refl, ap, ap₂, sym, ◌∙◌, arith}
use Rattle.std.specs.Option.{option_or}
use Rattle.std.proofs.lemmas.Bool.{eqb-true, eq-eqb}
use Rattle.market_amounts.specs.declared.keys.RequestId.{RequestId}
use Rattle.market_events.specs.declared.bodies.Body.{Body}
use Rattle.market_events.specs.declared.bodies.Body.TheVariants as body
use Rattle.market_events.specs.declared.bodies.PayRule.TheVariants as pay
use Rattle.market_events.specs.declared.bodies.PricedLine.{PricedLine}
use Rattle.market_events.specs.declared.links.Link.{Link}
use Rattle.market_events.specs.declared.links.TheConstants.{PAYMENT_TO_STOCK}
use Rattle.market_events.specs.declared.requests.Ask.{Ask}
use Rattle.market_events.specs.declared.requests.Ask.TheVariants as ask
use Rattle.market_events.specs.Payments as payments
use Rattle.market_events.specs.Payments.{total_paid, confirmed_rows, failed_rows, invoice_rows, payment_asked, payment_rows, payment_sums}
use Rattle.market_events.specs.Services.{fits, reactions}
use Rattle.market_events.specs.Standing.{step_of, with_step}
use Rattle.market_events.specs.Steps.{Step, Sending, body_on}
use Rattle.market_events.proofs.Steps.Payments.{limit_of-push, spent-push, answers-payment}
use Rattle.market_events.proofs.Runs.Standing.{reactions-fit}
use Rattle.payment_service.specs.declared.tables.Account.{Account}
use Rattle.payment_service.specs.Tables.{spent_in, account_at, limit_at, spent_at, sums_at, left_by, billed, account_after, limit_held}
use Rattle.payment_service.specs.Holds.{Holds}
use Rattle.market_events.specs.declared.roles.Role.{Role}

-- what is spent of the customer's by what is made
abbrev pub paid_in : ℕ → List Sending → ℕ
paid_in customer made = sum_by (total_paid customer) (filter_map (body_on PAYMENT_TO_STOCK) made)

-- what is made is the same by the entries and by the steps
rows_same : (old : List (ℕ × Account)) (steps : List Step) → Holds old steps → (b : Body) → payment_rows (sums_at old) b ≡ payment_rows (payment_sums steps) b
rows_same old steps held (body.Asked request) = asked request.ask
  where
    asked : (a : Ask) → payment_asked (sums_at old) request.id a ≡ payment_asked (payment_sums steps) request.id a
    asked (ask.Card customer limit) = refl
    asked other = refl
rows_same old steps held (body.Invoice checkout customer lines total) = ap₂ (invoice_rows checkout customer lines total) (held.limits customer) (held.spent customer)
rows_same old steps held other = refl

-- an invoice changes no limit
billed_limit : (total : ℕ) (before : Option Account) → limit_held (billed total before) ≡ limit_held before
billed_limit total None = refl
billed_limit total (Some account) = either (nat_le (account.spent + total) account.limit)
  where
    either : (b : Bool) → limit_held (left_by (Some account) (if b then Ok (record { limit = account.limit; spent = account.spent + total }) else Err pay.OverLimit)) ≡ Some account.limit
    either true = refl
    either false = refl

-- the limit is that of the body, where it sets one
limit_after : (customer : ℕ) (b : Body) (before : Option Account) → limit_held (account_after customer b before) ≡ option_or (payments.limit_in customer b) (limit_held before)
limit_after customer (body.Asked request) before = asked request.ask
  where
    set : (b : Bool) (limit : ℕ) → limit_held (if b then Some (record { limit = limit; spent = spent_in before }) else before) ≡ option_or (if b then Some limit else None) (limit_held before)
    set true limit = refl
    set false limit = refl

    asked : (a : Ask) → limit_held (account_after customer (body.Asked (record { id = request.id; ask = a })) before) ≡ option_or (payments.limit_asked customer a) (limit_held before)
    asked (ask.Card c limit) = set (c == customer) limit
    asked other = refl
limit_after customer (body.Invoice checkout c lines total) before = either (c == customer)
  where
    either : (b : Bool) → limit_held (if b then billed total before else before) ≡ limit_held before
    either true = billed_limit total before
    either false = refl
limit_after customer other before = refl

-- a payment of another customer
pub paid_other : (customer : ℕ) (checkout : RequestId) (c : ℕ) (lines : List PricedLine) (total : ℕ) (limit : Option ℕ) (before : ℕ) → (c == customer) ≡ false
    → paid_in customer (invoice_rows checkout c lines total limit before) ≡ 0
paid_other customer checkout c lines total None before other = refl
paid_other customer checkout c lines total (Some limit) before other = either (nat_le (before + total) limit)
  where
    either : (b : Bool) → paid_in customer (if b then confirmed_rows (body.Confirmed checkout c lines total) else failed_rows (body.Failed checkout c pay.OverLimit)) ≡ 0
    either true = rw other refl
    either false = refl

-- what a customer spent grows by the payment of an invoice
spent_billed : (customer : ℕ) (checkout : RequestId) (lines : List PricedLine) (total : ℕ) (before : Option Account)
    → spent_in (billed total before) ≡ spent_in before + paid_in customer (invoice_rows checkout customer lines total (limit_held before) (spent_in before))
spent_billed customer checkout lines total None = refl
spent_billed customer checkout lines total (Some account) = either (nat_le (account.spent + total) account.limit)
  where
    either : (b : Bool) → spent_in (left_by (Some account) (if b then Ok (record { limit = account.limit; spent = account.spent + total }) else Err pay.OverLimit))
        ≡ account.spent + paid_in customer (if b then confirmed_rows (body.Confirmed checkout customer lines total) else failed_rows (body.Failed checkout customer pay.OverLimit))
    either true = rw (eq-eqb customer customer refl) (omega arith)
    either false = omega arith

-- what a customer spent grows by the payments that are made
spent_after : (old : List (ℕ × Account)) (customer : ℕ) (b : Body)
    → spent_in (account_after customer b (account_at old customer)) ≡ spent_at old customer + paid_in customer (payment_rows (sums_at old) b)
spent_after old customer (body.Asked request) = asked request.ask
  where
    set : (b : Bool) (limit : ℕ) (before : Option Account) → spent_in (if b then Some (record { limit = limit; spent = spent_in before }) else before) ≡ spent_in before + 0
    set true limit before = omega arith
    set false limit before = omega arith

    asked : (a : Ask) → spent_in (account_after customer (body.Asked (record { id = request.id; ask = a })) (account_at old customer))
        ≡ spent_at old customer + paid_in customer (payment_asked (sums_at old) request.id a)
    asked (ask.Card c limit) = set (c == customer) limit (account_at old customer)
    asked other = omega arith
spent_after old customer (body.Invoice checkout c lines total) = either (c == customer) refl
  where
    either : (b : Bool) → (c == customer) ≡ b
        → spent_in (if b then billed total (account_at old customer) else account_at old customer)
        ≡ spent_at old customer + paid_in customer (invoice_rows checkout c lines total (limit_at old c) (spent_at old c))
    either true same =
        spent_billed customer checkout lines total (account_at old customer)
        ∙ ap (λ c. spent_at old customer + paid_in customer (invoice_rows checkout c lines total (limit_at old c) (spent_at old c))) (sym (eqb-true c customer same))
    either false other = omega (arith, paid_other customer checkout c lines total (limit_at old c) (spent_at old c) other)
spent_after old customer other = omega arith

-- what is made for an input that fits
pub makes : (old : List (ℕ × Account)) (steps : List Step) (from : Link) (b : Body) → Holds old steps → fits Role.Payment steps from b ≡ true
    → payment_rows (sums_at old) b ≡ reactions Role.Payment steps from b
makes old steps from b held fit = rows_same old steps held b ∙ sym (reactions-fit Role.Payment steps from b fit ∙ answers-payment steps from b)

-- what a body leaves of the entries holds the steps with this one
pub holds_on : (old new : List (ℕ × Account)) (steps : List Step) (from : Link) (b : Body) → Holds old steps
    → ((c : ℕ) → account_at new c ≡ account_after c b (account_at old c)) → Holds new (with_step Role.Payment steps from b)
holds_on old new steps from b held each = record {
  limits = λ c.
      ap limit_held (each c) ∙ limit_after c b (account_at old c) ∙ ap (option_or (payments.limit_in c b)) (held.limits c)
      ∙ sym (limit_of-push steps (step_of Role.Payment steps from b) c);
  spent = λ c.
      ap spent_in (each c) ∙ spent_after old c b
      ∙ ap₂ (λ n made. n + paid_in c made) (held.spent c) (rows_same old steps held b ∙ sym (answers-payment steps from b))
      ∙ sym (spent-push steps (step_of Role.Payment steps from b) c);
}
