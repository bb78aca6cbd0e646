-- What holds of payments after a run: an invoice is settled once, on each link by the same body.
use Rattle.std.proofs.Common.{◌≡◌, ℕ, ◌+◌, ◌≤◌, Bool, true, false, cond, nat_le, List, [], ◌∷◌, Option, Some, None, filter, count_by, refl, ap, sym, subst, ◌∙◌, arith}
use Rattle.std.specs.List.{list_any}
use Rattle.market_amounts.specs.declared.keys.RequestId.{RequestId}
use Rattle.market_events.specs.declared.bodies.Body.{Body}
use Rattle.market_events.specs.declared.bodies.Body.TheVariants as body
use Rattle.market_events.specs.declared.bodies.PayRule.{PayRule}
use Rattle.market_events.specs.declared.bodies.PayRule.TheVariants as pay
use Rattle.market_events.specs.declared.bodies.PricedLine.{PricedLine}
use Rattle.market_events.specs.declared.links.TheConstants.{PAYMENT_TO_STOCK, PAYMENT_TO_ORDER}
use Rattle.market_events.specs.declared.links.TheConstants.{PAYMENT_TO_SHIPMENT, PAYMENT_TO_CUSTOMER}
use Rattle.market_events.specs.declared.links.TheConstants.{PAYMENT_TO_SELLER}
use Rattle.market_events.specs.declared.requests.Ask.{Ask}
use Rattle.market_events.specs.declared.requests.Ask.TheVariants as ask
use Rattle.market_events.specs.Links.{payment_node, service_by_ask}
use Rattle.market_events.specs.Payments.{PaymentSums, confirmed_rows, failed_rows, invoice_rows, payment_asked, payment_rows, payment_sums}
use Rattle.market_events.specs.Requests.{same_id}
use Rattle.market_events.specs.declared.roles.Role.{Role}
use Rattle.market_events.specs.Services.{Follows, IsRunOf, role_fits, asks, invoices}
use Rattle.market_events.specs.Steps.{Step, Sending, taken_bodies, made_on}
use Rattle.market_events.specs.Stocks.{settles}
use Rattle.market_events.specs.declared.links.Link.TheVariants.{Service, Asked, Told}
use Rattle.market_events.specs.declared.links.Link.{Link}
use Rattle.market_events.proofs.Values.Lists.{not_true}
use Rattle.market_events.proofs.Steps.Payments.{answers-payment}
use Rattle.market_events.proofs.Values.Same.{same_id-true}
use Rattle.market_laws.specs.Runs.{Member, bodies_made, tells, is_payment}
use Rattle.market_laws.proofs.Runs.Counts.{on, count_on, count_all, joining-on, joining-kind, adding-on, made-is-taken, same_made, taken_once, member-taken, IsHere, told-is-asked, one, IsBetween}
use Rattle.market_laws.proofs.Runs.Causes.{made_by}

-- what holds of the answers holds of what a step makes
pub payment_makes : (P : List Sending → Body → Type 0) → ((s : PaymentSums) (b : Body) → P (payment_rows s b) b) → (before : List Step) (s : Step) → Follows Role.Payment before s → P s.made s.body
payment_makes P holds before s follows = subst (λ made. P made s.body) (sym (follows.made ∙ answers-payment before s.from s.body)) (holds (payment_sums before) s.body)

-- what holds of a payment and where there is none holds of what an invoice makes
pub invoice_cases : (P : List Sending → Type 0) (s : PaymentSums) (checkout : RequestId) (customer : ℕ) (lines : List PricedLine) (total : ℕ) → P (confirmed_rows (body.Confirmed checkout customer lines total)) → ((rule : PayRule) → P (failed_rows (body.Failed checkout customer rule)))
    → P (payment_rows s (body.Invoice checkout customer lines total))
invoice_cases P s checkout customer lines total paid unpaid = by_limit (s.limit customer)
  where
    by_test : (within : Bool) → P (cond within (confirmed_rows (body.Confirmed checkout customer lines total)) (failed_rows (body.Failed checkout customer pay.OverLimit)))
    by_test true = paid
    by_test false = unpaid pay.OverLimit

    by_limit : (limit : Option ℕ) → P (invoice_rows checkout customer lines total limit (s.spent customer))
    by_limit None = unpaid pay.NoCard
    by_limit (Some limit) = by_test (nat_le (s.spent customer + total) limit)

-- a reply goes on no service link
pub quiet-payment : (link : Link) → IsBetween link → (s : PaymentSums) (id : RequestId) (a : Ask) → on link (payment_asked s id a) ≡ []
quiet-payment (Service n) between s id (ask.Card customer limit) = refl
quiet-payment (Service n) between s id other = refl
quiet-payment (Asked lane service) never s id a = absurd never
quiet-payment (Told service lane) never s id a = absurd never

-- the same goes to stock as on this link, where it does for a payment and for none
alike : (link : Link) → IsBetween link → ((b : Body) → on link (confirmed_rows b) ≡ b ∷ []) → ((b : Body) → on link (failed_rows b) ≡ b ∷ []) → (steps : List Step) → IsRunOf Role.Payment steps → made_on PAYMENT_TO_STOCK steps ≡ made_on link steps
alike link between paid unpaid steps run = same_made Role.Payment (on PAYMENT_TO_STOCK) (on link) (joining-on PAYMENT_TO_STOCK) (joining-on link) (payment_makes (λ made b. on PAYMENT_TO_STOCK made ≡ on link made) each) steps run
  where
    each : (s : PaymentSums) (b : Body) → on PAYMENT_TO_STOCK (payment_rows s b) ≡ on link (payment_rows s b)
    each s (body.Asked request) = quiet-payment PAYMENT_TO_STOCK tt s request.id request.ask ∙ sym (quiet-payment link between s request.id request.ask)
    each s (body.Invoice checkout customer lines total) = invoice_cases (λ made. on PAYMENT_TO_STOCK made ≡ on link made) s checkout customer lines total (sym (paid (body.Confirmed checkout customer lines total))) (λ rule. sym (unpaid (body.Failed checkout customer rule)))
    each s other = refl

-- the same goes to stock, orders, customers and sellers
pub payments-to-order : (steps : List Step) → IsRunOf Role.Payment steps → made_on PAYMENT_TO_STOCK steps ≡ made_on PAYMENT_TO_ORDER steps
payments-to-order = alike PAYMENT_TO_ORDER tt (λ b. refl) (λ b. refl)

pub payments-to-customer : (steps : List Step) → IsRunOf Role.Payment steps → made_on PAYMENT_TO_STOCK steps ≡ made_on PAYMENT_TO_CUSTOMER steps
payments-to-customer = alike PAYMENT_TO_CUSTOMER tt (λ b. refl) (λ b. refl)

pub payments-to-seller : (steps : List Step) → IsRunOf Role.Payment steps → made_on PAYMENT_TO_STOCK steps ≡ made_on PAYMENT_TO_SELLER steps
payments-to-seller = alike PAYMENT_TO_SELLER tt (λ b. refl) (λ b. refl)

-- the payments that were made go to shipments
pub payments-to-shipment : (steps : List Step) → IsRunOf Role.Payment steps → made_on PAYMENT_TO_SHIPMENT steps ≡ filter is_payment (made_on PAYMENT_TO_STOCK steps)
payments-to-shipment steps run = same_made Role.Payment (on PAYMENT_TO_SHIPMENT) (λ made. filter is_payment (on PAYMENT_TO_STOCK made)) (joining-on PAYMENT_TO_SHIPMENT) (joining-kind PAYMENT_TO_STOCK is_payment) (payment_makes (λ made b. on PAYMENT_TO_SHIPMENT made ≡ filter is_payment (on PAYMENT_TO_STOCK made)) each) steps run
  where
    each : (s : PaymentSums) (b : Body) → on PAYMENT_TO_SHIPMENT (payment_rows s b) ≡ filter is_payment (on PAYMENT_TO_STOCK (payment_rows s b))
    each s (body.Asked request) = quiet-payment PAYMENT_TO_SHIPMENT tt s request.id request.ask ∙ sym (ap (filter is_payment) (quiet-payment PAYMENT_TO_STOCK tt s request.id request.ask))
    each s (body.Invoice checkout customer lines total) = invoice_cases (λ made. on PAYMENT_TO_SHIPMENT made ≡ filter is_payment (on PAYMENT_TO_STOCK made)) s checkout customer lines total refl (λ rule. refl)
    each s other = refl

-- as much is settled as invoiced
pub settles-is-invoices : (steps : List Step) → IsRunOf Role.Payment steps → (id : RequestId) → count_by (settles id) (made_on PAYMENT_TO_STOCK steps) ≡ count_by (invoices id) (taken_bodies steps)
settles-is-invoices steps run id = made-is-taken Role.Payment (count_on PAYMENT_TO_STOCK (settles id)) (λ b. cond (invoices id b) 1 0) (adding-on PAYMENT_TO_STOCK (settles id)) (payment_makes (λ made b. count_on PAYMENT_TO_STOCK (settles id) made ≡ cond (invoices id b) 1 0) each) steps run
  where
    each : (s : PaymentSums) (b : Body) → count_on PAYMENT_TO_STOCK (settles id) (payment_rows s b) ≡ cond (invoices id b) 1 0
    each s (body.Asked request) = ap (count_by (settles id)) (quiet-payment PAYMENT_TO_STOCK tt s request.id request.ask)
    each s (body.Invoice checkout customer lines total) = invoice_cases (λ made. count_on PAYMENT_TO_STOCK (settles id) made ≡ cond (same_id checkout id) 1 0) s checkout customer lines total (omega arith) (λ rule. omega arith)
    each s other = refl

-- payments tell as much as they were asked
pub payment_told-is : (steps : List Step) → IsRunOf Role.Payment steps → (id : RequestId) → count_by (tells id) (bodies_made steps) ≡ count_by (asks id) (taken_bodies steps)
payment_told-is steps run id = told-is-asked Role.Payment id (payment_makes (λ made b. IsHere Role.Payment b → count_all (tells id) made ≡ cond (asks id b) 1 0) each) steps run
  where
    asked : (s : PaymentSums) (known : RequestId) (a : Ask) → service_by_ask a ≡ payment_node → count_all (tells id) (payment_asked s known a) ≡ cond (same_id known id) 1 0
    asked s known (ask.Card customer limit) here = omega arith
    asked s known other here = absurd (omega arith)

    each : (s : PaymentSums) (b : Body) → IsHere Role.Payment b → count_all (tells id) (payment_rows s b) ≡ cond (asks id b) 1 0
    each s (body.Asked request) here = asked s request.id request.ask here
    each s (body.Invoice checkout customer lines total) here = invoice_cases (λ made. count_all (tells id) made ≡ 0) s checkout customer lines total refl (λ rule. refl)
    each s other here = refl

-- a checkout is invoiced once at most
pub invoices-once : (steps : List Step) → IsRunOf Role.Payment steps → (id : RequestId) → count_by (invoices id) (taken_bodies steps) ≤ 1
invoices-once steps run id = taken_once Role.Payment (invoices id) new steps run
  where
    new : (before : List Step) (b : Body) → role_fits Role.Payment before b ≡ true → invoices id b ≡ true → list_any (invoices id) (taken_bodies before) ≡ false
    new before (body.Invoice checkout customer lines total) fit same = ap (λ id. list_any (invoices id) (taken_bodies before)) (sym (same_id-true checkout id same)) ∙ not_true (list_any (invoices checkout) (taken_bodies before)) fit
    new before other fit same = cc

-- what settles a checkout to stock, by the invoice
abbrev IsSettledBy : Body → Body → Type 0
IsSettledBy (body.Confirmed checkout customer lines total) b = b ≡ body.Invoice checkout customer lines total
IsSettledBy (body.Failed checkout customer rule) b = (lines : List PricedLine) × (total : ℕ) × (b ≡ body.Invoice checkout customer lines total)
IsSettledBy other b = ⊥

-- what is made to stock settles an invoice
settled_by : (s : PaymentSums) (b made : Body) → on PAYMENT_TO_STOCK (payment_rows s b) ≡ made ∷ [] → IsSettledBy made b
settled_by s (body.Asked request) made is = let none = quiet-payment PAYMENT_TO_STOCK tt s request.id request.ask in cc
settled_by s (body.Invoice checkout customer lines total) made is =
    invoice_cases (λ rows. on PAYMENT_TO_STOCK rows ≡ made ∷ [] → IsSettledBy made (body.Invoice checkout customer lines total)) s checkout customer lines total
    (λ paid. subst (λ m. IsSettledBy m (body.Invoice checkout customer lines total)) (one paid) refl)
    (λ rule unpaid. subst (λ m. IsSettledBy m (body.Invoice checkout customer lines total)) (one unpaid) (lines, total, refl)) is
settled_by s other made is = cc

-- the step that made it to stock took the invoice
taken_for : (steps : List Step) (made : Body) → IsRunOf Role.Payment steps → Member made (made_on PAYMENT_TO_STOCK steps) → (b : Body) × IsSettledBy made b × Member b (taken_bodies steps)
taken_for steps made run here =
    let m = (made_by Role.Payment PAYMENT_TO_STOCK steps made run here).1 in
    (m.step.body, settled_by (payment_sums m.before) m.step.body made (sym (ap (on PAYMENT_TO_STOCK) (m.follows.made ∙ answers-payment m.before m.step.from m.step.body)) ∙ m.here), member-taken steps m.before m.step m.after m.is)

-- a payment is of an invoice that was taken
pub confirmed-invoice : (steps : List Step) → IsRunOf Role.Payment steps → (checkout : RequestId) (customer : ℕ) (lines : List PricedLine) (total : ℕ) → Member (body.Confirmed checkout customer lines total) (made_on PAYMENT_TO_STOCK steps) → Member (body.Invoice checkout customer lines total) (taken_bodies steps)
confirmed-invoice steps run checkout customer lines total here =
    let found = taken_for steps (body.Confirmed checkout customer lines total) run here in
    subst (λ b. Member b (taken_bodies steps)) found.1 found.2

-- where there is no payment, an invoice of the checkout was taken
pub failed-invoice : (steps : List Step) → IsRunOf Role.Payment steps → (checkout : RequestId) (customer : ℕ) (rule : PayRule) → Member (body.Failed checkout customer rule) (made_on PAYMENT_TO_STOCK steps) → (lines : List PricedLine) × (total : ℕ) × Member (body.Invoice checkout customer lines total) (taken_bodies steps)
failed-invoice steps run checkout customer rule here =
    let found = taken_for steps (body.Failed checkout customer rule) run here in
    (found.1.0, found.1.1, subst (λ b. Member b (taken_bodies steps)) found.1.2 found.2)
