-- After a run of payments, what was settled is what was invoiced, in the same order (payments-settled): so the reservations that
-- were paid are just those that a test of them picks (paid-picked), and those that were not paid the others (unpaid-others).
use Rattle.std.proofs.Common.{◌≡◌, ℕ, Bool, true, false, cond, not, List, [], ◌∷◌, ◌++◌, Option, Some, None, filter, filter_map, inl, inr, refl, ap, sym, ◌∙◌, subst}
use Rattle.std.specs.List.{flat_map}
use Rattle.std.proofs.lemmas.List.Elements.{filter_map-append}
use Rattle.market_amounts.specs.declared.keys.RequestId.{RequestId}
use Rattle.market_events.specs.declared.bodies.Body.{Body}
use Rattle.market_events.specs.declared.bodies.Body.TheVariants as body
use Rattle.market_events.specs.declared.bodies.PayRule.{PayRule}
use Rattle.market_events.specs.declared.links.TheConstants.{PAYMENT_TO_STOCK}
use Rattle.market_events.specs.Orders.{is_of}
use Rattle.market_events.specs.Payments.{PaymentSums, payment_rows}
use Rattle.market_events.specs.declared.roles.Role.{Role}
use Rattle.market_events.specs.Services.{Follows, IsRunOf}
use Rattle.market_events.specs.Steps.{Step, taken_bodies, made_on}
use Rattle.market_events.specs.Stocks.{Reservation}
use Rattle.market_events.proofs.Steps.SellerEntries.{invoice_in}
use Rattle.market_events.proofs.Steps.Taken.{taken_bodies-push, made_on-push, run_has}
use Rattle.market_history.specs.Book.{paid_in}
use Rattle.market_laws.specs.Runs.{Member}
use Rattle.market_laws.proofs.Runs.Counts.{on}
use Rattle.market_laws.proofs.Runs.Payments.{payment_makes, invoice_cases, quiet-payment}

-- each of these was paid or was not, in this order
pub data AreSettled : List Reservation → List Body → Type 0 where
  none : AreSettled [] []
  paid : (r : Reservation) (total : ℕ) {rs : List Reservation} {bs : List Body} → AreSettled rs bs → AreSettled (r ∷ rs) (body.Confirmed r.checkout r.customer r.lines total ∷ bs)
  failed : (r : Reservation) (rule : PayRule) {rs : List Reservation} {bs : List Body} → AreSettled rs bs → AreSettled (r ∷ rs) (body.Failed r.checkout r.customer rule ∷ bs)

settled-append : {rs ss : List Reservation} {bs cs : List Body} → AreSettled rs bs → AreSettled ss cs → AreSettled (rs ++ ss) (bs ++ cs)
settled-append none more = more
settled-append (paid r total first) more = paid r total (settled-append first more)
settled-append (failed r rule first) more = failed r rule (settled-append first more)

-- each step settles what it takes
pub payments-settled : (steps : List Step) → IsRunOf Role.Payment steps → AreSettled (filter_map invoice_in (taken_bodies steps)) (made_on PAYMENT_TO_STOCK steps)
payments-settled steps run = run_has Role.Payment (λ steps. AreSettled (filter_map invoice_in (taken_bodies steps)) (made_on PAYMENT_TO_STOCK steps)) keeps none steps run
  where
    each : (s : PaymentSums) (b : Body) → AreSettled (filter_map invoice_in (b ∷ [])) (on PAYMENT_TO_STOCK (payment_rows s b))
    each s (body.Asked request) = subst (λ bs. AreSettled [] bs) (sym (quiet-payment PAYMENT_TO_STOCK tt s request.id request.ask)) none
    each s (body.Invoice checkout customer lines total) =
        let r : Reservation = record { checkout = checkout; customer = customer; lines = lines } in
        invoice_cases (λ made. AreSettled (r ∷ []) (on PAYMENT_TO_STOCK made)) s checkout customer lines total (paid r total none) (λ rule. failed r rule none)
    each s other = none

    keeps : (before : List Step) (s : Step) → Follows Role.Payment before s → AreSettled (filter_map invoice_in (taken_bodies before)) (made_on PAYMENT_TO_STOCK before) → AreSettled (filter_map invoice_in (taken_bodies (before ++ s ∷ []))) (made_on PAYMENT_TO_STOCK (before ++ s ∷ []))
    keeps before s follows rest =
        subst (λ rs. AreSettled rs (made_on PAYMENT_TO_STOCK (before ++ s ∷ []))) (sym (ap (filter_map invoice_in) (taken_bodies-push before s) ∙ filter_map-append invoice_in (taken_bodies before) (s.body ∷ [])))
        (subst (λ bs. AreSettled (filter_map invoice_in (taken_bodies before) ++ filter_map invoice_in (s.body ∷ [])) bs) (sym (made_on-push PAYMENT_TO_STOCK before s))
        (settled-append rest (payment_makes (λ made b. AreSettled (filter_map invoice_in (b ∷ [])) (on PAYMENT_TO_STOCK made)) each before s follows)))

-- the checkout that was not paid
abbrev pub failed_in : Body → Option RequestId
failed_in (body.Failed checkout customer rule) = Some checkout
failed_in other = None

-- the test holds of what was paid, and fails of what was not
pub record Picks (picks : Reservation → Bool) (bs : List Body) : Type 0 where
  pub yes : (r : Reservation) (total : ℕ) → Member (body.Confirmed r.checkout r.customer r.lines total) bs → picks r ≡ true
  pub no : (r : Reservation) (rule : PayRule) → Member (body.Failed r.checkout r.customer rule) bs → picks r ≡ false

pub picks-later : {picks : Reservation → Bool} {b : Body} {bs : List Body} → Picks picks (b ∷ bs) → Picks picks bs
picks-later p = record { yes = λ r total here. p.yes r total (inr here); no = λ r rule here. p.no r rule (inr here) }

module _ (picks : Reservation → Bool) where
  pub paid-picked : {rs : List Reservation} {bs : List Body} → AreSettled rs bs → Picks picks bs → filter_map paid_in bs ≡ filter picks rs
  paid-picked none p = refl
  paid-picked (paid r total {rs = rs} {bs = bs} rest) p =
      ap (λ l. r ∷ l) (paid-picked rest (picks-later p)) ∙ ap (λ b. cond b (r ∷ filter picks rs) (filter picks rs)) (sym (p.yes r total (inl refl)))
  paid-picked (failed r rule {rs = rs} {bs = bs} rest) p =
      paid-picked rest (picks-later p) ∙ ap (λ b. cond b (r ∷ filter picks rs) (filter picks rs)) (sym (p.no r rule (inl refl)))

  -- each of these stands once among all
  pub unpaid-others : (all : List Reservation) {rs : List Reservation} {bs : List Body} → AreSettled rs bs → Picks picks bs → ((r : Reservation) → Member r rs → filter (is_of r.checkout) all ≡ r ∷ [])
      → flat_map (λ id. filter (is_of id) all) (filter_map failed_in bs) ≡ filter (λ r. not (picks r)) rs
  unpaid-others all none p once = refl
  unpaid-others all (paid r total {rs = rs} {bs = bs} rest) p once =
      unpaid-others all rest (picks-later p) (λ q here. once q (inr here))
      ∙ ap (λ b. cond (not b) (r ∷ filter (λ q. not (picks q)) rs) (filter (λ q. not (picks q)) rs)) (sym (p.yes r total (inl refl)))
  unpaid-others all (failed r rule {rs = rs} {bs = bs} rest) p once =
      (λ i. once r (inl refl) i ++ unpaid-others all rest (picks-later p) (λ q here. once q (inr here)) i)
      ∙ ap (λ b. cond (not b) (r ∷ filter (λ q. not (picks q)) rs) (filter (λ q. not (picks q)) rs)) (sym (p.no r rule (inl refl)))
