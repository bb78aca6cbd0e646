-- How payments are made: a Confirmed or a Failed on each link, once, in the block of the Invoice; sellers took the invoice before.
use Rattle.std.proofs.Common.{◌≡◌, ℕ, ◌≤◌, ◌==◌, ◌&&◌, not, true, List, ◌⊎◌, count_by, eqb-true, inl, inr, refl, ap, sym, ◌∙◌, subst, arith}
use Rattle.std.specs.List.{list_any}
use Rattle.market_amounts.specs.declared.keys.RequestId.{RequestId}
use Rattle.market_events.specs.declared.bodies.Body.{Body}
use Rattle.market_events.specs.declared.bodies.Body.TheVariants as body
use Rattle.market_events.specs.declared.bodies.PayRule.{PayRule}
use Rattle.market_events.specs.declared.bodies.PricedLine.{PricedLine}
use Rattle.market_events.specs.declared.events.Event.{Event}
use Rattle.market_events.specs.declared.links.Link.{Link}
use Rattle.market_events.specs.declared.links.TheConstants.{ORDER_TO_PAYMENT, ORDER_TO_SELLER, PAYMENT_TO_STOCK, PAYMENT_TO_ORDER, PAYMENT_TO_SHIPMENT, PAYMENT_TO_CUSTOMER, PAYMENT_TO_SELLER}
use Rattle.market_events.specs.declared.requests.Ask.{Ask}
use Rattle.market_events.specs.declared.requests.Ask.TheVariants as ask
use Rattle.market_events.specs.Links.{receiver_of, payment_node, seller_node}
use Rattle.market_events.specs.Payments.{PaymentSums, payment_sums, payment_rows, payment_asked, confirmed_rows, failed_rows}
use Rattle.market_events.specs.Requests.{same_id}
use Rattle.market_events.specs.declared.roles.Role.{Role}
use Rattle.market_events.specs.Services.{IsRunOf, answers, role_fits, invoices_for, invoices_lines}
use Rattle.market_events.specs.Steps.{Step, made_on, same_lines, taken_bodies}
use Rattle.market_events.specs.Stocks.{confirms, fails, settles, is_settled}
use Rattle.market_events.proofs.Values.Lists.{and_both}
use Rattle.market_events.proofs.Steps.Payments.{answers-payment}
use Rattle.market_events.proofs.Values.Same.{same_id-true, same_id-self, same_lines-true}
use Rattle.market_history.specs.Blocks.{role_at}
use Rattle.market_history.specs.Histories.{Histories}
use Rattle.market_history.specs.Lawful.{IsLawful}
use Rattle.market_laws.specs.Causes.{HasTaken, IsCausedBy, MakesJust, on_each, PaymentsHaveCauses, failure_links, payment_links}
use Rattle.market_laws.specs.Cuts.{steps_at, TookAt, MadeAt}
use Rattle.market_laws.specs.Runs.{Member, is_payment}
use Rattle.market_laws.proofs.Causes.Blocks.{due-here, made-few, not-among, same-body, makes-these, among-answers, caused-by, made-by, has-taken, made-at, took-at}
use Rattle.market_laws.proofs.Causes.Replies.{AllTold, told-member}
use Rattle.market_laws.proofs.Origins.Causes.{cause}
use Rattle.market_laws.proofs.Origins.Once.{TookBefore, taken-before-any}
use Rattle.market_laws.proofs.Fits.KindsOnLinks.{came}
use Rattle.market_laws.proofs.Fits.Shipments.{settles-few}
use Rattle.market_laws.proofs.Runs.Payments.{invoice_cases, payments-to-order, payments-to-shipment, payments-to-customer, payments-to-seller}
use Rattle.market_laws.proofs.Causes.Counts.{count-filter}

-- payments answer a request by telling a lane
payment_tells : (s : PaymentSums) (id : RequestId) (a : Ask) → AllTold (payment_asked s id a)
payment_tells s id (ask.Card customer limit) = (tt, tt)
payment_tells s id other = tt

-- they confirm an invoice alone
paid_for : (s : PaymentSums) (b : Body) (link : Link) (c : RequestId) (customer : ℕ) (lines : List PricedLine) (total : ℕ) → Member (link, body.Confirmed c customer lines total) (payment_rows s b)
    → b ≡ body.Invoice c customer lines total
paid_for s (body.Asked request) link c customer lines total here =
    absurd (told-member (payment_asked s request.id request.ask) (link, body.Confirmed c customer lines total) (payment_tells s request.id request.ask) here)
paid_for s (body.Invoice id buyer ls sum) link c customer lines total here =
    invoice_cases (λ rows. Member (link, body.Confirmed c customer lines total) rows → body.Invoice id buyer ls sum ≡ body.Invoice c customer lines total) s id buyer ls sum paid unpaid here
  where
    paid : Member (link, body.Confirmed c customer lines total) (confirmed_rows (body.Confirmed id buyer ls sum)) → body.Invoice id buyer ls sum ≡ body.Invoice c customer lines total
    paid here =
        let same : body.Confirmed c customer lines total ≡ body.Confirmed id buyer ls sum = same-body payment_links (body.Confirmed id buyer ls sum) (link, body.Confirmed c customer lines total) here in cc

    unpaid : (rule : PayRule) → Member (link, body.Confirmed c customer lines total) (failed_rows (body.Failed id buyer rule)) → body.Invoice id buyer ls sum ≡ body.Invoice c customer lines total
    unpaid rule here =
        absurd (not-among (confirms c) (failed_rows (body.Failed id buyer rule)) (link, body.Confirmed c customer lines total) refl here (same_id-self c))
paid_for s other link c customer lines total here = absurd here

-- and refuse an invoice alone
unpaid_for : (s : PaymentSums) (b : Body) (link : Link) (c : RequestId) (customer : ℕ) (rule : PayRule) → Member (link, body.Failed c customer rule) (payment_rows s b)
    → (lines : List PricedLine) × (total : ℕ) × (b ≡ body.Invoice c customer lines total)
unpaid_for s (body.Asked request) link c customer rule here =
    absurd (told-member (payment_asked s request.id request.ask) (link, body.Failed c customer rule) (payment_tells s request.id request.ask) here)
unpaid_for s (body.Invoice id buyer ls sum) link c customer rule here =
    (ls, sum, invoice_cases (λ rows. Member (link, body.Failed c customer rule) rows → body.Invoice id buyer ls sum ≡ body.Invoice c customer ls sum) s id buyer ls sum paid unpaid here)
  where
    paid : Member (link, body.Failed c customer rule) (confirmed_rows (body.Confirmed id buyer ls sum)) → body.Invoice id buyer ls sum ≡ body.Invoice c customer ls sum
    paid here = absurd (not-among (fails c) (confirmed_rows (body.Confirmed id buyer ls sum)) (link, body.Failed c customer rule) refl here (same_id-self c))

    unpaid : (why : PayRule) → Member (link, body.Failed c customer rule) (failed_rows (body.Failed id buyer why)) → body.Invoice id buyer ls sum ≡ body.Invoice c customer ls sum
    unpaid why here =
        let same : body.Failed c customer rule ≡ body.Failed id buyer why = same-body failure_links (body.Failed id buyer why) (link, body.Failed c customer rule) here in cc
unpaid_for s other link c customer rule here = absurd here

-- payments settle a checkout to shipments once at most
settles_few_shipment : (id : RequestId) (steps : List Step) → IsRunOf Role.Payment steps → count_by (settles id) (made_on PAYMENT_TO_SHIPMENT steps) ≤ 1
settles_few_shipment id steps run =
    subst (λ bs. count_by (settles id) bs ≤ 1) (sym (payments-to-shipment steps run)) (omega (arith, count-filter (settles id) is_payment (made_on PAYMENT_TO_STOCK steps), settles-few id steps run))

module _ (h : Histories) (lawful : IsLawful h) (c : RequestId) where
  confirmed : (made : Event) (m : MadeAt h payment_node made) (customer : ℕ) (lines : List PricedLine) (total : ℕ) → made.body ≡ body.Confirmed c customer lines total
      → IsCausedBy h payment_node made m ORDER_TO_PAYMENT (body.Invoice c customer lines total)
  confirmed made m customer lines total is =
      let o = cause h payment_node made lawful (omega arith) m in
      let steps = steps_at payment_node o.took.before in
      let b = body.Confirmed c customer lines total in
      let here = subst (λ l. Member (made.link, b) l) (answers-payment steps o.event.link o.event.body) (among-answers h payment_node made m o b is) in
      let for = paid_for (payment_sums steps) o.event.body made.link c customer lines total here in
      caused-by h payment_node made m o ORDER_TO_PAYMENT (body.Invoice c customer lines total) (came h payment_node o.event o.took (body.Invoice c customer lines total) for (omega arith) tt ORDER_TO_PAYMENT refl) for

  failed : (made : Event) (m : MadeAt h payment_node made) (customer : ℕ) (rule : PayRule) → made.body ≡ body.Failed c customer rule
      → (lines : List PricedLine) × (total : ℕ) × IsCausedBy h payment_node made m ORDER_TO_PAYMENT (body.Invoice c customer lines total)
  failed made m customer rule is =
      let o = cause h payment_node made lawful (omega arith) m in
      let steps = steps_at payment_node o.took.before in
      let b = body.Failed c customer rule in
      let here = subst (λ l. Member (made.link, b) l) (answers-payment steps o.event.link o.event.body) (among-answers h payment_node made m o b is) in
      let for = unpaid_for (payment_sums steps) o.event.body made.link c customer rule here in
      let invoice = body.Invoice c customer for.0 for.1 in
      (for.0, for.1, caused-by h payment_node made m o ORDER_TO_PAYMENT invoice (came h payment_node o.event o.took invoice for.2 (omega arith) tt ORDER_TO_PAYMENT refl) for.2)

  -- the block of an Invoice
  abbrev Settles : (n : ℕ) (event : Event) → TookAt h n event → ℕ → List PricedLine → ℕ → Type 0
  Settles n event t customer lines total =
      MakesJust h n event t (on_each payment_links (body.Confirmed c customer lines total))
      ⊎ ((rule : PayRule) × MakesJust h n event t (on_each failure_links (body.Failed c customer rule)))

  makes_settled : (event : Event) (customer : ℕ) (lines : List PricedLine) (total : ℕ) → event.body ≡ body.Invoice c customer lines total → (t : TookAt h payment_node event) → Settles payment_node event t customer lines total
  makes_settled event customer lines total is t =
      let steps = steps_at payment_node t.before in
      let all = answers (role_at payment_node) steps event.link event.body in
      invoice_cases (λ rows. all ≡ rows → Settles payment_node event t customer lines total) (payment_sums steps) c customer lines total
      (λ rows. inl (makes-these h lawful payment_node (omega arith) event t (on_each payment_links (body.Confirmed c customer lines total)) rows))
      (λ rule rows. inr (rule, makes-these h lawful payment_node (omega arith) event t (on_each failure_links (body.Failed c customer rule)) rows))
      (answers-payment steps event.link event.body ∙ ap (payment_rows (payment_sums steps)) is)

  -- what sellers took before a payment
  invoice_before : (event : Event) (t : TookAt h seller_node event) (customer : ℕ) (lines : List PricedLine) (total : ℕ) → event.body ≡ body.Confirmed c customer lines total
      → (sum : ℕ) × HasTaken t.before ORDER_TO_SELLER (body.Invoice c customer lines sum)
  invoice_before event t customer lines total is =
      let steps = steps_at seller_node t.before in
      let due : role_fits Role.Seller steps (body.Confirmed c customer lines total) ≡ true = subst (λ b. role_fits Role.Seller steps b ≡ true) is (due-here h lawful seller_node (omega arith) event t) in
      let found = taken-before-any h seller_node event lawful t (invoices_lines c customer lines) (and_both (list_any (invoices_lines c customer lines) (taken_bodies steps)) (not (is_settled steps c)) due).0 in
      by found.0 found.1 found.2
    where
      by : (b : Body) → TookBefore h seller_node t.clock b → invoices_lines c customer lines b ≡ true → (sum : ℕ) × HasTaken t.before ORDER_TO_SELLER (body.Invoice c customer lines sum)
      by (body.Invoice id buyer ls sum) u passes =
          let both = and_both (same_id id c && (buyer == customer)) (same_lines ls lines) passes in
          let first = and_both (same_id id c) (buyer == customer) both.0 in
          let same : body.Invoice id buyer ls sum ≡ body.Invoice c customer lines sum = (λ i. body.Invoice (same_id-true id c first.0 i) (eqb-true buyer customer first.1 i) (same_lines-true ls lines both.1 i) sum) in
          (sum, has-taken h seller_node event lawful t (body.Invoice c customer lines sum) (subst (λ b. TookBefore h seller_node t.clock b) same u) (omega arith) tt ORDER_TO_SELLER refl)
      by other u passes = let no : ⊥ = cc in absurd no

  -- and before the failure of one
  invoice_before_failed : (event : Event) (t : TookAt h seller_node event) (customer : ℕ) (rule : PayRule) → event.body ≡ body.Failed c customer rule
      → (lines : List PricedLine) × (sum : ℕ) × HasTaken t.before ORDER_TO_SELLER (body.Invoice c customer lines sum)
  invoice_before_failed event t customer rule is =
      let steps = steps_at seller_node t.before in
      let due : role_fits Role.Seller steps (body.Failed c customer rule) ≡ true = subst (λ b. role_fits Role.Seller steps b ≡ true) is (due-here h lawful seller_node (omega arith) event t) in
      let found = taken-before-any h seller_node event lawful t (invoices_for c customer) (and_both (list_any (invoices_for c customer) (taken_bodies steps)) (not (is_settled steps c)) due).0 in
      by found.0 found.1 found.2
    where
      by : (b : Body) → TookBefore h seller_node t.clock b → invoices_for c customer b ≡ true → (lines : List PricedLine) × (sum : ℕ) × HasTaken t.before ORDER_TO_SELLER (body.Invoice c customer lines sum)
      by (body.Invoice id buyer ls sum) u passes =
          let first = and_both (same_id id c) (buyer == customer) passes in
          let same : body.Invoice id buyer ls sum ≡ body.Invoice c customer ls sum = (λ i. body.Invoice (same_id-true id c first.0 i) (eqb-true buyer customer first.1 i) ls sum) in
          (ls, sum, has-taken h seller_node event lawful t (body.Invoice c customer ls sum) (subst (λ b. TookBefore h seller_node t.clock b) same u) (omega arith) tt ORDER_TO_SELLER refl)
      by other u passes = let no : ⊥ = cc in absurd no

  -- where the same goes on another link as to stock
  once_as_stock : (link : Link) → ((steps : List Step) → IsRunOf Role.Payment steps → made_on PAYMENT_TO_STOCK steps ≡ made_on link steps) → (steps : List Step) → IsRunOf Role.Payment steps → count_by (settles c) (made_on link steps) ≤ 1
  once_as_stock link same steps run = subst (λ bs. count_by (settles c) bs ≤ 1) (same steps run) (settles-few c steps run)

  -- how payments are made
  pub payments-caused : PaymentsHaveCauses h c
  payments-caused = record {
    confirmed_cause = λ n made m customer lines total is.
        let by = made-by h lawful n made m (body.Confirmed c customer lines total) is tt payment_node payment_links refl in
        (by.0, made-at h made (λ n m. IsCausedBy h n made m ORDER_TO_PAYMENT (body.Invoice c customer lines total)) payment_node n by.1 (λ m. confirmed made m customer lines total is) m);
    failed_cause = λ n made m customer rule is.
        let by = made-by h lawful n made m (body.Failed c customer rule) is tt payment_node failure_links refl in (
          by.0,
          made-at h made (λ n m. (lines : List PricedLine) × (total : ℕ) × IsCausedBy h n made m ORDER_TO_PAYMENT (body.Invoice c customer lines total)) payment_node n by.1 (λ m. failed made m customer rule is) m,
        );
    makes = λ n event t customer lines total on is.
        took-at h event (λ n t. Settles n event t customer lines total) payment_node n (sym (ap receiver_of on) ∙ t.ready.1) (makes_settled event customer lines total is) t;
    once_to_stock = made-few h lawful payment_node (omega arith) PAYMENT_TO_STOCK (settles c) (settles-few c);
    once_to_customer = made-few h lawful payment_node (omega arith) PAYMENT_TO_CUSTOMER (settles c) (once_as_stock PAYMENT_TO_CUSTOMER payments-to-customer);
    once_to_seller = made-few h lawful payment_node (omega arith) PAYMENT_TO_SELLER (settles c) (once_as_stock PAYMENT_TO_SELLER payments-to-seller);
    once_to_order = made-few h lawful payment_node (omega arith) PAYMENT_TO_ORDER (settles c) (once_as_stock PAYMENT_TO_ORDER payments-to-order);
    once_to_shipment = made-few h lawful payment_node (omega arith) PAYMENT_TO_SHIPMENT (settles c) (settles_few_shipment c);
    confirmed_before = invoice_before;
    failed_before = invoice_before_failed;
  }
