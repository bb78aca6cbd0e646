-- What stock takes fits: a checkout comes once, of products that stock knows; and what settles one comes once, of a checkout
-- whose pieces stock holds.
use Rattle.std.proofs.Common.{◌≡◌, ℕ, ◌<◌, ◌≤◌, ◌==◌, true, false, ◌&&◌, not, slice_index, List, [], ◌∷◌, ◌++◌, eq-eqb, refl, ap, sym, ◌∙◌, subst, arith}
use Rattle.std.specs.List.{list_any, list_all, AllByRecursion}
use Rattle.market_amounts.specs.declared.keys.RequestId.{RequestId}
use Rattle.market_events.specs.declared.bodies.Body.{Body}
use Rattle.market_events.specs.declared.bodies.Body.TheVariants as body
use Rattle.market_events.specs.declared.bodies.PayRule.{PayRule}
use Rattle.market_events.specs.declared.bodies.PricedLine.{PricedLine}
use Rattle.market_events.specs.declared.events.Event.{Event}
use Rattle.market_events.specs.Carts.{changes_taken, cart_rows, cart_sums}
use Rattle.market_events.specs.Copies.{copy_of}
use Rattle.market_events.specs.Links.{cart_node, product_node, stock_node, payment_node, index_of}
use Rattle.market_events.specs.Looks.{is_live}
use Rattle.market_events.specs.Orders.{is_taken}
use Rattle.market_events.specs.Products.{product_rows, product_sums}
use Rattle.market_events.specs.Requests.{same_id}
use Rattle.market_events.specs.declared.roles.Role.{Role}
use Rattle.market_events.specs.Services.{IsRunOf, role_fits, reserves, is_known, is_for, is_for_lines}
use Rattle.market_events.specs.Steps.{taken_bodies, made_on, same_lines}
use Rattle.market_events.specs.Stocks.{Reservation, reservations, reservation_in, settles, is_settled}
use Rattle.market_events.specs.declared.links.TheConstants.{PRODUCT_TO_CART, PRODUCT_TO_STOCK, CART_TO_STOCK}
use Rattle.market_events.specs.declared.links.TheConstants.{STOCK_TO_ORDER, PAYMENT_TO_STOCK}
use Rattle.market_events.proofs.Runs.Carts.{answers-cart}
use Rattle.market_events.proofs.Values.Lists.{and_from}
use Rattle.market_events.proofs.Steps.Products.{answers-product}
use Rattle.market_events.proofs.Values.Same.{same_id-self, same_lines-self}
use Rattle.market_history.specs.Histories.{Histories, journal_at}
use Rattle.market_history.specs.Lawful.{IsLawful}
use Rattle.market_laws.specs.Cuts.{steps_at, TookAt, MadeAt, FitsBelow}
use Rattle.market_laws.specs.Runs.{Member}
use Rattle.market_laws.proofs.Growth.Members.{all-at}
use Rattle.market_laws.proofs.Origins.Causes.{Cause, cause, sibling}
use Rattle.market_laws.proofs.Origins.Cuts.{any_of_member}
use Rattle.market_laws.proofs.Origins.Made.{steps-run, made-before, took-below}
use Rattle.market_laws.proofs.Origins.Once.{TookBefore, ComesAlone, taken-before, once-service}
use Rattle.market_laws.proofs.Origins.Senders.{took-made-on}
use Rattle.market_laws.proofs.Pasts.Made.{past-made, past-taken}
use Rattle.market_laws.proofs.Pasts.Ready.{TookEarlier, past-ready}
use Rattle.market_laws.proofs.Fits.CartLines.{are_live, SendsLive, cart-sends-live, change-pair}
use Rattle.market_laws.proofs.Fits.Changes.{stock-changed}
use Rattle.market_laws.proofs.Fits.KindsOnLinks.{IsNoRequest, came-on, came, never-came}
use Rattle.market_laws.proofs.Fits.CopyMembers.{gathered-member, all_of_members, member_of_all, known-changed, live-changed}
use Rattle.market_laws.proofs.Fits.BackToHeld.{MadeBefore, taken-sent, sent-origin, sent-origin-some, held-of-invoice}
use Rattle.market_laws.proofs.Runs.Cart.{sent-le-asked}
use Rattle.market_laws.proofs.Runs.Payments.{settles-is-invoices, invoices-once, confirmed-invoice, failed-invoice}
use Rattle.market_laws.proofs.Runs.ToldOnce.{asked-once}

-- a checkout comes to stock from the cart alone
reserves_alone : (id : RequestId) → ComesAlone stock_node (reserves id) CART_TO_STOCK
reserves_alone id link (body.Reserve checkout customer lines) on into carried own passes = came-on stock_node CART_TO_STOCK (body.Reserve checkout customer lines) (omega arith) tt refl link on into carried
reserves_alone id link other on into carried own passes = cc

-- and what settles one from payments alone
settles_alone : (id : RequestId) → ComesAlone stock_node (settles id) PAYMENT_TO_STOCK
settles_alone id link (body.Confirmed checkout customer lines total) on into carried own passes = came-on stock_node PAYMENT_TO_STOCK (body.Confirmed checkout customer lines total) (omega arith) tt refl link on into carried
settles_alone id link (body.Failed checkout customer rule) on into carried own passes = came-on stock_node PAYMENT_TO_STOCK (body.Failed checkout customer rule) (omega arith) tt refl link on into carried
settles_alone id link other on into carried own passes = cc

-- an invoice of this checkout for this customer
abbrev IsInvoiceFor : RequestId → ℕ → Body → Type 0
IsInvoiceFor id customer b = (lines : List PricedLine) × (total : ℕ) × (b ≡ body.Invoice id customer lines total)

-- a reservation
abbrev reserved_for : RequestId → ℕ → List PricedLine → Reservation
reserved_for checkout customer lines = record { checkout = checkout; customer = customer; lines = lines }

module _ (h : Histories) (lawful : IsLawful h) (event : Event) (t : TookAt h stock_node event) where
  -- what stock holds is among its reservations
  is_reserved : (checkout : RequestId) (customer : ℕ) (lines : List PricedLine) → MadeBefore h stock_node STOCK_TO_ORDER (body.StockConfirmed checkout customer lines) t.clock
      → Member (reserved_for checkout customer lines) (reservations (steps_at stock_node t.before))
  is_reserved checkout customer lines m =
      let steps = steps_at stock_node t.before in
      let here : Member (body.StockConfirmed checkout customer lines) (made_on STOCK_TO_ORDER steps) =
      subst (λ b. Member b (made_on STOCK_TO_ORDER steps)) m.body_is (made-before h lawful stock_node (omega arith) event t m.event STOCK_TO_ORDER m.made m.clock m.on) in
      gathered-member reservation_in (body.StockConfirmed checkout customer lines) (reserved_for checkout customer lines) (made_on STOCK_TO_ORDER steps) here refl

  -- what settles a checkout comes once
  settled_new : (checkout : RequestId) → event.link ≡ PAYMENT_TO_STOCK → settles checkout event.body ≡ true → is_settled (steps_at stock_node t.before) checkout ≡ false
  settled_new checkout on passes =
      let steps = steps_at payment_node (journal_at h payment_node) in
      let run : IsRunOf Role.Payment steps = steps-run payment_node (journal_at h payment_node) in
      once-service h stock_node event lawful t PAYMENT_TO_STOCK payment_node on refl (omega arith) (settles checkout) (omega (arith, settles-is-invoices steps run checkout, invoices-once steps run checkout)) passes (settles_alone checkout)

  module _ (checkout : RequestId) (customer : ℕ) (lines : List PricedLine) (total : ℕ) (is : event.body ≡ body.Confirmed checkout customer lines total) where
    paid_on : event.link ≡ PAYMENT_TO_STOCK
    paid_on = came h stock_node event t (body.Confirmed checkout customer lines total) is (omega arith) tt PAYMENT_TO_STOCK refl

    paid_seen : list_any (is_for_lines checkout customer lines) (reservations (steps_at stock_node t.before)) ≡ true
    paid_seen =
        let m = taken-sent h lawful stock_node PAYMENT_TO_STOCK payment_node event t paid_on refl (body.Confirmed checkout customer lines total) is t.clock (omega arith) in
        let u = sent-origin h lawful payment_node PAYMENT_TO_STOCK (body.Confirmed checkout customer lines total) (body.Invoice checkout customer lines total) t.clock (omega arith) m
        (λ steps run here. confirmed-invoice steps run checkout customer lines total here) in
        let held = is_reserved checkout customer lines (held-of-invoice h lawful checkout customer lines total t.clock u) in
        any_of_member (is_for_lines checkout customer lines) (reserved_for checkout customer lines) (reservations (steps_at stock_node t.before)) held
        (and_from (same_id checkout checkout && (customer == customer)) (same_lines lines lines)
        (and_from (same_id checkout checkout) (customer == customer) (same_id-self checkout) (eq-eqb customer customer refl)) (same_lines-self lines))

    stock_paid : role_fits Role.Stock (steps_at stock_node t.before) (body.Confirmed checkout customer lines total) ≡ true
    stock_paid =
        and_from (list_any (is_for_lines checkout customer lines) (reservations (steps_at stock_node t.before))) (not (is_settled (steps_at stock_node t.before) checkout)) paid_seen
        (ap not (settled_new checkout paid_on (ap (settles checkout) is ∙ same_id-self checkout)))

  module _ (checkout : RequestId) (customer : ℕ) (rule : PayRule) (is : event.body ≡ body.Failed checkout customer rule) where
    failed_on : event.link ≡ PAYMENT_TO_STOCK
    failed_on = came h stock_node event t (body.Failed checkout customer rule) is (omega arith) tt PAYMENT_TO_STOCK refl

    failed_seen : list_any (is_for checkout customer) (reservations (steps_at stock_node t.before)) ≡ true
    failed_seen =
        let m = taken-sent h lawful stock_node PAYMENT_TO_STOCK payment_node event t failed_on refl (body.Failed checkout customer rule) is t.clock (omega arith) in
        let found = sent-origin-some h lawful payment_node PAYMENT_TO_STOCK (body.Failed checkout customer rule) t.clock (omega arith) m (IsInvoiceFor checkout customer)
        (λ steps run here. let f = failed-invoice steps run checkout customer rule here in (body.Invoice checkout customer f.0 f.1, f.2, (f.0, f.1, refl))) in
        let for = found.2 in
        let held = is_reserved checkout customer for.0 (held-of-invoice h lawful checkout customer for.0 for.1 t.clock (subst (λ c. TookBefore h payment_node t.clock c) for.2 found.1)) in
        any_of_member (is_for checkout customer) (reserved_for checkout customer for.0) (reservations (steps_at stock_node t.before)) held
        (and_from (same_id checkout checkout) (customer == customer) (same_id-self checkout) (eq-eqb customer customer refl))

    stock_failed : role_fits Role.Stock (steps_at stock_node t.before) (body.Failed checkout customer rule) ≡ true
    stock_failed =
        and_from (list_any (is_for checkout customer) (reservations (steps_at stock_node t.before))) (not (is_settled (steps_at stock_node t.before) checkout)) failed_seen
        (ap not (settled_new checkout failed_on (ap (settles checkout) is ∙ same_id-self checkout)))

  module _ (checkout : RequestId) (customer : ℕ) (lines : List PricedLine) (is : event.body ≡ body.Reserve checkout customer lines) where
    sent_on : event.link ≡ CART_TO_STOCK
    sent_on = came h stock_node event t (body.Reserve checkout customer lines) is (omega arith) tt CART_TO_STOCK refl

    sent_new : is_taken reserves (steps_at stock_node t.before) checkout ≡ false
    sent_new =
        let steps = steps_at cart_node (journal_at h cart_node) in
        let run : IsRunOf Role.Cart steps = steps-run cart_node (journal_at h cart_node) in
        once-service h stock_node event lawful t CART_TO_STOCK cart_node sent_on refl (omega arith) (reserves checkout) (omega (arith, sent-le-asked steps run checkout, asked-once Role.Cart steps run checkout))
        (ap (reserves checkout) is ∙ same_id-self checkout) (reserves_alone checkout)

    -- where the cart sent it on
    sent_made : MadeAt h cart_node event
    sent_made = (took-made-on h lawful stock_node event CART_TO_STOCK t sent_on).made

    sent_cause : Cause h cart_node event sent_made
    sent_cause = cause h cart_node event lawful (omega arith) sent_made

    sent_live : are_live (copy_of (changes_taken (steps_at cart_node sent_cause.took.before))) lines ≡ true
    sent_live =
        let c = sent_cause in
        let steps = steps_at cart_node c.took.before in
        let look = copy_of (changes_taken steps) in
        let rows : cart_rows (cart_sums steps) c.event.body ≡ c.front ++ (event.link, event.body) ∷ c.back = sym (answers-cart steps c.event.link c.event.body) ∙ c.answered in
        let all = cart-sends-live (cart_sums steps) c.event.body in
        let here : SendsLive look (event.link, event.body) =
        all-at (SendsLive look) c.front (event.link, event.body) c.back (subst (λ l. AllByRecursion (SendsLive look) l) rows all) in
        subst (λ b. SendsLive look (event.link, b)) is here

    module _ (below : FitsBelow h t.clock) where
      -- of a change that the cart took before it sent the checkout on, stock was told before
      told_before : (b : Body) → TookBefore h cart_node sent_cause.took.clock b → ((z : Event) → TookAt h cart_node z → z.body ≡ b → z.link ≡ PRODUCT_TO_CART) → Member b (taken_bodies (steps_at stock_node t.before))
      told_before b z comes =
          let x = z.event in
          let x_on : x.link ≡ PRODUCT_TO_CART = comes x z.took z.body_is in
          let x_made : MadeAt h product_node x = (took-made-on h lawful cart_node x PRODUCT_TO_CART z.took x_on).made in
          let c = cause h product_node x lawful (omega arith) x_made in
          let steps = steps_at product_node c.took.before in
          let rows : product_rows (product_sums steps) c.event.body ≡ c.front ++ (PRODUCT_TO_CART, x.body) ∷ c.back =
          sym (answers-product steps c.event.link c.event.body) ∙ c.answered ∙ ap (λ l. c.front ++ (l, x.body) ∷ c.back) x_on in
          let first = sibling h product_node x x_made c lawful [] PRODUCT_TO_STOCK x.body [] (change-pair (product_sums steps) c.event.body x.body c.front c.back rows) in
          let y = first.event in
          let taken_first : z.took.clock < event.clock = let one = z.clock_is in let two = sent_cause.clock in omega arith in
          let counts : y.number ≤ slice_index x.past (index_of PRODUCT_TO_STOCK) = past-made h product_node x lawful x_made y (index_of PRODUCT_TO_STOCK) (omega arith) first.at first.link_is first.clock in
          let carries_on : slice_index x.past (index_of PRODUCT_TO_STOCK) ≤ slice_index event.past (index_of PRODUCT_TO_STOCK) = past-taken h cart_node event lawful sent_made x (index_of PRODUCT_TO_STOCK) (omega arith) z.took taken_first in
          let early : TookEarlier h stock_node y t.clock = past-ready h stock_node event lawful t (index_of PRODUCT_TO_STOCK) product_node (omega arith) refl y first.at first.link_is (omega arith) in
          subst (λ c. Member c (taken_bodies (steps_at stock_node t.before))) (first.body_is ∙ z.body_is) (took-below h lawful stock_node (omega arith) event t below y early.took early.clock)

      known_line : (line : PricedLine) → Member line lines → is_known (copy_of (changes_taken (steps_at stock_node t.before)) line.key) ≡ true
      known_line line here =
          let c = sent_cause in
          let live : is_live (copy_of (changes_taken (steps_at cart_node c.took.before)) line.key) ≡ true =
          member_of_all (λ (l : PricedLine). is_live (copy_of (changes_taken (steps_at cart_node c.took.before)) l.key)) line lines sent_live here in
          let last = live-changed (taken_bodies (steps_at cart_node c.took.before)) line.key live in
          let b = body.Changed line.key last.0 last.1 in
          let z = taken-before h cart_node c.event lawful c.took b last.2 in
          known-changed (taken_bodies (steps_at stock_node t.before)) line.key last.0 last.1
          (told_before b z (λ e u same. came h cart_node e u b same (omega arith) tt PRODUCT_TO_CART refl))

      stock_sent : role_fits Role.Stock (steps_at stock_node t.before) (body.Reserve checkout customer lines) ≡ true
      stock_sent =
          and_from (not (is_taken reserves (steps_at stock_node t.before) checkout)) (list_all (λ (line : PricedLine). is_known (copy_of (changes_taken (steps_at stock_node t.before)) line.key)) lines) (ap not sent_new)
          (all_of_members (λ (line : PricedLine). is_known (copy_of (changes_taken (steps_at stock_node t.before)) line.key)) lines known_line)

-- what stock takes fits, but for requests
pub stock_fits_all : (h : Histories) → IsLawful h → (event : Event) → (t : TookAt h stock_node event) → FitsBelow h t.clock → IsNoRequest event.body → role_fits Role.Stock (steps_at stock_node t.before) event.body ≡ true
stock_fits_all h lawful event t below quiet = by event.body refl quiet
  where
    by : (b : Body) → event.body ≡ b → IsNoRequest b → role_fits Role.Stock (steps_at stock_node t.before) b ≡ true
    by (body.Asked request) is quiet = absurd quiet
    by (body.Changed key version c) is quiet = stock-changed h lawful event t below key version c is
    by (body.Reserve checkout customer lines) is quiet = stock_sent h lawful event t checkout customer lines is below
    by (body.Confirmed checkout customer lines total) is quiet = stock_paid h lawful event t checkout customer lines total is
    by (body.Failed checkout customer rule) is quiet = stock_failed h lawful event t checkout customer rule is
    by other is quiet = absurd (never-came h stock_node event t other is (omega arith) tt refl)
