-- In settled histories the point of a seller is the book's (point-book): three changes for each line of a whole checkout, two for
-- each of one that was not paid, and one for each item that was delivered.
use Rattle.std.proofs.Common.{◌≡◌, ℕ, ◌+◌, ◌*◌, ◌==◌, Bool, cond, not, List, [], ◌∷◌, ◌++◌, Option, is_some, length, filter, filter_map, if◌then◌else◌, sum_by, count_by, inl, inr, refl, ap, sym, ◌∙◌, append-nil, arith}
use Rattle.std.specs.List.{cons_option, flat_map}
use Rattle.std.proofs.lemmas.List.Sums.{sum_by-append, sum_by-cons}
use Rattle.market_amounts.specs.declared.keys.RequestId.{RequestId}
use Rattle.market_events.specs.declared.bodies.Body.{Body}
use Rattle.market_events.specs.declared.bodies.Body.TheVariants as body
use Rattle.market_events.specs.declared.bodies.Item.{Item}
use Rattle.market_events.specs.declared.bodies.PricedLine.{PricedLine}
use Rattle.market_events.specs.Links.{payment_node, shipment_node, seller_node}
use Rattle.market_events.specs.Orders.{is_of, items_in}
use Rattle.market_events.specs.Sellers.{invoice_lines, seller_changes}
use Rattle.market_events.specs.declared.roles.Role.{Role}
use Rattle.market_events.specs.Shipments.{items_made}
use Rattle.market_events.specs.Steps.{taken_bodies}
use Rattle.market_events.specs.Stocks.{Reservation}
use Rattle.market_events.specs.declared.links.TheConstants.{PAYMENT_TO_SHIPMENT, PAYMENT_TO_SELLER, SHIPMENT_TO_SELLER}
use Rattle.market_events.proofs.Values.Lists.{sum_by_agree, sum_by_plus}
use Rattle.market_events.proofs.Values.Same.{same_id-self}
use Rattle.market_events.proofs.Steps.SellerEntries.{invoice_in, invoice_lines-is}
use Rattle.market_history.specs.Acts.{lines_if, lines_of}
use Rattle.market_history.specs.Blocks.{service_steps}
use Rattle.market_history.specs.Book.{line_count, paid_in}
use Rattle.market_history.specs.Histories.{Histories, journal_at}
use Rattle.market_history.specs.Lawful.{IsLawful}
use Rattle.market_history.specs.Outstanding.{IsSettled}
use Rattle.market_laws.specs.Runs.{Member, is_payment}
use Rattle.market_laws.proofs.Origins.Made.{steps-run}
use Rattle.market_laws.proofs.Views.GatheredOnLinks.{gathered-made}
use Rattle.market_laws.proofs.Views.Gathered.{gathered-kept, sum-gathered, sum-parts}
use Rattle.market_laws.proofs.Settled.Passing.{joined-passing}
use Rattle.market_laws.proofs.Runs.PaymentOutcomes.{AreSettled, none, paid, failed, failed_in, Picks, picks-later}
use Rattle.market_laws.proofs.Runs.Gathered.{paid_id, shipped_in, ships-paid}
use Rattle.market_laws.proofs.Runs.Payments.{payments-to-shipment, payments-to-seller}
use Rattle.market_laws.proofs.Runs.SellerPoints.{own_lines, weight, point-weighed}
use Rattle.market_laws.proofs.Runs.Shipments.{shipments-to-seller}
use Rattle.market_laws.proofs.Settled.Links.{ComesOn}
use Rattle.market_laws.proofs.Settled.Outcomes.{held, settling, was_paid, sellers-held, settled-held, paid-picks, paid-held, held-alone}
use Rattle.market_laws.proofs.Settled.Sellers.{seller-items}

-- where these bodies come in
paid-sellers : ComesOn seller_node PAYMENT_TO_SELLER (λ b. is_some (paid_in b))
paid-sellers (body.Confirmed checkout customer lines total) passes = (tt, refl)
paid-sellers other passes = cc

failed-sellers : ComesOn seller_node PAYMENT_TO_SELLER (λ b. is_some (failed_in b))
failed-sellers (body.Failed checkout customer rule) passes = (tt, refl)
failed-sellers other passes = cc

shipped-sellers : ComesOn seller_node SHIPMENT_TO_SELLER (λ b. is_some (shipped_in b))
shipped-sellers (body.Shipped checkout) passes = (tt, refl)
shipped-sellers other passes = cc

payment-shipments : ComesOn shipment_node PAYMENT_TO_SHIPMENT (λ b. is_some (paid_id b))
payment-shipments (body.Confirmed checkout customer lines total) passes = (tt, refl)
payment-shipments other passes = cc

-- the items of a list of bodies
count-joined : (test : Item → Bool) (bs : List Body) → sum_by (λ b. count_by test (items_in b)) bs ≡ count_by test (flat_map items_in bs)
count-joined test [] = refl
count-joined test (b ∷ bs) =
    omega (arith, count-joined test bs, sum_by-cons (λ b. count_by test (items_in b)) b bs, sum_by-append (λ i. cond (test i) 1 0) (items_in b) (flat_map items_in bs))

module _ (seller : ℕ) (lines_at : RequestId → List PricedLine) where
  -- the lines of the seller in a reservation, and in a checkout
  abbrev of_reservation : Reservation → ℕ
  of_reservation r = own_lines seller r.lines

  abbrev of_checkout : RequestId → ℕ
  of_checkout id = own_lines seller (lines_at id)

  abbrev is_own : Item → Bool
  is_own i = i.key.seller == seller

  -- what is gathered of one body
  abbrev part : {B : Type 0} → (Body → Option B) → (B → ℕ) → Body → ℕ
  part gather g b = sum_by g (cons_option (gather b) [])

  one_weight : (b : Body) → weight seller lines_at b ≡ part invoice_in of_reservation b + (part paid_in of_reservation b + (part failed_in of_checkout b + (part shipped_in of_checkout b + count_by is_own (items_in b))))
  one_weight (body.Invoice checkout customer lines total) = omega (arith, sum_by-cons of_reservation (record { checkout = checkout; customer = customer; lines = lines }) [])
  one_weight (body.Confirmed checkout customer lines total) = omega (arith, sum_by-cons of_reservation (record { checkout = checkout; customer = customer; lines = lines }) [])
  one_weight (body.Failed checkout customer rule) = omega (arith, sum_by-cons of_checkout checkout [])
  one_weight (body.Shipped checkout) = omega (arith, sum_by-cons of_checkout checkout [])
  one_weight (body.Delivered items) = omega arith
  one_weight other = refl

  -- what bodies weigh, kind by kind
  all-weighed : (bs : List Body) → sum_by (weight seller lines_at) bs
      ≡ sum_by of_reservation (filter_map invoice_in bs) + (sum_by of_reservation (filter_map paid_in bs) + (sum_by of_checkout (filter_map failed_in bs) + (sum_by of_checkout (filter_map shipped_in bs) + count_by is_own (flat_map items_in bs))))
  all-weighed bs =
      let invoiced = part invoice_in of_reservation in
      let paid = part paid_in of_reservation in
      let failed = part failed_in of_checkout in
      let shipped = part shipped_in of_checkout in
      let delivered = λ (b : Body). count_by is_own (items_in b) in
      omega (
        arith,
        sum_by_agree (weight seller lines_at) (λ b. invoiced b + (paid b + (failed b + (shipped b + delivered b)))) one_weight bs,
        sum_by_plus invoiced (λ b. paid b + (failed b + (shipped b + delivered b))) bs,
        sum_by_plus paid (λ b. failed b + (shipped b + delivered b)) bs,
        sum_by_plus failed (λ b. shipped b + delivered b) bs,
        sum_by_plus shipped delivered bs,
        sum-gathered invoiced invoice_in of_reservation bs (λ b here. refl),
        sum-gathered paid paid_in of_reservation bs (λ b here. refl),
        sum-gathered failed failed_in of_checkout bs (λ b here. refl),
        sum-gathered shipped shipped_in of_checkout bs (λ b here. refl),
        count-joined is_own bs,
      )

  -- the lines of those that were paid, and of those that were not
  module _ (picks : Reservation → Bool) where
    paid-lines : {rs : List Reservation} {bs : List Body} → AreSettled rs bs → Picks picks bs → ((r : Reservation) → Member r rs → lines_at r.checkout ≡ r.lines)
        → sum_by of_checkout (filter_map paid_id bs) ≡ line_count seller (filter picks rs)
    paid-lines none p same = refl
    paid-lines (paid r total {rs = rs} {bs = bs} rest) p same =
        let more = paid-lines rest (picks-later p) (λ q here. same q (inr here)) in
        let here = ap (own_lines seller) (same r (inl refl)) in
        let kept = ap (λ b. line_count seller (cond b (r ∷ filter picks rs) (filter picks rs))) (p.yes r total (inl refl)) in
        omega (arith, more, here, kept, sum_by-cons of_checkout r.checkout (filter_map paid_id bs), sum_by-cons of_reservation r (filter picks rs))
    paid-lines (failed r rule {rs = rs} {bs = bs} rest) p same =
        paid-lines rest (picks-later p) (λ q here. same q (inr here)) ∙ ap (λ b. line_count seller (cond b (r ∷ filter picks rs) (filter picks rs))) (sym (p.no r rule (inl refl)))

    unpaid-lines : {rs : List Reservation} {bs : List Body} → AreSettled rs bs → Picks picks bs → ((r : Reservation) → Member r rs → lines_at r.checkout ≡ r.lines)
        → sum_by of_checkout (filter_map failed_in bs) ≡ line_count seller (filter (λ (r : Reservation). not (picks r)) rs)
    unpaid-lines none p same = refl
    unpaid-lines (paid r total {rs = rs} {bs = bs} rest) p same =
        let others = filter (λ (q : Reservation). not (picks q)) rs in
        unpaid-lines rest (picks-later p) (λ q here. same q (inr here)) ∙ ap (λ b. line_count seller (cond (not b) (r ∷ others) others)) (sym (p.yes r total (inl refl)))
    unpaid-lines (failed r rule {rs = rs} {bs = bs} rest) p same =
        let others = filter (λ (q : Reservation). not (picks q)) rs in
        let more = unpaid-lines rest (picks-later p) (λ q here. same q (inr here)) in
        let here = ap (own_lines seller) (same r (inl refl)) in
        let kept = ap (λ b. line_count seller (cond (not b) (r ∷ others) others)) (p.no r rule (inl refl)) in
        omega (arith, more, here, kept, sum_by-cons of_checkout r.checkout (filter_map failed_in bs), sum_by-cons of_reservation r others)

-- a payment is what is paid
payment-is : (b : Body) → is_payment b ≡ is_some (paid_id b)
payment-is (body.Confirmed checkout customer lines total) = refl
payment-is other = refl

module _ (h : Histories) (lawful : IsLawful h) (settled : IsSettled h) (seller : ℕ) where
  abbrev bodies : List Body
  bodies = taken_bodies (service_steps h Role.Seller)

  -- the lines of a reservation are those that were invoiced
  reserved-lines : (r : Reservation) → Member r (held h) → invoice_lines bodies r.checkout ≡ r.lines
  reserved-lines r here =
      invoice_lines-is bodies r.checkout ∙ ap (λ rs. lines_of rs r.checkout) (sellers-held h lawful settled)
      ∙ joined-passing (is_of r.checkout) (lines_if r.checkout) (λ q other. ap (λ b. if b then q.lines else []) other) (held h)
      ∙ ap (flat_map (lines_if r.checkout)) (held-alone h lawful settled r here)
      ∙ ap (λ b. (if b then r.lines else []) ++ []) (same_id-self r.checkout) ∙ append-nil r.lines

  sellers-paid : filter_map paid_in bodies ≡ filter (was_paid h) (held h)
  sellers-paid =
      gathered-made h lawful settled seller_node payment_node PAYMENT_TO_SELLER (omega arith) (omega arith) (omega arith) refl refl paid_in paid-sellers
      ∙ ap (filter_map paid_in) (sym (payments-to-seller (service_steps h Role.Payment) (steps-run payment_node (journal_at h payment_node)))) ∙ paid-held h lawful settled

  sellers-failed : filter_map failed_in bodies ≡ filter_map failed_in (settling h)
  sellers-failed =
      gathered-made h lawful settled seller_node payment_node PAYMENT_TO_SELLER (omega arith) (omega arith) (omega arith) refl refl failed_in failed-sellers
      ∙ ap (filter_map failed_in) (sym (payments-to-seller (service_steps h Role.Payment) (steps-run payment_node (journal_at h payment_node))))

  sellers-shipped : filter_map shipped_in bodies ≡ filter_map paid_id (settling h)
  sellers-shipped =
      gathered-made h lawful settled seller_node shipment_node SHIPMENT_TO_SELLER (omega arith) (omega arith) (omega arith) refl refl shipped_in shipped-sellers
      ∙ ap (filter_map shipped_in) (sym (shipments-to-seller (service_steps h Role.Shipment) (steps-run shipment_node (journal_at h shipment_node))))
      ∙ ships-paid (service_steps h Role.Shipment) (steps-run shipment_node (journal_at h shipment_node))
      ∙ gathered-made h lawful settled shipment_node payment_node PAYMENT_TO_SHIPMENT (omega arith) (omega arith) (omega arith) refl refl paid_id payment-shipments
      ∙ ap (filter_map paid_id) (payments-to-shipment (service_steps h Role.Payment) (steps-run payment_node (journal_at h payment_node)) ∙ (λ i. filter (λ b. payment-is b i) (settling h)))
      ∙ gathered-kept paid_id (settling h)

  pub point-book : length (seller_changes (service_steps h Role.Seller) seller)
      ≡ 3 * line_count seller (filter (was_paid h) (held h)) + 2 * line_count seller (filter (λ (r : Reservation). not (was_paid h r)) (held h))
      + count_by (λ (i : Item). i.key.seller == seller) (items_made (service_steps h Role.Shipment))
  point-book =
      let lines_at = invoice_lines bodies in
      let s = settled-held h lawful settled in
      let p = paid-picks h lawful settled in
      let one = point-weighed seller (service_steps h Role.Seller) (steps-run seller_node (journal_at h seller_node)) in
      let all = all-weighed seller lines_at bodies in
      let invoiced = ap (line_count seller) (sellers-held h lawful settled) in
      let parts = sum-parts (was_paid h) (λ (r : Reservation). own_lines seller r.lines) (held h) in
      let paid = ap (line_count seller) sellers-paid in
      let failed = ap (sum_by (λ id. own_lines seller (lines_at id))) sellers-failed ∙ unpaid-lines seller lines_at (was_paid h) s p reserved-lines in
      let shipped = ap (sum_by (λ id. own_lines seller (lines_at id))) sellers-shipped ∙ paid-lines seller lines_at (was_paid h) s p reserved-lines in
      let delivered = ap (count_by (λ (i : Item). i.key.seller == seller)) (seller-items h lawful settled) in
      omega arith
