-- Of a checkout that is whole: stock reserved the lines of its payment (lines-reserved), and shipment has exactly one package for
-- each of them (packages-whole). One that was not paid for has no package (packages-none).
use Rattle.std.proofs.Common.{◌≡◌, ℕ, true, false, List, [], ◌∷◌, filter, filter_map, refl, ap, sym, ◌∙◌, subst, append-nil, arith}
use Rattle.std.specs.Prelude.{map}
use Rattle.std.specs.List.{flat_map, list_any}
use Rattle.market_amounts.specs.declared.keys.RequestId.{RequestId}
use Rattle.market_events.specs.declared.bodies.Body.{Body}
use Rattle.market_events.specs.declared.bodies.Body.TheVariants as body
use Rattle.market_events.specs.declared.bodies.Item.{Item}
use Rattle.market_events.specs.declared.bodies.PricedLine.{PricedLine}
use Rattle.market_events.specs.Links.{stock_node, payment_node, shipment_node}
use Rattle.market_events.specs.Orders.{is_of}
use Rattle.market_events.specs.Requests.{same_id}
use Rattle.market_events.specs.Shipments.{packages_in, packages}
use Rattle.market_events.specs.Steps.{taken_bodies, made_on}
use Rattle.market_events.specs.Stocks.{Reservation, reservation_in, confirms}
use Rattle.market_events.specs.declared.links.TheConstants.{STOCK_TO_ORDER, PAYMENT_TO_STOCK, PAYMENT_TO_SHIPMENT}
use Rattle.market_events.proofs.Values.Lists.{any-none, map-map}
use Rattle.market_events.proofs.Values.Same.{same_id-true, same_id-self}
use Rattle.market_events.proofs.Runs.Shipments.{ShipmentRun-of}
use Rattle.market_history.specs.Acts.{lines_if}
use Rattle.market_history.specs.Checkouts.{lines_reserved}
use Rattle.market_history.specs.Histories.{Histories, journal_at}
use Rattle.market_history.specs.Lawful.{IsLawful}
use Rattle.market_history.specs.Outstanding.{IsSettled}
use Rattle.market_laws.specs.Runs.{Member, is_payment}
use Rattle.market_laws.proofs.Origins.Cuts.{member_of_any}
use Rattle.market_laws.proofs.Origins.Made.{steps-run}
use Rattle.market_laws.proofs.Settled.Passing.{filter-kept, single, joined-passing, filter-joined}
use Rattle.market_laws.proofs.Fits.CopyMembers.{gathered-member}
use Rattle.market_laws.proofs.Fits.RepliesOnce.{any-counted}
use Rattle.market_laws.proofs.Runs.Payments.{payments-to-shipment}
use Rattle.market_laws.proofs.Settled.Counts.{steps_now, confirms-come, confirms-payment, paid-shipments}
use Rattle.market_laws.proofs.Settled.Links.{filter-made}
use Rattle.market_laws.proofs.Moments.ReservationSums.{count-held}
use Rattle.market_laws.proofs.Settled.Ways.{Counts}
use Rattle.market_laws.proofs.Settled.WholePayments.{payment-traced}

-- the packages of a payment are of its checkout
packages_all : (c : RequestId) (customer : ℕ) (lines : List PricedLine) (total : ℕ) → filter (λ (p : Item). same_id p.checkout c) (packages_in (body.Confirmed c customer lines total)) ≡ packages_in (body.Confirmed c customer lines total)
packages_all c customer [] total = refl
packages_all c customer (l ∷ lines) total = rw (same_id-self c) (ap (λ ps. record { checkout = c; customer = customer; key = l.key } ∷ ps) (packages_all c customer lines total))

-- those of others are not
packages_others : (c : RequestId) (b : Body) → confirms c b ≡ false → filter (λ (p : Item). same_id p.checkout c) (packages_in b) ≡ []
packages_others c (body.Confirmed checkout customer lines total) other = each lines
  where
    each : (ls : List PricedLine) → filter (λ (p : Item). same_id p.checkout c) (packages_in (body.Confirmed checkout customer ls total)) ≡ []
    each [] = refl
    each (l ∷ ls) = rw other (each ls)
packages_others c b other = refl

-- the lines of other reservations are not the checkout's
lines_others : (c : RequestId) (r : Reservation) → is_of c r ≡ false → lines_if c r ≡ []
lines_others c r other = rw other refl

module _ (h : Histories) (lawful : IsLawful h) (settled : IsSettled h) (c : RequestId) where
  -- the payment of a checkout
  pub record Payment : Type 0 where
    pub customer : ℕ
    pub lines : List PricedLine
    pub total : ℕ
    pub made : Member (body.Confirmed c customer lines total) (made_on PAYMENT_TO_STOCK (steps_now h lawful payment_node))

  pub payment-of : Counts h lawful c 1 1 0 → Payment
  payment-of n =
      let found = member_of_any (confirms c) (made_on PAYMENT_TO_STOCK (steps_now h lawful payment_node)) (any-counted (confirms c) (made_on PAYMENT_TO_STOCK (steps_now h lawful payment_node)) (omega (arith, n.paid_is))) in
      by found.0 found.1 found.2
    where
      by : (b : Body) → Member b (made_on PAYMENT_TO_STOCK (steps_now h lawful payment_node)) → confirms c b ≡ true → Payment
      by (body.Confirmed checkout customer lines total) here passes = record {
        customer = customer;
        lines = lines;
        total = total;
        made = subst (λ i. Member (body.Confirmed i customer lines total) (made_on PAYMENT_TO_STOCK (steps_now h lawful payment_node))) (same_id-true checkout c passes) here;
      }
      by other here passes = cc

  module _ (n : Counts h lawful c 1 1 0) (p : Payment) where
    -- stock reserved the lines of the payment
    pub lines-reserved : lines_reserved h c ≡ p.lines
    lines-reserved =
        let made = made_on STOCK_TO_ORDER (steps_now h lawful stock_node) in
        let r : Reservation = record { checkout = c; customer = p.customer; lines = p.lines } in
        let here : Member r (filter_map reservation_in made) =
        gathered-member reservation_in (body.StockConfirmed c p.customer p.lines) r made (payment-traced h lawful settled c p.customer p.lines p.total p.made).held refl in
        let one = single (is_of c) r (filter_map reservation_in made) (count-held c made ∙ n.held_is) here (same_id-self c) in
        let mine : lines_if c r ≡ p.lines = rw (same_id-self c) refl in
        joined-passing (is_of c) (lines_if c) (lines_others c) (filter_map reservation_in made) ∙ ap (flat_map (lines_if c)) one
        ∙ append-nil (lines_if c r) ∙ mine

    -- shipment took this payment of the checkout, and no other
    payment_taken : filter (confirms c) (taken_bodies (steps_now h lawful shipment_node)) ≡ body.Confirmed c p.customer p.lines p.total ∷ []
    payment_taken =
        let made = made_on PAYMENT_TO_STOCK (steps_now h lawful payment_node) in
        filter-made h lawful settled shipment_node payment_node PAYMENT_TO_SHIPMENT (omega arith) (omega arith) (omega arith) refl refl (confirms c) (confirms-come c)
        ∙ ap (filter (confirms c)) (payments-to-shipment (steps_now h lawful payment_node) (steps-run payment_node (journal_at h payment_node)))
        ∙ filter-kept (confirms c) is_payment (confirms-payment c) made
        ∙ single (confirms c) (body.Confirmed c p.customer p.lines p.total) made n.paid_is p.made (same_id-self c)

    -- shipment has a package for each line
    pub packages-whole : map (λ (i : Item). i.key) (filter (λ (i : Item). same_id i.checkout c) (packages (steps_now h lawful shipment_node))) ≡ map (λ (line : PricedLine). line.key) (lines_reserved h c)
    packages-whole =
        let mine = λ (b : Body). filter (λ (i : Item). same_id i.checkout c) (packages_in b) in
        ap (map (λ (i : Item). i.key))
        (filter-joined (λ (i : Item). same_id i.checkout c) packages_in (taken_bodies (steps_now h lawful shipment_node))
        ∙ joined-passing (confirms c) mine (packages_others c) (taken_bodies (steps_now h lawful shipment_node)) ∙ ap (flat_map mine) payment_taken
        ∙ append-nil (mine (body.Confirmed c p.customer p.lines p.total)) ∙ packages_all c p.customer p.lines p.total)
        ∙ map-map (λ (line : PricedLine). record { checkout = c; customer = p.customer; key = line.key }) (λ (i : Item). i.key) p.lines
        ∙ sym (ap (map (λ (line : PricedLine). line.key)) lines-reserved)

  -- what was not paid for has no package
  pub packages-none : {held failed : ℕ} → Counts h lawful c held 0 failed → list_any (λ (i : Item). same_id i.checkout c) (packages (steps_now h lawful shipment_node)) ≡ false
  packages-none n =
      (ShipmentRun-of (steps_now h lawful shipment_node) (steps-run shipment_node (journal_at h shipment_node))).unpacked c
      (any-none (confirms c) (taken_bodies (steps_now h lawful shipment_node)) (omega (arith, paid-shipments h lawful settled c, n.paid_is)))
