-- Each event that a service takes in lawful histories fits (services-fit), and each reply that a lane takes comes in time
-- (lanes-in_time).
use Rattle.std.proofs.Common.{◌≡◌, ℕ, ◌<◌, true, List, [], ◌∷◌, ◌++◌, refl, subst, arith}
use Rattle.market_events.specs.declared.bodies.Body.{Body}
use Rattle.market_events.specs.declared.bodies.Body.TheVariants as body
use Rattle.market_events.specs.declared.events.Entry.{Entry}
use Rattle.market_events.specs.declared.events.Event.{Event}
use Rattle.market_events.specs.declared.events.What.{What}
use Rattle.market_events.specs.declared.events.What.TheVariants.{Given, Taken, Made, Answered}
use Rattle.market_events.specs.declared.links.Link.{Link}
use Rattle.market_events.specs.declared.links.Link.TheVariants.{Service, Asked, Told}
use Rattle.market_events.specs.declared.links.TheConstants.{SERVICE_LINKS}
use Rattle.market_events.specs.declared.nodes.TheConstants.{NODES}
use Rattle.market_events.specs.declared.requests.Request.{Request}
use Rattle.market_events.specs.Carried.{carries, asked_of}
use Rattle.market_events.specs.Links.{IsLink, receiver_of, product_node}
use Rattle.market_events.specs.Services.{role_fits}
use Rattle.market_history.specs.Blocks.{role_at, services}
use Rattle.market_history.specs.Histories.{Histories, journal_at}
use Rattle.market_history.specs.Lawful.{IsLawful}
use Rattle.market_laws.specs.Cuts.{steps_at, TookAt, FitsAt, FitsBelow}
use Rattle.market_laws.specs.Fitting.{EachFits, InTimeAfter, EachInTime}
use Rattle.market_laws.proofs.Clocks.Induction.{each_after-by, each-fits}
use Rattle.market_laws.proofs.Origins.Places.{took_of}
use Rattle.market_laws.proofs.Bounds.LinkEnds.{by_link}
use Rattle.market_laws.proofs.Growth.Outs.{by_service}
use Rattle.market_laws.proofs.Fits.Asked.{asked-new, asked_fits}
use Rattle.market_laws.proofs.Fits.Cart.{cart_fits_all}
use Rattle.market_laws.proofs.Fits.KindsOnLinks.{IsNoRequest}
use Rattle.market_laws.proofs.Fits.Customers.{customer_fits_all}
use Rattle.market_laws.proofs.Fits.Inputs.{every-fits}
use Rattle.market_laws.proofs.Fits.Orders.{order_fits_all}
use Rattle.market_laws.proofs.Fits.Payments.{payment_fits_all}
use Rattle.market_laws.proofs.Fits.Sellers.{seller_fits_all}
use Rattle.market_laws.proofs.Fits.Shipments.{shipment_fits_all}
use Rattle.market_laws.proofs.Fits.Stock.{stock_fits_all}
use Rattle.market_laws.proofs.Fits.Replies.{told-in_time}
use Rattle.market_laws.proofs.Growth.Takers.{StandsAt}

-- the body is no request
abbrev IsOther : Body → Type 0
IsOther b = (request : Request) → b ≡ body.Asked request → ⊥

no_request : (b : Body) → IsOther b → IsNoRequest b
no_request (body.Asked request) other = other request refl
no_request b other = tt

-- no service link leads to products
not_to_products : (k : ℕ) → k < SERVICE_LINKS → receiver_of (Service k) ≡ product_node → ⊥
not_to_products k lt =
    by_link (λ l. receiver_of l ≡ product_node → ⊥) (λ e. omega arith) (λ e. omega arith) (λ e. omega arith) (λ e. omega arith) (λ e. omega arith) (λ e. omega arith)
    (λ e. omega arith) (λ e. omega arith) (λ e. omega arith) (λ e. omega arith) (λ e. omega arith) (λ e. omega arith) (λ e. omega arith) (λ e. omega arith)
    (λ e. omega arith) (λ e. omega arith) k lt

-- products take requests alone
products_asked : (link : Link) (b : Body) → IsLink link → receiver_of link ≡ product_node → carries link b ≡ true → IsOther b → ⊥
products_asked (Service k) b on into carried other = not_to_products k on into
products_asked (Asked lane service) b on into carried other = by b carried other
  where
    by : (b : Body) → asked_of service b ≡ true → IsOther b → ⊥
    by (body.Asked request) carried other = other request refl
    by b carried other = cc
products_asked (Told service lane) b on into carried other = omega arith

module _ (h : Histories) (lawful : IsLawful h) where
  -- what a service takes and is no request meets its kind's condition, where all that was taken before fitted
  abbrev Due : ℕ → Type 0
  Due n =
      (event : Event) (t : TookAt h n event) → FitsBelow h t.clock → IsOther event.body → role_fits (role_at n) (steps_at n t.before) event.body ≡ true

  each_due : (n : ℕ) → n < services → Due n
  each_due n lt =
      by_service Due (λ event t below other. cart_fits_all h lawful event t below (no_request event.body other))
      (λ event t below other. absurd (products_asked event.link event.body t.ready.0 t.ready.1 t.ready.2 other))
      (λ event t below other. stock_fits_all h lawful event t below (no_request event.body other))
      (λ event t below other. order_fits_all h event lawful t below other)
      (λ event t below other. payment_fits_all h event lawful t below other)
      (λ event t below other. shipment_fits_all h event lawful t below other)
      (λ event t below other. customer_fits_all h event lawful t below other)
      (λ event t below other. seller_fits_all h event lawful t below other) n lt

  -- what a service takes fits, where all that was taken before fitted
  next_fits : (n : ℕ) → n < services → (event : Event) → (t : TookAt h n event) → FitsBelow h t.clock → FitsAt n t.before event
  next_fits n lt event t below = every-fits h lawful n event t lt (by event.body refl)
    where
      by : (b : Body) → event.body ≡ b → role_fits (role_at n) (steps_at n t.before) b ≡ true
      by (body.Asked request) is = asked_fits (role_at n) (steps_at n t.before) request (asked-new h lawful n event t request is)
      by other is = subst (λ b. role_fits (role_at n) (steps_at n t.before) b ≡ true) is (each_due n lt event t below (λ request same. cc))

  -- all that a service takes fits
  pub services-fit : (n : ℕ) → n < services → EachFits n (journal_at h n)
  services-fit n lt = each-fits h lawful next_fits n lt

  -- all replies that a node takes come in time
  pub lanes-in_time : (n : ℕ) → n < NODES → EachInTime (journal_at h n)
  lanes-in_time n lt =
      each_after-by (λ before (x : Entry). InTimeAfter before x.what) [] (journal_at h n) (λ before x after is. by before x after is x.what refl)
    where
      by : (before : List Entry) (x : Entry) (after : List Entry) → journal_at h n ≡ before ++ x ∷ after → (what : What) → x.what ≡ what → InTimeAfter before what
      by before x after is (Given request) same = tt
      by before x after is (Taken event) same =
          let stands : StandsAt h n x = record { node = lt; before = before; after = after; is = is } in
          told-in_time h lawful n event (took_of h n x event lawful stands same)
      by before x after is (Made event) same = tt
      by before x after is (Answered id reply) same = tt
