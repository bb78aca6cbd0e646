-- Back from what was taken to what stock held, and to what the cart sent on: from a StockConfirmed, an Invoice, a Reserve and
-- an end of a checkout.
use Rattle.std.proofs.Common.{◌≡◌, ℕ, ◌<◌, ◌≤◌, Bool, true, false, List, refl, ap, ◌∙◌, subst, arith}
use Rattle.std.specs.List.{list_any}
use Rattle.market_amounts.specs.declared.keys.RequestId.{RequestId}
use Rattle.market_events.specs.declared.bodies.Body.{Body}
use Rattle.market_events.specs.declared.bodies.Body.TheVariants as body
use Rattle.market_events.specs.declared.bodies.PricedLine.{PricedLine}
use Rattle.market_events.specs.declared.events.Event.{Event}
use Rattle.market_events.specs.Links.{sender_of, cart_node, stock_node, order_node, payment_node}
use Rattle.market_events.specs.Orders.{is_of, is_taken, ships, checkouts_taken}
use Rattle.market_events.specs.declared.roles.Role.{Role}
use Rattle.market_events.specs.Services.{IsRunOf, ends}
use Rattle.market_events.specs.Steps.{Step, taken_bodies, made_on}
use Rattle.market_events.specs.Stocks.{reservation_in, fails}
use Rattle.market_events.specs.declared.links.TheConstants.{STOCK_TO_CART, STOCK_TO_ORDER, ORDER_TO_CART, CART_TO_STOCK, ORDER_TO_PAYMENT}
use Rattle.market_events.specs.declared.links.Link.{Link}
use Rattle.market_events.proofs.Values.Lists.{count-none, count-some}
use Rattle.market_events.proofs.Runs.Orders.{OrderRun-of}
use Rattle.market_events.proofs.Values.Same.{same_id-true, same_id-self}
use Rattle.market_history.specs.Blocks.{role_at, services}
use Rattle.market_history.specs.Histories.{Histories, journal_at}
use Rattle.market_history.specs.Lawful.{IsLawful}
use Rattle.market_laws.specs.Cuts.{steps_at, TookAt, MadeAt}
use Rattle.market_laws.specs.Runs.{Member, holds_pieces}
use Rattle.market_laws.proofs.Origins.Cuts.{any_of_member, member_of_any}
use Rattle.market_laws.proofs.Origins.Made.{steps-run, made-whole}
use Rattle.market_laws.proofs.Origins.Once.{TookBefore}
use Rattle.market_laws.proofs.Origins.Back.{made-origin, made-origin-some}
use Rattle.market_laws.proofs.Origins.Senders.{took-made-on}
use Rattle.market_laws.proofs.Fits.KindsOnLinks.{IsNoRequest, ComesBy, came}
use Rattle.market_laws.proofs.Fits.CopyMembers.{member-gathered, reservation_in-is}
use Rattle.market_laws.proofs.Runs.Orders.{invoice-held, ends-is}
use Rattle.market_laws.proofs.Runs.Stock.{held-reserve, answered-is, reserves-once}

-- an event with this body that node n made on a service link before the clock
pub record MadeBefore (h : Histories) (n : ℕ) (link : Link) (b : Body) (top : ℕ) : Type 0 where
  pub event : Event
  pub made : MadeAt h n event
  pub on : event.link ≡ link
  pub clock : event.clock < top
  pub body_is : event.body ≡ b

module _ (h : Histories) (lawful : IsLawful h) where
  -- an event that was taken was made before
  pub taken-sent : (s : ℕ) (link : Link) (n : ℕ) (event : Event) (t : TookAt h s event) → event.link ≡ link → sender_of link ≡ n → (b : Body) → event.body ≡ b → (top : ℕ) → t.clock ≤ top → MadeBefore h n link b top
  taken-sent s link n event t on leaves b is top le =
      let m = took-made-on h lawful s event link t on in
      let less = m.clock in
      record { event = event; made = subst (λ i. MadeAt h i event) leaves m.made; on = on; clock = omega arith; body_is = is }

  -- the same of one that was taken before, where its kind comes on one link
  pub before-sent : (s : ℕ) (link : Link) (n : ℕ) (b : Body) (top : ℕ) → TookBefore h s top b → s < services → IsNoRequest b → ComesBy s link b → sender_of link ≡ n → MadeBefore h n link b top
  before-sent s link n b top u small quiet only leaves =
      let less = u.clock_is in
      taken-sent s link n u.event u.took (came h s u.event u.took b u.body_is small quiet link only) leaves b u.body_is top (omega arith)

  -- what a run lemma says was taken for what was made was taken before
  pub sent-origin : (n : ℕ) (link : Link) (b c : Body) (top : ℕ) → n < services → MadeBefore h n link b top → ((steps : List Step) → IsRunOf (role_at n) steps → Member b (made_on link steps) → Member c (taken_bodies steps)) → TookBefore h n top c
  sent-origin n link b c top lt m run =
      let o = made-origin h lawful n m.event link lt m.made m.on c (λ steps r here. run steps r (subst (λ d. Member d (made_on link steps)) m.body_is here)) in
      let first = o.clock in
      let second = m.clock in
      record { event = o.event; took = o.took; clock_is = omega arith; body_is = o.body_is }

  -- the same of some body for which this holds
  pub sent-origin-some : (n : ℕ) (link : Link) (b : Body) (top : ℕ) → n < services → MadeBefore h n link b top → (Holds : Body → Type 0) → ((steps : List Step) → IsRunOf (role_at n) steps → Member b (made_on link steps) → (c : Body) × Member c (taken_bodies steps) × Holds c)
      → (c : Body) × TookBefore h n top c × Holds c
  sent-origin-some n link b top lt m Holds run =
      let found = made-origin-some h lawful n m.event link lt m.made m.on Holds (λ steps r here. run steps r (subst (λ d. Member d (made_on link steps)) m.body_is here)) in
      let o = found.1 in
      let first = o.clock in
      let second = m.clock in
      (found.0, record { event = o.event; took = o.took; clock_is = omega arith; body_is = o.body_is }, found.2)

  -- what order takes as held, stock held
  pub held-of-order : (checkout : RequestId) (customer : ℕ) (lines : List PricedLine) (top : ℕ) → TookBefore h order_node top (body.StockConfirmed checkout customer lines) → MadeBefore h stock_node STOCK_TO_ORDER (body.StockConfirmed checkout customer lines) top
  held-of-order checkout customer lines top u = before-sent order_node STOCK_TO_ORDER stock_node (body.StockConfirmed checkout customer lines) top u (omega arith) tt refl refl

  -- what is invoiced, stock held
  pub held-of-invoice : (checkout : RequestId) (customer : ℕ) (lines : List PricedLine) (total top : ℕ) → TookBefore h payment_node top (body.Invoice checkout customer lines total) → MadeBefore h stock_node STOCK_TO_ORDER (body.StockConfirmed checkout customer lines) top
  held-of-invoice checkout customer lines total top u =
      let m = before-sent payment_node ORDER_TO_PAYMENT order_node (body.Invoice checkout customer lines total) top u (omega arith) tt refl refl in
      held-of-order checkout customer lines top
      (sent-origin order_node ORDER_TO_PAYMENT (body.Invoice checkout customer lines total) (body.StockConfirmed checkout customer lines) top (omega arith) m (λ steps run here. (invoice-held steps run checkout customer lines total here).0))

  -- what stock took, the cart sent on
  pub sent-of-stock : (checkout : RequestId) (customer : ℕ) (lines : List PricedLine) (top : ℕ) → TookBefore h stock_node top (body.Reserve checkout customer lines) → MadeBefore h cart_node CART_TO_STOCK (body.Reserve checkout customer lines) top
  sent-of-stock checkout customer lines top u = before-sent stock_node CART_TO_STOCK cart_node (body.Reserve checkout customer lines) top u (omega arith) tt refl refl

  -- and so what stock held
  pub sent-of-held : (checkout : RequestId) (customer : ℕ) (lines : List PricedLine) (top : ℕ) → MadeBefore h stock_node STOCK_TO_ORDER (body.StockConfirmed checkout customer lines) top → MadeBefore h cart_node CART_TO_STOCK (body.Reserve checkout customer lines) top
  sent-of-held checkout customer lines top m =
      sent-of-stock checkout customer lines top
      (sent-origin stock_node STOCK_TO_ORDER (body.StockConfirmed checkout customer lines) (body.Reserve checkout customer lines) top (omega arith) m (λ steps run here. held-reserve steps run checkout customer lines here))

-- an order that ends a checkout took it
ended_taken : (steps : List Step) → IsRunOf Role.Order steps → (id : RequestId) → list_any (ends id) (made_on ORDER_TO_CART steps) ≡ true → list_any (is_of id) (checkouts_taken steps) ≡ true
ended_taken steps run id any = either (list_any (is_of id) (checkouts_taken steps)) refl
  where
    either : (b : Bool) → list_any (is_of id) (checkouts_taken steps) ≡ b → list_any (is_of id) (checkouts_taken steps) ≡ true
    either true is = is
    either false is = absurd (refuted (is_taken ships steps id) refl)
      where
        refuted : (s : Bool) → is_taken ships steps id ≡ s → ⊥
        refuted true shipped =
            let at = (OrderRun-of steps run).at id in
            let unpaid = at.unpaid is in
            let paid = at.paid_first shipped in
            cc
        refuted false unshipped =
            let at = (OrderRun-of steps run).at id in
            let unfailed : list_any (fails id) (taken_bodies steps) ≡ false = at.unfailed is in
            omega (arith, ends-is steps run id, count-some (ends id) (made_on ORDER_TO_CART steps) any, count-none (fails id) (taken_bodies steps) unfailed, count-none (ships id) (taken_bodies steps) unshipped)

-- a checkout of this id that was held
abbrev pub IsHeldFor : RequestId → Body → Type 0
IsHeldFor id b = (customer : ℕ) × (lines : List PricedLine) × (b ≡ body.StockConfirmed id customer lines)

ended_held : (steps : List Step) → IsRunOf Role.Order steps → (id : RequestId) → list_any (ends id) (made_on ORDER_TO_CART steps) ≡ true → (c : Body) × Member c (taken_bodies steps) × IsHeldFor id c
ended_held steps run id any =
    let found = member_of_any (is_of id) (checkouts_taken steps) (ended_taken steps run id any) in
    let r = found.0 in
    let from = member-gathered reservation_in r (taken_bodies steps) found.1 in
    let same : r.checkout ≡ id = same_id-true r.checkout id found.2 in
    (from.0, from.1, (r.customer, r.lines, reservation_in-is from.0 r from.2 ∙ ap (λ c. body.StockConfirmed c r.customer r.lines) same))

-- what order ended, stock held
pub record HeldBefore (h : Histories) (id : RequestId) (top : ℕ) : Type 0 where
  pub customer : ℕ
  pub lines : List PricedLine
  pub made : MadeBefore h stock_node STOCK_TO_ORDER (body.StockConfirmed id customer lines) top

module _ (h : Histories) (lawful : IsLawful h) where
  pub held-of-ended : (id : RequestId) (b : Body) (top : ℕ) → MadeBefore h order_node ORDER_TO_CART b top → ends id b ≡ true → HeldBefore h id top
  held-of-ended id b top m ended =
      let found = sent-origin-some h lawful order_node ORDER_TO_CART b top (omega arith) m (IsHeldFor id) (λ steps run here. ended_held steps run id (any_of_member (ends id) b (made_on ORDER_TO_CART steps) here ended)) in
      let held = found.2 in
      record { customer = held.0; lines = held.1; made = held-of-order h lawful id held.0 held.1 top (subst (λ c. TookBefore h order_node top c) held.2 found.1) }

  -- stock does not hold the pieces of a checkout and refuse it too
  pub held-or-failed : (id : RequestId) (customer : ℕ) (lines : List PricedLine) (top : ℕ) (b : Body) (high : ℕ) → MadeBefore h stock_node STOCK_TO_ORDER (body.StockConfirmed id customer lines) top → MadeBefore h stock_node STOCK_TO_CART b high → ends id b ≡ true → ⊥
  held-or-failed id customer lines top b high m f ended =
      let steps = steps_at stock_node (journal_at h stock_node) in
      let run : IsRunOf Role.Stock steps = steps-run stock_node (journal_at h stock_node) in
      let holds : holds_pieces id m.event.body ≡ true = ap (holds_pieces id) m.body_is ∙ same_id-self id in
      let refuses : ends id f.event.body ≡ true = ap (ends id) f.body_is ∙ ended in
      let held = any_of_member (holds_pieces id) m.event.body (made_on STOCK_TO_ORDER steps) (made-whole h lawful stock_node (omega arith) m.event STOCK_TO_ORDER m.made m.on) holds in
      let failed = any_of_member (ends id) f.event.body (made_on STOCK_TO_CART steps) (made-whole h lawful stock_node (omega arith) f.event STOCK_TO_CART f.made f.on) refuses in
      omega (arith, answered-is steps run id, reserves-once steps run id, count-some (holds_pieces id) (made_on STOCK_TO_ORDER steps) held, count-some (ends id) (made_on STOCK_TO_CART steps) failed)
