-- In settled histories the pieces on hand are those that were stocked and not sold to whole checkouts (on_hand-book), and none are
-- reserved (reserved-none).
use Rattle.std.proofs.Common.{◌≡◌, ℕ, ◌-◌, Bool, true, false, List, [], filter, filter_map, if◌then◌else◌, sum_by, refl, ap, sym, ◌∙◌, arith}
use Rattle.std.specs.List.{cons_option, list_any}
use Rattle.std.proofs.lemmas.List.Sums.{sum_by-cons}
use Rattle.market_amounts.specs.declared.keys.ProductKey.{ProductKey}
use Rattle.market_amounts.specs.declared.keys.RequestId.{RequestId}
use Rattle.market_events.specs.declared.bodies.Body.{Body}
use Rattle.market_events.specs.declared.bodies.Body.TheVariants as body
use Rattle.market_events.specs.declared.links.TheConstants.{STOCK_TO_ORDER}
use Rattle.market_events.specs.declared.requests.Ask.{Ask}
use Rattle.market_events.specs.declared.requests.Ask.TheVariants as ask
use Rattle.market_events.specs.Carts.{is_accepted}
use Rattle.market_events.specs.Orders.{is_of}
use Rattle.market_events.specs.Requests.{same_key}
use Rattle.market_events.specs.declared.roles.Role.{Role}
use Rattle.market_events.specs.Steps.{Step, taken_bodies, made_on}
use Rattle.market_events.specs.Stocks.{Reservation, pieces_asked, pieces_in, stocked, sold, reserved, on_hand, pieces_of, confirms, settles, is_confirmed, is_settled}
use Rattle.market_events.proofs.Values.Same.{same_id-self}
use Rattle.market_history.specs.Acts.{StockAct, pieces_stocked, pieces_sold}
use Rattle.market_history.specs.Blocks.{service_steps}
use Rattle.market_history.specs.Book.{stock_act_of, stock_act_in, stock_act}
use Rattle.market_history.specs.Histories.{Histories}
use Rattle.market_history.specs.Lawful.{IsLawful}
use Rattle.market_history.specs.Outstanding.{IsSettled}
use Rattle.market_laws.specs.Runs.{Member}
use Rattle.market_laws.proofs.Causes.FewOnLinks.{count-never}
use Rattle.market_laws.proofs.Views.Gathered.{sum-gathered, sum-members}
use Rattle.market_laws.proofs.Moments.ReservationSums.{sum-kept, count-held}
use Rattle.market_laws.proofs.Fits.RepliesOnce.{any-counted}
use Rattle.market_laws.proofs.Settled.Counts.{held-settled, settles-parts}
use Rattle.market_laws.proofs.Settled.Outcomes.{held, settling, was_paid}
use Rattle.market_laws.proofs.Settled.Stock.{stock-paid, stock-failed}
use Rattle.market_laws.proofs.Settled.Ways.{counted}
use Rattle.market_laws.proofs.Views.Counts.{any-as_many}

-- the pieces of the requests that were accepted
stocked-book : (steps : List Step) (key : ProductKey) → stocked steps key ≡ pieces_stocked (filter_map stock_act steps) key
stocked-book steps key =
    sum-gathered (λ (s : Step). if is_accepted s then pieces_in key s.body else 0) stock_act pieces steps (λ s here. each s.body (is_accepted s))
  where
    pieces : StockAct → ℕ
    pieces a = if same_key a.key key then a.pieces else 0

    none : (accepted : Bool) → ◌≡◌ {A = ℕ} (if accepted then 0 else 0) 0
    none true = refl
    none false = refl

    stocks : (k : ProductKey) (n : ℕ) (accepted : Bool) → (if accepted then pieces_asked key (ask.Stock k n) else 0) ≡ sum_by pieces (cons_option (stock_act_of (ask.Stock k n) accepted) [])
    stocks k n true = omega (arith, sum_by-cons pieces (record { key = k; pieces = n }) [])
    stocks k n false = refl

    asked : (a : Ask) (accepted : Bool) → (if accepted then pieces_asked key a else 0) ≡ sum_by pieces (cons_option (stock_act_of a accepted) [])
    asked (ask.Stock k n) accepted = stocks k n accepted
    asked other accepted = none accepted

    each : (b : Body) (accepted : Bool) → (if accepted then pieces_in key b else 0) ≡ sum_by pieces (cons_option (stock_act_in b accepted) [])
    each (body.Asked request) accepted = asked request.ask accepted
    each other accepted = none accepted

module _ (h : Histories) (lawful : IsLawful h) (settled : IsSettled h) (key : ProductKey) where
  sold-book : sold (service_steps h Role.Stock) key ≡ pieces_sold (filter (was_paid h) (held h)) key
  sold-book =
      (λ i. sum_by (λ (r : Reservation). if paid_as r.checkout i then pieces_of key r.lines else 0) (held h))
      ∙ sym (sum-kept (was_paid h) (λ (r : Reservation). pieces_of key r.lines) (held h))
    where
      paid_as : (id : RequestId) → is_confirmed (service_steps h Role.Stock) id ≡ list_any (confirms id) (settling h)
      paid_as id = any-as_many (confirms id) (taken_bodies (service_steps h Role.Stock)) (settling h) (stock-paid h lawful settled id)

  pub on_hand-book : on_hand (service_steps h Role.Stock) key ≡ pieces_stocked (filter_map stock_act (service_steps h Role.Stock)) key - pieces_sold (filter (was_paid h) (held h)) key
  on_hand-book = λ i. stocked-book (service_steps h Role.Stock) key i - sold-book i

  pub reserved-none : reserved (service_steps h Role.Stock) key ≡ 0
  reserved-none =
      sum-members (λ (r : Reservation). if is_settled (service_steps h Role.Stock) r.checkout then 0 else pieces_of key r.lines) (λ (r : Reservation). 0) (held h)
      (λ r here. ap (λ b. if b then 0 else pieces_of key r.lines) (settled_there r here)) ∙ count-never (held h)
    where
      settled_there : (r : Reservation) → Member r (held h) → is_settled (service_steps h Role.Stock) r.checkout ≡ true
      settled_there r here =
          let c = r.checkout in
          let bodies = taken_bodies (service_steps h Role.Stock) in
          let some = counted (is_of c) r (held h) here (same_id-self c) in
          let parts = settles-parts c bodies in
          let paid = stock-paid h lawful settled c in
          let failed = stock-failed h lawful settled c in
          let all = held-settled h lawful settled c in
          let each = count-held c (made_on STOCK_TO_ORDER (service_steps h Role.Stock)) in
          any-counted (settles c) bodies (omega arith)
