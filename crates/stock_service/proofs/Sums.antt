-- What one more step makes of what stock keeps.
use Rattle.std.proofs.Common.{◌≡◌, ℕ, ◌+◌, Bool, true, false, ◌&&◌, ◌||◌, not, nat_lt, List, [], ◌∷◌, ◌++◌, Option, Some, None, filter_map, find, option_map, if◌then◌else◌, refl, ap, sym, ◌∙◌, arith}
use Rattle.std.specs.List.{list_any}
use Rattle.market_amounts.specs.declared.keys.ProductKey.{ProductKey}
use Rattle.market_amounts.specs.declared.keys.RequestId.{RequestId}
use Rattle.market_events.specs.declared.bodies.Body.{Body}
use Rattle.market_events.specs.declared.bodies.Body.TheVariants as body
use Rattle.market_events.specs.declared.bodies.PayRule.{PayRule}
use Rattle.market_events.specs.declared.bodies.PricedLine.{PricedLine}
use Rattle.market_events.specs.declared.changes.Look.{Look}
use Rattle.market_events.specs.declared.changes.Look.TheVariants.{Unknown, Gone, Live}
use Rattle.market_events.specs.declared.links.TheConstants.{STOCK_TO_ORDER}
use Rattle.market_events.specs.declared.replies.Reply.TheVariants as reply
use Rattle.market_events.specs.declared.replies.Rule.TheVariants as rule
use Rattle.market_events.specs.declared.requests.Ask.{Ask}
use Rattle.market_events.specs.declared.requests.Ask.TheVariants as ask
use Rattle.market_events.specs.Carts.{changes_taken, is_accepted, is_refusal}
use Rattle.market_events.specs.Copies.{copy_of}
use Rattle.market_events.specs.Links.{stock_node}
use Rattle.market_events.specs.Orders.{is_of, is_taken}
use Rattle.market_events.specs.Requests.{same_id, same_key}
use Rattle.market_events.specs.declared.roles.Role.{Role}
use Rattle.market_events.specs.Services.{IsRunOf, reserves}
use Rattle.market_events.specs.Steps.{Step, body_on, told, refused}
use Rattle.market_events.specs.Stocks.{Reservation, reservation_in, reservations, settles, is_settled, pieces_in, pieces_of, stocked, on_hand, reserved, stock_rows, level_rows, stock_asked, stock_sums}
use Rattle.market_events.specs.WellFormed.{pieces_max}
use Rattle.market_events.proofs.Values.Lists.{list_any-push, or_false, and_false, and_true}
use Rattle.market_events.proofs.Values.Same.{same_key-true}
use Rattle.market_events.proofs.Steps.Pieces.{reservations_of, stocked-push-other, stocked-push-refused}
use Rattle.market_events.proofs.Steps.Stock.{waiting_at, waiting_at-same, waiting_at-reserved, waiting_at-settled, reserve-pieces, confirmed-pieces, failed-pieces, stocked-pieces, quiet-pieces}
use Rattle.stock_service.specs.declared.levels.Act.TheVariants.{Reserve, Sell, Release}
use Rattle.stock_service.specs.Holds.{amounts_by, stocks_in, was_stocked, lines_held}
use Rattle.stock_service.specs.Amounts.{Amounts, amounts_after, can_stock}

-- the lines of the reservation that waits
abbrev pub lines_in : Option Reservation → Option (List PricedLine)
lines_in o = option_map (λ (r : Reservation). r.lines) o

-- the lines that are held are those of the reservation that waits
pub lines_held-is : (steps : List Step) (id : RequestId) → lines_held steps id ≡ lines_in (waiting_at steps id)
lines_held-is steps id = either (is_settled steps id) (find (is_of id) (reservations steps))
  where
    either : (b : Bool) (o : Option Reservation) → (if b then None else option_map (λ (r : Reservation). r.lines) o) ≡ lines_in (if b then None else o)
    either true o = refl
    either false o = refl

-- what one more step stocks
pub was_stocked-push : (steps : List Step) (s : Step) (key : ProductKey) → was_stocked (steps ++ s ∷ []) key ≡ (was_stocked steps key || (is_accepted s && stocks_in key s.body))
was_stocked-push steps s key = list_any-push (λ (s : Step). is_accepted s && stocks_in key s.body) steps s

-- amounts with these numbers
pub amounts : {a b c d : ℕ} → a ≡ c → b ≡ d → (let left : Amounts = record { on_hand = a; reserved = b } in left ≡ record { on_hand = c; reserved = d })
amounts e f = λ i. record { on_hand = e i; reserved = f i }

-- a step that makes no reservation, settles none and stocks nothing
pub record IsQuiet (steps : List Step) (s : Step) : Type 0 where
  pub none : reservations_of s ≡ []
  pub quiet : (id : RequestId) → settles id s.body ≡ false
  pub same : (key : ProductKey) → stocked (steps ++ s ∷ []) key ≡ stocked steps key
  pub unstocked : (key : ProductKey) → (is_accepted s && stocks_in key s.body) ≡ false

module _ (steps : List Step) (s : Step) where
  -- the pieces stay
  pub quiet-amounts : IsQuiet steps s → (key : ProductKey) → amounts_by (steps ++ s ∷ []) key ≡ amounts_by steps key
  quiet-amounts q key = let both = quiet-pieces steps s q.none q.quiet q.same key in amounts both.0 both.1

  -- no entry more
  pub unstocked-there : (key : ProductKey) → (is_accepted s && stocks_in key s.body) ≡ false → was_stocked (steps ++ s ∷ []) key ≡ was_stocked steps key
  unstocked-there key none = was_stocked-push steps s key ∙ ap (λ b. was_stocked steps key || b) none ∙ or_false (was_stocked steps key)

  -- the lines that are held stay
  pub quiet-lines : IsQuiet steps s → (id : RequestId) → lines_held (steps ++ s ∷ []) id ≡ lines_held steps id
  quiet-lines q id = lines_held-is (steps ++ s ∷ []) id ∙ ap lines_in (waiting_at-same steps s id q.none (q.quiet id)) ∙ sym (lines_held-is steps id)

-- a body that stocks nothing
pub stocks-other : (s : Step) (key : ProductKey) → stocks_in key s.body ≡ false → (is_accepted s && stocks_in key s.body) ≡ false
stocks-other s key none = ap (λ b. is_accepted s && b) none ∙ and_false (is_accepted s)

-- a step with a body that settles and stocks nothing, and makes no reservation
pub body-quiet : (steps : List Step) (s : Step) (b : Body) → s.body ≡ b → reservations_of s ≡ [] → ((id : RequestId) → settles id b ≡ false) → ((key : ProductKey) → pieces_in key b ≡ 0) → ((key : ProductKey) → stocks_in key b ≡ false)
    → IsQuiet steps s
body-quiet steps s b is none quiet nothing unstocked = record {
  none = none;
  quiet = λ id. ap (settles id) is ∙ quiet id;
  same = λ key. stocked-push-other steps s key (ap (pieces_in key) is ∙ nothing key);
  unstocked = λ key. stocks-other s key (ap (stocks_in key) is ∙ unstocked key);
}

-- a reservation is made
module _ (steps : List Step) (s : Step) (run : IsRunOf Role.Stock steps) (checkout : RequestId) (customer : ℕ) (lines : List PricedLine)
    (is : s.body ≡ body.Reserve checkout customer lines) (made : s.made ≡ (STOCK_TO_ORDER, body.StockConfirmed checkout customer lines) ∷ []) (new : is_taken reserves steps checkout ≡ false) where
  -- the pieces of the lines are reserved
  pub reserved-amounts : (key : ProductKey) → amounts_by (steps ++ s ∷ []) key ≡ amounts_after Reserve (pieces_of key lines) (amounts_by steps key)
  reserved-amounts key = let both = reserve-pieces steps s run checkout customer lines is made new key in amounts both.0 both.1

  -- no entry more
  pub reserved-there : (key : ProductKey) → was_stocked (steps ++ s ∷ []) key ≡ was_stocked steps key
  reserved-there key = unstocked-there steps s key (stocks-other s key (ap (stocks_in key) is))

  -- the lines are held
  pub reserved-lines : (id : RequestId) → lines_held (steps ++ s ∷ []) id ≡ (if same_id checkout id then Some lines else lines_held steps id)
  reserved-lines id =
      lines_held-is (steps ++ s ∷ []) id
      ∙ ap lines_in (waiting_at-reserved steps s (record { checkout = checkout; customer = customer; lines = lines }) run
      (ap (λ m. filter_map reservation_in (filter_map (body_on STOCK_TO_ORDER) m)) made) (λ id. ap (settles id) is) new id)
      ∙ either (same_id checkout id)
      ∙ ap (λ (o : Option (List PricedLine)). if same_id checkout id then Some lines else o) (sym (lines_held-is steps id))
    where
      either : (b : Bool) → lines_in (if b then Some (record { checkout = checkout; customer = customer; lines = lines }) else waiting_at steps id) ≡ (if b then Some lines else lines_in (waiting_at steps id))
      either true = refl
      either false = refl

-- a reservation is settled
module _ (steps : List Step) (s : Step) (checkout : RequestId) (none : reservations_of s ≡ []) (settle : (id : RequestId) → settles id s.body ≡ same_id checkout id) where
  -- its lines are forgotten
  pub settled-lines : (id : RequestId) → lines_held (steps ++ s ∷ []) id ≡ (if same_id checkout id then None else lines_held steps id)
  settled-lines id =
      lines_held-is (steps ++ s ∷ []) id
      ∙ ap lines_in (waiting_at-settled steps s checkout none settle id)
      ∙ either (same_id checkout id)
      ∙ ap (λ (o : Option (List PricedLine)). if same_id checkout id then None else o) (sym (lines_held-is steps id))
    where
      either : (b : Bool) → lines_in (if b then None else waiting_at steps id) ≡ (if b then None else lines_in (waiting_at steps id))
      either true = refl
      either false = refl

module _ (steps : List Step) (s : Step) (run : IsRunOf Role.Stock steps) (checkout : RequestId) (r : Reservation) (made : s.made ≡ []) (waits : waiting_at steps checkout ≡ Some r) where
  -- a payment sells the pieces
  pub confirmed-amounts : (customer : ℕ) (lines : List PricedLine) (total : ℕ) → s.body ≡ body.Confirmed checkout customer lines total
      → (key : ProductKey) → amounts_by (steps ++ s ∷ []) key ≡ amounts_after Sell (pieces_of key r.lines) (amounts_by steps key)
  confirmed-amounts customer lines total is key = let all = confirmed-pieces steps s run checkout customer lines total r is made waits key in amounts all.0 all.1

  -- a failed payment releases the pieces
  pub failed-amounts : (customer : ℕ) (reason : PayRule) → s.body ≡ body.Failed checkout customer reason
      → (key : ProductKey) → amounts_by (steps ++ s ∷ []) key ≡ amounts_after Release (pieces_of key r.lines) (amounts_by steps key)
  failed-amounts customer reason is key = let all = failed-pieces steps s run checkout customer reason r is made waits key in amounts all.0 all.1

-- pieces are stocked, or not
module _ (steps : List Step) (s : Step) (run : IsRunOf Role.Stock steps) (id : RequestId) (k : ProductKey) (pieces : ℕ)
    (is : s.body ≡ body.Asked (record { id = id; ask = ask.Stock k pieces })) where
  -- what one more request for stock leaves
  pub record Stocked (can : Bool) : Type 0 where
    pub each : (key : ProductKey) → amounts_by (steps ++ s ∷ []) key ≡ (if same_key k key && can then (let was = amounts_by steps k in record was { on_hand = was.on_hand + pieces }) else amounts_by steps key)
    pub there : (key : ProductKey) → was_stocked (steps ++ s ∷ []) key ≡ (was_stocked steps key || (same_key k key && can))
    pub lines : (checkout : RequestId) → lines_held (steps ++ s ∷ []) checkout ≡ lines_held steps checkout

  -- it was refused
  refused_stocked : is_accepted s ≡ false → reservations_of s ≡ [] → Stocked false
  refused_stocked refused none =
      let q : IsQuiet steps s = record {
        none = none;
        quiet = λ id. ap (settles id) is;
        same = λ key. stocked-push-refused steps s key refused;
        unstocked = λ key. ap (λ b. b && stocks_in key s.body) refused;
      } in record {
        each = λ key. quiet-amounts steps s q key ∙ unless (same_key k key) (amounts_by steps key);
        there = λ key. unstocked-there steps s key (q.unstocked key) ∙ none_more (was_stocked steps key) (same_key k key);
        lines = quiet-lines steps s q;
      }
    where
      unless : (b : Bool) (now : Amounts) → now ≡ (if b && false then (let was = amounts_by steps k in record was { on_hand = was.on_hand + pieces }) else now)
      unless true now = refl
      unless false now = refl

      none_more : (a b : Bool) → a ≡ (a || (b && false))
      none_more true b = refl
      none_more false true = refl
      none_more false false = refl

  -- it was accepted
  accepted_stocked : (n : ℕ) → s.made ≡ told stock_node id (reply.Stocked n) ∷ [] → Stocked true
  accepted_stocked n made = record {
    each = λ key. let both = stocked-pieces steps s run id k pieces n is made key in amounts both.0 both.1 ∙ more key (same_key k key) refl;
    there = λ key. was_stocked-push steps s key ∙ ap (λ b. was_stocked steps key || (b && stocks_in key s.body)) accepted
        ∙ ap (λ b. was_stocked steps key || stocks_in key b) is ∙ ap (λ b. was_stocked steps key || b) (sym (and_true (same_key k key)));
    lines = λ checkout. lines_held-is (steps ++ s ∷ []) checkout ∙ ap lines_in (waiting_at-same steps s checkout none (ap (settles checkout) is)) ∙ sym (lines_held-is steps checkout);
  }
    where
      none : reservations_of s ≡ []
      none = ap (λ m. filter_map reservation_in (filter_map (body_on STOCK_TO_ORDER) m)) made

      accepted : is_accepted s ≡ true
      accepted = ap (λ m. not (list_any is_refusal m)) made

      more : (key : ProductKey) (b : Bool) → same_key k key ≡ b
          → (let now : Amounts = record { on_hand = on_hand steps key + (if b then pieces else 0); reserved = reserved steps key } in now)
          ≡ (if b && true then (let was = amounts_by steps k in record was { on_hand = was.on_hand + pieces }) else amounts_by steps key)
      more key true same = ap (λ (key : ProductKey). let now : Amounts = record { on_hand = on_hand steps key + pieces; reserved = reserved steps key } in now) (sym (same_key-true k key same))
      more key false other = let e : on_hand steps key + 0 ≡ on_hand steps key = omega arith in amounts e refl

  -- what is answered says which
  pub stocked-by : (look : Look) → s.made ≡ stock_rows id pieces look (on_hand steps k) → Stocked (can_stock look pieces (on_hand steps k))
  stocked-by Unknown made = refused_stocked (ap (λ m. not (list_any is_refusal m)) made) (ap (λ m. filter_map reservation_in (filter_map (body_on STOCK_TO_ORDER) m)) made)
  stocked-by (Gone v) made = refused_stocked (ap (λ m. not (list_any is_refusal m)) made) (ap (λ m. filter_map reservation_in (filter_map (body_on STOCK_TO_ORDER) m)) made)
  stocked-by (Live v price freight) made = either (nat_lt pieces_max (on_hand steps k + pieces)) made
    where
      either : (over : Bool) → s.made ≡ (if over then refused stock_node id rule.StockOver else told stock_node id (reply.Stocked (on_hand steps k + pieces)) ∷ []) → Stocked (not over)
      either true made = refused_stocked (ap (λ m. not (list_any is_refusal m)) made) (ap (λ m. filter_map reservation_in (filter_map (body_on STOCK_TO_ORDER) m)) made)
      either false made = accepted_stocked (on_hand steps k + pieces) made

-- any other request
pub asked-quiet : (steps : List Step) (s : Step) (id : RequestId) (asks : Ask) → s.body ≡ body.Asked (record { id = id; ask = asks }) → s.made ≡ stock_asked (stock_sums steps) id asks
    → ((key : ProductKey) (pieces : ℕ) → asks ≡ ask.Stock key pieces → ⊥) → IsQuiet steps s
asked-quiet steps s id (ask.Stock key pieces) is made other = absurd (other key pieces refl)
asked-quiet steps s id (ask.Level key) is made other = body-quiet steps s (body.Asked (record { id = id; ask = ask.Level key })) is (rows (copy_of (changes_taken steps) key) made) (λ id. refl) (λ key. refl) (λ key. refl)
  where
    rows : (look : Look) → s.made ≡ level_rows id look (on_hand steps key) (reserved steps key) → reservations_of s ≡ []
    rows Unknown made = ap (λ m. filter_map reservation_in (filter_map (body_on STOCK_TO_ORDER) m)) made
    rows (Gone v) made = ap (λ m. filter_map reservation_in (filter_map (body_on STOCK_TO_ORDER) m)) made
    rows (Live v price freight) made = ap (λ m. filter_map reservation_in (filter_map (body_on STOCK_TO_ORDER) m)) made
asked-quiet steps s id asks is made other = body-quiet steps s (body.Asked (record { id = id; ask = asks })) is (ap (λ m. filter_map reservation_in (filter_map (body_on STOCK_TO_ORDER) m)) made) (λ id. refl) (λ key. refl) (λ key. refl)
