-- Lists of checkouts with one more: whole, or not paid.
use Rattle.std.proofs.Common.{◌≡◌, ◌+◌, Bool, true, false, cond, ◌&&◌, ◌||◌, List, [], ◌∷◌, ◌++◌, filter, if◌then◌else◌, sum_by, refl, ap, sym, ◌∙◌, append-nil, append_assoc, arith}
use Rattle.std.specs.List.{list_any, list_all, flat_map}
use Rattle.std.proofs.lemmas.List.Concat.{flat_map-append}
use Rattle.std.proofs.lemmas.List.Elements.{filter-append}
use Rattle.std.proofs.lemmas.List.Folds.{list_any-append}
use Rattle.std.proofs.lemmas.List.Sums.{sum_by_push}
use Rattle.market_amounts.specs.declared.keys.RequestId.{RequestId}
use Rattle.market_events.specs.declared.bodies.Item.{Item}
use Rattle.market_events.specs.declared.bodies.PricedLine.{PricedLine}
use Rattle.market_events.specs.Orders.{is_of}
use Rattle.market_events.specs.Requests.{same_id, same_key}
use Rattle.market_events.specs.Services.{is_line_of}
use Rattle.market_events.specs.Stocks.{Reservation}
use Rattle.market_events.proofs.Values.Lists.{and_both, list_any-push, flat_map-push, or_parts}
use Rattle.market_events.proofs.Values.Same.{same_id-true}
use Rattle.market_history.specs.Acts.{lines_if, lines_of, cost_if}
use Rattle.market_laws.proofs.Settled.Passing.{joined-passing}

-- where the checkout does not stand, no reservation is of it
none-kept : (id : RequestId) (rs : List Reservation) → list_any (is_of id) rs ≡ false → filter (is_of id) rs ≡ []
none-kept id [] none = refl
none-kept id (r ∷ rs) none = let both = or_parts (is_of id r) (list_any (is_of id) rs) none in rw both.0 (none-kept id rs both.1)

-- the lines of a checkout are those of its reservations
pub lines-own : (id : RequestId) (rs : List Reservation) → lines_of rs id ≡ flat_map (lines_if id) (filter (is_of id) rs)
lines-own id rs = joined-passing (is_of id) (lines_if id) (λ r other. ap (λ b. if b then r.lines else []) other) rs

module _ (whole unpaid : List Reservation) (r : Reservation) (id : RequestId) where
  -- a checkout is among them where it was, or is this one
  pub any-whole : list_any (is_of id) ((whole ++ r ∷ []) ++ unpaid) ≡ (list_any (is_of id) (whole ++ unpaid) || same_id r.checkout id)
  any-whole =
      list_any-append (is_of id) (whole ++ r ∷ []) unpaid
      ∙ ap (λ b. b || list_any (is_of id) unpaid) (list_any-push (is_of id) whole r)
      ∙ swap (list_any (is_of id) whole) (same_id r.checkout id) (list_any (is_of id) unpaid)
      ∙ ap (λ b. b || same_id r.checkout id) (sym (list_any-append (is_of id) whole unpaid))
    where
      swap : (a b c : Bool) → ((a || b) || c) ≡ ((a || c) || b)
      swap true b c = refl
      swap false true true = refl
      swap false true false = refl
      swap false false true = refl
      swap false false false = refl

  pub any-unpaid : list_any (is_of id) (whole ++ (unpaid ++ r ∷ [])) ≡ (list_any (is_of id) (whole ++ unpaid) || same_id r.checkout id)
  any-unpaid = ap (list_any (is_of id)) (sym (append_assoc whole unpaid (r ∷ []))) ∙ list_any-push (is_of id) (whole ++ unpaid) r

  -- the reservations of a checkout, where this one is new
  pub orders-whole : list_any (is_of r.checkout) (whole ++ unpaid) ≡ false → filter (is_of id) ((whole ++ r ∷ []) ++ unpaid) ≡ filter (is_of id) (whole ++ unpaid) ++ filter (is_of id) (r ∷ [])
  orders-whole new =
      filter-append (is_of id) (whole ++ r ∷ []) unpaid
      ∙ ap (λ rs. rs ++ filter (is_of id) unpaid) (filter-append (is_of id) whole (r ∷ []))
      ∙ either (same_id r.checkout id) refl
    where
      parts : list_any (is_of r.checkout) whole || list_any (is_of r.checkout) unpaid ≡ false
      parts = sym (list_any-append (is_of r.checkout) whole unpaid) ∙ new

      none : same_id r.checkout id ≡ true → filter (is_of id) unpaid ≡ []
      none same = none-kept id unpaid (ap (λ i. list_any (is_of i) unpaid) (sym (same_id-true r.checkout id same)) ∙ (or_parts (list_any (is_of r.checkout) whole) (list_any (is_of r.checkout) unpaid) parts).1)

      either : (b : Bool) → same_id r.checkout id ≡ b → (filter (is_of id) whole ++ cond b (r ∷ []) []) ++ filter (is_of id) unpaid ≡ filter (is_of id) (whole ++ unpaid) ++ cond b (r ∷ []) []
      either true same =
          ap (λ rs. (filter (is_of id) whole ++ r ∷ []) ++ rs) (none same) ∙ append-nil (filter (is_of id) whole ++ r ∷ [])
          ∙ ap (λ rs. rs ++ r ∷ []) (sym (append-nil (filter (is_of id) whole)) ∙ ap (λ rs. filter (is_of id) whole ++ rs) (sym (none same)) ∙ sym (filter-append (is_of id) whole unpaid))
      either false other =
          ap (λ rs. rs ++ filter (is_of id) unpaid) (append-nil (filter (is_of id) whole)) ∙ sym (filter-append (is_of id) whole unpaid) ∙ sym (append-nil (filter (is_of id) (whole ++ unpaid)))

  pub orders-unpaid : filter (is_of id) (whole ++ (unpaid ++ r ∷ [])) ≡ filter (is_of id) (whole ++ unpaid) ++ filter (is_of id) (r ∷ [])
  orders-unpaid = ap (filter (is_of id)) (sym (append_assoc whole unpaid (r ∷ []))) ∙ filter-append (is_of id) (whole ++ unpaid) (r ∷ [])

  -- and its lines
  pub lines-whole : list_any (is_of r.checkout) (whole ++ unpaid) ≡ false → lines_of ((whole ++ r ∷ []) ++ unpaid) id ≡ lines_of (whole ++ unpaid) id ++ lines_if id r
  lines-whole new =
      lines-own id ((whole ++ r ∷ []) ++ unpaid) ∙ ap (flat_map (lines_if id)) (orders-whole new)
      ∙ flat_map-append (lines_if id) (filter (is_of id) (whole ++ unpaid)) (filter (is_of id) (r ∷ []))
      ∙ (λ i. sym (lines-own id (whole ++ unpaid)) i ++ (sym (lines-own id (r ∷ [])) ∙ append-nil (lines_if id r)) i)

  pub lines-unpaid : lines_of (whole ++ (unpaid ++ r ∷ [])) id ≡ lines_of (whole ++ unpaid) id ++ lines_if id r
  lines-unpaid = ap (λ rs. lines_of rs id) (sym (append_assoc whole unpaid (r ∷ []))) ∙ flat_map-push (lines_if id) (whole ++ unpaid) r

  -- what it cost
  pub total-whole : sum_by (cost_if id) (whole ++ r ∷ []) + sum_by (cost_if id) unpaid ≡ (sum_by (cost_if id) whole + sum_by (cost_if id) unpaid) + cost_if id r
  total-whole = omega (arith, sum_by_push (cost_if id) whole r)

  pub total-unpaid : sum_by (cost_if id) whole + sum_by (cost_if id) (unpaid ++ r ∷ []) ≡ (sum_by (cost_if id) whole + sum_by (cost_if id) unpaid) + cost_if id r
  total-unpaid = omega (arith, sum_by_push (cost_if id) unpaid r)

-- the item is a line of one of these checkouts
abbrev pub is_line_in : List Reservation → Item → Bool
is_line_in rs item = list_any (λ (r : Reservation). is_of item.checkout r && is_line_of r.lines item) rs

-- where all pass a test, all pass a weaker one
pub all_weaker : {A : Type 0} (test weak : A → Bool) → ((x : A) → test x ≡ true → weak x ≡ true) → (xs : List A) → list_all test xs ≡ true → list_all weak xs ≡ true
all_weaker test weak weaker [] all = refl
all_weaker test weak weaker (x ∷ xs) all =
    let both = and_both (test x) (list_all test xs) all in
    rw (weaker x both.0) (all_weaker test weak weaker xs both.1)

-- a line of the item is among the lines of its checkout
pub line_among : (id : RequestId) (item : Item) (rs : List Reservation) → list_any (λ (r : Reservation). is_of id r && is_line_of r.lines item) rs ≡ is_line_of (lines_of rs id) item
line_among id item [] = refl
line_among id item (r ∷ rs) = ap (λ b. (is_of id r && is_line_of r.lines item) || b) (line_among id item rs) ∙ either (is_of id r)
  where
    either : (b : Bool) → ((b && is_line_of r.lines item) || is_line_of (lines_of rs id) item) ≡ is_line_of ((if b then r.lines else []) ++ lines_of rs id) item
    either true = sym (list_any-append (λ (line : PricedLine). same_key line.key item.key) r.lines (lines_of rs id))
    either false = refl
