-- What a table has after the order of a checkout is written, and where the checkout has none.
use Rattle.std.proofs.Common.{◌≡◌, Bool, true, false, cond, List, Option, Some, None, refl, ap, sym, ◌∙◌}
use Rattle.std.specs.BTreeMap.{is_at}
use Rattle.market_amounts.specs.declared.keys.RequestId.{RequestId}
use Rattle.market_events.specs.Requests.{same_id}
use Rattle.market_events.specs.Steps.{id_cmp}
use Rattle.market_events.proofs.Values.Keys.{eq_by_id_cmp}
use Rattle.market_events.proofs.Values.Same.{same_id-true}
use Rattle.order_service.specs.declared.tables.Order.{Order}
use Rattle.order_service.specs.Tables.{order_at}

module _ (old new : List (RequestId × Order)) (f : Option Order → Option Order) (checkout : RequestId) where
  -- the order is written as f makes it
  pub written : (order now : Order) → Some order ≡ order_at old checkout → Some now ≡ f (Some order)
      → ((id : RequestId) → order_at new id ≡ cond (is_at (id_cmp checkout) id) (Some now) (order_at old id))
      → (id : RequestId) → order_at new id ≡ cond (same_id checkout id) (f (order_at old id)) (order_at old id)
  written order now was is writes id =
      writes id ∙ ap (λ b. cond b (Some now) (order_at old id)) (eq_by_id_cmp checkout id) ∙ by (same_id checkout id) refl
    where
      by : (b : Bool) → same_id checkout id ≡ b → cond b (Some now) (order_at old id) ≡ cond b (f (order_at old id)) (order_at old id)
      by true same = is ∙ ap f (was ∙ ap (order_at old) (same_id-true checkout id same))
      by false other = refl

  -- the checkout has no order, and f makes none of none
  pub unwritten : None ≡ order_at old checkout → f None ≡ None → ((id : RequestId) → order_at new id ≡ order_at old id)
      → (id : RequestId) → order_at new id ≡ cond (same_id checkout id) (f (order_at old id)) (order_at old id)
  unwritten none nothing same id = same id ∙ by (same_id checkout id) refl
    where
      by : (b : Bool) → same_id checkout id ≡ b → order_at old id ≡ cond b (f (order_at old id)) (order_at old id)
      by true here =
          let gone : order_at old id ≡ None = sym (none ∙ ap (order_at old) (same_id-true checkout id here)) in
          gone ∙ sym nothing ∙ ap f (sym gone)
      by false other = refl
