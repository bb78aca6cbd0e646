-- What the entries show after one of them is set.
use Rattle.std.proofs.Common.{◌≡◌, Bool, true, false, cond, List, [], ◌∷◌, ◌++◌, Option, Some, unwrap_or, refl, ap, sym, ◌∙◌}
use Rattle.std.specs.BTreeMap.{is_at}
use Rattle.std.specs.Map.{lookup}
use Rattle.market_amounts.specs.declared.keys.ProductKey.{ProductKey}
use Rattle.market_events.specs.declared.changes.Look.{Look}
use Rattle.market_events.specs.declared.changes.Look.TheVariants.{Unknown}
use Rattle.market_events.specs.Requests.{same_key}
use Rattle.market_events.specs.Copies.{ProductChange, copy_of}
use Rattle.market_events.specs.Looks.{can_change, look_after}
use Rattle.market_events.proofs.Steps.Copies.{copy_of-push-same, copy_of-push-other}
use Rattle.market_events.proofs.Values.Keys.{eq_by_key_cmp}
use Rattle.market_events.proofs.Values.Same.{same_key-true, same_key-swap}
use Rattle.market_events.specs.Steps.{key_cmp}
use Rattle.cart_replica.specs.Copy.{look_at, IsCopyOf}

-- the new entries show the look at the key, and what the old ones showed elsewhere
abbrev pub Shows : List (ProductKey × Look) → List (ProductKey × Look) → ProductKey → Look → Type 0
Shows old new key look = (other : ProductKey) → look_at new other ≡ cond (same_key other key) look (look_at old other)

-- after an entry is set, of entries that are the old ones
pub shows_set : (entries old new : List (ProductKey × Look)) (key : ProductKey) (look : Look) → entries ≡ old
    → ((other : ProductKey) → lookup (is_at (key_cmp other)) new ≡ cond (is_at (key_cmp key) other) (Some look) (lookup (is_at (key_cmp other)) entries))
    → Shows old new key look
shows_set entries old new key look same set other =
    ap (λ o. unwrap_or o Unknown) (set other)
    ∙ rw (eq_by_key_cmp key other, same_key-swap key other, same) (either (same_key other key) (lookup (is_at (key_cmp other)) old))
  where
    either : (b : Bool) (o : Option Look) → unwrap_or (cond b (Some look) o) Unknown ≡ cond b look (unwrap_or o Unknown)
    either true o = refl
    either false o = refl

-- at another key the new entries show what the old ones did
pub shows_other : (old new : List (ProductKey × Look)) (key : ProductKey) (look : Look) → Shows old new key look
    → (other : ProductKey) → same_key other key ≡ false → look_at new other ≡ look_at old other
shows_other old new key look shows other differs = shows other ∙ rw differs

-- entries that show what one more change leaves are the copy of one change more
pub copies_push : (old new : List (ProductKey × Look)) (c : ProductChange) (look : Look) → can_change (look_at old c.key) c.change ≡ true
    → look ≡ look_after (look_at old c.key) c.version c.change → Shows old new c.key look
    → (changes : List ProductChange) → IsCopyOf old changes → IsCopyOf new (changes ++ c ∷ [])
copies_push old new c look can left shows changes copied key = shows key ∙ at (same_key key c.key) refl
  where
    at : (b : Bool) → same_key key c.key ≡ b → cond b look (look_at old key) ≡ copy_of (changes ++ c ∷ []) key
    at true same =
        let shown : look_at old c.key ≡ copy_of changes key = ap (λ k. look_at old k) (sym (same_key-true key c.key same)) ∙ copied key in
        left ∙ ap (λ before. look_after before c.version c.change) shown
        ∙ sym (copy_of-push-same changes c key same (ap (λ before. can_change before c.change) (sym shown) ∙ can))
    at false other = copied key ∙ sym (copy_of-push-other changes c key other)
