-- What the tables have after one entry is set or taken away.
use Rattle.std.proofs.Common.{◌≡◌, Bool, true, false, cond, ◌||◌, List, Option, Some, None, is_some, unwrap_or, if◌then◌else◌, refl, ap, sym, ◌∙◌}
use Rattle.std.specs.BTreeMap.{is_at}
use Rattle.std.specs.Map.{lookup}
use Rattle.market_amounts.specs.declared.keys.ProductKey.{ProductKey}
use Rattle.market_amounts.specs.declared.keys.RequestId.{RequestId}
use Rattle.market_events.specs.declared.bodies.PricedLine.{PricedLine}
use Rattle.market_events.specs.Requests.{same_key, same_id}
use Rattle.market_events.specs.Steps.{key_cmp, id_cmp}
use Rattle.market_events.proofs.Values.Lists.{or_false}
use Rattle.market_events.proofs.Values.Same.{same_key-true}
use Rattle.market_events.proofs.Values.Keys.{eq_by_key_cmp, eq_by_id_cmp}
use Rattle.stock_service.specs.Amounts.{Amounts, no_pieces}
use Rattle.stock_service.specs.Tables.{lines_at, amounts_at, has_at}

-- the new entries have this at the key, and what the old ones have elsewhere
abbrev pub Sets : List (ProductKey × Amounts) → List (ProductKey × Amounts) → ProductKey → Amounts → Type 0
Sets old new key level = (k : ProductKey) → lookup (is_at (key_cmp k)) new ≡ cond (is_at (key_cmp key) k) (Some level) (lookup (is_at (key_cmp k)) old)

-- so they have these pieces there
pub amounts_set : (old new : List (ProductKey × Amounts)) (key : ProductKey) (level : Amounts) → Sets old new key level
    → (k : ProductKey) → amounts_at new k ≡ (if same_key key k then level else amounts_at old k)
amounts_set old new key level sets k =
    ap (λ o. unwrap_or o no_pieces) (sets k) ∙ ap (λ b. unwrap_or (cond b (Some level) (lookup (is_at (key_cmp k)) old)) no_pieces) (eq_by_key_cmp key k)
    ∙ either (same_key key k) (lookup (is_at (key_cmp k)) old)
  where
    either : (b : Bool) (o : Option Amounts) → unwrap_or (cond b (Some level) o) no_pieces ≡ (if b then level else unwrap_or o no_pieces)
    either true o = refl
    either false o = refl

-- where that is made of what the old ones have there
pub amounts_changed : (old new : List (ProductKey × Amounts)) (key : ProductKey) (level : Amounts) → Sets old new key level → (f : Amounts → Amounts) → level ≡ f (amounts_at old key)
    → (k : ProductKey) → amounts_at new k ≡ (if same_key key k then f (amounts_at old k) else amounts_at old k)
amounts_changed old new key level sets f is k = amounts_set old new key level sets k ∙ either (same_key key k) refl
  where
    either : (b : Bool) → same_key key k ≡ b → (if b then level else amounts_at old k) ≡ (if b then f (amounts_at old k) else amounts_at old k)
    either true same = is ∙ ap (λ q. f (amounts_at old q)) (same_key-true key k same)
    either false other = refl

-- and they have an entry there
pub has_set : (old new : List (ProductKey × Amounts)) (key : ProductKey) (level : Amounts) → Sets old new key level
    → (k : ProductKey) → has_at new k ≡ (has_at old k || same_key key k)
has_set old new key level sets k =
    ap is_some (sets k) ∙ ap (λ b. is_some (cond b (Some level) (lookup (is_at (key_cmp k)) old))) (eq_by_key_cmp key k)
    ∙ either (same_key key k) (lookup (is_at (key_cmp k)) old)
  where
    either : (b : Bool) (o : Option Amounts) → is_some (cond b (Some level) o) ≡ (is_some o || b)
    either true None = refl
    either true (Some was) = refl
    either false None = refl
    either false (Some was) = refl

-- an entry that was there is there still, and no other is
pub has_there : (old new : List (ProductKey × Amounts)) (key : ProductKey) (level : Amounts) → Sets old new key level → has_at old key ≡ true
    → (k : ProductKey) → has_at new k ≡ has_at old k
has_there old new key level sets there k = has_set old new key level sets k ∙ either (same_key key k) refl
  where
    or_true : (b : Bool) → (b || true) ≡ true
    or_true true = refl
    or_true false = refl

    either : (b : Bool) → same_key key k ≡ b → (has_at old k || b) ≡ has_at old k
    either true same = or_true (has_at old k) ∙ sym there ∙ ap (has_at old) (same_key-true key k same)
    either false other = or_false (has_at old k)

-- the new entries have these lines or none at the checkout, and what the old ones have elsewhere
pub lines_set : (old new : List (RequestId × List PricedLine)) (checkout : RequestId) (lines : Option (List PricedLine))
    → ((id : RequestId) → lookup (is_at (id_cmp id)) new ≡ cond (is_at (id_cmp checkout) id) lines (lookup (is_at (id_cmp id)) old))
    → (id : RequestId) → lines_at new id ≡ (if same_id checkout id then lines else lines_at old id)
lines_set old new checkout lines sets id = sets id ∙ ap (λ b. cond b lines (lookup (is_at (id_cmp id)) old)) (eq_by_id_cmp checkout id)
