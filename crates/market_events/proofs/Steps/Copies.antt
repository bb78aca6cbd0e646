-- What one more change makes of the copy.
use Rattle.std.proofs.Common.{◌≡◌, ℕ, ◌+◌, true, false, List, [], ◌∷◌, ◌++◌, Option, Some, None, if◌then◌else◌, unwrap_or, refl, ap, sym, ◌∙◌, arith}
use Rattle.std.specs.Option.{option_or}
use Rattle.std.proofs.lemmas.List.Sums.{sum_by-append}
use Rattle.market_amounts.specs.declared.keys.ProductKey.{ProductKey}
use Rattle.market_events.specs.declared.changes.Change.{Change}
use Rattle.market_events.specs.declared.changes.Change.TheVariants.{Created, Priced, Deleted}
use Rattle.market_events.specs.declared.changes.Look.{Look}
use Rattle.market_events.specs.declared.changes.Look.TheVariants.{Live}
use Rattle.market_events.specs.Requests.{same_key}
use Rattle.market_events.specs.Copies.{ProductChange, last_some, change_of, price_in, freight_in, price_set, freight_set, shown, look_of, copy_of, version_of}
use Rattle.market_events.specs.Looks.{is_live, can_change, shown_freight, look_after}

-- the last element decides, where f gives something at it
pub last_some-push : {A B : Type 0} (f : A → Option B) (xs : List A) (x : A) → last_some f (xs ++ x ∷ []) ≡ option_or (f x) (last_some f xs)
last_some-push f [] x = none_or (f x)
  where
    none_or : {B : Type 0} (o : Option B) → o ≡ option_or o None
    none_or None = refl
    none_or (Some y) = refl
last_some-push f (y ∷ ys) x = ap (λ o. option_or o (f y)) (last_some-push f ys x) ∙ or_assoc (f x) (last_some f ys) (f y)
  where
    or_assoc : {B : Type 0} (a b c : Option B) → option_or (option_or a b) c ≡ option_or a (option_or b c)
    or_assoc None b c = refl
    or_assoc (Some z) b c = refl

-- a change of another product
pub copy_of-push-other : (changes : List ProductChange) (c : ProductChange) (key : ProductKey) → same_key key c.key ≡ false → copy_of (changes ++ c ∷ []) key ≡ copy_of changes key
copy_of-push-other changes c key other =
    rw (last_some-push (change_of key) changes c, last_some-push (price_set key) changes c, last_some-push (freight_set key) changes c, other)

-- what is shown with a price and a freight that the change itself may set
shown-set : (look : Look) (version : ℕ) (change : Change) (price freight : Option ℕ) → (is_live look ≡ true → shown_freight look ≡ unwrap_or freight 0) → can_change look change ≡ true → shown version change (option_or (price_in change) price) (option_or (freight_in change) freight) ≡ look_after look version change
shown-set look version (Created p f) price freight kept can = refl
shown-set look version (Priced p) price freight kept can = ap (λ n. Live version p n) (sym (kept can))
shown-set look version Deleted price freight kept can = refl

-- what is shown of a product that is there has the last freight that was set
freight_of_live : (last : Option ProductChange) (price freight : Option ℕ) → is_live (look_of last price freight) ≡ true → shown_freight (look_of last price freight) ≡ unwrap_or freight 0
freight_of_live None price freight live = cc
freight_of_live (Some c) price freight live = of_shown c.version c.change price freight live
  where
    of_shown : (version : ℕ) (change : Change) (price freight : Option ℕ) → is_live (shown version change price freight) ≡ true → shown_freight (shown version change price freight) ≡ unwrap_or freight 0
    of_shown version (Created p f) price freight live = refl
    of_shown version (Priced p) price freight live = refl
    of_shown version Deleted price freight live = cc

-- a change of the product, where it may come next
pub copy_of-push-same : (changes : List ProductChange) (c : ProductChange) (key : ProductKey) → same_key key c.key ≡ true → can_change (copy_of changes key) c.change ≡ true → copy_of (changes ++ c ∷ []) key ≡ look_after (copy_of changes key) c.version c.change
copy_of-push-same changes c key same can =
    rw (last_some-push (change_of key) changes c, last_some-push (price_set key) changes c, last_some-push (freight_set key) changes c, same)
    (shown-set (copy_of changes key) c.version c.change (last_some (price_set key) changes) (last_some (freight_set key) changes) (freight_of_live (last_some (change_of key) changes) (last_some (price_set key) changes) (last_some (freight_set key) changes)) can)

-- a product has one change more for each change of it
pub version_of-push : (changes : List ProductChange) (c : ProductChange) (key : ProductKey) → version_of (changes ++ c ∷ []) key ≡ version_of changes key + (if same_key key c.key then 1 else 0)
version_of-push changes c key = sum_by-append _ changes (c ∷ []) ∙ omega arith
