-- What a copy shows is well formed, where the changes are.
use Rattle.std.proofs.Common.{◌≡◌, ℕ, Bool, true, false, ◌&&◌, List, [], ◌∷◌, Option, Some, None, filter_map, if◌then◌else◌, unwrap_or, refl, ap, sym, subst, ◌∙◌}
use Rattle.std.specs.List.{list_all, cons_option}
use Rattle.std.specs.Option.{option_or}
use Rattle.market_amounts.specs.declared.keys.ProductKey.{ProductKey}
use Rattle.market_events.specs.declared.bodies.Body.{Body}
use Rattle.market_events.specs.declared.bodies.Body.TheVariants as body
use Rattle.market_events.specs.declared.changes.Change.{Change}
use Rattle.market_events.specs.declared.changes.Change.TheVariants as change
use Rattle.market_events.specs.declared.changes.Look.{Look}
use Rattle.market_events.specs.declared.changes.Look.TheVariants.{Unknown, Gone, Live}
use Rattle.market_events.specs.Carts.{changes_taken}
use Rattle.market_events.specs.Copies.{ProductChange, last_some, change_of, price_in, freight_in, price_set, freight_set, shown, look_of, copy_of}
use Rattle.market_events.specs.Formed.{id_formed, cents_formed, key_formed, change_formed, body_formed}
use Rattle.market_events.specs.Products.{change_in}
use Rattle.market_events.specs.Requests.{same_key}
use Rattle.market_events.specs.Services.{Role, IsRunOf}
use Rattle.market_events.specs.Steps.{Step, taken_bodies}
use Rattle.market_events.proofs.Values.Lists.{and_both}
use Rattle.market_events.proofs.Steps.Taken.{taken_formed}

-- what f gives last passes, where it passes at each element that passes
pub last_some-passes : {A B : Type 0} (test : A → Bool) (goal : B → Bool) (f : A → Option B) → ((x : A) → test x ≡ true → (y : B) → f x ≡ Some y → goal y ≡ true) → (xs : List A) → list_all test xs ≡ true → (y : B) → last_some f xs ≡ Some y → goal y ≡ true
last_some-passes test goal f each [] all y is = cc
last_some-passes {B = B} test goal f each (x ∷ xs) all y is =
    let both = and_both (test x) (list_all test xs) all in
    either (last_some f xs) is (λ found. last_some-passes test goal f each xs both.1 y found) (λ here. each x both.0 y here)
  where
    either : (o : Option B) → option_or o (f x) ≡ Some y → (o ≡ Some y → goal y ≡ true) → (f x ≡ Some y → goal y ≡ true) → goal y ≡ true
    either None is later here = here is
    either (Some z) is later here = later is

-- what a copy shows has its numbers in their ranges
abbrev pub look_formed : Look → Bool
look_formed Unknown = true
look_formed (Gone v) = id_formed v
look_formed (Live v price freight) = id_formed v && cents_formed price && cents_formed freight

-- a change has its numbers in their ranges
abbrev pub is_change_formed : ProductChange → Bool
is_change_formed c = id_formed c.version && change_formed c.change

-- a price or a freight that is set is in its range
price_formed : (key : ProductKey) (c : ProductChange) → is_change_formed c ≡ true → (n : ℕ) → price_set key c ≡ Some n → cents_formed n ≡ true
price_formed key c formed n is = by_key (same_key key c.key) is
  where
    one : (m : ℕ) → Some m ≡ Some n → m ≡ n
    one m e = cc

    by_change : (ch : Change) → change_formed ch ≡ true → price_in ch ≡ Some n → cents_formed n ≡ true
    by_change (change.Created price freight) formed is = subst (λ n. cents_formed n ≡ true) (one price is) (and_both (cents_formed price) (cents_formed freight) formed).0
    by_change (change.Priced price) formed is = subst (λ n. cents_formed n ≡ true) (one price is) formed
    by_change change.Deleted formed is = cc

    by_key : (b : Bool) → (if b then price_in c.change else None) ≡ Some n → cents_formed n ≡ true
    by_key true is = by_change c.change (and_both (id_formed c.version) (change_formed c.change) formed).1 is
    by_key false is = cc

-- a freight that is set is in its range
freight_formed : (key : ProductKey) (c : ProductChange) → is_change_formed c ≡ true → (n : ℕ) → freight_set key c ≡ Some n → cents_formed n ≡ true
freight_formed key c formed n is = by_key (same_key key c.key) is
  where
    one : (m : ℕ) → Some m ≡ Some n → m ≡ n
    one m e = cc

    by_change : (ch : Change) → change_formed ch ≡ true → freight_in ch ≡ Some n → cents_formed n ≡ true
    by_change (change.Created price freight) formed is = subst (λ n. cents_formed n ≡ true) (one freight is) (and_both (cents_formed price) (cents_formed freight) formed).1
    by_change (change.Priced price) formed is = cc
    by_change change.Deleted formed is = cc

    by_key : (b : Bool) → (if b then freight_in c.change else None) ≡ Some n → cents_formed n ≡ true
    by_key true is = by_change c.change (and_both (id_formed c.version) (change_formed c.change) formed).1 is
    by_key false is = cc

-- what well-formed changes leave of a product is well formed
pub copy_of-formed : (changes : List ProductChange) (key : ProductKey) → list_all is_change_formed changes ≡ true → look_formed (copy_of changes key) ≡ true
copy_of-formed changes key all =
    looks (last_some (change_of key) changes) refl (last_some (price_set key) changes) (λ n is. last_some-passes is_change_formed cents_formed (price_set key) (price_formed key) changes all n is)
    (last_some (freight_set key) changes) (λ n is. last_some-passes is_change_formed cents_formed (freight_set key) (freight_formed key) changes all n is)
  where
    chosen : (c : ProductChange) → is_change_formed c ≡ true → (y : ProductChange) → change_of key c ≡ Some y → id_formed y.version ≡ true
    chosen c formed y is = by_key (same_key key c.key) is
      where
        by_key : (b : Bool) → (if b then Some c else None) ≡ Some y → id_formed y.version ≡ true
        by_key true is = let same : c ≡ y = cc in ap (λ (x : ProductChange). id_formed x.version) (sym same) ∙ (and_both (id_formed c.version) (change_formed c.change) formed).0
        by_key false is = cc

    or_zero : (o : Option ℕ) → ((n : ℕ) → o ≡ Some n → cents_formed n ≡ true) → cents_formed (unwrap_or o 0) ≡ true
    or_zero None within = refl
    or_zero (Some n) within = within n refl

    three : (a b c : Bool) → a ≡ true → b ≡ true → c ≡ true → (a && b && c) ≡ true
    three a b c p q r = rw (p, q, r)

    looks : (last : Option ProductChange) → last_some (change_of key) changes ≡ last → (price : Option ℕ) → ((n : ℕ) → price ≡ Some n → cents_formed n ≡ true) → (freight : Option ℕ) → ((n : ℕ) → freight ≡ Some n → cents_formed n ≡ true) → look_formed (look_of last price freight) ≡ true
    looks None is price ps freight fs = refl
    looks (Some c) is price ps freight fs = by_change c.change
      where
        version : id_formed c.version ≡ true
        version = last_some-passes is_change_formed (λ (c : ProductChange). id_formed c.version) (change_of key) chosen changes all c is

        by_change : (ch : Change) → look_formed (shown c.version ch price freight) ≡ true
        by_change (change.Created p f) = three (id_formed c.version) (cents_formed (unwrap_or price 0)) (cents_formed (unwrap_or freight 0)) version (or_zero price ps) (or_zero freight fs)
        by_change (change.Priced p) = three (id_formed c.version) (cents_formed (unwrap_or price 0)) (cents_formed (unwrap_or freight 0)) version (or_zero price ps) (or_zero freight fs)
        by_change change.Deleted = version

-- the changes that well-formed bodies tell are well formed
changes_in-formed : (bs : List Body) → list_all body_formed bs ≡ true → list_all is_change_formed (filter_map change_in bs) ≡ true
changes_in-formed [] all = refl
changes_in-formed (b ∷ bs) all =
    let both = and_both (body_formed b) (list_all body_formed bs) all in
    one b both.0 (changes_in-formed bs both.1)
  where
    one : (b : Body) → body_formed b ≡ true → list_all is_change_formed (filter_map change_in bs) ≡ true → list_all is_change_formed (cons_option (change_in b) (filter_map change_in bs)) ≡ true
    one (body.Changed key version c) formed rest =
        let outer = and_both (key_formed key && id_formed version) (change_formed c) formed in
        let inner = and_both (key_formed key) (id_formed version) outer.0 in
        rw (inner.1, outer.1) rest
    one other formed rest = rest

-- what the copy of a run shows is well formed
pub copy_taken-formed : (role : Role) (steps : List Step) → IsRunOf role steps → (key : ProductKey) → look_formed (copy_of (changes_taken steps) key) ≡ true
copy_taken-formed role steps run key = copy_of-formed (changes_taken steps) key (changes_in-formed (taken_bodies steps) (taken_formed role steps run))
