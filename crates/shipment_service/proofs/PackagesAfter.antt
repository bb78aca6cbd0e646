-- What one more step makes of the packages: those of a payment are put last, and those of a delivery are closed.
use Rattle.std.proofs.Common.{◌≡◌, ℕ, ◌+◌, Bool, true, false, cond, ◌&&◌, ◌||◌, not, List, [], ◌∷◌, ◌++◌, length, map, filter, Some, None, if◌then◌else◌, refl, ap, ap₂, sym, ◌∙◌, subst, ⊎_elim, inl, inr}
use Rattle.std.specs.List.{list_any, enumerate_from}
use Rattle.std.proofs.lemmas.List.Elements.{filter-append}
use Rattle.std.proofs.lemmas.List.Folds.{list_any-append}
use Rattle.std.proofs.lemmas.List.{map-append}
use Rattle.market_amounts.specs.declared.keys.RequestId.{RequestId}
use Rattle.market_events.specs.declared.bodies.Body.TheVariants as body
use Rattle.market_events.specs.declared.bodies.Item.{Item}
use Rattle.market_events.specs.declared.bodies.PricedLine.{PricedLine}
use Rattle.market_events.specs.Orders.{is_item_of}
use Rattle.market_events.specs.Requests.{same_id}
use Rattle.market_events.specs.Shipments.{packages_in, packages, items_made, is_open, open_packages, oldest_of, delivered_of}
use Rattle.market_events.specs.Steps.{Step}
use Rattle.market_events.proofs.Values.Lists.{or_parts}
use Rattle.market_events.proofs.Runs.Orders.{is_item_for}
use Rattle.market_events.proofs.Steps.Shipments.{packages-push, packages-same, items_of, items_made-push, items_made-same, goes_with}
use Rattle.shipment_service.specs.declared.package.Package.{Package}
use Rattle.shipment_service.specs.Deliveries.{goes, served_of, taken_of, left_of}
use Rattle.shipment_service.specs.Holds.{package_by, packages_by, waiting_by}
use Rattle.market_events.specs.Entries.{entry_at}
use Rattle.shipment_service.specs.Tables.{open_of, closed_of, close_if, has_number, item_packed}
use Rattle.shipment_service.proofs.Delivered.{filter-items, goes-items, delivered-any}
use Rattle.shipment_service.proofs.Heads.{Among, entry-among}
use Rattle.shipment_service.proofs.Numbers.{kept_if, entry_at-filter, has_number-none, has_number-some}
use Rattle.shipment_service.proofs.Runs.{enumerate-append, waiting-rise}

-- what is open goes by the items that were delivered
abbrev open_by : List Item → Item → Bool
open_by made p = not (list_any (is_item_of p.checkout p.key) made)

abbrev package_of : List Item → Item → Package
package_of made item = record { item = item; is_open = open_by made item }

-- a step that brings no package and makes no delivery
module _ (steps : List Step) (s : Step) (nothing : items_of s ≡ []) where
  pub packages-still : packages_in s.body ≡ [] → packages_by (steps ++ s ∷ []) ≡ packages_by steps
  packages-still none = λ i. map (package_of (items_made-same steps s nothing i)) (packages-same steps s none i)

  pub waiting-still : packages_in s.body ≡ [] → waiting_by (steps ++ s ∷ []) ≡ waiting_by steps
  waiting-still none = λ i. filter (λ (p : ℕ × Item). open_by (items_made-same steps s nothing i) p.1) (enumerate_from 1 (packages-same steps s none i))

  -- a payment of a checkout of which nothing was delivered
  module _ (checkout : RequestId) (customer : ℕ) (lines : List PricedLine) (total : ℕ) (is : s.body ≡ body.Confirmed checkout customer lines total) (none : list_any (is_item_for checkout) (items_made steps) ≡ false) where
    now : packages (steps ++ s ∷ []) ≡ packages steps ++ map (item_packed checkout customer) lines
    now = packages-push steps s ∙ ap (λ b. packages steps ++ packages_in b) is

    new_open : (line : PricedLine) → is_open steps (item_packed checkout customer line) ≡ true
    new_open line = ap not (among (items_made steps) none)
      where
        among : (items : List Item) → list_any (is_item_for checkout) items ≡ false → list_any (is_item_of checkout line.key) items ≡ false
        among [] none = refl
        among (i ∷ items) none =
            let both = or_parts (same_id i.checkout checkout) (list_any (is_item_for checkout) items) none in
            rw both.0 (among items both.1)

    new_packages : (lines : List PricedLine) → map (package_by steps) (map (item_packed checkout customer) lines) ≡ map open_of (map (item_packed checkout customer) lines)
    new_packages [] = refl
    new_packages (line ∷ lines) = λ i. (let p : Package = record { item = item_packed checkout customer line; is_open = new_open line i } in p) ∷ new_packages lines i

    pub packages-paid : packages_by (steps ++ s ∷ []) ≡ packages_by steps ++ map open_of (map (item_packed checkout customer) lines)
    packages-paid =
        (λ i. map (package_of (items_made-same steps s nothing i)) (now i)) ∙ map-append (package_by steps) (packages steps) (map (item_packed checkout customer) lines)
        ∙ ap (λ ps. packages_by steps ++ ps) (new_packages lines)

    new_waiting : (from : ℕ) (lines : List PricedLine) → filter (λ (p : ℕ × Item). is_open steps p.1) (enumerate_from from (map (item_packed checkout customer) lines)) ≡ enumerate_from from (map (item_packed checkout customer) lines)
    new_waiting from [] = refl
    new_waiting from (line ∷ lines) = rw (new_open line) (ap (λ ps. (from, item_packed checkout customer line) ∷ ps) (new_waiting (from + 1) lines))

    pub waiting-paid : waiting_by (steps ++ s ∷ []) ≡ waiting_by steps ++ enumerate_from (1 + length (packages steps)) (map (item_packed checkout customer) lines)
    waiting-paid =
        (λ i. filter (λ (p : ℕ × Item). open_by (items_made-same steps s nothing i) p.1) (enumerate_from 1 (now i)))
        ∙ ap (filter (λ (p : ℕ × Item). is_open steps p.1)) (enumerate-append 1 (packages steps) (map (item_packed checkout customer) lines))
        ∙ filter-append (λ (p : ℕ × Item). is_open steps p.1) (enumerate_from 1 (packages steps)) (enumerate_from (1 + length (packages steps)) (map (item_packed checkout customer) lines))
        ∙ ap (λ ps. waiting_by steps ++ ps) (new_waiting (1 + length (packages steps)) lines)

-- the open packages without their numbers
pub waiting-items : (steps : List Step) → map (λ (p : ℕ × Item). p.1) (waiting_by steps) ≡ open_packages steps
waiting-items steps = filter-items (is_open steps) (enumerate_from 1 (packages steps)) ∙ ap (filter (is_open steps)) (bare 1 (packages steps))
  where
    bare : (from : ℕ) (items : List Item) → map (λ (p : ℕ × Item). p.1) (enumerate_from from items) ≡ items
    bare from [] = refl
    bare from (i ∷ items) = ap (λ is. i ∷ is) (bare (from + 1) items)

-- elements of lists
among-map : {A B : Type 0} (f : A → B) (x : A) (xs : List A) → Among x xs → Among (f x) (map f xs)
among-map f x [] among = absurd among
among-map f x (y ∷ ys) among = ⊎_elim (λ is. inl (ap f is)) (λ later. inr (among-map f x ys later)) among

filter-among : {A : Type 0} (test : A → Bool) (x : A) (xs : List A) → Among x xs → test x ≡ true → Among x (filter test xs)
filter-among test x [] among passes = absurd among
filter-among test x (y ∷ ys) among passes = ⊎_elim here (λ later. more (test y) (filter-among test x ys later passes)) among
  where
    here : x ≡ y → Among x (filter test (y ∷ ys))
    here is = subst (λ b. Among x (cond b (y ∷ filter test ys) (filter test ys))) (sym (sym (ap test is) ∙ passes)) (inl is)

    more : (b : Bool) → Among x (filter test ys) → Among x (cond b (y ∷ filter test ys) (filter test ys))
    more true a = inr a
    more false a = a

-- tests that agree at each element
filter-each : {A : Type 0} (f g : A → Bool) (xs : List A) → ((x : A) → Among x xs → f x ≡ g x) → filter f xs ≡ filter g xs
filter-each f g [] agree = refl
filter-each {A = A} f g (x ∷ xs) agree = ap₂ (λ b ys. cond b (x ∷ ys) ys) (agree x (inl refl)) (filter-each f g xs (λ y among. agree y (inr among)))

map-each : {A B : Type 0} (f g : A → B) (xs : List A) → ((x : A) → Among x xs → f x ≡ g x) → map f xs ≡ map g xs
map-each f g [] agree = refl
map-each f g (x ∷ xs) agree = ap₂ (λ y ys. y ∷ ys) (agree x (inl refl)) (map-each f g xs (λ y among. agree y (inr among)))

filter-twice : {A : Type 0} (f g : A → Bool) (xs : List A) → filter f (filter g xs) ≡ filter (λ x. g x && f x) xs
filter-twice f g [] = refl
filter-twice f g (x ∷ xs) = by (g x) (f x) refl (filter-twice f g xs)
  where
    by : (a b : Bool) → f x ≡ b → filter f (filter g xs) ≡ filter (λ x. g x && f x) xs → filter f (cond a (x ∷ filter g xs) (filter g xs)) ≡ cond (a && b) (x ∷ filter (λ x. g x && f x) xs) (filter (λ x. g x && f x) xs)
    by true true is rest = rw is (ap (λ ys. x ∷ ys) rest)
    by true false is rest = rw is rest
    by false b is rest = rest

-- a delivery
module _ (steps : List Step) (s : Step) (none : packages_in s.body ≡ []) (made : items_of s ≡ delivered_of (open_packages steps)) where
  -- what is open after it
  still : (p : ℕ × Item) → Among p (enumerate_from 1 (packages steps)) → is_open (steps ++ s ∷ []) p.1 ≡ (is_open steps p.1 && not (goes (served_of (waiting_by steps)) p))
  still p among =
      ap (λ items. open_by items p.1) (items_made-push steps s ∙ ap (λ items. items_made steps ++ items) made)
      ∙ ap not (list_any-append (is_item_of p.1.checkout p.1.key) (items_made steps) (delivered_of (open_packages steps)))
      ∙ by (is_open steps p.1) refl
    where
      neither : (a b : Bool) → not (a || b) ≡ (not a && not b)
      neither true b = refl
      neither false b = refl

      by : (b : Bool) → is_open steps p.1 ≡ b
          → not (list_any (is_item_of p.1.checkout p.1.key) (items_made steps) || list_any (is_item_of p.1.checkout p.1.key) (delivered_of (open_packages steps))) ≡ (is_open steps p.1 && not (goes (served_of (waiting_by steps)) p))
      by true is =
          let here : Among p.1 (open_packages steps) = subst (Among p.1) (waiting-items steps) (among-map (λ (p : ℕ × Item). p.1) p (waiting_by steps) (filter-among (λ (p : ℕ × Item). is_open steps p.1) p (enumerate_from 1 (packages steps)) among is)) in
          neither (list_any (is_item_of p.1.checkout p.1.key) (items_made steps)) (list_any (is_item_of p.1.checkout p.1.key) (delivered_of (open_packages steps)))
          ∙ ap (λ b. is_open steps p.1 && not b)
          (delivered-any (open_packages steps) p.1 here ∙ ap (λ items. goes_with (oldest_of items) p.1) (sym (waiting-items steps)) ∙ sym (goes-items (waiting_by steps) p))
      by false is =
          neither (list_any (is_item_of p.1.checkout p.1.key) (items_made steps)) (list_any (is_item_of p.1.checkout p.1.key) (delivered_of (open_packages steps)))
          ∙ ap (λ b. b && not (list_any (is_item_of p.1.checkout p.1.key) (delivered_of (open_packages steps)))) is ∙ sym (ap (λ b. b && not (goes (served_of (waiting_by steps)) p)) is)

  pub waiting-delivered : waiting_by (steps ++ s ∷ []) ≡ left_of (waiting_by steps)
  waiting-delivered =
      ap (λ ps. filter (λ (p : ℕ × Item). is_open (steps ++ s ∷ []) p.1) (enumerate_from 1 ps)) (packages-same steps s none)
      ∙ filter-each (λ p. is_open (steps ++ s ∷ []) p.1) (λ p. is_open steps p.1 && not (goes (served_of (waiting_by steps)) p)) (enumerate_from 1 (packages steps)) still
      ∙ sym (filter-twice (λ p. not (goes (served_of (waiting_by steps)) p)) (λ p. is_open steps p.1) (enumerate_from 1 (packages steps)))

  -- each package, and whether it is open after it
  closed : (p : ℕ × Item) → Among p (enumerate_from 1 (packages steps))
      → package_by (steps ++ s ∷ []) p.1 ≡ (if has_number (taken_of (waiting_by steps)) p.0 then closed_of (package_by steps p.1) else package_by steps p.1)
  closed p among =
      ap (λ b. let q : Package = record { item = p.1; is_open = b } in q) (still p among) ∙ by (is_open steps p.1) refl
    where
      taken : is_open steps p.1 ≡ true → has_number (taken_of (waiting_by steps)) p.0 ≡ goes (served_of (waiting_by steps)) p
      taken is =
          let waits = filter-among (λ (p : ℕ × Item). is_open steps p.1) p (enumerate_from 1 (packages steps)) among is in
          let at : entry_at (taken_of (waiting_by steps)) p.0 ≡ kept_if (λ i. goes (served_of (waiting_by steps)) (p.0, i)) (Some p.1)
          = entry_at-filter (goes (served_of (waiting_by steps))) (waiting_by steps) (waiting-rise steps) p.0
          ∙ ap (kept_if (λ i. goes (served_of (waiting_by steps)) (p.0, i))) (entry-among p (waiting_by steps) (waiting-rise steps) waits) in
          either (goes (served_of (waiting_by steps)) p) at
        where
          either : (b : Bool) → entry_at (taken_of (waiting_by steps)) p.0 ≡ cond b (Some p.1) None → has_number (taken_of (waiting_by steps)) p.0 ≡ b
          either true at = has_number-some (taken_of (waiting_by steps)) p.0 p.1 at
          either false at = has_number-none (taken_of (waiting_by steps)) p.0 at

      open_test : (b : Bool) → (let q : Package = record { item = p.1; is_open = true && not b } in q) ≡ cond b (closed_of (record { item = p.1; is_open = true })) (record { item = p.1; is_open = true })
      open_test true = refl
      open_test false = refl

      closed_test : (b : Bool) → (let q : Package = record { item = p.1; is_open = false } in q) ≡ cond b (closed_of (record { item = p.1; is_open = false })) (record { item = p.1; is_open = false })
      closed_test true = refl
      closed_test false = refl

      by : (b : Bool) → is_open steps p.1 ≡ b → (let q : Package = record { item = p.1; is_open = is_open steps p.1 && not (goes (served_of (waiting_by steps)) p) } in q)
          ≡ (if has_number (taken_of (waiting_by steps)) p.0 then closed_of (package_by steps p.1) else package_by steps p.1)
      by true is =
          ap (λ b. let q : Package = record { item = p.1; is_open = b && not (goes (served_of (waiting_by steps)) p) } in q) is
          ∙ open_test (goes (served_of (waiting_by steps)) p)
          ∙ ap (λ b. cond b (closed_of (record { item = p.1; is_open = true })) (record { item = p.1; is_open = true })) (sym (taken is))
          ∙ ap (λ o. cond (has_number (taken_of (waiting_by steps)) p.0) (closed_of (record { item = p.1; is_open = o })) (record { item = p.1; is_open = o })) (sym is)
      by false is =
          ap (λ b. let q : Package = record { item = p.1; is_open = b && not (goes (served_of (waiting_by steps)) p) } in q) is
          ∙ closed_test (has_number (taken_of (waiting_by steps)) p.0)
          ∙ ap (λ o. cond (has_number (taken_of (waiting_by steps)) p.0) (closed_of (record { item = p.1; is_open = o })) (record { item = p.1; is_open = o })) (sym is)

  pub packages-delivered : packages_by (steps ++ s ∷ []) ≡ close_if (has_number (taken_of (waiting_by steps))) (packages_by steps)
  packages-delivered =
      ap (map (package_by (steps ++ s ∷ []))) (packages-same steps s none)
      ∙ spread 1 (packages steps)
      ∙ map-each (λ p. package_by (steps ++ s ∷ []) p.1) (λ p. if has_number (taken_of (waiting_by steps)) p.0 then closed_of (package_by steps p.1) else package_by steps p.1) (enumerate_from 1 (packages steps)) closed
      ∙ through 1 (packages steps)
    where
      spread : (from : ℕ) (items : List Item) → map (package_by (steps ++ s ∷ [])) items ≡ map (λ (p : ℕ × Item). package_by (steps ++ s ∷ []) p.1) (enumerate_from from items)
      spread from [] = refl
      spread from (i ∷ items) = ap (λ ps. package_by (steps ++ s ∷ []) i ∷ ps) (spread (from + 1) items)

      through : (from : ℕ) (items : List Item)
          → map (λ (p : ℕ × Item). if has_number (taken_of (waiting_by steps)) p.0 then closed_of (package_by steps p.1) else package_by steps p.1) (enumerate_from from items)
          ≡ map (λ (p : ℕ × Package). if has_number (taken_of (waiting_by steps)) p.0 then closed_of p.1 else p.1) (enumerate_from from (map (package_by steps) items))
      through from [] = refl
      through from (i ∷ items) = ap (λ ps. (if has_number (taken_of (waiting_by steps)) from then closed_of (package_by steps i) else package_by steps i) ∷ ps) (through (from + 1) items)
