-- Members of gathered lists, of lists whose elements all pass, and of what a copy rests on.
use Rattle.std.proofs.Common.{◌≡◌, ℕ, Bool, true, false, List, [], ◌∷◌, Option, Some, None, is_some, filter_map, if◌then◌else◌, inl, inr, refl, ap, sym, ◌∙◌, subst}
use Rattle.std.specs.List.{list_all, cons_option}
use Rattle.std.specs.Option.{option_or}
use Rattle.market_amounts.specs.declared.keys.ProductKey.{ProductKey}
use Rattle.market_events.specs.declared.bodies.Body.{Body}
use Rattle.market_events.specs.declared.bodies.Body.TheVariants as body
use Rattle.market_events.specs.declared.changes.Change.{Change}
use Rattle.market_events.specs.declared.changes.Change.TheVariants as change
use Rattle.market_events.specs.declared.changes.Look.{Look}
use Rattle.market_events.specs.declared.changes.Look.TheVariants as look
use Rattle.market_events.specs.Copies.{ProductChange, last_some, change_of, price_set, freight_set, shown, look_of, copy_of}
use Rattle.market_events.specs.Looks.{is_live}
use Rattle.market_events.specs.Products.{change_in}
use Rattle.market_events.specs.Requests.{same_key}
use Rattle.market_events.specs.Services.{is_known}
use Rattle.market_events.specs.Stocks.{Reservation, reservation_in}
use Rattle.market_events.proofs.Values.Lists.{and_both, and_from}
use Rattle.market_events.proofs.Values.Same.{same_key-true, same_key-self}
use Rattle.market_laws.specs.Runs.{Member}

-- what a member gives is gathered
pub gathered-member : {A B : Type 0} (f : A → Option B) (x : A) (y : B) (xs : List A) → Member x xs → f x ≡ Some y → Member y (filter_map f xs)
gathered-member f x y [] here gives = absurd here
gathered-member f x y (z ∷ zs) (inl same) gives = subst (λ o. Member y (cons_option o (filter_map f zs))) (sym (ap f (sym same) ∙ gives)) (inl refl)
gathered-member {B = B} f x y (z ∷ zs) (inr more) gives = later (f z) (gathered-member f x y zs more gives)
  where
    later : (o : Option B) → Member y (filter_map f zs) → Member y (cons_option o (filter_map f zs))
    later None here = here
    later (Some w) here = inr here

-- what is gathered was given by a member
pub member-gathered : {A B : Type 0} (f : A → Option B) (y : B) (xs : List A) → Member y (filter_map f xs) → (x : A) × Member x xs × (f x ≡ Some y)
member-gathered f y [] here = absurd here
member-gathered {A = A} {B = B} f y (z ∷ zs) here = by (f z) refl here (λ more. member-gathered f y zs more)
  where
    by : (o : Option B) → f z ≡ o → Member y (cons_option o (filter_map f zs)) → (Member y (filter_map f zs) → (x : A) × Member x zs × (f x ≡ Some y)) → (x : A) × Member x (z ∷ zs) × (f x ≡ Some y)
    by None is here rest = let found = rest here in (found.0, inr found.1, found.2)
    by (Some w) is (inl same) rest = (z, inl refl, is ∙ ap Some (sym same))
    by (Some w) is (inr more) rest = let found = rest more in (found.0, inr found.1, found.2)

-- all pass where each member does, and then each member does
pub all_of_members : {A : Type 0} (test : A → Bool) (xs : List A) → ((x : A) → Member x xs → test x ≡ true) → list_all test xs ≡ true
all_of_members test [] each = refl
all_of_members test (x ∷ xs) each = and_from (test x) (list_all test xs) (each x (inl refl)) (all_of_members test xs (λ y here. each y (inr here)))

pub member_of_all : {A : Type 0} (test : A → Bool) (x : A) (xs : List A) → list_all test xs ≡ true → Member x xs → test x ≡ true
member_of_all test x [] all here = absurd here
member_of_all test x (y ∷ ys) all (inl same) = ap test same ∙ (and_both (test y) (list_all test ys) all).0
member_of_all test x (y ∷ ys) all (inr more) = member_of_all test x ys (and_both (test y) (list_all test ys) all).1 more

-- something is the last where a member gives something, and then one does
last_of_member : {A B : Type 0} (f : A → Option B) (x : A) (y : B) (xs : List A) → Member x xs → f x ≡ Some y → is_some (last_some f xs) ≡ true
last_of_member f x y [] here gives = absurd here
last_of_member {B = B} f x y (z ∷ zs) (inl same) gives = subst (λ o. is_some (option_or (last_some f zs) o) ≡ true) (sym (ap f (sym same) ∙ gives)) (by (last_some f zs))
  where
    by : (o : Option B) → is_some (option_or o (Some y)) ≡ true
    by None = refl
    by (Some w) = refl
last_of_member {B = B} f x y (z ∷ zs) (inr more) gives = later (last_some f zs) (f z) (last_of_member f x y zs more gives)
  where
    later : (o p : Option B) → is_some o ≡ true → is_some (option_or o p) ≡ true
    later None p some = cc
    later (Some w) p some = refl

member_of_last : {A B : Type 0} (f : A → Option B) (xs : List A) → is_some (last_some f xs) ≡ true → (x : A) × (y : B) × Member x xs × (f x ≡ Some y)
member_of_last f [] some = let no : ⊥ = cc in absurd no
member_of_last {A = A} {B = B} f (z ∷ zs) some = by (last_some f zs) (f z) refl some (λ more. member_of_last f zs more)
  where
    by : (o p : Option B) → f z ≡ p → is_some (option_or o p) ≡ true → (is_some o ≡ true → (x : A) × (y : B) × Member x zs × (f x ≡ Some y)) → (x : A) × (y : B) × Member x (z ∷ zs) × (f x ≡ Some y)
    by None None is some rest = let no : ⊥ = cc in absurd no
    by None (Some w) is some rest = (z, w, inl refl, is)
    by (Some w) p is some rest = let found = rest refl in (found.0, found.1, inr found.2, found.3)

-- a body that tells a change, or a reservation, by what it gives
pub change_in-is : (b : Body) (c : ProductChange) → change_in b ≡ Some c → b ≡ body.Changed c.key c.version c.change
change_in-is (body.Changed key version c) d gives = moved (record { key = key; version = version; change = c }) gives
  where
    moved : (e : ProductChange) → Some e ≡ Some d → body.Changed e.key e.version e.change ≡ body.Changed d.key d.version d.change
    moved e gives = let same : e ≡ d = cc in ap (λ (x : ProductChange). body.Changed x.key x.version x.change) same
change_in-is other c gives = let no : ⊥ = cc in absurd no

pub reservation_in-is : (b : Body) (r : Reservation) → reservation_in b ≡ Some r → b ≡ body.StockConfirmed r.checkout r.customer r.lines
reservation_in-is (body.StockConfirmed checkout customer lines) r gives = moved (record { checkout = checkout; customer = customer; lines = lines }) gives
  where
    moved : (e : Reservation) → Some e ≡ Some r → body.StockConfirmed e.checkout e.customer e.lines ≡ body.StockConfirmed r.checkout r.customer r.lines
    moved e gives = let same : e ≡ r = cc in ap (λ (x : Reservation). body.StockConfirmed x.checkout x.customer x.lines) same
reservation_in-is other r gives = let no : ⊥ = cc in absurd no

-- a product of which some change was told is known
pub known-changed : (bodies : List Body) (key : ProductKey) (version : ℕ) (c : Change) → Member (body.Changed key version c) bodies → is_known (copy_of (filter_map change_in bodies) key) ≡ true
known-changed bodies key version c here =
    by (last_some (change_of key) changes) (last_some (price_set key) changes) (last_some (freight_set key) changes)
    (last_of_member (change_of key) told told changes (gathered-member change_in (body.Changed key version c) told bodies here refl) (rw (same_key-self key) refl))
  where
    changes : List ProductChange
    changes = filter_map change_in bodies

    told : ProductChange
    told = record { key = key; version = version; change = c }

    is_shown : (version : ℕ) (c : Change) (price freight : Option ℕ) → is_known (shown version c price freight) ≡ true
    is_shown version (change.Created p f) price freight = refl
    is_shown version (change.Priced p) price freight = refl
    is_shown version change.Deleted price freight = refl

    by : (o : Option ProductChange) (price freight : Option ℕ) → is_some o ≡ true → is_known (look_of o price freight) ≡ true
    by None price freight some = cc
    by (Some d) price freight some = is_shown d.version d.change price freight

-- a product that is known was told of by a change
pub known-told : (bodies : List Body) (key : ProductKey) → is_known (copy_of (filter_map change_in bodies) key) ≡ true → (version : ℕ) × (c : Change) × Member (body.Changed key version c) bodies
known-told bodies key known =
    let last = member_of_last (change_of key) changes (by (last_some (change_of key) changes) (last_some (price_set key) changes) (last_some (freight_set key) changes) known) in
    let found = member-gathered change_in last.0 bodies last.2 in
    let same : key ≡ last.0.key = of_key last.0 last.1 (same_key key last.0.key) refl last.3 in
    (last.0.version, last.0.change, subst (λ b. Member b bodies) (change_in-is found.0 last.0 found.2 ∙ ap (λ k. body.Changed k last.0.version last.0.change) (sym same)) found.1)
  where
    changes : List ProductChange
    changes = filter_map change_in bodies

    by : (o : Option ProductChange) (price freight : Option ℕ) → is_known (look_of o price freight) ≡ true → is_some o ≡ true
    by None price freight known = cc
    by (Some d) price freight known = refl

    of_key : (c d : ProductChange) (b : Bool) → same_key key c.key ≡ b → (if b then Some c else None) ≡ Some d → key ≡ c.key
    of_key c d true same gives = same_key-true key c.key same
    of_key c d false same gives = let no : ⊥ = cc in absurd no

-- and so was one that is live
pub live-changed : (bodies : List Body) (key : ProductKey) → is_live (copy_of (filter_map change_in bodies) key) ≡ true → (version : ℕ) × (c : Change) × Member (body.Changed key version c) bodies
live-changed bodies key live = known-told bodies key (live_known (copy_of (filter_map change_in bodies) key) live)
  where
    live_known : (l : Look) → is_live l ≡ true → is_known l ≡ true
    live_known (look.Live version price freight) live = refl
    live_known other live = let no : ⊥ = cc in absurd no
