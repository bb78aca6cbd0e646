-- All links in one list, with bounds that are given: what holds of each element of it, holds of each link, and back.
use Rattle.std.proofs.Common.{◌≡◌, ℕ, zero, suc, ◌+◌, ◌<◌, ◌≤◌, Bool, true, false, nat_le, List, ◌++◌, refl, subst, arith}
use Rattle.std.specs.Prelude.{map}
use Rattle.std.specs.List.{AllByRecursion, flat_map, range_with_len}
use Rattle.std.proofs.lemmas.Bool.Decides.{nat_tests}
use Rattle.market_events.specs.declared.links.Link.{Link}
use Rattle.market_events.specs.declared.links.Link.TheVariants.{Service, Asked, Told}
use Rattle.market_events.specs.declared.links.TheConstants.{SERVICE_LINKS}
use Rattle.market_events.specs.Links.{IsLink}
use Rattle.market_events.specs.declared.lanes.TheConstants.{LANES}
use Rattle.market_events.specs.declared.roles.TheConstants.{SERVICES}
use Rattle.market_laws.proofs.Growth.Members.{all-append, all-front, all-back}

module _ {A : Type 0} (P : A → Type 0) where
  -- of each number of a range
  range_all : (f : ℕ → A) (a n : ℕ) → ((i : ℕ) → a ≤ i → i < a + n → P (f i)) → AllByRecursion P (map f (range_with_len a n))
  range_all f a zero each = tt
  range_all f a (suc n) each = (each a (omega arith) (omega arith), range_all f (a + 1) n (λ i low high. each i (omega (arith, low)) (omega (arith, high))))

  range_at : (f : ℕ → A) (a n : ℕ) → AllByRecursion P (map f (range_with_len a n)) → (i : ℕ) → a ≤ i → i < a + n → P (f i)
  range_at f a zero each i low high = absurd (omega (arith, low, high))
  range_at f a (suc n) each i low high = by (nat_le i a) refl (λ more. range_at f (a + 1) n each.1 i more (omega (arith, high)))
    where
      by : (test : Bool) → nat_le i a ≡ test → (a + 1 ≤ i → P (f i)) → P (f i)
      by true is later = let same : a ≡ i = grind (arith, nat_tests) in subst (λ j. P (f j)) same each.0
      by false is later = later (grind (arith, nat_tests))

  -- and of what is listed of each
  flat_all : (f : ℕ → List A) (a n : ℕ) → ((i : ℕ) → a ≤ i → i < a + n → AllByRecursion P (f i)) → AllByRecursion P (flat_map f (range_with_len a n))
  flat_all f a zero each = tt
  flat_all f a (suc n) each =
      all-append P (f a) (flat_map f (range_with_len (a + 1) n)) (each a (omega arith) (omega arith))
      (flat_all f (a + 1) n (λ i low high. each i (omega (arith, low)) (omega (arith, high))))

  flat_at : (f : ℕ → List A) (a n : ℕ) → AllByRecursion P (flat_map f (range_with_len a n)) → (i : ℕ) → a ≤ i → i < a + n → AllByRecursion P (f i)
  flat_at f a zero each i low high = absurd (omega (arith, low, high))
  flat_at f a (suc n) each i low high =
      by (nat_le i a) refl (λ more. flat_at f (a + 1) n (all-back P (f a) (flat_map f (range_with_len (a + 1) n)) each) i more (omega (arith, high)))
    where
      by : (test : Bool) → nat_le i a ≡ test → (a + 1 ≤ i → AllByRecursion P (f i)) → AllByRecursion P (f i)
      by true is later = let same : a ≡ i = grind (arith, nat_tests) in subst (λ j. AllByRecursion P (f j)) same (all-front P (f a) (flat_map f (range_with_len (a + 1) n)) each)
      by false is later = later (grind (arith, nat_tests))

-- the links of so many services with one lane
lane_with : ℕ → ℕ → List Link
lane_with v lane = map (λ s. Asked lane s) (range_with_len 0 v) ++ map (λ s. Told s lane) (range_with_len 0 v)

-- the links of so many service links, lanes and services
pub links_by : ℕ → ℕ → ℕ → List Link
links_by k l v = map Service (range_with_len 0 k) ++ flat_map (lane_with v) (range_with_len 0 l)

-- a link within these bounds
abbrev pub IsWithin : ℕ → ℕ → ℕ → Link → Type 0
IsWithin k l v (Service number) = number < k
IsWithin k l v (Asked lane service) = (lane < l) × (service < v)
IsWithin k l v (Told service lane) = (service < v) × (lane < l)

module _ (P : Link → Type 0) (k l v : ℕ) where
  lane_all : (lane : ℕ) → lane < l → ((link : Link) → IsWithin k l v link → P link) → AllByRecursion P (lane_with v lane)
  unfolding lane_with
  lane_all lane lt each =
      all-append P (map (λ s. Asked lane s) (range_with_len 0 v)) (map (λ s. Told s lane) (range_with_len 0 v))
      (range_all P (λ s. Asked lane s) 0 v (λ s low high. each (Asked lane s) (lt, omega (arith, high))))
      (range_all P (λ s. Told s lane) 0 v (λ s low high. each (Told s lane) (omega (arith, high), lt)))

  pub links_all : ((link : Link) → IsWithin k l v link → P link) → AllByRecursion P (links_by k l v)
  unfolding links_by
  links_all each =
      all-append P (map Service (range_with_len 0 k)) (flat_map (lane_with v) (range_with_len 0 l))
      (range_all P Service 0 k (λ n low high. each (Service n) (omega (arith, high))))
      (flat_all P (lane_with v) 0 l (λ lane low high. lane_all lane (omega (arith, high)) each))

  lane_asked : (lane : ℕ) → AllByRecursion P (lane_with v lane) → (s : ℕ) → s < v → P (Asked lane s)
  unfolding lane_with
  lane_asked lane each s lt =
      range_at P (λ s. Asked lane s) 0 v (all-front P (map (λ s. Asked lane s) (range_with_len 0 v)) (map (λ s. Told s lane) (range_with_len 0 v)) each) s (omega arith) (omega (arith, lt))

  lane_told : (lane : ℕ) → AllByRecursion P (lane_with v lane) → (s : ℕ) → s < v → P (Told s lane)
  unfolding lane_with
  lane_told lane each s lt =
      range_at P (λ s. Told s lane) 0 v (all-back P (map (λ s. Asked lane s) (range_with_len 0 v)) (map (λ s. Told s lane) (range_with_len 0 v)) each) s (omega arith) (omega (arith, lt))

  lanes_of : AllByRecursion P (links_by k l v) → AllByRecursion P (flat_map (lane_with v) (range_with_len 0 l))
  unfolding links_by
  lanes_of each = all-back P (map Service (range_with_len 0 k)) (flat_map (lane_with v) (range_with_len 0 l)) each

  services_of : AllByRecursion P (links_by k l v) → AllByRecursion P (map Service (range_with_len 0 k))
  unfolding links_by
  services_of each = all-front P (map Service (range_with_len 0 k)) (flat_map (lane_with v) (range_with_len 0 l)) each

  pub links_at : AllByRecursion P (links_by k l v) → (link : Link) → IsWithin k l v link → P link
  links_at each (Service n) lt = range_at P Service 0 k (services_of each) n (omega arith) (omega (arith, lt))
  links_at each (Asked lane s) lt = lane_asked lane (flat_at P (lane_with v) 0 l (lanes_of each) lane (omega arith) (omega (arith, lt.0))) s lt.1
  links_at each (Told s lane) lt = lane_told lane (flat_at P (lane_with v) 0 l (lanes_of each) lane (omega arith) (omega (arith, lt.1))) s lt.0

-- the bounds of links
pub within_bounds : (link : Link) → IsLink link → IsWithin SERVICE_LINKS LANES SERVICES link
within_bounds (Service n) on = on
within_bounds (Asked lane s) on = on
within_bounds (Told s lane) on = on

pub of_bounds : (link : Link) → IsWithin SERVICE_LINKS LANES SERVICES link → IsLink link
of_bounds (Service n) on = on
of_bounds (Asked lane s) on = on
of_bounds (Told s lane) on = on
