-- Sums over all links.
use Rattle.std.proofs.Common.{◌≡◌, ◌≢◌, ℕ, zero, suc, ◌+◌, ◌≤◌, ◌==◌, ◌&&◌, false, refl, ap, sym, ◌∙◌, arith}
use Rattle.std.proofs.lemmas.Bool.Decides.{nat_tests}
use Rattle.market_events.specs.declared.links.Link.{Link}
use Rattle.market_events.specs.declared.links.Link.TheVariants.{Service, Asked, Told}
use Rattle.market_events.specs.declared.links.TheConstants.{SERVICE_LINKS}
use Rattle.market_events.specs.Links.{IsLink, same_link}
use Rattle.market_events.specs.declared.lanes.TheConstants.{LANES}
use Rattle.market_events.specs.declared.roles.TheConstants.{SERVICES}
use Rattle.market_laws.proofs.Bounds.Sums.{sum_to, sum_to-le, sum_to-plus, sum_to-part, sum_to-none, sum_to-one}

services_sum : (Link → ℕ) → ℕ
services_sum f = sum_to (λ k. f (Service k)) SERVICE_LINKS

asked_sum : (Link → ℕ) → ℕ
asked_sum f = sum_to (λ lane. sum_to (λ service. f (Asked lane service)) SERVICES) LANES

told_sum : (Link → ℕ) → ℕ
told_sum f = sum_to (λ lane. sum_to (λ service. f (Told service lane)) SERVICES) LANES

-- over each link once
pub over_links : (Link → ℕ) → ℕ
over_links f = services_sum f + asked_sum f + told_sum f

pub over_links-le : (f g : Link → ℕ) → ((l : Link) → IsLink l → f l ≤ g l) → over_links f ≤ over_links g
unfolding over_links services_sum asked_sum told_sum
over_links-le f g le =
    omega (
      arith,
      sum_to-le (λ k. f (Service k)) (λ k. g (Service k)) SERVICE_LINKS (λ k lt. le (Service k) lt),
      sum_to-le (λ lane. sum_to (λ service. f (Asked lane service)) SERVICES) (λ lane. sum_to (λ service. g (Asked lane service)) SERVICES) LANES
          (λ lane low. sum_to-le (λ service. f (Asked lane service)) (λ service. g (Asked lane service)) SERVICES (λ service lt. le (Asked lane service) (low, lt))),
      sum_to-le (λ lane. sum_to (λ service. f (Told service lane)) SERVICES) (λ lane. sum_to (λ service. g (Told service lane)) SERVICES) LANES
          (λ lane low. sum_to-le (λ service. f (Told service lane)) (λ service. g (Told service lane)) SERVICES (λ service lt. le (Told service lane) (lt, low))),
    )

-- a sum of sums
grid-plus : (f g : ℕ → ℕ → ℕ) → sum_to (λ i. sum_to (λ k. f i k + g i k) SERVICES) LANES ≡ sum_to (λ i. sum_to (f i) SERVICES) LANES + sum_to (λ i. sum_to (g i) SERVICES) LANES
grid-plus f g =
    ap (λ h. sum_to h LANES) (λ j i. sum_to-plus (f i) (g i) SERVICES j) ∙ sum_to-plus (λ i. sum_to (f i) SERVICES) (λ i. sum_to (g i) SERVICES) LANES

pub over_links-plus : (f g : Link → ℕ) → over_links (λ l. f l + g l) ≡ over_links f + over_links g
unfolding over_links services_sum asked_sum told_sum
over_links-plus f g =
    omega (arith, sum_to-plus (λ k. f (Service k)) (λ k. g (Service k)) SERVICE_LINKS, grid-plus (λ i k. f (Asked i k)) (λ i k. g (Asked i k)), grid-plus (λ i k. f (Told k i)) (λ i k. g (Told k i)))

-- the term of a link
pub over_links-part : (f : Link → ℕ) (l : Link) → IsLink l → f l ≤ over_links f
unfolding over_links services_sum asked_sum told_sum
over_links-part f (Service n) link = omega (arith, sum_to-part (λ k. f (Service k)) SERVICE_LINKS n link)
over_links-part f (Asked lane service) link =
    omega (arith, sum_to-part (λ k. f (Asked lane k)) SERVICES service link.1, sum_to-part (λ i. sum_to (λ k. f (Asked i k)) SERVICES) LANES lane link.0)
over_links-part f (Told service lane) link =
    omega (arith, sum_to-part (λ k. f (Told k lane)) SERVICES service link.0, sum_to-part (λ i. sum_to (λ k. f (Told k i)) SERVICES) LANES lane link.1)

-- where all is nothing but the term of one link
grid-none : (f : ℕ → ℕ → ℕ) → ((i k : ℕ) → f i k ≡ 0) → sum_to (λ i. sum_to (f i) SERVICES) LANES ≡ 0
grid-none f none = sum_to-none (λ i. sum_to (f i) SERVICES) LANES (λ i lt. sum_to-none (f i) SERVICES (λ k small. none i k))

grid-one : (f : ℕ → ℕ → ℕ) (j m : ℕ) → ((i k : ℕ) → (i ≡ j → k ≡ m → ⊥) → f i k ≡ 0) → sum_to (λ i. sum_to (f i) SERVICES) LANES ≤ f j m
grid-one f j m none =
    omega (
      arith,
      sum_to-one (λ i. sum_to (f i) SERVICES) LANES j (λ i lt differs. sum_to-none (f i) SERVICES (λ k small. none i k (λ e d. differs e))),
      sum_to-one (f j) SERVICES m (λ k small differs. none j k (λ e d. differs d)),
    )

pub over_links-one : (f : Link → ℕ) (l : Link) → ((k : Link) → same_link l k ≡ false → f k ≡ 0) → over_links f ≤ f l
unfolding over_links services_sum asked_sum told_sum
over_links-one f (Service n) none =
    omega (
      arith,
      sum_to-one (λ k. f (Service k)) SERVICE_LINKS n (λ i lt differs. none (Service i) (apart n i (λ e. differs (sym e)))),
      grid-none (λ i k. f (Asked i k)) (λ i k. none (Asked i k) refl),
      grid-none (λ i k. f (Told k i)) (λ i k. none (Told k i) refl),
    )
  where
    apart : (a b : ℕ) → a ≢ b → (a == b) ≡ false
    apart a b differs = grind (arith, nat_tests)
over_links-one f (Asked lane service) none =
    omega (
      arith,
      sum_to-none (λ k. f (Service k)) SERVICE_LINKS (λ k lt. none (Service k) refl),
      grid-one (λ i k. f (Asked i k)) lane service (λ i k differs. none (Asked i k) (apart lane service i k differs)),
      grid-none (λ i k. f (Told k i)) (λ i k. none (Told k i) refl),
    )
  where
    apart : (a b i k : ℕ) → (i ≡ a → k ≡ b → ⊥) → ((a == i) && (b == k)) ≡ false
    apart a b i k differs = grind (arith, nat_tests)
over_links-one f (Told service lane) none =
    omega (
      arith,
      sum_to-none (λ k. f (Service k)) SERVICE_LINKS (λ k lt. none (Service k) refl),
      grid-none (λ i k. f (Asked i k)) (λ i k. none (Asked i k) refl),
      grid-one (λ i k. f (Told k i)) lane service (λ i k differs. none (Told k i) (apart service lane k i differs)),
    )
  where
    apart : (a b k i : ℕ) → (i ≡ b → k ≡ a → ⊥) → ((a == k) && (b == i)) ≡ false
    apart a b k i differs = grind (arith, nat_tests)

pub over_links-none : over_links (λ l. 0) ≡ 0
unfolding over_links services_sum asked_sum told_sum
over_links-none =
    omega (arith, sum_to-none (λ k. 0) SERVICE_LINKS (λ k lt. refl), grid-none (λ i k. 0) (λ i k. refl))

-- a sum over some numbers of sums over links is one over links
pub over_links-swap : (f : ℕ → Link → ℕ) (n : ℕ) → sum_to (λ k. over_links (f k)) n ≡ over_links (λ l. sum_to (λ k. f k l) n)
unfolding sum_to
over_links-swap f zero = sym over_links-none
over_links-swap f (suc n) =
    ap (λ k. over_links (f 0) + k) (over_links-swap (λ k. f (suc k)) n) ∙ sym (over_links-plus (f 0) (λ l. sum_to (λ k. f (suc k) l) n))
