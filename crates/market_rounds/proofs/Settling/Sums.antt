-- Sums of terms that do not grow: where the sum does not fall, kept term does.
use Rattle.std.proofs.Common.{ℕ, zero, suc, ◌+◌, ◌-◌, ◌<◌, ◌≤◌, arith}
use Rattle.market_events.specs.declared.links.Link.{Link}
use Rattle.market_events.specs.Links.{IsLink}
use Rattle.market_laws.proofs.Bounds.LinkSums.{over_links, over_links-le, over_links-plus, over_links-part}
use Rattle.market_laws.proofs.Bounds.Sums.{sum_to, sum_to-le}

-- over the first numbers
pub sum_to-still : (f g : ℕ → ℕ) (n : ℕ) → ((k : ℕ) → k < n → g k ≤ f k) → sum_to f n ≤ sum_to g n → (k : ℕ) → k < n → f k ≤ g k
unfolding sum_to
sum_to-still f g zero le kept k low = absurd (omega arith)
sum_to-still f g (suc n) le kept zero low = omega (arith, kept, sum_to-le (λ k. g (suc k)) (λ k. f (suc k)) n (λ k below. le (suc k) (omega arith)))
sum_to-still f g (suc n) le kept (suc k) low =
    sum_to-still (λ i. f (suc i)) (λ i. g (suc i)) n (λ i below. le (suc i) (omega arith)) (omega (arith, kept, le 0 (omega arith))) k (omega arith)

-- over all links
pub over_links-still : (f g : Link → ℕ) → ((l : Link) → IsLink l → g l ≤ f l) → over_links f ≤ over_links g → (l : Link) → IsLink l → f l ≤ g l
over_links-still f g le kept l on =
    let parts = over_links-le (λ k. g k + (f k - g k)) f (λ k is. omega (arith, le k is)) in
    let split = over_links-plus g (λ k. f k - g k) in
    let here = over_links-part (λ k. f k - g k) l on in
    omega (arith, parts, split, here, kept)
