-- A sum of counts of which none fell is greater exactly where one of the counts is.
use Rattle.std.proofs.Common.{◌≡◌, ℕ, zero, suc, ◌≤◌, ◌<◌, ◌↔◌, ⊎_elim, arith}
use Rattle.std.proofs.lemmas.Bool.{cases_lt}
use Rattle.market_edges.specs.Counts.{count_end}
use Rattle.market_edges.specs.Shelves.{faults_below, total_faults, RoseSomewhere}
use Rattle.market_events.specs.declared.nodes.TheConstants.{NODES}

module _ (old new : ℕ → ℕ) (none_fell : (node : ℕ) → old node ≤ new node) where
  not_less : (n : ℕ) → faults_below n old ≤ faults_below n new
  not_less zero = omega arith
  not_less (suc n) = omega (arith, not_less n, none_fell n)

  -- one count that is greater makes the sum greater
  up : (n node : ℕ) → node < n → old node < new node → faults_below n old < faults_below n new
  up zero node within more = absurd (omega arith)
  up (suc n) node within more = ⊎_elim
      (λ below. omega (arith, up n node below more, none_fell n))
      (λ above. let same : node ≡ n = omega arith in let there = rw same at more in omega (arith, there, not_less n))
      (cases_lt node n)

  -- a greater sum has a count that is greater
  down : (n : ℕ) → faults_below n old < faults_below n new → (node : ℕ) × (node < n) × (old node < new node)
  down zero more = absurd (omega arith)
  down (suc n) more = ⊎_elim
      (λ here. (n, omega arith, here))
      (λ other. let found = down n (omega (arith, more, other)) in (found.0, omega (arith, found.1), found.2))
      (cases_lt (old n) (new n))

pub sum_rises : (old new : ℕ → ℕ) → ((node : ℕ) → old node ≤ new node) → ((node : ℕ) → old node < count_end)
    → RoseSomewhere old new ↔ (total_faults old < total_faults new)
sum_rises old new none_fell below_end = (
  λ rose. up old new none_fell NODES rose.0 rose.1 (omega (arith, rose.2, below_end rose.0)),
  λ more. let found = down old new none_fell NODES more in (found.0, found.1, omega (arith, found.2, below_end found.0)),
)
