-- Whether a service link is met, by the tests of the code.
use Rattle.std.proofs.Common.{◌≡◌, ℕ, ◌<◌, ◌≤◌, true, false, not, ◌==◌, ◌||◌, nat_le, arith}
use Rattle.std.proofs.lemmas.Bool.Decides.{nat_tests}

pub unmet : (receiver node past count : ℕ) → (receiver == node) ≡ true → count < past → (not (receiver == node) || nat_le past count) ≡ false
unmet receiver node past count into above = grind (arith, nat_tests)

pub met_elsewhere : (receiver node past count : ℕ) → (receiver == node) ≡ false → (not (receiver == node) || nat_le past count) ≡ true
met_elsewhere receiver node past count other = grind (arith, nat_tests)

pub met_within : (receiver node past count : ℕ) → past ≤ count → (not (receiver == node) || nat_le past count) ≡ true
met_within receiver node past count within = grind (arith, nat_tests)
