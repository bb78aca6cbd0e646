-- A word behind a form's last one.
use Rattle.std.proofs.Common.{◌≡◌, ◌<◌, ℕ, List, [], ◌∷◌, length, Err, refl, arith}
use Rattle.market_texts.specs.declared.faults.BodyError.TheVariants as bad
use Rattle.market_texts.specs.Reading.{ended}

-- a word behind a form's last one is one too many
pub ended_more : {A : Type 0} (a : A) (left : List (List ℕ)) → 0 < length left → ended a left ≡ Err bad.Extra
ended_more a [] some = absurd (omega arith)
ended_more a (text ∷ more) some = refl
