-- Records and arguments of another number than they should have.
use Rattle.std.proofs.Common.{◌≡◌, ◌≢◌, ◌<◌, ℕ, List, [], ◌∷◌, length, Result, Err, refl, arith}
use Rattle.market_texts.specs.declared.workload.WorkRule.{WorkRule}
use Rattle.market_texts.specs.declared.workload.WorkRule.TheVariants as broken
use Rattle.std.proofs.lemmas.List.{length-map}
use Rattle.market_texts.specs.Workload.{of_none, of_one, of_two, of_three, of_four, of_five, request_of}

pub of_none-other : {B : Type 0} (result : Result B WorkRule) (xs : List (List ℕ)) → length xs ≢ 0 → of_none result xs ≡ Err broken.Fields
of_none-other result [] h = absurd (h refl)
of_none-other result (a ∷ xs) h = refl

pub of_one-other : {B : Type 0} (f : List ℕ → Result B WorkRule) (xs : List (List ℕ)) → length xs ≢ 1 → of_one f xs ≡ Err broken.Fields
of_one-other f [] h = refl
of_one-other f (a ∷ []) h = absurd (h refl)
of_one-other f (a ∷ b ∷ xs) h = refl

pub of_two-other : {B : Type 0} (f : List ℕ → List ℕ → Result B WorkRule) (xs : List (List ℕ)) → length xs ≢ 2 → of_two f xs ≡ Err broken.Fields
of_two-other f [] h = refl
of_two-other f (a ∷ []) h = refl
of_two-other f (a ∷ b ∷ []) h = absurd (h refl)
of_two-other f (a ∷ b ∷ c ∷ xs) h = refl

pub of_three-other : {B : Type 0} (f : List ℕ → List ℕ → List ℕ → Result B WorkRule) (xs : List (List ℕ)) → length xs ≢ 3 → of_three f xs ≡ Err broken.Fields
of_three-other f [] h = refl
of_three-other f (a ∷ []) h = refl
of_three-other f (a ∷ b ∷ []) h = refl
of_three-other f (a ∷ b ∷ c ∷ []) h = absurd (h refl)
of_three-other f (a ∷ b ∷ c ∷ d ∷ xs) h = refl

pub of_four-other : {B : Type 0} (f : List ℕ → List ℕ → List ℕ → List ℕ → Result B WorkRule) (xs : List (List ℕ)) → length xs ≢ 4 → of_four f xs ≡ Err broken.Fields
of_four-other f [] h = refl
of_four-other f (a ∷ []) h = refl
of_four-other f (a ∷ b ∷ []) h = refl
of_four-other f (a ∷ b ∷ c ∷ []) h = refl
of_four-other f (a ∷ b ∷ c ∷ d ∷ []) h = absurd (h refl)
of_four-other f (a ∷ b ∷ c ∷ d ∷ e ∷ xs) h = refl

pub of_five-other : {B : Type 0} (f : List ℕ → List ℕ → List ℕ → List ℕ → List ℕ → Result B WorkRule) (xs : List (List ℕ)) → length xs ≢ 5 → of_five f xs ≡ Err broken.Fields
of_five-other f [] h = refl
of_five-other f (a ∷ []) h = refl
of_five-other f (a ∷ b ∷ []) h = refl
of_five-other f (a ∷ b ∷ c ∷ []) h = refl
of_five-other f (a ∷ b ∷ c ∷ d ∷ []) h = refl
of_five-other f (a ∷ b ∷ c ∷ d ∷ e ∷ []) h = absurd (h refl)
of_five-other f (a ∷ b ∷ c ∷ d ∷ e ∷ g ∷ xs) h = refl

-- fewer than three fields
pub request_of-few : (xs : List (List ℕ)) → length xs < 3 → request_of xs ≡ Err broken.Fields
request_of-few [] h = refl
request_of-few (a ∷ []) h = refl
request_of-few (a ∷ b ∷ []) h = refl
request_of-few (a ∷ b ∷ c ∷ xs) h = absurd (omega arith)

pub ruleset counts = (of_none-other, of_one-other, of_two-other, of_three-other, of_four-other, of_five-other, length-map)
