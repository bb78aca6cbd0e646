-- The fields of a record, taken by their places.
use Rattle.std.proofs.Common.{◌≡◌, ℕ, zero, suc, ◌+◌, List, [], ◌∷◌, ◌++◌, take, Some, None, refl, ap, add-one}
use Rattle.csv.specs.Records.{field_at}

take_field_suc : (fields : List (List ℕ)) (i : ℕ) (f : List ℕ) → field_at fields i ≡ Some f → take (suc i) fields ≡ take i fields ++ f ∷ []
unfolding field_at
take_field_suc [] i f e = cc
take_field_suc (g ∷ gs) zero f e = cc
take_field_suc (g ∷ gs) (suc i) f e = ap (λ xs. g ∷ xs) (take_field_suc gs i f e)

pub take_field : (fields : List (List ℕ)) (i : ℕ) (f : List ℕ) → field_at fields i ≡ Some f → take (i + 1) fields ≡ take i fields ++ f ∷ []
take_field fields i f e = rw add-one (take_field_suc fields i f e)

pub take_all_fields : (fields : List (List ℕ)) (i : ℕ) → field_at fields i ≡ None → take i fields ≡ fields
unfolding field_at
take_all_fields [] zero e = refl
take_all_fields [] (suc i) e = refl
take_all_fields (g ∷ gs) zero e = cc
take_all_fields (g ∷ gs) (suc i) e = ap (λ xs. g ∷ xs) (take_all_fields gs i e)
