-- A list that is made of the lists of a range of numbers, one of which is one longer.
use Rattle.std.proofs.Common.{◌≡◌, ◌≢◌, ℕ, zero, suc, ◌+◌, ◌<◌, ◌≤◌, ◌==◌, Bool, true, false, List, [], ◌∷◌, ◌++◌, eqb-true, refl, ap, sym, ◌∙◌, append_assoc, arith}
use Rattle.std.specs.Prelude.{flat_map}
use Rattle.std.specs.List.{AllByRecursion, range_with_len}
use Rattle.std.proofs.lemmas.Bool.{eqb-false}
use Rattle.std.proofs.lemmas.Bool.Decides.{nat_tests}
use Rattle.market_laws.proofs.Growth.Members.{all-append}

-- the two lists differ by this element
pub record Splits {A : Type 0} (more fewer : List A) (x : A) : Type 0 where
  pub front : List A
  pub back : List A
  pub more_is : more ≡ front ++ x ∷ back
  pub fewer_is : fewer ≡ front ++ back

pub all-range : {A : Type 0} (P : A → Type 0) (f : ℕ → List A) (a len : ℕ) → ((k : ℕ) → k < a + len → AllByRecursion P (f k)) → AllByRecursion P (flat_map f (range_with_len a len))
all-range P f a zero each = tt
all-range P f a (suc len) each =
    all-append P (f a) (flat_map f (range_with_len (a + 1) len)) (each a (omega arith)) (all-range P f (a + 1) len (λ k lt. each k (omega arith)))

module _ {A : Type 0} (f g : ℕ → List A) (n : ℕ) (x : A) (here : f n ≡ g n ++ x ∷ []) (other : (k : ℕ) → k ≢ n → f k ≡ g k) where
  same : (a len : ℕ) → n < a → flat_map f (range_with_len a len) ≡ flat_map g (range_with_len a len)
  same a zero lt = refl
  same a (suc len) lt =
      let at : f a ≡ g a = other a (λ e. omega arith) in
      let rest = same (a + 1) len (omega arith) in
      (λ i. at i ++ rest i)

  pub range-splits : (a len : ℕ) → a ≤ n → n < a + len → Splits (flat_map f (range_with_len a len)) (flat_map g (range_with_len a len)) x
  range-splits a zero le lt = absurd (omega arith)
  range-splits a (suc len) le lt = by (a == n) refl (λ further. range-splits (a + 1) len further (omega arith))
    where
      by : (test : Bool) → (a == n) ≡ test → (a + 1 ≤ n → Splits (flat_map f (range_with_len (a + 1) len)) (flat_map g (range_with_len (a + 1) len)) x)
          → Splits (flat_map f (range_with_len a (suc len))) (flat_map g (range_with_len a (suc len))) x
      by true is later =
          let e : a ≡ n = eqb-true a n is in
          let at : f a ≡ g a ++ x ∷ [] = ap f e ∙ here ∙ ap (λ k. g k ++ x ∷ []) (sym e) in
          let rest : flat_map f (range_with_len (a + 1) len) ≡ flat_map g (range_with_len (a + 1) len) = same (a + 1) len (omega arith) in
          record {
            front = g a;
            back = flat_map g (range_with_len (a + 1) len);
            more_is = (λ i. at i ++ rest i) ∙ append_assoc (g a) (x ∷ []) (flat_map g (range_with_len (a + 1) len));
            fewer_is = refl;
          }
      by false is later =
          let differs : a ≢ n = eqb-false a n is in
          let at : f a ≡ g a = other a differs in
          let s = later (grind (arith, nat_tests)) in
          record {
            front = g a ++ s.front;
            back = s.back;
            more_is = (λ i. at i ++ s.more_is i) ∙ sym (append_assoc (g a) s.front (x ∷ s.back));
            fewer_is = ap (λ l. g a ++ l) s.fewer_is ∙ sym (append_assoc (g a) s.front s.back);
          }
