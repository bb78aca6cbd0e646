-- Facts that are decided: equations between values that have a code, and what is made of decided facts.
use Rattle.std.proofs.Common.{◌≡◌, ℕ, ◌<◌, Bool, true, false, ◌==◌, nat_lt, ◌⊎◌, inl, inr, refl, ap, arith}
use Rattle.std.proofs.lemmas.Bool.Decides.{nat_tests}
use base.Stored.{Gv, gnil, gnum, gcons, num, Coded}

-- a fact holds, or it does not
abbrev pub Decided : Type 0 → Type 0
Decided P = P ⊎ (P → ⊥)

-- two numbers
pub numbers_decided : (a b : ℕ) → Decided (a ≡ b)
numbers_decided a b = by (a == b) refl
  where
    by : (test : Bool) → (a == b) ≡ test → Decided (a ≡ b)
    by true is = let e : a ≡ b = grind (arith, nat_tests) in inl e
    by false is = inr (λ e. let no : ⊥ = grind (arith, nat_tests) in no)

-- one number below another
pub below_decided : (a b : ℕ) → Decided (a < b)
below_decided a b = by (nat_lt a b) refl
  where
    by : (test : Bool) → nat_lt a b ≡ test → Decided (a < b)
    by true is = let e : a < b = grind (arith, nat_tests) in inl e
    by false is = inr (λ e. let no : ⊥ = grind (arith, nat_tests) in no)

-- codes
abbrev head : Gv → Gv
head gnil = gnil
head (gnum n) = gnil
head (gcons a b) = a

abbrev tail : Gv → Gv
tail gnil = gnil
tail (gnum n) = gnil
tail (gcons a b) = b

codes_decided : (x y : Gv) → Decided (x ≡ y)
codes_decided gnil gnil = inl refl
codes_decided (gnum a) (gnum b) = by (numbers_decided a b)
  where
    by : Decided (a ≡ b) → Decided (gnum a ≡ gnum b)
    by (inl e) = inl (ap gnum e)
    by (inr never) = inr (λ e. never (ap num e))
codes_decided (gcons a b) (gcons c d) = by (codes_decided a c) (codes_decided b d)
  where
    by : Decided (a ≡ c) → Decided (b ≡ d) → Decided (gcons a b ≡ gcons c d)
    by (inl e) (inl f) = inl (λ i. gcons (e i) (f i))
    by (inr never) f = inr (λ e. never (ap head e))
    by (inl e) (inr never) = inr (λ f. never (ap tail f))
codes_decided gnil (gnum b) = inr (λ e. let no : ⊥ = cc in no)
codes_decided gnil (gcons c d) = inr (λ e. let no : ⊥ = cc in no)
codes_decided (gnum a) gnil = inr (λ e. let no : ⊥ = cc in no)
codes_decided (gnum a) (gcons c d) = inr (λ e. let no : ⊥ = cc in no)
codes_decided (gcons a b) gnil = inr (λ e. let no : ⊥ = cc in no)
codes_decided (gcons a b) (gnum c) = inr (λ e. let no : ⊥ = cc in no)

-- two values of a type with a code
pub same_decided : {A : Type 0} → Coded A → (x y : A) → Decided (x ≡ y)
same_decided c x y = by (codes_decided (c.code x) (c.code y))
  where
    by : Decided (c.code x ≡ c.code y) → Decided (x ≡ y)
    by (inl e) = inl (c.inj x y e)
    by (inr never) = inr (λ e. never (ap c.code e))

-- both facts
pub both_decided : {P Q : Type 0} → Decided P → Decided Q → Decided (P × Q)
both_decided (inl p) (inl q) = inl (p, q)
both_decided (inr never) q = inr (λ both. never both.0)
both_decided (inl p) (inr never) = inr (λ both. never both.1)

-- one fact, where another holds
pub where_decided : {P Q : Type 0} → Decided P → Decided Q → Decided (P → Q)
where_decided (inl p) (inl q) = inl (λ _. q)
where_decided (inl p) (inr never) = inr (λ f. never (f p))
where_decided (inr none) q = inl (λ p. absurd (none p))
