-- A package that is closed by its number.
use Rattle.std.proofs.Common.{◌≡◌, ℕ, ◌+◌, ◌<◌, ◌≤◌, Bool, true, false, cond, ◌==◌, ◌||◌, List, [], ◌∷◌, ◌++◌, length, map, set, get_or, if◌then◌else◌, ⊎_elim, zero, suc, refl, ap, ap₂, sym, ◌∙◌, arith}
use Rattle.std.specs.List.{enumerate_from, list_any}
use Rattle.std.proofs.lemmas.Bool.{cases_lt}
use Rattle.std.proofs.lemmas.Bool.Decides.{nat_tests}
use Rattle.std.specs.Map.{keys_of}
use Rattle.market_events.specs.declared.bodies.Item.{Item}
use Rattle.market_events.proofs.Values.Lists.{list_any-push}
use Rattle.shipment_service.specs.declared.package.Package.{Package}
use Rattle.shipment_service.specs.Tables.{closed_of, close_if, has_number}

-- the packages from a number on, those closed whose numbers pass
abbrev pub close_from : (ℕ → Bool) → ℕ → List Package → List Package
close_from test from packages = map (λ (p : ℕ × Package). if test p.0 then closed_of p.1 else p.1) (enumerate_from from packages)

-- none passes
pub close_from-none : (test : ℕ → Bool) (from : ℕ) (ps : List Package) → ((n : ℕ) → from ≤ n → n < from + length ps → test n ≡ false) → close_from test from ps ≡ ps
close_from-none test from [] none = refl
close_from-none test from (p ∷ ps) none =
    let here : test from ≡ false = none from (omega arith) (omega arith) in
    ap (λ b. cond b (closed_of p) p ∷ close_from test (from + 1) ps) here
    ∙ ap (λ qs. p ∷ qs) (close_from-none test (from + 1) ps (λ n low high. none n (omega arith) (omega arith)))

-- a later number is another one
apart : (from n : ℕ) → from + 1 ≤ n → (n == from + 0) ≡ false
apart from n low = grind (arith, nat_tests)

-- one passes
pub close_from-one : (from k : ℕ) (ps : List Package) (d : Package) → k < length ps → set ps k (closed_of (get_or ps k d)) ≡ close_from (λ n. n == from + k) from ps
close_from-one from k [] d below = absurd (omega arith)
close_from-one from zero (p ∷ ps) d below =
    let here : (from == from + 0) ≡ true = grind (arith, nat_tests) in
    sym (ap (λ b. cond b (closed_of p) p ∷ close_from (λ n. n == from + 0) (from + 1) ps) here
    ∙ ap (λ qs. closed_of p ∷ qs) (close_from-none (λ n. n == from + 0) (from + 1) ps (λ n low high. apart from n low)))
close_from-one from (suc k) (p ∷ ps) d below =
    let other : (from == from + suc k) ≡ false = grind (arith, nat_tests) in
    let next : from + 1 + k ≡ from + suc k = omega arith in
    ap (λ qs. p ∷ qs) (close_from-one (from + 1) k ps d (omega arith))
    ∙ ap (λ m. p ∷ close_from (λ n. n == m) (from + 1) ps) next
    ∙ sym (ap (λ b. cond b (closed_of p) p ∷ close_from (λ n. n == from + suc k) (from + 1) ps) other)

-- one test after another
pub close_from-twice : (f g : ℕ → Bool) (from : ℕ) (ps : List Package) → close_from f from (close_from g from ps) ≡ close_from (λ n. g n || f n) from ps
close_from-twice f g from [] = refl
close_from-twice f g from (p ∷ ps) = ap₂ (λ q qs. q ∷ qs) (either (g from) (f from)) (close_from-twice f g (from + 1) ps)
  where
    either : (a b : Bool) → cond b (closed_of (cond a (closed_of p) p)) (cond a (closed_of p) p) ≡ cond (a || b) (closed_of p) p
    either true true = refl
    either true false = refl
    either false b = refl

-- a number that no package has
pub close_past : (number : ℕ) (ps : List Package) → length ps < number → ps ≡ close_from (λ n. n == number) 1 ps
close_past number ps past = sym (close_from-none (λ n. n == number) 1 ps (λ n low high. other n high))
  where
    other : (n : ℕ) → n < 1 + length ps → (n == number) ≡ false
    other n high = grind (arith, nat_tests)

pub close_zero : (number : ℕ) (ps : List Package) → number ≡ 0 → ps ≡ close_from (λ n. n == number) 1 ps
close_zero number ps is = sym (close_from-none (λ n. n == number) 1 ps (λ n low high. other n low))
  where
    other : (n : ℕ) → 1 ≤ n → (n == number) ≡ false
    other n low = grind (arith, nat_tests)

-- a place that is not within
pub not_within : (i n : ℕ) → (i < n → false ≡ true) → n ≤ i
not_within i n apart = ⊎_elim (λ within. let never : false ≡ true = apart within in cc) (λ past. past) (cases_lt i n)

-- none, and one more
pub close-none : (ps : List Package) → ps ≡ close_if (λ n. false) ps
close-none ps = sym (close_from-none (λ n. false) 1 ps (λ n low high. refl))

pub close-more : (ks : List ℕ) (k : ℕ) (ps : List Package) → close_if (λ n. n == k) (close_if (λ n. list_any (λ j. n == j) ks) ps) ≡ close_if (λ n. list_any (λ j. n == j) (ks ++ k ∷ [])) ps
close-more ks k ps =
    close_from-twice (λ n. n == k) (λ n. list_any (λ j. n == j) ks) 1 ps
    ∙ ap (λ (test : ℕ → Bool). close_if test ps) (λ i n. sym (list_any-push (λ j. n == j) ks k) i)

-- the numbers of pairs
pub number-keys : (es : List (ℕ × Item)) (n : ℕ) → list_any (λ j. n == j) (keys_of es) ≡ has_number es n
number-keys [] n = refl
number-keys (e ∷ es) n = let turned : (n == e.0) ≡ (e.0 == n) = grind (arith, nat_tests) in λ i. turned i || number-keys es n i
