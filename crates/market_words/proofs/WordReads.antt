-- What it is to read a word, and the parts of what was read of several words.
use Rattle.std.proofs.Common.{◌≡◌, ℕ, Bool, true, false, cond, List, [], ◌∷◌, map, Result, Ok, Err, if◌then◌else◌, refl, ap, subst, ◌∙◌}
use Rattle.std.specs.List.{AllByRecursion}
use Rattle.std.proofs.lemmas.Slice.Eq.{bytes_eq-Decides}
use Rattle.market_words.specs.declared.faults.WordFault.{WordFault}
use Rattle.market_words.specs.declared.faults.WordFault.TheVariants.{Field, Range}
use Rattle.market_words.specs.Words.{same_text, both, onto, all_of}
use Rattle.market_words.specs.Results.{◌>>=◌}
use Rattle.market_words.proofs.WordCuts.{Lacks, lacks, lacks_by_test}

-- a word is read as a value just where it is the text of that value and the value is well formed; the text has no space
pub record ReadsWord {A : Type 0} (read : List ℕ → Result A WordFault) (text : A → List ℕ) (ok : A → Type 0) : Type 0 where
  pub reads : (a : A) → ok a → read (text a) ≡ Ok a
  pub spelled : (t : List ℕ) (a : A) → read t ≡ Ok a → ok a × (t ≡ text a)
  pub bare : (a : A) → ok a → Lacks 32 (text a)

-- both were read
pub both_reads : {A B : Type 0} {x : Result A WordFault} {y : Result B WordFault} {a : A} {b : B} → x ≡ Ok a → y ≡ Ok b → both x y ≡ Ok (a, b)
both_reads p q = λ i. both (p i) (q i)

-- both were read where the pair was
pub both_apart : {A B : Type 0} (x : Result A WordFault) (y : Result B WordFault) (p : A × B) → both x y ≡ Ok p → (x ≡ Ok p.0) × (y ≡ Ok p.1)
both_apart (Ok a) (Ok b) p e = (cc, cc)
both_apart (Ok a) (Err fault) p e = absurd (cc)
both_apart (Err fault) (Ok b) p e = absurd (cc)
both_apart (Err Field) (Err fault) p e = absurd (cc)
both_apart (Err Range) (Err fault) p e = absurd (cc)

-- what was read before f was put on it
pub onto_apart : {A B : Type 0} (f : A → B) (x : Result A WordFault) (b : B) → onto f x ≡ Ok b → (a : A) × (x ≡ Ok a) × (f a ≡ b)
onto_apart f (Ok a) b e = (a, refl, cc)
onto_apart f (Err fault) b e = absurd (cc)

-- what was read before the next step took it
pub then_apart : {A B : Type 0} (x : Result A WordFault) (f : A → Result B WordFault) (b : B) → (x >>= f) ≡ Ok b → (a : A) × (x ≡ Ok a) × (f a ≡ Ok b)
then_apart (Ok a) f b e = (a, refl, e)
then_apart (Err fault) f b e = absurd (cc)

module _ {A : Type 0} {read : List ℕ → Result A WordFault} {text : A → List ℕ} {ok : A → Type 0} (law : ReadsWord read text ok) where
  -- several words of one kind
  pub all_read : (xs : List A) → AllByRecursion ok xs → all_of (map read (map text xs)) ≡ Ok xs
  all_read [] all = refl
  all_read (x ∷ xs) all = ap (onto (λ p. p.0 ∷ p.1)) (both_reads (law.reads x all.0) (all_read xs all.1))

  -- and the words are the texts of what was read of them
  pub all_spelled : (ts : List (List ℕ)) (xs : List A) → all_of (map read ts) ≡ Ok xs → AllByRecursion ok xs × (ts ≡ map text xs)
  all_spelled [] xs e = let none : [] ≡ xs = cc in subst (λ ys. AllByRecursion ok ys × ([] ≡ map text ys)) none (tt, refl)
  all_spelled (t ∷ ts) xs e =
      let listed = onto_apart (λ (p : A × List A). p.0 ∷ p.1) (both (read t) (all_of (map read ts))) xs e in
      let parts = both_apart (read t) (all_of (map read ts)) listed.0 listed.1 in
      let first = law.spelled t listed.0.0 parts.0 in
      let rest = all_spelled ts listed.0.1 parts.1 in
      subst (λ ys. AllByRecursion ok ys × (t ∷ ts ≡ map text ys)) listed.2 ((first.0, rest.0), λ i. first.1 i ∷ rest.1 i)

-- a word that chooses one of several values, each by its own text: where it is not this one's, the rest decides
pub choice : {A : Type 0} (text : A → List ℕ) (t : List ℕ) (a : A) {rest : Result A WordFault} → ((x : A) → rest ≡ Ok x → t ≡ text x) → (x : A) → (if same_text t (text a) then Ok a else rest) ≡ Ok x → t ≡ text x
choice {A} text t a {rest} more x e = by_test (same_text t (text a)) refl e
  where
    by_test : (b : Bool) → same_text t (text a) ≡ b → cond b (Ok a) rest ≡ Ok x → t ≡ text x
    by_test true same is = let it : a ≡ x = cc in (bytes_eq-Decides t (text a)).0 same ∙ ap text it
    by_test false other is = more x is

-- a word that is none of them
pub no_choice : {A : Type 0} (text : A → List ℕ) (t : List ℕ) (x : A) → Err Field ≡ Ok x → t ≡ text x
no_choice text t x e = absurd (cc)

-- the law of a word that chooses
pub chosen : {A : Type 0} {read : List ℕ → Result A WordFault} {text : A → List ℕ} → ((a : A) → read (text a) ≡ Ok a) → ((t : List ℕ) (a : A) → read t ≡ Ok a → t ≡ text a) → ((a : A) → lacks 32 (text a) ≡ true) → ReadsWord read text (λ a. Unit {0})
chosen {text = text} reads spelled bare = record { reads = λ a ok. reads a; spelled = λ t a e. (tt, spelled t a e); bare = λ a ok. lacks_by_test 32 (text a) (bare a) }
