-- What it is to read a field, and the parts of what was read of several fields.
use Rattle.std.proofs.Common.{◌≡◌, ◌≤◌, ℕ, Bool, true, false, cond, ◌==◌, ◌&&◌, List, Option, Some, None, Result, Ok, Err, refl, ap, arith}
use Rattle.std.specs.Fmt.{decimal}
use Rattle.std.specs.Result.{result_ok}
use Rattle.std.proofs.lemmas.Bool.Decides.{nat_tests}
use Rattle.market_words.specs.declared.faults.WordFault.{WordFault}
use Rattle.market_words.specs.Names.{id_max}
use Rattle.market_words.proofs.WordCuts.{Lacks}
use Rattle.market_words.proofs.WordReads.{ReadsWord}
use Rattle.market_words.proofs.WordNumbers.{decimal_lacks, number_word, positive_word}
use Rattle.market_rows.specs.Reading.{◌then◌, clock_max, clock_read, number_read}

-- a text is read as a value just where it is the text of that value and the value is in its range; the text has no comma
pub record ReadsField {A : Type 0} (read : List ℕ → Option A) (text : A → List ℕ) (ok : A → Type 0) : Type 0 where
  pub reads : (a : A) → ok a → read (text a) ≡ Some a
  pub spelled : (t : List ℕ) (a : A) → read t ≡ Some a → ok a × (t ≡ text a)
  pub bare : (a : A) → ok a → Lacks 44 (text a)

-- what two equal answers hold
pub some_same : {A : Type 0} (x y : A) → ◌≡◌ {A = Option A} (Some x) (Some y) → x ≡ y
some_same x y e = cc

-- what was read before the next step took it
pub then_apart : {A B : Type 0} (x : Option A) (f : A → Option B) (b : B) → (x then f) ≡ Some b → (a : A) × (x ≡ Some a) × (f a ≡ Some b)
then_apart (Some a) f b e = (a, refl, e)
then_apart None f b e = absurd (cc)

-- what was read where a test had to pass
pub passed : {A : Type 0} (test : Bool) (x : Option A) (a : A) → cond test x None ≡ Some a → (test ≡ true) × (x ≡ Some a)
passed true x a e = (refl, e)
passed false x a e = absurd (cc)

-- two tests that pass, and that each did
pub both_passed : {a b : Bool} → a ≡ true → b ≡ true → (a && b) ≡ true
both_passed p q = λ i. p i && q i

pub both_apart : (a b : Bool) → (a && b) ≡ true → (a ≡ true) × (b ≡ true)
both_apart true b e = (refl, e)
both_apart false b e = absurd (cc)

-- two numbers that pass are one
pub one_number : (m n : ℕ) → (m == n) ≡ true → m ≡ n
one_number m n e = grind (arith, nat_tests, e)

-- what a word was read as
pub ok_apart : {A E : Type 0} (r : Result A E) (a : A) → result_ok r ≡ Some a → r ≡ Ok a
ok_apart (Ok b) a e = cc
ok_apart (Err fault) a e = absurd (cc)

-- a field that is one word
pub word_field : {A : Type 0} {read : List ℕ → Result A WordFault} {text : A → List ℕ} {ok : A → Type 0} → ReadsWord read text ok
    → ((a : A) → ok a → Lacks 44 (text a)) → ReadsField (λ t. result_ok (read t)) text ok
word_field {read = read} law bare = record {
  reads = λ a ok. ap result_ok (law.reads a ok);
  spelled = λ t a e. law.spelled t a (ok_apart (read t) a e);
  bare = bare;
}

-- a clock
pub clock_field : ReadsField clock_read decimal (λ n. n ≤ clock_max)
clock_field = word_field (number_word clock_max (omega arith)) (λ n within. decimal_lacks 44 n refl (omega arith))

-- the number of an event
pub number_field : ReadsField number_read decimal (λ n. (1 ≤ n) × (n ≤ id_max))
number_field = word_field (positive_word id_max (omega arith)) (λ n within. decimal_lacks 44 n refl (omega (arith, within.1)))
