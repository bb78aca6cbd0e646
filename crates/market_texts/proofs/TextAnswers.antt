-- What a reader's answer says of the value whose text it read.
use Rattle.std.proofs.Common.{◌≡◌, ℕ, List, Result, Ok, Err, IfOk, MatchResult, ◌⊎◌, inl, inr, refl, sym, ap, ◌∙◌}
use Rattle.market_texts.specs.declared.faults.BodyError.{BodyError}
use Rattle.market_texts.specs.declared.faults.BodyFault.{BodyFault}
use Rattle.market_texts.specs.declared.faults.BodyFault.TheVariants.{Bad, OutOfMemory}
use Rattle.market_texts.specs.Readers.{TellsFault, with_fault}
use Rattle.market_texts.proofs.ReaderLaws.{ok_same}

-- where each value is read of its text, and each text that is read is the value's
module _ {A : Type 0} (read : List ℕ → Result A BodyError) (text : A → List ℕ) (ok : A → Type 0)
    (reads : (a : A) → ok a → read (text a) ≡ Ok a) (spelled : (t : List ℕ) (a : A) → read t ≡ Ok a → ok a × (t ≡ text a)) where
  -- a value that was read is well formed
  pub answer_formed : (t : List ℕ) (r : Result A BodyFault) → MatchResult r (λ a. read t ≡ Ok a) (TellsFault (read t)) → IfOk r ok
  answer_formed t (Ok a) said = (spelled t a said).0
  answer_formed t (Err fault) said = tt

  -- and the text is its text
  pub answer_spelled : (t : List ℕ) (r : Result A BodyFault) → MatchResult r (λ a. read t ≡ Ok a) (TellsFault (read t)) → IfOk r (λ a. t ≡ text a)
  answer_spelled t (Ok a) said = (spelled t a said).1
  answer_spelled t (Err fault) said = tt

  -- the text of a well-formed value is read as that value, unless memory is wanting
  pub answer_reads : (t : List ℕ) (r : Result A BodyFault) → MatchResult r (λ a. read t ≡ Ok a) (TellsFault (read t))
      → (a : A) → ok a → t ≡ text a → (r ≡ Ok a) ⊎ (r ≡ Err OutOfMemory)
  answer_reads t (Ok b) said a formed is = inl (ap Ok (ok_same b a (sym said ∙ ap read is ∙ reads a formed)))
  answer_reads t (Err (Bad error)) said a formed is =
      let e : Err error ≡ Ok a = sym said ∙ ap read is ∙ reads a formed in
      let no : ⊥ = cc in
      absurd no
  answer_reads t (Err OutOfMemory) said a formed is = inr refl

  -- the same of a reader that takes no memory

  pub sure_formed : (t : List ℕ) (said : Result A BodyError) → read t ≡ said → IfOk (with_fault said) ok
  sure_formed t (Ok a) is = (spelled t a is).0
  sure_formed t (Err error) is = tt

  pub sure_spelled : (t : List ℕ) (said : Result A BodyError) → read t ≡ said → IfOk (with_fault said) (λ a. t ≡ text a)
  sure_spelled t (Ok a) is = (spelled t a is).1
  sure_spelled t (Err error) is = tt

  pub sure_reads : (t : List ℕ) (a : A) → ok a → t ≡ text a → with_fault (read t) ≡ Ok a
  sure_reads t a formed is = ap with_fault (ap read is ∙ reads a formed)
