-- What was taken of a source so far, and one piece more.
use Rattle.std.proofs.Common.{◌≡◌, ℕ, ◌+◌, List, [], ◌++◌, length, append_assoc, Option, refl, ap, ◌∙◌, sym, arith}
use Rattle.market_edges.specs.Counts.{raised_by}
use Rattle.market.specs.Input.{Takes}

-- bytes were taken between two states of a source, of which these are what it had left, its counts of bytes and of faults
pub record HasTaken (before after : Option (List ℕ)) (taken_before taken_after faults_before faults_after : ℕ) (bytes : List ℕ) : Type 0 where
  pub these : Takes before after bytes
  pub taken : taken_after ≡ raised_by taken_before (length bytes)
  pub faults : faults_after ≡ faults_before

pub takes_none : (left : Option (List ℕ)) → Takes left left []
takes_none left all told = (all, refl, told)

pub takes_more : {a b c : Option (List ℕ)} (xs ys : List ℕ) → Takes a b xs → Takes b c ys → Takes a c (xs ++ ys)
takes_more xs ys first second all told =
    let f = first all told in
    let s = second f.0 f.2 in
    (s.0, f.1 ∙ ap (λ rest. xs ++ rest) s.1 ∙ sym (append_assoc xs ys s.0), s.2)

pub raised_more : (count m n : ℕ) → raised_by (raised_by count m) n ≡ raised_by count (m + n)
raised_more count m n = omega arith
