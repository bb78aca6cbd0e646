-- The texts of links.
use Rattle.std.proofs.Common.{◌≡◌, ◌≤◌, ◌<◌, ℕ, ◌==◌, Bool, true, false, cond, List, [], ◌∷◌, Some, None, Ok, refl, ap, sym, subst, ◌∙◌, arith}
use Rattle.std.specs.Fmt.{decimal}
use Rattle.std.specs.List.{join_with_byte}
use Rattle.std.specs.Result.{result_ok}
use Rattle.std.proofs.lemmas.Bool.Decides.{nat_tests}
use Rattle.market_events.specs.declared.links.Link.{Link}
use Rattle.market_events.specs.declared.links.Link.TheVariants.{Service, Asked, Told}
use Rattle.market_events.specs.Links.{IsLink}
use Rattle.market_words.specs.Words.{pieces, number_up_to}
use Rattle.market_words.proofs.WordCuts.{Lacks, pieces_joined, joined_pieces, lacks-joined}
use Rattle.market_words.proofs.WordNumbers.{decimal_lacks, number_word}
use Rattle.market_rows.specs.Reading.{◌then◌, two_read, two_numbers_read, lane_max, service_max, service_link_max, service_link_read, asked_link_read, told_link_read, link_read}
use Rattle.market_rows.specs.Rows.{link_text}
use Rattle.market_rows.proofs.Readings.{ReadsField, then_apart, ok_apart, some_same}

-- the words of two numbers
abbrev two_parts : ℕ → ℕ → List (List ℕ)
two_parts m n = decimal m ∷ decimal n ∷ []

abbrev two_text : ℕ → ℕ → List ℕ
two_text m n = join_with_byte 46 (two_parts m n)

module _ (a b : ℕ) (a_small : a < 256) (b_small : b < 256) where
  -- two numbers are read of their text
  two_reads : (m n : ℕ) → m ≤ a → n ≤ b → two_numbers_read a b (two_text m n) ≡ Some (m, n)
  two_reads m n first second =
      let cut : pieces 46 (two_text m n) ≡ two_parts m n =
      pieces_joined 46 (two_parts m n) (omega arith) (decimal_lacks 46 m refl (omega arith), (decimal_lacks 46 n refl (omega arith), tt)) in
      let one : number_up_to a (decimal m) ≡ Ok m = (number_word a (omega arith)).reads m first in
      let other : number_up_to b (decimal n) ≡ Ok n = (number_word b (omega arith)).reads n second in
      rw (cut, one, other)

  -- and of no other
  two_spelled : (t : List ℕ) (p : ℕ × ℕ) → two_numbers_read a b t ≡ Some p → (p.0 ≤ a) × (p.1 ≤ b) × (t ≡ two_text p.0 p.1)
  two_spelled t p e =
      let known = by_pieces (pieces 46 t) e in
      (known.0, known.1, sym (joined_pieces 46 t) ∙ ap (join_with_byte 46) known.2)
    where
      by_pieces : (ts : List (List ℕ)) → two_read a b ts ≡ Some p → (p.0 ≤ a) × (p.1 ≤ b) × (ts ≡ two_parts p.0 p.1)
      by_pieces [] e = absurd (cc)
      by_pieces (one ∷ []) e = absurd (cc)
      by_pieces (one ∷ two ∷ []) e =
          let first = then_apart (result_ok (number_up_to a one)) (λ m. result_ok (number_up_to b two) then λ n. Some (m, n)) p e in
          let second = then_apart (result_ok (number_up_to b two)) (λ n. Some (first.0, n)) p first.2 in
          let is : (first.0, second.0) ≡ p = some_same (first.0, second.0) p second.2 in
          let m = (number_word a (omega arith)).spelled one first.0 (ok_apart (number_up_to a one) first.0 first.1) in
          let n = (number_word b (omega arith)).spelled two second.0 (ok_apart (number_up_to b two) second.0 second.1) in
          subst (λ (q : ℕ × ℕ). (q.0 ≤ a) × (q.1 ≤ b) × (one ∷ two ∷ [] ≡ two_parts q.0 q.1)) is (m.0, n.0, λ i. m.1 i ∷ n.1 i ∷ [])
      by_pieces (one ∷ two ∷ three ∷ more) e = absurd (cc)

  -- it has no comma
  two_bare : (m n : ℕ) → m ≤ a → n ≤ b → Lacks 44 (two_text m n)
  two_bare m n first second = lacks-joined 44 46 (two_parts m n) refl (decimal_lacks 44 m refl (omega arith), (decimal_lacks 44 n refl (omega arith), tt))

-- a link is read of its text
link_reads : (l : Link) → IsLink l → link_read (link_text l) ≡ Some l
link_reads (Service n) ok = let it : number_up_to service_link_max (decimal n) ≡ Ok n = (number_word service_link_max (omega arith)).reads n (omega arith) in rw it
link_reads (Asked lane service) ok = rw (two_reads lane_max service_max (omega arith) (omega arith) lane service (omega (arith, ok.0)) (omega (arith, ok.1)))
link_reads (Told service lane) ok = rw (two_reads service_max lane_max (omega arith) (omega arith) service lane (omega (arith, ok.0)) (omega (arith, ok.1)))

-- what is read behind the letter of each kind of link
service_spelled : (t : List ℕ) (l : Link) → service_link_read t ≡ Some l → IsLink l × (76 ∷ t ≡ link_text l)
service_spelled t l e =
    let apart = then_apart (result_ok (number_up_to service_link_max t)) (λ n. Some (Service n)) l e in
    let n = (number_word service_link_max (omega arith)).spelled t apart.0 (ok_apart (number_up_to service_link_max t) apart.0 apart.1) in
    let is : Service apart.0 ≡ l = some_same (Service apart.0) l apart.2 in
    subst (λ k. IsLink k × (76 ∷ t ≡ link_text k)) is (omega (arith, n.0), λ i. 76 ∷ n.1 i)

asked_spelled : (t : List ℕ) (l : Link) → asked_link_read t ≡ Some l → IsLink l × (65 ∷ t ≡ link_text l)
asked_spelled t l e =
    let apart = then_apart (two_numbers_read lane_max service_max t) (λ p. Some (Asked p.0 p.1)) l e in
    let p = two_spelled lane_max service_max (omega arith) (omega arith) t apart.0 apart.1 in
    let is : Asked apart.0.0 apart.0.1 ≡ l = some_same (Asked apart.0.0 apart.0.1) l apart.2 in
    subst (λ k. IsLink k × (65 ∷ t ≡ link_text k)) is ((omega (arith, p.0), omega (arith, p.1)), λ i. 65 ∷ p.2 i)

told_spelled : (t : List ℕ) (l : Link) → told_link_read t ≡ Some l → IsLink l × (84 ∷ t ≡ link_text l)
told_spelled t l e =
    let apart = then_apart (two_numbers_read service_max lane_max t) (λ p. Some (Told p.0 p.1)) l e in
    let p = two_spelled service_max lane_max (omega arith) (omega arith) t apart.0 apart.1 in
    let is : Told apart.0.0 apart.0.1 ≡ l = some_same (Told apart.0.0 apart.0.1) l apart.2 in
    subst (λ k. IsLink k × (84 ∷ t ≡ link_text k)) is ((omega (arith, p.0), omega (arith, p.1)), λ i. 84 ∷ p.2 i)

-- a link is read of no other text
link_spelled : (t : List ℕ) (l : Link) → link_read t ≡ Some l → IsLink l × (t ≡ link_text l)
link_spelled [] l e = absurd (cc)
link_spelled (letter ∷ more) l e = by_service (letter == 76) refl e
  where
    known : (c : ℕ) → (letter == c) ≡ true → IsLink l × (c ∷ more ≡ link_text l) → IsLink l × (letter ∷ more ≡ link_text l)
    known c same h = let is : letter ≡ c = grind (arith, nat_tests, same) in (h.0, ap (λ b. b ∷ more) is ∙ h.1)

    by_told : (b : Bool) → (letter == 84) ≡ b → cond b (told_link_read more) None ≡ Some l → IsLink l × (letter ∷ more ≡ link_text l)
    by_told true same e = known 84 same (told_spelled more l e)
    by_told false other e = absurd (cc)

    by_asked : (b : Bool) → (letter == 65) ≡ b → cond b (asked_link_read more) (cond (letter == 84) (told_link_read more) None) ≡ Some l → IsLink l × (letter ∷ more ≡ link_text l)
    by_asked true same e = known 65 same (asked_spelled more l e)
    by_asked false other e = by_told (letter == 84) refl e

    by_service : (b : Bool) → (letter == 76) ≡ b → cond b (service_link_read more) (cond (letter == 65) (asked_link_read more) (cond (letter == 84) (told_link_read more) None)) ≡ Some l
        → IsLink l × (letter ∷ more ≡ link_text l)
    by_service true same e = known 76 same (service_spelled more l e)
    by_service false other e = by_asked (letter == 65) refl e

-- it has no comma
link_bare : (l : Link) → IsLink l → Lacks 44 (link_text l)
link_bare (Service n) ok = (refl, decimal_lacks 44 n refl (omega arith))
link_bare (Asked lane service) ok = (refl, two_bare lane_max service_max (omega arith) (omega arith) lane service (omega (arith, ok.0)) (omega (arith, ok.1)))
link_bare (Told service lane) ok = (refl, two_bare service_max lane_max (omega arith) (omega arith) service lane (omega (arith, ok.0)) (omega (arith, ok.1)))

pub link_field : ReadsField link_read link_text IsLink
link_field = record { reads = link_reads; spelled = link_spelled; bare = link_bare }
