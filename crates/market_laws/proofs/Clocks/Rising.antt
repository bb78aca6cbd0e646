-- Clocks rise along a journal: what has a smaller clock stands before (earlier), what stands before has a smaller clock
-- (within-earlier), and a place with the same clock is the same (same_place).
use Rattle.std.proofs.Common.{◌≡◌, ℕ, ◌<◌, ◌≤◌, List, [], ◌∷◌, ◌++◌, ap, sym, ◌∙◌, subst, append_assoc, arith}
use Rattle.market_events.specs.declared.events.Entry.{Entry}
use Rattle.market_events.specs.declared.events.Event.{Event}
use Rattle.market_events.specs.declared.events.What.{What}
use Rattle.market_events.specs.declared.events.What.TheVariants.{Given, Taken, Made, Answered}
use Rattle.market_history.specs.Histories.{Histories}
use Rattle.market_history.specs.Lawful.{IsLawful}
use Rattle.market_history.specs.Stamps.{EachAfter, clock_before, stamp_of, IsStampedAfter, IsStamped}
use Rattle.market_history.proofs.StampLaws.{clock_before-push, EachAfter-at, EachAfter-front}
use Rattle.market_laws.specs.Cuts.{entry_with, StandsIn, TookAt, MadeAt}
use Rattle.market_laws.proofs.Origins.Cuts.{Order, first, equal, second, two_places}
use Rattle.market_laws.proofs.Origins.Places.{took_stands, made_stands}
use Rattle.market_laws.proofs.Growth.Each.{EachAfter-back}
use Rattle.market_laws.proofs.Growth.Takers.{StandsAt}

-- a stamp is above the clock before
stamp_above : (before : ℕ) (what : What) → before < stamp_of before what
stamp_above before (Given request) = omega arith
stamp_above before (Taken event) = omega arith
stamp_above before (Made event) = omega arith
stamp_above before (Answered id reply) = omega arith

stamped_above : (before : List Entry) (x : Entry) → IsStampedAfter before x → clock_before before < x.clock
stamped_above before x stamped = omega (arith, stamped.0, stamp_above (clock_before before) x.what)

-- the clock after some entries is at least that of each of them
clock_high : (front : List Entry) (y : Entry) (rest : List Entry) → EachAfter IsStampedAfter (front ++ y ∷ []) rest → y.clock ≤ clock_before (front ++ y ∷ rest)
clock_high front y [] each = omega (arith, clock_before-push front y)
clock_high front y (z ∷ zs) each =
    let next = clock_high (front ++ y ∷ []) z zs each.1 in
    let same : clock_before ((front ++ y ∷ []) ++ z ∷ zs) ≡ clock_before (front ++ y ∷ z ∷ zs) = ap clock_before (append_assoc front (y ∷ []) (z ∷ zs)) in
    omega (arith, next, same, stamped_above (front ++ y ∷ []) z each.0, clock_before-push front y)

-- a later entry has a greater clock
pub clock_rises : (front : List Entry) (y : Entry) (rest : List Entry) (x : Entry) (after : List Entry) → IsStamped ((front ++ y ∷ rest) ++ x ∷ after) → y.clock < x.clock
clock_rises front y rest x after stamped =
    let last = stamped_above (front ++ y ∷ rest) x (EachAfter-at IsStampedAfter [] (front ++ y ∷ rest) x after stamped) in
    let before : EachAfter IsStampedAfter [] (front ++ y ∷ rest) = EachAfter-front IsStampedAfter [] (front ++ y ∷ rest) (x ∷ after) stamped in
    let split : EachAfter IsStampedAfter [] ((front ++ y ∷ []) ++ rest) = subst (EachAfter IsStampedAfter []) (sym (append_assoc front (y ∷ []) rest)) before in
    omega (arith, last, clock_high front y rest (EachAfter-back IsStampedAfter [] (front ++ y ∷ []) rest split))

-- what stands before an entry has a smaller clock
pub within-earlier : (h : Histories) (n : ℕ) (before : List Entry) (y : Entry) (x : Entry) → IsLawful h → (s : StandsAt h n x) → StandsIn before y s.before → y.clock < x.clock
within-earlier h n before y x lawful s within =
    clock_rises before y within.after x s.after
    (subst (λ l. IsStamped (l ++ x ∷ s.after)) within.is (subst (λ l. IsStamped l) s.is (lawful.lawful n s.node).stamped))

-- what stands before an entry stands in the journal
abbrev pub within_stands : (h : Histories) (n : ℕ) (before : List Entry) (y : Entry) (x : Entry) → (s : StandsAt h n x) → StandsIn before y s.before → StandsAt h n y
within_stands h n before y x s within = record {
  node = s.node;
  before = before;
  after = within.after ++ x ∷ s.after;
  is = s.is ∙ ap (λ l. l ++ x ∷ s.after) within.is ∙ append_assoc before (y ∷ within.after) (x ∷ s.after);
}

-- an entry with a smaller clock stands before
pub earlier : (h : Histories) (n : ℕ) (x y : Entry) → IsLawful h → (s : StandsAt h n x) (t : StandsAt h n y) → x.clock < y.clock → StandsIn s.before x t.before
earlier h n x y lawful s t lt = by (two_places s.before x s.after t.before y t.after (sym s.is ∙ t.is))
  where
    by : Order s.before x t.before y → StandsIn s.before x t.before
    by (first rest is) = record { after = rest; is = is }
    by (equal is same) = let e : x.clock ≡ y.clock = ap (λ (z : Entry). z.clock) same in absurd (omega arith)
    by (second rest is) =
        let above = within-earlier h n t.before y x lawful s (record { after = rest; is = is }) in absurd (omega arith)

-- an entry with the same clock stands at the same place
pub same_place : (h : Histories) (n : ℕ) (x y : Entry) → IsLawful h → (s : StandsAt h n x) (t : StandsAt h n y) → x.clock ≡ y.clock → (s.before ≡ t.before) × (x ≡ y)
same_place h n x y lawful s t e = by (two_places s.before x s.after t.before y t.after (sym s.is ∙ t.is))
  where
    by : Order s.before x t.before y → (s.before ≡ t.before) × (x ≡ y)
    by (first rest is) =
        let above = within-earlier h n s.before x y lawful t (record { after = rest; is = is }) in absurd (omega arith)
    by (equal is same) = (is, same)
    by (second rest is) =
        let above = within-earlier h n t.before y x lawful s (record { after = rest; is = is }) in absurd (omega arith)

module _ (h : Histories) (n : ℕ) (lawful : IsLawful h) where
  -- what was taken, or made, with a smaller clock than that of an event that was taken, or made
  pub took_took : (e f : Event) (s : TookAt h n e) (t : TookAt h n f) → s.clock < t.clock → StandsIn s.before (entry_with s.clock (Taken e)) t.before
  took_took e f s t lt = earlier h n (entry_with s.clock (Taken e)) (entry_with t.clock (Taken f)) lawful (took_stands h n e s) (took_stands h n f t) lt

  pub took_made : (e f : Event) (s : TookAt h n e) (m : MadeAt h n f) → s.clock < f.clock → StandsIn s.before (entry_with s.clock (Taken e)) m.before
  took_made e f s m lt = earlier h n (entry_with s.clock (Taken e)) (entry_with f.clock (Made f)) lawful (took_stands h n e s) (made_stands h n f m) lt

  pub made_took : (e f : Event) (m : MadeAt h n e) (t : TookAt h n f) → e.clock < t.clock → StandsIn m.before (entry_with e.clock (Made e)) t.before
  made_took e f m t lt = earlier h n (entry_with e.clock (Made e)) (entry_with t.clock (Taken f)) lawful (made_stands h n e m) (took_stands h n f t) lt

  pub made_made : (e f : Event) (m : MadeAt h n e) (k : MadeAt h n f) → e.clock < f.clock → StandsIn m.before (entry_with e.clock (Made e)) k.before
  made_made e f m k lt = earlier h n (entry_with e.clock (Made e)) (entry_with f.clock (Made f)) lawful (made_stands h n e m) (made_stands h n f k) lt
