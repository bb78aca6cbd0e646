-- By clocks: where an event fits once all with smaller clocks do, all fit (all-fit, each-fits).
use Rattle.std.proofs.Common.{◌≡◌, ℕ, zero, suc, ◌+◌, ◌<◌, ◌==◌, Bool, true, false, List, [], ◌∷◌, ◌++◌, eqb-true, refl, ap, sym, subst, append-nil, append_assoc, arith}
use Rattle.std.proofs.lemmas.Bool.{eqb-false}
use Rattle.std.proofs.lemmas.Bool.Decides.{nat_tests}
use Rattle.market_events.specs.declared.events.Entry.{Entry}
use Rattle.market_events.specs.declared.events.Event.{Event}
use Rattle.market_events.specs.declared.events.What.{What}
use Rattle.market_events.specs.declared.events.What.TheVariants.{Given, Taken, Made, Answered}
use Rattle.market_history.specs.Blocks.{services}
use Rattle.market_history.specs.Histories.{Histories, journal_at}
use Rattle.market_history.specs.Lawful.{IsLawful}
use Rattle.market_history.specs.Stamps.{EachAfter}
use Rattle.market_laws.specs.Cuts.{TookAt, FitsAt, FitsAfter, FitsBelow}
use Rattle.market_laws.proofs.Origins.Places.{took_of}
use Rattle.market_laws.proofs.Growth.Takers.{StandsAt}

-- what holds of each element after those before it, by its place
pub each_after-by : {A : Type 0} (P : List A → A → Type 0) (before xs : List A) → ((front : List A) (x : A) (after : List A) → xs ≡ front ++ x ∷ after → P (before ++ front) x) → EachAfter P before xs
each_after-by P before [] each = tt
each_after-by P before (x ∷ xs) each = (
  subst (λ l. P l x) (append-nil before) (each [] x xs refl),
  each_after-by P (before ++ x ∷ []) xs (λ front y after is. subst (λ l. P l y) (sym (append_assoc before (x ∷ []) front)) (each (x ∷ front) y after (ap (λ l. x ∷ l) is))),
)

module _ (h : Histories) (lawful : IsLawful h)
    (step : (n : ℕ) → n < services → (event : Event) → (t : TookAt h n event) → FitsBelow h t.clock → FitsAt n t.before event) where
  -- below each clock
  pub all-below-fit : (top : ℕ) → FitsBelow h top
  all-below-fit zero = λ n lt event t less. absurd (omega arith)
  all-below-fit (suc top) = λ n lt event t less. by n lt event t (t.clock == top) refl less (all-below-fit top)
    where
      by : (n : ℕ) → n < services → (event : Event) → (t : TookAt h n event) → (test : Bool) → (t.clock == top) ≡ test → t.clock < suc top → FitsBelow h top → FitsAt n t.before event
      by n lt event t true is less below = step n lt event t (subst (FitsBelow h) (sym (eqb-true t.clock top is)) below)
      by n lt event t false is less below = below n lt event t (let differs = eqb-false t.clock top is in grind (arith, nat_tests))

  -- each event that a service took fits
  pub all-fit : (n : ℕ) → n < services → (event : Event) → (t : TookAt h n event) → FitsAt n t.before event
  all-fit n lt event t = all-below-fit (t.clock + 1) n lt event t (omega arith)

  -- entry by entry of a journal
  pub each-fits : (n : ℕ) → n < services → EachAfter (λ before (x : Entry). FitsAfter n before x.what) [] (journal_at h n)
  each-fits n lt = each_after-by (λ before (x : Entry). FitsAfter n before x.what) [] (journal_at h n) (λ before x after is. by before x after is x.what refl)
    where
      by : (before : List Entry) (x : Entry) (after : List Entry) → journal_at h n ≡ before ++ x ∷ after → (what : What) → x.what ≡ what → FitsAfter n before what
      by before x after is (Given request) same = tt
      by before x after is (Taken event) same =
          let stands : StandsAt h n x = record { node = omega arith; before = before; after = after; is = is } in
          all-fit n lt event (took_of h n x event lawful stands same)
      by before x after is (Made event) same = tt
      by before x after is (Answered id reply) same = tt
