-- The merged schedule of lawful histories leaves them, and each of its steps acts.
use Rattle.std.proofs.Common.{◌≡◌, ℕ, zero, suc, ◌<◌, ◌≤◌, List, [], ◌∷◌, ◌++◌, length, refl, ap, sym, ◌∙◌, subst, arith}
use Rattle.std.specs.Prelude.{slice_index_or}
use Rattle.std.specs.List.{AllByRecursion}
use Rattle.std.proofs.lemmas.List.Sums.{fold-append}
use Rattle.market_events.specs.declared.nodes.TheConstants.{NODES}
use Rattle.market_history.specs.declared.schedule.Step.{Step}
use Rattle.market_history.specs.Histories.{Histories, journal_at, no_histories}
use Rattle.market_history.specs.Lawful.{IsLawful}
use Rattle.market_history.specs.Schedule.{outcome_of, play_step, outcomes, play, merged}
use Rattle.market_laws.specs.Merged.{IsDone}
use Rattle.market_laws.proofs.Growth.Members.{all-append}
use Rattle.market_laws.proofs.Growth.Lawful.{grown_of_lawful}
use Rattle.market_laws.proofs.Merged.Back.{moves, OneLess, one_less}
use Rattle.market_laws.proofs.Merged.Top.{Top, Greatest, nowhere, there, greatest}

-- the schedule leaves the histories, and each of its steps acts
pub record LeftBy (h : Histories) (steps : List Step) : Type 0 where
  pub left : play no_histories steps ≡ h
  pub done : AllByRecursion IsDone (outcomes no_histories steps)

-- so many empty journals
empty_journals : ℕ → Histories
empty_journals zero = []
empty_journals (suc n) = [] ∷ empty_journals n

all_empty : (h : Histories) (n : ℕ) → length h ≡ n → ((k : ℕ) → k < n → slice_index_or h k [] ≡ []) → h ≡ empty_journals n
unfolding empty_journals
all_empty [] zero long each = refl
all_empty [] (suc n) long each = absurd (omega arith)
all_empty (j ∷ js) zero long each = absurd (omega arith)
all_empty (j ∷ js) (suc n) long each =
    let here : j ≡ [] = each 0 (omega arith) in
    let rest = all_empty js n (omega arith) (λ k lt. each (suc k) (omega arith)) in
    (λ i. here i ∷ rest i)

nothing_came : (h : Histories) → length h ≡ NODES → ((k : ℕ) → k < NODES → journal_at h k ≡ []) → h ≡ no_histories
unfolding empty_journals journal_at
nothing_came h long each = all_empty h NODES long each

left_by_nothing : LeftBy no_histories (merged no_histories)
unfolding merged journal_at
left_by_nothing = record { left = refl; done = tt }

outcomes-append : (h : Histories) (ss ts : List Step) → outcomes h (ss ++ ts) ≡ outcomes h ss ++ outcomes (play h ss) ts
outcomes-append h [] ts = refl
outcomes-append h (s ∷ ss) ts = ap (λ l. outcome_of h s ∷ l) (outcomes-append (play_step h s) ss ts)

-- one step more
left_by_more : (before h : Histories) (steps : List Step) (s : Step) → LeftBy before steps → play_step before s ≡ h → IsDone (outcome_of before s) → LeftBy h (steps ++ s ∷ [])
left_by_more before h steps s earlier leads acts = record {
  left = fold-append play_step no_histories steps (s ∷ []) ∙ ap (λ k. play_step k s) earlier.left ∙ leads;
  done = subst (AllByRecursion IsDone) (sym (outcomes-append no_histories steps (s ∷ [])))
      (all-append IsDone (outcomes no_histories steps) (outcome_of (play no_histories steps) s ∷ []) earlier.done (subst (λ k. IsDone (outcome_of k s)) (sym earlier.left) acts, tt));
}

-- the block that began last, taken back
last_back : (h : Histories) → IsLawful h → Top h NODES → OneLess h
last_back h lawful t = one_less h lawful t.node t.before t.arrival t.below t.grown t.ready t.is t.each

last_of : (h : Histories) → IsLawful h → Greatest h NODES
last_of h lawful = greatest h (λ k lt. grown_of_lawful k (journal_at h k) (lawful.lawful k lt)) NODES (omega arith)

left_by : (size : ℕ) (h : Histories) → IsLawful h → length (moves h) ≤ size → Greatest h NODES → LeftBy h (merged h)
left_by size h lawful few (nowhere each) =
    subst (λ k. LeftBy k (merged k)) (sym (nothing_came h lawful.each each)) left_by_nothing
left_by zero h lawful few (there t) = let fewer = (last_back h lawful t).fewer in absurd (omega arith)
left_by (suc size) h lawful few (there t) =
    let less = last_back h lawful t in
    let fewer = less.fewer in
    subst (LeftBy h) (sym less.merged_is)
    (left_by_more less.earlier h (merged less.earlier) less.last
    (left_by size less.earlier less.lawful (omega arith) (last_of less.earlier less.lawful)) less.leads less.done)

-- the merged schedule of lawful histories
pub left_by_merged : (h : Histories) → IsLawful h → LeftBy h (merged h)
left_by_merged h lawful = left_by (length (moves h)) h lawful (omega arith) (last_of h lawful)
