-- Each criterion is decided at each place, so there is a first difference where one does not hold.
use Rattle.std.proofs.Common.{◌≡◌, ℕ, zero, suc, ◌+◌, ◌<◌, ◌≤◌, Bool, true, false, ◌==◌, ◌⊎◌, inl, inr, List, [], ◌∷◌, ◌++◌, Option, Some, if◌then◌else◌, length, refl, ap, sym, ◌∙◌, subst, append-nil, append_assoc, arith}
use Rattle.std.proofs.lemmas.Bool.Decides.{nat_tests}
use Rattle.std.specs.Coded.{Coded, codes, coded_ℕ, coded_list}
use Rattle.market_events.specs.declared.events.Entry.{Entry}
use Rattle.market_events.specs.declared.events.Event.{Event}
use Rattle.market_events.specs.declared.events.Offer.{Offer}
use Rattle.market_events.specs.declared.events.Offer.TheVariants as offer
use Rattle.market_events.specs.declared.events.What.{What}
use Rattle.market_events.specs.declared.events.What.TheVariants.{Given, Taken, Made, Answered}
use Rattle.market_events.specs.declared.nodes.TheConstants.{NODES}
use Rattle.market_events.specs.Offers.{offer_of}
use Rattle.market_history.specs.declared.schedule.Give.{Give}
use Rattle.market_history.specs.declared.schedule.Give.TheVariants as give
use Rattle.market_history.specs.Blocks.{Part, part_of, services}
use Rattle.market_history.specs.Causality.{RestsOn, events_taken, past_of}
use Rattle.market_history.specs.Histories.{Histories, journal_at}
use Rattle.market_history.specs.Once.{give_of}
use Rattle.market_history.specs.Schedule.{event_at}
use Rattle.market_history.specs.Sent.{sent, got}
use Rattle.market_history.specs.Stamps.{EachAfter, HasClock, clock_before, stamp_of}
use Rattle.market_history.proofs.StampLaws.{EachAfter-push, EachAfter-at}
use Rattle.market_auditor.specs.declared.verdicts.Criterion.{Criterion}
use Rattle.market_auditor.specs.declared.verdicts.Criterion.TheVariants.{C0, C1, C2, C3, C4, C5, C6}
use Rattle.market_auditor.specs.Criteria.{HasNextNumber, IsAsMade, CanBeTaken, owed_after, MayBegin, IsNextOf, Asks, MayEnd, HoldsAt, Holds, AllHold, rank_of, HoldBefore, Differs, IsFirstAt, IsFirst}
use Rattle.market_auditor.proofs.Deciding.{Decided, numbers_decided, below_decided, same_decided, both_decided, where_decided}

event_coded : Coded Event
event_coded = hlevel codes

events_coded : Coded (Option Event)
events_coded = hlevel codes

part_coded : Coded Part
part_coded = hlevel codes

part_list_coded : Coded (List Part)
part_list_coded = hlevel codes

offer_coded : Coded Offer
offer_coded = hlevel codes

give_coded : Coded Give
give_coded = hlevel codes

-- numbers
number_decided : (before : List Entry) (what : What) → Decided (HasNextNumber before what)
number_decided before (Given request) = inl tt
number_decided before (Taken event) = numbers_decided event.number (length (got event.link before) + 1)
number_decided before (Made event) = numbers_decided event.number (length (sent event.link before) + 1)
number_decided before (Answered id reply) = inl tt

-- what was made
made_decided : (h : Histories) (what : What) → Decided (IsAsMade h what)
made_decided h (Given request) = inl tt
made_decided h (Taken event) = same_decided events_coded (event_at h event.link event.number) (Some event)
made_decided h (Made event) = inl tt
made_decided h (Answered id reply) = inl tt

-- clocks and pasts
clock_decided : (clock : ℕ) (what : What) → Decided (HasClock clock what)
clock_decided clock (Given request) = inl tt
clock_decided clock (Taken event) = inl tt
clock_decided clock (Made event) = numbers_decided event.clock clock
clock_decided clock (Answered id reply) = inl tt

past_decided : (before : List Entry) (what : What) → Decided (RestsOn before what)
past_decided before (Given request) = inl tt
past_decided before (Taken event) = inl tt
past_decided before (Made event) = same_decided (coded_list coded_ℕ) event.past (past_of before)
past_decided before (Answered id reply) = inl tt

-- readiness
taken_decided : (n : ℕ) (before : List Entry) (what : What) → Decided (CanBeTaken n before what)
taken_decided n before (Given request) = inl tt
taken_decided n before (Taken event) = same_decided offer_coded (offer_of n (events_taken before) event) offer.Take
taken_decided n before (Made event) = inl tt
taken_decided n before (Answered id reply) = inl tt

-- blocks
begin_decided : (before : List Entry) (what : What) → Decided (MayBegin before what)
begin_decided before (Given request) = same_decided give_coded (give_of before request) give.Asked
begin_decided before (Taken event) = inl tt
begin_decided before (Made event) = inr (λ never. never)
begin_decided before (Answered id reply) = inr (λ never. never)

next_decided : (owed : List Part) (before : List Entry) (what : What) → Decided (IsNextOf owed before what)
next_decided [] before what = begin_decided before what
next_decided (part ∷ more) before what = same_decided part_coded (part_of what) part

lane_decided : (n : ℕ) → Decided (services ≤ n)
lane_decided n = by (below_decided n services)
  where
    by : Decided (n < services) → Decided (services ≤ n)
    by (inl low) = inr (λ high. let wrong : ⊥ = omega arith in wrong)
    by (inr never) = let high : services ≤ n = omega arith in inl high

pub asks_decided : (criterion : Criterion) (h : Histories) (n : ℕ) (before : List Entry) (x : Entry) → Decided (Asks criterion h n before x)
asks_decided C0 h n before x = inl tt
asks_decided C1 h n before x = number_decided before x.what
asks_decided C2 h n before x = made_decided h x.what
asks_decided C3 h n before x =
    both_decided (both_decided (numbers_decided x.clock (stamp_of (clock_before before) x.what)) (clock_decided x.clock x.what)) (past_decided before x.what)
asks_decided C4 h n before x = taken_decided n before x.what
asks_decided C5 h n before x = where_decided (below_decided n services) (next_decided (owed_after n before) before x.what)
asks_decided C6 h n before x = where_decided (lane_decided n) (next_decided (owed_after n before) before x.what)

pub end_decided : (criterion : Criterion) (n : ℕ) (journal : List Entry) → Decided (MayEnd criterion n journal)
end_decided C0 n journal = inl tt
end_decided C1 n journal = inl tt
end_decided C2 n journal = inl tt
end_decided C3 n journal = inl tt
end_decided C4 n journal = inl tt
end_decided C5 n journal = where_decided (below_decided n services) (same_decided part_list_coded (owed_after n journal) [])
end_decided C6 n journal = where_decided (lane_decided n) (same_decided part_list_coded (owed_after n journal) [])

-- a criterion holds of a journal, or there is a first place at which it does not
abbrev pub FirstIn : Criterion → Histories → ℕ → Type 0
FirstIn criterion h n = (place : ℕ) × IsFirstAt criterion h n place

module _ (criterion : Criterion) (h : Histories) (n : ℕ) where
  from : (before rest : List Entry) → journal_at h n ≡ before ++ rest → EachAfter (Asks criterion h n) [] before → HoldsAt criterion h n ⊎ FirstIn criterion h n
  from before [] is each = by (end_decided criterion n before)
    where
      all : journal_at h n ≡ before
      all = is ∙ append-nil before

      by : Decided (MayEnd criterion n before) → HoldsAt criterion h n ⊎ FirstIn criterion h n
      by (inl ends) = inl (record { each = subst (EachAfter (Asks criterion h n) []) (sym all) each; ends = subst (MayEnd criterion n) (sym all) ends })
      by (inr never) = inr (length before, record { before = before; rest = []; is = is; there = refl; holds = each; differs = never })
  from before (x ∷ xs) is each = by (asks_decided criterion h n before x) (from (before ++ x ∷ []) xs (is ∙ sym (append_assoc before (x ∷ []) xs)))
    where
      by : Decided (Asks criterion h n before x) → (EachAfter (Asks criterion h n) [] (before ++ x ∷ []) → HoldsAt criterion h n ⊎ FirstIn criterion h n) → HoldsAt criterion h n ⊎ FirstIn criterion h n
      by (inl asked) rest = rest (EachAfter-push (Asks criterion h n) [] before x each asked)
      by (inr never) rest = inr (length before, record { before = before; rest = x ∷ xs; is = is; there = refl; holds = each; differs = never })

  first_in : HoldsAt criterion h n ⊎ FirstIn criterion h n
  first_in = from [] (journal_at h n) refl tt

  -- not both
  pub first_differs : (place : ℕ) → IsFirstAt criterion h n place → HoldsAt criterion h n → ⊥
  first_differs place first holds = by first.rest first.is first.differs
    where
      by : (rest : List Entry) → journal_at h n ≡ first.before ++ rest → Differs criterion h n first.before rest → ⊥
      by [] is never = never (subst (MayEnd criterion n) (is ∙ append-nil first.before) holds.ends)
      by (x ∷ xs) is never = never (EachAfter-at (Asks criterion h n) [] first.before x xs (subst (EachAfter (Asks criterion h n) []) is holds.each))

-- the first node whose journal has a first place
pub record FirstNode (criterion : Criterion) (h : Histories) : Type 0 where
  pub n : ℕ
  pub place : ℕ
  pub node : n < NODES
  pub nodes : (m : ℕ) → m < n → HoldsAt criterion h m
  pub first : IsFirstAt criterion h n place

-- what holds of the numbers below one, and of that one
pub one_more : (P : ℕ → Type 0) (k : ℕ) → ((m : ℕ) → m < k → P m) → P k → (m : ℕ) → m < k + 1 → P m
one_more P k below here m lt = by (m == k) refl
  where
    by : (test : Bool) → (m == k) ≡ test → P m
    by true is = let e : k ≡ m = grind (arith, nat_tests) in subst P e here
    by false is = let less : m < k = grind (arith, nat_tests) in below m less

search_nodes : (criterion : Criterion) (h : Histories) (k : ℕ) → k ≤ NODES → ((m : ℕ) → m < k → HoldsAt criterion h m) ⊎ FirstNode criterion h
search_nodes criterion h zero le = inl (λ m lt. absurd (omega arith))
search_nodes criterion h (suc k) le = by (search_nodes criterion h k (omega arith)) (first_in criterion h k)
  where
    by : ((m : ℕ) → m < k → HoldsAt criterion h m) ⊎ FirstNode criterion h → HoldsAt criterion h k ⊎ FirstIn criterion h k → ((m : ℕ) → m < suc k → HoldsAt criterion h m) ⊎ FirstNode criterion h
    by (inr found) here = inr found
    by (inl below) (inl here) = inl (λ m lt. one_more (HoldsAt criterion h) k below here m (omega arith))
    by (inl below) (inr first) = inr (record { n = k; place = first.0; node = omega arith; nodes = below; first = first.1 })

-- the criterion with a place among the criteria
criterion_at : ℕ → Criterion
criterion_at k = if k == 0 then C0 else if k == 1 then C1 else if k == 2 then C2 else if k == 3 then C3 else if k == 4 then C4 else if k == 5 then C5 else C6

at_rank : (criterion : Criterion) → criterion_at (rank_of criterion) ≡ criterion
unfolding criterion_at
at_rank C0 = refl
at_rank C1 = refl
at_rank C2 = refl
at_rank C3 = refl
at_rank C4 = refl
at_rank C5 = refl
at_rank C6 = refl

rank-same : (a b : Criterion) → rank_of a ≡ rank_of b → a ≡ b
rank-same a b e = sym (at_rank a) ∙ ap criterion_at e ∙ at_rank b

pub hold_more : (h : Histories) (criterion : Criterion) → HoldBefore h (rank_of criterion) → Holds criterion h → HoldBefore h (rank_of criterion + 1)
hold_more h criterion before here other lt = by (rank_of other == rank_of criterion) refl
  where
    by : (test : Bool) → (rank_of other == rank_of criterion) ≡ test → Holds other h
    by true is =
        let e : rank_of criterion ≡ rank_of other = grind (arith, nat_tests) in
        subst (λ c. Holds c h) (rank-same criterion other e) here
    by false is = let less : rank_of other < rank_of criterion = grind (arith, nat_tests) in before other less

pub hold_none : (h : Histories) → HoldBefore h 0
hold_none h other lt = absurd (omega arith)

rank_small : (criterion : Criterion) → rank_of criterion < 7
rank_small C0 = omega arith
rank_small C1 = omega arith
rank_small C2 = omega arith
rank_small C3 = omega arith
rank_small C4 = omega arith
rank_small C5 = omega arith
rank_small C6 = omega arith

pub hold_all : (h : Histories) → HoldBefore h 7 → AllHold h
hold_all h before criterion = before criterion (rank_small criterion)

abbrev pub SomeFirst : Histories → Type 0
SomeFirst h = (criterion : Criterion) × (n : ℕ) × (place : ℕ) × IsFirst h criterion n place

module _ (h : Histories) where
  look : (criterion : Criterion) → HoldBefore h (rank_of criterion) → HoldBefore h (rank_of criterion + 1) ⊎ SomeFirst h
  look criterion before = by (search_nodes criterion h NODES (omega arith))
    where
      by : ((m : ℕ) → m < NODES → HoldsAt criterion h m) ⊎ FirstNode criterion h → HoldBefore h (rank_of criterion + 1) ⊎ SomeFirst h
      by (inl holds) = inl (hold_more h criterion before holds)
      by (inr f) = inr (criterion, f.n, f.place, record { earlier = before; node = f.node; nodes = f.nodes; first = f.first })

  and_then : {A B : Type 0} → A ⊎ SomeFirst h → (A → B ⊎ SomeFirst h) → B ⊎ SomeFirst h
  and_then (inl a) next = next a
  and_then (inr found) next = inr found

  all_or_first : HoldBefore h 7 ⊎ SomeFirst h
  all_or_first =
      and_then (look C0 (hold_none h)) (λ a. and_then (look C1 a) (λ b. and_then (look C2 b) (λ c. and_then (look C3 c) (λ d. and_then (look C4 d) (λ e. and_then (look C5 e) (λ f. look C6 f))))))

  pub first_exists : (AllHold h → ⊥) → SomeFirst h
  first_exists never = by all_or_first
    where
      by : HoldBefore h 7 ⊎ SomeFirst h → SomeFirst h
      by (inl all) = absurd (never (hold_all h all))
      by (inr found) = found

  pub first_is_no : (criterion : Criterion) (n place : ℕ) → IsFirst h criterion n place → AllHold h → ⊥
  first_is_no criterion n place first all = first_differs criterion h n place first.first (all criterion n first.node)
