-- The moves of a journal: a block more is one move more, and nothing was given or taken after the clock at which the last
-- block began.
use Rattle.std.proofs.Common.{◌≡◌, ℕ, ◌+◌, ◌<◌, ◌≤◌, Bool, true, false, max, List, [], ◌∷◌, ◌++◌, Option, Some, None, if◌then◌else◌, refl, ap, sym, ◌∙◌, subst, append-nil, arith}
use Rattle.std.specs.Prelude.{fold, filter_map}
use Rattle.std.specs.List.{AllByRecursion}
use Rattle.std.specs.Option.{option_to_list}
use Rattle.market_events.specs.declared.events.Entry.{Entry}
use Rattle.market_events.specs.declared.events.Event.{Event}
use Rattle.market_events.specs.declared.links.Link.{Link}
use Rattle.market_events.specs.Links.{same_link}
use Rattle.market_history.specs.declared.schedule.Step.{Step}
use Rattle.market_history.specs.declared.schedule.Step.TheVariants as step
use Rattle.market_history.specs.Blocks.{Out, Arrival, what_of, with_what, with_out, grow}
use Rattle.market_history.specs.Schedule.{Moved, step_in, moved_by}
use Rattle.market_history.specs.Sent.{got_on, got}
use Rattle.market_history.specs.Stamps.{clock_before, stamp_of}
use Rattle.market_history.proofs.GrowLaws.{entry_of, what_left, with_out-is, outs_after, grow-is, got-grow, clock_before-grow}
use Rattle.market_history.proofs.SentLaws.{filter_map-push}
use Rattle.market_laws.specs.Grown.{Grown, nothing, more}
use Rattle.market_laws.proofs.Growth.Members.{all-append, all-weaker}

abbrev pub move_of : ℕ → Entry → Option Moved
move_of n x = moved_by n x.clock (step_in x.what)

-- the moves of these entries of a node
abbrev pub moves_of : ℕ → List Entry → List Moved
moves_of n entries = filter_map (λ (x : Entry). move_of n x) entries

-- the step that brings what arrives
abbrev pub step_for : Arrival → Step
step_for (Arrival.Gives request) = step.Give request
step_for (Arrival.Takes event) = step.Offer event.link event.number

-- the clock at which the block of an arrival begins
abbrev pub begins : List Entry → Arrival → ℕ
begins j a = stamp_of (clock_before j) (what_of a)

abbrev pub move_for : ℕ → List Entry → Arrival → Moved
move_for n j a = record { clock = begins j a; node = n; step = step_for a }

no_move : (n : ℕ) (entries : List Entry) (out : Out) → move_of n (entry_of entries (what_left entries out)) ≡ None
no_move n entries (Out.Makes link b) = refl
no_move n entries (Out.Answers id reply) = refl

one_move : (n : ℕ) (entries : List Entry) (a : Arrival) → move_of n (entry_of entries (what_of a)) ≡ Some (move_for n entries a)
one_move n entries (Arrival.Gives request) = refl
one_move n entries (Arrival.Takes event) = refl

moves-outs : (n : ℕ) (entries : List Entry) (outs : List Out) → moves_of n (fold with_out entries outs) ≡ moves_of n entries
moves-outs n entries [] = refl
moves-outs n entries (out ∷ outs) =
    moves-outs n (with_out entries out) outs ∙ ap (moves_of n) (with_out-is entries out)
    ∙ filter_map-push (λ (x : Entry). move_of n x) entries (entry_of entries (what_left entries out))
    ∙ ap (λ o. moves_of n entries ++ option_to_list o) (no_move n entries out) ∙ append-nil (moves_of n entries)

-- a block more is a move more
pub moves-grow : (n : ℕ) (j : List Entry) (a : Arrival) → moves_of n (grow n j a) ≡ moves_of n j ++ move_for n j a ∷ []
moves-grow n j a =
    ap (moves_of n) (grow-is n j a) ∙ moves-outs n (with_what j (what_of a)) (outs_after n j a)
    ∙ filter_map-push (λ (x : Entry). move_of n x) j (entry_of j (what_of a)) ∙ ap (λ o. moves_of n j ++ option_to_list o) (one_move n j a)

-- the node was given and took nothing after this clock, and what it took was made before it
pub record Ended (n : ℕ) (entries : List Entry) (clock : ℕ) : Type 0 where
  pub moved : AllByRecursion (λ (z : Moved). (z.node ≡ n) × (z.clock ≤ clock)) (moves_of n entries)
  pub taken : (link : Link) → AllByRecursion (λ (e : Event). e.clock < clock) (got link entries)

pub ended-later : (n : ℕ) (entries : List Entry) (c d : ℕ) → c ≤ d → Ended n entries c → Ended n entries d
ended-later n entries c d le ended = record {
  moved = all-weaker (λ (z : Moved). (z.node ≡ n) × (z.clock ≤ c)) (λ (z : Moved). (z.node ≡ n) × (z.clock ≤ d)) (λ z at. let low = at.1 in (at.0, omega arith)) (moves_of n entries) ended.moved;
  taken = λ link. all-weaker (λ (e : Event). e.clock < c) (λ (e : Event). e.clock < d) (λ e at. omega arith) (got link entries) (ended.taken link);
}

-- a block begins after the clock before it
pub begins-after : (j : List Entry) (a : Arrival) → clock_before j < begins j a
begins-after j (Arrival.Gives request) = omega arith
begins-after j (Arrival.Takes event) = omega arith

arrived : (link : Link) (j : List Entry) (a : Arrival) → AllByRecursion (λ (e : Event). e.clock < begins j a) (option_to_list (got_on link (what_of a)))
arrived link j (Arrival.Gives request) = tt
arrived link j (Arrival.Takes event) = by (same_link event.link link)
  where
    by : (test : Bool) → AllByRecursion (λ (e : Event). e.clock < max (clock_before j) event.clock + 1) (option_to_list (if test then Some event else None))
    by true = (omega arith, tt)
    by false = tt

pub ended-grow : (n : ℕ) (j : List Entry) (a : Arrival) → Ended n j (clock_before j) → Ended n (grow n j a) (begins j a)
ended-grow n j a ended =
    let before = ended-later n j (clock_before j) (begins j a) (let lt = begins-after j a in omega arith) ended in
    record {
      moved = subst (AllByRecursion (λ (z : Moved). (z.node ≡ n) × (z.clock ≤ begins j a))) (sym (moves-grow n j a))
          (all-append (λ (z : Moved). (z.node ≡ n) × (z.clock ≤ begins j a)) (moves_of n j) (move_for n j a ∷ []) before.moved ((refl, omega arith), tt));
      taken = λ link. subst (AllByRecursion (λ (e : Event). e.clock < begins j a)) (sym (got-grow link n j a))
          (all-append (λ (e : Event). e.clock < begins j a) (got link j) (option_to_list (got_on link (what_of a))) (before.taken link) (arrived link j a));
    }

pub grown-ended : (n : ℕ) {j : List Entry} → Grown n j → Ended n j (clock_before j)
grown-ended n nothing = record { moved = tt; taken = λ link. tt }
grown-ended n (more j a grown ready) =
    ended-later n (grow n j a) (begins j a) (clock_before (grow n j a)) (omega (arith, clock_before-grow n j a)) (ended-grow n j a (grown-ended n grown))
