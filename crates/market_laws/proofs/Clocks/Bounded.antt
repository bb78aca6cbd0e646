-- Each clock is at most the number of all entries: an entry with a clock above 1 comes after one with the clock before it.
use Rattle.std.proofs.Common.{◌≡◌, ℕ, zero, suc, ◌+◌, ◌<◌, ◌≤◌, ◌==◌, Bool, true, false, nat_le, max, List, [], ◌∷◌, ◌++◌, length, length-append, if◌then◌else◌, eqb-true, refl, ap, sym, ◌∙◌, subst, append_assoc, arith}
use Rattle.std.specs.Prelude.{slice_index_or}
use Rattle.std.specs.List.{AllByRecursion}
use Rattle.std.proofs.lemmas.Bool.{eqb-false}
use Rattle.std.proofs.lemmas.Bool.Decides.{nat_tests}
use Rattle.std.proofs.lemmas.List.Sums.{sum_by-cons}
use Rattle.market_events.specs.declared.events.Entry.{Entry}
use Rattle.market_events.specs.declared.events.Event.{Event}
use Rattle.market_events.specs.declared.events.What.{What}
use Rattle.market_events.specs.declared.events.What.TheVariants.{Given, Taken, Made, Answered}
use Rattle.market_events.specs.Links.{sender_of}
use Rattle.market_events.specs.declared.nodes.TheConstants.{NODES}
use Rattle.market_history.specs.Histories.{Histories, journal_at}
use Rattle.market_history.specs.Lawful.{IsLawful}
use Rattle.market_history.specs.Stamps.{clock_before, stamp_of, HasClock}
use Rattle.market_history.proofs.StampLaws.{clock_before-push}
use Rattle.market_laws.specs.Entries.{total_entries}
use Rattle.market_laws.proofs.Growth.Members.{all-by}
use Rattle.market_laws.proofs.Growth.Takers.{StandsAt, stands-due, MadeThere, taken-made}

-- an entry with this clock
pub record Occurs (h : Histories) (clock : ℕ) : Type 0 where
  pub node : ℕ
  pub entry : Entry
  pub stands : StandsAt h node entry
  pub clock_is : entry.clock ≡ clock

-- the last of some entries
record IsLast (entries : List Entry) (clock : ℕ) : Type 0 where
  front : List Entry
  last : Entry
  is : entries ≡ front ++ last ∷ []
  clock_is : last.clock ≡ clock

last_of : (entries : List Entry) (clock : ℕ) → 1 ≤ clock → clock_before entries ≡ clock → IsLast entries clock
last_of [] clock low e = absurd (omega arith)
last_of (x ∷ xs) clock low e = from x xs (λ entries. clock_before entries ≡ clock → IsLast entries clock) made e
  where
    made : (front : List Entry) (last : Entry) → clock_before (front ++ last ∷ []) ≡ clock → IsLast (front ++ last ∷ []) clock
    made front last e = record { front = front; last = last; is = refl; clock_is = sym (clock_before-push front last) ∙ e }

    from : (y : Entry) (ys : List Entry) (P : List Entry → Type 0) → ((front : List Entry) (last : Entry) → P (front ++ last ∷ [])) → P (y ∷ ys)
    from y [] P each = each [] y
    from y (z ∷ zs) P each = from z zs (λ entries. P (y ∷ entries)) (λ front last. each (y ∷ front) last)

-- the entry before it
before_occurs : (h : Histories) (n : ℕ) (x : Entry) (clock : ℕ) (s : StandsAt h n x) → 1 ≤ clock → clock_before s.before ≡ clock → Occurs h clock
before_occurs h n x clock s low e =
    let at = last_of s.before clock low e in
    record {
      node = n;
      entry = at.last;
      stands = record { node = s.node; before = at.front; after = x ∷ s.after; is = s.is ∙ ap (λ l. l ++ x ∷ s.after) at.is ∙ append_assoc at.front (at.last ∷ []) (x ∷ s.after) };
      clock_is = at.clock_is;
    }

-- the entry that made the event
made_occurs : (h : Histories) (event : Event) (clock : ℕ) → IsLawful h → MadeThere h event → event.clock ≡ clock → Occurs h clock
made_occurs h event clock lawful made e =
    let due = stands-due h (sender_of event.link) made.entry lawful made.stands in
    let has : event.clock ≡ made.entry.clock = subst (HasClock made.entry.clock) made.what due.stamp.1 in
    record { node = sender_of event.link; entry = made.entry; stands = made.stands; clock_is = sym has ∙ e }

-- the clock before a clock
earlier : (h : Histories) (clock : ℕ) → IsLawful h → 1 ≤ clock → Occurs h (clock + 1) → Occurs h clock
earlier h clock lawful low o = by o.entry.what refl (sym (stands-due h o.node o.entry lawful o.stands).stamp.0 ∙ o.clock_is)
  where
    greater : (event : Event) → o.entry.what ≡ Taken event → (test : Bool) → nat_le event.clock (clock_before o.stands.before) ≡ test → max (clock_before o.stands.before) event.clock + 1 ≡ clock + 1 → Occurs h clock
    greater event is true le e = before_occurs h o.node o.entry clock o.stands low (grind (arith, nat_tests))
    greater event is false le e = made_occurs h event clock lawful (taken-made h o.node o.entry event lawful o.stands is) (grind (arith, nat_tests))

    by : (what : What) → o.entry.what ≡ what → stamp_of (clock_before o.stands.before) o.entry.what ≡ clock + 1 → Occurs h clock
    by (Given request) is stamp =
        let e : clock_before o.stands.before + 1 ≡ clock + 1 = ap (stamp_of (clock_before o.stands.before)) (sym is) ∙ stamp in
        before_occurs h o.node o.entry clock o.stands low (omega arith)
    by (Made event) is stamp =
        let e : clock_before o.stands.before + 1 ≡ clock + 1 = ap (stamp_of (clock_before o.stands.before)) (sym is) ∙ stamp in
        before_occurs h o.node o.entry clock o.stands low (omega arith)
    by (Answered id reply) is stamp =
        let e : clock_before o.stands.before + 1 ≡ clock + 1 = ap (stamp_of (clock_before o.stands.before)) (sym is) ∙ stamp in
        before_occurs h o.node o.entry clock o.stands low (omega arith)
    by (Taken event) is stamp = greater event is (nat_le event.clock (clock_before o.stands.before)) refl (ap (stamp_of (clock_before o.stands.before)) (sym is) ∙ stamp)

-- all clocks from 1 on to one that occurs
all_before : (h : Histories) (clock : ℕ) → IsLawful h → Occurs h clock → (i : ℕ) → 1 ≤ i → i ≤ clock → Occurs h i
all_before h zero lawful o i low high = absurd (omega arith)
all_before h (suc clock) lawful o i low high = by (i == suc clock) refl
    (λ below. all_before h clock lawful (earlier h clock lawful (omega arith) (subst (Occurs h) (omega arith) o)) i low below)
  where
    by : (test : Bool) → (i == suc clock) ≡ test → (i ≤ clock → Occurs h i) → Occurs h i
    by true is rest = subst (Occurs h) (sym (eqb-true i (suc clock) is)) o
    by false is rest = rest (let differs = eqb-false i (suc clock) is in grind (arith, nat_tests))

-- the entries of all journals, one after the other
all_of : Histories → List Entry
all_of [] = []
all_of (j ∷ js) = j ++ all_of js

length-all_of : (h : Histories) → length (all_of h) ≡ total_entries h
unfolding all_of
length-all_of [] = refl
length-all_of (j ∷ js) = length-append j (all_of js) ∙ ap (λ k. length j + k) (length-all_of js) ∙ sym (sum_by-cons (λ (j : List Entry). length j) j js)

record AmongAll (h : Histories) (x : Entry) : Type 0 where
  front : List Entry
  back : List Entry
  is : all_of h ≡ front ++ x ∷ back

among_all : (h : Histories) (n : ℕ) (before : List Entry) (x : Entry) (after : List Entry) → slice_index_or h n [] ≡ before ++ x ∷ after → AmongAll h x
unfolding all_of
among_all [] n [] x after e = let no : ⊥ = cc in absurd no
among_all [] n (y ∷ ys) x after e = let no : ⊥ = cc in absurd no
among_all (j ∷ js) zero before x after e =
    record { front = before; back = after ++ all_of js; is = ap (λ l. l ++ all_of js) e ∙ append_assoc before (x ∷ after) (all_of js) }
among_all (j ∷ js) (suc n) before x after e =
    let there = among_all js n before x after e in
    record { front = j ++ there.front; back = there.back; is = ap (λ l. j ++ l) there.is ∙ sym (append_assoc j there.front (x ∷ there.back)) }

occurs_among : (h : Histories) (clock : ℕ) → (o : Occurs h clock) → AmongAll h o.entry
unfolding journal_at
occurs_among h clock o = among_all h o.node o.stands.before o.entry o.stands.after o.stands.is

-- how many have a clock that is this one at most
low_count : ℕ → List Entry → ℕ
low_count k [] = 0
low_count k (x ∷ xs) = (if nat_le x.clock k then 1 else 0) + low_count k xs

one_low : (clock k : ℕ) → (if nat_le clock k then 1 else 0) ≤ (if nat_le clock (k + 1) then 1 else 0)
one_low clock k = by (nat_le clock k) (nat_le clock (k + 1)) refl refl
  where
    by : (a b : Bool) → nat_le clock k ≡ a → nat_le clock (k + 1) ≡ b → (if a then 1 else 0) ≤ (if b then 1 else 0)
    by true true p q = omega arith
    by true false p q = absurd (grind (arith, nat_tests))
    by false true p q = omega arith
    by false false p q = omega arith

low_count-more : (k : ℕ) (xs : List Entry) → low_count k xs ≤ low_count (k + 1) xs
unfolding low_count
low_count-more k [] = omega arith
low_count-more k (x ∷ xs) = omega (arith, one_low x.clock k, low_count-more k xs)

low_count-with : (k : ℕ) (front : List Entry) (x : Entry) (back : List Entry) → x.clock ≡ k + 1 → low_count k (front ++ x ∷ back) + 1 ≤ low_count (k + 1) (front ++ x ∷ back)
unfolding low_count
low_count-with k [] x back e =
    let no : nat_le x.clock k ≡ false = grind (arith, nat_tests) in
    let yes : nat_le x.clock (k + 1) ≡ true = grind (arith, nat_tests) in
    rw (no, yes) (omega (arith, low_count-more k back))
low_count-with k (y ∷ ys) x back e = omega (arith, one_low y.clock k, low_count-with k ys x back e)

low_count-length : (k : ℕ) (xs : List Entry) → low_count k xs ≤ length xs
unfolding low_count
low_count-length k [] = omega arith
low_count-length k (x ∷ xs) = by (nat_le x.clock k) (low_count-length k xs)
  where
    by : (test : Bool) → low_count k xs ≤ length xs → (if test then 1 else 0) + low_count k xs ≤ length (x ∷ xs)
    by true rest = omega arith
    by false rest = omega arith

-- where each from 1 on occurs, so many are low
low_count-all : (h : Histories) (clock : ℕ) → ((i : ℕ) → 1 ≤ i → i ≤ clock → Occurs h i) → clock ≤ low_count clock (all_of h)
low_count-all h zero each = omega arith
low_count-all h (suc clock) each =
    let o = each (suc clock) (omega arith) (omega arith) in
    let at = occurs_among h (suc clock) o in
    let one : low_count clock (all_of h) + 1 ≤ low_count (clock + 1) (all_of h) =
    subst (λ xs. low_count clock xs + 1 ≤ low_count (clock + 1) xs) (sym at.is) (low_count-with clock at.front o.entry at.back (o.clock_is ∙ omega arith)) in
    let before = low_count-all h clock (λ i low high. each i low (omega arith)) in
    let same : low_count (suc clock) (all_of h) ≡ low_count (clock + 1) (all_of h) = ap (λ k. low_count k (all_of h)) (omega arith) in
    omega (arith, one, before, same)

-- a clock that occurs
pub clock-few : (h : Histories) (clock : ℕ) → IsLawful h → Occurs h clock → clock ≤ total_entries h
clock-few h clock lawful o =
    omega (arith, low_count-all h clock (all_before h clock lawful o), low_count-length clock (all_of h), length-all_of h)

-- each clock of a node
pub clocks-few : (h : Histories) (n : ℕ) → IsLawful h → n < NODES → AllByRecursion (λ (x : Entry). x.clock ≤ total_entries h) (journal_at h n)
clocks-few h n lawful lt =
    all-by (λ (x : Entry). x.clock ≤ total_entries h) (journal_at h n) each
  where
    each : (before : List Entry) (x : Entry) (after : List Entry) → journal_at h n ≡ before ++ x ∷ after → x.clock ≤ total_entries h
    each before x after is = clock-few h x.clock lawful (record { node = n; entry = x; stands = record { node = lt; before = before; after = after; is = is }; clock_is = refl })
