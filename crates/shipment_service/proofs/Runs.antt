-- What a run leaves of the packages: they stand by number, those of a checkout together, and they are few.
use Rattle.std.proofs.Common.{◌≡◌, ℕ, ◌+◌, ◌*◌, ◌<◌, ◌≤◌, Bool, true, false, cond, ◌||◌, List, [], ◌∷◌, ◌++◌, length, map, refl, ap, ap₂, sym, ◌∙◌, subst, length-append, ◌==◌, arith}
use Rattle.std.specs.List.{list_any, enumerate_from, AllByRecursion}
use Rattle.std.specs.List.Sorted.{IsStrictlySortedBy}
use Rattle.std.specs.Map.{keys_of}
use Rattle.std.specs.Ordering.{nat_cmp}
use Rattle.std.specs.declared.cmp.Ordering.TheVariants.{Less}
use Rattle.std.proofs.lemmas.Bool.Decides.{nat_tests}
use Rattle.std.proofs.lemmas.List.{length-map}
use Rattle.std.proofs.lemmas.List.Folds.{list_any-append}
use Rattle.market_amounts.specs.declared.keys.RequestId.{RequestId}
use Rattle.market_events.specs.declared.bodies.Body.{Body}
use Rattle.market_events.specs.declared.bodies.Body.TheVariants as body
use Rattle.market_events.specs.declared.bodies.Item.{Item}
use Rattle.market_events.specs.declared.bodies.PricedLine.{PricedLine}
use Rattle.market_events.specs.Formed.{body_formed, checkout_formed}
use Rattle.market_events.specs.Orders.{is_taken}
use Rattle.market_events.specs.Requests.{same_id}
use Rattle.market_events.specs.declared.roles.Role.{Role}
use Rattle.market_events.specs.Services.{Follows, IsRunOf, shipment_fits}
use Rattle.market_events.specs.Shipments.{packages_in, packages, is_open}
use Rattle.market_events.specs.Steps.{Step}
use Rattle.market_events.specs.Stocks.{confirms}
use Rattle.market_events.specs.WellFormed.{most_lines, total_of}
use Rattle.market_events.proofs.Runs.Bounds.{lines_formed-most}
use Rattle.market_events.proofs.Values.Lists.{and_both, or_parts, not_true}
use Rattle.market_events.proofs.Runs.Orders.{is_item_for}
use Rattle.market_events.proofs.Values.Same.{same_id-self}
use Rattle.market_events.proofs.Steps.Shipments.{packages-push, packages-same}
use Rattle.market_events.proofs.Runs.Shipments.{ShipmentRun, ShipmentRun-of, ShipmentRun-keeps}
use Rattle.market_events.proofs.Steps.Taken.{fits-parts, run_has}
use Rattle.market_events.proofs.Runs.Stock.{checkout_formed-lines}
use Rattle.shipment_service.specs.Deliveries.{past, IsGrouped, IsLined}
use Rattle.shipment_service.specs.Holds.{waiting_by}
use Rattle.shipment_service.specs.Tables.{is_with, IsRising, item_packed}
use Rattle.shipment_service.proofs.Grouping.{grouped-filter}
use Rattle.shipment_service.proofs.Numbers.{Above, rising_cons, rising-filter}

-- numbers that count up rise
enumerate-above : {A : Type 0} (n from : ℕ) (xs : List A) → n < from → Above n (enumerate_from from xs)
enumerate-above n from [] low = tt
enumerate-above n from (x ∷ xs) low = (less n from low, enumerate-above n (from + 1) xs (omega arith))
  where
    less : (n m : ℕ) → n < m → nat_cmp n m ≡ Less
    less n m low = grind (arith, nat_tests)

sorted_nil : IsStrictlySortedBy nat_cmp []
unfolding IsStrictlySortedBy
sorted_nil = tt

enumerate-rise : {A : Type 0} (from : ℕ) (xs : List A) → IsStrictlySortedBy nat_cmp (keys_of (enumerate_from from xs))
enumerate-rise from [] = sorted_nil
enumerate-rise from (x ∷ xs) = rising_cons (from, x) (enumerate_from (from + 1) xs) (enumerate-above from (from + 1) xs (omega arith)) (enumerate-rise (from + 1) xs)

pub enumerate-append : {A : Type 0} (from : ℕ) (xs ys : List A) → enumerate_from from (xs ++ ys) ≡ enumerate_from from xs ++ enumerate_from (from + length xs) ys
enumerate-append from [] ys = let e : from ≡ from + 0 = omega arith in ap (λ n. enumerate_from n ys) e
enumerate-append from (x ∷ xs) ys =
    let e : from + 1 + length xs ≡ from + length (x ∷ xs) = omega arith in
    ap (λ zs. (from, x) ∷ zs) (enumerate-append (from + 1) xs ys ∙ ap (λ n. enumerate_from (from + 1) xs ++ enumerate_from n ys) e)

-- the open packages of any steps rise
pub waiting-rise : (steps : List Step) → IsRising (waiting_by steps)
waiting-rise steps = rising-filter (λ (p : ℕ × Item). is_open steps p.1) (enumerate_from 1 (packages steps)) (enumerate-rise 1 (packages steps))

-- packages behind which none passes
past-any : (test : ℕ × Item → Bool) (xs : List (ℕ × Item)) → list_any test xs ≡ false → list_any test (past test xs) ≡ false
past-any test [] none = refl
past-any test (x ∷ xs) none = let parts = or_parts (test x) (list_any test xs) none in rw (parts.0, parts.0, parts.1)

past-append : (test : ℕ × Item → Bool) (ps qs : List (ℕ × Item)) → list_any test (past test ps) ≡ false → list_any test qs ≡ false → list_any test (past test (ps ++ qs)) ≡ false
past-append test [] qs none others = past-any test qs others
past-append test (p ∷ ps) qs none others = by (test p) refl none (λ none. past-append test ps qs none others)
  where
    by : (b : Bool) → test p ≡ b → list_any test (cond b (past test ps) (p ∷ ps)) ≡ false → (list_any test (past test ps) ≡ false → list_any test (past test (ps ++ qs)) ≡ false)
        → list_any test (cond b (past test (ps ++ qs)) (p ∷ ps ++ qs)) ≡ false
    by true is none rest = rest none
    by false is none rest =
        let parts = or_parts (test p) (list_any test ps) none in
        ap (λ b. b || list_any test (ps ++ qs)) is ∙ list_any-append test ps qs ∙ ap₂ (λ a b. a || b) parts.1 others

grouped-append : (ps qs : List (ℕ × Item)) → IsGrouped ps → IsGrouped qs → AllByRecursion (λ p. list_any (is_with p) qs ≡ false) ps → IsGrouped (ps ++ qs)
grouped-append [] qs grouped also apart = also
grouped-append (p ∷ ps) qs grouped also apart = (past-append (is_with p) ps qs grouped.0 apart.0, grouped-append ps qs grouped.1 also apart.1)

-- the packages of one payment, with their numbers
module _ (checkout : RequestId) (customer : ℕ) where
  abbrev pub paid_from : ℕ → List PricedLine → List (ℕ × Item)
  paid_from from lines = enumerate_from from (map (item_packed checkout customer) lines)

  all-with : (p : ℕ × Item) → p.1.checkout ≡ checkout → (from : ℕ) (lines : List PricedLine) → past (is_with p) (paid_from from lines) ≡ []
  all-with p is from [] = refl
  all-with p is from (line ∷ lines) =
      let same : same_id p.1.checkout checkout ≡ true = ap (λ id. same_id id checkout) is ∙ same_id-self checkout in
      ap (λ b. cond b (past (is_with p) (paid_from (from + 1) lines)) (paid_from from (line ∷ lines))) same ∙ all-with p is (from + 1) lines

  paid-grouped : (from : ℕ) (lines : List PricedLine) → IsGrouped (paid_from from lines)
  paid-grouped from [] = tt
  paid-grouped from (line ∷ lines) =
      (ap (list_any (is_with (from, item_packed checkout customer line))) (all-with (from, item_packed checkout customer line) refl (from + 1) lines), paid-grouped (from + 1) lines)

  none-with : (p : ℕ × Item) → same_id p.1.checkout checkout ≡ false → (from : ℕ) (lines : List PricedLine) → list_any (is_with p) (paid_from from lines) ≡ false
  none-with p other from [] = refl
  none-with p other from (line ∷ lines) = rw other (none-with p other (from + 1) lines)

  others-apart : (from : ℕ) (items : List Item) → list_any (is_item_for checkout) items ≡ false → (at : ℕ) (lines : List PricedLine)
      → AllByRecursion (λ p. list_any (is_with p) (paid_from at lines) ≡ false) (enumerate_from from items)
  others-apart from [] none at lines = tt
  others-apart from (i ∷ items) none at lines =
      let parts = or_parts (same_id i.checkout checkout) (list_any (is_item_for checkout) items) none in
      (none-with (from, i) parts.0 at lines, others-apart (from + 1) items parts.1 at lines)

-- what holds of the packages after a run
record PackedRun (steps : List Step) : Type 0 where
  run : ShipmentRun steps
  grouped : IsGrouped (enumerate_from 1 (packages steps))
  few : length (packages steps) ≤ most_lines * length steps

same_packages : (steps : List Step) (s : Step) → packages_in s.body ≡ [] → PackedRun steps → IsGrouped (enumerate_from 1 (packages (steps ++ s ∷ []))) × (length (packages (steps ++ s ∷ [])) ≤ most_lines * length (steps ++ s ∷ []))
same_packages steps s none kept =
    let same : packages (steps ++ s ∷ []) ≡ packages steps = packages-same steps s none in
    (subst (λ ps. IsGrouped (enumerate_from 1 ps)) (sym same) kept.grouped, omega (arith, ap length same, kept.few, length-append steps (s ∷ [])))

by_body : (steps : List Step) (s : Step) (b : Body) → s.body ≡ b → shipment_fits steps b ≡ true → body_formed b ≡ true → PackedRun steps
    → IsGrouped (enumerate_from 1 (packages (steps ++ s ∷ []))) × (length (packages (steps ++ s ∷ [])) ≤ most_lines * length (steps ++ s ∷ []))
by_body steps s (body.Confirmed checkout customer lines total) is fit formed kept = (
  subst IsGrouped (sym (ap (enumerate_from 1) now ∙ enumerate-append 1 (packages steps) (map (item_packed checkout customer) lines)))
      (grouped-append (enumerate_from 1 (packages steps)) (paid_from checkout customer (1 + length (packages steps)) lines) kept.grouped (paid-grouped checkout customer (1 + length (packages steps)) lines)
      (others-apart checkout customer 1 (packages steps) (kept.run.unpacked checkout (not_true (is_taken confirms steps checkout) fit)) (1 + length (packages steps)) lines)),
  omega (
    arith,
    ap length now,
    length-append (packages steps) (map (item_packed checkout customer) lines),
    length-map lines (item_packed checkout customer),
    lines_formed-most lines (checkout_formed-lines checkout customer lines (and_both (checkout_formed checkout customer lines) (total == total_of lines) formed).0),
    kept.few,
    length-append steps (s ∷ []),
  ),
)
  where
    now : packages (steps ++ s ∷ []) ≡ packages steps ++ map (item_packed checkout customer) lines
    now = packages-push steps s ∙ ap (λ b. packages steps ++ packages_in b) is
by_body steps s (body.Asked request) is fit formed kept = same_packages steps s (ap packages_in is) kept
by_body steps s other is fit formed kept = cc

packed_keeps : (steps : List Step) (s : Step) → Follows Role.Shipment steps s → PackedRun steps → PackedRun (steps ++ s ∷ [])
packed_keeps steps s follows kept =
    let parts = fits-parts Role.Shipment steps s.from s.body follows.fit in
    let next = by_body steps s s.body refl parts.due parts.formed kept in
    record { run = ShipmentRun-keeps steps s follows kept.run; grouped = next.0; few = next.1 }

packed_run : (steps : List Step) → IsRunOf Role.Shipment steps → PackedRun steps
packed_run steps run = run_has Role.Shipment PackedRun packed_keeps (record { run = ShipmentRun-of [] tt; grouped = tt; few = omega arith }) steps run

-- the open packages of a run are lined up
pub waiting-lined : (steps : List Step) → IsRunOf Role.Shipment steps → IsLined (waiting_by steps)
waiting-lined steps run = record {
  rise = waiting-rise steps;
  grouped = grouped-filter (λ (p : ℕ × Item). is_open steps p.1) (enumerate_from 1 (packages steps)) (packed_run steps run).grouped;
}

-- a run has no more packages than so many for each step
pub packages-few : (steps : List Step) → IsRunOf Role.Shipment steps → length (packages steps) ≤ most_lines * length steps
packages-few steps run = (packed_run steps run).few
