-- What readiness and the counts taken say of each service link.
use Rattle.std.proofs.Common.{◌≡◌, ℕ, zero, suc, ◌+◌, ◌<◌, ◌≤◌, Bool, true, false, not, ◌==◌, ◌||◌, nat_le, List, [], ◌∷◌, ◌++◌, length, slice_index, if◌then◌else◌, refl, ap, ◌∙◌, arith, max, ◌≢◌, subst, sym}
use Rattle.std.specs.List.{range_with_len, list_all}
use Rattle.std.proofs.lemmas.Bool.Decides.{nat_tests}
use Rattle.std.proofs.lemmas.List.{length-set, get_or-set_same, get_or-set_other}
use Rattle.std.proofs.lemmas.List.Folds.{list_all_at}
use Rattle.std.proofs.lemmas.List.FromFn.{length-range_with_len, get_or-range_with_len, length-map-range_with_len, get_or-map-range_with_len, fill_by_all}
use Rattle.std.proofs.lemmas.List.Sums.{sum_by-append}
use Rattle.market_events.specs.declared.links.TheConstants.{SERVICE_LINKS}
use Rattle.market_events.specs.declared.links.Link.{Link}
use Rattle.market_events.specs.declared.links.Link.TheVariants.{Service, Asked, Told}
use Rattle.market_events.specs.declared.events.Event.{Event}
use Rattle.market_events.specs.Links.{receiver_of, same_link}
use Rattle.market_events.specs.Counts.{with_raised}
use Rattle.market_events.specs.Offers.{taken_on, counts_of, is_met, is_ready}

-- a test of every number of a range
all_in_range : (p : ℕ → Bool) (a n : ℕ) → ((k : ℕ) → a ≤ k → k < a + n → p k ≡ true) → list_all p (range_with_len a n) ≡ true
all_in_range p a zero h = refl
all_in_range p a (suc n) h =
    rw (h a (omega arith) (omega arith)) (all_in_range p (a + 1) n (λ k low high. h k (omega arith) (omega arith)))

-- ready where each service link is met
pub is_ready-true : (node : ℕ) (counts past : List ℕ) → ((k : ℕ) → k < SERVICE_LINKS → is_met node counts past k ≡ true) → is_ready node counts past ≡ true
unfolding is_ready
is_ready-true node counts past met = all_in_range (is_met node counts past) 0 SERVICE_LINKS (λ k low high. met k (omega arith))

-- not ready where some service link is not met
pub is_ready-false : (node : ℕ) (counts past : List ℕ) (k : ℕ) → k < SERVICE_LINKS → is_met node counts past k ≡ false → is_ready node counts past ≡ false
unfolding is_ready
is_ready-false node counts past k lt unmet =
    list_all_at (is_met node counts past) (range_with_len 0 SERVICE_LINKS) k 0 (omega (arith, length-range_with_len 0 SERVICE_LINKS))
    (ap (is_met node counts past) (get_or-range_with_len 0 SERVICE_LINKS k 0 lt ∙ omega arith) ∙ unmet)

met_within : (receiver node past count : ℕ) → (not (receiver == node) || nat_le past count) ≡ true → receiver ≡ node → past ≤ count
met_within receiver node past count h e = grind (arith, nat_tests)

-- a ready event needs no service link into the node further than it was taken
pub met_of_ready : (node : ℕ) (counts past : List ℕ) → is_ready node counts past ≡ true → (k : ℕ) → k < SERVICE_LINKS → receiver_of (Service k) ≡ node → slice_index past k ≤ slice_index counts k
met_of_ready node counts past ready k lt into = by_test (is_met node counts past k) refl
  where
    by_test : (b : Bool) → is_met node counts past k ≡ b → slice_index past k ≤ slice_index counts k
    by_test true met = met_within (receiver_of (Service k)) node (slice_index past k) (slice_index counts k) met into
    by_test false unmet = let unready = is_ready-false node counts past k lt unmet in cc

-- one count for each service link
pub length-counts_of : (taken : List Event) → length (counts_of taken) ≡ SERVICE_LINKS
unfolding counts_of
length-counts_of taken = length-map-range_with_len (λ k. taken_on taken (Service k)) 0 SERVICE_LINKS

-- the count of a service link is how many were taken on it
pub slice_index-counts_of : (taken : List Event) (k : ℕ) → k < SERVICE_LINKS → slice_index (counts_of taken) k ≡ taken_on taken (Service k)
unfolding counts_of
slice_index-counts_of taken k lt = get_or-map-range_with_len (λ j. taken_on taken (Service j)) 0 SERVICE_LINKS k k 0 lt (omega arith)

-- a list with the count of each service link is the list of them
pub of_each_count : (taken : List Event) (counts : List ℕ) → length counts ≡ SERVICE_LINKS → ((k : ℕ) → k < SERVICE_LINKS → slice_index counts k ≡ taken_on taken (Service k)) → counts ≡ counts_of taken
unfolding counts_of
of_each_count taken counts long each = fill_by_all (λ k. taken_on taken (Service k)) counts SERVICE_LINKS 0 long each

-- one more event is one more on its link
pub taken_on-push : (taken : List Event) (event : Event) (link : Link) → taken_on (taken ++ event ∷ []) link ≡ taken_on taken link + (if same_link event.link link then 1 else 0)
taken_on-push taken event link = sum_by-append _ taken (event ∷ []) ∙ omega arith

-- links that are tested the same are equal
pub same_link-true : (a b : Link) → same_link a b ≡ true → a ≡ b
same_link-true (Service m) (Service n) h = let e : m ≡ n = grind (arith, nat_tests) in cc
same_link-true (Asked i s) (Asked j t) h = let d : i ≡ j = grind (arith, nat_tests) in let e : s ≡ t = grind (arith, nat_tests) in cc
same_link-true (Told s i) (Told t j) h = let d : i ≡ j = grind (arith, nat_tests) in let e : s ≡ t = grind (arith, nat_tests) in cc
same_link-true (Service m) (Asked j t) h = cc
same_link-true (Service m) (Told t j) h = cc
same_link-true (Asked i s) (Service n) h = cc
same_link-true (Asked i s) (Told t j) h = cc
same_link-true (Told s i) (Service n) h = cc
same_link-true (Told s i) (Asked j t) h = cc

pub same_link-same : (a : Link) → same_link a a ≡ true
same_link-same (Service m) = grind (arith, nat_tests)
same_link-same (Asked i s) = grind (arith, nat_tests)
same_link-same (Told s i) = grind (arith, nat_tests)

-- a count that is raised by one
raised_by_one : (counts : List ℕ) (k j number : ℕ) (b : Bool) → (k == j) ≡ b → k < length counts → number ≡ slice_index counts k + 1 → slice_index (with_raised counts k number) j ≡ slice_index counts j + (if b then 1 else 0)
raised_by_one counts k j number true test within next =
    let e : k ≡ j = grind (arith, nat_tests) in
    let P : ℕ → Type 0 = λ i. slice_index (with_raised counts k number) i ≡ slice_index counts i + 1 in
    subst P e (get_or-set_same counts k (max (slice_index counts k) number) 0 within ∙ omega arith)
raised_by_one counts k j number false test within next =
    let differs : j ≢ k = grind (arith, nat_tests) in
    get_or-set_other counts k j (max (slice_index counts k) number) 0 differs ∙ omega arith

-- one more event of a service link, with the next number, raises the count of that link to its number
pub counts_of-push-service : (taken : List Event) (event : Event) (k : ℕ) → k < SERVICE_LINKS → event.link ≡ Service k → event.number ≡ taken_on taken (Service k) + 1 → counts_of (taken ++ event ∷ []) ≡ with_raised (counts_of taken) k event.number
counts_of-push-service taken event k lt on next =
    sym (of_each_count (taken ++ event ∷ []) (with_raised (counts_of taken) k event.number)
    (length-set (counts_of taken) k (max (slice_index (counts_of taken) k) event.number) ∙ length-counts_of taken) each)
  where
    each : (j : ℕ) → j < SERVICE_LINKS → slice_index (with_raised (counts_of taken) k event.number) j ≡ taken_on (taken ++ event ∷ []) (Service j)
    each j below =
        raised_by_one (counts_of taken) k j event.number (k == j) refl (omega (arith, length-counts_of taken)) (next ∙ ap (λ n. n + 1) (sym (slice_index-counts_of taken k lt)))
        ∙ ap (λ n. n + (if k == j then 1 else 0)) (slice_index-counts_of taken j below)
        ∙ sym (ap (λ (l : Link). taken_on taken (Service j) + (if same_link l (Service j) then 1 else 0)) on)
        ∙ sym (taken_on-push taken event (Service j))

-- an event of another link leaves the counts of the service links
pub counts_of-push-other : (taken : List Event) (event : Event) → ((k : ℕ) → same_link event.link (Service k) ≡ false) → counts_of (taken ++ event ∷ []) ≡ counts_of taken
counts_of-push-other taken event other =
    sym (of_each_count (taken ++ event ∷ []) (counts_of taken) (length-counts_of taken) each)
  where
    each : (j : ℕ) → j < SERVICE_LINKS → slice_index (counts_of taken) j ≡ taken_on (taken ++ event ∷ []) (Service j)
    each j below = slice_index-counts_of taken j below ∙ sym (taken_on-push taken event (Service j) ∙ rw (other j) (omega arith))
