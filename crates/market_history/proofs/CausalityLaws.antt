-- One more entry of a journal, and what it knows of the service links.
use Rattle.std.proofs.Common.{◌≡◌, ℕ, ◌^◌, ◌<◌, ◌≤◌, true, false, max, List, [], ◌∷◌, ◌++◌, length, slice_index, ap, sym, ◌∙◌, arith}
use Rattle.std.specs.List.{AllByRecursion}
use Rattle.std.proofs.lemmas.List.{ext_get_or}
use Rattle.std.proofs.lemmas.List.FromFn.{length-map-range_with_len, get_or-map-range_with_len}
use Rattle.market_events.specs.declared.events.Entry.{Entry}
use Rattle.market_events.specs.declared.events.Event.{Event}
use Rattle.market_events.specs.declared.events.What.TheVariants.{Taken, Made}
use Rattle.market_events.specs.declared.links.Link.TheVariants.{Service}
use Rattle.market_events.specs.declared.links.TheConstants.{SERVICE_LINKS}
use Rattle.market_events.specs.Counts.{AreCounts}
use Rattle.market_events.specs.Links.{same_link}
use Rattle.market_history.specs.Causality.{number_on, count_in, count_told, known, past_of}

-- one entry more
pub known-push : (xs : List Entry) (x : Entry) (k : ℕ) → known (xs ++ x ∷ []) k ≡ max (known xs k) (count_told x k)
known-push [] x k = omega arith
known-push (y ∷ ys) x k = let before = known-push ys x k in omega arith

-- the entries of one journal and then of another
pub known-append : (xs ys : List Entry) (k : ℕ) → known (xs ++ ys) k ≡ max (known xs k) (known ys k)
known-append [] ys k = omega arith
known-append (x ∷ xs) ys k = let before = known-append xs ys k in omega arith

-- one count for each service link
pub length-past_of : (xs : List Entry) → length (past_of xs) ≡ SERVICE_LINKS
unfolding past_of
length-past_of xs = length-map-range_with_len (known xs) 0 SERVICE_LINKS

-- the count of a service link is what is known of it
pub slice_index-past_of : (xs : List Entry) (k : ℕ) → k < SERVICE_LINKS → slice_index (past_of xs) k ≡ known xs k
unfolding past_of
slice_index-past_of xs k lt = get_or-map-range_with_len (known xs) 0 SERVICE_LINKS k k 0 lt (omega arith)

-- counts that are what is known of each service link
pub past_of-by : (xs : List Entry) (counts : List ℕ) → length counts ≡ SERVICE_LINKS → ((k : ℕ) → k < SERVICE_LINKS → slice_index counts k ≡ known xs k) → counts ≡ past_of xs
past_of-by xs counts len each =
    ext_get_or 0 counts (past_of xs) (len ∙ sym (length-past_of xs))
    (λ k lt. let below : k < SERVICE_LINKS = omega arith in each k below ∙ sym (slice_index-past_of xs k below))

-- what is known is within a bound, where each entry tells of no more
pub known-most : (top : ℕ) (xs : List Entry) (k : ℕ) → AllByRecursion (λ (x : Entry). count_told x k ≤ top) xs → known xs k ≤ top
known-most top [] k each = omega arith
known-most top (x ∷ xs) k each = omega (arith, each.0, known-most top xs k each.1)

-- and the past of the next event then has its counts in their range
pub past_of-counts : (top : ℕ) (xs : List Entry) → top < 2 ^ 32 → ((k : ℕ) → k < SERVICE_LINKS → known xs k ≤ top) → AreCounts (past_of xs)
past_of-counts top xs low each =
    record { each = length-past_of xs; high = λ k lt. omega (arith, slice_index-past_of xs k lt, each k lt) }

pub known-push-made : (xs : List Entry) (x : Entry) (k : ℕ) (event : Event) → x.what ≡ Made event → known (xs ++ x ∷ []) k ≡ max (known xs k) (number_on k event)
known-push-made xs x k event is = known-push xs x k ∙ ap (λ w. max (known xs k) (count_in w k)) is

pub known-push-taken : (xs : List Entry) (x : Entry) (k : ℕ) (event : Event) → x.what ≡ Taken event → known (xs ++ x ∷ []) k ≡ max (known xs k) (max (number_on k event) (slice_index event.past k))
known-push-taken xs x k event is = known-push xs x k ∙ ap (λ w. max (known xs k) (count_in w k)) is

-- the number of an event on this service link, and of one on another link
pub number_on-same : (k : ℕ) (event : Event) → same_link event.link (Service k) ≡ true → number_on k event ≡ event.number
number_on-same k event same = rw same

pub number_on-other : (k : ℕ) (event : Event) → same_link event.link (Service k) ≡ false → number_on k event ≡ 0
number_on-other k event other = rw other
