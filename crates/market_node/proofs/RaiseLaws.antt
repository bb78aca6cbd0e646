-- Counts of service links of which one is raised, and counts by slot of which one is one more.
use Rattle.std.proofs.Common.{◌≡◌, ℕ, ◌+◌, ◌<◌, Bool, true, false, ◌==◌, if◌then◌else◌, max, List, [], ◌∷◌, ◌++◌, length, slice_index, ◌≢◌, refl, ap, subst, sym, ◌∙◌, arith}
use Rattle.std.specs.List.{slice_set}
use Rattle.std.proofs.lemmas.Bool.Decides.{nat_tests}
use Rattle.std.proofs.lemmas.List.{length-set, get_or-set_same, get_or-set_other}
use Rattle.market_events.specs.declared.events.Entry.{Entry}
use Rattle.market_events.specs.declared.events.Event.{Event}
use Rattle.market_events.specs.declared.events.What.TheVariants.{Taken, Made}
use Rattle.market_events.specs.declared.links.Link.{Link}
use Rattle.market_events.specs.declared.links.Link.TheVariants.{Service, Asked, Told}
use Rattle.market_events.specs.declared.links.TheConstants.{SERVICE_LINKS}
use Rattle.market_events.specs.Counts.{with_raised, IsMergeOf}
use Rattle.market_events.specs.Links.{IsLink, receiver_of, same_link}
use Rattle.market_events.specs.Offers.{taken_on, counts_of}
use Rattle.market_events.proofs.Values.Offers.{counts_of-push-service, counts_of-push-other, taken_on-push}
use Rattle.market_history.specs.Causality.{number_on, known, past_of}
use Rattle.market_history.proofs.CausalityLaws.{known-push-made, known-push-taken, length-past_of, slice_index-past_of, past_of-by}
use Rattle.market_links.proofs.SlotLaws.{into_below, apart_into}
use Rattle.market_links.specs.Slots.{slot_into}
use Rattle.market_links.specs.declared.slots.TheConstants.{SLOTS}
use Rattle.market_node.specs.Notes.{raised_on}

raised_at : (counts : List ℕ) (j k number : ℕ) (b : Bool) → (j == k) ≡ b → j < length counts → slice_index (with_raised counts j number) k ≡ max (slice_index counts k) (if b then number else 0)
raised_at counts j k number true test within =
    let e : j ≡ k = grind (arith, nat_tests) in
    let P : ℕ → Type 0 = λ i. slice_index (with_raised counts j number) i ≡ max (slice_index counts i) number in
    subst P e (get_or-set_same counts j (max (slice_index counts j) number) 0 within)
raised_at counts j k number false test within =
    let differs : k ≢ j = grind (arith, nat_tests) in
    get_or-set_other counts j k (max (slice_index counts j) number) 0 differs ∙ omega arith

-- the count of each service link
pub raised_on-at : (counts : List ℕ) (link : Link) (number k : ℕ) → IsLink link → length counts ≡ SERVICE_LINKS → slice_index (raised_on counts link number) k ≡ max (slice_index counts k) (if same_link link (Service k) then number else 0)
raised_on-at counts (Service j) number k is_link long = raised_at counts j k number (j == k) refl (omega arith)
raised_on-at counts (Asked lane service) number k is_link long = omega arith
raised_on-at counts (Told service lane) number k is_link long = omega arith

pub length-raised_on : (counts : List ℕ) (link : Link) (number : ℕ) → length (raised_on counts link number) ≡ length counts
length-raised_on counts (Service j) number = length-set counts j (max (slice_index counts j) number)
length-raised_on counts (Asked lane service) number = refl
length-raised_on counts (Told service lane) number = refl

greatest_of : (merged old past number before after : ℕ) → merged ≡ max old past → old ≡ before → after ≡ max before (max number past) → max merged number ≡ after
greatest_of merged old past number before after m o a = omega arith

-- what is known with an event that is taken: its past, and its own number
pub past_of-taken : (xs : List Entry) (x : Entry) (event : Event) (merged : List ℕ) → x.what ≡ Taken event → IsLink event.link → length merged ≡ length (past_of xs) → IsMergeOf merged (past_of xs) event.past
    → raised_on merged event.link event.number ≡ past_of (xs ++ x ∷ [])
past_of-taken xs x event merged is is_link long merge =
    past_of-by (xs ++ x ∷ []) (raised_on merged event.link event.number) (length-raised_on merged event.link event.number ∙ here)
    (λ k lt.
    raised_on-at merged event.link event.number k is_link here
    ∙ greatest_of (slice_index merged k) (slice_index (past_of xs) k) (slice_index event.past k) (number_on k event) (known xs k) (known (xs ++ x ∷ []) k)
    (merge k lt) (slice_index-past_of xs k lt) (known-push-taken xs x k event is))
  where
    here : length merged ≡ SERVICE_LINKS
    here = long ∙ length-past_of xs

-- what is known with an event that is made: its own number
pub past_of-made : (xs : List Entry) (x : Entry) (event : Event) → x.what ≡ Made event → IsLink event.link → raised_on (past_of xs) event.link event.number ≡ past_of (xs ++ x ∷ [])
past_of-made xs x event is is_link =
    past_of-by (xs ++ x ∷ []) (raised_on (past_of xs) event.link event.number) (length-raised_on (past_of xs) event.link event.number ∙ length-past_of xs)
    (λ k lt.
    raised_on-at (past_of xs) event.link event.number k is_link (length-past_of xs)
    ∙ ap (λ n. max n (number_on k event)) (slice_index-past_of xs k lt)
    ∙ sym (known-push-made xs x k event is))

-- the counts of service links with the next event of a link
pub counts_of-next : (taken : List Event) (event : Event) (link : Link) → event.link ≡ link → IsLink link → event.number ≡ taken_on taken link + 1 → raised_on (counts_of taken) link event.number ≡ counts_of (taken ++ event ∷ [])
counts_of-next taken event (Service k) on is_link next = sym (counts_of-push-service taken event k is_link on next)
counts_of-next taken event (Asked lane service) on is_link next =
    sym (counts_of-push-other taken event (λ k. ap (λ (l : Link). same_link l (Service k)) on))
counts_of-next taken event (Told service lane) on is_link next =
    sym (counts_of-push-other taken event (λ k. ap (λ (l : Link). same_link l (Service k)) on))

added_at : (counts : List ℕ) (j k : ℕ) (b : Bool) → (j == k) ≡ b → j < length counts → slice_index (slice_set counts j (slice_index counts j + 1)) k ≡ slice_index counts k + (if b then 1 else 0)
added_at counts j k true test within =
    let e : j ≡ k = grind (arith, nat_tests) in
    let P : ℕ → Type 0 = λ i. slice_index (slice_set counts j (slice_index counts j + 1)) i ≡ slice_index counts i + 1 in
    subst P e (get_or-set_same counts j (slice_index counts j + 1) 0 within)
added_at counts j k false test within =
    let differs : k ≢ j = grind (arith, nat_tests) in
    get_or-set_other counts j k (slice_index counts j + 1) 0 differs ∙ omega arith

-- the counts by slot with one event more
pub counted_next : (node : ℕ) (receivers : List ℕ) (taken : List Event) (event : Event) → length receivers ≡ SLOTS → IsLink event.link → receiver_of event.link ≡ node
    → ((link : Link) → IsLink link → receiver_of link ≡ node → slice_index receivers (slot_into link) ≡ taken_on taken link)
    → (link : Link) → IsLink link → receiver_of link ≡ node
    → slice_index (slice_set receivers (slot_into event.link) (slice_index receivers (slot_into event.link) + 1)) (slot_into link) ≡ taken_on (taken ++ event ∷ []) link
counted_next node receivers taken event long is_link into each link other there =
    added_at receivers (slot_into event.link) (slot_into link) (same_link event.link link) (sym (apart_into event.link link is_link other (into ∙ sym there)))
    (let below = into_below event.link is_link in omega arith)
    ∙ ap (λ n. n + (if same_link event.link link then 1 else 0)) (each link other there)
    ∙ sym (taken_on-push taken event link)
