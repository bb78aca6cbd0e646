-- A turn that adds no entry and leaves the queue as long as it was took nothing, and a lane that does not wait has an empty queue then.
use Rattle.std.proofs.Common.{◌≡◌, ℕ, ◌+◌, ◌≤◌, Bool, true, false, if◌then◌else◌, ◌&&◌, is_some, nat_lt, List, [], ◌∷◌, length, length-append, inl, inr, refl, ap, subst, sym, ◌∙◌, arith}
use Rattle.market_events.specs.declared.events.Entry.{Entry}
use Rattle.market_events.specs.declared.events.Event.{Event}
use Rattle.market_events.specs.declared.events.Offer.TheVariants as offer
use Rattle.market_events.specs.declared.requests.Request.{Request}
use Rattle.market_events.specs.Offers.{offer_of}
use Rattle.market_history.specs.declared.schedule.Give.{Give}
use Rattle.market_history.specs.declared.schedule.Give.TheVariants as give
use Rattle.market_history.specs.Blocks.{Arrival, grow}
use Rattle.market_history.specs.Causality.{events_taken}
use Rattle.market_history.specs.Once.{give_of, is_waiting, differs, reply_of, requests_given, with_id, most_kept}
use Rattle.market_history.proofs.GrowLaws.{grow-begins, events_taken-grow, requests_given-grow}
use Rattle.market_laws.specs.Runs.{Member}
use Rattle.market_node.specs.Offered.{by_offer, with_offered, with_all_offered}
use Rattle.market_turns.specs.Queues.{asked_by, with_queue, left_by, queue_after}
use Rattle.market_rounds.proofs.Offering.{offered_begins}
use Rattle.market_rounds.proofs.Settling.Lists.{no_longer, prefix_short}
use Rattle.market_rounds.proofs.Together.{all_begins}

-- what grows is longer
pub never_short : (n : ℕ) (entries : List Entry) (arrival : Arrival) → length (grow n entries arrival) ≤ length entries → ⊥
never_short n entries (Arrival.Gives request) few =
    let same : grow n entries (Arrival.Gives request) ≡ entries = no_longer entries (grow n entries (Arrival.Gives request)) (grow-begins n entries (Arrival.Gives request)) few in
    let long : length (requests_given entries) ≡ length (requests_given entries) + 1 =
    ap (λ (es : List Entry). length (requests_given es)) (sym same)
    ∙ ap (λ (rs : List Request). length rs) (requests_given-grow n entries (Arrival.Gives request))
    ∙ length-append (requests_given entries) (request ∷ []) in
    omega (arith, long)
never_short n entries (Arrival.Takes event) few =
    let same : grow n entries (Arrival.Takes event) ≡ entries = no_longer entries (grow n entries (Arrival.Takes event)) (grow-begins n entries (Arrival.Takes event)) few in
    let long : length (events_taken entries) ≡ length (events_taken entries) + 1 =
    ap (λ (es : List Entry). length (events_taken es)) (sym same)
    ∙ ap (λ (es : List Event). length es) (events_taken-grow n entries (Arrival.Takes event))
    ∙ length-append (events_taken entries) (event ∷ []) in
    omega (arith, long)

-- where an offer and those after it add no entry, it adds none
offered_same : (n : ℕ) (entries : List Entry) (x : Event) (xs : List Event) → length (with_all_offered n entries (x ∷ xs)) ≤ length entries → with_offered n entries x ≡ entries
offered_same n entries x xs few =
    no_longer entries (with_offered n entries x) (offered_begins n entries x)
    (omega (arith, few, prefix_short (with_offered n entries x) (with_all_offered n (with_offered n entries x) xs) (all_begins n (with_offered n entries x) xs)))

-- and it is not one that is taken
never_taken : (n : ℕ) (entries : List Entry) (x : Event) → with_offered n entries x ≡ entries → offer_of n (events_taken entries) x ≡ offer.Take → ⊥
never_taken n entries x same take =
    let grown : grow n entries (Arrival.Takes x) ≡ entries = sym (ap (by_offer n entries x) take) ∙ same in
    never_short n entries (Arrival.Takes x) (let long : length (grow n entries (Arrival.Takes x)) ≡ length entries = ap (λ (es : List Entry). length es) grown in omega (arith, long))

-- where the offers of events add no entry, none of them is one that is taken
pub untaken : (n : ℕ) (entries : List Entry) (events : List Event) → length (with_all_offered n entries events) ≤ length entries → (e : Event) → Member e events → offer_of n (events_taken entries) e ≡ offer.Take → ⊥
untaken n entries [] few e never take = never
untaken n entries (x ∷ xs) few e (inl is) take =
    never_taken n entries x (offered_same n entries x xs few) (ap (offer_of n (events_taken entries)) (sym is) ∙ take)
untaken n entries (x ∷ xs) few e (inr there) take =
    untaken n entries xs (subst (λ es. length (with_all_offered n es xs) ≤ length entries) (offered_same n entries x xs few) few) e there take

-- a queue gets no longer
pub queue_short : (entries : List Entry) (queue : List Request) → length (queue_after entries queue) ≤ length queue
queue_short entries [] = omega arith
queue_short entries (r ∷ rs) = by_give (give_of entries r) (queue_short entries rs)
  where
    by_give : (g : Give) → length (queue_after entries rs) ≤ length rs → length (left_by g r rs (queue_after entries rs)) ≤ length (r ∷ rs)
    by_give give.Asked few = omega arith
    by_give give.Waiting few = omega arith
    by_give give.Kept few = omega (arith, few)
    by_give give.Differs few = omega (arith, few)
    by_give give.Full few = omega (arith, few)

-- a lane that does not wait lets no request wait
free_lane : (different answered waiting room : Bool) → waiting ≡ false → (if different then give.Differs else if answered then give.Kept else if waiting then give.Waiting else if room then give.Asked else give.Full) ≡ give.Waiting → ⊥
free_lane true answered waiting room free e = cc
free_lane false true waiting room free e = cc
free_lane false false true room free e = cc
free_lane false false false true free e = cc
free_lane false false false false free e = cc

pub never_waits : (entries : List Entry) (r : Request) → is_waiting entries ≡ false → give_of entries r ≡ give.Waiting → ⊥
never_waits entries r free waits =
    free_lane (differs (with_id r.id (requests_given entries)) r) (is_some (with_id r.id (requests_given entries)) && is_some (reply_of entries r.id)) (is_waiting entries)
    (nat_lt (length (requests_given entries)) most_kept) free waits

-- where a lane does not wait, and neither adds an entry nor shortens its queue, the queue is empty
pub queue_empty : (n : ℕ) (entries : List Entry) (queue : List Request) → is_waiting entries ≡ false → length (with_queue n entries queue) ≤ length entries → length queue ≤ length (queue_after entries queue) → queue ≡ []
queue_empty n entries [] free few same = refl
queue_empty n entries (r ∷ rs) free few same = absurd (by_give (give_of entries r) refl few same)
  where
    by_give : (g : Give) → give_of entries r ≡ g → length (asked_by g n entries r (with_queue n entries rs)) ≤ length entries → length (r ∷ rs) ≤ length (left_by g r rs (queue_after entries rs)) → ⊥
    by_give give.Asked is short long = never_short n entries (Arrival.Gives r) short
    by_give give.Waiting is short long = never_waits entries r free is
    by_give give.Kept is short long = omega (arith, long, queue_short entries rs)
    by_give give.Differs is short long = omega (arith, long, queue_short entries rs)
    by_give give.Full is short long = omega (arith, long, queue_short entries rs)
