-- When a lane waits, and when it asks, by what it notes.
use Rattle.std.proofs.Common.{◌≡◌, ℕ, ◌<◌, Bool, true, false, ◌&&◌, is_some, is_none, nat_lt, if◌then◌else◌, List, Option, Some, None, length, refl, ap, sym, ◌∙◌, arith}
use Rattle.std.proofs.lemmas.Bool.Decides.{nat_tests}
use Rattle.market_amounts.specs.declared.keys.RequestId.{RequestId}
use Rattle.market_events.specs.declared.events.Entry.{Entry}
use Rattle.market_events.specs.declared.replies.Reply.{Reply}
use Rattle.market_events.specs.declared.requests.Request.{Request}
use Rattle.market_events.specs.Requests.{same_id}
use Rattle.market_events.proofs.Values.Same.{same_id-true, same_id-self}
use Rattle.market_history.specs.declared.schedule.Give.TheVariants as give
use Rattle.market_history.specs.Once.{requests_given, with_id, reply_of, is_waiting, most_kept, differs, give_by, give_of}
use Rattle.market_history.proofs.CoreRequests.{with_id-id, any_passes, found_passes}
use Rattle.market_node.specs.declared.table.Kept.{Kept}
use Rattle.market_node.specs.Keeping.{is_that, is_awaited, KeepsRequests}

both_true : (a b : Bool) → a ≡ true → b ≡ true → (a && b) ≡ true
both_true a b sure too = ap (λ c. c && b) sure ∙ too

both_parts : (a b : Bool) → (a && b) ≡ true → (a ≡ true) × (b ≡ true)
both_parts true b both = (refl, both)
both_parts false b both = let no : ⊥ = cc in absurd no

-- the lane waits exactly where it notes a request that does
pub waits_is : (xs : List Entry) (table : List (RequestId × Kept)) (count : ℕ) (waiting : Option RequestId) → KeepsRequests xs table count waiting → is_waiting xs ≡ is_some waiting
waits_is xs table count None keeps = by_test (is_waiting xs) refl
  where
    by_test : (b : Bool) → is_waiting xs ≡ b → is_waiting xs ≡ false
    by_test true some =
        let it = any_passes (λ (r : Request). is_none (reply_of xs r.id)) (requests_given xs) some in
        let awaited : is_awaited xs it.request.id ≡ true = both_true (is_some (with_id it.request.id (requests_given xs))) (is_none (reply_of xs it.request.id)) it.found it.passes in
        let free : is_awaited xs it.request.id ≡ false = keeps.awaited it.request.id in
        let no : ⊥ = cc in absurd no
    by_test false none = none
waits_is xs table count (Some w) keeps = by_found (with_id w (requests_given xs)) refl
  where
    parts : (is_some (with_id w (requests_given xs)) ≡ true) × (is_none (reply_of xs w) ≡ true)
    parts = both_parts (is_some (with_id w (requests_given xs))) (is_none (reply_of xs w)) (keeps.awaited w ∙ same_id-self w)

    by_found : (o : Option Request) → with_id w (requests_given xs) ≡ o → is_waiting xs ≡ true
    by_found None none =
        let wrong : false ≡ true = sym (ap (λ o. is_some o) none) ∙ parts.0 in let no : ⊥ = cc in absurd no
    by_found (Some r) found =
        let here : r.id ≡ w = same_id-true r.id w (with_id-id w (requests_given xs) r found) in
        found_passes (λ (q : Request). is_none (reply_of xs q.id)) (λ (q : Request). same_id q.id w) (requests_given xs) r found
        (ap (λ (i : RequestId). is_none (reply_of xs i)) here ∙ parts.1)

-- a request that is asked has a new id, no request waits, and there is room
pub record IsFresh (xs : List Entry) (count : ℕ) (waiting : Option RequestId) (r : Request) : Type 0 where
  pub new_id : with_id r.id (requests_given xs) ≡ None
  pub idle : waiting ≡ None
  pub room : count < most_kept

none_waits : (w : Option RequestId) → is_some w ≡ false → w ≡ None
none_waits None idle = refl
none_waits (Some w) idle = let no : ⊥ = cc in absurd no

asked_parts : (kept : Option Request) (answered waiting room : Bool) (r : Request) → give_by kept answered waiting room r ≡ give.Asked → (waiting ≡ false) × (room ≡ true) × ((is_some kept && answered) ≡ false)
asked_parts kept answered waiting room r asked = by_tests (differs kept r) (is_some kept && answered) waiting room asked
  where
    by_tests : (d a w m : Bool) → (if d then give.Differs else if a then give.Kept else if w then give.Waiting else if m then give.Asked else give.Full) ≡ give.Asked → (w ≡ false) × (m ≡ true) × (a ≡ false)
    by_tests true a w m asked = let no : ⊥ = cc in absurd no
    by_tests false true w m asked = let no : ⊥ = cc in absurd no
    by_tests false false true m asked = let no : ⊥ = cc in absurd no
    by_tests false false false false asked = let no : ⊥ = cc in absurd no
    by_tests false false false true asked = (refl, refl, refl)

pub asked_fresh : (xs : List Entry) (table : List (RequestId × Kept)) (count : ℕ) (waiting : Option RequestId) (r : Request) → KeepsRequests xs table count waiting → give_of xs r ≡ give.Asked → IsFresh xs count waiting r
asked_fresh xs table count waiting r keeps asked = record {
  new_id = by_kept (with_id r.id (requests_given xs)) refl (reply_of xs r.id) refl;
  idle = idle;
  room = let counted = keeps.counted in let small : length (requests_given xs) < most_kept = below parts.1 in omega arith;
}
  where
    parts : (is_waiting xs ≡ false) × (nat_lt (length (requests_given xs)) most_kept ≡ true) × ((is_some (with_id r.id (requests_given xs)) && is_some (reply_of xs r.id)) ≡ false)
    parts = asked_parts (with_id r.id (requests_given xs)) (is_some (reply_of xs r.id)) (is_waiting xs) (nat_lt (length (requests_given xs)) most_kept) r asked

    below : {n : ℕ} → nat_lt n most_kept ≡ true → n < most_kept
    below test = grind (arith, nat_tests)

    idle : waiting ≡ None
    idle = none_waits waiting (sym (waits_is xs table count waiting keeps) ∙ parts.0)

    by_kept : (o : Option Request) → with_id r.id (requests_given xs) ≡ o → (a : Option Reply) → reply_of xs r.id ≡ a → with_id r.id (requests_given xs) ≡ None
    by_kept None none a reply = none
    by_kept (Some q) some (Some y) reply =
        let answered : (is_some (with_id r.id (requests_given xs)) && is_some (reply_of xs r.id)) ≡ true = both_true _ _ (ap (λ o. is_some o) some) (ap (λ o. is_some o) reply) in
        let open_one = parts.2 in let no : ⊥ = cc in absurd no
    by_kept (Some q) some None reply =
        let awaited : is_awaited xs r.id ≡ true = both_true _ _ (ap (λ o. is_some o) some) (ap (λ o. is_none o) reply) in
        let free : is_awaited xs r.id ≡ false = keeps.awaited r.id ∙ ap (λ w. is_that w r.id) idle in
        let no : ⊥ = cc in absurd no

-- what is done with a request, by what is noted
pub judged : (xs : List Entry) (table : List (RequestId × Kept)) (count : ℕ) (waiting : Option RequestId) (r : Request) (kept : Option Request) (reply : Option Reply) → KeepsRequests xs table count waiting → kept ≡ with_id r.id (requests_given xs) → reply ≡ reply_of xs r.id
    → give_by kept (is_some reply) (is_some waiting) (nat_lt count most_kept) r ≡ give_of xs r
judged xs table count waiting r kept reply keeps found answered =
    ap (λ k. give_by k (is_some reply) (is_some waiting) (nat_lt count most_kept) r) found
    ∙ ap (λ o. give_by (with_id r.id (requests_given xs)) (is_some o) (is_some waiting) (nat_lt count most_kept) r) answered
    ∙ ap (λ w. give_by (with_id r.id (requests_given xs)) (is_some (reply_of xs r.id)) w (nat_lt count most_kept) r) (sym (waits_is xs table count waiting keeps))
    ∙ ap (λ n. give_by (with_id r.id (requests_given xs)) (is_some (reply_of xs r.id)) (is_waiting xs) (nat_lt n most_kept) r) keeps.counted
