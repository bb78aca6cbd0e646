-- The reply of a lane to an id is the first that it was told for it (reply-is).
use Rattle.std.proofs.Common.{◌≡◌, ℕ, ◌≤◌, Bool, true, false, List, [], ◌∷◌, ◌++◌, Option, Some, None, is_some, if◌then◌else◌, inl, inr, refl, ap, sym, ◌∙◌}
use Rattle.std.specs.Prelude.{map}
use Rattle.std.specs.Option.{option_to_list, option_or}
use Rattle.std.proofs.lemmas.List.{map-append}
use Rattle.market_amounts.specs.declared.keys.RequestId.{RequestId}
use Rattle.market_events.specs.declared.bodies.Body.{Body}
use Rattle.market_events.specs.declared.bodies.Body.TheVariants as body
use Rattle.market_events.specs.declared.events.Entry.{Entry}
use Rattle.market_events.specs.declared.events.Event.{Event}
use Rattle.market_events.specs.declared.replies.Reply.{Reply}
use Rattle.market_events.specs.Requests.{same_id}
use Rattle.market_events.specs.Stocks.{first_some}
use Rattle.market_events.proofs.Values.Same.{same_id-true}
use Rattle.market_history.specs.Blocks.{Arrival, what_of, input_of, told_outs, lane_outs, services, grow}
use Rattle.market_history.specs.Causality.{event_taken, events_taken}
use Rattle.market_history.specs.Once.{reply_of}
use Rattle.market_history.proofs.GrowLaws.{outs_after, events_taken-grow}
use Rattle.market_history.proofs.GrowSent.{reply_out, reply_of-grow, first_some-append}
use Rattle.market_laws.specs.Grown.{Grown, nothing, more}
use Rattle.market_laws.specs.Runs.{Member, tells}
use Rattle.market_laws.proofs.Fits.AskedByLanes.{outs-lane}

-- the reply that the body tells of this id
abbrev pub reply_told : RequestId → Body → Option Reply
reply_told id (body.Told told reply) = if same_id told id then Some reply else None
reply_told id other = None

-- what the lane answers for the id to a body that it takes
answered_told : (id : RequestId) (b : Body) → first_some (reply_out id) (told_outs b) ≡ first_some (reply_told id) (b ∷ [])
answered_told id (body.Told told reply) = refl
answered_told id other = refl

answered_arrival : (id : RequestId) (a : Arrival) → first_some (reply_out id) (lane_outs (input_of a)) ≡ first_some (reply_told id) (map (λ (e : Event). e.body) (option_to_list (event_taken (what_of a))))
answered_arrival id (Arrival.Gives request) = refl
answered_arrival id (Arrival.Takes event) = answered_told id event.body

pub reply-is : (n : ℕ) → services ≤ n → {j : List Entry} → Grown n j → (id : RequestId) → reply_of j id ≡ first_some (reply_told id) (map (λ (e : Event). e.body) (events_taken j))
reply-is n low nothing id = refl
reply-is n low (more j a grown ready) id =
    reply_of-grow id n j a ∙ ap (λ o. option_or o (first_some (reply_out id) (outs_after n j a))) (reply-is n low grown id)
    ∙ ap (λ outs. option_or before (first_some (reply_out id) outs)) (outs-lane n low j a) ∙ ap (option_or before) (answered_arrival id a)
    ∙ sym (ap (first_some (reply_told id)) taken ∙ first_some-append (reply_told id) (map (λ (e : Event). e.body) (events_taken j)) (map (λ (e : Event). e.body) (option_to_list (event_taken (what_of a)))))
  where
    before : Option Reply
    before = first_some (reply_told id) (map (λ (e : Event). e.body) (events_taken j))

    taken : map (λ (e : Event). e.body) (events_taken (grow n j a)) ≡ map (λ (e : Event). e.body) (events_taken j) ++ map (λ (e : Event). e.body) (option_to_list (event_taken (what_of a)))
    taken = ap (map (λ (e : Event). e.body)) (events_taken-grow n j a) ∙ map-append (λ (e : Event). e.body) (events_taken j) (option_to_list (event_taken (what_of a)))

-- where a body tells the id, there is a first reply
pub told-some : (id : RequestId) (b : Body) (bs : List Body) → Member b bs → tells id b ≡ true → is_some (first_some (reply_told id) bs) ≡ true
told-some id b [] here passes = absurd here
told-some id b (c ∷ bs) (inl same) passes = by c (first_some (reply_told id) bs) (ap (tells id) (sym same) ∙ passes)
  where
    by : (c : Body) (o : Option Reply) → tells id c ≡ true → is_some (option_or (reply_told id c) o) ≡ true
    by (body.Told told reply) o passes = rw passes refl
    by other o passes = cc
told-some id b (c ∷ bs) (inr later) passes = by (reply_told id c) (told-some id b bs later passes)
  where
    by : (o : Option Reply) → is_some (first_some (reply_told id) bs) ≡ true → is_some (option_or o (first_some (reply_told id) bs)) ≡ true
    by None rest = rest
    by (Some reply) rest = refl

-- and the first reply was told
pub first-told : (id : RequestId) (reply : Reply) (bs : List Body) → first_some (reply_told id) bs ≡ Some reply → Member (body.Told id reply) bs
first-told id reply [] is = let no : ⊥ = cc in absurd no
first-told id reply (b ∷ bs) is = by b is (λ later. first-told id reply bs later)
  where
    on : (told : RequestId) (r : Reply) (test : Bool) → same_id told id ≡ test → option_or (if test then Some r else None) (first_some (reply_told id) bs) ≡ Some reply
        → (first_some (reply_told id) bs ≡ Some reply → Member (body.Told id reply) bs) → Member (body.Told id reply) (body.Told told r ∷ bs)
    on told r true same is rest =
        let reply_is : r ≡ reply = cc in
        inl (λ i. body.Told (sym (same_id-true told id same) i) (sym reply_is i))
    on told r false same is rest = inr (rest is)

    by : (b : Body) → option_or (reply_told id b) (first_some (reply_told id) bs) ≡ Some reply → (first_some (reply_told id) bs ≡ Some reply → Member (body.Told id reply) bs) → Member (body.Told id reply) (b ∷ bs)
    by (body.Told told r) is rest = on told r (same_id told id) refl is rest
    by other is rest = inr (rest is)
