-- What one entry more adds to the events that a journal took, to what came to its node, and to what it knows.
use Rattle.std.proofs.Common.{◌≡◌, ℕ, ◌+◌, ◌≤◌, List, [], ◌∷◌, ◌++◌, Option, Some, None, length, ap, sym, ◌∙◌, arith}
use Rattle.std.specs.List.{cons_option, filter_map}
use Rattle.std.specs.Option.{option_to_list}
use Rattle.std.proofs.lemmas.List.{append-nil}
use Rattle.market_events.specs.declared.events.Entry.{Entry}
use Rattle.market_events.specs.declared.events.Event.{Event}
use Rattle.market_events.specs.declared.events.What.TheVariants.{Taken}
use Rattle.market_events.specs.declared.links.Link.{Link}
use Rattle.market_history.specs.Blocks.{Input, part_of, input_in, inputs_of}
use Rattle.market_history.specs.Causality.{count_told, known, past_of, event_taken, events_taken}
use Rattle.market_history.specs.Sent.{sent}
use Rattle.market_history.proofs.CausalityLaws.{known-push, length-past_of, slice_index-past_of, past_of-by}
use Rattle.market_history.proofs.SentLaws.{filter_map-push}

one_or_none : {B : Type 0} (o : Option B) (ys : List B) (n : ℕ) → length ys ≤ n → length (cons_option o ys) ≤ n + 1
one_or_none None ys n most = omega arith
one_or_none (Some y) ys n most = omega arith

-- no more elements than there were
pub length-filter_map : {A B : Type 0} (f : A → Option B) (xs : List A) → length (filter_map f xs) ≤ length xs
length-filter_map f [] = omega arith
length-filter_map f (x ∷ xs) =
    let most : length (cons_option (f x) (filter_map f xs)) ≤ length xs + 1 = one_or_none (f x) (filter_map f xs) (length xs) (length-filter_map f xs) in omega arith

pub length-sent : (link : Link) (xs : List Entry) → length (sent link xs) ≤ length xs
length-sent link xs = length-filter_map _ xs

pub length-events_taken : (xs : List Entry) → length (events_taken xs) ≤ length xs
length-events_taken xs = length-filter_map _ xs

-- an event was taken
pub events_taken-push-taken : (xs : List Entry) (x : Entry) (event : Event) → x.what ≡ Taken event → events_taken (xs ++ x ∷ []) ≡ events_taken xs ++ event ∷ []
events_taken-push-taken xs x event is =
    filter_map-push (λ (y : Entry). event_taken y.what) xs x ∙ ap (λ w. events_taken xs ++ option_to_list (event_taken w)) is

-- none was taken
pub events_taken-push-none : (xs : List Entry) (x : Entry) → event_taken x.what ≡ None → events_taken (xs ++ x ∷ []) ≡ events_taken xs
events_taken-push-none xs x none =
    filter_map-push (λ (y : Entry). event_taken y.what) xs x ∙ ap (λ o. events_taken xs ++ option_to_list o) none ∙ append-nil (events_taken xs)

-- something came to the node
pub inputs_of-push-came : (xs : List Entry) (x : Entry) (input : Input) → input_in (part_of x.what) ≡ Some input → inputs_of (xs ++ x ∷ []) ≡ inputs_of xs ++ input ∷ []
inputs_of-push-came xs x input came =
    filter_map-push (λ (y : Entry). input_in (part_of y.what)) xs x ∙ ap (λ o. inputs_of xs ++ option_to_list o) came

-- nothing came
pub inputs_of-push-left : (xs : List Entry) (x : Entry) → input_in (part_of x.what) ≡ None → inputs_of (xs ++ x ∷ []) ≡ inputs_of xs
inputs_of-push-left xs x none =
    filter_map-push (λ (y : Entry). input_in (part_of y.what)) xs x ∙ ap (λ o. inputs_of xs ++ option_to_list o) none ∙ append-nil (inputs_of xs)

-- the entry tells of no event
pub past_of-push-none : (xs : List Entry) (x : Entry) → ((k : ℕ) → count_told x k ≡ 0) → past_of (xs ++ x ∷ []) ≡ past_of xs
past_of-push-none xs x none =
    sym (past_of-by (xs ++ x ∷ []) (past_of xs) (length-past_of xs) (λ k lt. slice_index-past_of xs k lt ∙ unchanged k))
  where
    unchanged : (k : ℕ) → known xs k ≡ known (xs ++ x ∷ []) k
    unchanged k = let told : count_told x k ≡ 0 = none k in let more = known-push xs x k in omega arith
