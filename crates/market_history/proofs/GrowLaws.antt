-- What one block adds to a journal.
use Rattle.std.proofs.Common.{◌≡◌, ℕ, ◌+◌, List, [], ◌∷◌, ◌++◌, Option, Some, None, length, refl, ap, sym, ◌∙◌, append-nil, append_assoc, arith}
use Rattle.std.specs.Prelude.{map, fold, filter_map}
use Rattle.std.specs.Option.{option_to_list}
use Rattle.std.proofs.lemmas.List.{map-append}
use Rattle.market_amounts.specs.declared.keys.RequestId.{RequestId}
use Rattle.market_events.specs.declared.events.Entry.{Entry}
use Rattle.market_events.specs.declared.events.Event.{Event}
use Rattle.market_events.specs.declared.events.What.{What}
use Rattle.market_events.specs.declared.events.What.TheVariants.{Made, Answered}
use Rattle.market_events.specs.declared.links.Link.{Link}
use Rattle.market_events.specs.declared.replies.Reply.{Reply}
use Rattle.market_history.specs.Blocks.{Input, Out, Part, part_of, parts_of, input_in, inputs_of, node_outs, block, blocks_after, Arrival, what_of, input_of, with_what, next_event, with_out, grow}
use Rattle.market_history.specs.Causality.{event_taken, events_taken}
use Rattle.market_history.specs.Once.{request_in, requests_given}
use Rattle.market_history.specs.Sent.{got_on, got, IsPrefixOf}
use Rattle.market_history.specs.Stamps.{clock_before, stamp_of}
use Rattle.market_history.proofs.SentLaws.{filter_map-push}
use Rattle.market_history.proofs.StampLaws.{clock_before-push}

-- the entry that this makes of a journal
abbrev pub entry_of : List Entry → What → Entry
entry_of entries what = record { clock = stamp_of (clock_before entries) what; what = what }

-- what is written of a part that is made
abbrev pub what_left : List Entry → Out → What
what_left entries (Out.Makes link b) = Made (next_event entries link b)
what_left entries (Out.Answers id reply) = Answered id reply

pub with_out-is : (entries : List Entry) (out : Out) → with_out entries out ≡ entries ++ entry_of entries (what_left entries out) ∷ []
with_out-is entries (Out.Makes link b) = refl
with_out-is entries (Out.Answers id reply) = refl

-- the outs of the block that an arrival begins
abbrev pub outs_after : ℕ → List Entry → Arrival → List Out
outs_after n entries arrival = node_outs n (inputs_of entries) (input_of arrival)

pub grow-is : (n : ℕ) (entries : List Entry) (arrival : Arrival) → grow n entries arrival ≡ fold with_out (with_what entries (what_of arrival)) (outs_after n entries arrival)
unfolding grow
grow-is n entries arrival = refl

-- what each part that is made keeps
pub outs_keep : (P : List Entry → Type 0) → ((entries : List Entry) (out : Out) → P entries → P (with_out entries out)) → (entries : List Entry) (outs : List Out) → P entries → P (fold with_out entries outs)
outs_keep P keep entries [] ok = ok
outs_keep P keep entries (out ∷ outs) ok = outs_keep P keep (with_out entries out) outs (keep entries out ok)

-- what holds of a journal with one entry more, holds of it with one block more
pub grow_keeps : (P : List Entry → Type 0) → ((entries : List Entry) (out : Out) → P entries → P (with_out entries out)) → (n : ℕ) (entries : List Entry) (arrival : Arrival) → P (with_what entries (what_of arrival)) → P (grow n entries arrival)
unfolding grow
grow_keeps P keep n entries arrival ok = outs_keep P keep (with_what entries (what_of arrival)) (outs_after n entries arrival) ok

-- what is gathered of one entry more
gathered-left : {B : Type 0} (f : What → Option B) → ((event : Event) → f (Made event) ≡ None) → ((id : RequestId) (reply : Reply) → f (Answered id reply) ≡ None) → (entries : List Entry) (out : Out) → filter_map (λ (x : Entry). f x.what) (with_out entries out) ≡ filter_map (λ (x : Entry). f x.what) entries
gathered-left f made answered entries (Out.Makes link b) =
    filter_map-push (λ (x : Entry). f x.what) entries (entry_of entries (Made (next_event entries link b)))
    ∙ ap (λ o. filter_map (λ (x : Entry). f x.what) entries ++ option_to_list o) (made (next_event entries link b)) ∙ append-nil (filter_map (λ (x : Entry). f x.what) entries)
gathered-left f made answered entries (Out.Answers id reply) =
    filter_map-push (λ (x : Entry). f x.what) entries (entry_of entries (Answered id reply))
    ∙ ap (λ o. filter_map (λ (x : Entry). f x.what) entries ++ option_to_list o) (answered id reply) ∙ append-nil (filter_map (λ (x : Entry). f x.what) entries)

-- what is gathered of requests and of events that were taken alone
pub gathered-outs : {B : Type 0} (f : What → Option B) → ((event : Event) → f (Made event) ≡ None) → ((id : RequestId) (reply : Reply) → f (Answered id reply) ≡ None) → (entries : List Entry) (outs : List Out) → filter_map (λ (x : Entry). f x.what) (fold with_out entries outs) ≡ filter_map (λ (x : Entry). f x.what) entries
gathered-outs f made answered entries [] = refl
gathered-outs f made answered entries (out ∷ outs) =
    gathered-outs f made answered (with_out entries out) outs ∙ gathered-left f made answered entries out

pub gathered-grow : {B : Type 0} (f : What → Option B) → ((event : Event) → f (Made event) ≡ None) → ((id : RequestId) (reply : Reply) → f (Answered id reply) ≡ None) → (n : ℕ) (entries : List Entry) (arrival : Arrival) → filter_map (λ (x : Entry). f x.what) (grow n entries arrival) ≡ filter_map (λ (x : Entry). f x.what) entries ++ option_to_list (f (what_of arrival))
unfolding grow
gathered-grow f made answered n entries arrival =
    gathered-outs f made answered (with_what entries (what_of arrival)) (outs_after n entries arrival)
    ∙ filter_map-push (λ (x : Entry). f x.what) entries (entry_of entries (what_of arrival))

-- the events that were taken on a link
pub got-grow : (link : Link) (n : ℕ) (entries : List Entry) (arrival : Arrival) → got link (grow n entries arrival) ≡ got link entries ++ option_to_list (got_on link (what_of arrival))
got-grow link n entries arrival = gathered-grow (got_on link) (λ event. refl) (λ id reply. refl) n entries arrival

-- the events that were taken
pub events_taken-grow : (n : ℕ) (entries : List Entry) (arrival : Arrival) → events_taken (grow n entries arrival) ≡ events_taken entries ++ option_to_list (event_taken (what_of arrival))
events_taken-grow n entries arrival = gathered-grow event_taken (λ event. refl) (λ id reply. refl) n entries arrival

-- the requests that were given
pub requests_given-grow : (n : ℕ) (entries : List Entry) (arrival : Arrival) → requests_given (grow n entries arrival) ≡ requests_given entries ++ option_to_list (request_in (what_of arrival))
requests_given-grow n entries arrival = gathered-grow request_in (λ event. refl) (λ id reply. refl) n entries arrival

-- the inputs
pub input_in-arrival : (arrival : Arrival) → input_in (part_of (what_of arrival)) ≡ Some (input_of arrival)
input_in-arrival (Arrival.Gives request) = refl
input_in-arrival (Arrival.Takes event) = refl

pub inputs_of-outs : (entries : List Entry) (outs : List Out) → inputs_of (fold with_out entries outs) ≡ inputs_of entries
inputs_of-outs entries outs = gathered-outs (λ what. input_in (part_of what)) (λ event. refl) (λ id reply. refl) entries outs

pub inputs_of-grow : (n : ℕ) (entries : List Entry) (arrival : Arrival) → inputs_of (grow n entries arrival) ≡ inputs_of entries ++ input_of arrival ∷ []
inputs_of-grow n entries arrival =
    gathered-grow (λ what. input_in (part_of what)) (λ event. refl) (λ id reply. refl) n entries arrival
    ∙ ap (λ o. inputs_of entries ++ option_to_list o) (input_in-arrival arrival)

-- the parts
pub part_of-arrival : (arrival : Arrival) → part_of (what_of arrival) ≡ Part.Came (input_of arrival)
part_of-arrival (Arrival.Gives request) = refl
part_of-arrival (Arrival.Takes event) = refl

pub parts_of-with_what : (entries : List Entry) (what : What) → parts_of (with_what entries what) ≡ parts_of entries ++ part_of what ∷ []
parts_of-with_what entries what = map-append (λ (x : Entry). part_of x.what) entries (entry_of entries what ∷ [])

pub parts_of-with_out : (entries : List Entry) (out : Out) → parts_of (with_out entries out) ≡ parts_of entries ++ Part.Left out ∷ []
parts_of-with_out entries (Out.Makes link b) = parts_of-with_what entries (Made (next_event entries link b))
parts_of-with_out entries (Out.Answers id reply) = parts_of-with_what entries (Answered id reply)

pub parts_of-outs : (entries : List Entry) (outs : List Out) → parts_of (fold with_out entries outs) ≡ parts_of entries ++ map (λ out. Part.Left out) outs
parts_of-outs entries [] = sym (append-nil (parts_of entries))
parts_of-outs entries (out ∷ outs) =
    parts_of-outs (with_out entries out) outs ∙ ap (λ parts. parts ++ map (λ o. Part.Left o) outs) (parts_of-with_out entries out)
    ∙ append_assoc (parts_of entries) (Part.Left out ∷ []) (map (λ o. Part.Left o) outs)

pub parts_of-grow : (n : ℕ) (entries : List Entry) (arrival : Arrival) → parts_of (grow n entries arrival) ≡ parts_of entries ++ block n (inputs_of entries) (input_of arrival)
unfolding grow
parts_of-grow n entries arrival =
    parts_of-outs (with_what entries (what_of arrival)) (outs_after n entries arrival)
    ∙ ap (λ parts. parts ++ map (λ o. Part.Left o) (outs_after n entries arrival)) (parts_of-with_what entries (what_of arrival) ∙ ap (λ part. parts_of entries ++ part ∷ []) (part_of-arrival arrival))
    ∙ append_assoc (parts_of entries) (Part.Came (input_of arrival) ∷ []) (map (λ o. Part.Left o) (outs_after n entries arrival))

-- one input more is one block more
pub blocks_after-push : (n : ℕ) (before inputs : List Input) (input : Input) → blocks_after n before (inputs ++ input ∷ []) ≡ blocks_after n before inputs ++ block n (before ++ inputs) input
blocks_after-push n before [] input = append-nil (block n before input) ∙ ap (λ l. block n l input) (sym (append-nil before))
blocks_after-push n before (i ∷ is) input =
    ap (λ parts. block n before i ++ parts) (blocks_after-push n (before ++ i ∷ []) is input ∙ ap (λ l. blocks_after n (before ++ i ∷ []) is ++ block n l input) (append_assoc before (i ∷ []) is))
    ∙ sym (append_assoc (block n before i) (blocks_after n (before ++ i ∷ []) is) (block n (before ++ i ∷ is) input))

-- the clock
clock_before-with_out : (entries : List Entry) (out : Out) → clock_before (with_out entries out) ≡ clock_before entries + 1
clock_before-with_out entries (Out.Makes link b) = clock_before-push entries (entry_of entries (Made (next_event entries link b)))
clock_before-with_out entries (Out.Answers id reply) = clock_before-push entries (entry_of entries (Answered id reply))

pub clock_before-outs : (entries : List Entry) (outs : List Out) → clock_before (fold with_out entries outs) ≡ clock_before entries + length outs
clock_before-outs entries [] = omega arith
clock_before-outs entries (out ∷ outs) = omega (arith, clock_before-outs (with_out entries out) outs, clock_before-with_out entries out)

pub clock_before-grow : (n : ℕ) (entries : List Entry) (arrival : Arrival) → clock_before (grow n entries arrival) ≡ stamp_of (clock_before entries) (what_of arrival) + length (outs_after n entries arrival)
unfolding grow
clock_before-grow n entries arrival =
    omega (arith, clock_before-outs (with_what entries (what_of arrival)) (outs_after n entries arrival), clock_before-push entries (entry_of entries (what_of arrival)))

-- the journal begins as it was
pub IsPrefixOf-trans : {A : Type 0} (xs ys zs : List A) → IsPrefixOf xs ys → IsPrefixOf ys zs → IsPrefixOf xs zs
IsPrefixOf-trans xs ys zs (a, p) (b, q) = (a ++ b, q ∙ ap (λ l. l ++ b) p ∙ append_assoc xs a b)

with_out-begins : (entries : List Entry) (out : Out) → IsPrefixOf entries (with_out entries out)
with_out-begins entries out = (entry_of entries (what_left entries out) ∷ [], with_out-is entries out)

pub outs-begin : (entries : List Entry) (outs : List Out) → IsPrefixOf entries (fold with_out entries outs)
outs-begin entries [] = ([], sym (append-nil entries))
outs-begin entries (out ∷ outs) =
    IsPrefixOf-trans entries (with_out entries out) (fold with_out (with_out entries out) outs) (with_out-begins entries out) (outs-begin (with_out entries out) outs)

pub grow-begins : (n : ℕ) (entries : List Entry) (arrival : Arrival) → IsPrefixOf entries (grow n entries arrival)
unfolding grow
grow-begins n entries arrival =
    IsPrefixOf-trans entries (with_what entries (what_of arrival)) (fold with_out (with_what entries (what_of arrival)) (outs_after n entries arrival))
    (entry_of entries (what_of arrival) ∷ [], refl) (outs-begin (with_what entries (what_of arrival)) (outs_after n entries arrival))
