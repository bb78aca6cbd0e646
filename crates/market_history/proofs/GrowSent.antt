-- What one block adds to what was sent on a link, and to the replies.
use Rattle.std.proofs.Common.{◌≡◌, ℕ, List, [], ◌∷◌, ◌++◌, Option, Some, None, if◌then◌else◌, Bool, true, false, refl, ap, sym, ◌∙◌, append-nil, append_assoc}
use Rattle.std.specs.Prelude.{map, fold, filter_map}
use Rattle.std.specs.List.{cons_option}
use Rattle.std.specs.Option.{option_to_list, option_or}
use Rattle.std.proofs.lemmas.List.{map-append}
use Rattle.std.proofs.lemmas.List.Elements.{filter_map-append}
use Rattle.market_amounts.specs.declared.keys.RequestId.{RequestId}
use Rattle.market_events.specs.declared.bodies.Body.{Body}
use Rattle.market_events.specs.declared.events.Entry.{Entry}
use Rattle.market_events.specs.declared.events.Event.{Event}
use Rattle.market_events.specs.declared.links.Link.{Link}
use Rattle.market_events.specs.declared.replies.Reply.{Reply}
use Rattle.market_events.specs.Links.{same_link}
use Rattle.market_events.specs.Requests.{same_id}
use Rattle.market_events.specs.Stocks.{first_some}
use Rattle.market_history.specs.Blocks.{Out, Arrival, what_of, with_what, next_event, with_out, grow}
use Rattle.market_history.specs.Once.{reply_in, reply_of}
use Rattle.market_history.specs.Sent.{event_made_on, sent, IsPrefixOf}
use Rattle.market_history.proofs.SentLaws.{filter_map-push}
use Rattle.market_history.proofs.GrowLaws.{entry_of, what_left, with_out-is, outs_after, grow-begins}

-- the body, where it is made on the link
abbrev pub out_on : Link → Out → Option Body
out_on link (Out.Makes l b) = if same_link l link then Some b else None
out_on link (Out.Answers id reply) = None

-- the bodies that were made on the link
abbrev pub bodies_on : Link → List Entry → List Body
bodies_on link entries = map (λ (e : Event). e.body) (sent link entries)

-- one part more that is made
pub sent-with_out : (link : Link) (entries : List Entry) (out : Out) → sent link (with_out entries out) ≡ sent link entries ++ option_to_list (event_made_on link (what_left entries out))
sent-with_out link entries out =
    ap (sent link) (with_out-is entries out) ∙ filter_map-push (λ (x : Entry). event_made_on link x.what) entries (entry_of entries (what_left entries out))

body_left : (link : Link) (entries : List Entry) (out : Out) → map (λ (e : Event). e.body) (option_to_list (event_made_on link (what_left entries out))) ≡ option_to_list (out_on link out)
body_left link entries (Out.Makes l b) = by (same_link l link) refl
  where
    by : (test : Bool) → same_link l link ≡ test → map (λ (e : Event). e.body) (option_to_list (if test then Some (next_event entries l b) else None)) ≡ option_to_list (if test then Some b else None)
    by true is = refl
    by false is = refl
body_left link entries (Out.Answers id reply) = refl

pub bodies-with_out : (link : Link) (entries : List Entry) (out : Out) → bodies_on link (with_out entries out) ≡ bodies_on link entries ++ option_to_list (out_on link out)
bodies-with_out link entries out =
    ap (map (λ (e : Event). e.body)) (sent-with_out link entries out)
    ∙ map-append (λ (e : Event). e.body) (sent link entries) (option_to_list (event_made_on link (what_left entries out)))
    ∙ ap (λ l. bodies_on link entries ++ l) (body_left link entries out)

on_one : (link : Link) (out : Out) (outs : List Out) → filter_map (out_on link) (out ∷ outs) ≡ option_to_list (out_on link out) ++ filter_map (out_on link) outs
on_one link out outs = by (out_on link out)
  where
    by : (o : Option Body) → cons_option o (filter_map (out_on link) outs) ≡ option_to_list o ++ filter_map (out_on link) outs
    by None = refl
    by (Some b) = refl

pub bodies-outs : (link : Link) (entries : List Entry) (outs : List Out) → bodies_on link (fold with_out entries outs) ≡ bodies_on link entries ++ filter_map (out_on link) outs
bodies-outs link entries [] = sym (append-nil (bodies_on link entries))
bodies-outs link entries (out ∷ outs) =
    bodies-outs link (with_out entries out) outs ∙ ap (λ l. l ++ filter_map (out_on link) outs) (bodies-with_out link entries out)
    ∙ append_assoc (bodies_on link entries) (option_to_list (out_on link out)) (filter_map (out_on link) outs)
    ∙ ap (λ l. bodies_on link entries ++ l) (sym (on_one link out outs))

made_on-arrival : (link : Link) (arrival : Arrival) → event_made_on link (what_of arrival) ≡ None
made_on-arrival link (Arrival.Gives request) = refl
made_on-arrival link (Arrival.Takes event) = refl

pub sent-arrival : (link : Link) (entries : List Entry) (arrival : Arrival) → sent link (with_what entries (what_of arrival)) ≡ sent link entries
sent-arrival link entries arrival =
    filter_map-push (λ (x : Entry). event_made_on link x.what) entries (entry_of entries (what_of arrival))
    ∙ ap (λ o. sent link entries ++ option_to_list o) (made_on-arrival link arrival) ∙ append-nil (sent link entries)

-- the bodies that a block makes on the link
pub bodies-grow : (link : Link) (n : ℕ) (entries : List Entry) (arrival : Arrival) → bodies_on link (grow n entries arrival) ≡ bodies_on link entries ++ filter_map (out_on link) (outs_after n entries arrival)
unfolding grow
bodies-grow link n entries arrival =
    bodies-outs link (with_what entries (what_of arrival)) (outs_after n entries arrival)
    ∙ ap (λ l. map (λ (e : Event). e.body) l ++ filter_map (out_on link) (outs_after n entries arrival)) (sent-arrival link entries arrival)

-- what was sent on a link begins as it was
pub sent-prefix : (link : Link) (xs ys : List Entry) → IsPrefixOf xs ys → IsPrefixOf (sent link xs) (sent link ys)
sent-prefix link xs ys (rest, is) = (sent link rest, ap (sent link) is ∙ filter_map-append (λ (x : Entry). event_made_on link x.what) xs rest)

pub sent-grow-begins : (link : Link) (n : ℕ) (entries : List Entry) (arrival : Arrival) → IsPrefixOf (sent link entries) (sent link (grow n entries arrival))
sent-grow-begins link n entries arrival = sent-prefix link entries (grow n entries arrival) (grow-begins n entries arrival)

-- the reply to the id, where this answers it
abbrev pub reply_out : RequestId → Out → Option Reply
reply_out id (Out.Makes l b) = None
reply_out id (Out.Answers i reply) = if same_id i id then Some reply else None

pub first_some-append : {A B : Type 0} (f : A → Option B) (xs ys : List A) → first_some f (xs ++ ys) ≡ option_or (first_some f xs) (first_some f ys)
first_some-append f [] ys = refl
first_some-append {B = B} f (x ∷ xs) ys = by (f x) (first_some-append f xs ys)
  where
    by : (o : Option B) → first_some f (xs ++ ys) ≡ option_or (first_some f xs) (first_some f ys) → option_or o (first_some f (xs ++ ys)) ≡ option_or (option_or o (first_some f xs)) (first_some f ys)
    by None rest = rest
    by (Some y) rest = refl

or_none : {A : Type 0} (o : Option A) → option_or o None ≡ o
or_none None = refl
or_none (Some x) = refl

or_assoc : {A : Type 0} (a b c : Option A) → option_or (option_or a b) c ≡ option_or a (option_or b c)
or_assoc None b c = refl
or_assoc (Some x) b c = refl

reply_left : (id : RequestId) (entries : List Entry) (out : Out) → reply_in id (what_left entries out) ≡ reply_out id out
reply_left id entries (Out.Makes l b) = refl
reply_left id entries (Out.Answers i reply) = refl

-- one entry more
pub reply_of-push : (id : RequestId) (entries : List Entry) (x : Entry) → reply_of (entries ++ x ∷ []) id ≡ option_or (reply_of entries id) (reply_in id x.what)
reply_of-push id entries x =
    first_some-append (λ (y : Entry). reply_in id y.what) entries (x ∷ []) ∙ ap (λ o. option_or (reply_of entries id) o) (or_none (reply_in id x.what))

reply_of-with_out : (id : RequestId) (entries : List Entry) (out : Out) → reply_of (with_out entries out) id ≡ option_or (reply_of entries id) (reply_out id out)
reply_of-with_out id entries out =
    ap (λ l. reply_of l id) (with_out-is entries out) ∙ reply_of-push id entries (entry_of entries (what_left entries out))
    ∙ ap (λ o. option_or (reply_of entries id) o) (reply_left id entries out)

pub reply_of-outs : (id : RequestId) (entries : List Entry) (outs : List Out) → reply_of (fold with_out entries outs) id ≡ option_or (reply_of entries id) (first_some (reply_out id) outs)
reply_of-outs id entries [] = sym (or_none (reply_of entries id))
reply_of-outs id entries (out ∷ outs) =
    reply_of-outs id (with_out entries out) outs ∙ ap (λ o. option_or o (first_some (reply_out id) outs)) (reply_of-with_out id entries out)
    ∙ or_assoc (reply_of entries id) (reply_out id out) (first_some (reply_out id) outs)

reply_in-arrival : (id : RequestId) (arrival : Arrival) → reply_in id (what_of arrival) ≡ None
reply_in-arrival id (Arrival.Gives request) = refl
reply_in-arrival id (Arrival.Takes event) = refl

-- the reply to an id is the first
pub reply_of-grow : (id : RequestId) (n : ℕ) (entries : List Entry) (arrival : Arrival) → reply_of (grow n entries arrival) id ≡ option_or (reply_of entries id) (first_some (reply_out id) (outs_after n entries arrival))
unfolding grow
reply_of-grow id n entries arrival =
    reply_of-outs id (with_what entries (what_of arrival)) (outs_after n entries arrival)
    ∙ ap (λ o. option_or o (first_some (reply_out id) (outs_after n entries arrival)))
    (reply_of-push id entries (entry_of entries (what_of arrival)) ∙ ap (λ o. option_or (reply_of entries id) o) (reply_in-arrival id arrival) ∙ or_none (reply_of entries id))
