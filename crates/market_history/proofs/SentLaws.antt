-- One more entry of a journal, and the events of a link.
use Rattle.std.proofs.Common.{◌≡◌, ℕ, ◌+◌, true, List, [], ◌∷◌, ◌++◌, Option, Some, None, length, refl, ap, sym, ◌∙◌, arith, append_assoc}
use Rattle.std.specs.Prelude.{map, slice_get}
use Rattle.std.specs.List.{cons_option, filter_map, range_with_len}
use Rattle.std.specs.Option.{option_to_list}
use Rattle.std.proofs.lemmas.List.{append-nil}
use Rattle.std.proofs.lemmas.List.Elements.{filter_map-append}
use Rattle.market_events.specs.declared.events.Entry.{Entry}
use Rattle.market_events.specs.declared.events.Event.{Event}
use Rattle.market_events.specs.declared.events.What.TheVariants.{Taken, Made}
use Rattle.market_events.specs.declared.links.Link.{Link}
use Rattle.market_events.specs.Links.{same_link}
use Rattle.market_history.specs.Sent.{event_on, event_made_on, got_on, sent, got, IsNumbered, IsPrefixOf}

-- one element more gives at most one more
pub filter_map-push : {A B : Type 0} (f : A → Option B) (xs : List A) (x : A) → filter_map f (xs ++ x ∷ []) ≡ filter_map f xs ++ option_to_list (f x)
filter_map-push f xs x = filter_map-append f xs (x ∷ []) ∙ ap (λ ys. filter_map f xs ++ ys) (of_one (f x))
  where
    of_one : {B : Type 0} (o : Option B) → cons_option o [] ≡ option_to_list o
    of_one None = refl
    of_one (Some y) = refl

-- one entry more, whatever it is
pub sent-push : (link : Link) (xs : List Entry) (x : Entry) → sent link (xs ++ x ∷ []) ≡ sent link xs ++ option_to_list (event_made_on link x.what)
sent-push link xs x = filter_map-push (λ (y : Entry). event_made_on link y.what) xs x

pub got-push : (link : Link) (xs : List Entry) (x : Entry) → got link (xs ++ x ∷ []) ≡ got link xs ++ option_to_list (got_on link x.what)
got-push link xs x = filter_map-push (λ (y : Entry). got_on link y.what) xs x

-- an event on the link, and one on another
event_on-same : (link : Link) (event : Event) → same_link event.link link ≡ true → event_on link event ≡ Some event
event_on-same link event same = rw same

-- the entry made this event on the link
pub sent-push-some : (link : Link) (xs : List Entry) (x : Entry) (event : Event) → event_made_on link x.what ≡ Some event → sent link (xs ++ x ∷ []) ≡ sent link xs ++ event ∷ []
sent-push-some link xs x event some = sent-push link xs x ∙ ap (λ o. sent link xs ++ option_to_list o) some

-- the entry made none on the link
pub sent-push-none : (link : Link) (xs : List Entry) (x : Entry) → event_made_on link x.what ≡ None → sent link (xs ++ x ∷ []) ≡ sent link xs
sent-push-none link xs x none =
    sent-push link xs x ∙ ap (λ o. sent link xs ++ option_to_list o) none ∙ append-nil (sent link xs)

pub sent-push-made : (link : Link) (xs : List Entry) (x : Entry) (event : Event) → x.what ≡ Made event → same_link event.link link ≡ true → sent link (xs ++ x ∷ []) ≡ sent link xs ++ event ∷ []
sent-push-made link xs x event is same =
    sent-push-some link xs x event (ap (λ w. event_made_on link w) is ∙ event_on-same link event same)

-- the entry took this event on the link
pub got-push-some : (link : Link) (xs : List Entry) (x : Entry) (event : Event) → got_on link x.what ≡ Some event → got link (xs ++ x ∷ []) ≡ got link xs ++ event ∷ []
got-push-some link xs x event some = got-push link xs x ∙ ap (λ o. got link xs ++ option_to_list o) some

pub got-push-taken : (link : Link) (xs : List Entry) (x : Entry) (event : Event) → x.what ≡ Taken event → same_link event.link link ≡ true → got link (xs ++ x ∷ []) ≡ got link xs ++ event ∷ []
got-push-taken link xs x event is same =
    got-push-some link xs x event (ap (λ w. got_on link w) is ∙ event_on-same link event same)

-- the numbers of the events go up from this one
NumberedFrom : ℕ → List Event → Type 0
NumberedFrom a events = map {A = Event} {B = ℕ} (λ e. e.number) events ≡ range_with_len a (length events)

NumberedFrom-push : (a : ℕ) (events : List Event) (event : Event) → NumberedFrom a events → event.number ≡ a + length events → NumberedFrom a (events ++ event ∷ [])
unfolding NumberedFrom
NumberedFrom-push a [] event numbered next = let e : event.number ≡ a = omega arith in rw e
NumberedFrom-push a (x ∷ xs) event numbered next =
    let first : x.number ≡ a = cc in
    let others : map {A = Event} {B = ℕ} (λ e. e.number) xs ≡ range_with_len (a + 1) (length xs) = cc in
    let e : event.number ≡ a + 1 + length xs = omega arith in
    let more = NumberedFrom-push (a + 1) xs event others e in
    cc

NumberedFrom-front : (a : ℕ) (events more : List Event) → NumberedFrom a (events ++ more) → NumberedFrom a events
unfolding NumberedFrom
NumberedFrom-front a [] more numbered = refl
NumberedFrom-front a (x ∷ xs) more numbered =
    let first : x.number ≡ a = cc in
    let others : map {A = Event} {B = ℕ} (λ e. e.number) (xs ++ more) ≡ range_with_len (a + 1) (length (xs ++ more)) = cc in
    let front = NumberedFrom-front (a + 1) xs more others in
    cc

NumberedFrom-at : (a : ℕ) (before : List Event) (event : Event) (after : List Event) → NumberedFrom a (before ++ event ∷ after) → event.number ≡ a + length before
unfolding NumberedFrom
NumberedFrom-at a [] event after numbered = let first : event.number ≡ a = cc in omega arith
NumberedFrom-at a (x ∷ xs) event after numbered =
    let others : map {A = Event} {B = ℕ} (λ e. e.number) (xs ++ event ∷ after) ≡ range_with_len (a + 1) (length (xs ++ event ∷ after)) = cc in
    let there : event.number ≡ a + 1 + length xs = NumberedFrom-at (a + 1) xs event after others in
    omega arith

-- one event more, with the next number
pub IsNumbered-push : (events : List Event) (event : Event) → IsNumbered events → event.number ≡ length events + 1 → IsNumbered (events ++ event ∷ [])
unfolding NumberedFrom
IsNumbered-push events event numbered next = NumberedFrom-push 1 events event numbered (omega arith)

-- an event's number is one more than there are before it
pub IsNumbered-at : (before : List Event) (event : Event) (after : List Event) → IsNumbered (before ++ event ∷ after) → event.number ≡ length before + 1
unfolding NumberedFrom
IsNumbered-at before event after numbered =
    let there : event.number ≡ 1 + length before = NumberedFrom-at 1 before event after numbered in omega arith

-- what stands right after the first list
slice_get_seam : {A : Type 0} (xs rest : List A) (y : A) → slice_get (xs ++ rest) (length xs) ≡ Some y → (more : List A) × (rest ≡ y ∷ more)
slice_get_seam [] [] y there = let no : ⊥ = cc in absurd no
slice_get_seam [] (z ∷ zs) y there = let e : z ≡ y = cc in (zs, ap (λ w. w ∷ zs) e)
slice_get_seam (x ∷ xs) rest y there = slice_get_seam xs rest y there

-- the element after a prefix makes a longer prefix
pub IsPrefixOf-next : {A : Type 0} (xs ys : List A) (y : A) → IsPrefixOf xs ys → slice_get ys (length xs) ≡ Some y → IsPrefixOf (xs ++ y ∷ []) ys
IsPrefixOf-next xs ys y (rest, is) there =
    let after = slice_get_seam xs rest y (ap (λ l. slice_get l (length xs)) (sym is) ∙ there) in
    (after.0, is ∙ ap (λ l. xs ++ l) after.1 ∙ sym (append_assoc xs (y ∷ []) after.0))
