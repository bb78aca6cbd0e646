-- What is due of one entry after those before it, and that it is what makes a journal lawful beside its blocks.
use Rattle.std.proofs.Common.{◌≡◌, ℕ, ◌+◌, Bool, true, false, List, [], ◌∷◌, ◌++◌, Some, None, length, if◌then◌else◌, nat_le, nat_lt, refl, ap, sym, ◌∙◌, subst, append-nil, append_assoc, arith}
use Rattle.std.specs.List.{cons_option}
use Rattle.std.specs.Option.{option_to_list}
use Rattle.std.proofs.lemmas.Bool.Decides.{nat_tests}
use Rattle.std.proofs.lemmas.List.Elements.{filter_map-append}
use Rattle.std.proofs.lemmas.List.Sums.{sum_by-cons}
use Rattle.market_events.specs.declared.bodies.Body.{Body}
use Rattle.market_events.specs.declared.events.Entry.{Entry}
use Rattle.market_events.specs.declared.events.Event.{Event}
use Rattle.market_events.specs.declared.events.Offer.TheVariants as offer
use Rattle.market_events.specs.declared.events.What.{What}
use Rattle.market_events.specs.declared.events.What.TheVariants.{Given, Taken, Made, Answered}
use Rattle.market_events.specs.declared.links.Link.{Link}
use Rattle.market_events.specs.Links.{same_link}
use Rattle.market_events.specs.Offers.{taken_on, counts_of, is_ready, offer_of}
use Rattle.market_events.proofs.Values.Offers.{same_link-true, same_link-same}
use Rattle.market_history.specs.Blocks.{Input, Out, Part, part_of, Arrival, what_of, input_of, next_event}
use Rattle.market_history.specs.Causality.{past_of, RestsOn, event_taken, events_taken}
use Rattle.market_history.specs.Lawful.{IsReadyAfter}
use Rattle.market_history.specs.Sent.{event_made_on, got_on, sent, got, IsNumbered}
use Rattle.market_history.specs.Stamps.{EachAfter, clock_before, IsStampedAfter}
use Rattle.market_history.proofs.GrowLaws.{entry_of, what_left}
use Rattle.market_history.proofs.SentLaws.{IsNumbered-push, IsNumbered-at, sent-push-made, got-push-taken, sent-push, got-push}

-- an event that is made has the next number of its link, and so has one that is taken
abbrev pub HasNumber : List Entry → What → Type 0
HasNumber before (Given request) = Unit {0}
HasNumber before (Taken event) = event.number ≡ length (got event.link before) + 1
HasNumber before (Made event) = event.number ≡ length (sent event.link before) + 1
HasNumber before (Answered id reply) = Unit {0}

-- an entry after those before it, at node n
pub record IsDue (n : ℕ) (before : List Entry) (x : Entry) : Type 0 where
  pub stamp : IsStampedAfter before x
  pub rests : RestsOn before x.what
  pub ready : IsReadyAfter n before x.what
  pub number : HasNumber before x.what

-- the count of what was taken on a link
pub taken_on-got : (link : Link) (entries : List Entry) → taken_on (events_taken entries) link ≡ length (got link entries)
taken_on-got link [] = refl
taken_on-got link (x ∷ xs) = by x.what (taken_on-got link xs)
  where
    on : (event : Event) (test : Bool) → same_link event.link link ≡ test → taken_on (events_taken xs) link ≡ length (got link xs)
        → taken_on (event ∷ events_taken xs) link ≡ length (cons_option (if test then Some event else None) (got link xs))
    on event true is rest = sum_by-cons _ event (events_taken xs) ∙ rw is (omega (arith, rest))
    on event false is rest = sum_by-cons _ event (events_taken xs) ∙ rw is (omega (arith, rest))

    by : (what : What) → taken_on (events_taken xs) link ≡ length (got link xs) → taken_on (cons_option (event_taken what) (events_taken xs)) link ≡ length (cons_option (got_on link what) (got link xs))
    by (Given request) rest = rest
    by (Taken event) rest = on event (same_link event.link link) refl rest
    by (Made event) rest = rest
    by (Answered id reply) rest = rest

-- an event that can be taken is the next of its link
take_number : (number count : ℕ) (node : ℕ) (counts past : List ℕ) (a b c : Bool) → nat_le number count ≡ a → nat_lt (count + 1) number ≡ b
    → (if a then offer.Old else if b then offer.Ahead else if c then offer.Take else offer.NotReady) ≡ offer.Take → number ≡ count + 1
take_number number count node counts past true b c below above take = let no : ⊥ = cc in absurd no
take_number number count node counts past false true c below above take = let no : ⊥ = cc in absurd no
take_number number count node counts past false false c below above take = grind (arith, nat_tests)

pub number-taken : (n : ℕ) (before : List Entry) (event : Event) → offer_of n (events_taken before) event ≡ offer.Take → event.number ≡ length (got event.link before) + 1
number-taken n before event take =
    let count = taken_on (events_taken before) event.link in
    let counts = counts_of (events_taken before) in
    take_number event.number count n counts event.past (nat_le event.number count) (nat_lt (count + 1) event.number) (is_ready n counts event.past) refl refl take
    ∙ ap (λ k. k + 1) (taken_on-got event.link before)

-- what a node makes is due
pub due-left : (n : ℕ) (before : List Entry) (out : Out) → IsDue n before (entry_of before (what_left before out))
due-left n before (Out.Makes link b) = record { stamp = (refl, refl); rests = refl; ready = tt; number = refl }
due-left n before (Out.Answers id reply) = record { stamp = (refl, tt); rests = tt; ready = tt; number = tt }

-- what arrives is due, where it is ready
pub due-arrival : (n : ℕ) (before : List Entry) (arrival : Arrival) → IsReadyAfter n before (what_of arrival) → IsDue n before (entry_of before (what_of arrival))
due-arrival n before (Arrival.Gives request) ready = record { stamp = (refl, tt); rests = tt; ready = ready; number = tt }
due-arrival n before (Arrival.Takes event) ready = record { stamp = (refl, tt); rests = tt; ready = ready; number = number-taken n before event ready.3 }

-- the event, with these fields
event_by : (event : Event) (link : Link) (number clock : ℕ) (past : List ℕ) (b : Body) → event.link ≡ link → event.number ≡ number → event.clock ≡ clock → event.past ≡ past → event.body ≡ b
    → (let made : Event = record { link = link; number = number; clock = clock; past = past; body = b } in event ≡ made)
event_by event link number clock past b p q r s t = λ i. record { link = p i; number = q i; clock = r i; past = s i; body = t i }

-- an entry that is due and made is what the node makes
pub left-is : (n : ℕ) (before : List Entry) (x : Entry) (out : Out) → IsDue n before x → part_of x.what ≡ Part.Left out → x ≡ entry_of before (what_left before out)
left-is n before x out due is = by x.clock x.what due is out is
  where
    is_made : (clock : ℕ) (event : Event) (link : Link) (b : Body) → (let x : Entry = record { clock = clock; what = Made event } in IsDue n before x) → event.link ≡ link → event.body ≡ b → event ≡ next_event before link b
    is_made clock event link b due on holds =
        event_by event link (length (sent link before) + 1) (clock_before before + 1) (past_of before) b on
        (due.number ∙ ap (λ l. length (sent l before) + 1) on) (due.stamp.1 ∙ due.stamp.0) due.rests holds

    by : (clock : ℕ) (what : What) → (let x : Entry = record { clock = clock; what = what } in IsDue n before x) → part_of what ≡ Part.Left out → (out : Out) → part_of what ≡ Part.Left out
        → (let x : Entry = record { clock = clock; what = what } in x ≡ entry_of before (what_left before out))
    by clock (Given request) due h out is = let no : ⊥ = cc in absurd no
    by clock (Taken event) due h out is = let no : ⊥ = cc in absurd no
    by clock (Made event) due h (Out.Makes link b) is =
        let on : event.link ≡ link = cc in
        let holds : event.body ≡ b = cc in
        let e = is_made clock event link b due on holds in
        λ i. record { clock = due.stamp.0 i; what = Made (e i) }
    by clock (Made event) due h (Out.Answers id reply) is = let no : ⊥ = cc in absurd no
    by clock (Answered id reply) due h (Out.Makes link b) is = let no : ⊥ = cc in absurd no
    by clock (Answered id reply) due h (Out.Answers i r) is =
        let same : id ≡ i = cc in
        let also : reply ≡ r = cc in
        λ j. record { clock = due.stamp.0 j; what = Answered (same j) (also j) }

-- an entry that is due and came is an arrival
pub record CameBy (n : ℕ) (before : List Entry) (x : Entry) (input : Input) : Type 0 where
  pub arrival : Arrival
  pub input_is : input_of arrival ≡ input
  pub entry : x ≡ entry_of before (what_of arrival)
  pub ready : IsReadyAfter n before (what_of arrival)

pub came-is : (n : ℕ) (before : List Entry) (x : Entry) (input : Input) → IsDue n before x → part_of x.what ≡ Part.Came input → CameBy n before x input
came-is n before x input due is = by x.clock x.what due is
  where
    by : (clock : ℕ) (what : What) → (let x : Entry = record { clock = clock; what = what } in IsDue n before x) → part_of what ≡ Part.Came input
        → (let x : Entry = record { clock = clock; what = what } in CameBy n before x input)
    by clock (Given request) due is =
        let e : Input.Gives request ≡ input = cc in
        record { arrival = Arrival.Gives request; input_is = e; entry = λ i. record { clock = due.stamp.0 i; what = Given request }; ready = due.ready }
    by clock (Taken event) due is =
        let e : Input.Takes event.link event.body ≡ input = cc in
        record { arrival = Arrival.Takes event; input_is = e; entry = λ i. record { clock = due.stamp.0 i; what = Taken event }; ready = due.ready }
    by clock (Made event) due is = let no : ⊥ = cc in absurd no
    by clock (Answered id reply) due is = let no : ⊥ = cc in absurd no

-- each entry is due: the numbers of what was made and taken on a link go on
sent_from : (n : ℕ) (link : Link) (before xs : List Entry) → IsNumbered (sent link before) → EachAfter (IsDue n) before xs → IsNumbered (sent link (before ++ xs))
sent_from n link before [] numbered each = subst (λ l. IsNumbered (sent link l)) (sym (append-nil before)) numbered
sent_from n link before (x ∷ xs) numbered each =
    subst (λ l. IsNumbered (sent link l)) (append_assoc before (x ∷ []) xs) (sent_from n link (before ++ x ∷ []) xs (one x.what refl each.0.number) each.1)
  where
    next : (event : Event) → event.number ≡ length (sent event.link before) + 1 → (test : Bool) → same_link event.link link ≡ test → IsNumbered (sent link before ++ option_to_list (if test then Some event else None))
    next event number true is =
        IsNumbered-push (sent link before) event numbered (number ∙ ap (λ l. length (sent l before) + 1) (same_link-true event.link link is))
    next event number false is = subst (λ l. IsNumbered l) (sym (append-nil (sent link before))) numbered

    by : (what : What) → HasNumber before what → IsNumbered (sent link before ++ option_to_list (event_made_on link what))
    by (Given request) number = subst (λ l. IsNumbered l) (sym (append-nil (sent link before))) numbered
    by (Taken event) number = subst (λ l. IsNumbered l) (sym (append-nil (sent link before))) numbered
    by (Made event) number = next event number (same_link event.link link) refl
    by (Answered id reply) number = subst (λ l. IsNumbered l) (sym (append-nil (sent link before))) numbered

    one : (what : What) → x.what ≡ what → HasNumber before x.what → IsNumbered (sent link (before ++ x ∷ []))
    one what is number = subst (λ l. IsNumbered l) (sym (sent-push link before x)) (by x.what number)

got_from : (n : ℕ) (link : Link) (before xs : List Entry) → IsNumbered (got link before) → EachAfter (IsDue n) before xs → IsNumbered (got link (before ++ xs))
got_from n link before [] numbered each = subst (λ l. IsNumbered (got link l)) (sym (append-nil before)) numbered
got_from n link before (x ∷ xs) numbered each =
    subst (λ l. IsNumbered (got link l)) (append_assoc before (x ∷ []) xs) (got_from n link (before ++ x ∷ []) xs one each.1)
  where
    next : (event : Event) → event.number ≡ length (got event.link before) + 1 → (test : Bool) → same_link event.link link ≡ test → IsNumbered (got link before ++ option_to_list (if test then Some event else None))
    next event number true is =
        IsNumbered-push (got link before) event numbered (number ∙ ap (λ l. length (got l before) + 1) (same_link-true event.link link is))
    next event number false is = subst (λ l. IsNumbered l) (sym (append-nil (got link before))) numbered

    by : (what : What) → HasNumber before what → IsNumbered (got link before ++ option_to_list (got_on link what))
    by (Given request) number = subst (λ l. IsNumbered l) (sym (append-nil (got link before))) numbered
    by (Taken event) number = next event number (same_link event.link link) refl
    by (Made event) number = subst (λ l. IsNumbered l) (sym (append-nil (got link before))) numbered
    by (Answered id reply) number = subst (λ l. IsNumbered l) (sym (append-nil (got link before))) numbered

    one : IsNumbered (got link (before ++ x ∷ []))
    one = subst (λ l. IsNumbered l) (sym (got-push link before x)) (by x.what each.0.number)

pub sent_numbered : (n : ℕ) (entries : List Entry) → EachAfter (IsDue n) [] entries → (link : Link) → IsNumbered (sent link entries)
sent_numbered n entries each link = sent_from n link [] entries refl each

pub got_numbered : (n : ℕ) (entries : List Entry) → EachAfter (IsDue n) [] entries → (link : Link) → IsNumbered (got link entries)
got_numbered n entries each link = got_from n link [] entries refl each

-- where all is numbered, each entry has its number
sent_at : (before : List Entry) (x : Entry) (xs : List Entry) (event : Event) → ((link : Link) → IsNumbered (sent link (before ++ x ∷ xs))) → x.what ≡ Made event → event.number ≡ length (sent event.link before) + 1
sent_at before x xs event numbered is =
    let link = event.link in
    let here : sent link (before ++ x ∷ xs) ≡ sent link before ++ event ∷ sent link xs =
    ap (sent link) (sym (append_assoc before (x ∷ []) xs)) ∙ filter_map-append (λ (y : Entry). event_made_on link y.what) (before ++ x ∷ []) xs
    ∙ ap (λ l. l ++ sent link xs) (sent-push-made link before x event is (same_link-same link)) ∙ append_assoc (sent link before) (event ∷ []) (sent link xs) in
    IsNumbered-at (sent link before) event (sent link xs) (subst (λ l. IsNumbered l) here (numbered link))

got_at : (before : List Entry) (x : Entry) (xs : List Entry) (event : Event) → ((link : Link) → IsNumbered (got link (before ++ x ∷ xs))) → x.what ≡ Taken event → event.number ≡ length (got event.link before) + 1
got_at before x xs event numbered is =
    let link = event.link in
    let here : got link (before ++ x ∷ xs) ≡ got link before ++ event ∷ got link xs =
    ap (got link) (sym (append_assoc before (x ∷ []) xs)) ∙ filter_map-append (λ (y : Entry). got_on link y.what) (before ++ x ∷ []) xs
    ∙ ap (λ l. l ++ got link xs) (got-push-taken link before x event is (same_link-same link)) ∙ append_assoc (got link before) (event ∷ []) (got link xs) in
    IsNumbered-at (got link before) event (got link xs) (subst (λ l. IsNumbered l) here (numbered link))

-- what is numbered, stamped, resting on its past and ready, is due
pub all_due : (n : ℕ) (before xs : List Entry) → ((link : Link) → IsNumbered (sent link (before ++ xs))) → ((link : Link) → IsNumbered (got link (before ++ xs)))
    → EachAfter IsStampedAfter before xs → EachAfter (λ b (x : Entry). RestsOn b x.what) before xs → EachAfter (λ b (x : Entry). IsReadyAfter n b x.what) before xs → EachAfter (IsDue n) before xs
all_due n before [] sents gots stamps pasts ready = tt
all_due n before (x ∷ xs) sents gots stamps pasts ready = (
  record { stamp = stamps.0; rests = pasts.0; ready = ready.0; number = number x.what refl },
  all_due n (before ++ x ∷ []) xs (λ link. rw append_assoc (sents link)) (λ link. rw append_assoc (gots link)) stamps.1 pasts.1 ready.1,
)
  where
    number : (what : What) → x.what ≡ what → HasNumber before what
    number (Given request) is = tt
    number (Taken event) is = got_at before x xs event gots is
    number (Made event) is = sent_at before x xs event sents is
    number (Answered id reply) is = tt
