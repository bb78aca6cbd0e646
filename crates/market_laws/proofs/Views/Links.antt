-- Of the events that a node took, what is gathered of bodies that come on one link alone is gathered of that link
-- (gathered-got): so, with taken-all, the changes that a service took are those that came on its link.
use Rattle.std.proofs.Common.{◌≡◌, ℕ, Bool, true, false, List, [], ◌∷◌, Option, Some, None, filter_map, if◌then◌else◌, refl, ap, sym, ◌∙◌, subst}
use Rattle.std.specs.Prelude.{map}
use Rattle.std.specs.List.{AllByRecursion, cons_option}
use Rattle.std.specs.Option.{option_to_list}
use Rattle.market_events.specs.declared.bodies.Body.{Body}
use Rattle.market_events.specs.declared.events.Entry.{Entry}
use Rattle.market_events.specs.declared.events.Event.{Event}
use Rattle.market_events.specs.declared.events.What.{What}
use Rattle.market_events.specs.declared.events.What.TheVariants.{Given, Taken, Made, Answered}
use Rattle.market_events.specs.declared.links.Link.{Link}
use Rattle.market_events.specs.Carried.{carries}
use Rattle.market_events.specs.Links.{IsLink, receiver_of, same_link}
use Rattle.market_history.specs.Blocks.{Arrival, what_of}
use Rattle.market_history.specs.Causality.{event_taken, events_taken}
use Rattle.market_history.specs.Lawful.{IsReadyAfter}
use Rattle.market_history.specs.Sent.{got_on, got}
use Rattle.market_history.proofs.GrowLaws.{events_taken-grow}
use Rattle.market_laws.specs.Grown.{Grown, nothing, more}
use Rattle.market_laws.proofs.Growth.Members.{all-append, all-weaker}

-- the event came on a link into the node, which carries its body
pub record CameInto (n : ℕ) (event : Event) : Type 0 where
  pub on : IsLink event.link
  pub into : receiver_of event.link ≡ n
  pub carried : carries event.link event.body ≡ true

-- each event that was taken in a grown journal
pub grown-came : (n : ℕ) {j : List Entry} → Grown n j → AllByRecursion (CameInto n) (events_taken j)
grown-came n nothing = tt
grown-came n (more j a grown ready) =
    subst (AllByRecursion (CameInto n)) (sym (events_taken-grow n j a)) (all-append (CameInto n) (events_taken j) (option_to_list (event_taken (what_of a))) (grown-came n grown) (by a ready))
  where
    by : (b : Arrival) → IsReadyAfter n j (what_of b) → AllByRecursion (CameInto n) (option_to_list (event_taken (what_of b)))
    by (Arrival.Gives request) can = tt
    by (Arrival.Takes event) can = (record { on = can.0; into = can.1; carried = can.2 }, tt)

-- nothing is gathered of the events on other links
gathered_on : {B : Type 0} (f : Body → Option B) (link : Link) (j : List Entry) → AllByRecursion (λ (e : Event). same_link e.link link ≡ false → f e.body ≡ None) (events_taken j)
    → filter_map f (map (λ (e : Event). e.body) (events_taken j)) ≡ filter_map f (map (λ (e : Event). e.body) (got link j))
gathered_on f link [] none = refl
gathered_on {B = B} f link (x ∷ xs) none = by x.what none (λ rest. gathered_on f link xs rest)
  where
    Rest : Type 0
    Rest = AllByRecursion (λ (e : Event). same_link e.link link ≡ false → f e.body ≡ None) (events_taken xs)
        → filter_map f (map (λ (e : Event). e.body) (events_taken xs)) ≡ filter_map f (map (λ (e : Event). e.body) (got link xs))

    on : (event : Event) (test : Bool) → same_link event.link link ≡ test → (same_link event.link link ≡ false → f event.body ≡ None)
        → filter_map f (map (λ (e : Event). e.body) (events_taken xs)) ≡ filter_map f (map (λ (e : Event). e.body) (got link xs))
        → cons_option (f event.body) (filter_map f (map (λ (e : Event). e.body) (events_taken xs))) ≡ filter_map f (map (λ (e : Event). e.body) (cons_option (if test then Some event else None) (got link xs)))
    on event true is other rest = ap (cons_option (f event.body)) rest
    on event false is other rest = ap (λ o. cons_option o (filter_map f (map (λ (e : Event). e.body) (events_taken xs)))) (other is) ∙ rest

    by : (what : What) → AllByRecursion (λ (e : Event). same_link e.link link ≡ false → f e.body ≡ None) (cons_option (event_taken what) (events_taken xs)) → Rest
        → filter_map f (map (λ (e : Event). e.body) (cons_option (event_taken what) (events_taken xs))) ≡ filter_map f (map (λ (e : Event). e.body) (cons_option (got_on link what) (got link xs)))
    by (Given request) none rest = rest none
    by (Taken event) none rest = on event (same_link event.link link) refl none.0 (rest none.1)
    by (Made event) none rest = rest none
    by (Answered id reply) none rest = rest none

-- what is gathered of bodies that come into the node on one link alone
pub gathered-got : {B : Type 0} (f : Body → Option B) (n : ℕ) (link : Link) {j : List Entry} → Grown n j
    → ((other : Link) (b : Body) → IsLink other → receiver_of other ≡ n → carries other b ≡ true → same_link other link ≡ false → f b ≡ None)
    → filter_map f (map (λ (e : Event). e.body) (events_taken j)) ≡ filter_map f (map (λ (e : Event). e.body) (got link j))
gathered-got f n link {j = j} grown alone =
    gathered_on f link j
    (all-weaker (CameInto n) (λ (e : Event). same_link e.link link ≡ false → f e.body ≡ None) (λ e came other. alone e.link e.body came.on came.into came.carried other)
    (events_taken j) (grown-came n grown))
