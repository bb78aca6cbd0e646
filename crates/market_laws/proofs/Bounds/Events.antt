-- The events of one link among those of a journal, and the weights of them all.
use Rattle.std.proofs.Common.{◌≡◌, ◌≢◌, ℕ, ◌+◌, ◌*◌, ◌≤◌, Bool, true, false, List, [], ◌∷◌, Some, None, length, if◌then◌else◌, refl, ap, sym, ◌∙◌, arith}
use Rattle.std.proofs.Math.Nat.{mul-add, mul-one, mul-zero}
use Rattle.std.specs.List.{sum_by, AllByRecursion, cons_option}
use Rattle.std.proofs.lemmas.List.Sums.{sum_by-cons}
use Rattle.market_events.specs.declared.events.Entry.{Entry}
use Rattle.market_events.specs.declared.events.Event.{Event}
use Rattle.market_events.specs.declared.events.What.{What}
use Rattle.market_events.specs.declared.events.What.TheVariants.{Given, Taken, Made, Answered}
use Rattle.market_events.specs.declared.links.Link.{Link}
use Rattle.market_events.specs.Links.{IsLink, receiver_of, same_link}
use Rattle.market_events.specs.Offers.{taken_on}
use Rattle.market_events.proofs.Values.Offers.{same_link-true, same_link-same}
use Rattle.market_history.specs.Sent.{event_made_on, sent}
use Rattle.market_laws.specs.Grown.{event_made, events_made}
use Rattle.market_laws.proofs.Bounds.LinkSums.{over_links, over_links-plus, over_links-part, over_links-one, over_links-none}
use Rattle.market_laws.proofs.Bounds.Weights.{weight}

-- what the events weigh together
abbrev pub weights : List Event → ℕ
weights events = sum_by (λ (e : Event). weight e.link) events

-- one where the event is on the link
abbrev one_on : Event → Link → ℕ
one_on event link = if same_link event.link link then 1 else 0

pub taken_on-cons : (event : Event) (events : List Event) (link : Link) → taken_on (event ∷ events) link ≡ one_on event link + taken_on events link
taken_on-cons event events link = sum_by-cons _ event events

-- the weight of a link for each event on it
abbrev pub weighed : List Event → Link → ℕ
weighed events link = weight link * taken_on events link

weighed-cons : (event : Event) (events : List Event) (link : Link) → weighed (event ∷ events) link ≡ weight link * one_on event link + weighed events link
weighed-cons event events link = ap (λ k. weight link * k) (taken_on-cons event events link) ∙ mul-add (weight link) (one_on event link) (taken_on events link)

alone : (event : Event) → over_links (λ link. weight link * one_on event link) ≤ weight event.link
alone event =
    let one = over_links-one (λ link. weight link * one_on event link) event.link other in
    let here : weight event.link * one_on event event.link ≡ weight event.link = rw (same_link-same event.link) (mul-one (weight event.link)) in
    omega (arith, one, here)
  where
    other : (k : Link) → same_link event.link k ≡ false → weight k * one_on event k ≡ 0
    other k apart = rw apart (mul-zero (weight k))

there : (event : Event) → IsLink event.link → weight event.link ≤ over_links (λ link. weight link * one_on event link)
there event on =
    let part = over_links-part (λ link. weight link * one_on event link) event.link on in
    let here : weight event.link * one_on event event.link ≡ weight event.link = rw (same_link-same event.link) (mul-one (weight event.link)) in
    omega (arith, part, here)

-- the weights link by link are at most those of the events
pub over-weights : (events : List Event) → over_links (weighed events) ≤ weights events
over-weights [] = omega (arith, over_links-none, same)
  where
    same : over_links (weighed []) ≡ over_links (λ l. 0)
    same = ap over_links (λ i l. mul-zero (weight l) i)
over-weights (event ∷ events) =
    let split : over_links (weighed (event ∷ events)) ≡ over_links (λ l. weight l * one_on event l) + over_links (weighed events) =
    ap over_links (λ i l. weighed-cons event events l i) ∙ over_links-plus (λ l. weight l * one_on event l) (weighed events) in
    omega (arith, split, alone event, over-weights events, sum_by-cons (λ (e : Event). weight e.link) event events)

-- and as great, where each event is on a link
pub weights-over : (events : List Event) → AllByRecursion (λ (e : Event). IsLink e.link) events → weights events ≤ over_links (weighed events)
weights-over [] on = omega arith
weights-over (event ∷ events) on =
    let split : over_links (weighed (event ∷ events)) ≡ over_links (λ l. weight l * one_on event l) + over_links (weighed events) =
    ap over_links (λ i l. weighed-cons event events l i) ∙ over_links-plus (λ l. weight l * one_on event l) (weighed events) in
    omega (arith, split, there event on.0, weights-over events on.1, sum_by-cons (λ (e : Event). weight e.link) event events)

-- the count of what was made on a link
pub made_on-sent : (link : Link) (entries : List Entry) → taken_on (events_made entries) link ≡ length (sent link entries)
made_on-sent link [] = refl
made_on-sent link (x ∷ xs) = by x.what (made_on-sent link xs)
  where
    on : (event : Event) (test : Bool) → same_link event.link link ≡ test → taken_on (events_made xs) link ≡ length (sent link xs)
        → taken_on (event ∷ events_made xs) link ≡ length (cons_option (if test then Some event else None) (sent link xs))
    on event true is rest = taken_on-cons event (events_made xs) link ∙ rw is (omega (arith, rest))
    on event false is rest = taken_on-cons event (events_made xs) link ∙ rw is (omega (arith, rest))

    by : (what : What) → taken_on (events_made xs) link ≡ length (sent link xs) → taken_on (cons_option (event_made what) (events_made xs)) link ≡ length (cons_option (event_made_on link what) (sent link xs))
    by (Given request) rest = rest
    by (Taken event) rest = rest
    by (Made event) rest = on event (same_link event.link link) refl rest
    by (Answered id reply) rest = rest

-- none is on a link that leads elsewhere
pub none-elsewhere : (n : ℕ) (link : Link) → receiver_of link ≢ n → (events : List Event) → AllByRecursion (λ (e : Event). receiver_of e.link ≡ n) events → taken_on events link ≡ 0
none-elsewhere n link differs [] into = refl
none-elsewhere n link differs (event ∷ events) into = by (same_link event.link link) refl (none-elsewhere n link differs events into.1)
  where
    by : (test : Bool) → same_link event.link link ≡ test → taken_on events link ≡ 0 → taken_on (event ∷ events) link ≡ 0
    by true is rest = absurd (differs (ap receiver_of (sym (same_link-true event.link link is)) ∙ into.0))
    by false is rest = taken_on-cons event events link ∙ rw is (omega (arith, rest))
