-- A service takes few steps: each event that is taken was made elsewhere, by another entry, and all entries are few.
use Rattle.std.proofs.Common.{◌≡◌, ◌≢◌, ℕ, ◌+◌, ◌*◌, ◌<◌, ◌≤◌, Bool, true, false, List, [], ◌∷◌, length, length-append, if◌then◌else◌, refl, ap, sym, ◌∙◌, arith}
use Rattle.std.specs.Prelude.{fold, slice_index_or}
use Rattle.std.specs.List.{AllByRecursion, cons_option}
use Rattle.std.proofs.lemmas.List.Elements.{filter_map-append}
use Rattle.std.proofs.lemmas.List.Sums.{sum_by-cons}
use Rattle.market_events.specs.declared.bodies.Body.{Body}
use Rattle.market_events.specs.declared.events.Entry.{Entry}
use Rattle.market_events.specs.declared.events.Event.{Event}
use Rattle.market_events.specs.declared.events.What.{What}
use Rattle.market_events.specs.declared.events.What.TheVariants.{Given, Taken, Made, Answered}
use Rattle.market_events.specs.declared.links.Link.{Link}
use Rattle.market_events.specs.Links.{IsLink, sender_of, receiver_of, same_link}
use Rattle.market_events.specs.Offers.{taken_on}
use Rattle.market_events.specs.declared.nodes.TheConstants.{NODES}
use Rattle.market_events.specs.declared.roles.Role.{Role}
use Rattle.market_events.specs.Services.{fits, most_steps}
use Rattle.market_events.specs.Standing.{step_of, with_step}
use Rattle.market_events.specs.Steps.{Step}
use Rattle.market_events.proofs.Values.Offers.{same_link-same}
use Rattle.market_history.specs.Blocks.{Input, part_of, input_in, inputs_of, role_at, with_input}
use Rattle.market_history.specs.Causality.{event_taken, events_taken}
use Rattle.market_history.specs.Histories.{Histories, journal_at}
use Rattle.market_history.specs.Lawful.{IsLawful}
use Rattle.market_history.specs.Sent.{sent, got}
use Rattle.market_laws.specs.Cuts.{entry_with, steps_at, TookAt}
use Rattle.market_laws.specs.Entries.{total_entries}
use Rattle.market_laws.specs.Grown.{event_made, events_made}
use Rattle.market_laws.proofs.Growth.Members.{all-weaker}
use Rattle.market_laws.proofs.Growth.Due.{taken_on-got}
use Rattle.market_laws.proofs.Bounds.Events.{made_on-sent, none-elsewhere}
use Rattle.market_laws.proofs.Bounds.Few.{few}
use Rattle.market_laws.proofs.Bounds.Journals.{IsTakenAt, grown-taken}
use Rattle.market_laws.proofs.Bounds.LinkEnds.{sender-small}
use Rattle.market_laws.proofs.Bounds.LinkSums.{over_links, over_links-le, over_links-plus, over_links-part, over_links-one, over_links-none, over_links-swap}
use Rattle.market_laws.proofs.Bounds.Sums.{sum_to, sum_to-le, sum_to-plus, sum_to-part, sum_to-one, sum_to-list}
use Rattle.market_laws.proofs.Growth.Takers.{grown_at}

-- one where the event is on the link
abbrev one_on : Event → Link → ℕ
one_on event link = if same_link event.link link then 1 else 0

one_here : (event : Event) → one_on event event.link ≡ 1
one_here event = rw (same_link-same event.link) refl

one_elsewhere : (event : Event) (link : Link) → same_link event.link link ≡ false → one_on event link ≡ 0
one_elsewhere event link apart = rw apart refl

over-cons : (event : Event) (events : List Event) → over_links (taken_on (event ∷ events)) ≡ over_links (one_on event) + over_links (taken_on events)
over-cons event events = ap over_links (λ i l. sum_by-cons (λ (e : Event). if same_link e.link l then 1 else 0) event events i) ∙ over_links-plus (one_on event) (taken_on events)

-- the events on each link are no more than there are
over-length : (events : List Event) → over_links (taken_on events) ≤ length events
over-length [] = let none : over_links (taken_on []) ≡ 0 = over_links-none in omega arith
over-length (event ∷ events) =
    let alone : over_links (one_on event) ≤ one_on event event.link = over_links-one (one_on event) event.link (one_elsewhere event) in
    omega (arith, alone, one_here event, over-cons event events, over-length events)

-- and as many, where each is on a link
length-over : (events : List Event) → AllByRecursion (λ (e : Event). IsLink e.link) events → length events ≤ over_links (taken_on events)
length-over [] on = omega arith
length-over (event ∷ events) on =
    let part : one_on event event.link ≤ over_links (one_on event) = over_links-part (one_on event) event.link on.0 in
    omega (arith, part, one_here event, over-cons event events, length-over events on.1)

-- what was taken and what was made are entries
parts_length : (entries : List Entry) → length (events_taken entries) + length (events_made entries) ≤ length entries
parts_length [] = omega arith
parts_length (x ∷ xs) = by x.what (parts_length xs)
  where
    by : (what : What) → length (events_taken xs) + length (events_made xs) ≤ length xs
        → length (cons_option (event_taken what) (events_taken xs)) + length (cons_option (event_made what) (events_made xs)) ≤ length (x ∷ xs)
    by (Given request) rest = omega (arith, rest)
    by (Taken event) rest = omega (arith, rest)
    by (Made event) rest = omega (arith, rest)
    by (Answered id reply) rest = omega (arith, rest)

-- an input adds one step at most
with_input-length : (role : Role) (steps : List Step) (from : Link) (b : Body) → length (with_input role steps (Input.Takes from b)) ≤ length steps + 1
with_input-length role steps from b = by (fits role steps from b)
  where
    by : (test : Bool) → length (if test then with_step role steps from b else steps) ≤ length steps + 1
    by true = omega (arith, length-append steps (step_of role steps from b ∷ []))
    by false = omega arith

-- the steps are no more than the events that were taken
steps_length : (role : Role) (steps : List Step) (entries : List Entry) → length (fold (with_input role) steps (inputs_of entries)) ≤ length steps + length (events_taken entries)
steps_length role steps [] = omega arith
steps_length role steps (x ∷ xs) = by x.what (λ more. steps_length role more xs)
  where
    by : (what : What) → ((more : List Step) → length (fold (with_input role) more (inputs_of xs)) ≤ length more + length (events_taken xs))
        → length (fold (with_input role) steps (cons_option (input_in (part_of what)) (inputs_of xs))) ≤ length steps + length (cons_option (event_taken what) (events_taken xs))
    by (Given request) rest = rest steps
    by (Taken event) rest =
        omega (arith, rest (with_input role steps (Input.Takes event.link event.body)), with_input-length role steps event.link event.body)
    by (Made event) rest = rest steps
    by (Answered id reply) rest = rest steps

module _ (h : Histories) (lawful : IsLawful h) where
  -- on one link no more was taken, at all nodes, than was made
  one_link : (link : Link) → IsLink link → sum_to (λ n. taken_on (events_taken (journal_at h n)) link) NODES ≤ sum_to (λ n. taken_on (events_made (journal_at h n)) link) NODES
  one_link link on =
      let alone = sum_to-one (λ n. taken_on (events_taken (journal_at h n)) link) NODES (receiver_of link) elsewhere in
      let there = sum_to-part (λ n. taken_on (events_made (journal_at h n)) link) NODES (sender_of link) (sender-small link on) in
      omega (arith, alone, there, fewer)
    where
      elsewhere : (n : ℕ) → n < NODES → n ≢ receiver_of link → taken_on (events_taken (journal_at h n)) link ≡ 0
      elsewhere n lt differs =
          none-elsewhere n link (λ e. differs (sym e)) (events_taken (journal_at h n))
          (all-weaker (IsTakenAt n) (λ (e : Event). receiver_of e.link ≡ n) (λ e is. is.into) (events_taken (journal_at h n)) (grown-taken n (grown_at h n lawful lt)))

      fewer : taken_on (events_taken (journal_at h (receiver_of link))) link ≤ taken_on (events_made (journal_at h (sender_of link))) link
      fewer =
          let matched = lawful.matched link on in
          let longer : length (sent link (journal_at h (sender_of link))) ≡ length (got link (journal_at h (receiver_of link))) + length matched.0 =
          ap length matched.1 ∙ length-append (got link (journal_at h (receiver_of link))) matched.0 in
          omega (arith, longer, taken_on-got link (journal_at h (receiver_of link)), made_on-sent link (journal_at h (sender_of link)))

  -- no more events were taken than made
  balance : sum_to (λ n. length (events_taken (journal_at h n))) NODES ≤ sum_to (λ n. length (events_made (journal_at h n))) NODES
  balance =
      let taken : sum_to (λ n. length (events_taken (journal_at h n))) NODES ≤ sum_to (λ n. over_links (taken_on (events_taken (journal_at h n)))) NODES =
      sum_to-le (λ n. length (events_taken (journal_at h n))) (λ n. over_links (taken_on (events_taken (journal_at h n)))) NODES
      (λ n lt. length-over (events_taken (journal_at h n)) (all-weaker (IsTakenAt n) (λ (e : Event). IsLink e.link) (λ e is. is.on) (events_taken (journal_at h n)) (grown-taken n (grown_at h n lawful lt)))) in
      let made : sum_to (λ n. over_links (taken_on (events_made (journal_at h n)))) NODES ≤ sum_to (λ n. length (events_made (journal_at h n))) NODES =
      sum_to-le (λ n. over_links (taken_on (events_made (journal_at h n)))) (λ n. length (events_made (journal_at h n))) NODES (λ n lt. over-length (events_made (journal_at h n))) in
      let links : over_links (λ l. sum_to (λ n. taken_on (events_taken (journal_at h n)) l) NODES) ≤ over_links (λ l. sum_to (λ n. taken_on (events_made (journal_at h n)) l) NODES) =
      over_links-le (λ l. sum_to (λ n. taken_on (events_taken (journal_at h n)) l) NODES) (λ l. sum_to (λ n. taken_on (events_made (journal_at h n)) l) NODES) one_link in
      omega (arith, taken, made, links, over_links-swap (λ n. taken_on (events_taken (journal_at h n))) NODES, over_links-swap (λ n. taken_on (events_made (journal_at h n))) NODES)

  total : total_entries h ≡ sum_to (λ n. length (journal_at h n)) NODES
  unfolding journal_at
  total = sum_to-list (λ (j : List Entry). length j) h [] ∙ ap (sum_to (λ n. length (slice_index_or h n []))) lawful.each

  -- what a node takes is at most half of all entries
  pub taken-few : (n : ℕ) → n < NODES → 2 * length (events_taken (journal_at h n)) ≤ total_entries h
  taken-few n lt =
      let both = sum_to-le (λ n. length (events_taken (journal_at h n)) + length (events_made (journal_at h n))) (λ n. length (journal_at h n)) NODES (λ n lt. parts_length (journal_at h n)) in
      let split = sum_to-plus (λ n. length (events_taken (journal_at h n))) (λ n. length (events_made (journal_at h n))) NODES in
      omega (arith, both, split, balance, total, sum_to-part (λ n. length (events_taken (journal_at h n))) NODES n lt)

  -- the steps that a service took before an event are fewer than it may take
  pub every-few : (n : ℕ) (event : Event) → (t : TookAt h n event) → length (steps_at n t.before) < most_steps
  every-few n event t =
      let later = entry_with t.clock (Taken event) ∷ t.after in
      let taken : length (events_taken (journal_at h n)) ≡ length (events_taken t.before) + length (events_taken later) =
      ap (λ j. length (events_taken j)) t.is ∙ ap length (filter_map-append (λ (x : Entry). event_taken x.what) t.before later) ∙ length-append (events_taken t.before) (events_taken later) in
      omega (arith, few h lawful, taken-few n t.node, taken, steps_length (role_at n) [] t.before)
