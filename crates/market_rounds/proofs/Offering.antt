-- Events that wait at a node are offered to it one after the other: the schedule plays the same steps, and each of them may be
-- offered.
use Rattle.std.proofs.Common.{◌≡◌, ◌≢◌, ℕ, ◌<◌, ◌==◌, Bool, true, false, List, [], ◌∷◌, Some, length, refl, ap, subst, sym, ◌∙◌, arith}
use Rattle.std.specs.Prelude.{find, fold}
use Rattle.std.specs.List.{AllByRecursion}
use Rattle.std.specs.Option.{option_or}
use Rattle.std.proofs.lemmas.Bool.Decides.{nat_tests}
use Rattle.std.proofs.lemmas.List.{set-set, append-nil}
use Rattle.std.proofs.lemmas.List.Folds.{find-append}
use Rattle.market_events.specs.declared.events.Entry.{Entry}
use Rattle.market_events.specs.declared.events.Event.{Event}
use Rattle.market_events.specs.declared.events.Offer.{Offer}
use Rattle.market_events.specs.declared.events.Offer.TheVariants as offer
use Rattle.market_events.specs.declared.nodes.TheConstants.{NODES}
use Rattle.market_events.specs.Links.{node_of, sender_of, receiver_of}
use Rattle.market_events.specs.declared.roles.Role.{Role}
use Rattle.market_events.specs.Services.{fits}
use Rattle.market_events.specs.Offers.{offer_of}
use Rattle.market_history.specs.declared.schedule.Step.TheVariants as step
use Rattle.market_history.specs.Blocks.{Arrival, inputs_of, role_at, services, steps_of}
use Rattle.market_history.specs.Causality.{events_taken}
use Rattle.market_history.specs.Histories.{Histories, journal_at, with_journal}
use Rattle.market_history.specs.Lawful.{IsLawful}
use Rattle.market_history.specs.Schedule.{event_at, offered, after_offer, after_offered, play_step, play}
use Rattle.market_history.specs.Sent.{sent, IsPrefixOf}
use Rattle.market_history.proofs.GrowLaws.{grow-begins}
use Rattle.market_history.proofs.GrowSent.{sent-prefix}
use Rattle.market_history.proofs.HistoryLaws.{journal_at-same, journal_at-other}
use Rattle.market_laws.proofs.Growth.Played.{step_keeps}
use Rattle.market_node.specs.Offered.{by_offer, with_offered, with_all_offered, CanTakeAll, FitsService, FitsLane}
use Rattle.market_world.specs.Arriving.{CanOffer}
use Rattle.market_world.proofs.Arrivals.{can_take}
use Rattle.market_world.proofs.Stepping.{with_journal-own}
use Rattle.market_rounds.specs.Turning.{WasMade, offer_steps}

-- a journal that is set twice
pub with_journal-twice : (h : Histories) (n : ℕ) (xs ys : List Entry) → with_journal (with_journal h n xs) n ys ≡ with_journal h n ys
unfolding with_journal
with_journal-twice h n xs ys = set-set h n xs ys

-- a step in which an event that was made is offered to its receiver
step_is : (h : Histories) (n : ℕ) (event : Event) → WasMade h event → receiver_of event.link ≡ n
    → play_step h (step.Offer event.link event.number) ≡ with_journal h n (with_offered n (journal_at h n) event)
unfolding play_step
step_is h n event made into =
    ap (after_offered h) made.made ∙ subst (λ m. after_offer h event (offered h event) ≡ with_journal h m (with_offered m (journal_at h m) event)) into (by_one (offered h event))
  where
    r : ℕ
    r = receiver_of event.link

    by_one : (o : Offer) → after_offer h event o ≡ with_journal h (receiver_of event.link) (by_offer (receiver_of event.link) (journal_at h (receiver_of event.link)) event o)
    by_one offer.Take = refl
    by_one offer.Old = sym (with_journal-own h (receiver_of event.link))
    by_one offer.Ahead = sym (with_journal-own h (receiver_of event.link))
    by_one offer.NotReady = sym (with_journal-own h (receiver_of event.link))

-- entries that events were offered to begin as they were
pub offered_begins : (n : ℕ) (entries : List Entry) (event : Event) → IsPrefixOf entries (with_offered n entries event)
offered_begins n entries event = by_one (offer_of n (events_taken entries) event)
  where
    by_one : (o : Offer) → IsPrefixOf entries (by_offer n entries event o)
    by_one offer.Take = grow-begins n entries (Arrival.Takes event)
    by_one offer.Old = ([], sym (append-nil entries))
    by_one offer.Ahead = ([], sym (append-nil entries))
    by_one offer.NotReady = ([], sym (append-nil entries))

-- what was found among the first is found among all
found_still : (number : ℕ) (xs ys : List Event) (event : Event) → IsPrefixOf xs ys → find (λ (e : Event). e.number == number) xs ≡ Some event → find (λ (e : Event). e.number == number) ys ≡ Some event
found_still number xs ys event (more, is) found =
    ap (λ es. find (λ (e : Event). e.number == number) es) is
    ∙ find-append (λ (e : Event). e.number == number) xs more
    ∙ ap (λ o. option_or o (find (λ (e : Event). e.number == number) more)) found

-- what was made stays made while a journal grows
pub made_still : (h : Histories) (n : ℕ) (entries : List Entry) (event : Event) → n < length h → IsPrefixOf (journal_at h n) entries → WasMade h event → WasMade (with_journal h n entries) event
made_still h n entries event low begins made = record {
  on = made.on;
  made = by_test (sender_of event.link == n) refl;
}
  where
    m : ℕ
    m = sender_of event.link

    by_test : (b : Bool) → (sender_of event.link == n) ≡ b → event_at (with_journal h n entries) event.link event.number ≡ Some event
    by_test true test =
        let same : n ≡ sender_of event.link = grind (arith, nat_tests) in
        let at : journal_at (with_journal h n entries) (sender_of event.link) ≡ entries = ap (journal_at (with_journal h n entries)) (sym same) ∙ journal_at-same h n entries low in
        let longer : IsPrefixOf (journal_at h (sender_of event.link)) entries = subst (λ k. IsPrefixOf (journal_at h k) entries) same begins in
        ap (λ es. find (λ (e : Event). e.number == event.number) (sent event.link es)) at
        ∙ found_still event.number (sent event.link (journal_at h (sender_of event.link))) (sent event.link entries) event (sent-prefix event.link (journal_at h (sender_of event.link)) entries longer) made.made
    by_test false test =
        let other : sender_of event.link ≢ n = grind (arith, nat_tests) in
        ap (λ es. find (λ (e : Event). e.number == event.number) (sent event.link es)) (journal_at-other h n (sender_of event.link) entries other) ∙ made.made

-- events that wait at a node
module _ (n : ℕ) (low : n < NODES) where
  -- the schedule's steps leave what the offers leave
  pub offers_play : (h : Histories) (events : List Event) → IsLawful h → AllByRecursion (WasMade h) events → AllByRecursion (λ (e : Event). receiver_of e.link ≡ n) events
      → play h (offer_steps events) ≡ with_journal h n (with_all_offered n (journal_at h n) events)
  offers_play h [] lawful made into = sym (with_journal-own h n)
  offers_play h (e ∷ es) lawful made into =
      let below : n < length h = subst (λ k. n < k) (sym lawful.each) low in
      let here = step_is h n e made.0 into.0 in
      let after = with_journal h n (with_offered n (journal_at h n) e) in
      let left = subst IsLawful here (step_keeps h (step.Offer e.link e.number) lawful tt) in
      ap (λ k. fold play_step k (offer_steps es)) here
      ∙ offers_play after es left (still h e es below made.1) into.1
      ∙ ap (λ xs. with_journal after n (with_all_offered n xs es)) (journal_at-same h n (with_offered n (journal_at h n) e) below)
      ∙ with_journal-twice h n (with_offered n (journal_at h n) e) (with_all_offered n (with_offered n (journal_at h n) e) es)
    where
      still : (h : Histories) (e : Event) (es : List Event) → n < length h → AllByRecursion (WasMade h) es → AllByRecursion (WasMade (with_journal h n (with_offered n (journal_at h n) e))) es
      still h e [] below made = tt
      still h e (x ∷ xs) below made = (made_still h n (with_offered n (journal_at h n) e) x below (offered_begins n (journal_at h n) e) made.0, still h e xs below made.1)

  -- and each of them may be offered
  pub offers_can : (h : Histories) (events : List Event) → IsLawful h → AllByRecursion (WasMade h) events → AllByRecursion (λ (e : Event). receiver_of e.link ≡ n) events
      → CanTakeAll CanOffer n (journal_at h n) events
  offers_can h [] lawful made into = tt
  offers_can h (e ∷ es) lawful made into =
      let below : n < length h = subst (λ k. n < k) (sym lawful.each) low in
      let here = step_is h n e made.0 into.0 in
      let after = with_journal h n (with_offered n (journal_at h n) e) in
      let left = subst IsLawful here (step_keeps h (step.Offer e.link e.number) lawful tt) in (
        subst (λ k. CanOffer k (journal_at h k) e) into.0 (can_take h lawful e.link e.number made.0.on e made.0.made),
        subst (λ xs. CanTakeAll CanOffer n xs es) (journal_at-same h n (with_offered n (journal_at h n) e) below)
            (offers_can after es left (all_still h e es below made.1) into.1),
      )
    where
      all_still : (h : Histories) (e : Event) (es : List Event) → n < length h → AllByRecursion (WasMade h) es → AllByRecursion (WasMade (with_journal h n (with_offered n (journal_at h n) e))) es
      all_still h e [] below made = tt
      all_still h e (x ∷ xs) below made = (made_still h n (with_offered n (journal_at h n) e) x below (offered_begins n (journal_at h n) e) made.0, all_still h e xs below made.1)

-- what may be offered by one condition may be by a weaker one
pub can_weaker : (P Q : ℕ → List Entry → Event → Type 0) (n : ℕ) → ((entries : List Entry) (e : Event) → P n entries e → Q n entries e)
    → (entries : List Entry) (events : List Event) → CanTakeAll P n entries events → CanTakeAll Q n entries events
can_weaker P Q n weaker entries [] can = tt
can_weaker P Q n weaker entries (e ∷ es) can = (weaker entries e can.0, can_weaker P Q n weaker (with_offered n entries e) es can.1)

-- a service's node and a lane's ask no more than this
pub service_can : (role : Role) (entries : List Entry) (e : Event) → CanOffer (node_of role) entries e → FitsService role (node_of role) entries e
service_can role entries e can = record {
  arrives = can.arrives;
  own = λ take. can.own;
  fits = λ take. ap (λ r. fits r (steps_of r (inputs_of entries)) e.link e.body) (at_role role) ∙ can.fitting (low_role role) take;
}
  where
    at_role : (r : Role) → r ≡ role_at (node_of r)
    at_role Role.Cart = refl
    at_role Role.Product = refl
    at_role Role.Stock = refl
    at_role Role.Order = refl
    at_role Role.Payment = refl
    at_role Role.Shipment = refl
    at_role Role.Customer = refl
    at_role Role.Seller = refl

    low_role : (r : Role) → node_of r < services
    low_role Role.Cart = omega arith
    low_role Role.Product = omega arith
    low_role Role.Stock = omega arith
    low_role Role.Order = omega arith
    low_role Role.Payment = omega arith
    low_role Role.Shipment = omega arith
    low_role Role.Customer = omega arith
    low_role Role.Seller = omega arith

pub lane_can : (n : ℕ) (entries : List Entry) (e : Event) → CanOffer n entries e → FitsLane n entries e
lane_can n entries e can = record { arrives = can.arrives; awaited = can.awaited }

-- a service's node is one of the nodes
pub low_node : (r : Role) → node_of r < NODES
low_node Role.Cart = omega arith
low_node Role.Product = omega arith
low_node Role.Stock = omega arith
low_node Role.Order = omega arith
low_node Role.Payment = omega arith
low_node Role.Shipment = omega arith
low_node Role.Customer = omega arith
low_node Role.Seller = omega arith
