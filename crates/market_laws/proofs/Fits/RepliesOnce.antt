-- What the laws on replies use: what was made on a link is among all that was made, one element alone that passes, what a lane
-- asked before, and that a lane to which no reply was told for an id has none for it (reply-none).
use Rattle.std.proofs.Common.{◌≡◌, ℕ, ◌<◌, ◌≤◌, Bool, true, false, ◌||◌, cond, List, [], ◌∷◌, ◌++◌, Some, None, count_by, filter_map, if◌then◌else◌, inl, inr, refl, ap, sym, ◌∙◌, subst, arith}
use Rattle.std.specs.Prelude.{map}
use Rattle.std.specs.List.{cons_option, list_any}
use Rattle.std.specs.Option.{option_to_list, option_or}
use Rattle.std.proofs.lemmas.List.{map-append}
use Rattle.std.proofs.lemmas.List.Folds.{list_any-append}
use Rattle.std.proofs.lemmas.List.Sums.{sum_by-cons}
use Rattle.market_amounts.specs.declared.keys.RequestId.{RequestId}
use Rattle.market_events.specs.declared.bodies.Body.{Body}
use Rattle.market_events.specs.declared.bodies.Body.TheVariants as body
use Rattle.market_events.specs.declared.events.Entry.{Entry}
use Rattle.market_events.specs.declared.events.Event.{Event}
use Rattle.market_events.specs.declared.events.What.TheVariants.{Taken}
use Rattle.market_events.specs.declared.links.Link.{Link}
use Rattle.market_events.specs.declared.requests.Request.{Request}
use Rattle.market_events.specs.Links.{same_link}
use Rattle.market_events.specs.Steps.{Sending, body_on}
use Rattle.market_events.specs.Stocks.{first_some}
use Rattle.market_events.proofs.Values.Lists.{count-none, count-some, or_parts, true_from}
use Rattle.market_history.specs.Blocks.{Arrival, what_of, input_of, told_outs, lane_outs, services, grow}
use Rattle.market_history.specs.Causality.{event_taken, events_taken}
use Rattle.market_history.specs.Histories.{Histories}
use Rattle.market_history.specs.Lawful.{IsLawful}
use Rattle.market_history.specs.Once.{requests_given, reply_of}
use Rattle.market_history.specs.Sent.{sent}
use Rattle.market_history.proofs.GrowLaws.{outs_after, events_taken-grow}
use Rattle.market_history.proofs.GrowSent.{bodies_on, reply_out, reply_of-grow}
use Rattle.market_laws.specs.Cuts.{entry_with, StandsIn, TookAt, MadeAt}
use Rattle.market_laws.specs.Grown.{Grown, nothing, more}
use Rattle.market_laws.specs.Runs.{Member, tells}
use Rattle.market_laws.proofs.Growth.Members.{gathered-at}
use Rattle.market_laws.proofs.Clocks.Rising.{within-earlier, within_stands, made_took}
use Rattle.market_laws.proofs.Origins.Cuts.{any_of_member}
use Rattle.market_laws.proofs.Origins.Once.{TookBefore}
use Rattle.market_laws.proofs.Origins.Places.{took_stands, took_of}
use Rattle.market_laws.proofs.Origins.Senders.{sent-split}
use Rattle.market_laws.proofs.Growth.Made.{event_taken-is}
use Rattle.market_laws.proofs.Fits.AskedByLanes.{asked_on, outs-lane, asked-view, asked-given}
use Rattle.market_laws.proofs.Runs.Counts.{member-between, member-split}
use Rattle.market_laws.proofs.Growth.Takers.{StandsAt}

-- what was made on a link was made
pub made-all : (link : Link) (b : Body) (made : List Sending) → Member b (filter_map (body_on link) made) → Member b (map (λ (m : Sending). m.1) made)
made-all link b [] here = absurd here
made-all link b (m ∷ made) here = by (same_link m.0 link) here (λ later. made-all link b made later)
  where
    by : (test : Bool) → Member b (cons_option (if test then Some m.1 else None) (filter_map (body_on link) made))
        → (Member b (filter_map (body_on link) made) → Member b (map (λ (m : Sending). m.1) made)) → Member b (m.1 ∷ map (λ (m : Sending). m.1) made)
    by true (inl same) rest = inl same
    by true (inr later) rest = inr (rest later)
    by false later rest = inr (rest later)

pub count-made-all : (test : Body → Bool) (link : Link) (made : List Sending) → count_by test (filter_map (body_on link) made) ≤ count_by test (map (λ (m : Sending). m.1) made)
count-made-all test link [] = omega arith
count-made-all test link (m ∷ made) = by (same_link m.0 link) (count-made-all test link made)
  where
    by : (here : Bool) → count_by test (filter_map (body_on link) made) ≤ count_by test (map (λ (m : Sending). m.1) made)
        → count_by test (cons_option (if here then Some m.1 else None) (filter_map (body_on link) made)) ≤ count_by test (m.1 ∷ map (λ (m : Sending). m.1) made)
    by true rest =
        omega (arith, rest, sum_by-cons (λ b. cond (test b) 1 0) m.1 (filter_map (body_on link) made), sum_by-cons (λ b. cond (test b) 1 0) m.1 (map (λ (m : Sending). m.1) made))
    by false rest = omega (arith, rest, sum_by-cons (λ b. cond (test b) 1 0) m.1 (map (λ (m : Sending). m.1) made))

-- where one is counted, one passes
pub any-counted : {A : Type 0} (test : A → Bool) (xs : List A) → 1 ≤ count_by test xs → list_any test xs ≡ true
any-counted test xs some = true_from (list_any test xs) (λ none. absurd (omega (arith, count-none test xs none)))

passes_one : (b : Bool) → b ≡ true → ◌≡◌ {A = ℕ} (cond b 1 0) 1
passes_one true is = refl
passes_one false is = cc

-- of two that pass, where one at most is counted
pub only_one : {A : Type 0} (test : A → Bool) (x y : A) (xs : List A) → count_by test xs ≤ 1 → Member x xs → Member y xs → test x ≡ true → test y ≡ true → x ≡ y
only_one test x y [] few here there p q = absurd here
only_one test x y (z ∷ zs) few (inl same) (inl also) p q = same ∙ sym also
only_one test x y (z ∷ zs) few (inl same) (inr later) p q =
    let some = count-some test zs (any_of_member test y zs later q) in
    let one = passes_one (test z) (ap test (sym same) ∙ p) in
    absurd (omega (arith, some, one, sum_by-cons (λ w. cond (test w) 1 0) z zs))
only_one test x y (z ∷ zs) few (inr later) (inl also) p q =
    let some = count-some test zs (any_of_member test x zs later p) in
    let one = passes_one (test z) (ap test (sym also) ∙ q) in
    absurd (omega (arith, some, one, sum_by-cons (λ w. cond (test w) 1 0) z zs))
only_one test x y (z ∷ zs) few (inr later) (inr more_later) p q =
    only_one test x y zs (omega (arith, sum_by-cons (λ w. cond (test w) 1 0) z zs)) later more_later p q

-- a member of a mapped list comes of one
member-unmap : {A B : Type 0} (f : A → B) (y : B) (xs : List A) → Member y (map f xs) → (x : A) × Member x xs × (f x ≡ y)
member-unmap f y [] here = absurd here
member-unmap f y (x ∷ xs) (inl same) = (x, inl refl, sym same)
member-unmap f y (x ∷ xs) (inr later) = let found = member-unmap f y xs later in (found.0, inr found.1, found.2)

module _ (h : Histories) (lawful : IsLawful h) (n : ℕ) where
  -- an event that is among those that were taken before was taken before
  pub took-of-taken : (event : Event) → (t : TookAt h n event) → (b : Body) → Member b (map (λ (e : Event). e.body) (events_taken t.before)) → TookBefore h n t.clock b
  took-of-taken event t b here =
      let found = member-unmap (λ (e : Event). e.body) b (events_taken t.before) here in
      let parts = member-split found.0 (events_taken t.before) found.1 in
      let at = gathered-at (λ (x : Entry). event_taken x.what) t.before parts.0 found.0 parts.1 parts.2 in
      let within : StandsIn at.before at.at t.before = record { after = at.after; is = at.is } in
      let y = entry_with t.clock (Taken event) in
      let stands : StandsAt h n at.at = within_stands h n at.before at.at y (took_stands h n event t) within in
      record {
        event = found.0;
        took = took_of h n at.at found.0 lawful stands (event_taken-is at.at.what found.0 at.gives);
        clock_is = within-earlier h n at.before at.at y lawful (took_stands h n event t) within;
        body_is = found.2;
      }

  -- a request that a lane asked before was given before
  pub asked_before : services ≤ n → (event : Event) → (t : TookAt h n event) → (asked : Event) → MadeAt h n asked → asked.clock < t.clock → (request : Request) → asked.body ≡ body.Asked request → Member request (requests_given t.before)
  asked_before low event t asked m less request is =
      let link = asked.link in
      let s = made_took h n lawful asked event m t less in
      let split : bodies_on link t.before ≡ bodies_on link m.before ++ asked.body ∷ bodies_on link s.after =
      ap (bodies_on link) s.is ∙ ap (map (λ (e : Event). e.body)) (sent-split asked m.before asked.clock s.after)
      ∙ map-append (λ (e : Event). e.body) (sent link m.before) (asked ∷ sent link s.after) in
      let here : Member asked.body (bodies_on link t.before) = subst (λ l. Member asked.body l) (sym split) (member-between (bodies_on link m.before) asked.body (bodies_on link s.after)) in
      asked-given link request (requests_given t.before)
      (subst (λ b. Member b (filter_map (asked_on link) (requests_given t.before))) is (subst (λ l. Member asked.body l) (asked-view n low link t.grown) here))

-- a body that does not tell of the id answers nothing to it
told_none : (id : RequestId) (b : Body) → tells id b ≡ false → first_some (reply_out id) (told_outs b) ≡ None
told_none id (body.Told i reply) none = rw none refl
told_none id other none = refl

arrival_none : (id : RequestId) (a : Arrival) → list_any (tells id) (map (λ (e : Event). e.body) (option_to_list (event_taken (what_of a)))) ≡ false → first_some (reply_out id) (lane_outs (input_of a)) ≡ None
arrival_none id (Arrival.Gives request) none = refl
arrival_none id (Arrival.Takes event) none = told_none id event.body (or_parts (tells id event.body) false none).0

-- a lane to which none was told has no reply
pub reply-none : (n : ℕ) → services ≤ n → {j : List Entry} → Grown n j → (id : RequestId) → list_any (tells id) (map (λ (e : Event). e.body) (events_taken j)) ≡ false → reply_of j id ≡ None
reply-none n low nothing id none = refl
reply-none n low (more j a grown ready) id none =
    let split : list_any (tells id) (map (λ (e : Event). e.body) (events_taken (grow n j a)))
    ≡ (list_any (tells id) (map (λ (e : Event). e.body) (events_taken j)) || list_any (tells id) (map (λ (e : Event). e.body) (option_to_list (event_taken (what_of a))))) =
    ap (λ l. list_any (tells id) (map (λ (e : Event). e.body) l)) (events_taken-grow n j a)
    ∙ ap (list_any (tells id)) (map-append (λ (e : Event). e.body) (events_taken j) (option_to_list (event_taken (what_of a))))
    ∙ list_any-append (tells id) (map (λ (e : Event). e.body) (events_taken j)) (map (λ (e : Event). e.body) (option_to_list (event_taken (what_of a)))) in
    let both = or_parts (list_any (tells id) (map (λ (e : Event). e.body) (events_taken j))) (list_any (tells id) (map (λ (e : Event). e.body) (option_to_list (event_taken (what_of a))))) (sym split ∙ none) in
    reply_of-grow id n j a ∙ ap (λ o. option_or o (first_some (reply_out id) (outs_after n j a))) (reply-none n low grown id both.0)
    ∙ ap (λ outs. first_some (reply_out id) outs) (outs-lane n low j a) ∙ arrival_none id a both.1
