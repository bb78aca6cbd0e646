-- What each row of causes rests on: all that is taken fits (fits-here); a block makes what its service answers (makes-answers);
-- the cause of what was made, as that of its block (caused-by, among-answers); on which links a body is made, and by whom
-- (made-by); and what was taken before (has-taken).
use Rattle.std.proofs.Common.{◌≡◌, ℕ, ◌<◌, ◌≤◌, ◌==◌, Bool, true, false, ◌&&◌, ◌||◌, not, List, [], ◌∷◌, ◌++◌, length, length-append, count_by, eqb-true, inl, inr, refl, ap, sym, ◌∙◌, subst, append-nil, append_assoc, arith}
use Rattle.std.specs.Prelude.{map}
use Rattle.std.specs.List.{list_any}
use Rattle.std.proofs.lemmas.List.{map-append, append_cancel_left}
use Rattle.std.proofs.lemmas.List.Elements.{filter_map-append}
use Rattle.market_events.specs.declared.bodies.Body.{Body}
use Rattle.market_events.specs.declared.bodies.Body.TheVariants as body
use Rattle.market_events.specs.declared.events.Entry.{Entry}
use Rattle.market_events.specs.declared.events.Event.{Event}
use Rattle.market_events.specs.declared.events.What.TheVariants.{Taken}
use Rattle.market_events.specs.declared.links.Link.{Link}
use Rattle.market_events.specs.declared.links.Link.TheVariants.{Service, Asked, Told}
use Rattle.market_events.specs.Carried.{carries, service_carries, asked_of, told_by}
use Rattle.market_events.specs.Links.{IsLink, same_link, sender_of}
use Rattle.market_events.specs.Services.{IsRunOf, role_fits, answers, reactions}
use Rattle.market_events.specs.Steps.{Step, Sending, made_on}
use Rattle.market_events.specs.declared.links.TheConstants.{SERVICE_LINKS}
use Rattle.market_events.proofs.Values.Lists.{and_both}
use Rattle.market_events.proofs.Values.Offers.{same_link-true}
use Rattle.market_events.proofs.Steps.Taken.{fits-parts}
use Rattle.market_history.specs.Blocks.{Part, part_of, parts_of, input_in, inputs_of, Arrival, what_of, input_of, with_what, made_out, role_at, services, grow}
use Rattle.market_history.specs.Histories.{Histories, journal_at}
use Rattle.market_history.specs.Lawful.{IsLawful}
use Rattle.market_history.specs.Sent.{got}
use Rattle.market_history.specs.Stamps.{EachAfter}
use Rattle.market_history.proofs.GrowLaws.{entry_of, outs_after, grow-is, outs-begin, inputs_of-grow, inputs_of-outs, input_in-arrival, parts_of-outs}
use Rattle.market_history.proofs.GrowSent.{bodies_on}
use Rattle.market_history.proofs.StampLaws.{EachAfter-at}
use Rattle.market_laws.specs.Causes.{BeginsBlock, HasTaken, IsCausedBy, IsOnOneOf, MakesJust, on_each}
use Rattle.market_laws.specs.Cuts.{entry_with, steps_at, TookAt, MadeAt, FitsAt, FitsAfter}
use Rattle.market_laws.specs.Grown.{Grown, nothing, more}
use Rattle.market_laws.specs.Runs.{Member}
use Rattle.market_laws.proofs.Origins.Causes.{Cause}
use Rattle.market_laws.proofs.Origins.Cuts.{Order, first, equal, second, two_places, no_place, any_of_member, member_of_any, member-map}
use Rattle.market_laws.proofs.Origins.Made.{steps-run, whole}
use Rattle.market_laws.proofs.Origins.Once.{TookBefore, got-before}
use Rattle.market_laws.proofs.Origins.Places.{grow-first}
use Rattle.market_laws.proofs.Origins.Senders.{made-as}
use Rattle.market_laws.proofs.Fits.All.{services-fit}
use Rattle.market_laws.proofs.Fits.KindsOnLinks.{IsNoRequest, ComesBy, below_all, below_all-each, came}
use Rattle.market_laws.proofs.Runs.Counts.{member-between}
use Rattle.market_laws.proofs.Growth.Takers.{grown_at}
use Rattle.market_laws.proofs.Views.Made.{outs-service}

-- each event that a service takes fits
pub fits-here : (h : Histories) → IsLawful h → (n : ℕ) → n < services → (event : Event) → (t : TookAt h n event) → FitsAt n t.before event
fits-here h lawful n lt event t =
    EachAfter-at (λ before (x : Entry). FitsAfter n before x.what) [] t.before (entry_with t.clock (Taken event)) t.after
    (subst (λ j. EachAfter (λ before (x : Entry). FitsAfter n before x.what) [] j) t.is (services-fit h lawful n lt))

-- so it meets its kind's condition
pub due-here : (h : Histories) → IsLawful h → (n : ℕ) → n < services → (event : Event) → (t : TookAt h n event) → role_fits (role_at n) (steps_at n t.before) event.body ≡ true
due-here h lawful n lt event t = (fits-parts (role_at n) (steps_at n t.before) event.link event.body (fits-here h lawful n lt event t)).due

-- where one body at most that a service's run makes on a link passes, one at most that it made does
pub made-few : (h : Histories) → IsLawful h → (n : ℕ) → n < services → (link : Link) (test : Body → Bool) → ((steps : List Step) → IsRunOf (role_at n) steps → count_by test (made_on link steps) ≤ 1)
    → count_by test (bodies_on link (journal_at h n)) ≤ 1
made-few h lawful n lt link test few =
    subst (λ l. count_by test l ≤ 1) (sym (whole h lawful n lt link)) (few (steps_at n (journal_at h n)) (steps-run n (journal_at h n)))

-- what passes a test is not among what does not
pub not-among : (test : Body → Bool) (rows : List Sending) (x : Sending) → list_any (λ (s : Sending). test s.1) rows ≡ false → Member x rows → test x.1 ≡ true → ⊥
not-among test rows x none here passes = let any = any_of_member (λ (s : Sending). test s.1) x rows here passes in cc

-- what goes on each of some links is one body
pub same-body : (links : List Link) (b : Body) (x : Sending) → Member x (on_each links b) → x.1 ≡ b
same-body [] b x here = absurd here
same-body (link ∷ others) b x (inl same) = ap (λ (s : Sending). s.1) same
same-body (link ∷ others) b x (inr later) = same-body others b x later

-- a journal from a place where an event was taken: the block of it, and the blocks after
record Rest (n : ℕ) (j before : List Entry) (x : Entry) (event : Event) : Type 0 where
  rest : List Entry
  is : j ≡ grow n before (Arrival.Takes event) ++ rest
  ends : BeginsBlock rest

-- what came is one input, so nothing else of its block came
two_inputs : (n : ℕ) (j : List Entry) (a : Arrival) (before : List Entry) (clock : ℕ) (event : Event) (after rest : List Entry)
    → grow n j a ≡ before ++ entry_with clock (Taken event) ∷ after → before ≡ j ++ entry_of j (what_of a) ∷ rest → ⊥
two_inputs n j a before clock event after rest is front =
    let came : inputs_of (entry_of j (what_of a) ∷ rest) ≡ input_of a ∷ inputs_of rest = rw (input_in-arrival a) refl in
    let all : inputs_of (grow n j a) ≡ (inputs_of j ++ input_of a ∷ inputs_of rest) ++ input_of (Arrival.Takes event) ∷ inputs_of after =
    ap inputs_of is ∙ filter_map-append (λ (x : Entry). input_in (part_of x.what)) before (entry_with clock (Taken event) ∷ after)
    ∙ ap (λ l. l ++ input_of (Arrival.Takes event) ∷ inputs_of after) (ap inputs_of front ∙ filter_map-append (λ (x : Entry). input_in (part_of x.what)) j (entry_of j (what_of a) ∷ rest) ∙ ap (λ l. inputs_of j ++ l) came) in
    let one : inputs_of (grow n j a) ≡ inputs_of j ++ input_of a ∷ [] = inputs_of-grow n j a in
    let long = ap length (sym one ∙ all) in
    omega (arith, long, length-append (inputs_of j) (input_of a ∷ []), length-append (inputs_of j ++ input_of a ∷ inputs_of rest) (input_of (Arrival.Takes event) ∷ inputs_of after), length-append (inputs_of j) (input_of a ∷ inputs_of rest))

same_arrival : (a : Arrival) (event : Event) → what_of a ≡ Taken event → a ≡ Arrival.Takes event
same_arrival (Arrival.Gives request) event is = let no : ⊥ = cc in absurd no
same_arrival (Arrival.Takes other) event is = let same : other ≡ event = cc in ap (λ e. Arrival.Takes e) same

begins_arrival : (j : List Entry) (a : Arrival) (outs : List Entry) → BeginsBlock (entry_of j (what_of a) ∷ outs)
begins_arrival j (Arrival.Gives request) outs = refl
begins_arrival j (Arrival.Takes event) outs = refl

begins_more : (rest : List Entry) (j : List Entry) (a : Arrival) (outs : List Entry) → BeginsBlock rest → BeginsBlock (rest ++ entry_of j (what_of a) ∷ outs)
begins_more [] j a outs begins = begins_arrival j a outs
begins_more (x ∷ xs) j a outs begins = begins

rest_of : (n : ℕ) {j : List Entry} → Grown n j → (before : List Entry) (clock : ℕ) (event : Event) (after : List Entry) → j ≡ before ++ entry_with clock (Taken event) ∷ after → Rest n j before (entry_with clock (Taken event)) event
rest_of n nothing before clock event after is = absurd (no_place before (entry_with clock (Taken event)) after is)
rest_of n (more j a grown ready) before clock event after is =
    let y = entry_of j (what_of a) in
    let start = grow-first n j a in
    by (two_places j y start.after before (entry_with clock (Taken event)) after (sym start.is ∙ is)) (λ others front. rest_of n grown before clock event others front)
  where
    Later : Type 0
    Later = (others : List Entry) → j ≡ before ++ entry_with clock (Taken event) ∷ others → Rest n j before (entry_with clock (Taken event)) event

    by : Order j (entry_of j (what_of a)) before (entry_with clock (Taken event)) → Later → Rest n (grow n j a) before (entry_with clock (Taken event)) event
    by (first rest front) later = absurd (two_inputs n j a before clock event after rest is front)
    by (equal front same) later =
        let what : what_of a ≡ Taken event = ap (λ (x : Entry). x.what) same in
        let grows : grow n j a ≡ grow n before (Arrival.Takes event) = (λ i. grow n (front i) (same_arrival a event what i)) in
        record { rest = []; is = grows ∙ sym (append-nil (grow n before (Arrival.Takes event))); ends = tt }
    by (second others front) later =
        let r = later others front in
        let start = grow-first n j a in
        record {
          rest = r.rest ++ entry_of j (what_of a) ∷ start.after;
          is = start.is ∙ ap (λ l. l ++ entry_of j (what_of a) ∷ start.after) r.is ∙ append_assoc (grow n before (Arrival.Takes event)) r.rest (entry_of j (what_of a) ∷ start.after);
          ends = begins_more r.rest j a start.after r.ends;
        }

-- the parts that are made
left_made : (made : List Sending) → map (λ out. Part.Left out) (map made_out made) ≡ map (λ (s : Sending). Part.Left (made_out s)) made
left_made [] = refl
left_made (s ∷ others) = ap (λ l. Part.Left (made_out s) ∷ l) (left_made others)

module _ (h : Histories) (lawful : IsLawful h) (n : ℕ) (lt : n < services) (event : Event) (t : TookAt h n event) where
  outs_here : outs_after n t.before (Arrival.Takes event) ≡ map made_out (answers (role_at n) (steps_at n t.before) event.link event.body)
  unfolding reactions
  outs_here = outs-service n lt t.before (Arrival.Takes event) ∙ rw (fits-here h lawful n lt event t) refl

  -- the block of what is taken makes what the service answers
  pub makes-answers : MakesJust h n event t (answers (role_at n) (steps_at n t.before) event.link event.body)
  makes-answers =
      let a = Arrival.Takes event in
      let base = with_what t.before (Taken event) in
      let outs = outs_after n t.before a in
      let r = rest_of n (grown_at h n lawful t.node) t.before t.clock event t.after t.is in
      let begins = outs-begin base outs in
      let block = begins.0 in
      let whole : grow n t.before a ≡ base ++ block = grow-is n t.before a ∙ begins.1 in
      let both : t.before ++ entry_with t.clock (Taken event) ∷ t.after ≡ t.before ++ entry_of t.before (Taken event) ∷ (block ++ r.rest) =
      sym t.is ∙ r.is ∙ ap (λ l. l ++ r.rest) whole ∙ append_assoc base block r.rest ∙ append_assoc t.before (entry_of t.before (Taken event) ∷ []) (block ++ r.rest) in
      let tails = append_cancel_left t.before (entry_with t.clock (Taken event) ∷ t.after) (entry_of t.before (Taken event) ∷ (block ++ r.rest)) both in
      let made : parts_of base ++ parts_of block ≡ parts_of base ++ map (λ out. Part.Left out) outs =
      sym (map-append (λ (x : Entry). part_of x.what) base block) ∙ ap parts_of (sym begins.1) ∙ parts_of-outs base outs in
      record {
        block = block;
        rest = r.rest;
        is = cc;
        parts = append_cancel_left (parts_of base) (parts_of block) (map (λ out. Part.Left out) outs) made ∙ ap (map (λ out. Part.Left out)) outs_here
            ∙ left_made (answers (role_at n) (steps_at n t.before) event.link event.body);
        ends = r.ends;
      }

  -- the same, where what it answers is known
  pub makes-these : (made : List Sending) → answers (role_at n) (steps_at n t.before) event.link event.body ≡ made → MakesJust h n event t made
  makes-these made is = subst (MakesJust h n event t) is makes-answers

module _ (h : Histories) (n : ℕ) (made : Event) (m : MadeAt h n made) (c : Cause h n made m) where
  -- what was made is among what its cause is answered by
  pub among-answers : (b : Body) → made.body ≡ b → Member (made.link, b) (answers (role_at n) (steps_at n c.took.before) c.event.link c.event.body)
  among-answers b is =
      subst (λ l. Member (made.link, b) l) (sym (c.answered ∙ ap (λ b. c.front ++ (made.link, b) ∷ c.back) is)) (member-between c.front (made.link, b) c.back)

  -- no other block began between them
  pub same-block : inputs_of c.within.after ≡ []
  same-block =
      let came = input_of (Arrival.Takes c.event) in
      let here : inputs_of m.before ≡ inputs_of c.took.before ++ came ∷ inputs_of c.within.after =
      ap inputs_of c.within.is ∙ filter_map-append (λ (x : Entry). input_in (part_of x.what)) c.took.before (entry_with c.took.clock (Taken c.event) ∷ c.within.after) in
      let there : inputs_of m.before ≡ inputs_of c.took.before ++ came ∷ [] =
      ap inputs_of c.between ∙ inputs_of-outs (with_what c.took.before (Taken c.event)) (map made_out c.front)
      ∙ filter_map-append (λ (x : Entry). input_in (part_of x.what)) c.took.before (entry_of c.took.before (Taken c.event) ∷ []) in
      let tails = append_cancel_left (inputs_of c.took.before) (came ∷ inputs_of c.within.after) (came ∷ []) (sym here ∙ there) in
      cc

  -- its cause, as that of its block
  abbrev pub caused-by : (link : Link) (b : Body) → c.event.link ≡ link → c.event.body ≡ b → IsCausedBy h n made m link b
  caused-by link b on is = record { event = c.event; took = c.took; on = on; body_is = is; between = c.within.after; is = c.within.is; same_block = same-block }

-- the links on which a body can be made, all of them by this node
abbrev pub goes_from : ℕ → List Link → Body → ℕ → Bool
goes_from node links b k = not (service_carries (Service k) b) || (list_any (same_link (Service k)) links && (sender_of (Service k) == node))

-- no lane's link carries the body
abbrev pub IsBetweenServices : Body → Type 0
IsBetweenServices (body.Asked request) = ⊥
IsBetweenServices (body.Told id reply) = ⊥
IsBetweenServices other = Unit {0}

carried_between : (b : Body) → IsBetweenServices b → (link : Link) → IsLink link → carries link b ≡ true → (k : ℕ) × (k < SERVICE_LINKS) × (link ≡ Service k) × (service_carries (Service k) b ≡ true)
carried_between b plain (Service k) on carried = (k, on, refl, carried)
carried_between b plain (Asked lane service) on carried = absurd (by b plain carried)
  where
    by : (b : Body) → IsBetweenServices b → asked_of service b ≡ true → ⊥
    by (body.Asked request) plain carried = plain
    by other plain carried = cc
carried_between b plain (Told service lane) on carried = absurd (by b plain carried)
  where
    by : (b : Body) → IsBetweenServices b → told_by service b ≡ true → ⊥
    by (body.Told id reply) plain carried = plain
    by other plain carried = cc

then_holds : (a b : Bool) → (not a || b) ≡ true → a ≡ true → b ≡ true
then_holds true b all holds = all
then_holds false b all holds = cc

-- where a body was made, and by whom
pub made-by : (h : Histories) → IsLawful h → (n : ℕ) (made : Event) → MadeAt h n made → (b : Body) → made.body ≡ b → IsBetweenServices b → (node : ℕ) (links : List Link)
    → below_all (goes_from node links b) SERVICE_LINKS ≡ true → IsOnOneOf links made.link × (node ≡ n)
made-by h lawful n made m b is plain node links all =
    let as_made = made-as h lawful n made m in
    let at = carried_between b plain made.link as_made.on (subst (λ b. carries made.link b ≡ true) is as_made.carried) in
    let k = at.0 in
    let each = below_all-each (goes_from node links b) SERVICE_LINKS all k at.1 in
    let test = same_link (Service k) in
    let both = and_both (list_any test links) (sender_of (Service k) == node) (then_holds (service_carries (Service k) b) (list_any test links && (sender_of (Service k) == node)) each at.3) in
    let found = member_of_any test links both.0 in
    let same : made.link ≡ found.0 = at.2 ∙ same_link-true (Service k) found.0 found.2 in
    (subst (λ link. Member link links) (sym same) found.1, sym (eqb-true (sender_of (Service k)) node both.1) ∙ ap sender_of (sym at.2) ∙ m.leaves)

-- the one link
pub only-link : (only link : Link) → IsOnOneOf (only ∷ []) link → link ≡ only
only-link only link (inl same) = same
only-link only link (inr never) = absurd never

-- what was taken before stands among what was taken on its link
pub has-taken : (h : Histories) (s : ℕ) (event : Event) (lawful : IsLawful h) (t : TookAt h s event) (b : Body) → TookBefore h s t.clock b → s < services → IsNoRequest b → (link : Link) → ComesBy s link b → HasTaken t.before link b
has-taken h s event lawful t b u small quiet link only =
    let on = came h s u.event u.took b u.body_is small quiet link only in
    let here : Member u.event (got link t.before) = subst (λ l. Member u.event (got l t.before)) on (got-before h s event lawful t u.event u.took u.clock_is) in
    subst (λ c. Member c (map (λ (e : Event). e.body) (got link t.before))) u.body_is (member-map (λ (e : Event). e.body) u.event (got link t.before) here)

-- at the node that it is
pub made-at : (h : Histories) (made : Event) (P : (n : ℕ) → MadeAt h n made → Type 0) (node n : ℕ) → node ≡ n → ((m : MadeAt h node made) → P node m) → (m : MadeAt h n made) → P n m
made-at h made P node n same each = subst (λ k. (m : MadeAt h k made) → P k m) same each

pub took-at : (h : Histories) (event : Event) (P : (n : ℕ) → TookAt h n event → Type 0) (node n : ℕ) → node ≡ n → ((t : TookAt h node event) → P node t) → (t : TookAt h n event) → P n t
took-at h event P node n same each = subst (λ k. (t : TookAt h k event) → P k t) same each
