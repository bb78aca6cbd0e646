-- Once: where one body at most that its sender made on the event's link passes a test, none that was taken before on that
-- link does (once-got, once-link); and none that was taken before at all, where such bodies come on that link alone (once).
use Rattle.std.proofs.Common.{◌≡◌, ℕ, ◌<◌, ◌≤◌, Bool, true, false, count_by, ap, sym, ◌∙◌, subst, arith}
use Rattle.std.specs.Prelude.{map}
use Rattle.std.specs.List.{list_any}
use Rattle.market_events.specs.declared.bodies.Body.{Body}
use Rattle.market_events.specs.declared.events.Event.{Event}
use Rattle.market_events.specs.declared.events.What.TheVariants.{Taken}
use Rattle.market_events.specs.declared.links.Link.{Link}
use Rattle.market_events.specs.Carried.{carries}
use Rattle.market_events.specs.Links.{IsLink, sender_of, receiver_of}
use Rattle.market_events.specs.Steps.{taken_bodies, made_on}
use Rattle.market_events.proofs.Values.Lists.{false_from}
use Rattle.market_history.specs.Blocks.{services}
use Rattle.market_history.specs.Histories.{Histories, journal_at}
use Rattle.market_history.specs.Journals.{AsksOwn}
use Rattle.market_history.specs.Lawful.{IsLawful}
use Rattle.market_history.specs.Sent.{got}
use Rattle.market_history.proofs.GrowSent.{bodies_on}
use Rattle.market_laws.specs.Cuts.{entry_with, steps_at, TookAt}
use Rattle.market_laws.specs.Runs.{Member}
use Rattle.market_laws.proofs.Clocks.Rising.{within-earlier, within_stands, took_took}
use Rattle.market_laws.proofs.Origins.Cuts.{any_of_member, member_of_any, member-map, none_before}
use Rattle.market_laws.proofs.Origins.Places.{took_stands}
use Rattle.market_laws.proofs.Origins.Senders.{got-split, sent-bodies, taken-as}
use Rattle.market_laws.proofs.Runs.Counts.{member-between}
use Rattle.market_laws.proofs.Growth.Takers.{StandsAt, grown_at}
use Rattle.market_laws.proofs.Views.Made.{view-made}
use Rattle.market_laws.proofs.Views.Taken.{taken-in}

-- an event with this body that node n took before the clock
pub record TookBefore (h : Histories) (n : ℕ) (clock : ℕ) (b : Body) : Type 0 where
  pub event : Event
  pub took : TookAt h n event
  pub clock_is : took.clock < clock
  pub body_is : event.body ≡ b

-- bodies that pass come to node s on this link alone
abbrev pub ComesAlone : ℕ → (Body → Bool) → Link → Type 0
ComesAlone s test on = (link : Link) (b : Body) → IsLink link → receiver_of link ≡ s → carries link b ≡ true → AsksOwn link b → test b ≡ true → link ≡ on

module _ (h : Histories) (s : ℕ) (event : Event) (lawful : IsLawful h) (t : TookAt h s event) where
  -- a body of the steps before was taken before
  pub taken-before : (b : Body) → Member b (taken_bodies (steps_at s t.before)) → TookBefore h s t.clock b
  taken-before b here =
      let i = taken-in s t.grown b here in
      let x = entry_with i.clock (Taken i.event) in
      let y = entry_with t.clock (Taken event) in
      let there : StandsAt h s x = within_stands h s i.before x y (took_stands h s event t) i.stands in
      record {
        event = i.event;
        took = record { node = t.node; clock = i.clock; before = i.before; after = there.after; is = there.is; grown = i.grown; ready = i.ready };
        clock_is = within-earlier h s i.before x y lawful (took_stands h s event t) i.stands;
        body_is = i.body_is;
      }

  -- one that passes
  pub taken-before-any : (test : Body → Bool) → list_any test (taken_bodies (steps_at s t.before)) ≡ true → (b : Body) × TookBefore h s t.clock b × (test b ≡ true)
  taken-before-any test any =
      let found = member_of_any test (taken_bodies (steps_at s t.before)) any in (found.0, taken-before found.0 found.1, found.2)

  -- an event that was taken before on a link is among those that were
  pub got-before : (other : Event) → (u : TookAt h s other) → u.clock < t.clock → Member other (got other.link t.before)
  got-before other u lt =
      let within = took_took h s lawful other event u t lt in
      subst (λ l. Member other l) (sym (ap (got other.link) within.is ∙ got-split other u.before u.clock within.after))
      (member-between (got other.link u.before) other (got other.link within.after))

  -- where one at most of its link passes, none that was taken on it before does
  pub once-got : (test : Body → Bool) → count_by test (bodies_on event.link (journal_at h (sender_of event.link))) ≤ 1 → test event.body ≡ true
      → list_any test (map (λ (e : Event). e.body) (got event.link t.before)) ≡ false
  once-got test few passes =
      let there = sent-bodies h lawful s event t in
      none_before test (map (λ (e : Event). e.body) (got event.link t.before)) event.body there.0 (subst (λ l. count_by test l ≤ 1) there.1 few) passes

  pub once-link : (test : Body → Bool) → count_by test (bodies_on event.link (journal_at h (sender_of event.link))) ≤ 1 → test event.body ≡ true
      → (other : Event) → (u : TookAt h s other) → u.clock < t.clock → other.link ≡ event.link → test other.body ≡ true → ⊥
  once-link test few passes other u lt same also =
      let here : Member other (got event.link t.before) = subst (λ l. Member other (got l t.before)) same (got-before other u lt) in
      let any = any_of_member test other.body (map (λ (e : Event). e.body) (got event.link t.before)) (member-map (λ (e : Event). e.body) other (got event.link t.before) here) also in
      let none = once-got test few passes in
      cc

  -- and none that was taken before, where bodies that pass come on its link alone
  pub once : (test : Body → Bool) → count_by test (bodies_on event.link (journal_at h (sender_of event.link))) ≤ 1 → test event.body ≡ true → ComesAlone s test event.link
      → list_any test (taken_bodies (steps_at s t.before)) ≡ false
  once test few passes alone = false_from (list_any test (taken_bodies (steps_at s t.before))) refuted
    where
      refuted : list_any test (taken_bodies (steps_at s t.before)) ≡ true → false ≡ true
      refuted any =
          let found = taken-before-any test any in
          let other = found.1.event in
          let u = found.1.took in
          let also : test other.body ≡ true = ap test found.1.body_is ∙ found.2 in
          let same : other.link ≡ event.link = alone other.link other.body u.ready.0 u.ready.1 u.ready.2 (taken-as h lawful s other u).own also in
          absurd (once-link test few passes other u found.1.clock_is same also)

  -- the same, where the link is a service link of the service n: by what its whole run made on it
  pub few-service : (link : Link) (n : ℕ) → event.link ≡ link → sender_of link ≡ n → n < services → (test : Body → Bool) → count_by test (made_on link (steps_at n (journal_at h n))) ≤ 1
      → count_by test (bodies_on event.link (journal_at h (sender_of event.link))) ≤ 1
  few-service link n on leaves lt test few =
      subst (λ link. count_by test (bodies_on link (journal_at h (sender_of link))) ≤ 1) (sym on)
      (subst (λ m. count_by test (bodies_on link (journal_at h m)) ≤ 1) (sym leaves)
      (subst (λ l. count_by test l ≤ 1) (sym (view-made n lt link (grown_at h n lawful (omega arith)))) few))

  pub once-service : (link : Link) (n : ℕ) → event.link ≡ link → sender_of link ≡ n → n < services → (test : Body → Bool) → count_by test (made_on link (steps_at n (journal_at h n))) ≤ 1 → test event.body ≡ true
      → ComesAlone s test link → list_any test (taken_bodies (steps_at s t.before)) ≡ false
  once-service link n on leaves lt test few passes alone =
      once test (few-service link n on leaves lt test few) passes (subst (λ link. ComesAlone s test link) (sym on) alone)
