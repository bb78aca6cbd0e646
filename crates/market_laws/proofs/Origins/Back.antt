-- Back from an event that was taken: its sender, a service, took before it made the event what a run lemma says
-- (took-origin, took-origin-some); and what a made event goes back to (made-origin).
use Rattle.std.proofs.Common.{◌≡◌, ℕ, ◌<◌, List, subst, arith}
use Rattle.market_events.specs.declared.bodies.Body.{Body}
use Rattle.market_events.specs.declared.events.Event.{Event}
use Rattle.market_events.specs.declared.links.Link.{Link}
use Rattle.market_events.specs.Links.{sender_of}
use Rattle.market_events.specs.Services.{IsRunOf}
use Rattle.market_events.specs.Steps.{Step, taken_bodies, made_on}
use Rattle.market_history.specs.Blocks.{role_at, services}
use Rattle.market_history.specs.Histories.{Histories}
use Rattle.market_history.specs.Lawful.{IsLawful}
use Rattle.market_laws.specs.Cuts.{TookAt, MadeAt}
use Rattle.market_laws.specs.Runs.{Member}
use Rattle.market_laws.proofs.Origins.Causes.{Origin, cause, cause_steps, cause-run, cause-made, origin}
use Rattle.market_laws.proofs.Origins.Senders.{took-made-on}

-- the made event, and what was taken for it before
pub record Back (h : Histories) (n : ℕ) (event : Event) (top : ℕ) (b : Body) : Type 0 where
  pub made : MadeAt h n event
  pub clock : event.clock < top
  pub origin : Origin h n event b
  pub before : origin.took.clock < top

-- the same, of some body for which this holds
pub record BackSome (h : Histories) (n : ℕ) (event : Event) (top : ℕ) (Holds : Body → Type 0) : Type 0 where
  pub b : Body
  pub holds : Holds b
  pub back : Back h n event top b

module _ (h : Histories) (lawful : IsLawful h) where
  -- from a made event
  pub made-origin-some : (n : ℕ) (event : Event) (link : Link) → n < services → MadeAt h n event → event.link ≡ link → (Holds : Body → Type 0)
      → ((steps : List Step) → IsRunOf (role_at n) steps → Member event.body (made_on link steps) → (b : Body) × Member b (taken_bodies steps) × Holds b)
      → (b : Body) × Origin h n event b × Holds b
  made-origin-some n event link lt m on Holds run =
      let c = cause h n event lawful lt m in
      let found = run (cause_steps h n event m c) (cause-run h n event m c) (cause-made h n event m c link on) in
      (found.0, origin h n event m c lawful found.0 found.1, found.2)

  pub made-origin : (n : ℕ) (event : Event) (link : Link) → n < services → MadeAt h n event → event.link ≡ link → (b : Body)
      → ((steps : List Step) → IsRunOf (role_at n) steps → Member event.body (made_on link steps) → Member b (taken_bodies steps))
      → Origin h n event b
  made-origin n event link lt m on b run =
      let c = cause h n event lawful lt m in
      origin h n event m c lawful b (run (cause_steps h n event m c) (cause-run h n event m c) (cause-made h n event m c link on))

  module _ (s : ℕ) (event : Event) (t : TookAt h s event) (link : Link) (n : ℕ) (on : event.link ≡ link) (leaves : sender_of link ≡ n) (lt : n < services) where
    made_there : MadeAt h n event
    made_there = subst (λ m. MadeAt h m event) leaves (took-made-on h lawful s event link t on).made

    below : event.clock < t.clock
    below = (took-made-on h lawful s event link t on).clock

    back_to : (b : Body) → Origin h n event b → Back h n event t.clock b
    back_to b o = record { made = made_there; clock = below; origin = o; before = let less = below in let more = o.clock in omega arith }

    -- from an event that was taken
    pub took-origin-some : (Holds : Body → Type 0) → ((steps : List Step) → IsRunOf (role_at n) steps → Member event.body (made_on link steps) → (b : Body) × Member b (taken_bodies steps) × Holds b)
        → BackSome h n event t.clock Holds
    took-origin-some Holds run =
        let found = made-origin-some n event link lt made_there on Holds run in
        record { b = found.0; holds = found.2; back = back_to found.0 found.1 }

    pub took-origin : (b : Body) → ((steps : List Step) → IsRunOf (role_at n) steps → Member event.body (made_on link steps) → Member b (taken_bodies steps)) → Back h n event t.clock b
    took-origin b run = back_to b (made-origin n event link lt made_there on b run)
