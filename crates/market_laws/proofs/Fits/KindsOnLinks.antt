-- On which link a body comes into a service: each kind that comes into it comes on one service link (came-on, came), and
-- the others do not come (came-never).
use Rattle.std.proofs.Common.{◌≡◌, ℕ, zero, suc, ◌<◌, ◌==◌, Bool, true, false, ◌&&◌, ◌||◌, not, eqb-true, eq-eqb, refl, ap, ◌∙◌, subst, arith}
use Rattle.std.proofs.lemmas.Bool.{eqb-false}
use Rattle.std.proofs.lemmas.Bool.Decides.{nat_tests}
use Rattle.market_events.specs.declared.bodies.Body.{Body}
use Rattle.market_events.specs.declared.bodies.Body.TheVariants as body
use Rattle.market_events.specs.declared.events.Event.{Event}
use Rattle.market_events.specs.declared.links.Link.{Link}
use Rattle.market_events.specs.declared.links.Link.TheVariants.{Service, Asked, Told}
use Rattle.market_events.specs.Carried.{service_carries, asked_of, carries}
use Rattle.market_events.specs.Links.{IsLink, receiver_of, same_link}
use Rattle.market_events.specs.declared.links.TheConstants.{SERVICE_LINKS}
use Rattle.market_events.proofs.Values.Lists.{and_both}
use Rattle.market_events.proofs.Values.Offers.{same_link-true}
use Rattle.market_history.specs.Blocks.{services}
use Rattle.market_history.specs.Histories.{Histories}
use Rattle.market_laws.specs.Cuts.{TookAt}

-- the body is no request
abbrev pub IsNoRequest : Body → Type 0
IsNoRequest (body.Asked request) = ⊥
IsNoRequest other = Unit {0}

-- the test passes below a number
abbrev pub below_all : (ℕ → Bool) → ℕ → Bool
below_all test zero = true
below_all test (suc n) = below_all test n && test n

pub below_all-each : (test : ℕ → Bool) (m : ℕ) → below_all test m ≡ true → (n : ℕ) → n < m → test n ≡ true
below_all-each test zero all n lt = absurd (omega arith)
below_all-each test (suc m) all n lt = let both = and_both (below_all test m) (test m) all in by (n == m) refl both.1 (λ less. below_all-each test m both.0 n less)
  where
    by : (same : Bool) → (n == m) ≡ same → test m ≡ true → (n < m → test n ≡ true) → test n ≡ true
    by true is last rest = ap test (eqb-true n m is) ∙ last
    by false is last rest = rest (let differs = eqb-false n m is in grind (arith, nat_tests))

-- where the service link n leads into s and carries the body, it is this link
abbrev pub comes_on : ℕ → Link → Body → ℕ → Bool
comes_on s link b n = not ((receiver_of (Service n) == s) && service_carries (Service n) b) || same_link (Service n) link

-- the service link n does not lead into s and carry the body
abbrev comes_not : ℕ → Body → ℕ → Bool
comes_not s b n = not ((receiver_of (Service n) == s) && service_carries (Service n) b)

-- of the service links into s this one alone carries the body
abbrev pub ComesBy : ℕ → Link → Body → Type 0
ComesBy s link b = below_all (comes_on s link b) SERVICE_LINKS ≡ true

-- no service link into s carries the body
abbrev pub NeverComes : ℕ → Body → Type 0
NeverComes s b = below_all (comes_not s b) SERVICE_LINKS ≡ true

last_holds : (a b c : Bool) → (not (a && b) || c) ≡ true → a ≡ true → b ≡ true → c ≡ true
last_holds true true c all first second = all
last_holds true false c all first second = cc
last_holds false b c all first second = cc

both_hold : (a b : Bool) → not (a && b) ≡ true → a ≡ true → b ≡ true → ⊥
both_hold true true none first second = cc
both_hold true false none first second = cc
both_hold false b none first second = cc

not_asked : (service : ℕ) (b : Body) → IsNoRequest b → asked_of service b ≡ true → ⊥
not_asked service (body.Asked request) quiet carried = quiet
not_asked service other quiet carried = cc

-- the link of a body that comes into a service on this one alone
pub came-on : (s : ℕ) (link : Link) (b : Body) → s < services → IsNoRequest b → ComesBy s link b → (other : Link) → IsLink other → receiver_of other ≡ s → carries other b ≡ true → other ≡ link
came-on s link b small quiet only (Service n) on into carried =
    let each : comes_on s link b n ≡ true = below_all-each (comes_on s link b) SERVICE_LINKS only n on in
    let same : same_link (Service n) link ≡ true = last_holds (receiver_of (Service n) == s) (service_carries (Service n) b) (same_link (Service n) link) each (eq-eqb (receiver_of (Service n)) s into) carried in
    same_link-true (Service n) link same
came-on s link b small quiet only (Asked lane service) on into carried = absurd (not_asked service b quiet carried)
came-on s link b small quiet only (Told service lane) on into carried = absurd (omega arith)

-- a body that does not come into a service
pub came-never : (s : ℕ) (b : Body) → s < services → IsNoRequest b → NeverComes s b → (link : Link) → IsLink link → receiver_of link ≡ s → carries link b ≡ true → ⊥
came-never s b small quiet none (Service n) on into carried =
    let each : comes_not s b n ≡ true = below_all-each (comes_not s b) SERVICE_LINKS none n on in
    both_hold (receiver_of (Service n) == s) (service_carries (Service n) b) each (eq-eqb (receiver_of (Service n)) s into) carried
came-never s b small quiet none (Asked lane service) on into carried = not_asked service b quiet carried
came-never s b small quiet none (Told service lane) on into carried = absurd (omega arith)

module _ (h : Histories) (s : ℕ) (event : Event) (t : TookAt h s event) (b : Body) (is : event.body ≡ b) (small : s < services) (quiet : IsNoRequest b) where
  -- the same of an event that was taken
  pub came : (link : Link) → ComesBy s link b → event.link ≡ link
  came link only = came-on s link b small quiet only event.link t.ready.0 t.ready.1 (subst (λ c. carries event.link c ≡ true) is t.ready.2)

  pub never-came : NeverComes s b → ⊥
  never-came none = came-never s b small quiet none event.link t.ready.0 t.ready.1 (subst (λ c. carries event.link c ≡ true) is t.ready.2)
