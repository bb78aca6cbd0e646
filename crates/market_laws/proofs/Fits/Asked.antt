-- A request that a service takes has an id that the service did not take before.
use Rattle.std.proofs.Common.{◌≡◌, ℕ, ◌≤◌, true, not, List, eqb-true, ap, sym, ◌∙◌, subst, arith}
use Rattle.market_amounts.specs.declared.keys.RequestId.{RequestId}
use Rattle.market_events.specs.declared.bodies.Body.TheVariants as body
use Rattle.market_events.specs.declared.events.Event.{Event}
use Rattle.market_events.specs.declared.links.Link.{Link}
use Rattle.market_events.specs.declared.links.Link.TheVariants.{Service, Asked, Told}
use Rattle.market_events.specs.declared.requests.Request.{Request}
use Rattle.market_events.specs.Carried.{carries}
use Rattle.market_events.specs.Links.{sender_of, receiver_of, service_by_ask}
use Rattle.market_events.specs.Requests.{lane_of}
use Rattle.market_events.specs.declared.roles.Role.{Role}
use Rattle.market_events.specs.Services.{role_fits, asks, is_new}
use Rattle.market_events.specs.Steps.{Step}
use Rattle.market_events.proofs.Values.Same.{same_id-true, same_id-self}
use Rattle.market_history.specs.Blocks.{services}
use Rattle.market_history.specs.Histories.{Histories}
use Rattle.market_history.specs.Journals.{AsksOwn}
use Rattle.market_history.specs.Lawful.{IsLawful}
use Rattle.market_laws.specs.Cuts.{steps_at, TookAt}
use Rattle.market_laws.proofs.Origins.Once.{ComesAlone, once}
use Rattle.market_laws.proofs.Origins.Senders.{taken-as}
use Rattle.market_laws.proofs.Bounds.LinkEnds.{sender-small}
use Rattle.market_laws.proofs.Fits.AskedByLanes.{asked-few}
use Rattle.market_laws.proofs.Growth.Takers.{grown_at}

-- a request comes to a service on one link: from the lane of its id
pub asked-link : (link : Link) (request : Request) (n : ℕ) → receiver_of link ≡ n → carries link (body.Asked request) ≡ true → AsksOwn link (body.Asked request) → link ≡ Asked (lane_of request.id) n
asked-link (Service k) request n into carried own = let no : ⊥ = cc in absurd no
asked-link (Asked lane service) request n into carried own = λ i. Asked (sym own i) (into i)
asked-link (Told service lane) request n into carried own = let no : ⊥ = cc in absurd no

-- and the service is the one that it is for
pub asked-for : (lane n : ℕ) (request : Request) → carries (Asked lane n) (body.Asked request) ≡ true → service_by_ask request.ask ≡ n
asked-for lane n request carried = eqb-true (service_by_ask request.ask) n carried

-- a lane sends it
asked_sent : (link : Link) (lane n : ℕ) → link ≡ Asked lane n → services ≤ sender_of link
asked_sent link lane n is = subst (λ l. services ≤ sender_of l) (sym is) (omega arith)

-- bodies that ask with the id come on that link alone
asked_alone : (n : ℕ) (id : RequestId) → ComesAlone n (asks id) (Asked (lane_of id) n)
asked_alone n id link (body.Asked request) on into carried own same =
    asked-link link request n into carried own ∙ ap (λ i. Asked (lane_of i) n) (same_id-true request.id id same)
asked_alone n id link other on into carried own same = let no : ⊥ = cc in absurd no

module _ (h : Histories) (lawful : IsLawful h) (n : ℕ) (event : Event) (t : TookAt h n event) where
  -- the link of a request that is taken
  pub asked-on : (request : Request) → event.body ≡ body.Asked request → event.link ≡ Asked (lane_of request.id) n
  asked-on request is =
      asked-link event.link request n t.ready.1 (subst (λ b. carries event.link b ≡ true) is t.ready.2)
      (subst (λ b. AsksOwn event.link b) is (taken-as h lawful n event t).own)

  -- its id is new
  pub asked-new : (request : Request) → event.body ≡ body.Asked request → is_new (steps_at n t.before) request.id ≡ true
  asked-new request is =
      let on = asked-on request is in
      let m = sender_of event.link in
      let few = asked-few m (asked_sent event.link (lane_of request.id) n on) event.link (grown_at h m lawful (sender-small event.link t.ready.0)) request.id in
      ap not
      (once h n event lawful t (asks request.id) few (ap (asks request.id) is ∙ same_id-self request.id)
      (subst (λ link. ComesAlone n (asks request.id) link) (sym on) (asked_alone n request.id)))

-- a request with a new id fits
pub asked_fits : (role : Role) (steps : List Step) (request : Request) → is_new steps request.id ≡ true → role_fits role steps (body.Asked request) ≡ true
asked_fits Role.Cart steps request new = new
asked_fits Role.Product steps request new = new
asked_fits Role.Stock steps request new = new
asked_fits Role.Order steps request new = new
asked_fits Role.Payment steps request new = new
asked_fits Role.Shipment steps request new = new
asked_fits Role.Customer steps request new = new
asked_fits Role.Seller steps request new = new
