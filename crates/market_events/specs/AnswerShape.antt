-- What holds of all that a service makes for an input.
use Rattle.std.specs.Prelude.{◌≡◌, ℕ, ◌≤◌, true, false, List, [], ◌∷◌, length, Option, Some, None, IfSome}
use Rattle.std.specs.List.{AllByRecursion}
use Rattle.market_amounts.specs.declared.keys.RequestId.{RequestId}
use Rattle.market_events.specs.declared.bodies.Body.{Body}
use Rattle.market_events.specs.declared.bodies.Body.TheVariants as body
use Rattle.market_events.specs.declared.links.Link.{Link}
use Rattle.market_events.specs.declared.links.Link.TheVariants.{Told}
use Rattle.market_events.specs.Carried.{carries}
use Rattle.market_events.specs.Links.{IsLink, sender_of, same_link}
use Rattle.market_events.specs.Requests.{lane_of}
use Rattle.market_events.specs.Services.{Role, node_of}
use Rattle.market_events.specs.Steps.{Sending}
use Rattle.market_events.specs.WellFormed.{IsBody}

-- the checkout or the request that a body names; changes and deliveries name none
abbrev pub id_in : Body → Option RequestId
id_in (body.Changed key version change) = None
id_in (body.Reserve checkout customer lines) = Some checkout
id_in (body.ReserveFailed checkout key rule) = Some checkout
id_in (body.StockConfirmed checkout customer lines) = Some checkout
id_in (body.Invoice checkout customer lines total) = Some checkout
id_in (body.Confirmed checkout customer lines total) = Some checkout
id_in (body.Ended checkout ending) = Some checkout
id_in (body.Failed checkout customer rule) = Some checkout
id_in (body.Shipped checkout) = Some checkout
id_in (body.Delivered items) = None
id_in (body.Asked request) = Some request.id
id_in (body.Told id reply) = Some id

-- a reply of this service goes to the lane of its request
abbrev pub GoesToLane : ℕ → Link → Body → Type 0
GoesToLane node to (body.Told id reply) = to ≡ Told node (lane_of id)
GoesToLane node to other = Unit {0}

-- one body that the service makes for an input, and its link
pub record IsAnswer (role : Role) (input : Body) (made : Sending) : Type 0 where
  -- it is one of the links
  pub link : IsLink made.0
  -- the service sends on it
  pub leaves : sender_of made.0 ≡ node_of role
  -- the link can carry the body
  pub carried : carries made.0 made.1 ≡ true
  -- the body is well formed
  pub formed : IsBody made.1
  -- what it names is what the input names
  pub named : IfSome (id_in made.1) (λ id. id_in input ≡ Some id)
  -- a reply goes to its request's lane
  pub lane : GoesToLane (node_of role) made.0 made.1

-- each goes on a link of its own
abbrev pub LinksApart : List Sending → Type 0
LinksApart [] = Unit {0}
LinksApart (first ∷ more) =
    AllByRecursion (λ (other : Sending). same_link first.0 other.0 ≡ false) more × LinksApart more

-- all that the service makes for an input
pub record AreAnswers (role : Role) (input : Body) (made : List Sending) : Type 0 where
  pub few : length made ≤ 5
  pub apart : LinksApart made
  pub each : AllByRecursion (IsAnswer role input) made
