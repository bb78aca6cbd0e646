-- Steps of services: what was taken, and what was made of it. Every sum of a service is a sum, a filter, a
-- count or a last-of over the list of its steps, the oldest first.
use Rattle.std.specs.Prelude.{ℕ, Bool, true, false, ◌==◌, ◌&&◌, List, [], ◌∷◌, Option, Some, None}
use Rattle.std.specs.Prelude.{map, filter_map, fold, if◌then◌else◌}
use Rattle.std.specs.List.{flat_map}
use Rattle.std.specs.FinMap.Entries as entries
use Rattle.market_amounts.specs.declared.keys.ProductKey.{ProductKey}
use Rattle.market_amounts.specs.declared.keys.RequestId.{RequestId}
pub use Rattle.market_amounts.specs.Keys.{key_cmp, id_cmp}
use Rattle.market_events.specs.declared.bodies.Body.{Body}
use Rattle.market_events.specs.declared.bodies.Body.TheVariants as body
use Rattle.market_events.specs.declared.bodies.PricedLine.{PricedLine}
use Rattle.market_events.specs.declared.links.Link.{Link}
use Rattle.market_events.specs.declared.replies.Reply.{Reply}
use Rattle.market_events.specs.declared.replies.Reply.TheVariants as reply
use Rattle.market_events.specs.declared.replies.Rule.{Rule}
use Rattle.market_events.specs.Links.{same_link, telling}
use Rattle.market_events.specs.Requests.{same_key}

-- a body on its link
abbrev pub Sending : Type 0
Sending = Link × Body

-- a step of a service: the body that it took, on this link, and what it made for it, in order
pub record Step : Type 0 where
  pub from : Link
  pub body : Body
  pub made : List Sending

-- how many bodies a step makes at most
abbrev pub most_outs : ℕ
most_outs = 8

-- the bodies that were taken
abbrev pub taken_bodies : List Step → List Body
taken_bodies steps = map (λ (s : Step). s.body) steps

-- what was made
abbrev pub made_in : List Step → List Sending
made_in steps = flat_map (λ (s : Step). s.made) steps

-- the body, where it was sent on this link
abbrev pub body_on : Link → Sending → Option Body
body_on link sending = if same_link sending.0 link then Some sending.1 else None

-- the bodies that were made on a link
abbrev pub made_on : Link → List Step → List Body
made_on link steps = filter_map (body_on link) (made_in steps)

-- the event that tells the lane of the request's caller the reply
abbrev pub told : ℕ → RequestId → Reply → Sending
told service id r = (telling service id, body.Told id r)

-- it refuses the request
abbrev pub refused : ℕ → RequestId → Rule → List Sending
refused service id rule = told service id (reply.Refused rule) ∷ []

-- pairs by rising key, the last of each key
abbrev pub listed : {V : Type 0} → List (ProductKey × V) → List (ProductKey × V)
listed pairs = fold (λ es p. entries.put key_cmp p.0 p.1 es) [] pairs

-- two lines, and two lists of lines, are the same
abbrev pub same_line : PricedLine → PricedLine → Bool
same_line a b =
    same_key a.key b.key && (a.quantity == b.quantity) && (a.price == b.price) && (a.freight == b.freight)
    && (a.voucher == b.voucher)

abbrev pub same_lines : List PricedLine → List PricedLine → Bool
same_lines [] [] = true
same_lines (a ∷ more) (b ∷ others) = same_line a b && same_lines more others
same_lines a b = false
