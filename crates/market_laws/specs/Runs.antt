-- What the laws over runs of the services speak of: bodies in a list, kinds of bodies, and what was made.
use Rattle.std.specs.Prelude.{◌≡◌, ℕ, Bool, true, false, ◌&&◌, not, List, [], ◌∷◌, ◌++◌, ◌⊎◌, map}
use Rattle.std.specs.List.{list_any}
use Rattle.market_amounts.specs.declared.keys.RequestId.{RequestId}
use Rattle.market_events.specs.declared.bodies.Body.{Body}
use Rattle.market_events.specs.declared.bodies.Body.TheVariants as body
use Rattle.market_events.specs.declared.bodies.Item.{Item}
use Rattle.market_events.specs.declared.bodies.PricedLine.{PricedLine}
use Rattle.market_events.specs.Orders.{is_item_of}
use Rattle.market_events.specs.Requests.{same_id}
use Rattle.market_events.specs.Services.{is_line_of}
use Rattle.market_events.specs.Steps.{Step, Sending, taken_bodies, made_in}

-- the element stands in the list
abbrev pub Member : {A : Type 0} → A → List A → Type 0
Member x [] = ⊥
Member x (y ∷ ys) = (x ≡ y) ⊎ Member x ys

-- the bodies that were made, on whichever link
abbrev pub bodies_made : List Step → List Body
bodies_made steps = map (λ (made : Sending). made.1) (made_in steps)

-- the body tells the lane the reply to this request
abbrev pub tells : RequestId → Body → Bool
tells id (body.Told told reply) = same_id told id
tells id other = false

-- the body says that stock holds the pieces of this checkout
abbrev pub holds_pieces : RequestId → Body → Bool
holds_pieces id (body.StockConfirmed checkout customer lines) = same_id checkout id
holds_pieces id other = false

-- the body is a payment that was made
abbrev pub is_payment : Body → Bool
is_payment (body.Confirmed checkout customer lines total) = true
is_payment other = false

-- the body is a delivery
abbrev pub is_delivery : Body → Bool
is_delivery (body.Delivered items) = true
is_delivery other = false

-- no item is of the line of another one, or of an earlier one: of its checkout and product, whoever the
-- customer is
abbrev pub lines_apart : List Item → List Item → Bool
lines_apart before [] = true
lines_apart before (i ∷ more) =
    not (list_any (is_item_of i.checkout i.key) before) && lines_apart (before ++ i ∷ []) more

-- the item was paid for: a payment of its checkout by its customer was taken, and it has a line of its
-- product
pub record IsPaidFor (steps : List Step) (item : Item) : Type 0 where
  pub lines : List PricedLine
  pub total : ℕ
  pub taken : Member (body.Confirmed item.checkout item.customer lines total) (taken_bodies steps)
  pub line : is_line_of lines item ≡ true
