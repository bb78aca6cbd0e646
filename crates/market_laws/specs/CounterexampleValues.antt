-- Values for the counterexamples: the bodies of a checkout of two mugs, and steps.
use Rattle.std.specs.Prelude.{ℕ, List, [], ◌∷◌}
use Rattle.market_events.specs.declared.bodies.Body.{Body}
use Rattle.market_events.specs.declared.bodies.Body.TheVariants as body
use Rattle.market_events.specs.declared.bodies.Item.{Item}
use Rattle.market_events.specs.declared.bodies.PricedLine.{PricedLine}
use Rattle.market_events.specs.declared.links.Link.{Link}
use Rattle.market_events.specs.declared.requests.Ask.{Ask}
use Rattle.market_events.specs.declared.requests.Ask.TheVariants as ask
use Rattle.market_events.specs.Steps.{Step, Sending}
use Rattle.market_history.specs.Examples.{id, request, mug}
use Rattle.market_history.specs.ExamplesBase.{base_line}

-- two mugs at 1000, with freight 50 and a voucher of 100: 1950 in all
abbrev pub mugs : List PricedLine
mugs = base_line ∷ []

-- a request of caller 7
abbrev pub asks_for : ℕ → Ask → Body
asks_for number ask = body.Asked (request number ask)

-- checkout 5, of a customer
abbrev pub checkout_for : ℕ → Body
checkout_for customer = asks_for 5 (ask.Checkout customer)

abbrev pub reserve_for : ℕ → Body
reserve_for customer = body.Reserve (id 5) customer mugs

abbrev pub held_for : ℕ → Body
held_for customer = body.StockConfirmed (id 5) customer mugs

abbrev pub invoice_for : ℕ → Body
invoice_for customer = body.Invoice (id 5) customer mugs 1950

-- its payment, with a total
abbrev pub paid_with : ℕ → Body
paid_with total = body.Confirmed (id 5) 7 mugs total

abbrev pub shipped : Body
shipped = body.Shipped (id 5)

-- its one package
abbrev pub parcel : Item
parcel = record { checkout = id 5; customer = 7; key = mug }

abbrev pub delivered : Body
delivered = body.Delivered (parcel ∷ [])

abbrev pub step : Link → Body → List Sending → Step
step from b made = record { from = from; body = b; made = made }
