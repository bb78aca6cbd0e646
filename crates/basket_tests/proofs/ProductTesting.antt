-- Requests of caller 7, one after the other, fit.
use Rattle.std.proofs.Common.{◌≡◌, ℕ, true, List, [], refl}
use Rattle.market_amounts.specs.declared.keys.ProductKey.{ProductKey}
use Rattle.market_events.specs.declared.bodies.Body.{Body}
use Rattle.market_events.specs.declared.bodies.Body.TheVariants as body
use Rattle.market_events.specs.declared.links.Link.{Link}
use Rattle.market_events.specs.declared.links.Link.TheVariants as link
use Rattle.market_events.specs.declared.requests.Ask.{Ask}
use Rattle.market_events.specs.declared.requests.Ask.TheVariants as ask
use Rattle.market_events.specs.declared.roles.Role.{Role}
use Rattle.market_events.specs.Links.{product_node}
use Rattle.market_events.specs.Services.{fits}
use Rattle.market_events.specs.Standing.{with_step}
use Rattle.market_events.specs.Steps.{Step}
use Rattle.service_driving.specs.declared.lane.TheConstants.{LANE}

abbrev pub asked : ℕ → Ask → Body
asked n a = body.Asked (record { id = record { caller = 7; number = n }; ask = a })

abbrev pub from_lane : Link
from_lane = link.Asked LANE product_node

abbrev pub after : List Step → ℕ → Ask → List Step
after steps n a = with_step Role.Product steps from_lane (asked n a)

abbrev pub Fits : List Step → ℕ → Ask → Type 0
Fits steps n a = fits Role.Product steps from_lane (asked n a) ≡ true

abbrev pub mug : ProductKey
mug = record { seller = 5; product = 10 }

abbrev pub bowl : ProductKey
bowl = record { seller = 5; product = 11 }

abbrev pub create : ℕ → ℕ → Ask
create price freight = ask.Create mug price freight

module _ (price freight : ℕ) (is : price ≡ 1000) (none : freight ≡ 0) where
  pub create_fits : Fits [] 1 (create price freight)
  unfolding fits
  create_fits = rw (is, none) refl

  pub second_fits : Fits (after [] 1 (create price freight)) 2 (create price freight)
  unfolding fits
  second_fits = rw (is, none) refl

  pub price_fits : Fits (after (after [] 1 (create price freight)) 2 (create price freight)) 3 (ask.Price bowl price)
  unfolding fits
  price_fits = rw is refl

  pub delete_fits : Fits (after [] 1 (create price freight)) 2 (ask.Delete mug)
  unfolding fits
  delete_fits = refl

  pub price_of_gone_fits : Fits (after (after [] 1 (create price freight)) 2 (ask.Delete mug)) 3 (ask.Price mug price)
  unfolding fits
  price_of_gone_fits = rw is refl

  pub again_fits : Fits (after (after (after [] 1 (create price freight)) 2 (ask.Delete mug)) 3 (ask.Price mug price)) 4 (create price freight)
  unfolding fits
  again_fits = rw (is, none) refl
