-- The nodes of the groups, by number: each stands at its seat.
use Rattle.std.proofs.Common.{◌≡◌, List, [], ◌∷◌, refl}
use Rattle.std.specs.List.{slice_set}
use Rattle.market_events.specs.declared.roles.Role.{Role}
use Rattle.market_rounds.specs.declared.seats.Seat.{Seat}
use Rattle.market_rounds.specs.declared.seats.Seat.TheVariants as seat
use Rattle.market_rounds.specs.Groups.{GroupState, number_at, at_seat, with_seat, in_order}
use Rattle.market_rounds.specs.Nodes.{FatedNode, at_node}

module _ (cart product stock order payment shipment customer seller : GroupState) where
  abbrev pub all : List GroupState
  all = cart ∷ product ∷ stock ∷ order ∷ payment ∷ shipment ∷ customer ∷ seller ∷ []

  -- the group of a service
  abbrev pub group_of : Role → GroupState
  group_of Role.Cart = cart
  group_of Role.Product = product
  group_of Role.Stock = stock
  group_of Role.Order = order
  group_of Role.Payment = payment
  group_of Role.Shipment = shipment
  group_of Role.Customer = customer
  group_of Role.Seller = seller

  -- with another group in its place
  abbrev pub with_group : Role → GroupState → List GroupState
  with_group Role.Cart other = other ∷ product ∷ stock ∷ order ∷ payment ∷ shipment ∷ customer ∷ seller ∷ []
  with_group Role.Product other = cart ∷ other ∷ stock ∷ order ∷ payment ∷ shipment ∷ customer ∷ seller ∷ []
  with_group Role.Stock other = cart ∷ product ∷ other ∷ order ∷ payment ∷ shipment ∷ customer ∷ seller ∷ []
  with_group Role.Order other = cart ∷ product ∷ stock ∷ other ∷ payment ∷ shipment ∷ customer ∷ seller ∷ []
  with_group Role.Payment other = cart ∷ product ∷ stock ∷ order ∷ other ∷ shipment ∷ customer ∷ seller ∷ []
  with_group Role.Shipment other = cart ∷ product ∷ stock ∷ order ∷ payment ∷ other ∷ customer ∷ seller ∷ []
  with_group Role.Customer other = cart ∷ product ∷ stock ∷ order ∷ payment ∷ shipment ∷ other ∷ seller ∷ []
  with_group Role.Seller other = cart ∷ product ∷ stock ∷ order ∷ payment ∷ shipment ∷ customer ∷ other ∷ []

  pub node_at_seat : (role : Role) (place : Seat) → at_node (in_order all) (number_at role place) ≡ at_seat place (group_of role)
  node_at_seat Role.Cart seat.Service = refl
  node_at_seat Role.Cart seat.First = refl
  node_at_seat Role.Cart seat.Second = refl
  node_at_seat Role.Product seat.Service = refl
  node_at_seat Role.Product seat.First = refl
  node_at_seat Role.Product seat.Second = refl
  node_at_seat Role.Stock seat.Service = refl
  node_at_seat Role.Stock seat.First = refl
  node_at_seat Role.Stock seat.Second = refl
  node_at_seat Role.Order seat.Service = refl
  node_at_seat Role.Order seat.First = refl
  node_at_seat Role.Order seat.Second = refl
  node_at_seat Role.Payment seat.Service = refl
  node_at_seat Role.Payment seat.First = refl
  node_at_seat Role.Payment seat.Second = refl
  node_at_seat Role.Shipment seat.Service = refl
  node_at_seat Role.Shipment seat.First = refl
  node_at_seat Role.Shipment seat.Second = refl
  node_at_seat Role.Customer seat.Service = refl
  node_at_seat Role.Customer seat.First = refl
  node_at_seat Role.Customer seat.Second = refl
  node_at_seat Role.Seller seat.Service = refl
  node_at_seat Role.Seller seat.First = refl
  node_at_seat Role.Seller seat.Second = refl

  pub set_at_seat : (role : Role) (place : Seat) (node : FatedNode) → in_order (with_group role (with_seat place (group_of role) node)) ≡ slice_set (in_order all) (number_at role place) node
  set_at_seat Role.Cart seat.Service node = refl
  set_at_seat Role.Cart seat.First node = refl
  set_at_seat Role.Cart seat.Second node = refl
  set_at_seat Role.Product seat.Service node = refl
  set_at_seat Role.Product seat.First node = refl
  set_at_seat Role.Product seat.Second node = refl
  set_at_seat Role.Stock seat.Service node = refl
  set_at_seat Role.Stock seat.First node = refl
  set_at_seat Role.Stock seat.Second node = refl
  set_at_seat Role.Order seat.Service node = refl
  set_at_seat Role.Order seat.First node = refl
  set_at_seat Role.Order seat.Second node = refl
  set_at_seat Role.Payment seat.Service node = refl
  set_at_seat Role.Payment seat.First node = refl
  set_at_seat Role.Payment seat.Second node = refl
  set_at_seat Role.Shipment seat.Service node = refl
  set_at_seat Role.Shipment seat.First node = refl
  set_at_seat Role.Shipment seat.Second node = refl
  set_at_seat Role.Customer seat.Service node = refl
  set_at_seat Role.Customer seat.First node = refl
  set_at_seat Role.Customer seat.Second node = refl
  set_at_seat Role.Seller seat.Service node = refl
  set_at_seat Role.Seller seat.First node = refl
  set_at_seat Role.Seller seat.Second node = refl
