-- New groups are the nodes that did nothing.
use Rattle.std.proofs.Common.{◌≡◌, [], ◌∷◌}
use Rattle.market_events.specs.declared.roles.Role.{Role}
use Rattle.market_rounds.specs.Groups.{GroupState, in_order, idle_group, idle_nodes}

pub all_idle : (cart product stock order payment shipment customer seller : GroupState) → cart ≡ idle_group Role.Cart → product ≡ idle_group Role.Product → stock ≡ idle_group Role.Stock → order ≡ idle_group Role.Order → payment ≡ idle_group Role.Payment → shipment ≡ idle_group Role.Shipment → customer ≡ idle_group Role.Customer → seller ≡ idle_group Role.Seller → in_order (cart ∷ product ∷ stock ∷ order ∷ payment ∷ shipment ∷ customer ∷ seller ∷ []) ≡ idle_nodes
all_idle cart product stock order payment shipment customer seller pcart pproduct pstock porder ppayment pshipment pcustomer pseller = λ i. in_order (pcart i ∷ pproduct i ∷ pstock i ∷ porder i ∷ ppayment i ∷ pshipment i ∷ pcustomer i ∷ pseller i ∷ [])
