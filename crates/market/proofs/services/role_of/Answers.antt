-- A role is that of its node, and a node above the services counts as the last one.
use Rattle.std.proofs.Common.{◌≡◌, ℕ, ◌≤◌, ◌==◌, true, false, Option, Some, None, IfSome, refl, ap, ◌∙◌, arith}
use Rattle.std.specs.Option.{IsNone, unwrap_or}
use Rattle.std.proofs.lemmas.Bool.Decides.{nat_tests}
use Rattle.market_events.specs.Links.{node_of}
use Rattle.market_events.specs.declared.roles.Role.{Role}
use Rattle.market_history.specs.Blocks.{role_at}
use Rattle.market.proofs.services.role_of.Goals as goal

of_role : (r : Role) → r ≡ role_at (node_of r)
of_role Role.Cart = refl
of_role Role.Product = refl
of_role Role.Stock = refl
of_role Role.Order = refl
of_role Role.Payment = refl
of_role Role.Shipment = refl
of_role Role.Customer = refl
of_role Role.Seller = refl

above : (n : ℕ) → 8 ≤ n → Role.Seller ≡ role_at n
above n high = grind (arith, nat_tests)

by_role : (o : Option Role) (n : ℕ) → IfSome o (λ role. node_of role ≡ n) → (IsNone o → 8 ≤ n) → unwrap_or o Role.Seller ≡ role_at n
by_role (Some r) n same none = of_role r ∙ ap role_at same
by_role None n same none = above n (none refl)

pub returns : goal.returns
returns c = c.unwrap_or.ensures ∙ by_role c.of.result c.args.node c.of.ensures.some c.of.ensures.none.0
