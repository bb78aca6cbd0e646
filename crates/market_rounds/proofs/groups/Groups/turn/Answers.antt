-- Nodes that are ready may turn, group by group, and then each node has turned.
use Rattle.std.proofs.Common.{ℕ, ◌<◌, List, [], ◌∷◌, OnOk, arith, subst, sym}
use Rattle.market_events.specs.declared.nodes.TheConstants.{NODES}
use Rattle.market_events.specs.declared.roles.Role.{Role}
use Rattle.market_rounds.specs.declared.seats.Seat.TheVariants as seat
use Rattle.market_rounds.specs.Groups.{in_order, number_at}
use Rattle.market_rounds.specs.Nodes.{FatedNode, AreReady, HasTurnedWithQueue, at_node}
use Rattle.market_rounds.proofs.TurnedGroups.{service_can, lane_can, all_turned_ok}
use Rattle.market_rounds.proofs.groups.Groups.turn.Goals as goal

pub turn_eight-requires-clause-a : goal.turn_eight-requires-clause-a
turn_eight-requires-clause-a g c = λ κs within. record {
  service = service_can (in_order (c.self.inside.cart ∷ c.self.inside.product ∷ c.self.inside.stock ∷ c.self.inside.order ∷ c.self.inside.payment ∷ c.self.inside.shipment ∷ c.self.inside.customer ∷ c.self.inside.seller ∷ [])) (subst AreReady (sym c.self.view_is) c.requires) Role.Cart;
  first = lane_can (in_order (c.self.inside.cart ∷ c.self.inside.product ∷ c.self.inside.stock ∷ c.self.inside.order ∷ c.self.inside.payment ∷ c.self.inside.shipment ∷ c.self.inside.customer ∷ c.self.inside.seller ∷ [])) (subst AreReady (sym c.self.view_is) c.requires) (number_at Role.Cart seat.First) (omega arith);
  second = lane_can (in_order (c.self.inside.cart ∷ c.self.inside.product ∷ c.self.inside.stock ∷ c.self.inside.order ∷ c.self.inside.payment ∷ c.self.inside.shipment ∷ c.self.inside.customer ∷ c.self.inside.seller ∷ [])) (subst AreReady (sym c.self.view_is) c.requires) (number_at Role.Cart seat.Second) (omega arith);
}

pub turn_eight-requires-clause-b : goal.turn_eight-requires-clause-b
turn_eight-requires-clause-b g c = λ κs within. record {
  service = service_can (in_order (c.self.inside.cart ∷ c.self.inside.product ∷ c.self.inside.stock ∷ c.self.inside.order ∷ c.self.inside.payment ∷ c.self.inside.shipment ∷ c.self.inside.customer ∷ c.self.inside.seller ∷ [])) (subst AreReady (sym c.self.view_is) c.requires) Role.Product;
  first = lane_can (in_order (c.self.inside.cart ∷ c.self.inside.product ∷ c.self.inside.stock ∷ c.self.inside.order ∷ c.self.inside.payment ∷ c.self.inside.shipment ∷ c.self.inside.customer ∷ c.self.inside.seller ∷ [])) (subst AreReady (sym c.self.view_is) c.requires) (number_at Role.Product seat.First) (omega arith);
  second = lane_can (in_order (c.self.inside.cart ∷ c.self.inside.product ∷ c.self.inside.stock ∷ c.self.inside.order ∷ c.self.inside.payment ∷ c.self.inside.shipment ∷ c.self.inside.customer ∷ c.self.inside.seller ∷ [])) (subst AreReady (sym c.self.view_is) c.requires) (number_at Role.Product seat.Second) (omega arith);
}

pub turn_eight-requires-clause-c : goal.turn_eight-requires-clause-c
turn_eight-requires-clause-c g c = λ κs within. record {
  service = service_can (in_order (c.self.inside.cart ∷ c.self.inside.product ∷ c.self.inside.stock ∷ c.self.inside.order ∷ c.self.inside.payment ∷ c.self.inside.shipment ∷ c.self.inside.customer ∷ c.self.inside.seller ∷ [])) (subst AreReady (sym c.self.view_is) c.requires) Role.Stock;
  first = lane_can (in_order (c.self.inside.cart ∷ c.self.inside.product ∷ c.self.inside.stock ∷ c.self.inside.order ∷ c.self.inside.payment ∷ c.self.inside.shipment ∷ c.self.inside.customer ∷ c.self.inside.seller ∷ [])) (subst AreReady (sym c.self.view_is) c.requires) (number_at Role.Stock seat.First) (omega arith);
  second = lane_can (in_order (c.self.inside.cart ∷ c.self.inside.product ∷ c.self.inside.stock ∷ c.self.inside.order ∷ c.self.inside.payment ∷ c.self.inside.shipment ∷ c.self.inside.customer ∷ c.self.inside.seller ∷ [])) (subst AreReady (sym c.self.view_is) c.requires) (number_at Role.Stock seat.Second) (omega arith);
}

pub turn_eight-requires-clause-d : goal.turn_eight-requires-clause-d
turn_eight-requires-clause-d g c = λ κs within. record {
  service = service_can (in_order (c.self.inside.cart ∷ c.self.inside.product ∷ c.self.inside.stock ∷ c.self.inside.order ∷ c.self.inside.payment ∷ c.self.inside.shipment ∷ c.self.inside.customer ∷ c.self.inside.seller ∷ [])) (subst AreReady (sym c.self.view_is) c.requires) Role.Order;
  first = lane_can (in_order (c.self.inside.cart ∷ c.self.inside.product ∷ c.self.inside.stock ∷ c.self.inside.order ∷ c.self.inside.payment ∷ c.self.inside.shipment ∷ c.self.inside.customer ∷ c.self.inside.seller ∷ [])) (subst AreReady (sym c.self.view_is) c.requires) (number_at Role.Order seat.First) (omega arith);
  second = lane_can (in_order (c.self.inside.cart ∷ c.self.inside.product ∷ c.self.inside.stock ∷ c.self.inside.order ∷ c.self.inside.payment ∷ c.self.inside.shipment ∷ c.self.inside.customer ∷ c.self.inside.seller ∷ [])) (subst AreReady (sym c.self.view_is) c.requires) (number_at Role.Order seat.Second) (omega arith);
}

pub turn_eight-requires-clause-e : goal.turn_eight-requires-clause-e
turn_eight-requires-clause-e g c = λ κs within. record {
  service = service_can (in_order (c.self.inside.cart ∷ c.self.inside.product ∷ c.self.inside.stock ∷ c.self.inside.order ∷ c.self.inside.payment ∷ c.self.inside.shipment ∷ c.self.inside.customer ∷ c.self.inside.seller ∷ [])) (subst AreReady (sym c.self.view_is) c.requires) Role.Payment;
  first = lane_can (in_order (c.self.inside.cart ∷ c.self.inside.product ∷ c.self.inside.stock ∷ c.self.inside.order ∷ c.self.inside.payment ∷ c.self.inside.shipment ∷ c.self.inside.customer ∷ c.self.inside.seller ∷ [])) (subst AreReady (sym c.self.view_is) c.requires) (number_at Role.Payment seat.First) (omega arith);
  second = lane_can (in_order (c.self.inside.cart ∷ c.self.inside.product ∷ c.self.inside.stock ∷ c.self.inside.order ∷ c.self.inside.payment ∷ c.self.inside.shipment ∷ c.self.inside.customer ∷ c.self.inside.seller ∷ [])) (subst AreReady (sym c.self.view_is) c.requires) (number_at Role.Payment seat.Second) (omega arith);
}

pub turn_eight-requires-clause-f : goal.turn_eight-requires-clause-f
turn_eight-requires-clause-f g c = λ κs within. record {
  service = service_can (in_order (c.self.inside.cart ∷ c.self.inside.product ∷ c.self.inside.stock ∷ c.self.inside.order ∷ c.self.inside.payment ∷ c.self.inside.shipment ∷ c.self.inside.customer ∷ c.self.inside.seller ∷ [])) (subst AreReady (sym c.self.view_is) c.requires) Role.Shipment;
  first = lane_can (in_order (c.self.inside.cart ∷ c.self.inside.product ∷ c.self.inside.stock ∷ c.self.inside.order ∷ c.self.inside.payment ∷ c.self.inside.shipment ∷ c.self.inside.customer ∷ c.self.inside.seller ∷ [])) (subst AreReady (sym c.self.view_is) c.requires) (number_at Role.Shipment seat.First) (omega arith);
  second = lane_can (in_order (c.self.inside.cart ∷ c.self.inside.product ∷ c.self.inside.stock ∷ c.self.inside.order ∷ c.self.inside.payment ∷ c.self.inside.shipment ∷ c.self.inside.customer ∷ c.self.inside.seller ∷ [])) (subst AreReady (sym c.self.view_is) c.requires) (number_at Role.Shipment seat.Second) (omega arith);
}

pub turn_eight-requires-clause-h : goal.turn_eight-requires-clause-h
turn_eight-requires-clause-h g c = λ κs within. record {
  service = service_can (in_order (c.self.inside.cart ∷ c.self.inside.product ∷ c.self.inside.stock ∷ c.self.inside.order ∷ c.self.inside.payment ∷ c.self.inside.shipment ∷ c.self.inside.customer ∷ c.self.inside.seller ∷ [])) (subst AreReady (sym c.self.view_is) c.requires) Role.Customer;
  first = lane_can (in_order (c.self.inside.cart ∷ c.self.inside.product ∷ c.self.inside.stock ∷ c.self.inside.order ∷ c.self.inside.payment ∷ c.self.inside.shipment ∷ c.self.inside.customer ∷ c.self.inside.seller ∷ [])) (subst AreReady (sym c.self.view_is) c.requires) (number_at Role.Customer seat.First) (omega arith);
  second = lane_can (in_order (c.self.inside.cart ∷ c.self.inside.product ∷ c.self.inside.stock ∷ c.self.inside.order ∷ c.self.inside.payment ∷ c.self.inside.shipment ∷ c.self.inside.customer ∷ c.self.inside.seller ∷ [])) (subst AreReady (sym c.self.view_is) c.requires) (number_at Role.Customer seat.Second) (omega arith);
}

pub turn_eight-requires-clause-i : goal.turn_eight-requires-clause-i
turn_eight-requires-clause-i g c = λ κs within. record {
  service = service_can (in_order (c.self.inside.cart ∷ c.self.inside.product ∷ c.self.inside.stock ∷ c.self.inside.order ∷ c.self.inside.payment ∷ c.self.inside.shipment ∷ c.self.inside.customer ∷ c.self.inside.seller ∷ [])) (subst AreReady (sym c.self.view_is) c.requires) Role.Seller;
  first = lane_can (in_order (c.self.inside.cart ∷ c.self.inside.product ∷ c.self.inside.stock ∷ c.self.inside.order ∷ c.self.inside.payment ∷ c.self.inside.shipment ∷ c.self.inside.customer ∷ c.self.inside.seller ∷ [])) (subst AreReady (sym c.self.view_is) c.requires) (number_at Role.Seller seat.First) (omega arith);
  second = lane_can (in_order (c.self.inside.cart ∷ c.self.inside.product ∷ c.self.inside.stock ∷ c.self.inside.order ∷ c.self.inside.payment ∷ c.self.inside.shipment ∷ c.self.inside.customer ∷ c.self.inside.seller ∷ [])) (subst AreReady (sym c.self.view_is) c.requires) (number_at Role.Seller seat.Second) (omega arith);
}

pub returns-clause-turned : goal.returns-clause-turned
returns-clause-turned g c =
    subst (λ (old : List FatedNode). OnOk c.turn_eight.result ((n : ℕ) → n < NODES → HasTurnedWithQueue (at_node old n) (at_node (in_order (c.turn_eight.new.a ∷ c.turn_eight.new.b ∷ c.turn_eight.new.c ∷ c.turn_eight.new.d ∷ c.turn_eight.new.e ∷ c.turn_eight.new.f ∷ c.turn_eight.new.h ∷ c.turn_eight.new.i ∷ [])) n))) c.self.view_is
    (all_turned_ok c.self.inside.cart c.self.inside.product c.self.inside.stock c.self.inside.order c.self.inside.payment c.self.inside.shipment c.self.inside.customer c.self.inside.seller c.turn_eight.new.a c.turn_eight.new.b c.turn_eight.new.c c.turn_eight.new.d c.turn_eight.new.e c.turn_eight.new.f c.turn_eight.new.h c.turn_eight.new.i
    c.turn_eight.result c.turn_eight.ensures.a c.turn_eight.ensures.b c.turn_eight.ensures.c c.turn_eight.ensures.d c.turn_eight.ensures.e c.turn_eight.ensures.f c.turn_eight.ensures.h c.turn_eight.ensures.i)
