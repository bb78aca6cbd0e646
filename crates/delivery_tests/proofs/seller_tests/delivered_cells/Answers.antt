use Rattle.market_events.specs.ExamplesSeller.{base_shipped}
use Rattle.service_driving.proofs.Standing.{can_take}
use Rattle.delivery_tests.proofs.SellerTesting as t
use Rattle.delivery_tests.proofs.seller_tests.delivered_cells.Goals as goal

pub touches-requires : goal.touches-requires
touches-requires c =
    can_take c.in_ok-sellers.sellers base_shipped t.delivered c.in_ok-delivered.delivered c.in_ok-sellers.ensures t.follows_delivered c.in_ok-delivered.ensures
