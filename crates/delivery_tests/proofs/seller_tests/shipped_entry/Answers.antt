use Rattle.market_events.specs.ExamplesSeller.{base_shipped}
use Rattle.service_driving.proofs.Standing.{can_take}
use Rattle.delivery_tests.proofs.SellerTesting as t
use Rattle.delivery_tests.proofs.seller_tests.shipped_entry.Goals as goal

pub step-requires : goal.step-requires
step-requires c =
    can_take c.in_ok-sellers.sellers (base_shipped) t.shows_shipped c.asked-asked.result c.in_ok-sellers.ensures t.follows_shows_shipped c.asked-asked.ensures
