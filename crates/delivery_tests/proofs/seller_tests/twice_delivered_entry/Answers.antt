use Rattle.market_events.specs.ExamplesSeller.{base_shipped, base_delivered, two_delivered}
use Rattle.service_driving.proofs.Standing.{can_take, took}
use Rattle.delivery_tests.proofs.SellerTesting as t
use Rattle.delivery_tests.proofs.seller_tests.twice_delivered_entry.Goals as goal

pub step-requires : goal.step-requires
step-requires c =
    can_take c.in_ok-sellers.sellers base_shipped t.delivered c.in_ok-delivered.delivered c.in_ok-sellers.ensures t.follows_delivered c.in_ok-delivered.ensures

pub step-requires-2 : goal.step-requires-2
step-requires-2 c =
    let after_1 = took c.in_ok-sellers.sellers c.step.new.service base_shipped t.delivered c.in_ok-delivered.delivered c.in_ok-sellers.ensures t.follows_delivered c.in_ok-delivered.ensures c.in_ok-step.ensures.stands in
    can_take c.step.new.service base_delivered t.delivered_again c.in_ok-again.again after_1 t.follows_delivered_again c.in_ok-again.ensures

pub step-requires-3 : goal.step-requires-3
step-requires-3 c =
    let after_1 = took c.in_ok-sellers.sellers c.step.new.service base_shipped t.delivered c.in_ok-delivered.delivered c.in_ok-sellers.ensures t.follows_delivered c.in_ok-delivered.ensures c.in_ok-step.ensures.stands in
    let after_2 = took c.step.new.service c.step-2.new.service base_delivered t.delivered_again c.in_ok-again.again after_1 t.follows_delivered_again c.in_ok-again.ensures c.in_ok-step-2.ensures.stands in
    can_take c.step-2.new.service two_delivered t.shows_twice c.asked-asked.result after_2 t.follows_shows_twice c.asked-asked.ensures
