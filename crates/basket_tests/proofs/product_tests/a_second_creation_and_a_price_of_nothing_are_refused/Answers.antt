use Rattle.std.proofs.Common.{[]}
use Rattle.market_events.specs.declared.requests.Ask.TheVariants.{Price}
use Rattle.service_driving.proofs.Standing.{can_take_body, took_body, starts}
use Rattle.basket_tests.proofs.ProductTesting.{after, asked, bowl, create, from_lane, create_fits, second_fits, price_fits}
use Rattle.basket_tests.proofs.product_tests.a_second_creation_and_a_price_of_nothing_are_refused.Goals as goal

pub step-requires : goal.step-requires
step-requires g c =
    let p = c.in_ok-price.price in
    let f = c.in_ok-freight.freight in
    let is = c.in_ok-price.ensures.ok in
    let none = c.in_ok-freight.ensures.ok in
    can_take_body c.new-products.result [] from_lane c.asked-create_mug.result (asked 1 (create p f)) (starts c.new-products.result c.new-products.ensures) c.asked-create_mug.ensures (create_fits p f is none)

pub step-requires-2 : goal.step-requires-2
step-requires-2 g c =
    let p = c.in_ok-price.price in
    let f = c.in_ok-freight.freight in
    let is = c.in_ok-price.ensures.ok in
    let none = c.in_ok-freight.ensures.ok in
    let first = took_body c.new-products.result c.step.new.service [] from_lane c.asked-create_mug.result (asked 1 (create p f)) (starts c.new-products.result c.new-products.ensures) c.asked-create_mug.ensures (create_fits p f is none) c.in_ok-first.ensures.stands in
    can_take_body c.step.new.service (after [] 1 (create p f)) from_lane c.asked-create_again.result (asked 2 (create p f)) first c.asked-create_again.ensures (second_fits p f is none)

pub step-requires-3 : goal.step-requires-3
step-requires-3 g c =
    let p = c.in_ok-price.price in
    let f = c.in_ok-freight.freight in
    let is = c.in_ok-price.ensures.ok in
    let none = c.in_ok-freight.ensures.ok in
    let first = took_body c.new-products.result c.step.new.service [] from_lane c.asked-create_mug.result (asked 1 (create p f)) (starts c.new-products.result c.new-products.ensures) c.asked-create_mug.ensures (create_fits p f is none) c.in_ok-first.ensures.stands in
    let second = took_body c.step.new.service c.step-2.new.service (after [] 1 (create p f)) from_lane c.asked-create_again.result (asked 2 (create p f)) first c.asked-create_again.ensures (second_fits p f is none) c.in_ok-second.ensures.stands in
    can_take_body c.step-2.new.service (after (after [] 1 (create p f)) 2 (create p f)) from_lane c.asked-price_bowl.result (asked 3 (Price bowl p)) second c.asked-price_bowl.ensures (price_fits p f is none)
