use Rattle.std.proofs.Common.{[]}
use Rattle.service_driving.proofs.Standing.{can_take_body, took_body, starts}
use Rattle.basket_tests.proofs.ProductTesting.{after, asked, create, from_lane, create_fits}
use Rattle.basket_tests.proofs.product_tests.a_creation_is_told_in_a_cell.Goals as goal

pub tell-requires : goal.tell-requires
tell-requires g c =
    let p = c.in_ok-price.price in
    let f = c.in_ok-freight.freight in
    can_take_body c.new-products.result [] from_lane c.asked-create_mug.result (asked 1 (create p f)) (starts c.new-products.result c.new-products.ensures) c.asked-create_mug.ensures
    (create_fits p f c.in_ok-price.ensures.ok c.in_ok-freight.ensures.ok)

pub value-requires : goal.value-requires
value-requires g c =
    let p = c.in_ok-price.price in
    let f = c.in_ok-freight.freight in
    let told = took_body c.new-products.result c.tell.new.service [] from_lane c.asked-create_mug.result (asked 1 (create p f)) (starts c.new-products.result c.new-products.ensures) c.asked-create_mug.ensures
    (create_fits p f c.in_ok-price.ensures.ok c.in_ok-freight.ensures.ok) c.in_ok-names.ensures in
    ∣ (after [] 1 (create p f), told) ∣₁
