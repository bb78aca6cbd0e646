use Rattle.std.proofs.Common.{◌≡◌, ◌+◌, ◌<◌, ◌≤◌, ◌==◌, length, vec_len, set, refl, ap, sym, ◌∙◌, arith}
use Rattle.shipment_service.specs.Tables.{closed_of}
use Rattle.shipment_service.proofs.Closing.{close_from, close_from-one, close_past, close_zero, not_within}
use Rattle.shipment_service.proofs.packages.Packages.close.Goals as goal

pub returns-in_default : goal.returns-in_default
returns-in_default c = let zero_number = c.in_default.ensures in close_zero c.args.number c.args.self.now (omega arith)

pub returns : goal.returns
returns c =
    let k = c.in-Some.index in
    let ps = c.self.inside.in_order.items in
    let below : k < length ps = omega (arith, c.in-Some-get_mut.ensures.variant.0 refl, c.self.inside.in_order.ok.0) in
    let is : c.args.number ≡ 1 + k = omega (arith, c.in-Some.ensures.0, c.in-Some.ensures.1) in
    ap (λ p. set ps k (closed_of p)) c.in-Some-get_mut.ensures.value
    ∙ close_from-one 1 k ps c.in-Some-get_mut.package.now below
    ∙ ap (λ m. close_from (λ n. n == m) 1 ps) (sym is) ∙ ap (close_from (λ n. n == c.args.number) 1) c.self.view_is

pub returns-in_default-get_mut : goal.returns-in_default-get_mut
returns-in_default-get_mut c =
    let past : vec_len c.self.inside.in_order ≤ c.in-Some.index = not_within c.in-Some.index (vec_len c.self.inside.in_order) c.in_default-get_mut.ensures.variant.1 in
    close_past c.args.number c.self.inside.in_order.items (omega (arith, c.in-Some.ensures.0, c.in-Some.ensures.1, c.self.inside.in_order.ok.0, past))
    ∙ ap (close_from (λ n. n == c.args.number) 1) c.self.view_is
