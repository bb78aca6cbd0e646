-- Links and their indices.
use Rattle.std.proofs.Common.{◌≡◌, ◌<◌, ap, arith}
use Rattle.market_events.specs.declared.links.Link.{Link}
use Rattle.market_events.specs.declared.links.Link.TheVariants.{Service, Asked, Told}
use Rattle.market_events.specs.Links.{IsLink, index_of}
use Rattle.market_events.specs.declared.links.TheConstants.{LINKS}

-- links with one index are one
pub one_index : (a b : Link) → IsLink a → IsLink b → index_of a ≡ index_of b → a ≡ b
one_index (Service m) (Service n) one two e = ap Service e
one_index (Asked i s) (Asked j t) one two e =
    let lane : i ≡ j = omega (arith, one.1, two.1) in
    let service : s ≡ t = omega (arith, one.1, two.1) in
    cc
one_index (Told s i) (Told t j) one two e =
    let lane : i ≡ j = omega (arith, one.0, two.0) in
    let service : s ≡ t = omega (arith, one.0, two.0) in
    cc
one_index (Service m) (Asked j t) one two e = absurd (omega (arith, one))
one_index (Service m) (Told t j) one two e = absurd (omega (arith, one))
one_index (Asked i s) (Service n) one two e = absurd (omega (arith, two))
one_index (Told s i) (Service n) one two e = absurd (omega (arith, two))
one_index (Asked i s) (Told t j) one two e = absurd (omega (arith, one.0, one.1))
one_index (Told s i) (Asked j t) one two e = absurd (omega (arith, two.0, two.1))

-- an index is below the number of links
pub index_small : (link : Link) → IsLink link → index_of link < LINKS
index_small (Service n) on = omega (arith, on)
index_small (Asked lane s) on = omega (arith, on.0, on.1)
index_small (Told s lane) on = omega (arith, on.0, on.1)
