use Rattle.std.proofs.Common.{◌≡◌, ℕ, ap, ◌∙◌, arith}
use Rattle.std.specs.List.{slice_index_or, slice_set}
use Rattle.market_rings.specs.NodeEnds.{NodeEnds, no_ends}
use Rattle.market_rings.specs.Wiring.{ends_of}
use Rattle.market_rounds.specs.Nodes.{at_node, with_ends}
use Rattle.market_rounds.proofs.Swapped.{at_place, swapped_more}
use Rattle.market_rounds.proofs.groups.Groups.swap_all_ends.Goals as goal

pub loop-number-preserved : goal.loop-number-preserved
loop-number-preserved c =
    let nodes = c.loop-number.self in
    let all = c.loop-number.all in
    let number = c.loop-number.number in
    let ends = slice_index_or c.loop-number.all c.loop-number.number c.index-all-number.result in
    let here : slice_index_or c.loop-number.all c.loop-number.number c.index-all-number.result ≡ ends_of c.loop-number.all c.loop-number.number =
    at_place all number c.index-all-number.result no_ends (omega (arith, c.loop-number.invariant.many_ends, c.loop-number-test.true)) in
    let node : c.in-Some.node ≡ c.loop-number.number = c.in-Some.ensures.value in
    swapped_more c.args.self.now c.args.all.now nodes c.swap_ends.new.self all (slice_set all number c.swap_ends.new.ends) number c.loop-number.invariant c.loop-number-test.true
    (c.swap_ends.ensures.node
    ∙ ap (λ (n : ℕ). slice_set nodes n (with_ends (at_node nodes n) ends)) node
    ∙ ap (λ (e : NodeEnds). slice_set nodes number (with_ends (at_node nodes number) e)) here)
    (ap (λ (e : NodeEnds). slice_set all number e) (c.swap_ends.ensures.ends ∙ ap (λ (n : ℕ). (at_node nodes n).node.ends) node))
