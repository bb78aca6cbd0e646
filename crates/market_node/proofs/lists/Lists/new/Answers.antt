use Rattle.std.proofs.Common.{◌≡◌, ◌∷◌, [], ◌++◌, List, length, replicate, ap, ◌∙◌, arith}
use Rattle.std.proofs.lemmas.List.{length-replicate, replicate_more}
use Rattle.market_links.specs.declared.slots.TheConstants.{SLOTS}
use Rattle.market_node.specs.Notes.{no_places}
use Rattle.market_node.specs.PlaceStates.{PlaceState}
use Rattle.market_node.proofs.lists.Lists.new.Goals as goal

pub loop-slot-init : goal.loop-slot-init
loop-slot-init c = c.new-lists.ensures.items

pub loop-slot-preserved : goal.loop-slot-preserved
loop-slot-preserved c =
    c.in_ok-push.ensures.items ∙ ap (λ (ps : List PlaceState). ps ++ c.new.result ∷ []) c.loop-slot.invariant
    ∙ ap (λ (p : PlaceState). replicate c.loop-slot._slot no_places ++ p ∷ []) c.new.ensures ∙ replicate_more c.loop-slot._slot no_places

pub invariant_of-result : goal.invariant_of-result
invariant_of-result c =
    let long : length c.loop-slot.lists.items ≡ c.loop-slot._slot = ap (λ (ps : List PlaceState). length ps) c.loop-slot.invariant ∙ length-replicate c.loop-slot._slot no_places in
    omega (arith, c.loop-slot-test.false, c.loop-slot.auto._slot-end)

pub returns : goal.returns
returns c =
    let all : c.loop-slot._slot ≡ SLOTS = omega (arith, c.loop-slot-test.false, c.loop-slot.auto._slot-end) in
    c.loop-slot.invariant ∙ ap (λ n. replicate n no_places) all
