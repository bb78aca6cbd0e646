-- The ends of all nodes are exchanged with those of a list, node by node.
use Rattle.std.proofs.Common.{◌≡◌, ◌≢◌, ℕ, zero, suc, ◌+◌, ◌<◌, ◌≤◌, Bool, true, false, ◌==◌, List, [], ◌∷◌, length, refl, ap, subst, ◌∙◌, arith}
use Rattle.std.specs.List.{slice_index_or, slice_set}
use Rattle.std.proofs.lemmas.Bool.Decides.{nat_tests}
use Rattle.std.proofs.lemmas.List.{get_or-set_same, get_or-set_other, length-set}
use Rattle.market_events.specs.declared.nodes.TheConstants.{NODES}
use Rattle.market_rings.specs.NodeEnds.{NodeEnds, no_ends}
use Rattle.market_rings.specs.Wiring.{ends_of}
use Rattle.market_rounds.specs.Nodes.{FatedNode, at_node, idle_node, with_ends}

-- those of the nodes below one are exchanged, and the others are as they were
pub record AreSwappedBelow (start : List FatedNode) (given : List NodeEnds) (nodes : List FatedNode) (all : List NodeEnds) (first : ℕ) : Type 0 where
  pub many : length nodes ≡ NODES
  pub many_ends : length all ≡ NODES
  pub swapped : (n : ℕ) → n < first → at_node nodes n ≡ with_ends (at_node start n) (ends_of given n)
  pub taken : (n : ℕ) → n < first → ends_of all n ≡ (at_node start n).node.ends
  pub same : (n : ℕ) → first ≤ n → at_node nodes n ≡ at_node start n
  pub same_ends : (n : ℕ) → first ≤ n → ends_of all n ≡ ends_of given n

pub swapped_none : (start : List FatedNode) (given : List NodeEnds) → length start ≡ NODES → length given ≡ NODES → AreSwappedBelow start given start given 0
swapped_none start given many many_ends = record {
  many = many;
  many_ends = many_ends;
  swapped = λ n none. absurd (omega arith);
  taken = λ n none. absurd (omega arith);
  same = λ n from. refl;
  same_ends = λ n from. refl;
}

-- and those of one more
pub swapped_more : (start : List FatedNode) (given : List NodeEnds) (nodes next : List FatedNode) (all after : List NodeEnds) (first : ℕ)
    → AreSwappedBelow start given nodes all first → first < NODES
    → next ≡ slice_set nodes first (with_ends (at_node nodes first) (ends_of all first))
    → after ≡ slice_set all first (at_node nodes first).node.ends
    → AreSwappedBelow start given next after (first + 1)
swapped_more start given nodes next all after first are low set taken = record {
  many = ap (λ (ns : List FatedNode). length ns) set ∙ length-set nodes first (with_ends (at_node nodes first) (ends_of all first)) ∙ are.many;
  many_ends = ap (λ (es : List NodeEnds). length es) taken ∙ length-set all first (at_node nodes first).node.ends ∙ are.many_ends;
  swapped = λ n below. by_test n below (first == n) refl;
  taken = λ n below. taken_by_test n below (first == n) refl;
  same = λ n above. other n (omega arith) ∙ are.same n (omega arith);
  same_ends = λ n above. other_ends n (omega arith) ∙ are.same_ends n (omega arith);
}
  where
    other : (n : ℕ) → n ≢ first → at_node next n ≡ at_node nodes n
    other n differs =
        ap (λ (ns : List FatedNode). at_node ns n) set
        ∙ get_or-set_other nodes first n (with_ends (at_node nodes first) (ends_of all first)) (idle_node n) differs

    other_ends : (n : ℕ) → n ≢ first → ends_of after n ≡ ends_of all n
    other_ends n differs =
        ap (λ (es : List NodeEnds). ends_of es n) taken ∙ get_or-set_other all first n (at_node nodes first).node.ends no_ends differs

    here : at_node next first ≡ with_ends (at_node start first) (ends_of given first)
    here =
        ap (λ (ns : List FatedNode). at_node ns first) set
        ∙ get_or-set_same nodes first (with_ends (at_node nodes first) (ends_of all first)) (idle_node first) (omega (arith, are.many, low))
        ∙ ap (λ (node : FatedNode). with_ends node (ends_of all first)) (are.same first (omega arith))
        ∙ ap (with_ends (at_node start first)) (are.same_ends first (omega arith))

    here_taken : ends_of after first ≡ (at_node start first).node.ends
    here_taken =
        ap (λ (es : List NodeEnds). ends_of es first) taken
        ∙ get_or-set_same all first (at_node nodes first).node.ends no_ends (omega (arith, are.many_ends, low))
        ∙ ap (λ (node : FatedNode). node.node.ends) (are.same first (omega arith))

    by_test : (n : ℕ) → n < first + 1 → (b : Bool) → (first == n) ≡ b → at_node next n ≡ with_ends (at_node start n) (ends_of given n)
    by_test n below true test =
        let e : first ≡ n = grind (arith, nat_tests) in
        subst (λ k. at_node next k ≡ with_ends (at_node start k) (ends_of given k)) e here
    by_test n below false test =
        let differs : n ≢ first = grind (arith, nat_tests) in
        let lower : n < first = grind (arith, nat_tests) in
        other n differs ∙ are.swapped n lower

    taken_by_test : (n : ℕ) → n < first + 1 → (b : Bool) → (first == n) ≡ b → ends_of after n ≡ (at_node start n).node.ends
    taken_by_test n below true test =
        let e : first ≡ n = grind (arith, nat_tests) in
        subst (λ k. ends_of after k ≡ (at_node start k).node.ends) e here_taken
    taken_by_test n below false test =
        let differs : n ≢ first = grind (arith, nat_tests) in
        let lower : n < first = grind (arith, nat_tests) in
        other_ends n differs ∙ are.taken n lower

-- what stands at a place that is there is the same by every default
pub at_place : {X : Type 0} (xs : List X) (i : ℕ) (d e : X) → i < length xs → slice_index_or xs i d ≡ slice_index_or xs i e
at_place [] i d e low = absurd (omega arith)
at_place (x ∷ xs) zero d e low = refl
at_place (x ∷ xs) (suc i) d e low = at_place xs i d e (omega arith)
