-- The ends of all nodes are taken out, brought together and put back.
use Rattle.std.proofs.Common.{◌≡◌, ℕ, ◌<◌, true, List, Some, is_some, length, ap, subst, sym, ◌∙◌}
use Rattle.market_events.specs.declared.links.Link.{Link}
use Rattle.market_events.specs.declared.nodes.TheConstants.{NODES}
use Rattle.market_events.specs.Links.{IsLink, sender_of, receiver_of}
use Rattle.market_laws.proofs.Bounds.LinkEnds.{sender-small, receiver-small}
use Rattle.market_rings.specs.declared.link_ends.LinkIn.{LinkIn}
use Rattle.market_rings.specs.NodeEnds.{NodeEnds, AreJoined, in_at}
use Rattle.market_rings.specs.Wiring.{ends_of}
use Rattle.market_rounds.specs.Nodes.{FatedNode, at_node, node_by, with_ends}
use Rattle.market_rounds.specs.OneRound.{HaveAllMet}
use Rattle.market_rounds.specs.Rounds.{HasMetBetween}

module _ (old : List FatedNode) (taken : List NodeEnds) (out : (n : ℕ) → n < NODES → ends_of taken n ≡ (at_node old n).node.ends) where
  -- the ends that were taken out are joined where those of the nodes are
  pub joined_out : (link : Link) → IsLink link → AreJoined (node_by old (sender_of link)).ends (node_by old (receiver_of link)).ends link
      → AreJoined (ends_of taken (sender_of link)) (ends_of taken (receiver_of link)) link
  joined_out link on joined =
      subst (λ (to : NodeEnds). AreJoined (ends_of taken (sender_of link)) to link) (sym (out (receiver_of link) (receiver-small link on)))
      (subst (λ (from : NodeEnds). AreJoined from (node_by old (receiver_of link)).ends link) (sym (out (sender_of link) (sender-small link on))) joined)

  module _ (between new : List FatedNode) (given met : List NodeEnds)
      (first : (n : ℕ) → n < NODES → at_node between n ≡ with_ends (at_node old n) (ends_of given n))
      (second : (n : ℕ) → n < NODES → at_node new n ≡ with_ends (at_node between n) (ends_of met n))
      (many : length new ≡ NODES)
      (links : (link : Link) → IsLink link → HasMetBetween link (ends_of taken (sender_of link)) (ends_of taken (receiver_of link)) (ends_of met (sender_of link)) (ends_of met (receiver_of link)))
      (only : (n slot : ℕ) (into : LinkIn) → in_at (ends_of met n) slot ≡ Some into → is_some (in_at (ends_of taken n) slot) ≡ true)
    where
      back : (n : ℕ) → n < NODES → at_node new n ≡ with_ends (at_node old n) (ends_of met n)
      back n low = second n low ∙ ap (λ (node : FatedNode). with_ends node (ends_of met n)) (first n low)

      back_ends : (n : ℕ) → n < NODES → ends_of met n ≡ (node_by new n).ends
      back_ends n low = sym (ap (λ (node : FatedNode). node.node.ends) (back n low))

      pub met_all : HaveAllMet old new
      met_all = record {
        many = many;
        others = λ n low. back n low ∙ ap (with_ends (at_node old n)) (back_ends n low);
        links = λ link on.
            let s = sender_of link in
            let r = receiver_of link in
            let at_s = sender-small link on in
            let at_r = receiver-small link on in
            subst (λ (e : NodeEnds). HasMetBetween link (node_by old s).ends (node_by old r).ends (node_by new s).ends e) (back_ends r at_r)
            (subst (λ (e : NodeEnds). HasMetBetween link (node_by old s).ends (node_by old r).ends e (ends_of met r)) (back_ends s at_s)
            (subst (λ (e : NodeEnds). HasMetBetween link (node_by old s).ends e (ends_of met s) (ends_of met r)) (out r at_r)
            (subst (λ (e : NodeEnds). HasMetBetween link e (ends_of taken r) (ends_of met s) (ends_of met r)) (out s at_s) (links link on))));
        only = λ n slot into low there.
            ap (λ (e : NodeEnds). is_some (in_at e slot)) (sym (out n low))
            ∙ only n slot into (ap (λ (e : NodeEnds). in_at e slot) (back_ends n low) ∙ there);
      }
