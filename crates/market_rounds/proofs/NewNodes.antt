-- New nodes with the ends of new rings are ready for a round.
use Rattle.std.proofs.Common.{◌≡◌, ℕ, ◌<◌, List, [], Some, length, refl, ap, subst, sym, ◌∙◌, arith}
use Rattle.std.specs.List.{AllByRecursion}
use Rattle.std.proofs.lemmas.List.{ext_get_or, get_or-map, length-map}
use Rattle.std.proofs.lemmas.List.FromFn.{get_or-map-range_with_len}
use Rattle.market_events.specs.declared.links.Link.{Link}
use Rattle.market_events.specs.declared.nodes.TheConstants.{NODES}
use Rattle.market_events.specs.Links.{IsLink, sender_of, receiver_of}
use Rattle.market_history.specs.Histories.{Histories, journal_at, no_histories}
use Rattle.market_laws.proofs.Bounds.LinkEnds.{sender-small, receiver-small}
use Rattle.market_rings.specs.declared.link_ends.LinkIn.{LinkIn}
use Rattle.market_rings.specs.NodeEnds.{NodeEnds, in_at}
use Rattle.market_rings.specs.Wiring.{IsWired, HasLinkIn, ends_of}
use Rattle.market_turns.specs.Queues.{IsOwnRequest}
use Rattle.market_turns.specs.Turns.{NodeState}
use Rattle.market_rounds.specs.Between.{IsNode, IsCarriedBetween, AreBetween}
use Rattle.market_rounds.specs.Groups.{idle_nodes}
use Rattle.market_rounds.specs.Nodes.{FatedNode, AreReady, at_node, node_by, queue_by, fates_by, idle_node, with_ends, entries_of_node, histories_by, no_fates}
use Rattle.market_rounds.specs.Rounds.{fresh_node}
use Rattle.market_rounds.proofs.FreshNodes.{fresh_between, none_at}

-- what holds between rounds of nodes holds of the same nodes
pub between_same : (h : Histories) (nodes others : ℕ → NodeState) → ((n : ℕ) → n < NODES → nodes n ≡ others n) → AreBetween h nodes → AreBetween h others
between_same h nodes others same between = record {
  lawful = between.lawful;
  each = λ n low. subst (λ (node : NodeState). IsNode h n node) (same n low) (between.each n low);
  links = λ link on.
      subst (λ (to : NodeState). IsCarriedBetween h link (others (sender_of link)) to) (same (receiver_of link) (receiver-small link on))
      (subst (λ (from : NodeState). IsCarriedBetween h link from (nodes (receiver_of link))) (same (sender_of link) (sender-small link on)) (between.links link on));
  only = λ n slot into low there. between.only n slot into low (ap (λ (node : NodeState). in_at node.ends slot) (same n low) ∙ there);
}

-- the journals of nodes are those that each node has
pub histories_are : (nodes : List FatedNode) (h : Histories) → length nodes ≡ NODES → length h ≡ NODES
    → ((n : ℕ) → n < NODES → entries_of_node (at_node nodes n) ≡ journal_at h n) → histories_by nodes ≡ h
unfolding journal_at
histories_are nodes h many each is =
    ext_get_or [] (histories_by nodes) h (length-map nodes entries_of_node ∙ many ∙ sym each)
    (λ i below.
    let low : i < length nodes = omega (arith, below, length-map nodes entries_of_node) in
    get_or-map entries_of_node nodes i (idle_node i) [] low ∙ is i (omega (arith, low, many)))

-- and each node's is among them
pub history_at : (nodes : List FatedNode) (n : ℕ) → n < length nodes → journal_at (histories_by nodes) n ≡ entries_of_node (at_node nodes n)
unfolding journal_at
history_at nodes n low = get_or-map entries_of_node nodes n (idle_node n) [] low

pub idle_at : (n : ℕ) → n < NODES → at_node idle_nodes n ≡ idle_node n
idle_at n low = get_or-map-range_with_len idle_node 0 NODES n n (idle_node n) low (omega arith)

-- nodes that did nothing, once they were given these ends
pub joined_new : (all given : List NodeEnds) (groups nodes : List FatedNode) → given ≡ all → groups ≡ idle_nodes → ((n : ℕ) → n < NODES → at_node nodes n ≡ with_ends (at_node groups n) (ends_of given n))
    → (n : ℕ) → n < NODES → at_node nodes n ≡ with_ends (idle_node n) (ends_of all n)
joined_new all given groups nodes same idle each n low =
    each n low
    ∙ ap (λ (node : FatedNode). with_ends node (ends_of given n)) (ap (λ (ns : List FatedNode). at_node ns n) idle ∙ idle_at n low)
    ∙ ap (λ (ends : List NodeEnds). with_ends (idle_node n) (ends_of ends n)) same

module _ (all : List NodeEnds) (nodes : List FatedNode) (wired : (link : Link) → IsLink link → IsWired all link)
    (only : (node slot : ℕ) (into : LinkIn) → in_at (ends_of all node) slot ≡ Some into → HasLinkIn node slot)
    (many : length nodes ≡ NODES) (each : (n : ℕ) → n < NODES → at_node nodes n ≡ with_ends (idle_node n) (ends_of all n))
  where
    pub new_histories : histories_by nodes ≡ no_histories
    new_histories = histories_are nodes no_histories many refl (λ n low. ap entries_of_node (each n low) ∙ sym (none_at n))

    pub new_queues : (n : ℕ) → n < NODES → queue_by nodes n ≡ []
    new_queues n low = ap (λ (node : FatedNode). node.queue) (each n low)

    pub new_fates : (n : ℕ) → n < NODES → fates_by nodes n ≡ no_fates
    new_fates n low = ap (λ (node : FatedNode). node.fates) (each n low)

    pub new_ready : AreReady nodes
    new_ready = record {
      many = many;
      between = subst (λ (h : Histories). AreBetween h (node_by nodes)) (sym new_histories)
          (between_same no_histories (fresh_node all) (node_by nodes) (λ n low. sym (ap (λ (node : FatedNode). node.node) (each n low))) (fresh_between all wired only));
      own = λ n low. subst (AllByRecursion (IsOwnRequest n)) (sym (new_queues n low)) tt;
    }
