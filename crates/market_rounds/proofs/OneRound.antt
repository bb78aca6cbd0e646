-- A round leaves nodes that are ready for the next, and the histories that the schedule leaves.
use Rattle.std.proofs.Common.{◌≡◌, ℕ, ◌<◌, true, List, [], ◌∷◌, Option, Some, None, is_some, length, refl, ap, subst, sym, ◌∙◌, arith}
use Rattle.std.specs.List.{AllByRecursion}
use Rattle.std.proofs.lemmas.List.{get_or-map, length-map}
use Rattle.market_events.specs.declared.events.Entry.{Entry}
use Rattle.market_events.specs.declared.links.Link.{Link}
use Rattle.market_events.specs.declared.nodes.TheConstants.{NODES}
use Rattle.market_events.specs.declared.requests.Request.{Request}
use Rattle.market_events.specs.Links.{IsLink, sender_of, receiver_of}
use Rattle.market_history.specs.declared.schedule.Give.{Give}
use Rattle.market_history.specs.declared.schedule.Give.TheVariants as give
use Rattle.market_history.specs.Histories.{Histories}
use Rattle.market_history.specs.Once.{give_of}
use Rattle.market_history.specs.Schedule.{play}
use Rattle.market_laws.proofs.Bounds.LinkEnds.{sender-small, receiver-small}
use Rattle.market_links.specs.Slots.{slot_into, slot_from}
use Rattle.market_rings.specs.declared.link_ends.LinkIn.{LinkIn}
use Rattle.market_rings.specs.declared.link_ends.LinkOut.{LinkOut}
use Rattle.market_rings.specs.NodeEnds.{AreJoined, out_at, in_at}
use Rattle.market_turns.specs.Queues.{IsOwnRequest, entries_offered, left_by, queue_after, with_entries_of}
use Rattle.market_turns.specs.Turns.{HasTurnedOut, HasTurnedIn, with_node_committed}
use Rattle.market_rounds.specs.Between.{IsCarriedBetween, AreBetween}
use Rattle.market_rounds.specs.Nodes.{FatedNode, AreReady, HasTurnedWithQueue, at_node, node_by, queue_by, fates_by, idle_node, with_committed, entries_of_node, histories_by, round_steps}
use Rattle.market_rounds.specs.OneRound.{IsOneRound}
use Rattle.market_rounds.specs.Rounds.{IsRound}
use Rattle.market_rounds.proofs.NewNodes.{between_same, histories_are}
use Rattle.market_rounds.proofs.NodeRounds.{one_of, round_keeps}

-- what is there is something
found : {X C : Type 0} (o : Option X) → is_some o ≡ true → ((x : X) → o ≡ Some x → C) → C
found None there use_it = let never : ⊥ = cc in absurd never
found (Some x) there use_it = use_it x refl

-- what is left of a queue is of its requests
left_own : (P : Request → Type 0) (g : Give) (r : Request) (rest passed : List Request) → P r → AllByRecursion P rest → AllByRecursion P passed → AllByRecursion P (left_by g r rest passed)
left_own P give.Asked r rest passed here others after = others
left_own P give.Waiting r rest passed here others after = (here, others)
left_own P other r rest passed here others after = after

pub own_after : (P : Request → Type 0) (entries : List Entry) (queue : List Request) → AllByRecursion P queue → AllByRecursion P (queue_after entries queue)
own_after P entries [] all = tt
own_after P entries (r ∷ rs) all = left_own P (give_of entries r) r rs (queue_after entries rs) all.0 all.1 (own_after P entries rs all.1)

module _ (old turned : List FatedNode) (ready : AreReady old) (turns : (n : ℕ) → n < NODES → HasTurnedWithQueue (at_node old n) (at_node turned n)) where
  -- after the turns the ends of each link are still of the same two rings
  pub joined_after : (link : Link) → IsLink link → AreJoined (node_by turned (sender_of link)).ends (node_by turned (receiver_of link)).ends link
  joined_after link on = record {
    out = _;
    into = _;
    at_sender = t_out.turned;
    at_receiver = t_in.turned;
    joined = (
      ap (λ (o : LinkOut). o.events.ring) old_out ∙ there.carried.events.joined ∙ sym (ap (λ (i : LinkIn). i.events.ring) old_into),
      ap (λ (i : LinkIn). i.counts.ring) old_into ∙ there.carried.counts.joined ∙ sym (ap (λ (o : LinkOut). o.counts.ring) old_out),
    );
  }
    where
      s : ℕ
      s = sender_of link

      r : ℕ
      r = receiver_of link

      there : IsCarriedBetween (histories_by old) link (node_by old (sender_of link)) (node_by old (receiver_of link))
      there = ready.between.links link on

      t_out : HasTurnedOut (node_by old (sender_of link)) (with_entries_of (node_by turned (sender_of link)) (entries_offered (node_by old (sender_of link)))) (fates_by old (sender_of link)) (fates_by turned (sender_of link)) link
      t_out = (turns s (sender-small link on)).links.outs link on (sym (ready.between.each s (sender-small link on)).node_is)

      t_in : HasTurnedIn (node_by old (receiver_of link)) (with_entries_of (node_by turned (receiver_of link)) (entries_offered (node_by old (receiver_of link)))) (fates_by old (receiver_of link)) (fates_by turned (receiver_of link)) link
      t_in = (turns r (receiver-small link on)).links.ins link on (sym (ready.between.each r (receiver-small link on)).node_is)

      old_out : t_out.out ≡ there.out
      old_out = one_of (out_at (node_by old s).ends (slot_from link)) t_out.out there.out t_out.there there.at_sender

      old_into : t_in.into ≡ there.into
      old_into = one_of (in_at (node_by old r).ends (slot_into link)) t_in.into there.into t_in.there there.at_receiver

module _ (old new : List FatedNode) (ready : AreReady old) (round : IsOneRound old new) where
  abbrev turned : List FatedNode
  turned = round.turned

  abbrev met : List FatedNode
  met = round.met

  pub the_round : IsRound (node_by old) (node_by round.turned) (node_by round.met) (queue_by old) (fates_by old) (fates_by round.turned)
  the_round = record {
    turns = λ n low. record {
      links = (round.turns n low).links;
      entries = (round.turns n low).entries;
      slots = (round.turns n low).links.slots ∙ (ready.between.each n low).slots;
    };
    own = ready.own;
    cores = λ n low. ap (λ (node : FatedNode). node.node.core) (round.meeting.others n low);
    links = round.meeting.links;
    only = λ n slot into low there.
        found (in_at (node_by turned n).ends slot) (round.meeting.only n slot into low there)
        (λ middle there_then.
        found (in_at (node_by old n).ends slot) ((round.turns n low).links.only slot middle there_then) (λ first there_first. ready.between.only n slot first low there_first));
  }

  abbrev later : Histories
  later = play (histories_by old) (round_steps old)

  kept : AreBetween later (λ n. with_node_committed (node_by met n))
  kept = round_keeps (histories_by old) (node_by old) (node_by turned) (node_by met) (queue_by old) (fates_by old) (fates_by turned) ready.between the_round

  many_new : length new ≡ NODES
  many_new = ap (λ (ns : List FatedNode). length ns) round.committed ∙ length-map met with_committed ∙ round.meeting.many

  pub at_new : (n : ℕ) → n < NODES → at_node new n ≡ with_committed (at_node met n)
  at_new n low =
      ap (λ (ns : List FatedNode). at_node ns n) round.committed
      ∙ get_or-map with_committed met n (idle_node n) (idle_node n) (omega (arith, low, round.meeting.many))

  pub histories_after : histories_by new ≡ play (histories_by old) (round_steps old)
  histories_after = histories_are new later many_new kept.lawful.each (λ n low. ap entries_of_node (at_new n low) ∙ (kept.each n low).entries)

  pub queue_left : (n : ℕ) → n < NODES → queue_by new n ≡ queue_after (entries_offered (node_by old n)) (queue_by old n)
  queue_left n low =
      ap (λ (node : FatedNode). node.queue) (at_new n low)
      ∙ ap (λ (node : FatedNode). node.queue) (round.meeting.others n low)
      ∙ (round.turns n low).queue

  pub ready_after : AreReady new
  ready_after = record {
    many = many_new;
    between = subst (λ (h : Histories). AreBetween h (node_by new)) (sym histories_after)
        (between_same later (λ n. with_node_committed (node_by met n)) (node_by new) (λ n low. sym (ap (λ (node : FatedNode). node.node) (at_new n low))) kept);
    own = λ n low. subst (AllByRecursion (IsOwnRequest n)) (sym (queue_left n low)) (own_after (IsOwnRequest n) (entries_offered (node_by old n)) (queue_by old n) (ready.own n low));
  }
