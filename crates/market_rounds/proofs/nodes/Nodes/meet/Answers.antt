use Rattle.std.proofs.Common.{List, subst, sym}
use Rattle.market_events.specs.Links.{sender_of, receiver_of}
use Rattle.market_rings.specs.NodeEnds.{AreJoined}
use Rattle.market_rounds.specs.Nodes.{FatedNode, node_by}
use Rattle.market_rounds.specs.OneRound.{HaveAllMet}
use Rattle.market_rounds.proofs.MetNodes.{joined_out, met_all}
use Rattle.market_rounds.proofs.nodes.Nodes.meet.Goals as goal

pub meet_all-requires-clause-joined : goal.meet_all-requires-clause-joined
meet_all-requires-clause-joined c link on =
    joined_out c.self.inside.groups c.swap_all_ends.new.all c.swap_all_ends.ensures.ends link on
    (subst (λ (nodes : List FatedNode). AreJoined (node_by nodes (sender_of link)).ends (node_by nodes (receiver_of link)).ends link) (sym c.self.view_is) (c.requires.joined link on))

pub returns : goal.returns
returns c =
    subst (λ (old : List FatedNode). HaveAllMet old c.swap_all_ends-2.new.self) c.self.view_is
    (met_all c.self.inside.groups c.swap_all_ends.new.all c.swap_all_ends.ensures.ends c.swap_all_ends.new.self c.swap_all_ends-2.new.self c.deref_mut-all.result.now c.meet_all.new.all
    c.swap_all_ends.ensures.nodes c.swap_all_ends-2.ensures.nodes c.swap_all_ends-2.ensures.many c.meet_all.ensures.met c.meet_all.ensures.only)
