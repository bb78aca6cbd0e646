use Rattle.market_rounds.proofs.NewNodes.{joined_new, new_ready, new_histories, new_queues, new_fates}
use Rattle.market_rounds.proofs.nodes.Nodes.new.Goals as goal

pub returns-clause-ready : goal.returns-clause-ready
returns-clause-ready c =
    new_ready c.in_ok-others.others.items c.swap_all_ends.new.self c.in_ok-others.ensures.wired c.in_ok-others.ensures.ins c.swap_all_ends.ensures.many
    (joined_new c.in_ok-others.others.items c.deref_mut.result.now c.in_ok-groups.groups c.swap_all_ends.new.self c.deref_mut.ensures.value c.in_ok-groups.ensures c.swap_all_ends.ensures.nodes)

pub returns-clause-histories : goal.returns-clause-histories
returns-clause-histories c =
    new_histories c.in_ok-others.others.items c.swap_all_ends.new.self c.in_ok-others.ensures.wired c.in_ok-others.ensures.ins c.swap_all_ends.ensures.many
    (joined_new c.in_ok-others.others.items c.deref_mut.result.now c.in_ok-groups.groups c.swap_all_ends.new.self c.deref_mut.ensures.value c.in_ok-groups.ensures c.swap_all_ends.ensures.nodes)

pub returns-clause-queues : goal.returns-clause-queues
returns-clause-queues c =
    new_queues c.in_ok-others.others.items c.swap_all_ends.new.self c.in_ok-others.ensures.wired c.in_ok-others.ensures.ins c.swap_all_ends.ensures.many
    (joined_new c.in_ok-others.others.items c.deref_mut.result.now c.in_ok-groups.groups c.swap_all_ends.new.self c.deref_mut.ensures.value c.in_ok-groups.ensures c.swap_all_ends.ensures.nodes)

pub returns-clause-fates : goal.returns-clause-fates
returns-clause-fates c =
    new_fates c.in_ok-others.others.items c.swap_all_ends.new.self c.in_ok-others.ensures.wired c.in_ok-others.ensures.ins c.swap_all_ends.ensures.many
    (joined_new c.in_ok-others.others.items c.deref_mut.result.now c.in_ok-groups.groups c.swap_all_ends.new.self c.deref_mut.ensures.value c.in_ok-groups.ensures c.swap_all_ends.ensures.nodes)
