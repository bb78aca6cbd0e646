-- The journals stand in the order of their nodes.
use Rattle.std.proofs.Common.{◌<◌, ap, ◌∙◌, subst, arith}
use Rattle.market_events.specs.declared.nodes.TheConstants.{NODES}
use Rattle.market_history.specs.Histories.{Histories, journal_at, IsHistories}
use Rattle.market_history.proofs.HistoryModel.{node-at, entries-at, are-histories}
use Rattle.market_history.proofs.histories.Histories.journal.Goals as goal

pub returns-clause-node : goal.returns-clause-node
returns-clause-node c =
    let lt : c.get.result < NODES = omega (arith, c.get.ensures.in_range) in
    node-at c.self.inside.journals.items c.get.result c.index.result.now c.self.invariant.0 lt c.index.ensures ∙ c.get.ensures.value

pub returns-clause-entries : goal.returns-clause-entries
returns-clause-entries c =
    let lt : c.get.result < NODES = omega (arith, c.get.ensures.in_range) in
    entries-at c.self.inside.journals.items c.get.result c.index.result.now c.self.invariant.0 lt c.index.ensures
    ∙ ap (λ (h : Histories). journal_at h c.get.result) c.self.view_is ∙ ap (journal_at c.args.self.now) c.get.ensures.value

pub returns-clause-histories : goal.returns-clause-histories
returns-clause-histories c = subst IsHistories c.self.view_is (are-histories c.self.inside.journals.items c.self.invariant.0 c.self.invariant.1)
