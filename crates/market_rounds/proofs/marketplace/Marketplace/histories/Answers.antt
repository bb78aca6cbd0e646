-- One journal more.
use Rattle.std.proofs.Common.{◌≡◌, ◌+◌, ◌<◌, [], length, take, ap, sym, ◌∙◌, arith}
use Rattle.std.proofs.lemmas.List.{length-map, take_more}
use Rattle.market_events.specs.declared.nodes.TheConstants.{NODES}
use Rattle.market_history.specs.Histories.{journal_at}
use Rattle.market_history.specs.Journals.{JournalState}
use Rattle.market_world.proofs.Ranges.{range_more, gathered_more}
use Rattle.market_rounds.specs.Markets.{MarketState}
use Rattle.market_rounds.specs.Nodes.{AreReady, entries_of_node, histories_by}
use Rattle.market_rounds.proofs.Answering.{journal_of}
use Rattle.market_rounds.proofs.marketplace.Marketplace.histories.Goals as goal

pub loop-number-preserved : goal.loop-number-preserved
unfolding journal_at
loop-number-preserved c =
    let ready : AreReady c.self.inside.nodes = (c.self.invariant (ap (λ (m : MarketState). m.usable) c.self.view_is ∙ c.requires)).0 in
    let many : length (histories_by c.self.inside.nodes) ≡ NODES = length-map c.self.inside.nodes entries_of_node ∙ ready.many in
    let lt : c.loop-number.number < length (histories_by c.self.inside.nodes) = omega (arith, c.loop-number-test.true, many) in
    let low : c.node_with-node.result < NODES = omega (arith, c.loop-number-test.true, c.node_with-node.ensures) in
    let from : c.loop-number.number ≡ 0 + c.loop-number.number = omega arith in (
      range_more (λ (j : JournalState). j.node) 0 c.loop-number.number c.push.new.self.items c.loop-number.journals.items c.in_ok-copy_of.field-0 c.in_ok-push.ensures.items
          c.loop-number.invariant.0 (c.in_ok-copy_of.ensures.node ∙ c.journal.ensures.node ∙ (ready.between.each c.node_with-node.result low).node_is ∙ c.node_with-node.ensures ∙ from),
      gathered_more (λ (j : JournalState). j.entries) c.push.new.self.items c.loop-number.journals.items c.in_ok-copy_of.field-0 (take c.loop-number.number (histories_by c.self.inside.nodes)) _
          c.in_ok-push.ensures.items c.loop-number.invariant.1
          (c.in_ok-copy_of.ensures.entries ∙ c.journal.ensures.entries ∙ sym (journal_of c.self.inside.nodes c.node_with-node.result) ∙ ap (journal_at (histories_by c.self.inside.nodes)) c.node_with-node.ensures)
          ∙ sym (take_more (histories_by c.self.inside.nodes) c.loop-number.number [] lt),
    )
