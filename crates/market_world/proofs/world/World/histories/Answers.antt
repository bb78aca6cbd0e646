-- One journal more.
use Rattle.std.proofs.Common.{◌≡◌, ◌+◌, ◌<◌, [], length, take, ap, sym, ◌∙◌, subst, arith}
use Rattle.std.proofs.lemmas.List.{take_more}
use Rattle.market_history.specs.Histories.{journal_at}
use Rattle.market_history.specs.Journals.{JournalState}
use Rattle.market_world.proofs.Ranges.{range_more, gathered_more}
use Rattle.market_world.proofs.world.World.histories.Goals as goal

pub loop-number-preserved : goal.loop-number-preserved
unfolding journal_at
loop-number-preserved c =
    let lt : c.loop-number.number < length c.self.inside.cores = subst (λ n. c.loop-number.number < n) (sym c.self.invariant.each) c.loop-number-test.true in
    let from : c.loop-number.number ≡ 0 + c.loop-number.number = omega arith in (
      range_more (λ (j : JournalState). j.node) 0 c.loop-number.number c.push.new.self.items c.loop-number.journals.items c.in_ok-copy_of.field-0 c.in_ok-push.ensures.items
          c.loop-number.invariant.0 (c.in_ok-copy_of.ensures.node ∙ c.journal.ensures.node ∙ c.node_with-node.ensures ∙ from),
      gathered_more (λ (j : JournalState). j.entries) c.push.new.self.items c.loop-number.journals.items c.in_ok-copy_of.field-0 (take c.loop-number.number c.self.inside.cores) _
          c.in_ok-push.ensures.items c.loop-number.invariant.1
          (c.in_ok-copy_of.ensures.entries ∙ c.journal.ensures.entries ∙ ap (journal_at c.self.inside.cores) c.node_with-node.ensures)
          ∙ sym (take_more c.self.inside.cores c.loop-number.number [] lt),
    )
