-- An entry of the journal may stand at its place in the copy.
use Rattle.std.proofs.Common.{◌<◌, List, length, get_or, ap, ◌∙◌, subst}
use Rattle.market_events.specs.declared.events.Entry.{Entry}
use Rattle.market_world.proofs.Copying.{entry_copied}
use Rattle.market_world.proofs.copies.copy_of.Goals as goal

pub push-requires : goal.push-requires
push-requires c =
    entry_copied c.args.journal.now.node c.args.journal.now.entries c.loop-entry.copy c.loop-entry.entry-index c.in_ok-try_copy.field-0 c.entry-item.result
    c.entries-entry-items.ensures.journal c.loop-entry.invariant.0 c.loop-entry.invariant.1
    (subst (λ (es : List Entry). c.loop-entry.entry-index < length es) c.entries-entry-items.ensures.value c.loop-entry-test.true)
    (c.in_ok-try_copy.ensures ∙ c.entry-item.is ∙ ap (λ (es : List Entry). get_or es c.loop-entry.entry-index c.entry-item.result) c.entries-entry-items.ensures.value)
