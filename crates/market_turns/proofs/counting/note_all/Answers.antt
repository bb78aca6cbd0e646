use Rattle.std.proofs.Common.{◌+◌, drop, ap, sym, ◌∙◌}
use Rattle.std.specs.List.{slice_index}
use Rattle.std.proofs.lemmas.List.{drop_all}
use Rattle.market_node.specs.Cores.{CoreState}
use Rattle.market_turns.specs.Turns.{with_counts_back}
use Rattle.market_turns.proofs.Counts.{counts_none, counts_first}
use Rattle.market_turns.proofs.Slots.{drop_one}
use Rattle.market_turns.proofs.counting.note_all.Goals as goal

pub loop-count-preserved : goal.loop-count-preserved
loop-count-preserved g c =
    let i = c.loop-count.count-index in
    let counts = c.args.counts.now in
    let now = g.C.Core.state c.loop-count.core in (
      ap (λ (s : CoreState). s.node) c.ack.ensures ∙ c.loop-count.invariant.0,
      ap (λ s. with_counts_back s c.args.link (drop (i + 1) counts)) c.ack.ensures
          ∙ counts_first now c.args.link (slice_index counts i) (drop (i + 1) counts)
          ∙ ap (with_counts_back now c.args.link) (sym (drop_one counts i 0 c.loop-count-test.true))
          ∙ c.loop-count.invariant.1,
    )

pub returns : goal.returns
returns g c =
    sym (counts_none (g.C.Core.state c.loop-count.core) c.args.link)
    ∙ ap (with_counts_back (g.C.Core.state c.loop-count.core) c.args.link) (sym (drop_all c.loop-count.count-index c.args.counts.now c.loop-count-test.false))
    ∙ c.loop-count.invariant.1
