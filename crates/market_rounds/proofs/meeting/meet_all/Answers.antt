use Rattle.std.proofs.Common.{◌+◌, subst, sym}
use Rattle.market_rounds.proofs.MetLinks.{AreMetBelow, met_next}
use Rattle.market_rounds.proofs.meeting.meet_all.Goals as goal

pub loop-index-preserved : goal.loop-index-preserved
loop-index-preserved c =
    let at = c.link_at.ensures.index in
    subst (λ k. AreMetBelow c.args.all.now c.meet_at.new.all (k + 1)) at
    (met_next c.loop-index.all c.meet_at.new.all c.link_at.result c.link_at.ensures.link c.meet_at.ensures c.args.all.now
    (subst (λ k. AreMetBelow c.args.all.now c.loop-index.all k) (sym at) c.loop-index.invariant))
