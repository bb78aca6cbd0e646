use Rattle.std.proofs.Common.{◌≡◌, ◌==◌, ◌<◌, ◌≤◌, true, slice_index, sym, ◌∙◌, ap, below_more, arith}
use Rattle.market_events.specs.declared.links.Link.TheVariants.{Service}
use Rattle.market_events.specs.Links.{receiver_of}
use Rattle.market_events.proofs.Values.Offers.{is_ready-true, is_ready-false}
use Rattle.market_links.proofs.ReadyLemmas.{unmet, met_elsewhere, met_within}
use Rattle.market_auditor.proofs.readiness.is_ready.Goals as goal
use Rattle.market_auditor.proofs.readiness.is_ready.Goals.{else-eq-via-then-eq+else-get, else-eq-via-else-eq}

pub returns-then-get : goal.returns-then-get
returns-then-get c =
    let into : (receiver_of (Service c.loop-number.number) == c.args.node) ≡ true = ap (λ r. r == c.args.node) (sym c.receiver_of.ensures) ∙ sym c.eq.ensures ∙ c.if-eq.true in
    let above : slice_index c.args.taken.now c.loop-number.number < slice_index c.args.past.now c.loop-number.number = rw (← c.get.ensures, ← c.get-then-eq.ensures) c.if-get.true in
    sym (is_ready-false c.args.node c.args.taken.now c.args.past.now c.loop-number.number (omega arith) (unmet _ _ _ _ into above))

pub loop-number-preserved : goal.loop-number-preserved
loop-number-preserved c =
    below_more _ _ c.loop-number.invariant
    (elim c.else-eq.branch [
      | else-eq-via-then-eq+else-get w ↦ let within : slice_index c.args.past.now c.loop-number.number ≤ slice_index c.args.taken.now c.loop-number.number = rw (← w.get.ensures, ← w.get-then-eq.ensures) w.if-get.false in met_within _ _ _ _ within
      | else-eq-via-else-eq w ↦ met_elsewhere _ _ _ _ (ap (λ r. r == c.args.node) (sym c.receiver_of.ensures) ∙ sym c.eq.ensures ∙ w.if-eq.false)
    ])

pub returns : goal.returns
returns c = sym (is_ready-true c.args.node c.args.taken.now c.args.past.now (λ k lt. c.loop-number.invariant k (omega arith)))
