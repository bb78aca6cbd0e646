use Rattle.std.proofs.Common.{Some, cond, get_or, ◌==◌, ap, sym, ◌∙◌}
use Rattle.market_events.specs.Entries.{entry_at}
use Rattle.shipment_service.proofs.Numbers.{put_at-more}
use Rattle.shipment_service.proofs.Padding.{no_package}
use Rattle.shipment_service.proofs.picked.Picked.put_all.Goals as goal

pub loop-package-preserved : goal.loop-package-preserved
loop-package-preserved c = λ n.
    let ps = c.args.group.now in
    let i = c.loop-package.package-index in
    let p = get_or ps i no_package in
    c.in_ok-put.ensures n
    ∙ ap (λ o. cond (p.0 == n) (Some p.1) o) (c.loop-package.invariant n)
    ∙ sym (put_at-more n (entry_at c.args.self.now n) ps i no_package c.loop-package-test.true)
