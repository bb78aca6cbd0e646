use Rattle.std.proofs.Common.{◌==◌, take, get_or, add-one, ap, sym, ◌∙◌}
use Rattle.std.proofs.Math.Seq.{take-suc}
use Rattle.std.proofs.lemmas.List.{take_all}
use Rattle.shipment_service.specs.Tables.{close_if, is_one_of}
use Rattle.shipment_service.proofs.Closing.{close-none, close-more}
use Rattle.shipment_service.proofs.packages.Packages.close_all.Goals as goal

pub loop-number-init : goal.loop-number-init
loop-number-init c = close-none c.args.self.now

pub loop-number-preserved : goal.loop-number-preserved
loop-number-preserved c =
    let ks = c.args.numbers.now in
    let i = c.loop-number.number-index in
    c.close.ensures ∙ ap (close_if (λ n. n == get_or ks i 0)) c.loop-number.invariant ∙ close-more (take i ks) (get_or ks i 0) c.args.self.now
    ∙ sym (ap (λ js. close_if (is_one_of js) c.args.self.now) (rw add-one (take-suc ks i 0 c.loop-number-test.true)))

pub returns : goal.returns
returns c =
    c.loop-number.invariant ∙ ap (λ ks. close_if (is_one_of ks) c.args.self.now) (take_all c.loop-number.number-index c.args.numbers.now c.loop-number-test.false)
