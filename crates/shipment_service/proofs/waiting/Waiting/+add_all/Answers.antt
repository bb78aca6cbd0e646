use Rattle.std.proofs.Common.{[], ◌∷◌, ◌++◌, ap, ◌∙◌, subst, sym}
use Rattle.std.specs.List.{enumerate_from}
use Rattle.std.proofs.lemmas.Result.{on_ok_weaker, on_err_weaker}
use Rattle.shipment_service.specs.Tables.{Waits}
use Rattle.shipment_service.proofs.Lining.{below_next, one_and_more}
use Rattle.shipment_service.proofs.waiting.Waiting.+add_all.Goals as goal

pub returns-then-is_err-clause-err : goal.returns-then-is_err-clause-err
returns-then-is_err-clause-err t c =
    let n = c.args.number in
    let item = c.in-Some.item.now in
    on_err_weaker c.add_all-added.result (λ rest waiting waits below.
    c.take_back.ensures waiting (rest (waiting ++ (n, item) ∷ []) (c.in_ok-add.ensures.ok waiting waits below) (below_next n item waiting below)) below)
    c.add_all-added.ensures.err

pub returns-else-is_err-clause-ok : goal.returns-else-is_err-clause-ok
returns-else-is_err-clause-ok t c =
    let n = c.args.number in
    let item = c.in-Some.item.now in
    let others = c.in-Some.others.now in
    on_ok_weaker c.add_all-added.result (λ rest waiting waits below.
    subst (λ all. Waits c.add_all-added.new.self.queues c.add_all-added.new.self.oldest all) (one_and_more waiting n item others ∙ ap (λ items. waiting ++ enumerate_from n items) (sym c.in-Some.ensures.cases.0))
    (rest (waiting ++ (n, item) ∷ []) (c.in_ok-add.ensures.ok waiting waits below) (below_next n item waiting below)))
    c.add_all-added.ensures.ok
