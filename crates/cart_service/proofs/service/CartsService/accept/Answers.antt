use Rattle.std.proofs.Common.{◌+◌, List, ◌∷◌, ◌++◌, [], ap, subst, sym, ◌∙◌}
use Rattle.std.proofs.lemmas.Result.{on_ok_weaker}
use Rattle.cart_service.specs.Tables.{CartTables}
use Rattle.market_events.specs.declared.replies.Reply.TheVariants.{Undone}
use Rattle.market_events.specs.declared.roles.Role.{Role}
use Rattle.market_events.specs.Carts.{cart_rows, cart_sums}
use Rattle.market_events.specs.Links.{cart_node}
use Rattle.market_events.specs.Looks.{look_version, can_change}
use Rattle.market_events.specs.Steps.{Sending, told}
use Rattle.cart_replica.specs.Copy.{look_at}
use Rattle.cart_replica.proofs.Taking.{next_version, may_change}
use Rattle.cart_service.specs.Holds.{Holds}
use Rattle.cart_service.proofs.Steps.{makes, on_err, kept_same, kept_failed, kept_ended, kept_changed, kept_asked, made_asked, changed_due, no_other, other_kind}
use Rattle.cart_service.proofs.service.CartsService.accept.Goals as goal

pub apply-requires-clause-next : goal.apply-requires-clause-next
apply-requires-clause-next c =
    next_version Role.Cart Holds c.args.self.now c.args._from c.args.body.now c.requires.can (look_at c.args.self.now.copy c.in-Changed.key) c.in-Changed.version c.in-Changed.change
    (changed_due c.args.self.now c.args._from c.args.body.now c.in-Changed.key c.in-Changed.version c.in-Changed.change c.in-Changed.is)
    ∙ ap (λ (kept : CartTables). look_version (look_at kept.copy c.in-Changed.key) + 1) (sym c.self.view_is)

pub apply-requires-clause-can : goal.apply-requires-clause-can
apply-requires-clause-can c =
    ap (λ (kept : CartTables). can_change (look_at kept.copy c.in-Changed.key) c.in-Changed.change) c.self.view_is
    ∙ may_change Role.Cart Holds c.args.self.now c.args._from c.args.body.now c.requires.can (look_at c.args.self.now.copy c.in-Changed.key) c.in-Changed.version c.in-Changed.change
    (changed_due c.args.self.now c.args._from c.args.body.now c.in-Changed.key c.in-Changed.version c.in-Changed.change c.in-Changed.is)

pub unreachable-requires : goal.unreachable-requires
unreachable-requires c =
    no_other c.args.self.now c.args._from c.args.body.now c.requires.can
    (other_kind c.args.body.now c.in_default.not-Changed c.in_default.not-Asked c.in_default.not-ReserveFailed c.in_default.not-Ended)

pub returns-in-Changed-clause-made : goal.returns-in-Changed-clause-made
returns-in-Changed-clause-made c =
    on_ok_weaker c.apply.result (λ copies steps stands fit.
    c.requires.empty ∙ sym (makes steps c.args._from c.args.body.now fit ∙ ap (cart_rows (cart_sums steps)) c.in-Changed.is)) c.apply.ensures.copies

pub returns-in-Changed-clause-kept : goal.returns-in-Changed-clause-kept
returns-in-Changed-clause-kept c =
    let old : CartTables = record { copy = c.self.inside.copy; baskets = c.self.inside.baskets } in
    on_ok_weaker c.apply.result (λ copies steps stands fit.
    kept_changed old steps (subst (λ kept. Holds kept steps) (sym c.self.view_is) stands.held) c.args._from c.args.body.now
    c.in-Changed.key c.in-Changed.version c.in-Changed.change c.in-Changed.is c.apply.new.self copies) c.apply.ensures.copies

pub returns-in-Asked-clause-made : goal.returns-in-Asked-clause-made
returns-in-Asked-clause-made c =
    let old : CartTables = record { copy = c.self.inside.copy; baskets = c.self.inside.baskets } in
    on_ok_weaker c.answer.result (λ made steps stands fit.
    made ∙ made_asked old steps (subst (λ kept. Holds kept steps) (sym c.self.view_is) stands.held) c.args._from c.args.body.now c.in-Asked.request c.in-Asked.is fit) c.answer.ensures.made

pub returns-in-Asked-clause-kept : goal.returns-in-Asked-clause-kept
returns-in-Asked-clause-kept c =
    let old : CartTables = record { copy = c.self.inside.copy; baskets = c.self.inside.baskets } in
    on_ok_weaker c.answer.result (λ left steps stands fit.
    kept_asked old steps (subst (λ kept. Holds kept steps) (sym c.self.view_is) stands.held) c.args._from c.args.body.now c.in-Asked.request c.in-Asked.is fit c.answer.new.baskets left) c.answer.ensures.left

pub returns-in-Asked-clause-unchanged : goal.returns-in-Asked-clause-unchanged
returns-in-Asked-clause-unchanged c =
    let old : CartTables = record { copy = c.self.inside.copy; baskets = c.self.inside.baskets } in
    on_err c.answer.result (λ same steps held. kept_same old c.answer.new.baskets same steps (subst (λ kept. Holds kept steps) (sym c.self.view_is) held)) c.answer.ensures.unchanged

pub returns-in-ReserveFailed-clause-made : goal.returns-in-ReserveFailed-clause-made
returns-in-ReserveFailed-clause-made c =
    on_ok_weaker c.tell.result (λ made steps stands fit.
    made ∙ ap (λ (outs : List Sending). outs ++ told cart_node c.in-ReserveFailed.checkout (Undone c.undone_by_stock.result) ∷ []) c.requires.empty
    ∙ ap (λ rule. told cart_node c.in-ReserveFailed.checkout (Undone rule) ∷ []) c.undone_by_stock.ensures
    ∙ sym (makes steps c.args._from c.args.body.now fit ∙ ap (cart_rows (cart_sums steps)) c.in-ReserveFailed.is)) c.tell.ensures.ok

pub returns-in-ReserveFailed-clause-kept : goal.returns-in-ReserveFailed-clause-kept
returns-in-ReserveFailed-clause-kept c =
    on_ok_weaker c.tell.result (λ made steps stands fit.
    kept_failed c.args.self.now steps stands.held c.args._from c.args.body.now c.in-ReserveFailed.checkout c.in-ReserveFailed.key c.in-ReserveFailed.rule c.in-ReserveFailed.is) c.tell.ensures.ok

pub returns-in-Ended-clause-made : goal.returns-in-Ended-clause-made
returns-in-Ended-clause-made c =
    on_ok_weaker c.tell-in-Ended.result (λ made steps stands fit.
    made ∙ ap (λ (outs : List Sending). outs ++ told cart_node c.in-Ended.checkout c.reply_to_ending.result ∷ []) c.requires.empty
    ∙ ap (λ reply. told cart_node c.in-Ended.checkout reply ∷ []) c.reply_to_ending.ensures
    ∙ sym (makes steps c.args._from c.args.body.now fit ∙ ap (cart_rows (cart_sums steps)) c.in-Ended.is)) c.tell-in-Ended.ensures.ok

pub returns-in-Ended-clause-kept : goal.returns-in-Ended-clause-kept
returns-in-Ended-clause-kept c =
    on_ok_weaker c.tell-in-Ended.result (λ made steps stands fit.
    kept_ended c.args.self.now steps stands.held c.args._from c.args.body.now c.in-Ended.checkout c.in-Ended.ending c.in-Ended.is) c.tell-in-Ended.ensures.ok
