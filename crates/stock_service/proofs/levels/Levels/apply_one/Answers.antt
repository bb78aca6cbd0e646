use Rattle.std.proofs.Common.{rules, is_some, unwrap_or, if◌then◌else◌, ap, sym, subst, ◌∙◌}
use Rattle.market_events.specs.Requests.{same_key}
use Rattle.stock_service.specs.Amounts.{Amounts, no_pieces, amounts_after, CanAct}
use Rattle.stock_service.specs.Tables.{amounts_at, has_at}
use Rattle.stock_service.proofs.Tables.{amounts_changed, has_there}
use Rattle.stock_service.proofs.levels.Levels.apply_one.Goals as goal

pub changed-requires : goal.changed-requires
changed-requires c =
    subst (λ (was : Amounts). CanAct c.args.act c.args.pieces was)
    (ap (λ levels. amounts_at levels c.args.key) (sym c.self.view_is) ∙ ap (λ o. unwrap_or o no_pieces) (sym c.in-Some.ensures.value)) c.requires.can

pub returns-clause-each : goal.returns-clause-each
returns-clause-each c = λ k.
    amounts_changed c.self.inside.levels.entries (c.get_mut.follows.lender c.changed.result).entries c.args.key c.changed.result
    ((c.get_mut.follows.holds c.changed.result).3 (search rules)).0 (amounts_after c.args.act c.args.pieces)
    (c.changed.ensures ∙ ap (λ o. amounts_after c.args.act c.args.pieces (unwrap_or o no_pieces)) c.in-Some.ensures.value) k
    ∙ ap (λ levels. if same_key c.args.key k then amounts_after c.args.act c.args.pieces (amounts_at levels k) else amounts_at levels k) c.self.view_is

pub returns-clause-there : goal.returns-clause-there
returns-clause-there c = λ k.
    has_there c.self.inside.levels.entries (c.get_mut.follows.lender c.changed.result).entries c.args.key c.changed.result
    ((c.get_mut.follows.holds c.changed.result).3 (search rules)).0 (ap is_some (sym c.in-Some.ensures.value)) k
    ∙ ap (λ levels. has_at levels k) c.self.view_is
