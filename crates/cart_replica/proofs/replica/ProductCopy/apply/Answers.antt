use Rattle.std.proofs.Common.{◌∙◌, ap}
use Rattle.market_events.specs.Looks.{look_after}
use Rattle.cart_replica.proofs.Entries.{shows_set, shows_other, copies_push}
use Rattle.cart_replica.proofs.replica.ProductCopy.apply.Goals as goal

pub returns-clause-others : goal.returns-clause-others
returns-clause-others c =
    shows_other c.args.self.now c.insert.new.self.entries c.args.key c.changed-look.result
    (shows_set c.self.inside.looks.entries _ _ _ _ c.self.view_is c.in_ok-insert.ensures.updates.0)

pub returns-clause-copies : goal.returns-clause-copies
returns-clause-copies c =
    copies_push c.args.self.now c.insert.new.self.entries (record { key = c.args.key; version = c.args.version; change = c.args.change.now }) c.changed-look.result c.requires.can
    (c.changed-look.ensures ∙ ap (λ look. look_after look c.args.version c.args.change.now) c.look.ensures.value)
    (shows_set c.self.inside.looks.entries _ _ _ _ c.self.view_is c.in_ok-insert.ensures.updates.0)
