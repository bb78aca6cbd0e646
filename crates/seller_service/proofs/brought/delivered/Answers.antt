use Rattle.std.proofs.Common.{◌++◌, ap, sym, ◌∙◌, append-nil}
use Rattle.std.specs.Option.{option_to_list}
use Rattle.market_events.specs.declared.bodies.Item.{Item}
use Rattle.seller_service.specs.Tables.{lines_at, delivered_by}
use Rattle.seller_service.proofs.Lists.{filter_map-push}
use Rattle.seller_service.proofs.brought.delivered.Goals as goal
use Rattle.seller_service.proofs.brought.delivered.Goals.{in-Some+in_ok-push, in_default}

-- what lies past the end of a list of items
abbrev no_item : Item
no_item = record { checkout = record { caller = 0; number = 0 }; customer = 0; key = record { seller = 0; product = 0 } }

pub loop-item-preserved : goal.loop-item-preserved
loop-item-preserved c =
    elim c.match-delivered_line.branch [
      | in-Some+in_ok-push w ↦
          filter_map-push (delivered_by (lines_at c.args.invoices.now)) c.args.items.now c.loop-item.item-index no_item c.loop-item.changes.items c.match-delivered_line.changes.items c.delivered_line.result
          c.loop-item-test.true c.loop-item.invariant c.delivered_line.ensures
          (ap (λ v. v.items) w.changes-is ∙ w.in_ok-push.ensures.items ∙ ap (λ o. c.loop-item.changes.items ++ option_to_list o) (sym w.in-Some.is))
      | in_default w ↦
          filter_map-push (delivered_by (lines_at c.args.invoices.now)) c.args.items.now c.loop-item.item-index no_item c.loop-item.changes.items c.match-delivered_line.changes.items c.delivered_line.result
          c.loop-item-test.true c.loop-item.invariant c.delivered_line.ensures
          (ap (λ v. v.items) w.changes-is ∙ sym (append-nil c.loop-item.changes.items) ∙ ap (λ o. c.loop-item.changes.items ++ option_to_list o) (sym w.in_default.is))
    ]
