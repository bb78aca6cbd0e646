use Rattle.std.proofs.Common.{Option, if◌then◌else◌, ap, take, arith, get_or, sym, ◌∙◌}
use Rattle.market_events.specs.Requests.{same_id}
use Rattle.order_service.specs.declared.tables.Order.{Order}
use Rattle.order_service.specs.Tables.{order_at, open_in, customer_in, with_item, item_count}
use Rattle.order_service.proofs.Sums.{no_item, item_count-fit, open_in-with_delivered, customer_in-with_delivered, with_item-place}
use Rattle.order_service.proofs.tables.OrderTable.deliver.Goals as goal

pub deliver_one-requires : goal.deliver_one-requires
deliver_one-requires c =
    let items = c.args.items.now in
    let index = c.loop-item.item-index in
    let id = (get_or items index no_item).checkout in
    let order = order_at c.args.self.now id in
    let so_far = item_count id order (take index items) in
    λ own.
    omega (
      arith,
      item_count-fit order items index no_item c.loop-item-test.true (sym (ap customer_in (c.loop-item.invariant id) ∙ customer_in-with_delivered so_far order) ∙ own),
      ap open_in (c.loop-item.invariant id),
      open_in-with_delivered so_far order,
      c.requires id,
    )

pub loop-item-preserved : goal.loop-item-preserved
loop-item-preserved c = λ id.
    let items = c.args.items.now in
    let index = c.loop-item.item-index in
    let item = get_or items index no_item in
    c.deliver_one.ensures id
    ∙ ap (λ (o : Option Order). if same_id item.checkout id then with_item item.customer o else o) (c.loop-item.invariant id)
    ∙ with_item-place id (order_at c.args.self.now id) items index no_item c.loop-item-test.true (c.requires id)
