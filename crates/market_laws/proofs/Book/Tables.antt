-- In settled histories every table is the book's (settled-book).
use Rattle.std.proofs.Common.{◌+◌, ◌-◌, ◌*◌, ◌==◌, filter, filter_map, sum_by, count_by, refl, ap, sym, ◌∙◌}
use Rattle.std.specs.List.{flat_map}
use Rattle.market_events.specs.declared.bodies.Item.{Item}
use Rattle.market_events.specs.Copies.{copy_of}
use Rattle.market_events.specs.declared.roles.Role.{Role}
use Rattle.market_events.specs.Shipments.{is_open, items_made}
use Rattle.market_events.specs.Steps.{taken_bodies}
use Rattle.market_history.specs.Acts.{cost_if, count_for, pieces_sold, pieces_stocked, packages_of_checkouts, paid_for_checkouts}
use Rattle.market_history.specs.Blocks.{service_steps}
use Rattle.market_history.specs.Book.{IsBook, acts_of, book, line_count, rows_under_way, stock_act, tables_at_end}
use Rattle.market_history.specs.Histories.{Histories}
use Rattle.market_history.specs.Lawful.{IsLawful}
use Rattle.market_history.specs.Outstanding.{IsSettled}
use Rattle.market_laws.proofs.Book.Baskets.{baskets-book}
use Rattle.market_laws.proofs.Book.Copies.{cart-changes, limits-book, stock-changes}
use Rattle.market_laws.proofs.Book.Orders.{statuses-book, totals-book}
use Rattle.market_laws.proofs.Book.Payments.{confirmed-book, delivered-book, failed-book, packages-book, spent-book}
use Rattle.market_laws.proofs.Book.SellerPoints.{point-book}
use Rattle.market_laws.proofs.Book.InProgress.{progress-book}
use Rattle.market_laws.proofs.Book.Stock.{on_hand-book, reserved-none}
use Rattle.market_laws.proofs.Settled.Outcomes.{unpaid-held}
use Rattle.market_laws.proofs.Settled.PaidWhole.{whole-held, whole-paid}

pub settled-book : (h : Histories) → IsLawful h → IsSettled h → IsBook h
unfolding tables_at_end book acts_of
settled-book h lawful settled =
    let whole = sym (whole-held h lawful settled) in
    let paid = sym (whole-paid h lawful settled) in
    let unpaid = sym (unpaid-held h lawful settled) in
    let items = items_made (service_steps h Role.Shipment) in
    let packed = packages-book h lawful settled ∙ ap packages_of_checkouts paid in
    record {
      look = λ key. refl;
      version = λ key. refl;
      cart_copy = λ key. ap (λ changes. copy_of changes key) (cart-changes h lawful settled);
      stock_copy = λ key. ap (λ changes. copy_of changes key) (stock-changes h lawful settled);
      basket = λ customer. baskets-book (service_steps h Role.Cart) customer;
      on_hand = λ key. on_hand-book h lawful settled key ∙ ap (λ checkouts. pieces_stocked (filter_map stock_act (service_steps h Role.Stock)) key - pieces_sold checkouts key) whole;
      reserved = λ key. reserved-none h lawful settled key;
      order_status = λ id. statuses-book h lawful settled id (acts_of h) (whole-held h lawful settled) (unpaid-held h lawful settled) refl;
      order_total = λ id. totals-book h lawful settled id ∙ (λ i. sum_by (cost_if id) (whole i) + sum_by (cost_if id) (unpaid i));
      limit = λ customer. limits-book customer (taken_bodies (service_steps h Role.Payment));
      spent = λ customer. spent-book h lawful settled customer ∙ ap (λ checkouts. paid_for_checkouts checkouts customer) paid;
      packages = packed;
      open_packages = ap (filter (is_open (service_steps h Role.Shipment))) packed;
      confirmed = λ customer. confirmed-book h lawful settled customer ∙ ap (λ checkouts. count_for checkouts customer) paid;
      failed = λ customer. failed-book h lawful settled customer ∙ ap (λ checkouts. count_for checkouts customer) unpaid;
      delivered = λ customer. delivered-book h lawful settled customer;
      in_progress = λ seller. progress-book h lawful settled seller ∙ ap (flat_map (rows_under_way items seller)) whole;
      point = λ seller. point-book h lawful settled seller
          ∙ (λ i. 3 * line_count seller (whole i) + 2 * line_count seller (unpaid i) + count_by (λ (item : Item). item.key.seller == seller) items);
    }
