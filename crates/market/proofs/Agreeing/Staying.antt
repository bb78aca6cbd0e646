-- The sums of a service stay in step where what they speak of stays.
use Rattle.std.proofs.Common.{◌≡◌, ℕ, ◌+◌, ◌++◌, filter, sum_by, ap, sym, ◌∙◌, List}
use Rattle.std.specs.List.{list_any}
use Rattle.market_events.specs.Orders.{is_of}
use Rattle.market_events.specs.Steps.{Step}
use Rattle.market_history.specs.Acts.{Acts, line_at, pieces_stocked, pieces_sold, lines_of, cost_if, limit_by, count_for, packages_of_checkouts, paid_for_checkouts}
use Rattle.market.specs.Agreeing.{ProductsAgree, CartsAgree, StocksAgree, OrdersAgree, PaymentsAgree, ShipmentsAgree, CustomersAgree, SellersAgree}

module _ (steps : List Step) (acts after : Acts) where
  pub products_hold : ProductsAgree steps acts → after.changes ≡ acts.changes → ProductsAgree steps after
  products_hold agree changes = record { changes = agree.changes ∙ sym changes }

  pub carts_hold : CartsAgree steps acts → after.changes ≡ acts.changes → after.baskets ≡ acts.baskets → CartsAgree steps after
  carts_hold agree changes baskets = record {
    changes = agree.changes ∙ sym changes;
    baskets = λ customer key. agree.baskets customer key ∙ ap (λ acts. line_at acts customer key) (sym baskets);
  }

  pub stocks_hold : StocksAgree steps acts → after.changes ≡ acts.changes → after.stocked ≡ acts.stocked → after.whole ≡ acts.whole → StocksAgree steps after
  stocks_hold agree changes stocked whole = record {
    changes = agree.changes ∙ sym changes;
    stocked = λ key. agree.stocked key ∙ ap (λ acts. pieces_stocked acts key) (sym stocked);
    sold = λ key. agree.sold key ∙ ap (λ rs. pieces_sold rs key) (sym whole);
    settled = agree.settled;
  }

  pub orders_hold : OrdersAgree steps acts → after.whole ≡ acts.whole → after.unpaid ≡ acts.unpaid → after.items ≡ acts.items → OrdersAgree steps after
  orders_hold agree whole unpaid items = record {
    known = λ id. agree.known id ∙ sym (λ j. list_any (is_of id) (whole j ++ unpaid j));
    orders = λ id. agree.orders id ∙ sym (λ j. filter (is_of id) (whole j ++ unpaid j));
    total = λ id. agree.total id ∙ sym (λ j. sum_by (cost_if id) (whole j) + sum_by (cost_if id) (unpaid j));
    failed = λ id. agree.failed id ∙ ap (list_any (is_of id)) (sym unpaid);
    shipped = λ id. agree.shipped id ∙ ap (list_any (is_of id)) (sym whole);
    items = agree.items ∙ sym items;
  }

  pub payments_hold : PaymentsAgree steps acts → after.cards ≡ acts.cards → after.whole ≡ acts.whole → PaymentsAgree steps after
  payments_hold agree cards whole = record {
    limit = λ customer. agree.limit customer ∙ ap (λ acts. limit_by acts customer) (sym cards);
    spent = λ customer. agree.spent customer ∙ ap (λ rs. paid_for_checkouts rs customer) (sym whole);
  }

  pub shipments_hold : ShipmentsAgree steps acts → after.whole ≡ acts.whole → after.items ≡ acts.items → ShipmentsAgree steps after
  shipments_hold agree whole items = record {
    packed = agree.packed ∙ ap packages_of_checkouts (sym whole);
    items = agree.items ∙ sym items;
    apart = agree.apart;
  }

  pub customers_hold : CustomersAgree steps acts → after.whole ≡ acts.whole → after.unpaid ≡ acts.unpaid → after.items ≡ acts.items → CustomersAgree steps after
  customers_hold agree whole unpaid items = record {
    confirmed = λ customer. agree.confirmed customer ∙ ap (λ rs. count_for rs customer) (sym whole);
    failed = λ customer. agree.failed customer ∙ ap (λ rs. count_for rs customer) (sym unpaid);
    items = agree.items ∙ sym items;
  }

  pub sellers_hold : SellersAgree steps acts → after.whole ≡ acts.whole → after.unpaid ≡ acts.unpaid → after.items ≡ acts.items → ((seller : ℕ) → after.entries seller ≡ acts.entries seller) → SellersAgree steps after
  sellers_hold agree whole unpaid items entries = record {
    entries = λ seller. agree.entries seller ∙ sym (entries seller);
    lines = λ id. agree.lines id ∙ sym (λ j. lines_of (whole j ++ unpaid j) id);
    shipped = λ id. agree.shipped id ∙ ap (list_any (is_of id)) (sym whole);
    items = agree.items ∙ sym items;
  }
