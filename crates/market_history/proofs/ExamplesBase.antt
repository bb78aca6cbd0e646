-- A checkout that is whole, by computation.
use Rattle.std.proofs.Common.{◌≡◌, [], ◌∷◌, refl, sym, inl, ◌∙◌}
use Rattle.std.specs.Prelude.{map, filter}
use Rattle.market_amounts.specs.declared.keys.ProductKey.{ProductKey}
use Rattle.market_events.specs.declared.bodies.Item.{Item}
use Rattle.market_events.specs.declared.bodies.PricedLine.{PricedLine}
use Rattle.market_events.specs.Offers.{counts_of, is_ready}
use Rattle.market_events.specs.Requests.{same_id}
use Rattle.market_events.specs.declared.roles.Role.{Role}
use Rattle.market_events.specs.Services.{answers, fits, reactions}
use Rattle.market_events.specs.Shipments.{packages}
use Rattle.market_history.specs.Blocks.{grow, node_outs, service_steps}
use Rattle.market_history.specs.Book.{acts_of, book, tables_at_end}
use Rattle.market_history.specs.Causality.{past_of}
use Rattle.market_history.specs.Checkouts.{IsWhole, lines_reserved}
use Rattle.market_history.specs.Examples.{id, mug}
use Rattle.market_history.specs.ExamplesBase.{base, HasBaseActs, HasBaseTables, HasServedTables, BaseExamples}
use Rattle.market_history.specs.Histories.{journal_at, with_journal}
use Rattle.market_history.specs.Schedule.{play_step}

base_acts : HasBaseActs (acts_of base)
unfolding answers fits reactions counts_of is_ready past_of journal_at with_journal node_outs grow play_step acts_of
base_acts = record { changes = refl; baskets = refl; stocked = refl; cards = refl; whole = refl; undone = refl; unpaid = refl; items = refl }

base_tables : HasBaseTables (tables_at_end base)
unfolding answers fits reactions counts_of is_ready past_of journal_at with_journal node_outs grow play_step tables_at_end
base_tables = record {
  look = refl;
  version = refl;
  cart_copy = refl;
  stock_copy = refl;
  basket = refl;
  on_hand = refl;
  reserved = refl;
  order_status = refl;
  order_total = refl;
  limit = refl;
  spent = refl;
  packages = refl;
  open_packages = refl;
  confirmed = refl;
  failed = refl;
  delivered = refl;
  in_progress = refl;
  point = refl;
}

base_book : HasBaseTables (book (acts_of base))
unfolding answers fits reactions counts_of is_ready past_of journal_at with_journal node_outs grow play_step acts_of book
base_book = record {
  look = refl;
  version = refl;
  cart_copy = refl;
  stock_copy = refl;
  basket = refl;
  on_hand = refl;
  reserved = refl;
  order_status = refl;
  order_total = refl;
  limit = refl;
  spent = refl;
  packages = refl;
  open_packages = refl;
  confirmed = refl;
  failed = refl;
  delivered = refl;
  in_progress = refl;
  point = refl;
}

served_tables : HasServedTables
served_tables = record { order_of_own = refl; order_of_other = refl; package_of_own = refl; package_of_other = refl }

-- the keys of its packages and of its lines
keys_packed : map {A = Item} {B = ProductKey} (λ p. p.key) (filter (λ (p : Item). same_id p.checkout (id 5)) (packages (service_steps base Role.Shipment))) ≡ mug ∷ []
unfolding answers fits reactions counts_of is_ready past_of journal_at with_journal node_outs grow play_step
keys_packed = refl

keys_reserved : map {A = PricedLine} {B = ProductKey} (λ line. line.key) (lines_reserved base (id 5)) ≡ mug ∷ []
unfolding answers fits reactions counts_of is_ready past_of journal_at with_journal node_outs grow play_step
keys_reserved = refl

base_whole : IsWhole base (id 5) 1950
unfolding answers fits reactions counts_of is_ready past_of journal_at with_journal node_outs grow play_step
base_whole = record {
  reply = refl;
  reserved = refl;
  sold = refl;
  not_released = refl;
  order_total = refl;
  order_status = inl refl;
  paid_to_stock = record { once = refl; so_much = refl };
  paid_to_order = record { once = refl; so_much = refl };
  paid_to_shipment = record { once = refl; so_much = refl };
  paid_to_customer = record { once = refl; so_much = refl };
  paid_to_seller = record { once = refl; so_much = refl };
  not_failed_to_stock = refl;
  not_failed_to_order = refl;
  not_failed_to_customer = refl;
  not_failed_to_seller = refl;
  packages = keys_packed ∙ sym keys_reserved;
  entries = (record { one = refl; status = refl }, tt);
}

pub base_examples : BaseExamples
unfolding answers fits reactions counts_of is_ready past_of journal_at with_journal node_outs grow play_step
base_examples = record { reply = refl; whole = base_whole; acts = base_acts; tables = base_tables; book = base_book; served = served_tables; counts = refl }
