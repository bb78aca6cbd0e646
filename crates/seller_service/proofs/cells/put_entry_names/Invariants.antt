use Rattle.std.proofs.Common.{◌≡◌, ℕ, ◌+◌, ◌<◌, ◌≤◌, ◌⊎◌, true, take, length, count_by, codes}
use Rattle.market_events.specs.declared.cells.CellName.{CellName}
use Rattle.market_events.specs.Sellers.{entries_at}
use Rattle.market_events.specs.Standing.{is_named}
use Rattle.seller_service.specs.declared.cells.Place.TheVariants as place
use Rattle.seller_service.specs.Cells.{place_name}
use Rattle.seller_service.specs.Tables.{changes_at, is_of_seller}
use Rattle.seller_service.proofs.cells.put_entry_names.Given as goal

abbrev pub invariant-loop-index : goal.invariant-loop-index
invariant-loop-index l = record {
  named : (seller number : ℕ) → length (entries_at (changes_at l.ledgers seller)) < number → number ≤ length (entries_at (changes_at l.ledgers seller)) + count_by (is_of_seller seller) (take l.index l.changes)
      → is_named l.names (place_name (place.Entry seller number)) ≡ true;
  stay : (name : CellName) → is_named l.fn.names name ≡ true → is_named l.names name ≡ true;
  tables : (name : CellName) → is_named l.names name ≡ true → (is_named l.fn.names name ≡ true) ⊎ (name.table ≡ codes "entry");
  few : length l.names ≤ length l.fn.names + l.index;
}
