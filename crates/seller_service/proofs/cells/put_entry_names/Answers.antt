use Rattle.std.proofs.Common.{◌≡◌, ◌+◌, length, take, count_by, ap, ap₂, ◌∙◌, codes, arith}
use Rattle.market_events.specs.declared.cells.CellName.{CellName}
use Rattle.market_events.specs.Sellers.{SellerChange, entries_at}
use Rattle.seller_service.specs.declared.cells.Place.TheVariants as place
use Rattle.seller_service.specs.Cells.{place_name}
use Rattle.seller_service.specs.Tables.{changes_at, is_of_seller}
use Rattle.seller_service.proofs.Puts.{named-next, named-stay, tables-next}
use Rattle.seller_service.proofs.cells.put_entry_names.Goals as goal

pub loop-index-preserved : goal.loop-index-preserved
loop-index-preserved c =
    let seller : c.change.inside.line.key.seller ≡ c.index-changes-index.result.line.key.seller = ap (λ (x : SellerChange). x.line.key.seller) c.change.view_is in
    record {
      named =
          named-next (λ s n. place_name (place.Entry s n)) (λ s. length (entries_at (changes_at c.args.ledgers.now s))) c.args.changes.now c.loop-index.index c.index-changes-index.result c.loop-index-test.true c.index-changes-index.is
          c.loop-index.names c.put.new.self c.in_ok-name_of.field-0
          (c.in_ok-name_of.ensures ∙ ap₂ (λ s n. place_name (place.Entry s (n + 1))) seller (ap₂ (λ a b. a + b) (c.entry_count-entries.ensures.value ∙ ap (λ cs. length (entries_at cs)) c.changes.ensures ∙ ap (λ s. length (entries_at (changes_at c.args.ledgers.now s))) seller)
          (c.count_of.ensures ∙ ap (λ s. count_by (is_of_seller s) (take c.loop-index.index c.args.changes.now)) seller))) c.in_ok-put.ensures.named c.loop-index.invariant.named;
      stay = λ name was. named-stay c.loop-index.names c.put.new.self c.in_ok-name_of.field-0 name c.in_ok-put.ensures.named (c.loop-index.invariant.stay name was);
      tables = tables-next c.loop-index.names c.put.new.self c.in_ok-name_of.field-0 (codes "entry") (ap (λ (n : CellName). n.table) c.in_ok-name_of.ensures) c.in_ok-put.ensures.named _ c.loop-index.invariant.tables;
      few = omega (arith, c.in_ok-put.ensures.few, c.loop-index.invariant.few);
    }
