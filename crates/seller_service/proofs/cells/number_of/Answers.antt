use Rattle.std.proofs.Common.{◌≡◌, true, ◌&&◌, ap, ap₂, sym, ◌∙◌}
use Rattle.std.specs.List.{list_any}
use Rattle.std.proofs.lemmas.List.{take_all}
use Rattle.market_events.specs.Requests.{same_id, same_key}
use Rattle.market_events.specs.Sellers.{SellerChange, same_entry}
use Rattle.seller_service.specs.declared.change.EntryId.{EntryId}
use Rattle.seller_service.proofs.Numbers.{number-here, number-none}
use Rattle.seller_service.proofs.cells.number_of.Goals as goal

pub returns-then-eq : goal.returns-then-eq
returns-then-eq c =
    let same : same_entry c.index-entries-index.result c.args.change.now ≡ true =
    ap₂ (λ (a b : EntryId). same_id a.checkout b.checkout && same_key a.product b.product) (sym c.id_of.ensures) (sym c.id_of-in-loop-index.ensures) ∙ sym c.eq.ensures ∙ c.if-eq.true in
    number-here c.args.entries.now c.loop-index.index c.index-entries-index.result c.args.change.now c.loop-index-test.true c.index-entries-index.is c.loop-index.invariant same

pub returns : goal.returns
returns c =
    number-none c.args.entries.now c.args.change.now
    (ap (list_any (λ (e : SellerChange). same_entry e c.args.change.now)) (sym (take_all c.loop-index.index c.args.entries.now c.loop-index-test.false)) ∙ c.loop-index.invariant)
