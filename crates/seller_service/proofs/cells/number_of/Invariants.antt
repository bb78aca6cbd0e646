use Rattle.std.proofs.Common.{◌≡◌, false, take}
use Rattle.std.specs.List.{list_any}
use Rattle.market_events.specs.Sellers.{SellerChange, same_entry}
use Rattle.seller_service.proofs.cells.number_of.Given as goal

abbrev pub invariant-loop-index : goal.invariant-loop-index
invariant-loop-index l = list_any (λ (e : SellerChange). same_entry e l.change) (take l.index l.entries) ≡ false
