use Rattle.std.proofs.Common.{length, ap, ◌∙◌, arith}
use Rattle.seller_service.proofs.Numbers.{entries_few}
use Rattle.seller_service.proofs.cells.put_seller.Goals as goal

pub put_entries-requires : goal.put_entries-requires
put_entries-requires c = omega (arith, ap length (c.as_slice.ensures.value ∙ c.in_ok-entries.ensures), entries_few c.args.changes.now, c.requires)
