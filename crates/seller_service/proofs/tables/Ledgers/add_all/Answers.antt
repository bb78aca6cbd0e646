use Rattle.std.proofs.Common.{◌≡◌, ◌-◌, ◌++◌, length, take, filter, count_by, ap, ◌∙◌}
use Rattle.std.proofs.lemmas.List.Sums.{length-filter}
use Rattle.seller_service.specs.Tables.{changes_at, is_of_seller}
use Rattle.seller_service.proofs.Lists.{taken_back}
use Rattle.seller_service.proofs.tables.Ledgers.add_all.Goals as goal

pub returns-in-Err-clause-err : goal.returns-in-Err-clause-err
returns-in-Err-clause-err c = λ seller.
    let added : changes_at c.add.new.self seller ≡ changes_at c.args.self.now seller ++ filter (is_of_seller seller) (take c.loop-index.index c.args.changes.now)
    = c.in-Err.ensures.err seller ∙ c.loop-index.invariant seller in
    c.take_back.ensures seller
    ∙ ap (λ xs. take (length xs - count_by (is_of_seller seller) (take c.loop-index.index c.args.changes.now)) xs) added
    ∙ taken_back (changes_at c.args.self.now seller) (filter (is_of_seller seller) (take c.loop-index.index c.args.changes.now)) (count_by (is_of_seller seller) (take c.loop-index.index c.args.changes.now))
    (length-filter (is_of_seller seller) (take c.loop-index.index c.args.changes.now))
