use Rattle.std.proofs.Common.{◌≡◌, ◌+◌, ◌≤◌, ap, sym, subst, ◌∙◌, length}
use Rattle.std.specs.BTreeSet.{insert_key}
use Rattle.market_events.specs.Cells.{name_cmp}
use Rattle.market_events.specs.Standing.{is_named}
use Rattle.market_events.proofs.NamedCells.Names.{named_put, few_put}
use Rattle.market_events.proofs.name_lists.NameList.put.Goals as goal

pub returns-clause-named : goal.returns-clause-named
returns-clause-named c = λ other.
    let was = c.self.inside.names.keys in
    let put : c.insert.new.self.keys ≡ insert_key name_cmp was c.args.name = c.in_ok-insert.ensures.keys in
    ap (λ keys. is_named keys other) (put ∙ ap (λ keys. insert_key name_cmp keys c.args.name) c.self.view_is)
    ∙ named_put c.args.name c.args.self.now other

pub returns-clause-few : goal.returns-clause-few
returns-clause-few c =
    let was = c.self.inside.names.keys in
    let put : c.insert.new.self.keys ≡ insert_key name_cmp was c.args.name = c.in_ok-insert.ensures.keys in
    subst (λ keys. length keys ≤ length c.args.self.now + 1) (sym (put ∙ ap (λ keys. insert_key name_cmp keys c.args.name) c.self.view_is))
    (few_put c.args.name c.args.self.now)
