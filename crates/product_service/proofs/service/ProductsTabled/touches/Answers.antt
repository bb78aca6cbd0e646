use Rattle.std.proofs.Common.{arith}
use Rattle.market_events.proofs.NamedCells.Keyed.{if_ok}
use Rattle.product_service.proofs.Touches.{covers, tables, differ, few}
use Rattle.product_service.proofs.service.ProductsTabled.touches.Goals as goal

pub returns-clause-covers : goal.returns-clause-covers
returns-clause-covers c =
    if_ok (λ names are. covers c.args.body.now names.items are c.args.self.now c.args._from) c.touched_names.result c.touched_names.ensures

pub returns-clause-tables : goal.returns-clause-tables
returns-clause-tables c = if_ok (λ names are. tables c.args.body.now names.items are) c.touched_names.result c.touched_names.ensures

pub returns-clause-differ : goal.returns-clause-differ
returns-clause-differ c = if_ok (λ names are. differ c.args.body.now names.items are) c.touched_names.result c.touched_names.ensures

pub returns-clause-few : goal.returns-clause-few
returns-clause-few c = if_ok (λ names are. omega (arith, names.ok.0, few c.args.body.now names.items are)) c.touched_names.result c.touched_names.ensures
