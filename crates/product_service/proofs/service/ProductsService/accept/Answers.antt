use Rattle.std.proofs.Common.{◌<◌, ◌++◌, List, ap, subst, sym, ◌∙◌}
use Rattle.market_amounts.specs.declared.keys.ProductKey.{ProductKey}
use Rattle.market_events.specs.declared.changes.Look.{Look}
use Rattle.market_events.specs.Copies.{ProductChange}
use Rattle.market_events.specs.Looks.{look_version}
use Rattle.market_events.specs.Products.{product_rows}
use Rattle.market_events.specs.Services.{most_steps}
use Rattle.cart_replica.specs.Copy.{look_at, IsCopyOf}
use Rattle.product_service.specs.Changing.{changes_told}
use Rattle.product_service.specs.Tables.{sums_at}
use Rattle.product_service.proofs.Steps.{versions_few, makes, holds_on}
use Rattle.product_service.proofs.service.ProductsService.accept.Goals as goal

pub answer-requires-clause-few : goal.answer-requires-clause-few
answer-requires-clause-few c =
    subst (λ (entries : List (ProductKey × Look)). (key : ProductKey) → look_version (look_at entries key) < most_steps) (sym c.self.view_is)
    (versions_few c.args.self.now c.args._from c.args.body.now c.requires.can)

pub returns-clause-made : goal.returns-clause-made
returns-clause-made c = λ steps stands fit.
    c.in_default.ensures.made ∙ ap (λ entries. product_rows (sums_at entries) c.args.body.now) c.self.view_is
    ∙ makes c.args.self.now c.answer.new.copy steps c.args._from c.args.body.now stands fit

pub returns-clause-kept : goal.returns-clause-kept
returns-clause-kept c = λ steps stands fit.
    holds_on c.args.self.now c.answer.new.copy steps c.args._from c.args.body.now stands fit
    (subst (λ (entries : List (ProductKey × Look)). (changes : List ProductChange) → IsCopyOf entries changes
    → IsCopyOf c.answer.new.copy (changes ++ changes_told (product_rows (sums_at entries) c.args.body.now))) c.self.view_is c.in_default.ensures.copies)
