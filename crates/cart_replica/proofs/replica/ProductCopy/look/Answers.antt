use Rattle.std.proofs.Common.{rules, ◌≡◌, ◌∙◌}
use Rattle.cart_replica.specs.Copy.{look_at}
use Rattle.cart_replica.proofs.replica.ProductCopy.look.Goals as goal

pub returns-clause-copied : goal.returns-clause-copied
returns-clause-copied c =
    let value : c.unwrap_or.result ≡ look_at c.args.self.now c.args.key = search rules in λ changes copied. value ∙ copied c.args.key
