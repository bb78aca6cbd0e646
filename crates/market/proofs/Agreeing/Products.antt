-- Products: what they answer, and how a change keeps them in step with what was accepted.
use Rattle.std.proofs.Common.{◌≡◌, List, ◌++◌, ap, sym, ◌∙◌}
use Rattle.market_amounts.specs.declared.keys.ProductKey.{ProductKey}
use Rattle.market_amounts.specs.declared.keys.RequestId.{RequestId}
use Rattle.market_events.specs.declared.bodies.Body.TheVariants as body
use Rattle.market_events.specs.declared.links.Link.{Link}
use Rattle.market_events.specs.declared.requests.Ask.{Ask}
use Rattle.market_events.specs.Copies.{ProductChange, copy_of, version_of}
use Rattle.market_events.specs.Looks.{look_version}
use Rattle.market_events.specs.Products.{ProductSums, product_sums, product_asked}
use Rattle.market_events.specs.declared.roles.Role.{Role}
use Rattle.market_events.specs.Services.{IsRunOf, answers}
use Rattle.market_events.specs.Standing.{step_of, with_step}
use Rattle.market_events.specs.Steps.{Step}
use Rattle.market_events.proofs.Steps.Products.{answers-product}
use Rattle.market_events.proofs.Runs.Products.{version_of-look}
use Rattle.market_events.proofs.Steps.Taken.{changes_made-push}
use Rattle.market_history.specs.Acts.{Acts, product_table}
use Rattle.market.specs.Agreeing.{ProductsAgree}
use Rattle.market_history.specs.Sequential.{changes_in, with_changes}

module _ (steps : List Step) (acts : Acts) (agree : ProductsAgree steps acts) where
  table_same : product_sums steps ≡ product_table acts
  table_same = ap of_changes agree.changes
    where
      of_changes : List ProductChange → ProductSums
      of_changes changes = record { look = copy_of changes; version = version_of changes }

  -- a request is answered by the table
  pub products_answer : (from : Link) (id : RequestId) (what : Ask) → answers Role.Product steps from (body.Asked (record { id = id; ask = what })) ≡ product_asked (product_table acts) id what
  products_answer from id what = answers-product steps from (body.Asked (record { id = id; ask = what })) ∙ ap (λ s. product_asked s id what) table_same

  -- the versions count the changes
  pub versions_agree : IsRunOf Role.Product steps → (key : ProductKey) → version_of acts.changes key ≡ look_version (copy_of acts.changes key)
  versions_agree run key = ap (λ changes. version_of changes key) (sym agree.changes) ∙ version_of-look steps run key ∙ ap (λ changes. look_version (copy_of changes key)) agree.changes

  -- it makes the changes that it answers with
  pub products_asked : (from : Link) (id : RequestId) (what : Ask)
      → ProductsAgree (with_step Role.Product steps from (body.Asked (record { id = id; ask = what }))) (with_changes acts (product_asked (product_table acts) id what))
  products_asked from id what = record {
    changes = changes_made-push steps (step_of Role.Product steps from (body.Asked (record { id = id; ask = what }))) ∙ (λ i. agree.changes i ++ changes_in (products_answer from id what i));
  }
