-- One more step keeps what the service holds, and makes what is defined.
use Rattle.std.proofs.Common.{◌≡◌, ◌<◌, true, List, ◌++◌, ap, sym, subst, ◌∙◌, arith}
use Rattle.std.proofs.Math.Logic.{∥∥₁_elim}
use Rattle.std.specs.Coded.{le_prop}
use Rattle.market_amounts.specs.declared.keys.ProductKey.{ProductKey}
use Rattle.market_events.specs.declared.bodies.Body.{Body}
use Rattle.market_events.specs.declared.changes.Look.{Look}
use Rattle.market_events.specs.declared.links.Link.{Link}
use Rattle.market_events.specs.Copies.{ProductChange}
use Rattle.market_events.specs.Looks.{look_version}
use Rattle.market_events.specs.Products.{changes_made, product_sums, product_rows}
use Rattle.market_events.specs.declared.roles.Role.{Role}
use Rattle.market_events.specs.Services.{IsRunOf, fits, reactions, most_steps}
use Rattle.market_events.specs.Standing.{Stands, CanTake, step_of, with_step}
use Rattle.market_events.specs.Steps.{Step}
use Rattle.market_events.proofs.Steps.Products.{answers-product}
use Rattle.market_events.proofs.Runs.Products.{version_of-look, version_of-few}
use Rattle.market_events.proofs.Runs.Standing.{is_fit, is_run_push, follows_step_of, reactions-fit}
use Rattle.market_events.proofs.Steps.Taken.{changes_made-push}
use Rattle.cart_replica.specs.Copy.{look_at, IsCopyOf}
use Rattle.product_service.specs.Changing.{changes_told}
use Rattle.product_service.specs.Holds.{Holds}
use Rattle.product_service.specs.Tables.{sums_at}
use Rattle.product_service.proofs.Rows.{product_rows-same}

-- a product had few changes, where an input fits
pub versions_few : (old : List (ProductKey × Look)) (from : Link) (b : Body) → CanTake Role.Product Holds old from b
    → (key : ProductKey) → look_version (look_at old key) < most_steps
versions_few old from b can key = ∥∥₁_elim can le_prop (λ it.
    omega (arith, (is_fit Role.Product it.0 from b it.2).few, it.1.held.versions key, version_of-few it.0 it.1.run key))

-- the changes that a step makes
pub changes_made-step : (steps : List Step) (from : Link) (b : Body)
    → changes_made (with_step Role.Product steps from b) ≡ changes_made steps ++ changes_told (product_rows (product_sums steps) b)
changes_made-step steps from b =
    changes_made-push steps (step_of Role.Product steps from b) ∙ ap (λ made. changes_made steps ++ changes_told made) (answers-product steps from b)

module _ (old new : List (ProductKey × Look)) (steps : List Step) (from : Link) (b : Body)
    (stands : Stands Role.Product Holds old steps) (fit : fits Role.Product steps from b ≡ true) where
  -- what is made for an input that fits
  rows_is : product_rows (sums_at old) b ≡ product_rows (product_sums steps) b
  rows_is = product_rows-same (sums_at old) (product_sums steps) stands.held.copies stands.held.versions b

  -- so the entries make what the service answers
  pub makes : product_rows (sums_at old) b ≡ reactions Role.Product steps from b
  makes = rows_is ∙ sym (reactions-fit Role.Product steps from b fit ∙ answers-product steps from b)

  -- the copy of the changes that were made, and of those of this step, holds the steps with this one
  pub holds_on : ((changes : List ProductChange) → IsCopyOf old changes → IsCopyOf new (changes ++ changes_told (product_rows (sums_at old) b)))
      → Holds new (with_step Role.Product steps from b)
  holds_on copies = record {
    copies = copied;
    versions = λ key. ap look_version (copied key) ∙ sym (version_of-look (with_step Role.Product steps from b) run key);
  }
    where
      run : IsRunOf Role.Product (with_step Role.Product steps from b)
      run = is_run_push Role.Product steps (step_of Role.Product steps from b) stands.run (follows_step_of Role.Product steps from b fit)

      changes_is : changes_made steps ++ changes_told (product_rows (sums_at old) b) ≡ changes_made (with_step Role.Product steps from b)
      changes_is = ap (λ made. changes_made steps ++ changes_told made) rows_is ∙ sym (changes_made-step steps from b)

      copied : IsCopyOf new (changes_made (with_step Role.Product steps from b))
      copied = subst (IsCopyOf new) changes_is (copies (changes_made steps) stands.held.copies)
