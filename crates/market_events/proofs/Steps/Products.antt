-- What one more step makes of what products show and of their versions.
use Rattle.std.proofs.Common.{◌≡◌, ℕ, ◌+◌, true, false, List, [], ◌∷◌, ◌++◌, filter_map, if◌then◌else◌, refl, ap, ◌∙◌}
use Rattle.market_amounts.specs.declared.keys.ProductKey.{ProductKey}
use Rattle.market_events.specs.declared.bodies.Body.{Body}
use Rattle.market_events.specs.declared.bodies.Body.TheVariants as body
use Rattle.market_events.specs.declared.changes.Change.{Change}
use Rattle.market_events.specs.declared.links.Link.{Link}
use Rattle.market_events.specs.declared.links.TheConstants.{PRODUCT_TO_STOCK}
use Rattle.market_events.specs.Copies.{copy_of, version_of}
use Rattle.market_events.specs.Looks.{can_change, look_after}
use Rattle.market_events.specs.Products.{change_in, changes_made, product_sums, product_rows}
use Rattle.market_events.specs.Requests.{same_key}
use Rattle.market_events.specs.Services.{Role, answers}
use Rattle.market_events.specs.Steps.{Step, body_on}
use Rattle.market_events.proofs.Steps.Copies.{copy_of-push-same, copy_of-push-other, version_of-push}
use Rattle.market_events.proofs.Steps.Taken.{changes_made-push, changes_made-same}

-- changes: the step made one for stock
pub changes_made-changed : (steps : List Step) (s : Step) (k : ProductKey) (version : ℕ) (change : Change) → filter_map (body_on PRODUCT_TO_STOCK) s.made ≡ body.Changed k version change ∷ [] → changes_made (steps ++ s ∷ []) ≡ changes_made steps ++ record { key = k; version = version; change = change } ∷ []
changes_made-changed steps s k version change made = changes_made-push steps s ∙ ap (λ bs. changes_made steps ++ filter_map change_in bs) made

-- look: a step that makes no change
pub copy_made-same : (steps : List Step) (s : Step) (key : ProductKey) → filter_map (body_on PRODUCT_TO_STOCK) s.made ≡ [] → copy_of (changes_made (steps ++ s ∷ [])) key ≡ copy_of (changes_made steps) key
copy_made-same steps s key none = ap (λ cs. copy_of cs key) (changes_made-same steps s none)

-- look: a step that makes a change of another product
pub copy_made-other : (steps : List Step) (s : Step) (key k : ProductKey) (version : ℕ) (change : Change) → filter_map (body_on PRODUCT_TO_STOCK) s.made ≡ body.Changed k version change ∷ [] → same_key key k ≡ false → copy_of (changes_made (steps ++ s ∷ [])) key ≡ copy_of (changes_made steps) key
copy_made-other steps s key k version change made other = ap (λ cs. copy_of cs key) (changes_made-changed steps s k version change made) ∙ copy_of-push-other (changes_made steps) (record { key = k; version = version; change = change }) key other

-- look: a step that makes a change of the product, which may come next
pub copy_made-changed : (steps : List Step) (s : Step) (key k : ProductKey) (version : ℕ) (change : Change) → filter_map (body_on PRODUCT_TO_STOCK) s.made ≡ body.Changed k version change ∷ [] → same_key key k ≡ true → can_change (copy_of (changes_made steps) key) change ≡ true
    → copy_of (changes_made (steps ++ s ∷ [])) key ≡ look_after (copy_of (changes_made steps) key) version change
copy_made-changed steps s key k version change made same can = ap (λ cs. copy_of cs key) (changes_made-changed steps s k version change made) ∙ copy_of-push-same (changes_made steps) (record { key = k; version = version; change = change }) key same can

-- version: a step that makes no change
pub version_made-same : (steps : List Step) (s : Step) (key : ProductKey) → filter_map (body_on PRODUCT_TO_STOCK) s.made ≡ [] → version_of (changes_made (steps ++ s ∷ [])) key ≡ version_of (changes_made steps) key
version_made-same steps s key none = ap (λ cs. version_of cs key) (changes_made-same steps s none)

-- version: a step that makes a change, which is one more of its product
pub version_made-changed : (steps : List Step) (s : Step) (key k : ProductKey) (version : ℕ) (change : Change) → filter_map (body_on PRODUCT_TO_STOCK) s.made ≡ body.Changed k version change ∷ [] → version_of (changes_made (steps ++ s ∷ [])) key ≡ version_of (changes_made steps) key + (if same_key key k then 1 else 0)
version_made-changed steps s key k version change made = ap (λ cs. version_of cs key) (changes_made-changed steps s k version change made) ∙ version_of-push (changes_made steps) (record { key = k; version = version; change = change }) key

-- what products answer
pub answers-product : (steps : List Step) (from : Link) (b : Body) → answers Role.Product steps from b ≡ product_rows (product_sums steps) b
unfolding answers
answers-product steps from b = refl
