-- Which change a step makes, if any, and what stands at the names of cells after it.
use Rattle.std.proofs.Common.{◌≡◌, ℕ, true, false, ◌&&◌, List, [], ◌∷◌, ◌++◌, Option, Some, None, ◌⊎◌, inl, inr, refl, ap, sym, subst, ◌∙◌, append-nil}
use Rattle.std.specs.Option.{option_map}
use Rattle.market_amounts.specs.declared.keys.ProductKey.{ProductKey}
use Rattle.market_amounts.specs.declared.keys.RequestId.{RequestId}
use Rattle.market_events.specs.declared.bodies.Body.{Body}
use Rattle.market_events.specs.declared.bodies.Body.TheVariants as body
use Rattle.market_events.specs.declared.cells.CellName.{CellName}
use Rattle.market_events.specs.declared.changes.Change.{Change}
use Rattle.market_events.specs.declared.links.Link.{Link}
use Rattle.market_events.specs.declared.replies.Rule.{Rule}
use Rattle.market_events.specs.declared.requests.Ask.{Ask}
use Rattle.market_events.specs.declared.requests.Ask.TheVariants as ask
use Rattle.market_events.specs.CellNames.{key_name}
use Rattle.market_events.specs.Cells.{look_cells}
use Rattle.market_events.specs.Copies.{ProductChange, last_some}
use Rattle.market_events.specs.Formed.{cents_formed, key_formed, request_id_formed, ask_formed, body_formed}
use Rattle.market_events.specs.Products.{ProductSums, changes_made, product_sums, product_rows}
use Rattle.market_events.specs.declared.roles.Role.{Role}
use Rattle.market_events.specs.Services.{Follows, IsRunOf}
use Rattle.market_events.specs.Standing.{with_step, same_name}
use Rattle.market_events.specs.Steps.{Step}
use Rattle.market_events.proofs.NamedCells.Named.{value_at}
use Rattle.market_events.proofs.Values.Lists.{and_both}
use Rattle.market_events.proofs.Steps.Products.{answers-product}
use Rattle.market_events.proofs.Steps.Taken.{changes_made-push, fits-parts, run_has}
use Rattle.cart_replica.specs.CopyCells.{AreKeysFormed}
use Rattle.cart_replica.proofs.CopyCells.{AreKeysFormed-push, look_cells-push}
use Rattle.product_service.specs.Changing.{key_wanted, refusal_by, rows_unless, changes_told, change_wanted}
use Rattle.product_service.proofs.Steps.{changes_made-step}
use Rattle.product_service.proofs.Rows.{rows_by, product_asked-by}

-- the changes that are told are one, of the product that the body asks to change
pub record TellsOne (wanted : Option ProductKey) (told : List ProductChange) : Type 0 where
  pub change : ProductChange
  pub is : told ≡ change ∷ []
  pub of : wanted ≡ Some change.key

-- a request tells no change, or one of the product that it asks to change
told_one : (s : ProductSums) (id : RequestId) (wanted : Option (ProductKey × Change))
    → (changes_told (rows_by s id wanted) ≡ []) ⊎ TellsOne (option_map (λ (w : ProductKey × Change). w.0) wanted) (changes_told (rows_by s id wanted))
told_one s id None = inl refl
told_one s id (Some w) = by (refusal_by (s.look w.0) w.1)
  where
    by : (o : Option Rule) → (changes_told (rows_unless id w.0 w.1 (s.version w.0) o) ≡ []) ⊎ TellsOne (Some w.0) (changes_told (rows_unless id w.0 w.1 (s.version w.0) o))
    by None = inr (record { change = record { key = w.0; version = _; change = w.1 }; is = refl; of = refl })
    by (Some rule) = inl refl

-- and so does each body
pub tells : (s : ProductSums) (b : Body) → (changes_told (product_rows s b) ≡ []) ⊎ TellsOne (key_wanted b) (changes_told (product_rows s b))
tells s (body.Asked request) =
    subst (λ made. (changes_told made ≡ []) ⊎ TellsOne (key_wanted (body.Asked request)) (changes_told made)) (sym (product_asked-by s request.id request.ask))
    (told_one s request.id (change_wanted request.ask))
tells s other = inl refl

-- the product that a well-formed body asks to change is well formed
pub wanted_formed : (b : Body) → body_formed b ≡ true → (key : ProductKey) → key_wanted b ≡ Some key → key_formed key ≡ true
wanted_formed (body.Asked request) formed key is = asked request.ask (and_both (request_id_formed request.id) (ask_formed request.ask) formed).1 is
  where
    same : (k : ProductKey) → key_formed k ≡ true → Some k ≡ Some key → key_formed key ≡ true
    same k formed e = let one : k ≡ key = cc in subst (λ k. key_formed k ≡ true) one formed

    asked : (a : Ask) → ask_formed a ≡ true → option_map (λ (w : ProductKey × Change). w.0) (change_wanted a) ≡ Some key → key_formed key ≡ true
    asked (ask.Create k price freight) formed is = same k (and_both (key_formed k) (cents_formed price) (and_both (key_formed k && cents_formed price) (cents_formed freight) formed).0).0 is
    asked (ask.Price k price) formed is = same k (and_both (key_formed k) (cents_formed price) formed).0 is
    asked (ask.Delete k) formed is = same k formed is
    asked other formed is = cc
wanted_formed other formed key is = cc

-- the changes of a run are of well-formed products
pub changes_made-formed : (steps : List Step) → IsRunOf Role.Product steps → AreKeysFormed (changes_made steps)
changes_made-formed steps run = run_has Role.Product (λ steps. AreKeysFormed (changes_made steps)) keeps refl steps run
  where
    keeps : (steps : List Step) (s : Step) → Follows Role.Product steps s → AreKeysFormed (changes_made steps) → AreKeysFormed (changes_made (steps ++ s ∷ []))
    keeps steps s follows all =
        subst AreKeysFormed
        (ap (λ made. changes_made steps ++ changes_told made) (sym (follows.made ∙ answers-product steps s.from s.body)) ∙ sym (changes_made-push steps s))
        (elim (tells (product_sums steps) s.body) [
          | inl none ↦ subst AreKeysFormed (sym (ap (λ told. changes_made steps ++ told) none ∙ append-nil (changes_made steps))) all
          | inr one ↦ subst AreKeysFormed (sym (ap (λ told. changes_made steps ++ told) one.is))
              (AreKeysFormed-push (changes_made steps) one.change all (wanted_formed s.body (fits-parts Role.Product steps s.from s.body follows.fit).formed one.change.key one.of))
        ])

-- at a name that is not that of the product which the body asks to change, the same stands after the step
pub cells_same : (steps : List Step) (from : Link) (b : Body) → IsRunOf Role.Product steps → body_formed b ≡ true → (table : List ℕ) (name : CellName)
    → ((key : ProductKey) → key_wanted b ≡ Some key → same_name name (key_name table key) ≡ false)
    → last_some (value_at name) (look_cells table (changes_made (with_step Role.Product steps from b))) ≡ last_some (value_at name) (look_cells table (changes_made steps))
cells_same steps from b run formed table name other =
    ap stands (changes_made-step steps from b)
    ∙ elim (tells (product_sums steps) b) [
      | inl none ↦ ap stands (ap (λ told. changes_made steps ++ told) none ∙ append-nil (changes_made steps))
      | inr one ↦ ap stands (ap (λ told. changes_made steps ++ told) one.is)
          ∙ look_cells-push table (changes_made steps) one.change (changes_made-formed steps run) (wanted_formed b formed one.change.key one.of) name (other one.change.key one.of)
    ]
  where
    stands : List ProductChange → Option (List ℕ)
    stands changes = last_some (value_at name) (look_cells table changes)
