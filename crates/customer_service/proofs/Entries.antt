-- An entry that is set to what it was changes nothing.
use Rattle.std.proofs.Common.{◌≡◌, ℕ, Bool, true, false, cond, ◌==◌, refl, ap, sym, ◌∙◌, if◌then◌else◌}
use Rattle.std.proofs.lemmas.Bool.{eqb-true}
use Rattle.market_events.specs.declared.bodies.Item.{Item}

-- an entry that is set to what it was changes nothing
pub set_same : {X : Type 0} (f g : ℕ → X) (k : ℕ) (x : X) → x ≡ f k → ((q : ℕ) → g q ≡ (if q == k then x else f q)) → (q : ℕ) → g q ≡ f q
set_same f g k x was set q = set q ∙ at (q == k) refl
  where
    at : (b : Bool) → (q == k) ≡ b → cond b x (f q) ≡ f q
    at true e = was ∙ ap f (sym (eqb-true q k e))
    at false e = refl

-- an item for what lies past the end of a list of items
abbrev pub no_item : Item
no_item = record { checkout = record { caller = 0; number = 0 }; customer = 0; key = record { seller = 0; product = 0 } }
