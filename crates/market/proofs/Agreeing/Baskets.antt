-- What one more act leaves in the baskets of the sequential market.
use Rattle.std.proofs.Common.{◌≡◌, ℕ, Bool, true, false, ◌==◌, ◌&&◌, List, [], ◌∷◌, ◌++◌, Option, Some, None, if◌then◌else◌, refl, ap, ◌∙◌}
use Rattle.std.specs.Option.{option_or}
use Rattle.market_amounts.specs.declared.keys.ProductKey.{ProductKey}
use Rattle.market_events.specs.Carts.{Held, joined}
use Rattle.market_events.specs.Copies.{last_some}
use Rattle.market_events.specs.Requests.{same_key}
use Rattle.market_events.proofs.Steps.Copies.{last_some-push}
use Rattle.market_history.specs.Acts.{BasketAct, line_left, line_at}

-- the last act of a customer and a product
pub line_at-left : (acts : List BasketAct) (c : ℕ) (k : ProductKey) (left : Option Held) (customer : ℕ) (key : ProductKey)
    → line_at (acts ++ BasketAct.Left c k left ∷ []) customer key ≡ (if (c == customer) && same_key k key then left else line_at acts customer key)
line_at-left acts c k left customer key = ap joined (last_some-push (line_left customer key) acts (BasketAct.Left c k left)) ∙ either ((c == customer) && same_key k key)
  where
    either : (b : Bool) → joined (option_or (if b then Some left else None) (last_some (line_left customer key) acts)) ≡ (if b then left else line_at acts customer key)
    either true = refl
    either false = refl

pub line_at-emptied : (acts : List BasketAct) (c customer : ℕ) (key : ProductKey) → line_at (acts ++ BasketAct.Emptied c ∷ []) customer key ≡ (if c == customer then None else line_at acts customer key)
line_at-emptied acts c customer key = ap joined (last_some-push (line_left customer key) acts (BasketAct.Emptied c)) ∙ either (c == customer)
  where
    either : (b : Bool) → joined (option_or (if b then Some None else None) (last_some (line_left customer key) acts)) ≡ (if b then None else line_at acts customer key)
    either true = refl
    either false = refl
