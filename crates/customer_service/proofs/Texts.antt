-- Customers have names of their own, and a table has an entry of each customer with a text.
use Rattle.std.proofs.Common.{◌≡◌, ℕ, Bool, true, false, cond, ◌==◌, List, [], ◌∷◌, Option, Some, None, is_some, unwrap_or, refl, ap, sym, ◌∙◌}
use Rattle.std.specs.Fmt.{decimal}
use Rattle.std.specs.Prelude.{codes}
use Rattle.std.specs.List.{list_any}
use Rattle.std.specs.Map.{keys_of}
use Rattle.market_events.specs.Entries.{entry_at}
use Rattle.market_events.specs.WellFormed.{IsId}
use Rattle.market_events.proofs.Values.Entries.{entry-among}
use Rattle.market_events.proofs.NamedCells.Keyed.{IsNaming, HasAll, IsFilled, joined_filled, number_naming}
use Rattle.customer_service.specs.declared.tables.Tally.{Tally}
use Rattle.customer_service.specs.Tables.{nothing}
use Rattle.customer_service.specs.Cells.{is_nothing, tally_text, name_by, text_by, texts_in}

-- a customer is among these
abbrev pub is_among : List ℕ → ℕ → Bool
is_among customers c = list_any (λ d. c == d) customers

-- customers have names of their own
pub naming : IsNaming (λ a b. a == b) name_by IsId
naming = number_naming (codes "customer")

-- a text says that something was counted, and is not empty
pub some_text : (t : Tally) → is_some (text_by t) ≡ true → is_nothing t ≡ false
some_text t some = by (is_nothing t) refl
  where
    by : (b : Bool) → is_nothing t ≡ b → is_nothing t ≡ false
    by false e = e
    by true e = let none : false ≡ true = sym (ap (λ b. is_some (cond b None (Some (tally_text t)))) e) ∙ some in cc

pub text_filled : (t : Tally) → IsFilled (text_by t)
text_filled t = by (is_nothing t)
  where
    by : (b : Bool) → IsFilled (cond b None (Some (tally_text t)))
    by true = tt
    by false = joined_filled 32 (decimal t.confirmed) (decimal t.failed) (decimal t.delivered ∷ [])

-- a table has an entry of each customer of whom it counts something
pub keys_all : (table : List (ℕ × Tally)) → HasAll (λ a b. a == b) (texts_in table) (keys_of table)
keys_all table c some = by (entry_at table c) refl some
  where
    by : (o : Option Tally) → entry_at table c ≡ o → is_some (text_by (unwrap_or o nothing)) ≡ true → is_among (keys_of table) c ≡ true
    by None found some = cc
    by (Some t) found some = entry-among table c t found
