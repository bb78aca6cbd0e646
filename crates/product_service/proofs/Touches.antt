-- The names that a body touches cover what a step with it changes.
use Rattle.std.proofs.Common.{◌≡◌, ℕ, ◌≤◌, true, false, List, Option, Some, None, length, refl, ap, sym, subst, ◌∙◌, arith}
use Rattle.std.specs.List.{IsDistinct, list_any}
use Rattle.std.specs.Option.{option_map}
use Rattle.std.specs.Ordering.{is_eq}
use Rattle.market_amounts.specs.declared.keys.ProductKey.{ProductKey}
use Rattle.market_events.specs.declared.bodies.Body.{Body}
use Rattle.market_events.specs.declared.bodies.Body.TheVariants as body
use Rattle.market_events.specs.declared.cells.CellName.{CellName}
use Rattle.market_events.specs.declared.changes.Change.{Change}
use Rattle.market_events.specs.declared.changes.Look.{Look}
use Rattle.market_events.specs.declared.links.Link.{Link}
use Rattle.market_events.specs.declared.requests.Ask.{Ask}
use Rattle.market_events.specs.declared.requests.Ask.TheVariants as ask
use Rattle.market_events.specs.CellNames.{key_name}
use Rattle.market_events.specs.Cells.{cells_of, text_cmp}
use Rattle.market_events.specs.declared.roles.Role.{Role}
use Rattle.market_events.specs.Services.{fits}
use Rattle.market_events.specs.Standing.{Stands, with_step, same_name, is_named, value_of, may_change, tables_asked, most_by_ask, most_touched}
use Rattle.market_events.specs.Steps.{Step}
use Rattle.market_events.proofs.NamedCells.Keyed.{covers_told, none_some}
use Rattle.market_events.proofs.Values.Lists.{or_parts}
use Rattle.market_events.proofs.Runs.Standing.{is_fit}
use Rattle.market_events.proofs.NamedCells.Touched.{named_none, one_may_change}
use Rattle.cart_replica.proofs.Names.{none_distinct, one_distinct}
use Rattle.product_service.specs.Cells.{names_of, names_touched, table_name}
use Rattle.product_service.specs.Changing.{key_wanted, change_wanted}
use Rattle.product_service.specs.Holds.{Holds}
use Rattle.product_service.proofs.Changes.{cells_same}

-- a product whose change is asked for has its cell in a table that the body may change
key_touched : (b : Body) (key : ProductKey) → key_wanted b ≡ Some key → may_change Role.Product b (key_name table_name key) ≡ true
key_touched (body.Asked request) key wanted = by request.ask wanted
  where
    by : (what : Ask) → option_map (λ (w : ProductKey × Change). w.0) (change_wanted what) ≡ Some key
        → list_any (λ (t : List ℕ). is_eq (text_cmp t table_name)) (tables_asked Role.Product what) ≡ true
    by (ask.Create k price freight) e = refl
    by (ask.Price k price) e = refl
    by (ask.Delete k) e = refl
    by other e = absurd (none_some key e)
key_touched other key wanted = absurd (none_some key wanted)

module _ (b : Body) (names : List CellName) (are : names ≡ names_touched b) where
  -- a cell of another name is as it was
  pub covers : (entries : List (ProductKey × Look)) (from : Link) (steps : List Step) → Stands Role.Product Holds entries steps → fits Role.Product steps from b ≡ true
      → (name : CellName) → is_named names name ≡ false
      → value_of (cells_of Role.Product (with_step Role.Product steps from b)) name ≡ value_of (cells_of Role.Product steps) name
  covers entries from steps stands fit name other =
      covers_told Role.Product steps (with_step Role.Product steps from b) name
      (cells_same steps from b stands.run (is_fit Role.Product steps from b fit).formed table_name name (λ key wanted.
      (or_parts (same_name name (key_name table_name key)) false (sym (ap (λ ns. is_named ns name) (are ∙ ap names_of wanted)) ∙ other)).0))

  -- the names are of tables that the body may change
  pub tables : (name : CellName) → is_named names name ≡ true → may_change Role.Product b name ≡ true
  tables name here = by (key_wanted b) refl (sym (ap (λ ns. is_named ns name) are) ∙ here)
    where
      by : (o : Option ProductKey) → key_wanted b ≡ o → is_named (names_of o) name ≡ true → may_change Role.Product b name ≡ true
      by None is named = named_none name named
      by (Some key) is named = one_may_change Role.Product b (key_name table_name key) (key_touched b key is) name named

  -- they differ
  pub differ : IsDistinct same_name names
  differ = subst (IsDistinct same_name) (sym are) (by (key_wanted b))
    where
      by : (o : Option ProductKey) → IsDistinct same_name (names_of o)
      by None = none_distinct
      by (Some key) = one_distinct (key_name table_name key)

  -- and are few
  pub few : length names ≤ most_touched b
  few = omega (arith, ap length are, at_most_one (key_wanted b), some_may b)
    where
      at_most_one : (o : Option ProductKey) → length (names_of o) ≤ 1
      at_most_one None = omega arith
      at_most_one (Some key) = omega arith

      by_ask : (what : Ask) → 1 ≤ most_by_ask what
      by_ask ask.Deliver = omega arith
      by_ask other = omega arith

      some_may : (b : Body) → 1 ≤ most_touched b
      some_may (body.Delivered items) = omega arith
      some_may (body.Asked request) = by_ask request.ask
      some_may other = omega arith
