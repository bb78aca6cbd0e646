-- The cells of the customers: the table's are those of the service.
use Rattle.std.proofs.Common.{◌≡◌, ℕ, cond, not, ◌==◌, List, [], Option, Some, None, is_some, refl, ap, sym, ◌∙◌}
use Rattle.std.specs.Map.{keys_of}
use Rattle.market_events.specs.declared.cells.CellName.{CellName}
use Rattle.market_events.specs.CellLists.{Within, put_all, cells_by}
use Rattle.market_events.specs.Cells.{cells_of, cells_listed, customer_cells}
use Rattle.market_events.specs.Copies.{last_some}
use Rattle.market_events.specs.Services.{IsRunOf}
use Rattle.market_events.specs.Standing.{Stands}
use Rattle.market_events.specs.Steps.{Step}
use Rattle.market_events.specs.WellFormed.{IsId}
use Rattle.market_events.proofs.NamedCells.Named.{value_at}
use Rattle.market_events.proofs.NamedCells.Keyed.{HasAll, alike, cells_by-map, each_among, entries_told}
use Rattle.customer_service.specs.declared.tables.Tally.{Tally}
use Rattle.customer_service.specs.Cells.{tally_text, name_by, text_by, texts_in, table_cells}
use Rattle.customer_service.specs.Holds.{tally_by, Holds}
use Rattle.customer_service.proofs.Taken.{customers_taken, is_nothing-by, taken_all, taken_within}
use Rattle.customer_service.proofs.Texts.{naming, some_text, keys_all}
use Rattle.market_events.specs.declared.roles.Role.{Role}

-- the texts of customers, by the steps
abbrev pub texts_by : List Step → ℕ → Option (List ℕ)
texts_by steps customer = text_by (tally_by steps customer)

-- the cells of the service are those of the customers who were taken
pub customer_cells-by : (steps : List Step) → customer_cells steps ≡ cells_by name_by (texts_by steps) (customers_taken steps)
customer_cells-by steps =
    cells_by-map name_by (texts_by steps) (λ c. tally_text (tally_by steps c)) (customers_taken steps)
    (each_among naming (λ c. texts_by steps c ≡ Some (tally_text (tally_by steps c))) (customers_taken steps) (λ c among.
    ap (λ b. cond b None (Some (tally_text (tally_by steps c)))) (is_nothing-by steps c ∙ ap not among)))

pub within_by : (steps : List Step) → IsRunOf Role.Customer steps → Within IsId (texts_by steps)
within_by steps run c some = taken_within Role.Customer steps run c (some_text (tally_by steps c) some)

pub all_by : (steps : List Step) → HasAll (λ a b. a == b) (texts_by steps) (customers_taken steps)
all_by steps c some = taken_all steps c (some_text (tally_by steps c) some)

-- the cells of a table have at each name what those of the service have
module _ (table : List (ℕ × Tally)) (steps : List Step) (stands : Stands Role.Customer Holds table steps) where
  same_text : (c : ℕ) → texts_in table c ≡ texts_by steps c
  same_text c = ap text_by (stands.held.each c)

  pub table_within : Within IsId (texts_in table)
  table_within c some = within_by steps stands.run c (ap is_some (sym (same_text c)) ∙ some)

  pub table_same : (name : CellName) → last_some (value_at name) (table_cells table) ≡ last_some (value_at name) (customer_cells steps)
  table_same name =
      alike naming (texts_in table) (texts_by steps) table_within (within_by steps stands.run) (keys_of table) (customers_taken steps) (keys_all table) (all_by steps) name (λ c small is. same_text c)
      ∙ sym (ap (last_some (value_at name)) (customer_cells-by steps))

  pub table_told : cells_listed (table_cells table) ≡ cells_of Role.Customer steps
  table_told = entries_told Role.Customer steps (put_all [] (table_cells table)) (table_cells table) refl table_same
