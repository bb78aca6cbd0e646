-- What a service stands for, and what is said of its cells.
use Rattle.std.specs.Prelude.{◌≡◌, ℕ, Bool, true, cond, List, [], ◌∷◌, ◌++◌, codes}
use Rattle.std.specs.List.{list_any}
use Rattle.std.specs.Ordering.{is_eq}
use Rattle.market_events.specs.declared.bodies.Body.{Body}
use Rattle.market_events.specs.declared.bodies.Body.TheVariants as body
use Rattle.market_events.specs.declared.cells.Cell.{Cell}
use Rattle.market_events.specs.declared.cells.CellName.{CellName}
use Rattle.market_events.specs.declared.links.Link.{Link}
use Rattle.market_events.specs.declared.requests.Ask.{Ask}
use Rattle.market_events.specs.declared.requests.Ask.TheVariants as ask
use Rattle.market_events.specs.Cells.{name_cmp, text_cmp}
use Rattle.market_events.specs.Services.{Role, IsRunOf, answers, fits}
use Rattle.market_events.specs.Steps.{Step}

-- the steps are a run of the service, and what is kept holds them
pub record Stands {Kept : Type 0} (role : Role) (holds : Kept → List Step
    → Type 0) (kept : Kept) (steps : List Step) : Type 0 where
  pub run : IsRunOf role steps
  pub held : holds kept steps

-- what is kept stands for some steps
abbrev pub StandsForSome : {Kept : Type 0} → Role → (Kept → List Step → Type 0) → Kept → Type 0
StandsForSome role holds kept = ∥ ((steps : List Step) × Stands role holds kept steps) ∥₁

-- it stands for some steps that the input fits
abbrev pub CanTake : {Kept : Type 0} → Role → (Kept → List Step → Type 0) → Kept → Link → Body → Type 0
CanTake role holds kept from b =
    ∥ ((steps : List Step) × Stands role holds kept steps × (fits role steps from b ≡ true)) ∥₁

-- the step that takes this input, after these steps
abbrev pub step_of : Role → List Step → Link → Body → Step
step_of role steps from b = record { from = from; body = b; made = answers role steps from b }

-- the steps with that one
abbrev pub with_step : Role → List Step → Link → Body → List Step
with_step role steps from b = steps ++ step_of role steps from b ∷ []

-- whether two names are the same
abbrev pub same_name : CellName → CellName → Bool
same_name a b = is_eq (name_cmp a b)

-- whether the name is among these
abbrev pub is_named : List CellName → CellName → Bool
is_named names name = list_any (same_name name) names

-- whether there is a cell of the name, and its value, empty where there is none
abbrev pub has_cell : List Cell → CellName → Bool
has_cell cells name = list_any (λ (c : Cell). same_name name c.name) cells

abbrev pub value_of : List Cell → CellName → List ℕ
value_of [] name = []
value_of (c ∷ more) name = cond (same_name name c.name) c.value (value_of more name)

-- how many cells a step with this body changes at most
abbrev pub most_by_ask : Ask → ℕ
most_by_ask ask.Deliver = 320
most_by_ask other = 64

abbrev pub most_touched : Body → ℕ
most_touched (body.Delivered items) = 320
most_touched (body.Asked request) = most_by_ask request.ask
most_touched other = 64

-- the tables of a service that an input of this kind may change
abbrev pub tables_asked : Role → Ask → List (List ℕ)
tables_asked Role.Cart (ask.Line customer key quantity voucher) = codes "basket" ∷ []
tables_asked Role.Cart (ask.Remove customer key) = codes "basket" ∷ []
tables_asked Role.Cart (ask.Checkout customer) = codes "basket" ∷ []
tables_asked Role.Product (ask.Create key price freight) = codes "product" ∷ []
tables_asked Role.Product (ask.Price key price) = codes "product" ∷ []
tables_asked Role.Product (ask.Delete key) = codes "product" ∷ []
tables_asked Role.Stock (ask.Stock key pieces) = codes "stock" ∷ []
tables_asked Role.Payment (ask.Card customer limit) = codes "account" ∷ []
tables_asked Role.Shipment ask.Deliver = codes "package" ∷ []
tables_asked role other = []

abbrev pub tables_of : Role → Body → List (List ℕ)
tables_of role (body.Asked request) = tables_asked role request.ask
tables_of Role.Cart (body.Changed key version change) = codes "copy" ∷ []
tables_of Role.Stock (body.Changed key version change) = codes "copy" ∷ []
tables_of Role.Stock (body.Reserve checkout customer lines) = codes "stock" ∷ codes "held" ∷ []
tables_of Role.Stock (body.Confirmed checkout customer lines total) = codes "stock" ∷ codes "held" ∷ []
tables_of Role.Stock (body.Failed checkout customer rule) = codes "stock" ∷ codes "held" ∷ []
tables_of Role.Order (body.StockConfirmed checkout customer lines) = codes "order" ∷ []
tables_of Role.Order (body.Confirmed checkout customer lines total) = codes "order" ∷ []
tables_of Role.Order (body.Failed checkout customer rule) = codes "order" ∷ []
tables_of Role.Order (body.Shipped checkout) = codes "order" ∷ []
tables_of Role.Order (body.Delivered items) = codes "order" ∷ []
tables_of Role.Payment (body.Invoice checkout customer lines total) = codes "account" ∷ []
tables_of Role.Shipment (body.Confirmed checkout customer lines total) = codes "package" ∷ []
tables_of Role.Customer (body.Confirmed checkout customer lines total) = codes "customer" ∷ []
tables_of Role.Customer (body.Failed checkout customer rule) = codes "customer" ∷ []
tables_of Role.Customer (body.Delivered items) = codes "customer" ∷ []
tables_of Role.Seller (body.Invoice checkout customer lines total) = codes "entry" ∷ codes "change" ∷ []
tables_of Role.Seller (body.Confirmed checkout customer lines total) = codes "change" ∷ []
tables_of Role.Seller (body.Failed checkout customer rule) = codes "change" ∷ []
tables_of Role.Seller (body.Shipped checkout) = codes "change" ∷ []
tables_of Role.Seller (body.Delivered items) = codes "change" ∷ []
tables_of role other = []

abbrev pub may_change : Role → Body → CellName → Bool
may_change role b name = list_any (λ (table : List ℕ). is_eq (text_cmp table name.table)) (tables_of role b)
