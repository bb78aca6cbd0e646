-- What a list of changes leaves of each product.
use Rattle.std.specs.Prelude.{ℕ, List, [], ◌∷◌, Option, Some, None, if◌then◌else◌, unwrap_or, count_by}
use Rattle.std.specs.Option.{option_or}
use Rattle.market_amounts.specs.declared.keys.ProductKey.{ProductKey}
use Rattle.market_events.specs.declared.changes.Change.{Change}
use Rattle.market_events.specs.declared.changes.Change.TheVariants.{Created, Priced, Deleted}
use Rattle.market_events.specs.declared.changes.Look.{Look}
use Rattle.market_events.specs.declared.changes.Look.TheVariants.{Unknown, Gone, Live}
use Rattle.market_events.specs.Requests.{same_key}

-- a change of a product, with the version that it leaves
pub record ProductChange : Type 0 where
  pub key : ProductKey
  pub version : ℕ
  pub change : Change

-- what f gives at the last element at which it gives something
abbrev pub last_some : {A B : Type 0} → (A → Option B) → List A → Option B
last_some f [] = None
last_some f (x ∷ xs) = option_or (last_some f xs) (f x)

-- the change, where it is of this product
abbrev pub change_of : ProductKey → ProductChange → Option ProductChange
change_of key c = if same_key key c.key then Some c else None

-- the price that a change sets
abbrev pub price_in : Change → Option ℕ
price_in (Created price freight) = Some price
price_in (Priced price) = Some price
price_in Deleted = None

-- the freight that a change sets
abbrev pub freight_in : Change → Option ℕ
freight_in (Created price freight) = Some freight
freight_in (Priced price) = None
freight_in Deleted = None

abbrev pub price_set : ProductKey → ProductChange → Option ℕ
price_set key c = if same_key key c.key then price_in c.change else None

abbrev pub freight_set : ProductKey → ProductChange → Option ℕ
freight_set key c = if same_key key c.key then freight_in c.change else None

-- what a change of this version shows, with a price and a freight
abbrev pub shown : ℕ → Change → Option ℕ → Option ℕ → Look
shown version (Created p f) price freight = Live version (unwrap_or price 0) (unwrap_or freight 0)
shown version (Priced p) price freight = Live version (unwrap_or price 0) (unwrap_or freight 0)
shown version Deleted price freight = Gone version

-- what the last change shows, with the last price and the last freight that were set
abbrev pub look_of : Option ProductChange → Option ℕ → Option ℕ → Look
look_of None price freight = Unknown
look_of (Some c) price freight = shown c.version c.change price freight

-- the copy: Unknown where no change is of the product; Gone with the last change's version where that change
-- is Deleted; else Live with the last change's version, the last price and the last freight
abbrev pub copy_of : List ProductChange → ProductKey → Look
copy_of changes key =
    look_of (last_some (change_of key) changes) (last_some (price_set key) changes)
    (last_some (freight_set key) changes)

-- how many changes the product had
abbrev pub version_of : List ProductChange → ProductKey → ℕ
version_of changes key = count_by (λ (c : ProductChange). same_key key c.key) changes
