-- The cells of the sellers: one for each entry and for each change, by the seller and its number from 1.
use Rattle.std.specs.Prelude.{ℕ, List, [], ◌∷◌, ◌++◌, Option, None, slice_get, option_map, map, codes}
use Prim.Native.Nat.{zero, suc}
use Rattle.std.specs.Fmt.{decimal}
use Rattle.std.specs.List.{flat_map, enumerate_from}
use Rattle.std.specs.Map.{keys_of}
use Rattle.market_amounts.specs.declared.keys.ProductKey.{ProductKey}
use Rattle.market_events.specs.declared.cells.Cell.{Cell}
use Rattle.market_events.specs.declared.cells.CellName.{CellName}
use Rattle.market_events.specs.CellNames.{key_name}
use Rattle.market_events.specs.Cells.{cell, seller_key, entry_number, entry_text, entry_cells, change_cells}
use Rattle.market_events.specs.Sellers.{SellerChange, entries_at}
use Rattle.market_events.specs.Texts.{spaced, status_text}
use Rattle.market_events.specs.WellFormed.{IsKey}
use Rattle.seller_service.specs.declared.cells.Place.{Place}
use Rattle.seller_service.specs.declared.cells.Place.TheVariants as place
use Rattle.seller_service.specs.Tables.{changes_at}

-- a seller and a number, which are spelled as a product's key is
abbrev pub numbered : ℕ → ℕ → ProductKey
numbered seller number = record { seller = seller; product = number }

abbrev pub place_name : Place → CellName
place_name (place.Entry seller number) = key_name (codes "entry") (numbered seller number)
place_name (place.Change seller number) = key_name (codes "change") (numbered seller number)

-- the numbers can be spelled
abbrev pub IsSpelledPlace : Place → Type 0
IsSpelledPlace (place.Entry seller number) = IsKey (numbered seller number)
IsSpelledPlace (place.Change seller number) = IsKey (numbered seller number)

-- the element with this number, from 1
abbrev pub at_number : {A : Type 0} → List A → ℕ → Option A
at_number xs zero = None
at_number xs (suc n) = slice_get xs n

-- the entry's number, and the status that it got
abbrev pub change_text : List SellerChange → SellerChange → List ℕ
change_text entries change = spaced (decimal (entry_number entries change) ∷ status_text change.status ∷ [])

-- the text of a place
abbrev pub text_at : (ℕ → List SellerChange) → Place → Option (List ℕ)
text_at changes (place.Entry seller number) =
    option_map entry_text (at_number (entries_at (changes seller)) number)
text_at changes (place.Change seller number) =
    option_map (change_text (entries_at (changes seller))) (at_number (changes seller) number)

-- the cells of a seller's entries, and of changes by these entries
abbrev pub cells_of_entries : ℕ → List SellerChange → List Cell
cells_of_entries seller entries =
    map (λ (p : ℕ × SellerChange). cell (codes "entry") (seller_key seller p.0) (entry_text p.1))
    (enumerate_from 1 entries)

abbrev pub cells_of_changes : ℕ → List SellerChange → List SellerChange → List Cell
cells_of_changes seller entries changes =
    map (λ (p : ℕ × SellerChange). cell (codes "change") (seller_key seller p.0) (change_text entries p.1))
    (enumerate_from 1 changes)

-- the cells of a seller with these changes
abbrev pub cells_of_seller : ℕ → List SellerChange → List Cell
cells_of_seller seller changes = entry_cells seller changes ++ change_cells seller changes

-- the cells of the sellers of a table
abbrev pub table_cells : List (ℕ × List SellerChange) → List Cell
table_cells table = flat_map (λ seller. cells_of_seller seller (changes_at table seller)) (keys_of table)
