-- The cells of the sellers, by the tables.
use Rattle.std.proofs.Common.{◌≡◌, ℕ, ◌≤◌, Bool, true, false, cond, ◌==◌, ◌&&◌, nat_le, List, [], ◌∷◌, length, map, Some, is_some, unwrap_or, refl, ap, sym, ◌∙◌, arith, leb-true, le-leb}
use Rattle.std.specs.List.{flat_map, list_any, list_all}
use Rattle.std.specs.Map.{keys_of, lookup}
use Rattle.std.specs.BTreeMap.{is_at}
use Rattle.std.specs.Ordering.{nat_cmp, is_eq}
use Rattle.std.proofs.lemmas.Bool.{or_parts}
use Rattle.std.proofs.lemmas.Bool.Decides.{nat_tests}
use Rattle.std.proofs.lemmas.List.Folds.{list_all-append}
use Rattle.market_events.specs.declared.bodies.Body.{Body}
use Rattle.market_events.specs.declared.bodies.Body.TheVariants as body
use Rattle.market_events.specs.declared.bodies.PricedLine.{PricedLine}
use Rattle.market_events.specs.declared.cells.CellName.{CellName}
use Rattle.market_events.specs.CellLists.{Within, put_all, cells_by}
use Rattle.market_events.specs.Cells.{cells_of, cells_listed, seller_cells, sellers_in, entry_text}
use Rattle.market_events.specs.Copies.{last_some}
use Rattle.market_events.specs.Formed.{id_formed, line_formed, checkout_formed, body_formed}
use Rattle.market_events.specs.Sellers.{SellerChange, entries_at, seller_changes}
use Rattle.market_events.specs.declared.roles.Role.{Role}
use Rattle.market_events.specs.Services.{IsRunOf}
use Rattle.market_events.specs.Steps.{Step, taken_bodies}
use Rattle.market_events.specs.WellFormed.{id_max, total_of, most_lines, keys_rise}
use Rattle.market_events.proofs.NamedCells.Named.{value_at}
use Rattle.market_events.proofs.Values.Formed.{line_decides}
use Rattle.market_events.proofs.NamedCells.Keyed.{HasAll, alike, entries_told}
use Rattle.market_events.proofs.Values.Lists.{and_both, and_from, all-any}
use Rattle.market_events.proofs.Runs.Stock.{checkout_formed-lines}
use Rattle.market_events.proofs.Steps.Taken.{taken_formed}
use Rattle.seller_service.specs.declared.cells.Place.{Place}
use Rattle.seller_service.specs.declared.cells.Place.TheVariants as place
use Rattle.seller_service.specs.Cells.{place_name, at_number, change_text, text_at, table_cells, IsSpelledPlace}
use Rattle.seller_service.specs.Tables.{changes_at}
use Rattle.seller_service.proofs.Entered.{sellers_told}
use Rattle.seller_service.proofs.Steps.{point_room}
use Rattle.seller_service.proofs.Numbers.{entries_few}
use Rattle.seller_service.proofs.Places.{seller_of, same_place, naming, places_in, cells-places, all_places, text_none, at_few, some_from}

-- the sellers that stand in invoices
abbrev pub sellers_of : List Step → List ℕ
sellers_of steps = flat_map sellers_in (taken_bodies steps)

-- the cells of the service are those of these sellers
pub seller_cells-places : (steps : List Step) → seller_cells steps ≡ cells_by place_name (text_at (seller_changes steps)) (places_in (seller_changes steps) (sellers_of steps))
seller_cells-places steps = cells-places (seller_changes steps) (sellers_of steps)

pub all_by : (steps : List Step) → HasAll same_place (text_at (seller_changes steps)) (places_in (seller_changes steps) (sellers_of steps))
all_by steps = all_places (seller_changes steps) (sellers_of steps) (sellers_told steps)

-- a table has the changes of a seller among its keys
keys_told : (table : List (ℕ × List SellerChange)) (seller : ℕ) → list_any (λ s. seller == s) (keys_of table) ≡ false → changes_at table seller ≡ []
keys_told [] seller none = refl
keys_told (e ∷ es) seller none =
    let parts = or_parts (seller == e.0) (list_any (λ s. seller == s) (keys_of es)) none in
    ap (λ b. unwrap_or (cond b (Some e.1) (lookup (is_at (nat_cmp seller)) es)) []) (at_other seller e.0 parts.0) ∙ keys_told es seller parts.1
  where
    at_other : (a b : ℕ) → (a == b) ≡ false → is_eq (nat_cmp a b) ≡ false
    at_other a b other = grind (arith, nat_tests)

pub all_in : (table : List (ℕ × List SellerChange)) → HasAll same_place (text_at (changes_at table)) (places_in (changes_at table) (keys_of table))
all_in table = all_places (changes_at table) (keys_of table) (keys_told table)

-- the sellers of well-formed lines can be spelled
lines_sellers : (lines : List PricedLine) → list_all line_formed lines ≡ true → list_all id_formed (map (λ (line : PricedLine). line.key.seller) lines) ≡ true
lines_sellers [] all = refl
lines_sellers (l ∷ lines) all =
    let both = and_both (line_formed l) (list_all line_formed lines) all in
    and_from (id_formed l.key.seller) (list_all id_formed (map (λ (line : PricedLine). line.key.seller) lines)) (le-leb l.key.seller id_max ((line_decides l).0 both.0).key.seller) (lines_sellers lines both.1)

sellers_formed : (bs : List Body) → list_all body_formed bs ≡ true → list_all id_formed (flat_map sellers_in bs) ≡ true
sellers_formed [] all = refl
sellers_formed (b ∷ bs) all =
    let both = and_both (body_formed b) (list_all body_formed bs) all in
    list_all-append id_formed (sellers_in b) (flat_map sellers_in bs) ∙ and_from (list_all id_formed (sellers_in b)) (list_all id_formed (flat_map sellers_in bs)) (one b both.0) (sellers_formed bs both.1)
  where
    one : (b : Body) → body_formed b ≡ true → list_all id_formed (sellers_in b) ≡ true
    one (body.Invoice checkout customer lines total) formed =
        let a = and_both (checkout_formed checkout customer lines) (total == total_of lines) formed in
        let b = and_both (nat_le 1 (length lines) && nat_le (length lines) most_lines && list_all line_formed lines) (keys_rise lines) (checkout_formed-lines checkout customer lines a.0) in
        lines_sellers lines (and_both (nat_le 1 (length lines) && nat_le (length lines) most_lines) (list_all line_formed lines) b.0).1
    one other formed = refl

-- a seller of whom something is said can be spelled
seller_small : (steps : List Step) → IsRunOf Role.Seller steps → (seller : ℕ) → (seller_changes steps seller ≡ [] → ⊥) → seller ≤ id_max
seller_small steps run seller some = by (list_any (λ s. seller == s) (sellers_of steps)) refl
  where
    by : (b : Bool) → list_any (λ s. seller == s) (sellers_of steps) ≡ b → seller ≤ id_max
    by true any =
        all-any id_formed (λ s. seller == s) (seller ≤ id_max) (λ s formed is. omega (arith, leb-true s id_max formed, same seller s is))
        (sellers_of steps) (sellers_formed (taken_bodies steps) (taken_formed Role.Seller steps run)) any
      where
        same : (a b : ℕ) → (a == b) ≡ true → a ≡ b
        same a b e = grind (arith, nat_tests)
    by false none = absurd (some (sellers_told steps seller none))

-- each place of which something is said can be spelled
pub within_by : (steps : List Step) → IsRunOf Role.Seller steps → Within IsSpelledPlace (text_at (seller_changes steps))
within_by steps run p some = by p some (seller_small steps run (seller_of p) (λ none. gone (sym (ap is_some (text_none (seller_changes steps) p none)) ∙ some)))
  where
    gone : false ≡ true → ⊥
    gone e = cc

    by : (p : Place) → is_some (text_at (seller_changes steps) p) ≡ true → seller_of p ≤ id_max → IsSpelledPlace p
    by (place.Entry s n) some small =
        record {
          seller = small;
          product = omega (arith, at_few (entries_at (seller_changes steps s)) n (some_from entry_text (at_number (entries_at (seller_changes steps s)) n) some), entries_few (seller_changes steps s), point_room steps run s);
        }
    by (place.Change s n) some small =
        record {
          seller = small;
          product = omega (arith, at_few (seller_changes steps s) n (some_from (change_text (entries_at (seller_changes steps s))) (at_number (seller_changes steps s) n) some), point_room steps run s);
        }

-- the cells of a table have at each name what those of the service have
module _ (table : List (ℕ × List SellerChange)) (steps : List Step) (run : IsRunOf Role.Seller steps) (same : (seller : ℕ) → changes_at table seller ≡ seller_changes steps seller) where
  same_text : (p : Place) → text_at (changes_at table) p ≡ text_at (seller_changes steps) p
  same_text p = λ i. text_at (λ seller. same seller i) p

  pub table_within : Within IsSpelledPlace (text_at (changes_at table))
  table_within p some = within_by steps run p (ap is_some (sym (same_text p)) ∙ some)

  pub table_same : (name : CellName) → last_some (value_at name) (table_cells table) ≡ last_some (value_at name) (seller_cells steps)
  table_same name =
      ap (last_some (value_at name)) (cells-places (changes_at table) (keys_of table))
      ∙ alike naming (text_at (changes_at table)) (text_at (seller_changes steps)) table_within (within_by steps run) (places_in (changes_at table) (keys_of table)) (places_in (seller_changes steps) (sellers_of steps)) (all_in table) (all_by steps) name (λ p small is. same_text p)
      ∙ sym (ap (last_some (value_at name)) (seller_cells-places steps))

  pub table_told : cells_listed (table_cells table) ≡ cells_of Role.Seller steps
  table_told = entries_told Role.Seller steps (put_all [] (table_cells table)) (table_cells table) refl table_same
