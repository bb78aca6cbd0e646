-- The names of the cells that an event changes are few, and they are all.
use Rattle.std.proofs.Common.{◌≡◌, ℕ, ◌+◌, ◌≤◌, ◌<◌, zero, suc, Bool, true, false, cond, ◌==◌, List, [], ◌∷◌, ◌++◌, length, filter, Option, Some, None, option_map, count_by, refl, ap, ap₂, sym, ◌∙◌, subst, arith, ◌⊎◌, inl, inr, length-append, codes, filter_map, find}
use Rattle.std.specs.Fmt.{decimal}
use Rattle.std.specs.List.{list_any, list_all, slice_get, cons_option}
use Rattle.std.specs.Ordering.{is_eq}
use Rattle.std.proofs.lemmas.Bool.{both_ways, cases_lt}
use Rattle.std.proofs.lemmas.Option.{slice_get_past}
use Rattle.std.proofs.lemmas.List.Sums.{length-filter}
use Rattle.market_events.specs.declared.bodies.Body.{Body}
use Rattle.market_events.specs.declared.bodies.Body.TheVariants as body
use Rattle.market_events.specs.declared.bodies.PricedLine.{PricedLine}
use Rattle.market_events.specs.declared.cells.CellName.{CellName}
use Rattle.market_events.specs.declared.links.Link.{Link}
use Rattle.market_events.specs.Cells.{cells_of, entry_text, text_cmp}
use Rattle.market_events.specs.Copies.{last_some}
use Rattle.market_events.specs.Formed.{checkout_formed, body_formed}
use Rattle.market_events.specs.Sellers.{SellerChange, entries_at, changes_by, invoice_lines, seller_changes, adds}
use Rattle.market_events.specs.declared.roles.Role.{Role}
use Rattle.market_events.specs.Services.{IsRunOf, fits}
use Rattle.market_events.specs.Standing.{Stands, with_step, step_of, is_named, value_of, CanTake, may_change, most_by_ask, most_touched}
use Rattle.market_events.specs.Steps.{Step, taken_bodies}
use Rattle.market_events.specs.WellFormed.{total_of}
use Rattle.market_events.specs.Texts.{spaced, status_text}
use Rattle.market_events.proofs.NamedCells.Named.{value_at}
use Rattle.market_events.proofs.NamedCells.Keyed.{alike, covers_told}
use Rattle.market_events.proofs.Values.Lists.{and_both}
use Rattle.market_events.proofs.Steps.SellerChanges.{seller_changes-push, entries_at-append}
use Rattle.market_events.proofs.Runs.Standing.{is_run_push, follows_step_of}
use Rattle.market_events.proofs.Runs.Stock.{checkout_formed-lines}
use Rattle.market_events.proofs.Steps.Taken.{Parts, fits-parts}
use Rattle.seller_service.specs.declared.cells.Place.{Place}
use Rattle.seller_service.specs.declared.cells.Place.TheVariants as place
use Rattle.seller_service.specs.Cells.{place_name, at_number, change_text, text_at}
use Rattle.seller_service.specs.Holds.{Holds}
use Rattle.seller_service.specs.Tables.{marks, changes_at, lines_at, is_of_seller, brought_by, all_marked, delivered_by, SellerTables}
use Rattle.seller_service.proofs.Changes.{brought-seller}
use Rattle.seller_service.proofs.Entered.{entered, has_entry, number_kept, all_at}
use Rattle.seller_service.proofs.Numbers.{entries_few}
use Rattle.seller_service.proofs.Places.{naming, places_in}
use Rattle.std.proofs.Math.Logic.{∥∥₁_elim}
use Rattle.std.specs.Coded.{le_prop}
use Rattle.std.proofs.lemmas.List.{length-map}
use Rattle.market_amounts.specs.declared.keys.RequestId.{RequestId}
use Rattle.market_events.specs.declared.bodies.Item.{Item}
use Rattle.market_events.specs.declared.replies.OrderStatus.{OrderStatus}
use Rattle.market_events.specs.declared.replies.OrderStatus.TheVariants as status
use Rattle.market_events.specs.declared.requests.Ask.{Ask}
use Rattle.market_events.specs.Requests.{same_key}
use Rattle.market_events.proofs.Runs.Bounds.{lines_formed-most, items_formed-most}
use Rattle.market_events.proofs.Runs.Totals.{invoice_lines-most}
use Rattle.market_events.proofs.NamedCells.Touched.{named_none}
use Rattle.seller_service.proofs.TableCells.{sellers_of, seller_cells-places, all_by, within_by}

-- an element of a longer list
at_append : {A : Type 0} (xs ys : List A) (i : ℕ) → i < length xs → slice_get (xs ++ ys) i ≡ slice_get xs i
at_append [] ys i below = absurd (omega arith)
at_append (x ∷ xs) ys zero below = refl
at_append (x ∷ xs) ys (suc i) below = at_append xs ys i (omega arith)

-- a number that none of the elements that are added has
at_kept : {A : Type 0} (xs ys : List A) (number : ℕ) → (length xs < number → number ≤ length xs + length ys → ⊥) → at_number (xs ++ ys) number ≡ at_number xs number
at_kept xs ys zero out = refl
at_kept xs ys (suc i) out = by (cases_lt (length xs) (suc i))
  where
    by : (length xs < suc i) ⊎ (suc i ≤ length xs) → slice_get (xs ++ ys) i ≡ slice_get xs i
    by (inr within) = at_append xs ys i (omega arith)
    by (inl above) = slice_get_past (xs ++ ys) i (omega (arith, length-append xs ys, beyond)) ∙ sym (slice_get_past xs i (omega arith))
      where
        beyond : length xs + length ys ≤ i
        beyond = at (cases_lt (length xs + length ys) (suc i))
          where
            at : (length xs + length ys < suc i) ⊎ (suc i ≤ length xs + length ys) → length xs + length ys ≤ i
            at (inr few) = absurd (out above few)
            at (inl many) = omega arith

-- the text of a change, with more entries
text_kept : (entries more changes : List SellerChange) → list_all (has_entry entries) changes ≡ true → (i : ℕ)
    → option_map (change_text (entries ++ more)) (slice_get changes i) ≡ option_map (change_text entries) (slice_get changes i)
text_kept entries more changes all i = by (slice_get changes i) refl
  where
    by : (o : Option SellerChange) → slice_get changes i ≡ o → option_map (change_text (entries ++ more)) o ≡ option_map (change_text entries) o
    by None is = refl
    by (Some c) is = ap (λ n. Some (spaced (decimal n ∷ status_text c.status ∷ []))) (number_kept entries more c (all_at (has_entry entries) changes i c all is))

number_text_kept : (entries more changes : List SellerChange) → list_all (has_entry entries) changes ≡ true → (number : ℕ)
    → option_map (change_text (entries ++ more)) (at_number changes number) ≡ option_map (change_text entries) (at_number changes number)
number_text_kept entries more changes all zero = refl
number_text_kept entries more changes all (suc i) = text_kept entries more changes all i

-- the names of what an event adds are among these
pub record AreTold (names : List CellName) (changes : ℕ → List SellerChange) (brought : List SellerChange) : Type 0 where
  pub changed : (seller number : ℕ) → length (changes seller) < number → number ≤ length (changes seller) + count_by (is_of_seller seller) brought
      → is_named names (place_name (place.Change seller number)) ≡ true
  pub entered : (seller number : ℕ) → length (entries_at (changes seller)) < number → number ≤ length (entries_at (changes seller)) + length (entries_at (filter (is_of_seller seller) brought))
      → is_named names (place_name (place.Entry seller number)) ≡ true

-- a place whose name is not among these has the same text after the event
module _ (names : List CellName) (tables : SellerTables) (steps : List Step) (from : Link) (b : Body) (stands : Stands Role.Seller Holds tables steps) (fit : fits Role.Seller steps from b ≡ true)
    (told : AreTold names (changes_at tables.ledgers) (brought_by (lines_at tables.invoices) b)) where
  abbrev pub after : List Step
  after = with_step Role.Seller steps from b

  parts : Parts Role.Seller steps from b
  parts = fits-parts Role.Seller steps from b fit

  next : IsRunOf Role.Seller after
  next = is_run_push Role.Seller steps (step_of Role.Seller steps from b) stands.run (follows_step_of Role.Seller steps from b fit)

  abbrev pub more : ℕ → List SellerChange
  more seller = changes_by seller (taken_bodies steps) b

  more_is : (seller : ℕ) → filter (is_of_seller seller) (brought_by (lines_at tables.invoices) b) ≡ more seller
  more_is seller =
      let same : lines_at tables.invoices ≡ invoice_lines (taken_bodies steps) = λ i id. stands.held.lines id i in
      ap (λ lines. filter (is_of_seller seller) (brought_by lines b)) same ∙ brought-seller steps stands.run b parts.due seller

  pushed : (seller : ℕ) → seller_changes after seller ≡ seller_changes steps seller ++ more seller
  pushed seller = seller_changes-push steps (step_of Role.Seller steps from b) seller

  entries_pushed : (seller : ℕ) → entries_at (seller_changes after seller) ≡ entries_at (seller_changes steps seller) ++ entries_at (more seller)
  entries_pushed seller = ap entries_at (pushed seller) ∙ entries_at-append (seller_changes steps seller) (more seller)

  changes_out : (s n : ℕ) → is_named names (place_name (place.Change s n)) ≡ false → length (seller_changes steps s) < n → n ≤ length (seller_changes steps s) + length (more s) → ⊥
  changes_out s n other above few =
      both_ways (is_named names (place_name (place.Change s n))) other
      (told.changed s n (omega (arith, above, ap length (stands.held.changes s)))
      (omega (arith, few, ap length (stands.held.changes s), length-filter (is_of_seller s) (brought_by (lines_at tables.invoices) b), ap length (more_is s))))

  entries_out : (s n : ℕ) → is_named names (place_name (place.Entry s n)) ≡ false → length (entries_at (seller_changes steps s)) < n
      → n ≤ length (entries_at (seller_changes steps s)) + length (entries_at (more s)) → ⊥
  entries_out s n other above few =
      let alike : length (entries_at (changes_at tables.ledgers s)) ≡ length (entries_at (seller_changes steps s)) = ap (λ cs. length (entries_at cs)) (stands.held.changes s) in
      let brought : length (entries_at (filter (is_of_seller s) (brought_by (lines_at tables.invoices) b))) ≡ length (entries_at (more s)) = ap (λ cs. length (entries_at cs)) (more_is s) in
      both_ways (is_named names (place_name (place.Entry s n))) other (told.entered s n (omega (arith, above, alike)) (omega (arith, few, alike, brought)))

  text_still : (p : Place) → is_named names (place_name p) ≡ false → text_at (seller_changes after) p ≡ text_at (seller_changes steps) p
  text_still (place.Entry s n) other =
      ap (λ es. option_map entry_text (at_number es n)) (entries_pushed s)
      ∙ ap (option_map entry_text) (at_kept (entries_at (seller_changes steps s)) (entries_at (more s)) n (entries_out s n other))
  text_still (place.Change s n) other =
      ap₂ (λ es cs. option_map (change_text es) (at_number cs n)) (entries_pushed s) (pushed s)
      ∙ ap (option_map (change_text (entries_at (seller_changes steps s) ++ entries_at (more s)))) (at_kept (seller_changes steps s) (more s) n (changes_out s n other))
      ∙ number_text_kept (entries_at (seller_changes steps s)) (entries_at (more s)) (seller_changes steps s) (entered s steps stands.run).changes n

  pub covers : (name : CellName) → is_named names name ≡ false → value_of (cells_of Role.Seller after) name ≡ value_of (cells_of Role.Seller steps) name
  covers name other =
      covers_told Role.Seller steps after name
      (ap (last_some (value_at name)) (seller_cells-places after)
      ∙ alike naming (text_at (seller_changes after)) (text_at (seller_changes steps)) (within_by after next) (within_by steps stands.run) (places_in (seller_changes after) (sellers_of after)) (places_in (seller_changes steps) (sellers_of steps)) (all_by after) (all_by steps) name
      (λ p small is. text_still p (sym (ap (is_named names) is) ∙ other))
      ∙ sym (ap (last_some (value_at name)) (seller_cells-places steps)))

-- how many changes there are, by what a step may change
pub record AreFew (b : Body) (changes : ℕ) : Type 0 where
  pub most : changes ≤ 320
  pub touched : changes ≤ most_touched b
  -- and with as many entries, for an invoice
  pub twice : (checkout : RequestId) (customer : ℕ) (lines : List PricedLine) (total : ℕ) → b ≡ body.Invoice checkout customer lines total → changes + changes ≤ most_touched b

-- of each item one line at most is delivered
delivered_few : (invoices : RequestId → List PricedLine) (items : List Item) → length (filter_map (delivered_by invoices) items) ≤ length items
delivered_few invoices [] = omega arith
delivered_few invoices (i ∷ items) = by (delivered_by invoices i) (delivered_few invoices items)
  where
    by : (o : Option SellerChange) → length (filter_map (delivered_by invoices) items) ≤ length items → length (cons_option o (filter_map (delivered_by invoices) items)) ≤ length (i ∷ items)
    by None few = omega (arith, few)
    by (Some c) few = omega (arith, few)

-- lines that get a status are as many
marked-length : (id : RequestId) (st : OrderStatus) (lines : List PricedLine) → length (all_marked id st lines) ≡ length lines
marked-length id st lines = length-map lines (marks id st)

-- a body may change a cell
asked_some : (a : Ask) → 0 ≤ most_by_ask a
asked_some a = omega arith

brought_few : (steps : List Step) → IsRunOf Role.Seller steps → (b : Body) → body_formed b ≡ true → AreFew b (length (brought_by (invoice_lines (taken_bodies steps)) b))
brought_few steps run (body.Invoice checkout customer lines total) formed =
    let few : length lines ≤ 32 = lines_formed-most lines (checkout_formed-lines checkout customer lines (and_both (checkout_formed checkout customer lines) (total == total_of lines) formed).0) in
    record {
      most = omega (arith, few, marked-length checkout status.Invoiced lines);
      touched = omega (arith, few, marked-length checkout status.Invoiced lines);
      twice = λ c k ls t is. omega (arith, few, marked-length checkout status.Invoiced lines);
    }
brought_few steps run (body.Confirmed checkout customer lines total) formed =
    record {
      most = omega (arith, invoice_lines-most steps run checkout, marked-length checkout status.Paid (invoice_lines (taken_bodies steps) checkout));
      touched = omega (arith, invoice_lines-most steps run checkout, marked-length checkout status.Paid (invoice_lines (taken_bodies steps) checkout));
      twice = λ c k ls t is. cc;
    }
brought_few steps run (body.Failed checkout customer reason) formed =
    record {
      most = omega (arith, invoice_lines-most steps run checkout, marked-length checkout status.Cancelled (invoice_lines (taken_bodies steps) checkout));
      touched = omega (arith, invoice_lines-most steps run checkout, marked-length checkout status.Cancelled (invoice_lines (taken_bodies steps) checkout));
      twice = λ c k ls t is. cc;
    }
brought_few steps run (body.Shipped checkout) formed =
    record {
      most = omega (arith, invoice_lines-most steps run checkout, marked-length checkout status.Shipped (invoice_lines (taken_bodies steps) checkout));
      touched = omega (arith, invoice_lines-most steps run checkout, marked-length checkout status.Shipped (invoice_lines (taken_bodies steps) checkout));
      twice = λ c k ls t is. cc;
    }
brought_few steps run (body.Delivered items) formed =
    record {
      most = omega (arith, delivered_few (invoice_lines (taken_bodies steps)) items, items_formed-most items formed);
      touched = omega (arith, delivered_few (invoice_lines (taken_bodies steps)) items, items_formed-most items formed);
      twice = λ c k ls t is. cc;
    }
brought_few steps run (body.Asked request) formed = record { most = omega arith; touched = asked_some request.ask; twice = λ c k ls t is. cc }
brought_few steps run (body.Changed key version change) formed = record { most = omega arith; touched = omega arith; twice = λ c k ls t is. cc }
brought_few steps run (body.Reserve checkout customer lines) formed = record { most = omega arith; touched = omega arith; twice = λ c k ls t is. cc }
brought_few steps run (body.ReserveFailed checkout key reason) formed = record { most = omega arith; touched = omega arith; twice = λ c k ls t is. cc }
brought_few steps run (body.StockConfirmed checkout customer lines) formed = record { most = omega arith; touched = omega arith; twice = λ c k ls t is. cc }
brought_few steps run (body.Ended checkout ending) formed = record { most = omega arith; touched = omega arith; twice = λ c k ls t is. cc }
brought_few steps run (body.Told id reply) formed = record { most = omega arith; touched = omega arith; twice = λ c k ls t is. cc }

-- so it is of what can be taken
module _ (tables : SellerTables) (from : Link) (b : Body) (can : CanTake Role.Seller Holds tables from b) where
  few_by : (it : (steps : List Step) × Stands Role.Seller Holds tables steps × (fits Role.Seller steps from b ≡ true)) → AreFew b (length (brought_by (lines_at tables.invoices) b))
  few_by it =
      let same : invoice_lines (taken_bodies it.0) ≡ lines_at tables.invoices = λ i id. sym (it.1.held.lines id) i in
      subst (λ (lines : RequestId → List PricedLine). AreFew b (length (brought_by lines b))) same (brought_few it.0 it.1.run b (fits-parts Role.Seller it.0 from b it.2).formed)

  pub few_brought : AreFew b (length (brought_by (lines_at tables.invoices) b))
  few_brought = record {
    most = ∥∥₁_elim can le_prop (λ it. (few_by it).most);
    touched = ∥∥₁_elim can le_prop (λ it. (few_by it).touched);
    twice = λ checkout customer lines total is. ∥∥₁_elim can le_prop (λ it. (few_by it).twice checkout customer lines total is);
  }

-- lines that get a status that adds no entry are no entries
marked_no_entries : (keep : SellerChange → Bool) (id : RequestId) (st : OrderStatus) → adds st ≡ false → (lines : List PricedLine) → entries_at (filter keep (all_marked id st lines)) ≡ []
marked_no_entries keep id st none [] = refl
marked_no_entries keep id st none (l ∷ lines) = by (keep (marks id st l)) (marked_no_entries keep id st none lines)
  where
    by : (b : Bool) → entries_at (filter keep (all_marked id st lines)) ≡ [] → entries_at (cond b (marks id st l ∷ filter keep (all_marked id st lines)) (filter keep (all_marked id st lines))) ≡ []
    by true rest = ap (λ b. cond b (marks id st l ∷ entries_at (filter keep (all_marked id st lines))) (entries_at (filter keep (all_marked id st lines)))) none ∙ rest
    by false rest = rest

delivered_no_entries : (keep : SellerChange → Bool) (invoices : RequestId → List PricedLine) (items : List Item) → entries_at (filter keep (filter_map (delivered_by invoices) items)) ≡ []
delivered_no_entries keep invoices [] = refl
delivered_no_entries keep invoices (i ∷ items) = by (find (λ (line : PricedLine). same_key line.key i.key) (invoices i.checkout)) (delivered_no_entries keep invoices items)
  where
    by : (o : Option PricedLine) → entries_at (filter keep (filter_map (delivered_by invoices) items)) ≡ []
        → entries_at (filter keep (cons_option (option_map (marks i.checkout status.Delivered) o) (filter_map (delivered_by invoices) items))) ≡ []
    by None rest = rest
    by (Some line) rest = at (keep (marks i.checkout status.Delivered line))
      where
        at : (b : Bool) → entries_at (cond b (marks i.checkout status.Delivered line ∷ filter keep (filter_map (delivered_by invoices) items)) (filter keep (filter_map (delivered_by invoices) items))) ≡ []
        at true = rest
        at false = rest

-- an event that is no invoice adds no entry
pub no_entries : (keep : SellerChange → Bool) (invoices : RequestId → List PricedLine) (b : Body) → ((checkout : RequestId) (customer : ℕ) (lines : List PricedLine) (total : ℕ) → b ≡ body.Invoice checkout customer lines total → ⊥)
    → entries_at (filter keep (brought_by invoices b)) ≡ []
no_entries keep invoices (body.Invoice checkout customer lines total) other = absurd (other checkout customer lines total refl)
no_entries keep invoices (body.Confirmed checkout customer lines total) other = marked_no_entries keep checkout status.Paid refl (invoices checkout)
no_entries keep invoices (body.Failed checkout customer reason) other = marked_no_entries keep checkout status.Cancelled refl (invoices checkout)
no_entries keep invoices (body.Shipped checkout) other = marked_no_entries keep checkout status.Shipped refl (invoices checkout)
no_entries keep invoices (body.Delivered items) other = delivered_no_entries keep invoices items
no_entries keep invoices b other = refl

-- the names of changes alone are enough, where there is no entry
pub told_changes : (names : List CellName) (changes : ℕ → List SellerChange) (brought : List SellerChange)
    → ((seller number : ℕ) → length (changes seller) < number → number ≤ length (changes seller) + count_by (is_of_seller seller) brought → is_named names (place_name (place.Change seller number)) ≡ true)
    → ((seller : ℕ) → entries_at (filter (is_of_seller seller) brought) ≡ []) → AreTold names changes brought
told_changes names changes brought changed none = record {
  changed = changed;
  entered = λ seller number above few. absurd (omega (arith, above, few, ap length (none seller)));
}

-- and with those of entries, where they may be entries
pub told_both : (names : List CellName) (changes : ℕ → List SellerChange) (brought : List SellerChange)
    → ((seller number : ℕ) → length (changes seller) < number → number ≤ length (changes seller) + count_by (is_of_seller seller) brought → is_named names (place_name (place.Change seller number)) ≡ true)
    → ((seller number : ℕ) → length (entries_at (changes seller)) < number → number ≤ length (entries_at (changes seller)) + count_by (is_of_seller seller) brought → is_named names (place_name (place.Entry seller number)) ≡ true)
    → AreTold names changes brought
told_both names changes brought changed entered = record {
  changed = changed;
  entered = λ seller number above few.
      entered seller number above (omega (arith, few, entries_few (filter (is_of_seller seller) brought), length-filter (is_of_seller seller) brought));
}

-- the name of a cell of an entry is of a table that an invoice may change
pub entry_touched : (b : Body) (checkout : RequestId) (customer : ℕ) (lines : List PricedLine) (total : ℕ) → b ≡ body.Invoice checkout customer lines total
    → (name : CellName) → name.table ≡ codes "entry" → may_change Role.Seller b name ≡ true
entry_touched b checkout customer lines total is name table =
    ap (λ x. may_change Role.Seller x name) is ∙ ap (λ t. list_any (λ (s : List ℕ). is_eq (text_cmp s t)) (codes "entry" ∷ codes "change" ∷ [])) table

-- and that of a change is of one that a body may change that brings any
pub change_touched : (invoices : RequestId → List PricedLine) (b : Body) (names : List CellName) → length names ≤ length (brought_by invoices b)
    → (name : CellName) → is_named names name ≡ true → name.table ≡ codes "change" → may_change Role.Seller b name ≡ true
change_touched invoices (body.Invoice checkout customer lines total) names few name here table =
    ap (λ t. list_any (λ (s : List ℕ). is_eq (text_cmp s t)) (codes "entry" ∷ codes "change" ∷ [])) table
change_touched invoices (body.Confirmed checkout customer lines total) names few name here table = ap (λ t. list_any (λ (s : List ℕ). is_eq (text_cmp s t)) (codes "change" ∷ [])) table
change_touched invoices (body.Failed checkout customer reason) names few name here table = ap (λ t. list_any (λ (s : List ℕ). is_eq (text_cmp s t)) (codes "change" ∷ [])) table
change_touched invoices (body.Shipped checkout) names few name here table = ap (λ t. list_any (λ (s : List ℕ). is_eq (text_cmp s t)) (codes "change" ∷ [])) table
change_touched invoices (body.Delivered items) names few name here table = ap (λ t. list_any (λ (s : List ℕ). is_eq (text_cmp s t)) (codes "change" ∷ [])) table
change_touched invoices other [] few name here table = named_none name here
change_touched invoices other (n ∷ names) few name here table = absurd (omega arith)
