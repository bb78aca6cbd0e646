-- The names of the cells that a payment and a delivery change are few, and they are all.
use Rattle.std.proofs.Common.{◌≡◌, ℕ, ◌+◌, ◌-◌, ◌<◌, ◌≤◌, ◌^◌, ◌==◌, ◌||◌, Bool, true, false, cond, List, [], ◌∷◌, ◌++◌, length, map, take, slice_get, Option, Some, None, option_map, zero, suc, codes, if◌then◌else◌, add-one, refl, ap, sym, ◌∙◌, subst, length-append, arith, ⊎_elim, nat_lt, filter}
use Rattle.std.specs.List.{list_any, enumerate_from, range_with_len, IsDistinct, AllByRecursion, list_all}
use Rattle.std.specs.Map.{keys_of}
use Rattle.std.proofs.lemmas.Bool.{both_ways, cases_lt, ltb-true}
use Rattle.std.proofs.lemmas.Bool.Decides.{nat_tests}
use Rattle.std.proofs.lemmas.List.{map-append, length-map}
use Rattle.std.proofs.lemmas.List.FromFn.{length-range_with_len}
use Rattle.market_events.specs.declared.bodies.Item.{Item}
use Rattle.market_events.specs.declared.cells.CellName.{CellName}
use Rattle.market_events.specs.declared.links.Link.{Link}
use Rattle.market_events.specs.declared.bodies.Body.{Body}
use Rattle.market_events.specs.Cells.{cells_of, text_cmp}
use Rattle.market_events.specs.Copies.{last_some}
use Rattle.market_events.specs.declared.roles.Role.{Role}
use Rattle.market_events.specs.Services.{IsRunOf, fits}
use Rattle.market_events.specs.Shipments.{packages, most_sellers, packages_in, shipment_rows, shipment_sums}
use Rattle.market_events.specs.Standing.{with_step, same_name, is_named, value_of, may_change, tables_asked, step_of}
use Rattle.market_events.specs.Steps.{Step}
use Rattle.market_events.specs.WellFormed.{IsId, most_lines, total_of}
use Rattle.market_events.proofs.NamedCells.Named.{value_at}
use Rattle.market_events.proofs.NamedCells.Keyed.{is_among, alike, named_list, names_distinct, covers_told}
use Rattle.market_events.proofs.Steps.Taken.{run-few, fits-parts}
use Rattle.shipment_service.specs.declared.package.Package.{Package}
use Rattle.shipment_service.specs.declared.service.Shipments.{Shipments}
use Rattle.shipment_service.specs.Cells.{name_by, text_by, texts_in, names_from}
use Rattle.shipment_service.specs.Holds.{packages_by, waiting_by, Holds}
use Rattle.market_events.specs.Entries.{entry_at}
use Rattle.shipment_service.specs.Tables.{closed_of, close_if, open_of, put_at, groups_of, has_number, AreBelow, IsRising, item_packed}
use Rattle.shipment_service.proofs.Runs.{packages-few, waiting-rise, waiting-lined}
use Rattle.std.specs.Ordering.{nat_cmp, eq_by_cmp, is_eq}
use Rattle.std.proofs.lemmas.Map.Keys.{IsDistinct-from_sorted}
use Rattle.market_amounts.specs.declared.keys.RequestId.{RequestId}
use Rattle.market_events.specs.declared.bodies.Body.TheVariants as body
use Rattle.market_events.specs.declared.bodies.PricedLine.{PricedLine}
use Rattle.market_events.specs.declared.requests.Ask.TheVariants as ask
use Rattle.market_events.specs.declared.requests.Request.{Request}
use Rattle.market_events.specs.Formed.{body_formed, checkout_formed}
use Rattle.market_events.proofs.Runs.Bounds.{lines_formed-most}
use Rattle.market_events.proofs.Values.Lists.{and_both}
use Rattle.market_events.proofs.Runs.Standing.{is_run_push, follows_step_of}
use Rattle.market_events.proofs.Runs.Stock.{checkout_formed-lines}
use Rattle.shipment_service.specs.Deliveries.{goes, served_of, taken_of}
use Rattle.shipment_service.proofs.Steps.{turns-are, waiting-below, packages-after-payment, packages-after-delivery, packages-after-quiet}
use Rattle.shipment_service.proofs.Numbers.{rising-filter}
use Rattle.shipment_service.proofs.Serving.{picked-taken}
use Rattle.std.proofs.lemmas.Option.{slice_get_past}
use Rattle.shipment_service.proofs.TableCells.{naming, table-cells, range-among, texts-small, texts-all, cells-same, run-small}

-- names that cover what changes
pub covers : (steps after : List Step) (names : List CellName) → IsRunOf Role.Shipment steps → IsRunOf Role.Shipment after
    → ((k : ℕ) → is_named names (name_by k) ≡ false → texts_in (packages_by after) k ≡ texts_in (packages_by steps) k)
    → (name : CellName) → is_named names name ≡ false → value_of (cells_of Role.Shipment after) name ≡ value_of (cells_of Role.Shipment steps) name
covers steps after names run next agree name other =
    covers_told Role.Shipment steps after name
    (sym (ap (last_some (value_at name)) (cells-same (packages_by after) (run-small after next) after refl))
    ∙ ap (last_some (value_at name)) (table-cells (packages_by after))
    ∙ alike naming (texts_in (packages_by after)) (texts_in (packages_by steps)) (texts-small (packages_by after) (run-small after next)) (texts-small (packages_by steps) (run-small steps run))
    (range_with_len 1 (length (packages_by after))) (range_with_len 1 (length (packages_by steps))) (texts-all (packages_by after) (run-small after next)) (texts-all (packages_by steps) (run-small steps run))
    name (λ k small is. agree k (sym (ap (is_named names) is) ∙ other))
    ∙ sym (ap (last_some (value_at name)) (table-cells (packages_by steps)))
    ∙ ap (last_some (value_at name)) (cells-same (packages_by steps) (run-small steps run) steps refl))

get-front : (ps qs : List Package) (i : ℕ) → i < length ps → slice_get (ps ++ qs) i ≡ slice_get ps i
get-front [] qs i low = absurd (omega arith)
get-front (p ∷ ps) qs zero low = refl
get-front (p ∷ ps) qs (suc i) low = get-front ps qs i (omega arith)

-- packages that are put last
pub texts-more : (ps qs : List Package) (k : ℕ) → is_named (names_from (length ps + 1) (length qs)) (name_by k) ≡ false → texts_in (ps ++ qs) k ≡ texts_in ps k
texts-more ps qs k other = at (k == 0) refl
  where
    outside : is_among (λ a b. a == b) (range_with_len (length ps + 1) (length qs)) k ≡ false
    outside = named_list naming (range_with_len (length ps + 1) (length qs)) k other

    within : length ps + 1 ≤ k → k < length ps + 1 + length qs → ⊥
    within low high = both_ways _ outside (range-among (length ps + 1) (length qs) k low high)

    at : (b : Bool) → (k == 0) ≡ b → cond b None (option_map text_by (slice_get (ps ++ qs) (k - 1))) ≡ cond b None (option_map text_by (slice_get ps (k - 1)))
    at true is = refl
    at false is = ap (option_map text_by) (⊎_elim (λ low. get-front ps qs (k - 1) low) far (cases_lt (k - 1) (length ps)))
      where
        above : 1 ≤ k
        above = grind (arith, nat_tests)

        far : length ps ≤ k - 1 → slice_get (ps ++ qs) (k - 1) ≡ slice_get ps (k - 1)
        far past =
            ⊎_elim (λ low. absurd (within (omega (arith, past, above)) low))
            (λ high. slice_get_past (ps ++ qs) (k - 1) (omega (arith, high, above, length-append ps qs)) ∙ sym (slice_get_past ps (k - 1) past))
            (cases_lt k (length ps + 1 + length qs))

-- a number more
pub range-more : (a n : ℕ) → range_with_len a (n + 1) ≡ range_with_len a n ++ (a + n) ∷ []
range-more a n = ap (range_with_len a) (add-one n) ∙ by a n
  where
    step : (a n : ℕ) → a + 1 + n ≡ a + suc n
    step a n = omega arith

    start : (a : ℕ) → a ≡ a + 0
    start a = omega arith

    by : (a n : ℕ) → range_with_len a (suc n) ≡ range_with_len a n ++ (a + n) ∷ []
    by a zero = ap (λ k. k ∷ []) (start a)
    by a (suc n) = ap (λ ks. a ∷ ks) (by (a + 1) n ∙ ap (λ k. range_with_len (a + 1) n ++ k ∷ []) (step a n))

pub names-more : (number k : ℕ) → names_from number (k + 1) ≡ names_from number k ++ name_by (number + k) ∷ []
names-more number k = ap (map name_by) (range-more number k) ∙ map-append name_by (range_with_len number k) ((number + k) ∷ [])

-- packages that are closed
close-get : (test : ℕ → Bool) (from i : ℕ) (ps : List Package) → test (from + i) ≡ false
    → slice_get (map (λ (p : ℕ × Package). if test p.0 then closed_of p.1 else p.1) (enumerate_from from ps)) i ≡ slice_get ps i
close-get test from i [] stays = refl
close-get test from zero (p ∷ ps) stays =
    let start : from ≡ from + 0 = omega arith in
    let here : test from ≡ false = ap test start ∙ stays in
    ap (λ b. let o : Option Package = Some (cond b (closed_of p) p) in o) here
close-get test from (suc i) (p ∷ ps) stays =
    let next : from + 1 + i ≡ from + suc i = omega arith in
    close-get test (from + 1) i ps (ap test next ∙ stays)

pub texts-closed : (test : ℕ → Bool) (ps : List Package) (k : ℕ) → test k ≡ false → texts_in (close_if test ps) k ≡ texts_in ps k
texts-closed test ps k stays = by (k == 0) refl
  where
    number : (k == 0) ≡ false → 1 + (k - 1) ≡ k
    number h = grind (arith, nat_tests)

    by : (b : Bool) → (k == 0) ≡ b → cond b None (option_map text_by (slice_get (close_if test ps) (k - 1))) ≡ cond b None (option_map text_by (slice_get ps (k - 1)))
    by true is = refl
    by false is = ap (option_map text_by) (close-get test 1 (k - 1) ps (ap test (number is) ∙ stays))

-- names of numbers that differ
pub range-distinct : (from n : ℕ) → IsDistinct (λ a b. a == b) (range_with_len from n)
unfolding IsDistinct
range-distinct from zero = tt
range-distinct from (suc n) = (apart from (from + 1) n (omega arith), range-distinct (from + 1) n)
  where
    differ : (a b : ℕ) → a < b → (a == b) ≡ false
    differ a b low = grind (arith, nat_tests)

    apart : (a from n : ℕ) → a < from → AllByRecursion (λ k. (a == k) ≡ false) (range_with_len from n)
    apart a from zero low = tt
    apart a from (suc n) low = (differ a from low, apart a (from + 1) n (omega arith))

range-ids : (from n : ℕ) → from + n ≤ 2 ^ 32 → AllByRecursion IsId (range_with_len from n)
range-ids from zero low = tt
range-ids from (suc n) low = (omega arith, range-ids (from + 1) n (omega arith))

pub range-differ : (from n : ℕ) → from + n ≤ 2 ^ 32 → IsDistinct same_name (names_from from n)
range-differ from n low = names_distinct naming (range_with_len from n) (range-distinct from n) (range-ids from n low)

-- no names, and how many names a range has
pub none-differ : IsDistinct same_name []
unfolding IsDistinct
none-differ = tt

pub names-length : (from n : ℕ) → length (names_from from n) ≡ n
names-length from n = length-map (range_with_len from n) name_by ∙ length-range_with_len from n

-- a number that is not among these
among-number : (es : List (ℕ × Item)) (k : ℕ) → is_among (λ a b. a == b) (keys_of es) k ≡ has_number es k
among-number [] k = refl
among-number (e ∷ es) k = let turned : (k == e.0) ≡ (e.0 == k) = grind (arith, nat_tests) in λ i. turned i || among-number es k i

-- what a filter leaves is below too
below-filter : (n : ℕ) (test : ℕ × Item → Bool) (es : List (ℕ × Item)) → AreBelow n es → AreBelow n (filter test es)
below-filter n test [] below = below
below-filter n test (e ∷ es) below =
    let both = and_both (nat_lt e.0 n) (list_all (λ (p : ℕ × Item). nat_lt p.0 n) es) below in
    by (test e) both.0 (below-filter n test es both.1)
  where
    by : (b : Bool) → nat_lt e.0 n ≡ true → AreBelow n (filter test es) → AreBelow n (cond b (e ∷ filter test es) (filter test es))
    by true low rest = rw low rest
    by false low rest = rest

below-ids : (n : ℕ) → n ≤ 2 ^ 32 → (es : List (ℕ × Item)) → AreBelow n es → AllByRecursion IsId (keys_of es)
below-ids n small [] below = tt
below-ids n small (e ∷ es) below =
    let both = and_both (nat_lt e.0 n) (list_all (λ (p : ℕ × Item). nat_lt p.0 n) es) below in
    (omega (arith, small, ltb-true e.0 n both.0), below-ids n small es both.1)

-- the numbers of a delivery
pub taken-named : (steps : List Step) (table : List Package) (names : List CellName) → names ≡ map name_by (keys_of (taken_of (waiting_by steps)))
    → (k : ℕ) → is_named names (name_by k) ≡ false → texts_in (close_if (has_number (taken_of (waiting_by steps))) table) k ≡ texts_in table k
taken-named steps table names are k other =
    texts-closed (has_number (taken_of (waiting_by steps))) table k
    (sym (among-number (taken_of (waiting_by steps)) k)
    ∙ named_list naming (keys_of (taken_of (waiting_by steps))) k (sym (ap (λ ns. is_named ns (name_by k)) are) ∙ other))

pub taken-differ : (steps : List Step) → IsRunOf Role.Shipment steps → IsDistinct same_name (map name_by (keys_of (taken_of (waiting_by steps))))
taken-differ steps run =
    names_distinct naming (keys_of (taken_of (waiting_by steps)))
    (subst (λ (test : ℕ → ℕ → Bool). IsDistinct test (keys_of (taken_of (waiting_by steps)))) (λ i a b. alike a b i)
    (IsDistinct-from_sorted nat_cmp (keys_of (taken_of (waiting_by steps))) (rising-filter (goes (served_of (waiting_by steps))) (waiting_by steps) (waiting-rise steps))))
    (below-ids (length (packages steps) + 1) (omega (arith, packages-few steps run, run-few Role.Shipment steps run)) (taken_of (waiting_by steps))
    (below-filter (length (packages steps) + 1) (goes (served_of (waiting_by steps))) (waiting_by steps) (waiting-below steps (length (packages steps) + 1) (omega arith))))
  where
    alike : (a b : ℕ) → eq_by_cmp nat_cmp a b ≡ (a == b)
    alike a b = grind (arith, nat_tests)

-- what the names of a step cover
module _ (shipments : Shipments) (steps : List Step) (run : IsRunOf Role.Shipment steps) (held : Holds shipments steps) (from : Link) (b : Body) (fit : fits Role.Shipment steps from b ≡ true) where
  next : IsRunOf Role.Shipment (with_step Role.Shipment steps from b)
  next = is_run_push Role.Shipment steps (step_of Role.Shipment steps from b) run (follows_step_of Role.Shipment steps from b fit)

  pub payment-covers : (checkout : RequestId) (customer : ℕ) (lines : List PricedLine) (total : ℕ) → b ≡ body.Confirmed checkout customer lines total → (names : List CellName) → names ≡ names_from (length shipments.packages + 1) (length lines)
      → (name : CellName) → is_named names name ≡ false → value_of (cells_of Role.Shipment (with_step Role.Shipment steps from b)) name ≡ value_of (cells_of Role.Shipment steps) name
  payment-covers checkout customer lines total is names are =
      covers steps (with_step Role.Shipment steps from b) names run next (λ k other.
      ap (λ ps. texts_in ps k) (packages-after-payment shipments steps run held from b fit checkout customer lines total is)
      ∙ texts-more shipments.packages (map open_of (map (item_packed checkout customer) lines)) k
      (ap (λ n. is_named (names_from (length shipments.packages + 1) n) (name_by k)) (length-map (map (item_packed checkout customer) lines) open_of ∙ length-map lines (item_packed checkout customer))
      ∙ sym (ap (λ ns. is_named ns (name_by k)) are) ∙ other)
      ∙ ap (λ ps. texts_in ps k) held.packages)

  pub delivery-covers : (request : Request) → b ≡ body.Asked request → request.ask ≡ ask.Deliver → (names : List CellName) → names ≡ map name_by (keys_of (taken_of (waiting_by steps)))
      → (name : CellName) → is_named names name ≡ false → value_of (cells_of Role.Shipment (with_step Role.Shipment steps from b)) name ≡ value_of (cells_of Role.Shipment steps) name
  delivery-covers request is delivers names are =
      covers steps (with_step Role.Shipment steps from b) names run next (λ k other.
      ap (λ ps. texts_in ps k) (packages-after-delivery shipments steps run held from b fit request is delivers)
      ∙ taken-named steps shipments.packages names are k other ∙ ap (λ ps. texts_in ps k) held.packages)

  pub quiet-covers : packages_in b ≡ [] → shipment_rows (shipment_sums steps) b ≡ [] → (names : List CellName)
      → (name : CellName) → is_named names name ≡ false → value_of (cells_of Role.Shipment (with_step Role.Shipment steps from b)) name ≡ value_of (cells_of Role.Shipment steps) name
  quiet-covers none quiet names =
      covers steps (with_step Role.Shipment steps from b) names run next (λ k other.
      ap (λ ps. texts_in ps k) (packages-after-quiet shipments steps run held from b fit none quiet ∙ held.packages))

-- a payment has few lines
pub lines-few : (steps : List Step) (from : Link) (b : Body) → fits Role.Shipment steps from b ≡ true
    → (checkout : RequestId) (customer : ℕ) (lines : List PricedLine) (total : ℕ) → b ≡ body.Confirmed checkout customer lines total → length lines ≤ most_lines
lines-few steps from b fit checkout customer lines total is =
    lines_formed-most lines
    (checkout_formed-lines checkout customer lines (and_both (checkout_formed checkout customer lines) (total == total_of lines) (sym (ap body_formed is) ∙ (fits-parts Role.Shipment steps from b fit).formed)).0)

-- what was picked is what the delivery takes
pub picked-by : (shipments : Shipments) (steps : List Step) → IsRunOf Role.Shipment steps → Holds shipments steps
    → IsRising shipments.waiting.oldest → (turns : List (ℕ × ℕ)) → turns ≡ take most_sellers shipments.waiting.oldest
    → (picked : List (ℕ × Item)) → IsRising picked → ((n : ℕ) → entry_at picked n ≡ put_at n None (groups_of shipments.waiting.queues turns)) → picked ≡ taken_of (waiting_by steps)
picked-by shipments steps run held rising turns first picked rises each =
    picked-taken (waiting_by steps) (waiting-rise steps) shipments.waiting.queues shipments.waiting.oldest held.waiting (waiting-lined steps run).grouped turns
    (turns-are shipments.waiting.queues shipments.waiting.oldest (waiting_by steps) held.waiting (waiting-rise steps) rising turns first) picked rises each

-- a request to deliver may change packages
pub delivering-touched : (b : Body) (request : Request) → b ≡ body.Asked request → request.ask ≡ ask.Deliver → (n : ℕ) → may_change Role.Shipment b (name_by n) ≡ true
delivering-touched b request is what n =
    ap (λ x. may_change Role.Shipment x (name_by n)) is ∙ ap (λ a. list_any (λ (t : List ℕ). is_eq (text_cmp t (codes "package"))) (tables_asked Role.Shipment a)) what
