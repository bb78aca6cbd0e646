-- What shipments deliver is well formed: a checkout has few packages, and a delivery serves few sellers.
use Rattle.std.proofs.Common.{◌≡◌, ℕ, ◌+◌, ◌*◌, ◌≤◌, Bool, true, false, cond, ◌&&◌, ◌||◌, ◌==◌, List, [], ◌∷◌, ◌++◌, length, filter, nat_le, count_by, refl, ap, sym, ◌∙◌, arith, le-leb, take, zero, suc}
use Rattle.std.specs.List.{list_any, list_all}
use Rattle.std.proofs.lemmas.List.{length-map}
use Rattle.std.proofs.lemmas.List.Folds.{list_all-append}
use Rattle.std.proofs.lemmas.List.Sums.{sum_by-append, sum_by-cons, sum_by-le-sum_by, length-filter, count_by-le-length}
use Rattle.market_amounts.specs.declared.keys.RequestId.{RequestId}
use Rattle.market_events.specs.declared.bodies.Body.{Body}
use Rattle.market_events.specs.declared.bodies.Body.TheVariants as body
use Rattle.market_events.specs.declared.bodies.Item.{Item}
use Rattle.market_events.specs.declared.bodies.PricedLine.{PricedLine}
use Rattle.market_events.specs.Formed.{id_formed, cents_formed, quantity_formed, key_formed, request_id_formed, line_formed, lines_formed, item_formed, items_formed, checkout_formed, body_formed}
use Rattle.market_events.specs.Orders.{is_taken}
use Rattle.market_events.specs.Requests.{same_id}
use Rattle.market_events.specs.Services.{Role, Follows, IsRunOf, shipment_fits}
use Rattle.market_events.specs.Shipments.{packages_in, packages, is_open, open_packages, firsts_after, oldest_of, delivered_of, most_sellers}
use Rattle.market_events.specs.Steps.{Step}
use Rattle.market_events.specs.Stocks.{confirms}
use Rattle.market_events.specs.WellFormed.{keys_rise, most_lines, most_items, total_of}
use Rattle.market_events.proofs.Runs.Bounds.{lines_formed-most}
use Rattle.market_events.proofs.Values.Lists.{and_both, and_from, not_true, count-none, sum_by_plus}
use Rattle.market_events.proofs.Runs.Orders.{is_item_for}
use Rattle.market_events.proofs.Values.Same.{same_id-true, same_id-swap}
use Rattle.market_events.proofs.Steps.Shipments.{packages-push, goes_with}
use Rattle.market_events.proofs.Runs.Shipments.{ShipmentRun, ShipmentRun-keeps}
use Rattle.market_events.proofs.Steps.Taken.{fits-parts, run_has}
use Rattle.market_events.proofs.Runs.Stock.{checkout_formed-lines}

-- of the elements that a filter keeps, no more pass
count-filter-le : {A : Type 0} (test keep : A → Bool) (xs : List A) → count_by test (filter keep xs) ≤ count_by test xs
count-filter-le test keep [] = omega arith
count-filter-le test keep (x ∷ xs) = rw (sum_by-cons (λ x. cond (test x) 1 0) x xs) (either (keep x) (count-filter-le test keep xs))
  where
    either : (b : Bool) → count_by test (filter keep xs) ≤ count_by test xs → count_by test (cond b (x ∷ filter keep xs) (filter keep xs)) ≤ cond (test x) 1 0 + count_by test xs
    either true rest = rw (sum_by-cons (λ x. cond (test x) 1 0) x (filter keep xs)) (omega (arith, rest))
    either false rest = omega (arith, rest)

-- of the elements that a filter keeps, all pass where all do
all-filter : {A : Type 0} (test keep : A → Bool) (xs : List A) → list_all test xs ≡ true → list_all test (filter keep xs) ≡ true
all-filter test keep [] all = refl
all-filter test keep (x ∷ xs) all =
    let both = and_both (test x) (list_all test xs) all in
    either (keep x) both.0 (all-filter test keep xs both.1)
  where
    either : (b : Bool) → test x ≡ true → list_all test (filter keep xs) ≡ true → list_all test (cond b (x ∷ filter keep xs) (filter keep xs)) ≡ true
    either true passes rest = rw passes rest
    either false passes rest = rest

-- those that go with one of these are no more than so many for each, where each checkout has no more
count-goes_with : (most : ℕ) (xs : List Item) → ((id : RequestId) → count_by (is_item_for id) xs ≤ most) → (os : List Item) → count_by (goes_with os) xs ≤ most * length os
count-goes_with most xs few [] = zero_count xs
  where
    zero_count : (xs : List Item) → count_by (λ (p : Item). false) xs ≤ most * 0
    zero_count [] = omega arith
    zero_count (x ∷ xs) = rw (sum_by-cons (λ (p : Item). 0) x xs) (omega (arith, zero_count xs))
count-goes_with most xs few (o ∷ os) =
    omega (
      arith,
      sum_by-le-sum_by (λ (p : Item). cond (goes_with (o ∷ os) p) 1 0) (λ (p : Item). cond (is_item_for o.checkout p) 1 0 + cond (goes_with os p) 1 0) xs each,
      sum_by_plus (λ (p : Item). cond (is_item_for o.checkout p) 1 0) (λ (p : Item). cond (goes_with os p) 1 0) xs,
      few o.checkout,
      count-goes_with most xs few os,
    )
  where
    either : (a b c : Bool) → cond ((a && b) || c) 1 0 ≤ cond b 1 0 + cond c 1 0
    either true true c = omega arith
    either true false true = omega arith
    either true false false = omega arith
    either false b true = omega arith
    either false b false = omega arith

    each : (p : Item) → cond (goes_with (o ∷ os) p) 1 0 ≤ cond (is_item_for o.checkout p) 1 0 + cond (goes_with os p) 1 0
    each p = rw (same_id-swap o.checkout p.checkout) (either (o.key.seller == p.key.seller) (same_id p.checkout o.checkout) (goes_with os p))

-- what holds of packages after a run: a checkout has few, and each is well formed
record PackageRun (steps : List Step) : Type 0 where
  run : ShipmentRun steps
  few : (id : RequestId) → count_by (is_item_for id) (packages steps) ≤ most_lines
  formed : list_all item_formed (packages steps) ≡ true

-- the packages of a well-formed payment are well formed
packages_formed : (checkout : RequestId) (customer : ℕ) (total : ℕ) → request_id_formed checkout ≡ true → id_formed customer ≡ true → (lines : List PricedLine) → list_all line_formed lines ≡ true → list_all item_formed (packages_in (body.Confirmed checkout customer lines total)) ≡ true
packages_formed checkout customer total id who [] all = refl
packages_formed checkout customer total id who (line ∷ lines) all =
    let both = and_both (line_formed line) (list_all line_formed lines) all in
    let a = and_both (key_formed line.key && quantity_formed line.quantity && cents_formed line.price && cents_formed line.freight) (cents_formed line.voucher) both.0 in
    let b = and_both (key_formed line.key && quantity_formed line.quantity && cents_formed line.price) (cents_formed line.freight) a.0 in
    let c = and_both (key_formed line.key && quantity_formed line.quantity) (cents_formed line.price) b.0 in
    let d = and_both (key_formed line.key) (quantity_formed line.quantity) c.0 in
    rw (id, who, d.0) (packages_formed checkout customer total id who lines both.1)

-- a payment of another checkout has no package of this
other_packages : (checkout : RequestId) (customer total : ℕ) (id : RequestId) → same_id checkout id ≡ false → (lines : List PricedLine) → list_any (is_item_for id) (packages_in (body.Confirmed checkout customer lines total)) ≡ false
other_packages checkout customer total id other [] = refl
other_packages checkout customer total id other (line ∷ lines) = rw other (other_packages checkout customer total id other lines)

-- each body that fits keeps it
by_body : (steps : List Step) (s : Step) (b : Body) → s.body ≡ b → shipment_fits steps b ≡ true → body_formed b ≡ true → PackageRun steps → ((id : RequestId) → count_by (is_item_for id) (packages (steps ++ s ∷ [])) ≤ most_lines) × (list_all item_formed (packages (steps ++ s ∷ [])) ≡ true)
by_body steps s (body.Confirmed checkout customer lines total) is fit formed kept = (
  (λ id. rw (now, sum_by-append (λ (p : Item). cond (is_item_for id p) 1 0) (packages steps) (packages_in (body.Confirmed checkout customer lines total))) (either id (same_id checkout id) refl)),
  rw (now, list_all-append item_formed (packages steps) (packages_in (body.Confirmed checkout customer lines total)), kept.formed) (packages_formed checkout customer total ids.0 ids.1 lines lines_all),
)
  where
    now : packages (steps ++ s ∷ []) ≡ packages steps ++ packages_in (body.Confirmed checkout customer lines total)
    now = packages-push steps s ∙ ap (λ b. packages steps ++ packages_in b) is

    whole : (checkout_formed checkout customer lines ≡ true) × ((total == total_of lines) ≡ true)
    whole = and_both (checkout_formed checkout customer lines) (total == total_of lines) formed

    ids : (request_id_formed checkout ≡ true) × (id_formed customer ≡ true)
    ids = and_both (request_id_formed checkout) (id_formed customer) (and_both (request_id_formed checkout && id_formed customer) (lines_formed lines) whole.0).0

    lines_all : list_all line_formed lines ≡ true
    lines_all = (and_both (nat_le 1 (length lines) && nat_le (length lines) most_lines) (list_all line_formed lines) (and_both (nat_le 1 (length lines) && nat_le (length lines) most_lines && list_all line_formed lines) (keys_rise lines) (checkout_formed-lines checkout customer lines whole.0)).0).1

    either : (id : RequestId) (b : Bool) → same_id checkout id ≡ b → count_by (is_item_for id) (packages steps) + count_by (is_item_for id) (packages_in (body.Confirmed checkout customer lines total)) ≤ most_lines
    either id true same =
        let unpaid : is_taken confirms steps id ≡ false = ap (is_taken confirms steps) (sym (same_id-true checkout id same)) ∙ not_true (is_taken confirms steps checkout) fit in
        omega (
          arith,
          count-none (is_item_for id) (packages steps) (kept.run.unpacked id unpaid),
          count_by-le-length (is_item_for id) (packages_in (body.Confirmed checkout customer lines total)),
          length-map {B = Item} lines (λ (line : PricedLine). record { checkout = checkout; customer = customer; key = line.key }),
          lines_formed-most lines (checkout_formed-lines checkout customer lines whole.0),
        )
    either id false other = omega (arith, kept.few id, count-none (is_item_for id) (packages_in (body.Confirmed checkout customer lines total)) (other_packages checkout customer total id other lines))
by_body steps s (body.Asked request) is fit formed kept = (
  (λ id. rw (packages-push steps s, is, sum_by-append (λ (p : Item). cond (is_item_for id p) 1 0) (packages steps) []) (omega (arith, kept.few id))),
  rw (packages-push steps s, is, list_all-append item_formed (packages steps) [], kept.formed),
)
by_body steps s other is fit formed kept = cc

-- a step that follows keeps it
package_keeps : (steps : List Step) (s : Step) → Follows Role.Shipment steps s → PackageRun steps → PackageRun (steps ++ s ∷ [])
package_keeps steps s follows kept =
    let parts = fits-parts Role.Shipment steps s.from s.body follows.fit in
    let next = by_body steps s s.body refl parts.due parts.formed kept in
    record { run = ShipmentRun-keeps steps s follows kept.run; few = next.0; formed = next.1 }

-- a run of shipments has it
package_run : (steps : List Step) → IsRunOf Role.Shipment steps → PackageRun steps
package_run steps run = run_has Role.Shipment PackageRun package_keeps (record { run = record { unpacked = λ id unpaid. refl; undelivered = λ id unpaid. refl }; few = λ id. omega arith; formed = refl }) steps run

-- a delivery serves no more sellers than it may
pub oldest_of-few : (waiting : List Item) → length (oldest_of waiting) ≤ most_sellers
oldest_of-few waiting = few most_sellers (firsts_after [] waiting)
  where
    few : (n : ℕ) (xs : List Item) → length (take n xs) ≤ n
    few zero xs = omega arith
    few (suc n) [] = omega arith
    few (suc n) (x ∷ xs) = omega (arith, few n xs)

-- after a run of shipments, a delivery has no more items than it may have
pub delivered_of-most : (steps : List Step) → IsRunOf Role.Shipment steps → length (delivered_of (open_packages steps)) ≤ most_items
delivered_of-most steps run =
    let kept = package_run steps run in
    let few = λ (id : RequestId). count-filter-le (is_item_for id) (is_open steps) (packages steps) in
    omega (
      arith,
      length-filter (goes_with (oldest_of (open_packages steps))) (open_packages steps),
      count-goes_with most_lines (open_packages steps) (λ id. omega (arith, few id, kept.few id)) (oldest_of (open_packages steps)),
      oldest_of-few (open_packages steps),
    )

-- after a run of shipments, the items of a delivery are well formed, where there are some
pub delivered_of-formed : (steps : List Step) → IsRunOf Role.Shipment steps → 1 ≤ length (delivered_of (open_packages steps)) → items_formed (delivered_of (open_packages steps)) ≡ true
delivered_of-formed steps run some =
    and_from (nat_le 1 (length (delivered_of (open_packages steps))) && nat_le (length (delivered_of (open_packages steps))) most_items) (list_all item_formed (delivered_of (open_packages steps)))
    (and_from (nat_le 1 (length (delivered_of (open_packages steps)))) (nat_le (length (delivered_of (open_packages steps))) most_items) (le-leb 1 (length (delivered_of (open_packages steps))) some) (le-leb (length (delivered_of (open_packages steps))) most_items (delivered_of-most steps run)))
    (all-filter item_formed (goes_with (oldest_of (open_packages steps))) (open_packages steps) (all-filter item_formed (is_open steps) (packages steps) (package_run steps run).formed))
