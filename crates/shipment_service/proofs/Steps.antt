-- One more step: what is answered, and that the tables hold the steps after it.
use Rattle.std.proofs.Common.{◌≡◌, ℕ, ◌+◌, ◌≤◌, ◌^◌, ◌==◌, Bool, true, false, cond, nat_lt, List, [], ◌∷◌, ◌++◌, length, map, take, filter, filter_map, refl, ap, sym, ◌∙◌, subst, arith}
use Rattle.std.specs.List.{enumerate_from, flat_map}
use Rattle.std.specs.List.Sorted.{IsStrictlySortedBy}
use Rattle.std.specs.Map.{keys_of, values_of}
use Rattle.std.specs.Ordering.{nat_cmp}
use Rattle.std.proofs.lemmas.Bool.Decides.{nat_tests}
use Rattle.std.proofs.lemmas.List.{length-map}
use Rattle.market_amounts.specs.declared.keys.RequestId.{RequestId}
use Rattle.market_events.specs.declared.bodies.Body.{Body}
use Rattle.market_events.specs.declared.bodies.Body.TheVariants as body
use Rattle.market_events.specs.declared.bodies.Item.{Item}
use Rattle.market_events.specs.declared.bodies.PricedLine.{PricedLine}
use Rattle.market_events.specs.declared.links.Link.{Link}
use Rattle.market_events.specs.declared.links.TheConstants.{SHIPMENT_TO_ORDER, SHIPMENT_TO_SELLER, SHIPMENT_TO_CUSTOMER}
use Rattle.market_events.specs.declared.requests.Ask.{Ask}
use Rattle.market_events.specs.declared.requests.Ask.TheVariants as ask
use Rattle.market_events.specs.declared.requests.Request.{Request}
use Rattle.market_events.specs.Formed.{body_formed, checkout_formed}
use Rattle.market_events.specs.Orders.{items_in, is_taken}
use Rattle.market_events.specs.declared.roles.Role.{Role}
use Rattle.market_events.specs.Services.{IsRunOf, fits, reactions, shipment_fits}
use Rattle.market_events.specs.Shipments.{packages_in, packages, is_open, open_packages, oldest_of, delivered_of, deliver_rows, most_sellers, shipment_asked, shipment_rows, shipment_sums}
use Rattle.market_events.specs.Standing.{step_of, with_step}
use Rattle.market_events.specs.Steps.{Step, Sending, body_on}
use Rattle.market_events.specs.Stocks.{confirms}
use Rattle.market_events.specs.WellFormed.{most_items, total_of}
use Rattle.market_events.proofs.Runs.Bounds.{lines_formed-most}
use Rattle.market_events.proofs.Values.Lists.{and_both, not_true}
use Rattle.market_events.proofs.Runs.Packages.{delivered_of-most}
use Rattle.market_events.proofs.Steps.Shipments.{answers-shipment, deliver_rows-items, items_of}
use Rattle.market_events.proofs.Runs.Shipments.{ShipmentRun-of}
use Rattle.market_events.proofs.Runs.Standing.{reactions-fit}
use Rattle.market_events.proofs.Steps.Taken.{Parts, fits-parts}
use Rattle.market_events.proofs.Runs.Stock.{checkout_formed-lines}
use Rattle.shipment_service.specs.declared.package.Package.{Package}
use Rattle.shipment_service.specs.declared.service.Shipments.{Shipments}
use Rattle.shipment_service.specs.Deliveries.{CanServe, heads_after, served_of, taken_of, left_of}
use Rattle.shipment_service.specs.Holds.{package_by, packages_by, waiting_by, Holds}
use Rattle.shipment_service.specs.Tables.{open_of, close_if, has_number, Waits, AreBelow, IsRising, item_packed}
use Rattle.shipment_service.proofs.Delivered.{served-items, taken-items}
use Rattle.shipment_service.proofs.Heads.{turn_of, take-turns, oldest-heads}
use Rattle.shipment_service.proofs.Runs.{waiting-lined, packages-few}
use Rattle.shipment_service.proofs.PackagesAfter.{packages-still, waiting-still, packages-paid, waiting-paid, waiting-items, waiting-delivered, packages-delivered}

-- the turns of a delivery are those of the packages that it serves
pub turns-are : (queues : List (ℕ × List (ℕ × Item))) (oldest : List (ℕ × ℕ)) (waiting : List (ℕ × Item)) → Waits queues oldest waiting → IsRising waiting
    → IsStrictlySortedBy nat_cmp (keys_of oldest) → (turns : List (ℕ × ℕ)) → turns ≡ take most_sellers oldest → turns ≡ map turn_of (served_of waiting)
turns-are queues oldest waiting waits rise ordered turns is =
    is ∙ ap (take most_sellers) (oldest-heads queues oldest waiting waits rise ordered) ∙ take-turns most_sellers (heads_after [] waiting)

-- what a delivery takes, by the definitions
pub taken-by : (steps : List Step) → values_of (taken_of (waiting_by steps)) ≡ delivered_of (open_packages steps)
taken-by steps = taken-items (waiting_by steps) ∙ ap delivered_of (waiting-items steps)

pub served-by : (steps : List Step) → length (served_of (waiting_by steps)) ≡ length (oldest_of (open_packages steps))
served-by steps =
    sym (length-map (served_of (waiting_by steps)) (λ (p : ℕ × Item). p.1)) ∙ ap length (served-items (waiting_by steps) ∙ ap oldest_of (waiting-items steps))

pub taken-few : (steps : List Step) → IsRunOf Role.Shipment steps → length (taken_of (waiting_by steps)) ≤ most_items
taken-few steps run =
    omega (
      arith,
      length-map (taken_of (waiting_by steps)) (λ (p : ℕ × Item). p.1),
      ap length (taken-by steps),
      delivered_of-most steps run,
    )

-- the numbers of the open packages are no more than all packages
numbers-below : (test : Item → Bool) (from n : ℕ) (items : List Item) → from + length items ≤ n → AreBelow n (filter (λ (p : ℕ × Item). test p.1) (enumerate_from from items))
numbers-below test from n [] low = refl
numbers-below test from n (i ∷ items) low = by (test i) (numbers-below test (from + 1) n items (omega arith))
  where
    here : nat_lt from n ≡ true
    here = grind (arith, nat_tests)

    by : (b : Bool) → AreBelow n (filter (λ (p : ℕ × Item). test p.1) (enumerate_from (from + 1) items))
        → AreBelow n (cond b ((from, i) ∷ filter (λ (p : ℕ × Item). test p.1) (enumerate_from (from + 1) items)) (filter (λ (p : ℕ × Item). test p.1) (enumerate_from (from + 1) items)))
    by true rest = rw here rest
    by false rest = rest

pub waiting-below : (steps : List Step) (n : ℕ) → length (packages steps) + 1 ≤ n → AreBelow n (waiting_by steps)
waiting-below steps n low = numbers-below (is_open steps) 1 n (packages steps) (omega arith)

pub table-length : (table : List Package) (steps : List Step) → table ≡ packages_by steps → length table ≡ length (packages steps)
table-length table steps is = ap length is ∙ length-map (packages steps) (package_by steps)

-- a step that stands and fits
module _ (shipments : Shipments) (steps : List Step) (run : IsRunOf Role.Shipment steps) (held : Holds shipments steps) (from : Link) (b : Body) (fit : fits Role.Shipment steps from b ≡ true) where
  abbrev s : Step
  s = step_of Role.Shipment steps from b

  parts : Parts Role.Shipment steps from b
  parts = fits-parts Role.Shipment steps from b fit

  pub reacts : reactions Role.Shipment steps from b ≡ shipment_rows (shipment_sums steps) b
  reacts = reactions-fit Role.Shipment steps from b fit ∙ answers-shipment steps from b

  items-by : (rows : List Sending) → shipment_rows (shipment_sums steps) b ≡ rows → items_of s ≡ flat_map items_in (filter_map (body_on SHIPMENT_TO_CUSTOMER) rows)
  items-by rows is = ap (λ m. flat_map items_in (filter_map (body_on SHIPMENT_TO_CUSTOMER) m)) (answers-shipment steps from b ∙ is)

  -- the table has room for the packages of a payment
  pub room : (checkout : RequestId) (customer : ℕ) (lines : List PricedLine) (total : ℕ) → b ≡ body.Confirmed checkout customer lines total → length shipments.packages + length lines + 2 ≤ 2 ^ 32
  room checkout customer lines total is =
      let formed : body_formed (body.Confirmed checkout customer lines total) ≡ true = sym (ap body_formed is) ∙ parts.formed in
      omega (
        arith,
        table-length shipments.packages steps held.packages,
        packages-few steps run,
        parts.few,
        lines_formed-most lines (checkout_formed-lines checkout customer lines (and_both (checkout_formed checkout customer lines) (total == total_of lines) formed).0),
      )

  -- a delivery
  module _ (request : Request) (is : b ≡ body.Asked request) (delivers : request.ask ≡ ask.Deliver) where
    rows : shipment_rows (shipment_sums steps) b ≡ deliver_rows request.id (delivered_of (open_packages steps)) (length (oldest_of (open_packages steps)))
    rows = ap (shipment_rows (shipment_sums steps)) is ∙ ap (shipment_asked (shipment_sums steps) request.id) delivers

    pub deliver-made : deliver_rows request.id (values_of (taken_of (waiting_by steps))) (length (served_of (waiting_by steps))) ≡ reactions Role.Shipment steps from b
    deliver-made = (λ i. deliver_rows request.id (taken-by steps i) (served-by steps i)) ∙ sym (reacts ∙ rows)

    made : items_of s ≡ delivered_of (open_packages steps)
    made =
        items-by (deliver_rows request.id (delivered_of (open_packages steps)) (length (oldest_of (open_packages steps)))) rows
        ∙ deliver_rows-items request.id (delivered_of (open_packages steps)) (length (oldest_of (open_packages steps)))

    pub packages-after-delivery : packages_by (with_step Role.Shipment steps from b) ≡ close_if (has_number (taken_of (waiting_by steps))) shipments.packages
    packages-after-delivery = packages-delivered steps s (ap packages_in is) made ∙ ap (close_if (has_number (taken_of (waiting_by steps)))) (sym held.packages)

    pub deliver-kept : (now : Shipments) → now.packages ≡ close_if (has_number (taken_of (waiting_by steps))) shipments.packages
        → Waits now.waiting.queues now.waiting.oldest (left_of (waiting_by steps)) → Holds now (with_step Role.Shipment steps from b)
    deliver-kept now closed left = record {
      packages = closed ∙ sym packages-after-delivery;
      waiting = subst (Waits now.waiting.queues now.waiting.oldest) (sym (waiting-delivered steps s (ap packages_in is) made)) left;
    }

  -- a payment
  module _ (checkout : RequestId) (customer : ℕ) (lines : List PricedLine) (total : ℕ) (is : b ≡ body.Confirmed checkout customer lines total) where
    pub ship-made : (SHIPMENT_TO_SELLER, body.Shipped checkout) ∷ (SHIPMENT_TO_ORDER, body.Shipped checkout) ∷ [] ≡ reactions Role.Shipment steps from b
    ship-made = sym (reacts ∙ ap (shipment_rows (shipment_sums steps)) is)

    nothing : items_of s ≡ []
    nothing = items-by ((SHIPMENT_TO_SELLER, body.Shipped checkout) ∷ (SHIPMENT_TO_ORDER, body.Shipped checkout) ∷ []) (ap (shipment_rows (shipment_sums steps)) is)

    undelivered : is_taken confirms steps checkout ≡ false
    undelivered = not_true (is_taken confirms steps checkout) (sym (ap (shipment_fits steps) is) ∙ parts.due)

    pub packages-after-payment : packages_by (with_step Role.Shipment steps from b) ≡ shipments.packages ++ map open_of (map (item_packed checkout customer) lines)
    packages-after-payment =
        packages-paid steps s nothing checkout customer lines total is ((ShipmentRun-of steps run).undelivered checkout undelivered)
        ∙ ap (λ ps. ps ++ map open_of (map (item_packed checkout customer) lines)) (sym held.packages)

    pub ship-kept : (now : Shipments) → now.packages ≡ shipments.packages ++ map open_of (map (item_packed checkout customer) lines)
        → ((waiting : List (ℕ × Item)) → Waits shipments.waiting.queues shipments.waiting.oldest waiting → AreBelow (length shipments.packages + 1) waiting
        → Waits now.waiting.queues now.waiting.oldest (waiting ++ enumerate_from (length shipments.packages + 1) (map (item_packed checkout customer) lines)))
        → Holds now (with_step Role.Shipment steps from b)
    ship-kept now packed waits = record {
      packages = packed ∙ sym packages-after-payment;
      waiting = subst (Waits now.waiting.queues now.waiting.oldest)
          (ap (λ k. waiting_by steps ++ enumerate_from k (map (item_packed checkout customer) lines)) number
          ∙ sym (waiting-paid steps s nothing checkout customer lines total is ((ShipmentRun-of steps run).undelivered checkout undelivered)))
          (waits (waiting_by steps) held.waiting (waiting-below steps (length shipments.packages + 1) (omega (arith, table-length shipments.packages steps held.packages))));
    }
      where
        number : length shipments.packages + 1 ≡ 1 + length (packages steps)
        number = omega (arith, table-length shipments.packages steps held.packages)

  -- a request that makes nothing
  module _ (none : packages_in b ≡ []) (quiet : shipment_rows (shipment_sums steps) b ≡ []) where
    pub quiet-made : [] ≡ reactions Role.Shipment steps from b
    quiet-made = sym (reacts ∙ quiet)

    pub packages-after-quiet : packages_by (with_step Role.Shipment steps from b) ≡ shipments.packages
    packages-after-quiet = packages-still steps s (items-by [] quiet) none ∙ sym held.packages

    pub quiet-kept : Holds shipments (with_step Role.Shipment steps from b)
    quiet-kept = record {
      packages = sym packages-after-quiet;
      waiting = subst (Waits shipments.waiting.queues shipments.waiting.oldest) (sym (waiting-still steps s (items-by [] quiet) none)) held.waiting;
    }

-- requests that are no deliveries
pub quiet-asked : (steps : List Step) (request : Request) → (request.ask ≡ ask.Deliver → ⊥) → shipment_rows (shipment_sums steps) (body.Asked request) ≡ []
quiet-asked steps request other = by request.ask other
  where
    by : (a : Ask) → (a ≡ ask.Deliver → ⊥) → shipment_asked (shipment_sums steps) request.id a ≡ []
    by ask.Deliver other = absurd (other refl)
    by a other = refl

-- the tables can serve a delivery
pub can_serve : (shipments : Shipments) (steps : List Step) → IsRunOf Role.Shipment steps → Holds shipments steps → CanServe shipments.waiting.queues shipments.waiting.oldest (waiting_by steps)
can_serve shipments steps run held = record { waits = held.waiting; lined = waiting-lined steps run; few = taken-few steps run }

-- no other body fits
pub no_other : (steps : List Step) (from : Link) (b : Body) → fits Role.Shipment steps from b ≡ true → ((request : Request) → b ≡ body.Asked request → ⊥)
    → ((checkout : RequestId) (customer : ℕ) (lines : List PricedLine) (total : ℕ) → b ≡ body.Confirmed checkout customer lines total → ⊥) → ⊥
no_other steps from b fit not_asked not_paid = by b (fits-parts Role.Shipment steps from b fit).due not_asked not_paid
  where
    by : (b : Body) → shipment_fits steps b ≡ true → ((request : Request) → b ≡ body.Asked request → ⊥)
        → ((checkout : RequestId) (customer : ℕ) (lines : List PricedLine) (total : ℕ) → b ≡ body.Confirmed checkout customer lines total → ⊥) → ⊥
    by (body.Asked request) due not_asked not_paid = not_asked request refl
    by (body.Confirmed checkout customer lines total) due not_asked not_paid = not_paid checkout customer lines total refl
    by other due not_asked not_paid = cc
