-- The weight of a link: how many entries the taking of one of its events can still cause.
use Rattle.std.proofs.Common.{◌≡◌, ℕ, zero, suc, ◌+◌, ◌<◌, ◌≤◌, ◌==◌, ◌&&◌, ◌||◌, not, Bool, true, false, eqb-true, eq-eqb, List, [], ◌∷◌, refl, ap, ◌∙◌, arith}
use Rattle.std.specs.Prelude.{slice_index_or}
use Rattle.std.specs.List.{AllByRecursion, list_all, range_with_len}
use Rattle.std.proofs.lemmas.Bool.Decides.{nat_tests}
use Rattle.market_amounts.specs.declared.keys.ProductKey.{ProductKey}
use Rattle.market_amounts.specs.declared.keys.RequestId.{RequestId}
use Rattle.market_events.specs.declared.bodies.Body.{Body}
use Rattle.market_events.specs.declared.bodies.Body.TheVariants as body
use Rattle.market_events.specs.declared.bodies.Ending.{Ending}
use Rattle.market_events.specs.declared.bodies.PayRule.{PayRule}
use Rattle.market_events.specs.declared.bodies.PricedLine.{PricedLine}
use Rattle.market_events.specs.declared.bodies.StockRule.{StockRule}
use Rattle.market_events.specs.declared.links.Link.{Link}
use Rattle.market_events.specs.declared.links.Link.TheVariants.{Service, Asked, Told}
use Rattle.market_events.specs.declared.links.TheConstants.{CART_TO_STOCK, STOCK_TO_CART, STOCK_TO_ORDER, ORDER_TO_CART, SERVICE_LINKS}
use Rattle.market_events.specs.declared.requests.Request.{Request}
use Rattle.market_events.specs.Carried.{carries}
use Rattle.market_events.specs.Links.{receiver_of, order_node, payment_node, shipment_node, same_link}
use Rattle.market_events.specs.Steps.{Sending}
use Rattle.market_events.proofs.Values.Offers.{same_link-true}
use Rattle.market_laws.proofs.Bounds.Sums.{all_of_range}

-- of the service links, in the order of their numbers
abbrev pub service_weights : List ℕ
service_weights = 2 ∷ 2 ∷ 36 ∷ 4 ∷ 34 ∷ 29 ∷ 2 ∷ 4 ∷ 2 ∷ 6 ∷ 11 ∷ 2 ∷ 2 ∷ 6 ∷ 2 ∷ 2 ∷ []

abbrev pub weight : Link → ℕ
weight (Service n) = slice_index_or service_weights n 2
weight (Asked lane service) = 38
weight (Told service lane) = 2

-- an entry for each body, and the weight of its link
abbrev pub costs : List Sending → ℕ
costs [] = 0
costs (s ∷ more) = 1 + weight s.0 + costs more

-- each weighs two at least: the entry of the taking, and the answer of a lane
low_in : (weights : List ℕ) → AllByRecursion (λ w. 2 ≤ w) weights → (n : ℕ) → 2 ≤ slice_index_or weights n 2
low_in [] each n = omega arith
low_in (w ∷ ws) each zero = each.0
low_in (w ∷ ws) each (suc n) = low_in ws each.1 n

all_low : AllByRecursion (λ w. 2 ≤ w) service_weights
all_low = (
  omega arith,
  (
    omega arith,
    (
      omega arith,
      (
        omega arith,
        (
          omega arith,
          (
            omega arith,
            (
              omega arith,
              (
                omega arith,
                (omega arith, (omega arith, (omega arith, (omega arith, (omega arith, (omega arith, (omega arith, (omega arith, tt)))))))),
              ),
            ),
          ),
        ),
      ),
    ),
  ),
)

pub weight-low : (l : Link) → 2 ≤ weight l
weight-low (Service n) = low_in service_weights all_low n
weight-low (Asked lane service) = omega arith
weight-low (Told service lane) = omega arith

-- the link of a body, by what it can carry and where it leads
pub asked_weight : (l : Link) (request : Request) → carries l (body.Asked request) ≡ true → weight l ≡ 38
asked_weight (Service n) request carried = let no : ⊥ = cc in absurd no
asked_weight (Asked lane service) request carried = refl
asked_weight (Told service lane) request carried = let no : ⊥ = cc in absurd no

-- a link that is this one
same_weight : (l only : Link) (w : ℕ) → same_link l only ≡ true → weight only ≡ w → weight l ≡ w
same_weight l only w test is = ap weight (same_link-true l only test) ∙ is

pub reserve_weight : (l : Link) (id : RequestId) (customer : ℕ) (lines : List PricedLine) → carries l (body.Reserve id customer lines) ≡ true → weight l ≡ 36
reserve_weight (Service n) id customer lines carried = same_weight (Service n) CART_TO_STOCK 36 carried refl
reserve_weight (Asked lane service) id customer lines carried = let no : ⊥ = cc in absurd no
reserve_weight (Told service lane) id customer lines carried = let no : ⊥ = cc in absurd no

pub reserve_failed_weight : (l : Link) (id : RequestId) (key : ProductKey) (rule : StockRule) → carries l (body.ReserveFailed id key rule) ≡ true → weight l ≡ 4
reserve_failed_weight (Service n) id key rule carried = same_weight (Service n) STOCK_TO_CART 4 carried refl
reserve_failed_weight (Asked lane service) id key rule carried = let no : ⊥ = cc in absurd no
reserve_failed_weight (Told service lane) id key rule carried = let no : ⊥ = cc in absurd no

pub ended_weight : (l : Link) (id : RequestId) (ending : Ending) → carries l (body.Ended id ending) ≡ true → weight l ≡ 4
ended_weight (Service n) id ending carried = same_weight (Service n) ORDER_TO_CART 4 carried refl
ended_weight (Asked lane service) id ending carried = let no : ⊥ = cc in absurd no
ended_weight (Told service lane) id ending carried = let no : ⊥ = cc in absurd no

pub stock_confirmed_weight : (l : Link) (id : RequestId) (customer : ℕ) (lines : List PricedLine) → carries l (body.StockConfirmed id customer lines) ≡ true → weight l ≡ 34
stock_confirmed_weight (Service n) id customer lines carried = same_weight (Service n) STOCK_TO_ORDER 34 carried refl
stock_confirmed_weight (Asked lane service) id customer lines carried = let no : ⊥ = cc in absurd no
stock_confirmed_weight (Told service lane) id customer lines carried = let no : ⊥ = cc in absurd no

-- of the links that carry a body, the one that leads into the service
into_weight : (b : Body) (node w : ℕ) → list_all (λ n. not (carries (Service n) b && (receiver_of (Service n) == node)) || (weight (Service n) == w)) (range_with_len 0 SERVICE_LINKS) ≡ true
    → (n : ℕ) → n < SERVICE_LINKS → carries (Service n) b ≡ true → receiver_of (Service n) ≡ node → weight (Service n) ≡ w
into_weight b node w all n lt carried into =
    eqb-true (weight (Service n)) w (third (carries (Service n) b) (receiver_of (Service n) == node) (weight (Service n) == w) carried (eq-eqb (receiver_of (Service n)) node into) at)
  where
    third : (a b c : Bool) → a ≡ true → b ≡ true → (not (a && b) || c) ≡ true → c ≡ true
    third true true c p q r = r
    third true false c p q r = cc
    third false b c p q r = cc

    at : (not (carries (Service n) b && (receiver_of (Service n) == node)) || (weight (Service n) == w)) ≡ true
    at = all_of_range (λ n. not (carries (Service n) b && (receiver_of (Service n) == node)) || (weight (Service n) == w)) 0 SERVICE_LINKS all n (omega arith) lt

pub failed_weight : (l : Link) (id : RequestId) (customer : ℕ) (rule : PayRule) → carries l (body.Failed id customer rule) ≡ true → receiver_of l ≡ order_node → weight l ≡ 6
failed_weight (Service n) id customer rule carried into =
    let low : n < SERVICE_LINKS = grind (arith, nat_tests) in into_weight (body.Failed id customer rule) order_node 6 refl n low carried into
failed_weight (Asked lane service) id customer rule carried into = let no : ⊥ = cc in absurd no
failed_weight (Told service lane) id customer rule carried into = let no : ⊥ = cc in absurd no

pub shipped_weight : (l : Link) (id : RequestId) → carries l (body.Shipped id) ≡ true → receiver_of l ≡ order_node → weight l ≡ 6
shipped_weight (Service n) id carried into =
    let low : n < SERVICE_LINKS = grind (arith, nat_tests) in into_weight (body.Shipped id) order_node 6 refl n low carried into
shipped_weight (Asked lane service) id carried into = let no : ⊥ = cc in absurd no
shipped_weight (Told service lane) id carried into = let no : ⊥ = cc in absurd no

pub invoice_weight : (l : Link) (id : RequestId) (customer : ℕ) (lines : List PricedLine) (total : ℕ) → carries l (body.Invoice id customer lines total) ≡ true → receiver_of l ≡ payment_node → weight l ≡ 29
invoice_weight (Service n) id customer lines total carried into =
    let low : n < SERVICE_LINKS = grind (arith, nat_tests) in into_weight (body.Invoice id customer lines total) payment_node 29 refl n low carried into
invoice_weight (Asked lane service) id customer lines total carried into = let no : ⊥ = cc in absurd no
invoice_weight (Told service lane) id customer lines total carried into = let no : ⊥ = cc in absurd no

pub confirmed_weight : (l : Link) (id : RequestId) (customer : ℕ) (lines : List PricedLine) (total : ℕ) → carries l (body.Confirmed id customer lines total) ≡ true → receiver_of l ≡ shipment_node → weight l ≡ 11
confirmed_weight (Service n) id customer lines total carried into =
    let low : n < SERVICE_LINKS = grind (arith, nat_tests) in into_weight (body.Confirmed id customer lines total) shipment_node 11 refl n low carried into
confirmed_weight (Asked lane service) id customer lines total carried into = let no : ⊥ = cc in absurd no
confirmed_weight (Told service lane) id customer lines total carried into = let no : ⊥ = cc in absurd no
