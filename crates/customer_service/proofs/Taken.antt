-- The customers of whom the steps of a run count something.
use Rattle.std.proofs.Common.{◌≡◌, ℕ, ◌+◌, ◌≤◌, Bool, true, false, cond, not, ◌==◌, ◌&&◌, ◌||◌, List, [], ◌∷◌, ◌++◌, map, refl, ap, sym, ◌∙◌, arith, ⊎_elim}
use Rattle.std.specs.List.{count_by, flat_map, list_all}
use Rattle.std.proofs.lemmas.Bool.{and_parts, or_cases, eqb-true, leb-true, not-false}
use Rattle.std.proofs.lemmas.Bool.Decides.{nat_tests}
use Rattle.std.proofs.lemmas.List.Folds.{list_any-append}
use Rattle.std.proofs.lemmas.List.Sums.{sum_by-cons, sum_by-append}
use Rattle.market_events.specs.declared.bodies.Body.{Body}
use Rattle.market_events.specs.declared.bodies.Body.TheVariants as body
use Rattle.market_events.specs.declared.bodies.Item.{Item}
use Rattle.market_events.specs.Cells.{customers_in}
use Rattle.market_events.specs.Customers.{confirms_for, fails_for}
use Rattle.market_events.specs.Formed.{body_formed, item_formed, request_id_formed, id_formed, key_formed, lines_formed}
use Rattle.market_events.specs.Orders.{items_in}
use Rattle.market_events.specs.Services.{RunsFrom, IsRunOf}
use Rattle.market_events.specs.Steps.{Step, taken_bodies}
use Rattle.market_events.specs.WellFormed.{id_max, total_of}
use Rattle.market_events.proofs.Runs.Standing.{is_fit}
use Rattle.customer_service.specs.Cells.{is_nothing}
use Rattle.customer_service.specs.Holds.{tally_by}
use Rattle.customer_service.proofs.Texts.{is_among}
use Rattle.market_events.specs.declared.roles.Role.{Role}

-- the customers of whom something was counted, as they were taken
abbrev pub customers_taken : List Step → List ℕ
customers_taken steps = flat_map customers_in (taken_bodies steps)

abbrev pub of_customer : ℕ → Item → Bool
of_customer c i = i.customer == c

-- of a customer who is not among those of a body nothing is counted
abbrev pub nothing_of : ℕ → ℕ → ℕ → Bool
nothing_of a b d = (a == 0) && (b == 0) && (d == 0)

nothing_items : (items : List Item) (c : ℕ) → (count_by (of_customer c) items == 0) ≡ not (is_among (map (λ (i : Item). i.customer) items) c)
nothing_items [] c = refl
nothing_items (i ∷ more) c =
    let rest = nothing_items more c in
    ap (λ n. n == 0) (sum_by-cons (λ (i : Item). cond (of_customer c i) 1 0) i more) ∙ join i.customer c (count_by (of_customer c) more) (is_among (map (λ (i : Item). i.customer) more) c) rest
  where
    join : (d c n : ℕ) (m : Bool) → (n == 0) ≡ not m → ((cond (d == c) 1 0 + n) == 0) ≡ not ((c == d) || m)
    join d c n m h = grind (arith, nat_tests)

pub nothing_in : (b : Body) (c : ℕ) → nothing_of (cond (confirms_for c b) 1 0) (cond (fails_for c b) 1 0) (count_by (of_customer c) (items_in b)) ≡ not (is_among (customers_in b) c)
nothing_in (body.Confirmed checkout customer lines total) c = one c customer
  where
    one : (c d : ℕ) → nothing_of (cond (d == c) 1 0) 0 0 ≡ not ((c == d) || false)
    one c d = grind (arith, nat_tests)
nothing_in (body.Failed checkout customer rule) c = one c customer
  where
    one : (c d : ℕ) → nothing_of 0 (cond (d == c) 1 0) 0 ≡ not ((c == d) || false)
    one c d = grind (arith, nat_tests)
nothing_in (body.Delivered items) c = nothing_items items c
nothing_in (body.Changed key version change) c = refl
nothing_in (body.Reserve checkout customer lines) c = refl
nothing_in (body.ReserveFailed checkout key rule) c = refl
nothing_in (body.StockConfirmed checkout customer lines) c = refl
nothing_in (body.Invoice checkout customer lines total) c = refl
nothing_in (body.Ended checkout ending) c = refl
nothing_in (body.Shipped checkout) c = refl
nothing_in (body.Asked request) c = refl
nothing_in (body.Told id reply) c = refl

nothing_all : (bodies : List Body) (c : ℕ)
    → nothing_of (count_by (confirms_for c) bodies) (count_by (fails_for c) bodies) (count_by (of_customer c) (flat_map items_in bodies)) ≡ not (is_among (flat_map customers_in bodies) c)
nothing_all [] c = refl
nothing_all (b ∷ more) c =
    join _ _ _ _ _ _ _ _ _ _ _ _
    (sum_by-cons (λ b. cond (confirms_for c b) 1 0) b more) (sum_by-cons (λ b. cond (fails_for c b) 1 0) b more)
    (sum_by-append (λ (i : Item). cond (of_customer c i) 1 0) (items_in b) (flat_map items_in more))
    (list_any-append (λ d. c == d) (customers_in b) (flat_map customers_in more))
    (nothing_in b c) (nothing_all more c)
  where
    join : (p q r x y z k l m : ℕ) (whole a o : Bool) → p ≡ x + k → q ≡ y + l → r ≡ z + m → whole ≡ (a || o)
        → nothing_of x y z ≡ not a → nothing_of k l m ≡ not o → nothing_of p q r ≡ not whole
    join p q r x y z k l m whole a o e f g h first rest = grind (arith, nat_tests)

pub is_nothing-by : (steps : List Step) (c : ℕ) → is_nothing (tally_by steps c) ≡ not (is_among (customers_taken steps) c)
is_nothing-by steps c = nothing_all (taken_bodies steps) c

pub taken_all : (steps : List Step) (c : ℕ) → is_nothing (tally_by steps c) ≡ false → is_among (customers_taken steps) c ≡ true
taken_all steps c some = not-false _ (sym (is_nothing-by steps c) ∙ some)

-- the customers of a well-formed body are ids
pub small_items : (items : List Item) → list_all item_formed items ≡ true → (c : ℕ) → is_among (map (λ (i : Item). i.customer) items) c ≡ true → c ≤ id_max
small_items [] formed c among = cc
small_items (i ∷ more) formed c among =
    let parts = and_parts (item_formed i) (list_all item_formed more) formed in
    ⊎_elim
    (λ here.
    let outer = and_parts (request_id_formed i.checkout && id_formed i.customer) (key_formed i.key) parts.0 in
    let inner = and_parts (request_id_formed i.checkout) (id_formed i.customer) outer.0 in
    omega (arith, eqb-true c i.customer here, leb-true i.customer id_max inner.1))
    (λ later. small_items more parts.1 c later)
    (or_cases (c == i.customer) (is_among (map (λ (i : Item). i.customer) more) c) among)

small_one : (customer c : ℕ) → id_formed customer ≡ true → ((c == customer) || false) ≡ true → c ≤ id_max
small_one customer c formed among = grind (arith, nat_tests)

pub small_in : (b : Body) → body_formed b ≡ true → (c : ℕ) → is_among (customers_in b) c ≡ true → c ≤ id_max
small_in (body.Confirmed checkout customer lines total) formed c among =
    let outer = and_parts (request_id_formed checkout && id_formed customer && lines_formed lines) (total == total_of lines) formed in
    let middle = and_parts (request_id_formed checkout && id_formed customer) (lines_formed lines) outer.0 in
    small_one customer c (and_parts (request_id_formed checkout) (id_formed customer) middle.0).1 among
small_in (body.Failed checkout customer rule) formed c among = small_one customer c (and_parts (request_id_formed checkout) (id_formed customer) formed).1 among
small_in (body.Delivered items) formed c among = small_items items (and_parts _ (list_all item_formed items) formed).1 c among
small_in (body.Changed key version change) formed c among = cc
small_in (body.Reserve checkout customer lines) formed c among = cc
small_in (body.ReserveFailed checkout key rule) formed c among = cc
small_in (body.StockConfirmed checkout customer lines) formed c among = cc
small_in (body.Invoice checkout customer lines total) formed c among = cc
small_in (body.Ended checkout ending) formed c among = cc
small_in (body.Shipped checkout) formed c among = cc
small_in (body.Asked request) formed c among = cc
small_in (body.Told id reply) formed c among = cc

-- those of a run are ids
small_from : (role : Role) (before steps : List Step) → RunsFrom role before steps → (c : ℕ) → is_among (customers_taken steps) c ≡ true → c ≤ id_max
small_from role before [] run c among = cc
small_from role before (s ∷ more) run c among =
    ⊎_elim (λ here. small_in s.body (is_fit role before s.from s.body run.0.fit).formed c here) (λ later. small_from role (before ++ s ∷ []) more run.1 c later)
    (or_cases (is_among (customers_in s.body) c) (is_among (customers_taken more) c)
    (sym (list_any-append (λ d. c == d) (customers_in s.body) (customers_taken more)) ∙ among))

pub taken_within : (role : Role) (steps : List Step) → IsRunOf role steps → (c : ℕ) → is_nothing (tally_by steps c) ≡ false → c ≤ id_max
taken_within role steps run c some = small_from role [] steps run c (taken_all steps c some)
