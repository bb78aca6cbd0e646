-- Ids, keys and lines that are the same by test are equal.
use Rattle.std.proofs.Common.{◌≡◌, ℕ, Bool, true, ◌&&◌, ◌==◌, List, [], ◌∷◌, refl, arith}
use Rattle.std.proofs.lemmas.Bool.Decides.{nat_tests}
use Rattle.market_amounts.specs.declared.keys.ProductKey.{ProductKey}
use Rattle.market_amounts.specs.declared.keys.RequestId.{RequestId}
use Rattle.market_events.specs.declared.bodies.PricedLine.{PricedLine}
use Rattle.market_events.specs.Requests.{same_id, same_key}
use Rattle.market_events.specs.Steps.{same_line, same_lines}
use Rattle.market_events.proofs.Values.Lists.{and_both}

-- two pairs of numbers that are equal by test
same_numbers : (a b x y : ℕ) → ((a == x) && (b == y)) ≡ true → (a ≡ x) × (b ≡ y)
same_numbers a b x y h = grind (arith, nat_tests)

-- a pair of numbers is equal to itself
self_numbers : (a b : ℕ) → ((a == a) && (b == b)) ≡ true
self_numbers a b = grind (arith, nat_tests)

-- the test of two pairs may be turned round
swap_numbers : (a b x y : ℕ) → ((a == x) && (b == y)) ≡ ((x == a) && (y == b))
swap_numbers a b x y = grind (arith, nat_tests)

-- the same id
pub same_id-true : (a b : RequestId) → same_id a b ≡ true → a ≡ b
same_id-true a b h = let both = same_numbers a.caller a.number b.caller b.number h in λ i. record { caller = both.0 i; number = both.1 i }

-- the same key
pub same_key-true : (a b : ProductKey) → same_key a b ≡ true → a ≡ b
same_key-true a b h = let both = same_numbers a.seller a.product b.seller b.product h in λ i. record { seller = both.0 i; product = both.1 i }

-- an id is the same as itself
pub same_id-self : (a : RequestId) → same_id a a ≡ true
same_id-self a = self_numbers a.caller a.number

-- a key is the same as itself
pub same_key-self : (a : ProductKey) → same_key a a ≡ true
same_key-self a = self_numbers a.seller a.product

-- the same id, turned round
pub same_id-swap : (a b : RequestId) → same_id a b ≡ same_id b a
same_id-swap a b = swap_numbers a.caller a.number b.caller b.number

-- the same key, turned round
pub same_key-swap : (a b : ProductKey) → same_key a b ≡ same_key b a
same_key-swap a b = swap_numbers a.seller a.product b.seller b.product

-- a test, and four numbers that are equal by test
four_numbers : (k : Bool) (a b c d x y z w : ℕ) → (k && (a == x) && (b == y) && (c == z) && (d == w)) ≡ true → (k ≡ true) × (a ≡ x) × (b ≡ y) × (c ≡ z) × (d ≡ w)
four_numbers k a b c d x y z w h = grind (arith, nat_tests)

-- the same line
pub same_line-true : (a b : PricedLine) → same_line a b ≡ true → a ≡ b
same_line-true a b h =
    let all = four_numbers (same_key a.key b.key) a.quantity a.price a.freight a.voucher b.quantity b.price b.freight b.voucher h in
    let key = same_key-true a.key b.key all.0 in
    λ i. record { key = key i; quantity = all.1 i; price = all.2 i; freight = all.3 i; voucher = all.4 i }

-- the same lines
pub same_lines-true : (a b : List PricedLine) → same_lines a b ≡ true → a ≡ b
same_lines-true [] [] h = refl
same_lines-true [] (b ∷ others) h = cc
-- the same lines
same_lines-true (a ∷ more) [] h = cc
-- the same lines
same_lines-true (a ∷ more) (b ∷ others) h =
    let both = and_both (same_line a b) (same_lines more others) h in
    λ i. same_line-true a b both.0 i ∷ same_lines-true more others both.1 i

-- a test, and four numbers that are equal to themselves
five_same : (k : Bool) (a b c d : ℕ) → k ≡ true → (k && (a == a) && (b == b) && (c == c) && (d == d)) ≡ true
five_same k a b c d h = grind (arith, nat_tests)

-- a line is the same as itself
pub same_line-self : (a : PricedLine) → same_line a a ≡ true
same_line-self a = five_same (same_key a.key a.key) a.quantity a.price a.freight a.voucher (same_key-self a.key)

-- lines are the same as themselves
pub same_lines-self : (lines : List PricedLine) → same_lines lines lines ≡ true
same_lines-self [] = refl
-- lines are the same as themselves
same_lines-self (a ∷ more) = rw (same_line-self a) (same_lines-self more)
