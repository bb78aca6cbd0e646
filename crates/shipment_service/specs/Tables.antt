-- What the tables of shipments hold, and what their methods make of them: all packages in the order of their
-- numbers, and those that wait for their delivery.
use Rattle.std.specs.Prelude.{◌≡◌, ℕ, ◌==◌, Bool, true, false, nat_lt, List, [], ◌∷◌, ◌++◌, Option, Some}
use Rattle.std.specs.Prelude.{◌↔◌, None, option_map, unwrap_or, map, filter, take, drop, fold, if◌then◌else◌}
use Rattle.std.specs.List.{enumerate_from, list_any, list_all, prefix_len}
use Rattle.std.specs.List.Sorted.{IsStrictlySortedBy}
use Rattle.std.specs.Map.{keys_of}
use Rattle.std.specs.Ordering.{nat_cmp}
use Rattle.market_amounts.specs.declared.keys.RequestId.{RequestId}
use Rattle.market_events.specs.declared.bodies.Item.{Item}
use Rattle.market_events.specs.declared.bodies.PricedLine.{PricedLine}
use Rattle.market_events.specs.Entries.{entry_at}
use Rattle.market_events.specs.Requests.{same_id}
use Rattle.shipment_service.specs.declared.package.Package.{Package}

-- the package of a line of a paid checkout
abbrev pub item_packed : RequestId → ℕ → PricedLine → Item
item_packed checkout customer line = record { checkout = checkout; customer = customer; key = line.key }

abbrev pub open_of : Item → Package
open_of item = record { item = item; is_open = true }

abbrev pub closed_of : Package → Package
closed_of p = record { item = p.item; is_open = false }

-- the packages, those closed whose numbers pass
abbrev pub close_if : (ℕ → Bool) → List Package → List Package
close_if test packages =
    map (λ (p : ℕ × Package). if test p.0 then closed_of p.1 else p.1) (enumerate_from 1 packages)

-- the number is one of these
abbrev pub is_one_of : List ℕ → ℕ → Bool
is_one_of numbers n = list_any (λ number. n == number) numbers

-- what the pairs put at a number, where o stood, the last one of it
abbrev pub put_at : {X : Type 0} → ℕ → Option X → List (ℕ × X) → Option X
put_at {X = X} n o pairs = fold (λ (o : Option X) (p : ℕ × X). if p.0 == n then Some p.1 else o) o pairs

-- the number is one of those of the pairs
abbrev pub has_number : {X : Type 0} → List (ℕ × X) → ℕ → Bool
has_number {X = X} pairs n = list_any (λ (p : ℕ × X). p.0 == n) pairs

-- pairs by rising number
abbrev pub IsRising : {X : Type 0} → List (ℕ × X) → Type 0
IsRising pairs = IsStrictlySortedBy nat_cmp (keys_of pairs)

-- the packages of a seller
abbrev pub of_seller : ℕ → ℕ × Item → Bool
of_seller seller p = p.1.key.seller == seller

abbrev pub queue_of : List (ℕ × Item) → ℕ → List (ℕ × Item)
queue_of waiting seller = filter (of_seller seller) waiting

-- two packages of one checkout
abbrev pub is_with : ℕ × Item → ℕ × Item → Bool
is_with p q = same_id p.1.checkout q.1.checkout

-- those in front that are of the checkout of the first one, and those behind them
abbrev pub group_len : List (ℕ × Item) → ℕ
group_len [] = 0
group_len (p ∷ ps) = prefix_len (is_with p) (p ∷ ps)

abbrev pub group_of : List (ℕ × Item) → List (ℕ × Item)
group_of queue = take (group_len queue) queue

abbrev pub behind_of : List (ℕ × Item) → List (ℕ × Item)
behind_of queue = drop (group_len queue) queue

-- the number of the first package
abbrev pub first_number : List (ℕ × Item) → Option ℕ
first_number [] = None
first_number (p ∷ ps) = Some p.0

-- the queue that the entries have of a seller
abbrev pub queue_at : List (ℕ × List (ℕ × Item)) → ℕ → List (ℕ × Item)
queue_at queues seller = unwrap_or (entry_at queues seller) []

-- the groups of these sellers, each with the number of its first package, and who comes next of them
abbrev pub groups_of : List (ℕ × List (ℕ × Item)) → List (ℕ × ℕ) → List (ℕ × Item)
groups_of queues [] = []
groups_of queues (t ∷ turns) = group_of (queue_at queues t.1) ++ groups_of queues turns

abbrev pub follower_of : List (ℕ × List (ℕ × Item)) → ℕ × ℕ → Option (ℕ × ℕ)
follower_of queues t = option_map (λ (n : ℕ). (n, t.1)) (first_number (behind_of (queue_at queues t.1)))

-- a queue after these sellers were served
abbrev pub served_queue : ℕ → List (ℕ × Item) → List (ℕ × ℕ) → List (ℕ × Item)
served_queue seller queue turns =
    fold (λ (q : List (ℕ × Item)) (t : ℕ × ℕ). if t.1 == seller then behind_of q else q) queue turns

-- the tables have these packages: the queue of each seller, and its seller at the number of the first one
pub record Waits (queues : List (ℕ × List (ℕ × Item))) (oldest : List (ℕ × ℕ)) (waiting : List (ℕ × Item))
    : Type 0 where
  pub queue : (seller : ℕ) → queue_at queues seller ≡ queue_of waiting seller
  pub first : (n seller : ℕ) →
      (entry_at oldest n ≡ Some seller) ↔ (first_number (queue_of waiting seller) ≡ Some n)

-- the numbers of the packages are below this one
abbrev pub AreBelow : ℕ → List (ℕ × Item) → Type 0
AreBelow n waiting = list_all (λ (p : ℕ × Item). nat_lt p.0 n) waiting ≡ true
