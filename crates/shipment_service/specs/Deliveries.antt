-- What a delivery takes of the packages that wait, and what it leaves.
use Rattle.std.specs.Prelude.{◌≡◌, ◌≤◌, ℕ, ◌&&◌, Bool, false, not, List, [], ◌∷◌, ◌++◌, length, filter, take}
use Rattle.std.specs.Prelude.{if◌then◌else◌}
use Rattle.std.specs.List.{list_any}
use Rattle.market_events.specs.declared.bodies.Item.{Item}
use Rattle.market_events.specs.Requests.{same_id}
use Rattle.market_events.specs.Shipments.{most_sellers}
use Rattle.market_events.specs.WellFormed.{most_items}
use Rattle.shipment_service.specs.Tables.{of_seller, is_with, IsRising, Waits}

-- the first package of each seller, where front stands before them
abbrev pub heads_after : List (ℕ × Item) → List (ℕ × Item) → List (ℕ × Item)
heads_after front [] = []
heads_after front (p ∷ ps) =
    if list_any (of_seller p.1.key.seller) front then heads_after (front ++ p ∷ []) ps
    else p ∷ heads_after (front ++ p ∷ []) ps

-- those that a delivery serves
abbrev pub served_of : List (ℕ × Item) → List (ℕ × Item)
served_of waiting = take most_sellers (heads_after [] waiting)

-- the package has the seller and the checkout of one of these
abbrev pub goes : List (ℕ × Item) → ℕ × Item → Bool
goes served p =
    list_any (λ (o : ℕ × Item). of_seller p.1.key.seller o && same_id o.1.checkout p.1.checkout) served

-- the packages that a delivery takes, and those that it leaves
abbrev pub taken_of : List (ℕ × Item) → List (ℕ × Item)
taken_of waiting = filter (goes (served_of waiting)) waiting

abbrev pub left_of : List (ℕ × Item) → List (ℕ × Item)
left_of waiting = filter (λ p. not (goes (served_of waiting) p)) waiting

-- what stands behind those in front that pass
abbrev pub past : {A : Type 0} → (A → Bool) → List A → List A
past test [] = []
past test (x ∷ xs) = if test x then past test xs else x ∷ xs

-- the packages of one checkout stand together: behind those in front that are of a package's checkout none is
abbrev pub IsGrouped : List (ℕ × Item) → Type 0
IsGrouped [] = Unit {0}
IsGrouped (p ∷ ps) = (list_any (is_with p) (past (is_with p) ps) ≡ false) × IsGrouped ps

-- packages by rising number, those of a checkout together
pub record IsLined (waiting : List (ℕ × Item)) : Type 0 where
  pub rise : IsRising waiting
  pub grouped : IsGrouped waiting

-- the tables have packages of which a delivery takes no more than it may
pub record CanServe (queues : List (ℕ × List (ℕ × Item))) (oldest : List (ℕ × ℕ)) (waiting : List (ℕ × Item))
    : Type 0 where
  pub waits : Waits queues oldest waiting
  pub lined : IsLined waiting
  pub few : length (taken_of waiting) ≤ most_items
