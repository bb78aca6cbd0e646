-- What the lanes keep, as a list, and how they find it.
use Rattle.std.specs.Prelude.{◌≡◌, ℕ, ◌<◌, List, Option, ◌==◌, find, count_by, position, slice_index}
use Rattle.std.specs.BTreeMap.{is_at}
use Rattle.std.specs.List.{AllByRecursion}
use Rattle.std.specs.Map.{lookup}
use Rattle.market_amounts.specs.Keys.{id_cmp}
use Rattle.market_amounts.specs.declared.keys.RequestId.{RequestId}
use Rattle.market_events.specs.Requests.{lane_of, same_id}
use Rattle.market_events.specs.WellFormed.{IsReply}
use Rattle.market.specs.declared.lanes.Kept.{Kept}
use Rattle.market_events.specs.declared.lanes.TheConstants.{LANES}

-- the kept request with this id
abbrev pub kept_at : List Kept → RequestId → Option Kept
kept_at kept id = find (λ (k : Kept). same_id k.request.id id) kept

-- where it stands
abbrev pub place_of : List Kept → RequestId → Option ℕ
place_of kept id = position (λ (k : Kept). same_id k.request.id id) kept

-- how many kept requests are of this id's lane
abbrev pub count_in_lane : List Kept → RequestId → ℕ
count_in_lane kept id = count_by (λ (k : Kept). lane_of k.request.id == lane_of id) kept

-- how many kept requests are of this lane
abbrev pub count_of_lane : List Kept → ℕ → ℕ
count_of_lane kept lane = count_by (λ (k : Kept). lane_of k.request.id == lane) kept

-- the place that the entries have for an id
abbrev pub place_at : List (RequestId × ℕ) → RequestId → Option ℕ
place_at places id = lookup (is_at (id_cmp id)) places

-- the reply of a kept request is well formed
abbrev pub IsFormed : Kept → Type 0
IsFormed kept = IsReply kept.reply

-- the places tell where each id stands, the replies are well formed, and the counts tell how many each lane
-- keeps
pub record AreLanesOf (kept : List Kept) (places : List (RequestId × ℕ)) (counts : List ℕ) : Type 0 where
  pub found : (id : RequestId) → place_at places id ≡ place_of kept id
  pub formed : AllByRecursion IsFormed kept
  pub counted : (lane : ℕ) → lane < LANES → slice_index counts lane ≡ count_of_lane kept lane
