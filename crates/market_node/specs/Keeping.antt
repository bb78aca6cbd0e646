-- How a lane finds the requests that it keeps, and their answers.
use Rattle.std.specs.Prelude.{◌≡◌, ℕ, ◌+◌, Bool, true, false, ◌&&◌, is_some, is_none, List, [], ◌∷◌, length}
use Rattle.std.specs.Prelude.{Option, Some, None, if◌then◌else◌}
use Rattle.std.specs.BTreeMap.{is_at}
use Rattle.std.specs.Map.{lookup}
use Rattle.market_amounts.specs.declared.keys.RequestId.{RequestId}
use Rattle.market_events.specs.declared.bodies.Body.{Body}
use Rattle.market_events.specs.declared.bodies.Body.TheVariants as body
use Rattle.market_events.specs.declared.events.Entry.{Entry}
use Rattle.market_events.specs.declared.events.What.{What}
use Rattle.market_events.specs.declared.events.What.TheVariants.{Given, Taken, Made, Answered}
use Rattle.market_events.specs.declared.requests.Request.{Request}
use Rattle.market_events.specs.Requests.{same_id}
use Rattle.market_events.specs.Steps.{id_cmp}
use Rattle.market_history.specs.Once.{with_id, requests_given, reply_in, reply_of}
use Rattle.market_node.specs.declared.table.Kept.{Kept}

-- the request with this id that it gives
abbrev pub given_in : RequestId → What → Option Request
given_in id (Given request) = if same_id request.id id then Some request else None
given_in id (Taken event) = None
given_in id (Made event) = None
given_in id (Answered i reply) = None

-- the place of the first entry at which f gives something, where the first of all stands at this place
abbrev pub place_or : {B : Type 0} → Option B → ℕ → Option ℕ → Option ℕ
place_or None place others = others
place_or (Some y) place others = Some place

abbrev pub first_place : {B : Type 0} → (What → Option B) → ℕ → List Entry → Option ℕ
first_place f place [] = None
first_place f place (x ∷ xs) = place_or (f x.what) place (first_place f (place + 1) xs)

abbrev pub kept_if : Option ℕ → Option ℕ → Option Kept
kept_if None answered = None
kept_if (Some given) answered = Some (record { given = given; answered = answered })

-- where the request with this id was given and answered
abbrev pub places_of_request : List Entry → RequestId → Option Kept
places_of_request entries id =
    kept_if (first_place (given_in id) 0 entries) (first_place (reply_in id) 0 entries)

-- what a table has of it
abbrev pub request_places_at : List (RequestId × Kept) → RequestId → Option Kept
request_places_at table id = lookup (is_at (id_cmp id)) table

abbrev pub newly_kept : ℕ → Kept
newly_kept place = record { given = place; answered = None }

abbrev pub with_answer : ℕ → Option Kept → Option Kept
with_answer place None = None
with_answer place (Some kept) = Some (record { given = kept.given; answered = Some place })

-- it is the request that waits
abbrev pub is_that : Option RequestId → RequestId → Bool
is_that None id = false
is_that (Some waiting) id = same_id waiting id

-- the request with this id was given, and has no reply yet
abbrev pub is_awaited : List Entry → RequestId → Bool
is_awaited entries id = is_some (with_id id (requests_given entries)) && is_none (reply_of entries id)

-- it tells the reply to a request
abbrev pub is_told : Body → Bool
is_told (body.Told id reply) = true
is_told other = false

-- a lane that is told the reply to a request awaits it
abbrev pub IsAwaitedBy : List Entry → Body → Type 0
IsAwaitedBy entries (body.Told id reply) = is_awaited entries id ≡ true
IsAwaitedBy entries other = Unit {0}

-- what a lane notes of the requests that it keeps: where each was given and answered, how many there are, and
-- which waits
pub record KeepsRequests (entries : List Entry) (table : List (RequestId
    × Kept)) (count : ℕ) (waiting : Option RequestId) : Type 0 where
  pub each : (id : RequestId) → request_places_at table id ≡ places_of_request entries id
  pub counted : count ≡ length (requests_given entries)
  pub awaited : (id : RequestId) → is_awaited entries id ≡ is_that waiting id
  -- what was answered was given
  pub answered : (id : RequestId) → with_id id (requests_given entries) ≡ None → reply_of entries id ≡ None
