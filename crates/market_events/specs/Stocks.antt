-- Stock: what it answers, by the changes that it took, the pieces that were stocked, and the reservations of
-- checkouts.
use Rattle.std.specs.Prelude.{ℕ, ◌+◌, ◌-◌, Bool, false, not, nat_lt, List, [], ◌∷◌}
use Rattle.std.specs.Prelude.{Option, Some, None, filter_map, if◌then◌else◌}
use Rattle.std.specs.List.{list_any, sum_by}
use Rattle.std.specs.Option.{option_or}
use Rattle.market_amounts.specs.declared.keys.ProductKey.{ProductKey}
use Rattle.market_amounts.specs.declared.keys.RequestId.{RequestId}
use Rattle.market_events.specs.declared.bodies.Body.{Body}
use Rattle.market_events.specs.declared.bodies.Body.TheVariants as body
use Rattle.market_events.specs.declared.bodies.PricedLine.{PricedLine}
use Rattle.market_events.specs.declared.bodies.StockRule.{StockRule}
use Rattle.market_events.specs.declared.bodies.StockRule.TheVariants as stock
use Rattle.market_events.specs.declared.changes.Look.{Look}
use Rattle.market_events.specs.declared.changes.Look.TheVariants.{Unknown, Gone, Live}
use Rattle.market_events.specs.declared.links.TheConstants.{STOCK_TO_CART, STOCK_TO_ORDER}
use Rattle.market_events.specs.declared.replies.Reply.TheVariants as reply
use Rattle.market_events.specs.declared.replies.Rule.TheVariants as rule
use Rattle.market_events.specs.declared.requests.Ask.{Ask}
use Rattle.market_events.specs.declared.requests.Ask.TheVariants as ask
use Rattle.market_events.specs.Carts.{changes_taken, is_accepted}
use Rattle.market_events.specs.Copies.{copy_of}
use Rattle.market_events.specs.Links.{stock_node}
use Rattle.market_events.specs.Looks.{is_live}
use Rattle.market_events.specs.Requests.{same_key, same_id}
use Rattle.market_events.specs.Steps.{Step, Sending, taken_bodies, made_on, told, refused}
use Rattle.market_events.specs.WellFormed.{pieces_max}

-- how many pieces of a product a request stocks
abbrev pub pieces_asked : ProductKey → Ask → ℕ
pieces_asked key (ask.Stock k pieces) = if same_key k key then pieces else 0
pieces_asked key other = 0

abbrev pub pieces_in : ProductKey → Body → ℕ
pieces_in key (body.Asked request) = pieces_asked key request.ask
pieces_in key other = 0

-- the pieces that were stocked: of the requests that were accepted
abbrev pub stocked : List Step → ProductKey → ℕ
stocked steps key = sum_by (λ (s : Step). if is_accepted s then pieces_in key s.body else 0) steps

-- a checkout whose pieces stock reserved
pub record Reservation : Type 0 where
  pub checkout : RequestId
  pub customer : ℕ
  pub lines : List PricedLine

abbrev pub reservation_in : Body → Option Reservation
reservation_in (body.StockConfirmed checkout customer lines) =
    Some (record { checkout = checkout; customer = customer; lines = lines })
reservation_in other = None

-- the reservations that were made, for orders
abbrev pub reservations : List Step → List Reservation
reservations steps = filter_map reservation_in (made_on STOCK_TO_ORDER steps)

-- the body is the payment of this checkout; or says that there is none
abbrev pub confirms : RequestId → Body → Bool
confirms id (body.Confirmed checkout customer lines total) = same_id checkout id
confirms id other = false

abbrev pub fails : RequestId → Body → Bool
fails id (body.Failed checkout customer rule) = same_id checkout id
fails id other = false

-- the body settles the checkout's reservation
abbrev pub settles : RequestId → Body → Bool
settles id (body.Confirmed checkout customer lines total) = same_id checkout id
settles id (body.Failed checkout customer rule) = same_id checkout id
settles id other = false

abbrev pub is_confirmed : List Step → RequestId → Bool
is_confirmed steps id = list_any (confirms id) (taken_bodies steps)

abbrev pub is_settled : List Step → RequestId → Bool
is_settled steps id = list_any (settles id) (taken_bodies steps)

-- how many pieces of a product the lines have
abbrev pub pieces_of : ProductKey → List PricedLine → ℕ
pieces_of key lines = sum_by (λ (line : PricedLine). if same_key line.key key then line.quantity else 0) lines

-- the pieces of reservations whose payment was taken
abbrev pub sold : List Step → ProductKey → ℕ
sold steps key =
    sum_by (λ (r : Reservation). if is_confirmed steps r.checkout then pieces_of key r.lines else 0)
    (reservations steps)

-- the pieces of reservations that nothing settled
abbrev pub reserved : List Step → ProductKey → ℕ
reserved steps key =
    sum_by (λ (r : Reservation). if is_settled steps r.checkout then 0 else pieces_of key r.lines)
    (reservations steps)

abbrev pub on_hand : List Step → ProductKey → ℕ
on_hand steps key = stocked steps key - sold steps key

pub record StockSums : Type 0 where
  pub look : ProductKey → Look
  pub on_hand : ProductKey → ℕ
  pub reserved : ProductKey → ℕ

abbrev pub stock_sums : List Step → StockSums
stock_sums steps =
    record { look = copy_of (changes_taken steps); on_hand = on_hand steps; reserved = reserved steps }

-- stock: refused where the product is unknown or gone, or where more would be on hand than can be
abbrev pub stock_rows : RequestId → ℕ → Look → ℕ → List Sending
stock_rows id pieces Unknown here = refused stock_node id rule.Unknown
stock_rows id pieces (Gone v) here = refused stock_node id rule.Gone
stock_rows id pieces (Live v price freight) here =
    if nat_lt pieces_max (here + pieces) then refused stock_node id rule.StockOver
    else told stock_node id (reply.Stocked (here + pieces)) ∷ []

-- level: refused where the product is unknown
abbrev pub level_rows : RequestId → Look → ℕ → ℕ → List Sending
level_rows id Unknown here held = refused stock_node id rule.Unknown
level_rows id other here held = told stock_node id (reply.Level here held) ∷ []

abbrev pub stock_asked : StockSums → RequestId → Ask → List Sending
stock_asked s id (ask.Stock key pieces) = stock_rows id pieces (s.look key) (s.on_hand key)
stock_asked s id (ask.Level key) = level_rows id (s.look key) (s.on_hand key) (s.reserved key)
stock_asked s id other = []

-- why a line is refused: its product is not live, or too few of its pieces are free
abbrev pub line_refusal : StockSums → PricedLine → Option (ProductKey × StockRule)
line_refusal s line =
    if not (is_live (s.look line.key)) then Some (line.key, stock.Gone)
    else if nat_lt (s.on_hand line.key - s.reserved line.key) line.quantity then Some (line.key, stock.Short)
    else None

-- what f gives at the first element at which it gives something
abbrev pub first_some : {A B : Type 0} → (A → Option B) → List A → Option B
first_some f [] = None
first_some f (x ∷ xs) = option_or (f x) (first_some f xs)

-- all lines are reserved, or none and the first refused line is named
abbrev pub reserve_rows : RequestId → ℕ → List PricedLine → Option (ProductKey × StockRule) → List Sending
reserve_rows id customer lines None = (STOCK_TO_ORDER, body.StockConfirmed id customer lines) ∷ []
reserve_rows id customer lines (Some refusal) =
    (STOCK_TO_CART, body.ReserveFailed id refusal.0 refusal.1) ∷ []

abbrev pub stock_taken_rows : StockSums → Body → List Sending
stock_taken_rows s (body.Asked request) = stock_asked s request.id request.ask
stock_taken_rows s (body.Reserve checkout customer lines) =
    reserve_rows checkout customer lines (first_some (line_refusal s) lines)
stock_taken_rows s other = []
