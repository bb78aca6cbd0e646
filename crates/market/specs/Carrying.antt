-- One request carried through the eight services, body by body, by the steps that they took.
use Rattle.std.specs.Prelude.{◌≡◌, ℕ, ◌+◌, ◌<◌, Bool, true, false, List, [], ◌∷◌, ◌++◌, length}
use Rattle.std.specs.List.{list_any}
use Rattle.market_amounts.specs.declared.keys.RequestId.{RequestId}
use Rattle.market_events.specs.declared.bodies.Body.{Body}
use Rattle.market_events.specs.declared.bodies.Body.TheVariants as body
use Rattle.market_events.specs.declared.bodies.Item.{Item}
use Rattle.market_events.specs.declared.links.Link.{Link}
use Rattle.market_events.specs.declared.links.Link.TheVariants.{Service, Asked}
use Rattle.market_events.specs.declared.requests.Request.{Request}
use Rattle.market_events.specs.Links.{service_by_ask, receiver_of}
use Rattle.market_events.specs.Requests.{lane_of, same_id}
use Rattle.market_events.specs.declared.roles.Role.{Role}
use Rattle.market_events.specs.Services.{answers, fits, IsRunOf, most_steps}
use Rattle.market_events.specs.Standing.{with_step}
use Rattle.market_events.specs.Steps.{Step, Sending, taken_bodies}
use Rattle.market_history.specs.Blocks.{role_at}

-- the steps that each of the services took
pub record Taken : Type 0 where
  pub carts : List Step
  pub products : List Step
  pub stocks : List Step
  pub orders : List Step
  pub payments : List Step
  pub shipments : List Step
  pub customers : List Step
  pub sellers : List Step

abbrev pub steps_taken : Taken → Role → List Step
steps_taken taken Role.Cart = taken.carts
steps_taken taken Role.Product = taken.products
steps_taken taken Role.Stock = taken.stocks
steps_taken taken Role.Order = taken.orders
steps_taken taken Role.Payment = taken.payments
steps_taken taken Role.Shipment = taken.shipments
steps_taken taken Role.Customer = taken.customers
steps_taken taken Role.Seller = taken.sellers

-- the steps with one more of this service
abbrev pub with_taken : Taken → Role → Link → Body → Taken
with_taken taken Role.Cart from b = record taken { carts = with_step Role.Cart taken.carts from b }
with_taken taken Role.Product from b =
    record taken { products = with_step Role.Product taken.products from b }
with_taken taken Role.Stock from b = record taken { stocks = with_step Role.Stock taken.stocks from b }
with_taken taken Role.Order from b = record taken { orders = with_step Role.Order taken.orders from b }
with_taken taken Role.Payment from b =
    record taken { payments = with_step Role.Payment taken.payments from b }
with_taken taken Role.Shipment from b =
    record taken { shipments = with_step Role.Shipment taken.shipments from b }
with_taken taken Role.Customer from b =
    record taken { customers = with_step Role.Customer taken.customers from b }
with_taken taken Role.Seller from b = record taken { sellers = with_step Role.Seller taken.sellers from b }

-- the link and the service to which a request comes
abbrev pub link_asked : Request → Link
link_asked r = Asked (lane_of r.id) (service_by_ask r.ask)

abbrev pub role_asked : Request → Role
role_asked r = role_at (service_by_ask r.ask)

abbrev pub with_request : Taken → Request → Taken
with_request taken r = with_taken taken (role_asked r) (link_asked r) (body.Asked r)

abbrev pub request_fits : Taken → Request → Bool
request_fits taken r = fits (role_asked r) (steps_taken taken (role_asked r)) (link_asked r) (body.Asked r)

abbrev pub request_answers : Taken → Request → List Sending
request_answers taken r =
    answers (role_asked r) (steps_taken taken (role_asked r)) (link_asked r) (body.Asked r)

-- the service to which a service link leads
abbrev pub role_told : ℕ → Role
role_told n = role_at (receiver_of (Service n))

-- what is made on a service link fits the service to which it leads; a reply is for no service
abbrev pub CanPass : Taken → Sending → Type 0
CanPass taken (Service n, b) = fits (role_told n) (steps_taken taken (role_told n)) (Service n) b ≡ true
CanPass taken (other, b) = Unit {0}

-- what that service makes of it
abbrev pub made_of : Taken → Sending → List Sending
made_of taken (Service n, b) = answers (role_told n) (steps_taken taken (role_told n)) (Service n) b
made_of taken (other, b) = []

abbrev pub passed : Taken → Sending → Taken
passed taken (Service n, b) = with_taken taken (role_told n) (Service n) b
passed taken (other, b) = taken

-- bodies that wait are carried: the first of them fits, and what is made of it goes behind the others, until
-- none is left; the trace has the bodies in the order in which they are carried
abbrev pub IsTrace : Taken → List Sending → List Sending → Type 0
IsTrace taken [] [] = Unit {0}
IsTrace taken (s ∷ more) (t ∷ trace) =
    (s ≡ t) × CanPass taken s × IsTrace (passed taken s) (more ++ made_of taken s) trace
IsTrace taken waiting trace = ⊥

-- the steps once they were carried
abbrev pub all_passed : Taken → List Sending → Taken
all_passed taken [] = taken
all_passed taken (s ∷ more) = all_passed (passed taken s) more

-- each service's steps are a run of it
abbrev pub AreRuns : Taken → Type 0
AreRuns taken = (role : Role) → IsRunOf role (steps_taken taken role)

-- the body is of this request, or of this checkout
abbrev pub concerns : RequestId → Body → Bool
concerns id (body.Asked request) = same_id request.id id
concerns id (body.Reserve checkout customer lines) = same_id checkout id
concerns id (body.ReserveFailed checkout key rule) = same_id checkout id
concerns id (body.StockConfirmed checkout customer lines) = same_id checkout id
concerns id (body.Invoice checkout customer lines total) = same_id checkout id
concerns id (body.Confirmed checkout customer lines total) = same_id checkout id
concerns id (body.Failed checkout customer rule) = same_id checkout id
concerns id (body.Ended checkout ending) = same_id checkout id
concerns id (body.Shipped checkout) = same_id checkout id
concerns id (body.Delivered items) = list_any (λ (i : Item). same_id i.checkout id) items
concerns id (body.Changed key version change) = false
concerns id (body.Told request reply) = same_id request id

-- no service took a body of this request
abbrev pub IsFresh : List Step → RequestId → Type 0
IsFresh steps id = list_any (concerns id) (taken_bodies steps) ≡ false

-- how many bodies a request makes at most
abbrev pub most_made : ℕ
most_made = 14

-- the request is new, and each service can take what it makes
pub record IsNew (taken : Taken) (r : Request) : Type 0 where
  pub fresh : (role : Role) → IsFresh (steps_taken taken role) r.id
  pub few : (role : Role) → length (steps_taken taken role) + most_made < most_steps
