-- The sums over the steps of the services are the tables of the sequential market, and no checkout is open.
use Rattle.std.specs.Prelude.{◌≡◌, ℕ, ◌≤◌, true, false, List, [], ◌∷◌, ◌++◌, length, filter, filter_map}
use Rattle.std.specs.List.{list_any, list_all}
use Rattle.market_amounts.specs.declared.keys.ProductKey.{ProductKey}
use Rattle.market_amounts.specs.declared.keys.RequestId.{RequestId}
use Rattle.market_events.specs.declared.requests.Request.{Request}
use Rattle.market_events.specs.Carts.{changes_taken, basket_at}
use Rattle.market_events.specs.Customers.{confirmed_count, failed_count}
use Rattle.market_events.specs.Orders.{checkouts_taken, is_of, is_taken, ships, items_taken, order_total}
use Rattle.market_events.specs.Payments.{limit_of, spent}
use Rattle.market_events.specs.Products.{changes_made}
use Rattle.market_events.specs.Requests.{same_id}
use Rattle.market_events.specs.Sellers.{invoice_lines, seller_changes}
use Rattle.market_events.specs.declared.roles.Role.{Role}
use Rattle.market_events.specs.Shipments.{packages, items_made}
use Rattle.market_events.specs.Steps.{Step, Sending, taken_bodies}
use Rattle.market_events.specs.Stocks.{Reservation, reservations, fails, is_settled, sold, stocked}
use Rattle.market_history.specs.Acts.{Acts, line_at, pieces_stocked, pieces_sold, lines_of, total_by}
use Rattle.market_history.specs.Acts.{limit_by, count_for, packages_of_checkouts, paid_for_checkouts}
use Rattle.market_laws.specs.Runs.{lines_apart}
use Rattle.market.specs.Carrying.{Taken, IsTrace, IsFresh, most_made, all_passed, with_request, request_fits}
use Rattle.market.specs.Carrying.{request_answers, steps_taken}
use Rattle.market_history.specs.Sequential.{reply_told, sequential_reply, sequential_step}

pub record ProductsAgree (steps : List Step) (acts : Acts) : Type 0 where
  pub changes : changes_made steps ≡ acts.changes

pub record CartsAgree (steps : List Step) (acts : Acts) : Type 0 where
  pub changes : changes_taken steps ≡ acts.changes
  pub baskets : (customer : ℕ) (key : ProductKey)
      → basket_at steps customer key ≡ line_at acts.baskets customer key

-- each reservation is settled
pub record StocksAgree (steps : List Step) (acts : Acts) : Type 0 where
  pub changes : changes_taken steps ≡ acts.changes
  pub stocked : (key : ProductKey) → stocked steps key ≡ pieces_stocked acts.stocked key
  pub sold : (key : ProductKey) → sold steps key ≡ pieces_sold acts.whole key
  pub settled : list_all (λ (r : Reservation). is_settled steps r.checkout) (reservations steps) ≡ true

-- each order's checkout is whole and was shipped, or was not paid
pub record OrdersAgree (steps : List Step) (acts : Acts) : Type 0 where
  pub known : (id : RequestId)
      → list_any (is_of id) (checkouts_taken steps) ≡ list_any (is_of id) (acts.whole ++ acts.unpaid)
  pub orders : (id : RequestId)
      → filter (is_of id) (checkouts_taken steps) ≡ filter (is_of id) (acts.whole ++ acts.unpaid)
  pub total : (id : RequestId) → order_total steps id ≡ total_by acts id
  pub failed : (id : RequestId) → is_taken fails steps id ≡ list_any (is_of id) acts.unpaid
  pub shipped : (id : RequestId) → is_taken ships steps id ≡ list_any (is_of id) acts.whole
  pub items : items_taken steps ≡ acts.items

pub record PaymentsAgree (steps : List Step) (acts : Acts) : Type 0 where
  pub limit : (customer : ℕ) → limit_of steps customer ≡ limit_by acts.cards customer
  pub spent : (customer : ℕ) → spent steps customer ≡ paid_for_checkouts acts.whole customer

-- no package occurs twice
pub record ShipmentsAgree (steps : List Step) (acts : Acts) : Type 0 where
  pub packed : packages steps ≡ packages_of_checkouts acts.whole
  pub items : items_made steps ≡ acts.items
  pub apart : lines_apart [] (packages steps) ≡ true

pub record CustomersAgree (steps : List Step) (acts : Acts) : Type 0 where
  pub confirmed : (customer : ℕ) → confirmed_count steps customer ≡ count_for acts.whole customer
  pub failed : (customer : ℕ) → failed_count steps customer ≡ count_for acts.unpaid customer
  pub items : items_taken steps ≡ acts.items

pub record SellersAgree (steps : List Step) (acts : Acts) : Type 0 where
  pub entries : (seller : ℕ) → seller_changes steps seller ≡ acts.entries seller
  pub lines : (id : RequestId)
      → invoice_lines (taken_bodies steps) id ≡ lines_of (acts.whole ++ acts.unpaid) id
  pub shipped : (id : RequestId) → is_taken ships steps id ≡ list_any (is_of id) acts.whole
  pub items : items_taken steps ≡ acts.items

-- the sums of all eight are the tables
pub record HasTables (taken : Taken) (acts : Acts) : Type 0 where
  pub products : ProductsAgree taken.products acts
  pub carts : CartsAgree taken.carts acts
  pub stocks : StocksAgree taken.stocks acts
  pub orders : OrdersAgree taken.orders acts
  pub payments : PaymentsAgree taken.payments acts
  pub shipments : ShipmentsAgree taken.shipments acts
  pub customers : CustomersAgree taken.customers acts
  pub sellers : SellersAgree taken.sellers acts

-- the request is answered as the sequential market does: it fits its service, what is made of it is carried
-- through the services until none is left, one reply is told, and the sums are the tables once more
pub record IsAnswered (taken : Taken) (acts : Acts) (r : Request) : Type 0 where
  pub fit : request_fits taken r ≡ true
  pub trace : List Sending
  pub carried : IsTrace (with_request taken r) (request_answers taken r) trace
  pub replied : filter_map reply_told trace ≡ sequential_reply acts r ∷ []
  pub tables : HasTables (all_passed (with_request taken r) trace) (sequential_step acts r)
  pub few : length trace ≤ most_made
  pub fresh : (id : RequestId) → same_id r.id id ≡ false
      → ((role : Role) → IsFresh (steps_taken taken role) id)
      → (role : Role) → IsFresh (steps_taken (all_passed (with_request taken r) trace) role) id
