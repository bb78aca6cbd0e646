-- Well-formed values: each number is in its range, lines and rows are as many as they may be, lines stand by
-- rising key, and a total beside lines is the sum of what they cost.
use Rattle.std.specs.Prelude.{◌≡◌, ℕ, ◌+◌, ◌≤◌, Bool, true, ◌&&◌, ◌||◌, ◌==◌, nat_lt, List, [], ◌∷◌, length}
use Rattle.std.specs.List.{AllByRecursion}
use Rattle.market_amounts.specs.declared.keys.ProductKey.{ProductKey}
use Rattle.market_amounts.specs.Amounts.{amount_of}
pub use Rattle.market_words.specs.Names.{id_max, IsId, IsKey, IsRequestId}
use Rattle.market_events.specs.declared.bodies.PricedLine.{PricedLine}
use Rattle.market_events.specs.declared.bodies.Item.{Item}
use Rattle.market_events.specs.declared.bodies.Ending.{Ending}
use Rattle.market_events.specs.declared.bodies.Ending.TheVariants as ending
use Rattle.market_events.specs.declared.bodies.Body.{Body}
use Rattle.market_events.specs.declared.bodies.Body.TheVariants as body
use Rattle.market_events.specs.declared.changes.Change.{Change}
use Rattle.market_events.specs.declared.changes.Change.TheVariants as change
use Rattle.market_events.specs.declared.events.Event.{Event}
use Rattle.market_events.specs.declared.events.Entry.{Entry}
use Rattle.market_events.specs.declared.events.What.{What}
use Rattle.market_events.specs.declared.events.What.TheVariants as what
use Rattle.market_events.specs.declared.replies.EntryRow.{EntryRow}
use Rattle.market_events.specs.declared.replies.OrderStatus.{OrderStatus}
use Rattle.market_events.specs.declared.replies.OrderStatus.TheVariants as status
use Rattle.market_events.specs.declared.replies.Reply.{Reply}
use Rattle.market_events.specs.declared.replies.Reply.TheVariants as reply
use Rattle.market_events.specs.declared.replies.UndoneRule.{UndoneRule}
use Rattle.market_events.specs.declared.replies.UndoneRule.TheVariants as undone
use Rattle.market_events.specs.declared.requests.Ask.{Ask}
use Rattle.market_events.specs.declared.requests.Ask.TheVariants as ask
use Rattle.market_events.specs.declared.requests.Request.{Request}

-- prices, freights and vouchers
abbrev pub cents_max : ℕ
cents_max = 1_000_000_000

-- pieces of a line
abbrev pub quantity_max : ℕ
quantity_max = 1_000

-- pieces that are stocked, on hand or reserved
abbrev pub pieces_max : ℕ
pieces_max = 1_000_000_000

-- the limit of a card
abbrev pub limit_max : ℕ
limit_max = 1_000_000_000_000_000

-- totals of checkouts and amounts of rows
abbrev pub total_max : ℕ
total_max = 18_446_744_073_709_551_615

-- the amount of a dashboard
abbrev pub amount_max : ℕ
amount_max = 340_282_366_920_938_463_463_374_607_431_768_211_455

abbrev pub most_lines : ℕ
most_lines = 32

abbrev pub most_items : ℕ
most_items = 320

abbrev pub most_rows_shown : ℕ
most_rows_shown = 50

abbrev pub AreCents : ℕ → Type 0
AreCents n = n ≤ cents_max

abbrev pub IsQuantity : ℕ → Type 0
IsQuantity n = (1 ≤ n) × (n ≤ quantity_max)

abbrev pub ArePieces : ℕ → Type 0
ArePieces n = n ≤ pieces_max

pub record IsLine (line : PricedLine) : Type 0 where
  pub key : IsKey line.key
  pub quantity : IsQuantity line.quantity
  pub price : AreCents line.price
  pub freight : AreCents line.freight
  pub voucher : AreCents line.voucher

-- one key is below another: by seller, and then by product
abbrev pub key_below : ProductKey → ProductKey → Bool
key_below a b = nat_lt a.seller b.seller || ((a.seller == b.seller) && nat_lt a.product b.product)

-- each line's key is below the next one's
abbrev pub keys_rise : List PricedLine → Bool
keys_rise [] = true
keys_rise (a ∷ []) = true
keys_rise (a ∷ b ∷ more) = key_below a.key b.key && keys_rise (b ∷ more)

-- what the lines cost together
abbrev pub total_of : List PricedLine → ℕ
total_of [] = 0
total_of (line ∷ more) = amount_of line.price line.quantity line.freight line.voucher + total_of more

pub record AreLines (lines : List PricedLine) : Type 0 where
  pub some : 1 ≤ length lines
  pub most : length lines ≤ most_lines
  pub each : AllByRecursion IsLine lines
  pub rise : keys_rise lines ≡ true

pub record IsItem (item : Item) : Type 0 where
  pub checkout : IsRequestId item.checkout
  pub customer : IsId item.customer
  pub key : IsKey item.key

pub record AreItems (items : List Item) : Type 0 where
  pub some : 1 ≤ length items
  pub most : length items ≤ most_items
  pub each : AllByRecursion IsItem items

-- an entry of a dashboard is in progress
abbrev pub IsInProgress : OrderStatus → Type 0
IsInProgress status.Invoiced = Unit {0}
IsInProgress status.Paid = Unit {0}
IsInProgress status.Shipped = Unit {0}
IsInProgress status.Delivered = ⊥
IsInProgress status.Cancelled = ⊥

pub record IsRow (row : EntryRow) : Type 0 where
  pub checkout : IsRequestId row.checkout
  pub product : IsId row.product
  pub quantity : IsQuantity row.quantity
  pub amount : row.amount ≤ total_max
  pub status : IsInProgress row.status

pub record AreRows (rows : List EntryRow) : Type 0 where
  pub most : length rows ≤ most_rows_shown
  pub each : AllByRecursion IsRow rows

abbrev pub IsChange : Change → Type 0
IsChange (change.Created price freight) = AreCents price × AreCents freight
IsChange (change.Priced price) = AreCents price
IsChange change.Deleted = Unit {0}

abbrev pub IsAsk : Ask → Type 0
IsAsk (ask.Create key price freight) = IsKey key × AreCents price × AreCents freight
IsAsk (ask.Price key price) = IsKey key × AreCents price
IsAsk (ask.Delete key) = IsKey key
IsAsk (ask.View key) = IsKey key
IsAsk (ask.Line customer key quantity voucher) =
    IsId customer × IsKey key × IsQuantity quantity × AreCents voucher
IsAsk (ask.Remove customer key) = IsId customer × IsKey key
IsAsk (ask.Checkout customer) = IsId customer
IsAsk (ask.Stock key pieces) = IsKey key × (1 ≤ pieces) × ArePieces pieces
IsAsk (ask.Level key) = IsKey key
IsAsk (ask.Order checkout) = IsRequestId checkout
IsAsk (ask.Card customer limit) = IsId customer × (limit ≤ limit_max)
IsAsk ask.Deliver = Unit {0}
IsAsk (ask.Customer customer) = IsId customer
IsAsk (ask.Dashboard seller) = IsId seller

pub record IsRequest (request : Request) : Type 0 where
  pub id : IsRequestId request.id
  pub ask : IsAsk request.ask

abbrev pub IsUndoneRule : UndoneRule → Type 0
IsUndoneRule undone.CartEmpty = Unit {0}
IsUndoneRule (undone.Gone key) = IsKey key
IsUndoneRule (undone.Short key) = IsKey key
IsUndoneRule undone.NoCard = Unit {0}
IsUndoneRule undone.OverLimit = Unit {0}

abbrev pub IsReply : Reply → Type 0
IsReply (reply.Created version) = IsId version
IsReply (reply.Priced version) = IsId version
IsReply (reply.Deleted version) = IsId version
IsReply (reply.View version price freight) = IsId version × AreCents price × AreCents freight
IsReply (reply.Line quantity) = IsQuantity quantity
IsReply reply.Removed = Unit {0}
IsReply (reply.Whole total) = total ≤ total_max
IsReply (reply.Undone rule) = IsUndoneRule rule
IsReply (reply.Stocked on_hand) = ArePieces on_hand
IsReply (reply.Level on_hand reserved) = ArePieces on_hand × ArePieces reserved
IsReply (reply.OrderState status total) = total ≤ total_max
IsReply (reply.Card limit) = limit ≤ limit_max
IsReply (reply.Delivered sellers packages) = IsId sellers × IsId packages
IsReply (reply.Customer confirmed failed delivered) = IsId confirmed × IsId failed × IsId delivered
IsReply (reply.Dashboard point entries amount rows) =
    IsId point × IsId entries × (amount ≤ amount_max) × AreRows rows
IsReply (reply.Refused rule) = Unit {0}

abbrev pub IsEnding : Ending → Type 0
IsEnding (ending.Whole total) = total ≤ total_max
IsEnding (ending.Undone rule) = Unit {0}

abbrev pub IsBody : Body → Type 0
IsBody (body.Changed key version change) = IsKey key × IsId version × IsChange change
IsBody (body.Reserve checkout customer lines) = IsRequestId checkout × IsId customer × AreLines lines
IsBody (body.ReserveFailed checkout key rule) = IsRequestId checkout × IsKey key
IsBody (body.StockConfirmed checkout customer lines) = IsRequestId checkout × IsId customer × AreLines lines
IsBody (body.Invoice checkout customer lines total) =
    IsRequestId checkout × IsId customer × AreLines lines × (total ≡ total_of lines)
IsBody (body.Confirmed checkout customer lines total) =
    IsRequestId checkout × IsId customer × AreLines lines × (total ≡ total_of lines)
IsBody (body.Ended checkout ending) = IsRequestId checkout × IsEnding ending
IsBody (body.Failed checkout customer rule) = IsRequestId checkout × IsId customer
IsBody (body.Shipped checkout) = IsRequestId checkout
IsBody (body.Delivered items) = AreItems items
IsBody (body.Asked request) = IsRequest request
IsBody (body.Told id reply) = IsRequestId id × IsReply reply

-- an event is well formed where its body is, and an entry where what stands in it is
pub record IsWellFormedEvent (event : Event) : Type 0 where
  pub body : IsBody event.body

abbrev pub IsWellFormedWhat : What → Type 0
IsWellFormedWhat (what.Given request) = IsRequest request
IsWellFormedWhat (what.Taken event) = IsWellFormedEvent event
IsWellFormedWhat (what.Made event) = IsWellFormedEvent event
IsWellFormedWhat (what.Answered id reply) = IsRequestId id × IsReply reply

pub record IsWellFormedEntry (entry : Entry) : Type 0 where
  pub what : IsWellFormedWhat entry.what
