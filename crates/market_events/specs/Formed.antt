-- Whether a value is well formed, as a test.
use Rattle.std.specs.Prelude.{ℕ, Bool, true, false, ◌==◌, ◌&&◌, nat_le, List, length}
use Rattle.std.specs.List.{list_all}
use Rattle.market_amounts.specs.declared.keys.ProductKey.{ProductKey}
use Rattle.market_amounts.specs.declared.keys.RequestId.{RequestId}
use Rattle.market_events.specs.declared.bodies.Body.{Body}
use Rattle.market_events.specs.declared.bodies.Body.TheVariants as body
use Rattle.market_events.specs.declared.bodies.Ending.{Ending}
use Rattle.market_events.specs.declared.bodies.Ending.TheVariants as ending
use Rattle.market_events.specs.declared.bodies.Item.{Item}
use Rattle.market_events.specs.declared.bodies.PricedLine.{PricedLine}
use Rattle.market_events.specs.declared.changes.Change.{Change}
use Rattle.market_events.specs.declared.changes.Change.TheVariants as change
use Rattle.market_events.specs.declared.replies.EntryRow.{EntryRow}
use Rattle.market_events.specs.declared.replies.OrderStatus.{OrderStatus}
use Rattle.market_events.specs.declared.replies.OrderStatus.TheVariants as status
use Rattle.market_events.specs.declared.replies.Reply.{Reply}
use Rattle.market_events.specs.declared.replies.Reply.TheVariants as reply
use Rattle.market_events.specs.declared.replies.UndoneRule.{UndoneRule}
use Rattle.market_events.specs.declared.replies.UndoneRule.TheVariants as undone
use Rattle.market_events.specs.declared.requests.Ask.{Ask}
use Rattle.market_events.specs.declared.requests.Ask.TheVariants as ask
use Rattle.market_events.specs.declared.requests.Request.{Request}
use Rattle.market_events.specs.WellFormed.{id_max, cents_max, quantity_max, pieces_max, limit_max, total_max}
use Rattle.market_events.specs.WellFormed.{amount_max, most_lines, most_items, keys_rise, total_of}
use Rattle.market_events.specs.WellFormed.{most_rows_shown}

abbrev pub id_formed : ℕ → Bool
id_formed n = nat_le n id_max

abbrev pub cents_formed : ℕ → Bool
cents_formed n = nat_le n cents_max

abbrev pub quantity_formed : ℕ → Bool
quantity_formed n = nat_le 1 n && nat_le n quantity_max

abbrev pub pieces_formed : ℕ → Bool
pieces_formed n = nat_le n pieces_max

abbrev pub key_formed : ProductKey → Bool
key_formed key = id_formed key.seller && id_formed key.product

abbrev pub request_id_formed : RequestId → Bool
request_id_formed id = id_formed id.caller && id_formed id.number

abbrev pub line_formed : PricedLine → Bool
line_formed line =
    key_formed line.key && quantity_formed line.quantity && cents_formed line.price
    && cents_formed line.freight && cents_formed line.voucher

abbrev pub lines_formed : List PricedLine → Bool
lines_formed lines = nat_le 1 (length lines) && nat_le (length lines) most_lines && list_all line_formed lines
    && keys_rise lines

abbrev pub item_formed : Item → Bool
item_formed item = request_id_formed item.checkout && id_formed item.customer && key_formed item.key

abbrev pub items_formed : List Item → Bool
items_formed items = nat_le 1 (length items) && nat_le (length items) most_items && list_all item_formed items

abbrev pub status_in_progress : OrderStatus → Bool
status_in_progress status.Invoiced = true
status_in_progress status.Paid = true
status_in_progress status.Shipped = true
status_in_progress status.Delivered = false
status_in_progress status.Cancelled = false

abbrev pub row_formed : EntryRow → Bool
row_formed row =
    request_id_formed row.checkout && id_formed row.product && quantity_formed row.quantity
    && nat_le row.amount total_max && status_in_progress row.status

abbrev pub rows_formed : List EntryRow → Bool
rows_formed rows = nat_le (length rows) most_rows_shown && list_all row_formed rows

abbrev pub change_formed : Change → Bool
change_formed (change.Created price freight) = cents_formed price && cents_formed freight
change_formed (change.Priced price) = cents_formed price
change_formed change.Deleted = true

abbrev pub ask_formed : Ask → Bool
ask_formed (ask.Create key price freight) = key_formed key && cents_formed price && cents_formed freight
ask_formed (ask.Price key price) = key_formed key && cents_formed price
ask_formed (ask.Delete key) = key_formed key
ask_formed (ask.View key) = key_formed key
ask_formed (ask.Line customer key quantity voucher) =
    id_formed customer && key_formed key && quantity_formed quantity && cents_formed voucher
ask_formed (ask.Remove customer key) = id_formed customer && key_formed key
ask_formed (ask.Checkout customer) = id_formed customer
ask_formed (ask.Stock key pieces) = key_formed key && nat_le 1 pieces && pieces_formed pieces
ask_formed (ask.Level key) = key_formed key
ask_formed (ask.Order checkout) = request_id_formed checkout
ask_formed (ask.Card customer limit) = id_formed customer && nat_le limit limit_max
ask_formed ask.Deliver = true
ask_formed (ask.Customer customer) = id_formed customer
ask_formed (ask.Dashboard seller) = id_formed seller

abbrev pub request_formed : Request → Bool
request_formed request = request_id_formed request.id && ask_formed request.ask

abbrev pub undone_formed : UndoneRule → Bool
undone_formed undone.CartEmpty = true
undone_formed (undone.Gone key) = key_formed key
undone_formed (undone.Short key) = key_formed key
undone_formed undone.NoCard = true
undone_formed undone.OverLimit = true

abbrev pub reply_formed : Reply → Bool
reply_formed (reply.Created version) = id_formed version
reply_formed (reply.Priced version) = id_formed version
reply_formed (reply.Deleted version) = id_formed version
reply_formed (reply.View version price freight) =
    id_formed version && cents_formed price && cents_formed freight
reply_formed (reply.Line quantity) = quantity_formed quantity
reply_formed reply.Removed = true
reply_formed (reply.Whole total) = nat_le total total_max
reply_formed (reply.Undone rule) = undone_formed rule
reply_formed (reply.Stocked on_hand) = pieces_formed on_hand
reply_formed (reply.Level on_hand reserved) = pieces_formed on_hand && pieces_formed reserved
reply_formed (reply.OrderState status total) = nat_le total total_max
reply_formed (reply.Card limit) = nat_le limit limit_max
reply_formed (reply.Delivered sellers packages) = id_formed sellers && id_formed packages
reply_formed (reply.Customer confirmed failed delivered) =
    id_formed confirmed && id_formed failed && id_formed delivered
reply_formed (reply.Dashboard point entries amount rows) =
    id_formed point && id_formed entries && nat_le amount amount_max && rows_formed rows
reply_formed (reply.Refused rule) = true

abbrev pub ending_formed : Ending → Bool
ending_formed (ending.Whole total) = nat_le total total_max
ending_formed (ending.Undone rule) = true

abbrev pub checkout_formed : RequestId → ℕ → List PricedLine → Bool
checkout_formed checkout customer lines =
    request_id_formed checkout && id_formed customer && lines_formed lines

abbrev pub body_formed : Body → Bool
body_formed (body.Changed key version change) = key_formed key && id_formed version && change_formed change
body_formed (body.Reserve checkout customer lines) = checkout_formed checkout customer lines
body_formed (body.ReserveFailed checkout key rule) = request_id_formed checkout && key_formed key
body_formed (body.StockConfirmed checkout customer lines) = checkout_formed checkout customer lines
body_formed (body.Invoice checkout customer lines total) =
    checkout_formed checkout customer lines && (total == total_of lines)
body_formed (body.Confirmed checkout customer lines total) =
    checkout_formed checkout customer lines && (total == total_of lines)
body_formed (body.Ended checkout ending) = request_id_formed checkout && ending_formed ending
body_formed (body.Failed checkout customer rule) = request_id_formed checkout && id_formed customer
body_formed (body.Shipped checkout) = request_id_formed checkout
body_formed (body.Delivered items) = items_formed items
body_formed (body.Asked request) = request_formed request
body_formed (body.Told id reply) = request_id_formed id && reply_formed reply
