-- The texts of requests, replies and bodies: their words, with single spaces between them.
use Rattle.std.specs.Prelude.{ℕ, List, [], ◌∷◌, map, codes}
use Rattle.std.specs.Fmt.{decimal}
use Rattle.std.specs.List.{join_with_byte}
pub use Rattle.market_words.specs.Names.{id_text, key_text}
use Rattle.market_events.specs.declared.bodies.PricedLine.{PricedLine}
use Rattle.market_events.specs.declared.bodies.Item.{Item}
use Rattle.market_events.specs.declared.bodies.Ending.{Ending}
use Rattle.market_events.specs.declared.bodies.Ending.TheVariants as ending
use Rattle.market_events.specs.declared.bodies.PayRule.{PayRule}
use Rattle.market_events.specs.declared.bodies.PayRule.TheVariants as pay
use Rattle.market_events.specs.declared.bodies.StockRule.{StockRule}
use Rattle.market_events.specs.declared.bodies.StockRule.TheVariants as stock
use Rattle.market_events.specs.declared.bodies.Body.{Body}
use Rattle.market_events.specs.declared.bodies.Body.TheVariants as body
use Rattle.market_events.specs.declared.changes.Change.{Change}
use Rattle.market_events.specs.declared.changes.Change.TheVariants as change
use Rattle.market_events.specs.declared.replies.EntryRow.{EntryRow}
use Rattle.market_events.specs.declared.replies.OrderStatus.{OrderStatus}
use Rattle.market_events.specs.declared.replies.OrderStatus.TheVariants as status
use Rattle.market_events.specs.declared.replies.Reply.{Reply}
use Rattle.market_events.specs.declared.replies.Reply.TheVariants as reply
use Rattle.market_events.specs.declared.replies.Rule.{Rule}
use Rattle.market_events.specs.declared.replies.Rule.TheVariants as rule
use Rattle.market_events.specs.declared.replies.UndoneRule.{UndoneRule}
use Rattle.market_events.specs.declared.replies.UndoneRule.TheVariants as undone
use Rattle.market_events.specs.declared.requests.Ask.{Ask}
use Rattle.market_events.specs.declared.requests.Ask.TheVariants as ask
use Rattle.market_events.specs.declared.requests.Request.{Request}

-- words with single spaces between them
abbrev pub spaced : List (List ℕ) → List ℕ
spaced words = join_with_byte 32 words

-- SELLER:PRODUCT:QUANTITY:PRICE:FREIGHT:VOUCHER
abbrev pub line_text : PricedLine → List ℕ
line_text line = join_with_byte 58
    (decimal line.key.seller ∷ decimal line.key.product ∷ decimal line.quantity ∷ decimal line.price
    ∷ decimal line.freight ∷ decimal line.voucher ∷ [])

-- lines, joined by `;`
abbrev pub lines_text : List PricedLine → List ℕ
lines_text lines = join_with_byte 59 (map line_text lines)

-- ID:CUSTOMER:SELLER:PRODUCT
abbrev pub item_text : Item → List ℕ
item_text item =
    join_with_byte 58 (id_text item.checkout ∷ decimal item.customer ∷ decimal item.key.seller
    ∷ decimal item.key.product ∷ [])

-- items, joined by `;`
abbrev pub items_text : List Item → List ℕ
items_text items = join_with_byte 59 (map item_text items)

abbrev pub status_text : OrderStatus → List ℕ
status_text status.Invoiced = codes "invoiced"
status_text status.Paid = codes "paid"
status_text status.Shipped = codes "shipped"
status_text status.Delivered = codes "delivered"
status_text status.Cancelled = codes "cancelled"

-- ID:PRODUCT:QUANTITY:AMOUNT:STATUS
abbrev pub row_text : EntryRow → List ℕ
row_text row =
    join_with_byte 58 (id_text row.checkout ∷ decimal row.product ∷ decimal row.quantity ∷ decimal row.amount
    ∷ status_text row.status ∷ [])

-- the kind of a request and its arguments
abbrev pub ask_words : Ask → List (List ℕ)
ask_words (ask.Create key price freight) =
    codes "create" ∷ decimal key.seller ∷ decimal key.product ∷ decimal price ∷ decimal freight ∷ []
ask_words (ask.Price key price) =
    codes "price" ∷ decimal key.seller ∷ decimal key.product ∷ decimal price ∷ []
ask_words (ask.Delete key) = codes "delete" ∷ decimal key.seller ∷ decimal key.product ∷ []
ask_words (ask.View key) = codes "view" ∷ decimal key.seller ∷ decimal key.product ∷ []
ask_words (ask.Line customer key quantity voucher) =
    codes "line" ∷ decimal customer ∷ decimal key.seller ∷ decimal key.product ∷ decimal quantity
    ∷ decimal voucher ∷ []
ask_words (ask.Remove customer key) =
    codes "remove" ∷ decimal customer ∷ decimal key.seller ∷ decimal key.product ∷ []
ask_words (ask.Checkout customer) = codes "checkout" ∷ decimal customer ∷ []
ask_words (ask.Stock key pieces) =
    codes "stock" ∷ decimal key.seller ∷ decimal key.product ∷ decimal pieces ∷ []
ask_words (ask.Level key) = codes "level" ∷ decimal key.seller ∷ decimal key.product ∷ []
ask_words (ask.Order checkout) = codes "order" ∷ decimal checkout.caller ∷ decimal checkout.number ∷ []
ask_words (ask.Card customer limit) = codes "card" ∷ decimal customer ∷ decimal limit ∷ []
ask_words ask.Deliver = codes "deliver" ∷ []
ask_words (ask.Customer customer) = codes "customer" ∷ decimal customer ∷ []
ask_words (ask.Dashboard seller) = codes "dashboard" ∷ decimal seller ∷ []

-- ID KIND ARGUMENT ..
abbrev pub request_words : Request → List (List ℕ)
request_words request = id_text request.id ∷ ask_words request.ask

-- why a request was refused
abbrev pub text_of_rule : Rule → List ℕ
text_of_rule rule.Exists = codes "exists"
text_of_rule rule.Unknown = codes "unknown"
text_of_rule rule.Gone = codes "gone"
text_of_rule rule.CartFull = codes "cart_full"
text_of_rule rule.NoLine = codes "no_line"
text_of_rule rule.StockOver = codes "stock_over"
text_of_rule rule.NoOrder = codes "no_order"
text_of_rule rule.LaneFull = codes "lane_full"
text_of_rule rule.RequestDiffers = codes "request_differs"

-- why a checkout was undone
abbrev pub undone_words : UndoneRule → List (List ℕ)
undone_words undone.CartEmpty = codes "cart_empty" ∷ []
undone_words (undone.Gone key) = codes "gone" ∷ decimal key.seller ∷ decimal key.product ∷ []
undone_words (undone.Short key) = codes "short" ∷ decimal key.seller ∷ decimal key.product ∷ []
undone_words undone.NoCard = codes "no_card" ∷ []
undone_words undone.OverLimit = codes "over_limit" ∷ []

abbrev pub reply_words : Reply → List (List ℕ)
reply_words (reply.Created version) = codes "created" ∷ decimal version ∷ []
reply_words (reply.Priced version) = codes "priced" ∷ decimal version ∷ []
reply_words (reply.Deleted version) = codes "deleted" ∷ decimal version ∷ []
reply_words (reply.View version price freight) =
    codes "view" ∷ decimal version ∷ decimal price ∷ decimal freight ∷ []
reply_words (reply.Line quantity) = codes "line" ∷ decimal quantity ∷ []
reply_words reply.Removed = codes "removed" ∷ []
reply_words (reply.Whole total) = codes "whole" ∷ decimal total ∷ []
reply_words (reply.Undone rule) = codes "undone" ∷ undone_words rule
reply_words (reply.Stocked on_hand) = codes "stocked" ∷ decimal on_hand ∷ []
reply_words (reply.Level on_hand reserved) = codes "level" ∷ decimal on_hand ∷ decimal reserved ∷ []
reply_words (reply.OrderState status total) = codes "order" ∷ status_text status ∷ decimal total ∷ []
reply_words (reply.Card limit) = codes "card" ∷ decimal limit ∷ []
reply_words (reply.Delivered sellers packages) = codes "delivered" ∷ decimal sellers ∷ decimal packages ∷ []
reply_words (reply.Customer confirmed failed delivered) =
    codes "customer" ∷ decimal confirmed ∷ decimal failed ∷ decimal delivered ∷ []
reply_words (reply.Dashboard point entries amount rows) =
    codes "dashboard" ∷ decimal point ∷ decimal entries ∷ decimal amount ∷ map row_text rows
reply_words (reply.Refused rule) = codes "refused" ∷ text_of_rule rule ∷ []

-- what a change tells
abbrev pub change_words : Change → List (List ℕ)
change_words (change.Created price freight) = codes "created" ∷ decimal price ∷ decimal freight ∷ []
change_words (change.Priced price) = codes "priced" ∷ decimal price ∷ []
change_words change.Deleted = codes "deleted" ∷ []

abbrev pub stock_rule_text : StockRule → List ℕ
stock_rule_text stock.Gone = codes "gone"
stock_rule_text stock.Short = codes "short"

abbrev pub pay_rule_text : PayRule → List ℕ
pay_rule_text pay.NoCard = codes "no_card"
pay_rule_text pay.OverLimit = codes "over_limit"

abbrev pub ending_words : Ending → List (List ℕ)
ending_words (ending.Whole total) = codes "whole" ∷ decimal total ∷ []
ending_words (ending.Undone rule) = codes "undone" ∷ pay_rule_text rule ∷ []

abbrev pub body_words : Body → List (List ℕ)
body_words (body.Changed key version change) =
    codes "changed" ∷ key_text key ∷ decimal version ∷ change_words change
body_words (body.Reserve checkout customer lines) =
    codes "reserve" ∷ id_text checkout ∷ decimal customer ∷ lines_text lines ∷ []
body_words (body.ReserveFailed checkout key rule) =
    codes "reserve_failed" ∷ id_text checkout ∷ key_text key ∷ stock_rule_text rule ∷ []
body_words (body.StockConfirmed checkout customer lines) =
    codes "stock_confirmed" ∷ id_text checkout ∷ decimal customer ∷ lines_text lines ∷ []
body_words (body.Invoice checkout customer lines total) =
    codes "invoice" ∷ id_text checkout ∷ decimal customer ∷ lines_text lines ∷ decimal total ∷ []
body_words (body.Confirmed checkout customer lines total) =
    codes "confirmed" ∷ id_text checkout ∷ decimal customer ∷ lines_text lines ∷ decimal total ∷ []
body_words (body.Ended checkout ending) = codes "ended" ∷ id_text checkout ∷ ending_words ending
body_words (body.Failed checkout customer rule) =
    codes "failed" ∷ id_text checkout ∷ decimal customer ∷ pay_rule_text rule ∷ []
body_words (body.Shipped checkout) = codes "shipped" ∷ id_text checkout ∷ []
body_words (body.Delivered items) = codes "delivered" ∷ items_text items ∷ []
body_words (body.Asked request) = codes "asked" ∷ request_words request
body_words (body.Told id reply) = codes "told" ∷ id_text id ∷ reply_words reply

abbrev pub text_of_request : Request → List ℕ
text_of_request request = spaced (request_words request)

abbrev pub text_of_reply : Reply → List ℕ
text_of_reply reply = spaced (reply_words reply)

abbrev pub text_of_body : Body → List ℕ
text_of_body body = spaced (body_words body)
