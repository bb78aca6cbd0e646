-- The tests of well-formed values decide what they test.
use Rattle.std.proofs.Common.{◌≡◌, ℕ, ◌≤◌, ◌==◌, nat_le, Bool, true, ◌&&◌, List, [], ◌∷◌, length, refl, arith, leb-true}
use Rattle.std.specs.Bool.{Decides}
use Rattle.std.specs.List.{list_all, AllByRecursion}
use Rattle.std.proofs.lemmas.Bool.Decides.{nat_tests, Decides-like, Decides-and, Decides-eqb}
use Rattle.market_amounts.specs.declared.keys.ProductKey.{ProductKey}
use Rattle.market_amounts.specs.declared.keys.RequestId.{RequestId}
use Rattle.market_events.specs.declared.bodies.Body.{Body}
use Rattle.market_events.specs.declared.bodies.Body.TheVariants as body
use Rattle.market_events.specs.declared.bodies.Ending.{Ending}
use Rattle.market_events.specs.declared.bodies.Ending.TheVariants as ending
use Rattle.market_events.specs.declared.bodies.Item.{Item}
use Rattle.market_events.specs.declared.bodies.PricedLine.{PricedLine}
use Rattle.market_events.specs.declared.changes.Change.{Change}
use Rattle.market_events.specs.declared.changes.Change.TheVariants as change
use Rattle.market_events.specs.declared.replies.EntryRow.{EntryRow}
use Rattle.market_events.specs.declared.replies.OrderStatus.{OrderStatus}
use Rattle.market_events.specs.declared.replies.OrderStatus.TheVariants as status
use Rattle.market_events.specs.declared.replies.Reply.{Reply}
use Rattle.market_events.specs.declared.replies.Reply.TheVariants as reply
use Rattle.market_events.specs.declared.replies.UndoneRule.{UndoneRule}
use Rattle.market_events.specs.declared.replies.UndoneRule.TheVariants as undone
use Rattle.market_events.specs.declared.requests.Ask.{Ask}
use Rattle.market_events.specs.declared.requests.Ask.TheVariants as ask
use Rattle.market_events.specs.declared.requests.Request.{Request}
use Rattle.market_events.specs.Formed.{id_formed, cents_formed, quantity_formed, pieces_formed, key_formed, request_id_formed, line_formed, lines_formed, item_formed, items_formed, status_in_progress, row_formed, rows_formed, change_formed, ask_formed, request_formed, undone_formed, reply_formed, ending_formed, checkout_formed, body_formed}
use Rattle.market_events.specs.WellFormed

-- what holds in any case
decides_nothing : Decides true (Unit {0})
decides_nothing = (λ e. tt, λ u. refl)

-- a limit
at_most : (a b : ℕ) → Decides (nat_le a b) (a ≤ b)
at_most a b = (leb-true a b, λ h. grind (arith, nat_tests, h))

-- each of a list
pub each_of : {X : Type 0} (test : X → Bool) (P : X → Type 0) → ((x : X) → Decides (test x) (P x)) → (xs : List X) → Decides (list_all test xs) (AllByRecursion P xs)
each_of test P each [] = decides_nothing
each_of test P each (x ∷ xs) = Decides-and (test x) (list_all test xs) (each x) (each_of test P each xs)

-- three and more tests
three : {P Q R : Type 0} (x y z : Bool) → Decides x P → Decides y Q → Decides z R → Decides (x && y && z) (P × Q × R)
three x y z p q r = Decides-like (x && y && z) (λ h. (h.0.0, h.0.1, h.1)) (λ h. ((h.0, h.1), h.2)) (Decides-and (x && y) z (Decides-and x y p q) r)

four : {P Q R S : Type 0} (x y z w : Bool) → Decides x P → Decides y Q → Decides z R → Decides w S → Decides (x && y && z && w) (P × Q × R × S)
four x y z w p q r s = Decides-like (x && y && z && w) (λ h. (h.0.0, h.0.1, h.0.2, h.1)) (λ h. ((h.0, h.1, h.2), h.3)) (Decides-and (x && y && z) w (three x y z p q r) s)

five : {P Q R S T : Type 0} (x y z w v : Bool) → Decides x P → Decides y Q → Decides z R → Decides w S → Decides v T → Decides (x && y && z && w && v) (P × Q × R × S × T)
five x y z w v p q r s t = Decides-like (x && y && z && w && v) (λ h. (h.0.0, h.0.1, h.0.2, h.0.3, h.1)) (λ h. ((h.0, h.1, h.2, h.3), h.4)) (Decides-and (x && y && z && w) v (four x y z w p q r s) t)

-- numbers
id_decides : (n : ℕ) → Decides (id_formed n) (WellFormed.IsId n)
id_decides n = at_most n WellFormed.id_max

cents_decides : (n : ℕ) → Decides (cents_formed n) (WellFormed.AreCents n)
cents_decides n = at_most n WellFormed.cents_max

quantity_decides : (n : ℕ) → Decides (quantity_formed n) (WellFormed.IsQuantity n)
quantity_decides n = Decides-and (nat_le 1 n) (nat_le n WellFormed.quantity_max) (at_most 1 n) (at_most n WellFormed.quantity_max)

-- keys and ids
pub key_decides : (key : ProductKey) → Decides (key_formed key) (WellFormed.IsKey key)
key_decides key =
    Decides-like (key_formed key) (λ h. record { seller = h.0; product = h.1 }) (λ h. (h.seller, h.product))
    (Decides-and (id_formed key.seller) (id_formed key.product) (id_decides key.seller) (id_decides key.product))

pub request_id_decides : (id : RequestId) → Decides (request_id_formed id) (WellFormed.IsRequestId id)
request_id_decides id =
    Decides-like (request_id_formed id) (λ h. record { caller = h.0; number = h.1 }) (λ h. (h.caller, h.number))
    (Decides-and (id_formed id.caller) (id_formed id.number) (id_decides id.caller) (id_decides id.number))

-- lines
pub line_decides : (line : PricedLine) → Decides (line_formed line) (WellFormed.IsLine line)
line_decides line =
    Decides-like (line_formed line)
    (λ h. record { key = h.0; quantity = h.1; price = h.2; freight = h.3; voucher = h.4 })
    (λ h. (h.key, h.quantity, h.price, h.freight, h.voucher))
    (five (key_formed line.key) (quantity_formed line.quantity) (cents_formed line.price) (cents_formed line.freight) (cents_formed line.voucher)
    (key_decides line.key) (quantity_decides line.quantity) (cents_decides line.price) (cents_decides line.freight) (cents_decides line.voucher))

pub lines_decide : (lines : List PricedLine) → Decides (lines_formed lines) (WellFormed.AreLines lines)
lines_decide lines =
    Decides-like (lines_formed lines)
    (λ h. record { some = h.0; most = h.1; each = h.2; rise = h.3 })
    (λ h. (h.some, h.most, h.each, h.rise))
    (four (nat_le 1 (length lines)) (nat_le (length lines) WellFormed.most_lines) (list_all line_formed lines) (WellFormed.keys_rise lines)
    (at_most 1 (length lines)) (at_most (length lines) WellFormed.most_lines) (each_of line_formed WellFormed.IsLine line_decides lines) (λ h. h, λ h. h))

-- items
pub item_decides : (item : Item) → Decides (item_formed item) (WellFormed.IsItem item)
item_decides item =
    Decides-like (item_formed item)
    (λ h. record { checkout = h.0; customer = h.1; key = h.2 })
    (λ h. (h.checkout, h.customer, h.key))
    (three (request_id_formed item.checkout) (id_formed item.customer) (key_formed item.key)
    (request_id_decides item.checkout) (id_decides item.customer) (key_decides item.key))

pub items_decide : (items : List Item) → Decides (items_formed items) (WellFormed.AreItems items)
items_decide items =
    Decides-like (items_formed items)
    (λ h. record { some = h.0; most = h.1; each = h.2 })
    (λ h. (h.some, h.most, h.each))
    (three (nat_le 1 (length items)) (nat_le (length items) WellFormed.most_items) (list_all item_formed items)
    (at_most 1 (length items)) (at_most (length items) WellFormed.most_items) (each_of item_formed WellFormed.IsItem item_decides items))

-- rows of a dashboard
status_decides : (s : OrderStatus) → Decides (status_in_progress s) (WellFormed.IsInProgress s)
status_decides status.Invoiced = decides_nothing
status_decides status.Paid = decides_nothing
status_decides status.Shipped = decides_nothing
status_decides status.Delivered = (λ e. cc, λ no. absurd no)
status_decides status.Cancelled = (λ e. cc, λ no. absurd no)

row_decides : (row : EntryRow) → Decides (row_formed row) (WellFormed.IsRow row)
row_decides row =
    Decides-like (row_formed row)
    (λ h. record { checkout = h.0; product = h.1; quantity = h.2; amount = h.3; status = h.4 })
    (λ h. (h.checkout, h.product, h.quantity, h.amount, h.status))
    (five (request_id_formed row.checkout) (id_formed row.product) (quantity_formed row.quantity) (nat_le row.amount WellFormed.total_max) (status_in_progress row.status)
    (request_id_decides row.checkout) (id_decides row.product) (quantity_decides row.quantity) (at_most row.amount WellFormed.total_max) (status_decides row.status))

rows_decide : (rows : List EntryRow) → Decides (rows_formed rows) (WellFormed.AreRows rows)
rows_decide rows =
    Decides-like (rows_formed rows) (λ h. record { most = h.0; each = h.1 }) (λ h. (h.most, h.each))
    (Decides-and (nat_le (length rows) WellFormed.most_rows_shown) (list_all row_formed rows)
    (at_most (length rows) WellFormed.most_rows_shown) (each_of row_formed WellFormed.IsRow row_decides rows))

-- changes
change_decides : (c : Change) → Decides (change_formed c) (WellFormed.IsChange c)
change_decides (change.Created price freight) = Decides-and (cents_formed price) (cents_formed freight) (cents_decides price) (cents_decides freight)
change_decides (change.Priced price) = cents_decides price
change_decides change.Deleted = decides_nothing

-- requests
ask_decides : (a : Ask) → Decides (ask_formed a) (WellFormed.IsAsk a)
ask_decides (ask.Create key price freight) = three (key_formed key) (cents_formed price) (cents_formed freight) (key_decides key) (cents_decides price) (cents_decides freight)
ask_decides (ask.Price key price) = Decides-and (key_formed key) (cents_formed price) (key_decides key) (cents_decides price)
ask_decides (ask.Delete key) = key_decides key
ask_decides (ask.View key) = key_decides key
ask_decides (ask.Line customer key quantity voucher) =
    four (id_formed customer) (key_formed key) (quantity_formed quantity) (cents_formed voucher) (id_decides customer) (key_decides key) (quantity_decides quantity) (cents_decides voucher)
ask_decides (ask.Remove customer key) = Decides-and (id_formed customer) (key_formed key) (id_decides customer) (key_decides key)
ask_decides (ask.Checkout customer) = id_decides customer
ask_decides (ask.Stock key pieces) = three (key_formed key) (nat_le 1 pieces) (pieces_formed pieces) (key_decides key) (at_most 1 pieces) (at_most pieces WellFormed.pieces_max)
ask_decides (ask.Level key) = key_decides key
ask_decides (ask.Order checkout) = request_id_decides checkout
ask_decides (ask.Card customer limit) = Decides-and (id_formed customer) (nat_le limit WellFormed.limit_max) (id_decides customer) (at_most limit WellFormed.limit_max)
ask_decides ask.Deliver = decides_nothing
ask_decides (ask.Customer customer) = id_decides customer
ask_decides (ask.Dashboard seller) = id_decides seller

pub request_decides : (request : Request) → Decides (request_formed request) (WellFormed.IsRequest request)
request_decides request =
    Decides-like (request_formed request) (λ h. record { id = h.0; ask = h.1 }) (λ h. (h.id, h.ask))
    (Decides-and (request_id_formed request.id) (ask_formed request.ask) (request_id_decides request.id) (ask_decides request.ask))

-- replies
undone_decides : (rule : UndoneRule) → Decides (undone_formed rule) (WellFormed.IsUndoneRule rule)
undone_decides undone.CartEmpty = decides_nothing
undone_decides (undone.Gone key) = key_decides key
undone_decides (undone.Short key) = key_decides key
undone_decides undone.NoCard = decides_nothing
undone_decides undone.OverLimit = decides_nothing

pub reply_decides : (r : Reply) → Decides (reply_formed r) (WellFormed.IsReply r)
reply_decides (reply.Created version) = id_decides version
reply_decides (reply.Priced version) = id_decides version
reply_decides (reply.Deleted version) = id_decides version
reply_decides (reply.View version price freight) = three (id_formed version) (cents_formed price) (cents_formed freight) (id_decides version) (cents_decides price) (cents_decides freight)
reply_decides (reply.Line quantity) = quantity_decides quantity
reply_decides reply.Removed = decides_nothing
reply_decides (reply.Whole total) = at_most total WellFormed.total_max
reply_decides (reply.Undone rule) = undone_decides rule
reply_decides (reply.Stocked on_hand) = at_most on_hand WellFormed.pieces_max
reply_decides (reply.Level on_hand reserved) =
    Decides-and (pieces_formed on_hand) (pieces_formed reserved) (at_most on_hand WellFormed.pieces_max) (at_most reserved WellFormed.pieces_max)
reply_decides (reply.OrderState status total) = at_most total WellFormed.total_max
reply_decides (reply.Card limit) = at_most limit WellFormed.limit_max
reply_decides (reply.Delivered sellers packages) = Decides-and (id_formed sellers) (id_formed packages) (id_decides sellers) (id_decides packages)
reply_decides (reply.Customer confirmed failed delivered) =
    three (id_formed confirmed) (id_formed failed) (id_formed delivered) (id_decides confirmed) (id_decides failed) (id_decides delivered)
reply_decides (reply.Dashboard point entries amount rows) =
    four (id_formed point) (id_formed entries) (nat_le amount WellFormed.amount_max) (rows_formed rows) (id_decides point) (id_decides entries) (at_most amount WellFormed.amount_max) (rows_decide rows)
reply_decides (reply.Refused rule) = decides_nothing

-- endings
ending_decides : (e : Ending) → Decides (ending_formed e) (WellFormed.IsEnding e)
ending_decides (ending.Whole total) = at_most total WellFormed.total_max
ending_decides (ending.Undone rule) = decides_nothing

-- checkouts, with and without a total
checkout_decides : (checkout : RequestId) (customer : ℕ) (lines : List PricedLine) → Decides (checkout_formed checkout customer lines) (WellFormed.IsRequestId checkout × WellFormed.IsId customer × WellFormed.AreLines lines)
checkout_decides checkout customer lines =
    three (request_id_formed checkout) (id_formed customer) (lines_formed lines) (request_id_decides checkout) (id_decides customer) (lines_decide lines)

priced_decides : (checkout : RequestId) (customer : ℕ) (lines : List PricedLine) (total : ℕ) → Decides (checkout_formed checkout customer lines && (total == WellFormed.total_of lines))
    (WellFormed.IsRequestId checkout × WellFormed.IsId customer × WellFormed.AreLines lines × (total ≡ WellFormed.total_of lines))
priced_decides checkout customer lines total =
    Decides-like (checkout_formed checkout customer lines && (total == WellFormed.total_of lines)) (λ h. (h.0.0, h.0.1, h.0.2, h.1)) (λ h. ((h.0, h.1, h.2), h.3))
    (Decides-and (checkout_formed checkout customer lines) (total == WellFormed.total_of lines) (checkout_decides checkout customer lines) (Decides-eqb total (WellFormed.total_of lines)))

-- the test of a body decides whether it is well formed
pub body_decides : (b : Body) → Decides (body_formed b) (WellFormed.IsBody b)
body_decides (body.Changed key version c) = three (key_formed key) (id_formed version) (change_formed c) (key_decides key) (id_decides version) (change_decides c)
body_decides (body.Reserve checkout customer lines) = checkout_decides checkout customer lines
body_decides (body.ReserveFailed checkout key rule) = Decides-and (request_id_formed checkout) (key_formed key) (request_id_decides checkout) (key_decides key)
body_decides (body.StockConfirmed checkout customer lines) = checkout_decides checkout customer lines
body_decides (body.Invoice checkout customer lines total) = priced_decides checkout customer lines total
body_decides (body.Confirmed checkout customer lines total) = priced_decides checkout customer lines total
body_decides (body.Ended checkout e) = Decides-and (request_id_formed checkout) (ending_formed e) (request_id_decides checkout) (ending_decides e)
body_decides (body.Failed checkout customer rule) = Decides-and (request_id_formed checkout) (id_formed customer) (request_id_decides checkout) (id_decides customer)
body_decides (body.Shipped checkout) = request_id_decides checkout
body_decides (body.Delivered items) = items_decide items
body_decides (body.Asked request) = request_decides request
body_decides (body.Told id r) = Decides-and (request_id_formed id) (reply_formed r) (request_id_decides id) (reply_decides r)

-- a body that passes the test is well formed, and each well-formed body passes it
pub body_formed-IsBody : (b : Body) → body_formed b ≡ true → WellFormed.IsBody b
body_formed-IsBody b = (body_decides b).0

pub IsBody-body_formed : (b : Body) → WellFormed.IsBody b → body_formed b ≡ true
IsBody-body_formed b = (body_decides b).1
