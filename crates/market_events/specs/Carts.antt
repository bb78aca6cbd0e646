-- The cart: what it answers, by the changes that it took, the lines that customers set, and the checkouts
-- that it sent on.
use Rattle.std.specs.Prelude.{ℕ, Bool, true, false, ◌==◌, ◌&&◌, not, nat_le, List, [], ◌∷◌}
use Rattle.std.specs.Prelude.{Option, Some, None, option_map, length, filter_map, find}
use Rattle.std.specs.Prelude.{if◌then◌else◌}
use Rattle.std.specs.List.{list_any}
use Rattle.market_amounts.specs.declared.keys.ProductKey.{ProductKey}
use Rattle.market_amounts.specs.declared.keys.RequestId.{RequestId}
use Rattle.market_events.specs.declared.bodies.Body.{Body}
use Rattle.market_events.specs.declared.bodies.Body.TheVariants as body
use Rattle.market_events.specs.declared.bodies.Ending.{Ending}
use Rattle.market_events.specs.declared.bodies.Ending.TheVariants as ending
use Rattle.market_events.specs.declared.bodies.PayRule.{PayRule}
use Rattle.market_events.specs.declared.bodies.PayRule.TheVariants as pay
use Rattle.market_events.specs.declared.bodies.PricedLine.{PricedLine}
use Rattle.market_events.specs.declared.bodies.StockRule.{StockRule}
use Rattle.market_events.specs.declared.bodies.StockRule.TheVariants as stock
use Rattle.market_events.specs.declared.changes.Look.{Look}
use Rattle.market_events.specs.declared.changes.Look.TheVariants.{Unknown, Gone, Live}
use Rattle.market_events.specs.declared.links.TheConstants.{CART_TO_STOCK}
use Rattle.market_events.specs.declared.replies.Reply.{Reply}
use Rattle.market_events.specs.declared.replies.Reply.TheVariants as reply
use Rattle.market_events.specs.declared.replies.Rule.TheVariants as rule
use Rattle.market_events.specs.declared.replies.UndoneRule.{UndoneRule}
use Rattle.market_events.specs.declared.replies.UndoneRule.TheVariants as undone
use Rattle.market_events.specs.declared.requests.Ask.{Ask}
use Rattle.market_events.specs.declared.requests.Ask.TheVariants as ask
use Rattle.market_events.specs.Copies.{ProductChange, copy_of, last_some}
use Rattle.market_events.specs.Links.{cart_node}
use Rattle.market_events.specs.Looks.{is_live}
use Rattle.market_events.specs.Products.{change_in}
use Rattle.market_events.specs.Requests.{same_key}
use Rattle.market_events.specs.Steps.{Step, Sending, taken_bodies, told, refused, listed}
use Rattle.market_events.specs.WellFormed.{most_lines}

-- the changes that were taken; they come on PRODUCT_TO_CART alone
abbrev pub changes_taken : List Step → List ProductChange
changes_taken steps = filter_map change_in (taken_bodies steps)

-- what a cart holds of a product: quantity and voucher
pub record Held : Type 0 where
  pub quantity : ℕ
  pub voucher : ℕ

-- a request was accepted: what was made for it tells no refusal
abbrev pub is_refusal : Sending → Bool
is_refusal (link, body.Told id (reply.Refused rule)) = true
is_refusal other = false

abbrev pub is_accepted : Step → Bool
is_accepted step = not (list_any is_refusal step.made)

-- a checkout was sent on to stock
abbrev pub is_reserve : Sending → Bool
is_reserve (link, body.Reserve checkout customer lines) = true
is_reserve other = false

abbrev pub is_sent_on : Step → Bool
is_sent_on step = list_any is_reserve step.made

-- what an accepted request of a customer leaves of a product in the cart: the line, or none
abbrev pub asked_leaves : ℕ → ProductKey → Ask → Bool → Bool → Option (Option Held)
asked_leaves customer key (ask.Line c k q v) accepted sent_on =
    if (c == customer) && same_key k key
    && accepted then Some (Some (record { quantity = q; voucher = v })) else None
asked_leaves customer key (ask.Remove c k) accepted sent_on =
    if (c == customer) && same_key k key && accepted then Some None else None
asked_leaves customer key (ask.Checkout c) accepted sent_on =
    if (c == customer) && sent_on then Some None else None
asked_leaves customer key other accepted sent_on = None

abbrev pub body_leaves : ℕ → ProductKey → Body → Bool → Bool → Option (Option Held)
body_leaves customer key (body.Asked request) accepted sent_on =
    asked_leaves customer key request.ask accepted sent_on
body_leaves customer key other accepted sent_on = None

abbrev pub leaves : ℕ → ProductKey → Step → Option (Option Held)
leaves customer key step = body_leaves customer key step.body (is_accepted step) (is_sent_on step)

abbrev pub joined : {A : Type 0} → Option (Option A) → Option A
joined None = None
joined (Some o) = o

-- by the last step that is an accepted line or remove of this customer and product, or a checkout of the
-- customer that was sent on: the product is in the basket where that step is a line, with its quantity and
-- voucher
abbrev pub basket_at : List Step → ℕ → ProductKey → Option Held
basket_at steps customer key = joined (last_some (leaves customer key) steps)

-- the product of a line that a customer asked for
abbrev pub line_key : ℕ → Ask → Option ProductKey
line_key customer (ask.Line c k q v) = if c == customer then Some k else None
line_key customer other = None

abbrev pub key_lined : ℕ → Body → Option ProductKey
key_lined customer (body.Asked request) = line_key customer request.ask
key_lined customer other = None

abbrev pub with_key : ProductKey → Option Held → Option (ProductKey × Held)
with_key key None = None
with_key key (Some held) = Some (key, held)

-- the basket of a customer by rising key
abbrev pub basket_of : List Step → ℕ → List (ProductKey × Held)
basket_of steps customer =
    listed (filter_map (λ key. with_key key (basket_at steps customer key))
    (filter_map (key_lined customer) (taken_bodies steps)))

pub record CartSums : Type 0 where
  pub look : ProductKey → Look
  pub basket : ℕ → List (ProductKey × Held)

abbrev pub cart_sums : List Step → CartSums
cart_sums steps = record { look = copy_of (changes_taken steps); basket = basket_of steps }

-- the product is in the basket
abbrev pub has_key : List (ProductKey × Held) → ProductKey → Bool
has_key basket key = list_any (λ (e : ProductKey × Held). same_key e.0 key) basket

-- view: what the copy shows
abbrev pub view_rows : RequestId → Look → List Sending
view_rows id Unknown = refused cart_node id rule.Unknown
view_rows id (Gone v) = refused cart_node id rule.Gone
view_rows id (Live v price freight) = told cart_node id (reply.View v price freight) ∷ []

-- line: refused where the product is unknown or gone, or where the basket is full and does not have it
abbrev pub line_rows : RequestId → ProductKey → ℕ → Look → List (ProductKey × Held) → List Sending
line_rows id key quantity Unknown basket = refused cart_node id rule.Unknown
line_rows id key quantity (Gone v) basket = refused cart_node id rule.Gone
line_rows id key quantity (Live v price freight) basket =
    if nat_le most_lines (length basket) && not (has_key basket key) then refused cart_node id rule.CartFull
    else told cart_node id (reply.Line quantity) ∷ []

-- remove: refused where the basket does not have it
abbrev pub remove_rows : RequestId → ProductKey → List (ProductKey × Held) → List Sending
remove_rows id key basket =
    if has_key basket key then told cart_node id reply.Removed ∷ [] else refused cart_node id rule.NoLine

-- a line of the basket with price and freight of what the copy shows
abbrev pub priced_by : ProductKey → Held → Look → Option PricedLine
priced_by key held (Live v price freight) =
    Some (record
    { key = key; quantity = held.quantity; price = price; freight = freight; voucher = held.voucher })
priced_by key held other = None

abbrev pub priced : (ProductKey → Look) → (ProductKey × Held) → Option PricedLine
priced look line = priced_by line.0 line.1 (look line.0)

-- the least product of the basket that is not live
abbrev pub first_gone : (ProductKey → Look) → List (ProductKey × Held) → Option ProductKey
first_gone look basket =
    option_map (λ (e : ProductKey
    × Held). e.0) (find (λ (e : ProductKey × Held). not (is_live (look e.0))) basket)

-- a checkout of an empty basket is undone, and one with a product that is not live; any other is sent on to
-- stock
abbrev pub checkout_rows : RequestId → ℕ → (ProductKey → Look) → List (ProductKey × Held) → Option ProductKey
    → List Sending
checkout_rows id customer look [] first = told cart_node id (reply.Undone undone.CartEmpty) ∷ []
checkout_rows id customer look (e ∷ es) (Some key) = told cart_node id (reply.Undone (undone.Gone key)) ∷ []
checkout_rows id customer look (e ∷ es) None =
    (CART_TO_STOCK, body.Reserve id customer (filter_map (priced look) (e ∷ es))) ∷ []

abbrev pub cart_asked : CartSums → RequestId → Ask → List Sending
cart_asked s id (ask.View key) = view_rows id (s.look key)
cart_asked s id (ask.Line customer key quantity voucher) =
    line_rows id key quantity (s.look key) (s.basket customer)
cart_asked s id (ask.Remove customer key) = remove_rows id key (s.basket customer)
cart_asked s id (ask.Checkout customer) =
    checkout_rows id customer s.look (s.basket customer) (first_gone s.look (s.basket customer))
cart_asked s id other = []

-- why a checkout is undone that stock or payment refused
abbrev pub undone_by_stock : StockRule → ProductKey → UndoneRule
undone_by_stock stock.Gone key = undone.Gone key
undone_by_stock stock.Short key = undone.Short key

abbrev pub undone_by_payment : PayRule → UndoneRule
undone_by_payment pay.NoCard = undone.NoCard
undone_by_payment pay.OverLimit = undone.OverLimit

abbrev pub reply_to_ending : Ending → Reply
reply_to_ending (ending.Whole total) = reply.Whole total
reply_to_ending (ending.Undone rule) = reply.Undone (undone_by_payment rule)

abbrev pub cart_rows : CartSums → Body → List Sending
cart_rows s (body.Asked request) = cart_asked s request.id request.ask
cart_rows s (body.ReserveFailed checkout key rule) =
    told cart_node checkout (reply.Undone (undone_by_stock rule key)) ∷ []
cart_rows s (body.Ended checkout ending) = told cart_node checkout (reply_to_ending ending) ∷ []
cart_rows s other = []
