-- Ids of requests, and the lanes that take them in.
use Rattle.std.specs.Prelude.{ℕ, ◌%◌, Bool, true, false, ◌==◌, ◌&&◌}
use Rattle.market_amounts.specs.declared.keys.RequestId.{RequestId}
use Rattle.market_amounts.specs.declared.keys.ProductKey.{ProductKey}
use Rattle.market_events.specs.declared.lanes.TheConstants.{LANES}
use Rattle.market_events.specs.declared.requests.Ask.{Ask}
use Rattle.market_events.specs.declared.requests.Ask.TheVariants.{Create, Price, Delete, View, Line, Remove}
use Rattle.market_events.specs.declared.requests.Ask.TheVariants.{Checkout, Stock, Level, Order, Card}
use Rattle.market_events.specs.declared.requests.Ask.TheVariants.{Deliver, Customer, Dashboard}

-- the lane of a request
abbrev pub lane_of : RequestId → ℕ
lane_of id = id.caller % LANES

abbrev pub same_id : RequestId → RequestId → Bool
same_id a b = (a.caller == b.caller) && (a.number == b.number)

abbrev pub same_key : ProductKey → ProductKey → Bool
same_key a b = (a.seller == b.seller) && (a.product == b.product)

-- whether two requests ask for the same
abbrev pub same_ask : Ask → Ask → Bool
same_ask (Create k p f) (Create l q g) = same_key k l && (p == q) && (f == g)
same_ask (Price k p) (Price l q) = same_key k l && (p == q)
same_ask (Delete k) (Delete l) = same_key k l
same_ask (View k) (View l) = same_key k l
same_ask (Line c k q v) (Line d l r w) = (c == d) && same_key k l && (q == r) && (v == w)
same_ask (Remove c k) (Remove d l) = (c == d) && same_key k l
same_ask (Checkout c) (Checkout d) = c == d
same_ask (Stock k p) (Stock l q) = same_key k l && (p == q)
same_ask (Level k) (Level l) = same_key k l
same_ask (Order c) (Order d) = same_id c d
same_ask (Card c l) (Card d m) = (c == d) && (l == m)
same_ask Deliver Deliver = true
same_ask (Customer c) (Customer d) = c == d
same_ask (Dashboard s) (Dashboard t) = s == t
same_ask a b = false
