-- What sellers answer, case by case.
use Rattle.std.specs.Prelude.{◌≡◌, ℕ, List, [], ◌∷◌, ◌++◌, map}
use Rattle.std.specs.List.{range_with_len}
use Rattle.market_amounts.specs.declared.keys.RequestId.{RequestId}
use Rattle.market_events.specs.declared.bodies.Body.TheVariants as body
use Rattle.market_events.specs.declared.bodies.PayRule.TheVariants as pay
use Rattle.market_events.specs.declared.bodies.PricedLine.{PricedLine}
use Rattle.market_events.specs.declared.links.TheConstants.{ORDER_TO_SELLER, PAYMENT_TO_SELLER}
use Rattle.market_events.specs.declared.links.TheConstants.{SHIPMENT_TO_SELLER}
use Rattle.market_events.specs.declared.replies.EntryRow.{EntryRow}
use Rattle.market_events.specs.declared.replies.OrderStatus.{OrderStatus}
use Rattle.market_events.specs.declared.replies.OrderStatus.TheVariants as status
use Rattle.market_events.specs.declared.replies.Reply.TheVariants as reply
use Rattle.market_events.specs.declared.requests.Ask.TheVariants as ask
use Rattle.market_events.specs.Examples.{a_key, an_id, a_line, an_item, strange_item, request, answer, quiet}
use Rattle.market_events.specs.Examples.{mug, cup, pot, basket, mug_invoice, mug_paid, mug_shipped}
use Rattle.market_events.specs.Links.{seller_node}
use Rattle.market_events.specs.Services.{Role, answers}
use Rattle.market_events.specs.Steps.{Step, Sending}

abbrev pub seller_makes : List Step → Sending → List Sending
seller_makes steps taken = answers Role.Seller steps taken.0 taken.1

-- request 9 asks for the dashboard of a seller
abbrev pub ask_of : ℕ → Sending
ask_of seller = request seller_node 9 (ask.Dashboard seller)

abbrev pub shows : ℕ → ℕ → ℕ → List EntryRow → List Sending
shows point number amount rows = answer seller_node 9 (reply.Dashboard point number amount rows) ∷ []

-- a row of checkout, product, quantity, amount and status
abbrev pub a_row : RequestId → ℕ → ℕ → ℕ → OrderStatus → EntryRow
a_row checkout product quantity amount status =
    record { checkout = checkout; product = product; quantity = quantity; amount = amount; status = status }

abbrev pub mug_row : OrderStatus → EntryRow
mug_row status = a_row basket 10 2 1950 status

-- the base workload's entry in each of its states
abbrev pub base_invoiced : List Step
base_invoiced = quiet (ORDER_TO_SELLER, mug_invoice) ∷ []

abbrev pub base_paid : List Step
base_paid = base_invoiced ++ quiet (PAYMENT_TO_SELLER, mug_paid) ∷ []

abbrev pub base_shipped : List Step
base_shipped = base_paid ++ quiet (SHIPMENT_TO_SELLER, mug_shipped) ∷ []

abbrev pub base_delivered : List Step
base_delivered = base_shipped ++ quiet (SHIPMENT_TO_SELLER, body.Delivered (an_item basket mug ∷ [])) ∷ []

-- and the same line once more, with the name of customer 8
abbrev pub two_delivered : List Step
two_delivered =
    base_delivered ++ quiet (SHIPMENT_TO_SELLER, body.Delivered (strange_item basket mug ∷ [])) ∷ []

abbrev pub base_cancelled : List Step
base_cancelled = base_invoiced ++ quiet (PAYMENT_TO_SELLER, body.Failed basket 7 pay.NoCard) ∷ []

-- checkout 6 has a cup and a mug of seller 5, and a pot of seller 6
abbrev pub three_lines : List PricedLine
three_lines = a_line mug 1 1000 50 0 ∷ a_line cup 1 30 60 100 ∷ a_line pot 3 30 60 0 ∷ []

-- 1050, 60 and 150 cost 1260
abbrev pub three_invoiced : List Step
three_invoiced = base_shipped ++ quiet (ORDER_TO_SELLER, body.Invoice (an_id 7 6) 7 three_lines 1260) ∷ []

abbrev pub three_shipped : List Step
three_shipped =
    three_invoiced ++ quiet (PAYMENT_TO_SELLER, body.Confirmed (an_id 7 6) 7 three_lines 1260)
    ∷ quiet (SHIPMENT_TO_SELLER, body.Shipped (an_id 7 6)) ∷ []

-- the mug of checkout 6 arrives
abbrev pub one_delivered : List Step
one_delivered =
    three_shipped ++ quiet (SHIPMENT_TO_SELLER, body.Delivered (an_item (an_id 7 6) mug ∷ [])) ∷ []

-- checkouts 1 and 2 have 32 and 19 products of seller 8, of 100 each
abbrev pub lines_of_8 : ℕ → List PricedLine
lines_of_8 n = map (λ k. a_line (a_key 8 k) 1 100 0 0) (range_with_len 1 n)

abbrev pub rows_of_8 : ℕ → ℕ → List EntryRow
rows_of_8 checkout n = map (λ k. a_row (an_id 7 checkout) k 1 100 status.Invoiced) (range_with_len 1 n)

abbrev pub entries_51 : List Step
entries_51 =
    quiet (ORDER_TO_SELLER, body.Invoice (an_id 7 1) 7 (lines_of_8 32) 3200)
    ∷ quiet (ORDER_TO_SELLER, body.Invoice (an_id 7 2) 7 (lines_of_8 19) 1900) ∷ []

pub record SellerExamples : Type 0 where
  pub dashboard_of_none : seller_makes [] (ask_of 5) ≡ shows 0 0 0 []
  pub dashboard_of_other_seller : seller_makes base_shipped (ask_of 6) ≡ shows 0 0 0 []
  pub dashboard_invoiced : seller_makes base_invoiced (ask_of 5)
      ≡ shows 1 1 1950 (mug_row status.Invoiced ∷ [])
  pub dashboard_paid : seller_makes base_paid (ask_of 5) ≡ shows 2 1 1950 (mug_row status.Paid ∷ [])
  pub dashboard_shipped : seller_makes base_shipped (ask_of 5) ≡ shows 3 1 1950 (mug_row status.Shipped ∷ [])
  pub dashboard_delivered : seller_makes base_delivered (ask_of 5) ≡ shows 4 0 0 []
  -- each item is a change, and the entry stays delivered
  pub dashboard_with_a_line_delivered_twice : seller_makes two_delivered (ask_of 5) ≡ shows 5 0 0 []
  pub dashboard_cancelled : seller_makes base_cancelled (ask_of 5) ≡ shows 2 0 0 []
  -- two checkouts
  pub dashboard_of_two_checkouts :
      seller_makes three_invoiced (ask_of 5)
      ≡ shows 5 3 3060
      (mug_row status.Shipped ∷ a_row (an_id 7 6) 10 1 1050 status.Invoiced
      ∷ a_row (an_id 7 6) 11 1 60 status.Invoiced ∷ [])
  pub dashboard_of_seller_6 : seller_makes three_invoiced (ask_of 6)
      ≡ shows 1 1 150 (a_row (an_id 7 6) 10 3 150 status.Invoiced ∷ [])
  pub dashboard_with_one_delivered :
      seller_makes one_delivered (ask_of 5)
      ≡ shows 10 2 2010 (mug_row status.Shipped ∷ a_row (an_id 7 6) 11 1 60 status.Shipped ∷ [])
  pub dashboard_of_seller_6_shipped : seller_makes one_delivered (ask_of 6)
      ≡ shows 3 1 150 (a_row (an_id 7 6) 10 3 150 status.Shipped ∷ [])
  -- the first 50 of 51 entries
  pub dashboard_has_50_rows : seller_makes entries_51 (ask_of 8)
      ≡ shows 51 51 5100 (rows_of_8 1 32 ++ rows_of_8 2 18)
  -- other events
  pub invoice_is_nothing : seller_makes [] (ORDER_TO_SELLER, mug_invoice) ≡ []
  pub payment_is_nothing : seller_makes base_invoiced (PAYMENT_TO_SELLER, mug_paid) ≡ []
  pub failure_is_nothing : seller_makes base_invoiced (PAYMENT_TO_SELLER, body.Failed basket 7 pay.NoCard)
      ≡ []
  pub shipping_is_nothing : seller_makes base_paid (SHIPMENT_TO_SELLER, mug_shipped) ≡ []
  pub delivery_is_nothing : seller_makes base_shipped (
    SHIPMENT_TO_SELLER,
    body.Delivered (an_item basket mug
        ∷ []),
  ) ≡ []
