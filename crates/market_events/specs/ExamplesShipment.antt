-- What shipments answer, case by case.
use Rattle.std.specs.Prelude.{◌≡◌, ℕ, List, [], ◌∷◌, ◌++◌, map}
use Rattle.std.specs.List.{range_with_len}
use Rattle.market_amounts.specs.declared.keys.ProductKey.{ProductKey}
use Rattle.market_events.specs.declared.bodies.Body.TheVariants as body
use Rattle.market_events.specs.declared.bodies.Item.{Item}
use Rattle.market_events.specs.declared.bodies.PricedLine.{PricedLine}
use Rattle.market_events.specs.declared.links.TheConstants.{PAYMENT_TO_SHIPMENT, SHIPMENT_TO_ORDER}
use Rattle.market_events.specs.declared.links.TheConstants.{SHIPMENT_TO_SELLER, SHIPMENT_TO_CUSTOMER}
use Rattle.market_events.specs.declared.replies.Reply.TheVariants as reply
use Rattle.market_events.specs.declared.requests.Ask.TheVariants as ask
use Rattle.market_events.specs.Examples.{a_key, an_id, a_line, an_item, request, answer, makes, mug, cup, pot}
use Rattle.market_events.specs.Examples.{basket, mug_paid, mug_shipped}
use Rattle.market_events.specs.Links.{shipment_node}
use Rattle.market_events.specs.Services.{Role, answers}
use Rattle.market_events.specs.Steps.{Step, Sending}

abbrev pub shipment_makes : List Step → Sending → List Sending
shipment_makes steps taken = answers Role.Shipment steps taken.0 taken.1

-- checkout n of customer 7 has a piece of each of these products, for 100, is paid and leaves
abbrev pub piece_of : ProductKey → PricedLine
piece_of key = a_line key 1 100 0 0

abbrev pub ships : ℕ → ℕ → List ProductKey → Step
ships n total keys =
    makes (PAYMENT_TO_SHIPMENT, body.Confirmed (an_id 7 n) 7 (map piece_of keys) total)
    ((SHIPMENT_TO_SELLER, body.Shipped (an_id 7 n)) ∷ (SHIPMENT_TO_ORDER, body.Shipped (an_id 7 n)) ∷ [])

-- the request with this number asks for a delivery, which is of these sellers and packages
abbrev pub deliver : ℕ → Sending
deliver number = request shipment_node number ask.Deliver

abbrev pub arrive : ℕ → ℕ → ℕ → List Item → List Sending
arrive number sellers count items =
    (SHIPMENT_TO_CUSTOMER, body.Delivered items) ∷ (SHIPMENT_TO_SELLER, body.Delivered items)
    ∷ (SHIPMENT_TO_ORDER, body.Delivered items)
    ∷ answer shipment_node number (reply.Delivered sellers count) ∷ []

abbrev pub nothing_arrives : ℕ → List Sending
nothing_arrives number = answer shipment_node number (reply.Delivered 0 0) ∷ []

abbrev pub base_shipped : List Step
base_shipped =
    makes (PAYMENT_TO_SHIPMENT, mug_paid) ((SHIPMENT_TO_SELLER, mug_shipped)
    ∷ (SHIPMENT_TO_ORDER, mug_shipped) ∷ []) ∷ []

-- checkout 1 is of seller 30, and checkout 2 of the sellers 1 to 10: eleven packages
abbrev pub of_seller : ℕ → ProductKey
of_seller seller = a_key seller 10

abbrev pub eleven_sellers : List Step
eleven_sellers = ships 1 100 (of_seller 30 ∷ []) ∷ ships 2 1000 (map of_seller (range_with_len 1 10)) ∷ []

-- the ten oldest packages are of seller 30 and of the sellers 1 to 9, and then comes that of seller 10
abbrev pub ten_items : List Item
ten_items = an_item (an_id 7 1) (of_seller 30)
    ∷ map (λ seller. an_item (an_id 7 2) (of_seller seller)) (range_with_len 1 9)

abbrev pub last_item : List Item
last_item = an_item (an_id 7 2) (of_seller 10) ∷ []

abbrev pub ten_delivered : List Step
ten_delivered = eleven_sellers ++ makes (deliver 8) (arrive 8 10 10 ten_items) ∷ []

abbrev pub all_delivered : List Step
all_delivered = ten_delivered ++ makes (deliver 9) (arrive 9 1 1 last_item) ∷ []

-- seller 5 has two packages of checkout 1 and one of checkout 2
abbrev pub two_checkouts : List Step
two_checkouts = ships 1 200 (mug ∷ cup ∷ []) ∷ ships 2 100 (mug ∷ []) ∷ []

abbrev pub older_items : List Item
older_items = an_item (an_id 7 1) mug ∷ an_item (an_id 7 1) cup ∷ []

abbrev pub older_delivered : List Step
older_delivered = two_checkouts ++ makes (deliver 8) (arrive 8 1 2 older_items) ∷ []

-- seller 5 has packages of both checkouts, and seller 6 one of checkout 2 alone
abbrev pub two_sellers : List Step
two_sellers = ships 1 100 (mug ∷ []) ∷ ships 2 200 (cup ∷ pot ∷ []) ∷ []

abbrev pub both_items : List Item
both_items = an_item (an_id 7 1) mug ∷ an_item (an_id 7 2) pot ∷ []

pub record ShipmentExamples : Type 0 where
  pub payment_is_shipped : shipment_makes [] (PAYMENT_TO_SHIPMENT, mug_paid)
      ≡ (SHIPMENT_TO_SELLER, mug_shipped) ∷ (SHIPMENT_TO_ORDER, mug_shipped) ∷ []
  pub deliver_none : shipment_makes [] (deliver 9) ≡ nothing_arrives 9
  pub deliver_base : shipment_makes base_shipped (deliver 9) ≡ arrive 9 1 1 (an_item basket mug ∷ [])
  pub deliver_base_again :
      shipment_makes (base_shipped ++ makes (deliver 8) (arrive 8 1 1 (an_item basket mug ∷ []))
      ∷ []) (deliver 9) ≡ nothing_arrives 9
  -- ten sellers at once
  pub ten_of_eleven_sellers : shipment_makes eleven_sellers (deliver 8) ≡ arrive 8 10 10 ten_items
  pub then_the_eleventh : shipment_makes ten_delivered (deliver 9) ≡ arrive 9 1 1 last_item
  pub then_none : shipment_makes all_delivered (deliver 10) ≡ nothing_arrives 10
  -- of a seller only the packages of the checkout of its oldest one
  pub older_checkout_of_a_seller : shipment_makes two_checkouts (deliver 8) ≡ arrive 8 1 2 older_items
  pub then_the_later_checkout : shipment_makes older_delivered (deliver 9)
      ≡ arrive 9 1 1 (an_item (an_id 7 2) mug ∷ [])
  pub each_seller_has_its_own_oldest : shipment_makes two_sellers (deliver 8) ≡ arrive 8 2 2 both_items
  pub then_what_is_left :
      shipment_makes (two_sellers ++ makes (deliver 8) (arrive 8 2 2 both_items) ∷ []) (deliver 9)
      ≡ arrive 9 1 1 (an_item (an_id 7 2) cup ∷ [])
