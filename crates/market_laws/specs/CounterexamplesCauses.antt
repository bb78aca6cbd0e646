-- Histories in which a checkout's events were made twice, or with no cause.
use Rattle.std.specs.Prelude.{◌≡◌, ◌≤◌, true, List, [], ◌∷◌, ◌++◌}
use Rattle.market_events.specs.declared.bodies.Body.{Body}
use Rattle.market_events.specs.declared.bodies.Body.TheVariants as body
use Rattle.market_events.specs.declared.bodies.Ending.TheVariants as ending
use Rattle.market_events.specs.declared.events.Entry.{Entry}
use Rattle.market_events.specs.declared.links.Link.{Link}
use Rattle.market_events.specs.declared.links.Link.TheVariants.{Asked, Told}
use Rattle.market_events.specs.declared.links.TheConstants.{CART_TO_STOCK, STOCK_TO_ORDER, ORDER_TO_SELLER}
use Rattle.market_events.specs.declared.links.TheConstants.{ORDER_TO_CART, PAYMENT_TO_STOCK}
use Rattle.market_events.specs.declared.links.TheConstants.{SHIPMENT_TO_SELLER, SHIPMENT_TO_CUSTOMER}
use Rattle.market_events.specs.declared.replies.Reply.TheVariants as reply
use Rattle.market_events.specs.declared.requests.Ask.TheVariants as ask
use Rattle.market_events.specs.Links.{cart_node, stock_node, order_node, payment_node, shipment_node}
use Rattle.market_history.specs.Checkouts.{is_kept_checkout}
use Rattle.market_history.specs.Examples.{id, request, event, given, made, caller_lane, caller_node}
use Rattle.market_history.specs.ExamplesCreate.{past}
use Rattle.market_history.specs.Histories.{Histories, with_journal}
use Rattle.market_history.specs.Lawful.{IsLawful}
use Rattle.market_laws.specs.Causes.{ReservesHaveCauses, StockAnswersHaveCauses, InvoicesHaveCauses}
use Rattle.market_laws.specs.Causes.{PaymentsHaveCauses, ShipmentsHaveCauses, EndingsHaveCauses}
use Rattle.market_laws.specs.Causes.{TellingsHaveCauses, DeliveriesHaveCauses, all_made_for}
use Rattle.market_laws.specs.CounterexampleValues.{checkout_for, reserve_for, held_for, invoice_for}
use Rattle.market_laws.specs.CounterexampleValues.{paid_with, shipped, delivered}
use Rattle.market_laws.specs.CounterexamplesHistories.{of_one}

-- the body is made twice on the link
abbrev pub twice : Link → Body → List Entry
twice link b = made (event link 1 1 (past 0 0) b) ∷ made (event link 2 2 (past 0 0) b) ∷ []

-- a checkout is asked for once, and all that follows is made twice
abbrev pub requested : Histories
requested =
    of_one caller_node (given 1 (request 5 (ask.Checkout 7))
    ∷ made (event (Asked caller_lane cart_node) 1 2 (past 0 0) (checkout_for 7)) ∷ [])

abbrev pub ordered : Histories
ordered =
    with_journal (with_journal (with_journal requested
    cart_node (twice CART_TO_STOCK (reserve_for 7)
    ++ twice (Told cart_node caller_lane) (body.Told (id 5) (reply.Whole 1950))))
    stock_node (twice STOCK_TO_ORDER (held_for 7)))
    order_node (twice ORDER_TO_SELLER (invoice_for 7)
    ++ twice ORDER_TO_CART (body.Ended (id 5) (ending.Whole 1950)))

abbrev pub made_twice : Histories
made_twice =
    with_journal (with_journal ordered
    payment_node (twice PAYMENT_TO_STOCK (paid_with 1950)))
    shipment_node (twice SHIPMENT_TO_SELLER shipped ++ twice SHIPMENT_TO_CUSTOMER delivered)

-- a checkout is sent on, once and with no request
abbrev pub uncaused : Histories
uncaused = of_one cart_node (made (event CART_TO_STOCK 1 1 (past 0 0) (reserve_for 7)) ∷ [])

-- events_have_causes
pub record CauseCounterexamples : Type 0 where
  pub uncaused_unlawful : IsLawful uncaused → ⊥
  pub uncaused_reserve : ReservesHaveCauses uncaused (id 5) → ⊥
  pub twice_unlawful : IsLawful made_twice → ⊥
  pub twice_kept : is_kept_checkout made_twice (id 5) ≡ true
  pub reserves : ReservesHaveCauses made_twice (id 5) → ⊥
  pub stock_answers : StockAnswersHaveCauses made_twice (id 5) → ⊥
  pub invoices : InvoicesHaveCauses made_twice (id 5) → ⊥
  pub payments : PaymentsHaveCauses made_twice (id 5) → ⊥
  pub shipments : ShipmentsHaveCauses made_twice (id 5) → ⊥
  pub endings : EndingsHaveCauses made_twice (id 5) → ⊥
  pub tellings : TellingsHaveCauses made_twice (id 5) → ⊥
  pub deliveries : DeliveriesHaveCauses made_twice (id 5) → ⊥
  pub few : (all_made_for made_twice (id 5) ≤ 14) → ⊥
