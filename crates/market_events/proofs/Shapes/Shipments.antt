-- The shipment service's answers have the shape of answers.
use Rattle.std.proofs.Common.{ℕ, ◌≤◌, List, [], ◌∷◌, length, refl, arith}
use Rattle.market_events.specs.declared.bodies.Body.{Body}
use Rattle.market_events.specs.declared.bodies.Body.TheVariants as body
use Rattle.market_events.specs.declared.bodies.Item.{Item}
use Rattle.market_events.specs.declared.links.TheConstants.{SHIPMENT_TO_CUSTOMER, SHIPMENT_TO_SELLER, SHIPMENT_TO_ORDER}
use Rattle.market_events.specs.declared.replies.Reply.TheVariants as reply
use Rattle.market_events.specs.declared.requests.Ask.{Ask}
use Rattle.market_events.specs.declared.requests.Ask.TheVariants as ask
use Rattle.market_events.specs.AnswerShape.{AreAnswers}
use Rattle.market_events.specs.Services.{Role}
use Rattle.market_events.specs.Shipments.{ShipmentSums, most_sellers, oldest_of, delivered_of, deliver_rows, shipment_asked, shipment_rows}
use Rattle.market_events.specs.WellFormed.{most_items, AreItems, IsBody}
use Rattle.market_events.proofs.Shapes.Joined.{on_link, to_lane, no_answers, one_reply}

-- what a delivery has: few sellers, and few packages, which are well formed
pub record IsDelivery (waiting : List Item) : Type 0 where
  pub sellers : length (oldest_of waiting) ≤ most_sellers
  pub items : 1 ≤ length (delivered_of waiting) → AreItems (delivered_of waiting)

-- the shipment service answers in shape, where its delivery is in range
pub shipment_answers : (s : ShipmentSums) → IsDelivery s.waiting → (input : Body) → IsBody input → AreAnswers Role.Shipment input (shipment_rows s input)
shipment_answers s delivery (body.Asked request) ok = asked request.ask
  where
    delivers : (items : List Item) (sellers : ℕ) → sellers ≤ most_sellers → (1 ≤ length items → AreItems items) → AreAnswers Role.Shipment (body.Asked request) (deliver_rows request.id items sellers)
    delivers [] sellers few items_ok = one_reply Role.Shipment (body.Asked request) request.id (reply.Delivered 0 0) refl refl ok.id (omega arith, omega arith)
    delivers (i ∷ more) sellers few items_ok =
        let made : IsBody (body.Delivered (i ∷ more)) = items_ok (omega arith) in
        let most : length (i ∷ more) ≤ most_items = made.most in
        record {
          few = omega arith;
          apart = ((refl, (refl, (refl, tt))), ((refl, (refl, tt)), ((refl, tt), (tt, tt))));
          each = (
            on_link Role.Shipment (body.Asked request) SHIPMENT_TO_CUSTOMER (body.Delivered (i ∷ more)) (omega arith) refl refl tt made tt,
            (
              on_link Role.Shipment (body.Asked request) SHIPMENT_TO_SELLER (body.Delivered (i ∷ more)) (omega arith) refl refl tt made tt,
              (
                on_link Role.Shipment (body.Asked request) SHIPMENT_TO_ORDER (body.Delivered (i ∷ more)) (omega arith) refl refl tt made tt,
                (to_lane Role.Shipment (body.Asked request) request.id (reply.Delivered sellers (length (i ∷ more))) refl refl ok.id (omega (arith, few), omega (arith, most)), tt),
              ),
            ),
          );
        }

    asked : (a : Ask) → AreAnswers Role.Shipment (body.Asked request) (shipment_asked s request.id a)
    asked ask.Deliver = delivers (delivered_of s.waiting) (length (oldest_of s.waiting)) delivery.sellers delivery.items
    asked other = no_answers Role.Shipment (body.Asked request)
shipment_answers s delivery (body.Confirmed checkout customer lines total) ok = record {
  few = omega arith;
  apart = ((refl, tt), (tt, tt));
  each = (
    on_link Role.Shipment (body.Confirmed checkout customer lines total) SHIPMENT_TO_SELLER (body.Shipped checkout) (omega arith) refl refl tt ok.0 refl,
    (on_link Role.Shipment (body.Confirmed checkout customer lines total) SHIPMENT_TO_ORDER (body.Shipped checkout) (omega arith) refl refl tt ok.0 refl, tt),
  );
}
shipment_answers s delivery other ok = no_answers Role.Shipment other
