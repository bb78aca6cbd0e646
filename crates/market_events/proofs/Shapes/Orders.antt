-- The order service's answers have the shape of answers.
use Rattle.std.proofs.Common.{ℕ, ◌≤◌, Option, Some, None, refl, arith}
use Rattle.market_amounts.specs.declared.keys.RequestId.{RequestId}
use Rattle.market_events.specs.declared.bodies.Body.{Body}
use Rattle.market_events.specs.declared.bodies.Body.TheVariants as body
use Rattle.market_events.specs.declared.bodies.Ending.TheVariants as ending
use Rattle.market_events.specs.declared.links.TheConstants.{ORDER_TO_CART, ORDER_TO_SELLER, ORDER_TO_PAYMENT}
use Rattle.market_events.specs.declared.replies.OrderStatus.{OrderStatus}
use Rattle.market_events.specs.declared.replies.Reply.TheVariants as reply
use Rattle.market_events.specs.declared.replies.Rule.TheVariants as rule
use Rattle.market_events.specs.declared.requests.Ask.{Ask}
use Rattle.market_events.specs.declared.requests.Ask.TheVariants as ask
use Rattle.market_events.specs.AnswerShape.{AreAnswers}
use Rattle.market_events.specs.Orders.{OrderSums, order_reply_rows, order_asked, order_rows}
use Rattle.market_events.specs.Services.{Role}
use Rattle.market_events.specs.WellFormed.{total_max, total_of, IsBody}
use Rattle.market_events.proofs.Shapes.Joined.{on_link, no_answers, one_answer, one_reply}

-- the order service answers in shape, where its totals are in range
pub order_answers : (s : OrderSums) → ((id : RequestId) → s.total id ≤ total_max) → (input : Body) → IsBody input → AreAnswers Role.Order input (order_rows s input)
order_answers s few (body.Asked request) ok = asked request.ask
  where
    by_status : (st : Option OrderStatus) (total : ℕ) → total ≤ total_max → AreAnswers Role.Order (body.Asked request) (order_reply_rows request.id st total)
    by_status None total small = one_reply Role.Order (body.Asked request) request.id (reply.Refused rule.NoOrder) refl refl ok.id tt
    by_status (Some st) total small = one_reply Role.Order (body.Asked request) request.id (reply.OrderState st total) refl refl ok.id small

    asked : (a : Ask) → AreAnswers Role.Order (body.Asked request) (order_asked s request.id a)
    asked (ask.Order checkout) = by_status (s.status checkout) (s.total checkout) (few checkout)
    asked other = no_answers Role.Order (body.Asked request)
order_answers s few (body.StockConfirmed checkout customer lines) ok = record {
  few = omega arith;
  apart = ((refl, tt), (tt, tt));
  each = (
    on_link Role.Order (body.StockConfirmed checkout customer lines) ORDER_TO_SELLER (body.Invoice checkout customer lines (total_of lines)) (omega arith) refl refl tt (ok.0, ok.1, ok.2, refl) refl,
    (on_link Role.Order (body.StockConfirmed checkout customer lines) ORDER_TO_PAYMENT (body.Invoice checkout customer lines (total_of lines)) (omega arith) refl refl tt (ok.0, ok.1, ok.2, refl) refl, tt),
  );
}
order_answers s few (body.Failed checkout customer why) ok =
    one_answer Role.Order (body.Failed checkout customer why) (ORDER_TO_CART, body.Ended checkout (ending.Undone why))
    (on_link Role.Order (body.Failed checkout customer why) ORDER_TO_CART (body.Ended checkout (ending.Undone why)) (omega arith) refl refl tt (ok.0, tt) refl)
order_answers s few (body.Shipped checkout) ok =
    one_answer Role.Order (body.Shipped checkout) (ORDER_TO_CART, body.Ended checkout (ending.Whole (s.total checkout)))
    (on_link Role.Order (body.Shipped checkout) ORDER_TO_CART (body.Ended checkout (ending.Whole (s.total checkout))) (omega arith) refl refl tt (ok, few checkout) refl)
order_answers s few other ok = no_answers Role.Order other
