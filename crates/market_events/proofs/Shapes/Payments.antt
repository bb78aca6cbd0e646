-- The payment service's answers have the shape of answers.
use Rattle.std.proofs.Common.{◌≡◌, ℕ, ◌+◌, Bool, true, false, nat_le, cond, List, Option, Some, None, refl, arith}
use Rattle.market_amounts.specs.declared.keys.RequestId.{RequestId}
use Rattle.market_events.specs.declared.bodies.Body.{Body}
use Rattle.market_events.specs.declared.bodies.Body.TheVariants as body
use Rattle.market_events.specs.declared.bodies.PayRule.{PayRule}
use Rattle.market_events.specs.declared.bodies.PayRule.TheVariants as pay
use Rattle.market_events.specs.declared.bodies.PricedLine.{PricedLine}
use Rattle.market_events.specs.declared.links.Link.{Link}
use Rattle.market_events.specs.declared.links.TheConstants.{PAYMENT_TO_STOCK, PAYMENT_TO_ORDER, PAYMENT_TO_SHIPMENT, PAYMENT_TO_CUSTOMER, PAYMENT_TO_SELLER}
use Rattle.market_events.specs.declared.replies.Reply.TheVariants as reply
use Rattle.market_events.specs.declared.requests.Ask.{Ask}
use Rattle.market_events.specs.declared.requests.Ask.TheVariants as ask
use Rattle.market_events.specs.AnswerShape.{IsAnswer, AreAnswers}
use Rattle.market_events.specs.Carried.{carries}
use Rattle.market_events.specs.Links.{IsLink, payment_node, sender_of}
use Rattle.market_events.specs.Payments.{PaymentSums, confirmed_rows, failed_rows, invoice_rows, payment_asked, payment_rows}
use Rattle.market_events.specs.Services.{Role}
use Rattle.market_events.specs.WellFormed.{IsAsk, IsBody}
use Rattle.market_events.proofs.Shapes.Joined.{on_link, no_answers, one_reply}

module _ (checkout : RequestId) (customer : ℕ) (lines : List PricedLine) (total : ℕ) (ok : IsBody (body.Invoice checkout customer lines total)) where
  -- the payment, on five links
  paid : AreAnswers Role.Payment (body.Invoice checkout customer lines total) (confirmed_rows (body.Confirmed checkout customer lines total))
  paid = record {
    few = omega arith;
    apart = ((refl, (refl, (refl, (refl, tt)))), ((refl, (refl, (refl, tt))), ((refl, (refl, tt)), ((refl, tt), (tt, tt)))));
    each = (on PAYMENT_TO_STOCK (omega arith) refl refl, (on PAYMENT_TO_CUSTOMER (omega arith) refl refl, (on PAYMENT_TO_SELLER (omega arith) refl refl, (on PAYMENT_TO_ORDER (omega arith) refl refl, (on PAYMENT_TO_SHIPMENT (omega arith) refl refl, tt)))));
  }
    where
      on : (to : Link) → IsLink to → sender_of to ≡ payment_node → carries to (body.Confirmed checkout customer lines total) ≡ true → IsAnswer Role.Payment (body.Invoice checkout customer lines total) (to, body.Confirmed checkout customer lines total)
      on to small leaves can = on_link Role.Payment (body.Invoice checkout customer lines total) to (body.Confirmed checkout customer lines total) small leaves can tt ok refl

  -- that there is none, on four
  unpaid : (why : PayRule) → AreAnswers Role.Payment (body.Invoice checkout customer lines total) (failed_rows (body.Failed checkout customer why))
  unpaid why = record {
    few = omega arith;
    apart = ((refl, (refl, (refl, tt))), ((refl, (refl, tt)), ((refl, tt), (tt, tt))));
    each = (on PAYMENT_TO_STOCK (omega arith) refl refl, (on PAYMENT_TO_CUSTOMER (omega arith) refl refl, (on PAYMENT_TO_SELLER (omega arith) refl refl, (on PAYMENT_TO_ORDER (omega arith) refl refl, tt))));
  }
    where
      on : (to : Link) → IsLink to → sender_of to ≡ payment_node → carries to (body.Failed checkout customer why) ≡ true → IsAnswer Role.Payment (body.Invoice checkout customer lines total) (to, body.Failed checkout customer why)
      on to small leaves can = on_link Role.Payment (body.Invoice checkout customer lines total) to (body.Failed checkout customer why) small leaves can tt (ok.0, ok.1) refl

  -- one or the other
  invoiced : (limit : Option ℕ) (before : ℕ) → AreAnswers Role.Payment (body.Invoice checkout customer lines total) (invoice_rows checkout customer lines total limit before)
  invoiced None before = unpaid pay.NoCard
  invoiced (Some limit) before = either (nat_le (before + total) limit)
    where
      either : (b : Bool) → AreAnswers Role.Payment (body.Invoice checkout customer lines total) (cond b (confirmed_rows (body.Confirmed checkout customer lines total)) (failed_rows (body.Failed checkout customer pay.OverLimit)))
      either true = paid
      either false = unpaid pay.OverLimit

-- the payment service answers in shape
pub payment_answers : (s : PaymentSums) (input : Body) → IsBody input → AreAnswers Role.Payment input (payment_rows s input)
payment_answers s (body.Invoice checkout customer lines total) ok = invoiced checkout customer lines total ok (s.limit customer) (s.spent customer)
payment_answers s (body.Asked request) ok = asked request.ask ok.ask
  where
    asked : (a : Ask) → IsAsk a → AreAnswers Role.Payment (body.Asked request) (payment_asked s request.id a)
    asked (ask.Card customer limit) limit_ok = one_reply Role.Payment (body.Asked request) request.id (reply.Card limit) refl refl ok.id limit_ok.1
    asked other other_ok = no_answers Role.Payment (body.Asked request)
payment_answers s other ok = no_answers Role.Payment other
