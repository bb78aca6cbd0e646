-- The customer service's answers have the shape of answers.
use Rattle.std.proofs.Common.{ℕ, refl}
use Rattle.market_events.specs.declared.bodies.Body.{Body}
use Rattle.market_events.specs.declared.bodies.Body.TheVariants as body
use Rattle.market_events.specs.declared.replies.Reply.TheVariants as reply
use Rattle.market_events.specs.declared.requests.Ask.{Ask}
use Rattle.market_events.specs.declared.requests.Ask.TheVariants as ask
use Rattle.market_events.specs.AnswerShape.{AreAnswers}
use Rattle.market_events.specs.Customers.{CustomerSums, customer_asked, customer_rows}
use Rattle.market_events.specs.Services.{Role}
use Rattle.market_events.specs.WellFormed.{IsId, IsBody}
use Rattle.market_events.proofs.Shapes.Joined.{no_answers, one_reply}

-- the customer service answers in shape, where its counts are in range
pub customer_answers : (s : CustomerSums) → ((customer : ℕ) → IsId (s.confirmed customer) × IsId (s.failed customer) × IsId (s.delivered customer)) → (input : Body) → IsBody input → AreAnswers Role.Customer input (customer_rows s input)
customer_answers s few (body.Asked request) ok = asked request.ask
  where
    asked : (a : Ask) → AreAnswers Role.Customer (body.Asked request) (customer_asked s request.id a)
    asked (ask.Customer customer) = one_reply Role.Customer (body.Asked request) request.id (reply.Customer (s.confirmed customer) (s.failed customer) (s.delivered customer)) refl refl ok.id (few customer)
    asked other = no_answers Role.Customer (body.Asked request)
customer_answers s few other ok = no_answers Role.Customer other
