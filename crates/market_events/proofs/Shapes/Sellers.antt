-- The seller service's answers have the shape of answers.
use Rattle.std.proofs.Common.{ℕ, List, length, refl}
use Rattle.market_events.specs.declared.bodies.Body.{Body}
use Rattle.market_events.specs.declared.bodies.Body.TheVariants as body
use Rattle.market_events.specs.declared.replies.Reply.{Reply}
use Rattle.market_events.specs.declared.replies.Reply.TheVariants as reply
use Rattle.market_events.specs.declared.requests.Ask.{Ask}
use Rattle.market_events.specs.declared.requests.Ask.TheVariants as ask
use Rattle.market_events.specs.AnswerShape.{AreAnswers}
use Rattle.market_events.specs.Sellers.{SellerSums, SellerChange, in_progress_at, amount_at, page_of, seller_asked, seller_rows}
use Rattle.market_events.specs.Services.{Role}
use Rattle.market_events.specs.WellFormed.{IsReply, IsBody}
use Rattle.market_events.proofs.Shapes.Joined.{no_answers, one_reply}

-- the dashboard of a seller
abbrev pub dashboard_of : List SellerChange → Reply
dashboard_of changes = reply.Dashboard (length changes) (length (in_progress_at changes)) (amount_at changes) (page_of 0 (in_progress_at changes))

-- the seller service answers in shape, where its dashboards are in range
pub seller_answers : (s : SellerSums) → ((seller : ℕ) → IsReply (dashboard_of (s.changes seller))) → (input : Body) → IsBody input → AreAnswers Role.Seller input (seller_rows s input)
seller_answers s shows (body.Asked request) ok = asked request.ask
  where
    asked : (a : Ask) → AreAnswers Role.Seller (body.Asked request) (seller_asked s request.id a)
    asked (ask.Dashboard seller) = one_reply Role.Seller (body.Asked request) request.id (dashboard_of (s.changes seller)) refl refl ok.id (shows seller)
    asked other = no_answers Role.Seller (body.Asked request)
seller_answers s shows other ok = no_answers Role.Seller other
