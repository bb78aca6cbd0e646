-- The answers of stock have the shape of answers.
use Rattle.std.proofs.Common.{◌≡◌, ℕ, ◌+◌, ◌-◌, Bool, true, false, cond, not, nat_lt, List, [], ◌∷◌, Option, Some, None, IfSome, refl, arith, ltb-false}
use Rattle.std.specs.List.{AllByRecursion}
use Rattle.std.specs.Option.{option_or}
use Rattle.market_amounts.specs.declared.keys.ProductKey.{ProductKey}
use Rattle.market_events.specs.declared.bodies.Body.{Body}
use Rattle.market_events.specs.declared.bodies.Body.TheVariants as body
use Rattle.market_events.specs.declared.bodies.PricedLine.{PricedLine}
use Rattle.market_events.specs.declared.bodies.StockRule.{StockRule}
use Rattle.market_events.specs.declared.bodies.StockRule.TheVariants as stock
use Rattle.market_events.specs.declared.changes.Look.{Look}
use Rattle.market_events.specs.declared.changes.Look.TheVariants.{Unknown, Gone, Live}
use Rattle.market_events.specs.declared.links.TheConstants.{STOCK_TO_CART, STOCK_TO_ORDER}
use Rattle.market_events.specs.declared.replies.Reply.TheVariants as reply
use Rattle.market_events.specs.declared.replies.Rule.TheVariants as rule
use Rattle.market_events.specs.declared.requests.Ask.{Ask}
use Rattle.market_events.specs.declared.requests.Ask.TheVariants as ask
use Rattle.market_events.specs.AnswerShape.{AreAnswers}
use Rattle.market_events.specs.Links.{stock_node}
use Rattle.market_events.specs.Looks.{is_live}
use Rattle.market_events.specs.Services.{Role}
use Rattle.market_events.specs.Steps.{told, refused}
use Rattle.market_events.specs.Stocks.{StockSums, stock_rows, level_rows, stock_asked, line_refusal, first_some, reserve_rows, stock_taken_rows}
use Rattle.market_events.specs.WellFormed.{pieces_max, ArePieces, IsKey, IsLine, IsBody}
use Rattle.market_events.proofs.Shapes.Joined.{on_link, no_answers, one_answer, one_reply}

-- a refused line's product is that of a line
refusal_key : (s : StockSums) (lines : List PricedLine) → AllByRecursion IsLine lines → IfSome (first_some (line_refusal s) lines) (λ (r : ProductKey × StockRule). IsKey r.0)
refusal_key s [] each = tt
refusal_key s (line ∷ more) each = first (line_refusal s line) (one (not (is_live (s.look line.key))) (nat_lt (s.on_hand line.key - s.reserved line.key) line.quantity)) (first_some (line_refusal s) more) (refusal_key s more each.1)
  where
    one : (gone short : Bool) → IfSome (cond gone (Some (line.key, stock.Gone)) (cond short (Some (line.key, stock.Short)) None)) (λ (r : ProductKey × StockRule). IsKey r.0)
    one true short = each.0.key
    one false true = each.0.key
    one false false = tt

    first : (o : Option (ProductKey × StockRule)) → IfSome o (λ (r : ProductKey × StockRule). IsKey r.0) → (rest : Option (ProductKey × StockRule)) → IfSome rest (λ (r : ProductKey × StockRule). IsKey r.0) → IfSome (option_or o rest) (λ (r : ProductKey × StockRule). IsKey r.0)
    first (Some r) ok rest rest_ok = ok
    first None ok rest rest_ok = rest_ok

module _ (s : StockSums) (here_few : (key : ProductKey) → ArePieces (s.on_hand key)) (held_few : (key : ProductKey) → ArePieces (s.reserved key)) where
  -- stock answers in shape, where its pieces are in range
  pub stock_answers : (input : Body) → IsBody input → AreAnswers Role.Stock input (stock_taken_rows s input)
  stock_answers (body.Asked request) ok = asked request.ask
    where
      stocks : (pieces : ℕ) (look : Look) (here : ℕ) → AreAnswers Role.Stock (body.Asked request) (stock_rows request.id pieces look here)
      stocks pieces Unknown here = one_reply Role.Stock (body.Asked request) request.id (reply.Refused rule.Unknown) refl refl ok.id tt
      stocks pieces (Gone v) here = one_reply Role.Stock (body.Asked request) request.id (reply.Refused rule.Gone) refl refl ok.id tt
      stocks pieces (Live v price freight) here = either (nat_lt pieces_max (here + pieces)) refl
        where
          either : (b : Bool) → nat_lt pieces_max (here + pieces) ≡ b → AreAnswers Role.Stock (body.Asked request) (cond b (refused stock_node request.id rule.StockOver) (told stock_node request.id (reply.Stocked (here + pieces)) ∷ []))
          either true over = one_reply Role.Stock (body.Asked request) request.id (reply.Refused rule.StockOver) refl refl ok.id tt
          either false under = one_reply Role.Stock (body.Asked request) request.id (reply.Stocked (here + pieces)) refl refl ok.id (ltb-false pieces_max (here + pieces) under)

      levels : (look : Look) (key : ProductKey) → AreAnswers Role.Stock (body.Asked request) (level_rows request.id look (s.on_hand key) (s.reserved key))
      levels Unknown key = one_reply Role.Stock (body.Asked request) request.id (reply.Refused rule.Unknown) refl refl ok.id tt
      levels (Gone v) key = one_reply Role.Stock (body.Asked request) request.id (reply.Level (s.on_hand key) (s.reserved key)) refl refl ok.id (here_few key, held_few key)
      levels (Live v price freight) key = one_reply Role.Stock (body.Asked request) request.id (reply.Level (s.on_hand key) (s.reserved key)) refl refl ok.id (here_few key, held_few key)

      asked : (a : Ask) → AreAnswers Role.Stock (body.Asked request) (stock_asked s request.id a)
      asked (ask.Stock key pieces) = stocks pieces (s.look key) (s.on_hand key)
      asked (ask.Level key) = levels (s.look key) key
      asked other = no_answers Role.Stock (body.Asked request)
  stock_answers (body.Reserve checkout customer lines) ok = by_refusal (first_some (line_refusal s) lines) (refusal_key s lines ok.2.each)
    where
      by_refusal : (o : Option (ProductKey × StockRule)) → IfSome o (λ (r : ProductKey × StockRule). IsKey r.0) → AreAnswers Role.Stock (body.Reserve checkout customer lines) (reserve_rows checkout customer lines o)
      by_refusal None key_ok =
          one_answer Role.Stock (body.Reserve checkout customer lines) (STOCK_TO_ORDER, body.StockConfirmed checkout customer lines)
          (on_link Role.Stock (body.Reserve checkout customer lines) STOCK_TO_ORDER (body.StockConfirmed checkout customer lines) (omega arith) refl refl tt ok refl)
      by_refusal (Some r) key_ok =
          one_answer Role.Stock (body.Reserve checkout customer lines) (STOCK_TO_CART, body.ReserveFailed checkout r.0 r.1)
          (on_link Role.Stock (body.Reserve checkout customer lines) STOCK_TO_CART (body.ReserveFailed checkout r.0 r.1) (omega arith) refl refl tt (ok.0, key_ok) refl)
  stock_answers other ok = no_answers Role.Stock other
