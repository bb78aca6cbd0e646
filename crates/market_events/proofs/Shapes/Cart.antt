-- The cart's answers have the shape of answers.
use Rattle.std.proofs.Common.{◌≡◌, ℕ, ◌≤◌, Bool, true, false, cond, ◌&&◌, not, nat_le, List, [], ◌∷◌, length, filter_map, Option, Some, None, IfSome, refl, arith}
use Rattle.market_amounts.specs.declared.keys.ProductKey.{ProductKey}
use Rattle.market_events.specs.declared.bodies.Body.{Body}
use Rattle.market_events.specs.declared.bodies.Body.TheVariants as body
use Rattle.market_events.specs.declared.bodies.Ending.{Ending}
use Rattle.market_events.specs.declared.bodies.Ending.TheVariants as ending
use Rattle.market_events.specs.declared.bodies.PayRule.TheVariants as pay
use Rattle.market_events.specs.declared.bodies.StockRule.{StockRule}
use Rattle.market_events.specs.declared.bodies.StockRule.TheVariants as stock
use Rattle.market_events.specs.declared.changes.Look.{Look}
use Rattle.market_events.specs.declared.changes.Look.TheVariants.{Unknown, Gone, Live}
use Rattle.market_events.specs.declared.links.TheConstants.{CART_TO_STOCK}
use Rattle.market_events.specs.declared.replies.Reply.TheVariants as reply
use Rattle.market_events.specs.declared.replies.Rule.TheVariants as rule
use Rattle.market_events.specs.declared.replies.UndoneRule.TheVariants as undone
use Rattle.market_events.specs.declared.requests.Ask.{Ask}
use Rattle.market_events.specs.declared.requests.Ask.TheVariants as ask
use Rattle.market_events.specs.AnswerShape.{AreAnswers}
use Rattle.market_events.specs.Carts.{Held, CartSums, has_key, view_rows, line_rows, priced, first_gone, checkout_rows, cart_asked, undone_by_stock, reply_to_ending, cart_rows}
use Rattle.market_events.specs.Links.{cart_node}
use Rattle.market_events.specs.Services.{Role}
use Rattle.market_events.specs.Steps.{told, refused}
use Rattle.market_events.specs.WellFormed.{most_lines, IsId, AreCents, IsKey, IsQuantity, AreLines, IsAsk, IsBody, IsEnding}
use Rattle.market_events.proofs.Shapes.Joined.{on_link, no_answers, one_answer, one_reply}

-- what a copy shows is in range
abbrev pub IsLook : Look → Type 0
IsLook Unknown = Unit {0}
IsLook (Gone v) = Unit {0}
IsLook (Live v price freight) = IsId v × AreCents price × AreCents freight

-- what the cart knows of a basket: the product that it lacks is in range, and the lines of its checkout are well formed
pub record IsBasket (look : ProductKey → Look) (basket : List (ProductKey × Held)) : Type 0 where
  pub lacks : IfSome (first_gone look basket) IsKey
  pub lines : 1 ≤ length basket → first_gone look basket ≡ None → AreLines (filter_map (priced look) basket)

module _ (s : CartSums) (looks : (key : ProductKey) → IsLook (s.look key)) (baskets : (customer : ℕ) → IsBasket s.look (s.basket customer)) where
  -- the cart answers in shape, where its copy and its baskets are in range
  pub cart_answers : (input : Body) → IsBody input → AreAnswers Role.Cart input (cart_rows s input)
  cart_answers (body.Asked request) ok = asked request.ask ok.ask
    where
      views : (look : Look) → IsLook look → AreAnswers Role.Cart (body.Asked request) (view_rows request.id look)
      views Unknown shown = one_reply Role.Cart (body.Asked request) request.id (reply.Refused rule.Unknown) refl refl ok.id tt
      views (Gone v) shown = one_reply Role.Cart (body.Asked request) request.id (reply.Refused rule.Gone) refl refl ok.id tt
      views (Live v price freight) shown = one_reply Role.Cart (body.Asked request) request.id (reply.View v price freight) refl refl ok.id shown

      lines : (key : ProductKey) (quantity : ℕ) → IsQuantity quantity → (look : Look) (basket : List (ProductKey × Held)) → AreAnswers Role.Cart (body.Asked request) (line_rows request.id key quantity look basket)
      lines key quantity pieces Unknown basket = one_reply Role.Cart (body.Asked request) request.id (reply.Refused rule.Unknown) refl refl ok.id tt
      lines key quantity pieces (Gone v) basket = one_reply Role.Cart (body.Asked request) request.id (reply.Refused rule.Gone) refl refl ok.id tt
      lines key quantity pieces (Live v price freight) basket = either (nat_le most_lines (length basket) && not (has_key basket key))
        where
          either : (b : Bool) → AreAnswers Role.Cart (body.Asked request) (cond b (refused cart_node request.id rule.CartFull) (told cart_node request.id (reply.Line quantity) ∷ []))
          either true = one_reply Role.Cart (body.Asked request) request.id (reply.Refused rule.CartFull) refl refl ok.id tt
          either false = one_reply Role.Cart (body.Asked request) request.id (reply.Line quantity) refl refl ok.id pieces

      removes : (b : Bool) → AreAnswers Role.Cart (body.Asked request) (cond b (told cart_node request.id reply.Removed ∷ []) (refused cart_node request.id rule.NoLine))
      removes true = one_reply Role.Cart (body.Asked request) request.id reply.Removed refl refl ok.id tt
      removes false = one_reply Role.Cart (body.Asked request) request.id (reply.Refused rule.NoLine) refl refl ok.id tt

      checks_out : (customer : ℕ) → IsId customer → (basket : List (ProductKey × Held)) → IsBasket s.look basket → (missing : Option ProductKey) → first_gone s.look basket ≡ missing → IfSome missing IsKey → AreAnswers Role.Cart (body.Asked request) (checkout_rows request.id customer s.look basket missing)
      checks_out customer small [] held missing is key_ok = one_reply Role.Cart (body.Asked request) request.id (reply.Undone undone.CartEmpty) refl refl ok.id tt
      checks_out customer small (e ∷ es) held (Some key) is key_ok = one_reply Role.Cart (body.Asked request) request.id (reply.Undone (undone.Gone key)) refl refl ok.id key_ok
      checks_out customer small (e ∷ es) held None is key_ok =
          one_answer Role.Cart (body.Asked request) (CART_TO_STOCK, body.Reserve request.id customer (filter_map (priced s.look) (e ∷ es)))
          (on_link Role.Cart (body.Asked request) CART_TO_STOCK (body.Reserve request.id customer (filter_map (priced s.look) (e ∷ es))) (omega arith) refl refl tt
          (ok.id, small, held.lines (omega arith) is) refl)

      asked : (a : Ask) → IsAsk a → AreAnswers Role.Cart (body.Asked request) (cart_asked s request.id a)
      asked (ask.View key) a_ok = views (s.look key) (looks key)
      asked (ask.Line customer key quantity voucher) a_ok = lines key quantity a_ok.2 (s.look key) (s.basket customer)
      asked (ask.Remove customer key) a_ok = removes (has_key (s.basket customer) key)
      asked (ask.Checkout customer) a_ok = checks_out customer a_ok (s.basket customer) (baskets customer) (first_gone s.look (s.basket customer)) refl (baskets customer).lacks
      asked other a_ok = no_answers Role.Cart (body.Asked request)
  cart_answers (body.ReserveFailed checkout key why) ok = by_rule why
    where
      by_rule : (why : StockRule) → AreAnswers Role.Cart (body.ReserveFailed checkout key why) (told cart_node checkout (reply.Undone (undone_by_stock why key)) ∷ [])
      by_rule stock.Gone = one_reply Role.Cart (body.ReserveFailed checkout key stock.Gone) checkout (reply.Undone (undone.Gone key)) refl refl ok.0 ok.1
      by_rule stock.Short = one_reply Role.Cart (body.ReserveFailed checkout key stock.Short) checkout (reply.Undone (undone.Short key)) refl refl ok.0 ok.1
  cart_answers (body.Ended checkout end) ok = by_ending end ok.1
    where
      by_ending : (end : Ending) → IsEnding end → AreAnswers Role.Cart (body.Ended checkout end) (told cart_node checkout (reply_to_ending end) ∷ [])
      by_ending (ending.Whole total) end_ok = one_reply Role.Cart (body.Ended checkout (ending.Whole total)) checkout (reply.Whole total) refl refl ok.0 end_ok
      by_ending (ending.Undone pay.NoCard) end_ok = one_reply Role.Cart (body.Ended checkout (ending.Undone pay.NoCard)) checkout (reply.Undone undone.NoCard) refl refl ok.0 tt
      by_ending (ending.Undone pay.OverLimit) end_ok = one_reply Role.Cart (body.Ended checkout (ending.Undone pay.OverLimit)) checkout (reply.Undone undone.OverLimit) refl refl ok.0 tt
  cart_answers other ok = no_answers Role.Cart other
