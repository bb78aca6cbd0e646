-- The product service's answers have the shape of answers.
use Rattle.std.proofs.Common.{◌≡◌, ℕ, ◌+◌, ◌<◌, true, [], ◌∷◌, Some, refl, arith}
use Rattle.market_amounts.specs.declared.keys.ProductKey.{ProductKey}
use Rattle.market_amounts.specs.declared.keys.RequestId.{RequestId}
use Rattle.market_events.specs.declared.bodies.Body.{Body}
use Rattle.market_events.specs.declared.bodies.Body.TheVariants as body
use Rattle.market_events.specs.declared.changes.Change.{Change}
use Rattle.market_events.specs.declared.changes.Change.TheVariants as change
use Rattle.market_events.specs.declared.changes.Look.{Look}
use Rattle.market_events.specs.declared.changes.Look.TheVariants.{Unknown, Gone, Live}
use Rattle.market_events.specs.declared.links.TheConstants.{PRODUCT_TO_STOCK, PRODUCT_TO_CART}
use Rattle.market_events.specs.declared.replies.Reply.{Reply}
use Rattle.market_events.specs.declared.replies.Reply.TheVariants as reply
use Rattle.market_events.specs.declared.replies.Rule.TheVariants as rule
use Rattle.market_events.specs.declared.requests.Ask.{Ask}
use Rattle.market_events.specs.declared.requests.Ask.TheVariants as ask
use Rattle.market_events.specs.AnswerShape.{id_in, AreAnswers}
use Rattle.market_events.specs.Carried.{can_reply}
use Rattle.market_events.specs.Links.{product_node}
use Rattle.market_events.specs.Products.{ProductSums, changed, create_rows, price_rows, delete_rows, product_asked, product_rows}
use Rattle.market_events.specs.Services.{Role}
use Rattle.market_events.specs.Steps.{told}
use Rattle.market_events.specs.WellFormed.{id_max, IsId, IsKey, IsRequestId, IsChange, IsAsk, IsReply, IsBody}
use Rattle.market_events.proofs.Shapes.Joined.{on_link, to_lane, no_answers, one_reply}

module _ (s : ProductSums) (few : (key : ProductKey) → s.version key < id_max) where
  -- the next version is in range
  next : (key : ProductKey) → IsId (s.version key + 1)
  next key = omega (arith, few key)

  module _ (input : Body) (id : RequestId) (same : id_in input ≡ Some id) (id_ok : IsRequestId id) where
    -- a change on both links, and its reply
    changes : (key : ProductKey) (c : Change) (r : Reply) → IsKey key → IsChange c → can_reply product_node r ≡ true → IsReply r → AreAnswers Role.Product input (changed id key (s.version key + 1) c r)
    changes key c r key_ok change_ok can reply_ok = record {
      few = omega arith;
      apart = ((refl, (refl, tt)), ((refl, tt), (tt, tt)));
      each = (
        on_link Role.Product input PRODUCT_TO_STOCK (body.Changed key (s.version key + 1) c) (omega arith) refl refl tt (key_ok, next key, change_ok) tt,
        (
          on_link Role.Product input PRODUCT_TO_CART (body.Changed key (s.version key + 1) c) (omega arith) refl refl tt (key_ok, next key, change_ok) tt,
          (to_lane Role.Product input id r same can id_ok reply_ok, tt),
        ),
      );
    }

    -- a refusal
    refuses : (why : Reply) → can_reply product_node why ≡ true → IsReply why → AreAnswers Role.Product input (told product_node id why ∷ [])
    refuses why can ok = one_reply Role.Product input id why same can id_ok ok

    -- a creation, a price and a deletion
    created : (key : ProductKey) (price freight : ℕ) → IsKey key → IsChange (change.Created price freight) → (look : Look) → AreAnswers Role.Product input (create_rows id key (change.Created price freight) look (s.version key))
    created key price freight key_ok ok Unknown = changes key (change.Created price freight) (reply.Created (s.version key + 1)) key_ok ok refl (next key)
    created key price freight key_ok ok (Gone v) = changes key (change.Created price freight) (reply.Created (s.version key + 1)) key_ok ok refl (next key)
    created key price freight key_ok ok (Live v p f) = refuses (reply.Refused rule.Exists) refl tt

    priced : (key : ProductKey) (price : ℕ) → IsKey key → IsChange (change.Priced price) → (look : Look) → AreAnswers Role.Product input (price_rows id key (change.Priced price) look (s.version key))
    priced key price key_ok ok Unknown = refuses (reply.Refused rule.Unknown) refl tt
    priced key price key_ok ok (Gone v) = refuses (reply.Refused rule.Gone) refl tt
    priced key price key_ok ok (Live v p f) = changes key (change.Priced price) (reply.Priced (s.version key + 1)) key_ok ok refl (next key)

    deleted : (key : ProductKey) → IsKey key → (look : Look) → AreAnswers Role.Product input (delete_rows id key look (s.version key))
    deleted key key_ok Unknown = refuses (reply.Refused rule.Unknown) refl tt
    deleted key key_ok (Gone v) = refuses (reply.Refused rule.Gone) refl tt
    deleted key key_ok (Live v p f) = changes key change.Deleted (reply.Deleted (s.version key + 1)) key_ok tt refl (next key)

    -- a request
    asked : (a : Ask) → IsAsk a → AreAnswers Role.Product input (product_asked s id a)
    asked (ask.Create key price freight) ok = created key price freight ok.0 (ok.1, ok.2) (s.look key)
    asked (ask.Price key price) ok = priced key price ok.0 ok.1 (s.look key)
    asked (ask.Delete key) ok = deleted key ok (s.look key)
    asked other ok = no_answers Role.Product input

  -- the product service answers in shape, where versions are in range
  pub product_answers : (input : Body) → IsBody input → AreAnswers Role.Product input (product_rows s input)
  product_answers (body.Asked request) ok = asked (body.Asked request) request.id refl ok.id request.ask ok.ask
  product_answers other ok = no_answers Role.Product other
