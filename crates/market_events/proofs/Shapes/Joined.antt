-- What services make, put together of replies and of bodies on links.
use Rattle.std.proofs.Common.{◌≡◌, ◌<◌, true, [], ◌∷◌, Some, IfSome, refl, arith}
use Rattle.std.proofs.Math.Nat.{mod-lt}
use Rattle.market_amounts.specs.declared.keys.RequestId.{RequestId}
use Rattle.market_events.specs.declared.bodies.Body.{Body}
use Rattle.market_events.specs.declared.links.Link.{Link}
use Rattle.market_events.specs.declared.replies.Reply.{Reply}
use Rattle.market_events.specs.AnswerShape.{id_in, GoesToLane, IsAnswer, AreAnswers}
use Rattle.market_events.specs.Carried.{carries, can_reply}
use Rattle.market_events.specs.Links.{IsLink, sender_of}
use Rattle.market_events.specs.Services.{Role, node_of}
use Rattle.market_events.specs.Steps.{Sending, told}
use Rattle.market_events.specs.WellFormed.{IsRequestId, IsReply, IsBody}

-- services have small numbers
node_small : (role : Role) → node_of role < 8
node_small Role.Cart = omega arith
node_small Role.Product = omega arith
node_small Role.Stock = omega arith
node_small Role.Order = omega arith
node_small Role.Payment = omega arith
node_small Role.Shipment = omega arith
node_small Role.Customer = omega arith
node_small Role.Seller = omega arith

-- a body on a link of the service
pub on_link : (role : Role) (input : Body) (to : Link) (made : Body) → IsLink to → sender_of to ≡ node_of role → carries to made ≡ true → GoesToLane (node_of role) to made → IsBody made → IfSome (id_in made) (λ id. id_in input ≡ Some id) → IsAnswer role input (to, made)
on_link role input to made small leaves can own formed named = record { link = small; leaves = leaves; carried = can; formed = formed; named = named; lane = own }

-- a reply to the request, or to the checkout, that the input names
pub to_lane : (role : Role) (input : Body) (id : RequestId) (r : Reply) → id_in input ≡ Some id → can_reply (node_of role) r ≡ true → IsRequestId id → IsReply r → IsAnswer role input (told (node_of role) id r)
to_lane role input id r same can id_formed reply_formed = record {
  link = (node_small role, mod-lt id.caller (omega arith));
  leaves = refl;
  carried = can;
  formed = (id_formed, reply_formed);
  named = same;
  lane = refl;
}

-- nothing
pub no_answers : (role : Role) (input : Body) → AreAnswers role input []
no_answers role input = record { few = omega arith; apart = tt; each = tt }

-- one body
pub one_answer : (role : Role) (input : Body) (made : Sending) → IsAnswer role input made → AreAnswers role input (made ∷ [])
one_answer role input made ok = record { few = omega arith; apart = (tt, tt); each = (ok, tt) }

-- one reply
pub one_reply : (role : Role) (input : Body) (id : RequestId) (r : Reply) → id_in input ≡ Some id → can_reply (node_of role) r ≡ true → IsRequestId id → IsReply r → AreAnswers role input (told (node_of role) id r ∷ [])
one_reply role input id r same can id_formed reply_formed = one_answer role input (told (node_of role) id r) (to_lane role input id r same can id_formed reply_formed)
