-- The ends of links are nodes.
use Rattle.std.proofs.Common.{ℕ, zero, suc, ◌<◌, arith}
use Rattle.market_events.specs.declared.links.Link.{Link}
use Rattle.market_events.specs.declared.links.Link.TheVariants.{Service, Asked, Told}
use Rattle.market_events.specs.declared.links.TheConstants.{PRODUCT_TO_CART, PRODUCT_TO_STOCK, CART_TO_STOCK, STOCK_TO_CART, STOCK_TO_ORDER, ORDER_TO_PAYMENT, ORDER_TO_SELLER, ORDER_TO_CART, PAYMENT_TO_STOCK, PAYMENT_TO_ORDER, PAYMENT_TO_SHIPMENT, PAYMENT_TO_CUSTOMER, PAYMENT_TO_SELLER, SHIPMENT_TO_ORDER, SHIPMENT_TO_SELLER, SHIPMENT_TO_CUSTOMER, SERVICE_LINKS}
use Rattle.market_events.specs.Links.{IsLink, sender_of, receiver_of}
use Rattle.market_events.specs.declared.nodes.TheConstants.{NODES}

-- each service link
pub by_link : (P : Link → Type 0) → P PRODUCT_TO_CART → P PRODUCT_TO_STOCK → P CART_TO_STOCK → P STOCK_TO_CART → P STOCK_TO_ORDER → P ORDER_TO_PAYMENT → P ORDER_TO_SELLER → P ORDER_TO_CART → P PAYMENT_TO_STOCK → P PAYMENT_TO_ORDER → P PAYMENT_TO_SHIPMENT → P PAYMENT_TO_CUSTOMER → P PAYMENT_TO_SELLER → P SHIPMENT_TO_ORDER → P SHIPMENT_TO_SELLER → P SHIPMENT_TO_CUSTOMER → (n : ℕ) → n < SERVICE_LINKS → P (Service n)
by_link P a b c d e f g h i j k l m o p q zero lt = a
by_link P a b c d e f g h i j k l m o p q (suc zero) lt = b
by_link P a b c d e f g h i j k l m o p q (suc (suc zero)) lt = c
by_link P a b c d e f g h i j k l m o p q (suc (suc (suc zero))) lt = d
by_link P a b c d e f g h i j k l m o p q (suc (suc (suc (suc zero)))) lt = e
by_link P a b c d e f g h i j k l m o p q (suc (suc (suc (suc (suc zero))))) lt = f
by_link P a b c d e f g h i j k l m o p q (suc (suc (suc (suc (suc (suc zero)))))) lt = g
by_link P a b c d e f g h i j k l m o p q (suc (suc (suc (suc (suc (suc (suc zero))))))) lt = h
by_link P a b c d e f g h i j k l m o p q (suc (suc (suc (suc (suc (suc (suc (suc zero)))))))) lt = i
by_link P a b c d e f g h i j k l m o p q (suc (suc (suc (suc (suc (suc (suc (suc (suc zero))))))))) lt = j
by_link P a b c d e f g h i j k l m o p q (suc (suc (suc (suc (suc (suc (suc (suc (suc (suc zero)))))))))) lt = k
by_link P a b c d e f g h i j k l m o p q (suc (suc (suc (suc (suc (suc (suc (suc (suc (suc (suc zero))))))))))) lt = l
by_link P a b c d e f g h i j k l m o p q (suc (suc (suc (suc (suc (suc (suc (suc (suc (suc (suc (suc zero)))))))))))) lt = m
by_link P a b c d e f g h i j k l m o p q (suc (suc (suc (suc (suc (suc (suc (suc (suc (suc (suc (suc (suc zero))))))))))))) lt = o
by_link P a b c d e f g h i j k l m o p q (suc (suc (suc (suc (suc (suc (suc (suc (suc (suc (suc (suc (suc (suc zero)))))))))))))) lt = p
by_link P a b c d e f g h i j k l m o p q (suc (suc (suc (suc (suc (suc (suc (suc (suc (suc (suc (suc (suc (suc (suc zero))))))))))))))) lt = q
by_link P a b c d e f g h i j k l m o p q (suc (suc (suc (suc (suc (suc (suc (suc (suc (suc (suc (suc (suc (suc (suc (suc n)))))))))))))))) lt = absurd (omega arith)

-- a link leads into a node
pub receiver-small : (l : Link) → IsLink l → receiver_of l < NODES
receiver-small (Service n) link =
    by_link (λ l. receiver_of l < NODES) (omega arith) (omega arith) (omega arith) (omega arith) (omega arith) (omega arith) (omega arith) (omega arith)
    (omega arith) (omega arith) (omega arith) (omega arith) (omega arith) (omega arith) (omega arith) (omega arith) n link
receiver-small (Asked lane service) link = omega (arith, link.1)
receiver-small (Told service lane) link = omega (arith, link.1)

-- and out of one
pub sender-small : (l : Link) → IsLink l → sender_of l < NODES
sender-small (Service n) link =
    by_link (λ l. sender_of l < NODES) (omega arith) (omega arith) (omega arith) (omega arith) (omega arith) (omega arith) (omega arith) (omega arith)
    (omega arith) (omega arith) (omega arith) (omega arith) (omega arith) (omega arith) (omega arith) (omega arith) n link
sender-small (Asked lane service) link = omega (arith, link.0)
sender-small (Told service lane) link = omega (arith, link.0)
