-- The answer of a lane is that of its group.
use Rattle.std.proofs.Common.{◌≡◌, List, IfOk, ap, subst, sym, ◌∙◌}
use Rattle.market_events.specs.declared.roles.Role.{Role}
use Rattle.market_events.specs.Links.{lane_node}
use Rattle.market_history.specs.Once.{answer_by, reply_of, requests_given, with_id}
use Rattle.market_rounds.specs.Groups.{number_at}
use Rattle.market_rounds.specs.Nodes.{FatedNode, entries_of_lane}
use Rattle.market_rounds.proofs.GroupAnswers.{lane_answer}
use Rattle.market_rounds.proofs.groups.Groups.answer.Goals as goal

pub returns-in-Cart : goal.returns-in-Cart
returns-in-Cart c =
    subst (λ (nodes : List FatedNode). IfOk c.answer.result (λ answer. answer ≡ answer_by (with_id c.args.request.now.id (requests_given (entries_of_lane nodes c.args.request.now.id))) (reply_of (entries_of_lane nodes c.args.request.now.id) c.args.request.now.id) c.args.request.now)) c.self.view_is
    (lane_answer c.self.inside.cart c.self.inside.product c.self.inside.stock c.self.inside.order c.self.inside.payment c.self.inside.shipment c.self.inside.customer c.self.inside.seller
    c.answer.result Role.Cart c.seat_of-role.result.1 c.args.request.now
    (ap (λ role. number_at role c.seat_of-role.result.1) (sym c.in-Cart.is) ∙ c.seat_of-role.ensures ∙ c.lane_node.ensures ∙ ap lane_node c.lane_of.ensures) c.answer.ensures)

pub returns-in-Product : goal.returns-in-Product
returns-in-Product c =
    subst (λ (nodes : List FatedNode). IfOk c.answer-in-Product.result (λ answer. answer ≡ answer_by (with_id c.args.request.now.id (requests_given (entries_of_lane nodes c.args.request.now.id))) (reply_of (entries_of_lane nodes c.args.request.now.id) c.args.request.now.id) c.args.request.now)) c.self.view_is
    (lane_answer c.self.inside.cart c.self.inside.product c.self.inside.stock c.self.inside.order c.self.inside.payment c.self.inside.shipment c.self.inside.customer c.self.inside.seller
    c.answer-in-Product.result Role.Product c.seat_of-role.result.1 c.args.request.now
    (ap (λ role. number_at role c.seat_of-role.result.1) (sym c.in-Product.is) ∙ c.seat_of-role.ensures ∙ c.lane_node.ensures ∙ ap lane_node c.lane_of.ensures) c.answer-in-Product.ensures)

pub returns-in-Stock : goal.returns-in-Stock
returns-in-Stock c =
    subst (λ (nodes : List FatedNode). IfOk c.answer-in-Stock.result (λ answer. answer ≡ answer_by (with_id c.args.request.now.id (requests_given (entries_of_lane nodes c.args.request.now.id))) (reply_of (entries_of_lane nodes c.args.request.now.id) c.args.request.now.id) c.args.request.now)) c.self.view_is
    (lane_answer c.self.inside.cart c.self.inside.product c.self.inside.stock c.self.inside.order c.self.inside.payment c.self.inside.shipment c.self.inside.customer c.self.inside.seller
    c.answer-in-Stock.result Role.Stock c.seat_of-role.result.1 c.args.request.now
    (ap (λ role. number_at role c.seat_of-role.result.1) (sym c.in-Stock.is) ∙ c.seat_of-role.ensures ∙ c.lane_node.ensures ∙ ap lane_node c.lane_of.ensures) c.answer-in-Stock.ensures)

pub returns-in-Order : goal.returns-in-Order
returns-in-Order c =
    subst (λ (nodes : List FatedNode). IfOk c.answer-in-Order.result (λ answer. answer ≡ answer_by (with_id c.args.request.now.id (requests_given (entries_of_lane nodes c.args.request.now.id))) (reply_of (entries_of_lane nodes c.args.request.now.id) c.args.request.now.id) c.args.request.now)) c.self.view_is
    (lane_answer c.self.inside.cart c.self.inside.product c.self.inside.stock c.self.inside.order c.self.inside.payment c.self.inside.shipment c.self.inside.customer c.self.inside.seller
    c.answer-in-Order.result Role.Order c.seat_of-role.result.1 c.args.request.now
    (ap (λ role. number_at role c.seat_of-role.result.1) (sym c.in-Order.is) ∙ c.seat_of-role.ensures ∙ c.lane_node.ensures ∙ ap lane_node c.lane_of.ensures) c.answer-in-Order.ensures)

pub returns-in-Payment : goal.returns-in-Payment
returns-in-Payment c =
    subst (λ (nodes : List FatedNode). IfOk c.answer-in-Payment.result (λ answer. answer ≡ answer_by (with_id c.args.request.now.id (requests_given (entries_of_lane nodes c.args.request.now.id))) (reply_of (entries_of_lane nodes c.args.request.now.id) c.args.request.now.id) c.args.request.now)) c.self.view_is
    (lane_answer c.self.inside.cart c.self.inside.product c.self.inside.stock c.self.inside.order c.self.inside.payment c.self.inside.shipment c.self.inside.customer c.self.inside.seller
    c.answer-in-Payment.result Role.Payment c.seat_of-role.result.1 c.args.request.now
    (ap (λ role. number_at role c.seat_of-role.result.1) (sym c.in-Payment.is) ∙ c.seat_of-role.ensures ∙ c.lane_node.ensures ∙ ap lane_node c.lane_of.ensures) c.answer-in-Payment.ensures)

pub returns-in-Shipment : goal.returns-in-Shipment
returns-in-Shipment c =
    subst (λ (nodes : List FatedNode). IfOk c.answer-in-Shipment.result (λ answer. answer ≡ answer_by (with_id c.args.request.now.id (requests_given (entries_of_lane nodes c.args.request.now.id))) (reply_of (entries_of_lane nodes c.args.request.now.id) c.args.request.now.id) c.args.request.now)) c.self.view_is
    (lane_answer c.self.inside.cart c.self.inside.product c.self.inside.stock c.self.inside.order c.self.inside.payment c.self.inside.shipment c.self.inside.customer c.self.inside.seller
    c.answer-in-Shipment.result Role.Shipment c.seat_of-role.result.1 c.args.request.now
    (ap (λ role. number_at role c.seat_of-role.result.1) (sym c.in-Shipment.is) ∙ c.seat_of-role.ensures ∙ c.lane_node.ensures ∙ ap lane_node c.lane_of.ensures) c.answer-in-Shipment.ensures)

pub returns-in-Customer : goal.returns-in-Customer
returns-in-Customer c =
    subst (λ (nodes : List FatedNode). IfOk c.answer-in-Customer.result (λ answer. answer ≡ answer_by (with_id c.args.request.now.id (requests_given (entries_of_lane nodes c.args.request.now.id))) (reply_of (entries_of_lane nodes c.args.request.now.id) c.args.request.now.id) c.args.request.now)) c.self.view_is
    (lane_answer c.self.inside.cart c.self.inside.product c.self.inside.stock c.self.inside.order c.self.inside.payment c.self.inside.shipment c.self.inside.customer c.self.inside.seller
    c.answer-in-Customer.result Role.Customer c.seat_of-role.result.1 c.args.request.now
    (ap (λ role. number_at role c.seat_of-role.result.1) (sym c.in-Customer.is) ∙ c.seat_of-role.ensures ∙ c.lane_node.ensures ∙ ap lane_node c.lane_of.ensures) c.answer-in-Customer.ensures)

pub returns-in-Seller : goal.returns-in-Seller
returns-in-Seller c =
    subst (λ (nodes : List FatedNode). IfOk c.answer-in-Seller.result (λ answer. answer ≡ answer_by (with_id c.args.request.now.id (requests_given (entries_of_lane nodes c.args.request.now.id))) (reply_of (entries_of_lane nodes c.args.request.now.id) c.args.request.now.id) c.args.request.now)) c.self.view_is
    (lane_answer c.self.inside.cart c.self.inside.product c.self.inside.stock c.self.inside.order c.self.inside.payment c.self.inside.shipment c.self.inside.customer c.self.inside.seller
    c.answer-in-Seller.result Role.Seller c.seat_of-role.result.1 c.args.request.now
    (ap (λ role. number_at role c.seat_of-role.result.1) (sym c.in-Seller.is) ∙ c.seat_of-role.ensures ∙ c.lane_node.ensures ∙ ap lane_node c.lane_of.ensures) c.answer-in-Seller.ensures)
