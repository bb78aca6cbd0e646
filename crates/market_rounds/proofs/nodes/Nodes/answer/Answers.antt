use Rattle.std.proofs.Common.{◌≡◌, List, IfOk, subst, sym}
use Rattle.market_events.specs.declared.events.Entry.{Entry}
use Rattle.market_events.specs.Links.{lane_node}
use Rattle.market_events.specs.Requests.{lane_of}
use Rattle.market_history.specs.Once.{answer_by, answer_for, reply_of, requests_given, with_id}
use Rattle.market_rounds.specs.Nodes.{FatedNode, histories_by}
use Rattle.market_rounds.proofs.Answering.{journal_of}
use Rattle.market_rounds.proofs.nodes.Nodes.answer.Goals as goal

pub returns : goal.returns
returns c =
    subst (λ (nodes : List FatedNode). IfOk c.answer.result (λ answer. answer ≡ answer_for (histories_by nodes) c.args.request.now)) c.self.view_is
    (subst (λ (entries : List Entry). IfOk c.answer.result (λ answer. answer ≡ answer_by (with_id c.args.request.now.id (requests_given entries)) (reply_of entries c.args.request.now.id) c.args.request.now))
    (sym (journal_of c.self.inside.groups (lane_node (lane_of c.args.request.now.id)))) c.answer.ensures)
