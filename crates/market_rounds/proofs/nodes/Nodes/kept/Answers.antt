use Rattle.std.proofs.Common.{List, ap, sym, ◌∙◌}
use Rattle.market_events.specs.declared.events.Entry.{Entry}
use Rattle.market_events.specs.Links.{lane_node}
use Rattle.market_events.specs.Requests.{lane_of}
use Rattle.market_history.specs.Once.{reply_at, reply_of}
use Rattle.market_rounds.specs.Nodes.{FatedNode, histories_by}
use Rattle.market_rounds.proofs.Answering.{journal_of}
use Rattle.market_rounds.proofs.nodes.Nodes.kept.Goals as goal

pub returns : goal.returns
returns c =
    c.kept.ensures
    ∙ ap (λ (entries : List Entry). reply_of entries c.args.id) (sym (journal_of c.self.inside.groups (lane_node (lane_of c.args.id))))
    ∙ ap (λ (nodes : List FatedNode). reply_at (histories_by nodes) c.args.id) c.self.view_is
