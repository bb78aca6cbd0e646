-- What the nodes settle is what the requests leave, and each request has its answer.
use Rattle.std.proofs.Common.{ap, subst, ◌∙◌}
use Rattle.market_history.specs.Histories.{Histories}
use Rattle.market_world.proofs.SoundWorlds.{complete_of}
use Rattle.market_rounds.specs.Markets.{HaveSettled, MarketState}
use Rattle.market_rounds.specs.Nodes.{AreDone, AreReady, histories_by}
use Rattle.market_rounds.proofs.Answering.{have_answers, have_settled}
use Rattle.market_rounds.proofs.marketplace.Marketplace.settle_gated.Goals as goal

pub answers-requires : goal.answers-requires
answers-requires g c =
    have_answers (histories_by c.settle.new.self) (complete_of (histories_by c.settle.new.self) c.in_ok-settle.ensures.ready.between.lawful c.in_ok-settle.ensures.done.settled) c.args.given.now

pub returns-clause-settled : goal.returns-clause-settled
returns-clause-settled g c =
    let before : AreReady c.self.inside.nodes × AreDone c.self.inside.nodes = c.self.invariant (ap (λ (m : MarketState). m.usable) c.self.view_is ∙ c.requires.usable) in
    subst (λ (h : Histories). HaveSettled h (histories_by c.settle.new.self) c.args.given.now) (ap (λ (m : MarketState). m.histories) c.self.view_is)
    (have_settled c.self.inside.nodes c.plan.new.self c.give.new.self c.settle.new.self c.args.given.now before.0 before.1 c.in_ok-plan.ensures.only c.in_ok-give.ensures.given
    c.in_ok-settle.ensures.ready c.in_ok-settle.ensures.done c.in_ok-settle.ensures.went_on c.in_ok-settle.ensures.kept)
