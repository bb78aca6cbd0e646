use Rattle.market_events.specs.Links.{node_of}
use Rattle.market_history.specs.Histories.{journal_at}
use Rattle.market_node.specs.Offered.{FitsService, FitsLane}
use Rattle.market_world.specs.Arriving.{CanOffer}
use Rattle.market_rounds.proofs.Offering.{low_node, offers_play, offers_can, can_weaker, service_can, lane_can}
use Rattle.market_rounds.proofs.laws.events_that_wait_may_be_offered.Goals as goal

pub returns-clause-services : goal.returns-clause-services
returns-clause-services c h role events lawful made into =
    can_weaker CanOffer (FitsService role) (node_of role) (service_can role) (journal_at h (node_of role)) events
    (offers_can (node_of role) (low_node role) h events lawful made into)

pub returns-clause-lanes : goal.returns-clause-lanes
returns-clause-lanes c h n events low lawful made into =
    can_weaker CanOffer FitsLane n (lane_can n) (journal_at h n) events (offers_can n low h events lawful made into)

pub returns-clause-plays : goal.returns-clause-plays
returns-clause-plays c h n events low lawful made into = offers_play n low h events lawful made into
