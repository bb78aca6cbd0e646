use Rattle.market_rounds.proofs.NewGroups.{all_idle}
use Rattle.market_rounds.proofs.groups.Groups.new.Goals as goal

pub returns : goal.returns
returns c = all_idle _ _ _ _ _ _ _ _ c.in_ok-new.ensures c.in_ok-new-2.ensures c.in_ok-new-3.ensures c.in_ok-new-4.ensures c.in_ok-new-5.ensures c.in_ok-new-6.ensures c.in_ok-new-7.ensures c.in_ok-new-8.ensures
