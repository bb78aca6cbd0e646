-- The block that began last is taken back, and played again.
use Rattle.market_laws.proofs.Merged.Replayed.{left_by_merged}
use Rattle.market_laws.proofs.laws.merged_schedules_leave_the_histories.Goals as goal

pub returns : goal.returns
returns c = record { left = λ h lawful. (left_by_merged h lawful).left; done = λ h lawful. (left_by_merged h lawful).done }
