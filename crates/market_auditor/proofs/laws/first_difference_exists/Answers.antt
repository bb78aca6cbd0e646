-- Each criterion is decided, node by node and place by place.
use Rattle.market_auditor.proofs.Firsts.{first_exists, first_is_no}
use Rattle.market_auditor.proofs.laws.first_difference_exists.Goals as goal

pub returns : goal.returns
returns c = record {
  exists = λ h no. first_exists h no;
  differs = λ h criterion n place first all. first_is_no h criterion n place first all;
}
