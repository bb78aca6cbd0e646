-- What is asked is told, and what is told is taken.
use Rattle.market_laws.proofs.Settled.Lanes.{lanes-idle, kept-answered}
use Rattle.market_laws.proofs.laws.settled_lanes_answer.Goals as goal

pub returns : goal.returns
returns c = record {
  idle = λ h lane lawful settled lt. lanes-idle h lawful settled lane lt;
  answered = λ h lane r lawful settled lt here. kept-answered h lawful settled lane lt r here;
}
