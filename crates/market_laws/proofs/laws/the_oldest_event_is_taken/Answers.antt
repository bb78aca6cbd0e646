-- By walking over the links, by the clocks of each journal, and by what the past of the oldest event counts.
use Rattle.market_laws.proofs.Oldest.Only.{oldest-only}
use Rattle.market_laws.proofs.Oldest.Taken.{oldest-named, oldest-taken, oldest-outcome}
use Rattle.market_laws.proofs.Oldest.Walk.{settled-or-oldest}
use Rattle.market_laws.proofs.laws.the_oldest_event_is_taken.Goals as goal

pub returns : goal.returns
returns c = record {
  there_is = λ h lawful. settled-or-oldest h lawful;
  only = λ h link other number count lawful on also o p. oldest-only h lawful link other number count on also o p;
  found = λ h link number lawful on o. oldest-named h lawful link number on o;
  taken = λ h link number lawful on o. oldest-taken h lawful link number on o;
  comes = λ h link number lawful on o. oldest-outcome h lawful link number on o;
}
