-- Where the next that is taken fits once all before did, all fit.
use Rattle.market_laws.proofs.Fits.All.{services-fit, lanes-in_time}
use Rattle.market_laws.proofs.laws.events_fit.Goals as goal

pub returns : goal.returns
returns c = record {
  at_services = λ h n lawful lt. services-fit h lawful n lt;
  at_lanes = λ h n lawful lt. lanes-in_time h lawful n lt;
}
