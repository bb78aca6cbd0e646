-- A request carried through the services, by its kind.
use Rattle.market.proofs.Carrying.Kinds.{is_answered}
use Rattle.market.proofs.laws.a_request_is_a_sequential_step.Goals as goal

pub returns : goal.returns
returns c = is_answered
