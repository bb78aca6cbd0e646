-- What the core of a service keeps, and what it can make.
use Rattle.std.specs.Prelude.{◌≡◌, ℕ, true, List}
use Rattle.market_events.specs.Carried.{carries}
use Rattle.market_events.specs.Links.{IsLink, sender_of}
use Rattle.market_events.specs.declared.roles.Role.{Role}
use Rattle.market_events.specs.Services.{node_of}
use Rattle.market_events.specs.Standing.{Stands}
use Rattle.market_events.specs.Steps.{Step, Sending}
use Rattle.market_events.specs.WellFormed.{IsBody}
use Rattle.market_history.specs.Blocks.{inputs_of, steps_of}
use Rattle.market_history.specs.Journals.{AsksOwn}
use Rattle.market_node.specs.Records.{RecordState}

-- the service is that of the node, and stands for the steps that came to it
pub record IsServiceCore {Kept : Type 0} (role : Role) (holds : Kept → List Step
    → Type 0) (recorder : RecordState) (service : Kept) : Type 0 where
  pub node : recorder.node ≡ node_of role
  pub stands : Stands role holds service (steps_of role (inputs_of recorder.entries))

-- the node can make an event of this body on this link
pub record CanMake (node : ℕ) (made : Sending) : Type 0 where
  pub link : IsLink made.0
  pub from : sender_of made.0 ≡ node
  pub carried : carries made.0 made.1 ≡ true
  pub formed : IsBody made.1
  pub own : AsksOwn made.0 made.1
