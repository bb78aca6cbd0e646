use Rattle.std.proofs.Common.{ap₂, ◌∙◌}
use Rattle.std.proofs.Math.Logic.{∥∥₁_elim}
use Rattle.market_events.specs.declared.bodies.Body.TheVariants as body
use Rattle.market_events.specs.declared.links.Link.TheVariants.{Asked}
use Rattle.market_events.specs.Requests.{lane_of}
use Rattle.market_events.specs.Services.{fits}
use Rattle.market.specs.Carrying.{steps_taken}
use Rattle.market.proofs.services.Services.give.Goals as goal
use Rattle.market_history.specs.Blocks.{role_at}

pub accept-requires : goal.accept-requires
accept-requires c =
    let service = c.service_of-service.ensures in
    let r = c.args.request.now in
    ∥∥₁_elim c.requires squash₁
    (λ it. ∣ (it.0, it.1, ap₂ (λ n m. fits (role_at n) (steps_taken it.0 (role_at n)) (Asked (lane_of r.id) m) (body.Asked r)) service (c.get.ensures.value ∙ service) ∙ it.2) ∣₁)
