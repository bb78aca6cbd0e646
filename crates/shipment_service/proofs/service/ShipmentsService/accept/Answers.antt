use Rattle.std.proofs.Math.Logic.{∥∥₁_elim}
use Rattle.shipment_service.proofs.service.ShipmentsService.accept.Goals as goal

pub take-requires-clause-can : goal.take-requires-clause-can
take-requires-clause-can c = ∥∥₁_elim c.requires.can squash₁ (λ it. ∣ (c.args._from, it.0, it.1, it.2) ∣₁)
