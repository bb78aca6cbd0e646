use Rattle.std.proofs.Common.{arith, map}
use Rattle.std.proofs.lemmas.List.{length-map}
use Rattle.market_texts.proofs.FieldCounts.{request_of-few}
use Rattle.market_texts.proofs.workload.read_fields.Goals as goal

pub returns-in_default : goal.returns-in_default
returns-in_default c = record {
  exact = let few = request_of-few (map (λ field. field.items) c.args.fields.now) (omega (arith, length-map c.args.fields.now (λ field. field.items))) in cc;
  formed = tt;
}
