-- A reply that a service tells is one that a lane can keep.
use Rattle.std.proofs.Common.{◌≡◌, ℕ, true}
use Rattle.market_amounts.specs.declared.keys.RequestId.{RequestId}
use Rattle.market_events.specs.declared.bodies.Body.TheVariants as body
use Rattle.market_events.specs.declared.links.Link.{Link}
use Rattle.market_events.specs.declared.links.Link.TheVariants as link
use Rattle.market_events.specs.declared.replies.Reply.{Reply}
use Rattle.market_events.specs.declared.replies.Reply.TheVariants as reply
use Rattle.market_events.specs.declared.replies.Rule.{Rule}
use Rattle.market_events.specs.declared.replies.Rule.TheVariants as rule
use Rattle.market_events.specs.Carried.{carries, can_refuse, can_reply}
use Rattle.market_history.specs.Journals.{IsOfService, CanBeKept}

refused-kept : (service : ℕ) (why : Rule) → can_refuse service why ≡ true → IsOfService why
refused-kept service rule.LaneFull can = let no : ⊥ = cc in absurd no
refused-kept service rule.RequestDiffers can = let no : ⊥ = cc in absurd no
refused-kept service other can = tt

replied-kept : (service : ℕ) (r : Reply) → can_reply service r ≡ true → CanBeKept r
replied-kept service (reply.Refused why) can = refused-kept service why can
replied-kept service other can = tt

pub told-kept : (from : Link) (id : RequestId) (r : Reply) → carries from (body.Told id r) ≡ true → CanBeKept r
told-kept (link.Service n) id r can = let no : ⊥ = cc in absurd no
told-kept (link.Asked lane service) id r can = let no : ⊥ = cc in absurd no
told-kept (link.Told service lane) id r can = replied-kept service r can
