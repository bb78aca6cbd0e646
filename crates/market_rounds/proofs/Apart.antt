-- A link leads from one node to another.
use Rattle.std.proofs.Common.{◌≢◌, arith}
use Rattle.market_events.specs.declared.links.Link.{Link}
use Rattle.market_events.specs.declared.links.Link.TheVariants.{Service, Asked, Told}
use Rattle.market_events.specs.Links.{IsLink, sender_of, receiver_of}
use Rattle.market_laws.proofs.Bounds.LinkEnds.{by_link}

pub ends_apart : (link : Link) → IsLink link → sender_of link ≢ receiver_of link
ends_apart (Service n) on =
    by_link (λ l. sender_of l ≢ receiver_of l) (λ e. omega arith) (λ e. omega arith) (λ e. omega arith) (λ e. omega arith) (λ e. omega arith) (λ e. omega arith) (λ e. omega arith) (λ e. omega arith)
    (λ e. omega arith) (λ e. omega arith) (λ e. omega arith) (λ e. omega arith) (λ e. omega arith) (λ e. omega arith) (λ e. omega arith) (λ e. omega arith) n on
ends_apart (Asked lane service) on = λ e. omega (arith, on.1)
ends_apart (Told service lane) on = λ e. omega (arith, on.0)
