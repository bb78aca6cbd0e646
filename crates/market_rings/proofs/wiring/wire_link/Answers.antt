use Rattle.std.proofs.Common.{◌≡◌, List, ◌∙◌, ap}
use Rattle.market_rings.specs.NodeEnds.{NodeEnds}
use Rattle.market_rings.specs.Wiring.{with_sender, with_receiver}
use Rattle.market_rings.proofs.Wired.{one_more}
use Rattle.market_rings.proofs.wiring.wire_link.Goals as goal

pub returns : goal.returns
returns c =
    let is : c.put_at_receiver.new.all ≡ with_receiver (with_sender c.args.all.now c.args.link c.in_ok-out.out) c.args.link c.in_ok-out.into =
    c.put_at_receiver.ensures.put ∙ ap (λ (all : List NodeEnds). with_receiver all c.args.link c.in_ok-out.into) c.put_at_sender.ensures.put in
    rw is (one_more c.args.all.now c.args.link c.in_ok-out.out c.in_ok-out.into c.requires.link c.put_at_sender.ensures.within c.put_at_receiver.ensures.within c.in_ok-out.ensures c.requires.before)
