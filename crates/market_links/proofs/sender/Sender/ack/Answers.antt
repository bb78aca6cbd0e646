use Rattle.std.proofs.Common.{arith}
use Rattle.market_links.proofs.SenderLemmas.{Follow-ack, counted-ack}
use Rattle.market_links.proofs.sender.Sender.ack.Goals as goal

pub invariant_of-self : goal.invariant_of-self
invariant_of-self c = record {
  numbered = rw c.drop_front.ensures.items (Follow-ack c.self.inside.link c.self.inside.gone c.self.inside.acknowledged c.args.count c.self.inside.events.items c.self.invariant.numbered (omega arith));
  counted = rw c.drop_front.ensures.items (counted-ack c.self.inside.gone c.self.inside.acknowledged c.args.count c.self.inside.appended c.self.inside.events.items c.self.invariant.counted (omega arith) (omega (arith, c.self.invariant.within)));
  above = omega arith;
  within = c.self.invariant.within;
  half = omega arith;
  room = omega (arith, c.self.invariant.room, c.drop_front.ensures.len, c.drop_front.ensures.capacity);
}

pub invariant_of-self-else-self-len : goal.invariant_of-self-else-self-len
invariant_of-self-else-self-len c = record {
  numbered = Follow-ack c.self.inside.link c.self.inside.gone c.self.inside.acknowledged c.args.count c.self.inside.events.items c.self.invariant.numbered (omega arith);
  counted = counted-ack c.self.inside.gone c.self.inside.acknowledged c.args.count c.self.inside.appended c.self.inside.events.items c.self.invariant.counted (omega arith) (omega (arith, c.self.invariant.within));
  above = omega arith;
  within = c.self.invariant.within;
  half = omega (arith, c.len.ensures, c.if-self-len.false);
  room = c.self.invariant.room;
}
