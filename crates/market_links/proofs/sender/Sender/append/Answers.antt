use Rattle.std.proofs.Common.{◌≡◌, ◌+◌, ◌≤◌, [], ◌∷◌, ◌++◌, length, drop, sym, ◌∙◌, ap, arith, length-append}
use Rattle.std.proofs.lemmas.List.{drop-append-le}
use Rattle.market_links.specs.SenderStates.{SenderState, next_number}
use Rattle.market_links.proofs.SenderLemmas.{Follow-push}
use Rattle.market_links.proofs.sender.Sender.append.Goals as goal

pub invariant_of-self : goal.invariant_of-self
invariant_of-self c =
    let gone_in : c.self.inside.gone ≤ length c.self.inside.events.items = omega (arith, c.self.inside.events.ok.0, c.self.invariant.half) in
    let pushed : drop c.self.inside.gone c.push.new.self.items ≡ drop c.self.inside.gone c.self.inside.events.items ++ c.args.event ∷ [] =
    ap (λ es. drop c.self.inside.gone es) c.in-Ok.ensures.items ∙ drop-append-le c.self.inside.gone c.self.inside.events.items (c.args.event ∷ []) gone_in in
    let same : c.args.event.link ≡ c.self.inside.link = c.requires.link ∙ sym (ap (λ (s : SenderState). s.link) c.self.view_is) in
    let next : c.args.event.number ≡ c.self.inside.acknowledged + length (drop c.self.inside.gone c.self.inside.events.items) + 1 = c.requires.next ∙ sym (ap next_number c.self.view_is) in
    record {
      numbered = rw pushed (Follow-push c.self.inside.link c.self.inside.acknowledged (drop c.self.inside.gone c.self.inside.events.items) c.args.event c.self.invariant.numbered same next);
      counted = rw pushed (omega (arith, length-append (drop c.self.inside.gone c.self.inside.events.items) (c.args.event ∷ [])));
      above = omega (arith, c.self.invariant.above);
      within = omega (arith, c.self.invariant.within, c.self.invariant.counted);
      half = omega (arith, c.self.invariant.half, c.in-Ok.ensures.len);
      room = omega (arith, c.self.invariant.room, c.in-Ok.ensures.len, c.push.ensures.capacity, c.push.new.self.ok.1, c.saturating_sub-self-inside.ensures);
    }
