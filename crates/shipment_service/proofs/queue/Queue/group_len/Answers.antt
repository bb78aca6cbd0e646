use Rattle.std.proofs.Common.{◌≡◌, ℕ, ◌<◌, ◌∙◌, ap, subst, rules, tests, length, take, get_or}
use Rattle.std.specs.List.{prefix_len}
use Rattle.std.proofs.lemmas.List.Folds.{length-prefix_len}
use Rattle.std.proofs.lemmas.Iterator.Consumers.{YieldsList-from_deque, YieldsList-at, count_from_yields_List}
use Rattle.std.proofs.lemmas.Iterator.Search.{YieldsList-from_take_while}
use Rattle.market_events.specs.declared.bodies.Item.{Item}
use Rattle.market_events.specs.Requests.{same_id}
use Rattle.shipment_service.proofs.Grouping.{group_len-first}
use Rattle.shipment_service.proofs.queue.Queue.group_len.Goals as goal

pub returns : goal.returns
returns c =
    let test = λ (p : ℕ × Item). same_id c.in-Some.oldest.now.1.checkout p.1.checkout in
    let counted : c.count.result ≡ length (take (prefix_len test c.args.self.now) c.args.self.now)
    = count_from_yields_List c.take_while.result c.count.result c.count.ensures.ran
    (YieldsList-from_take_while _ test
    (YieldsList-at c.take_while.ensures.source (YieldsList-from_deque c.args.self.now (cc)))
    c.take_while.ensures.closure c.take_while.ensures.done (λ x b q k. search (rules, tests))) in
    let some : 0 < length c.args.self.now = subst (λ q. 0 < length q) c.self.view_is c.in-Some.ensures.item.3.0 in
    let first : c.in-Some.oldest.now ≡ get_or c.args.self.now 0 c.in-Some.oldest.now = c.in-Some.ensures.lookup ∙ ap (λ q. get_or q 0 c.in-Some.oldest.now) c.self.view_is in
    counted ∙ length-prefix_len test c.args.self.now ∙ group_len-first c.args.self.now c.in-Some.oldest.now some first
