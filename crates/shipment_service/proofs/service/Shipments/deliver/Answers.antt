use Rattle.std.proofs.Common.{◌≡◌, ℕ, Bool, List, length, filter_map, None, if◌then◌else◌, refl, ap, sym, arith, ◌∙◌}
use Rattle.std.proofs.Math.Logic.{∥∥₁_elim}
use Rattle.std.proofs.lemmas.List.{length-map}
use Rattle.std.specs.Coded.{le_prop}
use Rattle.std.specs.Map.{keys_of, values_of}
use Rattle.market_events.specs.declared.bodies.Item.{Item}
use Rattle.market_events.specs.Shipments.{deliver_rows}
use Rattle.shipment_service.specs.Deliveries.{served_of}
use Rattle.market_events.specs.Entries.{entry_at}
use Rattle.shipment_service.specs.Tables.{close_if, is_one_of, put_at, has_number, queue_at, follower_of, served_queue, groups_of}
use Rattle.shipment_service.proofs.Closing.{number-keys}
use Rattle.shipment_service.proofs.Heads.{turn_of}
use Rattle.shipment_service.proofs.Steps.{turns-are}
use Rattle.shipment_service.proofs.Lining.{waits_same}
use Rattle.shipment_service.proofs.Outcomes.{any_err}
use Rattle.shipment_service.proofs.Serving.{next-apart, waits-left, picked-taken}
use Rattle.shipment_service.proofs.service.Shipments.deliver.Goals as goal

pub tell_delivered-requires-clause-few : goal.tell_delivered-requires-clause-few
tell_delivered-requires-clause-few c =
    let queues = c.args.self.now.waiting.queues in
    let oldest = c.args.self.now.waiting.oldest in
    let turns = c.in_ok-served.served.items in
    ∥∥₁_elim c.requires.few le_prop (λ it.
    let are = turns-are queues oldest it.0 it.1.waits it.1.lined.rise c.in_ok-served.ensures.rising turns c.in_ok-served.ensures.first in
    let taken = picked-taken it.0 it.1.lined.rise queues oldest it.1.waits it.1.lined.grouped turns are c.in_ok-picked.picked c.in_ok-numbers.ensures.rising
    (λ n. c.in_ok-picked.ensures n ∙ ap (λ ts. put_at n None (groups_of queues ts)) c.as_slice.ensures.value) in
    omega (
      arith,
      ap length c.in_ok-items.ensures,
      length-map c.in_ok-picked.picked (λ (p : ℕ × Item). p.1),
      ap length taken,
      it.1.few,
    ))

pub returns-in_err-put_all-clause-err : goal.returns-in_err-put_all-clause-err
returns-in_err-put_all-clause-err c =
    let queues = c.args.self.now.waiting.queues in
    let oldest = c.args.self.now.waiting.oldest in
    let next : c.as_slice-3.result.now ≡ filter_map (follower_of queues) c.as_slice-2.result.now = c.as_slice-3.ensures.value ∙ c.in_ok-next.ensures in
    any_err (λ waiting waits rise.
    waits_same queues oldest queues c.put_all.new.self waiting (λ s. refl)
    (λ n. c.in_err-put_all.ensures.err n (λ has. next-apart waiting rise queues oldest waits c.as_slice-2.result.now n (ap (λ ts. has_number ts n) (sym next) ∙ has))) waits)
    c.from_residual-in_err-put_all.result

pub returns-clause-made : goal.returns-clause-made
returns-clause-made c = λ waiting waits lined.
    let queues = c.args.self.now.waiting.queues in
    let oldest = c.args.self.now.waiting.oldest in
    let turns = c.in_ok-served.served.items in
    let are = turns-are queues oldest waiting waits lined.rise c.in_ok-served.ensures.rising turns c.in_ok-served.ensures.first in
    let taken = picked-taken waiting lined.rise queues oldest waits lined.grouped turns are c.in_ok-picked.picked c.in_ok-numbers.ensures.rising
    (λ n. c.in_ok-picked.ensures n ∙ ap (λ ts. put_at n None (groups_of queues ts)) c.as_slice.ensures.value) in
    let sellers : c.len.result ≡ length (served_of waiting) = omega (arith, c.len.ensures, c.in_ok-served.served.ok.0, ap length are, length-map (served_of waiting) turn_of) in
    let items = c.in_ok-items.ensures ∙ ap values_of taken in
    let told = c.in_ok-tell_delivered.ensures in
    told ∙ (λ i. deliver_rows c.args.id (items i) (sellers i))

pub returns-clause-closed : goal.returns-clause-closed
returns-clause-closed c = λ waiting waits lined.
    let queues = c.args.self.now.waiting.queues in
    let oldest = c.args.self.now.waiting.oldest in
    let turns = c.in_ok-served.served.items in
    let are = turns-are queues oldest waiting waits lined.rise c.in_ok-served.ensures.rising turns c.in_ok-served.ensures.first in
    let taken = picked-taken waiting lined.rise queues oldest waits lined.grouped turns are c.in_ok-picked.picked c.in_ok-numbers.ensures.rising
    (λ n. c.in_ok-picked.ensures n ∙ ap (λ ts. put_at n None (groups_of queues ts)) c.as_slice.ensures.value) in
    let numbers : c.as_slice-6.result.now ≡ keys_of c.in_ok-picked.picked = c.as_slice-6.ensures.value ∙ c.in_ok-numbers.ensures.ok in
    c.close_all.ensures ∙ ap (λ ns. close_if (is_one_of ns) c.args.self.now.packages) numbers
    ∙ ap (λ (test : ℕ → Bool). close_if test c.args.self.now.packages) (λ i n. number-keys c.in_ok-picked.picked n i)
    ∙ ap (λ (es : List (ℕ × Item)). close_if (has_number es) c.args.self.now.packages) taken

pub returns-clause-left : goal.returns-clause-left
returns-clause-left c = λ waiting waits lined.
    let queues = c.args.self.now.waiting.queues in
    let oldest = c.args.self.now.waiting.oldest in
    let turns = c.in_ok-served.served.items in
    let are = turns-are queues oldest waiting waits lined.rise c.in_ok-served.ensures.rising turns c.in_ok-served.ensures.first in
    let next : c.as_slice-3.result.now ≡ filter_map (follower_of queues) turns
    = c.as_slice-3.ensures.value ∙ c.in_ok-next.ensures ∙ ap (filter_map (follower_of queues)) c.as_slice-2.ensures.value in
    let put : (n : ℕ) → entry_at c.put_all.new.self n ≡ put_at n (entry_at oldest n) (filter_map (follower_of queues) turns)
    = λ n. c.in_ok-put_all.ensures.ok n ∙ ap (put_at n (entry_at oldest n)) next in
    let ones : (n : ℕ) → entry_at c.take_all.new.self n ≡ (if has_number turns n then None else put_at n (entry_at oldest n) (filter_map (follower_of queues) turns))
    = λ n. c.take_all.ensures n ∙ (λ i. if has_number (c.as_slice-4.ensures.value i) n then None else put n i) in
    waits-left waiting lined.rise queues oldest waits lined.grouped turns are c.take_all.new.self ones c.serve.new.self
    (λ s. c.serve.ensures s ∙ ap (served_queue s (queue_at queues s)) c.as_slice-5.ensures.value)
