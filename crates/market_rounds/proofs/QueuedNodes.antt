-- Nodes that are ready for a round stay so when a lane gets requests of its own.
use Rattle.std.proofs.Common.{◌≡◌, ◌≢◌, ℕ, ◌<◌, Bool, true, false, ◌==◌, List, Result, Ok, Err, OnOk, refl, ap, subst, sym, ◌∙◌, arith}
use Rattle.std.specs.List.{AllByRecursion, slice_set}
use Rattle.std.proofs.Math.Seq.{map-set_same}
use Rattle.std.proofs.lemmas.Bool.Decides.{nat_tests}
use Rattle.std.proofs.lemmas.List.{get_or-set_same, get_or-set_other, length-set}
use Rattle.market_events.specs.declared.nodes.TheConstants.{NODES}
use Rattle.market_events.specs.declared.requests.Request.{Request}
use Rattle.market_history.specs.Histories.{Histories}
use Rattle.market_laws.proofs.Growth.Members.{all-append}
use Rattle.market_turns.specs.Queues.{IsOwnRequest}
use Rattle.market_rounds.specs.Between.{AreBetween}
use Rattle.market_rounds.specs.Nodes.{FatedNode, AreReady, at_node, node_by, queue_by, idle_node, with_requests, entries_of_node, histories_by}
use Rattle.market_rounds.proofs.NewNodes.{between_same}

module _ (old : List FatedNode) (k : ℕ) (requests : List Request) (ready : AreReady old) (low : k < NODES) (own : AllByRecursion (IsOwnRequest k) requests) where
  abbrev new : List FatedNode
  new = slice_set old k (with_requests (at_node old k) requests)

  at_other : (n : ℕ) → n ≢ k → at_node new n ≡ at_node old n
  at_other n differs = get_or-set_other old k n (with_requests (at_node old k) requests) (idle_node n) differs

  at_own : at_node new k ≡ with_requests (at_node old k) requests
  at_own = get_or-set_same old k (with_requests (at_node old k) requests) (idle_node k) (omega (arith, low, ready.many))

  same_histories : histories_by new ≡ histories_by old
  same_histories = map-set_same entries_of_node old k (with_requests (at_node old k) requests) (idle_node k) refl

  node_same : (n : ℕ) → (b : Bool) → (k == n) ≡ b → node_by old n ≡ node_by new n
  node_same n true test =
      let e : k ≡ n = grind (arith, nat_tests) in
      subst (λ i. node_by old i ≡ node_by new i) e (sym (ap (λ (node : FatedNode). node.node) at_own))
  node_same n false test =
      let differs : n ≢ k = grind (arith, nat_tests) in
      sym (ap (λ (node : FatedNode). node.node) (at_other n differs))

  own_still : (n : ℕ) → n < NODES → (b : Bool) → (k == n) ≡ b → AllByRecursion (IsOwnRequest n) (queue_by new n)
  own_still n below true test =
      let e : k ≡ n = grind (arith, nat_tests) in
      subst (λ i. AllByRecursion (IsOwnRequest i) (queue_by new i)) e
      (subst (AllByRecursion (IsOwnRequest k)) (sym (ap (λ (node : FatedNode). node.queue) at_own)) (all-append (IsOwnRequest k) (queue_by old k) requests (ready.own k low) own))
  own_still n below false test =
      let differs : n ≢ k = grind (arith, nat_tests) in
      subst (AllByRecursion (IsOwnRequest n)) (sym (ap (λ (node : FatedNode). node.queue) (at_other n differs))) (ready.own n below)

  pub queued_ready : AreReady new
  queued_ready = record {
    many = length-set old k (with_requests (at_node old k) requests) ∙ ready.many;
    between = subst (λ (h : Histories). AreBetween h (node_by new)) (sym same_histories)
        (between_same (histories_by old) (node_by old) (node_by new) (λ n below. node_same n (k == n) refl) ready.between);
    own = λ n below. own_still n below (k == n) refl;
  }

-- where that succeeds
pub queued_ok : {E : Type 0} (result : Result (Unit {0}) E) (old new : List FatedNode) (k : ℕ) (requests : List Request) → AreReady old → k < NODES → AllByRecursion (IsOwnRequest k) requests
    → OnOk result (new ≡ slice_set old k (with_requests (at_node old k) requests)) → OnOk result (AreReady new)
queued_ok (Ok u) old new k requests ready low own is = subst AreReady (sym is) (queued_ready old k requests ready low own)
queued_ok (Err e) old new k requests ready low own is = is
