-- Each lane gets its own of the given requests, one lane after the other.
use Rattle.std.proofs.Common.{◌≡◌, ◌≢◌, ℕ, ◌+◌, ◌<◌, ◌≤◌, Bool, true, false, ◌==◌, if◌then◌else◌, List, [], ◌∷◌, ◌++◌, refl, ap, subst, ◌∙◌, arith}
use Rattle.std.specs.List.{AllByRecursion, slice_set}
use Rattle.std.proofs.Math.Seq.{map-set_same}
use Rattle.std.proofs.lemmas.Bool.Decides.{nat_tests}
use Rattle.std.proofs.lemmas.List.{get_or-set_same, get_or-set_other}
use Rattle.market_events.specs.declared.lanes.TheConstants.{LANES}
use Rattle.market_events.specs.declared.requests.Request.{Request}
use Rattle.market_events.specs.Links.{lane_node}
use Rattle.market_events.specs.Requests.{lane_of}
use Rattle.market_events.specs.WellFormed.{IsRequest}
use Rattle.market_turns.specs.Queues.{IsOwnRequest}
use Rattle.market_rounds.specs.Nodes.{FatedNode, AreReady, at_node, queue_by, idle_node, with_requests, entries_of_node, histories_by}
use Rattle.market_rounds.specs.Settling.{AreGiven, requests_of}

-- the lanes below this one have theirs
pub record AreGivenBelow (lane : ℕ) (given : List Request) (old new : List FatedNode) : Type 0 where
  pub histories : histories_by new ≡ histories_by old
  pub queued : (k : ℕ) → k < lane → queue_by new (lane_node k) ≡ queue_by old (lane_node k) ++ requests_of k given
  pub later : (k : ℕ) → lane ≤ k → queue_by new (lane_node k) ≡ queue_by old (lane_node k)

-- the requests of a lane are its own
pub own_of : (lane : ℕ) (given : List Request) → AllByRecursion IsRequest given → AllByRecursion (IsOwnRequest (lane_node lane)) (requests_of lane given)
own_of lane [] all = tt
own_of lane (r ∷ rs) all = by_test (lane_of r.id == lane) refl (own_of lane rs all.1)
  where
    by_test : (b : Bool) → (lane_of r.id == lane) ≡ b → AllByRecursion (IsOwnRequest (lane_node lane)) (requests_of lane rs)
        → AllByRecursion (IsOwnRequest (lane_node lane)) (if b then r ∷ requests_of lane rs else requests_of lane rs)
    by_test true test rest =
        let is : lane_of r.id ≡ lane = grind (arith, nat_tests) in
        ((all.0, ap lane_node is), rest)
    by_test false test rest = rest

pub given_none : (given : List Request) (nodes : List FatedNode) → AreGivenBelow 0 given nodes nodes
given_none given nodes = record {
  histories = refl;
  queued = λ k low. let no : ⊥ = omega (arith, low) in absurd no;
  later = λ k low. refl;
}

-- and one lane more
module _ (given : List Request) (old mid new : List FatedNode) (lane : ℕ) (low : lane < LANES) (ready : AreReady mid) (below : AreGivenBelow lane given old mid)
    (set : new ≡ slice_set mid (lane_node lane) (with_requests (at_node mid (lane_node lane)) (requests_of lane given))) where
  queue_own : queue_by new (lane_node lane) ≡ queue_by mid (lane_node lane) ++ requests_of lane given
  queue_own =
      ap (λ (ns : List FatedNode). queue_by ns (lane_node lane)) set
      ∙ ap (λ (x : FatedNode). x.queue) (get_or-set_same mid (lane_node lane) (with_requests (at_node mid (lane_node lane)) (requests_of lane given)) (idle_node (lane_node lane)) (omega (arith, low, ready.many)))

  queue_other : (k : ℕ) → k ≢ lane → queue_by new (lane_node k) ≡ queue_by mid (lane_node k)
  queue_other k differs =
      let apart : lane_node k ≢ lane_node lane = λ same. differs (omega (arith, same)) in
      ap (λ (ns : List FatedNode). queue_by ns (lane_node k)) set
      ∙ ap (λ (x : FatedNode). x.queue) (get_or-set_other mid (lane_node lane) (lane_node k) (with_requests (at_node mid (lane_node lane)) (requests_of lane given)) (idle_node (lane_node k)) apart)

  by_lane : (k : ℕ) → k < lane + 1 → (b : Bool) → (lane == k) ≡ b → queue_by new (lane_node k) ≡ queue_by old (lane_node k) ++ requests_of k given
  by_lane k small true test =
      let is : lane ≡ k = grind (arith, nat_tests) in
      subst (λ i. queue_by new (lane_node i) ≡ queue_by old (lane_node i) ++ requests_of i given) is
      (queue_own ∙ ap (λ queue. queue ++ requests_of lane given) (below.later lane (omega arith)))
  by_lane k small false test =
      let differs : k ≢ lane = grind (arith, nat_tests) in
      queue_other k differs ∙ below.queued k (omega (arith, small, differs))

  pub given_lane : AreGivenBelow (lane + 1) given old new
  given_lane = record {
    histories = ap histories_by set ∙ map-set_same entries_of_node mid (lane_node lane) (with_requests (at_node mid (lane_node lane)) (requests_of lane given)) (idle_node (lane_node lane)) refl ∙ below.histories;
    queued = λ k small. by_lane k small (lane == k) refl;
    later = λ k high. queue_other k (λ same. omega (arith, high, same)) ∙ below.later k (omega (arith, high));
  }

pub given_all : (given : List Request) (old new : List FatedNode) (lane : ℕ) → LANES ≤ lane → AreGivenBelow lane given old new → AreGiven given old new
given_all given old new lane all below = record { histories = below.histories; queued = λ k low. below.queued k (omega (arith, low, all)) }
