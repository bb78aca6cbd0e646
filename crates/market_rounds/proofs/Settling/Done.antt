-- Whether all is done, by what waits on each link and in each queue.
use Rattle.std.proofs.Common.{◌≡◌, ℕ, ◌+◌, ◌^◌, ◌<◌, true, List, [], ◌∷◌, Option, Some, None, is_some, Bor, length, refl, ap, subst, ◌∙◌, arith}
use Rattle.std.specs.Prelude.{slice_get}
use Rattle.std.specs.List.{AllByRecursion}
use Rattle.std.specs.Option.{option_copied}
use Rattle.market_events.specs.declared.events.Event.{Event}
use Rattle.market_events.specs.declared.lanes.TheConstants.{LANES}
use Rattle.market_events.specs.declared.links.Link.{Link}
use Rattle.market_events.specs.declared.links.TheConstants.{LINKS}
use Rattle.market_events.specs.declared.requests.Request.{Request}
use Rattle.market_events.specs.Links.{IsLink, lane_node, sender_of, receiver_of}
use Rattle.market_events.specs.Offers.{taken_on}
use Rattle.market_history.specs.Causality.{events_taken}
use Rattle.market_history.specs.Histories.{journal_at}
use Rattle.market_laws.proofs.Bounds.LinkEnds.{sender-small, receiver-small}
use Rattle.market_node.specs.Notes.{event_with}
use Rattle.market_events.specs.Requests.{lane_of}
use Rattle.market_laws.proofs.Growth.Outs.{lane_of-small}
use Rattle.market_turns.specs.Queues.{IsOwnRequest}
use Rattle.market_world.specs.Waiting.{first_of, AreSettledBelow}
use Rattle.market_world.proofs.Finding.{settled-all, first-with, taken-few}
use Rattle.market_rounds.specs.Nodes.{FatedNode, AreReady, AreDone, node_by, queue_by, histories_by}

-- nothing waits on any link, and the queues of all lanes are empty
pub all_done : (nodes : List FatedNode) → AreReady nodes → AreSettledBelow (histories_by nodes) LINKS → ((lane : ℕ) → lane < LANES → queue_by nodes (lane_node lane) ≡ []) → AreDone nodes
all_done nodes ready below lanes = record {
  settled = settled-all (histories_by nodes) below;
  queues = λ n low. by_queue n (queue_by nodes n) refl (ready.own n low);
}
  where
    by_queue : (n : ℕ) → (queue : List Request) → queue_by nodes n ≡ queue → AllByRecursion (IsOwnRequest n) queue → queue_by nodes n ≡ []
    by_queue n [] is own = is
    by_queue n (r ∷ rs) is own = subst (λ k. queue_by nodes k ≡ []) own.0.1 (lanes (lane_of r.id) (lane_of-small r.id))

-- where an event waits, or a request is in a queue, not all is done
pub event_waits : (nodes : List FatedNode) (link : Link) (waiting : Option (Bor Event)) → IsLink link → option_copied waiting ≡ first_of (histories_by nodes) link → is_some waiting ≡ true → AreDone nodes → ⊥
event_waits nodes link None on is some done = let no : ⊥ = cc in absurd no
event_waits nodes link (Some event) on is some done =
    let none : first_of (histories_by nodes) link ≡ None = ap (λ es. slice_get es 0) (done.settled link on) in
    let both = is ∙ none in
    let no : ⊥ = cc in absurd no

pub request_waits : (nodes : List FatedNode) (lane count : ℕ) → lane < LANES → count ≡ length (queue_by nodes (lane_node lane)) → 0 < count → AreDone nodes → ⊥
request_waits nodes lane count low is some done =
    let none : length (queue_by nodes (lane_node lane)) ≡ 0 = ap (λ (rs : List Request). length rs) (done.queues (lane_node lane) (omega (arith, low))) in
    omega (arith, is, some, none)

-- of nodes that are ready, by what was taken on a link
module _ (nodes : List FatedNode) (ready : AreReady nodes) (link : Link) (count : ℕ) (on : IsLink link) where
  taken_there : count ≡ taken_on (events_taken (node_by nodes (receiver_of link)).core.entries) link → count ≡ taken_on (events_taken (journal_at (histories_by nodes) (receiver_of link))) link
  taken_there is = is ∙ ap (λ es. taken_on (events_taken es) link) (ready.between.each (receiver_of link) (receiver-small link on)).entries

  pub taken_few : count ≡ taken_on (events_taken (node_by nodes (receiver_of link)).core.entries) link → count < 2 ^ 24
  taken_few is = taken-few (histories_by nodes) ready.between.lawful link count on (taken_there is)

  -- the event past them is the first that waits
  pub first_there : count ≡ taken_on (events_taken (node_by nodes (receiver_of link)).core.entries) link → event_with link (count + 1) (node_by nodes (sender_of link)).core.entries ≡ first_of (histories_by nodes) link
  first_there is =
      ap (event_with link (count + 1)) (ready.between.each (sender_of link) (sender-small link on)).entries
      ∙ first-with (histories_by nodes) ready.between.lawful link count on (taken_there is)
