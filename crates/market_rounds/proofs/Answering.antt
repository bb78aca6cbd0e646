-- Where all is settled each request has its answer, and the lanes keep what they were given.
use Rattle.std.proofs.Common.{◌≡◌, ℕ, zero, suc, ◌<◌, Bool, true, false, if◌then◌else◌, List, [], ◌∷◌, ◌++◌, Option, Some, None, is_some, length, take, drop, map, replicate, refl, ap, subst, sym, ◌∙◌, arith}
use Rattle.std.specs.List.{AllByRecursion, slice_index_or}
use Rattle.market_events.specs.declared.events.Entry.{Entry}
use Rattle.market_events.specs.declared.lanes.TheConstants.{LANES}
use Rattle.market_events.specs.declared.nodes.TheConstants.{NODES}
use Rattle.market_events.specs.declared.replies.Reply.TheVariants.{Refused}
use Rattle.market_events.specs.declared.replies.Rule.TheVariants.{RequestDiffers}
use Rattle.market_events.specs.declared.requests.Request.{Request}
use Rattle.market_events.specs.declared.links.Link.{Link}
use Rattle.market_events.specs.Links.{IsLink, lane_node, receiver_of, sender_of}
use Rattle.market_events.specs.Requests.{lane_of, same_id, same_ask}
use Rattle.market_events.proofs.Values.Same.{same_id-true}
use Rattle.market_history.specs.Histories.{Histories, journal_at, no_histories}
use Rattle.market_history.specs.Once.{answer_by, answer_for, kept_by, most_kept, once_after, reply_at, with_id}
use Rattle.market_history.specs.Outstanding.{outstanding}
use Rattle.market_history.specs.Sent.{IsPrefixOf, got, sent}
use Rattle.market_laws.proofs.Growth.Members.{find-at}
use Rattle.market_laws.proofs.Growth.Outs.{lane_of-small}
use Rattle.market_laws.proofs.Runs.Counts.{member-between}
use Rattle.market_laws.specs.Runs.{Member}
use Rattle.market_world.specs.Sound.{IsComplete}
use Rattle.market_world.proofs.SoundWorlds.{sound_of, complete_of}
use Rattle.market_rounds.specs.Markets.{HaveSettled}
use Rattle.market_rounds.specs.Nodes.{FatedNode, AreDone, AreReady, at_node, but_fates, entries_of_node, histories_by, idle_node, queue_by}
use Rattle.market_rounds.specs.Settling.{AreGiven, HaveGoneOn, requests_of}
use Rattle.market_rounds.proofs.Planning.{same_histories, same_queues}

abbrev no_entries : List Entry
no_entries = []

-- a node's journal, and that of nodes that are not there
pub entries_at : (nodes : List FatedNode) (n m : ℕ) → slice_index_or (map entries_of_node nodes) n [] ≡ entries_of_node (slice_index_or nodes n (idle_node m))
entries_at [] n m = refl
entries_at (x ∷ xs) zero m = refl
entries_at (x ∷ xs) (suc n) m = entries_at xs n m

pub journal_of : (nodes : List FatedNode) (n : ℕ) → journal_at (histories_by nodes) n ≡ entries_of_node (at_node nodes n)
journal_of nodes n = unfold journal_at in entries_at nodes n n

-- nodes in which nothing happened are done
nothing_at : (n slot : ℕ) → slice_index_or (replicate n no_entries) slot no_entries ≡ no_entries
nothing_at zero slot = refl
nothing_at (suc n) zero = refl
nothing_at (suc n) (suc slot) = nothing_at n slot

pub none_done : (nodes : List FatedNode) → histories_by nodes ≡ no_histories → ((n : ℕ) → n < NODES → queue_by nodes n ≡ []) → AreDone nodes
none_done nodes none queues = record { settled = settled; queues = queues }
  where
    nothing : (n : ℕ) → journal_at (histories_by nodes) n ≡ []
    nothing n = ap (λ h. journal_at h n) none ∙ (unfold journal_at in nothing_at NODES n)

    settled : (link : Link) → IsLink link → outstanding (histories_by nodes) link ≡ []
    settled link on =
        ap (λ (j : List Entry). drop (length (got link j)) (sent link (journal_at (histories_by nodes) (sender_of link)))) (nothing (receiver_of link))
        ∙ ap (λ (j : List Entry). sent link j) (nothing (sender_of link))

-- where each kept request has its reply, each request has its answer
pub has_answer : (h : Histories) → IsComplete h → (r : Request) → is_some (answer_for h r) ≡ true
has_answer h complete r = by_kept (with_id r.id (kept_by h (lane_of r.id))) refl
  where
    kept_answered : (kept : Request) → with_id r.id (kept_by h (lane_of r.id)) ≡ Some kept → is_some (reply_at h r.id) ≡ true
    kept_answered kept is =
        let found = find-at (λ (q : Request). same_id q.id r.id) (kept_by h (lane_of r.id)) kept is in
        subst (λ id. is_some (reply_at h id) ≡ true) (same_id-true kept.id r.id found.passes)
        (complete.answered (lane_of r.id) kept (lane_of-small r.id) (subst (Member kept) (sym found.is) (member-between found.before kept found.after)))

    by_ask : (b : Bool) → is_some (reply_at h r.id) ≡ true → is_some (if b then reply_at h r.id else Some (Refused RequestDiffers)) ≡ true
    by_ask true answered = answered
    by_ask false answered = refl

    by_kept : (kept : Option Request) → with_id r.id (kept_by h (lane_of r.id)) ≡ kept → is_some (answer_by kept (reply_at h r.id) r) ≡ true
    by_kept None is = refl
    by_kept (Some kept) is = by_ask (same_ask kept.ask r.ask) (kept_answered kept is)

pub have_answers : (h : Histories) → IsComplete h → (given : List Request) → AllByRecursion (λ (r : Request). is_some (answer_for h r) ≡ true) given
have_answers h complete [] = tt
have_answers h complete (r ∷ rs) = (has_answer h complete r, have_answers h complete rs)

-- nodes that were given a plan and requests, and then settled
module _ (old planned given_nodes new : List FatedNode) (given : List Request) (ready_old : AreReady old) (done_old : AreDone old)
    (only : map but_fates planned ≡ map but_fates old) (queued : AreGiven given planned given_nodes)
    (ready : AreReady new) (done : AreDone new) (gone : HaveGoneOn given_nodes new)
    (kept : (lane : ℕ) → lane < LANES → kept_by (histories_by new) lane ≡ take most_kept (once_after [] (kept_by (histories_by given_nodes) lane ++ queue_by given_nodes (lane_node lane)))) where
  before : histories_by given_nodes ≡ histories_by old
  before = queued.histories ∙ same_histories old planned only

  queue : (lane : ℕ) → lane < LANES → queue_by given_nodes (lane_node lane) ≡ requests_of lane given
  queue lane low =
      queued.queued lane low
      ∙ ap (λ q. q ++ requests_of lane given) (same_queues old planned ready_old.many only (lane_node lane) (omega (arith, low)) ∙ done_old.queues (lane_node lane) (omega (arith, low)))

  pub have_settled : HaveSettled (histories_by old) (histories_by new) given
  have_settled = record {
    begun = λ n low. subst (λ h. IsPrefixOf (journal_at h n) (journal_at (histories_by new) n)) before (gone.begun n low);
    kept = λ lane low.
        kept lane low
        ∙ ap (λ h. take most_kept (once_after [] (kept_by h lane ++ queue_by given_nodes (lane_node lane)))) before
        ∙ ap (λ q. take most_kept (once_after [] (kept_by (histories_by old) lane ++ q))) (queue lane low);
    settled = done.settled;
    sound = sound_of (histories_by new) ready.between.lawful;
    complete = complete_of (histories_by new) ready.between.lawful done.settled;
  }
