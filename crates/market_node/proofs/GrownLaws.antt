-- What is to be sent and what is settled, under equal names of the journal's parts.
use Rattle.std.proofs.Common.{◌≡◌, ℕ, ◌-◌, ◌≤◌, List, [], ◌∷◌, ◌++◌, None, length, subst, sym}
use Rattle.std.specs.List.{slice_set}
use Rattle.market_events.specs.declared.events.Entry.{Entry}
use Rattle.market_events.specs.declared.events.Event.{Event}
use Rattle.market_events.specs.declared.events.What.TheVariants.{Made}
use Rattle.market_events.specs.declared.links.Link.{Link}
use Rattle.market_events.specs.Links.{IsLink, sender_of}
use Rattle.market_history.specs.Sent.{event_made_on}
use Rattle.market_links.specs.SenderStates.{SenderState, with_event}
use Rattle.market_links.specs.Slots.{slot_from}
use Rattle.market_node.specs.Sending.{AreSenders, sender_at}
use Rattle.market_node.specs.Settled.{AreSettled}
use Rattle.market_node.proofs.SenderLaws.{senders_quiet, senders_made}
use Rattle.market_node.proofs.SettledLaws.{settled_push}

module _ (node other : ℕ) (xs ys : List Entry) (committed : ℕ) (same : other ≡ node) (is : ys ≡ xs) where
  pub sending_same : (room : ℕ) (senders : List SenderState) → AreSenders node xs committed room senders → AreSenders other ys committed room senders
  sending_same room senders are =
      subst (λ n. AreSenders n ys committed room senders) (sym same) (subst (λ zs. AreSenders node zs committed room senders) (sym is) are)

  pub settled_same : (counts : List ℕ) → AreSettled node xs committed counts → AreSettled other ys committed counts
  settled_same counts are =
      subst (λ n. AreSettled n ys committed counts) (sym same) (subst (λ zs. AreSettled node zs committed counts) (sym is) are)

module _ (node other : ℕ) (xs ys : List Entry) (x : Entry) (committed : ℕ) (same : other ≡ node) (is : ys ≡ xs ++ x ∷ []) (most : committed ≤ length xs) where
  -- an entry that made nothing
  pub sending_quiet : (room : ℕ) (senders : List SenderState) → ((link : Link) → event_made_on link x.what ≡ None) → AreSenders node xs committed room senders → AreSenders other ys committed (room - 1) senders
  sending_quiet room senders none are =
      subst (λ n. AreSenders n ys committed (room - 1) senders) (sym same)
      (subst (λ zs. AreSenders node zs committed (room - 1) senders) (sym is) (senders_quiet node xs x committed room senders are most none))

  -- an entry that made an event
  pub sending_made : (room : ℕ) (senders after : List SenderState) (event : Event) → x.what ≡ Made event → IsLink event.link → sender_of event.link ≡ node
      → after ≡ slice_set senders (slot_from event.link) (with_event (sender_at senders (slot_from event.link)) event)
      → AreSenders node xs committed room senders → AreSenders other ys committed (room - 1) after
  sending_made room senders after event made link from set are =
      subst (λ n. AreSenders n ys committed (room - 1) after) (sym same)
      (subst (λ zs. AreSenders node zs committed (room - 1) after) (sym is)
      (subst (λ ss. AreSenders node (xs ++ x ∷ []) committed (room - 1) ss) (sym set) (senders_made node xs x event committed room senders are most made link from)))

  pub settled_still : (counts : List ℕ) → AreSettled node xs committed counts → AreSettled other ys committed counts
  settled_still counts are =
      subst (λ n. AreSettled n ys committed counts) (sym same)
      (subst (λ zs. AreSettled node zs committed counts) (sym is) (settled_push node xs x committed counts most are))
