-- Between rounds every node may turn.
use Rattle.std.proofs.Common.{◌≡◌, ℕ, ◌-◌, ◌^◌, ◌<◌, ◌≤◌, List, [], ◌∷◌, Option, Some, None, length, ap, subst, sym, ◌∙◌, arith}
use Rattle.std.specs.List.{AllByRecursion, last_or}
use Rattle.market_events.specs.declared.events.Entry.{Entry}
use Rattle.market_events.specs.declared.events.Event.{Event}
use Rattle.market_events.specs.declared.links.Link.{Link}
use Rattle.market_events.specs.declared.nodes.TheConstants.{NODES}
use Rattle.market_events.specs.declared.requests.Request.{Request}
use Rattle.market_events.specs.declared.roles.Role.{Role}
use Rattle.market_events.specs.Links.{IsLink, node_of, sender_of, receiver_of}
use Rattle.market_history.specs.Histories.{Histories, journal_at, with_journal}
use Rattle.market_history.specs.Lawful.{IsLawful}
use Rattle.market_history.specs.Stamps.{clock_in, clock_before}
use Rattle.market_history.proofs.HistoryLaws.{journal_at-same}
use Rattle.market_laws.specs.Entries.{total_entries}
use Rattle.market_laws.proofs.Bounds.Few.{few, length-few}
use Rattle.market_laws.proofs.Clocks.Bounded.{clocks-few}
use Rattle.market_laws.proofs.Growth.Members.{all-weaker}
use Rattle.market_laws.proofs.Growth.Played.{play_keeps}
use Rattle.market_links.specs.Slots.{slot_into, slot_from}
use Rattle.market_node.specs.Offered.{CanTakeAll, FitsService, FitsLane, with_all_offered}
use Rattle.market_rings.specs.NodeEnds.{out_at, in_at}
use Rattle.market_turns.specs.Queues.{CanAsk, CanTurnLane, IsOwnRequest, entries_offered}
use Rattle.market_turns.specs.Turns.{NodeState, IsReadyOut, IsReadyIn, CanTurn, arrivals}
use Rattle.market_world.specs.Arriving.{CanOffer}
use Rattle.market_rounds.specs.Between.{AreBetween}
use Rattle.market_rounds.specs.Turning.{WasMade, offer_steps}
use Rattle.market_rounds.proofs.NodeRounds.{IsFor, all_waiting}
use Rattle.market_rounds.proofs.Offering.{offers_can, offers_play, can_weaker, service_can, lane_can}
use Rattle.market_rounds.proofs.Together.{offers_ok}

-- the last clock is no greater than a bound of all
last_few : (top : ℕ) (o : Option Entry) (xs : List Entry) → clock_in o ≤ top → AllByRecursion (λ (x : Entry). x.clock ≤ top) xs → clock_in (last_or o xs) ≤ top
last_few top o [] low each = low
last_few top o (x ∷ xs) low each = last_few top (Some x) xs each.0 each.1

-- the journals of lawful histories have room
room_there : (h : Histories) (n : ℕ) → IsLawful h → n < NODES → (length (journal_at h n) < 2 ^ 31) × (clock_before (journal_at h n) ≤ 2 ^ 62 - 8)
room_there h n lawful low =
    let clock : clock_before (journal_at h n) ≤ total_entries h = last_few (total_entries h) None (journal_at h n) (omega arith) (clocks-few h n lawful low) in
    (omega (arith, length-few h lawful n low, few h lawful), omega (arith, clock, few h lawful))

module _ (h : Histories) (nodes : ℕ → NodeState) (between : AreBetween h nodes) (n : ℕ) (low : n < NODES) where
  out_ready : (link : Link) → IsLink link → sender_of link ≡ n → IsReadyOut (nodes n).ends link
  out_ready link on from =
      let there = between.links link on in
      record {
        out = there.out;
        there = subst (λ k. out_at (nodes k).ends (slot_from link) ≡ Some there.out) from there.at_sender;
        free = omega (arith, there.carried.events.free, there.carried.events.few);
        held = there.carried.events.few_held;
      }

  in_ready : (link : Link) → IsLink link → receiver_of link ≡ n → IsReadyIn (nodes n).ends link
  in_ready link on into =
      let there = between.links link on in
      record {
        into = there.into;
        there = subst (λ k. in_at (nodes k).ends (slot_into link) ≡ Some there.into) into there.at_receiver;
        free = omega (arith, there.carried.counts.free, there.carried.counts.few);
        held = there.carried.counts.few_held;
      }

  made : AllByRecursion (WasMade h) (arrivals (nodes n).ends)
  made = all-weaker (IsFor h n) (WasMade h) (λ e is. is.made) (arrivals (nodes n).ends) (all_waiting h nodes between n low)

  into : AllByRecursion (λ (e : Event). receiver_of e.link ≡ n) (arrivals (nodes n).ends)
  into = all-weaker (IsFor h n) (λ (e : Event). receiver_of e.link ≡ n) (λ e is. is.into) (arrivals (nodes n).ends) (all_waiting h nodes between n low)

  may_turn : (can : ℕ → List Entry → Event → Type 0) → ((entries : List Entry) (e : Event) → CanOffer n entries e → can n entries e) → CanTurn can (nodes n)
  may_turn can weaker =
      let is = between.each n low in
      record {
        outs = λ link on from. out_ready link on (from ∙ is.node_is);
        ins = λ link on to. in_ready link on (to ∙ is.node_is);
        takes = subst (λ k. CanTakeAll can k (nodes n).core.entries (arrivals (nodes n).ends)) (sym is.node_is)
            (subst (λ es. CanTakeAll can n es (arrivals (nodes n).ends)) (sym is.entries)
            (can_weaker CanOffer can n weaker (journal_at h n) (arrivals (nodes n).ends) (offers_can n low h (arrivals (nodes n).ends) between.lawful made into)));
      }

  -- a lane has room for what it is given then
  lane_asks : (queue : List Request) → AllByRecursion (IsOwnRequest n) queue → CanAsk (nodes n).core.node (entries_offered (nodes n)) queue
  lane_asks queue own =
      let is = between.each n low in
      let offered = with_all_offered n (journal_at h n) (arrivals (nodes n).ends) in
      let lawful : IsLawful (with_journal h n (with_all_offered n (journal_at h n) (arrivals (nodes n).ends))) =
      subst IsLawful (offers_play n low h (arrivals (nodes n).ends) between.lawful made into) (play_keeps h (offer_steps (arrivals (nodes n).ends)) between.lawful (offers_ok (arrivals (nodes n).ends))) in
      let at = journal_at-same h n offered (subst (λ k. n < k) (sym between.lawful.each) low) in
      let room = room_there (with_journal h n offered) n lawful low in
      let same : entries_offered (nodes n) ≡ with_all_offered n (journal_at h n) (arrivals (nodes n).ends) =
      ap (λ k. with_all_offered k (nodes n).core.entries (arrivals (nodes n).ends)) is.node_is ∙ ap (λ es. with_all_offered n es (arrivals (nodes n).ends)) is.entries in
      record {
        own = subst (λ k. AllByRecursion (IsOwnRequest k) queue) (sym is.node_is) own;
        few = subst (λ es. length es < 2 ^ 31) (at ∙ sym same) room.0;
        clock = subst (λ es. clock_before es ≤ 2 ^ 62 - 8) (at ∙ sym same) room.1;
      }

pub service_may_turn : (h : Histories) (nodes : ℕ → NodeState) → AreBetween h nodes → (role : Role) → node_of role < NODES → CanTurn (FitsService role) (nodes (node_of role))
service_may_turn h nodes between role low = may_turn h nodes between (node_of role) low (FitsService role) (service_can role)

pub lane_may_turn : (h : Histories) (nodes : ℕ → NodeState) → AreBetween h nodes → (n : ℕ) → n < NODES → (queue : List Request) → AllByRecursion (IsOwnRequest n) queue → CanTurnLane (record { node = nodes n; queue = queue })
lane_may_turn h nodes between n low queue own = record {
  links = may_turn h nodes between n low FitsLane (lane_can n);
  asks = lane_asks h nodes between n low queue own;
}
