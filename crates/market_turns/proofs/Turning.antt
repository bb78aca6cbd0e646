-- What a turn does, put together of its parts.
use Rattle.std.proofs.Common.{◌≡◌, ℕ, List, [], ◌∷◌, ◌++◌, Option, Some, None, is_some, length, map, refl, ap, sym, ◌∙◌}
use Rattle.std.specs.List.{flat_map, slice_index_or}
use Rattle.std.proofs.Math.ListN.{get_or-map}
use Rattle.market_events.specs.declared.events.Event.{Event}
use Rattle.market_events.specs.declared.links.Link.{Link}
use Rattle.market_events.specs.Links.{IsLink, sender_of, receiver_of}
use Rattle.market_links.specs.Slots.{slot_into, slot_from}
use Rattle.market_node.specs.Cores.{CoreState, with_entries, acknowledged_on}
use Rattle.market_node.specs.Offered.{with_all_offered}
use Rattle.market_rings.specs.declared.link_ends.LinkIn.{LinkIn}
use Rattle.market_rings.specs.Fates.{FatesLeft}
use Rattle.market_rings.specs.NodeEnds.{NodeEnds, out_at, in_at, events_waiting, counts_waiting, events_taken, counts_taken}
use Rattle.market_rings.specs.Pushes.{fates_left}
use Rattle.market_rings.specs.RingEnds.{Popping, with_sent, with_all_popped}
use Rattle.market_turns.specs.Sent.{HasSentWindow, HasSentBack, events_in}
use Rattle.market_turns.specs.Turns.{NodeState, HasTurned, HasTurnedOut, HasTurnedIn, arrivals, counts_sent, with_counts}

abbrev waiting_of : Option (Popping Event) → List Event
waiting_of None = []
waiting_of (Some popping) = popping.waiting

of_each : (ins : List (Option LinkIn)) → flat_map events_waiting ins ≡ flat_map waiting_of (map events_in ins)
of_each [] = refl
of_each (None ∷ ins) = of_each ins
of_each (Some into ∷ ins) = ap (λ (es : List Event). into.events.waiting ++ es) (of_each ins)

-- what waits is the same where what comes in is
pub arrivals_same : (a b : NodeEnds) → map events_in a.ins ≡ map events_in b.ins → arrivals a ≡ arrivals b
arrivals_same a b same = of_each a.ins ∙ ap (flat_map waiting_of) same ∙ sym (of_each b.ins)

-- ends are there where those are of which the same comes in
there_in : (o : Option LinkIn) → is_some (events_in o) ≡ is_some o
there_in None = refl
there_in (Some into) = refl

there_taken : (o : Option LinkIn) → is_some (events_taken o) ≡ is_some o
there_taken None = refl
there_taken (Some into) = refl

there_same : (a b : List (Option LinkIn)) (slot : ℕ) → map events_in a ≡ map events_in b → is_some (slice_index_or a slot None) ≡ is_some (slice_index_or b slot None)
there_same a b slot same =
    sym (there_in (slice_index_or a slot None))
    ∙ ap (λ (o : Option (Popping Event)). is_some o) (sym (get_or-map events_in a slot None))
    ∙ ap (λ (os : List (Option (Popping Event))). is_some (slice_index_or os slot None)) same
    ∙ ap (λ (o : Option (Popping Event)). is_some o) (get_or-map events_in b slot None)
    ∙ there_in (slice_index_or b slot None)

module _ (old : NodeState) (first second third fourth : NodeEnds) (fates middle left : FatesLeft) (noted taken : CoreState)
    (windows : (link : Link) → IsLink link → sender_of link ≡ old.core.node → HasSentWindow old.core old.ends first fates middle link)
    (same_ins : first.ins ≡ old.ends.ins) (same_ack : middle.ack ≡ fates.ack)
    (back : (link : Link) → IsLink link → receiver_of link ≡ old.core.node → HasSentBack old.core first second middle left link)
    (same_outs : second.outs ≡ first.outs) (same_carry : left.carry ≡ middle.carry) (waiting : map events_in second.ins ≡ map events_in first.ins)
    (popped : third ≡ record second { outs = map counts_taken second.outs })
    (same : noted ≡ record old.core { acknowledged = noted.acknowledged }) (slots : length noted.acknowledged ≡ length old.core.acknowledged)
    (counts : (link : Link) → IsLink link → sender_of link ≡ old.core.node
    → acknowledged_on noted link ≡ with_counts link old.core.entries old.core.committed (acknowledged_on old.core link) (counts_waiting (out_at second (slot_from link))))
  where
    -- what waits when events are taken is what waited at first
    pub still_waiting : arrivals third ≡ arrivals old.ends
    still_waiting =
        ap (λ (ends : NodeEnds). arrivals ends) popped
        ∙ arrivals_same second first waiting ∙ ap (flat_map events_waiting) same_ins

    module _ (emptied : fourth ≡ record third { ins = map events_taken third.ins })
        (offered : taken ≡ with_entries noted (with_all_offered noted.node noted.entries (arrivals third))) where
      by_out : (link : Link) → IsLink link → sender_of link ≡ old.core.node → HasTurnedOut old (record { core = taken; ends = fourth }) fates left link
      by_out link is from = record {
        out = sent.out;
        there = sent.there;
        turned =
            ap (λ (ends : NodeEnds). out_at ends (slot_from link)) (emptied ∙ ap (λ (ends : NodeEnds). record ends { ins = map events_taken ends.ins }) popped)
            ∙ get_or-map counts_taken second.outs (slot_from link) None
            ∙ ap counts_taken (at_second ∙ sent.sent);
        unused = ap (λ fs. slice_index_or fs (slot_from link) []) same_carry ∙ sent.unused;
        noted =
            ap (λ (s : CoreState). acknowledged_on s link) offered
            ∙ counts link is from
            ∙ ap (λ o. with_counts link old.core.entries old.core.committed (acknowledged_on old.core link) (counts_waiting o)) (at_second ∙ sent.sent);
      }
        where
          sent : HasSentWindow old.core old.ends first fates middle link
          sent = windows link is from

          at_second : out_at second (slot_from link) ≡ out_at first (slot_from link)
          at_second = ap (λ outs. slice_index_or outs (slot_from link) None) same_outs

      by_in : (link : Link) → IsLink link → receiver_of link ≡ old.core.node → HasTurnedIn old (record { core = taken; ends = fourth }) fates left link
      by_in link is into = record {
        into = sent.into;
        there = ap (λ ins. slice_index_or ins (slot_into link) None) (sym same_ins) ∙ sent.there;
        turned =
            ap (λ (ends : NodeEnds). in_at ends (slot_into link)) (emptied ∙ ap (λ (ends : NodeEnds). record ends { ins = map events_taken ends.ins }) popped)
            ∙ get_or-map events_taken second.ins (slot_into link) None
            ∙ ap events_taken sent.sent
            ∙ ap (λ fs. Some (record { events = with_all_popped sent.into.events; counts = with_sent sent.into.counts (counts_sent old.core link) (slice_index_or fs (slot_into link) []) })) same_ack;
        unused = sent.unused ∙ ap (λ fs. fates_left (counts_sent old.core link) (slice_index_or fs (slot_into link) [])) same_ack;
      }
        where
          sent : HasSentBack old.core first second middle left link
          sent = back link is into

      still_there : (slot : ℕ) → is_some (in_at fourth slot) ≡ is_some (in_at old.ends slot)
      still_there slot =
          ap (λ (ends : NodeEnds). is_some (in_at ends slot)) (emptied ∙ ap (λ (ends : NodeEnds). record ends { ins = map events_taken ends.ins }) popped)
          ∙ ap (λ (o : Option LinkIn). is_some o) (get_or-map events_taken second.ins slot None)
          ∙ there_taken (in_at second slot)
          ∙ there_same second.ins first.ins slot waiting
          ∙ ap (λ (ins : List (Option LinkIn)). is_some (slice_index_or ins slot None)) same_ins

      pub has_turned : HasTurned old (record { core = taken; ends = fourth }) fates left
      has_turned = record {
        node = ap (λ (s : CoreState). s.node) offered ∙ ap (λ (s : CoreState). s.node) same;
        committed = ap (λ (s : CoreState). s.committed) offered ∙ ap (λ (s : CoreState). s.committed) same;
        entries = ap (λ (s : CoreState). s.entries) offered
            ∙ ap (λ (s : CoreState). with_all_offered s.node s.entries (arrivals third)) same
            ∙ ap (with_all_offered old.core.node old.core.entries) still_waiting;
        slots = ap (λ (s : CoreState). length s.acknowledged) offered ∙ slots;
        outs = by_out;
        ins = by_in;
        only = λ slot into there. sym (still_there slot) ∙ ap (λ (o : Option LinkIn). is_some o) there;
      }
