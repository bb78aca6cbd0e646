-- The ends of the links met one after the other.
use Rattle.std.proofs.Common.{◌≡◌, ◌≢◌, ℕ, ◌+◌, ◌<◌, ◌≤◌, Bool, true, false, ◌==◌, is_some, List, Option, Some, None, length, refl, ap, subst, sym, ◌∙◌, arith}
use Rattle.std.proofs.lemmas.Bool.Decides.{nat_tests}
use Rattle.std.proofs.lemmas.List.{get_or-set_same, get_or-set_other}
use Rattle.market_events.specs.declared.links.Link.{Link}
use Rattle.market_events.specs.Links.{IsLink, index_of, sender_of, receiver_of}
use Rattle.market_links.specs.Slots.{slot_into, slot_from}
use Rattle.market_rings.specs.declared.link_ends.LinkIn.{LinkIn}
use Rattle.market_rings.specs.NodeEnds.{NodeEnds, AreJoined, out_at, in_at}
use Rattle.market_rings.specs.Wiring.{ends_of}
use Rattle.market_rings.proofs.Linking.{one_index, one_sender, one_receiver}
use Rattle.market_turns.proofs.Slots.{there_below}
use Rattle.market_rounds.specs.Meetings.{IsMeeting}
use Rattle.market_rounds.specs.Rounds.{HasMetBetween}

-- the links with the indices below one have met, and the ends of the others are as they were
pub record AreMetBelow (start now : List NodeEnds) (first : ℕ) : Type 0 where
  pub many : length now ≡ length start
  pub met : (link : Link) → IsLink link → index_of link < first
      → HasMetBetween link (ends_of start (sender_of link)) (ends_of start (receiver_of link)) (ends_of now (sender_of link)) (ends_of now (receiver_of link))
  pub outs : (link : Link) → IsLink link → first ≤ index_of link → out_at (ends_of now (sender_of link)) (slot_from link) ≡ out_at (ends_of start (sender_of link)) (slot_from link)
  pub ins : (link : Link) → IsLink link → first ≤ index_of link → in_at (ends_of now (receiver_of link)) (slot_into link) ≡ in_at (ends_of start (receiver_of link)) (slot_into link)
  pub only : (n slot : ℕ) → is_some (in_at (ends_of now n) slot) ≡ is_some (in_at (ends_of start n) slot)

pub met_first : (start : List NodeEnds) → AreMetBelow start start 0
met_first start = record {
  many = refl;
  met = λ link on none. absurd (omega arith);
  outs = λ link on from. refl;
  ins = λ link on from. refl;
  only = λ n slot. refl;
}

-- the next link's ends are still joined
pub met_joined : (start now : List NodeEnds) (link : Link) → AreMetBelow start now (index_of link) → IsLink link
    → AreJoined (ends_of start (sender_of link)) (ends_of start (receiver_of link)) link → AreJoined (ends_of now (sender_of link)) (ends_of now (receiver_of link)) link
met_joined start now link are on joined = record {
  out = joined.out;
  into = joined.into;
  at_sender = are.outs link on (omega arith) ∙ joined.at_sender;
  at_receiver = are.ins link on (omega arith) ∙ joined.at_receiver;
  joined = joined.joined;
}

module _ (now next : List NodeEnds) (link : Link) (on : IsLink link) (meeting : IsMeeting now next link) where
  abbrev s : ℕ
  s = sender_of link

  abbrev r : ℕ
  r = receiver_of link

  -- the ends of another link out of a node are as they were
  out_by : (n slot : ℕ) (b c : Bool) → (n == s) ≡ b → (n == r) ≡ c → (n ≡ s → slot ≢ slot_from link) → out_at (ends_of next n) slot ≡ out_at (ends_of now n) slot
  out_by n slot true c test other differs =
      let e : s ≡ n = grind (arith, nat_tests) in
      subst (λ k. out_at (ends_of next k) slot ≡ out_at (ends_of now k) slot) e
      (ap (λ (ends : NodeEnds). out_at ends slot) meeting.met.sender
      ∙ get_or-set_other (ends_of now s).outs (slot_from link) slot (Some meeting.met.new_out) None (differs (sym e)))
  out_by n slot false true test other differs =
      let e : r ≡ n = grind (arith, nat_tests) in
      subst (λ k. out_at (ends_of next k) slot ≡ out_at (ends_of now k) slot) e (ap (λ (ends : NodeEnds). out_at ends slot) meeting.met.receiver)
  out_by n slot false false test other differs =
      let one : n ≢ s = grind (arith, nat_tests) in
      let two : n ≢ r = grind (arith, nat_tests) in
      ap (λ (ends : NodeEnds). out_at ends slot) (meeting.others n one two)

  out_other : (n slot : ℕ) → (n ≡ s → slot ≢ slot_from link) → out_at (ends_of next n) slot ≡ out_at (ends_of now n) slot
  out_other n slot differs = out_by n slot (n == s) (n == r) refl refl differs

  -- and so are those of another link into one
  in_by : (n slot : ℕ) (b c : Bool) → (n == r) ≡ b → (n == s) ≡ c → (n ≡ r → slot ≢ slot_into link) → in_at (ends_of next n) slot ≡ in_at (ends_of now n) slot
  in_by n slot true c test other differs =
      let e : r ≡ n = grind (arith, nat_tests) in
      subst (λ k. in_at (ends_of next k) slot ≡ in_at (ends_of now k) slot) e
      (ap (λ (ends : NodeEnds). in_at ends slot) meeting.met.receiver
      ∙ get_or-set_other (ends_of now r).ins (slot_into link) slot (Some meeting.met.new_into) None (differs (sym e)))
  in_by n slot false true test other differs =
      let e : s ≡ n = grind (arith, nat_tests) in
      subst (λ k. in_at (ends_of next k) slot ≡ in_at (ends_of now k) slot) e (ap (λ (ends : NodeEnds). in_at ends slot) meeting.met.sender)
  in_by n slot false false test other differs =
      let one : n ≢ s = grind (arith, nat_tests) in
      let two : n ≢ r = grind (arith, nat_tests) in
      ap (λ (ends : NodeEnds). in_at ends slot) (meeting.others n one two)

  in_other : (n slot : ℕ) → (n ≡ r → slot ≢ slot_into link) → in_at (ends_of next n) slot ≡ in_at (ends_of now n) slot
  in_other n slot differs = in_by n slot (n == r) (n == s) refl refl differs

  -- its own ends
  own_out : out_at (ends_of next s) (slot_from link) ≡ Some meeting.met.new_out
  own_out =
      ap (λ (ends : NodeEnds). out_at ends (slot_from link)) meeting.met.sender
      ∙ get_or-set_same (ends_of now s).outs (slot_from link) (Some meeting.met.new_out) None (there_below (ends_of now s).outs (slot_from link) meeting.met.out meeting.met.at_sender)

  own_in : in_at (ends_of next r) (slot_into link) ≡ Some meeting.met.new_into
  own_in =
      ap (λ (ends : NodeEnds). in_at ends (slot_into link)) meeting.met.receiver
      ∙ get_or-set_same (ends_of now r).ins (slot_into link) (Some meeting.met.new_into) None (there_below (ends_of now r).ins (slot_into link) meeting.met.into meeting.met.at_receiver)

  other_out : (link' : Link) → IsLink link' → index_of link' ≢ index_of link → out_at (ends_of next (sender_of link')) (slot_from link') ≡ out_at (ends_of now (sender_of link')) (slot_from link')
  other_out other is differs = out_other (sender_of other) (slot_from other) (λ e same. differs (one_sender other link is on e same))

  other_in : (link' : Link) → IsLink link' → index_of link' ≢ index_of link → in_at (ends_of next (receiver_of link')) (slot_into link') ≡ in_at (ends_of now (receiver_of link')) (slot_into link')
  other_in other is differs = in_other (receiver_of other) (slot_into other) (λ e same. differs (one_receiver other link is on e same))

  there_still : (n slot : ℕ) (b c : Bool) → (n == r) ≡ b → (slot == slot_into link) ≡ c → is_some (in_at (ends_of next n) slot) ≡ is_some (in_at (ends_of now n) slot)
  there_still n slot true true test here =
      let e : r ≡ n = grind (arith, nat_tests) in
      let at : slot_into link ≡ slot = grind (arith, nat_tests) in
      subst (λ k. is_some (in_at (ends_of next k) slot) ≡ is_some (in_at (ends_of now k) slot)) e
      (subst (λ i. is_some (in_at (ends_of next r) i) ≡ is_some (in_at (ends_of now r) i)) at
      (ap (λ (o : Option LinkIn). is_some o) own_in ∙ sym (ap (λ (o : Option LinkIn). is_some o) meeting.met.at_receiver)))
  there_still n slot true false test here =
      let other : slot ≢ slot_into link = grind (arith, nat_tests) in ap (λ (o : Option LinkIn). is_some o) (in_other n slot (λ e. other))
  there_still n slot false c test here =
      let other : n ≢ r = grind (arith, nat_tests) in ap (λ (o : Option LinkIn). is_some o) (in_other n slot (λ e. absurd (other e)))

  -- with this link they have met up to the next index
  pub met_next : (start : List NodeEnds) → AreMetBelow start now (index_of link) → AreMetBelow start next (index_of link + 1)
  met_next start are = record {
    many = meeting.many ∙ are.many;
    met = λ other is below. by_index other is below (index_of other == index_of link) refl;
    outs = λ other is above. other_out other is (λ e. absurd (omega (arith, e, above))) ∙ are.outs other is (omega arith);
    ins = λ other is above. other_in other is (λ e. absurd (omega (arith, e, above))) ∙ are.ins other is (omega arith);
    only = λ n slot. there_still n slot (n == r) (slot == slot_into link) refl refl ∙ are.only n slot;
  }
    where
      mine : HasMetBetween link (ends_of start s) (ends_of start r) (ends_of next s) (ends_of next r)
      mine = record {
        out = meeting.met.out;
        into = meeting.met.into;
        new_out = meeting.met.new_out;
        new_into = meeting.met.new_into;
        at_sender = sym (are.outs link on (omega arith)) ∙ meeting.met.at_sender;
        at_receiver = sym (are.ins link on (omega arith)) ∙ meeting.met.at_receiver;
        new_at_sender = own_out;
        new_at_receiver = own_in;
        met = meeting.met.met;
      }

      by_index : (other : Link) → IsLink other → index_of other < index_of link + 1 → (b : Bool) → (index_of other == index_of link) ≡ b
          → HasMetBetween other (ends_of start (sender_of other)) (ends_of start (receiver_of other)) (ends_of next (sender_of other)) (ends_of next (receiver_of other))
      by_index other is below true test =
          let same : index_of link ≡ index_of other = grind (arith, nat_tests) in
          subst (λ (l : Link). HasMetBetween l (ends_of start (sender_of l)) (ends_of start (receiver_of l)) (ends_of next (sender_of l)) (ends_of next (receiver_of l))) (one_index link other on is same) mine
      by_index other is below false test =
          let differs : index_of other ≢ index_of link = grind (arith, nat_tests) in
          let earlier : index_of other < index_of link = grind (arith, nat_tests) in
          let before = are.met other is earlier in
          record {
            out = before.out;
            into = before.into;
            new_out = before.new_out;
            new_into = before.new_into;
            at_sender = before.at_sender;
            at_receiver = before.at_receiver;
            new_at_sender = other_out other is differs ∙ before.new_at_sender;
            new_at_receiver = other_in other is differs ∙ before.new_at_receiver;
            met = before.met;
          }
