-- The senders of a node: made one after the other, with room, and as its journal grows.
use Rattle.std.proofs.Common.{◌≡◌, ◌≢◌, ℕ, ◌+◌, ◌<◌, ◌≤◌, Bool, true, false, ◌==◌, if◌then◌else◌, List, [], ◌∷◌, ◌++◌, length, replicate, refl, ap, subst, sym, ◌∙◌, arith, length-append}
use Rattle.std.specs.List.{slice_set}
use Rattle.std.proofs.lemmas.Bool.Decides.{nat_tests}
use Rattle.std.proofs.lemmas.List.{length-set, get_or-set_same, get_or-set_other, map-append, replicate_more}
use Rattle.std.proofs.Math.ListN.{get_or-append}
use Rattle.std.proofs.Math.Seq.{map-set_same, get_or-append_seam}
use Rattle.market_events.specs.declared.links.Link.{Link}
use Rattle.market_events.specs.Links.{IsLink, sender_of}
use Rattle.market_links.specs.SenderStates.{SenderState}
use Rattle.market_links.specs.Slots.{slot_from}
use Rattle.market_node.specs.Sending.{sender_at, new_sender, acknowledged_of, but_room, AreRoomier}

-- what a sender of a slot becomes, and those of the others
pub sender_at-set : (senders : List SenderState) (slot other : ℕ) (s : SenderState) (b : Bool) → (slot == other) ≡ b → slot < length senders → sender_at (slice_set senders slot s) other ≡ (if b then s else sender_at senders other)
sender_at-set senders slot other s true test below =
    let e : slot ≡ other = grind (arith, nat_tests) in
    let P : ℕ → Type 0 = λ i. sender_at (slice_set senders slot s) i ≡ s in
    subst P e (get_or-set_same senders slot s _ below)
sender_at-set senders slot other s false test below =
    let differs : other ≢ slot = grind (arith, nat_tests) in get_or-set_other senders slot other s _ differs

-- the first of a node's senders, none of which has an event
pub record AreFresh (node : ℕ) (senders : List SenderState) (first : ℕ) : Type 0 where
  pub many : length senders ≡ first
  pub each : (link : Link) → IsLink link → sender_of link ≡ node → slot_from link < first
      → sender_at senders (slot_from link) ≡ new_sender link
  pub acknowledged : acknowledged_of senders ≡ replicate first 0

pub fresh_first : (node : ℕ) → AreFresh node [] 0
fresh_first node = record { many = refl; each = λ link is from none. absurd (omega arith); acknowledged = refl }

-- one sender more
pub fresh_next : (node : ℕ) (senders : List SenderState) (first : ℕ) (link : Link) → AreFresh node senders first
    → ((other : Link) → IsLink other → sender_of other ≡ node → slot_from other ≡ first → other ≡ link)
    → AreFresh node (senders ++ new_sender link ∷ []) (first + 1)
fresh_next node senders first link fresh only = record {
  many = length-append senders (new_sender link ∷ []) ∙ omega (arith, fresh.many);
  each = λ other is from below. by_test other is from below (first == slot_from other) refl;
  acknowledged =
      map-append (λ (s : SenderState). s.acknowledged) senders (new_sender link ∷ [])
      ∙ ap (λ counts. counts ++ 0 ∷ []) fresh.acknowledged ∙ replicate_more first 0;
}
  where
    by_test : (other : Link) → IsLink other → sender_of other ≡ node → slot_from other < first + 1 → (b : Bool) → (first == slot_from other) ≡ b
        → sender_at (senders ++ new_sender link ∷ []) (slot_from other) ≡ new_sender other
    by_test other is from below true test =
        let here : slot_from other ≡ length senders = grind (arith, nat_tests, fresh.many) in
        ap (λ i. sender_at (senders ++ new_sender link ∷ []) i) here
        ∙ get_or-append_seam senders (new_sender link) [] _
        ∙ ap new_sender (sym (only other is from (here ∙ fresh.many)))
    by_test other is from below false test =
        let low : slot_from other < first = grind (arith, nat_tests) in
        get_or-append senders (new_sender link ∷ []) _ (slot_from other) (omega (arith, fresh.many, low))
        ∙ fresh.each other is from low

-- the senders are as they were, with at least the room that there was, and with so much room at the first slots
pub record IsRoomierTo (start senders : List SenderState) (first more : ℕ) : Type 0 where
  pub many : length senders ≡ length start
  pub roomier : AreRoomier start senders
  pub room : (slot : ℕ) → slot < first → more ≤ (sender_at senders slot).spare

pub roomier_first : (start : List SenderState) (more : ℕ) → IsRoomierTo start start 0 more
roomier_first start more = record {
  many = refl;
  roomier = record { same = refl; spare = λ slot. omega arith };
  room = λ slot none. absurd (omega arith);
}

module _ (start senders : List SenderState) (first more : ℕ) (s : SenderState) (below : first < length senders)
    (same : but_room s ≡ but_room (sender_at senders first)) (wider : (sender_at senders first).spare ≤ s.spare)
    (before : IsRoomierTo start senders first more) where
  at_other : (slot : ℕ) → (first == slot) ≡ false → sender_at (slice_set senders first s) slot ≡ sender_at senders slot
  at_other slot test = sender_at-set senders first slot s false test below

  at_first : (slot : ℕ) → (first == slot) ≡ true → sender_at (slice_set senders first s) slot ≡ s
  at_first slot test = sender_at-set senders first slot s true test below

  is_first : (slot : ℕ) → (first == slot) ≡ true → first ≡ slot
  is_first slot test = grind (arith, nat_tests)

  is_other : (slot : ℕ) → (first == slot) ≡ false → slot < first + 1 → slot < first
  is_other slot test near = grind (arith, nat_tests)

  spare_after : (slot : ℕ) (b : Bool) → (first == slot) ≡ b → (sender_at start slot).spare ≤ (sender_at (slice_set senders first s) slot).spare
  spare_after slot true test =
      let now : (sender_at (slice_set senders first s) slot).spare ≡ s.spare = ap (λ (q : SenderState). q.spare) (at_first slot test) in
      let had : (sender_at start slot).spare ≤ (sender_at senders slot).spare = before.roomier.spare slot in
      let here : (sender_at senders first).spare ≡ (sender_at senders slot).spare = ap (λ i. (sender_at senders i).spare) (is_first slot test) in omega arith
  spare_after slot false test =
      let now : (sender_at (slice_set senders first s) slot).spare ≡ (sender_at senders slot).spare = ap (λ (q : SenderState). q.spare) (at_other slot test) in
      let had : (sender_at start slot).spare ≤ (sender_at senders slot).spare = before.roomier.spare slot in omega arith

  room_after : more ≤ s.spare → (slot : ℕ) (b : Bool) → (first == slot) ≡ b → slot < first + 1 → more ≤ (sender_at (slice_set senders first s) slot).spare
  room_after enough slot true test near =
      let now : (sender_at (slice_set senders first s) slot).spare ≡ s.spare = ap (λ (q : SenderState). q.spare) (at_first slot test) in omega arith
  room_after enough slot false test near =
      let now : (sender_at (slice_set senders first s) slot).spare ≡ (sender_at senders slot).spare = ap (λ (q : SenderState). q.spare) (at_other slot test) in
      let had : more ≤ (sender_at senders slot).spare = before.room slot (is_other slot test near) in omega arith

  -- it got at least the room that there was
  pub roomier_after : AreRoomier start (slice_set senders first s)
  roomier_after = record {
    same = map-set_same but_room senders first s _ same ∙ before.roomier.same;
    spare = λ slot. spare_after slot (first == slot) refl;
  }

  -- the next slot has room too
  pub roomier_next : more ≤ s.spare → IsRoomierTo start (slice_set senders first s) (first + 1) more
  roomier_next enough = record {
    many = length-set senders first s ∙ before.many;
    roomier = roomier_after;
    room = λ slot near. room_after enough slot (first == slot) refl near;
  }
