-- Room at one slot after the other.
use Rattle.std.proofs.Common.{◌≡◌, ℕ, ◌+◌, ◌<◌, ◌≤◌, Bool, true, false, ◌==◌, List, length, refl, ap, ◌∙◌, arith}
use Rattle.std.specs.List.{slice_set}
use Rattle.std.proofs.lemmas.Bool.Decides.{nat_tests}
use Rattle.market_node.specs.Notes.{at_slot}
use Rattle.market_node.specs.PlaceStates.{PlaceState}
use Rattle.market_node.proofs.NoteLaws.{at_slot-set}

-- the places are as they were, with at least the room that there was, and with so much room at the first slots
pub record IsReserved (start lists : List PlaceState) (first more : ℕ) : Type 0 where
  pub places : (slot : ℕ) → (at_slot lists slot).places ≡ (at_slot start slot).places
  pub spare : (slot : ℕ) → (at_slot start slot).spare ≤ (at_slot lists slot).spare
  pub room : (slot : ℕ) → slot < first → more ≤ (at_slot lists slot).spare

pub reserved_first : (start : List PlaceState) (more : ℕ) → IsReserved start start 0 more
reserved_first start more = record { places = λ slot. refl; spare = λ slot. omega arith; room = λ slot none. absurd (omega arith) }

module _ (start lists : List PlaceState) (first more : ℕ) (p : PlaceState) (below : first < length lists) (same : p.places ≡ (at_slot lists first).places) (wider : (at_slot lists first).spare ≤ p.spare) (before : IsReserved start lists first more) where
  at_other : (slot : ℕ) → (first == slot) ≡ false → at_slot (slice_set lists first p) slot ≡ at_slot lists slot
  at_other slot test = at_slot-set lists first slot p false test below

  at_first : (slot : ℕ) → (first == slot) ≡ true → at_slot (slice_set lists first p) slot ≡ p
  at_first slot test = at_slot-set lists first slot p true test below

  is_first : (slot : ℕ) → (first == slot) ≡ true → first ≡ slot
  is_first slot test = grind (arith, nat_tests)

  is_other : (slot : ℕ) → (first == slot) ≡ false → slot < first + 1 → slot < first
  is_other slot test near = grind (arith, nat_tests)

  places_after : (slot : ℕ) (b : Bool) → (first == slot) ≡ b → (at_slot (slice_set lists first p) slot).places ≡ (at_slot start slot).places
  places_after slot true test =
      ap (λ (q : PlaceState). q.places) (at_first slot test) ∙ same ∙ ap (λ i. (at_slot lists i).places) (is_first slot test) ∙ before.places slot
  places_after slot false test = ap (λ (q : PlaceState). q.places) (at_other slot test) ∙ before.places slot

  spare_after : (slot : ℕ) (b : Bool) → (first == slot) ≡ b → (at_slot start slot).spare ≤ (at_slot (slice_set lists first p) slot).spare
  spare_after slot true test =
      let now : (at_slot (slice_set lists first p) slot).spare ≡ p.spare = ap (λ (q : PlaceState). q.spare) (at_first slot test) in
      let had : (at_slot start slot).spare ≤ (at_slot lists slot).spare = before.spare slot in
      let here : (at_slot lists first).spare ≡ (at_slot lists slot).spare = ap (λ i. (at_slot lists i).spare) (is_first slot test) in omega arith
  spare_after slot false test =
      let now : (at_slot (slice_set lists first p) slot).spare ≡ (at_slot lists slot).spare = ap (λ (q : PlaceState). q.spare) (at_other slot test) in
      let had : (at_slot start slot).spare ≤ (at_slot lists slot).spare = before.spare slot in omega arith

  room_after : more ≤ p.spare → (slot : ℕ) (b : Bool) → (first == slot) ≡ b → slot < first + 1 → more ≤ (at_slot (slice_set lists first p) slot).spare
  room_after enough slot true test near =
      let now : (at_slot (slice_set lists first p) slot).spare ≡ p.spare = ap (λ (q : PlaceState). q.spare) (at_first slot test) in omega arith
  room_after enough slot false test near =
      let now : (at_slot (slice_set lists first p) slot).spare ≡ (at_slot lists slot).spare = ap (λ (q : PlaceState). q.spare) (at_other slot test) in
      let had : more ≤ (at_slot lists slot).spare = before.room slot (is_other slot test near) in omega arith

  -- the next slot has room too
  pub reserved_next : more ≤ p.spare → IsReserved start (slice_set lists first p) (first + 1) more
  reserved_next enough = record {
    places = λ slot. places_after slot (first == slot) refl;
    spare = λ slot. spare_after slot (first == slot) refl;
    room = λ slot near. room_after enough slot (first == slot) refl near;
  }

  -- it got no more room
  pub places_kept : (slot : ℕ) → (at_slot (slice_set lists first p) slot).places ≡ (at_slot start slot).places
  places_kept slot = places_after slot (first == slot) refl

  pub spare_kept : (slot : ℕ) → (at_slot start slot).spare ≤ (at_slot (slice_set lists first p) slot).spare
  spare_kept slot = spare_after slot (first == slot) refl
