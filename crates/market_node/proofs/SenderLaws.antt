-- The senders of a node as its journal grows, is committed, and as counts come back.
use Rattle.std.proofs.Common.{◌≡◌, ℕ, ◌+◌, ◌-◌, ◌<◌, ◌≤◌, max, Bool, true, false, ◌==◌, ◌&&◌, nat_lt, nat_le, if◌then◌else◌, List, [], ◌∷◌, ◌++◌, Some, None, length, map, take, drop, refl, ap, subst, sym, ◌∙◌, arith, length-append}
use Rattle.std.specs.List.{slice_set, slice_index}
use Rattle.std.proofs.lemmas.Bool.Decides.{nat_tests}
use Rattle.std.proofs.lemmas.List.{length-map, length-set, length-drop, map-set, drop-drop, drop-take, drop-append-le, take_all, take-append-le, take-append-drop}
use Rattle.std.proofs.lemmas.List.Elements.{filter_map-append}
use Rattle.std.proofs.Math.ListN.{get_or-map}
use Rattle.std.proofs.Math.Seq.{map-set_same, take-append_seam}
use Rattle.market_events.specs.declared.events.Entry.{Entry}
use Rattle.market_events.specs.declared.events.Event.{Event}
use Rattle.market_events.specs.declared.events.What.TheVariants.{Made}
use Rattle.market_events.specs.declared.links.Link.{Link}
use Rattle.market_events.specs.Links.{IsLink, sender_of, same_link}
use Rattle.market_events.proofs.Values.Lists.{map-map}
use Rattle.market_events.proofs.Values.Offers.{same_link-true}
use Rattle.market_history.specs.Sent.{event_made_on, sent}
use Rattle.market_history.proofs.SentLaws.{sent-push-none, sent-push-some}
use Rattle.market_links.specs.SenderStates.{SenderState, next_number, with_event, with_ack, with_release, window_of}
use Rattle.market_links.specs.Slots.{slot_from}
use Rattle.market_links.specs.declared.slots.TheConstants.{SLOTS}
use Rattle.market_links.proofs.SlotLaws.{apart_from, from_below}
use Rattle.market_node.specs.Sending.{sender_at, new_sender, acknowledged_of, but_room, AreRoomier, IsSenderOf, AreSenders, window_on, with_count}
use Rattle.market_node.proofs.SendingLaws.{sender_at-set}

-- nothing was made
pub senders_first : (node : ℕ) (senders : List SenderState) → length senders ≡ SLOTS
    → ((link : Link) → IsLink link → sender_of link ≡ node → sender_at senders (slot_from link) ≡ new_sender link)
    → AreSenders node [] 0 0 senders
senders_first node senders many each = record {
  many = many;
  each = λ link is from. subst (λ s. IsSenderOf link [] 0 s) (sym (each link is from)) (none link);
  rooms = λ slot below. omega arith;
}
  where
    none : (link : Link) → IsSenderOf link [] 0 (new_sender link)
    none link = record { same_link = refl; under_way = refl; released = refl; within = omega arith }

-- the events of committed entries are the first of all
pub sent-split : (link : Link) (xs : List Entry) (n : ℕ) → sent link xs ≡ sent link (take n xs) ++ sent link (drop n xs)
sent-split link xs n =
    ap (λ es. sent link es) (sym (take-append-drop n xs))
    ∙ filter_map-append (λ (x : Entry). event_made_on link x.what) (take n xs) (drop n xs)

pub sent-most : (link : Link) (xs : List Entry) (n : ℕ) → length (sent link (take n xs)) ≤ length (sent link xs)
sent-most link xs n =
    let long : length (sent link xs) ≡ length (sent link (take n xs)) + length (sent link (drop n xs)) =
    ap (λ (es : List Event). length es) (sent-split link xs n) ∙ length-append (sent link (take n xs)) (sent link (drop n xs)) in
    omega arith

-- an entry that made nothing on the link
quiet_sender : (link : Link) (xs : List Entry) (x : Entry) (committed : ℕ) (s : SenderState) → committed ≤ length xs → event_made_on link x.what ≡ None
    → IsSenderOf link xs committed s → IsSenderOf link (xs ++ x ∷ []) committed s
quiet_sender link xs x committed s most none is = record {
  same_link = is.same_link;
  under_way = is.under_way ∙ ap (λ es. drop s.acknowledged es) (sym (sent-push-none link xs x none));
  released = is.released ∙ ap (λ es. length (sent link es)) (sym (take-append-le committed xs (x ∷ []) most));
  within = is.within;
}

-- and one that made an event on it
made_sender : (link : Link) (xs : List Entry) (x : Entry) (event : Event) (committed : ℕ) (s : SenderState) → committed ≤ length xs → event_made_on link x.what ≡ Some event
    → IsSenderOf link xs committed s → IsSenderOf link (xs ++ x ∷ []) committed (with_event s event)
made_sender link xs x event committed s most some is = record {
  same_link = is.same_link;
  under_way =
      ap (λ es. es ++ event ∷ []) is.under_way
      ∙ sym (drop-append-le s.acknowledged (sent link xs) (event ∷ []) (omega (arith, is.within, is.released, sent-most link xs committed)))
      ∙ ap (λ es. drop s.acknowledged es) (sym (sent-push-some link xs x event some));
  released = is.released ∙ ap (λ es. length (sent link es)) (sym (take-append-le committed xs (x ∷ []) most));
  within = is.within;
}

less_room : (room : ℕ) (senders : List SenderState) → ((slot : ℕ) → slot < SLOTS → room ≤ (sender_at senders slot).spare) → (slot : ℕ) → slot < SLOTS → room - 1 ≤ (sender_at senders slot).spare
less_room room senders rooms slot below = let had = rooms slot below in omega arith

-- an entry that made nothing
pub senders_quiet : (node : ℕ) (xs : List Entry) (x : Entry) (committed room : ℕ) (senders : List SenderState) → AreSenders node xs committed room senders → committed ≤ length xs
    → ((link : Link) → event_made_on link x.what ≡ None) → AreSenders node (xs ++ x ∷ []) committed (room - 1) senders
senders_quiet node xs x committed room senders are most none = record {
  many = are.many;
  each = λ link is from. quiet_sender link xs x committed (sender_at senders (slot_from link)) most (none link) (are.each link is from);
  rooms = less_room room senders are.rooms;
}

-- an entry that made an event
pub senders_made : (node : ℕ) (xs : List Entry) (x : Entry) (event : Event) (committed room : ℕ) (senders : List SenderState) → AreSenders node xs committed room senders → committed ≤ length xs
    → x.what ≡ Made event → IsLink event.link → sender_of event.link ≡ node
    → AreSenders node (xs ++ x ∷ []) committed (room - 1) (slice_set senders (slot_from event.link) (with_event (sender_at senders (slot_from event.link)) event))
senders_made node xs x event committed room senders are most is is_link from = record {
  many = length-set senders (slot_from event.link) new ∙ are.many;
  each = λ link other there. by_link link (same_link event.link link) refl other there;
  rooms = λ slot low. by_slot slot (slot_from event.link == slot) refl low;
}
  where
    new : SenderState
    new = with_event (sender_at senders (slot_from event.link)) event

    below : slot_from event.link < length senders
    below = let low = from_below event.link is_link in let long = are.many in omega arith

    by_link : (link : Link) (b : Bool) → same_link event.link link ≡ b → IsLink link → sender_of link ≡ node
        → IsSenderOf link (xs ++ x ∷ []) committed (sender_at (slice_set senders (slot_from event.link) new) (slot_from link))
    by_link link true same other there =
        let e : event.link ≡ link = same_link-true event.link link same in
        let slot : (slot_from event.link == slot_from link) ≡ true = sym (apart_from event.link link is_link other (from ∙ sym there)) ∙ same in
        let made : event_made_on link x.what ≡ Some event = ap (λ w. event_made_on link w) is ∙ ap (λ b. if b then Some event else None) same in
        subst (λ s. IsSenderOf link (xs ++ x ∷ []) committed s) (sym (sender_at-set senders (slot_from event.link) (slot_from link) new true slot below))
        (subst (λ (l : Link). IsSenderOf link (xs ++ x ∷ []) committed (with_event (sender_at senders (slot_from l)) event)) (sym e)
        (made_sender link xs x event committed (sender_at senders (slot_from link)) most made (are.each link other there)))
    by_link link false same other there =
        let slot : (slot_from event.link == slot_from link) ≡ false = sym (apart_from event.link link is_link other (from ∙ sym there)) ∙ same in
        let none : event_made_on link x.what ≡ None = ap (λ w. event_made_on link w) is ∙ ap (λ b. if b then Some event else None) same in
        subst (λ s. IsSenderOf link (xs ++ x ∷ []) committed s) (sym (sender_at-set senders (slot_from event.link) (slot_from link) new false slot below))
        (quiet_sender link xs x committed (sender_at senders (slot_from link)) most none (are.each link other there))

    by_slot : (slot : ℕ) (b : Bool) → (slot_from event.link == slot) ≡ b → slot < SLOTS → room - 1 ≤ (sender_at (slice_set senders (slot_from event.link) new) slot).spare
    by_slot slot true test low =
        let at : sender_at (slice_set senders (slot_from event.link) new) slot ≡ new = sender_at-set senders (slot_from event.link) slot new true test below in
        let spare : (sender_at (slice_set senders (slot_from event.link) new) slot).spare ≡ new.spare = ap (λ (s : SenderState). s.spare) at in
        let had : room ≤ (sender_at senders (slot_from event.link)).spare = are.rooms (slot_from event.link) (from_below event.link is_link) in omega arith
    by_slot slot false test low =
        let at : sender_at (slice_set senders (slot_from event.link) new) slot ≡ sender_at senders slot = sender_at-set senders (slot_from event.link) slot new false test below in
        let spare : (sender_at (slice_set senders (slot_from event.link) new) slot).spare ≡ (sender_at senders slot).spare = ap (λ (s : SenderState). s.spare) at in
        let had : room ≤ (sender_at senders slot).spare = are.rooms slot low in omega arith

-- its sender takes it next
pub next_at : (node : ℕ) (xs : List Entry) (committed room : ℕ) (senders : List SenderState) (link : Link) → AreSenders node xs committed room senders → IsLink link → sender_of link ≡ node
    → next_number (sender_at senders (slot_from link)) ≡ length (sent link xs) + 1
next_at node xs committed room senders link are is from =
    let s = sender_at senders (slot_from link) in
    let it : IsSenderOf link xs committed (sender_at senders (slot_from link)) = are.each link is from in
    let long : length s.under_way ≡ length (sent link xs) - s.acknowledged = ap (λ (es : List Event). length es) it.under_way ∙ length-drop s.acknowledged (sent link xs) in
    omega (arith, it.within, it.released, sent-most link xs committed)

-- appending changes no acknowledged count
pub acknowledged-event : (senders : List SenderState) (slot : ℕ) (event : Event) → acknowledged_of (slice_set senders slot (with_event (sender_at senders slot) event)) ≡ acknowledged_of senders
acknowledged-event senders slot event = map-set_same (λ (s : SenderState). s.acknowledged) senders slot (with_event (sender_at senders slot) event) _ refl

-- with more room
pub acknowledged-roomier : (before after : List SenderState) → AreRoomier before after → acknowledged_of after ≡ acknowledged_of before
acknowledged-roomier before after more =
    sym (map-map but_room (λ (s : SenderState). s.acknowledged) after)
    ∙ ap (λ (ss : List SenderState). acknowledged_of ss) more.same
    ∙ map-map but_room (λ (s : SenderState). s.acknowledged) before

same_sender : (before after : List SenderState) (slot : ℕ) → AreRoomier before after → but_room (sender_at after slot) ≡ but_room (sender_at before slot)
same_sender before after slot more =
    sym (get_or-map but_room after slot _) ∙ ap (λ (ss : List SenderState). sender_at ss slot) more.same ∙ get_or-map but_room before slot _

roomier_sender : (link : Link) (xs : List Entry) (committed : ℕ) (before after : SenderState) → but_room after ≡ but_room before → IsSenderOf link xs committed before → IsSenderOf link xs committed after
roomier_sender link xs committed before after same is =
    unroomed (subst (λ s. IsSenderOf link xs committed s) (sym same) (roomed is))
  where
    roomed : IsSenderOf link xs committed before → IsSenderOf link xs committed (but_room before)
    roomed it = record { same_link = it.same_link; under_way = it.under_way; released = it.released; within = it.within }

    unroomed : IsSenderOf link xs committed (but_room after) → IsSenderOf link xs committed after
    unroomed it = record { same_link = it.same_link; under_way = it.under_way; released = it.released; within = it.within }

pub senders_roomier : (node : ℕ) (xs : List Entry) (committed room more : ℕ) (before after : List SenderState) → AreSenders node xs committed room before → AreRoomier before after
    → ((slot : ℕ) → slot < SLOTS → more ≤ (sender_at after slot).spare) → AreSenders node xs committed (max room more) after
senders_roomier node xs committed room more before after are wider enough = record {
  many = sym (length-map after but_room) ∙ ap (λ (ss : List SenderState). length ss) wider.same ∙ length-map before but_room ∙ are.many;
  each = λ link is from. roomier_sender link xs committed (sender_at before (slot_from link)) (sender_at after (slot_from link)) (same_sender before after (slot_from link) wider) (are.each link is from);
  rooms = λ slot below. let had = are.rooms slot below in let now = wider.spare slot in let got = enough slot below in omega arith;
}

-- where room was wanting they are as they were
pub senders_kept : (node : ℕ) (xs : List Entry) (committed room : ℕ) (before after : List SenderState) → AreSenders node xs committed room before → AreRoomier before after → AreSenders node xs committed room after
senders_kept node xs committed room before after are wider = record {
  many = sym (length-map after but_room) ∙ ap (λ (ss : List SenderState). length ss) wider.same ∙ length-map before but_room ∙ are.many;
  each = λ link is from. roomier_sender link xs committed (sender_at before (slot_from link)) (sender_at after (slot_from link)) (same_sender before after (slot_from link) wider) (are.each link is from);
  rooms = λ slot below. let had = are.rooms slot below in let now = wider.spare slot in omega arith;
}

-- every event is released
released_sender : (link : Link) (xs : List Entry) (committed : ℕ) (s : SenderState) → IsSenderOf link xs committed s → IsSenderOf link xs (length xs) (with_release s)
released_sender link xs committed s is =
    let long : length s.under_way ≡ length (sent link xs) - s.acknowledged = ap (λ (es : List Event). length es) is.under_way ∙ length-drop s.acknowledged (sent link xs) in
    let all : length (sent link (take (length xs) xs)) ≡ length (sent link xs) = ap (λ es. length (sent link es)) (take_all (length xs) xs (omega arith)) in
    record {
      same_link = is.same_link;
      under_way = is.under_way;
      released = omega (arith, is.within, is.released, sent-most link xs committed);
      within = omega arith;
    }

pub senders_released : (node : ℕ) (xs : List Entry) (committed room : ℕ) (senders : List SenderState) → AreSenders node xs committed room senders → AreSenders node xs (length xs) room (map with_release senders)
senders_released node xs committed room senders are = record {
  many = length-map senders with_release ∙ are.many;
  each = λ link is from. subst (λ s. IsSenderOf link xs (length xs) s) (sym (at (slot_from link))) (released_sender link xs committed (sender_at senders (slot_from link)) (are.each link is from));
  rooms = λ slot below. let had = are.rooms slot below in let same : (sender_at (map with_release senders) slot).spare ≡ (sender_at senders slot).spare = ap (λ (s : SenderState). s.spare) (at slot) in omega arith;
}
  where
    at : (slot : ℕ) → sender_at (map with_release senders) slot ≡ with_release (sender_at senders slot)
    at slot = get_or-map with_release senders slot _

pub acknowledged-released : (senders : List SenderState) → acknowledged_of (map with_release senders) ≡ acknowledged_of senders
acknowledged-released senders = map-map with_release (λ (s : SenderState). s.acknowledged) senders

-- a count came back
acked_sender : (link : Link) (xs : List Entry) (committed count : ℕ) (s : SenderState) → IsSenderOf link xs committed s → IsSenderOf link xs committed (with_ack s count)
acked_sender link xs committed count s is = by_test (nat_lt s.acknowledged count && nat_le count s.released) refl
  where
    by_test : (b : Bool) → (nat_lt s.acknowledged count && nat_le count s.released) ≡ b
        → IsSenderOf link xs committed (if b then record s { acknowledged = count; under_way = drop (count - s.acknowledged) s.under_way } else s)
    by_test false test = is
    by_test true test =
        let above : s.acknowledged < count = grind (arith, nat_tests) in
        let most : count ≤ s.released = grind (arith, nat_tests) in
        record {
          same_link = is.same_link;
          under_way =
              ap (λ es. drop (count - s.acknowledged) es) is.under_way
              ∙ drop-drop (count - s.acknowledged) s.acknowledged (sent link xs)
              ∙ ap (λ n. drop n (sent link xs)) (omega arith);
          released = is.released;
          within = most;
        }

ack_room : (s : SenderState) (count : ℕ) → (with_ack s count).spare ≡ s.spare
ack_room s count = by_test (nat_lt s.acknowledged count && nat_le count s.released)
  where
    by_test : (b : Bool) → (if b then record s { acknowledged = count; under_way = drop (count - s.acknowledged) s.under_way } else s).spare ≡ s.spare
    by_test true = refl
    by_test false = refl

pub senders_acked : (node : ℕ) (xs : List Entry) (committed room count : ℕ) (senders : List SenderState) (link : Link) → AreSenders node xs committed room senders → IsLink link → sender_of link ≡ node
    → AreSenders node xs committed room (slice_set senders (slot_from link) (with_ack (sender_at senders (slot_from link)) count))
senders_acked node xs committed room count senders link are is from = record {
  many = length-set senders (slot_from link) new ∙ are.many;
  each = λ other it there. by_link other (same_link link other) refl it there;
  rooms = λ slot low. by_slot slot (slot_from link == slot) refl low;
}
  where
    new : SenderState
    new = with_ack (sender_at senders (slot_from link)) count

    below : slot_from link < length senders
    below = let low = from_below link is in let long = are.many in omega arith

    by_link : (other : Link) (b : Bool) → same_link link other ≡ b → IsLink other → sender_of other ≡ node
        → IsSenderOf other xs committed (sender_at (slice_set senders (slot_from link) new) (slot_from other))
    by_link other true same it there =
        let e : link ≡ other = same_link-true link other same in
        let slot : (slot_from link == slot_from other) ≡ true = sym (apart_from link other is it (from ∙ sym there)) ∙ same in
        subst (λ s. IsSenderOf other xs committed s) (sym (sender_at-set senders (slot_from link) (slot_from other) new true slot below))
        (subst (λ (l : Link). IsSenderOf l xs committed new) e (acked_sender link xs committed count (sender_at senders (slot_from link)) (are.each link is from)))
    by_link other false same it there =
        let slot : (slot_from link == slot_from other) ≡ false = sym (apart_from link other is it (from ∙ sym there)) ∙ same in
        subst (λ s. IsSenderOf other xs committed s) (sym (sender_at-set senders (slot_from link) (slot_from other) new false slot below))
        (are.each other it there)

    by_slot : (slot : ℕ) (b : Bool) → (slot_from link == slot) ≡ b → slot < SLOTS → room ≤ (sender_at (slice_set senders (slot_from link) new) slot).spare
    by_slot slot true test low =
        let at : sender_at (slice_set senders (slot_from link) new) slot ≡ new = sender_at-set senders (slot_from link) slot new true test below in
        let spare : (sender_at (slice_set senders (slot_from link) new) slot).spare ≡ (sender_at senders (slot_from link)).spare = ap (λ (s : SenderState). s.spare) at ∙ ack_room (sender_at senders (slot_from link)) count in
        let had : room ≤ (sender_at senders (slot_from link)).spare = are.rooms (slot_from link) (from_below link is) in omega arith
    by_slot slot false test low =
        let at : sender_at (slice_set senders (slot_from link) new) slot ≡ sender_at senders slot = sender_at-set senders (slot_from link) slot new false test below in
        let spare : (sender_at (slice_set senders (slot_from link) new) slot).spare ≡ (sender_at senders slot).spare = ap (λ (s : SenderState). s.spare) at in
        let had : room ≤ (sender_at senders slot).spare = are.rooms slot low in omega arith

-- what is to be sent of a link
pub window_shows : (node : ℕ) (xs : List Entry) (committed room : ℕ) (senders : List SenderState) (link : Link) → AreSenders node xs committed room senders → IsLink link → sender_of link ≡ node
    → window_of (sender_at senders (slot_from link)) ≡ window_on link xs committed (sender_at senders (slot_from link)).acknowledged
window_shows node xs committed room senders link are is from =
    let s = sender_at senders (slot_from link) in
    let it : IsSenderOf link xs committed (sender_at senders (slot_from link)) = are.each link is from in
    let ready = sent link (take committed xs) in
    ap (λ es. take 7 (take (s.released - s.acknowledged) es)) it.under_way
    ∙ ap (λ es. take 7 es) (sym (drop-take s.acknowledged (s.released - s.acknowledged) (sent link xs)))
    ∙ ap (λ n. take 7 (drop s.acknowledged (take n (sent link xs)))) (omega (arith, it.within, it.released))
    ∙ ap (λ es. take 7 (drop s.acknowledged (take (length ready) es))) (sent-split link xs committed)
    ∙ ap (λ es. take 7 (drop s.acknowledged es)) (take-append_seam ready (sent link (drop committed xs)))

-- the acknowledged count that a sender has is the one that is seen
pub acknowledged-at : (senders : List SenderState) (slot : ℕ) → slice_index (acknowledged_of senders) slot ≡ (sender_at senders slot).acknowledged
acknowledged-at senders slot = get_or-map (λ (s : SenderState). s.acknowledged) senders slot _

ack_count : (s : SenderState) (count released : ℕ) → s.released ≡ released → (with_ack s count).acknowledged ≡ (if nat_lt s.acknowledged count && nat_le count released then count else s.acknowledged)
ack_count s count released same =
    by_test (nat_lt s.acknowledged count && nat_le count s.released)
    ∙ ap (λ n. if nat_lt s.acknowledged count && nat_le count n then count else s.acknowledged) same
  where
    by_test : (b : Bool) → (if b then record s { acknowledged = count; under_way = drop (count - s.acknowledged) s.under_way } else s).acknowledged ≡ (if b then count else s.acknowledged)
    by_test true = refl
    by_test false = refl

-- what it becomes when a count comes back
pub acknowledged-ack : (node : ℕ) (xs : List Entry) (committed room count : ℕ) (senders : List SenderState) (link : Link) → AreSenders node xs committed room senders → IsLink link → sender_of link ≡ node
    → acknowledged_of (slice_set senders (slot_from link) (with_ack (sender_at senders (slot_from link)) count))
    ≡ slice_set (acknowledged_of senders) (slot_from link) (with_count link xs committed (slice_index (acknowledged_of senders) (slot_from link)) count)
acknowledged-ack node xs committed room count senders link are is from =
    map-set (λ (s : SenderState). s.acknowledged) senders (slot_from link) (with_ack (sender_at senders (slot_from link)) count)
    ∙ ap (λ n. slice_set (acknowledged_of senders) (slot_from link) n)
    (ack_count (sender_at senders (slot_from link)) count (length (sent link (take committed xs))) (are.each link is from).released
    ∙ ap (λ n. with_count link xs committed n count) (sym (acknowledged-at senders (slot_from link))))
