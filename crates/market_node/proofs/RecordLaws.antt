-- The record of a node, with one entry more.
use Rattle.std.proofs.Common.{◌≡◌, ℕ, ◌+◌, ◌^◌, ◌<◌, ◌≤◌, true, List, [], ◌∷◌, ◌++◌, length, slice_index, refl, ap, ◌∙◌, arith, length-append}
use Rattle.std.specs.Prelude.{Result, Ok, Err, OnErr}
use Rattle.std.specs.List.{slice_set}
use Rattle.std.proofs.lemmas.List.Sums.{count_by-le-length}
use Rattle.market_amounts.specs.declared.keys.RequestId.{RequestId}
use Rattle.market_events.specs.declared.bodies.Body.{Body}
use Rattle.market_events.specs.declared.events.Entry.{Entry}
use Rattle.market_events.specs.declared.events.Event.{Event}
use Rattle.market_events.specs.declared.events.Offer.TheVariants as offer
use Rattle.market_events.specs.declared.events.What.{What}
use Rattle.market_events.specs.declared.events.What.TheVariants.{Given, Taken, Made, Answered}
use Rattle.market_events.specs.declared.links.Link.{Link}
use Rattle.market_events.specs.declared.replies.Reply.{Reply}
use Rattle.market_events.specs.declared.requests.Request.{Request}
use Rattle.market_events.specs.Carried.{carries}
use Rattle.market_events.specs.Counts.{AreCounts, IsMergeOf}
use Rattle.market_events.specs.Links.{IsLink, lane_node, sender_of, receiver_of, same_link}
use Rattle.market_events.specs.Offers.{taken_on, counts_of, offer_by, offer_of}
use Rattle.market_events.specs.Requests.{lane_of}
use Rattle.market_events.specs.WellFormed.{IsBody, IsReply, IsRequest, IsRequestId, IsWellFormedEvent}
use Rattle.market_events.specs.declared.nodes.TheConstants.{NODES}
use Rattle.market_history.specs.Blocks.{with_what, next_event}
use Rattle.market_history.specs.Causality.{events_taken, past_of}
use Rattle.market_history.specs.Journals.{AsksOwn, CanBeKept, IsEntry, IsLane}
use Rattle.market_history.specs.Sent.{sent}
use Rattle.market_history.specs.Stamps.{clock_before, stamp_of}
use Rattle.market_history.proofs.CoreEntries.{length-events_taken, length-sent}
use Rattle.market_links.specs.Slots.{slot_into, slot_from}
use Rattle.market_node.specs.Notes.{AreNotes, raised_on, at_slot}
use Rattle.market_node.specs.PlaceStates.{PlaceState}
use Rattle.market_node.specs.Records.{RecordState}
use Rattle.market_node.proofs.NoteLaws.{next_of_take, AreNotes-quiet, AreNotes-taken, AreNotes-made, same_notes}
use Rattle.market_node.proofs.PlaceLaws.{length-places_of}

abbrev pub state : ℕ → List Entry → ℕ → List ℕ → ℕ → RecordState
state node entries committed acknowledged room =
    record { node = node; entries = entries; committed = committed; acknowledged = acknowledged; room = room }

pub same_parts : (m n : ℕ) (xs ys : List Entry) (c d : ℕ) (a b : List ℕ) (k l : ℕ) → m ≡ n → xs ≡ ys → c ≡ d → a ≡ b → k ≡ l → state m xs c a k ≡ state n ys d b l
same_parts m n xs ys c d a b k l one two three four five =
    ap (λ i. state i xs c a k) one ∙ ap (λ zs. state n zs c a k) two ∙ ap (λ i. state n ys i a k) three
    ∙ ap (λ i. state n ys d i k) four ∙ ap (λ i. state n ys d b i) five

-- records with equal parts
pub same_record : (r : RecordState) (n c : ℕ) (a : List ℕ) (k : ℕ) (es : List Entry) → r.node ≡ n → r.entries ≡ es → r.committed ≡ c → r.acknowledged ≡ a → r.room ≡ k → r ≡ state n es c a k
same_record r n c a k es node entries committed acknowledged room =
    same_parts r.node n r.entries es r.committed c r.acknowledged a r.room k node entries committed acknowledged room

abbrev pub entry_at : ℕ → What → Entry
entry_at clock what = record { clock = clock; what = what }

-- the entry that is written is the one with its stamp
pub stamped_entry : (xs ys : List Entry) (clock : ℕ) (what : What) → ys ≡ xs ++ entry_at clock what ∷ [] → clock ≡ stamp_of (clock_before xs) what → ys ≡ with_what xs what
stamped_entry xs ys clock what pushed is = pushed ∙ ap (λ c. xs ++ entry_at c what ∷ []) is

abbrev pub event_at : ℕ → ℕ → Link → List ℕ → Body → Event
event_at clock count link past b = record { link = link; number = count + 1; clock = clock + 1; past = past; body = b }

-- the event that is written is the next one of its link
pub written_event : (xs ys : List Entry) (clock count : ℕ) (link : Link) (past : List ℕ) (b : Body) → ys ≡ xs ++ entry_at (clock + 1) (Made (event_at clock count link past b)) ∷ []
    → clock ≡ clock_before xs → count ≡ length (sent link xs) → past ≡ past_of xs → ys ≡ with_what xs (Made (next_event xs link b))
written_event xs ys clock count link past b pushed c n p =
    pushed
    ∙ ap (λ i. xs ++ entry_at (i + 1) (Made (event_at i count link past b)) ∷ []) c
    ∙ ap (λ i. xs ++ entry_at (clock_before xs + 1) (Made (event_at (clock_before xs) i link past b)) ∷ []) n
    ∙ ap (λ counts. xs ++ entry_at (clock_before xs + 1) (Made (event_at (clock_before xs) (length (sent link xs)) link counts b)) ∷ []) p

-- how many events were taken on a link into the node
pub few_taken : (node : ℕ) (xs : List Entry) (clock : ℕ) (known services receivers : List ℕ) (lists : List PlaceState) (link : Link) → AreNotes node xs clock known services receivers lists → IsLink link → receiver_of link ≡ node → slice_index receivers (slot_into link) ≤ length xs
few_taken node xs clock known services receivers lists link notes is into =
    let noted : slice_index receivers (slot_into link) ≡ taken_on (events_taken xs) link = notes.receivers link is into in
    let most : taken_on (events_taken xs) link ≤ length (events_taken xs) = count_by-le-length (λ (e : Event). same_link e.link link) (events_taken xs) in
    let taken : length (events_taken xs) ≤ length xs = length-events_taken xs in
    omega arith

-- what becomes of an event, by what is noted
pub noted_offer : (node : ℕ) (xs : List Entry) (clock : ℕ) (known services receivers : List ℕ) (lists : List PlaceState) (event : Event) → AreNotes node xs clock known services receivers lists → IsLink event.link → receiver_of event.link ≡ node
    → offer_by (slice_index receivers (slot_into event.link)) node services event ≡ offer_of node (events_taken xs) event
noted_offer node xs clock known services receivers lists event notes is into =
    ap (λ count. offer_by count node services event) (notes.receivers event.link is into)
    ∙ ap (λ counts. offer_by (taken_on (events_taken xs) event.link) node counts event) notes.services

-- how many events were made on a link out of the node
pub noted_sent : (node : ℕ) (xs : List Entry) (clock : ℕ) (known services receivers : List ℕ) (lists : List PlaceState) (link : Link) → AreNotes node xs clock known services receivers lists → IsLink link → sender_of link ≡ node
    → length (at_slot lists (slot_from link)).places ≡ length (sent link xs)
noted_sent node xs clock known services receivers lists link notes is from =
    ap (λ (ps : List ℕ). length ps) (notes.places link is from) ∙ length-places_of link xs

-- the number of the next one
pub noted_count : (node : ℕ) (xs : List Entry) (clock : ℕ) (known services receivers : List ℕ) (lists : List PlaceState) (link : Link) (slot count : ℕ) → AreNotes node xs clock known services receivers lists → IsLink link → sender_of link ≡ node
    → slot ≡ slot_from link → count ≡ length (at_slot lists slot).places → count ≡ length (sent link xs)
noted_count node xs clock known services receivers lists link slot count notes is from at counted =
    counted ∙ ap (λ i. length (at_slot lists i).places) at ∙ noted_sent node xs clock known services receivers lists link notes is from

-- one entry more
pub at_most-push : (xs ys : List Entry) (x : Entry) (n : ℕ) → ys ≡ xs ++ x ∷ [] → n ≤ length xs → n ≤ length ys
at_most-push xs ys x n is most =
    let long : length ys ≡ length xs + 1 = ap (λ (es : List Entry). length es) is ∙ length-append xs (x ∷ []) in omega arith

-- the entries may stand at the end

pub taken_entry : (node : ℕ) (xs : List Entry) (clock : ℕ) (event : Event) → node < NODES → length xs < 4_294_967_295 → clock ≤ 2 ^ 62 → event.clock ≤ 2 ^ 62 → event.number < 2 ^ 32 → AreCounts event.past
    → IsLink event.link → carries event.link event.body ≡ true → AsksOwn event.link event.body → IsWellFormedEvent event → receiver_of event.link ≡ node → offer_of node (events_taken xs) event ≡ offer.Take
    → IsEntry node (length xs) (entry_at clock (Taken event))
taken_entry node xs clock event high few low sent short past is carried own formed into due = record {
  formed = record { what = formed };
  node_high = high;
  place_high = few;
  clock_high = low;
  what = (
    record {
      link = is;
      number_low = let next = next_of_take (taken_on (events_taken xs) event.link) node (counts_of (events_taken xs)) event due in omega arith;
      number_high = short;
      clock_high = sent;
      past = past;
      body = carried;
      own = own;
    },
    into,
  );
}

pub made_entry : (node : ℕ) (xs : List Entry) (clock number : ℕ) (link : Link) (past : List ℕ) (b : Body) → node < NODES → length xs < 4_294_967_295 → clock ≤ 2 ^ 62 → number ≡ length (sent link xs) + 1
    → AreCounts past → IsLink link → sender_of link ≡ node → carries link b ≡ true → IsBody b → AsksOwn link b
    → IsEntry node (length xs) (entry_at clock (Made (record { link = link; number = number; clock = clock; past = past; body = b })))
made_entry node xs clock number link past b high few low next counts is from carried formed own = record {
  formed = record { what = record { body = formed } };
  node_high = high;
  place_high = few;
  clock_high = low;
  what = (
    record {
      link = is;
      number_low = omega arith;
      number_high = let most = length-sent link xs in omega arith;
      clock_high = low;
      past = counts;
      body = carried;
      own = own;
    },
    from,
    refl,
  );
}

pub given_entry : (node : ℕ) (xs : List Entry) (clock : ℕ) (r : Request) → node < NODES → length xs < 4_294_967_295 → clock ≤ 2 ^ 62 → IsRequest r → lane_node (lane_of r.id) ≡ node → IsEntry node (length xs) (entry_at clock (Given r))
given_entry node xs clock r high few low formed own =
    record { formed = record { what = formed }; node_high = high; place_high = few; clock_high = low; what = ((omega arith, high), own) }

pub answered_entry : (node : ℕ) (xs : List Entry) (clock : ℕ) (id : RequestId) (reply : Reply) → node < NODES → length xs < 4_294_967_295 → clock ≤ 2 ^ 62 → IsRequestId id → IsReply reply → CanBeKept reply → IsLane node → IsEntry node (length xs) (entry_at clock (Answered id reply))
answered_entry node xs clock id reply high few low formed said kept lane =
    record { formed = record { what = (formed, said) }; node_high = high; place_high = few; clock_high = low; what = (lane, kept) }

-- what is noted then

pub notes_taken : (node other : ℕ) (xs ys : List Entry) (clock later : ℕ) (event : Event) (known merged knows services serves receivers receives : List ℕ) (lists : List PlaceState) → AreNotes node xs clock known services receivers lists
    → IsLink event.link → receiver_of event.link ≡ node → offer_of node (events_taken xs) event ≡ offer.Take
    → other ≡ node → ys ≡ xs ++ entry_at later (Taken event) ∷ []
    → length merged ≡ length known → IsMergeOf merged known event.past → knows ≡ raised_on merged event.link event.number
    → serves ≡ raised_on services event.link event.number → receives ≡ slice_set receivers (slot_into event.link) (slice_index receivers (slot_into event.link) + 1)
    → AreNotes other ys later knows serves receives lists
notes_taken node other xs ys clock later event known merged knows services serves receivers receives lists notes is into due n e long merge k s r =
    same_notes other node ys (xs ++ entry_at later (Taken event) ∷ []) later later knows _ serves _ receives _ lists lists n e refl k s r refl
    (AreNotes-taken node xs (entry_at later (Taken event)) event merged clock known services receivers lists notes refl is into
    (next_of_take (taken_on (events_taken xs) event.link) node (counts_of (events_taken xs)) event due) long merge)

pub notes_made : (node other : ℕ) (xs ys : List Entry) (clock later : ℕ) (event : Event) (p : PlaceState) (known knows services receivers : List ℕ) (lists listing : List PlaceState) → AreNotes node xs clock known services receivers lists
    → IsLink event.link → sender_of event.link ≡ node → event.number ≡ length (sent event.link xs) + 1
    → other ≡ node → ys ≡ xs ++ entry_at later (Made event) ∷ []
    → p.places ≡ (at_slot lists (slot_from event.link)).places ++ length xs ∷ [] → listing ≡ slice_set lists (slot_from event.link) p
    → knows ≡ raised_on known event.link event.number
    → AreNotes other ys later knows services receivers listing
notes_made node other xs ys clock later event p known knows services receivers lists listing notes is from next n e placed l k =
    same_notes other node ys (xs ++ entry_at later (Made event) ∷ []) later later knows _ services services receivers receivers listing _ n e refl k refl refl l
    (AreNotes-made node xs (entry_at later (Made event)) event p clock known services receivers lists notes refl is from next placed)

pub notes_given : (node other : ℕ) (xs ys : List Entry) (clock later : ℕ) (r : Request) (known services receivers : List ℕ) (lists : List PlaceState) → AreNotes node xs clock known services receivers lists
    → other ≡ node → ys ≡ xs ++ entry_at later (Given r) ∷ [] → AreNotes other ys later known services receivers lists
notes_given node other xs ys clock later r known services receivers lists notes n e =
    same_notes other node ys (xs ++ entry_at later (Given r) ∷ []) later later known known services services receivers receivers lists lists n e refl refl refl refl refl
    (AreNotes-quiet node xs (entry_at later (Given r)) clock known services receivers lists notes (λ k. refl) refl (λ link. refl))

pub notes_answered : (node other : ℕ) (xs ys : List Entry) (clock later : ℕ) (id : RequestId) (reply : Reply) (known services receivers : List ℕ) (lists : List PlaceState) → AreNotes node xs clock known services receivers lists
    → other ≡ node → ys ≡ xs ++ entry_at later (Answered id reply) ∷ [] → AreNotes other ys later known services receivers lists
notes_answered node other xs ys clock later id reply known services receivers lists notes n e =
    same_notes other node ys (xs ++ entry_at later (Answered id reply) ∷ []) later later known known services services receivers receivers lists lists n e refl refl refl refl refl
    (AreNotes-quiet node xs (entry_at later (Answered id reply)) clock known services receivers lists notes (λ k. refl) refl (λ link. refl))

-- with more room for places
pub notes_reserved : (node other : ℕ) (xs ys : List Entry) (clock : ℕ) (known services receivers : List ℕ) (lists wider : List PlaceState) → AreNotes node xs clock known services receivers lists
    → other ≡ node → ys ≡ xs → length wider ≡ length lists → ((slot : ℕ) → (at_slot wider slot).places ≡ (at_slot lists slot).places)
    → AreNotes other ys clock known services receivers wider
notes_reserved node other xs ys clock known services receivers lists wider notes n e many same =
    same_notes other node ys xs clock clock known known services services receivers receivers wider wider n e refl refl refl refl refl (record {
      clock = notes.clock;
      known = notes.known;
      services = notes.services;
      received = notes.received;
      receivers = notes.receivers;
      listed = many ∙ notes.listed;
      places = λ link is from. same (slot_from link) ∙ notes.places link is from;
      numbered = notes.numbered;
    })

-- what holds anyway holds on an error
pub on_err : {A E : Type 0} (r : Result A E) (P : Type 0) → P → OnErr r P
on_err (Ok x) P holds = tt
on_err (Err e) P holds = holds
