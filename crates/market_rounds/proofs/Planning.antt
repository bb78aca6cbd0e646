-- The fates of a plan are given to the nodes one after the other, each to the end that its packet is sent from.
use Rattle.std.proofs.Common.{◌≡◌, ◌≢◌, ℕ, zero, suc, ◌+◌, ◌<◌, Bool, true, false, ◌==◌, ◌&&◌, if◌then◌else◌, List, [], ◌∷◌, ◌++◌, length, map, filter, replicate, take, refl, ap, subst, sym, ◌∙◌, arith}
use Rattle.std.specs.List.{AllByRecursion, slice_index_or, slice_set}
use Rattle.std.proofs.lemmas.Bool.Decides.{nat_tests}
use Rattle.std.proofs.lemmas.List.{append-nil, get_or-map, get_or-set_same, get_or-set_other, length-map, length-set, take_more}
use Rattle.market_events.specs.declared.links.Link.{Link}
use Rattle.market_events.specs.declared.nodes.TheConstants.{NODES}
use Rattle.market_events.specs.Links.{IsLink, same_link}
use Rattle.market_events.proofs.Values.Offers.{same_link-true}
use Rattle.market_laws.proofs.Bounds.LinkEnds.{sender-small, receiver-small}
use Rattle.market_links.specs.declared.slots.TheConstants.{SLOTS}
use Rattle.market_links.proofs.SlotLaws.{apart_into, apart_from, into_below, from_below}
use Rattle.market_history.specs.Histories.{Histories}
use Rattle.market_rings.specs.declared.fates.Fate.{Fate}
use Rattle.market_rings.specs.declared.fates.Way.{Way}
use Rattle.market_rings.specs.declared.fates.Way.TheVariants.{Carry, Ack}
use Rattle.market_rings.specs.Fates.{FatesLeft, fates_at, with_fates}
use Rattle.market_rounds.specs.declared.plan.Planned.{Planned}
use Rattle.market_rounds.specs.Between.{AreBetween}
use Rattle.market_rounds.specs.Nodes.{FatedNode, AreReady, at_node, node_by, fates_by, queue_by, idle_node, entries_of_node, histories_by, no_fates, with_fate, but_fates}
use Rattle.market_turns.specs.Queues.{IsOwnRequest}
use Rattle.market_rounds.proofs.NewNodes.{between_same}
use Rattle.market_rounds.specs.Plans.{same_way, end_of, slot_at_end, planned_on, HavePlan}

-- a list of fates for each slot
pub record HasSlots (fates : FatesLeft) : Type 0 where
  pub carry : length fates.carry ≡ SLOTS
  pub ack : length fates.ack ≡ SLOTS

same_way-true : (a b : Way) → same_way a b ≡ true → a ≡ b
same_way-true Carry Carry is = refl
same_way-true Ack Ack is = refl
same_way-true Carry Ack is = let no : ⊥ = cc in absurd no
same_way-true Ack Carry is = let no : ⊥ = cc in absurd no

-- links that are sent on from one node this way are one where their slots are
apart : (way : Way) (a b : Link) → IsLink a → IsLink b → end_of way a ≡ end_of way b → same_link a b ≡ (slot_at_end way a == slot_at_end way b)
apart Carry a b left right same = apart_from a b left right same
apart Ack a b left right same = apart_into a b left right same

pub slot_below : (way : Way) (link : Link) → IsLink link → slot_at_end way link < SLOTS
slot_below Carry link on = from_below link on
slot_below Ack link on = into_below link on

pub end_small : (way : Way) (link : Link) → IsLink link → end_of way link < NODES
end_small Carry link on = sender-small link on
end_small Ack link on = receiver-small link on

at_slot : (lists : List (List Fate)) (slot other : ℕ) (fates : List Fate) → slot < length lists → slice_index_or (slice_set lists slot fates) other [] ≡ (if slot == other then fates else slice_index_or lists other [])
at_slot lists slot other fates low = by_test (slot == other) refl
  where
    by_test : (b : Bool) → (slot == other) ≡ b → slice_index_or (slice_set lists slot fates) other [] ≡ (if b then fates else slice_index_or lists other [])
    by_test true test =
        let is : slot ≡ other = grind (arith, nat_tests) in
        subst (λ k. slice_index_or (slice_set lists slot fates) k [] ≡ fates) is (get_or-set_same lists slot fates [] low)
    by_test false test =
        let differs : other ≢ slot = grind (arith, nat_tests) in
        get_or-set_other lists slot other fates [] differs

-- the fates of one slot that are set
fates_set : (left : FatesLeft) (way other : Way) (slot place : ℕ) (fates : List Fate) → HasSlots left → slot < SLOTS
    → fates_at (with_fates left way slot fates) other place ≡ (if same_way way other && (slot == place) then fates else fates_at left other place)
fates_set left Carry Carry slot place fates has low = at_slot left.carry slot place fates (omega (arith, low, has.carry))
fates_set left Ack Ack slot place fates has low = at_slot left.ack slot place fates (omega (arith, low, has.ack))
fates_set left Carry Ack slot place fates has low = refl
fates_set left Ack Carry slot place fates has low = refl

slots_set : (left : FatesLeft) (way : Way) (slot : ℕ) (fates : List Fate) → HasSlots left → HasSlots (with_fates left way slot fates)
slots_set left Carry slot fates has = record { carry = length-set left.carry slot fates ∙ has.carry; ack = has.ack }
slots_set left Ack slot fates has = record { carry = has.carry; ack = length-set left.ack slot fates ∙ has.ack }

abbrev is_on : Link → Way → Planned → Bool
is_on link way p = same_link p.link link && same_way p.way way

-- one fate more of a plan
planned_more : (plan : List Planned) (p : Planned) (link : Link) (way : Way) → planned_on (plan ++ p ∷ []) link way ≡ planned_on plan link way ++ (if same_link p.link link && same_way p.way way then p.fate ∷ [] else [])
planned_more [] p link way = by_test (same_link p.link link && same_way p.way way)
  where
    by_test : (b : Bool) → map (λ (q : Planned). q.fate) (if b then p ∷ [] else []) ≡ (if b then p.fate ∷ [] else [])
    by_test true = refl
    by_test false = refl
planned_more (x ∷ xs) p link way = by_test (same_link x.link link && same_way x.way way) (planned_more xs p link way)
  where
    by_test : (b : Bool) → planned_on (xs ++ p ∷ []) link way ≡ planned_on xs link way ++ (if is_on link way p then p.fate ∷ [] else [])
        → map (λ (q : Planned). q.fate) (if b then x ∷ filter (is_on link way) (xs ++ p ∷ []) else filter (is_on link way) (xs ++ p ∷ []))
        ≡ map (λ (q : Planned). q.fate) (if b then x ∷ filter (is_on link way) xs else filter (is_on link way) xs) ++ (if is_on link way p then p.fate ∷ [] else [])
    by_test true rest = ap (λ l. x.fate ∷ l) rest
    by_test false rest = rest

-- the nodes were given the fates of a plan, and nothing else of them changed
pub record AreFated (plan : List Planned) (start nodes : List FatedNode) : Type 0 where
  pub many : length nodes ≡ NODES
  pub has : HavePlan plan nodes
  pub slots : (n : ℕ) → n < NODES → HasSlots (fates_by nodes n)
  pub only : map but_fates nodes ≡ map but_fates start

abbrev no_list : List Fate
no_list = []

no_fates_at : (n slot : ℕ) → slice_index_or (replicate n no_list) slot no_list ≡ no_list
no_fates_at zero slot = refl
no_fates_at (suc n) zero = refl
no_fates_at (suc n) (suc slot) = no_fates_at n slot

none_given : (way : Way) (slot : ℕ) → fates_at no_fates way slot ≡ []
none_given Carry slot = no_fates_at SLOTS slot
none_given Ack slot = no_fates_at SLOTS slot

twice : (nodes : List FatedNode) → map but_fates (map but_fates nodes) ≡ map but_fates nodes
twice [] = refl
twice (x ∷ xs) = ap (λ l. but_fates x ∷ l) (twice xs)

-- a fate's link is a link
pub all_at : (plan : List Planned) (i : ℕ) (d : Planned) → i < length plan → AllByRecursion (λ (p : Planned). IsLink p.link) plan → IsLink (slice_index_or plan i d).link
all_at [] i d low links = let no : ⊥ = omega (arith, low) in absurd no
all_at (p ∷ ps) zero d low links = links.0
all_at (p ∷ ps) (suc i) d low links = all_at ps i d (omega (arith, low)) links.1

-- none so far
pub fated_none : (start : List FatedNode) → length start ≡ NODES → AreFated [] start (map but_fates start)
fated_none start many = record {
  many = length-map start but_fates ∙ many;
  has = λ link way on. ap (λ f. fates_at f way (slot_at_end way link)) (fates (end_of way link) (end_small way link on)) ∙ none_given way (slot_at_end way link);
  slots = λ n low. subst HasSlots (sym (fates n low)) (record { carry = refl; ack = refl });
  only = twice start;
}
  where
    fates : (n : ℕ) → n < NODES → fates_by (map but_fates start) n ≡ no_fates
    fates n low = ap (λ (node : FatedNode). node.fates) (get_or-map but_fates start n (idle_node n) (idle_node n) (omega (arith, low, many)))

but_set : (nodes : List FatedNode) (n : ℕ) (node : FatedNode) (d : FatedNode) → but_fates node ≡ but_fates (slice_index_or nodes n d) → map but_fates (slice_set nodes n node) ≡ map but_fates nodes
but_set [] n node d same = refl
but_set (x ∷ xs) zero node d same = ap (λ y. y ∷ map but_fates xs) same
but_set (x ∷ xs) (suc n) node d same = ap (λ l. but_fates x ∷ l) (but_set xs n node d same)

-- the node that one fate more is given to, what was left there, and what it has then at the slot
abbrev node_given : List FatedNode → Planned → FatedNode
node_given nodes p = with_fate (at_node nodes (end_of p.way p.link)) p.way (slot_at_end p.way p.link) p.fate

abbrev left_at : List FatedNode → Planned → FatesLeft
left_at nodes p = fates_by nodes (end_of p.way p.link)

abbrev longer_at : List FatedNode → Planned → List Fate
longer_at nodes p = fates_at (left_at nodes p) p.way (slot_at_end p.way p.link) ++ p.fate ∷ []

-- and one more
pub fated_more : (plan : List Planned) (start nodes new : List FatedNode) (p : Planned) → AreFated plan start nodes → IsLink p.link
    → new ≡ slice_set nodes (end_of p.way p.link) (with_fate (at_node nodes (end_of p.way p.link)) p.way (slot_at_end p.way p.link) p.fate)
    → AreFated (plan ++ p ∷ []) start new
fated_more plan start nodes new p given on set = record {
  many = ap (λ (ns : List FatedNode). length ns) set ∙ length-set nodes n (node_given nodes p) ∙ given.many;
  has = λ link way also. by_node link way also (end_of p.way p.link == end_of way link) refl;
  slots = λ m low. slots_by m low (end_of p.way p.link == m) refl;
  only = ap (map but_fates) set ∙ but_set nodes n (node_given nodes p) (idle_node n) refl ∙ given.only;
}
  where
    n : ℕ
    n = end_of p.way p.link

    low : end_of p.way p.link < length nodes
    low = let small = end_small p.way p.link on in omega (arith, small, given.many)

    here : fates_by new (end_of p.way p.link) ≡ (node_given nodes p).fates
    here = ap (λ (ns : List FatedNode). fates_by ns (end_of p.way p.link)) set ∙ ap (λ (x : FatedNode). x.fates) (get_or-set_same nodes n (node_given nodes p) (idle_node n) low)

    other : (m : ℕ) → m ≢ end_of p.way p.link → fates_by new m ≡ fates_by nodes m
    other m differs = ap (λ (ns : List FatedNode). fates_by ns m) set ∙ ap (λ (x : FatedNode). x.fates) (get_or-set_other nodes n m (node_given nodes p) (idle_node m) differs)

    slots_by : (m : ℕ) → m < NODES → (b : Bool) → (end_of p.way p.link == m) ≡ b → HasSlots (fates_by new m)
    slots_by m small true test =
        let is : end_of p.way p.link ≡ m = grind (arith, nat_tests) in
        subst (λ k. HasSlots (fates_by new k)) is
        (subst HasSlots (sym here) (slots_set (fates_by nodes (end_of p.way p.link)) p.way (slot_at_end p.way p.link) _ (given.slots (end_of p.way p.link) (end_small p.way p.link on))))
    slots_by m small false test =
        let differs : m ≢ end_of p.way p.link = grind (arith, nat_tests) in
        subst HasSlots (sym (other m differs)) (given.slots m small)

    has : HasSlots (left_at nodes p)
    has = given.slots (end_of p.way p.link) (end_small p.way p.link on)

    -- what is at a slot of the node then
    then_at : (way : Way) (place : ℕ) → fates_at (fates_by new (end_of p.way p.link)) way place ≡ (if same_way p.way way && (slot_at_end p.way p.link == place) then longer_at nodes p else fates_at (left_at nodes p) way place)
    then_at way place =
        ap (λ f. fates_at f way place) here ∙ fates_set (left_at nodes p) p.way way (slot_at_end p.way p.link) place (longer_at nodes p) has (slot_below p.way p.link on)

    -- the fates that the plan has now
    planned_own : (link : Link) (way : Way) (b : Bool) → (same_link p.link link && same_way p.way way) ≡ b → planned_on (plan ++ p ∷ []) link way ≡ (if b then planned_on plan link way ++ p.fate ∷ [] else planned_on plan link way)
    planned_own link way true is = planned_more plan p link way ∙ ap (λ b. planned_on plan link way ++ (if b then p.fate ∷ [] else [])) is
    planned_own link way false is =
        planned_more plan p link way ∙ ap (λ b. planned_on plan link way ++ (if b then p.fate ∷ [] else [])) is ∙ append-nil (planned_on plan link way)

    and_none : (b : Bool) → (b && false) ≡ false
    and_none true = refl
    and_none false = refl

    same_self : (way : Way) → same_way way way ≡ true
    same_self Carry = refl
    same_self Ack = refl

    -- on the packet's own way
    at_own : (link : Link) → IsLink link → end_of p.way p.link ≡ end_of p.way link → fates_at (fates_by new (end_of p.way link)) p.way (slot_at_end p.way link) ≡ planned_on (plan ++ p ∷ []) link p.way
    at_own link also is = by_same (same_link p.link link) refl
      where
        by_same : (b : Bool) → same_link p.link link ≡ b → fates_at (fates_by new (end_of p.way link)) p.way (slot_at_end p.way link) ≡ planned_on (plan ++ p ∷ []) link p.way
        by_same true same =
            let it : p.link ≡ link = same_link-true p.link link same in
            let place : (slot_at_end p.way p.link == slot_at_end p.way p.link) ≡ true = grind (arith, nat_tests) in
            let test : (same_way p.way p.way && (slot_at_end p.way p.link == slot_at_end p.way p.link)) ≡ true = ap (λ b. b && (slot_at_end p.way p.link == slot_at_end p.way p.link)) (same_self p.way) ∙ place in
            let own : (same_link p.link p.link && same_way p.way p.way) ≡ true = ap (λ b. b && same_way p.way p.way) (subst (λ l. same_link p.link l ≡ true) (sym it) same) ∙ same_self p.way in
            subst (λ l. fates_at (fates_by new (end_of p.way l)) p.way (slot_at_end p.way l) ≡ planned_on (plan ++ p ∷ []) l p.way) it
            (then_at p.way (slot_at_end p.way p.link)
            ∙ ap (λ b. if b then longer_at nodes p else fates_at (left_at nodes p) p.way (slot_at_end p.way p.link)) test
            ∙ ap (λ l. l ++ p.fate ∷ []) (given.has p.link p.way on)
            ∙ sym (planned_own p.link p.way true own))
        by_same false differs =
            let place : (slot_at_end p.way p.link == slot_at_end p.way link) ≡ false = sym (apart p.way p.link link on also is) ∙ differs in
            let test : (same_way p.way p.way && (slot_at_end p.way p.link == slot_at_end p.way link)) ≡ false = ap (λ b. same_way p.way p.way && b) place ∙ and_none (same_way p.way p.way) in
            let own : (same_link p.link link && same_way p.way p.way) ≡ false = ap (λ b. b && same_way p.way p.way) differs in
            ap (λ k. fates_at (fates_by new k) p.way (slot_at_end p.way link)) (sym is)
            ∙ then_at p.way (slot_at_end p.way link)
            ∙ ap (λ b. if b then longer_at nodes p else fates_at (left_at nodes p) p.way (slot_at_end p.way link)) test
            ∙ ap (λ k. fates_at (fates_by nodes k) p.way (slot_at_end p.way link)) is
            ∙ given.has link p.way also
            ∙ sym (planned_own link p.way false own)

    by_node : (link : Link) (way : Way) → IsLink link → (b : Bool) → (end_of p.way p.link == end_of way link) ≡ b → fates_at (fates_by new (end_of way link)) way (slot_at_end way link) ≡ planned_on (plan ++ p ∷ []) link way
    by_node link way also true test = by_way (same_way p.way way) refl
      where
        is : end_of p.way p.link ≡ end_of way link
        is = grind (arith, nat_tests)

        by_way : (b : Bool) → same_way p.way way ≡ b → fates_at (fates_by new (end_of way link)) way (slot_at_end way link) ≡ planned_on (plan ++ p ∷ []) link way
        by_way true same =
            let it : p.way ≡ way = same_way-true p.way way same in
            subst (λ w. fates_at (fates_by new (end_of w link)) w (slot_at_end w link) ≡ planned_on (plan ++ p ∷ []) link w) it
            (at_own link also (is ∙ ap (λ w. end_of w link) (sym it)))
        by_way false differs =
            let own : (same_link p.link link && same_way p.way way) ≡ false = ap (λ b. same_link p.link link && b) differs ∙ and_none (same_link p.link link) in
            ap (λ k. fates_at (fates_by new k) way (slot_at_end way link)) (sym is)
            ∙ then_at way (slot_at_end way link)
            ∙ ap (λ b. if b && (slot_at_end p.way p.link == slot_at_end way link) then longer_at nodes p else fates_at (left_at nodes p) way (slot_at_end way link)) differs
            ∙ ap (λ k. fates_at (fates_by nodes k) way (slot_at_end way link)) is
            ∙ given.has link way also
            ∙ sym (planned_own link way false own)
    by_node link way also false test =
        let differs : end_of way link ≢ end_of p.way p.link = grind (arith, nat_tests) in
        ap (λ f. fates_at f way (slot_at_end way link)) (other (end_of way link) differs)
        ∙ given.has link way also
        ∙ sym (planned_own link way false (own_false (same_link p.link link) refl (same_way p.way way) refl))
      where
        own_false : (b : Bool) → same_link p.link link ≡ b → (c : Bool) → same_way p.way way ≡ c → (b && c) ≡ false
        own_false false one c two = refl
        own_false true one false two = refl
        own_false true one true two =
            let it : end_of p.way p.link ≡ end_of way link = ap (end_of p.way) (same_link-true p.link link one) ∙ ap (λ w. end_of w link) (same_way-true p.way way two) in
            let no : ⊥ = grind (arith, nat_tests) in
            absurd no

-- before the first fate
pub fated_start : (old groups new : List FatedNode) → groups ≡ old → length old ≡ NODES → new ≡ map but_fates groups → AreFated [] old new
fated_start old groups new same many dropped =
    subst (λ (ns : List FatedNode). AreFated [] old ns) (ap (map but_fates) (sym same) ∙ sym dropped) (fated_none old many)

-- the fate at this place is given to the node and slot that send on its link
pub fated_at : (plan : List Planned) (i : ℕ) (d : Planned) (start nodes new : List FatedNode) (n slot : ℕ)
    → n ≡ end_of (slice_index_or plan i d).way (slice_index_or plan i d).link → slot ≡ slot_at_end (slice_index_or plan i d).way (slice_index_or plan i d).link
    → i < length plan → AllByRecursion (λ (p : Planned). IsLink p.link) plan → AreFated (take i plan) start nodes
    → new ≡ slice_set nodes n (with_fate (at_node nodes n) (slice_index_or plan i d).way slot (slice_index_or plan i d).fate)
    → AreFated (take (i + 1) plan) start new
fated_at plan i d start nodes new n slot node place low links given set =
    subst (λ (ps : List Planned). AreFated ps start new) (sym (take_more plan i d low))
    (fated_more (take i plan) start nodes new (slice_index_or plan i d) given (all_at plan i d low links)
    (set ∙ ap (λ k. slice_set nodes k (with_fate (at_node nodes k) (slice_index_or plan i d).way slot (slice_index_or plan i d).fate)) node
    ∙ ap (λ s. slice_set nodes (end_of (slice_index_or plan i d).way (slice_index_or plan i d).link) (with_fate (at_node nodes (end_of (slice_index_or plan i d).way (slice_index_or plan i d).link)) (slice_index_or plan i d).way s (slice_index_or plan i d).fate)) place))

-- nodes that differ in their fates alone have the same queues and journals
fates_apart : (old new : List FatedNode) → length old ≡ NODES → map but_fates new ≡ map but_fates old → (n : ℕ) → n < NODES → but_fates (at_node old n) ≡ but_fates (at_node new n)
fates_apart old new many only n low =
    sym (get_or-map but_fates old n (idle_node n) (idle_node n) (omega (arith, low, many)))
    ∙ ap (λ (ns : List FatedNode). at_node ns n) (sym only)
    ∙ get_or-map but_fates new n (idle_node n) (idle_node n) (omega (arith, low, many_new))
  where
    many_new : length new ≡ NODES
    many_new = sym (length-map new but_fates) ∙ ap (λ (ns : List FatedNode). length ns) only ∙ length-map old but_fates ∙ many

pub same_queues : (old new : List FatedNode) → length old ≡ NODES → map but_fates new ≡ map but_fates old → (n : ℕ) → n < NODES → queue_by new n ≡ queue_by old n
same_queues old new many only n low = sym (ap (λ (x : FatedNode). x.queue) (fates_apart old new many only n low))

entries_but : (nodes : List FatedNode) → histories_by nodes ≡ map entries_of_node (map but_fates nodes)
entries_but [] = refl
entries_but (x ∷ xs) = ap (λ l. entries_of_node x ∷ l) (entries_but xs)

pub same_histories : (old new : List FatedNode) → map but_fates new ≡ map but_fates old → histories_by new ≡ histories_by old
same_histories old new only = entries_but new ∙ ap (map entries_of_node) only ∙ sym (entries_but old)

-- and are ready for the same
pub same_but_fates : (old new : List FatedNode) → length old ≡ NODES → map but_fates new ≡ map but_fates old → AreReady old → AreReady new
same_but_fates old new many only ready = record {
  many = sym (length-map new but_fates) ∙ ap (λ (ns : List FatedNode). length ns) only ∙ length-map old but_fates ∙ many;
  between = subst (λ (h : Histories). AreBetween h (node_by new)) (sym (same_histories old new only))
      (between_same (histories_by old) (node_by old) (node_by new) (λ n low. ap (λ (x : FatedNode). x.node) (fates_apart old new many only n low)) ready.between);
  own = λ n low. subst (AllByRecursion (IsOwnRequest n)) (ap (λ (x : FatedNode). x.queue) (fates_apart old new many only n low)) (ready.own n low);
}
