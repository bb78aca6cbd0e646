-- Deliveries on a link of shipments: no item of one was delivered before (apart-before), and a checkout whose item is delivered
-- was shipped before (shipped-before).
use Rattle.std.proofs.Common.{◌≡◌, ℕ, ◌<◌, Bool, true, false, List, [], ◌∷◌, ◌++◌, Option, Some, None, filter, filter_map, if◌then◌else◌, inl, inr, refl, ap, sym, ◌∙◌, subst, arith}
use Rattle.std.specs.Prelude.{map}
use Rattle.std.specs.List.{flat_map, cons_option}
use Rattle.std.proofs.lemmas.Grind.{flat_map-append}
use Rattle.market_events.specs.declared.bodies.Body.{Body}
use Rattle.market_events.specs.declared.bodies.Body.TheVariants as body
use Rattle.market_events.specs.declared.bodies.Item.{Item}
use Rattle.market_events.specs.declared.events.Entry.{Entry}
use Rattle.market_events.specs.declared.events.Event.{Event}
use Rattle.market_events.specs.declared.events.What.{What}
use Rattle.market_events.specs.declared.events.What.TheVariants.{Given, Taken, Made, Answered}
use Rattle.market_events.specs.declared.links.Link.{Link}
use Rattle.market_events.specs.Links.{sender_of, same_link, shipment_node}
use Rattle.market_events.specs.Orders.{items_in, items_taken, ships, is_taken}
use Rattle.market_events.specs.declared.roles.Role.{Role}
use Rattle.market_events.specs.Services.{IsRunOf, items_apart}
use Rattle.market_events.specs.Steps.{Step, taken_bodies, made_on}
use Rattle.market_events.specs.declared.links.TheConstants.{SHIPMENT_TO_ORDER, SHIPMENT_TO_SELLER}
use Rattle.market_events.proofs.Values.Lists.{and_both}
use Rattle.market_events.proofs.Values.Offers.{same_link-same}
use Rattle.market_events.proofs.Values.Same.{same_id-self}
use Rattle.market_history.specs.Blocks.{services}
use Rattle.market_history.specs.Causality.{event_taken, events_taken}
use Rattle.market_history.specs.Histories.{Histories, journal_at}
use Rattle.market_history.specs.Lawful.{IsLawful}
use Rattle.market_history.specs.Sent.{got_on, got}
use Rattle.market_history.proofs.GrowSent.{bodies_on}
use Rattle.market_laws.specs.Cuts.{steps_at, TookAt, FitsBelow}
use Rattle.market_laws.specs.Runs.{Member, is_delivery, lines_apart}
use Rattle.market_laws.proofs.Origins.Cuts.{any_of_member}
use Rattle.market_laws.proofs.Origins.Made.{steps-run, whole, all-below}
use Rattle.market_laws.proofs.Origins.Senders.{sent-bodies-on}
use Rattle.market_laws.proofs.Fits.AloneOnLinks.{Alone}
use Rattle.market_laws.proofs.Runs.Apart.{apart-append, apart-items, items-once}
use Rattle.market_laws.proofs.Runs.Shipments.{deliveries-to-customer, shipments-to-seller}
use Rattle.market_laws.proofs.Views.Links.{gathered-got}

-- the items of deliveries alone
kept_items : (bs : List Body) → flat_map items_in (filter is_delivery bs) ≡ flat_map items_in bs
kept_items [] = refl
kept_items (b ∷ bs) = by b (kept_items bs)
  where
    by : (b : Body) → flat_map items_in (filter is_delivery bs) ≡ flat_map items_in bs → flat_map items_in (filter is_delivery (b ∷ bs)) ≡ flat_map items_in (b ∷ bs)
    by (body.Delivered items) rest = ap (λ l. items ++ l) rest
    by other rest = rest

-- shipments deliver no item twice on each of their links
pub items_once-order : (steps : List Step) → IsRunOf Role.Shipment steps → lines_apart [] (flat_map items_in (made_on SHIPMENT_TO_ORDER steps)) ≡ true
items_once-order steps run = ap (lines_apart []) (sym (ap (flat_map items_in) (deliveries-to-customer steps run) ∙ kept_items (made_on SHIPMENT_TO_ORDER steps))) ∙ items-once steps run

pub items_once-seller : (steps : List Step) → IsRunOf Role.Shipment steps → lines_apart [] (flat_map items_in (made_on SHIPMENT_TO_SELLER steps)) ≡ true
items_once-seller steps run = ap (λ bs. lines_apart [] (flat_map items_in bs)) (sym (shipments-to-seller steps run)) ∙ items_once-order steps run

-- the items of a delivery
abbrev delivery_in : Body → Option (List Item)
delivery_in (body.Delivered items) = Some items
delivery_in other = None

-- the items of bodies are those of the deliveries among them
gathered_items : (bs : List Body) → flat_map items_in bs ≡ flat_map (λ (items : List Item). items) (filter_map delivery_in bs)
gathered_items [] = refl
gathered_items (b ∷ bs) = by b (gathered_items bs)
  where
    by : (b : Body) → flat_map items_in bs ≡ flat_map (λ (items : List Item). items) (filter_map delivery_in bs)
        → flat_map items_in (b ∷ bs) ≡ flat_map (λ (items : List Item). items) (filter_map delivery_in (b ∷ bs))
    by (body.Delivered items) rest = ap (λ l. items ++ l) rest
    by other rest = rest

-- no delivery comes on another link
elsewhere : (other link : Link) (b : Body) → (is_delivery b ≡ true → other ≡ link) → same_link other link ≡ false → delivery_in b ≡ None
elsewhere other link (body.Delivered items) on differs =
    let same : same_link other link ≡ true = ap (λ l. same_link l link) (on refl) ∙ same_link-same link in cc
elsewhere other link b on differs = refl

-- what came on a link is among what was taken
pub got_taken : (link : Link) (b : Body) (j : List Entry) → Member b (map (λ (e : Event). e.body) (got link j)) → Member b (map (λ (e : Event). e.body) (events_taken j))
got_taken link b [] here = here
got_taken link b (x ∷ xs) here = by x.what here (λ more. got_taken link b xs more)
  where
    Rest : Type 0
    Rest = Member b (map (λ (e : Event). e.body) (got link xs)) → Member b (map (λ (e : Event). e.body) (events_taken xs))

    on : (event : Event) (test : Bool) → Member b (map (λ (e : Event). e.body) (cons_option (if test then Some event else None) (got link xs))) → Rest
        → Member b (map (λ (e : Event). e.body) (event ∷ events_taken xs))
    on event true (inl same) rest = inl same
    on event true (inr more) rest = inr (rest more)
    on event false more rest = inr (rest more)

    by : (what : What) → Member b (map (λ (e : Event). e.body) (cons_option (got_on link what) (got link xs))) → Rest
        → Member b (map (λ (e : Event). e.body) (cons_option (event_taken what) (events_taken xs)))
    by (Given request) here rest = rest here
    by (Taken event) here rest = on event (same_link event.link link) here rest
    by (Made event) here rest = rest here
    by (Answered id reply) here rest = rest here

module _ (h : Histories) (s : ℕ) (event : Event) (lawful : IsLawful h) (t : TookAt h s event) (link : Link) (on : event.link ≡ link) where
  -- what its sender made on its link: what came on it before, and then this event's body
  pub made-around : (n : ℕ) → n < services → sender_of link ≡ n
      → (rest : List Body) × (made_on link (steps_at n (journal_at h n)) ≡ map (λ (e : Event). e.body) (got link t.before) ++ event.body ∷ rest)
  made-around n lt leaves =
      let there = sent-bodies-on h lawful s event link t on in
      (there.0, sym (whole h lawful n lt link) ∙ ap (λ m. bodies_on link (journal_at h m)) (sym leaves) ∙ there.1)

  module _ (lt : s < services) (below : FitsBelow h t.clock) (leaves : sender_of link ≡ shipment_node) (items : List Item) (is : event.body ≡ body.Delivered items) where
    -- the items that the node took before are those that came on this link
    items_before : Alone s is_delivery link → items_taken (steps_at s t.before) ≡ flat_map items_in (map (λ (e : Event). e.body) (got link t.before))
    items_before alone =
        ap (flat_map items_in) (all-below h lawful s lt event t below)
        ∙ gathered_items (map (λ (e : Event). e.body) (events_taken t.before))
        ∙ ap (flat_map (λ (items : List Item). items))
        (gathered-got delivery_in s link t.grown (λ other b is into carried differs. elsewhere other link b (λ delivers. alone other b is into carried delivers) differs))
        ∙ sym (gathered_items (map (λ (e : Event). e.body) (got link t.before)))

    -- no item of a delivery was delivered before
    pub apart-before : ((steps : List Step) → IsRunOf Role.Shipment steps → lines_apart [] (flat_map items_in (made_on link steps)) ≡ true) → Alone s is_delivery link
        → items_apart (items_taken (steps_at s t.before)) items ≡ true
    apart-before once alone =
        let around = made-around shipment_node (omega arith) leaves in
        let first = map (λ (e : Event). e.body) (got link t.before) in
        let more = flat_map items_in around.0 in
        let parts : flat_map items_in (made_on link (steps_at shipment_node (journal_at h shipment_node))) ≡ flat_map items_in first ++ (items ++ more) =
        ap (flat_map items_in) around.1 ∙ flat_map-append items_in first (event.body ∷ around.0) ∙ ap (λ b. flat_map items_in first ++ (items_in b ++ more)) is in
        let all : lines_apart [] (flat_map items_in first ++ (items ++ more)) ≡ true =
        ap (lines_apart []) (sym parts) ∙ once (steps_at shipment_node (journal_at h shipment_node)) (steps-run shipment_node (journal_at h shipment_node)) in
        let after = and_both (lines_apart [] (flat_map items_in first)) (lines_apart (flat_map items_in first) (items ++ more)) (sym (apart-append [] (flat_map items_in first) (items ++ more)) ∙ all) in
        let here = and_both (lines_apart (flat_map items_in first) items) (lines_apart (flat_map items_in first ++ items) more) (sym (apart-append (flat_map items_in first) items more) ∙ after.1) in
        ap (λ l. items_apart l items) (items_before alone) ∙ apart-items (flat_map items_in first) items here.0

    -- a checkout of an item of a delivery was shipped before
    pub shipped-before : ((steps : List Step) → IsRunOf Role.Shipment steps → (xs ys : List Body) → made_on link steps ≡ xs ++ body.Delivered items ∷ ys → (item : Item) → Member item items → Member (body.Shipped item.checkout) xs)
        → (item : Item) → Member item items → is_taken ships (steps_at s t.before) item.checkout ≡ true
    shipped-before shipped item here =
        let around = made-around shipment_node (omega arith) leaves in
        let first = map (λ (e : Event). e.body) (got link t.before) in
        let came : Member (body.Shipped item.checkout) first =
        shipped (steps_at shipment_node (journal_at h shipment_node)) (steps-run shipment_node (journal_at h shipment_node)) first around.0 (around.1 ∙ ap (λ b. first ++ b ∷ around.0) is) item here in
        any_of_member (ships item.checkout) (body.Shipped item.checkout) (taken_bodies (steps_at s t.before))
        (subst (λ l. Member (body.Shipped item.checkout) l) (sym (all-below h lawful s lt event t below)) (got_taken link (body.Shipped item.checkout) t.before came)) (same_id-self item.checkout)
