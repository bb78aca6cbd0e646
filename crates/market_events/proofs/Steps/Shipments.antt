-- What one more step makes of packages: those of a paid checkout are added, and those of a delivery are no longer open.
use Rattle.std.proofs.Common.{◌≡◌, ℕ, Bool, true, false, cond, ◌&&◌, ◌==◌, not, List, [], ◌∷◌, ◌++◌, filter, filter_map, if◌then◌else◌, refl, ap, sym, ◌∙◌, append-nil}
use Rattle.std.specs.List.{list_any, flat_map}
use Rattle.std.proofs.lemmas.List.Concat.{flat_map-append}
use Rattle.market_amounts.specs.declared.keys.RequestId.{RequestId}
use Rattle.market_events.specs.declared.bodies.Body.{Body}
use Rattle.market_events.specs.declared.bodies.Item.{Item}
use Rattle.market_events.specs.declared.links.Link.{Link}
use Rattle.market_events.specs.Orders.{items_in, is_item_of}
use Rattle.market_events.specs.Requests.{same_id, same_key}
use Rattle.market_events.specs.Services.{Role, answers}
use Rattle.market_events.specs.Shipments.{packages_in, packages, items_made, oldest_of, delivered_of, deliver_rows, shipment_rows, shipment_sums}
use Rattle.market_events.specs.Steps.{Step, taken_bodies, body_on, made_on}
use Rattle.market_events.specs.declared.links.TheConstants.{SHIPMENT_TO_CUSTOMER}
use Rattle.market_events.proofs.Values.Same.{same_id-true, same_id-self, same_key-true, same_key-self}
use Rattle.market_events.proofs.Steps.Taken.{taken_bodies-push, made_on-push}
use Rattle.market_events.proofs.Values.Lists.{and_both, flat_map-push, or_right}

-- packages: those of the step's body stand last
pub packages-push : (steps : List Step) (s : Step) → packages (steps ++ s ∷ []) ≡ packages steps ++ packages_in s.body
packages-push steps s = ap (flat_map packages_in) (taken_bodies-push steps s) ∙ flat_map-push packages_in (taken_bodies steps) s.body

-- packages: a step whose body is no payment
pub packages-same : (steps : List Step) (s : Step) → packages_in s.body ≡ [] → packages (steps ++ s ∷ []) ≡ packages steps
packages-same steps s none = packages-push steps s ∙ rw none (append-nil (packages steps))

-- the items of the deliveries that a step made
abbrev pub items_of : Step → List Item
items_of s = flat_map items_in (filter_map (body_on SHIPMENT_TO_CUSTOMER) s.made)

-- items: those of the step's deliveries are made last
pub items_made-push : (steps : List Step) (s : Step) → items_made (steps ++ s ∷ []) ≡ items_made steps ++ items_of s
items_made-push steps s = ap (flat_map items_in) (made_on-push SHIPMENT_TO_CUSTOMER steps s) ∙ flat_map-append items_in (made_on SHIPMENT_TO_CUSTOMER steps) (filter_map (body_on SHIPMENT_TO_CUSTOMER) s.made)

-- items: a step that makes no delivery
pub items_made-same : (steps : List Step) (s : Step) → items_of s ≡ [] → items_made (steps ++ s ∷ []) ≡ items_made steps
items_made-same steps s none = items_made-push steps s ∙ rw none (append-nil (items_made steps))

-- the package stands in none of these items
abbrev pub is_apart_from : List Item → Item → Bool
is_apart_from items p = not (list_any (is_item_of p.checkout p.key) items)

-- what shipments answer
pub answers-shipment : (steps : List Step) (from : Link) (b : Body) → answers Role.Shipment steps from b ≡ shipment_rows (shipment_sums steps) b
unfolding answers
answers-shipment steps from b = refl

-- a delivery's items are those that it was made of
pub deliver_rows-items : (id : RequestId) (items : List Item) (sellers : ℕ) → flat_map items_in (filter_map (body_on SHIPMENT_TO_CUSTOMER) (deliver_rows id items sellers)) ≡ items
deliver_rows-items id [] sellers = refl
deliver_rows-items id (i ∷ more) sellers = append-nil (i ∷ more)

-- the seller and the checkout of the package are those of one of these
abbrev pub goes_with : List Item → Item → Bool
goes_with oldest p = list_any (λ (o : Item). (o.key.seller == p.key.seller) && same_id o.checkout p.checkout) oldest

-- what is open after a delivery is what does not go with an oldest package
pub undelivered : (waiting : List Item) → filter (is_apart_from (delivered_of waiting)) waiting ≡ filter (λ p. not (goes_with (oldest_of waiting) p)) waiting
undelivered waiting = among waiting (λ p any. any)
  where
    oldest : List Item
    oldest = oldest_of waiting

    -- an item that is the package goes with the same
    alike : (p q : Item) → is_item_of p.checkout p.key q ≡ true → goes_with (oldest_of waiting) q ≡ goes_with (oldest_of waiting) p
    alike p q same =
        let both = and_both (same_id q.checkout p.checkout) (same_key q.key p.key) same in
        λ i. list_any (λ (o : Item). (o.key.seller == (same_key-true q.key p.key both.1 i).seller) && same_id o.checkout (same_id-true q.checkout p.checkout both.0 i)) (oldest_of waiting)

    -- a package that goes with none stands in no delivery
    none_of : (p : Item) → goes_with (oldest_of waiting) p ≡ false → (items : List Item) → list_any (is_item_of p.checkout p.key) (filter (goes_with (oldest_of waiting)) items) ≡ false
    none_of p apart [] = refl
    none_of p apart (q ∷ items) = either (goes_with (oldest_of waiting) q) refl (none_of p apart items)
      where
        differs : (b : Bool) → is_item_of p.checkout p.key q ≡ b → goes_with (oldest_of waiting) q ≡ true → is_item_of p.checkout p.key q ≡ false
        differs true same goes = cc (alike p q same)
        differs false same goes = same

        either : (b : Bool) → goes_with (oldest_of waiting) q ≡ b → list_any (is_item_of p.checkout p.key) (filter (goes_with (oldest_of waiting)) items) ≡ false
            → list_any (is_item_of p.checkout p.key) (cond (goes_with (oldest_of waiting) q) (q ∷ filter (goes_with (oldest_of waiting)) items) (filter (goes_with (oldest_of waiting)) items)) ≡ false
        either true goes rest = rw (goes, differs (is_item_of p.checkout p.key q) refl goes) rest
        either false goes rest = rw goes rest

    both_tests : (p : Item) → (goes_with (oldest_of waiting) p ≡ true → list_any (is_item_of p.checkout p.key) (delivered_of waiting) ≡ true) → (b : Bool) → goes_with (oldest_of waiting) p ≡ b → is_apart_from (delivered_of waiting) p ≡ not (goes_with (oldest_of waiting) p)
    both_tests p found true goes = ap not (found goes ∙ sym goes)
    both_tests p found false apart = ap not (none_of p apart waiting ∙ sym apart)

    self : (p : Item) → is_item_of p.checkout p.key p ≡ true
    self p = rw (same_id-self p.checkout, same_key-self p.key)

    -- a package that is delivered stands among those that are
    found_at : (p : Item) (items : List Item) → goes_with (oldest_of waiting) p ≡ true → list_any (is_item_of p.checkout p.key) (filter (goes_with (oldest_of waiting)) (p ∷ items)) ≡ true
    found_at p items goes = rw (goes, self p)

    later : (p : Item) (b : Bool) (q : Item) (items : List Item) → list_any (is_item_of p.checkout p.key) items ≡ true → list_any (is_item_of p.checkout p.key) (if b then q ∷ items else items) ≡ true
    later p true q items any = or_right (is_item_of p.checkout p.key q) any
    later p false q items any = any

    among : (rest : List Item) → ((p : Item) → list_any (is_item_of p.checkout p.key) (filter (goes_with (oldest_of waiting)) rest) ≡ true → list_any (is_item_of p.checkout p.key) (delivered_of waiting) ≡ true)
        → filter (is_apart_from (delivered_of waiting)) rest ≡ filter (λ p. not (goes_with (oldest_of waiting) p)) rest
    among [] within = refl
    among (p ∷ rest) within =
        rw (both_tests p (λ goes. within p (found_at p rest goes)) (goes_with (oldest_of waiting) p) refl)
        (ap (λ ps. if not (goes_with (oldest_of waiting) p) then p ∷ ps else ps) (among rest (λ q any. within q (later q (goes_with (oldest_of waiting) p) p (filter (goes_with (oldest_of waiting)) rest) any))))
