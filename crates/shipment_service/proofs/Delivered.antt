-- Which packages are open after a delivery, package by package.
use Rattle.std.proofs.Common.{◌≡◌, ℕ, Bool, true, false, cond, ◌==◌, ◌&&◌, ◌||◌, List, [], ◌∷◌, ◌++◌, map, filter, take, ⊎_elim, refl, ap, sym, ◌∙◌, subst}
use Rattle.std.specs.List.{list_any}
use Rattle.std.proofs.lemmas.List.{take-map}
use Rattle.market_events.specs.declared.bodies.Item.{Item}
use Rattle.market_events.specs.Orders.{is_item_of}
use Rattle.market_events.specs.Requests.{same_id, same_key}
use Rattle.market_events.specs.Shipments.{firsts_after, oldest_of, delivered_of, most_sellers}
use Rattle.market_events.proofs.Values.Lists.{and_both, or_right}
use Rattle.market_events.proofs.Values.Same.{same_id-true, same_id-self, same_key-true, same_key-self}
use Rattle.market_events.proofs.Steps.Shipments.{goes_with}
use Rattle.shipment_service.specs.Deliveries.{heads_after, served_of, goes, taken_of}
use Rattle.shipment_service.specs.Tables.{of_seller}
use Rattle.shipment_service.proofs.Heads.{Among}

-- the packages without their numbers
abbrev pub items_of : List (ℕ × Item) → List Item
items_of ps = map (λ (p : ℕ × Item). p.1) ps

any-items : (test : Item → Bool) (ps : List (ℕ × Item)) → list_any (λ (p : ℕ × Item). test p.1) ps ≡ list_any test (items_of ps)
any-items test [] = refl
any-items test (p ∷ ps) = ap (λ b. test p.1 || b) (any-items test ps)

pub filter-items : (test : Item → Bool) (ps : List (ℕ × Item)) → items_of (filter (λ (p : ℕ × Item). test p.1) ps) ≡ filter test (items_of ps)
filter-items test [] = refl
filter-items test (p ∷ ps) = by (test p.1) (filter-items test ps)
  where
    by : (b : Bool) → items_of (filter (λ (p : ℕ × Item). test p.1) ps) ≡ filter test (items_of ps)
        → items_of (cond b (p ∷ filter (λ (p : ℕ × Item). test p.1) ps) (filter (λ (p : ℕ × Item). test p.1) ps)) ≡ cond b (p.1 ∷ filter test (items_of ps)) (filter test (items_of ps))
    by true rest = ap (λ is. p.1 ∷ is) rest
    by false rest = rest

items-push : (front : List (ℕ × Item)) (p : ℕ × Item) → items_of (front ++ p ∷ []) ≡ items_of front ++ p.1 ∷ []
items-push [] p = refl
items-push (q ∷ front) p = ap (λ is. q.1 ∷ is) (items-push front p)

-- the first packages of the sellers are those of the definition
heads-items : (front waiting : List (ℕ × Item)) → items_of (heads_after front waiting) ≡ firsts_after (items_of front) (items_of waiting)
heads-items front [] = refl
heads-items front (p ∷ ps) =
    by (list_any (of_seller p.1.key.seller) front) (heads-items (front ++ p ∷ []) ps ∙ ap (λ is. firsts_after is (items_of ps)) (items-push front p))
    ∙ ap (λ b. cond b (firsts_after (items_of front ++ p.1 ∷ []) (items_of ps)) (p.1 ∷ firsts_after (items_of front ++ p.1 ∷ []) (items_of ps))) (any-items (λ (q : Item). q.key.seller == p.1.key.seller) front)
  where
    by : (b : Bool) → items_of (heads_after (front ++ p ∷ []) ps) ≡ firsts_after (items_of front ++ p.1 ∷ []) (items_of ps)
        → items_of (cond b (heads_after (front ++ p ∷ []) ps) (p ∷ heads_after (front ++ p ∷ []) ps)) ≡ cond b (firsts_after (items_of front ++ p.1 ∷ []) (items_of ps)) (p.1 ∷ firsts_after (items_of front ++ p.1 ∷ []) (items_of ps))
    by true rest = rest
    by false rest = ap (λ is. p.1 ∷ is) rest

pub served-items : (waiting : List (ℕ × Item)) → items_of (served_of waiting) ≡ oldest_of (items_of waiting)
served-items waiting = sym (take-map (λ (p : ℕ × Item). p.1) most_sellers (heads_after [] waiting)) ∙ ap (take most_sellers) (heads-items [] waiting)

-- a package goes with the served ones as the definition says
pub goes-items : (waiting : List (ℕ × Item)) (p : ℕ × Item) → goes (served_of waiting) p ≡ goes_with (oldest_of (items_of waiting)) p.1
goes-items waiting p = any-items (λ (o : Item). (o.key.seller == p.1.key.seller) && same_id o.checkout p.1.checkout) (served_of waiting) ∙ ap (λ os. goes_with os p.1) (served-items waiting)

pub taken-items : (waiting : List (ℕ × Item)) → items_of (taken_of waiting) ≡ delivered_of (items_of waiting)
taken-items waiting =
    ap (λ (test : ℕ × Item → Bool). items_of (filter test waiting)) (λ i p. goes-items waiting p i)
    ∙ filter-items (goes_with (oldest_of (items_of waiting))) waiting

-- a package stands among those that a test keeps where it passes, and what is the same passes too
module _ (keep : Item → Bool) (alike : (p q : Item) → is_item_of p.checkout p.key q ≡ true → keep q ≡ keep p) where
  self : (p : Item) → is_item_of p.checkout p.key p ≡ true
  self p = rw (same_id-self p.checkout, same_key-self p.key)

  kept-none : (p : Item) → keep p ≡ false → (items : List Item) → list_any (is_item_of p.checkout p.key) (filter keep items) ≡ false
  kept-none p apart [] = refl
  kept-none p apart (q ∷ items) = by (keep q) refl (kept-none p apart items)
    where
      differs : (b : Bool) → is_item_of p.checkout p.key q ≡ b → keep q ≡ true → is_item_of p.checkout p.key q ≡ false
      differs true same goes = cc (alike p q same)
      differs false same goes = same

      by : (b : Bool) → keep q ≡ b → list_any (is_item_of p.checkout p.key) (filter keep items) ≡ false → list_any (is_item_of p.checkout p.key) (cond b (q ∷ filter keep items) (filter keep items)) ≡ false
      by true goes rest = rw (differs (is_item_of p.checkout p.key q) refl goes) rest
      by false goes rest = rest

  kept-some : (p : Item) → keep p ≡ true → (items : List Item) → Among p items → list_any (is_item_of p.checkout p.key) (filter keep items) ≡ true
  kept-some p goes [] among = absurd among
  kept-some p goes (q ∷ items) among = ⊎_elim here (λ later. more (keep q) (kept-some p goes items later)) among
    where
      here : p ≡ q → list_any (is_item_of p.checkout p.key) (filter keep (q ∷ items)) ≡ true
      here is = subst (λ q. list_any (is_item_of p.checkout p.key) (filter keep (q ∷ items)) ≡ true) is (rw (goes, self p) refl)

      more : (b : Bool) → list_any (is_item_of p.checkout p.key) (filter keep items) ≡ true → list_any (is_item_of p.checkout p.key) (cond b (q ∷ filter keep items) (filter keep items)) ≡ true
      more true rest = or_right (is_item_of p.checkout p.key q) rest
      more false rest = rest

  pub kept-any : (p : Item) (items : List Item) → Among p items → list_any (is_item_of p.checkout p.key) (filter keep items) ≡ keep p
  kept-any p items among = by (keep p) refl
    where
      by : (b : Bool) → keep p ≡ b → list_any (is_item_of p.checkout p.key) (filter keep items) ≡ keep p
      by true goes = kept-some p goes items among ∙ sym goes
      by false apart = kept-none p apart items ∙ sym apart

-- a package that waits is delivered where it goes with the oldest ones
pub delivered-any : (waiting : List Item) (p : Item) → Among p waiting → list_any (is_item_of p.checkout p.key) (delivered_of waiting) ≡ goes_with (oldest_of waiting) p
delivered-any waiting p among = kept-any (goes_with (oldest_of waiting)) alike p waiting among
  where
    alike : (p q : Item) → is_item_of p.checkout p.key q ≡ true → goes_with (oldest_of waiting) q ≡ goes_with (oldest_of waiting) p
    alike p q same =
        let both = and_both (same_id q.checkout p.checkout) (same_key q.key p.key) same in
        λ i. list_any (λ (o : Item). (o.key.seller == (same_key-true q.key p.key both.1 i).seller) && same_id o.checkout (same_id-true q.checkout p.checkout both.0 i)) (oldest_of waiting)
