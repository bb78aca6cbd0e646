-- Packages and deliveries of shipments after a run: no package occurs twice, and no line is delivered twice.
use Rattle.std.proofs.Common.{◌≡◌, ℕ, Bool, true, false, cond, ◌&&◌, not, ◌==◌, List, [], ◌∷◌, ◌++◌, length, filter, ◌⊎◌, inl, inr, refl, ap, sym, subst, ◌∙◌, append-nil, append_assoc}
use Rattle.std.specs.List.{list_any, flat_map}
use Rattle.market_amounts.specs.declared.keys.ProductKey.{ProductKey}
use Rattle.market_amounts.specs.declared.keys.RequestId.{RequestId}
use Rattle.market_events.specs.declared.bodies.Body.{Body}
use Rattle.market_events.specs.declared.bodies.Body.TheVariants as body
use Rattle.market_events.specs.declared.bodies.Item.{Item}
use Rattle.market_events.specs.declared.bodies.PricedLine.{PricedLine}
use Rattle.market_events.specs.declared.requests.Ask.{Ask}
use Rattle.market_events.specs.declared.requests.Ask.TheVariants as ask
use Rattle.market_events.specs.Formed.{checkout_formed, body_formed}
use Rattle.market_events.specs.Orders.{items_in, is_item_of, same_item, is_taken}
use Rattle.market_events.specs.Requests.{same_id, same_key}
use Rattle.market_events.specs.declared.roles.Role.{Role}
use Rattle.market_events.specs.Services.{Follows, IsRunOf, role_fits, items_apart}
use Rattle.market_events.specs.Shipments.{packages_in, packages, items_made, is_open, open_packages, oldest_of, delivered_of, shipment_asked, shipment_rows, shipment_sums}
use Rattle.market_events.specs.Steps.{Step}
use Rattle.market_events.specs.Stocks.{confirms}
use Rattle.market_events.specs.WellFormed.{key_below, keys_rise, total_of}
use Rattle.market_events.specs.declared.links.TheConstants.{SHIPMENT_TO_CUSTOMER}
use Rattle.market_events.proofs.Values.Lists.{and_both, and_from, and_false, or_parts, not_true, false_from, any_weaker, list_any-push}
use Rattle.market_events.proofs.Runs.Orders.{is_item_for}
use Rattle.market_events.proofs.Values.Same.{same_key-swap}
use Rattle.market_events.proofs.Steps.Shipments.{packages-push, items_of, items_made-push, answers-shipment, deliver_rows-items, goes_with}
use Rattle.market_events.proofs.Runs.Shipments.{ShipmentRun-of}
use Rattle.market_events.proofs.Steps.Taken.{fits-parts}
use Rattle.market_events.proofs.Runs.Stock.{key_below-apart, key_below-trans, lines_formed-rise, checkout_formed-lines}
use Rattle.market_laws.specs.Runs.{lines_apart}
use Rattle.market_laws.proofs.Runs.Counts.{on, run_with}

-- items and more of them
pub apart-append : (before xs ys : List Item) → lines_apart before (xs ++ ys) ≡ (lines_apart before xs && lines_apart (before ++ xs) ys)
apart-append before [] ys = ap (λ items. lines_apart items ys) (sym (append-nil before))
apart-append before (x ∷ xs) ys =
    ap (λ b. not (list_any (is_item_of x.checkout x.key) before) && b) (apart-append (before ++ x ∷ []) xs ys ∙ ap (λ items. lines_apart (before ++ x ∷ []) xs && lines_apart items ys) (append_assoc before (x ∷ []) xs))
    ∙ assoc (not (list_any (is_item_of x.checkout x.key) before)) (lines_apart (before ++ x ∷ []) xs) (lines_apart (before ++ x ∷ xs) ys)
  where
    assoc : (a b c : Bool) → (a && (b && c)) ≡ ((a && b) && c)
    assoc true b c = refl
    assoc false b c = refl

-- items of lines that are apart are apart
pub apart-items : (before items : List Item) → lines_apart before items ≡ true → items_apart before items ≡ true
apart-items before [] apart = refl
apart-items before (x ∷ xs) apart =
    let both = and_both (not (list_any (is_item_of x.checkout x.key) before)) (lines_apart (before ++ x ∷ []) xs) apart in
    and_from (not (list_any (same_item x) before)) (items_apart (before ++ x ∷ []) xs) (ap not (none (not_true (list_any (is_item_of x.checkout x.key) before) both.0))) (apart-items (before ++ x ∷ []) xs both.1)
  where
    none : list_any (is_item_of x.checkout x.key) before ≡ false → list_any (same_item x) before ≡ false
    none without = false_from (list_any (same_item x) before) (λ any. sym without ∙ any_weaker (same_item x) (is_item_of x.checkout x.key) (λ i same. (and_both (is_item_of x.checkout x.key i) (i.customer == x.customer) same).0) before any)

-- no item of the line stands in these
abbrev pub Without : List Item → Item → Type 0
Without items p = list_any (is_item_of p.checkout p.key) items ≡ false

-- items that are apart from those of one list, and are kept only where they are apart from those of another
pub apart-filter : (keep : Item → Bool) (before inner : List Item) → ((p : Item) → keep p ≡ true → Without before p → Without inner p) → (xs : List Item) → lines_apart before xs ≡ true → lines_apart inner (filter keep xs) ≡ true
apart-filter keep before inner within [] apart = refl
apart-filter keep before inner within (x ∷ xs) apart =
    let both = and_both (not (list_any (is_item_of x.checkout x.key) before)) (lines_apart (before ++ x ∷ []) xs) apart in
    either (keep x) refl (not_true (list_any (is_item_of x.checkout x.key) before) both.0)
    (apart-filter keep (before ++ x ∷ []) (inner ++ x ∷ []) (λ p kept front. let parts = last_parts p front in list_any-push (is_item_of p.checkout p.key) inner x ∙ rw (within p kept parts.0, parts.1)) xs both.1)
    (apart-filter keep (before ++ x ∷ []) inner (λ p kept front. within p kept (last_parts p front).0) xs both.1)
  where
    last_parts : (p : Item) → Without (before ++ x ∷ []) p → Without before p × (is_item_of p.checkout p.key x ≡ false)
    last_parts p none = or_parts (list_any (is_item_of p.checkout p.key) before) (is_item_of p.checkout p.key x) (sym (list_any-push (is_item_of p.checkout p.key) before x) ∙ none)

    either : (b : Bool) → keep x ≡ b → Without before x → lines_apart (inner ++ x ∷ []) (filter keep xs) ≡ true → lines_apart inner (filter keep xs) ≡ true → lines_apart inner (cond b (x ∷ filter keep xs) (filter keep xs)) ≡ true
    either true is here with_it without_it = and_from (not (list_any (is_item_of x.checkout x.key) inner)) (lines_apart (inner ++ x ∷ []) (filter keep xs)) (ap not (within x is here)) with_it
    either false is here with_it without_it = without_it

-- the packages of lines of rising keys occur once, where none of their keys occurred
packages-apart : (checkout : RequestId) (customer total : ℕ) (line : PricedLine) (more : List PricedLine) (front : List Item)
    → ((key : ProductKey) → (key ≡ line.key) ⊎ (key_below line.key key ≡ true) → list_any (is_item_of checkout key) front ≡ false) → keys_rise (line ∷ more) ≡ true
    → lines_apart front (packages_in (body.Confirmed checkout customer (line ∷ more) total)) ≡ true
packages-apart checkout customer total line [] front none rise = rw (none line.key (inl refl))
packages-apart checkout customer total line (next ∷ more) front none rise =
    let both = and_both (key_below line.key next.key) (keys_rise (next ∷ more)) rise in
    and_from (not (list_any (is_item_of checkout line.key) front)) (lines_apart (front ++ first ∷ []) (packages_in (body.Confirmed checkout customer (next ∷ more) total))) (ap not (none line.key (inl refl)))
    (packages-apart checkout customer total next more (front ++ first ∷ []) (λ key at. later key (elim at [ inl same ↦ subst (λ k. key_below line.key k ≡ true) (sym same) both.0 | inr above ↦ key_below-trans line.key next.key key both.0 above ])) both.1)
  where
    first : Item
    first = record { checkout = checkout; customer = customer; key = line.key }

    later : (key : ProductKey) → key_below line.key key ≡ true → list_any (is_item_of checkout key) (front ++ first ∷ []) ≡ false
    later key below =
        list_any-push (is_item_of checkout key) front first
        ∙ rw (none key (inr below), same_key-swap line.key key ∙ key_below-apart line.key key below) (and_false (same_id checkout checkout))

-- the packages of a well-formed payment are apart from those that are of no such checkout
pub paid-apart : (checkout : RequestId) (customer : ℕ) (lines : List PricedLine) (total : ℕ) (front : List Item) → list_any (is_item_for checkout) front ≡ false → keys_rise lines ≡ true → lines_apart front (packages_in (body.Confirmed checkout customer lines total)) ≡ true
paid-apart checkout customer [] total front none rise = refl
paid-apart checkout customer (line ∷ more) total front none rise = packages-apart checkout customer total line more front (λ key at. weaker key) rise
  where
    weaker : (key : ProductKey) → list_any (is_item_of checkout key) front ≡ false
    weaker key = false_from (list_any (is_item_of checkout key) front) (λ any. sym none ∙ any_weaker (is_item_of checkout key) (is_item_for checkout) (λ i both. (and_both (same_id i.checkout checkout) (same_key i.key key) both).0) front any)

-- one more part is apart from those before it, where it is apart from them
pub more-apart : (all before new : List Item) → all ≡ before ++ new → lines_apart [] before ≡ true → lines_apart before new ≡ true → lines_apart [] all ≡ true
more-apart all before new is apart more = ap (lines_apart []) is ∙ apart-append [] before new ∙ and_from (lines_apart [] before) (lines_apart before new) apart more

-- after a run, no package occurs twice
pub packages-once : (steps : List Step) → IsRunOf Role.Shipment steps → lines_apart [] (packages steps) ≡ true
packages-once steps run = run_with Role.Shipment (λ steps. lines_apart [] (packages steps) ≡ true) keeps refl steps run
  where
    new : (before : List Step) (b : Body) → IsRunOf Role.Shipment before → role_fits Role.Shipment before b ≡ true → body_formed b ≡ true → lines_apart (packages before) (packages_in b) ≡ true
    new before (body.Confirmed checkout customer lines total) run fit formed =
        let whole = and_both (checkout_formed checkout customer lines) (total == total_of lines) formed in
        paid-apart checkout customer lines total (packages before) ((ShipmentRun-of before run).unpacked checkout (not_true (is_taken confirms before checkout) fit)) (lines_formed-rise lines (checkout_formed-lines checkout customer lines whole.0))
    new before (body.Asked request) run fit formed = refl
    new before other run fit formed = cc

    keeps : (before : List Step) (s : Step) → IsRunOf Role.Shipment before → Follows Role.Shipment before s → lines_apart [] (packages before) ≡ true → lines_apart [] (packages (before ++ s ∷ [])) ≡ true
    keeps before s run follows apart =
        let parts = fits-parts Role.Shipment before s.from s.body follows.fit in
        more-apart (packages (before ++ s ∷ [])) (packages before) (packages_in s.body) (packages-push before s) apart (new before s.body run parts.due parts.formed)

-- what a delivery has is apart from what was delivered
pub delivered-apart : (before : List Step) → IsRunOf Role.Shipment before → lines_apart (items_made before) (delivered_of (open_packages before)) ≡ true
delivered-apart before run =
    apart-filter (goes_with (oldest_of (open_packages before))) (items_made before) (items_made before) (λ p kept here. here) (open_packages before)
    (apart-filter (is_open before) [] (items_made before) (λ p kept none. not_true (list_any (is_item_of p.checkout p.key) (items_made before)) kept) (packages before) (packages-once before run))

-- after a run, no line is delivered twice
pub items-once : (steps : List Step) → IsRunOf Role.Shipment steps → lines_apart [] (items_made steps) ≡ true
items-once steps run = run_with Role.Shipment (λ steps. lines_apart [] (items_made steps) ≡ true) keeps refl steps run
  where
    asked : (before : List Step) → IsRunOf Role.Shipment before → (id : RequestId) (a : Ask) → lines_apart (items_made before) (flat_map items_in (on SHIPMENT_TO_CUSTOMER (shipment_asked (shipment_sums before) id a))) ≡ true
    asked before run id ask.Deliver = ap (lines_apart (items_made before)) (deliver_rows-items id (delivered_of (open_packages before)) (length (oldest_of (open_packages before)))) ∙ delivered-apart before run
    asked before run id other = refl

    new : (before : List Step) (b : Body) → IsRunOf Role.Shipment before → lines_apart (items_made before) (flat_map items_in (on SHIPMENT_TO_CUSTOMER (shipment_rows (shipment_sums before) b))) ≡ true
    new before (body.Asked request) run = asked before run request.id request.ask
    new before other run = refl

    keeps : (before : List Step) (s : Step) → IsRunOf Role.Shipment before → Follows Role.Shipment before s → lines_apart [] (items_made before) ≡ true → lines_apart [] (items_made (before ++ s ∷ [])) ≡ true
    keeps before s run follows apart =
        more-apart (items_made (before ++ s ∷ [])) (items_made before) (items_of s) (items_made-push before s) apart
        (ap (λ made. lines_apart (items_made before) (flat_map items_in (on SHIPMENT_TO_CUSTOMER made))) (follows.made ∙ answers-shipment before s.from s.body) ∙ new before s.body run)
