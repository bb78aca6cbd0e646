-- The lines of a checkout that the cart sends on are well formed.
use Rattle.std.proofs.Common.{◌≡◌, ℕ, ◌≤◌, Bool, true, false, cond, ◌&&◌, ◌||◌, ◌==◌, not, T, List, [], ◌∷◌, Option, Some, None, filter_map, find, length, nat_le, nat_lt, suc, if◌then◌else◌, option_map, is_lt, Ordering, Less, Equal, Greater, nat_cmp, refl, ap, sym, ◌∙◌, arith, le-leb}
use Rattle.std.proofs.lemmas.Bool.Decides.{nat_tests}
use Rattle.std.specs.List.{list_all, cons_option}
use Rattle.std.specs.Ordering.{ordering_then}
use Rattle.std.specs.FinMap.Entries as entries
use Rattle.market_amounts.specs.declared.keys.ProductKey.{ProductKey}
use Rattle.market_events.specs.declared.bodies.Body.{Body}
use Rattle.market_events.specs.declared.bodies.Body.TheVariants as body
use Rattle.market_events.specs.declared.bodies.PricedLine.{PricedLine}
use Rattle.market_events.specs.declared.changes.Look.{Look}
use Rattle.market_events.specs.declared.changes.Look.TheVariants.{Unknown, Gone, Live}
use Rattle.market_events.specs.declared.requests.Ask.{Ask}
use Rattle.market_events.specs.declared.requests.Ask.TheVariants as ask
use Rattle.market_events.specs.Carts.{Held, changes_taken, asked_leaves, body_leaves, leaves, is_accepted, is_sent_on, joined, basket_at, basket_of, priced_by, priced, first_gone}
use Rattle.market_events.specs.Copies.{copy_of, last_some}
use Rattle.market_events.specs.Formed.{id_formed, cents_formed, quantity_formed, key_formed, request_id_formed, line_formed, lines_formed, ask_formed, body_formed}
use Rattle.market_events.specs.Looks.{is_live}
use Rattle.market_events.specs.Requests.{same_key}
use Rattle.market_events.specs.Services.{Role, IsRunOf}
use Rattle.market_events.specs.Steps.{Step, taken_bodies, key_cmp}
use Rattle.market_events.specs.WellFormed.{key_below, keys_rise, most_lines}
use Rattle.market_events.proofs.Steps.Baskets.{find-basket_of, is_sorted-basket_of}
use Rattle.market_events.proofs.Runs.Carts.{basket_of-few}
use Rattle.market_events.proofs.Values.Keys.{eq_by_key_cmp}
use Rattle.market_events.proofs.Values.Lists.{and_both}
use Rattle.market_events.proofs.Runs.Looks.{look_formed, last_some-passes, copy_taken-formed}
use Rattle.market_events.proofs.Values.Same.{same_key-true, same_key-self}
use Rattle.market_events.proofs.Steps.Taken.{taken_formed}

-- a pair of numbers is less by the first number, and then by the second
is_lt-pair : (a b x y : ℕ) → is_lt (ordering_then (nat_cmp a x) (nat_cmp b y)) ≡ (nat_lt a x || ((a == x) && nat_lt b y))
is_lt-pair a b x y = grind (arith, nat_tests)

-- a key is below another, where it compares less
pub is_lt-key_cmp : (a b : ProductKey) → is_lt (key_cmp a b) ≡ key_below a b
is_lt-key_cmp a b = is_lt-pair a.seller a.product b.seller b.product

-- a test that holds is true
from_T : (b : Bool) → T b → b ≡ true
from_T true h = refl
from_T false h = absurd h

-- the first of two tests that hold
first : (a b : Bool) → T (a && b) → T a
first true b h = tt
first false b h = h

-- the second of two tests that hold
second : (a b : Bool) → T (a && b) → T b
second true b h = h
second false b h = absurd h

-- lines all above a line, of which the keys rise
above_rise : (a : PricedLine) (lines : List PricedLine) → list_all (λ (l : PricedLine). key_below a.key l.key) lines ≡ true → keys_rise lines ≡ true → keys_rise (a ∷ lines) ≡ true
above_rise a [] all rise = refl
above_rise a (b ∷ more) all rise = rw ((and_both (key_below a.key b.key) (list_all (λ (l : PricedLine). key_below a.key l.key) more) all).0) rise

-- the priced lines of entries above a key are above it
priced_above : (look : ProductKey → Look) (key : ProductKey) (es : List (ProductKey × Held)) → T (entries.below_all key_cmp key es) → list_all (λ (l : PricedLine). key_below key l.key) (filter_map (priced look) es) ≡ true
priced_above look key [] below = refl
priced_above look key (e ∷ es) below =
    one (look e.0) (sym (is_lt-key_cmp key e.0) ∙ from_T (is_lt (key_cmp key e.0)) (first (is_lt (key_cmp key e.0)) (entries.below_all key_cmp key es) below))
    (priced_above look key es (second (is_lt (key_cmp key e.0)) (entries.below_all key_cmp key es) below))
  where
    one : (l : Look) → key_below key e.0 ≡ true → list_all (λ (l : PricedLine). key_below key l.key) (filter_map (priced look) es) ≡ true → list_all (λ (l : PricedLine). key_below key l.key) (cons_option (priced_by e.0 e.1 l) (filter_map (priced look) es)) ≡ true
    one Unknown here rest = rest
    one (Gone v) here rest = rest
    one (Live v price freight) here rest = rw here rest

-- the priced lines of a basket rise
pub priced-rise : (look : ProductKey → Look) (es : List (ProductKey × Held)) → T (entries.is_sorted key_cmp es) → keys_rise (filter_map (priced look) es) ≡ true
priced-rise look [] sorted = refl
priced-rise look (e ∷ es) sorted =
    one (look e.0) (priced_above look e.0 es (first (entries.below_all key_cmp e.0 es) (entries.is_sorted key_cmp es) sorted)) (priced-rise look es (second (entries.below_all key_cmp e.0 es) (entries.is_sorted key_cmp es) sorted))
  where
    one : (l : Look) → list_all (λ (l : PricedLine). key_below e.0 l.key) (filter_map (priced look) es) ≡ true → keys_rise (filter_map (priced look) es) ≡ true → keys_rise (cons_option (priced_by e.0 e.1 l) (filter_map (priced look) es)) ≡ true
    one Unknown above rise = rise
    one (Gone v) above rise = rise
    one (Live v price freight) above rise = above_rise (record { key = e.0; quantity = e.1.quantity; price = price; freight = freight; voucher = e.1.voucher }) (filter_map (priced look) es) above rise

-- where each product of the basket is live, each entry has a priced line
pub priced-length : (look : ProductKey → Look) (es : List (ProductKey × Held)) → first_gone look es ≡ None → length (filter_map (priced look) es) ≡ length es
priced-length look [] live = refl
priced-length look (e ∷ es) live = one (look e.0) live (λ more. priced-length look es more)
  where
    one : (l : Look) → option_map (λ (e : ProductKey × Held). e.0) (cond (not (is_live l)) (Some e) (find (λ (e : ProductKey × Held). not (is_live (look e.0))) es)) ≡ None → (first_gone look es ≡ None → length (filter_map (priced look) es) ≡ length es)
        → length (cons_option (priced_by e.0 e.1 l) (filter_map (priced look) es)) ≡ length (e ∷ es)
    one Unknown live rest = cc
    one (Gone v) live rest = cc
    one (Live v price freight) live rest = ap (λ n. suc n) (rest live)

-- what a basket holds of a product is well formed
abbrev pub is_held_formed : ProductKey → Held → Bool
is_held_formed key held = key_formed key && quantity_formed held.quantity && cents_formed held.voucher

-- what a step leaves of a product is well formed
abbrev is_left_formed : ProductKey → Option Held → Bool
is_left_formed key None = true
is_left_formed key (Some held) = is_held_formed key held

-- what a well-formed request leaves of a product is well formed
asked_formed : (customer : ℕ) (key : ProductKey) (what : Ask) (accepted sent : Bool) → ask_formed what ≡ true → (o : Option Held) → asked_leaves customer key what accepted sent ≡ Some o → is_left_formed key o ≡ true
asked_formed customer key (ask.Line c k quantity voucher) accepted sent formed o is = either (c == customer) (same_key k key) refl accepted is
  where
    held : is_held_formed k (record { quantity = quantity; voucher = voucher }) ≡ true
    held =
        let a = and_both (id_formed c && key_formed k && quantity_formed quantity) (cents_formed voucher) formed in
        let b = and_both (id_formed c && key_formed k) (quantity_formed quantity) a.0 in
        let d = and_both (id_formed c) (key_formed k) b.0 in
        rw (d.1, b.1, a.1)

    either : (a b : Bool) → same_key k key ≡ b → (d : Bool) → (if a && b && d then Some (Some (record { quantity = quantity; voucher = voucher })) else None) ≡ Some o → is_left_formed key o ≡ true
    either true true same true is =
        let at : Some (record { quantity = quantity; voucher = voucher }) ≡ o = cc in
        ap (is_left_formed key) (sym at) ∙ ap (λ key. is_held_formed key (record { quantity = quantity; voucher = voucher })) (sym (same_key-true k key same)) ∙ held
    either true true same false is = cc
    either true false same d is = cc
    either false b same d is = cc
asked_formed customer key (ask.Remove c k) accepted sent formed o is = either ((c == customer) && same_key k key && accepted) is
  where
    either : (b : Bool) → (if b then Some None else None) ≡ Some o → is_left_formed key o ≡ true
    either true is = let at : None ≡ o = cc in ap (is_left_formed key) (sym at)
    either false is = cc
asked_formed customer key (ask.Checkout c) accepted sent formed o is = either ((c == customer) && sent) is
  where
    either : (b : Bool) → (if b then Some None else None) ≡ Some o → is_left_formed key o ≡ true
    either true is = let at : None ≡ o = cc in ap (is_left_formed key) (sym at)
    either false is = cc
asked_formed customer key other accepted sent formed o is = cc

-- and so is what a well-formed body leaves
step_formed : (customer : ℕ) (key : ProductKey) (b : Body) (accepted sent : Bool) → body_formed b ≡ true → (o : Option Held) → body_leaves customer key b accepted sent ≡ Some o → is_left_formed key o ≡ true
step_formed customer key (body.Asked request) accepted sent formed o is = asked_formed customer key request.ask accepted sent (and_both (request_id_formed request.id) (ask_formed request.ask) formed).1 o is
step_formed customer key other accepted sent formed o is = cc

-- what a run leaves in a basket is well formed
pub basket_at-formed : (role : Role) (steps : List Step) → IsRunOf role steps → (customer : ℕ) (key : ProductKey) (held : Held) → basket_at steps customer key ≡ Some held → is_held_formed key held ≡ true
basket_at-formed role steps run customer key held is = either (last_some (leaves customer key) steps) refl is
  where
    as_steps : (steps : List Step) → list_all body_formed (taken_bodies steps) ≡ true → list_all (λ (s : Step). body_formed s.body) steps ≡ true
    as_steps [] all = refl
    as_steps (s ∷ steps) all =
        let both = and_both (body_formed s.body) (list_all body_formed (taken_bodies steps)) all in
        rw both.0 (as_steps steps both.1)

    either : (o : Option (Option Held)) → last_some (leaves customer key) steps ≡ o → joined o ≡ Some held → is_held_formed key held ≡ true
    either None found is = cc
    either (Some o) found is =
        ap (is_left_formed key) (sym is)
        ∙ last_some-passes (λ (s : Step). body_formed s.body) (is_left_formed key) (leaves customer key) (λ s formed o here. step_formed customer key s.body (is_accepted s) (is_sent_on s) formed o here) steps (as_steps steps (taken_formed role steps run)) o found

-- entries of rising keys, of which each that is found is well formed
entries_formed : (es : List (ProductKey × Held)) → T (entries.is_sorted key_cmp es) → ((key : ProductKey) (held : Held) → entries.find key_cmp key es ≡ Some held → is_held_formed key held ≡ true) → list_all (λ (e : ProductKey × Held). is_held_formed e.0 e.1) es ≡ true
entries_formed [] sorted each = refl
entries_formed (e ∷ es) sorted each =
    rw (each e.0 e.1 here) (entries_formed es (second (entries.below_all key_cmp e.0 es) (entries.is_sorted key_cmp es) sorted) (λ key held found. each key held (past key held found (same_key key e.0) refl)))
  where
    here : entries.find key_cmp e.0 (e ∷ es) ≡ Some e.1
    here = ap (λ b. cond b (Some e.1) (entries.find key_cmp e.0 es)) (eq_by_key_cmp e.0 e.0 ∙ same_key-self e.0)

    is_less : (o : Ordering) → is_lt o ≡ true → o ≡ Less
    is_less Less h = refl
    is_less Equal h = cc
    is_less Greater h = cc

    not_below : (key : ProductKey) (es : List (ProductKey × Held)) → T (entries.below_all key_cmp key es) → entries.find key_cmp key es ≡ None
    not_below key [] below = refl
    not_below key (d ∷ es) below =
        let less = is_less (key_cmp key d.0) (from_T (is_lt (key_cmp key d.0)) (first (is_lt (key_cmp key d.0)) (entries.below_all key_cmp key es) below)) in
        rw less (not_below key es (second (is_lt (key_cmp key d.0)) (entries.below_all key_cmp key es) below))

    past : (key : ProductKey) (held : Held) → entries.find key_cmp key es ≡ Some held → (b : Bool) → same_key key e.0 ≡ b → entries.find key_cmp key (e ∷ es) ≡ Some held
    past key held found true same =
        let none : entries.find key_cmp key es ≡ None = ap (λ k. entries.find key_cmp k es) (same_key-true key e.0 same) ∙ not_below e.0 es (first (entries.below_all key_cmp e.0 es) (entries.is_sorted key_cmp es) sorted) in
        cc
    past key held found false other = ap (λ b. cond b (Some e.1) (entries.find key_cmp key es)) (eq_by_key_cmp key e.0 ∙ other) ∙ found

-- what a basket holds after a run is well formed
pub basket_of-formed : (role : Role) (steps : List Step) → IsRunOf role steps → (customer : ℕ) → list_all (λ (e : ProductKey × Held). is_held_formed e.0 e.1) (basket_of steps customer) ≡ true
basket_of-formed role steps run customer =
    entries_formed (basket_of steps customer) (is_sorted-basket_of steps customer) (λ key held found. basket_at-formed role steps run customer key held (sym (find-basket_of steps customer key) ∙ found))

-- priced lines of well-formed entries and looks are well formed
priced_formed : (look : ProductKey → Look) → ((key : ProductKey) → look_formed (look key) ≡ true) → (es : List (ProductKey × Held)) → list_all (λ (e : ProductKey × Held). is_held_formed e.0 e.1) es ≡ true → list_all line_formed (filter_map (priced look) es) ≡ true
priced_formed look looks [] all = refl
priced_formed look looks (e ∷ es) all =
    let both = and_both (is_held_formed e.0 e.1) (list_all (λ (e : ProductKey × Held). is_held_formed e.0 e.1) es) all in
    one (look e.0) (looks e.0) both.0 (priced_formed look looks es both.1)
  where
    one : (l : Look) → look_formed l ≡ true → is_held_formed e.0 e.1 ≡ true → list_all line_formed (filter_map (priced look) es) ≡ true → list_all line_formed (cons_option (priced_by e.0 e.1 l) (filter_map (priced look) es)) ≡ true
    one Unknown formed held rest = rest
    one (Gone v) formed held rest = rest
    one (Live v price freight) formed held rest =
        let a = and_both (id_formed v && cents_formed price) (cents_formed freight) formed in
        let b = and_both (id_formed v) (cents_formed price) a.0 in
        let c = and_both (key_formed e.0 && quantity_formed e.1.quantity) (cents_formed e.1.voucher) held in
        let d = and_both (key_formed e.0) (quantity_formed e.1.quantity) c.0 in
        rw (d.0, d.1, b.1, a.1, c.1) rest

-- after a run of the cart, the lines of a checkout that is sent on are well formed: its basket is not empty, and each product is live
pub checkout-lines_formed : (steps : List Step) → IsRunOf Role.Cart steps → (customer : ℕ) → 1 ≤ length (basket_of steps customer) → first_gone (copy_of (changes_taken steps)) (basket_of steps customer) ≡ None
    → lines_formed (filter_map (priced (copy_of (changes_taken steps))) (basket_of steps customer)) ≡ true
checkout-lines_formed steps run customer some live =
    all_formed (filter_map (priced (copy_of (changes_taken steps))) (basket_of steps customer)) (priced-length (copy_of (changes_taken steps)) (basket_of steps customer) live)
    (priced_formed (copy_of (changes_taken steps)) (copy_taken-formed Role.Cart steps run) (basket_of steps customer) (basket_of-formed Role.Cart steps run customer))
    (priced-rise (copy_of (changes_taken steps)) (basket_of steps customer) (is_sorted-basket_of steps customer))
  where
    four : (a b c d : Bool) → a ≡ true → b ≡ true → c ≡ true → d ≡ true → (a && b && c && d) ≡ true
    four a b c d p q r s = rw (p, q, r, s)

    all_formed : (lines : List PricedLine) → length lines ≡ length (basket_of steps customer) → list_all line_formed lines ≡ true → keys_rise lines ≡ true → lines_formed lines ≡ true
    all_formed lines long formed rise =
        four (nat_le 1 (length lines)) (nat_le (length lines) most_lines) (list_all line_formed lines) (keys_rise lines)
        (le-leb 1 (length lines) (omega (arith, long, some))) (le-leb (length lines) most_lines (omega (arith, long, basket_of-few steps run customer))) formed rise
