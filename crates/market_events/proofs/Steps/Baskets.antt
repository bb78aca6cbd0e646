-- The basket of a customer as a list by rising key, and what one more step makes of it.
use Rattle.std.proofs.Common.{◌≡◌, ℕ, Bool, true, false, cond, ◌&&◌, ◌||◌, ◌==◌, not, T, List, [], ◌∷◌, ◌++◌, Option, Some, None, filter_map, fold, if◌then◌else◌, is_some, refl, ap, sym, ◌∙◌, eq-eqb}
use Rattle.std.specs.List.{list_any, cons_option}
use Rattle.std.specs.BTreeMap.{insert_entry}
use Rattle.std.specs.Option.{option_or}
use Rattle.std.specs.FinMap.Entries as entries
use Rattle.market_amounts.specs.declared.keys.ProductKey.{ProductKey}
use Rattle.market_amounts.specs.declared.keys.RequestId.{RequestId}
use Rattle.market_events.specs.declared.bodies.Body.{Body}
use Rattle.market_events.specs.declared.bodies.Body.TheVariants as body
use Rattle.market_events.specs.declared.requests.Ask.{Ask}
use Rattle.market_events.specs.declared.requests.Ask.TheVariants as ask
use Rattle.market_events.specs.Carts.{Held, is_accepted, is_sent_on, asked_leaves, body_leaves, leaves, joined, basket_at, line_key, key_lined, with_key, basket_of, has_key}
use Rattle.market_events.specs.Copies.{last_some}
use Rattle.market_events.specs.Requests.{same_key}
use Rattle.market_events.specs.Steps.{Step, taken_bodies, key_cmp}
use Rattle.market_events.proofs.Steps.Carts.{basket_at-push-same, basket_at-line, basket_at-remove, basket_at-checkout, basket_at-other, body_sets_basket}
use Rattle.market_events.proofs.Values.Keys.{eq_by_key_cmp, key_cmp-Equal, key_cmp_total, put-insert_entry}
use Rattle.market_events.proofs.Values.Same.{same_key-true, same_key-swap}
use Rattle.market_events.proofs.Values.Lists.{or_right}

-- the pairs, put in turn into these entries
abbrev pub put_all : List (ProductKey × Held) → List (ProductKey × Held) → List (ProductKey × Held)
put_all es pairs = fold (λ es p. entries.put key_cmp p.0 p.1 es) es pairs

-- pairs put into sorted entries leave them sorted
pub put_all-sorted : (es pairs : List (ProductKey × Held)) → T (entries.is_sorted key_cmp es) → T (entries.is_sorted key_cmp (put_all es pairs))
put_all-sorted es [] sorted = sorted
put_all-sorted es (p ∷ ps) sorted = put_all-sorted (entries.put key_cmp p.0 p.1 es) ps (entries.is_sorted-put key_cmp key_cmp_total p.0 p.1 es sorted)

-- of pairs whose values are given by their keys, the one of a key is found where the key is among them
pub put_all-find : (v : ProductKey → Option Held) (q : ProductKey) (keys : List ProductKey) (es : List (ProductKey × Held))
    → entries.find key_cmp q (put_all es (filter_map (λ key. with_key key (v key)) keys)) ≡ option_or (if list_any (same_key q) keys then v q else None) (entries.find key_cmp q es)
put_all-find v q [] es = refl
put_all-find v q (k ∷ keys) es = by_value (v k) refl (λ more. put_all-find v q keys more)
  where
    among : Bool
    among = list_any (same_key q) keys

    absent : v k ≡ None → (b : Bool) → same_key q k ≡ b → (a : Bool) → (if a then v q else None) ≡ (if b || a then v q else None)
    absent none true same true = refl
    absent none true same false = sym (ap v (same_key-true q k same) ∙ none)
    absent none false same a = refl

    present : (held : Held) → v k ≡ Some held → (b : Bool) → same_key q k ≡ b → (a : Bool) (o : Option Held) → option_or (if a then v q else None) (cond b (Some held) o) ≡ option_or (if b || a then v q else None) o
    present held is true same true o = ap (λ w. option_or w (Some held)) here ∙ sym (ap (λ w. option_or w o) here)
      where
        here : v q ≡ Some held
        here = ap v (same_key-true q k same) ∙ is
    present held is true same false o = sym (ap (λ w. option_or w o) (ap v (same_key-true q k same) ∙ is))
    present held is false same a o = refl

    by_value : (w : Option Held) → v k ≡ w → ((more : List (ProductKey × Held)) → entries.find key_cmp q (put_all more (filter_map (λ key. with_key key (v key)) keys)) ≡ option_or (if list_any (same_key q) keys then v q else None) (entries.find key_cmp q more))
        → entries.find key_cmp q (put_all es (cons_option (with_key k (v k)) (filter_map (λ key. with_key key (v key)) keys))) ≡ option_or (if same_key q k || list_any (same_key q) keys then v q else None) (entries.find key_cmp q es)
    by_value None is rest = ap (λ w. entries.find key_cmp q (put_all es (cons_option (with_key k w) (filter_map (λ key. with_key key (v key)) keys)))) is
        ∙ rest es ∙ ap (λ o. option_or o (entries.find key_cmp q es)) (absent is (same_key q k) refl (list_any (same_key q) keys))
    by_value (Some held) is rest = ap (λ w. entries.find key_cmp q (put_all es (cons_option (with_key k w) (filter_map (λ key. with_key key (v key)) keys)))) is
        ∙ rest (entries.put key_cmp k held es)
        ∙ ap (λ o. option_or (if list_any (same_key q) keys then v q else None) o) (entries.find-put key_cmp key_cmp_total q k held es ∙ ap (λ b. cond b (Some held) (entries.find key_cmp q es)) (eq_by_key_cmp q k))
        ∙ present held is (same_key q k) refl (list_any (same_key q) keys) (entries.find key_cmp q es)

-- a product that a request leaves in the basket was asked for
asked_lines : (customer : ℕ) (q : ProductKey) (what : Ask) (accepted sent : Bool) (held : Held) → asked_leaves customer q what accepted sent ≡ Some (Some held) → (keys : List ProductKey) → list_any (same_key q) (cons_option (line_key customer what) keys) ≡ true
asked_lines customer q (ask.Line c k quantity voucher) accepted sent held is keys = either (c == customer) (same_key k q) accepted is refl
  where
    either : (a b d : Bool) → (if a && b && d then Some (Some (record { quantity = quantity; voucher = voucher })) else None) ≡ Some (Some held) → same_key k q ≡ b → list_any (same_key q) (cons_option (if a then Some k else None) keys) ≡ true
    either true true d is same = rw (same_key-swap q k, same)
    either true false d is same = cc
    either false b d is same = cc
asked_lines customer q (ask.Remove c k) accepted sent held is keys = either ((c == customer) && same_key k q && accepted) is
  where
    either : (b : Bool) → (if b then Some None else None) ≡ Some (Some held) → list_any (same_key q) keys ≡ true
    either true is = cc
    either false is = cc
asked_lines customer q (ask.Checkout c) accepted sent held is keys = either ((c == customer) && sent) is
  where
    either : (b : Bool) → (if b then Some None else None) ≡ Some (Some held) → list_any (same_key q) keys ≡ true
    either true is = cc
    either false is = cc
asked_lines customer q other accepted sent held is keys = cc

-- and so was one that a body leaves
body_lines : (customer : ℕ) (q : ProductKey) (b : Body) (accepted sent : Bool) (held : Held) → body_leaves customer q b accepted sent ≡ Some (Some held) → (keys : List ProductKey) → list_any (same_key q) (cons_option (key_lined customer b) keys) ≡ true
body_lines customer q (body.Asked request) accepted sent held is keys = asked_lines customer q request.ask accepted sent held is keys
body_lines customer q other accepted sent held is keys = cc

-- a product that steps leave in the basket was asked for
steps_lined : (customer : ℕ) (q : ProductKey) (steps : List Step) (held : Held) → last_some (leaves customer q) steps ≡ Some (Some held) → list_any (same_key q) (filter_map (key_lined customer) (taken_bodies steps)) ≡ true
steps_lined customer q [] held is = cc
steps_lined customer q (s ∷ steps) held is = either (last_some (leaves customer q) steps) is (λ more. steps_lined customer q steps held more)
  where
    later : (o : Option ProductKey) → list_any (same_key q) (filter_map (key_lined customer) (taken_bodies steps)) ≡ true → list_any (same_key q) (cons_option o (filter_map (key_lined customer) (taken_bodies steps))) ≡ true
    later None any = any
    later (Some k) any = or_right (same_key q k) any

    either : (o : Option (Option Held)) → option_or o (leaves customer q s) ≡ Some (Some held) → (o ≡ Some (Some held) → list_any (same_key q) (filter_map (key_lined customer) (taken_bodies steps)) ≡ true)
        → list_any (same_key q) (cons_option (key_lined customer s.body) (filter_map (key_lined customer) (taken_bodies steps))) ≡ true
    either None is rest = body_lines customer q s.body (is_accepted s) (is_sent_on s) held is (filter_map (key_lined customer) (taken_bodies steps))
    either (Some o) is rest = later (key_lined customer s.body) (rest is)

-- the basket has of each product what the steps leave of it
pub find-basket_of : (steps : List Step) (customer : ℕ) (key : ProductKey) → entries.find key_cmp key (basket_of steps customer) ≡ basket_at steps customer key
find-basket_of steps customer key =
    put_all-find (λ k. basket_at steps customer k) key (filter_map (key_lined customer) (taken_bodies steps)) []
    ∙ either (list_any (same_key key) (filter_map (key_lined customer) (taken_bodies steps))) refl (last_some (leaves customer key) steps) refl
  where
    either : (b : Bool) → list_any (same_key key) (filter_map (key_lined customer) (taken_bodies steps)) ≡ b → (o : Option (Option Held)) → last_some (leaves customer key) steps ≡ o → option_or (if b then joined o else None) None ≡ joined o
    either true any None is = refl
    either true any (Some None) is = refl
    either true any (Some (Some held)) is = refl
    either false any None is = refl
    either false any (Some None) is = refl
    either false any (Some (Some held)) is = cc (steps_lined customer key steps held is)

-- the keys of the basket rise
pub is_sorted-basket_of : (steps : List Step) (customer : ℕ) → T (entries.is_sorted key_cmp (basket_of steps customer))
is_sorted-basket_of steps customer = put_all-sorted [] (filter_map (λ key. with_key key (basket_at steps customer key)) (filter_map (key_lined customer) (taken_bodies steps))) tt

-- entries of rising keys that have of each product what the steps leave of it are the basket
pub basket_of-is : (steps : List Step) (customer : ℕ) (es : List (ProductKey × Held)) → T (entries.is_sorted key_cmp es) → ((key : ProductKey) → entries.find key_cmp key es ≡ basket_at steps customer key) → es ≡ basket_of steps customer
basket_of-is steps customer es sorted has =
    entries.same_entries key_cmp key_cmp_total key_cmp-Equal es (basket_of steps customer) sorted (is_sorted-basket_of steps customer) (λ key. has key ∙ sym (find-basket_of steps customer key))

-- the basket of no product is empty
pub basket_of-none : (steps : List Step) (customer : ℕ) → ((key : ProductKey) → basket_at steps customer key ≡ None) → basket_of steps customer ≡ []
basket_of-none steps customer none = sym (basket_of-is steps customer [] tt (λ key. sym (none key)))

-- a step that leaves each product as it was leaves the basket
pub basket_of-same : (steps more : List Step) (customer : ℕ) → ((key : ProductKey) → basket_at more customer key ≡ basket_at steps customer key) → basket_of more customer ≡ basket_of steps customer
basket_of-same steps more customer same = sym (basket_of-is more customer (basket_of steps customer) (is_sorted-basket_of steps customer) (λ key. find-basket_of steps customer key ∙ sym (same key)))

-- basket: an accepted line puts the product into the customer's
pub basket_of-line : (steps : List Step) (s : Step) (id : RequestId) (c : ℕ) (k : ProductKey) (quantity voucher : ℕ) → s.body ≡ body.Asked (record { id = id; ask = ask.Line c k quantity voucher }) → is_accepted s ≡ true
    → basket_of (steps ++ s ∷ []) c ≡ insert_entry key_cmp (basket_of steps c) k (record { quantity = quantity; voucher = voucher })
basket_of-line steps s id c k quantity voucher is accepted = put_in (record { quantity = quantity; voucher = voucher }) (λ key. basket_at-line steps s id c k quantity voucher is accepted c key ∙ rw (eq-eqb c c refl))
  where
    put_in : (held : Held) → ((key : ProductKey) → basket_at (steps ++ s ∷ []) c key ≡ (if same_key k key then Some held else basket_at steps c key)) → basket_of (steps ++ s ∷ []) c ≡ insert_entry key_cmp (basket_of steps c) k held
    put_in held now =
        sym (basket_of-is (steps ++ s ∷ []) c (entries.put key_cmp k held (basket_of steps c)) (entries.is_sorted-put key_cmp key_cmp_total k held (basket_of steps c) (is_sorted-basket_of steps c)) (λ key.
        entries.find-put key_cmp key_cmp_total key k held (basket_of steps c)
        ∙ (rw (eq_by_key_cmp key k, same_key-swap key k, find-basket_of steps c key) (sym (now key)))))
        ∙ put-insert_entry key_cmp k held (basket_of steps c)

-- what is found where a key is left out
find-without : (k key : ProductKey) (es : List (ProductKey × Held)) → entries.find key_cmp key (entries.where_key key_cmp (λ x. not (same_key k x)) es) ≡ (if same_key k key then None else entries.find key_cmp key es)
find-without k key es =
    entries.find-where_key key_cmp (λ x. not (same_key k x)) key (λ x is. ap (λ y. not (same_key k y)) (sym (key_cmp-Equal key x is))) es
    ∙ turned (same_key k key) (entries.find key_cmp key es)
  where
    turned : (b : Bool) (o : Option Held) → (if not b then o else None) ≡ (if b then None else o)
    turned true o = refl
    turned false o = refl

-- basket: an accepted removal takes the product from the customer's
pub basket_of-remove : (steps : List Step) (s : Step) (id : RequestId) (c : ℕ) (k : ProductKey) → s.body ≡ body.Asked (record { id = id; ask = ask.Remove c k }) → is_accepted s ≡ true
    → basket_of (steps ++ s ∷ []) c ≡ entries.where_key key_cmp (λ x. not (same_key k x)) (basket_of steps c)
basket_of-remove steps s id c k is accepted =
    sym (basket_of-is (steps ++ s ∷ []) c (entries.where_key key_cmp (λ x. not (same_key k x)) (basket_of steps c)) (entries.is_sorted-where_key key_cmp (λ x. not (same_key k x)) (basket_of steps c) (is_sorted-basket_of steps c)) (λ key.
    find-without k key (basket_of steps c)
    ∙ (rw (find-basket_of steps c key) (sym (basket_at-remove steps s id c k is accepted c key ∙ rw (eq-eqb c c refl))))))

-- basket: a checkout that was sent on empties the customer's
pub basket_of-checkout : (steps : List Step) (s : Step) (id : RequestId) (c : ℕ) → s.body ≡ body.Asked (record { id = id; ask = ask.Checkout c }) → is_sent_on s ≡ true → basket_of (steps ++ s ∷ []) c ≡ []
basket_of-checkout steps s id c is sent = basket_of-none (steps ++ s ∷ []) c (λ key. basket_at-checkout steps s id c is sent c key ∙ rw (eq-eqb c c refl))

-- the customer whose basket a request sets
abbrev pub basket_customer : Ask → Option ℕ
basket_customer (ask.Line c k quantity voucher) = Some c
basket_customer (ask.Remove c k) = Some c
basket_customer (ask.Checkout c) = Some c
basket_customer other = None

-- basket: a line, a removal or a checkout of another customer
pub basket_of-other_customer : (steps : List Step) (s : Step) (id : RequestId) (what : Ask) (c customer : ℕ) → s.body ≡ body.Asked (record { id = id; ask = what }) → basket_customer what ≡ Some c → (c == customer) ≡ false → basket_of (steps ++ s ∷ []) customer ≡ basket_of steps customer
basket_of-other_customer steps s id what c customer is who other =
    basket_of-same steps (steps ++ s ∷ []) customer (λ key. basket_at-push-same steps s customer key (ap (λ b. body_leaves customer key b (is_accepted s) (is_sent_on s)) is ∙ asks_other what who key (is_accepted s) (is_sent_on s)))
  where
    one : (a b : ℕ) → Some a ≡ Some b → (b == customer) ≡ false → (a == customer) ≡ false
    one a b same other = let at : a ≡ b = cc in ap (λ n. n == customer) at ∙ other

    asks_other : (what : Ask) → basket_customer what ≡ Some c → (key : ProductKey) (accepted sent : Bool) → asked_leaves customer key what accepted sent ≡ None
    asks_other (ask.Line d k quantity voucher) who key accepted sent = rw (one d c who other)
    asks_other (ask.Remove d k) who key accepted sent = rw (one d c who other)
    asks_other (ask.Checkout d) who key accepted sent = rw (one d c who other)
    asks_other (ask.Create k price freight) who key accepted sent = refl
    asks_other (ask.Price k price) who key accepted sent = refl
    asks_other (ask.Delete k) who key accepted sent = refl
    asks_other (ask.View k) who key accepted sent = refl
    asks_other (ask.Stock k pieces) who key accepted sent = refl
    asks_other (ask.Level k) who key accepted sent = refl
    asks_other (ask.Order checkout) who key accepted sent = refl
    asks_other (ask.Card d limit) who key accepted sent = refl
    asks_other ask.Deliver who key accepted sent = refl
    asks_other (ask.Customer d) who key accepted sent = refl
    asks_other (ask.Dashboard seller) who key accepted sent = refl

-- basket: any other step
pub basket_of-other : (steps : List Step) (s : Step) → body_sets_basket s.body (is_accepted s) (is_sent_on s) ≡ false → (customer : ℕ) → basket_of (steps ++ s ∷ []) customer ≡ basket_of steps customer
basket_of-other steps s none customer = basket_of-same steps (steps ++ s ∷ []) customer (λ key. basket_at-other steps s none customer key)

-- the basket has a product that is in it
pub has_key-basket_at : (steps : List Step) (customer : ℕ) (key : ProductKey) → has_key (basket_of steps customer) key ≡ is_some (basket_at steps customer key)
has_key-basket_at steps customer key = among (basket_of steps customer) ∙ ap is_some (find-basket_of steps customer key)
  where
    either : (b : Bool) (held : Held) (o : Option Held) {c : Bool} → c ≡ is_some o → (b || c) ≡ is_some (cond b (Some held) o)
    either true held o rest = refl
    either false held o rest = rest

    among : (es : List (ProductKey × Held)) → has_key es key ≡ is_some (entries.find key_cmp key es)
    among [] = refl
    among (e ∷ es) = either (same_key e.0 key) e.1 (entries.find key_cmp key es) (among es) ∙ ap (λ b. is_some (cond b (Some e.1) (entries.find key_cmp key es))) (same_key-swap e.0 key ∙ sym (eq_by_key_cmp key e.0))
