-- The baskets are those of the acts of carts (baskets-book), also before histories are settled: what a step leaves of a product is
-- what its act leaves, and a basket has of each product what the acts leave of it (find-basket_by).
use Rattle.std.proofs.Common.{◌≡◌, ℕ, Bool, true, false, ◌==◌, ◌&&◌, T, List, [], ◌∷◌, Option, Some, None, filter_map, if◌then◌else◌, refl, ap, sym, ◌∙◌}
use Rattle.std.specs.FinMap.Entries as entries
use Rattle.std.specs.List.{list_any, cons_option}
use Rattle.std.specs.Option.{option_or}
use Rattle.market_amounts.specs.declared.keys.ProductKey.{ProductKey}
use Rattle.market_events.specs.declared.bodies.Body.{Body}
use Rattle.market_events.specs.declared.bodies.Body.TheVariants as body
use Rattle.market_events.specs.declared.requests.Ask.{Ask}
use Rattle.market_events.specs.declared.requests.Ask.TheVariants as ask
use Rattle.market_events.specs.Carts.{Held, asked_leaves, basket_of, body_leaves, is_accepted, is_sent_on, joined, leaves, with_key}
use Rattle.market_events.specs.Copies.{last_some}
use Rattle.market_events.specs.Requests.{same_key}
use Rattle.market_events.specs.Steps.{Step, key_cmp}
use Rattle.market_events.proofs.Steps.Baskets.{put_all-find, put_all-sorted, basket_of-is}
use Rattle.market_events.proofs.Values.Lists.{or_right}
use Rattle.market_events.proofs.Values.Same.{same_key-swap}
use Rattle.market_history.specs.Acts.{BasketAct, line_left, line_at, act_key, basket_by}
use Rattle.market_history.specs.Book.{basket_act_of, basket_act_in, basket_act}
use Rattle.market_laws.proofs.Views.Gathered.{last-gathered}

-- a product that an act leaves in a basket is among those of the acts
act_listed : (customer : ℕ) (q : ProductKey) (act : BasketAct) (held : Held) → line_left customer q act ≡ Some (Some held) → (keys : List ProductKey) → list_any (same_key q) (cons_option (act_key customer act) keys) ≡ true
act_listed customer q (BasketAct.Left c k left) held is keys = either (c == customer) (same_key k q) is refl
  where
    either : (a b : Bool) → (if a && b then Some left else None) ≡ Some (Some held) → same_key k q ≡ b → list_any (same_key q) (cons_option (if a then Some k else None) keys) ≡ true
    either true true is same = rw (same_key-swap q k, same)
    either true false is same = cc
    either false b is same = cc
act_listed customer q (BasketAct.Emptied c) held is keys = either (c == customer) is
  where
    either : (b : Bool) → (if b then Some None else None) ≡ Some (Some held) → list_any (same_key q) keys ≡ true
    either true is = cc
    either false is = cc

acts_listed : (customer : ℕ) (q : ProductKey) (acts : List BasketAct) (held : Held) → last_some (line_left customer q) acts ≡ Some (Some held) → list_any (same_key q) (filter_map (act_key customer) acts) ≡ true
acts_listed customer q [] held is = cc
acts_listed customer q (act ∷ more) held is = either (last_some (line_left customer q) more) is (λ later. acts_listed customer q more held later)
  where
    later : (o : Option ProductKey) → list_any (same_key q) (filter_map (act_key customer) more) ≡ true → list_any (same_key q) (cons_option o (filter_map (act_key customer) more)) ≡ true
    later None any = any
    later (Some k) any = or_right (same_key q k) any

    either : (o : Option (Option Held)) → option_or o (line_left customer q act) ≡ Some (Some held) → (o ≡ Some (Some held) → list_any (same_key q) (filter_map (act_key customer) more) ≡ true)
        → list_any (same_key q) (cons_option (act_key customer act) (filter_map (act_key customer) more)) ≡ true
    either None is rest = act_listed customer q act held is (filter_map (act_key customer) more)
    either (Some o) is rest = later (act_key customer act) (rest is)

-- the basket has of each product what the acts leave of it
pub find-basket_by : (acts : List BasketAct) (customer : ℕ) (key : ProductKey) → entries.find key_cmp key (basket_by acts customer) ≡ line_at acts customer key
find-basket_by acts customer key =
    put_all-find (λ k. line_at acts customer k) key (filter_map (act_key customer) acts) []
    ∙ either (list_any (same_key key) (filter_map (act_key customer) acts)) refl (last_some (line_left customer key) acts) refl
  where
    either : (b : Bool) → list_any (same_key key) (filter_map (act_key customer) acts) ≡ b → (o : Option (Option Held)) → last_some (line_left customer key) acts ≡ o → option_or (if b then joined o else None) None ≡ joined o
    either true any None is = refl
    either true any (Some None) is = refl
    either true any (Some (Some held)) is = refl
    either false any None is = refl
    either false any (Some None) is = refl
    either false any (Some (Some held)) is = cc (acts_listed customer key acts held is)

pub is_sorted-basket_by : (acts : List BasketAct) (customer : ℕ) → T (entries.is_sorted key_cmp (basket_by acts customer))
is_sorted-basket_by acts customer = put_all-sorted [] (filter_map (λ key. with_key key (line_at acts customer key)) (filter_map (act_key customer) acts)) tt

-- a step leaves what its act leaves
step-left : (customer : ℕ) (key : ProductKey) (steps : List Step) → last_some (leaves customer key) steps ≡ last_some (line_left customer key) (filter_map basket_act steps)
step-left customer key steps =
    last-gathered (leaves customer key) basket_act (line_left customer key) (λ s. each s.body (is_accepted s) (is_sent_on s)) steps
  where
    set : (own same accepted : Bool) (left : Option Held) (c : ℕ) (k : ProductKey) → (c == customer) ≡ own → same_key k key ≡ same
        → (if own && same && accepted then Some left else None) ≡ last_some (line_left customer key) (cons_option (if accepted then Some (BasketAct.Left c k left) else None) [])
    set own same false left c k is also = none (own && same)
      where
        none : (b : Bool) → (if b && false then Some left else None) ≡ None
        none true = refl
        none false = refl
    set own same true left c k is also = rw (is, also) (both (own && same))
      where
        both : (b : Bool) → (if b && true then Some left else None) ≡ (if b then Some left else None)
        both true = refl
        both false = refl

    emptied : (own sent : Bool) (c : ℕ) → (c == customer) ≡ own → ◌≡◌ {A = Option (Option Held)} (if own && sent then Some None else None) (last_some (line_left customer key) (cons_option (if sent then Some (BasketAct.Emptied c) else None) []))
    emptied true true c is = rw is refl
    emptied false true c is = rw is refl
    emptied true false c is = refl
    emptied false false c is = refl

    asked : (a : Ask) (accepted sent : Bool) → asked_leaves customer key a accepted sent ≡ last_some (line_left customer key) (cons_option (basket_act_of a accepted sent) [])
    asked (ask.Line c k quantity voucher) accepted sent = set (c == customer) (same_key k key) accepted (Some (record { quantity = quantity; voucher = voucher })) c k refl refl
    asked (ask.Remove c k) accepted sent = set (c == customer) (same_key k key) accepted None c k refl refl
    asked (ask.Checkout c) accepted sent = emptied (c == customer) sent c refl
    asked other accepted sent = refl

    each : (b : Body) (accepted sent : Bool) → body_leaves customer key b accepted sent ≡ last_some (line_left customer key) (cons_option (basket_act_in b accepted sent) [])
    each (body.Asked request) accepted sent = asked request.ask accepted sent
    each other accepted sent = refl

pub baskets-book : (steps : List Step) (customer : ℕ) → basket_of steps customer ≡ basket_by (filter_map basket_act steps) customer
baskets-book steps customer =
    let acts = filter_map basket_act steps in
    sym (basket_of-is steps customer (basket_by acts customer) (is_sorted-basket_by acts customer) (λ key. find-basket_by acts customer key ∙ sym (ap joined (step-left customer key steps))))
