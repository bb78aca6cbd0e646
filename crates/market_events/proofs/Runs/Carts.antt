-- What holds of the cart after a run: a basket has no more lines than it may have.
use Rattle.std.proofs.Common.{◌≡◌, ℕ, ◌+◌, ◌<◌, ◌≤◌, Bool, true, false, cond, ◌==◌, not, List, [], ◌∷◌, ◌++◌, Some, is_some, length, filter, nat_le, refl, ap, sym, subst, ◌∙◌, arith, eqb-true, leb-false}
use Rattle.std.specs.BTreeMap.{insert_entry}
use Rattle.std.specs.FinMap.Entries as entries
use Rattle.market_amounts.specs.declared.keys.ProductKey.{ProductKey}
use Rattle.market_amounts.specs.declared.keys.RequestId.{RequestId}
use Rattle.market_events.specs.declared.bodies.Body.{Body}
use Rattle.market_events.specs.declared.bodies.Body.TheVariants as body
use Rattle.market_events.specs.declared.changes.Look.{Look}
use Rattle.market_events.specs.declared.changes.Look.TheVariants.{Unknown, Gone, Live}
use Rattle.market_events.specs.declared.links.Link.{Link}
use Rattle.market_events.specs.declared.requests.Ask.{Ask}
use Rattle.market_events.specs.declared.requests.Ask.TheVariants as ask
use Rattle.market_events.specs.Carts.{Held, changes_taken, is_accepted, is_sent_on, basket_of, has_key, line_rows, cart_asked, cart_rows, cart_sums}
use Rattle.market_events.specs.Copies.{copy_of}
use Rattle.market_events.specs.Requests.{same_key}
use Rattle.market_events.specs.Services.{Role, Follows, IsRunOf, answers}
use Rattle.market_events.specs.Steps.{Step, key_cmp}
use Rattle.market_events.specs.WellFormed.{most_lines}
use Rattle.market_events.proofs.Steps.Carts.{body_sets_basket}
use Rattle.market_events.proofs.Steps.Baskets.{basket_customer, find-basket_of, is_sorted-basket_of, basket_of-line, basket_of-remove, basket_of-checkout, basket_of-other_customer, basket_of-other, has_key-basket_at}
use Rattle.market_events.proofs.Values.Keys.{key_cmp_total, put-insert_entry}
use Rattle.market_events.proofs.Steps.Taken.{run_has}

-- what the cart answers
pub answers-cart : (steps : List Step) (from : Link) (b : Body) → answers Role.Cart steps from b ≡ cart_rows (cart_sums steps) b
unfolding answers
answers-cart steps from b = refl

-- a product that is put into a basket with room, or that has it, leaves it with no more lines than it may have
length-put-few : (steps : List Step) (c : ℕ) (k : ProductKey) (held : Held) → (has_key (basket_of steps c) k ≡ false → length (basket_of steps c) < most_lines) → length (basket_of steps c) ≤ most_lines → length (insert_entry key_cmp (basket_of steps c) k held) ≤ most_lines
length-put-few steps c k held room few =
    rw (sym (put-insert_entry key_cmp k held (basket_of steps c)), entries.length-put key_cmp key_cmp_total k held (basket_of steps c) (is_sorted-basket_of steps c)) (either (is_some (entries.find key_cmp k (basket_of steps c))) has)
  where
    has : has_key (basket_of steps c) k ≡ is_some (entries.find key_cmp k (basket_of steps c))
    has = has_key-basket_at steps c k ∙ sym (ap is_some (find-basket_of steps c k))

    either : (b : Bool) → has_key (basket_of steps c) k ≡ b → cond b (length (basket_of steps c)) (length (basket_of steps c) + 1) ≤ most_lines
    either true is = few
    either false is = omega (arith, room is)

-- an accepted line of a product that the basket does not have found room
line_room : (s : Step) (id : RequestId) (k : ProductKey) (quantity : ℕ) (look : Look) (basket : List (ProductKey × Held)) → s.made ≡ line_rows id k quantity look basket → is_accepted s ≡ true → has_key basket k ≡ false → length basket < most_lines
line_room s id k quantity Unknown basket made accepted new = cc
line_room s id k quantity (Gone v) basket made accepted new = cc
line_room s id k quantity (Live v price freight) basket made accepted new = by_room (nat_le most_lines (length basket)) refl
  where
    by_room : (b : Bool) → nat_le most_lines (length basket) ≡ b → length basket < most_lines
    by_room true full = let now = rw (full, new) at made in cc
    by_room false full = leb-false most_lines (length basket) full

-- each basket has no more lines than it may have
abbrev pub AreFew : List Step → Type 0
AreFew steps = (customer : ℕ) → length (basket_of steps customer) ≤ most_lines

-- a step after which a customer's basket has few lines, and each other is as it was
one_set : (steps : List Step) (s : Step) (id : RequestId) (what : Ask) (c : ℕ) → s.body ≡ body.Asked (record { id = id; ask = what }) → basket_customer what ≡ Some c → length (basket_of (steps ++ s ∷ []) c) ≤ most_lines → AreFew steps → AreFew (steps ++ s ∷ [])
one_set steps s id what c is who here few customer = either (c == customer) refl
  where
    either : (b : Bool) → (c == customer) ≡ b → length (basket_of (steps ++ s ∷ []) customer) ≤ most_lines
    either true same = subst (λ n. length (basket_of (steps ++ s ∷ []) n) ≤ most_lines) (eqb-true c customer same) here
    either false other = rw (basket_of-other_customer steps s id what c customer is who other) (few customer)

-- a step that sets no basket
none_set : (steps : List Step) (s : Step) → body_sets_basket s.body (is_accepted s) (is_sent_on s) ≡ false → AreFew steps → AreFew (steps ++ s ∷ [])
none_set steps s none few customer = rw (basket_of-other steps s none customer) (few customer)

-- a filter leaves no more
length-filter-le : {A : Type 0} (keep : A → Bool) (xs : List A) → length (filter keep xs) ≤ length xs
length-filter-le keep [] = omega arith
length-filter-le keep (x ∷ xs) = either (keep x) (length-filter-le keep xs)
  where
    either : (b : Bool) → length (filter keep xs) ≤ length xs → length (cond b (x ∷ filter keep xs) (filter keep xs)) ≤ length (x ∷ xs)
    either true rest = omega (arith, rest)
    either false rest = omega (arith, rest)

-- a request keeps the baskets within their lines
asked : (steps : List Step) (s : Step) (id : RequestId) (what : Ask) → s.body ≡ body.Asked (record { id = id; ask = what }) → s.made ≡ cart_asked (cart_sums steps) id what → AreFew steps → AreFew (steps ++ s ∷ [])
asked steps s id (ask.Line c k quantity voucher) is made few = either (is_accepted s) refl
  where
    either : (b : Bool) → is_accepted s ≡ b → AreFew (steps ++ s ∷ [])
    either true accepted = one_set steps s id (ask.Line c k quantity voucher) c is refl
        (rw (basket_of-line steps s id c k quantity voucher is accepted) (length-put-few steps c k (record { quantity = quantity; voucher = voucher }) (line_room s id k quantity (copy_of (changes_taken steps) k) (basket_of steps c) made accepted) (few c))) few
    either false unaccepted = none_set steps s (ap (λ b. body_sets_basket b (is_accepted s) (is_sent_on s)) is ∙ unaccepted) few
asked steps s id (ask.Remove c k) is made few = either (is_accepted s) refl
  where
    either : (b : Bool) → is_accepted s ≡ b → AreFew (steps ++ s ∷ [])
    either true accepted = one_set steps s id (ask.Remove c k) c is refl
        (rw (basket_of-remove steps s id c k is accepted) (omega (arith, few c, length-filter-le (λ (e : ProductKey × Held). not (same_key k e.0)) (basket_of steps c)))) few
    either false unaccepted = none_set steps s (ap (λ b. body_sets_basket b (is_accepted s) (is_sent_on s)) is ∙ unaccepted) few
asked steps s id (ask.Checkout c) is made few = either (is_sent_on s) refl
  where
    either : (b : Bool) → is_sent_on s ≡ b → AreFew (steps ++ s ∷ [])
    either true sent = one_set steps s id (ask.Checkout c) c is refl (rw (basket_of-checkout steps s id c is sent) (omega arith)) few
    either false unsent = none_set steps s (ap (λ b. body_sets_basket b (is_accepted s) (is_sent_on s)) is ∙ unsent) few
asked steps s id other is made few = none_set steps s (ap (λ b. body_sets_basket b (is_accepted s) (is_sent_on s)) is) few

-- and so does each body
by_body : (steps : List Step) (s : Step) (b : Body) → s.body ≡ b → s.made ≡ cart_rows (cart_sums steps) b → AreFew steps → AreFew (steps ++ s ∷ [])
by_body steps s (body.Asked request) is made few = asked steps s request.id request.ask is made few
by_body steps s other is made few = none_set steps s (ap (λ b. body_sets_basket b (is_accepted s) (is_sent_on s)) is) few

-- a step that follows keeps it
pub AreFew-keeps : (steps : List Step) (s : Step) → Follows Role.Cart steps s → AreFew steps → AreFew (steps ++ s ∷ [])
AreFew-keeps steps s follows few = by_body steps s s.body refl (follows.made ∙ answers-cart steps s.from s.body) few

-- after a run of the cart, a basket has no more lines than it may have
pub basket_of-few : (steps : List Step) → IsRunOf Role.Cart steps → (customer : ℕ) → length (basket_of steps customer) ≤ most_lines
basket_of-few steps run = run_has Role.Cart AreFew AreFew-keeps (λ customer. omega arith) steps run
