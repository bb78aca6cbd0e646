-- What one more request leaves of the baskets: the steps with it leave what the request leaves of the sums of the steps.
use Rattle.std.proofs.Common.{◌≡◌, ℕ, Bool, true, false, cond, ◌&&◌, ◌==◌, not, nat_le, List, [], ◌∷◌, ◌++◌, Option, Some, None, is_some, length, option_map, if◌then◌else◌, refl, ap, sym, ◌∙◌, eqb-true, arith}
use Rattle.std.specs.List.{list_any}
use Rattle.std.specs.BTreeMap.{insert_entry}
use Rattle.std.proofs.lemmas.Bool.Decides.{nat_tests}
use Rattle.market_amounts.specs.declared.keys.ProductKey.{ProductKey}
use Rattle.market_amounts.specs.declared.keys.RequestId.{RequestId}
use Rattle.market_events.specs.declared.bodies.Body.TheVariants as body
use Rattle.market_events.specs.declared.changes.Look.{Look}
use Rattle.market_events.specs.declared.changes.Look.TheVariants.{Unknown, Gone, Live}
use Rattle.market_events.specs.declared.replies.Reply.TheVariants as reply
use Rattle.market_events.specs.declared.replies.Rule.TheVariants as rule
use Rattle.market_events.specs.declared.replies.UndoneRule.TheVariants as undone
use Rattle.market_events.specs.declared.requests.Ask.{Ask}
use Rattle.market_events.specs.declared.requests.Ask.TheVariants as ask
use Rattle.market_events.specs.Carts.{Held, is_refusal, is_reserve, is_accepted, is_sent_on, basket_of, has_key, line_rows, remove_rows, checkout_rows, first_gone, cart_asked, cart_sums}
use Rattle.market_events.specs.Links.{cart_node}
use Rattle.market_events.specs.Requests.{same_key}
use Rattle.market_events.specs.Steps.{Step, Sending, key_cmp, told, refused}
use Rattle.market_events.specs.WellFormed.{most_lines}
use Rattle.market_events.proofs.Steps.Baskets.{basket_customer, basket_of-line, basket_of-remove, basket_of-checkout, basket_of-other_customer, basket_of-other}
use Rattle.market_events.proofs.Steps.Carts.{body_sets_basket}
use Rattle.market_events.proofs.Values.Lists.{or_parts, and_true, and_false}
use Rattle.market_events.proofs.Values.Same.{same_key-swap}
use Rattle.cart_service.specs.Tables.{lines_at, without, is_set, is_emptied, ChangesOnly, basket_left}

-- rows that tell no refusal, and rows that send a checkout on
abbrev accepts : List Sending → Bool
accepts made = not (list_any is_refusal made)

-- rows that send a checkout on
abbrev sends_on : List Sending → Bool
sends_on made = list_any is_reserve made

-- a line is accepted where it may be set
accepts-line : (id : RequestId) (key : ProductKey) (quantity : ℕ) (look : Look) (basket : List (ProductKey × Held)) → accepts (line_rows id key quantity look basket) ≡ is_set look basket key
accepts-line id key quantity Unknown basket = refl
accepts-line id key quantity (Gone v) basket = refl
accepts-line id key quantity (Live v price freight) basket = either (nat_le most_lines (length basket) && not (has_key basket key))
  where
    either : (b : Bool) → accepts (if b then refused cart_node id rule.CartFull else told cart_node id (reply.Line quantity) ∷ []) ≡ not b
    either true = refl
    either false = refl

-- a removal is accepted where there is a line
accepts-remove : (id : RequestId) (key : ProductKey) (basket : List (ProductKey × Held)) → accepts (remove_rows id key basket) ≡ has_key basket key
accepts-remove id key basket = either (has_key basket key)
  where
    either : (b : Bool) → accepts (if b then told cart_node id reply.Removed ∷ [] else refused cart_node id rule.NoLine) ≡ b
    either true = refl
    either false = refl

-- a checkout is sent on where nothing undoes it
sends_on-checkout : (id : RequestId) (customer : ℕ) (look : ProductKey → Look) (basket : List (ProductKey × Held))
    → sends_on (checkout_rows id customer look basket (first_gone look basket)) ≡ is_emptied look basket
sends_on-checkout id customer look [] = refl
sends_on-checkout id customer look (e ∷ es) = either (first_gone look (e ∷ es))
  where
    either : (o : Option ProductKey) → sends_on (checkout_rows id customer look (e ∷ es) o) ≡ not (is_some (option_map undone.Gone o))
    either None = refl
    either (Some key) = refl

-- where there is no line of the product, none is taken away
pub without-none : (key : ProductKey) (basket : List (ProductKey × Held)) → has_key basket key ≡ false → without key basket ≡ basket
without-none key [] none = refl
without-none key (e ∷ es) none =
    let both = or_parts (same_key e.0 key) (has_key es key) none in
    ap (λ b. cond (not b) (e ∷ without key es) (without key es)) (same_key-swap key e.0 ∙ both.0) ∙ ap (λ more. e ∷ more) (without-none key es both.1)

-- a removal of a line that is not there leaves all as it is
pub left_alone : (baskets : List (ℕ × List (ProductKey × Held))) (c : ℕ) (key : ProductKey) → has_key (lines_at baskets c) key ≡ false
    → ChangesOnly baskets baskets c (without key (lines_at baskets c))
left_alone baskets c key none customer = either (customer == c) refl
  where
    either : (b : Bool) → (customer == c) ≡ b → lines_at baskets customer ≡ (if b then without key (lines_at baskets c) else lines_at baskets customer)
    either true same = ap (lines_at baskets) (eqb-true customer c same) ∙ sym (without-none key (lines_at baskets c) none)
    either false other = refl

-- a test of two numbers may be turned round
pub swap_numbers : (a b : ℕ) → (a == b) ≡ (b == a)
swap_numbers a b = grind (arith, nat_tests)

-- the lines of each customer after a step whose request sets those of one
module _ (steps : List Step) (s : Step) (id : RequestId) (what : Ask) (is : s.body ≡ body.Asked (record { id = id; ask = what })) where
  none_set : body_sets_basket (body.Asked (record { id = id; ask = what })) (is_accepted s) (is_sent_on s) ≡ false → (customer : ℕ) → basket_of (steps ++ s ∷ []) customer ≡ basket_of steps customer
  none_set none customer = basket_of-other steps s (ap (λ b. body_sets_basket b (is_accepted s) (is_sent_on s)) is ∙ none) customer

  -- a request of one customer leaves the lines of the others
  one_set : (c : ℕ) (lines : List (ProductKey × Held)) → basket_customer what ≡ Some c → basket_of (steps ++ s ∷ []) c ≡ lines
      → (customer : ℕ) → basket_of (steps ++ s ∷ []) customer ≡ (if customer == c then lines else basket_of steps customer)
  one_set c lines who here customer = either (customer == c) refl
    where
      either : (b : Bool) → (customer == c) ≡ b → basket_of (steps ++ s ∷ []) customer ≡ (if b then lines else basket_of steps customer)
      either true same = ap (basket_of (steps ++ s ∷ [])) (eqb-true customer c same) ∙ here
      either false other = basket_of-other_customer steps s id what c customer is who (swap_numbers c customer ∙ other)

  -- where a test says whether the lines of the customer are set
  where_set : (c : ℕ) (lines : List (ProductKey × Held)) (test set : Bool) → basket_customer what ≡ Some c → set ≡ test
      → (set ≡ true → basket_of (steps ++ s ∷ []) c ≡ lines)
      → (set ≡ false → (customer : ℕ) → basket_of (steps ++ s ∷ []) customer ≡ basket_of steps customer)
      → (customer : ℕ) → basket_of (steps ++ s ∷ []) customer ≡ (if (customer == c) && test then lines else basket_of steps customer)
  where_set c lines true set who is_test here same customer = one_set c lines who (here is_test) customer ∙ ap (λ b. if b then lines else basket_of steps customer) (sym (and_true (customer == c)))
  where_set c lines false set who is_test here same customer = same is_test customer ∙ ap (λ b. if b then lines else basket_of steps customer) (sym (and_false (customer == c)))

-- baskets: what a request leaves, of which the cart made what it answers
pub basket_of-asked : (steps : List Step) (s : Step) (id : RequestId) (what : Ask) → s.body ≡ body.Asked (record { id = id; ask = what }) → s.made ≡ cart_asked (cart_sums steps) id what
    → (customer : ℕ) → basket_of (steps ++ s ∷ []) customer ≡ basket_left (cart_sums steps) what customer
basket_of-asked steps s id (ask.Line c key quantity voucher) is made customer =
    where_set steps s id (ask.Line c key quantity voucher) is c (insert_entry key_cmp (basket_of steps c) key (record { quantity = quantity; voucher = voucher }))
    (is_set ((cart_sums steps).look key) (basket_of steps c) key) (is_accepted s) refl
    (ap accepts made ∙ accepts-line id key quantity ((cart_sums steps).look key) (basket_of steps c))
    (basket_of-line steps s id c key quantity voucher is)
    (none_set steps s id (ask.Line c key quantity voucher) is) customer
basket_of-asked steps s id (ask.Remove c key) is made customer = either (has_key (basket_of steps c) key) (ap accepts made ∙ accepts-remove id key (basket_of steps c))
  where
    either : (b : Bool) → is_accepted s ≡ b → basket_of (steps ++ s ∷ []) customer ≡ (if customer == c then without key (basket_of steps c) else basket_of steps customer)
    either true accepted = one_set steps s id (ask.Remove c key) is c (without key (basket_of steps c)) refl (basket_of-remove steps s id c key is accepted) customer
    either false refused = one_set steps s id (ask.Remove c key) is c (without key (basket_of steps c)) refl
        (none_set steps s id (ask.Remove c key) is refused c ∙ sym (without-none key (basket_of steps c) (sym (ap accepts made ∙ accepts-remove id key (basket_of steps c)) ∙ refused))) customer
basket_of-asked steps s id (ask.Checkout c) is made customer =
    where_set steps s id (ask.Checkout c) is c [] (is_emptied (cart_sums steps).look (basket_of steps c)) (is_sent_on s) refl
    (ap sends_on made ∙ sends_on-checkout id c (cart_sums steps).look (basket_of steps c))
    (basket_of-checkout steps s id c is)
    (none_set steps s id (ask.Checkout c) is) customer
basket_of-asked steps s id (ask.Create key price freight) is made customer = none_set steps s id (ask.Create key price freight) is refl customer
basket_of-asked steps s id (ask.Price key price) is made customer = none_set steps s id (ask.Price key price) is refl customer
basket_of-asked steps s id (ask.Delete key) is made customer = none_set steps s id (ask.Delete key) is refl customer
basket_of-asked steps s id (ask.View key) is made customer = none_set steps s id (ask.View key) is refl customer
basket_of-asked steps s id (ask.Stock key pieces) is made customer = none_set steps s id (ask.Stock key pieces) is refl customer
basket_of-asked steps s id (ask.Level key) is made customer = none_set steps s id (ask.Level key) is refl customer
basket_of-asked steps s id (ask.Order checkout) is made customer = none_set steps s id (ask.Order checkout) is refl customer
basket_of-asked steps s id (ask.Card c limit) is made customer = none_set steps s id (ask.Card c limit) is refl customer
basket_of-asked steps s id ask.Deliver is made customer = none_set steps s id ask.Deliver is refl customer
basket_of-asked steps s id (ask.Customer c) is made customer = none_set steps s id (ask.Customer c) is refl customer
basket_of-asked steps s id (ask.Dashboard seller) is made customer = none_set steps s id (ask.Dashboard seller) is refl customer
