-- What the tables of the cart hold, and what a request leaves of them.
use Rattle.std.specs.Prelude.{◌≡◌, ℕ, Bool, ◌==◌, ◌&&◌, not, nat_le, List, [], ◌∷◌, Option, Some, is_some}
use Rattle.std.specs.Prelude.{length, filter, unwrap_or, option_map, if◌then◌else◌}
use Rattle.std.specs.BTreeMap.{insert_entry}
use Rattle.market_amounts.specs.declared.keys.ProductKey.{ProductKey}
use Rattle.market_events.specs.declared.changes.Look.{Look}
use Rattle.market_events.specs.declared.replies.UndoneRule.{UndoneRule}
use Rattle.market_events.specs.declared.replies.UndoneRule.TheVariants as undone
use Rattle.market_events.specs.declared.requests.Ask.{Ask}
use Rattle.market_events.specs.declared.requests.Ask.TheVariants as ask
use Rattle.market_events.specs.Carts.{Held, CartSums, has_key, first_gone}
use Rattle.market_events.specs.Looks.{is_live}
use Rattle.market_events.specs.Requests.{same_key}
use Rattle.market_events.specs.Steps.{key_cmp}
use Rattle.market_events.specs.WellFormed.{most_lines}
use Rattle.market_events.specs.Entries.{entry_at}
use Rattle.cart_replica.specs.Copy.{look_at}

-- the lines of a basket by rising key, and the baskets by rising customer
abbrev pub Lines : Type 0
Lines = List (ProductKey × Held)

-- the lines of each customer who has a basket, by rising customer
abbrev pub CustomerLines : Type 0
CustomerLines = List (ℕ × Lines)

-- the entries of the copy by rising key, and the baskets
pub record CartTables : Type 0 where
  pub copy : List (ProductKey × Look)
  pub baskets : CustomerLines

-- the lines of a customer, none where there is no basket
abbrev pub lines_at : CustomerLines → ℕ → Lines
lines_at baskets customer = unwrap_or (entry_at baskets customer) []

-- the lines of other products
abbrev pub without : ProductKey → Lines → Lines
without key basket = filter (λ (e : ProductKey × Held). not (same_key key e.0)) basket

-- the sums of the cart, as the tables have them
abbrev pub sums_at : List (ProductKey × Look) → CustomerLines → CartSums
sums_at copy baskets = record { look = look_at copy; basket = lines_at baskets }

-- why a checkout of the basket is undone at once
abbrev pub undone_by_basket : (ProductKey → Look) → Lines → Option UndoneRule
undone_by_basket look [] = Some undone.CartEmpty
undone_by_basket look (e ∷ es) = option_map undone.Gone (first_gone look (e ∷ es))

-- whether a line of the product is set: it is live, and the basket has a line of it or room for one
abbrev pub is_set : Look → Lines → ProductKey → Bool
is_set look basket key = is_live look && not (nat_le most_lines (length basket) && not (has_key basket key))

-- whether a checkout of the basket is sent on
abbrev pub is_emptied : (ProductKey → Look) → Lines → Bool
is_emptied look basket = not (is_some (undone_by_basket look basket))

-- what a request leaves of a customer's lines
abbrev pub basket_left : CartSums → Ask → ℕ → Lines
basket_left s (ask.Line c key quantity voucher) customer =
    if (customer == c) && is_set (s.look key) (s.basket c) key
    then insert_entry key_cmp (s.basket c) key (record { quantity = quantity; voucher = voucher })
    else s.basket customer
basket_left s (ask.Remove c key) customer =
    if customer == c then without key (s.basket c) else s.basket customer
basket_left s (ask.Checkout c) customer =
    if (customer == c) && is_emptied s.look (s.basket c) then [] else s.basket customer
basket_left s other customer = s.basket customer

-- only this customer's lines change, which become these
abbrev pub ChangesOnly : CustomerLines → CustomerLines → ℕ → Lines → Type 0
ChangesOnly old new customer lines =
    (c : ℕ) → lines_at new c ≡ (if c == customer then lines else lines_at old c)

-- each customer has the lines that the request leaves
abbrev pub AreLeft : List (ProductKey × Look) → CustomerLines → CustomerLines → Ask → Type 0
AreLeft copy old new what =
    (customer : ℕ) → lines_at new customer ≡ basket_left (sums_at copy old) what customer

-- each customer has the same lines
abbrev pub AreSame : CustomerLines → CustomerLines → Type 0
AreSame old new = (customer : ℕ) → lines_at new customer ≡ lines_at old customer
