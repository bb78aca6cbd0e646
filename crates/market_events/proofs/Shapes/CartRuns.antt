-- After a run, what the cart answers has the shape of answers.
use Rattle.std.proofs.Common.{◌≡◌, ℕ, Bool, true, false, cond, ◌==◌, not, List, [], ◌∷◌, fold, filter_map, find, Option, Some, None, IfSome, option_map, Ordering, Less, Equal, Greater}
use Rattle.std.specs.FinMap.Entries as entries
use Rattle.std.specs.List.{cons_option, AllByRecursion}
use Rattle.market_amounts.specs.declared.keys.ProductKey.{ProductKey}
use Rattle.market_events.specs.declared.bodies.Body.{Body}
use Rattle.market_events.specs.declared.bodies.Body.TheVariants as body
use Rattle.market_events.specs.declared.changes.Look.{Look}
use Rattle.market_events.specs.declared.changes.Look.TheVariants.{Unknown, Gone, Live}
use Rattle.market_events.specs.declared.replies.Reply.TheVariants as reply
use Rattle.market_events.specs.declared.requests.Ask.{Ask}
use Rattle.market_events.specs.declared.requests.Ask.TheVariants as ask
use Rattle.market_events.specs.AnswerShape.{AreAnswers}
use Rattle.market_events.specs.Carts.{Held, changes_taken, basket_at, line_key, key_lined, with_key, first_gone, priced, basket_of, cart_sums, cart_rows}
use Rattle.market_events.specs.Copies.{copy_of}
use Rattle.market_events.specs.Formed.{body_formed}
use Rattle.market_events.specs.Looks.{is_live}
use Rattle.market_events.specs.Services.{Role, IsRunOf}
use Rattle.market_events.specs.Steps.{Step, taken_bodies, key_cmp}
use Rattle.market_events.specs.WellFormed.{IsKey, IsAsk, IsBody}
use Rattle.market_events.proofs.Shapes.Cart.{IsLook, cart_answers}
use Rattle.market_events.proofs.Values.Formed.{each_of, body_decides, lines_decide, reply_decides}
use Rattle.market_events.proofs.Runs.CheckoutLines.{checkout-lines_formed}
use Rattle.market_events.proofs.Runs.Looks.{look_formed, copy_taken-formed}
use Rattle.market_events.proofs.Steps.Taken.{taken_formed}

-- what is there of each element
each-filter_map : {A B : Type 0} (P : A → Type 0) (Q : B → Type 0) (f : A → Option B) → ((x : A) → P x → IfSome (f x) Q) → (xs : List A) → AllByRecursion P xs → AllByRecursion Q (filter_map f xs)
each-filter_map P Q f gives [] all = tt
each-filter_map {B = B} P Q f gives (x ∷ xs) all = put (f x) (gives x all.0) (filter_map f xs) (each-filter_map P Q f gives xs all.1)
  where
    put : (o : Option B) → IfSome o Q → (rest : List B) → AllByRecursion Q rest → AllByRecursion Q (cons_option o rest)
    put (Some y) ok rest all = (ok, all)
    put None ok rest all = all

-- the entry's product is in range
abbrev HasKey : ProductKey × Held → Type 0
HasKey entry = IsKey entry.0

-- the product of a line that was asked for
line_ok : (customer : ℕ) (b : Body) → IsBody b → IfSome (key_lined customer b) IsKey
line_ok customer (body.Asked request) ok = by_ask request.ask ok.ask
  where
    by_ask : (a : Ask) → IsAsk a → IfSome (line_key customer a) IsKey
    by_ask (ask.Line c k quantity voucher) ok = either (c == customer)
      where
        either : (b : Bool) → IfSome (cond b (Some k) None) IsKey
        either true = ok.1
        either false = tt
    by_ask other ok = tt
line_ok customer other ok = tt

-- the entry of a product
pair_ok : (key : ProductKey) → IsKey key → (o : Option Held) → IfSome (with_key key o) HasKey
pair_ok key ok None = tt
pair_ok key ok (Some held) = ok

-- an entry that is put among others
put_ok : (key : ProductKey) (held : Held) → IsKey key → (es : List (ProductKey × Held)) → AllByRecursion HasKey es → AllByRecursion HasKey (entries.put key_cmp key held es)
put_ok key held ok [] all = (ok, tt)
put_ok key held ok (e ∷ es) all = by_order (key_cmp key e.0) (entries.put key_cmp key held es) (put_ok key held ok es all.1)
  where
    by_order : (o : Ordering) (rest : List (ProductKey × Held)) → AllByRecursion HasKey rest → AllByRecursion HasKey (entries.by_order o ((key, held) ∷ e ∷ es) ((e.0, held) ∷ es) (e ∷ rest))
    by_order Less rest more = (ok, all)
    by_order Equal rest more = all
    by_order Greater rest more = (all.0, more)

-- the entries of all products
listed_ok : (pairs es : List (ProductKey × Held)) → AllByRecursion HasKey pairs → AllByRecursion HasKey es → AllByRecursion HasKey (fold (λ es (p : ProductKey × Held). entries.put key_cmp p.0 p.1 es) es pairs)
listed_ok [] es all before = before
listed_ok (p ∷ pairs) es all before = listed_ok pairs (entries.put key_cmp p.0 p.1 es) all.1 (put_ok p.0 p.1 all.0 es before)

-- the products of a basket are in range
keys_ok : (steps : List Step) → IsRunOf Role.Cart steps → (customer : ℕ) → AllByRecursion HasKey (basket_of steps customer)
keys_ok steps run customer =
    listed_ok (filter_map (λ key. with_key key (basket_at steps customer key)) (filter_map (key_lined customer) (taken_bodies steps))) []
    (each-filter_map IsKey HasKey (λ key. with_key key (basket_at steps customer key)) (λ key ok. pair_ok key ok (basket_at steps customer key)) (filter_map (key_lined customer) (taken_bodies steps))
    (each-filter_map IsBody IsKey (key_lined customer) (line_ok customer) (taken_bodies steps) ((each_of body_formed IsBody body_decides (taken_bodies steps)).0 (taken_formed Role.Cart steps run))))
    tt

-- a product that is gone is one of the basket's
lacks_ok : (look : ProductKey → Look) (basket : List (ProductKey × Held)) → AllByRecursion HasKey basket → IfSome (first_gone look basket) IsKey
lacks_ok look [] each = tt
lacks_ok look (e ∷ es) each = either (not (is_live (look e.0))) (lacks_ok look es each.1)
  where
    either : (b : Bool) → IfSome (first_gone look es) IsKey → IfSome (option_map (λ (f : ProductKey × Held). f.0) (cond b (Some e) (find (λ (f : ProductKey × Held). not (is_live (look f.0))) es))) IsKey
    either true rest = each.0
    either false rest = rest

-- what passes the test of a look is in range
look_ok : (look : Look) → look_formed look ≡ true → IsLook look
look_ok Unknown ok = tt
look_ok (Gone v) ok = tt
look_ok (Live v price freight) ok = (reply_decides (reply.View v price freight)).0 ok

-- the cart: what its copy shows, and what its baskets check out
pub cart_shape : (steps : List Step) → IsRunOf Role.Cart steps → (b : Body) → IsBody b → AreAnswers Role.Cart b (cart_rows (cart_sums steps) b)
cart_shape steps run b ok =
    cart_answers (cart_sums steps) (λ key. look_ok (copy_of (changes_taken steps) key) (copy_taken-formed Role.Cart steps run key))
    (λ customer. record {
      lacks = lacks_ok (copy_of (changes_taken steps)) (basket_of steps customer) (keys_ok steps run customer);
      lines = λ some live. (lines_decide (filter_map (priced (copy_of (changes_taken steps))) (basket_of steps customer))).0 (checkout-lines_formed steps run customer some live);
    }) b ok
