-- Carts: what they answer, and how a change, a line and a checkout keep them in step with what was accepted.
use Rattle.std.proofs.Common.{◌≡◌, ℕ, ◌+◌, ◌<◌, Bool, true, false, ◌&&◌, ◌||◌, not, ◌==◌, List, [], ◌∷◌, ◌++◌, Option, Some, None, length, filter_map, if◌then◌else◌, refl, ap, sym, ◌∙◌}
use Rattle.std.specs.List.{list_any}
use Rattle.market_amounts.specs.declared.keys.ProductKey.{ProductKey}
use Rattle.market_amounts.specs.declared.keys.RequestId.{RequestId}
use Rattle.market_events.specs.declared.bodies.Body.{Body}
use Rattle.market_events.specs.declared.bodies.Body.TheVariants as body
use Rattle.market_events.specs.declared.bodies.Ending.{Ending}
use Rattle.market_events.specs.declared.bodies.PricedLine.{PricedLine}
use Rattle.market_events.specs.declared.bodies.StockRule.{StockRule}
use Rattle.market_events.specs.declared.changes.Change.{Change}
use Rattle.market_events.specs.declared.links.Link.{Link}
use Rattle.market_events.specs.declared.links.TheConstants.{PRODUCT_TO_CART, CART_TO_STOCK, STOCK_TO_CART}
use Rattle.market_events.specs.declared.links.TheConstants.{ORDER_TO_CART}
use Rattle.market_events.specs.declared.replies.Reply.TheVariants as reply
use Rattle.market_events.specs.declared.replies.UndoneRule.{UndoneRule}
use Rattle.market_events.specs.declared.requests.Ask.{Ask}
use Rattle.market_events.specs.declared.requests.Ask.TheVariants as ask
use Rattle.market_events.specs.Carts.{Held, CartSums, basket_at, basket_of, cart_sums, cart_asked, is_refusal, is_reserve, is_accepted, is_sent_on, undone_by_stock, reply_to_ending}
use Rattle.market_events.specs.Copies.{ProductChange, copy_of}
use Rattle.market_events.specs.Formed.{body_formed}
use Rattle.market_events.specs.Links.{cart_node}
use Rattle.market_events.specs.Products.{change_in}
use Rattle.market_events.specs.Requests.{same_id, same_key}
use Rattle.market_events.specs.declared.roles.Role.{Role}
use Rattle.market_events.specs.Services.{answers, fits, most_steps, change_fits, reserves, ends}
use Rattle.market_events.specs.Standing.{step_of, with_step}
use Rattle.market_events.specs.Steps.{Step, taken_bodies, body_on, made_on, told}
use Rattle.market_events.proofs.Steps.Baskets.{basket_of-is}
use Rattle.market_events.proofs.Steps.Carts.{basket_at-line, basket_at-remove, basket_at-checkout, basket_at-other, body_sets_basket}
use Rattle.market_events.proofs.Runs.Carts.{answers-cart}
use Rattle.market_events.proofs.Values.Lists.{and_from, or_true, or_false}
use Rattle.market_events.proofs.Values.Same.{same_id-self}
use Rattle.market_events.proofs.Steps.Taken.{changes_taken-same, changes_taken-push, any_made-push, any_taken-push}
use Rattle.market_history.specs.Acts.{Acts, BasketAct, line_at, basket_by, cart_table}
use Rattle.market_laws.proofs.Book.Baskets.{find-basket_by, is_sorted-basket_by}
use Rattle.market.specs.Agreeing.{CartsAgree}
use Rattle.market.specs.Carrying.{IsFresh, most_made}
use Rattle.market_history.specs.Sequential.{with_left}
use Rattle.market.proofs.Agreeing.Baskets.{line_at-left, line_at-emptied}
use Rattle.market.proofs.Carrying.Fresh.{fits_by, few_before, few_after_one, none_ended}

module _ (steps : List Step) (acts : Acts) (agree : CartsAgree steps acts) where
  basket_same : (customer : ℕ) → basket_of steps customer ≡ basket_by acts.baskets customer
  basket_same customer =
      sym (basket_of-is steps customer (basket_by acts.baskets customer) (is_sorted-basket_by acts.baskets customer)
      (λ key. find-basket_by acts.baskets customer key ∙ sym (agree.baskets customer key)))

  table_same : cart_sums steps ≡ cart_table acts
  table_same = λ i. of_both (agree.changes i) (λ customer. basket_same customer i)
    where
      of_both : List ProductChange → (ℕ → List (ProductKey × Held)) → CartSums
      of_both changes basket = record { look = copy_of changes; basket = basket }

  -- a request is answered by the table
  pub carts_answer : (from : Link) (id : RequestId) (what : Ask) → answers Role.Cart steps from (body.Asked (record { id = id; ask = what })) ≡ cart_asked (cart_table acts) id what
  carts_answer from id what = answers-cart steps from (body.Asked (record { id = id; ask = what })) ∙ ap (λ s. cart_asked s id what) table_same

  abbrev asked : Link → RequestId → Ask → Step
  asked from id what = step_of Role.Cart steps from (body.Asked (record { id = id; ask = what }))

  refusal_same : (from : Link) (id : RequestId) (what : Ask) → list_any is_refusal (asked from id what).made ≡ list_any is_refusal (cart_asked (cart_table acts) id what)
  refusal_same from id what = ap (list_any is_refusal) (carts_answer from id what)

  -- a line is set, or refused
  module _ (from : Link) (id : RequestId) (customer : ℕ) (k : ProductKey) (quantity voucher : ℕ) where
    abbrev line : Ask
    line = ask.Line customer k quantity voucher

    abbrev held : Option Held
    held = Some (record { quantity = quantity; voucher = voucher })

    line_left : (b : Bool) → list_any is_refusal (asked from id line).made ≡ b → (c : ℕ) (key : ProductKey)
        → basket_at (steps ++ asked from id line ∷ []) c key ≡ line_at (if b then acts.baskets else acts.baskets ++ BasketAct.Left customer k held ∷ []) c key
    line_left true refused c key = basket_at-other steps (asked from id line) (ap not refused) c key ∙ agree.baskets c key
    line_left false accepted c key =
        basket_at-line steps (asked from id line) id customer k quantity voucher refl (ap not accepted) c key
        ∙ ap (λ was. if (customer == c) && same_key k key then held else was) (agree.baskets c key) ∙ sym (line_at-left acts.baskets customer k held c key)

    pub carts_lined : CartsAgree (with_step Role.Cart steps from (body.Asked (record { id = id; ask = line }))) (with_left acts (BasketAct.Left customer k held) (cart_asked (cart_table acts) id line))
    carts_lined = record {
      changes = changes_taken-same steps (asked from id line) refl ∙ agree.changes;
      baskets = λ c key. line_left (list_any is_refusal (cart_asked (cart_table acts) id line)) (refusal_same from id line) c key;
    }

  -- a line is removed, or refused
  module _ (from : Link) (id : RequestId) (customer : ℕ) (k : ProductKey) where
    abbrev remove : Ask
    remove = ask.Remove customer k

    none_left : (b : Bool) → list_any is_refusal (asked from id remove).made ≡ b → (c : ℕ) (key : ProductKey)
        → basket_at (steps ++ asked from id remove ∷ []) c key ≡ line_at (if b then acts.baskets else acts.baskets ++ BasketAct.Left customer k None ∷ []) c key
    none_left true refused c key = basket_at-other steps (asked from id remove) (ap not refused) c key ∙ agree.baskets c key
    none_left false accepted c key =
        basket_at-remove steps (asked from id remove) id customer k refl (ap not accepted) c key
        ∙ ap (λ was. if (customer == c) && same_key k key then None else was) (agree.baskets c key) ∙ sym (line_at-left acts.baskets customer k None c key)

    pub carts_removed : CartsAgree (with_step Role.Cart steps from (body.Asked (record { id = id; ask = remove }))) (with_left acts (BasketAct.Left customer k None) (cart_asked (cart_table acts) id remove))
    carts_removed = record {
      changes = changes_taken-same steps (asked from id remove) refl ∙ agree.changes;
      baskets = λ c key. none_left (list_any is_refusal (cart_asked (cart_table acts) id remove)) (refusal_same from id remove) c key;
    }

  -- a view changes nothing
  pub carts_viewed : (from : Link) (id : RequestId) (key : ProductKey) → CartsAgree (with_step Role.Cart steps from (body.Asked (record { id = id; ask = ask.View key }))) acts
  carts_viewed from id key = record {
    changes = changes_taken-same steps (asked from id (ask.View key)) refl ∙ agree.changes;
    baskets = λ c k. basket_at-other steps (asked from id (ask.View key)) refl c k ∙ agree.baskets c k;
  }

  -- nor does a checkout that is answered at once
  pub carts_stopped : (from : Link) (id : RequestId) (customer : ℕ) (rule : UndoneRule) → answers Role.Cart steps from (body.Asked (record { id = id; ask = ask.Checkout customer })) ≡ told cart_node id (reply.Undone rule) ∷ []
      → CartsAgree (with_step Role.Cart steps from (body.Asked (record { id = id; ask = ask.Checkout customer }))) acts
  carts_stopped from id customer rule made = record {
    changes = changes_taken-same steps (asked from id (ask.Checkout customer)) refl ∙ agree.changes;
    baskets = λ c k. basket_at-other steps (asked from id (ask.Checkout customer)) (ap (list_any is_reserve) made) c k ∙ agree.baskets c k;
  }

  -- a change of a product
  module _ (key : ProductKey) (version : ℕ) (c : Change) (formed : body_formed (body.Changed key version c) ≡ true) (fit : change_fits (copy_of acts.changes key) version c ≡ true) (few : length steps + most_made < most_steps) where
    abbrev change_told : Body
    change_told = body.Changed key version c

    abbrev pub carts_told : List Step
    carts_told = with_step Role.Cart steps PRODUCT_TO_CART change_told

    pub cart_change_fits : fits Role.Cart steps PRODUCT_TO_CART change_told ≡ true
    cart_change_fits = fits_by Role.Cart steps PRODUCT_TO_CART change_told (few_before steps few) formed refl refl (ap (λ changes. change_fits (copy_of changes key) version c) agree.changes ∙ fit)

    pub cart_change_made : answers Role.Cart steps PRODUCT_TO_CART change_told ≡ []
    cart_change_made = answers-cart steps PRODUCT_TO_CART change_told

    pub carts_changed : (after : Acts) → after.changes ≡ acts.changes ++ record { key = key; version = version; change = c } ∷ [] → after.baskets ≡ acts.baskets → CartsAgree carts_told after
    carts_changed after changes baskets =
        let s = step_of Role.Cart steps PRODUCT_TO_CART change_told in
        record {
          changes = changes_taken-push steps s ∙ ap (λ cs. cs ++ record { key = key; version = version; change = c } ∷ []) agree.changes ∙ sym changes;
          baskets = λ customer k. basket_at-other steps s refl customer k ∙ agree.baskets customer k ∙ ap (λ acts. line_at acts customer k) (sym baskets);
        }

-- a checkout that is sent on
module _ (steps : List Step) (acts : Acts) (agree : CartsAgree steps acts) (from : Link) (id : RequestId) (customer : ℕ) (lines : List PricedLine) (fresh : IsFresh steps id) (few : length steps + most_made < most_steps)
    (made : answers Role.Cart steps from (body.Asked (record { id = id; ask = ask.Checkout customer })) ≡ (CART_TO_STOCK, body.Reserve id customer lines) ∷ []) where
  abbrev pub carts_sent : List Step
  carts_sent = with_step Role.Cart steps from (body.Asked (record { id = id; ask = ask.Checkout customer }))

  abbrev first : Step
  first = step_of Role.Cart steps from (body.Asked (record { id = id; ask = ask.Checkout customer }))

  sent : list_any (reserves id) (made_on CART_TO_STOCK carts_sent) ≡ true
  sent = any_made-push (reserves id) CART_TO_STOCK steps first ∙ (λ i. list_any (reserves id) (made_on CART_TO_STOCK steps) || list_any (reserves id) (filter_map (body_on CART_TO_STOCK) (made i)))
      ∙ or_true (list_any (reserves id) (made_on CART_TO_STOCK steps)) (same_id id id || false) (rw (same_id-self id))

  unended : list_any (ends id) (taken_bodies carts_sent) ≡ false
  unended = any_taken-push (ends id) steps first ∙ or_false (list_any (ends id) (taken_bodies steps)) ∙ none_ended id steps fresh

  due : (list_any (reserves id) (made_on CART_TO_STOCK carts_sent) && not (list_any (ends id) (taken_bodies carts_sent))) ≡ true
  due = and_from (list_any (reserves id) (made_on CART_TO_STOCK carts_sent)) (not (list_any (ends id) (taken_bodies carts_sent))) sent (ap not unended)

  baskets_sent : (c : ℕ) (key : ProductKey) → basket_at carts_sent c key ≡ line_at (acts.baskets ++ BasketAct.Emptied customer ∷ []) c key
  baskets_sent c key =
      basket_at-checkout steps first id customer refl (ap (list_any is_reserve) made) c key
      ∙ ap (λ was. if customer == c then None else was) (agree.baskets c key) ∙ sym (line_at-emptied acts.baskets customer c key)

  -- what ends it leaves the basket empty
  agree_after : (s : Step) → change_in s.body ≡ None → body_sets_basket s.body (is_accepted s) (is_sent_on s) ≡ false
      → (after : Acts) → after.changes ≡ acts.changes → after.baskets ≡ acts.baskets ++ BasketAct.Emptied customer ∷ [] → CartsAgree (carts_sent ++ s ∷ []) after
  agree_after s none quiet after changes baskets = record {
    changes = changes_taken-same carts_sent s none ∙ changes_taken-same steps first refl ∙ agree.changes ∙ sym changes;
    baskets = λ c key. basket_at-other carts_sent s quiet c key ∙ baskets_sent c key ∙ ap (λ acts. line_at acts c key) (sym baskets);
  }

  -- stock refused it
  module _ (key : ProductKey) (rule : StockRule) (formed : body_formed (body.ReserveFailed id key rule) ≡ true) where
    abbrev pub carts_short : List Step
    carts_short = with_step Role.Cart carts_sent STOCK_TO_CART (body.ReserveFailed id key rule)

    pub short_fits : fits Role.Cart carts_sent STOCK_TO_CART (body.ReserveFailed id key rule) ≡ true
    short_fits = fits_by Role.Cart carts_sent STOCK_TO_CART (body.ReserveFailed id key rule) (few_after_one steps first few) formed refl refl due

    pub short_made : answers Role.Cart carts_sent STOCK_TO_CART (body.ReserveFailed id key rule) ≡ told cart_node id (reply.Undone (undone_by_stock rule key)) ∷ []
    short_made = answers-cart carts_sent STOCK_TO_CART (body.ReserveFailed id key rule)

    pub carts_refused : (after : Acts) → after.changes ≡ acts.changes → after.baskets ≡ acts.baskets ++ BasketAct.Emptied customer ∷ [] → CartsAgree carts_short after
    carts_refused after changes baskets = agree_after (step_of Role.Cart carts_sent STOCK_TO_CART (body.ReserveFailed id key rule)) refl refl after changes baskets

  -- it ended at orders
  module _ (ending : Ending) (formed : body_formed (body.Ended id ending) ≡ true) where
    abbrev pub carts_ended : List Step
    carts_ended = with_step Role.Cart carts_sent ORDER_TO_CART (body.Ended id ending)

    pub ended_fits : fits Role.Cart carts_sent ORDER_TO_CART (body.Ended id ending) ≡ true
    ended_fits = fits_by Role.Cart carts_sent ORDER_TO_CART (body.Ended id ending) (few_after_one steps first few) formed refl refl due

    pub ended_made : answers Role.Cart carts_sent ORDER_TO_CART (body.Ended id ending) ≡ told cart_node id (reply_to_ending ending) ∷ []
    ended_made = answers-cart carts_sent ORDER_TO_CART (body.Ended id ending)

    pub carts_answered : (after : Acts) → after.changes ≡ acts.changes → after.baskets ≡ acts.baskets ++ BasketAct.Emptied customer ∷ [] → CartsAgree carts_ended after
    carts_answered after changes baskets = agree_after (step_of Role.Cart carts_sent ORDER_TO_CART (body.Ended id ending)) refl refl after changes baskets
