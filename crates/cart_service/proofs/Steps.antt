-- One more step keeps what the cart holds, and makes what is defined.
use Rattle.std.proofs.Common.{◌≡◌, ℕ, true, false, List, [], ◌∷◌, ◌++◌, None, filter_map, Result, Ok, Err, OnOk, OnErr, refl, ap, sym, ◌∙◌}
use Rattle.std.proofs.Math.Logic.{∥∥₁_elim}
use Rattle.market_amounts.specs.declared.keys.ProductKey.{ProductKey}
use Rattle.market_amounts.specs.declared.keys.RequestId.{RequestId}
use Rattle.market_events.specs.declared.bodies.Body.{Body}
use Rattle.market_events.specs.declared.bodies.Body.TheVariants as body
use Rattle.market_events.specs.declared.bodies.Ending.{Ending}
use Rattle.market_events.specs.declared.bodies.StockRule.{StockRule}
use Rattle.market_events.specs.declared.changes.Change.{Change}
use Rattle.market_events.specs.declared.changes.Look.{Look}
use Rattle.market_events.specs.declared.links.Link.{Link}
use Rattle.market_events.specs.declared.requests.Request.{Request}
use Rattle.market_events.specs.Carts.{Held, changes_taken, is_accepted, is_sent_on, cart_asked, cart_rows, cart_sums}
use Rattle.market_events.specs.Copies.{ProductChange, copy_of}
use Rattle.market_events.specs.Products.{change_in}
use Rattle.market_events.specs.declared.roles.Role.{Role}
use Rattle.market_events.specs.Services.{fits, reactions, cart_fits, change_fits}
use Rattle.market_events.specs.Standing.{Stands, CanTake, step_of, with_step}
use Rattle.market_events.specs.Steps.{Step}
use Rattle.market_events.proofs.Steps.Baskets.{basket_of-other}
use Rattle.market_events.proofs.Steps.Carts.{body_sets_basket}
use Rattle.market_events.proofs.Runs.Carts.{answers-cart}
use Rattle.market_events.proofs.Runs.Standing.{is_fit, reactions-fit}
use Rattle.market_events.proofs.Steps.Taken.{changes_taken-push}
use Rattle.cart_replica.specs.Copy.{look_at, IsCopyOf}
use Rattle.cart_replica.proofs.Taking.{copied_still}
use Rattle.cart_service.specs.Holds.{Holds}
use Rattle.cart_service.specs.Tables.{sums_at, AreLeft, AreSame, basket_left, CartTables}
use Rattle.cart_service.proofs.Left.{basket_of-asked}

-- the tables have the sums of the steps
pub sums_at-kept : (kept : CartTables) (steps : List Step) → Holds kept steps → sums_at kept.copy kept.baskets ≡ cart_sums steps
sums_at-kept kept steps held = λ i. record { look = λ key. held.copied key i; basket = λ customer. held.lines customer i }

-- what is made for an input that fits
pub makes : (steps : List Step) (from : Link) (b : Body) → fits Role.Cart steps from b ≡ true → reactions Role.Cart steps from b ≡ cart_rows (cart_sums steps) b
makes steps from b fit = reactions-fit Role.Cart steps from b fit ∙ answers-cart steps from b

-- what follows of success follows always, and what follows of an error follows of it
pub ok_always : {T E P : Type 0} (r : Result T E) → P → OnOk r P
ok_always (Ok x) p = p
ok_always (Err e) p = tt

-- what follows of an error follows of it
pub on_err : {T E P Q : Type 0} (r : Result T E) → (P → Q) → OnErr r P → OnErr r Q
on_err (Ok x) f p = tt
on_err (Err e) f p = f p

-- tables of the same lines hold the same steps
pub kept_same : (old : CartTables) (new : List (ℕ × List (ProductKey × Held))) → AreSame old.baskets new → (steps : List Step) → Holds old steps
    → Holds (record old { baskets = new }) steps
kept_same old new same steps held = record {
  copied = held.copied;
  lines = λ customer. same customer ∙ held.lines customer;
}

module _ (old : CartTables) (steps : List Step) (held : Holds old steps) (from : Link) (b : Body) where
  abbrev step : Step
  step = step_of Role.Cart steps from b

  -- of a body that tells no change and sets no basket, the tables hold one step more
  kept_other : change_in b ≡ None → body_sets_basket b (is_accepted step) (is_sent_on step) ≡ false → Holds old (with_step Role.Cart steps from b)
  kept_other none other = record {
    copied = copied_still old.copy steps step held.copied none;
    lines = λ customer. held.lines customer ∙ sym (basket_of-other steps step other customer);
  }

  -- so they do of the ends of checkouts
  pub kept_failed : (checkout : RequestId) (key : ProductKey) (rule : StockRule) → b ≡ body.ReserveFailed checkout key rule → Holds old (with_step Role.Cart steps from b)
  kept_failed checkout key rule is = kept_other (ap change_in is) (ap (λ x. body_sets_basket x (is_accepted step) (is_sent_on step)) is)

  -- and so they do of a checkout that ended
  pub kept_ended : (checkout : RequestId) (ending : Ending) → b ≡ body.Ended checkout ending → Holds old (with_step Role.Cart steps from b)
  kept_ended checkout ending is = kept_other (ap change_in is) (ap (λ x. body_sets_basket x (is_accepted step) (is_sent_on step)) is)

  -- a change was applied to the copy
  pub kept_changed : (key : ProductKey) (version : ℕ) (change : Change) → b ≡ body.Changed key version change → (new : List (ProductKey × Look))
      → ((changes : List ProductChange) → IsCopyOf old.copy changes → IsCopyOf new (changes ++ record { key = key; version = version; change = change } ∷ []))
      → Holds (record old { copy = new }) (with_step Role.Cart steps from b)
  kept_changed key version change is new copies = record {
    copied = λ k. copies (changes_taken steps) held.copied k
        ∙ ap (λ changes. copy_of changes k) (sym (changes_taken-push steps step ∙ ap (λ x. changes_taken steps ++ told x) is));
    lines = λ customer. held.lines customer
        ∙ sym (basket_of-other steps step (ap (λ x. body_sets_basket x (is_accepted step) (is_sent_on step)) is) customer);
  }
    where
      told : Body → List ProductChange
      told x = filter_map change_in (x ∷ [])

  -- a request was answered
  pub kept_asked : (request : Request) → b ≡ body.Asked request → fits Role.Cart steps from b ≡ true → (new : List (ℕ × List (ProductKey × Held)))
      → AreLeft old.copy old.baskets new request.ask → Holds (record old { baskets = new }) (with_step Role.Cart steps from b)
  kept_asked request is fit new left = record {
    copied = copied_still old.copy steps step held.copied (ap change_in is);
    lines = λ customer. left customer ∙ ap (λ sums. basket_left sums request.ask customer) (sums_at-kept old steps held)
        ∙ sym (basket_of-asked steps step request.id request.ask is (answers-cart steps from b ∙ ap (cart_rows (cart_sums steps)) is) customer);
  }

  -- and what is made for it is what the steps say
  pub made_asked : (request : Request) → b ≡ body.Asked request → fits Role.Cart steps from b ≡ true
      → cart_asked (sums_at old.copy old.baskets) request.id request.ask ≡ reactions Role.Cart steps from b
  made_asked request is fit =
      ap (λ sums. cart_asked sums request.id request.ask) (sums_at-kept old steps held) ∙ sym (makes steps from b fit ∙ ap (cart_rows (cart_sums steps)) is)

-- a change that comes is due
pub changed_due : (old : CartTables) (from : Link) (b : Body) (key : ProductKey) (version : ℕ) (change : Change) → b ≡ body.Changed key version change
    → (steps : List Step) → Stands Role.Cart Holds old steps → fits Role.Cart steps from b ≡ true → change_fits (look_at old.copy key) version change ≡ true
changed_due old from b key version change is steps stands fit =
    ap (λ look. change_fits look version change) (stands.held.copied key) ∙ sym (ap (cart_fits steps) is) ∙ (is_fit Role.Cart steps from b fit).kind

-- a body of another kind does not fit
pub no_other : (old : CartTables) (from : Link) (b : Body) → CanTake Role.Cart Holds old from b → ((steps : List Step) → cart_fits steps b ≡ false) → ⊥
no_other old from b can other = ∥∥₁_elim can (λ x y. absurd x) (λ it.
    let kind = (is_fit Role.Cart it.0 from b it.2).kind in
    let none = other it.0 in
    cc)

-- the other kinds of bodies
pub other_kind : (b : Body)
    → ((key : ProductKey) (version : ℕ) (change : Change) → b ≡ body.Changed key version change → ⊥)
    → ((request : Request) → b ≡ body.Asked request → ⊥)
    → ((checkout : RequestId) (key : ProductKey) (rule : StockRule) → b ≡ body.ReserveFailed checkout key rule → ⊥)
    → ((checkout : RequestId) (ending : Ending) → b ≡ body.Ended checkout ending → ⊥)
    → (steps : List Step) → cart_fits steps b ≡ false
other_kind (body.Changed key version change) changed asked failed ended steps = absurd (changed key version change refl)
other_kind (body.Asked request) changed asked failed ended steps = absurd (asked request refl)
other_kind (body.ReserveFailed checkout key rule) changed asked failed ended steps = absurd (failed checkout key rule refl)
other_kind (body.Ended checkout ending) changed asked failed ended steps = absurd (ended checkout ending refl)
other_kind (body.Reserve checkout customer lines) changed asked failed ended steps = refl
other_kind (body.StockConfirmed checkout customer lines) changed asked failed ended steps = refl
other_kind (body.Invoice checkout customer lines total) changed asked failed ended steps = refl
other_kind (body.Confirmed checkout customer lines total) changed asked failed ended steps = refl
other_kind (body.Failed checkout customer rule) changed asked failed ended steps = refl
other_kind (body.Shipped checkout) changed asked failed ended steps = refl
other_kind (body.Delivered items) changed asked failed ended steps = refl
other_kind (body.Told id reply) changed asked failed ended steps = refl
