-- A trial of the cart can take a well-formed request of its next number, and a change that is due.
use Rattle.std.proofs.Common.{◌≡◌, ℕ, ◌+◌, ◌<◌, ◌≤◌, Bool, true, false, ◌==◌, ◌&&◌, not, nat_lt, nat_le, List, [], ◌∷◌, ◌++◌, length, None, Result, Ok, Err, OnOk, OnErr, length-append, refl, ap, sym, subst, ◌∙◌, arith}
use Rattle.std.proofs.Math.Logic.{∥∥₁_elim}
use Rattle.std.proofs.lemmas.Bool.Decides.{nat_tests}
use Rattle.cart_service.specs.Tables.{CartTables}
use Rattle.market_amounts.specs.declared.keys.ProductKey.{ProductKey}
use Rattle.market_amounts.specs.declared.keys.RequestId.{RequestId}
use Rattle.market_events.specs.declared.bodies.Body.{Body}
use Rattle.market_events.specs.declared.bodies.Body.TheVariants as body
use Rattle.market_events.specs.declared.changes.Change.{Change}
use Rattle.market_events.specs.declared.changes.Look.{Look}
use Rattle.market_events.specs.declared.links.Link.{Link}
use Rattle.market_events.specs.declared.links.Link.TheVariants as link
use Rattle.market_events.specs.declared.links.TheConstants.{PRODUCT_TO_CART}
use Rattle.market_events.specs.declared.requests.Ask.{Ask}
use Rattle.market_events.specs.Carried.{carries}
use Rattle.market_events.specs.Carts.{changes_taken}
use Rattle.market_events.specs.Copies.{ProductChange}
use Rattle.market_events.specs.Formed.{body_formed, ask_formed, key_formed, id_formed, change_formed}
use Rattle.market_events.specs.Links.{receiver_of, service_by_ask, cart_node}
use Rattle.market_events.specs.Products.{change_in}
use Rattle.market_events.specs.Requests.{same_id}
use Rattle.market_events.specs.declared.roles.Role.{Role}
use Rattle.market_events.specs.Services.{fits, node_of, role_fits, most_steps, is_new, asks, change_fits}
use Rattle.market_events.specs.Standing.{Stands, StandsForSome, CanTake, step_of, with_step}
use Rattle.market_events.specs.Steps.{Step}
use Rattle.market_events.proofs.Steps.Taken.{is_new-push, changes_taken-push, changes_taken-same}
use Rattle.cart_replica.specs.Copy.{look_at, IsCopyOf}
use Rattle.cart_service.specs.Holds.{Holds}
use Rattle.service_driving.specs.declared.lane.TheConstants.{LANE}
use Rattle.basket_tests.specs.CartTrials.{trial_id, IsTrialOf, IsTrial}

pub start : (carts : CartTables) (shown : List (ProductKey × Look)) → Holds carts [] → IsCopyOf shown [] → IsTrial carts shown 0
start carts shown held shows = ∣ ([], record { stands = record { run = tt; held = held }; few = omega arith; new = λ n le. refl; shows = shows }) ∣₁

fits_from : (steps : List Step) (from : Link) (b : Body) → length steps < most_steps → body_formed b ≡ true → (receiver_of from == node_of Role.Cart) ≡ true → carries from b ≡ true → role_fits Role.Cart steps b ≡ true
    → fits Role.Cart steps from b ≡ true
unfolding fits
fits_from steps from b few formed received carried due =
    let small : nat_lt (length steps) most_steps ≡ true = grind (arith, nat_tests) in rw (small, formed, received, carried, due) refl

-- a step keeps the numbers that are new but for its own
module _ (old new : CartTables) (shown after : List (ProductKey × Look)) (next : ℕ) (from : Link) (b : Body) where
  pub goes_on : ((steps : List Step) → IsTrialOf old shown next steps → fits Role.Cart steps from b ≡ true)
      → ((steps : List Step) → Stands Role.Cart Holds old steps → fits Role.Cart steps from b ≡ true → Stands Role.Cart Holds new (with_step Role.Cart steps from b))
      → ((number : ℕ) → next + 1 ≤ number → asks (trial_id number) b ≡ false)
      → ((steps : List Step) → IsTrialOf old shown next steps → IsCopyOf after (changes_taken (with_step Role.Cart steps from b)))
      → IsTrial old shown next → IsTrial new after (next + 1)
  goes_on fit on other shows trial = ∥∥₁_elim trial squash₁ (λ it. ∣ (with_step Role.Cart it.0 from b, one it.0 it.1) ∣₁)
    where
      one : (steps : List Step) → IsTrialOf old shown next steps → IsTrialOf new after (next + 1) (with_step Role.Cart steps from b)
      one steps is = record {
        stands = on steps is.stands (fit steps is);
        few = omega (arith, is.few, length-append steps (step_of Role.Cart steps from b ∷ []));
        new = λ number above.
            let was : is_new steps (trial_id number) ≡ true = is.new number (omega (arith, above)) in
            let apart : asks (trial_id number) b ≡ false = other number above in
            is_new-push steps (step_of Role.Cart steps from b) (trial_id number) ∙ rw (was, apart) refl;
        shows = shows steps is;
      }

  -- where it took nothing
  pub stays : ((steps : List Step) → Stands Role.Cart Holds old steps → Stands Role.Cart Holds new steps) → IsTrial old shown next → IsTrial new shown (next + 1)
  stays still trial = ∥∥₁_elim trial squash₁ (λ it. ∣ (
    it.0,
    record {
      stands = still it.0 it.1.stands;
      few = omega (arith, it.1.few);
      new = λ number above. it.1.new number (omega (arith, above));
      shows = it.1.shows;
    },
  ) ∣₁)

  pub can_take : ((steps : List Step) → IsTrialOf old shown next steps → fits Role.Cart steps from b ≡ true) → IsTrial old shown next → CanTake Role.Cart Holds old from b
  can_take fit trial = ∥∥₁_elim trial squash₁ (λ it. ∣ (it.0, it.1.stands, fit it.0 it.1) ∣₁)

-- so the cart stands for some steps
pub stands_for_some : (carts : CartTables) (shown : List (ProductKey × Look)) (next : ℕ) → IsTrial carts shown next → StandsForSome Role.Cart Holds carts
stands_for_some carts shown next trial = ∥∥₁_elim trial squash₁ (λ it. ∣ (it.0, it.1.stands) ∣₁)

-- whether it took the input or not
pub goes : (old new : CartTables) (shown : List (ProductKey × Look)) (next : ℕ) (from : Link) (b : Body) {T E : Type 0} (r : Result T E)
    → ((steps : List Step) → IsTrialOf old shown next steps → fits Role.Cart steps from b ≡ true)
    → OnOk r ((steps : List Step) → Stands Role.Cart Holds old steps → fits Role.Cart steps from b ≡ true → Stands Role.Cart Holds new (with_step Role.Cart steps from b))
    → OnErr r ((steps : List Step) → Stands Role.Cart Holds old steps → Stands Role.Cart Holds new steps)
    → ((number : ℕ) → next + 1 ≤ number → asks (trial_id number) b ≡ false)
    → ((steps : List Step) → IsTrialOf old shown next steps → IsCopyOf shown (changes_taken (with_step Role.Cart steps from b)))
    → IsTrial old shown next → IsTrial new shown (next + 1)
goes old new shown next from b (Ok x) fit on still other shows trial = goes_on old new shown shown next from b fit on other shows trial
goes old new shown next from b (Err e) fit on still other shows trial = stays old new shown shown next from b still trial

-- a request of the next number, and the link that it comes on
abbrev pub trial_asked : ℕ → Ask → Body
trial_asked number what = body.Asked (record { id = trial_id number; ask = what })

abbrev pub from_lane : Link
from_lane = link.Asked LANE cart_node

pub fits_asked : (carts : CartTables) (shown : List (ProductKey × Look)) (next : ℕ) (what : Ask) → next < 1000 → ask_formed what ≡ true → service_by_ask what ≡ cart_node
    → (steps : List Step) → IsTrialOf carts shown next steps → fits Role.Cart steps from_lane (trial_asked next what) ≡ true
fits_asked carts shown next what small formed for_cart steps is =
    fits_from steps from_lane (trial_asked next what) (omega (arith, is.few))
    (let id : id_formed next ≡ true = grind (arith, nat_tests) in rw (id, formed) refl) refl (rw for_cart refl) (is.new next (omega arith))

pub asks_other : (next : ℕ) (what : Ask) (number : ℕ) → next + 1 ≤ number → asks (trial_id number) (trial_asked next what) ≡ false
asks_other next what number above = grind (arith, nat_tests)

pub shows_asked : (carts : CartTables) (shown : List (ProductKey × Look)) (next : ℕ) (what : Ask) (steps : List Step) → IsTrialOf carts shown next steps
    → IsCopyOf shown (changes_taken (with_step Role.Cart steps from_lane (trial_asked next what)))
shows_asked carts shown next what steps is = subst (IsCopyOf shown) (sym (changes_taken-same steps (step_of Role.Cart steps from_lane (trial_asked next what)) refl)) is.shows

-- a change that is due
pub fits_changed : (carts : CartTables) (shown : List (ProductKey × Look)) (next : ℕ) (key : ProductKey) (version : ℕ) (change : Change) → next < 1000
    → key_formed key ≡ true → id_formed version ≡ true → change_formed change ≡ true → change_fits (look_at shown key) version change ≡ true
    → (steps : List Step) → IsTrialOf carts shown next steps → fits Role.Cart steps PRODUCT_TO_CART (body.Changed key version change) ≡ true
fits_changed carts shown next key version change small known counted formed due steps is =
    fits_from steps PRODUCT_TO_CART (body.Changed key version change) (omega (arith, is.few)) (rw (known, counted, formed) refl) refl refl
    (ap (λ look. change_fits look version change) (sym (is.shows key)) ∙ due)

pub shows_changed : (carts : CartTables) (shown after : List (ProductKey × Look)) (next : ℕ) (key : ProductKey) (version : ℕ) (change : Change)
    → ((changes : List ProductChange) → IsCopyOf shown changes → IsCopyOf after (changes ++ record { key = key; version = version; change = change } ∷ []))
    → (steps : List Step) → IsTrialOf carts shown next steps → IsCopyOf after (changes_taken (with_step Role.Cart steps PRODUCT_TO_CART (body.Changed key version change)))
shows_changed carts shown after next key version change copies steps is =
    subst (IsCopyOf after) (sym (changes_taken-push steps (step_of Role.Cart steps PRODUCT_TO_CART (body.Changed key version change)))) (copies (changes_taken steps) is.shows)
