-- What holds of products after a run: the cart and stock are told the same changes, and each fits those before it.
use Rattle.std.proofs.Common.{◌≡◌, ℕ, ◌+◌, true, cond, ◌==◌, List, [], ◌∷◌, ◌++◌, filter_map, count_by, refl, ap, sym, subst, ◌∙◌, arith, eq-eqb}
use Rattle.market_amounts.specs.declared.keys.ProductKey.{ProductKey}
use Rattle.market_amounts.specs.declared.keys.RequestId.{RequestId}
use Rattle.market_events.specs.declared.bodies.Body.{Body}
use Rattle.market_events.specs.declared.bodies.Body.TheVariants as body
use Rattle.market_events.specs.declared.changes.Change.{Change}
use Rattle.market_events.specs.declared.changes.Change.TheVariants as change
use Rattle.market_events.specs.declared.changes.Look.{Look}
use Rattle.market_events.specs.declared.changes.Look.TheVariants.{Unknown, Gone, Live}
use Rattle.market_events.specs.declared.links.TheConstants.{PRODUCT_TO_CART, PRODUCT_TO_STOCK}
use Rattle.market_events.specs.declared.replies.Reply.{Reply}
use Rattle.market_events.specs.declared.replies.Reply.TheVariants as reply
use Rattle.market_events.specs.declared.replies.Rule.TheVariants as rule
use Rattle.market_events.specs.declared.requests.Ask.{Ask}
use Rattle.market_events.specs.declared.requests.Ask.TheVariants as ask
use Rattle.market_events.specs.Copies.{copy_of, version_of}
use Rattle.market_events.specs.Links.{product_node, service_by_ask}
use Rattle.market_events.specs.Looks.{look_version}
use Rattle.market_events.specs.Products.{ProductSums, change_in, changes_made, changed, create_rows, price_rows, delete_rows, product_asked, product_rows, product_sums}
use Rattle.market_events.specs.Requests.{same_id}
use Rattle.market_events.specs.declared.roles.Role.{Role}
use Rattle.market_events.specs.Services.{Follows, IsRunOf, asks, change_is_due, change_fits}
use Rattle.market_events.specs.Steps.{Step, Sending, taken_bodies, made_on, told}
use Rattle.market_events.proofs.Values.Lists.{and_from}
use Rattle.market_events.proofs.Steps.Products.{answers-product}
use Rattle.market_events.proofs.Runs.Products.{version_of-look}
use Rattle.market_laws.specs.Runs.{bodies_made, tells}
use Rattle.market_laws.proofs.Runs.Counts.{on, count_all, joining-on, same_made, IsHere, told-is-asked, one}
use Rattle.market_laws.proofs.Runs.Causes.{made_split}

-- what holds of the answers holds of what a step makes
product_makes : (P : List Sending → Body → Type 0) → ((s : ProductSums) (b : Body) → P (product_rows s b) b) → (before : List Step) (s : Step) → Follows Role.Product before s → P s.made s.body
product_makes P holds before s follows = subst (λ made. P made s.body) (sym (follows.made ∙ answers-product before s.from s.body)) (holds (product_sums before) s.body)

-- what holds of nothing, where the request is not for products, of a reply, and of a change that is due with the next version, holds of what a request makes
asked_cases : (P : List Sending → Type 0) (s : ProductSums) (id : RequestId) (a : Ask) → ((service_by_ask a ≡ product_node → ⊥) → P []) → ((r : Reply) → P (told product_node id r ∷ []))
    → ((key : ProductKey) (c : Change) (r : Reply) → change_is_due (s.look key) c ≡ true → P (changed id key (s.version key + 1) c r)) → P (product_asked s id a)
asked_cases P s id (ask.Create key price freight) nothing tell next = by_look (s.look key) refl
  where
    by_look : (look : Look) → s.look key ≡ look → P (create_rows id key (change.Created price freight) look (s.version key))
    by_look Unknown is = next key (change.Created price freight) (reply.Created (s.version key + 1)) (ap (λ look. change_is_due look (change.Created price freight)) is)
    by_look (Gone v) is = next key (change.Created price freight) (reply.Created (s.version key + 1)) (ap (λ look. change_is_due look (change.Created price freight)) is)
    by_look (Live v p f) is = tell (reply.Refused rule.Exists)
asked_cases P s id (ask.Price key price) nothing tell next = by_look (s.look key) refl
  where
    by_look : (look : Look) → s.look key ≡ look → P (price_rows id key (change.Priced price) look (s.version key))
    by_look Unknown is = tell (reply.Refused rule.Unknown)
    by_look (Gone v) is = tell (reply.Refused rule.Gone)
    by_look (Live v p f) is = next key (change.Priced price) (reply.Priced (s.version key + 1)) (ap (λ look. change_is_due look (change.Priced price)) is)
asked_cases P s id (ask.Delete key) nothing tell next = by_look (s.look key) refl
  where
    by_look : (look : Look) → s.look key ≡ look → P (delete_rows id key look (s.version key))
    by_look Unknown is = tell (reply.Refused rule.Unknown)
    by_look (Gone v) is = tell (reply.Refused rule.Gone)
    by_look (Live v p f) is = next key change.Deleted (reply.Deleted (s.version key + 1)) (ap (λ look. change_is_due look change.Deleted) is)
asked_cases P s id other nothing tell next = nothing (λ here. absurd (omega arith))

-- products tell as much as they were asked
pub product_told-is : (steps : List Step) → IsRunOf Role.Product steps → (id : RequestId) → count_by (tells id) (bodies_made steps) ≡ count_by (asks id) (taken_bodies steps)
product_told-is steps run id = told-is-asked Role.Product id (product_makes (λ made b. IsHere Role.Product b → count_all (tells id) made ≡ cond (asks id b) 1 0) each) steps run
  where
    each : (s : ProductSums) (b : Body) → IsHere Role.Product b → count_all (tells id) (product_rows s b) ≡ cond (asks id b) 1 0
    each s (body.Asked request) here = asked_cases (λ made. count_all (tells id) made ≡ cond (same_id request.id id) 1 0) s request.id request.ask (λ elsewhere. absurd (elsewhere here)) (λ r. omega arith) (λ key c r due. omega arith)
    each s other here = refl

-- the same goes to the cart and to stock
pub changes-to-cart : (steps : List Step) → IsRunOf Role.Product steps → made_on PRODUCT_TO_CART steps ≡ made_on PRODUCT_TO_STOCK steps
changes-to-cart steps run = same_made Role.Product (on PRODUCT_TO_CART) (on PRODUCT_TO_STOCK) (joining-on PRODUCT_TO_CART) (joining-on PRODUCT_TO_STOCK) (product_makes (λ made b. on PRODUCT_TO_CART made ≡ on PRODUCT_TO_STOCK made) each) steps run
  where
    each : (s : ProductSums) (b : Body) → on PRODUCT_TO_CART (product_rows s b) ≡ on PRODUCT_TO_STOCK (product_rows s b)
    each s (body.Asked request) = asked_cases (λ made. on PRODUCT_TO_CART made ≡ on PRODUCT_TO_STOCK made) s request.id request.ask (λ elsewhere. refl) (λ r. refl) (λ key c r due. refl)
    each s other = refl

-- the body is a change with the next version that is due by what is shown
abbrev IsNext : ProductSums → Body → Type 0
IsNext s (body.Changed key version c) = (version ≡ s.version key + 1) × (change_is_due (s.look key) c ≡ true)
IsNext s other = ⊥

-- what is made to stock is one
next_made : (s : ProductSums) (b made : Body) → on PRODUCT_TO_STOCK (product_rows s b) ≡ made ∷ [] → IsNext s made
next_made s (body.Asked request) made is =
    asked_cases (λ rows. on PRODUCT_TO_STOCK rows ≡ made ∷ [] → IsNext s made) s request.id request.ask (λ elsewhere none. cc) (λ r none. cc) (λ key c r due is. subst (λ m. IsNext s m) (one is) (refl, due)) is
next_made s other made is = cc

-- a change that is due with the next version fits
next_fits : (look : Look) (version n : ℕ) (c : Change) → n ≡ version + 1 → version ≡ look_version look → change_is_due look c ≡ true → change_fits look n c ≡ true
next_fits look version n c next same due = and_from (n == 1 + look_version look) (change_is_due look c) (eq-eqb n (1 + look_version look) (omega arith)) due

-- each change fits those that were made before it
pub change-fits : (steps : List Step) → IsRunOf Role.Product steps → (xs ys : List Body) (key : ProductKey) (version : ℕ) (c : Change) → made_on PRODUCT_TO_STOCK steps ≡ xs ++ body.Changed key version c ∷ ys → change_fits (copy_of (filter_map change_in xs) key) version c ≡ true
change-fits steps run xs ys key version c is =
    let m = made_split Role.Product PRODUCT_TO_STOCK steps xs ys (body.Changed key version c) run is in
    let next = next_made (product_sums m.before) m.step.body (body.Changed key version c) (sym (ap (on PRODUCT_TO_STOCK) (m.follows.made ∙ answers-product m.before m.step.from m.step.body)) ∙ m.here) in
    subst (λ bs. change_fits (copy_of (filter_map change_in bs) key) version c ≡ true) m.earlier
    (next_fits (copy_of (changes_made m.before) key) (version_of (changes_made m.before) key) version c next.0 (version_of-look m.before m.run key) next.1)
