-- A change fits where the cart or stock takes it: those that they took before are those that were made before it on its link,
-- and by these it is due.
use Rattle.std.proofs.Common.{◌≡◌, ℕ, ◌<◌, true, false, List, ◌∷◌, ◌++◌, None, filter_map, refl, ap, sym, ◌∙◌, subst, arith}
use Rattle.std.specs.Prelude.{map}
use Rattle.market_amounts.specs.declared.keys.ProductKey.{ProductKey}
use Rattle.market_events.specs.declared.bodies.Body.{Body}
use Rattle.market_events.specs.declared.bodies.Body.TheVariants as body
use Rattle.market_events.specs.declared.changes.Change.{Change}
use Rattle.market_events.specs.declared.events.Event.{Event}
use Rattle.market_events.specs.declared.links.Link.{Link}
use Rattle.market_events.specs.Carried.{carries}
use Rattle.market_events.specs.Carts.{changes_taken}
use Rattle.market_events.specs.Copies.{copy_of}
use Rattle.market_events.specs.Links.{IsLink, sender_of, receiver_of, same_link, cart_node, product_node, stock_node}
use Rattle.market_events.specs.Products.{change_in}
use Rattle.market_events.specs.declared.roles.Role.{Role}
use Rattle.market_events.specs.Services.{IsRunOf, change_fits, role_fits}
use Rattle.market_events.specs.Steps.{Step, made_on}
use Rattle.market_events.specs.declared.links.TheConstants.{PRODUCT_TO_STOCK, PRODUCT_TO_CART}
use Rattle.market_events.proofs.Values.Offers.{same_link-same}
use Rattle.market_history.specs.Blocks.{services}
use Rattle.market_history.specs.Histories.{Histories, journal_at}
use Rattle.market_history.specs.Lawful.{IsLawful}
use Rattle.market_history.specs.Sent.{got}
use Rattle.market_history.proofs.GrowSent.{bodies_on}
use Rattle.market_laws.specs.Cuts.{steps_at, TookAt, FitsBelow}
use Rattle.market_laws.proofs.Origins.Made.{steps-run, whole, all-below}
use Rattle.market_laws.proofs.Origins.Senders.{sent-bodies-on}
use Rattle.market_laws.proofs.Fits.KindsOnLinks.{came-on, came, ComesBy}
use Rattle.market_laws.proofs.Runs.Products.{changes-to-cart, change-fits}
use Rattle.market_laws.proofs.Views.Links.{gathered-got}

-- changes come into the service on this link alone
abbrev ChangesOn : ℕ → Link → Type 0
ChangesOn s link = (key : ProductKey) (version : ℕ) (c : Change) → ComesBy s link (body.Changed key version c)

-- on another link no change comes
no_change : (s : ℕ) (link : Link) → s < services → ChangesOn s link → (other : Link) (b : Body) → IsLink other → receiver_of other ≡ s → carries other b ≡ true → same_link other link ≡ false → change_in b ≡ None
no_change s link small only other (body.Changed key version c) on into carried apart =
    let same : other ≡ link = came-on s link (body.Changed key version c) small tt (only key version c) other on into carried in
    let is : same_link other link ≡ true = ap (λ l. same_link l link) same ∙ same_link-same link in
    let no : ⊥ = cc in absurd no
no_change s link small only other b on into carried apart = refl

-- products make the same changes on this link
abbrev MakesChanges : Link → Type 0
MakesChanges link = (steps : List Step) → IsRunOf Role.Product steps → made_on link steps ≡ made_on PRODUCT_TO_STOCK steps

module _ (h : Histories) (lawful : IsLawful h) (s : ℕ) (link : Link) (small : s < services) (only : ChangesOn s link) (made : MakesChanges link) (leaves : product_node ≡ sender_of link) (event : Event) (t : TookAt h s event) (below : FitsBelow h t.clock) where
  -- the changes that it took before are those that came on the link
  changes_got : changes_taken (steps_at s t.before) ≡ filter_map change_in (map (λ (e : Event). e.body) (got link t.before))
  changes_got = ap (filter_map change_in) (all-below h lawful s small event t below) ∙ gathered-got change_in s link t.grown (no_change s link small only)

  changed_fits : (key : ProductKey) (version : ℕ) (c : Change) → event.body ≡ body.Changed key version c → change_fits (copy_of (changes_taken (steps_at s t.before)) key) version c ≡ true
  changed_fits key version c is =
      let on : event.link ≡ link = came h s event t (body.Changed key version c) is small tt link (only key version c) in
      let there = sent-bodies-on h lawful s event link t on in
      let steps = steps_at product_node (journal_at h product_node) in
      let run : IsRunOf Role.Product steps = steps-run product_node (journal_at h product_node) in
      let xs = map (λ (e : Event). e.body) (got link t.before) in
      let all : made_on PRODUCT_TO_STOCK steps ≡ xs ++ body.Changed key version c ∷ there.0 =
      sym (made steps run) ∙ sym (whole h lawful product_node (omega arith) link) ∙ ap (λ n. bodies_on link (journal_at h n)) leaves
      ∙ there.1 ∙ ap (λ b. xs ++ b ∷ there.0) is in
      subst (λ changes. change_fits (copy_of changes key) version c ≡ true) (sym changes_got) (change-fits steps run xs there.0 key version c all)

-- at the cart, and at stock
pub cart-changed : (h : Histories) → IsLawful h → (event : Event) → (t : TookAt h cart_node event) → FitsBelow h t.clock → (key : ProductKey) (version : ℕ) (c : Change) → event.body ≡ body.Changed key version c
    → role_fits Role.Cart (steps_at cart_node t.before) (body.Changed key version c) ≡ true
cart-changed h lawful event t below = changed_fits h lawful cart_node PRODUCT_TO_CART (omega arith) (λ key version c. refl) changes-to-cart refl event t below

pub stock-changed : (h : Histories) → IsLawful h → (event : Event) → (t : TookAt h stock_node event) → FitsBelow h t.clock → (key : ProductKey) (version : ℕ) (c : Change) → event.body ≡ body.Changed key version c
    → role_fits Role.Stock (steps_at stock_node t.before) (body.Changed key version c) ≡ true
stock-changed h lawful event t below = changed_fits h lawful stock_node PRODUCT_TO_STOCK (omega arith) (λ key version c. refl) (λ steps run. refl) refl event t below
