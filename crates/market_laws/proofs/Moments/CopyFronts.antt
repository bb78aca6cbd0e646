-- The changes that the cart and stock took are a front of those that the product service made (cart-front, stock-front), so their
-- copies are what some first changes leave (cart-shows, stock-shows).
use Rattle.std.proofs.Common.{◌≡◌, ℕ, ◌<◌, ◌+◌, true, false, List, ◌++◌, Option, Some, None, is_some, filter_map, length, take, length-append, refl, ap, sym, ◌∙◌, subst, arith}
use Rattle.std.specs.Prelude.{map}
use Rattle.std.proofs.Math.Seq.{take-append_seam}
use Rattle.std.proofs.lemmas.List.{map-append}
use Rattle.std.proofs.lemmas.List.Elements.{filter_map-append}
use Rattle.market_amounts.specs.declared.keys.ProductKey.{ProductKey}
use Rattle.market_events.specs.declared.bodies.Body.{Body}
use Rattle.market_events.specs.declared.changes.Look.{Look}
use Rattle.market_events.specs.declared.events.Event.{Event}
use Rattle.market_events.specs.declared.links.Link.{Link}
use Rattle.market_events.specs.Carried.{carries}
use Rattle.market_events.specs.Carts.{changes_taken}
use Rattle.market_events.specs.Copies.{ProductChange, copy_of}
use Rattle.market_events.specs.Links.{IsLink, sender_of, receiver_of, same_link, cart_node, product_node, stock_node}
use Rattle.market_events.specs.Products.{change_in, changes_made}
use Rattle.market_events.specs.declared.roles.Role.{Role}
use Rattle.market_events.specs.Steps.{taken_bodies, made_on}
use Rattle.market_events.specs.declared.links.TheConstants.{PRODUCT_TO_CART, PRODUCT_TO_STOCK}
use Rattle.market_events.proofs.Values.Offers.{same_link-same}
use Rattle.market_history.specs.Blocks.{services, service_steps}
use Rattle.market_history.specs.Book.{tables_at_end}
use Rattle.market_history.specs.Histories.{Histories, journal_at}
use Rattle.market_history.specs.Lawful.{IsLawful}
use Rattle.market_history.specs.Sent.{sent, got, IsPrefixOf}
use Rattle.market_laws.specs.Copies.{ShowsFirst}
use Rattle.market_laws.specs.Cuts.{steps_at}
use Rattle.market_laws.proofs.Book.Copies.{changes-cart, changes-stock}
use Rattle.market_laws.proofs.Origins.Made.{steps-run, whole}
use Rattle.market_laws.proofs.Fits.KindsOnLinks.{came-on}
use Rattle.market_laws.proofs.Runs.Products.{changes-to-cart}
use Rattle.market_laws.proofs.Settled.Links.{ComesOn, all-taken}
use Rattle.market_laws.proofs.Growth.Takers.{grown_at}
use Rattle.market_laws.proofs.Views.Links.{gathered-got}

-- what is shown of a front is shown of some first changes
shows_front : (shown : ProductKey → Look) (seen changes : List ProductChange) → IsPrefixOf seen changes → ((key : ProductKey) → shown key ≡ copy_of seen key) → ShowsFirst shown changes
shows_front shown seen changes (rest, is) shows = record {
  first = length seen;
  within = let more : length changes ≡ length seen + length rest = ap length is ∙ length-append seen rest in omega arith;
  shows = λ key. shows key ∙ ap (λ l. copy_of l key) (sym (ap (take (length seen)) is ∙ take-append_seam seen rest));
}

module _ (h : Histories) (lawful : IsLawful h) where
  module _ (s n : ℕ) (link : Link) (small : s < services) (lt : n < services) (on : IsLink link) (leaves : sender_of link ≡ n) (into : receiver_of link ≡ s) where
    -- what is gathered of what a service took on a link is a front of what is gathered of what was made on it
    gathered-front : {A : Type 0} (f : Body → Option A) → ComesOn s link (λ b. is_some (f b))
        → IsPrefixOf (filter_map f (taken_bodies (steps_at s (journal_at h s)))) (filter_map f (made_on link (steps_at n (journal_at h n))))
    gathered-front {A = A} f comes = (filter_map f (map (λ (e : Event). e.body) matched.0), made ∙ ap (λ l. l ++ filter_map f (map (λ (e : Event). e.body) matched.0)) (sym taken))
      where
        matched : IsPrefixOf (got link (journal_at h s)) (sent link (journal_at h n))
        matched =
            subst (λ m. IsPrefixOf (got link (journal_at h s)) (sent link (journal_at h m))) leaves
            (subst (λ m. IsPrefixOf (got link (journal_at h m)) (sent link (journal_at h (sender_of link)))) into (lawful.matched link on))

        by : (other : Link) (b : Body) (o : Option A) → f b ≡ o → IsLink other → receiver_of other ≡ s → carries other b ≡ true → same_link other link ≡ false → f b ≡ None
        by other b None is valid received carried differs = is
        by other b (Some x) is valid received carried differs =
            let passes : is_some (f b) ≡ true = ap is_some is in
            let at : other ≡ link = came-on s link b small (comes b passes).0 (comes b passes).1 other valid received carried in
            let same : same_link other link ≡ true = ap (λ l. same_link l link) at ∙ same_link-same link in
            let no : ⊥ = cc in absurd no

        taken : filter_map f (taken_bodies (steps_at s (journal_at h s))) ≡ filter_map f (map (λ (e : Event). e.body) (got link (journal_at h s)))
        taken =
            ap (filter_map f) (all-taken h lawful s small)
            ∙ gathered-got f s link (grown_at h s lawful (omega arith)) (λ other b valid received carried differs. by other b (f b) refl valid received carried differs)

        made : filter_map f (made_on link (steps_at n (journal_at h n)))
            ≡ filter_map f (map (λ (e : Event). e.body) (got link (journal_at h s))) ++ filter_map f (map (λ (e : Event). e.body) matched.0)
        made =
            ap (filter_map f) (sym (whole h lawful n lt link))
            ∙ ap (λ l. filter_map f (map (λ (e : Event). e.body) l)) matched.1
            ∙ ap (filter_map f) (map-append (λ (e : Event). e.body) (got link (journal_at h s)) matched.0)
            ∙ filter_map-append f (map (λ (e : Event). e.body) (got link (journal_at h s))) (map (λ (e : Event). e.body) matched.0)

  pub cart-front : IsPrefixOf (changes_taken (service_steps h Role.Cart)) (changes_made (service_steps h Role.Product))
  cart-front =
      let front = gathered-front cart_node product_node PRODUCT_TO_CART (omega arith) (omega arith) (omega arith) refl refl change_in changes-cart in
      (front.0, ap (filter_map change_in) (sym (changes-to-cart (service_steps h Role.Product) (steps-run product_node (journal_at h product_node)))) ∙ front.1)

  pub stock-front : IsPrefixOf (changes_taken (service_steps h Role.Stock)) (changes_made (service_steps h Role.Product))
  stock-front = gathered-front stock_node product_node PRODUCT_TO_STOCK (omega arith) (omega arith) (omega arith) refl refl change_in changes-stock

  pub cart-shows : ShowsFirst (tables_at_end h).cart_copy (changes_made (service_steps h Role.Product))
  unfolding tables_at_end
  cart-shows = shows_front (copy_of (changes_taken (service_steps h Role.Cart))) (changes_taken (service_steps h Role.Cart)) (changes_made (service_steps h Role.Product)) cart-front (λ key. refl)

  pub stock-shows : ShowsFirst (tables_at_end h).stock_copy (changes_made (service_steps h Role.Product))
  unfolding tables_at_end
  stock-shows = shows_front (copy_of (changes_taken (service_steps h Role.Stock))) (changes_taken (service_steps h Role.Stock)) (changes_made (service_steps h Role.Product)) stock-front (λ key. refl)
