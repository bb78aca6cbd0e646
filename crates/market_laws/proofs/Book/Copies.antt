-- In settled histories the copies of the products are what the product service made (cart-changes, stock-changes), and the limits
-- are those of the cards that were set (limits-book).
use Rattle.std.proofs.Common.{◌≡◌, ℕ, List, [], is_some, filter_map, refl, ap, ◌∙◌, arith}
use Rattle.std.specs.List.{cons_option}
use Rattle.market_events.specs.declared.bodies.Body.{Body}
use Rattle.market_events.specs.declared.bodies.Body.TheVariants as body
use Rattle.market_events.specs.declared.requests.Ask.{Ask}
use Rattle.market_events.specs.declared.requests.Ask.TheVariants as ask
use Rattle.market_events.specs.Carts.{changes_taken}
use Rattle.market_events.specs.Copies.{last_some}
use Rattle.market_events.specs.Links.{cart_node, product_node, stock_node}
use Rattle.market_events.specs.Payments.{limit_asked, limit_in}
use Rattle.market_events.specs.Products.{change_in, changes_made}
use Rattle.market_events.specs.declared.roles.Role.{Role}
use Rattle.market_events.specs.declared.links.TheConstants.{PRODUCT_TO_CART, PRODUCT_TO_STOCK}
use Rattle.market_history.specs.Acts.{card_limit, limit_by}
use Rattle.market_history.specs.Blocks.{service_steps}
use Rattle.market_history.specs.Book.{card_act_of, card_act}
use Rattle.market_history.specs.Histories.{Histories, journal_at}
use Rattle.market_history.specs.Lawful.{IsLawful}
use Rattle.market_history.specs.Outstanding.{IsSettled}
use Rattle.market_laws.proofs.Origins.Made.{steps-run}
use Rattle.market_laws.proofs.Views.GatheredOnLinks.{gathered-made}
use Rattle.market_laws.proofs.Views.Gathered.{last-gathered}
use Rattle.market_laws.proofs.Runs.Products.{changes-to-cart}
use Rattle.market_laws.proofs.Settled.Links.{ComesOn}

-- changes come into the cart and into stock from products
pub changes-cart : ComesOn cart_node PRODUCT_TO_CART (λ b. is_some (change_in b))
changes-cart (body.Changed key version change) passes = (tt, refl)
changes-cart other passes = cc

pub changes-stock : ComesOn stock_node PRODUCT_TO_STOCK (λ b. is_some (change_in b))
changes-stock (body.Changed key version change) passes = (tt, refl)
changes-stock other passes = cc

module _ (h : Histories) (lawful : IsLawful h) (settled : IsSettled h) where
  pub cart-changes : changes_taken (service_steps h Role.Cart) ≡ changes_made (service_steps h Role.Product)
  cart-changes =
      gathered-made h lawful settled cart_node product_node PRODUCT_TO_CART (omega arith) (omega arith) (omega arith) refl refl change_in changes-cart
      ∙ ap (filter_map change_in) (changes-to-cart (service_steps h Role.Product) (steps-run product_node (journal_at h product_node)))

  pub stock-changes : changes_taken (service_steps h Role.Stock) ≡ changes_made (service_steps h Role.Product)
  stock-changes = gathered-made h lawful settled stock_node product_node PRODUCT_TO_STOCK (omega arith) (omega arith) (omega arith) refl refl change_in changes-stock

-- a card sets the limit of its customer
pub limits-book : (customer : ℕ) (bs : List Body) → last_some (limit_in customer) bs ≡ limit_by (filter_map card_act bs) customer
limits-book customer bs = last-gathered (limit_in customer) card_act (card_limit customer) each bs
  where
    each : (b : Body) → limit_in customer b ≡ last_some (card_limit customer) (cons_option (card_act b) [])
    each (body.Asked request) = by request.ask
      where
        by : (a : Ask) → limit_asked customer a ≡ last_some (card_limit customer) (cons_option (card_act_of a) [])
        by (ask.Card c limit) = refl
        by other = refl
    each other = refl
