-- The cart sends on lines of products alone that it knows as live; and products tell stock of a change right before the cart.
use Rattle.std.proofs.Common.{◌≡◌, ℕ, ◌+◌, Bool, true, false, cond, ◌&&◌, not, nat_le, List, [], ◌∷◌, ◌++◌, Option, Some, None, filter_map, length, refl, ap, sym, ◌∙◌}
use Rattle.std.specs.List.{list_all, cons_option, AllByRecursion}
use Rattle.market_amounts.specs.declared.keys.ProductKey.{ProductKey}
use Rattle.market_amounts.specs.declared.keys.RequestId.{RequestId}
use Rattle.market_events.specs.declared.bodies.Body.{Body}
use Rattle.market_events.specs.declared.bodies.Body.TheVariants as body
use Rattle.market_events.specs.declared.bodies.PricedLine.{PricedLine}
use Rattle.market_events.specs.declared.changes.Change.{Change}
use Rattle.market_events.specs.declared.changes.Change.TheVariants as change
use Rattle.market_events.specs.declared.changes.Look.{Look}
use Rattle.market_events.specs.declared.changes.Look.TheVariants.{Unknown, Gone, Live}
use Rattle.market_events.specs.declared.links.TheConstants.{PRODUCT_TO_CART, PRODUCT_TO_STOCK}
use Rattle.market_events.specs.declared.replies.Reply.{Reply}
use Rattle.market_events.specs.declared.replies.Reply.TheVariants as reply
use Rattle.market_events.specs.declared.replies.Rule.TheVariants as rule
use Rattle.market_events.specs.declared.requests.Ask.{Ask}
use Rattle.market_events.specs.declared.requests.Ask.TheVariants as ask
use Rattle.market_events.specs.declared.links.Link.{Link}
use Rattle.market_events.specs.Carts.{Held, CartSums, has_key, view_rows, line_rows, priced_by, priced, checkout_rows, first_gone, cart_asked, cart_rows}
use Rattle.market_events.specs.Links.{cart_node, product_node, same_link}
use Rattle.market_events.specs.Looks.{is_live}
use Rattle.market_events.specs.Products.{ProductSums, changed, create_rows, price_rows, delete_rows, product_asked, product_rows}
use Rattle.market_events.specs.Steps.{Sending, body_on, told, refused}
use Rattle.market_events.specs.WellFormed.{most_lines}
use Rattle.market_events.proofs.Values.Lists.{and_from}
use Rattle.market_laws.proofs.Origins.Cuts.{no_place, gathered-here}
use Rattle.market_laws.proofs.Runs.Counts.{on}

-- each line is of a product that is live
abbrev pub are_live : (ProductKey → Look) → List PricedLine → Bool
are_live look lines = list_all (λ (line : PricedLine). is_live (look line.key)) lines

-- what is sent on is of products that are live
abbrev pub SendsLive : (ProductKey → Look) → Sending → Type 0
SendsLive look (link, body.Reserve checkout customer lines) = are_live look lines ≡ true
SendsLive look other = Unit {0}

-- the priced lines of a basket are
priced_live : (look : ProductKey → Look) (basket : List (ProductKey × Held)) → are_live look (filter_map (priced look) basket) ≡ true
priced_live look [] = refl
priced_live look (e ∷ es) = one (look e.0) refl (priced_live look es)
  where
    one : (l : Look) → look e.0 ≡ l → are_live look (filter_map (priced look) es) ≡ true → are_live look (cons_option (priced_by e.0 e.1 l) (filter_map (priced look) es)) ≡ true
    one Unknown is rest = rest
    one (Gone v) is rest = rest
    one (Live v price freight) is rest = and_from (is_live (look e.0)) (are_live look (filter_map (priced look) es)) (ap is_live is) rest

-- all that the cart makes is
pub cart-sends-live : (s : CartSums) (b : Body) → AllByRecursion (SendsLive s.look) (cart_rows s b)
cart-sends-live s (body.Asked request) = asked request.id request.ask
  where
    views : (id : RequestId) (look : Look) → AllByRecursion (SendsLive s.look) (view_rows id look)
    views id Unknown = (tt, tt)
    views id (Gone v) = (tt, tt)
    views id (Live v price freight) = (tt, tt)

    by_room : (id : RequestId) (full : Bool) (quantity : ℕ) → AllByRecursion (SendsLive s.look) (cond full (refused cart_node id rule.CartFull) (told cart_node id (reply.Line quantity) ∷ []))
    by_room id true quantity = (tt, tt)
    by_room id false quantity = (tt, tt)

    lines : (id : RequestId) (key : ProductKey) (quantity : ℕ) (look : Look) (basket : List (ProductKey × Held)) → AllByRecursion (SendsLive s.look) (line_rows id key quantity look basket)
    lines id key quantity Unknown basket = (tt, tt)
    lines id key quantity (Gone v) basket = (tt, tt)
    lines id key quantity (Live v price freight) basket = by_room id (nat_le most_lines (length basket) && not (has_key basket key)) quantity

    removes : (id : RequestId) (has : Bool) → AllByRecursion (SendsLive s.look) (cond has (told cart_node id reply.Removed ∷ []) (refused cart_node id rule.NoLine))
    removes id true = (tt, tt)
    removes id false = (tt, tt)

    checkouts : (id : RequestId) (customer : ℕ) (basket : List (ProductKey × Held)) (first : Option ProductKey) → AllByRecursion (SendsLive s.look) (checkout_rows id customer s.look basket first)
    checkouts id customer [] first = (tt, tt)
    checkouts id customer (e ∷ es) (Some key) = (tt, tt)
    checkouts id customer (e ∷ es) None = (priced_live s.look (e ∷ es), tt)

    asked : (id : RequestId) (a : Ask) → AllByRecursion (SendsLive s.look) (cart_asked s id a)
    asked id (ask.View key) = views id (s.look key)
    asked id (ask.Line customer key quantity voucher) = lines id key quantity (s.look key) (s.basket customer)
    asked id (ask.Remove customer key) = removes id (has_key (s.basket customer) key)
    asked id (ask.Checkout customer) = checkouts id customer (s.basket customer) (first_gone s.look (s.basket customer))
    asked id other = tt
cart-sends-live s (body.ReserveFailed checkout key why) = (tt, tt)
cart-sends-live s (body.Ended checkout ending) = (tt, tt)
cart-sends-live s other = tt

-- products tell a change to stock, to the cart and to a lane; or nothing to the cart
data TellsChange (made : List Sending) : Type 0 where
  change_of : (id : RequestId) (key : ProductKey) (version : ℕ) (c : Change) (r : Reply) → made ≡ changed id key version c r → TellsChange made
  nothing_to_cart : on PRODUCT_TO_CART made ≡ [] → TellsChange made

product_tells : (s : ProductSums) (b : Body) → TellsChange (product_rows s b)
product_tells s (body.Asked request) = asked request.id request.ask
  where
    creates : (id : RequestId) (key : ProductKey) (c : Change) (look : Look) (version : ℕ) → TellsChange (create_rows id key c look version)
    creates id key c Unknown version = change_of id key (version + 1) c (reply.Created (version + 1)) refl
    creates id key c (Gone v) version = change_of id key (version + 1) c (reply.Created (version + 1)) refl
    creates id key c (Live v price freight) version = nothing_to_cart refl

    prices : (id : RequestId) (key : ProductKey) (c : Change) (look : Look) (version : ℕ) → TellsChange (price_rows id key c look version)
    prices id key c Unknown version = nothing_to_cart refl
    prices id key c (Gone v) version = nothing_to_cart refl
    prices id key c (Live v price freight) version = change_of id key (version + 1) c (reply.Priced (version + 1)) refl

    deletes : (id : RequestId) (key : ProductKey) (look : Look) (version : ℕ) → TellsChange (delete_rows id key look version)
    deletes id key Unknown version = nothing_to_cart refl
    deletes id key (Gone v) version = nothing_to_cart refl
    deletes id key (Live v price freight) version = change_of id key (version + 1) change.Deleted (reply.Deleted (version + 1)) refl

    asked : (id : RequestId) (a : Ask) → TellsChange (product_asked s id a)
    asked id (ask.Create key price freight) = creates id key (change.Created price freight) (s.look key) (s.version key)
    asked id (ask.Price key price) = prices id key (change.Priced price) (s.look key) (s.version key)
    asked id (ask.Delete key) = deletes id key (s.look key) (s.version key)
    asked id other = nothing_to_cart refl
product_tells s other = nothing_to_cart refl

-- a sending on another link
other_sending : (a b : Sending) → a ≡ b → same_link a.0 PRODUCT_TO_CART ≡ false → same_link b.0 PRODUCT_TO_CART ≡ true → ⊥
other_sending a b same apart together = let moved = ap (λ (s : Sending). same_link s.0 PRODUCT_TO_CART) same in cc

-- a body on a link
abbrev on_link : Link → Body → Sending
on_link link b = (link, b)

-- what a change makes before the cart is told
before_cart : (id : RequestId) (key : ProductKey) (version : ℕ) (c : Change) (r : Reply) (x : Body) (front back : List Sending) → changed id key version c r ≡ front ++ on_link PRODUCT_TO_CART x ∷ back → front ≡ on_link PRODUCT_TO_STOCK x ∷ []
before_cart id key version c r x [] back e =
    let head : on_link PRODUCT_TO_STOCK (body.Changed key version c) ≡ on_link PRODUCT_TO_CART x = cc in
    absurd (other_sending (on_link PRODUCT_TO_STOCK (body.Changed key version c)) (on_link PRODUCT_TO_CART x) head refl refl)
before_cart id key version c r x (a ∷ []) back e =
    let head : on_link PRODUCT_TO_STOCK (body.Changed key version c) ≡ a = cc in
    let next : on_link PRODUCT_TO_CART (body.Changed key version c) ≡ on_link PRODUCT_TO_CART x = cc in
    let same : body.Changed key version c ≡ x = ap (λ (s : Sending). s.1) next in
    ap (λ s. s ∷ []) (sym head ∙ ap (on_link PRODUCT_TO_STOCK) same)
before_cart id key version c r x (a ∷ b ∷ []) back e =
    let last : told product_node id r ≡ on_link PRODUCT_TO_CART x = cc in
    absurd (other_sending (told product_node id r) (on_link PRODUCT_TO_CART x) last refl refl)
before_cart id key version c r x (a ∷ b ∷ d ∷ front) back e =
    let rest : [] ≡ front ++ on_link PRODUCT_TO_CART x ∷ back = cc in
    absurd (no_place front (on_link PRODUCT_TO_CART x) back rest)

-- what products make before the cart is told
pub change-pair : (s : ProductSums) (b x : Body) (front back : List Sending) → product_rows s b ≡ front ++ on_link PRODUCT_TO_CART x ∷ back → front ≡ on_link PRODUCT_TO_STOCK x ∷ []
change-pair s b x front back e = by (product_tells s b)
  where
    by : TellsChange (product_rows s b) → front ≡ on_link PRODUCT_TO_STOCK x ∷ []
    by (change_of id key version c r is) = before_cart id key version c r x front back (sym is ∙ e)
    by (nothing_to_cart none) = absurd (no_place (on PRODUCT_TO_CART front) x (on PRODUCT_TO_CART back) (sym none ∙ ap (on PRODUCT_TO_CART) e ∙ gathered-here (body_on PRODUCT_TO_CART) front (on_link PRODUCT_TO_CART x) back x refl))
