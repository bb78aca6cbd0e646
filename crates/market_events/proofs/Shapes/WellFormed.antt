-- What a service makes after a run is well formed.
use Rattle.std.proofs.Common.{◌≡◌, ℕ, ◌+◌, ◌≤◌, ◌<◌, Bool, true, false, ◌&&◌, ◌==◌, not, List, [], ◌∷◌, Option, Some, None, length, find, filter_map, nat_le, nat_lt, if◌then◌else◌, option_map, refl, ap, sym, subst, ◌∙◌, arith, le-leb, ltb-false, eq-eqb, ◌-◌}
use Rattle.std.specs.List.{list_all}
use Rattle.std.specs.Option.{option_or}
use Rattle.market_amounts.specs.declared.keys.ProductKey.{ProductKey}
use Rattle.market_amounts.specs.declared.keys.RequestId.{RequestId}
use Rattle.market_events.specs.declared.bodies.Body.{Body}
use Rattle.market_events.specs.declared.bodies.Body.TheVariants as body
use Rattle.market_events.specs.declared.bodies.Ending.{Ending}
use Rattle.market_events.specs.declared.bodies.Ending.TheVariants as ending
use Rattle.market_events.specs.declared.bodies.Item.{Item}
use Rattle.market_events.specs.declared.bodies.PayRule.TheVariants as pay
use Rattle.market_events.specs.declared.bodies.PricedLine.{PricedLine}
use Rattle.market_events.specs.declared.bodies.StockRule.{StockRule}
use Rattle.market_events.specs.declared.bodies.StockRule.TheVariants as stock
use Rattle.market_events.specs.declared.changes.Change.{Change}
use Rattle.market_events.specs.declared.changes.Change.TheVariants as change
use Rattle.market_events.specs.declared.changes.Look.{Look}
use Rattle.market_events.specs.declared.changes.Look.TheVariants.{Unknown, Gone, Live}
use Rattle.market_events.specs.declared.links.Link.{Link}
use Rattle.market_events.specs.declared.replies.OrderStatus.{OrderStatus}
use Rattle.market_events.specs.declared.replies.Reply.{Reply}
use Rattle.market_events.specs.declared.replies.Reply.TheVariants as reply
use Rattle.market_events.specs.declared.requests.Ask.{Ask}
use Rattle.market_events.specs.declared.requests.Ask.TheVariants as ask
use Rattle.market_events.specs.Carts.{Held, changes_taken, basket_of, has_key, view_rows, line_rows, remove_rows, priced, first_gone, checkout_rows, cart_asked, cart_rows, cart_sums, reply_to_ending, undone_by_stock}
use Rattle.market_events.specs.Copies.{copy_of, version_of}
use Rattle.market_events.specs.Customers.{confirmed_count, failed_count, delivered_count, customer_asked, customer_rows, customer_sums}
use Rattle.market_events.specs.Formed.{id_formed, cents_formed, quantity_formed, key_formed, request_id_formed, line_formed, lines_formed, items_formed, checkout_formed, change_formed, ask_formed, reply_formed, ending_formed, body_formed}
use Rattle.market_events.specs.Looks.{is_live}
use Rattle.market_events.specs.Orders.{order_status, order_total, order_reply_rows, order_asked, order_rows, order_sums}
use Rattle.market_events.specs.Payments.{limit_of, spent, invoice_rows, payment_asked, payment_rows, payment_sums}
use Rattle.market_events.specs.Products.{changes_made, changed, create_rows, price_rows, delete_rows, product_asked, product_rows, product_sums}
use Rattle.market_events.specs.Sellers.{seller_asked, seller_rows, seller_sums}
use Rattle.market_events.specs.Services.{Role, IsRunOf, fits, answers, most_steps}
use Rattle.market_events.specs.Shipments.{open_packages, oldest_of, delivered_of, deliver_rows, shipment_asked, shipment_rows, shipment_sums}
use Rattle.market_events.specs.Steps.{Step, Sending, told}
use Rattle.market_events.specs.Stocks.{StockSums, on_hand, reserved, line_refusal, first_some, reserve_rows, stock_rows, level_rows, stock_asked, stock_taken_rows, stock_sums}
use Rattle.market_events.specs.WellFormed.{id_max, pieces_max, total_max, limit_max, most_lines, most_items, keys_rise, total_of}
use Rattle.market_events.proofs.Runs.Bounds.{delivered_count-few}
use Rattle.market_events.proofs.Runs.Carts.{answers-cart}
use Rattle.market_events.proofs.Steps.Customers.{answers-customer, confirmed_count-few, failed_count-few}
use Rattle.market_events.proofs.Runs.Dashboards.{dashboard-formed}
use Rattle.market_events.proofs.Runs.CheckoutLines.{is_held_formed, basket_of-formed, checkout-lines_formed}
use Rattle.market_events.proofs.Values.Lists.{and_both, and_from}
use Rattle.market_events.proofs.Runs.Looks.{look_formed, copy_taken-formed}
use Rattle.market_events.proofs.Runs.Orders.{answers-order}
use Rattle.market_events.proofs.Runs.Packages.{oldest_of-few, delivered_of-most, delivered_of-formed}
use Rattle.market_events.proofs.Steps.Payments.{answers-payment}
use Rattle.market_events.proofs.Steps.Products.{answers-product}
use Rattle.market_events.proofs.Runs.Products.{version_of-few}
use Rattle.market_events.proofs.Steps.SellerEntries.{answers-seller}
use Rattle.market_events.proofs.Steps.Shipments.{answers-shipment}
use Rattle.market_events.proofs.Steps.Taken.{fits-parts, run-few}
use Rattle.market_events.proofs.Runs.Stock.{answers-stock, checkout_formed-lines, reserved-le-on_hand, on_hand-le}
use Rattle.market_events.proofs.Runs.Totals.{found-passes, order_total-le}

-- each body that was made is well formed
abbrev pub are_formed : List Sending → Bool
are_formed made = list_all (λ (m : Sending). body_formed m.1) made

-- the lines of a well-formed list are well formed
lines_all : (lines : List PricedLine) → lines_formed lines ≡ true → list_all line_formed lines ≡ true
lines_all lines formed =
    let a = and_both (nat_le 1 (length lines) && nat_le (length lines) most_lines && list_all line_formed lines) (keys_rise lines) formed in
    (and_both (nat_le 1 (length lines) && nat_le (length lines) most_lines) (list_all line_formed lines) a.0).1

-- the key of a well-formed line is well formed
line_key_formed : (line : PricedLine) → line_formed line ≡ true → key_formed line.key ≡ true
line_key_formed line formed =
    let a = and_both (key_formed line.key && quantity_formed line.quantity && cents_formed line.price && cents_formed line.freight) (cents_formed line.voucher) formed in
    let b = and_both (key_formed line.key && quantity_formed line.quantity && cents_formed line.price) (cents_formed line.freight) a.0 in
    let c = and_both (key_formed line.key && quantity_formed line.quantity) (cents_formed line.price) b.0 in
    (and_both (key_formed line.key) (quantity_formed line.quantity) c.0).0

-- the key of an entry that is not live is well formed
gone_formed : (look : ProductKey → Look) (es : List (ProductKey × Held)) → list_all (λ (e : ProductKey × Held). is_held_formed e.0 e.1) es ≡ true → (key : ProductKey) → first_gone look es ≡ Some key → key_formed key ≡ true
gone_formed look es all key is = either (find (λ (e : ProductKey × Held). not (is_live (look e.0))) es) refl is
  where
    either : (o : Option (ProductKey × Held)) → find (λ (e : ProductKey × Held). not (is_live (look e.0))) es ≡ o → option_map (λ (e : ProductKey × Held). e.0) o ≡ Some key → key_formed key ≡ true
    either None found is = cc
    either (Some e) found is =
        let passes = found-passes (λ (e : ProductKey × Held). is_held_formed e.0 e.1) (λ (e : ProductKey × Held). not (is_live (look e.0))) es e all found in
        let a = and_both (key_formed e.0 && quantity_formed e.1.quantity) (cents_formed e.1.voucher) passes in
        let same : e.0 ≡ key = cc in
        ap key_formed (sym same) ∙ (and_both (key_formed e.0) (quantity_formed e.1.quantity) a.0).0

-- what the cart makes of a request
cart_asks : (steps : List Step) → IsRunOf Role.Cart steps → (id : RequestId) → request_id_formed id ≡ true → (what : Ask) → ask_formed what ≡ true → are_formed (cart_asked (cart_sums steps) id what) ≡ true
cart_asks steps run id known (ask.View key) formed = by_look (copy_of (changes_taken steps) key) (copy_taken-formed Role.Cart steps run key)
  where
    by_look : (look : Look) → look_formed look ≡ true → are_formed (view_rows id look) ≡ true
    by_look Unknown good = rw known
    by_look (Gone v) good = rw known
    by_look (Live v price freight) good = rw (known, good)
cart_asks steps run id known (ask.Line customer key quantity voucher) formed = by_look (copy_of (changes_taken steps) key) (nat_le most_lines (length (basket_of steps customer)) && not (has_key (basket_of steps customer) key)) refl
  where
    good : quantity_formed quantity ≡ true
    good = (and_both (id_formed customer && key_formed key) (quantity_formed quantity) (and_both (id_formed customer && key_formed key && quantity_formed quantity) (cents_formed voucher) formed).0).1

    by_look : (look : Look) (full : Bool) → (nat_le most_lines (length (basket_of steps customer)) && not (has_key (basket_of steps customer) key)) ≡ full → are_formed (line_rows id key quantity look (basket_of steps customer)) ≡ true
    by_look Unknown full is = rw known
    by_look (Gone v) full is = rw known
    by_look (Live v price freight) true is = rw (is, known)
    by_look (Live v price freight) false is = rw (is, known, good)
cart_asks steps run id known (ask.Remove customer key) formed = either (has_key (basket_of steps customer) key) refl
  where
    either : (b : Bool) → has_key (basket_of steps customer) key ≡ b → are_formed (remove_rows id key (basket_of steps customer)) ≡ true
    either true is = rw (is, known)
    either false is = rw (is, known)
cart_asks steps run id known (ask.Checkout customer) formed = by_basket (basket_of steps customer) refl (first_gone (copy_of (changes_taken steps)) (basket_of steps customer)) refl
  where
    by_basket : (basket : List (ProductKey × Held)) → basket_of steps customer ≡ basket → (gone : Option ProductKey) → first_gone (copy_of (changes_taken steps)) (basket_of steps customer) ≡ gone → are_formed (checkout_rows id customer (copy_of (changes_taken steps)) basket gone) ≡ true
    by_basket [] is first none = rw known
    by_basket (e ∷ es) is (Some key) some = rw (known, gone_formed (copy_of (changes_taken steps)) (basket_of steps customer) (basket_of-formed Role.Cart steps run customer) key some)
    by_basket (e ∷ es) is None none =
        let good : lines_formed (filter_map (priced (copy_of (changes_taken steps))) (e ∷ es)) ≡ true = subst (λ basket. lines_formed (filter_map (priced (copy_of (changes_taken steps))) basket) ≡ true) is (checkout-lines_formed steps run customer (omega (arith, ap length is)) none) in
        and_from (checkout_formed id customer (filter_map (priced (copy_of (changes_taken steps))) (e ∷ es))) true (and_from (request_id_formed id && id_formed customer) (lines_formed (filter_map (priced (copy_of (changes_taken steps))) (e ∷ es))) (and_from (request_id_formed id) (id_formed customer) known formed) good) refl
cart_asks steps run id known other formed = refl

-- the cart
cart_made : (steps : List Step) → IsRunOf Role.Cart steps → (b : Body) → body_formed b ≡ true → are_formed (cart_rows (cart_sums steps) b) ≡ true
cart_made steps run (body.Asked request) formed =
    let both = and_both (request_id_formed request.id) (ask_formed request.ask) formed in
    cart_asks steps run request.id both.0 request.ask both.1
cart_made steps run (body.ReserveFailed checkout key reason) formed = by_reason reason
  where
    both : (request_id_formed checkout ≡ true) × (key_formed key ≡ true)
    both = and_both (request_id_formed checkout) (key_formed key) formed

    by_reason : (reason : StockRule) → are_formed (told 0 checkout (reply.Undone (undone_by_stock reason key)) ∷ []) ≡ true
    by_reason stock.Gone = rw (both.0, both.1)
    by_reason stock.Short = rw (both.0, both.1)
cart_made steps run (body.Ended checkout end) formed = by_end end (and_both (request_id_formed checkout) (ending_formed end) formed)
  where
    by_end : (end : Ending) → (request_id_formed checkout ≡ true) × (ending_formed end ≡ true) → are_formed (told 0 checkout (reply_to_ending end) ∷ []) ≡ true
    by_end (ending.Whole total) both = rw (both.0, both.1)
    by_end (ending.Undone pay.NoCard) both = rw both.0
    by_end (ending.Undone pay.OverLimit) both = rw both.0
cart_made steps run other formed = refl

-- a change, and its reply
changed_formed : (id : RequestId) (key : ProductKey) (version : ℕ) (c : Change) (r : Reply) → request_id_formed id ≡ true → key_formed key ≡ true → id_formed version ≡ true → change_formed c ≡ true → reply_formed r ≡ true → are_formed (changed id key version c r) ≡ true
changed_formed id key version c r known k v change answer = rw (known, k, v, change, answer)

-- what products make of a request
product_asks : (steps : List Step) → IsRunOf Role.Product steps → length steps < most_steps → (id : RequestId) → request_id_formed id ≡ true → (what : Ask) → ask_formed what ≡ true → are_formed (product_asked (product_sums steps) id what) ≡ true
product_asks steps run few id known (ask.Create key price freight) formed = by_look (copy_of (changes_made steps) key)
  where
    a : ((key_formed key && cents_formed price) ≡ true) × (cents_formed freight ≡ true)
    a = and_both (key_formed key && cents_formed price) (cents_formed freight) formed

    b : (key_formed key ≡ true) × (cents_formed price ≡ true)
    b = and_both (key_formed key) (cents_formed price) a.0

    version : id_formed (version_of (changes_made steps) key + 1) ≡ true
    version = le-leb (version_of (changes_made steps) key + 1) id_max (omega (arith, few, version_of-few steps run key))

    by_look : (look : Look) → are_formed (create_rows id key (change.Created price freight) look (version_of (changes_made steps) key)) ≡ true
    by_look Unknown = changed_formed id key (version_of (changes_made steps) key + 1) (change.Created price freight) (reply.Created (version_of (changes_made steps) key + 1)) known b.0 version (and_from (cents_formed price) (cents_formed freight) b.1 a.1) version
    by_look (Gone v) = changed_formed id key (version_of (changes_made steps) key + 1) (change.Created price freight) (reply.Created (version_of (changes_made steps) key + 1)) known b.0 version (and_from (cents_formed price) (cents_formed freight) b.1 a.1) version
    by_look (Live v p f) = rw known
product_asks steps run few id known (ask.Price key price) formed = by_look (copy_of (changes_made steps) key)
  where
    b : (key_formed key ≡ true) × (cents_formed price ≡ true)
    b = and_both (key_formed key) (cents_formed price) formed

    version : id_formed (version_of (changes_made steps) key + 1) ≡ true
    version = le-leb (version_of (changes_made steps) key + 1) id_max (omega (arith, few, version_of-few steps run key))

    by_look : (look : Look) → are_formed (price_rows id key (change.Priced price) look (version_of (changes_made steps) key)) ≡ true
    by_look Unknown = rw known
    by_look (Gone v) = rw known
    by_look (Live v p f) = changed_formed id key (version_of (changes_made steps) key + 1) (change.Priced price) (reply.Priced (version_of (changes_made steps) key + 1)) known b.0 version b.1 version
product_asks steps run few id known (ask.Delete key) formed = by_look (copy_of (changes_made steps) key)
  where
    version : id_formed (version_of (changes_made steps) key + 1) ≡ true
    version = le-leb (version_of (changes_made steps) key + 1) id_max (omega (arith, few, version_of-few steps run key))

    by_look : (look : Look) → are_formed (delete_rows id key look (version_of (changes_made steps) key)) ≡ true
    by_look Unknown = rw known
    by_look (Gone v) = rw known
    by_look (Live v p f) = changed_formed id key (version_of (changes_made steps) key + 1) change.Deleted (reply.Deleted (version_of (changes_made steps) key + 1)) known formed version refl version
product_asks steps run few id known other formed = refl

-- products
product_made : (steps : List Step) → IsRunOf Role.Product steps → length steps < most_steps → (b : Body) → body_formed b ≡ true → are_formed (product_rows (product_sums steps) b) ≡ true
product_made steps run few (body.Asked request) formed =
    let both = and_both (request_id_formed request.id) (ask_formed request.ask) formed in
    product_asks steps run few request.id both.0 request.ask both.1
product_made steps run few other formed = refl

-- the refused line's key is well formed
refusal_formed : (s : StockSums) (lines : List PricedLine) → list_all line_formed lines ≡ true → (refusal : ProductKey × StockRule) → first_some (line_refusal s) lines ≡ Some refusal → key_formed refusal.0 ≡ true
refusal_formed s [] all refusal is = cc
refusal_formed s (line ∷ lines) all refusal is =
    let both = and_both (line_formed line) (list_all line_formed lines) all in
    either (line_refusal s line) refl is (λ more. refusal_formed s lines both.1 refusal more) (line_key_formed line both.0)
  where
    here : (live short : Bool) → (if◌then◌else◌ {A = Option (ProductKey × StockRule)} (not live) (Some (line.key, stock.Gone)) (if◌then◌else◌ {A = Option (ProductKey × StockRule)} short (Some (line.key, stock.Short)) None)) ≡ Some refusal → refusal.0 ≡ line.key
    here true true h = cc
    here true false h = cc
    here false short h = cc

    either : (o : Option (ProductKey × StockRule)) → line_refusal s line ≡ o → option_or o (first_some (line_refusal s) lines) ≡ Some refusal → (first_some (line_refusal s) lines ≡ Some refusal → key_formed refusal.0 ≡ true) → key_formed line.key ≡ true → key_formed refusal.0 ≡ true
    either None none is rest known = rest is
    either (Some r) some is rest known = ap key_formed (here (is_live (s.look line.key)) (nat_lt (s.on_hand line.key - s.reserved line.key) line.quantity) (some ∙ is)) ∙ known

-- stock
stock_made : (steps : List Step) → IsRunOf Role.Stock steps → (b : Body) → body_formed b ≡ true → are_formed (stock_taken_rows (stock_sums steps) b) ≡ true
stock_made steps run (body.Asked request) formed = asks request.ask
  where
    known : request_id_formed request.id ≡ true
    known = (and_both (request_id_formed request.id) (ask_formed request.ask) formed).0

    stocks : (look : Look) (here pieces : ℕ) (over : Bool) → nat_lt pieces_max (here + pieces) ≡ over → are_formed (stock_rows request.id pieces look here) ≡ true
    stocks Unknown here pieces over is = rw known
    stocks (Gone v) here pieces over is = rw known
    stocks (Live v price freight) here pieces true is = rw (is, known)
    stocks (Live v price freight) here pieces false is = rw (is, known, le-leb (here + pieces) pieces_max (ltb-false pieces_max (here + pieces) is))

    levels : (look : Look) (here held : ℕ) → here ≤ pieces_max → held ≤ pieces_max → are_formed (level_rows request.id look here held) ≡ true
    levels Unknown here held few fewer = rw known
    levels (Gone v) here held few fewer = rw (known, le-leb here pieces_max few, le-leb held pieces_max fewer)
    levels (Live v price freight) here held few fewer = rw (known, le-leb here pieces_max few, le-leb held pieces_max fewer)

    asks : (what : Ask) → are_formed (stock_asked (stock_sums steps) request.id what) ≡ true
    asks (ask.Stock key pieces) = stocks (copy_of (changes_taken steps) key) (on_hand steps key) pieces (nat_lt pieces_max (on_hand steps key + pieces)) refl
    asks (ask.Level key) = levels (copy_of (changes_taken steps) key) (on_hand steps key) (reserved steps key) (on_hand-le steps run key) (omega (arith, on_hand-le steps run key, reserved-le-on_hand steps run key))
    asks other = refl
stock_made steps run (body.Reserve checkout customer lines) formed = either (first_some (line_refusal (stock_sums steps)) lines) refl
  where
    either : (o : Option (ProductKey × StockRule)) → first_some (line_refusal (stock_sums steps)) lines ≡ o → are_formed (reserve_rows checkout customer lines o) ≡ true
    either None none = rw formed
    either (Some refusal) some =
        rw (
          (and_both (request_id_formed checkout) (id_formed customer) (and_both (request_id_formed checkout && id_formed customer) (lines_formed lines) formed).0).0,
          refusal_formed (stock_sums steps) lines (lines_all lines (checkout_formed-lines checkout customer lines formed)) refusal some,
        )
stock_made steps run other formed = refl

-- orders
order_made : (steps : List Step) → IsRunOf Role.Order steps → (b : Body) → body_formed b ≡ true → are_formed (order_rows (order_sums steps) b) ≡ true
order_made steps run (body.Asked request) formed = asks request.ask
  where
    known : request_id_formed request.id ≡ true
    known = (and_both (request_id_formed request.id) (ask_formed request.ask) formed).0

    shows : (o : Option OrderStatus) (total : ℕ) → total ≤ total_max → are_formed (order_reply_rows request.id o total) ≡ true
    shows None total few = rw known
    shows (Some st) total few = rw (known, le-leb total total_max few)

    asks : (what : Ask) → are_formed (order_asked (order_sums steps) request.id what) ≡ true
    asks (ask.Order checkout) = shows (order_status steps checkout) (order_total steps checkout) (order_total-le steps run checkout)
    asks other = refl
order_made steps run (body.StockConfirmed checkout customer lines) formed = rw (formed, eq-eqb (total_of lines) (total_of lines) refl)
order_made steps run (body.Failed checkout customer reason) formed = rw (and_both (request_id_formed checkout) (id_formed customer) formed).0
order_made steps run (body.Shipped checkout) formed = rw (formed, le-leb (order_total steps checkout) total_max (order_total-le steps run checkout))
order_made steps run other formed = refl

-- payments
payment_made : (steps : List Step) (b : Body) → body_formed b ≡ true → are_formed (payment_rows (payment_sums steps) b) ≡ true
payment_made steps (body.Asked request) formed = asks request.ask (and_both (request_id_formed request.id) (ask_formed request.ask) formed)
  where
    asks : (what : Ask) → (request_id_formed request.id ≡ true) × (ask_formed what ≡ true) → are_formed (payment_asked (payment_sums steps) request.id what) ≡ true
    asks (ask.Card customer limit) both = rw (both.0, (and_both (id_formed customer) (nat_le limit limit_max) both.1).1)
    asks other both = refl
payment_made steps (body.Invoice checkout customer lines total) formed = by_limit (limit_of steps customer)
  where
    ids : (request_id_formed checkout ≡ true) × (id_formed customer ≡ true)
    ids = and_both (request_id_formed checkout) (id_formed customer) (and_both (request_id_formed checkout && id_formed customer) (lines_formed lines) (and_both (checkout_formed checkout customer lines) (total == total_of lines) formed).0).0

    either : (limit : ℕ) (b : Bool) → nat_le (spent steps customer + total) limit ≡ b → are_formed (invoice_rows checkout customer lines total (Some limit) (spent steps customer)) ≡ true
    either limit true is = rw (is, formed)
    either limit false is = rw (is, ids.0, ids.1)

    by_limit : (o : Option ℕ) → are_formed (invoice_rows checkout customer lines total o (spent steps customer)) ≡ true
    by_limit None = rw (ids.0, ids.1)
    by_limit (Some limit) = either limit (nat_le (spent steps customer + total) limit) refl
payment_made steps other formed = refl

-- shipments
shipment_made : (steps : List Step) → IsRunOf Role.Shipment steps → (b : Body) → body_formed b ≡ true → are_formed (shipment_rows (shipment_sums steps) b) ≡ true
shipment_made steps run (body.Asked request) formed = asks request.ask
  where
    known : request_id_formed request.id ≡ true
    known = (and_both (request_id_formed request.id) (ask_formed request.ask) formed).0

    delivers : (items : List Item) (sellers : ℕ) → (1 ≤ length items → items_formed items ≡ true) → length items ≤ most_items → sellers ≤ 10 → are_formed (deliver_rows request.id items sellers) ≡ true
    delivers [] sellers good few fewer = rw known
    delivers (i ∷ more) sellers good few fewer = rw (good (omega arith), known, le-leb sellers id_max (omega (arith, fewer)), le-leb (length (i ∷ more)) id_max (omega (arith, few)))

    asks : (what : Ask) → are_formed (shipment_asked (shipment_sums steps) request.id what) ≡ true
    asks ask.Deliver = delivers (delivered_of (open_packages steps)) (length (oldest_of (open_packages steps))) (λ some. delivered_of-formed steps run some) (delivered_of-most steps run) (oldest_of-few (open_packages steps))
    asks other = refl
shipment_made steps run (body.Confirmed checkout customer lines total) formed =
    rw (and_both (request_id_formed checkout) (id_formed customer) (and_both (request_id_formed checkout && id_formed customer) (lines_formed lines) (and_both (checkout_formed checkout customer lines) (total == total_of lines) formed).0).0).0
shipment_made steps run other formed = refl

-- customers
customer_made : (steps : List Step) → IsRunOf Role.Customer steps → (b : Body) → body_formed b ≡ true → are_formed (customer_rows (customer_sums steps) b) ≡ true
customer_made steps run (body.Asked request) formed = asks request.ask
  where
    known : request_id_formed request.id ≡ true
    known = (and_both (request_id_formed request.id) (ask_formed request.ask) formed).0

    asks : (what : Ask) → are_formed (customer_asked (customer_sums steps) request.id what) ≡ true
    asks (ask.Customer customer) =
        rw (
          known,
          le-leb (confirmed_count steps customer) id_max (omega (arith, confirmed_count-few steps customer, run-few Role.Customer steps run)),
          le-leb (failed_count steps customer) id_max (omega (arith, failed_count-few steps customer, run-few Role.Customer steps run)),
          le-leb (delivered_count steps customer) id_max (omega (arith, delivered_count-few steps run customer, run-few Role.Customer steps run)),
        )
    asks other = refl
customer_made steps run other formed = refl

-- sellers
seller_made : (steps : List Step) → IsRunOf Role.Seller steps → (b : Body) → body_formed b ≡ true → are_formed (seller_rows (seller_sums steps) b) ≡ true
seller_made steps run (body.Asked request) formed = asks request.ask
  where
    known : request_id_formed request.id ≡ true
    known = (and_both (request_id_formed request.id) (ask_formed request.ask) formed).0

    asks : (what : Ask) → are_formed (seller_asked (seller_sums steps) request.id what) ≡ true
    asks (ask.Dashboard seller) = rw (known, dashboard-formed steps run seller)
    asks other = refl
seller_made steps run other formed = refl

-- what a service answers to an input that fits a run is well formed
pub answers-formed : (role : Role) (steps : List Step) (from : Link) (b : Body) → IsRunOf role steps → fits role steps from b ≡ true → are_formed (answers role steps from b) ≡ true
answers-formed Role.Cart steps from b run fit = ap are_formed (answers-cart steps from b) ∙ cart_made steps run b (fits-parts Role.Cart steps from b fit).formed
answers-formed Role.Product steps from b run fit = ap are_formed (answers-product steps from b) ∙ product_made steps run (fits-parts Role.Product steps from b fit).few b (fits-parts Role.Product steps from b fit).formed
answers-formed Role.Stock steps from b run fit = ap are_formed (answers-stock steps from b) ∙ stock_made steps run b (fits-parts Role.Stock steps from b fit).formed
answers-formed Role.Order steps from b run fit = ap are_formed (answers-order steps from b) ∙ order_made steps run b (fits-parts Role.Order steps from b fit).formed
answers-formed Role.Payment steps from b run fit = ap are_formed (answers-payment steps from b) ∙ payment_made steps b (fits-parts Role.Payment steps from b fit).formed
answers-formed Role.Shipment steps from b run fit = ap are_formed (answers-shipment steps from b) ∙ shipment_made steps run b (fits-parts Role.Shipment steps from b fit).formed
answers-formed Role.Customer steps from b run fit = ap are_formed (answers-customer steps from b) ∙ customer_made steps run b (fits-parts Role.Customer steps from b fit).formed
answers-formed Role.Seller steps from b run fit = ap are_formed (answers-seller steps from b) ∙ seller_made steps run b (fits-parts Role.Seller steps from b fit).formed
