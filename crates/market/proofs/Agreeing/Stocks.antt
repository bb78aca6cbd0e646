-- Stock: what it answers, and how a change, stocked pieces and a checkout keep it in step with what was accepted.
use Rattle.std.proofs.Common.{◌≡◌, ℕ, ◌+◌, ◌-◌, ◌<◌, Bool, true, false, ◌&&◌, not, ◌==◌, nat_lt, List, [], ◌∷◌, ◌++◌, length, filter_map, if◌then◌else◌, sum_by, refl, ap, sym, ◌∙◌, arith}
use Rattle.std.specs.List.{list_any, list_all}
use Rattle.std.proofs.lemmas.List.Folds.{list_all-append}
use Rattle.std.proofs.lemmas.List.Sums.{sum_by_push, sum_by-cons}
use Rattle.market_amounts.specs.declared.keys.ProductKey.{ProductKey}
use Rattle.market_amounts.specs.declared.keys.RequestId.{RequestId}
use Rattle.market_events.specs.declared.bodies.Body.{Body}
use Rattle.market_events.specs.declared.bodies.Body.TheVariants as body
use Rattle.market_events.specs.declared.bodies.PayRule.{PayRule}
use Rattle.market_events.specs.declared.bodies.PricedLine.{PricedLine}
use Rattle.market_events.specs.declared.bodies.StockRule.{StockRule}
use Rattle.market_events.specs.declared.changes.Change.{Change}
use Rattle.market_events.specs.declared.changes.Look.{Look}
use Rattle.market_events.specs.declared.changes.Look.TheVariants.{Unknown, Gone, Live}
use Rattle.market_events.specs.declared.links.Link.{Link}
use Rattle.market_events.specs.declared.links.TheConstants.{PRODUCT_TO_STOCK, CART_TO_STOCK, STOCK_TO_CART}
use Rattle.market_events.specs.declared.links.TheConstants.{STOCK_TO_ORDER, PAYMENT_TO_STOCK}
use Rattle.market_events.specs.declared.requests.Ask.{Ask}
use Rattle.market_events.specs.declared.requests.Ask.TheVariants as ask
use Rattle.market_events.specs.Carts.{changes_taken, is_refusal}
use Rattle.market_events.specs.Copies.{copy_of}
use Rattle.market_events.specs.Formed.{body_formed, checkout_formed, id_formed, lines_formed, request_id_formed}
use Rattle.market_events.specs.Orders.{is_of, is_taken}
use Rattle.market_events.specs.Requests.{same_id, same_key}
use Rattle.market_events.specs.declared.roles.Role.{Role}
use Rattle.market_events.specs.Services.{IsRunOf, answers, fits, most_steps, change_fits, is_known, reserves, is_for, is_for_lines}
use Rattle.market_events.specs.Standing.{step_of, with_step}
use Rattle.market_events.specs.Steps.{Step, Sending, body_on, same_lines}
use Rattle.market_events.specs.Stocks.{StockSums, Reservation, reservation_in, reservations, confirms, settles, is_confirmed, is_settled, pieces_of, pieces_in, sold, reserved, on_hand, stocked, stock_sums, stock_asked, stock_rows, level_rows, line_refusal, first_some, reserve_rows}
use Rattle.market_events.specs.WellFormed.{pieces_max, total_of}
use Rattle.market_events.proofs.Values.Lists.{and_from, and_both, or_true, or_left, or_false, list_any-push}
use Rattle.market_events.proofs.Values.Same.{same_id-self, same_lines-self}
use Rattle.market_events.proofs.Steps.Taken.{changes_taken-same, changes_taken-push, is_settled-push, is_confirmed-push}
use Rattle.market_events.proofs.Steps.Pieces.{reservations_of, reservations-push, reservations-same, pieces_under, stocked-push, stocked-push-other, sold-push-same, sold-push-reserved, sold-push-confirmed}
use Rattle.market_events.proofs.Runs.Stock.{answers-stock, unasked-none}
use Rattle.market_events.proofs.Steps.Reservations.{sum-none}
use Rattle.market_history.specs.Acts.{Acts, StockAct, pieces_stocked, pieces_sold, on_hand_by, stock_table}
use Rattle.market.specs.Agreeing.{StocksAgree}
use Rattle.market.specs.Carrying.{IsFresh, most_made}
use Rattle.market_history.specs.Sequential.{with_stocked}
use Rattle.market.proofs.Agreeing.Checkouts.{all_weaker}
use Rattle.market.proofs.Carrying.Fresh.{same_number, fits_by, few_before, few_after_one, none_reserved, none_settled, none_confirmed}

-- the reservations in what is made
abbrev reservations_in : List Sending → List Reservation
reservations_in made = filter_map reservation_in (filter_map (body_on STOCK_TO_ORDER) made)

-- a request reserves nothing
asked-reserves_none : (s : StockSums) (id : RequestId) (what : Ask) → reservations_in (stock_asked s id what) ≡ []
asked-reserves_none s id (ask.Stock key pieces) = by_look (s.look key)
  where
    by_room : (b : Bool) (v price freight : ℕ) → nat_lt pieces_max (s.on_hand key + pieces) ≡ b → reservations_in (stock_rows id pieces (Live v price freight) (s.on_hand key)) ≡ []
    by_room true v price freight is = rw is
    by_room false v price freight is = rw is

    by_look : (look : Look) → reservations_in (stock_rows id pieces look (s.on_hand key)) ≡ []
    by_look Unknown = refl
    by_look (Gone v) = refl
    by_look (Live v price freight) = by_room (nat_lt pieces_max (s.on_hand key + pieces)) v price freight refl
asked-reserves_none s id (ask.Level key) = by_look (s.look key)
  where
    by_look : (look : Look) → reservations_in (level_rows id look (s.on_hand key) (s.reserved key)) ≡ []
    by_look Unknown = refl
    by_look (Gone v) = refl
    by_look (Live v price freight) = refl
asked-reserves_none s id other = refl

module _ (steps : List Step) (acts : Acts) (agree : StocksAgree steps acts) where
  on_hand_same : (key : ProductKey) → on_hand steps key ≡ on_hand_by acts key
  on_hand_same key = λ i. agree.stocked key i - agree.sold key i

  none_reserved_now : (key : ProductKey) → reserved steps key ≡ 0
  none_reserved_now key = among (reservations steps) agree.settled
    where
      among : (rs : List Reservation) → list_all (λ (r : Reservation). is_settled steps r.checkout) rs ≡ true → sum_by (λ (r : Reservation). if is_settled steps r.checkout then 0 else pieces_of key r.lines) rs ≡ 0
      among [] all = refl
      among (r ∷ rs) all =
          let both = and_both (is_settled steps r.checkout) (list_all (λ (r : Reservation). is_settled steps r.checkout) rs) all in
          sum_by-cons (λ (r : Reservation). if is_settled steps r.checkout then 0 else pieces_of key r.lines) r rs ∙ rw (both.0, among rs both.1)

  pub stock_table_same : stock_sums steps ≡ stock_table acts
  stock_table_same = λ i. of_all (λ key. copy_of (agree.changes i) key) (λ key. on_hand_same key i) (λ key. none_reserved_now key i)
    where
      of_all : (ProductKey → Look) → (ProductKey → ℕ) → (ProductKey → ℕ) → StockSums
      of_all look on_hand reserved = record { look = look; on_hand = on_hand; reserved = reserved }

  -- a request is answered by the table
  pub stocks_answer : (from : Link) (id : RequestId) (what : Ask) → answers Role.Stock steps from (body.Asked (record { id = id; ask = what })) ≡ stock_asked (stock_table acts) id what
  stocks_answer from id what = answers-stock steps from (body.Asked (record { id = id; ask = what })) ∙ ap (λ s. stock_asked s id what) stock_table_same

  -- where nothing is reserved and nothing is settled, all stays settled
  module _ (s : Step) (none : reservations_of s ≡ []) (quiet : (id : RequestId) → settles id s.body ≡ false) where
    unconfirmed : (id : RequestId) → confirms id s.body ≡ false
    unconfirmed id = by s.body (quiet id)
      where
        by : (b : Body) → settles id b ≡ false → confirms id b ≡ false
        by (body.Confirmed checkout customer lines total) h = h
        by other h = refl

    stays_settled : list_all (λ (r : Reservation). is_settled (steps ++ s ∷ []) r.checkout) (reservations (steps ++ s ∷ [])) ≡ true
    stays_settled =
        ap (list_all (λ (r : Reservation). is_settled (steps ++ s ∷ []) r.checkout)) (reservations-same steps s none)
        ∙ all_weaker (λ (r : Reservation). is_settled steps r.checkout) (λ (r : Reservation). is_settled (steps ++ s ∷ []) r.checkout) (λ r settled. is_settled-push steps s r.checkout ∙ or_left (is_settled steps r.checkout) (settles r.checkout s.body) settled) (reservations steps) agree.settled

    pub stocks_still : (after : Acts) → changes_taken (steps ++ s ∷ []) ≡ changes_taken steps → after.changes ≡ acts.changes → ((key : ProductKey) → stocked (steps ++ s ∷ []) key ≡ pieces_stocked after.stocked key) → after.whole ≡ acts.whole → StocksAgree (steps ++ s ∷ []) after
    stocks_still after unchanged changes pieces whole = record {
      changes = unchanged ∙ agree.changes ∙ sym changes;
      stocked = pieces;
      sold = λ key. sold-push-same steps s key none unconfirmed ∙ agree.sold key ∙ ap (λ rs. pieces_sold rs key) (sym whole);
      settled = stays_settled;
    }

  -- pieces are stocked, or refused
  module _ (from : Link) (id : RequestId) (k : ProductKey) (pieces : ℕ) where
    abbrev stocking : Ask
    stocking = ask.Stock k pieces

    abbrev stocking_step : Step
    stocking_step = step_of Role.Stock steps from (body.Asked (record { id = id; ask = stocking }))

    abbrev stocking_rows : List Sending
    stocking_rows = stock_asked (stock_table acts) id stocking

    abbrev act : StockAct
    act = record { key = k; pieces = pieces }

    zero_more : (n : ℕ) → n + 0 ≡ n
    zero_more n = omega arith

    either : (key : ProductKey) (b : Bool) → pieces_stocked acts.stocked key + (if not b then (if same_key k key then pieces else 0) else 0) ≡ pieces_stocked (if b then acts.stocked else acts.stocked ++ act ∷ []) key
    either key true = zero_more (pieces_stocked acts.stocked key)
    either key false = sym (sum_by_push (λ (a : StockAct). if same_key a.key key then a.pieces else 0) acts.stocked act)

    pub stocks_stocked : StocksAgree (with_step Role.Stock steps from (body.Asked (record { id = id; ask = stocking }))) (with_stocked acts act stocking_rows)
    stocks_stocked =
        stocks_still stocking_step (ap reservations_in (stocks_answer from id stocking) ∙ asked-reserves_none (stock_table acts) id stocking) (λ i. refl) (with_stocked acts act stocking_rows) (changes_taken-same steps stocking_step refl) refl
        (λ key. stocked-push steps stocking_step key ∙ (λ i. agree.stocked key i + (if not (list_any is_refusal (stocks_answer from id stocking i)) then (if same_key k key then pieces else 0) else 0)) ∙ either key (list_any is_refusal stocking_rows)) refl

  -- any other request changes nothing
  pub stocks_asked : (from : Link) (id : RequestId) (what : Ask) → ((key : ProductKey) → pieces_in key (body.Asked (record { id = id; ask = what })) ≡ 0) → StocksAgree (with_step Role.Stock steps from (body.Asked (record { id = id; ask = what }))) acts
  stocks_asked from id what no_pieces =
      let s = step_of Role.Stock steps from (body.Asked (record { id = id; ask = what })) in
      stocks_still s (ap reservations_in (stocks_answer from id what) ∙ asked-reserves_none (stock_table acts) id what) (λ i. refl) acts (changes_taken-same steps s refl) refl
      (λ key. stocked-push-other steps s key (no_pieces key) ∙ agree.stocked key) refl

  -- a change of a product
  module _ (key : ProductKey) (version : ℕ) (c : Change) (formed : body_formed (body.Changed key version c) ≡ true) (fit : change_fits (copy_of acts.changes key) version c ≡ true) (few : length steps + most_made < most_steps) where
    abbrev change_told : Body
    change_told = body.Changed key version c

    abbrev pub stocks_told : List Step
    stocks_told = with_step Role.Stock steps PRODUCT_TO_STOCK change_told

    pub stock_change_fits : fits Role.Stock steps PRODUCT_TO_STOCK change_told ≡ true
    stock_change_fits = fits_by Role.Stock steps PRODUCT_TO_STOCK change_told (few_before steps few) formed refl refl (ap (λ changes. change_fits (copy_of changes key) version c) agree.changes ∙ fit)

    pub stock_change_made : answers Role.Stock steps PRODUCT_TO_STOCK change_told ≡ []
    stock_change_made = answers-stock steps PRODUCT_TO_STOCK change_told

    pub stocks_changed : (after : Acts) → after.changes ≡ acts.changes ++ record { key = key; version = version; change = c } ∷ [] → after.stocked ≡ acts.stocked → after.whole ≡ acts.whole → StocksAgree stocks_told after
    stocks_changed after changes stocked whole =
        let s = step_of Role.Stock steps PRODUCT_TO_STOCK change_told in
        let none = ap reservations_in stock_change_made in
        record {
          changes = changes_taken-push steps s ∙ ap (λ cs. cs ++ record { key = key; version = version; change = c } ∷ []) agree.changes ∙ sym changes;
          stocked = λ k. stocked-push-other steps s k refl ∙ agree.stocked k ∙ ap (λ acts. pieces_stocked acts k) (sym stocked);
          sold = λ k. sold-push-same steps s k none (λ id. refl) ∙ agree.sold k ∙ ap (λ rs. pieces_sold rs k) (sym whole);
          settled = stays_settled s none (λ id. refl);
        }

-- a checkout reserves its lines
module _ (steps : List Step) (acts : Acts) (agree : StocksAgree steps acts) (run : IsRunOf Role.Stock steps) (id : RequestId) (customer : ℕ) (lines : List PricedLine) (fresh : IsFresh steps id)
    (formed : checkout_formed id customer lines ≡ true) (known : list_all (λ (line : PricedLine). is_known (copy_of acts.changes line.key)) lines ≡ true) (few : length steps + most_made < most_steps) where
  abbrev r : Reservation
  r = record { checkout = id; customer = customer; lines = lines }

  abbrev pub reserve : Body
  reserve = body.Reserve id customer lines

  abbrev pub stocks_reserved : List Step
  stocks_reserved = with_step Role.Stock steps CART_TO_STOCK reserve

  abbrev first : Step
  first = step_of Role.Stock steps CART_TO_STOCK reserve

  pub reserve_fits : fits Role.Stock steps CART_TO_STOCK reserve ≡ true
  reserve_fits =
      fits_by Role.Stock steps CART_TO_STOCK reserve (few_before steps few) formed refl refl
      (and_from (not (is_taken reserves steps id)) (list_all (λ (line : PricedLine). is_known (copy_of (changes_taken steps) line.key)) lines) (ap not (none_reserved id steps fresh))
      (ap (λ changes. list_all (λ (line : PricedLine). is_known (copy_of changes line.key)) lines) agree.changes ∙ known))

  pub reserve_made : answers Role.Stock steps CART_TO_STOCK reserve ≡ reserve_rows id customer lines (first_some (line_refusal (stock_table acts)) lines)
  reserve_made = answers-stock steps CART_TO_STOCK reserve ∙ ap (λ s. reserve_rows id customer lines (first_some (line_refusal s) lines)) (stock_table_same steps acts agree)

  -- a line is refused
  pub stocks_short : (key : ProductKey) (rule : StockRule) → answers Role.Stock steps CART_TO_STOCK reserve ≡ (STOCK_TO_CART, body.ReserveFailed id key rule) ∷ []
      → (after : Acts) → after.changes ≡ acts.changes → after.stocked ≡ acts.stocked → after.whole ≡ acts.whole → StocksAgree stocks_reserved after
  stocks_short key rule made after changes stocked whole =
      stocks_still steps acts agree first (ap reservations_in made) (λ i. refl) after (changes_taken-same steps first refl) changes
      (λ k. stocked-push-other steps first k refl ∙ agree.stocked k ∙ ap (λ acts. pieces_stocked acts k) (sym stocked)) whole

  -- all are reserved
  module _ (made : answers Role.Stock steps CART_TO_STOCK reserve ≡ (STOCK_TO_ORDER, body.StockConfirmed id customer lines) ∷ []) where
    reservations_now : reservations stocks_reserved ≡ reservations steps ++ r ∷ []
    reservations_now = reservations-push steps first ∙ ap (λ made. reservations steps ++ reservations_in made) made

    none_before : list_any (is_of id) (reservations steps) ≡ false
    none_before = unasked-none steps run id (none_reserved id steps fresh)

    unsettled : is_settled stocks_reserved id ≡ false
    unsettled = is_settled-push steps first id ∙ or_false (is_settled steps id) ∙ none_settled id steps fresh

    unconfirmed_now : is_confirmed stocks_reserved id ≡ false
    unconfirmed_now = is_confirmed-push steps first id ∙ or_false (is_confirmed steps id) ∙ none_confirmed id steps fresh

    sold_still : (key : ProductKey) → sold stocks_reserved key ≡ pieces_sold acts.whole key
    sold_still key = sold-push-reserved steps first key r (ap reservations_in made) (λ i. refl) (none_confirmed id steps fresh) ∙ agree.sold key

    stocked_still : (key : ProductKey) → stocked stocks_reserved key ≡ pieces_stocked acts.stocked key
    stocked_still key = stocked-push-other steps first key refl ∙ agree.stocked key

    found : list_any (is_for_lines id customer lines) (reservations stocks_reserved) ≡ true
    found =
        ap (list_any (is_for_lines id customer lines)) reservations_now ∙ list_any-push (is_for_lines id customer lines) (reservations steps) r
        ∙ or_true (list_any (is_for_lines id customer lines) (reservations steps)) (is_for_lines id customer lines r)
        (and_from (is_for id customer r) (same_lines lines lines) (and_from (same_id id id) (customer == customer) (same_id-self id) (same_number customer)) (same_lines-self lines))

    found_of_customer : list_any (is_for id customer) (reservations stocks_reserved) ≡ true
    found_of_customer =
        ap (list_any (is_for id customer)) reservations_now ∙ list_any-push (is_for id customer) (reservations steps) r
        ∙ or_true (list_any (is_for id customer) (reservations steps)) (is_for id customer r) (and_from (same_id id id) (customer == customer) (same_id-self id) (same_number customer))

    -- once it is settled, each reservation is
    all_settled : (s : Step) → reservations_of s ≡ [] → settles id s.body ≡ true
        → list_all (λ (r : Reservation). is_settled (stocks_reserved ++ s ∷ []) r.checkout) (reservations (stocks_reserved ++ s ∷ [])) ≡ true
    all_settled s none settled =
        ap (list_all (λ (r : Reservation). is_settled (stocks_reserved ++ s ∷ []) r.checkout)) (reservations-same stocks_reserved s none ∙ reservations_now)
        ∙ list_all-append (λ (r : Reservation). is_settled (stocks_reserved ++ s ∷ []) r.checkout) (reservations steps) (r ∷ [])
        ∙ and_from (list_all (λ (r : Reservation). is_settled (stocks_reserved ++ s ∷ []) r.checkout) (reservations steps)) (is_settled (stocks_reserved ++ s ∷ []) id && true)
        (all_weaker (λ (r : Reservation). is_settled steps r.checkout) (λ (r : Reservation). is_settled (stocks_reserved ++ s ∷ []) r.checkout)
        (λ r before. is_settled-push stocks_reserved s r.checkout ∙ or_left (is_settled stocks_reserved r.checkout) (settles r.checkout s.body) (is_settled-push steps first r.checkout ∙ or_left (is_settled steps r.checkout) false before)) (reservations steps) agree.settled)
        (and_from (is_settled (stocks_reserved ++ s ∷ []) id) true (is_settled-push stocks_reserved s id ∙ or_true (is_settled stocks_reserved id) (settles id s.body) settled) refl)

    -- the checkout is paid
    abbrev pub stock_payment : Body
    stock_payment = body.Confirmed id customer lines (total_of lines)

    abbrev pub stocks_paid : List Step
    stocks_paid = with_step Role.Stock stocks_reserved PAYMENT_TO_STOCK stock_payment

    pub stock_payment_fits : fits Role.Stock stocks_reserved PAYMENT_TO_STOCK stock_payment ≡ true
    stock_payment_fits =
        fits_by Role.Stock stocks_reserved PAYMENT_TO_STOCK stock_payment (few_after_one steps first few) (and_from (checkout_formed id customer lines) (total_of lines == total_of lines) formed (same_number (total_of lines))) refl refl
        (and_from (list_any (is_for_lines id customer lines) (reservations stocks_reserved)) (not (is_settled stocks_reserved id)) found (ap not unsettled))

    pub stock_payment_made : answers Role.Stock stocks_reserved PAYMENT_TO_STOCK stock_payment ≡ []
    stock_payment_made = answers-stock stocks_reserved PAYMENT_TO_STOCK stock_payment

    under_now : (key : ProductKey) → pieces_under id key (reservations stocks_reserved) ≡ pieces_of key lines
    under_now key =
        ap (pieces_under id key) reservations_now ∙ sum_by_push (λ (r : Reservation). if is_of id r then pieces_of key r.lines else 0) (reservations steps) r
        ∙ rw (sum-none (λ (r : Reservation). pieces_of key r.lines) id (reservations steps) none_before, same_id-self id) (omega arith)

    pub stocks_whole : (after : Acts) → after.changes ≡ acts.changes → after.stocked ≡ acts.stocked → after.whole ≡ acts.whole ++ r ∷ [] → StocksAgree stocks_paid after
    stocks_whole after changes stocked whole =
        let s = step_of Role.Stock stocks_reserved PAYMENT_TO_STOCK stock_payment in
        let none = ap reservations_in stock_payment_made in
        record {
          changes = changes_taken-same stocks_reserved s refl ∙ changes_taken-same steps first refl ∙ agree.changes ∙ sym changes;
          stocked = λ key. stocked-push-other stocks_reserved s key refl ∙ stocked_still key ∙ ap (λ acts. pieces_stocked acts key) (sym stocked);
          sold = λ key. sold-push-confirmed stocks_reserved s key id none (λ other. refl) unconfirmed_now ∙ (λ i. sold_still key i + under_now key i)
              ∙ sym (sum_by_push (λ (r : Reservation). pieces_of key r.lines) acts.whole r) ∙ ap (λ rs. pieces_sold rs key) (sym whole);
          settled = all_settled s none (same_id-self id);
        }

    -- or not paid
    module _ (reason : PayRule) where
      abbrev pub stock_failure : Body
      stock_failure = body.Failed id customer reason

      abbrev pub stocks_failed : List Step
      stocks_failed = with_step Role.Stock stocks_reserved PAYMENT_TO_STOCK stock_failure

      pub stock_failure_fits : fits Role.Stock stocks_reserved PAYMENT_TO_STOCK stock_failure ≡ true
      stock_failure_fits =
          fits_by Role.Stock stocks_reserved PAYMENT_TO_STOCK stock_failure (few_after_one steps first few) (and_both (request_id_formed id && id_formed customer) (lines_formed lines) formed).0 refl refl
          (and_from (list_any (is_for id customer) (reservations stocks_reserved)) (not (is_settled stocks_reserved id)) found_of_customer (ap not unsettled))

      pub stock_failure_made : answers Role.Stock stocks_reserved PAYMENT_TO_STOCK stock_failure ≡ []
      stock_failure_made = answers-stock stocks_reserved PAYMENT_TO_STOCK stock_failure

      pub stocks_unpaid : (after : Acts) → after.changes ≡ acts.changes → after.stocked ≡ acts.stocked → after.whole ≡ acts.whole → StocksAgree stocks_failed after
      stocks_unpaid after changes stocked whole =
          let s = step_of Role.Stock stocks_reserved PAYMENT_TO_STOCK stock_failure in
          let none = ap reservations_in stock_failure_made in
          record {
            changes = changes_taken-same stocks_reserved s refl ∙ changes_taken-same steps first refl ∙ agree.changes ∙ sym changes;
            stocked = λ key. stocked-push-other stocks_reserved s key refl ∙ stocked_still key ∙ ap (λ acts. pieces_stocked acts key) (sym stocked);
            sold = λ key. sold-push-same stocks_reserved s key none (λ i. refl) ∙ sold_still key ∙ ap (λ rs. pieces_sold rs key) (sym whole);
            settled = all_settled s none (same_id-self id);
          }
