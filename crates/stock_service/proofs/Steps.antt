-- One more step keeps what stock holds, and makes what is defined.
use Rattle.std.proofs.Common.{◌≡◌, ℕ, ◌+◌, ◌≤◌, true, false, ◌&&◌, ◌||◌, not, List, [], ◌∷◌, ◌++◌, Option, Some, None, IfSome, filter_map, if◌then◌else◌, Result, Ok, Err, OnOk, refl, ap, sym, subst, ◌∙◌, arith}
use Rattle.std.proofs.Math.Logic.{∥∥₁_elim}
use Rattle.std.specs.Coded.{le_prop}
use Rattle.std.specs.List.{list_all}
use Rattle.market_amounts.specs.declared.keys.ProductKey.{ProductKey}
use Rattle.market_amounts.specs.declared.keys.RequestId.{RequestId}
use Rattle.market_events.specs.declared.bodies.Body.{Body}
use Rattle.market_events.specs.declared.bodies.Body.TheVariants as body
use Rattle.market_events.specs.declared.bodies.PayRule.{PayRule}
use Rattle.market_events.specs.declared.bodies.PricedLine.{PricedLine}
use Rattle.market_events.specs.declared.bodies.StockRule.{StockRule}
use Rattle.market_events.specs.declared.changes.Change.{Change}
use Rattle.market_events.specs.declared.changes.Look.{Look}
use Rattle.market_events.specs.declared.links.Link.{Link}
use Rattle.market_events.specs.declared.links.TheConstants.{STOCK_TO_CART, STOCK_TO_ORDER}
use Rattle.market_events.specs.declared.requests.Ask.{Ask}
use Rattle.market_events.specs.declared.requests.Ask.TheVariants as ask
use Rattle.market_events.specs.declared.requests.Request.{Request}
use Rattle.market_events.specs.Carts.{changes_taken}
use Rattle.market_events.specs.Copies.{copy_of}
use Rattle.market_events.specs.Orders.{is_taken}
use Rattle.market_events.specs.Requests.{same_id, same_key}
use Rattle.market_events.specs.declared.roles.Role.{Role}
use Rattle.market_events.specs.Services.{IsRunOf, fits, reactions, reserves, is_known, stock_fits, change_fits}
use Rattle.market_events.specs.Standing.{Stands, CanTake, step_of, with_step}
use Rattle.market_events.specs.Steps.{Step, body_on}
use Rattle.market_events.specs.Stocks.{StockSums, Reservation, reservation_in, pieces_of, first_some, line_refusal, reserve_rows, stock_asked, stock_taken_rows, stock_sums, on_hand}
use Rattle.market_events.proofs.Values.Lists.{and_both, not_true}
use Rattle.market_events.proofs.Steps.Reservations.{is_customers, is_customers_with}
use Rattle.market_events.proofs.Runs.Standing.{reactions-fit}
use Rattle.market_events.proofs.Steps.Taken.{fits-parts, changes_taken-push}
use Rattle.market_events.proofs.Runs.Stock.{reserved-le-on_hand, pieces_of-free, answers-stock, lines_formed-rise, checkout_formed-lines}
use Rattle.market_events.proofs.Steps.Stock.{waiting_at, no_reservations, confirmed-fits, failed-fits, confirmed-pieces, failed-pieces}
use Rattle.cart_replica.specs.Copy.{look_at, IsCopyOf}
use Rattle.cart_replica.proofs.Taking.{copied_still}
use Rattle.stock_service.specs.declared.levels.Act.TheVariants.{Reserve, Sell, Release}
use Rattle.stock_service.specs.declared.service.Stocks.{Stocks}
use Rattle.stock_service.specs.Holds.{Holds}
use Rattle.stock_service.specs.Tables.{lines_at, sums_at, amounts_at, has_at}
use Rattle.stock_service.specs.Amounts.{Amounts, amounts_after, can_stock}
use Rattle.stock_service.proofs.Sums.{IsQuiet, lines_in, lines_held-is, quiet-amounts, quiet-lines, unstocked-there, body-quiet, reserved-amounts, reserved-there, reserved-lines, settled-lines, confirmed-amounts, failed-amounts, Stocked, stocked-by, asked-quiet, stocks-other}

-- the tables have the sums of the steps
pub sums_same : (stocks : Stocks) (steps : List Step) → Holds stocks steps → sums_at stocks.copy stocks.levels ≡ stock_sums steps
sums_same stocks steps kept =
    λ i. record { look = λ key. kept.copied key i; on_hand = λ key. (kept.each key i).on_hand; reserved = λ key. (kept.each key i).reserved }

-- what is made for an input that fits
pub makes : (steps : List Step) (from : Link) (b : Body) → fits Role.Stock steps from b ≡ true → reactions Role.Stock steps from b ≡ stock_taken_rows (stock_sums steps) b
makes steps from b fit = reactions-fit Role.Stock steps from b fit ∙ answers-stock steps from b

-- and by the tables
pub makes_by : (stocks : Stocks) (steps : List Step) → Holds stocks steps → (from : Link) (b : Body) → fits Role.Stock steps from b ≡ true
    → stock_taken_rows (sums_at stocks.copy stocks.levels) b ≡ reactions Role.Stock steps from b
makes_by stocks steps kept from b fit = ap (λ sums. stock_taken_rows sums b) (sums_same stocks steps kept) ∙ sym (makes steps from b fit)

-- a step that changes none of the tables
pub kept_quiet : (stocks : Stocks) (steps : List Step) (s : Step) → Holds stocks steps → IsQuiet steps s
    → (now : List (ProductKey × Look)) → IsCopyOf now (changes_taken (steps ++ s ∷ [])) → Holds (record stocks { copy = now }) (steps ++ s ∷ [])
kept_quiet stocks steps s kept q now copied = record {
  copied = copied;
  each = λ key. kept.each key ∙ sym (quiet-amounts steps s q key);
  there = λ key. kept.there key ∙ sym (unstocked-there steps s key (q.unstocked key));
  lines = λ id. kept.lines id ∙ sym (quiet-lines steps s q id);
}

module _ (stocks : Stocks) (steps : List Step) (from : Link) where
  -- a change was taken
  pub kept_changed : (key : ProductKey) (version : ℕ) (change : Change) → Holds stocks steps
      → (now : List (ProductKey × Look)) → IsCopyOf now (changes_taken steps ++ record { key = key; version = version; change = change } ∷ [])
      → Holds (record stocks { copy = now }) (with_step Role.Stock steps from (body.Changed key version change))
  kept_changed key version change kept now copied =
      let b = body.Changed key version change in
      let s = step_of Role.Stock steps from (body.Changed key version change) in
      kept_quiet stocks steps s kept
      (body-quiet steps s (body.Changed key version change) refl (no_reservations s (answers-stock steps from (body.Changed key version change))) (λ id. refl) (λ key. refl) (λ key. refl))
      now (subst (IsCopyOf now) (sym (changes_taken-push steps s)) copied)

  -- a request was taken that stocks nothing
  pub kept_asked : (id : RequestId) (asks : Ask) → Holds stocks steps → ((key : ProductKey) (pieces : ℕ) → asks ≡ ask.Stock key pieces → ⊥)
      → Holds stocks (with_step Role.Stock steps from (body.Asked (record { id = id; ask = asks })))
  kept_asked id asks kept other =
      let s = step_of Role.Stock steps from (body.Asked (record { id = id; ask = asks })) in
      kept_quiet stocks steps s kept (asked-quiet steps s id asks refl (answers-stock steps from (body.Asked (record { id = id; ask = asks }))) other) stocks.copy
      (copied_still stocks.copy steps s kept.copied refl)

  -- a request for stock was taken
  pub kept_stock : (id : RequestId) (k : ProductKey) (pieces : ℕ) → IsRunOf Role.Stock steps → Holds stocks steps
      → (now : List (ProductKey × Amounts))
      → ((key : ProductKey) → amounts_at now key ≡ (if same_key k key && can_stock (look_at stocks.copy k) pieces (amounts_at stocks.levels k).on_hand then (let was = amounts_at stocks.levels k in record was { on_hand = was.on_hand + pieces }) else amounts_at stocks.levels key))
      → ((key : ProductKey) → has_at now key ≡ (has_at stocks.levels key || (same_key k key && can_stock (look_at stocks.copy k) pieces (amounts_at stocks.levels k).on_hand)))
      → Holds (record stocks { levels = now }) (with_step Role.Stock steps from (body.Asked (record { id = id; ask = ask.Stock k pieces })))
  kept_stock id k pieces run kept now each there =
      let s = step_of Role.Stock steps from (body.Asked (record { id = id; ask = ask.Stock k pieces })) in
      let stocked : Stocked steps s run id k pieces refl (can_stock (copy_of (changes_taken steps) k) pieces (on_hand steps k))
      = stocked-by steps s run id k pieces refl (copy_of (changes_taken steps) k) (answers-stock steps from (body.Asked (record { id = id; ask = ask.Stock k pieces }))) in
      let can : can_stock (look_at stocks.copy k) pieces (amounts_at stocks.levels k).on_hand ≡ can_stock (copy_of (changes_taken steps) k) pieces (on_hand steps k)
      = λ i. can_stock (kept.copied k i) pieces (kept.each k i).on_hand in
      record {
        copied = copied_still stocks.copy steps s kept.copied refl;
        each = λ key. each key ∙ (λ i. if same_key k key && can i then (let was = kept.each k i in record was { on_hand = was.on_hand + pieces }) else kept.each key i) ∙ sym (stocked.each key);
        there = λ key. there key ∙ (λ i. kept.there key i || (same_key k key && can i)) ∙ sym (stocked.there key);
        lines = λ checkout. kept.lines checkout ∙ sym (stocked.lines checkout);
      }

  -- a reservation was refused
  pub kept_refused : (checkout : RequestId) (customer : ℕ) (lines : List PricedLine) (refusal : ProductKey × StockRule) → Holds stocks steps → first_some (line_refusal (sums_at stocks.copy stocks.levels)) lines ≡ Some refusal
      → Holds stocks (with_step Role.Stock steps from (body.Reserve checkout customer lines))
  kept_refused checkout customer lines refusal kept refused =
      let s = step_of Role.Stock steps from (body.Reserve checkout customer lines) in
      let made : s.made ≡ (STOCK_TO_CART, body.ReserveFailed checkout refusal.0 refusal.1) ∷ []
      = answers-stock steps from (body.Reserve checkout customer lines) ∙ ap (reserve_rows checkout customer lines) (ap (λ sums. first_some (line_refusal sums) lines) (sym (sums_same stocks steps kept)) ∙ refused) in
      kept_quiet stocks steps s kept
      (body-quiet steps s (body.Reserve checkout customer lines) refl (ap (λ m. filter_map reservation_in (filter_map (body_on STOCK_TO_ORDER) m)) made) (λ id. refl) (λ key. refl) (λ key. refl))
      stocks.copy (copied_still stocks.copy steps s kept.copied refl)

  -- a reservation was made
  pub kept_reserved : (checkout : RequestId) (customer : ℕ) (lines : List PricedLine) → IsRunOf Role.Stock steps → fits Role.Stock steps from (body.Reserve checkout customer lines) ≡ true → Holds stocks steps
      → first_some (line_refusal (sums_at stocks.copy stocks.levels)) lines ≡ None
      → (now : List (ProductKey × Amounts)) (also : List (RequestId × List PricedLine))
      → ((key : ProductKey) → amounts_at now key ≡ amounts_after Reserve (pieces_of key lines) (amounts_at stocks.levels key))
      → ((key : ProductKey) → has_at now key ≡ has_at stocks.levels key)
      → ((id : RequestId) → lines_at also id ≡ (if same_id checkout id then Some lines else lines_at stocks.held id))
      → Holds (record stocks { levels = now; held = also }) (with_step Role.Stock steps from (body.Reserve checkout customer lines))
  kept_reserved checkout customer lines run fit kept accepted now also each there at =
      let s = step_of Role.Stock steps from (body.Reserve checkout customer lines) in
      let made : s.made ≡ (STOCK_TO_ORDER, body.StockConfirmed checkout customer lines) ∷ []
      = answers-stock steps from (body.Reserve checkout customer lines) ∙ ap (reserve_rows checkout customer lines) (ap (λ sums. first_some (line_refusal sums) lines) (sym (sums_same stocks steps kept)) ∙ accepted) in
      let both = and_both (not (is_taken reserves steps checkout)) (list_all (λ (line : PricedLine). is_known (copy_of (changes_taken steps) line.key)) lines) (fits-parts Role.Stock steps from (body.Reserve checkout customer lines) fit).due in
      let new = not_true (is_taken reserves steps checkout) both.0 in
      record {
        copied = copied_still stocks.copy steps s kept.copied refl;
        each = λ key. each key ∙ ap (amounts_after Reserve (pieces_of key lines)) (kept.each key) ∙ sym (reserved-amounts steps s run checkout customer lines refl made new key);
        there = λ key. there key ∙ kept.there key ∙ sym (reserved-there steps s run checkout customer lines refl made new key);
        lines = λ id. at id ∙ ap (λ (o : Option (List PricedLine)). if same_id checkout id then Some lines else o) (kept.lines id) ∙ sym (reserved-lines steps s run checkout customer lines refl made new id);
      }

-- a reservation that waits
pub record Waits (steps : List Step) (checkout : RequestId) : Type 0 where
  pub reservation : Reservation
  pub is : waiting_at steps checkout ≡ Some reservation

-- where the lines of a payment are those of a reservation, it waits
waits_with : (steps : List Step) (checkout : RequestId) (customer : ℕ) (lines : List PricedLine) (o : Option Reservation) → waiting_at steps checkout ≡ o → is_customers_with customer lines o ≡ true → Waits steps checkout
waits_with steps checkout customer lines None is fit = cc
waits_with steps checkout customer lines (Some r) is fit = record { reservation = r; is = is }

-- where the customer of a failure is that of a reservation, it waits
waits_for : (steps : List Step) (checkout : RequestId) (customer : ℕ) (o : Option Reservation) → waiting_at steps checkout ≡ o → is_customers customer o ≡ true → Waits steps checkout
waits_for steps checkout customer None is fit = cc
waits_for steps checkout customer (Some r) is fit = record { reservation = r; is = is }

module _ (steps : List Step) (from : Link) (run : IsRunOf Role.Stock steps) (checkout : RequestId) (customer : ℕ) where
  -- a checkout that was paid waits
  pub confirmed_waits : (lines : List PricedLine) (total : ℕ) → fits Role.Stock steps from (body.Confirmed checkout customer lines total) ≡ true → Waits steps checkout
  confirmed_waits lines total fit =
      waits_with steps checkout customer lines (waiting_at steps checkout) refl
      (sym (confirmed-fits steps run checkout customer lines total) ∙ (fits-parts Role.Stock steps from (body.Confirmed checkout customer lines total) fit).due)

  -- and so does that of a checkout whose payment failed
  pub failed_waits : (reason : PayRule) → fits Role.Stock steps from (body.Failed checkout customer reason) ≡ true → Waits steps checkout
  failed_waits reason fit =
      waits_for steps checkout customer (waiting_at steps checkout) refl
      (sym (failed-fits steps run checkout customer reason) ∙ (fits-parts Role.Stock steps from (body.Failed checkout customer reason) fit).due)

-- the lines that the table has are those of the reservation that waits
module _ (stocks : Stocks) (steps : List Step) (kept : Holds stocks steps) (checkout : RequestId) where
  pub at_waiting : (w : Waits steps checkout) → lines_at stocks.held checkout ≡ Some w.reservation.lines
  at_waiting w = kept.lines checkout ∙ lines_held-is steps checkout ∙ ap lines_in w.is

  -- so the lines that are found are those of the reservation
  same_lines : (w : Waits steps checkout) (lines : List PricedLine) → lines_at stocks.held checkout ≡ Some lines → w.reservation.lines ≡ lines
  same_lines w lines found = one (sym (at_waiting w) ∙ found)
    where
      one : {A : Type 0} {x y : A} → Some x ≡ Some y → x ≡ y
      one e = cc

  module _ (from : Link) (run : IsRunOf Role.Stock steps) (lines : List PricedLine) (found : lines_at stocks.held checkout ≡ Some lines) (customer : ℕ) where
    -- the pieces of a reservation that is settled are reserved
    pub confirmed_can : (l : List PricedLine) (total : ℕ) → fits Role.Stock steps from (body.Confirmed checkout customer l total) ≡ true → (key : ProductKey) → pieces_of key lines ≤ (amounts_at stocks.levels key).reserved
    confirmed_can l total fit key =
        let w = confirmed_waits steps from run checkout customer l total fit in
        let s = step_of Role.Stock steps from (body.Confirmed checkout customer l total) in
        let all = confirmed-pieces steps s run checkout customer l total w.reservation refl (answers-stock steps from (body.Confirmed checkout customer l total)) w.is key in
        omega (arith, all.2, ap (pieces_of key) (same_lines w lines found), ap (λ (a : Amounts). a.reserved) (kept.each key))

    pub failed_can : (reason : PayRule) → fits Role.Stock steps from (body.Failed checkout customer reason) ≡ true → (key : ProductKey) → pieces_of key lines ≤ (amounts_at stocks.levels key).reserved
    failed_can reason fit key =
        let w = failed_waits steps from run checkout customer reason fit in
        let s = step_of Role.Stock steps from (body.Failed checkout customer reason) in
        let all = failed-pieces steps s run checkout customer reason w.reservation refl (answers-stock steps from (body.Failed checkout customer reason)) w.is key in
        omega (arith, all.2, ap (pieces_of key) (same_lines w lines found), ap (λ (a : Amounts). a.reserved) (kept.each key))

-- a checkout was settled
module _ (stocks : Stocks) (steps : List Step) (kept : Holds stocks steps) (from : Link) (run : IsRunOf Role.Stock steps)
    (checkout : RequestId) (customer : ℕ) (now : List (ProductKey × Amounts)) (left : List (RequestId × List PricedLine))
    (there : (key : ProductKey) → has_at now key ≡ has_at stocks.levels key) (at : (id : RequestId) → lines_at left id ≡ (if same_id checkout id then None else lines_at stocks.held id)) where
  -- its payment was made
  pub kept_confirmed : (lines : List PricedLine) (total : ℕ) → fits Role.Stock steps from (body.Confirmed checkout customer lines total) ≡ true
      → IfSome (lines_at stocks.held checkout) (λ lines. (key : ProductKey) → amounts_at now key ≡ amounts_after Sell (pieces_of key lines) (amounts_at stocks.levels key))
      → Holds (record stocks { levels = now; held = left }) (with_step Role.Stock steps from (body.Confirmed checkout customer lines total))
  kept_confirmed lines total fit each =
      let w = confirmed_waits steps from run checkout customer lines total fit in
      let s = step_of Role.Stock steps from (body.Confirmed checkout customer lines total) in
      let made = answers-stock steps from (body.Confirmed checkout customer lines total) in
      let pieces = subst (λ (o : Option (List PricedLine)). IfSome o (λ lines. (key : ProductKey) → amounts_at now key ≡ amounts_after Sell (pieces_of key lines) (amounts_at stocks.levels key))) (at_waiting stocks steps kept checkout w) each in
      record {
        copied = copied_still stocks.copy steps s kept.copied refl;
        each = λ key. pieces key ∙ ap (amounts_after Sell (pieces_of key w.reservation.lines)) (kept.each key) ∙ sym (confirmed-amounts steps s run checkout w.reservation made w.is customer lines total refl key);
        there = λ key. there key ∙ kept.there key ∙ sym (unstocked-there steps s key (stocks-other s key refl));
        lines = λ id. at id ∙ ap (λ (o : Option (List PricedLine)). if same_id checkout id then None else o) (kept.lines id) ∙ sym (settled-lines steps s checkout (no_reservations s made) (λ id. refl) id);
      }

  -- its payment failed
  pub kept_failed : (reason : PayRule) → fits Role.Stock steps from (body.Failed checkout customer reason) ≡ true
      → IfSome (lines_at stocks.held checkout) (λ lines. (key : ProductKey) → amounts_at now key ≡ amounts_after Release (pieces_of key lines) (amounts_at stocks.levels key))
      → Holds (record stocks { levels = now; held = left }) (with_step Role.Stock steps from (body.Failed checkout customer reason))
  kept_failed reason fit each =
      let w = failed_waits steps from run checkout customer reason fit in
      let s = step_of Role.Stock steps from (body.Failed checkout customer reason) in
      let made = answers-stock steps from (body.Failed checkout customer reason) in
      let pieces = subst (λ (o : Option (List PricedLine)). IfSome o (λ lines. (key : ProductKey) → amounts_at now key ≡ amounts_after Release (pieces_of key lines) (amounts_at stocks.levels key))) (at_waiting stocks steps kept checkout w) each in
      record {
        copied = copied_still stocks.copy steps s kept.copied refl;
        each = λ key. pieces key ∙ ap (amounts_after Release (pieces_of key w.reservation.lines)) (kept.each key) ∙ sym (failed-amounts steps s run checkout w.reservation made w.is customer reason refl key);
        there = λ key. there key ∙ kept.there key ∙ sym (unstocked-there steps s key (stocks-other s key refl));
        lines = λ id. at id ∙ ap (λ (o : Option (List PricedLine)). if same_id checkout id then None else o) (kept.lines id) ∙ sym (settled-lines steps s checkout (no_reservations s made) (λ id. refl) id);
      }

-- what follows of two and three things that success brings follows of it
pub on_both : {T E P Q S : Type 0} (r : Result T E) → (P → Q → S) → OnOk r P → OnOk r Q → OnOk r S
on_both (Ok x) f p q = f p q
on_both (Err e) f p q = tt

-- the same of three things
pub on_three : {T E P Q R S : Type 0} (r : Result T E) → (P → Q → R → S) → OnOk r P → OnOk r Q → OnOk r R → OnOk r S
on_three (Ok x) f p q s = f p q s
on_three (Err e) f p q s = tt

-- what fits and is kept, of a body that is another one
pub fits_as : (steps : List Step) (from : Link) (b c : Body) → b ≡ c → fits Role.Stock steps from b ≡ true → fits Role.Stock steps from c ≡ true
fits_as steps from b c is fit = ap (λ b. fits Role.Stock steps from b) (sym is) ∙ fit

-- the same of what the service holds
pub kept_as : (stocks : Stocks) (steps : List Step) (from : Link) (b c : Body) → b ≡ c
    → Holds stocks (with_step Role.Stock steps from c) → Holds stocks (with_step Role.Stock steps from b)
kept_as stocks steps from b c is kept = subst (λ (b : Body). Holds stocks (with_step Role.Stock steps from b)) (sym is) kept

-- what the tables answer is what is made
pub made_as : (stocks : Stocks) (steps : List Step) → Holds stocks steps → (from : Link) (b c : Body) → b ≡ c → fits Role.Stock steps from b ≡ true
    → stock_taken_rows (sums_at stocks.copy stocks.levels) c ≡ reactions Role.Stock steps from b
made_as stocks steps kept from b c is fit = sym (ap (stock_taken_rows (sums_at stocks.copy stocks.levels)) is) ∙ makes_by stocks steps kept from b fit

-- a request of another kind is answered by nothing
pub no_answer : (sums : StockSums) (id : RequestId) (asks : Ask) → ((key : ProductKey) (pieces : ℕ) → asks ≡ ask.Stock key pieces → ⊥) → ((key : ProductKey) → asks ≡ ask.Level key → ⊥) → [] ≡ stock_asked sums id asks
no_answer sums id (ask.Stock key pieces) stock level = absurd (stock key pieces refl)
no_answer sums id (ask.Level key) stock level = absurd (level key refl)
no_answer sums id other stock level = refl

-- a body of another kind does not fit
other_kind : (steps : List Step) (b : Body)
    → ((key : ProductKey) (version : ℕ) (change : Change) → b ≡ body.Changed key version change → ⊥)
    → ((checkout : RequestId) (customer : ℕ) (lines : List PricedLine) → b ≡ body.Reserve checkout customer lines → ⊥)
    → ((checkout : RequestId) (customer : ℕ) (lines : List PricedLine) (total : ℕ) → b ≡ body.Confirmed checkout customer lines total → ⊥)
    → ((checkout : RequestId) (customer : ℕ) (reason : PayRule) → b ≡ body.Failed checkout customer reason → ⊥)
    → ((request : Request) → b ≡ body.Asked request → ⊥) → stock_fits steps b ≡ false
other_kind steps (body.Changed key version change) changed reserve confirmed failed asked = absurd (changed key version change refl)
other_kind steps (body.Reserve checkout customer lines) changed reserve confirmed failed asked = absurd (reserve checkout customer lines refl)
other_kind steps (body.Confirmed checkout customer lines total) changed reserve confirmed failed asked = absurd (confirmed checkout customer lines total refl)
other_kind steps (body.Failed checkout customer reason) changed reserve confirmed failed asked = absurd (failed checkout customer reason refl)
other_kind steps (body.Asked request) changed reserve confirmed failed asked = absurd (asked request refl)
other_kind steps other changed reserve confirmed failed asked = refl

-- what stock can take
module _ (stocks : Stocks) (from : Link) (b : Body) (can : CanTake Role.Stock Holds stocks from b) where
  -- a change that comes is due
  pub changed_due : (key : ProductKey) (version : ℕ) (change : Change) → b ≡ body.Changed key version change
      → (steps : List Step) → Stands Role.Stock Holds stocks steps → fits Role.Stock steps from b ≡ true → change_fits (look_at stocks.copy key) version change ≡ true
  changed_due key version change is steps stands fit =
      ap (λ look. change_fits look version change) (stands.held.copied key)
      ∙ (fits-parts Role.Stock steps from (body.Changed key version change) (fits_as steps from b (body.Changed key version change) is fit)).due

  -- the pieces of lines that are not refused are free
  pub reserve_free : (checkout : RequestId) (customer : ℕ) (lines : List PricedLine) → b ≡ body.Reserve checkout customer lines
      → first_some (line_refusal (sums_at stocks.copy stocks.levels)) lines ≡ None
      → (k : ProductKey) → (amounts_at stocks.levels k).reserved + pieces_of k lines ≤ (amounts_at stocks.levels k).on_hand
  reserve_free checkout customer lines is accepted k = ∥∥₁_elim can le_prop (λ it.
      let formed = (fits-parts Role.Stock it.0 from (body.Reserve checkout customer lines) (fits_as it.0 from b (body.Reserve checkout customer lines) is it.2)).formed in
      let rise = lines_formed-rise lines (checkout_formed-lines checkout customer lines formed) in
      omega (
        arith,
        pieces_of-free (sums_at stocks.copy stocks.levels) k lines accepted rise,
        reserved-le-on_hand it.0 it.1.run k,
        ap (λ (a : Amounts). a.reserved) (it.1.held.each k),
        ap (λ (a : Amounts). a.on_hand) (it.1.held.each k),
      ))

  -- the pieces of a checkout that is settled are reserved
  pub settle_confirmed : (checkout : RequestId) (customer : ℕ) (lines : List PricedLine) (total : ℕ) → b ≡ body.Confirmed checkout customer lines total
      → IfSome (lines_at stocks.held checkout) (λ lines. (k : ProductKey) → pieces_of k lines ≤ (amounts_at stocks.levels k).reserved)
  settle_confirmed checkout customer lines total is = either (lines_at stocks.held checkout) refl
    where
      either : (o : Option (List PricedLine)) → lines_at stocks.held checkout ≡ o → IfSome o (λ lines. (k : ProductKey) → pieces_of k lines ≤ (amounts_at stocks.levels k).reserved)
      either None found = tt
      either (Some l) found = λ k. ∥∥₁_elim can le_prop (λ it.
          confirmed_can stocks it.0 it.1.held checkout from it.1.run l found customer lines total
          (fits_as it.0 from b (body.Confirmed checkout customer lines total) is it.2) k)

  -- and so are those of one whose payment failed
  pub settle_failed : (checkout : RequestId) (customer : ℕ) (reason : PayRule) → b ≡ body.Failed checkout customer reason
      → IfSome (lines_at stocks.held checkout) (λ lines. (k : ProductKey) → pieces_of k lines ≤ (amounts_at stocks.levels k).reserved)
  settle_failed checkout customer reason is = either (lines_at stocks.held checkout) refl
    where
      either : (o : Option (List PricedLine)) → lines_at stocks.held checkout ≡ o → IfSome o (λ lines. (k : ProductKey) → pieces_of k lines ≤ (amounts_at stocks.levels k).reserved)
      either None found = tt
      either (Some l) found = λ k. ∥∥₁_elim can le_prop (λ it.
          failed_can stocks it.0 it.1.held checkout from it.1.run l found customer reason
          (fits_as it.0 from b (body.Failed checkout customer reason) is it.2) k)

  -- a body of another kind does not fit
  pub no_other : ((key : ProductKey) (version : ℕ) (change : Change) → b ≡ body.Changed key version change → ⊥)
      → ((checkout : RequestId) (customer : ℕ) (lines : List PricedLine) → b ≡ body.Reserve checkout customer lines → ⊥)
      → ((checkout : RequestId) (customer : ℕ) (lines : List PricedLine) (total : ℕ) → b ≡ body.Confirmed checkout customer lines total → ⊥)
      → ((checkout : RequestId) (customer : ℕ) (reason : PayRule) → b ≡ body.Failed checkout customer reason → ⊥)
      → ((request : Request) → b ≡ body.Asked request → ⊥) → ⊥
  no_other changed reserve confirmed failed asked = ∥∥₁_elim can (λ x y. absurd x) (λ it.
      let kind = (fits-parts Role.Stock it.0 from b it.2).due in
      let none = other_kind it.0 b changed reserve confirmed failed asked in
      cc)
