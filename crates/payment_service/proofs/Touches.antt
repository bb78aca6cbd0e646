-- The cells that a body may change, by the steps before it.
use Rattle.std.proofs.Common.{◌≡◌, ℕ, ◌+◌, true, false, ◌==◌, ◌||◌, List, [], ◌∷◌, map, Some, None, codes, refl, ap, ap₂, sym, ◌∙◌, arith}
use Rattle.std.specs.List.{cons_option, list_any, IsDistinct}
use Rattle.std.specs.Ordering.{is_eq}
use Rattle.std.proofs.lemmas.Bool.Decides.{nat_tests}
use Rattle.market_events.specs.declared.bodies.Body.{Body}
use Rattle.market_events.specs.declared.bodies.Body.TheVariants as body
use Rattle.market_events.specs.declared.cells.CellName.{CellName}
use Rattle.market_events.specs.declared.links.Link.{Link}
use Rattle.market_events.specs.declared.requests.Ask.{Ask}
use Rattle.market_events.specs.declared.requests.Ask.TheVariants as ask
use Rattle.market_events.specs.Cells.{account_text, cells_of, text_cmp}
use Rattle.market_events.specs.Copies.{last_some}
use Rattle.market_events.specs.Payments.{PaymentSums, limit_asked, limit_in, spent, payment_asked, payment_rows, payment_sums}
use Rattle.market_events.specs.Services.{IsRunOf, fits}
use Rattle.market_events.specs.Standing.{Stands, with_step, step_of, same_name, is_named, value_of, may_change, tables_asked}
use Rattle.market_events.specs.Steps.{Step}
use Rattle.market_events.proofs.NamedCells.Named.{value_at}
use Rattle.market_events.proofs.NamedCells.Keyed.{is_among, alike, named_list, covers_told, none_some}
use Rattle.market_events.proofs.Steps.Payments.{limit_of-same, spent-push, answers-payment}
use Rattle.market_events.proofs.Runs.Standing.{is_run_push, follows_step_of}
use Rattle.payment_service.specs.declared.tables.Account.{Account}
use Rattle.payment_service.specs.Cells.{name_by, customer_by, card_holder}
use Rattle.payment_service.proofs.Steps.{paid_in, paid_other}
use Rattle.payment_service.proofs.TableCells.{naming, cards_taken, texts_by, payment_cells-by, all_by, within_by}
use Rattle.payment_service.specs.Holds.{Holds}
use Rattle.market_events.specs.declared.roles.Role.{Role}

-- the customers whose accounts a body may change
abbrev pub customers_by : Body → List ℕ
customers_by b = cons_option (customer_by b) []

-- a customer who is not the one
apart : (c d : ℕ) → ((c == d) || false) ≡ false → (d == c) ≡ false
apart c d other = grind (arith, nat_tests)

-- what is left of a customer whose account the body may not change
limit_other : (c : ℕ) (b : Body) → is_among (λ a b. a == b) (customers_by b) c ≡ false → limit_in c b ≡ None
limit_other c (body.Asked request) other = asked request.ask other
  where
    asked : (a : Ask) → is_among (λ a b. a == b) (cons_option (card_holder a) []) c ≡ false → limit_asked c a ≡ None
    asked (ask.Card d limit) other = rw (apart c d other) refl
    asked a other = refl
limit_other c b other = refl

spent_other : (s : PaymentSums) (c : ℕ) (b : Body) → is_among (λ a b. a == b) (customers_by b) c ≡ false → paid_in c (payment_rows s b) ≡ 0
spent_other s c (body.Asked request) other = asked request.ask
  where
    asked : (a : Ask) → paid_in c (payment_asked s request.id a) ≡ 0
    asked (ask.Card d limit) = refl
    asked a = refl
spent_other s c (body.Invoice checkout d lines total) other = paid_other c checkout d lines total (s.limit d) (s.spent d) (apart c d other)
spent_other s c b other = refl

text_other : (steps : List Step) (from : Link) (b : Body) (c : ℕ) → is_among (λ a b. a == b) (customers_by b) c ≡ false
    → texts_by (with_step Role.Payment steps from b) c ≡ texts_by steps c
text_other steps from b c other =
    ap₂ account_text
    (spent-push steps s c ∙ ap (λ made. spent steps c + paid_in c made) (answers-payment steps from b) ∙ same (paid_in c (payment_rows (payment_sums steps) b)) (spent_other (payment_sums steps) c b other))
    (limit_of-same steps s c (limit_other c b other))
  where
    s : Step
    s = step_of Role.Payment steps from b

    same : (n : ℕ) → n ≡ 0 → spent steps c + n ≡ spent steps c
    same n none = omega (arith, none)

-- a name that is not among these has the same value after the step
pub covers : (table : List (ℕ × Account)) (from : Link) (b : Body) (names : List CellName) → names ≡ map name_by (customers_by b)
    → (steps : List Step) → Stands Role.Payment Holds table steps → fits Role.Payment steps from b ≡ true
    → (name : CellName) → is_named names name ≡ false
    → value_of (cells_of Role.Payment (with_step Role.Payment steps from b)) name ≡ value_of (cells_of Role.Payment steps) name
covers table from b names are steps stands fit name other =
    covers_told Role.Payment steps after name
    (ap (last_some (value_at name)) (payment_cells-by after)
    ∙ alike naming (texts_by after) (texts_by steps) (within_by after next) (within_by steps stands.run) (cards_taken after) (cards_taken steps) (all_by after) (all_by steps) name (λ c small is.
    text_other steps from b c (named_list naming (customers_by b) c (ap₂ (λ ns n. is_named ns n) (sym are) (sym is) ∙ other)))
    ∙ sym (ap (last_some (value_at name)) (payment_cells-by steps)))
  where
    after : List Step
    after = with_step Role.Payment steps from b

    next : IsRunOf Role.Payment after
    next = is_run_push Role.Payment steps (step_of Role.Payment steps from b) stands.run (follows_step_of Role.Payment steps from b fit)

-- one name, and none
pub one_distinct : (name : CellName) → IsDistinct same_name (name ∷ [])
unfolding IsDistinct
one_distinct name = (tt, tt)

pub none_distinct : IsDistinct same_name []
unfolding IsDistinct
none_distinct = tt

-- a customer whose account a body may change has its cell in a table that the body may change
pub touched : (b : Body) (c : ℕ) → customer_by b ≡ Some c → may_change Role.Payment b (name_by c) ≡ true
touched (body.Asked request) c is = by request.ask is
  where
    by : (what : Ask) → card_holder what ≡ Some c → list_any (λ (t : List ℕ). is_eq (text_cmp t (codes "account"))) (tables_asked Role.Payment what) ≡ true
    by (ask.Card d limit) e = refl
    by other e = absurd (none_some c e)
touched (body.Invoice checkout customer lines total) c is = refl
touched other c is = absurd (none_some c is)
