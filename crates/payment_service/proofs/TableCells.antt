-- The cells of the accounts, by their names and by the cards that a run took; the table's are those of the service.
use Rattle.std.proofs.Common.{◌≡◌, ℕ, ◌≤◌, Bool, true, false, ◌==◌, ◌||◌, List, [], ◌∷◌, ◌++◌, Option, Some, None, is_some, codes, filter_map, if◌then◌else◌, refl, ap, sym, subst, ◌∙◌, arith, ap₂}
use Rattle.std.specs.Fmt.{decimal}
use Rattle.std.specs.List.{cons_option}
use Rattle.std.specs.Option.{option_or}
use Rattle.std.specs.Map.{keys_of}
use Rattle.std.proofs.lemmas.Bool.{and_parts, eqb-true, leb-true, or_right}
use Rattle.std.proofs.lemmas.Bool.Decides.{nat_tests}
use Rattle.market_events.specs.declared.bodies.Body.{Body}
use Rattle.market_events.specs.declared.bodies.Body.TheVariants as body
use Rattle.market_events.specs.declared.requests.Ask.{Ask}
use Rattle.market_events.specs.declared.requests.Ask.TheVariants as ask
use Rattle.market_events.specs.CellLists.{Within, cells_by, put_all}
use Rattle.market_events.specs.Cells.{account_text, account_cell, account_cell_asked, payment_cells, cells_of, cells_listed}
use Rattle.market_events.specs.Copies.{last_some}
use Rattle.market_events.specs.Entries.{entry_at}
use Rattle.market_events.specs.Formed.{id_formed, request_id_formed, ask_formed, body_formed}
use Rattle.market_events.specs.Payments.{limit_asked, limit_in, limit_of, spent}
use Rattle.market_events.specs.Services.{Follows, IsRunOf}
use Rattle.market_events.specs.Steps.{Step, taken_bodies}
use Rattle.market_events.specs.WellFormed.{id_max, IsId}
use Rattle.market_events.proofs.NamedCells.Keyed.{IsNaming, HasAll, IsFilled, is_among, cell_of_key, cells_by-each, joined_filled, number_naming, alike, entries_told}
use Rattle.market_events.proofs.Steps.Payments.{limit_of-push}
use Rattle.market_events.proofs.Values.Entries.{entry-among}
use Rattle.market_events.proofs.Steps.Taken.{fits-parts, run_has}
use Rattle.payment_service.specs.declared.tables.Account.{Account}
use Rattle.payment_service.specs.Holds.{Holds}
use Rattle.payment_service.specs.Cells.{name_by, text_by, texts_in, table_cells, card_holder}
use Rattle.market_events.specs.declared.cells.CellName.{CellName}
use Rattle.market_events.specs.Standing.{Stands}
use Rattle.market_events.proofs.NamedCells.Named.{value_at}
use Rattle.market_events.specs.declared.roles.Role.{Role}

-- customers have names of their own
pub naming : IsNaming (λ a b. a == b) name_by IsId
naming = number_naming (codes "account")

-- a text is not empty
pub text_filled : (account : Option Account) → IsFilled (text_by account)
text_filled None = tt
text_filled (Some account) = joined_filled 32 (decimal account.limit) (decimal account.spent) []

-- a table has an entry of each customer with an account
pub keys_all : (table : List (ℕ × Account)) → HasAll (λ a b. a == b) (texts_in table) (keys_of table)
keys_all table c some = by (entry_at table c) refl some
  where
    by : (o : Option Account) → entry_at table c ≡ o → is_some (text_by o) ≡ true → is_among (λ a b. a == b) (keys_of table) c ≡ true
    by None found some = cc
    by (Some account) found some = entry-among table c account found

-- the customer whose card a body sets, and those whose card was set
abbrev pub card_in : Body → Option ℕ
card_in (body.Asked request) = card_holder request.ask
card_in other = None

abbrev pub cards_taken : List Step → List ℕ
cards_taken steps = filter_map card_in (taken_bodies steps)

-- the texts of customers, by the steps
abbrev pub texts_by : List Step → ℕ → Option (List ℕ)
texts_by steps customer = account_text (spent steps customer) (limit_of steps customer)

-- the cells of the service are those of the customers whose card was set
pub payment_cells-by : (steps : List Step) → payment_cells steps ≡ cells_by name_by (texts_by steps) (cards_taken steps)
payment_cells-by steps = cells_by-each name_by (texts_by steps) (account_cell steps) card_in each (taken_bodies steps)
  where
    asked : (a : Ask) → account_cell_asked steps a ≡ cell_of_key name_by (texts_by steps) (card_holder a)
    asked (ask.Card customer limit) = refl
    asked other = refl

    each : (b : Body) → account_cell steps b ≡ cell_of_key name_by (texts_by steps) (card_in b)
    each (body.Asked request) = asked request.ask
    each other = refl

-- a customer with a text has a limit
some_limit : (paid : ℕ) (limit : Option ℕ) → is_some (account_text paid limit) ≡ true → is_some limit ≡ true
some_limit paid None some = some
some_limit paid (Some limit) some = refl

-- a body that sets a limit of the customer sets his card
sets_card : (c : ℕ) (b : Body) (rest : List ℕ) → is_some (limit_in c b) ≡ true → is_among (λ a b. a == b) (cons_option (card_in b) rest) c ≡ true
sets_card c (body.Asked request) rest some = asked request.ask some
  where
    same : (d limit : ℕ) (later : Bool) → is_some (if d == c then Some limit else None) ≡ true → ((c == d) || later) ≡ true
    same d limit later some = grind (arith, nat_tests)

    asked : (a : Ask) → is_some (limit_asked c a) ≡ true → is_among (λ a b. a == b) (cons_option (card_holder a) rest) c ≡ true
    asked (ask.Card d limit) some = same d limit (is_among (λ a b. a == b) rest c) some
    asked other some = cc
sets_card c other rest some = cc

-- a customer with a limit is one of those whose card was set
limit_among : (bodies : List Body) (c : ℕ) → is_some (last_some (limit_in c) bodies) ≡ true → is_among (λ a b. a == b) (filter_map card_in bodies) c ≡ true
limit_among [] c some = some
limit_among (b ∷ more) c some = by (limit_among more c) (last_some (limit_in c) more) refl
  where
    later : (o : Option ℕ) (rest : List ℕ) → is_among (λ a b. a == b) rest c ≡ true → is_among (λ a b. a == b) (cons_option o rest) c ≡ true
    later None rest among = among
    later (Some d) rest among = or_right (c == d) (is_among (λ a b. a == b) rest c) among

    by : (is_some (last_some (limit_in c) more) ≡ true → is_among (λ a b. a == b) (filter_map card_in more) c ≡ true)
        → (o : Option ℕ) → last_some (limit_in c) more ≡ o → is_among (λ a b. a == b) (cons_option (card_in b) (filter_map card_in more)) c ≡ true
    by rest (Some n) e = later (card_in b) (filter_map card_in more) (rest (ap is_some e))
    by rest None e = sets_card c b (filter_map card_in more) (sym (ap (λ o. is_some (option_or o (limit_in c b))) e) ∙ some)

pub all_by : (steps : List Step) → HasAll (λ a b. a == b) (texts_by steps) (cards_taken steps)
all_by steps c some = limit_among (taken_bodies steps) c (some_limit (spent steps c) (limit_of steps c) some)

-- a well-formed body sets the limit of a customer with an id
card_formed : (c : ℕ) (b : Body) → body_formed b ≡ true → (n : ℕ) → limit_in c b ≡ Some n → c ≤ id_max
card_formed c (body.Asked request) formed n is = asked request.ask (and_parts (request_id_formed request.id) (ask_formed request.ask) formed).1 is
  where
    either : (d limit : ℕ) (b : Bool) → (d == c) ≡ b → d ≤ id_max → (if b then Some limit else None) ≡ Some n → c ≤ id_max
    either d limit true same small is = subst (λ c. c ≤ id_max) (eqb-true d c same) small
    either d limit false other small is = cc

    asked : (a : Ask) → ask_formed a ≡ true → limit_asked c a ≡ Some n → c ≤ id_max
    asked (ask.Card d limit) formed is = either d limit (d == c) refl (leb-true d id_max (and_parts (id_formed d) _ formed).0) is
    asked other formed is = cc
card_formed c other formed n is = cc

-- customers with a limit have ids
limit_small : (steps : List Step) → IsRunOf Role.Payment steps → (c : ℕ) → is_some (limit_of steps c) ≡ true → c ≤ id_max
limit_small steps run c = run_has Role.Payment (λ steps. is_some (limit_of steps c) ≡ true → c ≤ id_max) keeps (λ some. cc) steps run
  where
    keeps : (steps : List Step) (s : Step) → Follows Role.Payment steps s → (is_some (limit_of steps c) ≡ true → c ≤ id_max) → is_some (limit_of (steps ++ s ∷ []) c) ≡ true → c ≤ id_max
    keeps steps s follows small some = by (limit_in c s.body) refl
      where
        by : (o : Option ℕ) → limit_in c s.body ≡ o → c ≤ id_max
        by (Some n) e = card_formed c s.body (fits-parts Role.Payment steps s.from s.body follows.fit).formed n e
        by None e = small (sym (ap is_some (limit_of-push steps s c ∙ ap (λ o. option_or o (limit_of steps c)) e)) ∙ some)

pub within_by : (steps : List Step) → IsRunOf Role.Payment steps → Within IsId (texts_by steps)
within_by steps run c some = limit_small steps run c (some_limit (spent steps c) (limit_of steps c) some)

-- the cells of a table have at each name what those of the service have
module _ (table : List (ℕ × Account)) (steps : List Step) (stands : Stands Role.Payment Holds table steps) where
  same_text : (c : ℕ) → texts_in table c ≡ texts_by steps c
  same_text c = ap₂ account_text (stands.held.spent c) (stands.held.limits c)

  pub table_within : Within IsId (texts_in table)
  table_within c some = within_by steps stands.run c (rw (← same_text c) some)

  pub table_same : (name : CellName) → last_some (value_at name) (table_cells table) ≡ last_some (value_at name) (payment_cells steps)
  table_same name =
      alike naming (texts_in table) (texts_by steps) table_within (within_by steps stands.run) (keys_of table) (cards_taken steps) (keys_all table) (all_by steps) name (λ c small is. same_text c)
      ∙ sym (ap (last_some (value_at name)) (payment_cells-by steps))

  pub table_told : cells_listed (table_cells table) ≡ cells_of Role.Payment steps
  table_told = entries_told Role.Payment steps (put_all [] (table_cells table)) (table_cells table) refl table_same
