-- One more step: what is answered, and that the tables hold the steps after it.
use Rattle.std.proofs.Common.{◌≡◌, ℕ, ◌+◌, ◌<◌, ◌^◌, Bool, true, false, cond, Some, unwrap_or, if◌then◌else◌, List, [], ◌++◌, filter, length, refl, ap, sym, ◌∙◌, arith, append-nil}
use Rattle.std.proofs.Math.Logic.{∥∥₁_elim}
use Rattle.std.specs.BTreeMap.{is_at}
use Rattle.std.specs.Coded.{le_prop}
use Rattle.std.specs.Map.{lookup}
use Rattle.std.specs.Ordering.{is_eq}
use Rattle.market_amounts.specs.declared.keys.RequestId.{RequestId}
use Rattle.market_events.specs.declared.bodies.Body.{Body}
use Rattle.market_events.specs.declared.bodies.Body.TheVariants as body
use Rattle.market_events.specs.declared.bodies.PricedLine.{PricedLine}
use Rattle.market_events.specs.declared.links.Link.{Link}
use Rattle.market_events.specs.declared.requests.Request.{Request}
use Rattle.market_events.specs.Requests.{same_id}
use Rattle.market_events.specs.Sellers.{SellerSums, invoice_lines, seller_changes, seller_sums, seller_rows}
use Rattle.market_events.specs.declared.roles.Role.{Role}
use Rattle.market_events.specs.Services.{IsRunOf, fits, reactions}
use Rattle.market_events.specs.Standing.{Stands, StandsForSome, CanTake, step_of, with_step}
use Rattle.market_events.specs.Steps.{Step, taken_bodies, id_cmp}
use Rattle.market_events.proofs.Values.Keys.{eq_by_id_cmp}
use Rattle.market_events.proofs.Steps.SellerChanges.{seller_changes-push}
use Rattle.market_events.proofs.Steps.SellerEntries.{answers-seller}
use Rattle.market_events.proofs.Runs.Standing.{reactions-fit, some_can_take}
use Rattle.market_events.proofs.Steps.Taken.{fits-parts, run-few}
use Rattle.market_events.proofs.Runs.Totals.{point-few}
use Rattle.seller_service.specs.Holds.{Holds}
use Rattle.seller_service.specs.Tables.{changes_at, lines_at, sums_at, is_of_seller, brought_by, lines_after, SellerTables}
use Rattle.seller_service.proofs.Changes.{brought-seller, lines-after}

-- the sums of a table are those of the steps
pub sums_same : (tables : SellerTables) (steps : List Step) → Holds tables steps → sums_at tables.ledgers ≡ seller_sums steps
sums_same tables steps is = λ i. record { changes = λ seller. is.changes seller i }

module _ (tables : SellerTables) (steps : List Step) (from : Link) (b : Body) (stands : Stands Role.Seller Holds tables steps) (fit : fits Role.Seller steps from b ≡ true) where
  -- what is made
  pub makes : seller_rows (sums_at tables.ledgers) b ≡ reactions Role.Seller steps from b
  makes =
      ap (λ sums. seller_rows sums b) (sums_same tables steps stands.held) ∙ sym (answers-seller steps from b)
      ∙ sym (reactions-fit Role.Seller steps from b fit)

  -- the tables hold one step more
  pub keeps : (now : SellerTables) → ((seller : ℕ) → changes_at now.ledgers seller ≡ changes_at tables.ledgers seller ++ filter (is_of_seller seller) (brought_by (lines_at tables.invoices) b))
      → ((id : RequestId) → lines_at now.invoices id ≡ lines_after (lines_at tables.invoices) b id) → Holds now (with_step Role.Seller steps from b)
  keeps now changes lines =
      let parts = fits-parts Role.Seller steps from b fit in
      let s = step_of Role.Seller steps from b in
      let same : lines_at tables.invoices ≡ invoice_lines (taken_bodies steps) = λ i id. stands.held.lines id i in
      record {
        changes = λ seller.
            changes seller ∙ (λ i. stands.held.changes seller i ++ filter (is_of_seller seller) (brought_by (same i) b))
            ∙ ap (λ cs. seller_changes steps seller ++ cs) (brought-seller steps stands.run b parts.due seller) ∙ sym (seller_changes-push steps s seller);
        lines = λ id. lines id ∙ ap (λ f. lines_after f b id) same ∙ lines-after steps s b refl parts.due id;
      }

-- a body that is a request leaves what the tables hold
pub keeps_asked : (tables : SellerTables) (steps : List Step) (from : Link) (b : Body) (request : Request) → b ≡ body.Asked request → Stands Role.Seller Holds tables steps → fits Role.Seller steps from b ≡ true
    → Holds tables (with_step Role.Seller steps from b)
keeps_asked tables steps from b request is stands fit =
    keeps tables steps from b stands fit tables
    (λ seller. sym (ap (λ (b : Body). changes_at tables.ledgers seller ++ filter (is_of_seller seller) (brought_by (lines_at tables.invoices) b)) is ∙ append-nil (changes_at tables.ledgers seller)))
    (λ id. sym (ap (λ (b : Body). lines_after (lines_at tables.invoices) b id) is))

-- a body that is no request makes nothing
pub no_rows : (sums : SellerSums) (b : Body) → ((request : Request) → b ≡ body.Asked request → ⊥) → [] ≡ seller_rows sums b
no_rows sums (body.Asked request) other = absurd (other request refl)
no_rows sums b other = refl

-- tables that have the same changes and lines hold the same steps
pub unchanged : (tables now : SellerTables) → ((seller : ℕ) → changes_at now.ledgers seller ≡ changes_at tables.ledgers seller) → ((id : RequestId) → lines_at now.invoices id ≡ lines_at tables.invoices id)
    → (steps : List Step) → Holds tables steps → Holds now steps
unchanged tables now changes lines steps held = record {
  changes = λ seller. changes seller ∙ held.changes seller;
  lines = λ id. lines id ∙ held.lines id;
}

-- a seller's point, and that there is room for as many changes as an event brings
pub point_room : (steps : List Step) → IsRunOf Role.Seller steps → (seller : ℕ) → length (seller_changes steps seller) + 320 < 2 ^ 32
point_room steps run seller = omega (arith, point-few steps run seller, run-few Role.Seller steps run)

pub few_changes : (tables : SellerTables) → StandsForSome Role.Seller Holds tables → (seller : ℕ) → length (changes_at tables.ledgers seller) + 320 < 2 ^ 32
few_changes tables stands seller = ∥∥₁_elim stands le_prop (λ it. omega (arith, point_room it.0 it.1.run seller, ap length (it.1.held.changes seller)))

-- so there is before a step
pub few_before : (tables : SellerTables) (from : Link) (b : Body) → CanTake Role.Seller Holds tables from b → (seller : ℕ) → length (changes_at tables.ledgers seller) + 320 < 2 ^ 32
few_before tables from b can seller = few_changes tables (some_can_take Role.Seller Holds tables tables from b can) seller

-- a table into which the lines of an invoice were put
pub lines_put : (was now : List (RequestId × List PricedLine)) (b : Body) (checkout : RequestId) (customer : ℕ) (lines : List PricedLine) (total : ℕ) → b ≡ body.Invoice checkout customer lines total
    → (id : RequestId) → lookup (is_at (id_cmp id)) now ≡ cond (is_eq (id_cmp checkout id)) (Some lines) (lookup (is_at (id_cmp id)) was)
    → lines_at now id ≡ lines_after (lines_at was) b id
lines_put was now b checkout customer lines total is id put =
    ap (λ o. unwrap_or o []) (put ∙ ap (λ c. cond c (Some lines) (lookup (is_at (id_cmp id)) was)) (eq_by_id_cmp checkout id))
    ∙ by (same_id checkout id) ∙ sym (ap (λ b. lines_after (lines_at was) b id) is)
  where
    by : (c : Bool) → unwrap_or (cond c (Some lines) (lookup (is_at (id_cmp id)) was)) [] ≡ (if c then lines else lines_at was id)
    by true = refl
    by false = refl
