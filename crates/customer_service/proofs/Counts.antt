-- How far the counts can go.
use Rattle.std.proofs.Common.{◌≡◌, ℕ, ◌*◌, ◌<◌, ◌≤◌, true, ◌==◌, List, [], ◌∷◌, ◌++◌, length, nat_le, ◌&&◌, ap, sym, ◌∙◌, arith}
use Rattle.std.proofs.Math.Logic.{∥∥₁_elim}
use Rattle.std.specs.Coded.{le_prop}
use Rattle.std.specs.List.{list_all}
use Rattle.std.proofs.lemmas.Bool.{and_parts, leb-true}
use Rattle.std.proofs.lemmas.List.{length-append, length-map}
use Rattle.std.proofs.lemmas.List.Sums.{count_by-le-length}
use Rattle.market_events.specs.declared.bodies.Body.{Body}
use Rattle.market_events.specs.declared.bodies.Body.TheVariants as body
use Rattle.market_events.specs.declared.bodies.Item.{Item}
use Rattle.market_events.specs.declared.links.Link.{Link}
use Rattle.market_events.specs.Customers.{confirms_for, fails_for}
use Rattle.market_events.specs.Formed.{body_formed, items_formed, item_formed}
use Rattle.market_events.specs.Orders.{items_in, items_taken}
use Rattle.market_events.specs.Services.{RunsFrom, most_steps}
use Rattle.market_events.specs.Standing.{CanTake}
use Rattle.market_events.specs.Steps.{Step, taken_bodies}
use Rattle.market_events.proofs.Runs.Standing.{is_fit}
use Rattle.customer_service.specs.declared.tables.Tally.{Tally}
use Rattle.customer_service.specs.Tables.{tally_at}
use Rattle.customer_service.specs.Holds.{Holds}
use Rattle.market_events.specs.declared.roles.Role.{Role}

-- a well-formed delivery has few items
few_of : (items : List Item) → items_formed items ≡ true → length items ≤ 320
few_of items formed =
    let outer = and_parts (nat_le 1 (length items) && nat_le (length items) 320) (list_all item_formed items) formed in
    let inner = and_parts (nat_le 1 (length items)) (nat_le (length items) 320) outer.0 in
    leb-true (length items) 320 inner.1

-- how many items the steps of a run took
items_few : (role : Role) (before steps : List Step) → RunsFrom role before steps → length (items_taken steps) ≤ 320 * length steps
items_few role before [] run = omega arith
items_few role before (s ∷ more) run =
    let fit = is_fit role before s.from s.body run.0.fit in
    let rest = items_few role (before ++ s ∷ []) more run.1 in
    omega (arith, few_in s.body fit.formed, rest, length-append (items_in s.body) (items_taken more))
  where
    few_in : (b : Body) → body_formed b ≡ true → length (items_in b) ≤ 320
    few_in (body.Delivered items) formed = few_of items formed
    few_in (body.Changed key version change) formed = omega arith
    few_in (body.Reserve checkout customer lines) formed = omega arith
    few_in (body.ReserveFailed checkout key rule) formed = omega arith
    few_in (body.StockConfirmed checkout customer lines) formed = omega arith
    few_in (body.Invoice checkout customer lines total) formed = omega arith
    few_in (body.Confirmed checkout customer lines total) formed = omega arith
    few_in (body.Ended checkout ending) formed = omega arith
    few_in (body.Failed checkout customer rule) formed = omega arith
    few_in (body.Shipped checkout) formed = omega arith
    few_in (body.Asked request) formed = omega arith
    few_in (body.Told id reply) formed = omega arith

module _ (old : List (ℕ × Tally)) (from : Link) (b : Body) (can : CanTake Role.Customer Holds old from b) (c : ℕ) where
  pub confirmed_few : (tally_at old c).confirmed < most_steps
  confirmed_few = ∥∥₁_elim can le_prop (λ it.
      omega (
        arith,
        (is_fit Role.Customer it.0 from b it.2).few,
        ap (λ (t : Tally). t.confirmed) (it.1.held.each c),
        count_by-le-length (confirms_for c) (taken_bodies it.0),
        length-map it.0 (λ (s : Step). s.body),
      ))

  pub failed_few : (tally_at old c).failed < most_steps
  failed_few = ∥∥₁_elim can le_prop (λ it.
      omega (
        arith,
        (is_fit Role.Customer it.0 from b it.2).few,
        ap (λ (t : Tally). t.failed) (it.1.held.each c),
        count_by-le-length (fails_for c) (taken_bodies it.0),
        length-map it.0 (λ (s : Step). s.body),
      ))

  pub delivered_few : (tally_at old c).delivered < 320 * most_steps
  delivered_few = ∥∥₁_elim can le_prop (λ it.
      omega (
        arith,
        (is_fit Role.Customer it.0 from b it.2).few,
        ap (λ (t : Tally). t.delivered) (it.1.held.each c),
        count_by-le-length (λ (i : Item). i.customer == c) (items_taken it.0),
        items_few Role.Customer [] it.0 it.1.run,
      ))

pub items_within : (old : List (ℕ × Tally)) (from : Link) (b : Body) → CanTake Role.Customer Holds old from b → (items : List Item) → b ≡ body.Delivered items → length items ≤ 320
items_within old from b can items is = ∥∥₁_elim can le_prop (λ it. few_of items (sym (ap body_formed is) ∙ (is_fit Role.Customer it.0 from b it.2).formed))
