-- Histories that are not lawful, each with what the laws on lawful histories say, which is false of it.
use Rattle.std.specs.Prelude.{◌≡◌, ℕ, ◌+◌, ◌^◌, ◌<◌, ◌≤◌, List, [], ◌∷◌, slice_index, replicate, Contains}
use Rattle.std.specs.Prelude.{count_by}
use Rattle.std.specs.List.{AllByRecursion, sum_by}
use Rattle.market_events.specs.declared.bodies.Body.TheVariants as body
use Rattle.market_events.specs.declared.bodies.PayRule.TheVariants as pay
use Rattle.market_events.specs.declared.changes.Change.TheVariants.{Priced}
use Rattle.market_events.specs.declared.events.Entry.{Entry}
use Rattle.market_events.specs.declared.events.Event.{Event}
use Rattle.market_events.specs.declared.links.Link.TheVariants.{Asked, Told}
use Rattle.market_events.specs.declared.links.TheConstants.{PRODUCT_TO_CART, PRODUCT_TO_STOCK, CART_TO_STOCK}
use Rattle.market_events.specs.declared.links.TheConstants.{STOCK_TO_ORDER, PAYMENT_TO_STOCK}
use Rattle.market_events.specs.declared.replies.Reply.TheVariants as reply
use Rattle.market_events.specs.declared.replies.Rule.TheVariants as rule
use Rattle.market_events.specs.declared.requests.Ask.TheVariants as ask
use Rattle.market_events.specs.declared.requests.Request.{Request}
use Rattle.market_events.specs.Carts.{changes_taken}
use Rattle.market_events.specs.Links.{cart_node, product_node, stock_node, order_node, index_of}
use Rattle.market_events.specs.Orders.{is_of}
use Rattle.market_events.specs.Products.{changes_made}
use Rattle.market_events.specs.declared.roles.Role.{Role}
use Rattle.market_events.specs.Stocks.{Reservation, pieces_of, reserved}
use Rattle.market_history.specs.Book.{tables_at_end}
use Rattle.market_history.specs.declared.schedule.Step.{Step}
use Rattle.market_history.specs.Blocks.{service_steps}
use Rattle.market_history.specs.Causality.{IsBefore, events_taken}
use Rattle.market_history.specs.Checkouts.{listed_reservations}
use Rattle.market_history.specs.Examples.{mug, id, request, give, event, given, taken, made, answered, create}
use Rattle.market_history.specs.Examples.{created, caller_lane, caller_node}
use Rattle.market_history.specs.ExamplesCreate.{past, asked, to_stock, to_cart, to_lane}
use Rattle.market_history.specs.Histories.{Histories, journal_at, with_journal, no_histories, IsHistories}
use Rattle.market_history.specs.Lawful.{IsLawful, IsLawfulAt}
use Rattle.market_history.specs.Schedule.{IsStep, merged, outcomes, play}
use Rattle.market_history.specs.Sent.{IsPrefixOf}
use Rattle.market_laws.specs.Copies.{ShowsFirst}
use Rattle.market_laws.specs.CounterexampleValues.{asks_for, held_for, reserve_for}
use Rattle.market_laws.specs.Entries.{total_entries}
use Rattle.market_laws.specs.Fitting.{EachFits, EachInTime}
use Rattle.market_laws.specs.Grown.{Grown}
use Rattle.market_laws.specs.Merged.{IsDone}
use Rattle.market_laws.specs.Pasts.{IsMadeOn, IsTakenAfter}
use Rattle.market_laws.specs.Settling.{on_its_way}

-- histories in which only one node has entries, and those of two and three
abbrev pub of_one : ℕ → List Entry → Histories
of_one n entries = with_journal no_histories n entries

abbrev pub of_two : ℕ → List Entry → ℕ → List Entry → Histories
of_two m first n second = with_journal (of_one m first) n second

abbrev pub of_three : ℕ → List Entry → ℕ → List Entry → ℕ → List Entry → Histories
of_three m first n second k third = with_journal (of_two m first n second) k third

-- a lane's first request at clock 9
abbrev pub given_late : Histories
given_late =
    of_one caller_node (given 9 (request 1 create)
    ∷ made (event (Asked caller_lane product_node) 1 10 (past 0 0) (asks_for 1 create)) ∷ [])

-- a request for no pieces, which is not well formed
abbrev pub misfit : Step
misfit = give 1 (ask.Stock mug 0)

-- the same request, over and over
unfoldable pub given_again : ℕ → Histories
given_again n =
    of_one caller_node (given 1 (request 1 create) ∷ given 1 (request 1 create)
    ∷ replicate n (given 1 (request 1 create)))

-- the node of a lane that is not the caller's
abbrev pub another_lane_node : ℕ
another_lane_node = caller_node + 1

-- a request at a lane that is not its own
abbrev pub given_elsewhere : Histories
given_elsewhere = of_one another_lane_node (given 1 (request 1 create) ∷ [])

-- clocks that are not due, a request not well formed, too many entries, and an entry at another's place
pub record GrowthCounterexamples : Type 0 where
  -- clocks_are_at_most_the_entries
  pub late_unlawful : IsLawful given_late → ⊥
  pub late_clocks : AllByRecursion (λ (x : Entry). x.clock ≤ total_entries given_late)
      (journal_at given_late caller_node) → ⊥
  -- lawful_journals_are_grown: neither
  pub late_journal : IsLawfulAt caller_node (journal_at given_late caller_node) → ⊥
  pub late_grown : Grown caller_node (journal_at given_late caller_node) → ⊥
  -- play_keeps_lawful
  pub misfit_no_step : IsStep misfit → ⊥
  pub misfit_left : IsLawful (play no_histories (misfit ∷ [])) → ⊥
  -- entries_are_few
  pub again_unlawful : IsLawful (given_again (2 ^ 24)) → ⊥
  pub again_few : (total_entries (given_again (2 ^ 24)) < 2 ^ 24) → ⊥
  -- lawful_histories_are_histories
  pub elsewhere_unlawful : IsLawful given_elsewhere → ⊥
  pub elsewhere_histories : IsHistories given_elsewhere → ⊥

-- made by products with no request: a price of a product that is not there, and a reply
abbrev pub priced_unknown : Event
priced_unknown = event PRODUCT_TO_CART 1 1 (past 0 0) (body.Changed mug 2 (Priced 1200))

abbrev pub told_unasked : Event
told_unasked = event (Told product_node caller_lane) 1 2 (past 1 0) (body.Told (id 1) (reply.Priced 2))

abbrev pub from_nothing : Histories
from_nothing =
    of_three product_node (made priced_unknown ∷ made told_unasked ∷ []) cart_node (taken 2 priced_unknown
    ∷ [])
    caller_node (taken 3 told_unasked ∷ answered 4 (id 1) (reply.Priced 2) ∷ [])

-- the cart and stock took changes that were never made
abbrev pub never_made : Histories
never_made = of_two cart_node (taken 6 to_cart ∷ []) stock_node (taken 5 to_stock ∷ [])

abbrev pub view : Request
view = request 2 (ask.View mug)

-- a lane was given a request while the one before it had no reply
abbrev pub given_while_waiting : Histories
given_while_waiting =
    of_one caller_node (given 1 (request 1 create) ∷ made asked
    ∷ given 3 view ∷ made (event (Asked caller_lane cart_node) 1 4 (past 0 0) (body.Asked view)) ∷ [])

-- events that do not fit, copies of no changes, and schedules that do not lead back
pub record TakingCounterexamples : Type 0 where
  -- events_fit
  pub nothing_unlawful : IsLawful from_nothing → ⊥
  pub nothing_fits : EachFits cart_node (journal_at from_nothing cart_node) → ⊥
  pub nothing_in_time : EachInTime (journal_at from_nothing caller_node) → ⊥
  -- copies_are_of_a_front
  pub never_unlawful : IsLawful never_made → ⊥
  pub never_cart : IsPrefixOf (changes_taken (service_steps never_made Role.Cart))
      (changes_made (service_steps never_made Role.Product)) → ⊥
  pub never_stock : IsPrefixOf (changes_taken (service_steps never_made Role.Stock))
      (changes_made (service_steps never_made Role.Product)) → ⊥
  pub never_cart_shows : ShowsFirst (tables_at_end never_made).cart_copy
      (changes_made (service_steps never_made Role.Product)) → ⊥
  pub never_stock_shows : ShowsFirst (tables_at_end never_made).stock_copy
      (changes_made (service_steps never_made Role.Product)) → ⊥
  -- merged_schedules_leave_the_histories
  pub never_left : (play no_histories (merged never_made) ≡ never_made) → ⊥
  pub never_done : AllByRecursion IsDone (outcomes no_histories (merged never_made)) → ⊥
  pub waiting_unlawful : IsLawful given_while_waiting → ⊥
  pub waiting_left : (play no_histories (merged given_while_waiting) ≡ given_while_waiting) → ⊥
  pub waiting_done : AllByRecursion IsDone (outcomes no_histories (merged given_while_waiting)) → ⊥

-- a change to the cart whose past does not tell of the one to stock before it
abbrev pub forgetting : Event
forgetting = event PRODUCT_TO_CART 1 5 (past 0 0) created

abbrev pub forgetful : Histories
forgetful =
    of_two product_node (taken 3 asked ∷ made to_stock ∷ made forgetting ∷ made to_lane ∷ [])
    caller_node (given 1 (request 1 create) ∷ made asked ∷ [])

-- the cart takes a request for a line before the change that the lane was told of
abbrev pub asks_line : Event
asks_line = event (Asked caller_lane cart_node) 1 10 (past 1 1) (asks_for 2 (ask.Line 7 mug 1 0))

abbrev pub told_unknown : Event
told_unknown =
    event (Told cart_node caller_lane) 1 12 (past 1 1) (body.Told (id 2) (reply.Refused rule.Unknown))

abbrev pub taken_early : Histories
taken_early =
    of_three product_node (taken 3 asked ∷ made to_stock ∷ made to_cart ∷ made to_lane ∷ [])
    caller_node (given 1 (request 1 create) ∷ made asked ∷ taken 7 to_lane
    ∷ answered 8 (id 1) (reply.Created 1) ∷ given 9 (request 2 (ask.Line 7 mug 1 0)) ∷ made asks_line ∷ [])
    cart_node (taken 11 asks_line ∷ made told_unknown ∷ [])

-- pasts_are_causal_order: pasts that forget, and an event that is taken before its cause
pub record CausalCounterexamples : Type 0 where
  -- it is before the other, and not counted in its past
  pub forgetful_unlawful : IsLawful forgetful → ⊥
  pub forgetful_first : IsMadeOn forgetful PRODUCT_TO_STOCK to_stock
  pub forgetful_then : IsMadeOn forgetful PRODUCT_TO_CART forgetting
  pub forgetful_before : IsBefore (journal_at forgetful) to_stock forgetting
  pub forgetful_counted : (to_stock.number ≤ slice_index forgetting.past (index_of PRODUCT_TO_STOCK)) → ⊥
  -- it is before the other, and not taken before it
  pub early_unlawful : IsLawful taken_early → ⊥
  pub early_before : IsBefore (journal_at taken_early) to_cart asks_line
  pub early_taken : IsTakenAfter (journal_at taken_early cart_node) [] asks_line
  pub early_first : Contains (events_taken []) to_cart → ⊥

-- pieces that are held with no cause, and that orders took
abbrev pub held : Event
held = event STOCK_TO_ORDER 1 1 (past 0 0) (held_for 7)

abbrev pub held_from_nothing : Histories
held_from_nothing = of_two stock_node (made held ∷ []) order_node (taken 2 held ∷ [])

-- stock keeps a reservation although it took a failure: of another customer, which does not fit
abbrev pub stocks : Event
stocks = event (Asked caller_lane stock_node) 1 8 (past 0 1) (asks_for 2 (ask.Stock mug 3))

abbrev pub reserves : Event
reserves = event CART_TO_STOCK 1 12 (past 0 1) (reserve_for 7)

abbrev pub fails_another : Event
fails_another = event PAYMENT_TO_STOCK 1 20 (past 0 1) (body.Failed (id 5) 8 pay.NoCard)

abbrev pub kept_after_failed : Histories
kept_after_failed =
    of_one stock_node (taken 5 to_stock ∷ taken 9 stocks ∷ taken 13 reserves
    ∷ made (event STOCK_TO_ORDER 1 14 (past 0 1) (held_for 7)) ∷ taken 21 fails_another ∷ [])

-- reserved_is_listed: reservations that are listed and not kept, wait for nothing, or are kept and not listed
pub record ReservedCounterexamples : Type 0 where
  pub nothing_unlawful : IsLawful held_from_nothing → ⊥
  pub nothing_sum : (reserved (service_steps held_from_nothing Role.Stock) mug
      ≡ sum_by (λ (r : Reservation). pieces_of mug r.lines) (listed_reservations held_from_nothing)) → ⊥
  pub nothing_waits : AllByRecursion (λ (r : Reservation). on_its_way held_from_nothing r.checkout ≡ 1)
      (listed_reservations held_from_nothing) → ⊥
  pub nothing_listed : (on_its_way held_from_nothing (id 5)
      ≡ count_by (is_of (id 5)) (listed_reservations held_from_nothing)) → ⊥
  pub failed_unlawful : IsLawful kept_after_failed → ⊥
  pub failed_sum : (reserved (service_steps kept_after_failed Role.Stock) mug
      ≡ sum_by (λ (r : Reservation). pieces_of mug r.lines) (listed_reservations kept_after_failed)) → ⊥
