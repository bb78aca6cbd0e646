-- Histories in which no outstanding event is the oldest, two are, or the oldest is not found or not taken.
use Rattle.std.specs.Prelude.{◌≡◌, ℕ, [], ◌∷◌, Some, ◌⊎◌}
use Rattle.market_events.specs.declared.events.Event.{Event}
use Rattle.market_events.specs.declared.events.Offer.TheVariants as offers
use Rattle.market_events.specs.declared.links.Link.{Link}
use Rattle.market_events.specs.Links.{IsLink, cart_node, product_node}
use Rattle.market_events.specs.declared.links.TheConstants.{PRODUCT_TO_CART, PRODUCT_TO_STOCK}
use Rattle.market_history.specs.declared.schedule.Outcome.TheVariants as outcomes
use Rattle.market_history.specs.declared.schedule.Step.TheVariants as moves
use Rattle.market_history.specs.Examples.{event, taken, made, created}
use Rattle.market_history.specs.ExamplesCreate.{past}
use Rattle.market_history.specs.Histories.{Histories}
use Rattle.market_history.specs.Lawful.{IsLawful}
use Rattle.market_history.specs.Outstanding.{IsSettled, IsOldest}
use Rattle.market_history.specs.Schedule.{event_at, offered, outcome_of}
use Rattle.market_laws.specs.CounterexamplesHistories.{of_one, of_two}

-- a change to the cart with this number and clock, and this count of those to the cart before it
abbrev pub to_cart_at : ℕ → ℕ → ℕ → Event
to_cart_at number clock before = event PRODUCT_TO_CART number clock (past before 0) created

-- the second change has a smaller clock than the first
abbrev pub falling : Histories
falling = of_one product_node (made (to_cart_at 1 5 0) ∷ made (to_cart_at 2 3 1) ∷ [])

-- changes to stock and to the cart with the same clock
abbrev pub twins : Histories
twins = of_one product_node (made (event PRODUCT_TO_STOCK 1 4 (past 0 0) created)
    ∷ made (to_cart_at 1 4 0) ∷ [])

-- two changes with the same number, of which the first was taken
abbrev pub alike : Histories
alike = of_two product_node (made (to_cart_at 1 1 0) ∷ made (to_cart_at 1 2 1)
    ∷ []) cart_node (taken 3 (to_cart_at 1 1 0) ∷ [])

-- a change that rests on five of its own link, which were never made
abbrev pub ahead : Histories
ahead = of_one product_node (made (to_cart_at 1 1 5) ∷ [])

-- the_oldest_event_is_taken
pub record OldestCounterexamples : Type 0 where
  pub falling_unlawful : IsLawful falling → ⊥
  pub falling_oldest : (IsSettled falling ⊎ ((link : Link) × (number : ℕ)
      × IsLink link × IsOldest falling link number)) → ⊥
  pub twins_unlawful : IsLawful twins → ⊥
  pub twins_oldest : IsOldest twins PRODUCT_TO_CART 1
  pub twins_other : IsOldest twins PRODUCT_TO_STOCK 1
  pub twins_only : ((PRODUCT_TO_CART ≡ PRODUCT_TO_STOCK) × (◌≡◌ {A = ℕ} 1 1)) → ⊥
  pub alike_unlawful : IsLawful alike → ⊥
  pub alike_oldest : IsOldest alike PRODUCT_TO_CART 1
  pub alike_found : (event_at alike PRODUCT_TO_CART 1 ≡ Some alike_oldest.event) → ⊥
  pub ahead_unlawful : IsLawful ahead → ⊥
  pub ahead_oldest : IsOldest ahead PRODUCT_TO_CART 1
  pub ahead_taken : (offered ahead ahead_oldest.event ≡ offers.Take) → ⊥
  pub ahead_comes : (outcome_of ahead (moves.Offer PRODUCT_TO_CART 1) ≡ outcomes.Offered offers.Take) → ⊥
