-- The journal of the product service after it made two changes: clocks, numbers, pasts and what is matched.
use Rattle.std.specs.Prelude.{◌≡◌, ℕ, ◌==◌, List, [], ◌∷◌, if◌then◌else◌, replicate}
use Rattle.market_events.specs.declared.bodies.Body.TheVariants as body
use Rattle.market_events.specs.declared.changes.Change.{Change}
use Rattle.market_events.specs.declared.changes.Change.TheVariants.{Created, Priced}
use Rattle.market_events.specs.declared.events.Entry.{Entry}
use Rattle.market_events.specs.declared.events.Event.{Event}
use Rattle.market_events.specs.declared.links.TheConstants.{PRODUCT_TO_CART, PRODUCT_TO_STOCK}
use Rattle.market_events.specs.Links.{product_node, index_of}
use Rattle.market_history.specs.Causality.{known, HasPasts, IsBefore}
use Rattle.market_history.specs.Examples.{mug, event, taken, made}
use Rattle.market_history.specs.Sent.{sent, IsNumbered, IsMatchedOn}
use Rattle.market_history.specs.Stamps.{IsStamped}

-- the change of this number for the cart, after as many of them as this
abbrev pub mug_sent : ℕ → ℕ → Change → Event
mug_sent number before change =
    event PRODUCT_TO_CART number number (before ∷ replicate 15 0) (body.Changed mug number change)

abbrev pub first : Event
first = mug_sent 1 0 (Created 1000 50)

abbrev pub second : Event
second = mug_sent 2 1 (Priced 1200)

abbrev pub two_changes : List Entry
two_changes = made first ∷ made second ∷ []

-- the journals of all nodes, of which only the product's has entries
abbrev pub journals_of_two : ℕ → List Entry
journals_of_two node = if node == product_node then two_changes else []

pub record LinkExamples : Type 0 where
  pub known_for_the_cart : known two_changes (index_of PRODUCT_TO_CART) ≡ 2
  pub known_for_stock : known two_changes (index_of PRODUCT_TO_STOCK) ≡ 0
  pub stamped : IsStamped two_changes
  pub pasts : HasPasts two_changes
  pub sent_to_the_cart : sent PRODUCT_TO_CART two_changes ≡ first ∷ second ∷ []
  pub numbered : IsNumbered (sent PRODUCT_TO_CART two_changes)
  -- a receiver that took the first change alone
  pub matched : IsMatchedOn PRODUCT_TO_CART two_changes (taken 2 first ∷ [])
  pub before : IsBefore journals_of_two first second
