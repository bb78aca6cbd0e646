-- What is read of an event by its number.
use Rattle.std.proofs.Common.{◌≡◌, ◌≢◌, ℕ, ◌-◌, List, Some, None, ap, ◌∙◌, arith}
use Rattle.std.specs.Prelude.{slice_get}
use Rattle.market_events.specs.declared.events.Entry.{Entry}
use Rattle.market_events.specs.declared.links.Link.{Link}
use Rattle.market_events.specs.Links.{IsLink, sender_of}
use Rattle.market_history.specs.Sent.{event_made_on, sent, IsNumbered}
use Rattle.market_links.specs.Slots.{slot_from}
use Rattle.market_node.specs.Notes.{AreNotes, places_of, at_slot, event_with}
use Rattle.market_node.specs.PlaceStates.{PlaceState}
use Rattle.market_node.proofs.PlaceLaws.{no_place, event_with-at}
use Rattle.market_node.proofs.ReadLaws.{of_entry, event_there}

-- nothing where there is no place
pub no_event : (link : Link) (xs : List Entry) (number : ℕ) → IsNumbered (sent link xs) → number ≢ 0 → slice_get (places_of link xs) (number - 1) ≡ None → event_with link number xs ≡ None
no_event link xs number numbered positive none =
    event_with-at link xs (number - 1) number numbered (omega arith) ∙ no_place link xs (number - 1) none

-- and else the event of the entry there
pub event_found : (link : Link) (xs : List Entry) (number place : ℕ) → IsNumbered (sent link xs) → number ≢ 0 → slice_get (places_of link xs) (number - 1) ≡ Some place → event_with link number xs ≡ of_entry (event_made_on link) (slice_get xs place)
event_found link xs number place numbered positive at =
    event_with-at link xs (number - 1) number numbered (omega arith) ∙ event_there link xs (number - 1) place at

-- the places at a slot are those of its link
pub noted_place : (node : ℕ) (xs : List Entry) (clock : ℕ) (known services receivers : List ℕ) (lists : List PlaceState) (link : Link) (slot index : ℕ) → AreNotes node xs clock known services receivers lists → IsLink link → sender_of link ≡ node
    → slot ≡ slot_from link → slice_get (at_slot lists slot).places index ≡ slice_get (places_of link xs) index
noted_place node xs clock known services receivers lists link slot index notes is from at =
    ap (λ i. slice_get (at_slot lists i).places index) at ∙ ap (λ (ps : List ℕ). slice_get ps index) (notes.places link is from)
