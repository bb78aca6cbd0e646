-- Two links into one node have one slot exactly where they are the same, and so have two links out of one node.
use Rattle.std.proofs.Common.{◌≡◌, ℕ, ◌+◌, ◌<◌, false, ◌==◌, ◌&&◌, refl, arith}
use Rattle.std.proofs.lemmas.Bool.Decides.{nat_tests}
use Rattle.market_events.specs.declared.links.Link.{Link}
use Rattle.market_events.specs.declared.links.Link.TheVariants.{Service, Asked, Told}
use Rattle.market_events.specs.Links.{IsLink, sender_of, receiver_of, same_link}
use Rattle.market_links.specs.Slots.{slot_into, slot_from}
use Rattle.market_links.specs.declared.slots.TheConstants.{SLOTS}

first_of_two : (i j s t : ℕ) → s ≡ t → ((i == j) && (s == t)) ≡ (16 + i == 16 + j)
first_of_two i j s t same = grind (arith, nat_tests)

second_of_two : (i j s t : ℕ) → s ≡ t → ((s == t) && (i == j)) ≡ (16 + i == 16 + j)
second_of_two i j s t same = grind (arith, nat_tests)

service_first : (n i : ℕ) → n < 16 → false ≡ (n == 16 + i)
service_first n i below = grind (arith, nat_tests)

service_second : (n i : ℕ) → n < 16 → false ≡ (16 + i == n)
service_second n i below = grind (arith, nat_tests)

pub apart_into : (a b : Link) → IsLink a → IsLink b → receiver_of a ≡ receiver_of b → same_link a b ≡ (slot_into a == slot_into b)
apart_into (Service m) (Service n) left right same = refl
apart_into (Asked i s) (Asked j t) left right same = first_of_two i j s t same
apart_into (Told s i) (Told t j) left right same = let e : i ≡ j = omega arith in first_of_two s t i j e
apart_into (Service m) (Asked j t) left right same = service_first m j left
apart_into (Service m) (Told t j) left right same = service_first m t left
apart_into (Asked i s) (Service n) left right same = service_second n i right
apart_into (Told s i) (Service n) left right same = service_second n s right
apart_into (Asked i s) (Told t j) left right same = absurd (omega arith)
apart_into (Told s i) (Asked j t) left right same = absurd (omega arith)

pub apart_from : (a b : Link) → IsLink a → IsLink b → sender_of a ≡ sender_of b → same_link a b ≡ (slot_from a == slot_from b)
apart_from (Service m) (Service n) left right same = refl
apart_from (Asked i s) (Asked j t) left right same = let e : i ≡ j = omega arith in second_of_two s t i j e
apart_from (Told s i) (Told t j) left right same = second_of_two i j s t same
apart_from (Service m) (Asked j t) left right same = service_first m t left
apart_from (Service m) (Told t j) left right same = service_first m j left
apart_from (Asked i s) (Service n) left right same = service_second n s right
apart_from (Told s i) (Service n) left right same = service_second n i right
apart_from (Asked i s) (Told t j) left right same = absurd (omega arith)
apart_from (Told s i) (Asked j t) left right same = absurd (omega arith)

pub into_below : (a : Link) → IsLink a → slot_into a < SLOTS
into_below (Service m) link = omega arith
into_below (Asked i s) link = omega arith
into_below (Told s i) link = omega arith

pub from_below : (a : Link) → IsLink a → slot_from a < SLOTS
from_below (Service m) link = omega arith
from_below (Asked i s) link = omega arith
from_below (Told s i) link = omega arith
