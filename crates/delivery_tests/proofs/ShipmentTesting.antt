-- Steps of the tests: each follows those before it.
use Rattle.std.proofs.Common.{◌≡◌, ℕ, true, List, [], ◌∷◌, ◌++◌, map, refl, ap, subst, sym, ◌∙◌}
use Rattle.std.specs.List.{range_with_len}
use Rattle.market_events.specs.declared.bodies.Body.{Body}
use Rattle.market_events.specs.Examples.{an_id, an_item, makes, mug, cup}
use Rattle.market_events.specs.ExamplesShipment.{ships, deliver, arrive, nothing_arrives, of_seller, ten_items, last_item, older_items}
use Rattle.market_events.specs.declared.roles.Role.{Role}
use Rattle.market_events.specs.Services.{Follows, fits, answers}
use Rattle.market_events.specs.Standing.{Stands, StandsForSome, CanTake, with_step}
use Rattle.market_events.specs.Steps.{Step}
use Rattle.shipment_service.specs.declared.service.Shipments.{Shipments}
use Rattle.shipment_service.specs.Holds.{Holds}

-- a package of seller 30, and then one of each of the sellers 1 to 10
abbrev pub thirtieth : Step
thirtieth = ships 1 100 (of_seller 30 ∷ [])

abbrev pub first_ten : Step
first_ten = ships 2 1000 (map of_seller (range_with_len 1 10))

abbrev pub ten_arrive : Step
ten_arrive = makes (deliver 8) (arrive 8 10 10 ten_items)

abbrev pub one_arrives : Step
one_arrives = makes (deliver 9) (arrive 9 1 1 last_item)

abbrev pub none_arrives : Step
none_arrives = makes (deliver 10) (nothing_arrives 10)

-- seller 5 has two packages of checkout 1, and then one of checkout 2
abbrev pub older : Step
older = ships 1 200 (mug ∷ cup ∷ [])

abbrev pub later : Step
later = ships 2 100 (mug ∷ [])

abbrev pub older_arrive : Step
older_arrive = makes (deliver 8) (arrive 8 1 2 older_items)

abbrev pub later_arrives : Step
later_arrives = makes (deliver 9) (arrive 9 1 1 (an_item (an_id 7 2) mug ∷ []))

pub thirtieth_next : Follows Role.Shipment ([]) thirtieth
unfolding fits answers
thirtieth_next = record { fit = refl; made = refl }

pub first_ten_next : Follows Role.Shipment ([] ++ thirtieth ∷ []) first_ten
unfolding fits answers
first_ten_next = record { fit = refl; made = refl }

pub ten_arrive_next : Follows Role.Shipment ([] ++ thirtieth ∷ [] ++ first_ten ∷ []) ten_arrive
unfolding fits answers
ten_arrive_next = record { fit = refl; made = refl }

pub one_arrives_next : Follows Role.Shipment ([] ++ thirtieth ∷ [] ++ first_ten ∷ [] ++ ten_arrive ∷ []) one_arrives
unfolding fits answers
one_arrives_next = record { fit = refl; made = refl }

pub none_arrives_next : Follows Role.Shipment ([] ++ thirtieth ∷ [] ++ first_ten ∷ [] ++ ten_arrive ∷ [] ++ one_arrives ∷ []) none_arrives
unfolding fits answers
none_arrives_next = record { fit = refl; made = refl }

pub older_next : Follows Role.Shipment ([]) older
unfolding fits answers
older_next = record { fit = refl; made = refl }

pub later_next : Follows Role.Shipment ([] ++ older ∷ []) later
unfolding fits answers
later_next = record { fit = refl; made = refl }

pub older_arrive_next : Follows Role.Shipment ([] ++ older ∷ [] ++ later ∷ []) older_arrive
unfolding fits answers
older_arrive_next = record { fit = refl; made = refl }

pub later_arrives_next : Follows Role.Shipment ([] ++ older ∷ [] ++ later ∷ [] ++ older_arrive ∷ []) later_arrives
unfolding fits answers
later_arrives_next = record { fit = refl; made = refl }
