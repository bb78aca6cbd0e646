-- Where events were made and taken: the words in which pasts are compared with what comes before what.
use Rattle.std.specs.Prelude.{◌≡◌, List, ◌∷◌, ◌++◌, Contains}
use Rattle.market_events.specs.declared.events.Entry.{Entry}
use Rattle.market_events.specs.declared.events.Event.{Event}
use Rattle.market_events.specs.declared.events.What.TheVariants.{Taken}
use Rattle.market_events.specs.declared.links.Link.{Link}
use Rattle.market_events.specs.Links.{sender_of}
use Rattle.market_history.specs.Histories.{Histories, journal_at}
use Rattle.market_history.specs.Sent.{sent}

-- the link's sender made the event on it
abbrev pub IsMadeOn : Histories → Link → Event → Type 0
IsMadeOn h link event = Contains (sent link (journal_at h (sender_of link))) event

-- the journal took the event right after these entries
abbrev pub IsTakenAfter : List Entry → List Entry → Event → Type 0
IsTakenAfter journal before event =
    (x : Entry) × (rest : List Entry) × (x.what ≡ Taken event) × (journal ≡ before ++ x ∷ rest)
