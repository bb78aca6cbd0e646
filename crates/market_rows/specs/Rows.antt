-- The rows of journals: each entry is a row, whose text is nine fields with commas between them.
use Rattle.std.specs.Prelude.{ℕ, ◌+◌, List, [], ◌∷◌, ◌++◌, map, codes}
use Rattle.std.specs.Fmt.{decimal}
use Rattle.std.specs.List.{join_with_byte}
use Rattle.market_amounts.specs.declared.keys.RequestId.{RequestId}
use Rattle.market_events.specs.declared.events.Entry.{Entry}
use Rattle.market_events.specs.declared.events.Event.{Event}
use Rattle.market_events.specs.declared.events.What.{What}
use Rattle.market_events.specs.declared.events.What.TheVariants.{Given, Taken, Made, Answered}
use Rattle.market_events.specs.declared.links.Link.{Link}
use Rattle.market_events.specs.declared.links.Link.TheVariants.{Service, Asked, Told}
use Rattle.market_events.specs.declared.replies.Reply.{Reply}
use Rattle.market_events.specs.Texts.{id_text, spaced, text_of_request, text_of_reply, text_of_body}

-- LNUMBER, ALANE.SERVICE or TSERVICE.LANE
abbrev pub link_text : Link → List ℕ
link_text (Service number) = codes "L" ++ decimal number
link_text (Asked lane service) = codes "A" ++ join_with_byte 46 (decimal lane ∷ decimal service ∷ [])
link_text (Told service lane) = codes "T" ++ join_with_byte 46 (decimal service ∷ decimal lane ∷ [])

-- the counts of a past, that of the first service link first
abbrev pub past_text : List ℕ → List ℕ
past_text past = spaced (map decimal past)

-- ID REPLY
abbrev pub answer_text : RequestId → Reply → List ℕ
answer_text id reply = id_text id ++ 32 ∷ text_of_reply reply

-- an event's link, number, clock, past and body
abbrev pub event_fields : Event → List (List ℕ)
event_fields event =
    link_text event.link ∷ decimal event.number ∷ decimal event.clock ∷ past_text event.past
    ∷ text_of_body event.body ∷ []

-- the kind and what belongs to it; the fields of an event are empty where there is none
abbrev pub what_fields : What → List (List ℕ)
what_fields (Given request) = codes "given" ∷ [] ∷ [] ∷ [] ∷ [] ∷ text_of_request request ∷ []
what_fields (Taken event) = codes "taken" ∷ event_fields event
what_fields (Made event) = codes "made" ∷ event_fields event
what_fields (Answered id reply) = codes "answered" ∷ [] ∷ [] ∷ [] ∷ [] ∷ answer_text id reply ∷ []

-- node, place, clock, kind, link, number, the event's clock, past and body
abbrev pub row_fields : ℕ → ℕ → Entry → List (List ℕ)
row_fields node place entry = decimal node ∷ decimal place ∷ decimal entry.clock ∷ what_fields entry.what

-- the text of the entry at this place of the node's journal
abbrev pub text_of_row : ℕ → ℕ → Entry → List ℕ
text_of_row node place entry = join_with_byte 44 (row_fields node place entry)

-- the texts of entries, the first of which stands at this place
abbrev pub rows_from : ℕ → ℕ → List Entry → List (List ℕ)
rows_from node place [] = []
rows_from node place (x ∷ xs) = text_of_row node place x ∷ rows_from node (place + 1) xs

-- the texts of a node's journal
abbrev pub rows_of : ℕ → List Entry → List (List ℕ)
rows_of node entries = rows_from node 0 entries
