-- What is said of the entry of a row, by what was read of its fields.
use Rattle.std.proofs.Common.{◌≡◌, ℕ, true, false, List, Some, None, if◌then◌else◌, ap, ◌∙◌}
use Rattle.market_events.specs.declared.events.What.{What}
use Rattle.market_events.specs.declared.events.What.TheVariants.{Given, Taken, Made, Answered}
use Rattle.market_rows.specs.Happening.{HasLink, happens}
use Rattle.market_rows.specs.Reading.{◌then◌, RowFields, fields_read, clock_read, what_read, names_place, stamped_read, entry_from, entry_read}
use Rattle.market_rows.proofs.Whats.{IsSpelledWhat, what_spelled}

-- what was read has a link with numbers in their ranges
linked : (w : What) → IsSpelledWhat w → HasLink w
linked (Given request) is = tt
linked (Taken event) is = is.link
linked (Made event) is = is.link
linked (Answered id reply) is = tt

pub has_link : (f : RowFields) (w : What) → what_read f ≡ Some w → HasLink w
has_link f w e = linked w (what_spelled f w e).0

-- by the clock and by what happened
pub stamped_said : (node clock : ℕ) (f : RowFields) (w : What) → clock_read f.clock ≡ Some clock → what_read f ≡ Some w
    → stamped_read node f ≡ (if happens node clock w then Some (record { clock = clock; what = w }) else None)
stamped_said node clock f w timed read =
    ap (λ o. o then λ c. what_read f then λ what. if happens node c what then Some (record { clock = c; what = what }) else None) timed
    ∙ ap (λ o. o then λ what. if happens node clock what then Some (record { clock = clock; what = what }) else None) read

pub stamped_untimed : (node : ℕ) (f : RowFields) → clock_read f.clock ≡ None → stamped_read node f ≡ None
stamped_untimed node f untimed = ap (λ o. o then λ c. what_read f then λ what. if happens node c what then Some (record { clock = c; what = what }) else None) untimed

pub stamped_unread : (node clock : ℕ) (f : RowFields) → clock_read f.clock ≡ Some clock → what_read f ≡ None → stamped_read node f ≡ None
stamped_unread node clock f timed unread =
    ap (λ o. o then λ c. what_read f then λ what. if happens node c what then Some (record { clock = c; what = what }) else None) timed
    ∙ ap (λ o. o then λ what. if happens node clock what then Some (record { clock = clock; what = what }) else None) unread

pub stamped_can : (node clock : ℕ) (f : RowFields) (w : What) → clock_read f.clock ≡ Some clock → what_read f ≡ Some w → happens node clock w ≡ true
    → stamped_read node f ≡ Some (record { clock = clock; what = w })
stamped_can node clock f w timed read can = stamped_said node clock f w timed read ∙ ap (λ b. if b then Some (record { clock = clock; what = w }) else None) can

pub stamped_cannot : (node clock : ℕ) (f : RowFields) (w : What) → clock_read f.clock ≡ Some clock → what_read f ≡ Some w → happens node clock w ≡ false
    → stamped_read node f ≡ None
stamped_cannot node clock f w timed read cannot = stamped_said node clock f w timed read ∙ ap (λ b. if b then Some (record { clock = clock; what = w }) else None) cannot

-- by the node and the place that the fields name
pub entry_unread : (node place : ℕ) (text : List ℕ) → fields_read text ≡ None → entry_read node place text ≡ None
unfolding entry_read
entry_unread node place text unread = ap (λ r. r then λ f. entry_from node place f) unread

pub entry_placed : (node place : ℕ) (text : List ℕ) (f : RowFields) → fields_read text ≡ Some f → names_place node place f ≡ true → entry_read node place text ≡ stamped_read node f
unfolding entry_read
entry_placed node place text f read placed = ap (λ r. r then λ f. entry_from node place f) read ∙ ap (λ b. if b then stamped_read node f else None) placed

pub entry_elsewhere : (node place : ℕ) (text : List ℕ) (f : RowFields) → fields_read text ≡ Some f → names_place node place f ≡ false → entry_read node place text ≡ None
unfolding entry_read
entry_elsewhere node place text f read elsewhere = ap (λ r. r then λ f. entry_from node place f) read ∙ ap (λ b. if b then stamped_read node f else None) elsewhere
