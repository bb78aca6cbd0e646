-- Texts that are read piece by piece, and what a reader that moves on gives.
use Rattle.std.specs.Prelude.{◌≡◌, MatchResult, ℕ, ◌+◌, Bool, true, not, ◌||◌, nat_lt, length, List, [], ◌∷◌}
use Rattle.std.specs.Prelude.{Result, Ok, Err}
use Rattle.market_events.specs.declared.bodies.PricedLine.{PricedLine}
use Rattle.market_texts.specs.declared.faults.BodyError.{BodyError}
use Rattle.market_texts.specs.declared.faults.BodyFault.{BodyFault}
use Rattle.market_words.specs.declared.faults.WordFault.{WordFault}
use Rattle.market_events.specs.declared.replies.OrderStatus.{OrderStatus}
use Rattle.market_texts.specs.Reading.{Words, status_of, in_progress}
use Rattle.market_texts.specs.Readers.{TellsFault}
use Rattle.market_words.specs.Results.{◌>>=◌}
use Rattle.market_events.specs.WellFormed.{most_lines, key_below, keys_rise}

-- a word was taken: it stood first, at this place
abbrev pub WordTaken : Words → Words → ℕ → List ℕ → Type 0
WordTaken old new place text =
    (old.left ≡ text ∷ new.left) × (place ≡ old.place) × (new.place ≡ old.place + 1)

-- what a reader says that gave this and left these words
abbrev pub outcome : {A : Type 0} → Result A BodyError → Words → Result (A × Words) BodyError
outcome (Ok a) words = Ok (a, words)
outcome (Err error) words = Err error

-- the same of a reader that may want memory
abbrev pub Tells : {A : Type 0} → Result A BodyFault → Words → Result (A × Words) BodyError → Type 0
Tells result words said = MatchResult result (λ a. said ≡ Ok (a, words)) (TellsFault said)

-- the status of an entry in progress, of a text
abbrev pub open_status_of : List ℕ → Result OrderStatus WordFault
open_status_of text = status_of text >>= in_progress

-- lines that are too many, or do not stand by rising key
abbrev pub lines_break : List PricedLine → Bool
lines_break lines = nat_lt most_lines (length lines) || not (keys_rise lines)

-- whether the last line, if there is one, is below this one
abbrev pub last_below : List PricedLine → PricedLine → Bool
last_below [] line = true
last_below (a ∷ []) line = key_below a.key line.key
last_below (a ∷ b ∷ more) line = last_below (b ∷ more) line
