-- What the words of the command line ask for.
use Rattle.std.specs.Prelude.{ℕ, List, [], ◌∷◌, Option, Some, None, Ok, Err, Result, if◌then◌else◌, ◌&&◌}
use Rattle.std.specs.Prelude.{nat_eq, codes}
use Rattle.std.specs.Cmp.Lexicographic.{pointwise}
use Rattle.market_amounts.specs.declared.numbers.NumberError.{NumberError}
use Rattle.market_amounts.specs.Numbers.{number_of}
use Rattle.market.specs.declared.words.Command.{Command}
use Rattle.market.specs.declared.words.Command.TheVariants.{Run}

-- a run where the seed is a number
abbrev pub run_from : Result ℕ NumberError → Option Command
run_from (Ok seed) = Some (Run seed)
run_from (Err e) = None

-- `run SEED 0` is the one form that is built
abbrev pub command_of : List (List ℕ) → Option Command
command_of (command ∷ seed ∷ trouble ∷ []) =
    if pointwise nat_eq command (codes "run")
    && pointwise nat_eq trouble (codes "0") then run_from (number_of seed 18_446_744_073_709_551_615) else
    None
command_of words = None
