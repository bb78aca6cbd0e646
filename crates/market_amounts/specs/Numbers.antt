-- The number that a text spells, or the first reason why it spells none.
use Rattle.std.specs.Prelude.{ℕ, List, length, not, position, slice_index, if◌then◌else◌, ◌==◌, ◌&&◌, nat_lt}
use Rattle.std.specs.Prelude.{Result, Ok, Err}
use Rattle.std.specs.Option.{option_map_or}
use Rattle.std.specs.Char.{is_ascii_digit}
use Rattle.std.specs.Str.Parse.{digits_value}
use Rattle.market_amounts.specs.declared.numbers.NumberError.{NumberError}
use Rattle.market_amounts.specs.declared.numbers.NumberError.TheVariants.{Empty, NotDigit, LeadingZero}
use Rattle.market_amounts.specs.declared.numbers.NumberError.TheVariants.{TooLarge}

-- a text of digits, of which there is one at least
abbrev pub number_in_digits : List ℕ → ℕ → Result ℕ NumberError
number_in_digits digits limit =
    if nat_lt 1 (length digits) && (slice_index digits 0 == 48) then Err LeadingZero
    else if nat_lt limit (digits_value 10 digits) then Err TooLarge
    else Ok (digits_value 10 digits)

-- what a text says after the test that it is not empty: the first byte that is no digit, or what its digits
-- say
abbrev pub number_of : List ℕ → ℕ → Result ℕ NumberError
number_of text limit =
    if length text == 0 then Err Empty
    else option_map_or (λ place. Err (NotDigit place)) (position (λ byte. not (is_ascii_digit byte)) text)
    (number_in_digits text limit)
