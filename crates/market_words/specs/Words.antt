-- Single words: what a text is cut into, and what is read of a number, an id and a key. Within one word all
-- spelling comes first, and then the ranges of its numbers.
use Rattle.std.specs.Prelude.{ℕ, ◌==◌, Bool, nat_eq, if◌then◌else◌, List, [], ◌∷◌, Option, Some, None, Result}
use Rattle.std.specs.Prelude.{Ok, Err}
use Rattle.std.specs.Borrow.{Bor}
use Rattle.std.specs.Cmp.Lexicographic.{pointwise}
use Rattle.std.specs.List.{slice_split}
use Rattle.market_amounts.specs.declared.keys.ProductKey.{ProductKey}
use Rattle.market_amounts.specs.declared.keys.RequestId.{RequestId}
use Rattle.market_amounts.specs.declared.numbers.NumberError.{NumberError}
use Rattle.market_amounts.specs.declared.numbers.NumberError.TheVariants as number
use Rattle.market_amounts.specs.Numbers.{number_of}
use Rattle.market_words.specs.declared.faults.WordFault.{WordFault}
use Rattle.market_words.specs.declared.faults.WordFault.TheVariants.{Field, Range}
use Rattle.market_words.specs.Names.{id_max}

-- two texts are the same
abbrev pub same_text : List ℕ → List ℕ → Bool
same_text a b = pointwise nat_eq a b

-- what a text is cut into at each byte c
abbrev pub pieces : ℕ → List ℕ → List (List ℕ)
pieces c text = slice_split (λ b. b == c) text

-- both of them, or the first kind of fault that one of them has
abbrev pub both : {A B : Type 0} → Result A WordFault → Result B WordFault → Result (A × B) WordFault
both (Ok a) (Ok b) = Ok (a, b)
both (Ok a) (Err fault) = Err fault
both (Err fault) (Ok b) = Err fault
both (Err Field) (Err fault) = Err Field
both (Err Range) (Err fault) = Err fault

abbrev pub onto : {A B : Type 0} → (A → B) → Result A WordFault → Result B WordFault
onto f (Ok a) = Ok (f a)
onto f (Err fault) = Err fault

-- all of them, or the first kind of fault that one of them has
abbrev pub all_of : {A : Type 0} → List (Result A WordFault) → Result (List A) WordFault
all_of [] = Ok []
all_of (x ∷ xs) = onto (λ p. p.0 ∷ p.1) (both x (all_of xs))

-- a number, by its spelling and then its range
abbrev pub spelled_number : Result ℕ NumberError → Result ℕ WordFault
spelled_number (Ok n) = Ok n
spelled_number (Err number.Empty) = Err Field
spelled_number (Err (number.NotDigit place)) = Err Field
spelled_number (Err number.LeadingZero) = Err Field
spelled_number (Err number.TooLarge) = Err Range

abbrev pub number_up_to : ℕ → List ℕ → Result ℕ WordFault
number_up_to limit text = spelled_number (number_of text limit)

-- a number from 1 on
abbrev pub above_zero : Result ℕ WordFault → Result ℕ WordFault
above_zero (Ok n) = if n == 0 then Err Range else Ok n
above_zero (Err fault) = Err fault

abbrev pub number_id : List ℕ → Result ℕ WordFault
number_id text = number_up_to id_max text

abbrev pub key_in : List ℕ → List ℕ → Result ProductKey WordFault
key_in seller product =
    onto (λ p. record { seller = p.0; product = p.1 }) (both (number_id seller) (number_id product))

abbrev pub id_of_pieces : List (List ℕ) → Result RequestId WordFault
id_of_pieces (caller ∷ n ∷ []) =
    onto (λ p. record { caller = p.0; number = p.1 }) (both (number_id caller) (number_id n))
id_of_pieces other = Err Field

-- CALLER.NUMBER
abbrev pub id_of : List ℕ → Result RequestId WordFault
id_of text = id_of_pieces (pieces 46 text)

abbrev pub key_of_pieces : List (List ℕ) → Result ProductKey WordFault
key_of_pieces (seller ∷ product ∷ []) = key_in seller product
key_of_pieces other = Err Field

-- SELLER:PRODUCT
abbrev pub key_of : List ℕ → Result ProductKey WordFault
key_of text = key_of_pieces (pieces 58 text)

-- the pieces of what is left behind the last cut, if there was one
abbrev pub pieces_left : ℕ → Option (Bor (List ℕ)) → List (List ℕ)
pieces_left c None = []
pieces_left c (Some rest) = pieces c rest.now
