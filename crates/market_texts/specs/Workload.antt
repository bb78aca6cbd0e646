-- The request of a workload record, or the first rule that the record breaks.
use Rattle.std.specs.Prelude.{ℕ, ◌==◌, List, [], ◌∷◌, Result, Ok, Err, if◌then◌else◌, codes}
use Rattle.std.specs.Cmp.Lexicographic.{pointwise}
use Rattle.std.specs.Prelude.{nat_eq}
use Rattle.market_amounts.specs.declared.keys.ProductKey.{ProductKey}
use Rattle.market_amounts.specs.declared.numbers.NumberError.{NumberError}
use Rattle.market_amounts.specs.declared.numbers.NumberError.TheVariants.{Empty, NotDigit, LeadingZero}
use Rattle.market_amounts.specs.declared.numbers.NumberError.TheVariants.{TooLarge}
use Rattle.market_amounts.specs.Numbers.{number_of}
use Rattle.market_events.specs.declared.requests.Ask.{Ask}
use Rattle.market_events.specs.declared.requests.Ask.TheVariants as ask
use Rattle.market_events.specs.declared.requests.Request.{Request}
use Rattle.market_texts.specs.declared.workload.WorkRule.{WorkRule}
use Rattle.market_texts.specs.declared.workload.WorkRule.TheVariants as broken
use Rattle.market_words.specs.Results.{◌>>=◌}

-- which rule a text breaks that is no number up to the limit
abbrev pub rule_of_number : NumberError → WorkRule
rule_of_number Empty = broken.Number
rule_of_number (NotDigit place) = broken.Number
rule_of_number LeadingZero = broken.Number
rule_of_number TooLarge = broken.Range

abbrev pub spelled : Result ℕ NumberError → Result ℕ WorkRule
spelled (Ok n) = Ok n
spelled (Err e) = Err (rule_of_number e)

-- a number, by its spelling and then its range
abbrev pub number_field : ℕ → List ℕ → Result ℕ WorkRule
number_field limit text = spelled (number_of text limit)

-- sellers, products, customers, callers and numbers of requests
abbrev pub id_field : List ℕ → Result ℕ WorkRule
id_field text = number_field 4_294_967_295 text

-- prices, freights and vouchers
abbrev pub cents_field : List ℕ → Result ℕ WorkRule
cents_field text = number_field 1_000_000_000 text

-- a number of pieces, which is out of range where it is 0
abbrev pub not_zero : ℕ → Result ℕ WorkRule
not_zero n = if n == 0 then Err broken.Range else Ok n

abbrev pub quantity_field : List ℕ → Result ℕ WorkRule
quantity_field text = number_field 1_000 text >>= not_zero

abbrev pub pieces_field : List ℕ → Result ℕ WorkRule
pieces_field text = number_field 1_000_000_000 text >>= not_zero

-- the limit of a card
abbrev pub limit_field : List ℕ → Result ℕ WorkRule
limit_field text = number_field 1_000_000_000_000_000 text

abbrev pub key_fields : List ℕ → List ℕ → Result ProductKey WorkRule
key_fields seller product =
    id_field seller >>= λ s. id_field product >>= λ p. Ok (record { seller = s; product = p })

-- what f gives of the arguments where there are as many, else the rule that there are not
abbrev pub of_none : {B : Type 0} → Result B WorkRule → List (List ℕ) → Result B WorkRule
of_none result [] = result
of_none result arguments = Err broken.Fields

abbrev pub of_one : {B : Type 0} → (List ℕ → Result B WorkRule) → List (List ℕ) → Result B WorkRule
of_one f (a ∷ []) = f a
of_one f arguments = Err broken.Fields

abbrev pub of_two : {B : Type 0} → (List ℕ → List ℕ → Result B WorkRule) → List (List ℕ) → Result B WorkRule
of_two f (a ∷ b ∷ []) = f a b
of_two f arguments = Err broken.Fields

abbrev pub of_three : {B : Type 0} → (List ℕ → List ℕ → List ℕ → Result B WorkRule) → List (List ℕ)
    → Result B WorkRule
of_three f (a ∷ b ∷ c ∷ []) = f a b c
of_three f arguments = Err broken.Fields

abbrev pub of_four : {B : Type 0} → (List ℕ → List ℕ → List ℕ → List ℕ → Result B WorkRule) → List (List ℕ)
    → Result B WorkRule
of_four f (a ∷ b ∷ c ∷ d ∷ []) = f a b c d
of_four f arguments = Err broken.Fields

abbrev pub of_five : {B : Type 0} → (List ℕ → List ℕ → List ℕ → List ℕ → List ℕ → Result B WorkRule)
    → List (List ℕ) → Result B WorkRule
of_five f (a ∷ b ∷ c ∷ d ∷ e ∷ []) = f a b c d e
of_five f arguments = Err broken.Fields

abbrev pub create_ask : List (List ℕ) → Result Ask WorkRule
create_ask = of_four (λ seller product price freight.
    key_fields seller product >>= λ key. cents_field price >>= λ p. cents_field freight >>= λ f. Ok
    (ask.Create key p f))

abbrev pub price_ask : List (List ℕ) → Result Ask WorkRule
price_ask =
    of_three (λ seller product price. key_fields seller product >>= λ key. cents_field price >>= λ p. Ok
    (ask.Price key p))

abbrev pub delete_ask : List (List ℕ) → Result Ask WorkRule
delete_ask = of_two (λ seller product. key_fields seller product >>= λ key. Ok (ask.Delete key))

abbrev pub view_ask : List (List ℕ) → Result Ask WorkRule
view_ask = of_two (λ seller product. key_fields seller product >>= λ key. Ok (ask.View key))

abbrev pub line_ask : List (List ℕ) → Result Ask WorkRule
line_ask = of_five (λ customer seller product quantity voucher.
    id_field customer >>= λ c. key_fields seller product >>= λ key. quantity_field quantity >>= λ q.
    cents_field voucher >>= λ v.
    Ok (ask.Line c key q v))

abbrev pub remove_ask : List (List ℕ) → Result Ask WorkRule
remove_ask =
    of_three (λ customer seller product. id_field customer >>= λ c. key_fields seller product >>= λ key. Ok
    (ask.Remove c key))

abbrev pub stock_ask : List (List ℕ) → Result Ask WorkRule
stock_ask =
    of_three (λ seller product pieces. key_fields seller product >>= λ key. pieces_field pieces >>= λ p. Ok
    (ask.Stock key p))

abbrev pub level_ask : List (List ℕ) → Result Ask WorkRule
level_ask = of_two (λ seller product. key_fields seller product >>= λ key. Ok (ask.Level key))

abbrev pub checkout_ask : List (List ℕ) → Result Ask WorkRule
checkout_ask = of_one (λ customer. id_field customer >>= λ c. Ok (ask.Checkout c))

abbrev pub order_ask : List (List ℕ) → Result Ask WorkRule
order_ask = of_two (λ caller number.
    id_field caller >>= λ c. id_field number >>= λ n. Ok (ask.Order (record { caller = c; number = n })))

abbrev pub card_ask : List (List ℕ) → Result Ask WorkRule
card_ask = of_two (λ customer limit. id_field customer >>= λ c. limit_field limit >>= λ l. Ok (ask.Card c l))

abbrev pub deliver_ask : List (List ℕ) → Result Ask WorkRule
deliver_ask = of_none (Ok ask.Deliver)

abbrev pub customer_ask : List (List ℕ) → Result Ask WorkRule
customer_ask = of_one (λ customer. id_field customer >>= λ c. Ok (ask.Customer c))

abbrev pub dashboard_ask : List (List ℕ) → Result Ask WorkRule
dashboard_ask = of_one (λ seller. id_field seller >>= λ s. Ok (ask.Dashboard s))

-- what a kind asks for with these arguments
abbrev pub ask_by_kind : List ℕ → List (List ℕ) → Result Ask WorkRule
ask_by_kind kind arguments =
    if pointwise nat_eq kind (codes "create") then create_ask arguments
    else if pointwise nat_eq kind (codes "price") then price_ask arguments
    else if pointwise nat_eq kind (codes "delete") then delete_ask arguments
    else if pointwise nat_eq kind (codes "view") then view_ask arguments
    else if pointwise nat_eq kind (codes "line") then line_ask arguments
    else if pointwise nat_eq kind (codes "remove") then remove_ask arguments
    else if pointwise nat_eq kind (codes "checkout") then checkout_ask arguments
    else if pointwise nat_eq kind (codes "stock") then stock_ask arguments
    else if pointwise nat_eq kind (codes "level") then level_ask arguments
    else if pointwise nat_eq kind (codes "order") then order_ask arguments
    else if pointwise nat_eq kind (codes "card") then card_ask arguments
    else if pointwise nat_eq kind (codes "deliver") then deliver_ask arguments
    else if pointwise nat_eq kind (codes "customer") then customer_ask arguments
    else if pointwise nat_eq kind (codes "dashboard") then dashboard_ask arguments
    else Err broken.Kind

-- the request of a record
abbrev pub request_of : List (List ℕ) → Result Request WorkRule
request_of (caller ∷ number ∷ kind ∷ arguments) =
    id_field caller >>= λ c. id_field number >>= λ n. ask_by_kind kind arguments >>= λ a.
    Ok (record { id = record { caller = c; number = n }; ask = a })
request_of fields = Err broken.Fields
