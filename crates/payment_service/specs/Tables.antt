-- The table of accounts: what it has of a customer, and what a body leaves of it.
use Rattle.std.specs.Prelude.{ℕ, ◌+◌, ◌==◌, nat_le, List, Option, Some, None, Result, Ok, Err, if◌then◌else◌}
use Rattle.market_events.specs.declared.bodies.Body.{Body}
use Rattle.market_events.specs.declared.bodies.Body.TheVariants as body
use Rattle.market_events.specs.declared.bodies.PayRule.{PayRule}
use Rattle.market_events.specs.declared.bodies.PayRule.TheVariants as pay
use Rattle.market_events.specs.declared.requests.Ask.{Ask}
use Rattle.market_events.specs.declared.requests.Ask.TheVariants as ask
use Rattle.market_events.specs.Entries.{entry_at}
use Rattle.market_events.specs.Payments.{PaymentSums}
use Rattle.payment_service.specs.declared.tables.Account.{Account}

-- the limit and what was spent, of a customer with an account or without one
abbrev pub limit_held : Option Account → Option ℕ
limit_held None = None
limit_held (Some account) = Some account.limit

abbrev pub spent_in : Option Account → ℕ
spent_in None = 0
spent_in (Some account) = account.spent

-- what the table has of the customer
abbrev pub account_at : List (ℕ × Account) → ℕ → Option Account
account_at table customer = entry_at table customer

abbrev pub limit_at : List (ℕ × Account) → ℕ → Option ℕ
limit_at table customer = limit_held (account_at table customer)

abbrev pub spent_at : List (ℕ × Account) → ℕ → ℕ
spent_at table customer = spent_in (account_at table customer)

-- the sums of payments, as the table has them
abbrev pub sums_at : List (ℕ × Account) → PaymentSums
sums_at table = record { limit = limit_at table; spent = spent_at table }

-- the account after a payment of this total, or why it is not paid
abbrev pub account_paid : Option Account → ℕ → Result Account PayRule
account_paid None total = Err pay.NoCard
account_paid (Some account) total =
    if nat_le (account.spent + total) account.limit
    then Ok (record { limit = account.limit; spent = account.spent + total })
    else Err pay.OverLimit

-- what an invoice leaves of an account
abbrev pub left_by : Option Account → Result Account PayRule → Option Account
left_by before (Ok account) = Some account
left_by before (Err rule) = before

abbrev pub billed : ℕ → Option Account → Option Account
billed total before = left_by before (account_paid before total)

-- what a body leaves of the customer's account
abbrev pub account_asked : ℕ → Ask → Option Account → Option Account
account_asked customer (ask.Card c limit) before =
    if c == customer then Some (record { limit = limit; spent = spent_in before }) else before
account_asked customer other before = before

abbrev pub account_after : ℕ → Body → Option Account → Option Account
account_after customer (body.Asked request) before = account_asked customer request.ask before
account_after customer (body.Invoice checkout c lines total) before =
    if c == customer then billed total before else before
account_after customer other before = before
