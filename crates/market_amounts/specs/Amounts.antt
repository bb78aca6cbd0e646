-- What a line costs.
use Rattle.std.specs.Prelude.{ℕ, ◌+◌, ◌-◌, ◌*◌, min}

-- price times quantity, and freight, less the voucher, which takes off at most price times quantity
abbrev pub amount_of : ℕ → ℕ → ℕ → ℕ → ℕ
amount_of price quantity freight voucher = price * quantity + freight - min voucher (price * quantity)
