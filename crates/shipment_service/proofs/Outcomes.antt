-- Two facts of an outcome as one, and a fact that always holds.
use Rattle.std.proofs.Common.{Result, Ok, Err, OnOk, OnErr}

-- two facts of an outcome, as one
pub on_ok2 : {X E P Q R : Type 0} → (P → Q → R) → (r : Result X E) → OnOk r P → OnOk r Q → OnOk r R
on_ok2 to (Ok x) p q = to p q
on_ok2 to (Err e) p q = tt

pub on_err2 : {X E P Q R : Type 0} → (P → Q → R) → (r : Result X E) → OnErr r P → OnErr r Q → OnErr r R
on_err2 to (Ok x) p q = tt
on_err2 to (Err e) p q = to p q

-- a fact that always holds
pub any_err : {X E P : Type 0} → P → (r : Result X E) → OnErr r P
any_err p (Ok x) = tt
any_err p (Err e) = p
