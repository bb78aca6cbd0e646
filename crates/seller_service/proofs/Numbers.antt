-- The number of the entry that a change is of.
use Rattle.std.proofs.Common.{◌≡◌, ℕ, ◌+◌, ◌<◌, ◌≤◌, zero, suc, true, false, List, [], ◌∷◌, length, take, get_or, if◌then◌else◌, refl, ap, sym, ◌∙◌, arith}
use Rattle.std.specs.List.{list_any}
use Rattle.std.proofs.lemmas.Bool.{or_parts}
use Rattle.std.proofs.lemmas.List.Sums.{length-filter, count_by-le-length}
use Rattle.market_events.specs.Cells.{entry_number}
use Rattle.market_events.specs.Sellers.{SellerChange, is_invoiced, entries_at, same_entry}

-- the first entry that is the change's
pub number-here : (entries : List SellerChange) (i : ℕ) (e c : SellerChange) → i < length entries → e ≡ get_or entries i e
    → list_any (λ (e : SellerChange). same_entry e c) (take i entries) ≡ false → same_entry e c ≡ true → i + 1 ≡ entry_number entries c
number-here [] i e c below is none same = absurd (omega (arith, below))
number-here (x ∷ xs) zero e c below is none same = sym (ap (λ b. if b then 1 else 1 + entry_number xs c) (ap (λ e. same_entry e c) (sym is) ∙ same))
number-here (x ∷ xs) (suc i) e c below is none same =
    let parts = or_parts (same_entry x c) (list_any (λ (e : SellerChange). same_entry e c) (take i xs)) none in
    let less : i < length xs = omega (arith, below) in
    let rest : i + 1 ≡ entry_number xs c = number-here xs i e c less is parts.1 same in
    let next : suc i + 1 ≡ 1 + entry_number xs c = omega (arith, rest) in
    next ∙ sym (ap (λ b. if b then 1 else 1 + entry_number xs c) parts.0)

-- no entry is
pub number-none : (entries : List SellerChange) (c : SellerChange) → list_any (λ (e : SellerChange). same_entry e c) entries ≡ false → length entries + 1 ≡ entry_number entries c
number-none [] c none = refl
number-none (x ∷ xs) c none =
    let parts = or_parts (same_entry x c) (list_any (λ (e : SellerChange). same_entry e c) xs) none in
    let rest : length xs + 1 ≡ entry_number xs c = number-none xs c parts.1 in
    let next : length (x ∷ xs) + 1 ≡ 1 + entry_number xs c = omega (arith, rest) in
    next ∙ sym (ap (λ b. if b then 1 else 1 + entry_number xs c) parts.0)

-- entries are no more than changes
pub entries_few : (changes : List SellerChange) → length (entries_at changes) ≤ length changes
entries_few changes = omega (arith, length-filter is_invoiced changes, count_by-le-length is_invoiced changes)
