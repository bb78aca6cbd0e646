-- What was added to a sink, and one piece more.
use Rattle.std.proofs.Common.{◌≡◌, ℕ, ◌+◌, List, [], ◌++◌, length, take, drop, Option, Some, None, refl, ap, ◌∙◌, sym, append_assoc, length-drop, ◌-◌, arith}
use Rattle.std.specs.Option.{option_map}
use Rattle.std.proofs.lemmas.List.{take_all, append-nil}
use Rattle.std.proofs.Math.Seq.{take-add}
use Rattle.market.specs.Output.{Appends}

pub appends_none : (held : Option (List ℕ)) → Appends held held []
appends_none None = refl
appends_none (Some held) = ap Some (sym (append-nil held))

pub appends_more : (a b c : Option (List ℕ)) (xs ys : List ℕ) → Appends a b xs → Appends b c ys → Appends a c (xs ++ ys)
appends_more None b c xs ys first second = second ∙ ap (option_map (λ held. held ++ ys)) first
appends_more (Some held) b c xs ys first second = second ∙ ap (option_map (λ held. held ++ ys)) first ∙ ap Some (append_assoc held xs ys)

-- what stands at a place of the bytes, up to their end, is the next piece
pub take_part : (bytes : List ℕ) (at count : ℕ) → take (at + count) bytes ≡ take at bytes ++ take count (take (length bytes - at) (drop at bytes))
take_part bytes at count =
    let all = take_all (length bytes - at) (drop at bytes) (omega (arith, length-drop at bytes)) in rw all (take-add at count bytes)
