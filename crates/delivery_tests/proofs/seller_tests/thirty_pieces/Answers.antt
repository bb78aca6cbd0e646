use Rattle.std.proofs.Common.{◌≡◌, ◌+◌, [], ◌∷◌, ◌++◌, ap₂, sym, ◌∙◌, arith}
use Rattle.std.proofs.lemmas.List.FromFn.{map-range_with_len_more}
use Rattle.market_events.specs.Examples.{a_key, a_line}
use Rattle.delivery_tests.proofs.seller_tests.thirty_pieces.Goals as goal

pub loop-index-preserved : goal.loop-index-preserved
loop-index-preserved c =
    let next : 1 + c.loop-index.index ≡ c.loop-index.index + 1 = omega arith in
    c.in_ok-push.ensures.items ∙ ap₂ (λ lines line. lines ++ line ∷ []) c.loop-index.invariant c.in_ok-line.ensures
    ∙ sym (map-range_with_len_more (λ k. a_line (a_key 8 k) 1 100 0 0) 1 c.loop-index.index (c.loop-index.index + 1) next)
