-- The numbers of the events under way, and the window over them.
use Rattle.std.proofs.Common.{◌≡◌, ℕ, zero, suc, ◌+◌, ◌-◌, ◌<◌, ◌≤◌, Bool, true, false, ltb, List, [], ◌∷◌, ◌++◌, length, take, drop, min, refl, subst, sym, ◌∙◌, ap, arith}
use Rattle.std.proofs.lemmas.Bool.Decides.{nat_tests}
use Rattle.std.proofs.lemmas.List.{take-take, take_all, length-take, drop-drop, length-drop}
use Rattle.market_events.specs.declared.links.Link.{Link}
use Rattle.market_events.specs.declared.events.Event.{Event}
use Rattle.market_links.specs.SenderStates.{Follow}

-- the next event follows too
pub Follow-push : (link : Link) (n : ℕ) (es : List Event) (e : Event) → Follow link n es → e.link ≡ link → e.number ≡ n + length es + 1 → Follow link n (es ++ e ∷ [])
Follow-push link n [] e follow same next = (same, omega arith, tt)
Follow-push link n (x ∷ xs) e follow same next = (follow.0, follow.1, Follow-push link (n + 1) xs e follow.2 same (omega arith))

-- without the first k events the others have the numbers after m
pub Follow-drop : (link : Link) (n k m : ℕ) (es : List Event) → Follow link n es → n + k ≡ m → Follow link m (drop k es)
Follow-drop link n zero m es follow e = let same : n ≡ m = omega arith in let P : ℕ → Type 0 = λ j. Follow link j es in subst P same follow
Follow-drop link n (suc k) m [] follow e = tt
Follow-drop link n (suc k) m (x ∷ xs) follow e = Follow-drop link (n + 1) k m xs follow.2 (omega arith)

-- what is kept of the events under way where `count` is acknowledged, of all that were kept
pub Follow-ack : (link : Link) (gone acknowledged count : ℕ) (es : List Event) → Follow link acknowledged (drop gone es) → acknowledged < count → Follow link count (drop (gone + (count - acknowledged)) es)
Follow-ack link gone acknowledged count es follow more =
    let P : List Event → Type 0 = λ xs. Follow link count xs in
    subst P (drop-drop (count - acknowledged) gone es) (Follow-drop link acknowledged (count - acknowledged) count (drop gone es) follow (omega arith))

pub counted-ack : (gone acknowledged count appended : ℕ) (es : List Event) → acknowledged + length (drop gone es) ≡ appended → acknowledged < count → count ≤ appended → count + length (drop (gone + (count - acknowledged)) es) ≡ appended
counted-ack gone acknowledged count appended es counted more within =
    omega (arith, length-drop gone es, length-drop (gone + (count - acknowledged)) es)

-- the smaller of two lengths
pub take-min : (r m : ℕ) (es : List Event) → take (min r m) es ≡ take m (take r es)
take-min r m es = by_test (ltb r m) refl
  where
    at : (i j : ℕ) → i ≡ j → take i es ≡ take j es
    at i j e = ap (λ k. take k es) e

    by_test : (b : Bool) → ltb r m ≡ b → take (min r m) es ≡ take m (take r es)
    by_test true test =
        let less : r < m = grind (arith, nat_tests) in
        at (min r m) r (omega arith) ∙ sym (take_all m (take r es) (omega (arith, length-take r es)))
    by_test false test =
        let most : m ≤ r = grind (arith, nat_tests) in
        at (min r m) m (omega arith) ∙ sym (take-take m r es most)

-- the slice that the window is
pub window_shown : (gone n r : ℕ) (es : List Event) → n ≡ min r 7 → take (gone + n - gone) es ≡ take 7 (take r es)
window_shown gone n r es e = let shown : take (min r 7) es ≡ take 7 (take r es) = take-min r 7 es in let width : gone + n - gone ≡ min r 7 = omega arith in rw width shown
