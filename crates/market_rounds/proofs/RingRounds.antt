-- One round of a ring: what waited is popped, packets are sent with their fates, and the ends are brought together.
use Rattle.std.proofs.Common.{◌≡◌, ℕ, ◌+◌, ◌*◌, ◌≤◌, List, [], ◌∷◌, ◌++◌, length, ap, sym, ◌∙◌, arith, length-append}
use Rattle.std.specs.List.{AllByRecursion}
use Rattle.std.proofs.lemmas.List.{append_cancel_left}
use Rattle.market_laws.proofs.Growth.Members.{all-append}
use Rattle.market_rings.specs.declared.fates.Fate.{Fate}
use Rattle.market_rings.specs.declared.fates.Fate.TheVariants.{Pass, Lose, Twice, Hold}
use Rattle.market_rings.specs.Pushes.{next_fate, fates_after_one, pushed_at_once, held_back, pushed_of, held_after, pushed_by}
use Rattle.market_rings.specs.RingEnds.{Pushing, Popping, with_sent, with_all_popped, IsLooked}
use Rattle.market_rounds.specs.Between.{IsRing}

module _ {T : Type 0} where
  once_few : (fate : Fate) (x : T) → length (pushed_at_once fate x) ≤ 2
  once_few Pass x = omega arith
  once_few Lose x = omega arith
  once_few Twice x = omega arith
  once_few Hold x = omega arith

  back_few : (fate : Fate) (x : T) → length (held_back fate x) ≤ 1
  back_few Pass x = omega arith
  back_few Lose x = omega arith
  back_few Twice x = omega arith
  back_few Hold x = omega arith

  -- of each packet two are pushed at most
  pub pushed_few : (packets : List T) (fates : List Fate) → length (pushed_of packets fates) ≤ 2 * length packets
  pushed_few [] fates = omega arith
  pushed_few (x ∷ xs) fates =
      omega (arith, length-append (pushed_at_once (next_fate fates) x) (pushed_of xs (fates_after_one fates)), once_few (next_fate fates) x, pushed_few xs (fates_after_one fates))

  -- and one is held at most
  pub held_few : (packets : List T) (fates : List Fate) → length (held_after packets fates) ≤ length packets
  held_few [] fates = omega arith
  held_few (x ∷ xs) fates =
      omega (arith, length-append (held_back (next_fate fates) x) (held_after xs (fates_after_one fates)), back_few (next_fate fates) x, held_few xs (fates_after_one fates))

  -- what holds of the packets holds of what is pushed and of what is held
  module _ (P : T → Type 0) where
    once_all : (fate : Fate) (x : T) → P x → AllByRecursion P (pushed_at_once fate x)
    once_all Pass x p = (p, tt)
    once_all Lose x p = tt
    once_all Twice x p = (p, (p, tt))
    once_all Hold x p = tt

    back_all : (fate : Fate) (x : T) → P x → AllByRecursion P (held_back fate x)
    back_all Pass x p = tt
    back_all Lose x p = tt
    back_all Twice x p = tt
    back_all Hold x p = (p, tt)

    pub pushed_all : (packets : List T) (fates : List Fate) → AllByRecursion P packets → AllByRecursion P (pushed_of packets fates)
    pushed_all [] fates all = tt
    pushed_all (x ∷ xs) fates all =
        all-append P (pushed_at_once (next_fate fates) x) (pushed_of xs (fates_after_one fates)) (once_all (next_fate fates) x all.0) (pushed_all xs (fates_after_one fates) all.1)

    pub held_all : (packets : List T) (fates : List Fate) → AllByRecursion P packets → AllByRecursion P (held_after packets fates)
    held_all [] fates all = tt
    held_all (x ∷ xs) fates all =
        all-append P (held_back (next_fate fates) x) (held_after xs (fates_after_one fates)) (back_all (next_fate fates) x all.0) (held_all xs (fates_after_one fates) all.1)

  -- a round of a ring: what waits then, and what is held
  pub record AfterRound (most most_held : ℕ) (packets : List T) (fates : List Fate) (held : List T) (outlet : Pushing T) (inlet : Popping T) : Type 0 where
    pub ring : IsRing most most_held outlet inlet
    pub waiting : inlet.waiting ≡ pushed_by packets fates held
    pub held_is : outlet.held ≡ held_after packets fates

  pub ring_round : (most most_held : ℕ) (outlet : Pushing T) (inlet : Popping T) (packets : List T) (fates : List Fate) (new_outlet : Pushing T) (new_inlet : Popping T) → IsRing most most_held outlet inlet
      → IsLooked (with_sent outlet packets fates) (with_all_popped inlet) new_outlet new_inlet → length packets ≤ most_held → most ≡ 2 * most_held + most_held
      → AfterRound most most_held packets fates outlet.held new_outlet new_inlet
  ring_round most most_held outlet inlet packets fates new_outlet new_inlet is looked few enough = record {
    ring = record {
      joined =
          ap (λ (p : Pushing T). p.ring) looked.same_outlet ∙ is.joined ∙ sym (ap (λ (p : Popping T). p.ring) looked.same_inlet);
      whole = looked.waiting ∙ sym (ap (λ (p : Pushing T). p.pushed) looked.same_outlet);
      free = looked.free;
      few =
          let long : length new_inlet.waiting ≡ length (pushed_of packets fates) + length outlet.held =
          ap (λ (xs : List T). length xs) left ∙ length-append (pushed_of packets fates) outlet.held in
          omega (arith, pushed_few packets fates, is.few_held, few, enough);
      few_held =
          let long : length new_outlet.held ≡ length (held_after packets fates) = ap (λ (p : Pushing T). length p.held) looked.same_outlet in
          omega (arith, held_few packets fates, few);
    };
    waiting = left;
    held_is = ap (λ (p : Pushing T). p.held) looked.same_outlet;
  }
    where
      same : new_inlet.popped ≡ outlet.pushed
      same = ap (λ (p : Popping T). p.popped) looked.same_inlet ∙ is.whole

      left : new_inlet.waiting ≡ pushed_by packets fates outlet.held
      left =
          append_cancel_left outlet.pushed new_inlet.waiting (pushed_by packets fates outlet.held)
          (ap (λ xs. xs ++ new_inlet.waiting) (sym same) ∙ looked.waiting)
