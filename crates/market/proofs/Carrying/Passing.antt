-- What waits is carried, one body after the other.
use Rattle.std.proofs.Common.{◌≡◌, ℕ, suc, ◌<◌, List, [], ◌∷◌, ◌++◌, Option, Some, None, length, drop, refl, ap, sym, subst, ◌∙◌, arith}
use Rattle.std.proofs.Math.Bridge.{le_prop}
use Rattle.std.proofs.Math.Logic.{∥∥₁_elim}
use Rattle.std.specs.Option.{option_or}
use Rattle.market_events.specs.declared.replies.Reply.{Reply}
use Rattle.market_events.specs.Copies.{last_some}
use Rattle.market_events.specs.Steps.{Sending}
use Rattle.market.specs.declared.services.Services.{Services}
use Rattle.market.specs.Carrying.{Taken, CanPass, made_of, passed, IsTrace, all_passed}
use Rattle.market_history.specs.Sequential.{reply_told}
use Rattle.market.specs.Services.{StandFor}
use Rattle.market.proofs.Carrying.Weights.{weights, waiting_lighter}

-- where the carrying stands for these steps: what it has still to carry, and the reply so far
pub record StandsAt (now : Services) (waiting : List Sending) (reply : Option Reply) (taken : Taken) (trace : List Sending) : Type 0 where
  pub at : Taken
  pub left : List Sending
  pub stand : StandFor now at
  pub carried : IsTrace at waiting left
  pub ends : all_passed at left ≡ all_passed taken trace
  pub told : option_or (last_some reply_told left) reply ≡ last_some reply_told trace

abbrev pub IsCarrying : Services → Services → List Sending → List Sending → Option Reply → Type 0
IsCarrying before now made waiting reply = (taken : Taken) (trace : List Sending) → StandFor before taken → IsTrace taken made trace → StandsAt now waiting reply taken trace

-- there are steps for which it stands, with a trace
abbrev pub CanCarry : Services → List Sending → Type 0
CanCarry before made = ∥ ((taken : Taken) × StandFor before taken × ((trace : List Sending) × IsTrace taken made trace)) ∥₁

pub begins : (services : Services) (made : List Sending) → IsCarrying services services made made None
begins services made taken trace stand carried = record {
  at = taken;
  left = trace;
  stand = stand;
  carried = carried;
  ends = refl;
  told = or_none (last_some reply_told trace);
}
  where
    or_none : (o : Option Reply) → option_or o None ≡ o
    or_none None = refl
    or_none (Some r) = refl

or_assoc : (a b c : Option Reply) → option_or (option_or a b) c ≡ option_or a (option_or b c)
or_assoc None b c = refl
or_assoc (Some r) b c = refl

-- the first that waits is the first of what is left
pub record FirstLeft (at : Taken) (first : Sending) (more left : List Sending) : Type 0 where
  pub later : List Sending
  pub is : left ≡ first ∷ later
  pub can : CanPass at first
  pub carried : IsTrace (passed at first) (more ++ made_of at first) later

first_left : (at : Taken) (first : Sending) (more left : List Sending) → IsTrace at (first ∷ more) left → FirstLeft at first more left
first_left at first more [] carried = absurd carried
first_left at first more (t ∷ later) carried = record { later = later; is = ap (λ s. s ∷ later) (sym carried.0); can = carried.1; carried = carried.2 }

module _ (before now : Services) (made more : List Sending) (first : Sending) (reply : Option Reply) (carrying : IsCarrying before now made (first ∷ more) reply) where
  -- it can be passed on
  pub can_pass : CanCarry before made → ∥ ((taken : Taken) × StandFor now taken × CanPass taken first) ∥₁
  can_pass can = ∥∥₁_elim can squash₁ (λ it.
      let here = carrying it.0 it.2.0 it.1 it.2.1 in
      ∣ (here.at, here.stand, (first_left here.at first more here.left here.carried).can) ∣₁)

  -- once it was, the others are left with what was made of it
  pub goes_on : (after : Services) (new : List Sending)
      → ((taken : Taken) → StandFor now taken → CanPass taken first → new ≡ made_of taken first)
      → ((taken : Taken) → StandFor now taken → CanPass taken first → StandFor after (passed taken first))
      → IsCarrying before after made (more ++ new) (option_or (reply_told first) reply)
  goes_on after new makes pass taken trace stand carried =
      let here = carrying taken trace stand carried in
      let next = first_left here.at first more here.left here.carried in
      record {
        at = passed here.at first;
        left = next.later;
        stand = pass here.at here.stand next.can;
        carried = subst (λ new. IsTrace (passed here.at first) (more ++ new) next.later) (sym (makes here.at here.stand next.can)) next.carried;
        ends = sym (ap (all_passed here.at) next.is) ∙ here.ends;
        told = sym (or_assoc (last_some reply_told next.later) (reply_told first) reply) ∙ ap (λ left. option_or (last_some reply_told left) reply) (sym next.is) ∙ here.told;
      }

  -- and less is left to carry
  pub lighter : CanCarry before made → (new : List Sending) → ((taken : Taken) → StandFor now taken → CanPass taken first → new ≡ made_of taken first) → weights (more ++ new) < weights (first ∷ more)
  lighter can new makes = ∥∥₁_elim can le_prop (λ it.
      let here = carrying it.0 it.2.0 it.1 it.2.1 in
      let next = first_left here.at first more here.left here.carried in
      subst (λ new. weights (more ++ new) < weights (first ∷ more)) (sym (makes here.at here.stand next.can)) (waiting_lighter here.at first more next.can))

-- a list that is what is left of it without its first is empty
pub empty_of_rest : {A : Type 0} (xs : List A) → xs ≡ drop 1 xs → xs ≡ []
empty_of_rest [] e = refl
empty_of_rest (x ∷ xs) e = absurd (longer (length xs) (ap length e))
  where
    longer : (n : ℕ) → suc n ≡ n → ⊥
    longer n e = omega (arith, e)

-- none is left
none_left : (at : Taken) (left : List Sending) → IsTrace at [] left → left ≡ []
none_left at [] carried = refl
none_left at (t ∷ left) carried = absurd carried

module _ (before now : Services) (made : List Sending) (reply : Option Reply) (carrying : IsCarrying before now made [] reply) (taken : Taken) (trace : List Sending) (stand : StandFor before taken) (carried : IsTrace taken made trace) where
  pub stands_in_the_end : StandFor now (all_passed taken trace)
  stands_in_the_end =
      let here = carrying taken trace stand carried in
      subst (λ taken. StandFor now taken) (sym (ap (all_passed here.at) (none_left here.at here.left here.carried)) ∙ here.ends) here.stand

  pub told_in_the_end : reply ≡ last_some reply_told trace
  told_in_the_end =
      let here = carrying taken trace stand carried in
      sym (ap (λ left. option_or (last_some reply_told left) reply) (none_left here.at here.left here.carried)) ∙ here.told
