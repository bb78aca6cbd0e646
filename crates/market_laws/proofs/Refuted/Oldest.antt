-- Histories in which the oldest event is not there, not the only one, not found or not taken, by computation.
use Rattle.std.proofs.Common.{◌≡◌, ℕ, Bool, true, false, ◌||◌, List, [], ◌∷◌, length, Option, Some, None, inl, inr, refl, ap, sym, ◌∙◌, subst, arith, rules}
use Rattle.std.specs.List.{AllByRecursion, list_all}
use Rattle.market_events.specs.declared.events.Entry.{Entry}
use Rattle.market_events.specs.declared.events.Event.{Event}
use Rattle.market_events.specs.declared.events.Offer.TheVariants as offers
use Rattle.market_events.specs.declared.links.Link.{Link}
use Rattle.market_events.specs.declared.links.Link.TheVariants.{Service, Asked, Told}
use Rattle.market_events.specs.Links.{IsLink, product_node, same_link}
use Rattle.market_events.specs.Offers.{counts_of, is_ready}
use Rattle.market_events.specs.Orders.{is_nil}
use Rattle.market_events.specs.declared.links.TheConstants.{PRODUCT_TO_CART, PRODUCT_TO_STOCK, SERVICE_LINKS}
use Rattle.market_events.proofs.Values.Lists.{and_both}
use Rattle.market_events.proofs.Values.Offers.{same_link-true}
use Rattle.market_history.specs.declared.schedule.Outcome.TheVariants as outcomes
use Rattle.market_history.specs.Examples.{event, created}
use Rattle.market_history.specs.ExamplesCreate.{past}
use Rattle.market_history.specs.Histories.{Histories, journal_at, with_journal}
use Rattle.market_history.specs.Outstanding.{is_no_later, outstanding, IsOldest}
use Rattle.market_history.specs.Schedule.{outcome_of}
use Rattle.market_history.specs.Sent.{sent}
use Rattle.market_laws.specs.CounterexamplesOldest.{to_cart_at, falling, twins, alike, ahead, OldestCounterexamples}
use Rattle.market_laws.proofs.Refuted.Refuting.{not_true, apart, nil_cons, unmade-link}
use Rattle.market_laws.proofs.Fits.KindsOnLinks.{below_all, below_all-each}

all_true : {A : Type 0} (test : A → Bool) (xs : List A) → list_all test xs ≡ true → AllByRecursion (λ x. test x ≡ true) xs
all_true test [] all = tt
all_true test (x ∷ xs) all = let both = and_both (test x) (list_all test xs) all in (both.0, all_true test xs both.1)

nil_of : {A : Type 0} (xs : List A) → is_nil xs ≡ true → xs ≡ []
nil_of [] is = refl
nil_of (x ∷ xs) is = absurd (not_true is)

-- lanes ask nothing there, and are told nothing
record IsQuiet (h : Histories) : Type 0 where
  asked : (lane s : ℕ) → AllByRecursion (λ (j : List Entry). sent (Asked lane s) j ≡ []) h
  told : (s lane : ℕ) → AllByRecursion (λ (j : List Entry). sent (Told s lane) j ≡ []) h

-- an event that is no later than those on service links is no later than any
least-of : (h : Histories) (event : Event) → IsQuiet h → below_all (λ k. list_all (is_no_later event) (outstanding h (Service k))) SERVICE_LINKS ≡ true
    → (other : Link) → IsLink other → AllByRecursion (λ (e : Event). is_no_later event e ≡ true) (outstanding h other)
least-of h event quiet each (Service k) on = all_true (is_no_later event) (outstanding h (Service k)) (below_all-each (λ x. list_all (is_no_later event) (outstanding h (Service x))) SERVICE_LINKS each k on)
least-of h event quiet each (Asked lane s) on = subst (AllByRecursion (λ (e : Event). is_no_later event e ≡ true)) (sym (unmade-link h (Asked lane s) (quiet.asked lane s))) tt
least-of h event quiet each (Told s lane) on = subst (AllByRecursion (λ (e : Event). is_no_later event e ≡ true)) (sym (unmade-link h (Told s lane) (quiet.told s lane))) tt

quiet_falling : IsQuiet falling
unfolding with_journal
quiet_falling = record { asked = λ lane s. search rules; told = λ s lane. search rules }

quiet_twins : IsQuiet twins
unfolding with_journal
quiet_twins = record { asked = λ lane s. search rules; told = λ s lane. search rules }

quiet_alike : IsQuiet alike
unfolding with_journal
quiet_alike = record { asked = λ lane s. search rules; told = λ s lane. search rules }

quiet_ahead : IsQuiet ahead
unfolding with_journal
quiet_ahead = record { asked = λ lane s. search rules; told = λ s lane. search rules }

-- of the falling clocks, the oldest is not the first of its link
first_falls : (event : Event) (rest : List Event) → to_cart_at 1 5 0 ∷ to_cart_at 2 3 1 ∷ [] ≡ event ∷ rest → is_no_later event (to_cart_at 2 3 1) ≡ true → ⊥
first_falls event rest first low =
    let same : to_cart_at 1 5 0 ≡ event = cc in
    not_true (subst (λ e. is_no_later e (to_cart_at 2 3 1) ≡ true) (sym same) low)

alone : below_all (λ k. same_link (Service k) PRODUCT_TO_CART || is_nil (outstanding falling (Service k))) SERVICE_LINKS ≡ true
unfolding journal_at with_journal
alone = refl

falling_at : (link : Link) (to_cart : Bool) → same_link link PRODUCT_TO_CART ≡ to_cart → (to_cart || is_nil (outstanding falling link)) ≡ true → (number : ℕ) → IsOldest falling link number → ⊥
unfolding journal_at with_journal
falling_at link true is each number o =
    first_falls o.event o.rest (subst (λ l. outstanding falling l ≡ o.event ∷ o.rest) (same_link-true link PRODUCT_TO_CART is) o.first) (o.least PRODUCT_TO_CART (omega arith)).1.0
falling_at link false is each number o = nil_cons o.event o.rest (sym (nil_of (outstanding falling link) each) ∙ o.first)

no_oldest : (link : Link) (number : ℕ) → IsLink link → IsOldest falling link number → ⊥
no_oldest (Service k) number on o = falling_at (Service k) (same_link (Service k) PRODUCT_TO_CART) refl (below_all-each (λ k. same_link (Service k) PRODUCT_TO_CART || is_nil (outstanding falling (Service k))) SERVICE_LINKS alone k on) number o
no_oldest (Asked lane s) number on o = nil_cons o.event o.rest (sym (unmade-link falling (Asked lane s) (quiet_falling.asked lane s)) ∙ o.first)
no_oldest (Told s lane) number on o = nil_cons o.event o.rest (sym (unmade-link falling (Told s lane) (quiet_falling.told s lane)) ∙ o.first)

links_apart : PRODUCT_TO_CART ≡ PRODUCT_TO_STOCK → ⊥
links_apart e = cc

clock_in : Option Event → ℕ
clock_in None = 0
clock_in (Some event) = event.clock

not_ready_taken : offers.NotReady ≡ offers.Take → ⊥
not_ready_taken e = cc

not_ready_comes : outcomes.Offered offers.NotReady ≡ outcomes.Offered offers.Take → ⊥
not_ready_comes e = cc

pub oldest : OldestCounterexamples
unfolding counts_of is_ready journal_at with_journal outcome_of clock_in
oldest = record {
  falling_unlawful = λ lawful. apart 2 0 (ap length (lawful.lawful product_node (omega arith)).blocks) refl;
  falling_oldest = λ either. elim either as (λ _. ⊥) [
    | inl settled ↦ apart 2 0 (ap length (settled PRODUCT_TO_CART (omega arith))) refl
    | inr o ↦ no_oldest o.0 o.1 o.2 o.3
  ];
  twins_unlawful = λ lawful. apart 2 0 (ap length (lawful.lawful product_node (omega arith)).blocks) refl;
  twins_oldest = record {
    event = to_cart_at 1 4 0;
    named = refl;
    rest = [];
    first = refl;
    least = least-of twins (to_cart_at 1 4 0) quiet_twins refl;
  };
  twins_other = record {
    event = event PRODUCT_TO_STOCK 1 4 (past 0 0) created;
    named = refl;
    rest = [];
    first = refl;
    least = least-of twins (event PRODUCT_TO_STOCK 1 4 (past 0 0) created) quiet_twins refl;
  };
  twins_only = λ same. links_apart same.0;
  alike_unlawful = λ lawful. apart 2 0 (ap length (lawful.lawful product_node (omega arith)).blocks) refl;
  alike_oldest = record {
    event = to_cart_at 1 2 1;
    named = refl;
    rest = [];
    first = refl;
    least = least-of alike (to_cart_at 1 2 1) quiet_alike refl;
  };
  alike_found = λ e. apart 1 2 (ap clock_in e) refl;
  ahead_unlawful = λ lawful. apart 1 0 (ap length (lawful.lawful product_node (omega arith)).blocks) refl;
  ahead_oldest = record {
    event = to_cart_at 1 1 5;
    named = refl;
    rest = [];
    first = refl;
    least = least-of ahead (to_cart_at 1 1 5) quiet_ahead refl;
  };
  ahead_taken = λ e. not_ready_taken e;
  ahead_comes = λ e. not_ready_comes e;
}
