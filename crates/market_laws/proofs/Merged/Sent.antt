-- What a block sent is later than its begin; what was taken earlier was sent before it; and an event is found by its number.
use Rattle.std.proofs.Common.{◌≡◌, ℕ, ◌+◌, ◌<◌, ◌≤◌, ◌==◌, Bool, true, false, List, [], ◌∷◌, ◌++◌, Some, None, length, if◌then◌else◌, refl, ap, sym, ◌∙◌, subst, append-nil, append_assoc, arith}
use Rattle.std.specs.Prelude.{find, map}
use Rattle.std.specs.List.{AllByRecursion, range_with_len}
use Rattle.std.specs.Option.{option_to_list}
use Rattle.std.proofs.lemmas.Bool.Decides.{nat_tests}
use Rattle.market_events.specs.declared.events.Entry.{Entry}
use Rattle.market_events.specs.declared.events.Event.{Event}
use Rattle.market_events.specs.declared.links.Link.{Link}
use Rattle.market_events.specs.Links.{same_link}
use Rattle.market_history.specs.Blocks.{Out, Arrival, what_of, next_event, with_out, grow}
use Rattle.market_history.specs.Sent.{event_made_on, sent, IsNumbered, IsPrefixOf}
use Rattle.market_history.specs.Stamps.{clock_before}
use Rattle.market_history.proofs.GrowLaws.{entry_of, what_left, grow_keeps, clock_before-outs}
use Rattle.market_history.proofs.GrowSent.{sent-arrival, sent-with_out}
use Rattle.market_history.proofs.SentLaws.{IsNumbered-at}
use Rattle.market_history.proofs.StampLaws.{clock_before-push}
use Rattle.market_laws.proofs.Growth.Members.{all-append}
use Rattle.market_laws.proofs.Merged.Moves.{begins}

-- these entries have sent on a link what those did, and more with this clock or later ones
pub record SentLater (link : Link) (before entries : List Entry) (clock : ℕ) : Type 0 where
  pub later : List Event
  pub is : sent link entries ≡ sent link before ++ later
  pub each : AllByRecursion (λ (e : Event). clock ≤ e.clock) later
  pub last : clock ≤ clock_before entries

left_later : (link : Link) (k : List Entry) (clock : ℕ) (out : Out) → clock ≤ clock_before k → AllByRecursion (λ (e : Event). clock ≤ e.clock) (option_to_list (event_made_on link (what_left k out)))
left_later link k clock (Out.Makes l b) le = by (same_link l link)
  where
    by : (test : Bool) → AllByRecursion (λ (e : Event). clock ≤ e.clock) (option_to_list (if test then Some (next_event k l b) else None))
    by true = (omega arith, tt)
    by false = tt
left_later link k clock (Out.Answers id reply) le = tt

out_later : (link : Link) (before : List Entry) (clock : ℕ) (k : List Entry) (out : Out) → SentLater link before k clock → SentLater link before (with_out k out) clock
out_later link before clock k out s = record {
  later = s.later ++ option_to_list (event_made_on link (what_left k out));
  is = sent-with_out link k out ∙ ap (λ l. l ++ option_to_list (event_made_on link (what_left k out))) s.is ∙ append_assoc (sent link before) s.later (option_to_list (event_made_on link (what_left k out)));
  each = all-append (λ (e : Event). clock ≤ e.clock) s.later (option_to_list (event_made_on link (what_left k out))) s.each (left_later link k clock out s.last);
  last = let low = s.last in omega (arith, clock_before-outs k (out ∷ []));
}

-- what a block sent
pub sent-later : (link : Link) (n : ℕ) (j : List Entry) (a : Arrival) → SentLater link j (grow n j a) (begins j a)
sent-later link n j a =
    grow_keeps (λ k. SentLater link j k (begins j a)) (λ k out s. out_later link j (begins j a) k out s) n j a
    (record {
      later = [];
      is = sent-arrival link j a ∙ sym (append-nil (sent link j));
      each = tt;
      last = omega (arith, clock_before-push j (entry_of j (what_of a)));
    })

-- a prefix of early events goes no further than the early ones
pub prefix-early : (clock : ℕ) (xs ys zs : List Event) → AllByRecursion (λ (e : Event). e.clock < clock) xs → AllByRecursion (λ (e : Event). clock ≤ e.clock) zs → IsPrefixOf xs (ys ++ zs) → IsPrefixOf xs ys
prefix-early clock [] ys zs early late (rest, is) = (ys, refl)
prefix-early clock (x ∷ xs) [] [] early late (rest, is) = let no : ⊥ = cc in absurd no
prefix-early clock (x ∷ xs) [] (z ∷ zs) early late (rest, is) =
    let same : z ≡ x = cc in
    let no_earlier : clock ≤ x.clock = subst (λ (e : Event). clock ≤ e.clock) same late.0 in
    let below : x.clock < clock = early.0 in
    absurd (omega arith)
prefix-early clock (x ∷ xs) (y ∷ ys) zs early late (rest, is) =
    let same : y ≡ x = cc in
    let others : ys ++ zs ≡ xs ++ rest = cc in
    let more = prefix-early clock xs ys zs early.1 late (rest, others) in
    (more.0, λ i. same i ∷ more.1 i)

find_from : (number : ℕ) (from : ℕ) (before : List Event) (event : Event) (after : List Event) → number ≡ from + length before → map {A = Event} {B = ℕ} (λ e. e.number) (before ++ event ∷ after) ≡ range_with_len from (length (before ++ event ∷ after))
    → find (λ (e : Event). e.number == number) (before ++ event ∷ after) ≡ Some event
find_from number from [] event after e numbered =
    let first : event.number ≡ from = cc in
    let is : (event.number == number) ≡ true = grind (arith, nat_tests) in
    rw is refl
find_from number from (x ∷ xs) event after e numbered =
    let first : x.number ≡ from = cc in
    let others : map {A = Event} {B = ℕ} (λ e. e.number) (xs ++ event ∷ after) ≡ range_with_len (from + 1) (length (xs ++ event ∷ after)) = cc in
    let is : (x.number == number) ≡ false = grind (arith, nat_tests) in
    rw is (find_from number (from + 1) xs event after (omega arith) others)

-- an event of a numbered list is found by its number
pub find-numbered : (before : List Event) (event : Event) (after : List Event) → IsNumbered (before ++ event ∷ after) → find (λ (e : Event). e.number == event.number) (before ++ event ∷ after) ≡ Some event
find-numbered before event after numbered =
    let number : event.number ≡ length before + 1 = IsNumbered-at before event after numbered in
    find_from event.number 1 before event after (omega arith) numbered
