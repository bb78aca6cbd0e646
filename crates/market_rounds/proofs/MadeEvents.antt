-- The events that a lawful journal made on a link are found by their numbers.
use Rattle.std.proofs.Common.{◌≡◌, ℕ, ◌+◌, ◌<◌, Bool, true, false, cond, ◌==◌, List, [], ◌∷◌, ◌++◌, Option, Some, None, length, refl, ap, subst, sym, ◌∙◌, arith, append_assoc}
use Rattle.std.specs.Prelude.{find, map}
use Rattle.std.specs.List.{AllByRecursion, range_with_len, cons_option}
use Rattle.std.proofs.lemmas.Bool.Decides.{nat_tests}
use Rattle.market_events.specs.declared.events.Entry.{Entry}
use Rattle.market_events.specs.declared.events.Event.{Event}
use Rattle.market_events.specs.declared.events.What.{What}
use Rattle.market_events.specs.declared.events.What.TheVariants.{Given, Taken, Made, Answered}
use Rattle.market_events.specs.declared.links.Link.{Link}
use Rattle.market_events.specs.Links.{IsLink, sender_of, same_link}
use Rattle.market_events.proofs.Values.Offers.{same_link-true}
use Rattle.market_history.specs.Histories.{Histories, journal_at}
use Rattle.market_history.specs.Lawful.{IsLawful}
use Rattle.market_history.specs.Schedule.{event_at}
use Rattle.market_history.specs.Sent.{event_made_on, sent}
use Rattle.market_laws.proofs.Bounds.LinkEnds.{sender-small}
use Rattle.market_laws.proofs.Growth.Members.{all-append, all-weaker}
use Rattle.market_rounds.specs.Between.{IsOfLink}

-- those with lower numbers are passed over
past_lower : (number : ℕ) (xs ys : List Event) → AllByRecursion (λ (e : Event). e.number < number) xs → find (λ (e : Event). e.number == number) (xs ++ ys) ≡ find (λ (e : Event). e.number == number) ys
past_lower number [] ys low = refl
past_lower number (x ∷ xs) ys low =
    let other : (x.number == number) ≡ false = lower x.number low.0 in
    ap (λ b. cond b (Some x) (find (λ (e : Event). e.number == number) (xs ++ ys))) other ∙ past_lower number xs ys low.1
  where
    lower : (a : ℕ) → a < number → (a == number) ≡ false
    lower a below = grind (arith, nat_tests)

found_each : (before xs : List Event) (a : ℕ) → AllByRecursion (λ (e : Event). e.number < a) before → map {A = Event} {B = ℕ} (λ e. e.number) xs ≡ range_with_len a (length xs)
    → AllByRecursion (λ (e : Event). find (λ (f : Event). f.number == e.number) (before ++ xs) ≡ Some e) xs
found_each before [] a low numbered = tt
found_each before (x ∷ xs) a low numbered =
    let first : x.number ≡ a = cc in
    let others : map {A = Event} {B = ℕ} (λ e. e.number) xs ≡ range_with_len (a + 1) (length xs) = cc in
    let same : (x.number == x.number) ≡ true = same_number x.number in (
      past_lower x.number before (x ∷ xs) (subst (λ n. AllByRecursion (λ (e : Event). e.number < n) before) (sym first) low)
          ∙ ap (λ b. cond b (Some x) (find (λ (e : Event). e.number == x.number) xs)) same,
      subst (λ (es : List Event). AllByRecursion (λ (e : Event). find (λ (f : Event). f.number == e.number) es ≡ Some e) xs) (append_assoc before (x ∷ []) xs)
          (found_each (before ++ x ∷ []) xs (a + 1)
          (all-append (λ (e : Event). e.number < a + 1) before (x ∷ []) (all-weaker (λ (e : Event). e.number < a) (λ (e : Event). e.number < a + 1) (λ e below. omega arith) before low) (omega arith, tt))
          others),
    )
  where
    same_number : (n : ℕ) → (n == n) ≡ true
    same_number n = grind (arith, nat_tests)

-- the events made on a link are of the link
on_link : (link : Link) (entries : List Entry) → AllByRecursion (λ (e : Event). e.link ≡ link) (sent link entries)
on_link link [] = tt
on_link link (x ∷ xs) = by_one (on_link link xs) (event_made_on link x.what) refl
  where
    by_what : (what : What) (e : Event) → event_made_on link what ≡ Some e → e.link ≡ link
    by_what (Given request) e some = let no : ⊥ = cc in absurd no
    by_what (Taken event) e some = let no : ⊥ = cc in absurd no
    by_what (Made event) e some = by_test (same_link event.link link) refl some
      where
        by_test : (b : Bool) → same_link event.link link ≡ b → cond b (Some event) None ≡ Some e → e.link ≡ link
        by_test true test is = let same : event ≡ e = cc in subst (λ (f : Event). f.link ≡ link) same (same_link-true event.link link test)
        by_test false test is = let no : ⊥ = cc in absurd no
    by_what (Answered id reply) e some = let no : ⊥ = cc in absurd no

    by_one : AllByRecursion (λ (e : Event). e.link ≡ link) (sent link xs) → (o : Option Event) → event_made_on link x.what ≡ o → AllByRecursion (λ (e : Event). e.link ≡ link) (cons_option o (sent link xs))
    by_one rest None none = rest
    by_one rest (Some e) some = (by_what x.what e some, rest)

both : (h : Histories) (link : Link) (on : IsLink link) (events : List Event) → AllByRecursion (λ (e : Event). e.link ≡ link) events
    → AllByRecursion (λ (e : Event). find (λ (f : Event). f.number == e.number) (sent link (journal_at h (sender_of link))) ≡ Some e) events → AllByRecursion (IsOfLink h link) events
both h link on [] links found = tt
both h link on (e ∷ es) links found = (
  record {
    made = record {
      on = subst IsLink (sym links.0) on;
      made = subst (λ (l : Link). event_at h l e.number ≡ Some e) (sym links.0) found.0;
    };
    on = links.0;
  },
  both h link on es links.1 found.1,
)

-- the events that lawful histories made on a link are made events of the link
pub sent_made : (h : Histories) (link : Link) → IsLawful h → IsLink link → AllByRecursion (IsOfLink h link) (sent link (journal_at h (sender_of link)))
sent_made h link lawful on =
    both h link on (sent link (journal_at h (sender_of link))) (on_link link (journal_at h (sender_of link)))
    (found_each [] (sent link (journal_at h (sender_of link))) 1 tt ((lawful.lawful (sender_of link) (sender-small link on)).sent_numbered link))
