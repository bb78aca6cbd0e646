-- The places of a link's events: with one entry more, and what stands at one of them.
use Rattle.std.proofs.Common.{◌≡◌, ℕ, zero, suc, ◌+◌, ◌<◌, ◌≤◌, true, false, cond, ◌==◌, List, [], ◌∷◌, ◌++◌, Option, Some, None, length, refl, ap, ◌∙◌, arith}
use Rattle.std.specs.Prelude.{map, find, slice_get}
use Rattle.std.specs.List.{cons_option, range_with_len}
use Rattle.std.proofs.lemmas.Bool.Decides.{nat_tests}
use Rattle.std.proofs.lemmas.List.{append-nil}
use Rattle.std.proofs.lemmas.Option.{slice_get_past}
use Rattle.market_events.specs.declared.events.Entry.{Entry}
use Rattle.market_events.specs.declared.events.Event.{Event}
use Rattle.market_events.specs.declared.links.Link.{Link}
use Rattle.market_history.specs.Sent.{event_made_on, sent, IsNumbered}
use Rattle.market_node.specs.Notes.{place_if, places_from, places_of, event_with}

place_if-append : (o : Option Event) (p : ℕ) (xs ys : List ℕ) → place_if o p (xs ++ ys) ≡ place_if o p xs ++ ys
place_if-append None p xs ys = refl
place_if-append (Some e) p xs ys = refl

places_from-push : (link : Link) (start end : ℕ) (xs : List Entry) (x : Entry) → end ≡ start + length xs → places_from link start (xs ++ x ∷ []) ≡ places_from link start xs ++ place_if (event_made_on link x.what) end []
places_from-push link start end [] x at =
    let e : start ≡ end = omega arith in ap (λ p. place_if (event_made_on link x.what) p []) e
places_from-push link start end (y ∷ ys) x at =
    ap (λ ps. place_if (event_made_on link y.what) start ps) (places_from-push link (start + 1) end ys x (omega arith))
    ∙ place_if-append (event_made_on link y.what) start (places_from link (start + 1) ys) (place_if (event_made_on link x.what) end [])

-- an entry that made an event on the link
pub places_of-push-made : (link : Link) (xs : List Entry) (x : Entry) (event : Event) → event_made_on link x.what ≡ Some event → places_of link (xs ++ x ∷ []) ≡ places_of link xs ++ length xs ∷ []
places_of-push-made link xs x event some =
    places_from-push link 0 (length xs) xs x (omega arith) ∙ ap (λ o. places_of link xs ++ place_if o (length xs) []) some

-- and one that made none
pub places_of-push-none : (link : Link) (xs : List Entry) (x : Entry) → event_made_on link x.what ≡ None → places_of link (xs ++ x ∷ []) ≡ places_of link xs
places_of-push-none link xs x none =
    places_from-push link 0 (length xs) xs x (omega arith) ∙ ap (λ o. places_of link xs ++ place_if o (length xs) []) none ∙ append-nil (places_of link xs)

length-places_from : (link : Link) (start : ℕ) (xs : List Entry) → length (places_from link start xs) ≡ length (sent link xs)
length-places_from link start [] = refl
length-places_from link start (x ∷ xs) =
    by_one (event_made_on link x.what) start (places_from link (start + 1) xs) (sent link xs) (length-places_from link (start + 1) xs)
  where
    by_one : (o : Option Event) (p : ℕ) (ps : List ℕ) (es : List Event) → length ps ≡ length es → length (place_if o p ps) ≡ length (cons_option o es)
    by_one None p ps es e = e
    by_one (Some event) p ps es e = omega arith

-- as many places as events
pub length-places_of : (link : Link) (xs : List Entry) → length (places_of link xs) ≡ length (sent link xs)
length-places_of link xs = length-places_from link 0 xs

-- a place leads to the entry there, which made the event with this index
pub record LeadsTo (link : Link) (start : ℕ) (xs : List Entry) (index place : ℕ) : Type 0 where
  pub before : List Entry
  pub entry : Entry
  pub after : List Entry
  pub event : Event
  pub split : xs ≡ before ++ entry ∷ after
  pub there : place ≡ start + length before
  pub on : event_made_on link entry.what ≡ Some event
  pub indexed : slice_get (sent link xs) index ≡ Some event

longer : (link : Link) (start : ℕ) (x : Entry) (xs : List Entry) (index next place : ℕ) → slice_get (sent link (x ∷ xs)) next ≡ slice_get (sent link xs) index → LeadsTo link (start + 1) xs index place → LeadsTo link start (x ∷ xs) next place
longer link start x xs index next place same it = record {
  before = x ∷ it.before;
  entry = it.entry;
  after = it.after;
  event = it.event;
  split = ap (λ (l : List Entry). x ∷ l) it.split;
  there = let at = it.there in omega arith;
  on = it.on;
  indexed = same ∙ it.indexed;
}

leads : (link : Link) (start : ℕ) (xs : List Entry) (index place : ℕ) → slice_get (places_from link start xs) index ≡ Some place → LeadsTo link start xs index place
leads link start [] index place at = let no : ⊥ = cc in absurd no
leads link start (x ∷ xs) index place at = by_one (event_made_on link x.what) refl index at (λ i. leads link (start + 1) xs i place)
  where
    by_one : (o : Option Event) → event_made_on link x.what ≡ o → (i : ℕ) → slice_get (place_if o start (places_from link (start + 1) xs)) i ≡ Some place
        → ((i : ℕ) → slice_get (places_from link (start + 1) xs) i ≡ Some place → LeadsTo link (start + 1) xs i place)
        → LeadsTo link start (x ∷ xs) i place
    by_one None none i here rest = longer link start x xs i i place (ap (λ o. slice_get (cons_option o (sent link xs)) i) none) (rest i here)
    by_one (Some event) some zero here rest = record {
      before = [];
      entry = x;
      after = xs;
      event = event;
      split = refl;
      there = let it : start ≡ place = cc in omega arith;
      on = some;
      indexed = ap (λ o. slice_get (cons_option o (sent link xs)) 0) some;
    }
    by_one (Some event) some (suc i) here rest =
        longer link start x xs i (suc i) place (ap (λ o. slice_get (cons_option o (sent link xs)) (suc i)) some) (rest i here)

pub place_leads : (link : Link) (xs : List Entry) (index place : ℕ) → slice_get (places_of link xs) index ≡ Some place → LeadsTo link 0 xs index place
place_leads link xs index place at = leads link 0 xs index place at

past_from_none : {A : Type 0} (xs : List A) (i : ℕ) → slice_get xs i ≡ None → length xs ≤ i
past_from_none [] i none = omega arith
past_from_none (x ∷ xs) zero none = let no : ⊥ = cc in absurd no
past_from_none (x ∷ xs) (suc i) none = let rest = past_from_none xs i none in omega arith

-- where there is no place there is no event
pub no_place : (link : Link) (xs : List Entry) (index : ℕ) → slice_get (places_of link xs) index ≡ None → slice_get (sent link xs) index ≡ None
no_place link xs index none =
    slice_get_past (sent link xs) index (omega (arith, past_from_none (places_of link xs) index none, length-places_of link xs))

-- what stands at the seam of two lists
pub slice_get-seam : {A : Type 0} (before : List A) (x : A) (after : List A) → slice_get (before ++ x ∷ after) (length before) ≡ Some x
slice_get-seam [] x after = refl
slice_get-seam (y ∷ ys) x after = slice_get-seam ys x after

-- numbers

same_number : (a b : ℕ) → a ≡ b → (a == b) ≡ true
same_number a b same = grind (arith, nat_tests)

lower_number : (a b : ℕ) → a < b → (a == b) ≡ false
lower_number a b below = grind (arith, nat_tests)

upper_number : (a b : ℕ) → b < a → (a == b) ≡ false
upper_number a b above = grind (arith, nat_tests)

find_from : (a : ℕ) (events : List Event) (index number : ℕ) → map {A = Event} {B = ℕ} (λ e. e.number) events ≡ range_with_len a (length events) → number ≡ a + index → find (λ (e : Event). e.number == number) events ≡ slice_get events index
find_from a [] index number numbered at = refl
find_from a (x ∷ xs) zero number numbered at =
    let first : x.number ≡ a = cc in
    let same : x.number ≡ number = omega arith in
    ap (λ b. cond b (Some x) (find (λ (e : Event). e.number == number) xs)) (same_number x.number number same)
find_from a (x ∷ xs) (suc index) number numbered at =
    let first : x.number ≡ a = cc in
    let others : map {A = Event} {B = ℕ} (λ e. e.number) xs ≡ range_with_len (a + 1) (length xs) = cc in
    let below : x.number < number = omega arith in
    ap (λ b. cond b (Some x) (find (λ (e : Event). e.number == number) xs)) (lower_number x.number number below)
    ∙ find_from (a + 1) xs index number others (omega arith)

find_below : (a : ℕ) (events : List Event) (number : ℕ) → map {A = Event} {B = ℕ} (λ e. e.number) events ≡ range_with_len a (length events) → number < a → find (λ (e : Event). e.number == number) events ≡ None
find_below a [] number numbered below = refl
find_below a (x ∷ xs) number numbered below =
    let first : x.number ≡ a = cc in
    let others : map {A = Event} {B = ℕ} (λ e. e.number) xs ≡ range_with_len (a + 1) (length xs) = cc in
    let above : number < x.number = omega arith in
    ap (λ b. cond b (Some x) (find (λ (e : Event). e.number == number) xs)) (upper_number x.number number above)
    ∙ find_below (a + 1) xs number others (omega arith)

-- the event with a number is the one at the index below it
pub event_with-at : (link : Link) (xs : List Entry) (index number : ℕ) → IsNumbered (sent link xs) → number ≡ index + 1 → event_with link number xs ≡ slice_get (sent link xs) index
event_with-at link xs index number numbered at = find_from 1 (sent link xs) index number numbered (omega arith)

-- there is none with the number 0
pub event_with-zero : (link : Link) (xs : List Entry) → IsNumbered (sent link xs) → event_with link 0 xs ≡ None
event_with-zero link xs numbered = find_below 1 (sent link xs) 0 numbered (omega arith)
