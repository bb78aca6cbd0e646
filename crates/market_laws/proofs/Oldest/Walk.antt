-- Lawful histories are settled, or one of the outstanding events is the oldest: the links are walked over, and the oldest
-- so far is kept.
use Rattle.std.proofs.Common.{◌≡◌, ℕ, ◌<◌, ◌≤◌, ◌==◌, ◌&&◌, ◌||◌, ◌⊎◌, inl, inr, Bool, true, false, nat_le, nat_lt, List, [], ◌∷◌, ◌++◌, refl, ap, sym, ◌∙◌, subst, arith}
use Rattle.std.specs.List.{AllByRecursion}
use Rattle.std.proofs.lemmas.Bool.Decides.{nat_tests}
use Rattle.market_events.specs.declared.events.Event.{Event}
use Rattle.market_events.specs.declared.links.Link.{Link}
use Rattle.market_events.specs.declared.links.TheConstants.{SERVICE_LINKS}
use Rattle.market_events.specs.Links.{IsLink, sender_of}
use Rattle.market_events.specs.declared.lanes.TheConstants.{LANES}
use Rattle.market_events.specs.declared.roles.TheConstants.{SERVICES}
use Rattle.market_history.specs.Histories.{Histories}
use Rattle.market_history.specs.Lawful.{IsLawful}
use Rattle.market_history.specs.Outstanding.{outstanding, IsSettled, is_no_later, IsOldest}
use Rattle.market_laws.proofs.Growth.Members.{all-by, all-weaker, all-at}
use Rattle.market_laws.proofs.Oldest.Links.{links_by, links_all, links_at, within_bounds, of_bounds}
use Rattle.market_laws.proofs.Oldest.Places.{out-at, first-oldest}

-- the order of clocks and nodes
abbrev comes : ℕ → ℕ → ℕ → ℕ → Bool
comes a m b n = nat_lt a b || ((a == b) && nat_le m n)

comes_by : (a m b n : ℕ) → a ≤ b → m ≤ n → comes a m b n ≡ true
comes_by a m b n clock node = by (nat_lt a b) refl
  where
    by : (test : Bool) → nat_lt a b ≡ test → (test || ((a == b) && nat_le m n)) ≡ true
    by true is = refl
    by false is = grind (arith, nat_tests)

comes_parts : (a m b n : ℕ) → comes a m b n ≡ true → (a < b) ⊎ ((a ≡ b) × (m ≤ n))
comes_parts a m b n is = by (nat_lt a b) refl
  where
    by : (test : Bool) → nat_lt a b ≡ test → (a < b) ⊎ ((a ≡ b) × (m ≤ n))
    by true less = inl (grind (arith, nat_tests))
    by false less = let same : a ≡ b = grind (arith, nat_tests) in let le : m ≤ n = grind (arith, nat_tests) in inr (same, le)

comes_less : (a m b n : ℕ) → a < b → comes a m b n ≡ true
comes_less a m b n less = let is : nat_lt a b ≡ true = grind (arith, nat_tests) in rw is refl

comes_through : (a m b n c p : ℕ) → comes a m b n ≡ true → comes b n c p ≡ true → comes a m c p ≡ true
comes_through a m b n c p one two = by (comes_parts a m b n one) (comes_parts b n c p two)
  where
    by : (a < b) ⊎ ((a ≡ b) × (m ≤ n)) → (b < c) ⊎ ((b ≡ c) × (n ≤ p)) → comes a m c p ≡ true
    by (inl less) (inl more) = comes_less a m c p (omega (arith, less, more))
    by (inl less) (inr more) = comes_less a m c p (omega (arith, less, more.0))
    by (inr less) (inl more) = comes_less a m c p (omega (arith, less.0, more))
    by (inr less) (inr more) = comes_by a m c p (omega (arith, less.0, more.0)) (omega (arith, less.1, more.1))

pub comes_other : (a m b n : ℕ) → comes a m b n ≡ false → comes b n a m ≡ true
comes_other a m b n is = by (nat_lt a b) refl (nat_lt b a) refl
  where
    by : (less : Bool) → nat_lt a b ≡ less → (more : Bool) → nat_lt b a ≡ more → comes b n a m ≡ true
    by true less more over = let yes : comes a m b n ≡ true = rw less refl in let no : ⊥ = cc in absurd no
    by false less true over = rw over refl
    by false less false over =
        let same : a ≡ b = grind (arith, nat_tests) in
        let le : n ≤ m = grind (arith, nat_tests) in
        comes_by b n a m (omega (arith, same)) le

pub no_later-through : (e f g : Event) → is_no_later e f ≡ true → is_no_later f g ≡ true → is_no_later e g ≡ true
no_later-through e f g one two = comes_through e.clock (sender_of e.link) f.clock (sender_of f.link) g.clock (sender_of g.link) one two

-- no event of the list comes before this one
abbrev AllLater : Event → List Event → Type 0
AllLater event events = AllByRecursion (λ (e : Event). is_no_later event e ≡ true) events

-- the oldest of what is outstanding on these links
record BestOf (h : Histories) (links : List Link) : Type 0 where
  link : Link
  on : IsLink link
  event : Event
  rest : List Event
  first : outstanding h link ≡ event ∷ rest
  least : AllByRecursion (λ (other : Link). AllLater event (outstanding h other)) links

module _ (h : Histories) (lawful : IsLawful h) where
  -- the first of a link is the oldest of it
  pub own_later : (link : Link) → IsLink link → (event : Event) (rest : List Event) → outstanding h link ≡ event ∷ rest → AllLater event (event ∷ rest)
  own_later link on event rest is = (itself, all-by (λ (e : Event). is_no_later event e ≡ true) rest each)
    where
      itself : is_no_later event event ≡ true
      itself = comes_by event.clock (sender_of event.link) event.clock (sender_of event.link) (omega arith) (omega arith)

      each : (before : List Event) (e : Event) (after : List Event) → rest ≡ before ++ e ∷ after → is_no_later event e ≡ true
      each before e after at =
          let one = out-at h lawful link on [] event rest is in
          let two = out-at h lawful link on (event ∷ before) e after (is ∙ ap (λ l. event ∷ l) at) in
          let le : event.clock ≤ e.clock =
          all-at (λ (x : Event). event.clock ≤ x.clock) before e after
          (subst (AllByRecursion (λ (x : Event). event.clock ≤ x.clock)) at (first-oldest h lawful link on event rest is)) in
          let same : sender_of event.link ≡ sender_of e.link = ap sender_of (one.on ∙ sym two.on) in
          comes_by event.clock (sender_of event.link) e.clock (sender_of e.link) le (omega (arith, same))

  -- over the links of a list
  walk : (links : List Link) → AllByRecursion IsLink links → AllByRecursion (λ (l : Link). outstanding h l ≡ []) links ⊎ BestOf h links
  walk [] on = inl tt
  walk (l ∷ ls) on = by (outstanding h l) refl (walk ls on.1)
    where
      kept : (best : BestOf h ls) → AllLater best.event (outstanding h l) → BestOf h (l ∷ ls)
      kept best later = record { link = best.link; on = best.on; event = best.event; rest = best.rest; first = best.first; least = (later, best.least) }

      newer : (event : Event) (rest : List Event) → outstanding h l ≡ event ∷ rest → AllByRecursion (λ (other : Link). AllLater event (outstanding h other)) ls → BestOf h (l ∷ ls)
      newer event rest is later = record {
        link = l;
        on = on.0;
        event = event;
        rest = rest;
        first = is;
        least = (subst (AllLater event) (sym is) (own_later l on.0 event rest is), later);
      }

      choose : (event : Event) (rest : List Event) → outstanding h l ≡ event ∷ rest → (best : BestOf h ls) → (test : Bool) → is_no_later best.event event ≡ test → BestOf h (l ∷ ls)
      choose event rest is best true test =
          kept best (subst (AllLater best.event) (sym is)
          (all-weaker (λ (e : Event). is_no_later event e ≡ true) (λ (e : Event). is_no_later best.event e ≡ true) (λ e two. no_later-through best.event event e test two)
          (event ∷ rest) (own_later l on.0 event rest is)))
      choose event rest is best false test =
          let before : is_no_later event best.event ≡ true = comes_other best.event.clock (sender_of best.event.link) event.clock (sender_of event.link) test in
          newer event rest is
          (all-weaker (λ (other : Link). AllLater best.event (outstanding h other)) (λ (other : Link). AllLater event (outstanding h other))
          (λ other later. all-weaker (λ (e : Event). is_no_later best.event e ≡ true) (λ (e : Event). is_no_later event e ≡ true) (λ e two. no_later-through event best.event e before two) (outstanding h other) later)
          ls best.least)

      by : (out : List Event) → outstanding h l ≡ out → AllByRecursion (λ (m : Link). outstanding h m ≡ []) ls ⊎ BestOf h ls
          → AllByRecursion (λ (m : Link). outstanding h m ≡ []) (l ∷ ls) ⊎ BestOf h (l ∷ ls)
      by [] is (inl none) = inl (is, none)
      by [] is (inr best) = inr (kept best (subst (AllLater best.event) (sym is) tt))
      by (event ∷ rest) is (inl none) =
          inr (newer event rest is
          (all-weaker (λ (m : Link). outstanding h m ≡ []) (λ (other : Link). AllLater event (outstanding h other)) (λ m empty. subst (AllLater event) (sym empty) tt) ls none))
      by (event ∷ rest) is (inr best) = inr (choose event rest is best (is_no_later best.event event) refl)

  -- settled, or with an oldest event
  pub settled-or-oldest : IsSettled h ⊎ ((link : Link) × (number : ℕ) × IsLink link × IsOldest h link number)
  settled-or-oldest = by (walk (links_by SERVICE_LINKS LANES SERVICES) (links_all IsLink SERVICE_LINKS LANES SERVICES of_bounds))
    where
      by : AllByRecursion (λ (l : Link). outstanding h l ≡ []) (links_by SERVICE_LINKS LANES SERVICES) ⊎ BestOf h (links_by SERVICE_LINKS LANES SERVICES) → IsSettled h ⊎ ((link : Link) × (number : ℕ) × IsLink link × IsOldest h link number)
      by (inl none) = inl (λ link on. links_at (λ (l : Link). outstanding h l ≡ []) SERVICE_LINKS LANES SERVICES none link (within_bounds link on))
      by (inr best) =
          inr (
            best.link,
            best.event.number,
            best.on,
            record {
              event = best.event;
              named = refl;
              rest = best.rest;
              first = best.first;
              least = λ other on. links_at (λ (other : Link). AllLater best.event (outstanding h other)) SERVICE_LINKS LANES SERVICES best.least other (within_bounds other on);
            },
          )
