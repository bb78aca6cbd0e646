-- An event of a service link is before an event that was made exactly where that event's past counts it (counted, before); and a
-- node that takes an event took those of a service link into it before which are before it (taken-first).
use Rattle.std.proofs.Common.{◌≡◌, ℕ, zero, suc, ◌+◌, ◌<◌, ◌≤◌, max, Bool, true, false, nat_le, List, [], ◌∷◌, ◌++◌, length, slice_index, ◌↔◌, ◌⊎◌, inl, inr, refl, ap, sym, ◌∙◌, subst, arith}
use Rattle.std.specs.Prelude.{Contains}
use Rattle.std.proofs.Math.Nat.{eq-or-lt_of_le}
use Rattle.std.proofs.lemmas.Bool.Decides.{nat_tests}
use Rattle.std.proofs.lemmas.List.{length-append}
use Rattle.market_events.specs.declared.events.Entry.{Entry}
use Rattle.market_events.specs.declared.events.Event.{Event}
use Rattle.market_events.specs.declared.events.What.{What}
use Rattle.market_events.specs.declared.events.What.TheVariants.{Given, Taken, Made, Answered}
use Rattle.market_events.specs.declared.links.Link.TheVariants.{Service}
use Rattle.market_events.specs.declared.links.TheConstants.{SERVICE_LINKS}
use Rattle.market_events.specs.Links.{IsLink, same_link, sender_of, receiver_of}
use Rattle.market_events.proofs.Values.Offers.{same_link-true}
use Rattle.market_history.specs.Causality.{number_on, count_in, count_told, known, events_taken, events_seen, IsBefore, at_sender, through}
use Rattle.market_history.specs.Histories.{Histories, journal_at}
use Rattle.market_history.specs.Lawful.{IsLawful}
use Rattle.market_history.specs.Sent.{sent}
use Rattle.market_history.proofs.CausalityLaws.{number_on-same, number_on-other}
use Rattle.market_laws.specs.Cuts.{entry_with, StandsIn, MadeAt}
use Rattle.market_laws.specs.Pasts.{IsMadeOn, IsTakenAfter}
use Rattle.market_laws.proofs.Clocks.Rising.{made_made, same_place}
use Rattle.market_laws.proofs.Origins.Places.{made_stands}
use Rattle.market_laws.proofs.Origins.Senders.{sent-split, took-made, made-as}
use Rattle.market_laws.proofs.Pasts.Made.{past-known, past-made, past-taken, past-number}
use Rattle.market_laws.proofs.Pasts.Places.{MadeEarlier, made_after, made_there, taken_there, seen_there, took_there, made_here, took_here, made-seen, took-seen, took-taken, took-before}
use Rattle.market_laws.proofs.Pasts.Ready.{TookEarlier, past-ready, link-before}
use Rattle.market_laws.proofs.Growth.Takers.{stands-due}

-- of two numbers one is the greatest
either_max : (c a b : ℕ) → c ≤ max a b → (c ≤ a) ⊎ (c ≤ b)
either_max c a b low = by (nat_le c a) refl
  where
    by : (test : Bool) → nat_le c a ≡ test → (c ≤ a) ⊎ (c ≤ b)
    by true is = inl (grind (arith, nat_tests))
    by false is = let above : a < c = grind (arith, nat_tests) in inr (omega arith)

-- an entry that tells of at least so many events of a service link
pub record Tells (entries : List Entry) (k c : ℕ) : Type 0 where
  pub before : List Entry
  pub entry : Entry
  pub stands : StandsIn before entry entries
  pub told : c ≤ count_told entry k

-- where so many are known, and that is not none, an entry tells of them
known_told : (entries : List Entry) (k c : ℕ) → 1 ≤ c → c ≤ known entries k → Tells entries k c
known_told [] k c low high = absurd (omega arith)
known_told (x ∷ xs) k c low high = by (either_max c (count_told x k) (known xs k) high) (λ more. known_told xs k c low more)
  where
    by : (c ≤ count_told x k) ⊎ (c ≤ known xs k) → (c ≤ known xs k → Tells xs k c) → Tells (x ∷ xs) k c
    by (inl here) later = record { before = []; entry = x; stands = record { after = xs; is = refl }; told = here }
    by (inr more) later =
        let t = later more in
        record { before = x ∷ t.before; entry = t.entry; stands = record { after = t.stands.after; is = ap (λ l. x ∷ l) t.stands.is }; told = t.told }

-- the event is on the service link, with at least this number
pub record CountsOn (k c : ℕ) (event : Event) : Type 0 where
  pub on : event.link ≡ Service k
  pub number : c ≤ event.number

number_told : (k c : ℕ) (event : Event) → 1 ≤ c → c ≤ number_on k event → CountsOn k c event
number_told k c event low high = by (same_link event.link (Service k)) refl
  where
    by : (test : Bool) → same_link event.link (Service k) ≡ test → CountsOn k c event
    by true is = record { on = same_link-true event.link (Service k) is; number = omega (arith, high, number_on-same k event is) }
    by false is = absurd (omega (arith, high, low, number_on-other k event is))

-- what is counted in the past of an event that was made with a smaller clock is before it
abbrev pub BeforeBelow : Histories → ℕ → Event → ℕ → Type 0
BeforeBelow h k f top =
    (g : Event) → MadeAt h (sender_of g.link) g → g.clock < top → f.number ≤ slice_index g.past k → IsBefore (journal_at h) f g

module _ (h : Histories) (lawful : IsLawful h) where
  -- its number is one more than its sender made on its link before
  number_made : (n : ℕ) (event : Event) → (m : MadeAt h n event) → event.number ≡ length (sent event.link m.before) + 1
  number_made n event m = (stands-due h n (entry_with event.clock (Made event)) lawful (made_stands h n event m)).number

  -- numbers rise by clocks on a link
  numbers_rise : (n : ℕ) (g f : Event) → MadeAt h n g → MadeAt h n f → f.link ≡ g.link → g.clock < f.clock → g.number < f.number
  numbers_rise n g f gm fm same less =
      let within = made_made h n lawful g f gm fm less in
      let there : sent f.link fm.before ≡ sent g.link gm.before ++ g ∷ sent g.link within.after =
      ap (λ l. sent l fm.before) same ∙ ap (sent g.link) within.is ∙ sent-split g gm.before g.clock within.after in
      omega (arith, number_made n g gm, number_made n f fm, ap length there, length-append (sent g.link gm.before) (g ∷ sent g.link within.after))

  -- and clocks by numbers
  clocks_rise : (n : ℕ) (g f : Event) → MadeAt h n g → MadeAt h n f → f.link ≡ g.link → f.number ≤ g.number → f.clock ≤ g.clock
  clocks_rise n g f gm fm same low = by (nat_le f.clock g.clock) refl
    where
      by : (test : Bool) → nat_le f.clock g.clock ≡ test → f.clock ≤ g.clock
      by true is = grind (arith, nat_tests)
      by false is =
          let above : g.clock < f.clock = grind (arith, nat_tests) in absurd (omega (arith, numbers_rise n g f gm fm same above))

  -- two events of a node with one clock are one
  pub same_event : (n : ℕ) (f g : Event) → MadeAt h n f → MadeAt h n g → f.clock ≡ g.clock → f ≡ g
  same_event n f g fm gm e =
      let one = same_place h n (entry_with f.clock (Made f)) (entry_with g.clock (Made g)) lawful (made_stands h n f fm) (made_stands h n g gm) e in
      let what : Made f ≡ Made g = ap (λ (x : Entry). x.what) one.1 in
      cc

  module _ (f : Event) where
    -- what is before an event was made
    pub was_made : {e : Event} → IsBefore (journal_at h) f e → (n : ℕ) × MadeAt h n f
    was_made (at_sender e before made seen) =
        let n = sender_of e.link in
        let m = made_after h lawful n e before made in
        by n e (seen_there h lawful n e m.made f (subst (λ l. Contains (events_seen l) f) (sym m.after) seen))
      where
        by : (n : ℕ) (e : Event) → TookEarlier h n f e.clock ⊎ MadeEarlier h n f e.clock → (n : ℕ) × MadeAt h n f
        by n e (inl t) = (sender_of f.link, (took-made h lawful n f t.took).made)
        by n e (inr m) = (n, m.made)
    was_made (through e g before made taken rest) = was_made rest

    module _ (k : ℕ) (lt : k < SERVICE_LINKS) (on : f.link ≡ Service k) where
      -- what is before an event is counted in its past
      pub counted : {e : Event} → IsBefore (journal_at h) f e → f.number ≤ slice_index e.past k
      counted (at_sender e before made seen) =
          let n = sender_of e.link in
          let m = made_after h lawful n e before made in
          by n e m.made (seen_there h lawful n e m.made f (subst (λ l. Contains (events_seen l) f) (sym m.after) seen))
        where
          by : (n : ℕ) (e : Event) → MadeAt h n e → TookEarlier h n f e.clock ⊎ MadeEarlier h n f e.clock → f.number ≤ slice_index e.past k
          by n e m (inl t) = past-number h n e lawful m f k lt t.took on t.clock
          by n e m (inr o) = past-made h n e lawful m f k lt o.made on o.clock
      counted (through e g before made taken rest) =
          let n = sender_of e.link in
          let m = made_after h lawful n e before made in
          let t = took_there h lawful n e m.made g (subst (λ l. Contains (events_taken l) g) (sym m.after) taken) in
          omega (arith, counted rest, past-taken h n e lawful m.made g k lt t.took t.clock)

      module _ (fm : MadeAt h (sender_of (Service k)) f) where
        -- an event whose node made one with at least its number on its link before, was made there after it
        by_made : (e g : Event) (m : MadeAt h (sender_of e.link) e) → MadeEarlier h (sender_of e.link) g e.clock → CountsOn k f.number g → IsBefore (journal_at h) f e
        by_made e g m o counts =
            let n = sender_of e.link in
            let at : sender_of (Service k) ≡ n = sym (ap sender_of counts.on) ∙ o.made.leaves in
            let here : MadeAt h n f = subst (λ i. MadeAt h i f) at fm in
            let most : f.clock ≤ g.clock = clocks_rise n g f o.made here (on ∙ sym counts.on) counts.number in
            let less : f.clock < e.clock = omega (arith, most, o.clock) in
            at_sender e m.before (entry_with e.clock (Made e), m.after, refl, m.is) (made-seen h lawful n e m f here less)

        -- an event of the link with at least its number was taken where it was taken too, and not before it
        taken_too : (n : ℕ) (g : Event) (top : ℕ) → TookEarlier h n g top → CountsOn k f.number g → TookEarlier h n f top
        taken_too n g top t counts =
            let s = sender_of (Service k) in
            let gm : MadeAt h s g = subst (λ l. MadeAt h (sender_of l) g) counts.on (took-made h lawful n g t.took).made in
            by gm (eq-or-lt_of_le (clocks_rise s g f gm fm (on ∙ sym counts.on) counts.number))
          where
            by : MadeAt h (sender_of (Service k)) g → (f.clock ≡ g.clock) ⊎ (f.clock < g.clock) → TookEarlier h n f top
            by gm (inl same) = subst (λ x. TookEarlier h n x top) (sym (same_event (sender_of (Service k)) f g fm gm same)) t
            by gm (inr less) =
                let u = link-before h n g lawful t.took (sender_of (Service k)) f fm (on ∙ sym counts.on) less in
                record { took = u.took; clock = omega (arith, u.clock, t.clock) }

        -- what is counted in the past of an event that was made is before it
        before_by : (top : ℕ) (e : Event) → MadeAt h (sender_of e.link) e → e.clock < top → f.number ≤ slice_index e.past k → IsBefore (journal_at h) f e
        before_by zero e m below low = absurd (omega arith)
        before_by (suc top) e m below low =
            let n = sender_of e.link in
            let first : 1 ≤ f.number = omega (arith, number_made (sender_of (Service k)) f fm) in
            let told = known_told m.before k f.number first (omega (arith, low, past-known h n e lawful m k lt)) in
            by told first told.entry.what refl told.told (λ g gm less more. before_by top g gm (omega arith) more)
          where
            taken : (g : Event) → TookEarlier h (sender_of e.link) g e.clock → 1 ≤ f.number → (f.number ≤ number_on k g) ⊎ (f.number ≤ slice_index g.past k)
                → BeforeBelow h k f e.clock → IsBefore (journal_at h) f e
            taken g t first (inl counts) later =
                let u = taken_too (sender_of e.link) g e.clock t (number_told k f.number g first counts) in
                at_sender e m.before (entry_with e.clock (Made e), m.after, refl, m.is) (took-seen h lawful (sender_of e.link) e m f u.took u.clock)
            taken g t first (inr more) later =
                let made = took-made h lawful (sender_of e.link) g t.took in
                through e g m.before (entry_with e.clock (Made e), m.after, refl, m.is) (took-taken h lawful (sender_of e.link) e m g t.took t.clock)
                (later g made.made (omega (arith, made.clock, t.clock)) more)

            by : (told : Tells m.before k f.number) → 1 ≤ f.number → (what : What) → told.entry.what ≡ what → f.number ≤ count_in told.entry.what k
                → BeforeBelow h k f e.clock → IsBefore (journal_at h) f e
            by told first (Given request) is high later = let none = ap (λ w. count_in w k) is in absurd (omega (arith, none, high, first))
            by told first (Answered id reply) is high later =
                let none = ap (λ w. count_in w k) is in absurd (omega (arith, none, high, first))
            by told first (Made g) is high later =
                let counts : count_in told.entry.what k ≡ number_on k g = ap (λ w. count_in w k) is in
                by_made e g m (made_here h lawful (sender_of e.link) e m told.before told.entry told.stands g is) (number_told k f.number g first (omega (arith, counts, high)))
            by told first (Taken g) is high later =
                let counts : count_in told.entry.what k ≡ max (number_on k g) (slice_index g.past k) = ap (λ w. count_in w k) is in
                taken g (took_here h lawful (sender_of e.link) e m told.before told.entry told.stands g is) first
                (either_max f.number (number_on k g) (slice_index g.past k) (omega (arith, counts, high))) later

        pub before : (e : Event) → MadeAt h (sender_of e.link) e → f.number ≤ slice_index e.past k → IsBefore (journal_at h) f e
        before e m low = before_by (e.clock + 1) e m (omega arith) low

  -- by where they were made
  pub before-counts : (k : ℕ) (f e : Event) → IsMadeOn h (Service k) f → IsMadeOn h e.link e → IsBefore (journal_at h) f e ↔ f.number ≤ slice_index e.past k
  before-counts k f e f_made e_made =
      let fm = made_there h lawful (Service k) f f_made in
      let em = made_there h lawful e.link e e_made in
      let lt : k < SERVICE_LINKS = subst IsLink fm.on (made-as h lawful (sender_of (Service k)) f fm.made).on in
      (λ earlier. counted f k lt fm.on earlier, λ low. before f k lt fm.on fm.made e em.made low)

  -- no event is taken before one to its node that is before it
  pub taken-first : (n k : ℕ) (f e : Event) (taken : List Entry) → receiver_of (Service k) ≡ n → f.link ≡ Service k → IsBefore (journal_at h) f e → IsTakenAfter (journal_at h n) taken e → Contains (events_taken taken) f
  taken-first n k f e taken into on earlier took =
      let t = taken_there h lawful n e taken took in
      let m = was_made f earlier in
      let lt : k < SERVICE_LINKS = subst IsLink on (made-as h lawful m.0 f m.1).on in
      let u = past-ready h n e lawful t.took k m.0 lt into f m.1 on (counted f k lt on earlier) in
      subst (λ l. Contains (events_taken l) f) t.after (took-before h lawful n e t.took f u.took u.clock)
