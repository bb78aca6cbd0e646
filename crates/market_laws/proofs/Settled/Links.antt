-- In settled histories what came to a node on a link is what was made on it (settled-link, settled-bodies). So bodies of a kind
-- that come into a service on one service link alone are, in its steps, those that were made on that link, in the same order
-- (filter-made), and as many (count-made, member-made).
use Rattle.std.proofs.Common.{◌≡◌, ℕ, ◌<◌, Bool, true, false, List, [], ◌∷◌, ◌++◌, Option, Some, None, length, drop, filter, filter_map, if◌then◌else◌, count_by, refl, ap, sym, ◌∙◌, subst, append-nil, arith}
use Rattle.std.specs.Prelude.{map}
use Rattle.std.specs.List.{cons_option}
use Rattle.std.proofs.Math.Seq.{drop-append_seam}
use Rattle.std.proofs.lemmas.List.Sums.{length-filter}
use Rattle.market_events.specs.declared.bodies.Body.{Body}
use Rattle.market_events.specs.declared.events.Event.{Event}
use Rattle.market_events.specs.declared.events.What.TheVariants.{Taken}
use Rattle.market_events.specs.declared.links.Link.{Link}
use Rattle.market_events.specs.Carried.{carries}
use Rattle.market_events.specs.Links.{IsLink, sender_of, receiver_of, same_link}
use Rattle.market_events.specs.Steps.{taken_bodies, made_on}
use Rattle.market_events.proofs.Values.Offers.{same_link-same}
use Rattle.market_history.specs.Blocks.{services}
use Rattle.market_history.specs.Causality.{events_taken}
use Rattle.market_history.specs.Histories.{Histories, journal_at}
use Rattle.market_history.specs.Lawful.{IsLawful}
use Rattle.market_history.specs.Outstanding.{IsSettled}
use Rattle.market_history.specs.Sent.{sent, got}
use Rattle.market_history.proofs.GrowSent.{bodies_on}
use Rattle.market_laws.specs.Cuts.{entry_with, steps_at}
use Rattle.market_laws.specs.Runs.{Member}
use Rattle.market_laws.proofs.Causes.Blocks.{fits-here}
use Rattle.market_laws.proofs.Origins.Made.{whole}
use Rattle.market_laws.proofs.Origins.Places.{took_of}
use Rattle.market_laws.proofs.Settled.Passing.{member-kept}
use Rattle.market_laws.proofs.Fits.KindsOnLinks.{IsNoRequest, ComesBy, came-on}
use Rattle.market_laws.proofs.Fits.ItemsApart.{got_taken}
use Rattle.market_laws.proofs.Runs.Counts.{member-filter}
use Rattle.market_laws.proofs.Growth.Takers.{grown_at}
use Rattle.market_laws.proofs.Views.Links.{gathered-got}
use Rattle.market_laws.proofs.Views.Taken.{taken-all}

-- the element, where it passes
abbrev picked : {A : Type 0} → (A → Bool) → A → Option A
picked test x = if test x then Some x else None

filter-picked : {A : Type 0} (test : A → Bool) (xs : List A) → filter_map (picked test) xs ≡ filter test xs
filter-picked test [] = refl
filter-picked {A = A} test (x ∷ xs) = by (test x) (filter-picked test xs)
  where
    by : (b : Bool) → filter_map (picked test) xs ≡ filter test xs → cons_option (if b then Some x else None) (filter_map (picked test) xs) ≡ (if b then x ∷ filter test xs else filter test xs)
    by true rest = ap (λ l. x ∷ l) rest
    by false rest = rest

-- bodies that pass come into service s on this link
abbrev pub ComesOn : ℕ → Link → (Body → Bool) → Type 0
ComesOn s link test = (b : Body) → test b ≡ true → IsNoRequest b × ComesBy s link b

module _ (h : Histories) (lawful : IsLawful h) where
  -- a service took what its journal did
  pub all-taken : (n : ℕ) → n < services → taken_bodies (steps_at n (journal_at h n)) ≡ map (λ (e : Event). e.body) (events_taken (journal_at h n))
  all-taken n lt =
      taken-all n (grown_at h n lawful (omega arith))
      (λ before clock event s.
      fits-here h lawful n lt event (took_of h n (entry_with clock (Taken event)) event lawful (record { node = omega arith; before = before; after = s.after; is = s.is }) refl))

  module _ (settled : IsSettled h) where
    -- all that was made on a link was taken on it
    pub settled-link : (link : Link) → IsLink link → sent link (journal_at h (sender_of link)) ≡ got link (journal_at h (receiver_of link))
    settled-link link on =
        let matched = lawful.matched link on in
        let taken = got link (journal_at h (receiver_of link)) in
        let none : matched.0 ≡ [] = sym (drop-append_seam taken matched.0) ∙ ap (drop (length taken)) (sym matched.1) ∙ settled link on in
        matched.1 ∙ ap (λ l. taken ++ l) none ∙ append-nil taken

    -- the bodies of it
    pub settled-bodies : (link : Link) → IsLink link → (b : Body) → Member b (bodies_on link (journal_at h (sender_of link))) → Member b (map (λ (e : Event). e.body) (events_taken (journal_at h (receiver_of link))))
    settled-bodies link on b here =
        got_taken link b (journal_at h (receiver_of link)) (subst (λ l. Member b (map (λ (e : Event). e.body) l)) (settled-link link on) here)

    module _ (s n : ℕ) (link : Link) (small : s < services) (lt : n < services) (on : IsLink link) (leaves : sender_of link ≡ n) (into : receiver_of link ≡ s) where
      -- those that pass, in the order in which they were made
      pub filter-made : (test : Body → Bool) → ComesOn s link test → filter test (taken_bodies (steps_at s (journal_at h s))) ≡ filter test (made_on link (steps_at n (journal_at h n)))
      filter-made test comes =
          sym (filter-picked test (taken_bodies (steps_at s (journal_at h s)))) ∙ ap (filter_map (picked test)) (all-taken s small)
          ∙ gathered-got (picked test) s link (grown_at h s lawful (omega arith)) alone
          ∙ ap (λ l. filter_map (picked test) (map (λ (e : Event). e.body) l)) (sym there)
          ∙ ap (filter_map (picked test)) (whole h lawful n lt link) ∙ filter-picked test (made_on link (steps_at n (journal_at h n)))
        where
          there : sent link (journal_at h n) ≡ got link (journal_at h s)
          there = ap (λ m. sent link (journal_at h m)) (sym leaves) ∙ settled-link link on ∙ ap (λ m. got link (journal_at h m)) into

          by : (other : Link) (b : Body) (passes : Bool) → test b ≡ passes → IsLink other → receiver_of other ≡ s → carries other b ≡ true → same_link other link ≡ false → (if passes then Some b else None) ≡ None
          by other b true is valid received carried differs =
              let at : other ≡ link = came-on s link b small (comes b is).0 (comes b is).1 other valid received carried in
              let same : same_link other link ≡ true = ap (λ l. same_link l link) at ∙ same_link-same link in
              let no : ⊥ = cc in absurd no
          by other b false is valid received carried differs = refl

          alone : (other : Link) (b : Body) → IsLink other → receiver_of other ≡ s → carries other b ≡ true → same_link other link ≡ false → picked test b ≡ None
          alone other b valid received carried differs = by other b (test b) refl valid received carried differs

      -- and as many
      pub count-made : (test : Body → Bool) → ComesOn s link test → count_by test (taken_bodies (steps_at s (journal_at h s))) ≡ count_by test (made_on link (steps_at n (journal_at h n)))
      count-made test comes =
          sym (length-filter test (taken_bodies (steps_at s (journal_at h s)))) ∙ ap length (filter-made test comes) ∙ length-filter test (made_on link (steps_at n (journal_at h n)))

      -- one that was taken was made
      pub member-made : (test : Body → Bool) → ComesOn s link test → (b : Body) → test b ≡ true → Member b (taken_bodies (steps_at s (journal_at h s))) → Member b (made_on link (steps_at n (journal_at h n)))
      member-made test comes b passes here =
          member-filter test b (made_on link (steps_at n (journal_at h n)))
          (subst (λ l. Member b l) (filter-made test comes) (member-kept test b (taken_bodies (steps_at s (journal_at h s))) here passes))
