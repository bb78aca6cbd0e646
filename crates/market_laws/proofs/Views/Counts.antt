-- Of a kind that comes on one service link alone, a service took as much as its journal took on that link (count-taken,
-- any-taken). As much was made on a link as was taken and is outstanding (made-parts).
use Rattle.std.proofs.Common.{◌≡◌, ℕ, ◌+◌, ◌<◌, Bool, true, false, cond, List, [], ◌∷◌, Option, Some, None, length, filter_map, if◌then◌else◌, count_by, refl, ap, sym, ◌∙◌, arith}
use Rattle.std.specs.List.{list_any, cons_option}
use Rattle.std.proofs.lemmas.List.{map-append}
use Rattle.std.proofs.lemmas.List.Sums.{sum_by-append, sum_by-cons}
use Rattle.market_events.specs.declared.bodies.Body.{Body}
use Rattle.market_events.specs.declared.events.Event.{Event}
use Rattle.market_events.specs.declared.links.Link.{Link}
use Rattle.market_events.specs.Carried.{carries}
use Rattle.market_events.specs.Links.{IsLink, sender_of, receiver_of, same_link}
use Rattle.market_events.specs.Steps.{taken_bodies}
use Rattle.market_events.proofs.Values.Lists.{count-none, count-some}
use Rattle.market_events.proofs.Values.Offers.{same_link-same}
use Rattle.market_events.specs.declared.nodes.TheConstants.{NODES}
use Rattle.market_history.specs.Blocks.{services}
use Rattle.market_history.specs.Causality.{events_taken}
use Rattle.market_history.specs.Checkouts.{bodies_of}
use Rattle.market_history.specs.Histories.{Histories, journal_at}
use Rattle.market_history.specs.Lawful.{IsLawful}
use Rattle.market_history.specs.Outstanding.{outstanding}
use Rattle.market_history.specs.Sent.{sent, got}
use Rattle.market_laws.specs.Cuts.{steps_at}
use Rattle.market_laws.specs.Settling.{outstanding_on}
use Rattle.market_laws.proofs.Oldest.Places.{came, sent-parts}
use Rattle.market_laws.proofs.Fits.AloneOnLinks.{Alone}
use Rattle.market_laws.proofs.Settled.Links.{all-taken}
use Rattle.market_laws.proofs.Growth.Takers.{grown_at}
use Rattle.market_laws.proofs.Views.Links.{gathered-got}

-- where as many pass, one passes in both lists or in none
pub any-as_many : {A : Type 0} (test : A → Bool) (xs ys : List A) → count_by test xs ≡ count_by test ys → list_any test xs ≡ list_any test ys
any-as_many test xs ys same = by (list_any test xs) (list_any test ys) refl refl
  where
    by : (a b : Bool) → list_any test xs ≡ a → list_any test ys ≡ b → a ≡ b
    by true true here there = refl
    by true false here there = absurd (omega (arith, same, count-some test xs here, count-none test ys there))
    by false true here there = absurd (omega (arith, same, count-none test xs here, count-some test ys there))
    by false false here there = refl

-- the body, where it passes
abbrev picked : (Body → Bool) → Body → Option Body
picked test b = if test b then Some b else None

-- as many pass as are picked
count_picked : (test : Body → Bool) (bs : List Body) → count_by test bs ≡ length (filter_map (picked test) bs)
count_picked test [] = refl
count_picked test (b ∷ bs) = sum_by-cons (λ b. cond (test b) 1 0) b bs ∙ by (test b) (count_picked test bs)
  where
    by : (t : Bool) → count_by test bs ≡ length (filter_map (picked test) bs) → cond t 1 0 + count_by test bs ≡ length (cons_option (if t then Some b else None) (filter_map (picked test) bs))
    by true rest = omega (arith, rest)
    by false rest = omega (arith, rest)

module _ (h : Histories) (lawful : IsLawful h) (n : ℕ) (lt : n < services) where
  a_node : n < NODES
  a_node = omega arith

  module _ (link : Link) (test : Body → Bool) (alone : Alone n test link) where
    -- nothing that passes comes on another link
    elsewhere : (other : Link) (b : Body) → IsLink other → receiver_of other ≡ n → carries other b ≡ true → same_link other link ≡ false → picked test b ≡ None
    elsewhere other b on into carried differs = by (test b) refl
      where
        by : (t : Bool) → test b ≡ t → (if t then Some b else None) ≡ None
        by true passes = let same : same_link other link ≡ true = ap (λ l. same_link l link) (alone other b on into carried passes) ∙ same_link-same link in cc
        by false passes = refl

    -- as many that pass were taken as came on the link
    pub count-taken : count_by test (taken_bodies (steps_at n (journal_at h n))) ≡ count_by test (bodies_of (got link (journal_at h n)))
    count-taken =
        ap (count_by test) (all-taken h lawful n lt) ∙ count_picked test (bodies_of (events_taken (journal_at h n)))
        ∙ ap length (gathered-got (picked test) n link (grown_at h n lawful a_node) elsewhere)
        ∙ sym (count_picked test (bodies_of (got link (journal_at h n))))

    -- and one that passes was taken where one came on the link
    pub any-taken : list_any test (taken_bodies (steps_at n (journal_at h n))) ≡ list_any test (bodies_of (got link (journal_at h n)))
    any-taken = any-as_many test (taken_bodies (steps_at n (journal_at h n))) (bodies_of (got link (journal_at h n))) count-taken

-- of a link, as many that pass were made as were taken and are outstanding
pub made-parts : (h : Histories) → IsLawful h → (link : Link) → IsLink link → (test : Body → Bool)
    → count_by test (bodies_of (sent link (journal_at h (sender_of link)))) ≡ count_by test (bodies_of (got link (journal_at h (receiver_of link)))) + outstanding_on h link test
made-parts h lawful link on test =
    ap (λ events. count_by test (bodies_of events)) (sent-parts h lawful link on)
    ∙ ap (count_by test) (map-append (λ (e : Event). e.body) (came h link) (outstanding h link))
    ∙ sum_by-append (λ b. cond (test b) 1 0) (bodies_of (came h link)) (bodies_of (outstanding h link))
