-- A step of a schedule keeps lawful histories.
use Rattle.std.proofs.Common.{rules, ◌≡◌, ◌≢◌, ℕ, zero, suc, ◌+◌, ◌<◌, ◌≤◌, ◌==◌, Bool, true, false, nat_lt, List, [], ◌∷◌, ◌++◌, Option, Some, None, length, if◌then◌else◌, eqb-true, ltb-true, refl, ap, sym, ◌∙◌, subst, append-nil, arith}
use Rattle.std.specs.Prelude.{◌-◌, find, slice_get, slice_index_or}
use Rattle.std.specs.List.{AllByRecursion}
use Rattle.std.specs.Option.{option_to_list}
use Rattle.std.proofs.lemmas.Bool.{eqb-false}
use Rattle.std.proofs.lemmas.Bool.Decides.{nat_tests}
use Rattle.market_events.specs.declared.events.Entry.{Entry}
use Rattle.market_events.specs.declared.events.Event.{Event}
use Rattle.market_events.specs.declared.events.Offer.{Offer}
use Rattle.market_events.specs.declared.events.Offer.TheVariants as offer
use Rattle.market_events.specs.declared.links.Link.{Link}
use Rattle.market_events.specs.declared.nodes.TheConstants.{NODES}
use Rattle.market_events.specs.declared.requests.Request.{Request}
use Rattle.market_events.specs.Carried.{carries}
use Rattle.market_events.specs.Links.{IsLink, lane_node, sender_of, receiver_of, same_link}
use Rattle.market_events.specs.Requests.{lane_of}
use Rattle.market_events.specs.WellFormed.{IsRequest}
use Rattle.market_events.proofs.Values.Offers.{same_link-true}
use Rattle.market_history.specs.declared.schedule.Give.{Give}
use Rattle.market_history.specs.declared.schedule.Give.TheVariants as give
use Rattle.market_history.specs.declared.schedule.Step.{Step}
use Rattle.market_history.specs.declared.schedule.Step.TheVariants as step
use Rattle.market_history.specs.Blocks.{Arrival, what_of, grow}
use Rattle.market_history.specs.Histories.{Histories, journal_at, no_histories}
use Rattle.market_history.specs.Lawful.{IsReadyAfter, IsLawfulAt, IsLawful}
use Rattle.market_history.specs.Schedule.{with_block, event_at, offered, gave, after_give, after_offer, after_offered, play_step, play, IsStep}
use Rattle.market_history.specs.Sent.{got_on, sent, got, IsNumbered, IsPrefixOf, IsMatchedOn}
use Rattle.market_history.proofs.GrowLaws.{got-grow, IsPrefixOf-trans}
use Rattle.market_history.proofs.GrowSent.{sent-grow-begins}
use Rattle.market_history.proofs.HistoryLaws.{journal_at-same, journal_at-other, length-with_journal, journal_at-past}
use Rattle.market_history.proofs.SentLaws.{IsNumbered-at, IsPrefixOf-next}
use Rattle.market_laws.specs.Grown.{nothing, more}
use Rattle.market_laws.proofs.Growth.Members.{all-at, find-at, slice_get-at}
use Rattle.market_laws.proofs.Growth.Due.{number-taken}
use Rattle.market_laws.proofs.Growth.Lawful.{lawful_of_grown, grown_of_lawful}
use Rattle.market_laws.proofs.Bounds.LinkEnds.{receiver-small}
use Rattle.market_laws.proofs.Growth.Made.{IsSentAs, sent-made}
use Rattle.market_laws.proofs.Growth.Outs.{lane_of-small}

-- an event that arrives is the next that its sender made
abbrev pub IsNext : Histories → ℕ → Arrival → Type 0
IsNext h n (Arrival.Gives request) = Unit {0}
IsNext h n (Arrival.Takes event) = slice_get (sent event.link (journal_at h (sender_of event.link))) (length (got event.link (journal_at h n))) ≡ Some event

-- a block more at one node, in lawful histories, where what arrives can come and is next
module _ (h : Histories) (n : ℕ) (arrival : Arrival) (lawful : IsLawful h) (lt : n < NODES) (ready : IsReadyAfter n (journal_at h n) (what_of arrival)) (next : IsNext h n arrival) where
  here : journal_at (with_block h n arrival) n ≡ grow n (journal_at h n) arrival
  here = journal_at-same h n (grow n (journal_at h n) arrival) (subst (λ k. n < k) (sym lawful.each) lt)

  other : (m : ℕ) → m ≢ n → journal_at (with_block h n arrival) m ≡ journal_at h m
  other m differs = journal_at-other h n m (grow n (journal_at h n) arrival) differs

  sent_more : (l : Link) (m : ℕ) → IsPrefixOf (sent l (journal_at h m)) (sent l (journal_at (with_block h n arrival) m))
  sent_more l m = by (m == n) refl
    where
      by : (test : Bool) → (m == n) ≡ test → IsPrefixOf (sent l (journal_at h m)) (sent l (journal_at (with_block h n arrival) m))
      by true is =
          let e : m ≡ n = eqb-true m n is in
          subst (λ k. IsPrefixOf (sent l (journal_at h k)) (sent l (journal_at (with_block h n arrival) k))) (sym e)
          (subst (λ j. IsPrefixOf (sent l (journal_at h n)) (sent l j)) (sym here) (sent-grow-begins l n (journal_at h n) arrival))
      by false is = subst (λ j. IsPrefixOf (sent l (journal_at h m)) (sent l j)) (sym (other m (eqb-false m n is))) ([], sym (append-nil (sent l (journal_at h m))))

  matched_here : (l : Link) → IsLink l → receiver_of l ≡ n → IsPrefixOf (got l (grow n (journal_at h n) arrival)) (sent l (journal_at h (sender_of l)))
  matched_here l link into = subst (λ events. IsPrefixOf events (sent l (journal_at h (sender_of l)))) (sym (got-grow l n (journal_at h n) arrival)) (by arrival next)
    where
      before : IsPrefixOf (got l (journal_at h n)) (sent l (journal_at h (sender_of l)))
      before = subst (λ k. IsPrefixOf (got l (journal_at h k)) (sent l (journal_at h (sender_of l)))) into (lawful.matched l link)

      still : IsPrefixOf (got l (journal_at h n) ++ []) (sent l (journal_at h (sender_of l)))
      still = subst (λ events. IsPrefixOf events (sent l (journal_at h (sender_of l)))) (sym (append-nil (got l (journal_at h n)))) before

      on : (event : Event) (test : Bool) → same_link event.link l ≡ test → IsNext h n (Arrival.Takes event) → IsPrefixOf (got l (journal_at h n) ++ option_to_list (if test then Some event else None)) (sent l (journal_at h (sender_of l)))
      on event true is follows =
          IsPrefixOf-next (got l (journal_at h n)) (sent l (journal_at h (sender_of l))) event before
          (subst (λ k. slice_get (sent k (journal_at h (sender_of k))) (length (got k (journal_at h n))) ≡ Some event) (same_link-true event.link l is) follows)
      on event false is follows = still

      by : (a : Arrival) → IsNext h n a → IsPrefixOf (got l (journal_at h n) ++ option_to_list (got_on l (what_of a))) (sent l (journal_at h (sender_of l)))
      by (Arrival.Gives request) follows = still
      by (Arrival.Takes event) follows = on event (same_link event.link l) refl follows

  got_still : (l : Link) → IsLink l → IsPrefixOf (got l (journal_at (with_block h n arrival) (receiver_of l))) (sent l (journal_at h (sender_of l)))
  got_still l link = by (receiver_of l == n) refl
    where
      by : (test : Bool) → (receiver_of l == n) ≡ test → IsPrefixOf (got l (journal_at (with_block h n arrival) (receiver_of l))) (sent l (journal_at h (sender_of l)))
      by true is =
          let e : receiver_of l ≡ n = eqb-true (receiver_of l) n is in
          subst (λ k. IsPrefixOf (got l (journal_at (with_block h n arrival) k)) (sent l (journal_at h (sender_of l)))) (sym e)
          (subst (λ j. IsPrefixOf (got l j) (sent l (journal_at h (sender_of l)))) (sym here) (matched_here l link e))
      by false is =
          subst (λ j. IsPrefixOf (got l j) (sent l (journal_at h (sender_of l)))) (sym (other (receiver_of l) (eqb-false (receiver_of l) n is))) (lawful.matched l link)

  lawful_at : (m : ℕ) → m < NODES → IsLawfulAt m (journal_at (with_block h n arrival) m)
  lawful_at m below = by (m == n) refl
    where
      by : (test : Bool) → (m == n) ≡ test → IsLawfulAt m (journal_at (with_block h n arrival) m)
      by true is =
          let e : m ≡ n = eqb-true m n is in
          subst (λ k. IsLawfulAt k (journal_at (with_block h n arrival) k)) (sym e)
          (subst (IsLawfulAt n) (sym here)
          (lawful_of_grown n (grow n (journal_at h n) arrival) (more (journal_at h n) arrival (grown_of_lawful n (journal_at h n) (lawful.lawful n lt)) ready)))
      by false is = subst (IsLawfulAt m) (sym (other m (eqb-false m n is))) (lawful.lawful m below)

  pub block_keeps : IsLawful (with_block h n arrival)
  block_keeps = record {
    each = length-with_journal h n (grow n (journal_at h n) arrival) ∙ lawful.each;
    matched = λ l link.
        IsPrefixOf-trans (got l (journal_at (with_block h n arrival) (receiver_of l))) (sent l (journal_at h (sender_of l))) (sent l (journal_at (with_block h n arrival) (sender_of l)))
        (got_still l link) (sent_more l (sender_of l));
    lawful = lawful_at;
  }

-- an event of a link is one that its sender made
pub record IsEventAt (h : Histories) (event : Event) : Type 0 where
  pub on : IsLink event.link
  pub carried : carries event.link event.body ≡ true
  pub numbered : slice_get (sent event.link (journal_at h (sender_of event.link))) (event.number - 1) ≡ Some event
  pub number : 1 ≤ event.number

event_at-is : (h : Histories) (l : Link) (number : ℕ) (event : Event) → IsLawful h → event_at h l number ≡ Some event → IsEventAt h event
event_at-is h l number event lawful found = by (nat_lt (sender_of l) NODES) refl
  where
    by : (test : Bool) → nat_lt (sender_of l) NODES ≡ test → IsEventAt h event
    by false far =
        let past : length h ≤ sender_of l = subst (λ k. k ≤ sender_of l) (sym lawful.each) (grind (arith, nat_tests)) in
        let none : event_at h l number ≡ None = ap (λ j. find (λ (e : Event). e.number == number) (sent l j)) (journal_at-past h (sender_of l) past) in
        let no : ⊥ = cc in absurd no
    by true near =
        let lt = ltb-true (sender_of l) NODES near in
        let journal = journal_at h (sender_of l) in
        let at = find-at (λ (e : Event). e.number == number) (sent l journal) event found in
        let sent_as : IsSentAs (sender_of l) l event =
        all-at (IsSentAs (sender_of l) l) at.before event at.after
        (subst (AllByRecursion (IsSentAs (sender_of l) l)) at.is (sent-made (sender_of l) lt journal (grown_of_lawful (sender_of l) journal (lawful.lawful (sender_of l) lt)) l)) in
        let number_is : event.number ≡ length at.before + 1 =
        IsNumbered-at at.before event at.after (subst (λ events. IsNumbered events) at.is ((lawful.lawful (sender_of l) lt).sent_numbered l)) in
        let there : slice_get (sent l journal) (length at.before) ≡ Some event = ap (λ events. slice_get events (length at.before)) at.is ∙ slice_get-at at.before event at.after in
        let e : l ≡ event.link = sym (same_link-true event.link l sent_as.same) in
        record {
          on = sent_as.made.on;
          carried = sent_as.made.carried;
          numbered = subst (λ k. slice_get (sent k (journal_at h (sender_of k))) (event.number - 1) ≡ Some event) e
              (ap (λ k. slice_get (sent l journal) k) (omega (arith, number_is)) ∙ there);
          number = omega (arith, number_is);
        }

-- an event that can be taken is taken
taken_keeps : (h : Histories) (event : Event) → IsLawful h → IsEventAt h event → offered h event ≡ offer.Take → IsLawful (with_block h (receiver_of event.link) (Arrival.Takes event))
taken_keeps h event lawful is take =
    block_keeps h (receiver_of event.link) (Arrival.Takes event) lawful (receiver-small event.link is.on) (is.on, refl, is.carried, take) next
  where
    next : IsNext h (receiver_of event.link) (Arrival.Takes event)
    next =
        let number = number-taken (receiver_of event.link) (journal_at h (receiver_of event.link)) event take in
        let e : event.number - 1 ≡ length (got event.link (journal_at h (receiver_of event.link))) = omega (arith, number) in
        subst (λ k. slice_get (sent event.link (journal_at h (sender_of event.link))) k ≡ Some event) e is.numbered

offer_keeps : (h : Histories) (event : Event) → IsLawful h → IsEventAt h event → (o : Offer) → offered h event ≡ o → IsLawful (after_offer h event o)
offer_keeps h event lawful is offer.Take take = taken_keeps h event lawful is take
offer_keeps h event lawful is other take = lawful

offered_keeps : (h : Histories) (l : Link) (number : ℕ) → IsLawful h → (o : Option Event) → event_at h l number ≡ o → IsLawful (after_offered h o)
offered_keeps h l number lawful None found = lawful
offered_keeps h l number lawful (Some event) found = offer_keeps h event lawful (event_at-is h l number event lawful found) (offered h event) refl

-- a request that the lane asks is given
give_keeps : (h : Histories) (r : Request) → IsLawful h → IsRequest r → (g : Give) → gave h r ≡ g → IsLawful (after_give h r g)
give_keeps h r lawful ok give.Asked asked =
    block_keeps h (lane_node (lane_of r.id)) (Arrival.Gives r) lawful (omega (arith, lane_of-small r.id)) (ok, refl, asked) tt
give_keeps h r lawful ok other asked = lawful

pub step_keeps : (h : Histories) (s : Step) → IsLawful h → IsStep s → IsLawful (play_step h s)
unfolding play_step
step_keeps h (step.Give r) lawful ok = give_keeps h r lawful ok (gave h r) refl
step_keeps h (step.Offer l number) lawful ok = offered_keeps h l number lawful (event_at h l number) refl
step_keeps h (step.Ack l count) lawful ok = lawful

pub play_keeps : (h : Histories) (steps : List Step) → IsLawful h → AllByRecursion IsStep steps → IsLawful (play h steps)
play_keeps h [] lawful ok = lawful
play_keeps h (s ∷ ss) lawful ok = play_keeps (play_step h s) ss (step_keeps h s lawful ok.0) ok.1

-- no entries anywhere
empty_at : (h : Histories) → AllByRecursion (λ (j : List Entry). j ≡ []) h → (n : ℕ) → slice_index_or h n [] ≡ []
empty_at [] each n = refl
empty_at (j ∷ js) each zero = each.0
empty_at (j ∷ js) each (suc n) = empty_at js each.1 n

none_at : (n : ℕ) → journal_at no_histories n ≡ []
unfolding journal_at
none_at n = empty_at no_histories (search rules) n

-- the histories in which nothing happened are lawful
pub nothing_lawful : IsLawful no_histories
nothing_lawful = record {
  each = refl;
  matched = λ l link. subst (λ j. IsMatchedOn l (journal_at no_histories (sender_of l)) j) (sym (none_at (receiver_of l))) (sent l (journal_at no_histories (sender_of l)), refl);
  lawful = λ n lt. subst (IsLawfulAt n) (sym (none_at n)) (lawful_of_grown n [] nothing);
}
