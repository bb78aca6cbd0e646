-- The turns of all nodes are one list of steps of the schedule: node 0's, then node 1's, and so on.
use Rattle.std.proofs.Common.{◌≡◌, ◌≢◌, ℕ, suc, ◌<◌, ◌≤◌, Bool, true, false, ◌==◌, List, [], ◌∷◌, length, refl, ap, subst, sym, ◌∙◌, arith}
use Rattle.std.specs.List.{AllByRecursion}
use Rattle.std.proofs.lemmas.Bool.Decides.{nat_tests}
use Rattle.std.proofs.lemmas.List.{append-nil}
use Rattle.std.proofs.lemmas.List.Sums.{fold-append}
use Rattle.market_events.specs.declared.events.Entry.{Entry}
use Rattle.market_events.specs.declared.events.Event.{Event}
use Rattle.market_events.specs.declared.requests.Request.{Request}
use Rattle.market_events.specs.declared.nodes.TheConstants.{NODES}
use Rattle.market_events.specs.Links.{lane_node, receiver_of}
use Rattle.market_events.specs.Requests.{lane_of}
use Rattle.market_history.specs.declared.schedule.Give.{Give}
use Rattle.market_history.specs.declared.schedule.Give.TheVariants as give
use Rattle.market_history.specs.declared.schedule.Step.TheVariants as step
use Rattle.market_history.specs.Blocks.{Arrival, grow}
use Rattle.market_history.specs.Histories.{Histories, journal_at, with_journal}
use Rattle.market_history.specs.Lawful.{IsLawful}
use Rattle.market_history.specs.Once.{give_of}
use Rattle.market_history.specs.Schedule.{after_give, play_step, play, IsStep}
use Rattle.market_history.specs.Sent.{IsPrefixOf}
use Rattle.market_history.proofs.GrowLaws.{grow-begins, IsPrefixOf-trans}
use Rattle.market_history.proofs.HistoryLaws.{journal_at-same, journal_at-other}
use Rattle.market_laws.proofs.Growth.Members.{all-append}
use Rattle.market_laws.proofs.Growth.Played.{play_keeps}
use Rattle.market_node.specs.Offered.{with_offered, with_all_offered}
use Rattle.market_turns.specs.Queues.{IsOwnRequest, asked_by, with_queue}
use Rattle.market_world.proofs.Stepping.{with_journal-own}
use Rattle.market_rounds.specs.Turning.{WasMade, offer_steps, asked_by_step, queue_steps, after_turn, turn_steps, after_turns, turns_steps}
use Rattle.market_rounds.proofs.Offering.{offers_play, offered_begins, made_still, with_journal-twice}

-- a request that is asked
give_plays : (h : Histories) (n : ℕ) (r : Request) → lane_node (lane_of r.id) ≡ n → give_of (journal_at h n) r ≡ give.Asked
    → play_step h (step.Give r) ≡ with_journal h n (grow n (journal_at h n) (Arrival.Gives r))
unfolding play_step
give_plays h n r lane asked =
    ap (after_give h r) (ap (λ m. give_of (journal_at h m) r) lane ∙ asked)
    ∙ ap (λ m. with_journal h m (grow m (journal_at h m) (Arrival.Gives r))) lane

-- a lane that goes through its queue plays at most one step
pub queue_plays : (h : Histories) (n : ℕ) (queue : List Request) → AllByRecursion (IsOwnRequest n) queue → play h (queue_steps (journal_at h n) queue) ≡ with_journal h n (with_queue n (journal_at h n) queue)
queue_plays h n [] own = sym (with_journal-own h n)
queue_plays h n (r ∷ rs) own = by_give (give_of (journal_at h n) r) refl (queue_plays h n rs own.1)
  where
    by_give : (g : Give) → give_of (journal_at h n) r ≡ g → play h (queue_steps (journal_at h n) rs) ≡ with_journal h n (with_queue n (journal_at h n) rs)
        → play h (asked_by_step g r (queue_steps (journal_at h n) rs)) ≡ with_journal h n (asked_by g n (journal_at h n) r (with_queue n (journal_at h n) rs))
    by_give give.Asked is rest = give_plays h n r own.0.1 is
    by_give give.Waiting is rest = sym (with_journal-own h n)
    by_give give.Kept is rest = rest
    by_give give.Differs is rest = rest
    by_give give.Full is rest = rest

-- its steps give well-formed requests
queue_ok : (n : ℕ) (entries : List Entry) (queue : List Request) → AllByRecursion (IsOwnRequest n) queue → AllByRecursion IsStep (queue_steps entries queue)
queue_ok n entries [] own = tt
queue_ok n entries (r ∷ rs) own = by_give (queue_ok n entries rs own.1) (give_of entries r)
  where
    by_give : AllByRecursion IsStep (queue_steps entries rs) → (g : Give) → AllByRecursion IsStep (asked_by_step g r (queue_steps entries rs))
    by_give rest give.Asked = (own.0.0, tt)
    by_give rest give.Waiting = tt
    by_give rest give.Kept = rest
    by_give rest give.Differs = rest
    by_give rest give.Full = rest

pub offers_ok : (events : List Event) → AllByRecursion IsStep (offer_steps events)
offers_ok [] = tt
offers_ok (e ∷ es) = (tt, offers_ok es)

-- the entries begin as they were
pub all_begins : (n : ℕ) (entries : List Entry) (events : List Event) → IsPrefixOf entries (with_all_offered n entries events)
all_begins n entries [] = ([], sym (append-nil entries))
all_begins n entries (e ∷ es) =
    IsPrefixOf-trans entries (with_offered n entries e) (with_all_offered n (with_offered n entries e) es) (offered_begins n entries e) (all_begins n (with_offered n entries e) es)

pub queue_begins : (n : ℕ) (entries : List Entry) (queue : List Request) → IsPrefixOf entries (with_queue n entries queue)
queue_begins n entries [] = ([], sym (append-nil entries))
queue_begins n entries (r ∷ rs) = by_give (queue_begins n entries rs) (give_of entries r)
  where
    by_give : IsPrefixOf entries (with_queue n entries rs) → (g : Give) → IsPrefixOf entries (asked_by g n entries r (with_queue n entries rs))
    by_give rest give.Asked = grow-begins n entries (Arrival.Gives r)
    by_give rest give.Waiting = ([], sym (append-nil entries))
    by_give rest give.Kept = rest
    by_give rest give.Differs = rest
    by_give rest give.Full = rest

pub turn_begins : (n : ℕ) (entries : List Entry) (events : List Event) (queue : List Request) → IsPrefixOf entries (after_turn n entries events queue)
turn_begins n entries events queue =
    IsPrefixOf-trans entries (with_all_offered n entries events) (after_turn n entries events queue) (all_begins n entries events) (queue_begins n (with_all_offered n entries events) queue)

-- one node's turn is played by its steps
pub turn_plays : (n : ℕ) → n < NODES → (h : Histories) (events : List Event) (queue : List Request) → IsLawful h → AllByRecursion (WasMade h) events → AllByRecursion (λ (e : Event). receiver_of e.link ≡ n) events
    → AllByRecursion (IsOwnRequest n) queue → play h (turn_steps n (journal_at h n) events queue) ≡ with_journal h n (after_turn n (journal_at h n) events queue)
turn_plays n low h events queue lawful made into own =
    fold-append play_step h (offer_steps events) (queue_steps offered queue)
    ∙ ap (λ k. play k (queue_steps offered queue)) (offers_play n low h events lawful made into)
    ∙ ap (λ es. play after (queue_steps es queue)) (sym at)
    ∙ queue_plays after n queue own
    ∙ ap (λ es. with_journal after n (with_queue n es queue)) at
    ∙ with_journal-twice h n offered (with_queue n offered queue)
  where
    offered : List Entry
    offered = with_all_offered n (journal_at h n) events

    after : Histories
    after = with_journal h n offered

    at : journal_at after n ≡ offered
    at = journal_at-same h n offered (subst (λ k. n < k) (sym lawful.each) low)

module _ (events : ℕ → List Event) (queues : ℕ → List Request) (h : Histories) (lawful : IsLawful h)
    (made : (n : ℕ) → n < NODES → AllByRecursion (WasMade h) (events n)) (into : (n : ℕ) → n < NODES → AllByRecursion (λ (e : Event). receiver_of e.link ≡ n) (events n))
    (own : (n : ℕ) → n < NODES → AllByRecursion (IsOwnRequest n) (queues n)) where
  -- the turns of the first nodes
  pub record AreTurned (n : ℕ) : Type 0 where
    pub played : play h (turns_steps events queues h n) ≡ after_turns events queues h n
    pub still_lawful : IsLawful (after_turns events queues h n)
    pub untouched : (m : ℕ) → n ≤ m → journal_at (after_turns events queues h n) m ≡ journal_at h m
    pub turned : (m : ℕ) → m < n → journal_at (after_turns events queues h n) m ≡ after_turn m (journal_at h m) (events m) (queues m)
    pub still_made : (e : Event) → WasMade h e → WasMade (after_turns events queues h n) e

  pub turned_first : AreTurned 0
  turned_first = record {
    played = refl;
    still_lawful = lawful;
    untouched = λ m from. refl;
    turned = λ m none. absurd (omega arith);
    still_made = λ e it. it;
  }

  pub turned_next : (n : ℕ) → n < NODES → AreTurned n → AreTurned (suc n)
  turned_next n low are = record {
    played =
        fold-append play_step h (turns_steps events queues h n) (turn_steps n (journal_at h n) (events n) (queues n))
        ∙ ap (λ k. play k (turn_steps n (journal_at h n) (events n) (queues n))) are.played
        ∙ step;
    still_lawful = subst IsLawful step (play_keeps before (turn_steps n (journal_at h n) (events n) (queues n)) are.still_lawful
        (all-append IsStep (offer_steps (events n)) (queue_steps (with_all_offered n (journal_at h n) (events n)) (queues n)) (offers_ok (events n)) (queue_ok n (with_all_offered n (journal_at h n) (events n)) (queues n) (own n low))));
    untouched = λ m from. journal_at-other before n m new (λ e. absurd (omega (arith, e, from))) ∙ are.untouched m (omega arith);
    turned = λ m near. by_test m near;
    still_made = λ e it. made_still before n new e below longer (are.still_made e it);
  }
    where
      before : Histories
      before = after_turns events queues h n

      new : List Entry
      new = after_turn n (journal_at h n) (events n) (queues n)

      same : journal_at before n ≡ journal_at h n
      same = are.untouched n (omega arith)

      below : n < length before
      below = subst (λ k. n < k) (sym are.still_lawful.each) low

      longer : IsPrefixOf (journal_at before n) new
      longer = subst (λ es. IsPrefixOf es new) (sym same) (turn_begins n (journal_at h n) (events n) (queues n))

      made_before : (es : List Event) → AllByRecursion (WasMade h) es → AllByRecursion (WasMade before) es
      made_before [] all = tt
      made_before (e ∷ es) all = (are.still_made e all.0, made_before es all.1)

      step : play before (turn_steps n (journal_at h n) (events n) (queues n)) ≡ with_journal before n new
      step = subst (λ xs. play before (turn_steps n xs (events n) (queues n)) ≡ with_journal before n (after_turn n xs (events n) (queues n))) same
          (turn_plays n low before (events n) (queues n) are.still_lawful (made_before (events n) (made n low)) (into n low) (own n low))

      by_test : (m : ℕ) → m < suc n → journal_at (with_journal before n new) m ≡ after_turn m (journal_at h m) (events m) (queues m)
      by_test m near = by_order (m == n) refl
        where
          by_order : (b : Bool) → (m == n) ≡ b → journal_at (with_journal before n new) m ≡ after_turn m (journal_at h m) (events m) (queues m)
          by_order true test =
              let e : n ≡ m = grind (arith, nat_tests) in
              subst (λ k. journal_at (with_journal before n new) k ≡ after_turn k (journal_at h k) (events k) (queues k)) e (journal_at-same before n new below)
          by_order false test =
              let other : m ≢ n = grind (arith, nat_tests) in
              let lower : m < n = grind (arith, nat_tests) in
              journal_at-other before n m new other ∙ are.turned m lower
