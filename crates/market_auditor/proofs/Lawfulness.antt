-- All criteria hold exactly where the histories are lawful.
use Rattle.std.proofs.Common.{◌≡◌, ℕ, ◌+◌, ◌<◌, ◌≤◌, ◌⊎◌, inl, inr, List, [], ◌∷◌, ◌++◌, length, refl, ap, sym, ◌∙◌, subst, length-append, append_assoc, arith}
use Rattle.market_events.specs.declared.events.Entry.{Entry}
use Rattle.market_events.specs.declared.events.What.{What}
use Rattle.market_events.specs.declared.events.What.TheVariants.{Given, Taken, Made, Answered}
use Rattle.market_events.specs.declared.nodes.TheConstants.{NODES}
use Rattle.market_events.specs.declared.requests.Request.{Request}
use Rattle.market_events.specs.Links.{sender_of, receiver_of}
use Rattle.market_events.specs.WellFormed.{IsWellFormedWhat}
use Rattle.market_history.specs.declared.schedule.Give.TheVariants as give
use Rattle.market_history.specs.Blocks.{Out, services}
use Rattle.market_history.specs.Causality.{RestsOn}
use Rattle.market_history.specs.Histories.{Histories, journal_at, IsHistories}
use Rattle.market_history.specs.Journals.{IsEntry, AreEntriesFrom, CanHappen, IsJournal}
use Rattle.market_history.specs.Lawful.{IsReadyAfter, IsLawfulAt, IsLawful}
use Rattle.market_history.specs.Once.{give_of}
use Rattle.market_history.specs.Sent.{sent, got, IsPrefixOf}
use Rattle.market_history.specs.Stamps.{EachAfter, IsStampedAfter}
use Rattle.market_laws.proofs.Bounds.LinkEnds.{receiver-small, sender-small}
use Rattle.market_laws.proofs.Growth.Due.{HasNumber, IsDue, sent_numbered, got_numbered, all_due}
use Rattle.market_laws.proofs.Growth.Each.{EachAfter-weaker}
use Rattle.market_auditor.specs.declared.verdicts.Criterion.{Criterion}
use Rattle.market_auditor.specs.declared.verdicts.Criterion.TheVariants.{C0, C1, C2, C3, C4, C5, C6}
use Rattle.market_auditor.specs.Criteria.{HasNextNumber, IsAsMade, CanBeTaken, owed_after, IsNextOf, GoesOn, Asks, HoldsAt, AllHold}
use Rattle.market_auditor.specs.Owing.{lefts}
use Rattle.market_auditor.proofs.Deciding.{Decided, below_decided}
use Rattle.market_auditor.proofs.Fronts.{OwesSome, owes_nothing, owes-next, next_of, blocks-of, goes_all, nothing_owed}
use Rattle.market_auditor.proofs.Matching.{matched_all, as_made}

-- what holds of each, with what else holds of each
pub EachAfter-both : {A : Type 0} (P Q : List A → A → Type 0) (before xs : List A) → EachAfter P before xs → EachAfter Q before xs → EachAfter (λ b x. P b x × Q b x) before xs
EachAfter-both P Q before [] p q = tt
EachAfter-both P Q before (x ∷ xs) p q = ((p.0, q.0), EachAfter-both P Q (before ++ x ∷ []) xs p.1 q.1)

-- the entries of a journal may stand where they stand
stands_from : (n place : ℕ) (before xs : List Entry) → place ≡ length before → AreEntriesFrom n place xs → EachAfter (λ b (x : Entry). IsEntry n (length b) x) before xs
stands_from n place before [] at each = tt
stands_from n place before (x ∷ xs) at each = (
  subst (λ (p : ℕ). IsEntry n p x) at each.0,
  stands_from n (place + 1) (before ++ x ∷ []) xs (let e = length-append before (x ∷ []) in omega arith) each.1,
)

pub stands : (n : ℕ) (journal : List Entry) → IsJournal n journal → EachAfter (λ b (x : Entry). IsEntry n (length b) x) [] journal
stands n journal is = stands_from n 0 [] journal refl is

service_or_lane : (n : ℕ) → (n < services) ⊎ (services ≤ n)
service_or_lane n = by (below_decided n services)
  where
    by : Decided (n < services) → (n < services) ⊎ (services ≤ n)
    by (inl low) = inl low
    by (inr never) = let high : services ≤ n = omega arith in inr high

module _ (h : Histories) (all : AllHold h) (n : ℕ) (lt : n < NODES) where
  -- each entry goes on from those before it
  goes : EachAfter (λ b (x : Entry). GoesOn n b x.what) [] (journal_at h n)
  goes = by (service_or_lane n)
    where
      by : (n < services) ⊎ (services ≤ n) → EachAfter (λ b (x : Entry). GoesOn n b x.what) [] (journal_at h n)
      by (inl low) = EachAfter-weaker (Asks C5 h n) (λ b (x : Entry). GoesOn n b x.what) (λ b x f. f low) [] (journal_at h n) (all C5 n lt).each
      by (inr high) = EachAfter-weaker (Asks C6 h n) (λ b (x : Entry). GoesOn n b x.what) (λ b x f. f high) [] (journal_at h n) (all C6 n lt).each

  ended : owed_after n (journal_at h n) ≡ []
  ended = by (service_or_lane n)
    where
      by : (n < services) ⊎ (services ≤ n) → owed_after n (journal_at h n) ≡ []
      by (inl low) = (all C5 n lt).ends low
      by (inr high) = (all C6 n lt).ends high

  -- each entry is due
  given_ready : (before : List Entry) (request : Request) (outs : List Out) → IsNextOf (lefts outs) before (Given request) → give_of before request ≡ give.Asked
  given_ready before request [] may = may
  given_ready before request (out ∷ outs) is = let no : ⊥ = cc in absurd no

  ready : (before : List Entry) (clock : ℕ) (what : What) → IsWellFormedWhat what → CanHappen n clock what → CanBeTaken n before what → OwesSome n before → GoesOn n before what → IsReadyAfter n before what
  ready before clock (Given request) formed happens can some on =
      (formed, happens.1, given_ready before request some.outs (next_of n before some.outs (Given request) some.owes on))
  ready before clock (Taken event) formed happens can some on = (happens.0.link, happens.1, happens.0.body, can)
  ready before clock (Made event) formed happens can some on = tt
  ready before clock (Answered id reply) formed happens can some on = tt

  due_from : (before xs : List Entry) → OwesSome n before → EachAfter (λ b (x : Entry). IsEntry n (length b) x) before xs → EachAfter (Asks C1 h n) before xs → EachAfter (Asks C3 h n) before xs → EachAfter (Asks C4 h n) before xs
      → EachAfter (λ b (x : Entry). GoesOn n b x.what) before xs → EachAfter (IsDue n) before xs
  due_from before [] some entries numbers clocks cans on = tt
  due_from before (x ∷ xs) some entries numbers clocks cans on = (
    record {
      stamp = clocks.0.0;
      rests = clocks.0.1;
      ready = ready before x.clock x.what entries.0.formed.what entries.0.what cans.0 some on.0;
      number = numbered x.what numbers.0;
    },
    due_from (before ++ x ∷ []) xs (owes-next n before x some.outs some.owes on.0) entries.1 numbers.1 clocks.1 cans.1 on.1,
  )
    where
      numbered : (what : What) → HasNextNumber before what → HasNumber before what
      numbered (Given request) is = is
      numbered (Taken event) is = is
      numbered (Made event) is = is
      numbered (Answered id reply) is = is

  each_due : IsJournal n (journal_at h n) → EachAfter (IsDue n) [] (journal_at h n)
  each_due journal =
      due_from [] (journal_at h n) (record { outs = []; owes = owes_nothing n }) (stands n (journal_at h n) journal) (all C1 n lt).each (all C3 n lt).each (all C4 n lt).each goes

  pub lawful_at : IsJournal n (journal_at h n) → IsLawfulAt n (journal_at h n)
  lawful_at journal =
      let due = each_due journal in
      record {
        sent_numbered = sent_numbered n (journal_at h n) due;
        got_numbered = got_numbered n (journal_at h n) due;
        stamped = EachAfter-weaker (IsDue n) IsStampedAfter (λ before x d. d.stamp) [] (journal_at h n) due;
        pasts = EachAfter-weaker (IsDue n) (λ before (x : Entry). RestsOn before x.what) (λ before x d. d.rests) [] (journal_at h n) due;
        ready = EachAfter-weaker (IsDue n) (λ before (x : Entry). IsReadyAfter n before x.what) (λ before x d. d.ready) [] (journal_at h n) due;
        blocks = blocks-of n (journal_at h n) goes ended;
      }

pub lawful-of : (h : Histories) → IsHistories h → AllHold h → IsLawful h
lawful-of h is all = record {
  each = is.each;
  matched = λ link on.
      matched_all h link ((lawful_at h all (sender_of link) (sender-small link on) (is.journals (sender_of link) (sender-small link on))).sent_numbered link)
      (journal_at h (receiver_of link)) (all C1 (receiver_of link) (receiver-small link on)).each (all C2 (receiver_of link) (receiver-small link on)).each;
  lawful = λ n lt. lawful_at h all n lt (is.journals n lt);
}

-- lawful histories
module _ (h : Histories) (is : IsHistories h) (lawful : IsLawful h) (n : ℕ) (lt : n < NODES) where
  due : EachAfter (IsDue n) [] (journal_at h n)
  due =
      let l = lawful.lawful n lt in
      all_due n [] (journal_at h n) l.sent_numbered l.got_numbered l.stamped l.pasts l.ready

  numbers : EachAfter (Asks C1 h n) [] (journal_at h n)
  numbers = EachAfter-weaker (IsDue n) (Asks C1 h n) (λ before x d. numbered before x.what d.number) [] (journal_at h n) due
    where
      numbered : (before : List Entry) (what : What) → HasNumber before what → HasNextNumber before what
      numbered before (Given request) is = is
      numbered before (Taken event) is = is
      numbered before (Made event) is = is
      numbered before (Answered id reply) is = is

  -- each event that was taken was made
  made_from : (before xs : List Entry) → journal_at h n ≡ before ++ xs → EachAfter (λ b (x : Entry). IsEntry n (length b) x) before xs → EachAfter (Asks C1 h n) before xs → EachAfter (Asks C2 h n) before xs
  made_from before [] parts entries numbered = tt
  made_from before (x ∷ xs) parts entries numbered =
      (by x.what refl entries.0.what numbered.0, made_from (before ++ x ∷ []) xs (parts ∙ sym (append_assoc before (x ∷ []) xs)) entries.1 numbered.1)
    where
      by : (what : What) → x.what ≡ what → CanHappen n x.clock what → HasNextNumber before what → IsAsMade h what
      by (Given request) at happens number = tt
      by (Taken event) at happens number =
          as_made h event.link ((lawful.lawful (sender_of event.link) (sender-small event.link happens.0.link)).sent_numbered event.link) before x xs event at refl number
          (subst (λ j. IsPrefixOf (got event.link j) (sent event.link (journal_at h (sender_of event.link)))) (ap (journal_at h) happens.1 ∙ parts) (lawful.matched event.link happens.0.link))
      by (Made event) at happens number = tt
      by (Answered id reply) at happens number = tt

  made : EachAfter (Asks C2 h n) [] (journal_at h n)
  made = made_from [] (journal_at h n) refl (stands n (journal_at h n) (is.journals n lt)) numbers

  clocks : EachAfter (Asks C3 h n) [] (journal_at h n)
  clocks = EachAfter-weaker (IsDue n) (Asks C3 h n) (λ before x d. (d.stamp, d.rests)) [] (journal_at h n) due

  cans : EachAfter (Asks C4 h n) [] (journal_at h n)
  cans = EachAfter-weaker (IsDue n) (Asks C4 h n) (λ before x d. can before x.what d.ready) [] (journal_at h n) due
    where
      can : (before : List Entry) (what : What) → IsReadyAfter n before what → CanBeTaken n before what
      can before (Given request) ready = tt
      can before (Taken event) ready = ready.3
      can before (Made event) ready = tt
      can before (Answered id reply) ready = tt

  goes_on : EachAfter (λ b (x : Entry). GoesOn n b x.what) [] (journal_at h n)
  goes_on =
      goes_all n (journal_at h n) (lawful.lawful n lt).blocks
      (EachAfter-weaker (IsDue n) (λ b (x : Entry). (request : Request) → x.what ≡ Given request → give_of b request ≡ give.Asked)
      (λ before x d request at. asked before request (subst (IsReadyAfter n before) at d.ready)) [] (journal_at h n) due)
    where
      asked : (before : List Entry) (request : Request) → IsReadyAfter n before (Given request) → give_of before request ≡ give.Asked
      asked before request ready = ready.2

  owed : owed_after n (journal_at h n) ≡ []
  owed = nothing_owed n (journal_at h n) (lawful.lawful n lt).blocks

  pub holds : (criterion : Criterion) → HoldsAt criterion h n
  holds C0 = record { each = EachAfter-weaker (IsDue n) (Asks C0 h n) (λ before x d. tt) [] (journal_at h n) due; ends = tt }
  holds C1 = record { each = numbers; ends = tt }
  holds C2 = record { each = made; ends = tt }
  holds C3 = record { each = clocks; ends = tt }
  holds C4 = record { each = cans; ends = tt }
  holds C5 = record { each = EachAfter-weaker (λ b (x : Entry). GoesOn n b x.what) (Asks C5 h n) (λ before x goes _. goes) [] (journal_at h n) goes_on; ends = λ _. owed }
  holds C6 = record { each = EachAfter-weaker (λ b (x : Entry). GoesOn n b x.what) (Asks C6 h n) (λ before x goes _. goes) [] (journal_at h n) goes_on; ends = λ _. owed }

pub all-of : (h : Histories) → IsHistories h → IsLawful h → AllHold h
all-of h is lawful criterion n lt = holds h is lawful n lt criterion
