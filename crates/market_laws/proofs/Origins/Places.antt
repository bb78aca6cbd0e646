-- Where each entry of a grown journal stands: it began a block, or it was left by one (grown-placed); the places where an
-- event was taken (took_of) and made (made_of), and back (took_stands, made_stands).
use Rattle.std.proofs.Common.{◌≡◌, ℕ, List, [], ◌∷◌, ◌++◌, ◌⊎◌, inl, inr, refl, ap, sym, ◌∙◌, subst, append_assoc}
use Rattle.std.specs.Prelude.{fold}
use Rattle.std.proofs.lemmas.List.Sums.{fold-append}
use Rattle.market_events.specs.declared.events.Entry.{Entry}
use Rattle.market_events.specs.declared.events.Event.{Event}
use Rattle.market_events.specs.declared.events.What.TheVariants.{Taken, Made}
use Rattle.market_events.specs.Links.{sender_of}
use Rattle.market_history.specs.Blocks.{Out, Arrival, what_of, with_what, with_out, grow}
use Rattle.market_history.specs.Histories.{Histories}
use Rattle.market_history.specs.Lawful.{IsReadyAfter, IsLawful}
use Rattle.market_history.specs.Stamps.{EachAfter, HasClock}
use Rattle.market_history.proofs.GrowLaws.{entry_of, what_left, with_out-is, outs_after, grow-is, outs-begin}
use Rattle.market_history.proofs.StampLaws.{EachAfter-push, EachAfter-at}
use Rattle.market_laws.specs.Cuts.{entry_with, StandsIn, TookAt, MadeAt}
use Rattle.market_laws.specs.Grown.{Grown, nothing, more}
use Rattle.market_laws.proofs.Growth.Made.{IsMadeAt}
use Rattle.market_laws.proofs.Growth.Takers.{StandsAt, grown_at, stands-due, stands-made}

-- the entry began a block
pub record CameAt (n : ℕ) (before : List Entry) (x : Entry) : Type 0 where
  pub arrival : Arrival
  pub grown : Grown n before
  pub ready : IsReadyAfter n before (what_of arrival)
  pub is : x ≡ entry_of before (what_of arrival)

-- the entry was left by the block that an arrival began
pub record LeftAt (n : ℕ) (before : List Entry) (x : Entry) : Type 0 where
  pub start : List Entry
  pub arrival : Arrival
  pub grown : Grown n start
  pub ready : IsReadyAfter n start (what_of arrival)
  pub front : List Out
  pub out : Out
  pub back : List Out
  pub outs : outs_after n start arrival ≡ front ++ out ∷ back
  pub before_is : before ≡ fold with_out (with_what start (what_of arrival)) front
  pub is : x ≡ entry_of before (what_left before out)

abbrev pub Placed : ℕ → List Entry → Entry → Type 0
Placed n before x = CameAt n before x ⊎ LeftAt n before x

outs_placed : (n : ℕ) (start : List Entry) (a : Arrival) → Grown n start → IsReadyAfter n start (what_of a) → (front outs : List Out) → outs_after n start a ≡ front ++ outs
    → (j : List Entry) → j ≡ fold with_out (with_what start (what_of a)) front → EachAfter (Placed n) [] j → EachAfter (Placed n) [] (fold with_out j outs)
outs_placed n start a grown ready front [] all j is each = each
outs_placed n start a grown ready front (out ∷ outs) all j is each =
    outs_placed n start a grown ready (front ++ out ∷ []) outs (all ∙ sym (append_assoc front (out ∷ []) outs)) (with_out j out)
    (ap (λ k. with_out k out) is ∙ sym (fold-append with_out (with_what start (what_of a)) front (out ∷ [])))
    (subst (EachAfter (Placed n) []) (sym (with_out-is j out))
    (EachAfter-push (Placed n) [] j (entry_of j (what_left j out)) each
    (inr (record { start = start; arrival = a; grown = grown; ready = ready; front = front; out = out; back = outs; outs = all; before_is = is; is = refl }))))

-- each entry of a grown journal
pub grown-placed : (n : ℕ) {j : List Entry} → Grown n j → EachAfter (Placed n) [] j
grown-placed n nothing = tt
grown-placed n (more j a grown ready) =
    subst (EachAfter (Placed n) []) (sym (grow-is n j a))
    (outs_placed n j a grown ready [] (outs_after n j a) refl (with_what j (what_of a)) refl
    (EachAfter-push (Placed n) [] j (entry_of j (what_of a)) (grown-placed n grown) (inl (record { arrival = a; grown = grown; ready = ready; is = refl }))))

-- the entry that begins a block stands after the journal
pub grow-first : (n : ℕ) (j : List Entry) (a : Arrival) → StandsIn j (entry_of j (what_of a)) (grow n j a)
grow-first n j a =
    let begins = outs-begin (with_what j (what_of a)) (outs_after n j a) in
    record { after = begins.0; is = grow-is n j a ∙ begins.1 ∙ append_assoc j (entry_of j (what_of a) ∷ []) begins.0 }

-- each entry of lawful histories
pub stands-placed : (h : Histories) (n : ℕ) (x : Entry) → IsLawful h → (s : StandsAt h n x) → Placed n s.before x
stands-placed h n x lawful s =
    EachAfter-at (Placed n) [] s.before x s.after (subst (EachAfter (Placed n) []) s.is (grown-placed n (grown_at h n lawful s.node)))

-- the place as that of an entry
abbrev pub took_stands : (h : Histories) (n : ℕ) (event : Event) → (t : TookAt h n event) → StandsAt h n (entry_with t.clock (Taken event))
took_stands h n event t = record { node = t.node; before = t.before; after = t.after; is = t.is }

abbrev pub made_stands : (h : Histories) (n : ℕ) (event : Event) → (m : MadeAt h n event) → StandsAt h n (entry_with event.clock (Made event))
made_stands h n event m = record { node = m.node; before = m.before; after = m.after; is = m.is }

-- an entry that took an event began a block
not_left : (before : List Entry) (out : Out) (event : Event) → what_left before out ≡ Taken event → ⊥
not_left before (Out.Makes link b) event e = cc
not_left before (Out.Answers id reply) event e = cc

came_grown : (n : ℕ) (before : List Entry) (x : Entry) (event : Event) → x.what ≡ Taken event → Placed n before x → Grown n before
came_grown n before x event is (inl came) = came.grown
came_grown n before x event is (inr left) = absurd (not_left before left.out event (ap (λ (y : Entry). y.what) (sym left.is) ∙ is))

-- an entry that made an event was left by a block
not_come : (a : Arrival) (event : Event) → what_of a ≡ Made event → ⊥
not_come (Arrival.Gives request) event e = cc
not_come (Arrival.Takes taken) event e = cc

made_left : (n : ℕ) (before : List Entry) (x : Entry) (event : Event) → x.what ≡ Made event → Placed n before x → LeftAt n before x
made_left n before x event is (inl came) = absurd (not_come came.arrival event (ap (λ (y : Entry). y.what) (sym came.is) ∙ is))
made_left n before x event is (inr left) = left

pub made-left : (h : Histories) (n : ℕ) (event : Event) → IsLawful h → (m : MadeAt h n event) → LeftAt n m.before (entry_with event.clock (Made event))
made-left h n event lawful m =
    made_left n m.before (entry_with event.clock (Made event)) event refl (stands-placed h n (entry_with event.clock (Made event)) lawful (made_stands h n event m))

module _ (h : Histories) (n : ℕ) (x : Entry) (event : Event) (lawful : IsLawful h) (s : StandsAt h n x) where
  pub taken_grown : x.what ≡ Taken event → Grown n s.before
  taken_grown is = came_grown n s.before x event is (stands-placed h n x lawful s)

  pub taken_ready : x.what ≡ Taken event → IsReadyAfter n s.before (Taken event)
  taken_ready is = subst (IsReadyAfter n s.before) is (stands-due h n x lawful s).ready

  -- the place of an entry that took an event
  abbrev pub took_of : x.what ≡ Taken event → TookAt h n event
  took_of is = record {
    node = s.node;
    clock = x.clock;
    before = s.before;
    after = s.after;
    is = s.is ∙ ap (λ y. s.before ++ y ∷ s.after) (λ i. record { clock = x.clock; what = is i });
    grown = taken_grown is;
    ready = taken_ready is;
  }

  pub made_leaves : x.what ≡ Made event → sender_of event.link ≡ n
  made_leaves is = let made : IsMadeAt n (Made event) = subst (IsMadeAt n) is (stands-made h n x lawful s) in made.leaves

  -- its clock is the event's
  pub made_clock : x.what ≡ Made event → x.clock ≡ event.clock
  made_clock is = sym (subst (HasClock x.clock) is (stands-due h n x lawful s).stamp.1)

  -- the place of an entry that made an event
  abbrev pub made_of : x.what ≡ Made event → MadeAt h n event
  made_of is = record {
    node = s.node;
    leaves = made_leaves is;
    before = s.before;
    after = s.after;
    is = s.is ∙ ap (λ y. s.before ++ y ∷ s.after) (λ i. record { clock = made_clock is i; what = is i });
  }
