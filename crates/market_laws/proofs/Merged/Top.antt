-- Of the last blocks of some nodes, the one that began last: with the greatest clock, and of these at the greatest node.
use Rattle.std.proofs.Common.{◌≡◌, ℕ, zero, suc, ◌+◌, ◌<◌, ◌≤◌, ◌==◌, Bool, true, false, nat_le, List, [], eqb-true, refl, sym, subst, arith}
use Rattle.std.specs.Prelude.{◌*◌}
use Rattle.std.proofs.lemmas.Bool.{eqb-false}
use Rattle.std.proofs.lemmas.Bool.Decides.{nat_tests}
use Rattle.market_events.specs.declared.events.Entry.{Entry}
use Rattle.market_events.specs.declared.nodes.TheConstants.{NODES}
use Rattle.market_history.specs.Blocks.{Arrival, what_of, grow}
use Rattle.market_history.specs.Histories.{Histories, journal_at}
use Rattle.market_history.specs.Lawful.{IsReadyAfter}
use Rattle.market_laws.specs.Grown.{Grown, nothing, more}
use Rattle.market_laws.proofs.Merged.Moves.{begins, begins-after, Ended, ended-grow, grown-ended}

-- a journal's last block, where it has one
data LastBlock (n : ℕ) (entries : List Entry) : Type 0 where
  none : entries ≡ [] → LastBlock n entries
  some : (j : List Entry) (a : Arrival) → Grown n j → IsReadyAfter n j (what_of a) → entries ≡ grow n j a → LastBlock n entries

last_block : (n : ℕ) {j : List Entry} → Grown n j → LastBlock n j
last_block n nothing = none refl
last_block n (more j a grown ready) = some j a grown ready refl

-- the node ended no later than at this place in the order of clock and node
pub record EndedBy (h : Histories) (k : ℕ) (top : ℕ) : Type 0 where
  pub clock : ℕ
  pub ended : Ended k (journal_at h k) clock
  pub low : NODES * clock + k ≤ top

-- of the nodes below b, this one's last block began last
pub record Top (h : Histories) (b : ℕ) : Type 0 where
  pub node : ℕ
  pub before : List Entry
  pub arrival : Arrival
  pub below : node < b
  pub grown : Grown node before
  pub ready : IsReadyAfter node before (what_of arrival)
  pub is : journal_at h node ≡ grow node before arrival
  pub each : (k : ℕ) → k < b → EndedBy h k (NODES * begins before arrival + node)

pub data Greatest (h : Histories) (b : ℕ) : Type 0 where
  nowhere : ((k : ℕ) → k < b → journal_at h k ≡ []) → Greatest h b
  there : Top h b → Greatest h b

-- what holds below b and at b
below_next : (P : ℕ → Type 0) (b : ℕ) → ((k : ℕ) → k < b → P k) → P b → (k : ℕ) → k < suc b → P k
below_next P b each at k lt = by (k == b) refl
  where
    by : (test : Bool) → (k == b) ≡ test → P k
    by true is = subst P (sym (eqb-true k b is)) at
    by false is = each k (let differs = eqb-false k b is in grind (arith, nat_tests))

empty_ended : (h : Histories) (k top : ℕ) → k < NODES → NODES ≤ top → journal_at h k ≡ [] → EndedBy h k top
empty_ended h k top small large e =
    record { clock = 0; ended = subst (λ j. Ended k j 0) (sym e) (record { moved = tt; taken = λ link. tt }); low = omega arith }

-- the place of a block in the order is after those of nodes that have none
late : (j : List Entry) (a : Arrival) (n : ℕ) → NODES ≤ NODES * begins j a + n
late j a n = let lt = begins-after j a in omega arith

ended-more : (h : Histories) (k p q : ℕ) → p ≤ q → EndedBy h k p → EndedBy h k q
ended-more h k p q le e = record { clock = e.clock; ended = e.ended; low = let low = e.low in omega arith }

module _ (h : Histories) (b : ℕ) (small : b < NODES) where
  here_ended : (j : List Entry) (a : Arrival) (top : ℕ) → Grown b j → journal_at h b ≡ grow b j a → NODES * begins j a + b ≤ top → EndedBy h b top
  here_ended j a top grown is le =
      record { clock = begins j a; ended = subst (λ entries. Ended b entries (begins j a)) (sym is) (ended-grow b j a (grown-ended b grown)); low = le }

  -- the block here began last
  top_here : (j : List Entry) (a : Arrival) → Grown b j → IsReadyAfter b j (what_of a) → journal_at h b ≡ grow b j a → ((k : ℕ) → k < b → EndedBy h k (NODES * begins j a + b)) → Greatest h (suc b)
  top_here j a grown ready is each =
      there (record {
        node = b;
        before = j;
        arrival = a;
        below = omega arith;
        grown = grown;
        ready = ready;
        is = is;
        each = below_next (λ k. EndedBy h k (NODES * begins j a + b)) b each (here_ended j a (NODES * begins j a + b) grown is (omega arith));
      })

  -- the one of an earlier node did
  top_before : (t : Top h b) → EndedBy h b (NODES * begins t.before t.arrival + t.node) → Greatest h (suc b)
  top_before t here =
      there (record {
        node = t.node;
        before = t.before;
        arrival = t.arrival;
        below = let below = t.below in omega arith;
        grown = t.grown;
        ready = t.ready;
        is = t.is;
        each = below_next (λ k. EndedBy h k (NODES * begins t.before t.arrival + t.node)) b t.each here;
      })

  compare : (j : List Entry) (a : Arrival) → Grown b j → IsReadyAfter b j (what_of a) → journal_at h b ≡ grow b j a → (t : Top h b) → (test : Bool) → nat_le (NODES * begins j a + b) (NODES * begins t.before t.arrival + t.node) ≡ test → Greatest h (suc b)
  compare j a grown ready is t true le = top_before t (here_ended j a (NODES * begins t.before t.arrival + t.node) grown is (grind (arith, nat_tests)))
  compare j a grown ready is t false le =
      top_here j a grown ready is
      (λ k lt. ended-more h k (NODES * begins t.before t.arrival + t.node) (NODES * begins j a + b) (grind (arith, nat_tests)) (t.each k lt))

  choose : LastBlock b (journal_at h b) → Greatest h b → Greatest h (suc b)
  choose (none e) (nowhere each) = nowhere (below_next (λ k. journal_at h k ≡ []) b each e)
  choose (none e) (there t) = top_before t (empty_ended h b (NODES * begins t.before t.arrival + t.node) small (late t.before t.arrival t.node) e)
  choose (some j a grown ready is) (nowhere each) =
      top_here j a grown ready is (λ k lt. empty_ended h k (NODES * begins j a + b) (omega arith) (late j a b) (each k lt))
  choose (some j a grown ready is) (there t) =
      compare j a grown ready is t (nat_le (NODES * begins j a + b) (NODES * begins t.before t.arrival + t.node)) refl

pub greatest : (h : Histories) → ((k : ℕ) → k < NODES → Grown k (journal_at h k)) → (b : ℕ) → b ≤ NODES → Greatest h b
greatest h grown zero le = nowhere (λ k lt. absurd (omega arith))
greatest h grown (suc b) le = choose h b (omega arith) (last_block b (grown b (omega arith))) (greatest h grown b (omega arith))
