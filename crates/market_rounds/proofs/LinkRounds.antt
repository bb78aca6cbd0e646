-- One round of a link: what is carried on its rings then.
use Rattle.std.proofs.Common.{ℕ, ◌≤◌, Bool, true, false, ◌&&◌, nat_lt, nat_le, if◌then◌else◌, List, [], ◌∷◌, length, take, subst, sym, arith}
use Rattle.std.specs.List.{AllByRecursion}
use Rattle.market_events.specs.declared.events.Entry.{Entry}
use Rattle.market_events.specs.declared.events.Event.{Event}
use Rattle.market_events.specs.declared.links.Link.{Link}
use Rattle.market_history.specs.Histories.{Histories}
use Rattle.market_history.specs.Sent.{sent}
use Rattle.market_laws.proofs.Growth.Members.{all-append, all-weaker}
use Rattle.market_node.specs.Sending.{with_count}
use Rattle.market_rings.specs.declared.fates.Fate.{Fate}
use Rattle.market_rings.specs.declared.link_ends.LinkOut.{LinkOut}
use Rattle.market_rings.specs.declared.link_ends.LinkIn.{LinkIn}
use Rattle.market_rings.specs.LinkEnds.{HasMet}
use Rattle.market_rings.specs.Pushes.{pushed_of, held_after, pushed_by}
use Rattle.market_rings.specs.RingEnds.{with_sent, with_all_popped}
use Rattle.market_turns.specs.Turns.{with_counts}
use Rattle.market_rounds.specs.Between.{IsOfLink, IsCarried, taken_at}
use Rattle.market_rounds.proofs.RingRounds.{ring_round, pushed_all, held_all}

-- counts of no more than were taken acknowledge no more
one_low : (link : Link) (entries : List Entry) (committed acknowledged count top : ℕ) → acknowledged ≤ top → count ≤ top → with_count link entries committed acknowledged count ≤ top
one_low link entries committed acknowledged count top low few = by_test (nat_lt acknowledged count && nat_le count (length (sent link (take committed entries))))
  where
    by_test : (b : Bool) → (if b then count else acknowledged) ≤ top
    by_test true = few
    by_test false = low

pub counts_low : (link : Link) (entries : List Entry) (committed acknowledged top : ℕ) (counts : List ℕ) → acknowledged ≤ top → AllByRecursion (λ n. n ≤ top) counts → with_counts link entries committed acknowledged counts ≤ top
counts_low link entries committed acknowledged top [] low few = low
counts_low link entries committed acknowledged top (n ∷ ns) low few =
    counts_low link entries committed (with_count link entries committed acknowledged n) top ns (one_low link entries committed acknowledged n top low few.0) few.1

module _ (h later : Histories) (link : Link) (grows : (e : Event) → IsOfLink h link e → IsOfLink later link e) (more : taken_at h link ≤ taken_at later link)
    (window : List Event) (counts : List ℕ) (fates back_fates : List Fate) (entries : List Entry) (committed acknowledged : ℕ)
    (window_made : AllByRecursion (IsOfLink h link) window) (window_few : length window ≤ 7)
    (counts_taken : AllByRecursion (λ n. n ≤ taken_at h link) counts) (counts_few : length counts ≤ 1) where
  abbrev sent_out : LinkOut → LinkOut
  sent_out out = record { events = with_sent out.events window fates; counts = with_all_popped out.counts }

  abbrev sent_back : LinkIn → LinkIn
  sent_back into = record { events = with_all_popped into.events; counts = with_sent into.counts counts back_fates }

  still : (events : List Event) → AllByRecursion (IsOfLink h link) events → AllByRecursion (IsOfLink later link) events
  still events all = all-weaker (IsOfLink h link) (IsOfLink later link) grows events all

  low : (ns : List ℕ) → AllByRecursion (λ n. n ≤ taken_at h link) ns → AllByRecursion (λ n. n ≤ taken_at later link) ns
  low ns all = all-weaker (λ n. n ≤ taken_at h link) (λ n. n ≤ taken_at later link) (λ n few. omega (arith, few, more)) ns all

  pub link_round : (out : LinkOut) (into : LinkIn) (new_out : LinkOut) (new_into : LinkIn) → IsCarried h link acknowledged out into → HasMet (sent_out out) (sent_back into) new_out new_into
      → IsCarried later link (with_counts link entries committed acknowledged out.counts.waiting) new_out new_into
  link_round out into new_out new_into carried met =
      let events = ring_round 21 7 out.events into.events window fates new_out.events new_into.events carried.events met.0 window_few (omega arith) in
      let back = ring_round 3 1 into.counts out.counts counts back_fates new_into.counts new_out.counts carried.counts met.1 counts_few (omega arith) in
      record {
        events = events.ring;
        counts = back.ring;
        waiting_made = subst (AllByRecursion (IsOfLink later link)) (sym events.waiting)
            (still (pushed_by window fates out.events.held) (all-append (IsOfLink h link) (pushed_of window fates) out.events.held (pushed_all (IsOfLink h link) window fates window_made) carried.held_made));
        held_made = subst (AllByRecursion (IsOfLink later link)) (sym events.held_is) (still (held_after window fates) (held_all (IsOfLink h link) window fates window_made));
        waiting_taken = subst (AllByRecursion (λ n. n ≤ taken_at later link)) (sym back.waiting)
            (low (pushed_by counts back_fates into.counts.held) (all-append (λ n. n ≤ taken_at h link) (pushed_of counts back_fates) into.counts.held (pushed_all (λ n. n ≤ taken_at h link) counts back_fates counts_taken) carried.held_taken));
        held_taken = subst (AllByRecursion (λ n. n ≤ taken_at later link)) (sym back.held_is) (low (held_after counts back_fates) (held_all (λ n. n ≤ taken_at h link) counts back_fates counts_taken));
        acknowledged_taken = omega (arith, counts_low link entries committed acknowledged (taken_at h link) out.counts.waiting carried.acknowledged_taken carried.waiting_taken, more);
      }
