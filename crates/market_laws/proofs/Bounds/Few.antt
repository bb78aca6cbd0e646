-- All entries of lawful histories are few.
use Rattle.std.proofs.Common.{◌≡◌, ◌≢◌, ℕ, ◌+◌, ◌*◌, ◌^◌, ◌<◌, ◌≤◌, List, [], length, length-append, ap, sym, ◌∙◌, arith}
use Rattle.std.specs.Prelude.{slice_index_or}
use Rattle.std.proofs.Math.Nat.{mul-zero, mul-le-mul_left}
use Rattle.market_events.specs.declared.events.Entry.{Entry}
use Rattle.market_events.specs.declared.events.Event.{Event}
use Rattle.market_events.specs.declared.links.Link.{Link}
use Rattle.market_events.specs.Links.{IsLink, sender_of, receiver_of}
use Rattle.market_events.specs.Offers.{taken_on}
use Rattle.market_events.specs.declared.nodes.TheConstants.{NODES}
use Rattle.market_history.specs.Causality.{events_taken}
use Rattle.market_history.specs.Histories.{Histories, journal_at}
use Rattle.market_history.specs.Lawful.{IsLawful}
use Rattle.market_history.specs.Once.{most_kept}
use Rattle.market_history.specs.Sent.{sent, got}
use Rattle.market_laws.specs.Entries.{total_entries}
use Rattle.market_laws.specs.Grown.{Grown, events_made}
use Rattle.market_laws.proofs.Growth.Members.{all-weaker}
use Rattle.market_laws.proofs.Growth.Due.{taken_on-got}
use Rattle.market_laws.proofs.Bounds.Events.{weights, weighed, over-weights, weights-over, made_on-sent, none-elsewhere}
use Rattle.market_laws.proofs.Growth.Lawful.{grown_of_lawful}
use Rattle.market_laws.proofs.Bounds.Journals.{grown-pays, grown-few, IsTakenAt, grown-taken}
use Rattle.market_laws.proofs.Bounds.LinkEnds.{sender-small}
use Rattle.market_laws.proofs.Bounds.LinkSums.{over_links, over_links-le, over_links-swap}
use Rattle.market_laws.proofs.Bounds.Sums.{sum_to, sum_to-le, sum_to-plus, sum_to-most, sum_to-part, sum_to-one, sum_to-list}
use Rattle.market_laws.proofs.Bounds.Weights.{weight}

module _ (h : Histories) (lawful : IsLawful h) where
  grown_at : (n : ℕ) → n < NODES → Grown n (journal_at h n)
  grown_at n lt = grown_of_lawful n (journal_at h n) (lawful.lawful n lt)

  -- on one link no more was taken, at all nodes, than was made
  one_link : (link : Link) → IsLink link → sum_to (λ n. weighed (events_taken (journal_at h n)) link) NODES ≤ sum_to (λ n. weighed (events_made (journal_at h n)) link) NODES
  one_link link on =
      let alone = sum_to-one (λ n. weighed (events_taken (journal_at h n)) link) NODES (receiver_of link) elsewhere in
      let there = sum_to-part (λ n. weighed (events_made (journal_at h n)) link) NODES (sender_of link) (sender-small link on) in
      let fewer = mul-le-mul_left (weight link) few in
      omega (arith, alone, there, fewer)
    where
      elsewhere : (n : ℕ) → n < NODES → n ≢ receiver_of link → weighed (events_taken (journal_at h n)) link ≡ 0
      elsewhere n lt differs =
          ap (λ k. weight link * k)
          (none-elsewhere n link (λ e. differs (sym e)) (events_taken (journal_at h n)) (all-weaker (IsTakenAt n) (λ (e : Event). receiver_of e.link ≡ n) (λ e is. is.into) (events_taken (journal_at h n)) (grown-taken n (grown_at n lt))))
          ∙ mul-zero (weight link)

      few : taken_on (events_taken (journal_at h (receiver_of link))) link ≤ taken_on (events_made (journal_at h (sender_of link))) link
      few =
          let matched = lawful.matched link on in
          let longer : length (sent link (journal_at h (sender_of link))) ≡ length (got link (journal_at h (receiver_of link))) + length matched.0 =
          ap length matched.1 ∙ length-append (got link (journal_at h (receiver_of link))) matched.0 in
          omega (arith, longer, taken_on-got link (journal_at h (receiver_of link)), made_on-sent link (journal_at h (sender_of link)))

  -- what was taken weighs no more than what was made
  balance : sum_to (λ n. weights (events_taken (journal_at h n))) NODES ≤ sum_to (λ n. weights (events_made (journal_at h n))) NODES
  balance =
      let taken : sum_to (λ n. weights (events_taken (journal_at h n))) NODES ≤ sum_to (λ n. over_links (weighed (events_taken (journal_at h n)))) NODES =
      sum_to-le (λ n. weights (events_taken (journal_at h n))) (λ n. over_links (weighed (events_taken (journal_at h n)))) NODES
      (λ n lt. weights-over (events_taken (journal_at h n)) (all-weaker (IsTakenAt n) (λ (e : Event). IsLink e.link) (λ e is. is.on) (events_taken (journal_at h n)) (grown-taken n (grown_at n lt)))) in
      let made : sum_to (λ n. over_links (weighed (events_made (journal_at h n)))) NODES ≤ sum_to (λ n. weights (events_made (journal_at h n))) NODES =
      sum_to-le (λ n. over_links (weighed (events_made (journal_at h n)))) (λ n. weights (events_made (journal_at h n))) NODES (λ n lt. over-weights (events_made (journal_at h n))) in
      let links : over_links (λ l. sum_to (λ n. weighed (events_taken (journal_at h n)) l) NODES) ≤ over_links (λ l. sum_to (λ n. weighed (events_made (journal_at h n)) l) NODES) =
      over_links-le (λ l. sum_to (λ n. weighed (events_taken (journal_at h n)) l) NODES) (λ l. sum_to (λ n. weighed (events_made (journal_at h n)) l) NODES) one_link in
      omega (arith, taken, made, links, over_links-swap (λ n. weighed (events_taken (journal_at h n))) NODES, over_links-swap (λ n. weighed (events_made (journal_at h n))) NODES)

  each_pays : sum_to (λ n. length (journal_at h n) + weights (events_made (journal_at h n))) NODES ≤ sum_to (λ n. weights (events_taken (journal_at h n)) + 40 * most_kept) NODES
  each_pays =
      sum_to-le (λ n. length (journal_at h n) + weights (events_made (journal_at h n))) (λ n. weights (events_taken (journal_at h n)) + 40 * most_kept) NODES
      (λ n lt. omega (arith, grown-pays n (grown_at n lt), grown-few n (grown_at n lt)))

  total : total_entries h ≡ sum_to (λ n. length (journal_at h n)) NODES
  unfolding journal_at
  total = sum_to-list (λ (j : List Entry). length j) h [] ∙ ap (sum_to (λ n. length (slice_index_or h n []))) lawful.each

  pub few : total_entries h < 2 ^ 24
  few =
      let left = sum_to-plus (λ n. length (journal_at h n)) (λ n. weights (events_made (journal_at h n))) NODES in
      let right = sum_to-plus (λ n. weights (events_taken (journal_at h n))) (λ n. 40 * most_kept) NODES in
      let most = sum_to-most (λ n. 40 * most_kept) NODES (40 * most_kept) (λ k lt. omega arith) in
      omega (arith, left, right, most, each_pays, balance, total)

  -- one journal has no more than all
  pub length-few : (n : ℕ) → n < NODES → length (journal_at h n) ≤ total_entries h
  length-few n lt = omega (arith, sum_to-part (λ k. length (journal_at h k)) NODES n lt, total)
