-- Histories that are not settled, or settled and not lawful, by computation.
use Rattle.std.proofs.Common.{◌≡◌, ℕ, Option, Some, None, List, [], ◌∷◌, length, filter_map, count_by, inl, inr, refl, ap, sym, ◌∙◌, arith, rules}
use Rattle.std.specs.List.{AllByRecursion}
use Rattle.market_amounts.specs.declared.keys.RequestId.{RequestId}
use Rattle.market_events.specs.declared.bodies.Body.{Body}
use Rattle.market_events.specs.declared.events.Entry.{Entry}
use Rattle.market_events.specs.declared.links.TheConstants.{PRODUCT_TO_CART}
use Rattle.market_events.specs.declared.requests.Ask.TheVariants as ask
use Rattle.market_events.specs.Links.{cart_node, product_node}
use Rattle.market_events.specs.WellFormed.{IsRequest}
use Rattle.market_events.specs.Orders.{is_of}
use Rattle.market_events.specs.Stocks.{reservations}
use Rattle.market_events.specs.declared.links.Link.{Link}
use Rattle.market_events.specs.declared.links.Link.TheVariants.{Asked}
use Rattle.market_events.specs.declared.replies.Reply.TheVariants as reply
use Rattle.market_events.specs.Looks.{look_version}
use Rattle.market_events.specs.Offers.{counts_of, is_ready}
use Rattle.market_events.specs.declared.roles.Role.{Role}
use Rattle.market_events.specs.Services.{answers, fits, reactions}
use Rattle.market_history.specs.Blocks.{Out, Part, grow, node_outs, service_steps}
use Rattle.market_history.specs.Book.{acts_of, book, tables_at_end}
use Rattle.market_history.specs.Causality.{past_of}
use Rattle.market_history.specs.Checkouts.{IsDecided}
use Rattle.market_history.specs.Examples.{id, mug, request, give, offer, create, caller_lane, caller_node}
use Rattle.market_history.specs.Histories.{Histories, journal_at, with_journal, no_histories}
use Rattle.market_history.specs.Once.{reply_at}
use Rattle.market_history.specs.Outstanding.{IsSettled}
use Rattle.market_history.specs.Schedule.{play_step}
use Rattle.market_history.specs.Sent.{sent}
use Rattle.market_laws.specs.CounterexamplesHistories.{never_made}
use Rattle.market_laws.specs.CounterexamplesSettled.{forgotten, undecided, whole_unordered, SettledCounterexamples}
use Rattle.market_laws.proofs.Refuted.Refuting.{not_true, apart, unmade-link}
use Rattle.market_laws.proofs.Growth.Played.{play_keeps, nothing_lawful}

-- where no journal made an event, nothing is outstanding
settled_unmade : (h : Histories) → ((link : Link) → AllByRecursion (λ (j : List Entry). sent link j ≡ []) h) → IsSettled h
settled_unmade h none link on = unmade-link h link (none link)

none_made : IsSettled never_made
unfolding with_journal
none_made = settled_unmade never_made (λ link. search rules)

none_forgotten : IsSettled forgotten
unfolding with_journal
none_forgotten = settled_unmade forgotten (λ link. search rules)

none_unordered : IsSettled whole_unordered
unfolding with_journal
none_unordered = settled_unmade whole_unordered (λ link. search rules)

-- without a reply a checkout is not decided
unanswered : (h : Histories) (c : RequestId) → reply_at h c ≡ None → IsDecided h c → ⊥
unanswered h c none (inl whole) = let e : None ≡ Some (reply.Whole whole.0) = sym none ∙ whole.1.reply in let no : ⊥ = cc in no
unanswered h c none (inr undone) = let e : None ≡ Some (reply.Undone undone.0) = sym none ∙ undone.1.reply in let no : ⊥ = cc in no

-- and no more where it is told to be whole and nothing was reserved for it
unreserved : (h : Histories) (c : RequestId) (total : ℕ) → reply_at h c ≡ Some (reply.Whole total) → count_by (is_of c) (reservations (service_steps h Role.Stock)) ≡ 0 → IsDecided h c → ⊥
unreserved h c total told none (inl whole) = apart 1 0 (sym whole.1.reserved ∙ none) refl
unreserved h c total told none (inr undone) = let e : Some (reply.Whole total) ≡ Some (reply.Undone undone.0) = sym told ∙ undone.1.reply in let no : ⊥ = cc in no

-- the requests are well formed
creates : IsRequest (request 1 create)
creates = record { id = search rules; ask = (search rules, omega arith, omega arith) }

checks_out : IsRequest (request 5 (ask.Checkout 7))
checks_out = record { id = search rules; ask = omega arith }

-- the body that a part makes
abbrev made_out_of : Out → Option Body
made_out_of (Out.Makes link b) = Some b
made_out_of other = None

abbrev made_by : Part → Option Body
made_by (Part.Left out) = made_out_of out
made_by other = None

pub settling : SettledCounterexamples
unfolding answers fits reactions counts_of is_ready past_of journal_at with_journal node_outs grow play_step acts_of tables_at_end book
settling = record {
  waiting_lawful = play_keeps no_histories (give 1 create ∷ []) nothing_lawful (creates, tt);
  waiting_unsettled = λ settled. apart 1 0 (ap length (settled (Asked caller_lane product_node) (omega arith, omega arith))) refl;
  waiting_kept = inl refl;
  waiting_idle = λ e. not_true (sym e);
  waiting_answered = λ e. not_true e;
  forgotten_unlawful = λ lawful. apart 1 2 (ap length (lawful.lawful caller_node (omega arith)).blocks) refl;
  forgotten_settled = none_forgotten;
  forgotten_kept = inl refl;
  forgotten_idle = λ e. not_true (sym e);
  forgotten_answered = λ e. not_true e;
  undecided_lawful = play_keeps no_histories (give 5 (ask.Checkout 7) ∷ []) nothing_lawful (checks_out, tt);
  undecided_unsettled = λ settled. apart 1 0 (ap length (settled (Asked caller_lane cart_node) (omega arith, omega arith))) refl;
  undecided_kept = refl;
  undecided_decided = λ decided. unanswered undecided (id 5) refl decided;
  unordered_unlawful = λ lawful. apart 0 1 (ap (λ (parts : List Part). length (filter_map made_by parts)) (lawful.lawful caller_node (omega arith)).blocks) refl;
  unordered_settled = none_unordered;
  unordered_kept = refl;
  unordered_decided = λ decided. unreserved whole_unordered (id 5) 1950 refl refl decided;
  untold_lawful = play_keeps no_histories (give 1 create ∷ offer (Asked caller_lane product_node) 1 ∷ []) nothing_lawful (creates, (tt, tt));
  untold_unsettled = λ settled. apart 1 0 (ap length (settled PRODUCT_TO_CART (omega arith))) refl;
  untold_book = λ same. apart 0 1 (ap look_version (same.cart_copy mug)) refl;
  never_settled = none_made;
  never_book = λ same. apart 1 0 (ap look_version (same.cart_copy mug)) refl;
}
