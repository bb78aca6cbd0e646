-- Histories that are not lawful, by computation: where each fails, and what it breaks.
use Rattle.std.proofs.Common.{◌≡◌, ℕ, zero, suc, ◌+◌, ◌^◌, List, [], ◌∷◌, length, take, slice_index, inl, inr, refl, ap, ◌∙◌, arith, lit<}
use Rattle.std.proofs.lemmas.List.{length-replicate}
use Rattle.market_amounts.specs.declared.keys.ProductKey.{ProductKey}
use Rattle.market_events.specs.declared.changes.Look.{Look}
use Rattle.market_events.specs.declared.changes.Look.TheVariants.{Unknown}
use Rattle.market_events.specs.declared.events.Entry.{Entry}
use Rattle.market_events.specs.Copies.{ProductChange, copy_of}
use Rattle.market_events.specs.Links.{cart_node, product_node, stock_node}
use Rattle.market_events.specs.Looks.{look_version}
use Rattle.market_events.specs.Offers.{counts_of, is_ready}
use Rattle.market_events.specs.Services.{answers, fits, reactions}
use Rattle.market_history.specs.Book.{tables_at_end}
use Rattle.market_history.specs.declared.schedule.Outcome.TheVariants as outcome
use Rattle.market_history.specs.declared.schedule.Give.TheVariants as gives
use Rattle.market_history.specs.Blocks.{grow, node_outs}
use Rattle.market_history.specs.Causality.{past_of, IsBefore, at_sender, through}
use Rattle.market_events.specs.declared.events.Offer.TheVariants as offers
use Rattle.market_events.specs.declared.links.TheConstants.{PRODUCT_TO_CART, PAYMENT_TO_STOCK}
use Rattle.market_events.specs.declared.replies.Reply.TheVariants as reply
use Rattle.market_events.specs.declared.requests.Ask.TheVariants as ask
use Rattle.market_history.specs.Examples.{mug, id, request, given, taken, made, answered, create, caller_node}
use Rattle.market_history.specs.ExamplesCreate.{asked, to_stock, to_cart, to_lane}
use Rattle.market_history.specs.Histories.{Histories, journal_at, with_journal}
use Rattle.market_history.specs.Lawful.{IsLawful, IsLawfulAt}
use Rattle.market_history.specs.Schedule.{merged, outcome_of, play_step}
use Rattle.market_laws.specs.Copies.{ShowsFirst}
use Rattle.market_laws.specs.CounterexamplesHistories.{given_late, given_again, forgetting, asks_line, told_unknown, taken_early, fails_another, GrowthCounterexamples, TakingCounterexamples, CausalCounterexamples, ReservedCounterexamples, another_lane_node}
use Rattle.market_laws.specs.Entries.{total_entries}
use Rattle.market_laws.specs.Merged.{IsDone}
use Rattle.market_laws.proofs.Refuted.Refuting.{not_true, apart, above, nil_cons}
use Rattle.market_laws.proofs.Growth.Lawful.{lawful_of_grown}

-- the same request again is not stamped, and there are as many entries
again_unlawful : (n : ℕ) → IsLawful (given_again n) → ⊥
unfolding given_again journal_at with_journal
again_unlawful n lawful = apart 1 2 (lawful.lawful caller_node (omega arith)).stamped.1.0.0 refl

again_total : (n : ℕ) → total_entries (given_again n) ≡ n + 2
unfolding given_again with_journal
again_total n = omega (arith, length-replicate {A = Entry})

late_stamped : IsLawfulAt caller_node (journal_at given_late caller_node) → ⊥
unfolding journal_at with_journal
late_stamped lawful = apart 9 1 lawful.stamped.0.0 refl

pub growth : GrowthCounterexamples
unfolding counts_of is_ready past_of journal_at with_journal node_outs grow play_step
growth = record {
  late_unlawful = λ lawful. late_stamped (lawful.lawful caller_node (omega arith));
  late_clocks = λ low. above 9 2 low.0 refl;
  late_journal = late_stamped;
  late_grown = λ grown. late_stamped (lawful_of_grown caller_node (journal_at given_late caller_node) grown);
  misfit_no_step = λ formed. above 1 0 formed.ask.1 refl;
  misfit_left = λ lawful. above 1 0 (lawful.lawful caller_node (omega arith)).ready.0.0.ask.1 refl;
  again_unlawful = again_unlawful (2 ^ 24);
  again_few = λ few. omega (arith, few, again_total (2 ^ 24));
  elsewhere_unlawful = λ lawful. apart caller_node another_lane_node (lawful.lawful another_lane_node (omega arith)).ready.0.1 refl;
  elsewhere_histories = λ histories. apart caller_node another_lane_node (histories.journals another_lane_node (omega arith)).0.what.1 refl;
}

-- what is shown where there are no changes
take_none : {A : Type 0} (n : ℕ) → take {A = A} n [] ≡ []
take_none zero = refl
take_none (suc n) = refl

none_shown : (shown : ProductKey → Look) → ShowsFirst shown [] → (key : ProductKey) → shown key ≡ Unknown
none_shown shown s key = s.shows key ∙ ap (λ (l : List ProductChange). copy_of l key) (take_none s.first)

-- an event that was never made, and a request that has to wait
never_is_done : IsDone outcome.NeverMade → ⊥
never_is_done (inl e) = cc
never_is_done (inr e) = cc

waiting_is_done : IsDone (outcome.Gave gives.Waiting) → ⊥
waiting_is_done (inl e) = cc
waiting_is_done (inr e) = cc

waiting_not_asked : gives.Waiting ≡ gives.Asked → ⊥
waiting_not_asked e = cc

pub taking : TakingCounterexamples
unfolding answers fits reactions counts_of is_ready past_of journal_at with_journal node_outs grow outcome_of play_step merged tables_at_end
taking = record {
  nothing_unlawful = λ lawful. apart 2 0 (ap length (lawful.lawful product_node (omega arith)).blocks) refl;
  nothing_fits = λ each. not_true each.0;
  nothing_in_time = λ each. not_true each.0.given;
  never_unlawful = λ lawful. nil_cons to_cart (lawful.matched PRODUCT_TO_CART (omega arith)).0 (lawful.matched PRODUCT_TO_CART (omega arith)).1;
  never_cart = λ front. nil_cons _ _ front.1;
  never_stock = λ front. nil_cons _ _ front.1;
  never_cart_shows = λ shows. apart 1 0 (ap look_version (none_shown _ shows mug)) refl;
  never_stock_shows = λ shows. apart 1 0 (ap look_version (none_shown _ shows mug)) refl;
  never_left = λ e. apart 0 1 (ap (λ (h : Histories). length (journal_at h cart_node)) e) refl;
  never_done = λ each. never_is_done each.0;
  waiting_unlawful = λ lawful. waiting_not_asked (lawful.lawful caller_node (omega arith)).ready.1.1.0.2;
  waiting_left = λ e. apart 2 4 (ap (λ (h : Histories). length (journal_at h caller_node)) e) refl;
  waiting_done = λ each. waiting_is_done each.1.0;
}

not_ready_taken : offers.NotReady ≡ offers.Take → ⊥
not_ready_taken e = cc

-- what the lane knew before it asked for the line: the reply, which the product service made after its change
before_line : List Entry
before_line = given 1 (request 1 create) ∷ made asked ∷ taken 7 to_lane ∷ answered 8 (id 1) (reply.Created 1) ∷ given 9 (request 2 (ask.Line 7 mug 1 0)) ∷ []

early_before : IsBefore (journal_at taken_early) to_cart asks_line
unfolding journal_at with_journal before_line
early_before =
    through asks_line to_lane before_line (made asks_line, [], refl, refl) (0, lit< tt, refl)
    (at_sender to_lane (taken 3 asked ∷ made to_stock ∷ made to_cart ∷ []) (made to_lane, [], refl, refl) (2, lit< tt, refl))

pub causal : CausalCounterexamples
unfolding counts_of is_ready past_of journal_at with_journal
causal = record {
  forgetful_unlawful = λ lawful. apart 0 1 (ap (λ (past : List ℕ). slice_index past 1) (lawful.lawful product_node (omega arith)).pasts.1.1.0) refl;
  forgetful_first = (0, lit< tt, refl);
  forgetful_then = (0, lit< tt, refl);
  forgetful_before = at_sender forgetting (taken 3 asked ∷ made to_stock ∷ []) (made forgetting, made to_lane ∷ [], refl, refl) (1, lit< tt, refl);
  forgetful_counted = λ low. above 1 0 low refl;
  early_unlawful = λ lawful. not_ready_taken (lawful.lawful cart_node (omega arith)).ready.0.3;
  early_before = early_before;
  early_taken = (taken 11 asks_line, made told_unknown ∷ [], refl, refl);
  early_first = λ here. omega (arith, here.1);
}

pub reserving : ReservedCounterexamples
unfolding answers fits reactions journal_at with_journal
reserving = record {
  nothing_unlawful = λ lawful. apart 1 0 (ap length (lawful.lawful stock_node (omega arith)).blocks) refl;
  nothing_sum = λ e. apart 0 2 e refl;
  nothing_waits = λ each. apart 0 1 each.0 refl;
  nothing_listed = λ e. apart 0 1 e refl;
  failed_unlawful = λ lawful. nil_cons fails_another (lawful.matched PAYMENT_TO_STOCK (omega arith)).0 (lawful.matched PAYMENT_TO_STOCK (omega arith)).1;
  failed_sum = λ e. apart 2 0 e refl;
}
