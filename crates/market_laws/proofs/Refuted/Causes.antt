-- Histories in which a checkout's events were made twice, or with no cause, by computation.
use Rattle.std.proofs.Common.{[], length, inl, refl, ap, arith}
use Rattle.market_events.specs.declared.events.Event.{Event}
use Rattle.market_events.specs.declared.links.TheConstants.{CART_TO_STOCK, SHIPMENT_TO_CUSTOMER}
use Rattle.market_events.specs.Links.{cart_node, stock_node}
use Rattle.market_history.specs.Examples.{id, mug, event}
use Rattle.market_history.specs.ExamplesCreate.{past}
use Rattle.market_history.specs.Histories.{journal_at, with_journal}
use Rattle.market_laws.specs.Causes.{ReservesHaveCauses, all_made_for}
use Rattle.market_laws.specs.CounterexampleValues.{mugs, reserve_for}
use Rattle.market_laws.specs.CounterexamplesCauses.{uncaused, CauseCounterexamples}
use Rattle.market_laws.specs.Cuts.{MadeAt}
use Rattle.market_laws.proofs.Refuted.Refuting.{apart, above, nil_append}

-- sent on with no request
sent_on : Event
sent_on = event CART_TO_STOCK 1 1 (past 0 0) (reserve_for 7)

made_there : MadeAt uncaused cart_node sent_on
unfolding sent_on journal_at with_journal
made_there = record { node = omega arith; leaves = refl; before = []; after = []; is = refl }

no_cause : ReservesHaveCauses uncaused (id 5) → ⊥
unfolding sent_on made_there
no_cause causes = let c = causes.cause cart_node sent_on made_there 7 mugs refl in nil_append c.1.took.before _ c.1.between c.1.is

pub causes : CauseCounterexamples
unfolding journal_at with_journal all_made_for
causes = record {
  uncaused_unlawful = λ lawful. apart 1 0 (ap length (lawful.lawful cart_node (omega arith)).blocks) refl;
  uncaused_reserve = no_cause;
  twice_unlawful = λ lawful. apart 2 0 (ap length (lawful.lawful stock_node (omega arith)).blocks) refl;
  twice_kept = refl;
  reserves = λ causes. above 2 1 causes.once refl;
  stock_answers = λ causes. above 2 1 causes.confirmed_once refl;
  invoices = λ causes. above 2 1 causes.once_to_seller refl;
  payments = λ causes. above 2 1 causes.once_to_stock refl;
  shipments = λ causes. above 2 1 causes.once_to_seller refl;
  endings = λ causes. above 2 1 causes.once refl;
  tellings = λ causes. above 2 1 causes.once refl;
  deliveries = λ causes. above 2 1 (causes.once mug SHIPMENT_TO_CUSTOMER (inl refl)) refl;
  few = λ few. above 15 14 few refl;
}
