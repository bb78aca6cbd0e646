use Rattle.std.proofs.Common.{length, ap, sym, ◌∙◌, arith}
use Rattle.market_events.specs.Customers.{customer_rows, customer_sums, customer_asked}
use Rattle.customer_service.specs.declared.tables.Tally.{Tally}
use Rattle.customer_service.specs.Tables.{tally_at, sums_at}
use Rattle.customer_service.proofs.Steps.{no_other, other_kind, makes, asked_by, on_ok}
use Rattle.customer_service.proofs.service.CustomersService.accept.Goals as goal
use Rattle.customer_service.proofs.Counts.{confirmed_few, failed_few, delivered_few, items_within}

pub overflow_add-tally : goal.overflow_add-tally
overflow_add-tally c =
    omega (
      arith,
      confirmed_few c.args.self.now c.args._from c.args.body.now c.requires.can c.in-Confirmed.customer,
      ap (λ (t : Tally). t.confirmed) c.get-tally.ensures,
      ap (λ es. (tally_at es c.in-Confirmed.customer).confirmed) c.self.view_is,
    )

pub overflow_add-tally-in-Failed : goal.overflow_add-tally-in-Failed
overflow_add-tally-in-Failed c =
    omega (
      arith,
      failed_few c.args.self.now c.args._from c.args.body.now c.requires.can c.in-Failed.customer,
      ap (λ (t : Tally). t.failed) c.get-tally-in-Failed.ensures,
      ap (λ es. (tally_at es c.in-Failed.customer).failed) c.self.view_is,
    )

pub count-requires-clause-fits : goal.count-requires-clause-fits
count-requires-clause-fits c = λ q.
    omega (
      arith,
      delivered_few c.args.self.now c.args._from c.args.body.now c.requires.can q,
      items_within c.args.self.now c.args._from c.args.body.now c.requires.can c.in-Delivered.items c.in-Delivered.is,
      ap (λ (t : Tally). t.delivered) (c.in_ok-make_room-in-Delivered.ensures.unchanged q),
      ap (λ es. (tally_at es q).delivered) c.self.view_is,
      ap length c.as_slice-in-Delivered.ensures,
    )

pub unreachable-requires : goal.unreachable-requires
unreachable-requires c =
    no_other c.args.self.now c.args._from c.args.body.now c.requires.can
    (other_kind c.args.body.now c.in_default.not-Confirmed c.in_default.not-Failed c.in_default.not-Delivered c.in_default.not-Asked)

pub returns-in-Asked-clause-made : goal.returns-in-Asked-clause-made
returns-in-Asked-clause-made c =
    on_ok c.answer.result (λ made steps stands fit.
    made ∙ ap (λ es. customer_asked (sums_at es) c.in-Asked.request.id c.in-Asked.request.ask) c.self.view_is
    ∙ asked_by c.args.self.now steps stands.held c.in-Asked.request.id c.in-Asked.request.ask
    ∙ sym (makes steps c.args._from c.args.body.now fit ∙ ap (customer_rows (customer_sums steps)) c.in-Asked.is)) c.answer.ensures.ok

pub returns-in-Confirmed-clause-made : goal.returns-in-Confirmed-clause-made
returns-in-Confirmed-clause-made c =
    on_ok c.set.result (λ sets steps stands fit.
    c.requires.empty ∙ sym (makes steps c.args._from c.args.body.now fit ∙ ap (customer_rows (customer_sums steps)) c.in-Confirmed.is)) c.set.ensures.ok

pub returns-in-Failed-clause-made : goal.returns-in-Failed-clause-made
returns-in-Failed-clause-made c =
    on_ok c.set-in-Failed.result (λ sets steps stands fit.
    c.requires.empty ∙ sym (makes steps c.args._from c.args.body.now fit ∙ ap (customer_rows (customer_sums steps)) c.in-Failed.is)) c.set-in-Failed.ensures.ok

pub returns-in_ok-make_room-in-Delivered-clause-made : goal.returns-in_ok-make_room-in-Delivered-clause-made
returns-in_ok-make_room-in-Delivered-clause-made c = λ steps stands fit.
    c.requires.empty ∙ sym (makes steps c.args._from c.args.body.now fit ∙ ap (customer_rows (customer_sums steps)) c.in-Delivered.is)
