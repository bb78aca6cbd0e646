use Rattle.std.proofs.Common.{◌+◌, ◌&&◌, ◌||◌, if◌then◌else◌, ap, ap₂, sym, ◌∙◌}
use Rattle.std.proofs.lemmas.Result.{on_ok_weaker}
use Rattle.market_events.specs.declared.bodies.Body.TheVariants as body
use Rattle.market_events.specs.declared.requests.Ask.{Ask}
use Rattle.market_events.specs.declared.requests.Ask.TheVariants as ask
use Rattle.market_events.specs.Carts.{changes_taken}
use Rattle.market_events.specs.Requests.{same_key}
use Rattle.market_events.specs.declared.roles.Role.{Role}
use Rattle.market_events.specs.Stocks.{first_some, line_refusal, stock_rows, level_rows, reserve_rows}
use Rattle.cart_replica.specs.Copy.{look_at}
use Rattle.cart_replica.proofs.Taking.{next_version, may_change}
use Rattle.stock_service.specs.declared.service.Stocks.{Stocks}
use Rattle.stock_service.specs.Holds.{Holds}
use Rattle.stock_service.specs.Tables.{sums_at, amounts_at, has_at}
use Rattle.stock_service.specs.Amounts.{Amounts, can_stock}
use Rattle.stock_service.proofs.Steps.{on_both, on_three, fits_as, kept_as, made_as, changed_due, reserve_free, settle_confirmed, settle_failed, no_other, no_answer, kept_changed, kept_asked, kept_stock, kept_refused, kept_reserved, kept_confirmed, kept_failed}
use Rattle.stock_service.proofs.service.StocksService.accept.Goals as goal

pub apply-requires-clause-next : goal.apply-requires-clause-next
apply-requires-clause-next c =
    next_version Role.Stock Holds c.args.self.now c.args._from c.args.body.now c.requires.can (look_at c.args.self.now.copy c.in-Changed.key) c.in-Changed.version c.in-Changed.change
    (changed_due c.args.self.now c.args._from c.args.body.now c.requires.can c.in-Changed.key c.in-Changed.version c.in-Changed.change c.in-Changed.is)

pub apply-requires-clause-can : goal.apply-requires-clause-can
apply-requires-clause-can c =
    may_change Role.Stock Holds c.args.self.now c.args._from c.args.body.now c.requires.can (look_at c.args.self.now.copy c.in-Changed.key) c.in-Changed.version c.in-Changed.change
    (changed_due c.args.self.now c.args._from c.args.body.now c.requires.can c.in-Changed.key c.in-Changed.version c.in-Changed.change c.in-Changed.is)

pub reserve-requires-clause-free : goal.reserve-requires-clause-free
reserve-requires-clause-free c =
    reserve_free c.args.self.now c.args._from c.args.body.now c.requires.can c.in-Reserve.checkout c.in-Reserve.customer c.in-Reserve.lines c.in-Reserve.is
    (ap (first_some (line_refusal (sums_at c.args.self.now.copy c.args.self.now.levels))) (sym c.as_slice.ensures) ∙ sym c.in-None.ensures)

pub settle-requires : goal.settle-requires
settle-requires c =
    settle_confirmed c.args.self.now c.args._from c.args.body.now c.requires.can c.in-Confirmed.checkout c.in-Confirmed.field-1 c.in-Confirmed.field-2 c.in-Confirmed.field-3 c.in-Confirmed.is

pub settle-requires-in-Failed : goal.settle-requires-in-Failed
settle-requires-in-Failed c =
    settle_failed c.args.self.now c.args._from c.args.body.now c.requires.can c.in-Failed.checkout c.in-Failed.field-1 c.in-Failed.field-2 c.in-Failed.is

pub unreachable-requires : goal.unreachable-requires
unreachable-requires c =
    no_other c.args.self.now c.args._from c.args.body.now c.requires.can c.in_default.not-Changed c.in_default.not-Reserve c.in_default.not-Confirmed c.in_default.not-Failed c.in_default.not-Asked

pub returns-in-Changed-clause-made : goal.returns-in-Changed-clause-made
returns-in-Changed-clause-made c =
    on_ok_weaker c.apply.result (λ changed steps stands fit.
    c.requires.empty ∙ made_as c.args.self.now steps stands.held c.args._from c.args.body.now
    (body.Changed c.in-Changed.key c.in-Changed.version c.in-Changed.change) c.in-Changed.is fit) c.apply.ensures.changed

pub returns-in-Changed-clause-kept : goal.returns-in-Changed-clause-kept
returns-in-Changed-clause-kept c =
    let s : Stocks = c.args.self.now in
    on_ok_weaker c.apply.result (λ copies steps stands fit.
    kept_as (record s { copy = c.apply.new.self }) steps c.args._from c.args.body.now (body.Changed c.in-Changed.key c.in-Changed.version c.in-Changed.change) c.in-Changed.is
    (kept_changed s steps c.args._from c.in-Changed.key c.in-Changed.version c.in-Changed.change stands.held
    c.apply.new.self (copies (changes_taken steps) stands.held.copied))) c.apply.ensures.copies

pub returns-in-Stock-clause-made : goal.returns-in-Stock-clause-made
returns-in-Stock-clause-made c =
    let s : Stocks = c.args.self.now in
    on_ok_weaker c.stock.result (λ made steps stands fit.
    made ∙ ap (λ look. stock_rows c.in-Asked.request.id c.in-Stock.pieces look (amounts_at s.levels c.in-Stock.key).on_hand) c.look.ensures.value
    ∙ made_as s steps stands.held c.args._from c.args.body.now
    (body.Asked (record { id = c.in-Asked.request.id; ask = ask.Stock c.in-Stock.key c.in-Stock.pieces }))
    (c.in-Asked.is ∙ ap (λ (a : Ask). body.Asked (record { id = c.in-Asked.request.id; ask = a })) c.in-Stock.is) fit) c.stock.ensures.made

pub returns-in-Stock-clause-kept : goal.returns-in-Stock-clause-kept
returns-in-Stock-clause-kept c =
    let s : Stocks = c.args.self.now in
    on_both c.stock.result (λ each there steps stands fit.
    kept_as (record s { levels = c.stock.new.levels }) steps c.args._from c.args.body.now
    (body.Asked (record { id = c.in-Asked.request.id; ask = ask.Stock c.in-Stock.key c.in-Stock.pieces }))
    (c.in-Asked.is ∙ ap (λ (a : Ask). body.Asked (record { id = c.in-Asked.request.id; ask = a })) c.in-Stock.is)
    (kept_stock s steps c.args._from c.in-Asked.request.id c.in-Stock.key c.in-Stock.pieces stands.run stands.held c.stock.new.levels
    (λ key. each key ∙ ap (λ look. if same_key c.in-Stock.key key && can_stock look c.in-Stock.pieces (amounts_at s.levels c.in-Stock.key).on_hand
    then (let was = amounts_at s.levels c.in-Stock.key in record was { on_hand = was.on_hand + c.in-Stock.pieces }) else amounts_at s.levels key) c.look.ensures.value)
    (λ key. there key ∙ ap (λ look. has_at s.levels key || (same_key c.in-Stock.key key && can_stock look c.in-Stock.pieces (amounts_at s.levels c.in-Stock.key).on_hand)) c.look.ensures.value)))
    c.stock.ensures.each c.stock.ensures.there

pub returns-in-Level-clause-made : goal.returns-in-Level-clause-made
returns-in-Level-clause-made c =
    let s : Stocks = c.args.self.now in
    on_ok_weaker c.tell_level.result (λ made steps stands fit.
    made ∙ ap₂ (λ look (a : Amounts). level_rows c.in-Asked.request.id look a.on_hand a.reserved) c.look-in-Level.ensures.value c.level.ensures
    ∙ made_as s steps stands.held c.args._from c.args.body.now
    (body.Asked (record { id = c.in-Asked.request.id; ask = ask.Level c.in-Level.key }))
    (c.in-Asked.is ∙ ap (λ (a : Ask). body.Asked (record { id = c.in-Asked.request.id; ask = a })) c.in-Level.is) fit) c.tell_level.ensures.made

pub returns-in-Level-clause-kept : goal.returns-in-Level-clause-kept
returns-in-Level-clause-kept c =
    let s : Stocks = c.args.self.now in
    on_ok_weaker c.tell_level.result (λ made steps stands fit.
    kept_as s steps c.args._from c.args.body.now
    (body.Asked (record { id = c.in-Asked.request.id; ask = ask.Level c.in-Level.key }))
    (c.in-Asked.is ∙ ap (λ (a : Ask). body.Asked (record { id = c.in-Asked.request.id; ask = a })) c.in-Level.is)
    (kept_asked s steps c.args._from c.in-Asked.request.id (ask.Level c.in-Level.key) stands.held (λ key pieces other. cc))) c.tell_level.ensures.made

pub returns-in_default-ask : goal.returns-in_default-ask
returns-in_default-ask c =
    let s : Stocks = c.args.self.now in record {
      made = λ steps stands fit.
          c.requires.empty ∙ no_answer (sums_at s.copy s.levels) c.in-Asked.request.id c.in-Asked.request.ask c.in_default-ask.not-Stock c.in_default-ask.not-Level
          ∙ made_as s steps stands.held c.args._from c.args.body.now (body.Asked c.in-Asked.request) c.in-Asked.is fit;
      kept = λ steps stands fit.
          kept_as s steps c.args._from c.args.body.now (body.Asked c.in-Asked.request) c.in-Asked.is
          (kept_asked s steps c.args._from c.in-Asked.request.id c.in-Asked.request.ask stands.held c.in_default-ask.not-Stock);
      nothing = tt;
      unchanged = tt;
    }

pub returns-in-Some-clause-made : goal.returns-in-Some-clause-made
returns-in-Some-clause-made c =
    let s : Stocks = c.args.self.now in
    on_ok_weaker c.refuse.result (λ made steps stands fit.
    made ∙ ap (reserve_rows c.in-Reserve.checkout c.in-Reserve.customer c.in-Reserve.lines)
    (c.in-Some.ensures ∙ ap (first_some (line_refusal (sums_at s.copy s.levels))) c.as_slice.ensures)
    ∙ made_as s steps stands.held c.args._from c.args.body.now
    (body.Reserve c.in-Reserve.checkout c.in-Reserve.customer c.in-Reserve.lines) c.in-Reserve.is fit) c.refuse.ensures.made

pub returns-in-Some-clause-kept : goal.returns-in-Some-clause-kept
returns-in-Some-clause-kept c =
    let s : Stocks = c.args.self.now in
    on_ok_weaker c.refuse.result (λ made steps stands fit.
    kept_as s steps c.args._from c.args.body.now (body.Reserve c.in-Reserve.checkout c.in-Reserve.customer c.in-Reserve.lines) c.in-Reserve.is
    (kept_refused s steps c.args._from c.in-Reserve.checkout c.in-Reserve.customer c.in-Reserve.lines (c.in-Some.key, c.in-Some.rule) stands.held
    (ap (first_some (line_refusal (sums_at s.copy s.levels))) (sym c.as_slice.ensures) ∙ sym c.in-Some.ensures))) c.refuse.ensures.made

pub returns-in-None-clause-made : goal.returns-in-None-clause-made
returns-in-None-clause-made c =
    let s : Stocks = c.args.self.now in
    on_ok_weaker c.reserve.result (λ made steps stands fit.
    made ∙ ap (reserve_rows c.in-Reserve.checkout c.in-Reserve.customer c.in-Reserve.lines)
    (c.in-None.ensures ∙ ap (first_some (line_refusal (sums_at s.copy s.levels))) c.as_slice.ensures)
    ∙ made_as s steps stands.held c.args._from c.args.body.now
    (body.Reserve c.in-Reserve.checkout c.in-Reserve.customer c.in-Reserve.lines) c.in-Reserve.is fit) c.reserve.ensures.made

pub returns-in-None-clause-kept : goal.returns-in-None-clause-kept
returns-in-None-clause-kept c =
    let s : Stocks = c.args.self.now in
    on_three c.reserve.result (λ each there lines steps stands fit.
    kept_as (record s { levels = c.reserve.new.levels; held = c.reserve.new.held }) steps c.args._from c.args.body.now
    (body.Reserve c.in-Reserve.checkout c.in-Reserve.customer c.in-Reserve.lines) c.in-Reserve.is
    (kept_reserved s steps c.args._from c.in-Reserve.checkout c.in-Reserve.customer c.in-Reserve.lines stands.run
    (fits_as steps c.args._from c.args.body.now (body.Reserve c.in-Reserve.checkout c.in-Reserve.customer c.in-Reserve.lines) c.in-Reserve.is fit) stands.held
    (ap (first_some (line_refusal (sums_at s.copy s.levels))) (sym c.as_slice.ensures) ∙ sym c.in-None.ensures)
    c.reserve.new.levels c.reserve.new.held each there lines))
    c.reserve.ensures.each c.reserve.ensures.there c.reserve.ensures.lines

pub returns-in-Confirmed-clause-made : goal.returns-in-Confirmed-clause-made
returns-in-Confirmed-clause-made c = λ steps stands fit.
    let s : Stocks = c.args.self.now in
    c.requires.empty ∙ made_as s steps stands.held c.args._from c.args.body.now
    (body.Confirmed c.in-Confirmed.checkout c.in-Confirmed.field-1 c.in-Confirmed.field-2 c.in-Confirmed.field-3) c.in-Confirmed.is fit

pub returns-in-Confirmed-clause-kept : goal.returns-in-Confirmed-clause-kept
returns-in-Confirmed-clause-kept c = λ steps stands fit.
    let s : Stocks = c.args.self.now in
    kept_as (record s { levels = c.settle.new.levels; held = c.settle.new.held }) steps c.args._from c.args.body.now
    (body.Confirmed c.in-Confirmed.checkout c.in-Confirmed.field-1 c.in-Confirmed.field-2 c.in-Confirmed.field-3) c.in-Confirmed.is
    (kept_confirmed s steps stands.held c.args._from stands.run c.in-Confirmed.checkout c.in-Confirmed.field-1
    c.settle.new.levels c.settle.new.held c.settle.ensures.there c.settle.ensures.lines c.in-Confirmed.field-2 c.in-Confirmed.field-3
    (fits_as steps c.args._from c.args.body.now (body.Confirmed c.in-Confirmed.checkout c.in-Confirmed.field-1 c.in-Confirmed.field-2 c.in-Confirmed.field-3) c.in-Confirmed.is fit) c.settle.ensures.each)

pub returns-in-Failed-clause-made : goal.returns-in-Failed-clause-made
returns-in-Failed-clause-made c = λ steps stands fit.
    let s : Stocks = c.args.self.now in
    c.requires.empty ∙ made_as s steps stands.held c.args._from c.args.body.now
    (body.Failed c.in-Failed.checkout c.in-Failed.field-1 c.in-Failed.field-2) c.in-Failed.is fit

pub returns-in-Failed-clause-kept : goal.returns-in-Failed-clause-kept
returns-in-Failed-clause-kept c = λ steps stands fit.
    let s : Stocks = c.args.self.now in
    kept_as (record s { levels = c.settle-in-Failed.new.levels; held = c.settle-in-Failed.new.held }) steps c.args._from c.args.body.now
    (body.Failed c.in-Failed.checkout c.in-Failed.field-1 c.in-Failed.field-2) c.in-Failed.is
    (kept_failed s steps stands.held c.args._from stands.run c.in-Failed.checkout c.in-Failed.field-1
    c.settle-in-Failed.new.levels c.settle-in-Failed.new.held c.settle-in-Failed.ensures.there c.settle-in-Failed.ensures.lines c.in-Failed.field-2
    (fits_as steps c.args._from c.args.body.now (body.Failed c.in-Failed.checkout c.in-Failed.field-1 c.in-Failed.field-2) c.in-Failed.is fit) c.settle-in-Failed.ensures.each)
