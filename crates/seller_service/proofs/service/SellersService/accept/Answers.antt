use Rattle.std.proofs.Common.{◌++◌, ◌-◌, length, take, filter, count_by, ap, ap₂, sym, ◌∙◌, arith}
use Rattle.std.proofs.lemmas.List.Sums.{length-filter}
use Rattle.std.proofs.lemmas.Result.{err_from_is_err_and, on_ok_weaker}
use Rattle.market_events.specs.Sellers.{seller_asked, seller_rows}
use Rattle.seller_service.specs.Tables.{changes_at, lines_at, sums_at, is_of_seller, brought_by, lines_after, SellerTables}
use Rattle.seller_service.proofs.Steps.{makes, keeps, keeps_asked, no_rows, unchanged, few_before}
use Rattle.seller_service.proofs.Lists.{taken_back}
use Rattle.seller_service.proofs.service.SellersService.accept.Goals as goal

pub answer-requires-clause-few : goal.answer-requires-clause-few
answer-requires-clause-few c = λ seller.
    omega (
      arith,
      few_before c.args.self.now c.args._from c.args.body.now c.requires.can seller,
      ap (λ (tables : SellerTables). length (changes_at tables.ledgers seller)) c.self.view_is,
    )

pub returns-in-Asked-clause-made : goal.returns-in-Asked-clause-made
returns-in-Asked-clause-made c =
    on_ok_weaker c.answer.result (λ made steps stands fit.
    made ∙ ap (λ (tables : SellerTables). seller_asked (sums_at tables.ledgers) c.in-Asked.request.id c.in-Asked.request.ask) c.self.view_is
    ∙ ap (seller_rows (sums_at c.args.self.now.ledgers)) (sym c.in-Asked.is)
    ∙ makes c.args.self.now steps c.args._from c.args.body.now stands fit) c.answer.ensures.ok

pub returns-in-Asked-clause-kept : goal.returns-in-Asked-clause-kept
returns-in-Asked-clause-kept c =
    on_ok_weaker c.answer.result (λ made steps stands fit.
    keeps_asked c.args.self.now steps c.args._from c.args.body.now c.in-Asked.request c.in-Asked.is stands fit) c.answer.ensures.ok

pub returns-in_err-add_all : goal.returns-in_err-add_all
returns-in_err-add_all c =
    let p = err_from_is_err_and c.from_residual-in_err-add_all.result c.from_residual-in_err-add_all.ensures.1 in
    rw p.1 (record {
      made = tt;
      kept = tt;
      nothing = c.requires.empty;
      unchanged = unchanged c.args.self.now (record { ledgers = c.add_all.new.self; invoices = c.self.inside.invoices })
          (λ seller. c.in_err-add_all.ensures.err seller ∙ ap (λ (tables : SellerTables). changes_at tables.ledgers seller) c.self.view_is) (λ id. ap (λ (tables : SellerTables). lines_at tables.invoices id) c.self.view_is);
    })

pub returns-in-Err : goal.returns-in-Err
returns-in-Err c = record {
  made = tt;
  kept = tt;
  nothing = c.requires.empty;
  unchanged = unchanged c.args.self.now (record { ledgers = c.take_back.new.self; invoices = c.keep.new.self })
      (λ seller.
      c.take_back.ensures seller
      ∙ ap₂ (λ xs last. take (length xs - count_by (is_of_seller seller) last) xs) (c.in_ok-add_all.ensures.ok seller) (c.as_slice-in-Err.ensures.value ∙ sym c.as_slice.ensures.value)
      ∙ taken_back (changes_at c.self.inside.ledgers seller) (filter (is_of_seller seller) c.as_slice.result.now) (count_by (is_of_seller seller) c.as_slice.result.now) (length-filter (is_of_seller seller) c.as_slice.result.now)
      ∙ ap (λ (tables : SellerTables). changes_at tables.ledgers seller) c.self.view_is)
      (λ id. ap (λ table. lines_at table id) c.in-Err.ensures.err ∙ ap (λ (tables : SellerTables). lines_at tables.invoices id) c.self.view_is);
}

pub returns : goal.returns
returns c = record {
  made = λ steps stands fit.
      c.requires.empty ∙ no_rows (sums_at c.args.self.now.ledgers) c.args.body.now c.in_default.not-Asked ∙ makes c.args.self.now steps c.args._from c.args.body.now stands fit;
  kept = λ steps stands fit.
      keeps c.args.self.now steps c.args._from c.args.body.now stands fit (record { ledgers = c.add_all.new.self; invoices = c.keep.new.self })
      (λ seller.
      c.in_ok-add_all.ensures.ok seller ∙ ap (λ cs. changes_at c.self.inside.ledgers seller ++ filter (is_of_seller seller) cs) (c.as_slice.ensures.value ∙ c.in_ok-changes.ensures)
      ∙ ap (λ (tables : SellerTables). changes_at tables.ledgers seller ++ filter (is_of_seller seller) (brought_by (lines_at tables.invoices) c.args.body.now)) c.self.view_is)
      (λ id. c.in_default-keep.ensures.ok id ∙ ap (λ (tables : SellerTables). lines_after (lines_at tables.invoices) c.args.body.now id) c.self.view_is);
  nothing = tt;
  unchanged = tt;
}
