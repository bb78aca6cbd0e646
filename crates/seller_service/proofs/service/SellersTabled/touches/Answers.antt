use Rattle.std.proofs.Common.{◌≡◌, ℕ, ◌+◌, ◌≤◌, ◌<◌, ◌⊎◌, inl, inr, true, length, codes, count_by, ap, sym, subst, ◌∙◌, arith}
use Rattle.market_events.specs.declared.cells.CellName.{CellName}
use Rattle.market_events.specs.Sellers.{entries_at}
use Rattle.market_events.specs.declared.roles.Role.{Role}
use Rattle.market_events.specs.Standing.{is_named, may_change, most_touched}
use Rattle.market_events.proofs.NamedCells.Keyed.{if_ok}
use Rattle.market_events.proofs.NamedCells.Touched.{named_none}
use Rattle.seller_service.specs.declared.cells.Place.TheVariants as place
use Rattle.seller_service.specs.Cells.{place_name}
use Rattle.seller_service.specs.Tables.{changes_at, lines_at, is_of_seller, brought_by, SellerTables}
use Rattle.seller_service.proofs.Steps.{few_before}
use Rattle.seller_service.proofs.Touches.{AreTold, covers}
use Rattle.seller_service.proofs.Touches.{few_brought, no_entries, told_changes, told_both, entry_touched, change_touched}
use Rattle.seller_service.proofs.service.SellersTabled.touches.Goals as goal
use Rattle.seller_service.proofs.service.SellersTabled.touches.Goals.{in-Invoice+in_ok-put_entry_names, in_default}

pub put_change_names-requires : goal.put_change_names-requires
put_change_names-requires c = λ seller.
    omega (
      arith,
      few_before c.args.self.now c.args._from c.args.body.now c.requires seller,
      ap (λ (tables : SellerTables). length (changes_at tables.ledgers seller)) c.self.view_is,
      (few_brought c.args.self.now c.args._from c.args.body.now c.requires).most,
      ap length (c.as_slice.ensures.value ∙ c.in_ok-changes.ensures),
      ap (λ (tables : SellerTables). length (brought_by (lines_at tables.invoices) c.args.body.now)) c.self.view_is,
    )

pub put_entry_names-requires : goal.put_entry_names-requires
put_entry_names-requires c = λ seller.
    omega (
      arith,
      few_before c.args.self.now c.args._from c.args.body.now c.requires seller,
      ap (λ (tables : SellerTables). length (changes_at tables.ledgers seller)) c.self.view_is,
      (few_brought c.args.self.now c.args._from c.args.body.now c.requires).most,
      ap length (c.as_slice-in-Invoice.ensures.value ∙ c.in_ok-changes.ensures),
      ap (λ (tables : SellerTables). length (brought_by (lines_at tables.invoices) c.args.body.now)) c.self.view_is,
    )

-- the names are those of the changes that the body brings
told : (c : goal.After-drop-changes-2) → AreTold c.match-body.names (changes_at c.self.inside.ledgers) (brought_by (lines_at c.self.inside.invoices) c.args.body.now)
told c =
    let changed : (seller number : ℕ) → length (changes_at c.self.inside.ledgers seller) < number
    → number ≤ length (changes_at c.self.inside.ledgers seller) + count_by (is_of_seller seller) (brought_by (lines_at c.self.inside.invoices) c.args.body.now)
    → is_named c.put_change_names.new.names (place_name (place.Change seller number)) ≡ true
    = λ seller number above few.
    c.in_ok-put_change_names.ensures.named seller number above
    (subst (λ cs. number ≤ length (changes_at c.self.inside.ledgers seller) + count_by (is_of_seller seller) cs) (sym (c.as_slice.ensures.value ∙ c.in_ok-changes.ensures)) few) in
    elim c.match-body.branch [
      | in-Invoice+in_ok-put_entry_names w ↦
          subst (λ names. AreTold names (changes_at c.self.inside.ledgers) (brought_by (lines_at c.self.inside.invoices) c.args.body.now)) (sym w.names-is)
          (told_both w.put_entry_names.new.names (changes_at c.self.inside.ledgers) (brought_by (lines_at c.self.inside.invoices) c.args.body.now)
          (λ seller number above few. w.in_ok-put_entry_names.ensures.stay (place_name (place.Change seller number)) (changed seller number above few))
          (λ seller number above few.
          w.in_ok-put_entry_names.ensures.named seller number above
          (subst (λ cs. number ≤ length (entries_at (changes_at c.self.inside.ledgers seller)) + count_by (is_of_seller seller) cs) (sym (w.as_slice-in-Invoice.ensures.value ∙ c.in_ok-changes.ensures)) few)))
      | in_default w ↦
          subst (λ names. AreTold names (changes_at c.self.inside.ledgers) (brought_by (lines_at c.self.inside.invoices) c.args.body.now)) (sym w.names-is)
          (told_changes c.put_change_names.new.names (changes_at c.self.inside.ledgers) (brought_by (lines_at c.self.inside.invoices) c.args.body.now) changed
          (λ seller. no_entries (is_of_seller seller) (lines_at c.self.inside.invoices) c.args.body.now w.in_default.not-Invoice))
    ]

pub returns-clause-covers : goal.returns-clause-covers
returns-clause-covers c =
    if_ok (λ names e steps stands fit name other.
    covers names.items c.args.self.now steps c.args._from c.args.body.now stands fit
    (subst (λ (tables : SellerTables). AreTold names.items (changes_at tables.ledgers) (brought_by (lines_at tables.invoices) c.args.body.now)) c.self.view_is
    (subst (λ ns. AreTold ns (changes_at c.self.inside.ledgers) (brought_by (lines_at c.self.inside.invoices) c.args.body.now)) (sym e) (told c)))
    name other) c.into_names.result c.into_names.ensures.same

-- they are few
few : (c : goal.After-drop-changes-2) → length c.match-body.names ≤ most_touched c.args.body.now
few c =
    elim c.match-body.branch [
      | in-Invoice+in_ok-put_entry_names w ↦
          omega (
            arith,
            ap length w.names-is,
            ap length c.new-names.ensures,
            c.in_ok-put_change_names.ensures.few,
            ap length (c.as_slice.ensures.value ∙ c.in_ok-changes.ensures),
            ap (λ (tables : SellerTables). length (brought_by (lines_at tables.invoices) c.args.body.now)) c.self.view_is,
            w.in_ok-put_entry_names.ensures.few,
            ap length (w.as_slice-in-Invoice.ensures.value ∙ c.in_ok-changes.ensures),
            (few_brought c.args.self.now c.args._from c.args.body.now c.requires).twice w.in-Invoice.field-0 w.in-Invoice.field-1 w.in-Invoice.field-2 w.in-Invoice.field-3 w.in-Invoice.is,
          )
      | in_default w ↦
          omega (
            arith,
            ap length w.names-is,
            ap length c.new-names.ensures,
            c.in_ok-put_change_names.ensures.few,
            ap length (c.as_slice.ensures.value ∙ c.in_ok-changes.ensures),
            ap (λ (tables : SellerTables). length (brought_by (lines_at tables.invoices) c.args.body.now)) c.self.view_is,
            (few_brought c.args.self.now c.args._from c.args.body.now c.requires).touched,
          )
    ]

pub returns-clause-few : goal.returns-clause-few
returns-clause-few c = if_ok (λ names e. omega (arith, names.ok.0, ap length e, few c)) c.into_names.result c.into_names.ensures.same

-- a name of the changes is of a table that the body may change
changed : (c : goal.After-drop-changes-2) (name : CellName) → is_named c.put_change_names.new.names name ≡ true → may_change Role.Seller c.args.body.now name ≡ true
changed c name here =
    by (c.in_ok-put_change_names.ensures.tables name here)
  where
    none : is_named c.new-names.result name ≡ true → may_change Role.Seller c.args.body.now name ≡ true
    none before = named_none name (sym (ap (λ ns. is_named ns name) c.new-names.ensures) ∙ before)

    by : (is_named c.new-names.result name ≡ true) ⊎ (name.table ≡ codes "change") → may_change Role.Seller c.args.body.now name ≡ true
    by (inl before) = none before
    by (inr table) =
        change_touched (lines_at c.self.inside.invoices) c.args.body.now c.put_change_names.new.names
        (omega (
          arith,
          ap length c.new-names.ensures,
          c.in_ok-put_change_names.ensures.few,
          ap length (c.as_slice.ensures.value ∙ c.in_ok-changes.ensures),
        ))
        name here table

-- each is of such a table
tabled : (c : goal.After-drop-changes-2) (name : CellName) → is_named c.match-body.names name ≡ true → may_change Role.Seller c.args.body.now name ≡ true
tabled c name here =
    elim c.match-body.branch [
      | in-Invoice+in_ok-put_entry_names w ↦
          either (w.in_ok-put_entry_names.ensures.tables name (sym (ap (λ ns. is_named ns name) w.names-is) ∙ here))
          (changed c name)
          (entry_touched c.args.body.now w.in-Invoice.field-0 w.in-Invoice.field-1 w.in-Invoice.field-2 w.in-Invoice.field-3 w.in-Invoice.is name)
      | in_default w ↦ changed c name (sym (ap (λ ns. is_named ns name) w.names-is) ∙ here)
    ]
  where
    either : {A B C : Type 0} → A ⊎ B → (A → C) → (B → C) → C
    either (inl x) f g = f x
    either (inr y) f g = g y

pub returns-clause-tables : goal.returns-clause-tables
returns-clause-tables c = if_ok (λ names e name here. tabled c name (sym (ap (λ ns. is_named ns name) e) ∙ here)) c.into_names.result c.into_names.ensures.same
