use Rattle.std.proofs.Common.{◌≡◌, ◌≤◌, ◌<◌, [], arith, ap, ◌∙◌, length, get_or, length-append}
use Rattle.std.proofs.lemmas.List.{get_or-map, length-map}
use Rattle.std.proofs.lemmas.List.Elements.{All-set, All-get_or}
use Rattle.market_edges.specs.MemoryShelves.{ShelfState, texts_at}
use Rattle.market_edges.specs.Shelves.{most_rows}
use Rattle.market_edges.proofs.RowLists.{map-set_same, get_or-map-set, get_or-map-set_other, on_err, few_at, rows_within}
use Rattle.market_edges.proofs.shelves.MemoryShelfShelf.commit.Goals as goal

pub returns-in_err-append-clause-unchanged : goal.returns-in_err-append-clause-unchanged
returns-in_err-append-clause-unchanged c =
    on_err _ (map-set_same (λ v. v.items) c.self.inside.rows c.get-at.result c.append.new.self c.index-self-at.result c.in_err-append.ensures.items ∙ ap (λ (s : ShelfState). s.held) c.self.view_is)

pub returns-in_err-append-clause-others : goal.returns-in_err-append-clause-others
returns-in_err-append-clause-others c = λ j other.
    get_or-map-set_other (λ v. v.items) c.self.inside.rows c.get-at.result c.append.new.self [] j (λ e. other (e ∙ c.get-at.ensures.value)) ∙ ap (λ (s : ShelfState). texts_at s j) c.self.view_is

pub returns-clause-others : goal.returns-clause-others
returns-clause-others c = λ j other.
    get_or-map-set_other (λ v. v.items) c.self.inside.rows c.get-at.result c.append.new.self [] j (λ e. other (e ∙ c.get-at.ensures.value)) ∙ ap (λ (s : ShelfState). texts_at s j) c.self.view_is

pub returns-clause-ok : goal.returns-clause-ok
returns-clause-ok c =
    let below : c.get-at.result < length c.self.inside.rows = omega arith in
    let added = get_or-map-set (λ v. v.items) c.self.inside.rows c.get-at.result c.append.new.self [] below in
    let was = get_or-map (λ v. v.items) c.self.inside.rows c.get-at.result c.index-self-at.result [] below in
    let seen = ap (λ (s : ShelfState). texts_at s c.get-at.result) c.self.view_is in
    cc (added, was, seen, c.in_ok-append.ensures.items, c.in_ok-texts.ensures, c.get-at.ensures.value)

pub returns-then-is_call_listed-clause-few : goal.returns-then-is_call_listed-clause-few
returns-then-is_call_listed-clause-few c = few_at (λ v. v.items) most_rows c.self.inside.rows c.self.invariant

pub returns-in_err-texts-clause-few : goal.returns-in_err-texts-clause-few
returns-in_err-texts-clause-few c = few_at (λ v. v.items) most_rows c.self.inside.rows c.self.invariant

pub returns-in_err-append-clause-few : goal.returns-in_err-append-clause-few
returns-in_err-append-clause-few c =
    let below : c.get-at.result < length c.self.inside.rows = omega arith in
    let was = All-get_or (λ v. length v.items ≤ most_rows) c.self.inside.rows c.get-at.result c.index-self-at.result below c.self.invariant in
    few_at (λ v. v.items) most_rows _
    (All-set (λ v. length v.items ≤ most_rows) c.self.inside.rows c.get-at.result c.append.new.self (omega (arith, was, ap length c.in_err-append.ensures.items)) c.self.invariant)

pub invariant_of-self-2 : goal.invariant_of-self-2
invariant_of-self-2 c =
    let below : c.get-at.result < length c.self.inside.rows = omega arith in
    let was = get_or-map (λ v. v.items) c.self.inside.rows c.get-at.result c.index-self-at.result [] below in
    let seen = ap (λ (s : ShelfState). texts_at s c.get-at.result) c.self.view_is in
    let held : texts_at c.args.self.now c.args.node ≡ (get_or c.self.inside.rows c.get-at.result c.index-self-at.result).items = cc (was, seen, c.get-at.ensures.value) in
    let grown = ap length c.in_ok-append.ensures.items ∙ length-append (get_or c.self.inside.rows c.get-at.result c.index-self-at.result).items c.in_ok-texts.texts.items in
    let few = few_at (λ v. v.items) most_rows c.self.inside.rows c.self.invariant c.get-at.result in
    let within = rows_within c.args.rows.now (length (texts_at c.args.self.now c.args.node)) c.requires.continues c.requires.below_end
    (omega (arith, few, ap length seen, ap (λ n. length (texts_at c.args.self.now n)) c.get-at.ensures.value)) in
    All-set (λ v. length v.items ≤ most_rows) c.self.inside.rows c.get-at.result c.append.new.self
    (omega (arith, within, ap length held, grown, ap length c.in_ok-texts.ensures, length-map c.args.rows.now (λ row. row.text))) c.self.invariant

pub returns-clause-few : goal.returns-clause-few
returns-clause-few c = few_at (λ v. v.items) most_rows _ (invariant_of-self-2 c)
