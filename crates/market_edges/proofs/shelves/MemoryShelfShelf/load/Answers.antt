use Rattle.std.proofs.Common.{◌≡◌, ◌≤◌, ◌<◌, [], length, ap, subst, arith, refl, sym}
use Rattle.std.proofs.lemmas.List.{get_or-map}
use Rattle.std.proofs.lemmas.Bool.Decides.{nat_tests}
use Rattle.std.proofs.lemmas.Option.{slice_get_past, slice_get_read}
use Rattle.market_edges.specs.MemoryShelves.{ShelfState, texts_at}
use Rattle.market_edges.specs.Shelves.{most_rows}
use Rattle.market_edges.proofs.RowLists.{few_at}
use Rattle.market_edges.proofs.shelves.MemoryShelfShelf.load.Goals as goal
use Rattle.market_edges.proofs.shelves.MemoryShelfShelf.load.Goals.{in-Some+in_ok-try_copy-in-Some, in-None}

pub returns-in_err-try_copy-in-Some-clause-few : goal.returns-in_err-try_copy-in-Some-clause-few
returns-in_err-try_copy-in-Some-clause-few c = λ n.
    subst (λ (s : ShelfState). length (texts_at s n) ≤ most_rows) c.self.view_is (few_at (λ v. v.items) most_rows c.self.inside.rows c.self.invariant n)

pub returns-clause-few : goal.returns-clause-few
returns-clause-few c = λ n.
    subst (λ (s : ShelfState). length (texts_at s n) ≤ most_rows) c.self.view_is (few_at (λ v. v.items) most_rows c.self.inside.rows c.self.invariant n)

pub returns-clause-text : goal.returns-clause-text
returns-clause-text c =
    let below : c.get.result < length c.self.inside.rows = omega arith in
    let was = get_or-map (λ v. v.items) c.self.inside.rows c.get.result c.index-self-get.result [] below in
    let seen = ap (λ (s : ShelfState). texts_at s c.get.result) c.self.view_is in
    let held : texts_at c.args.self.now c.args.node ≡ c.deref.result.now = cc (was, seen, c.deref.ensures.value, c.get.ensures.value) in
    elim c.match-get.branch [
      | in-Some+in_ok-try_copy-in-Some w ↦
          let below : c.args.place < length c.deref.result.now = grind (arith, nat_tests, w.in-Some.ensures.lookup.0) in
          let at = slice_get_read c.deref.result.now (length c.deref.result.now) c.args.place w.in-Some.text.now refl below w.in-Some.ensures.lookup.1 in
          rw held (rw w.result-is (cc (at, w.in_ok-try_copy-in-Some.ensures)))
      | in-None w ↦
          let past : length c.deref.result.now ≤ c.args.place = grind (arith, nat_tests, w.in-None.ensures.lookup.0) in
          rw held (rw w.result-is (sym (slice_get_past c.deref.result.now c.args.place past)))
    ]
