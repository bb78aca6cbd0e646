-- Rows tell the entries, the places and the nodes whose rows they are, and grow with journals.
use Rattle.std.proofs.Common.{◌≡◌, ◌≢◌, ◌≤◌, ◌<◌, ℕ, ◌+◌, List, [], ◌∷◌, ◌++◌, length, Option, Some, None, option_map, IfSome, Result, Ok, ◌⊎◌, inl, inr, refl, ap, sym, ◌∙◌, subst, arith}
use Rattle.std.specs.Fmt.{decimal}
use Rattle.std.proofs.lemmas.Bool.{cases_eq}
use Rattle.std.proofs.lemmas.List.{ext_get_or}
use Rattle.market_events.specs.declared.events.Entry.{Entry}
use Rattle.market_events.specs.declared.nodes.TheConstants.{NODES}
use Rattle.market_history.specs.Histories.{Histories, IsHistories, journal_at, with_journal}
use Rattle.market_history.specs.Journals.{IsEntry, AreEntriesFrom}
use Rattle.market_history.proofs.HistoryLaws.{journal_at-same, journal_at-other}
use Rattle.market_words.specs.declared.faults.WordFault.{WordFault}
use Rattle.market_words.specs.Names.{id_max}
use Rattle.market_words.specs.Words.{number_id}
use Rattle.market_words.proofs.WordNumbers.{number_id_word}
use Rattle.market_rows.specs.Reading.{RowFields, fields_read, entry_read}
use Rattle.market_rows.specs.Rows.{text_of_row, rows_from, rows_of}
use Rattle.market_rows.specs.Shelves.{Held, HoldsRows, TellsRows}
use Rattle.market_rows.proofs.Entries.{node_field, place_field, row_read, entry_reads}
use Rattle.market_rows.proofs.Readings.{some_same}
use Rattle.market_rows.proofs.Whats.{row_behind}

-- numbers of one text are one
decimal_same : (m n : ℕ) → m ≤ id_max → n ≤ id_max → decimal m ≡ decimal n → m ≡ n
decimal_same m n first second e = ok_same (sym (number_id_word.reads m first) ∙ ap number_id e ∙ number_id_word.reads n second)
  where
    ok_same : ◌≡◌ {A = Result ℕ WordFault} (Ok m) (Ok n) → m ≡ n
    ok_same same = cc

-- entries of one row are one, and stand at one place of one node
pub rows_apart : (m n p q : ℕ) (a b : Entry) → IsEntry m p a → IsEntry n q b → text_of_row m p a ≡ text_of_row n q b → (m ≡ n) × (p ≡ q) × (a ≡ b)
rows_apart m n p q a b a_is b_is e =
    let f : RowFields = row_behind (decimal m) (decimal p) (decimal a.clock) a.what in
    let g : RowFields = row_behind (decimal n) (decimal q) (decimal b.clock) b.what in
    let fields : f ≡ g = some_same f g (sym (row_read m p a a_is) ∙ ap fields_read e ∙ row_read n q b b_is) in
    let nodes : decimal m ≡ decimal n =
    sym (node_field (decimal m) (decimal p) (decimal a.clock) a.what) ∙ ap (λ (x : RowFields). x.node) fields ∙ node_field (decimal n) (decimal q) (decimal b.clock) b.what in
    let places : decimal p ≡ decimal q =
    sym (place_field (decimal m) (decimal p) (decimal a.clock) a.what) ∙ ap (λ (x : RowFields). x.place) fields ∙ place_field (decimal n) (decimal q) (decimal b.clock) b.what in
    let node : m ≡ n = decimal_same m n (omega (arith, a_is.node_high)) (omega (arith, b_is.node_high)) nodes in
    let place : p ≡ q = decimal_same p q (omega (arith, a_is.place_high)) (omega (arith, b_is.place_high)) places in
    (node, place, some_same a b (sym (entry_reads m p a a_is) ∙ (λ i. entry_read (node i) (place i) (e i)) ∙ entry_reads n q b b_is))

-- the rows of more entries stand behind those of the first ones
pub rows_from-append : (node place : ℕ) (xs ys : List Entry) → rows_from node place (xs ++ ys) ≡ rows_from node place xs ++ rows_from node (place + length xs) ys
rows_from-append node place [] ys = let here : place ≡ place + 0 = omega arith in ap (λ p. rows_from node p ys) here
rows_from-append node place (x ∷ xs) ys =
    let on : place + 1 + length xs ≡ place + length (x ∷ xs) = omega arith in
    ap (λ rest. text_of_row node place x ∷ rest) (rows_from-append node (place + 1) xs ys ∙ ap (λ p. rows_from node (place + 1) xs ++ rows_from node p ys) on)

rows_of-append : (node : ℕ) (xs ys : List Entry) → rows_of node (xs ++ ys) ≡ rows_of node xs ++ rows_from node (length xs) ys
rows_of-append node xs ys =
    let start : 0 + length xs ≡ length xs = omega arith in rows_from-append node 0 xs ys ∙ ap (λ p. rows_from node 0 xs ++ rows_from node p ys) start

-- entries of the same rows are the same
rows_same : (node place : ℕ) (xs ys : List Entry) → AreEntriesFrom node place xs → AreEntriesFrom node place ys → rows_from node place xs ≡ rows_from node place ys → xs ≡ ys
rows_same node place [] [] xs_are ys_are e = refl
rows_same node place [] (y ∷ ys) xs_are ys_are e = absurd (cc)
rows_same node place (x ∷ xs) [] xs_are ys_are e = absurd (cc)
rows_same node place (x ∷ xs) (y ∷ ys) xs_are ys_are e =
    let both = apart e in
    let first = rows_apart node node place place x y xs_are.0 ys_are.0 both.0 in
    let rest = rows_same node (place + 1) xs ys xs_are.1 ys_are.1 both.1 in
    λ i. first.2 i ∷ rest i
  where
    lists_apart : (a b : List ℕ) (more rest : List (List ℕ)) → a ∷ more ≡ b ∷ rest → (a ≡ b) × (more ≡ rest)
    lists_apart a b more rest e = (cc, cc)

    apart : rows_from node place (x ∷ xs) ≡ rows_from node place (y ∷ ys) → (text_of_row node place x ≡ text_of_row node place y) × (rows_from node (place + 1) xs ≡ rows_from node (place + 1) ys)
    apart e = lists_apart (text_of_row node place x) (text_of_row node place y) (rows_from node (place + 1) xs) (rows_from node (place + 1) ys) e

-- what a shelf tells is the rows of one history
pub told_once : (held : Held) (g h : Histories) → IsHistories g → IsHistories h → TellsRows held g → TellsRows held h → g ≡ h
unfolding TellsRows journal_at
told_once held g h g_is h_is g_told h_told =
    ext_get_or [] g h (g_is.each ∙ sym h_is.each)
    (λ n below.
    let low : n < NODES = omega (arith, g_is.each) in
    rows_same n 0 (journal_at g n) (journal_at h n) (g_is.journals n low) (h_is.journals n low)
    (some_same (rows_of n (journal_at g n)) (rows_of n (journal_at h n)) (sym (g_told n low) ∙ h_told n low)))

-- who tells rows holds them
pub told_holds : (held : Held) (h : Histories) → TellsRows held h → HoldsRows held h
unfolding TellsRows HoldsRows
told_holds held h told = λ n low. subst (λ o. IfSome o (λ texts. texts ≡ rows_of n (journal_at h n))) (sym (told n low)) refl

-- what is held of a node's journal with more entries
module _ (node : ℕ) (journal more : List Entry) where
  held_more : (was : Option (List (List ℕ))) → IfSome was (λ texts. texts ≡ rows_of node journal)
      → IfSome (option_map (λ texts. texts ++ rows_from node (length journal) more) was) (λ texts. texts ≡ rows_of node (journal ++ more))
  held_more None holds = tt
  held_more (Some texts) holds = ap (λ t. t ++ rows_from node (length journal) more) holds ∙ sym (rows_of-append node journal more)

  told_more : (was : Option (List (List ℕ))) → was ≡ Some (rows_of node journal)
      → option_map (λ texts. texts ++ rows_from node (length journal) more) was ≡ Some (rows_of node (journal ++ more))
  told_more was told = ap (option_map (λ texts. texts ++ rows_from node (length journal) more)) told ∙ ap Some (sym (rows_of-append node journal more))

-- what is held where rows of more entries are added to those of one node
module _ (held new : Held) (h : Histories) (node : ℕ) (more : List Entry) (is : IsHistories h) (low : node < NODES)
    (grown : new node ≡ option_map (λ texts. texts ++ rows_from node (length (journal_at h node)) more) (held node))
    (others : (other : ℕ) → other ≢ node → new other ≡ held other) where
  abbrev later : Histories
  later = with_journal h node (journal_at h node ++ more)

  -- the journal there, and those of the others
  journal_there : journal_at (with_journal h node (journal_at h node ++ more)) node ≡ journal_at h node ++ more
  journal_there = journal_at-same h node (journal_at h node ++ more) (omega (arith, is.each))

  holds_there : IfSome (held node) (λ texts. texts ≡ rows_of node (journal_at h node)) → IfSome (new node) (λ texts. texts ≡ rows_of node (journal_at later node))
  holds_there here =
      subst (λ j. IfSome (new node) (λ texts. texts ≡ rows_of node j)) (sym journal_there)
      (subst (λ o. IfSome o (λ texts. texts ≡ rows_of node (journal_at h node ++ more))) (sym grown) (held_more node (journal_at h node) more (held node) here))

  holds_at : (n : ℕ) → IfSome (held node) (λ texts. texts ≡ rows_of node (journal_at h node)) → IfSome (held n) (λ texts. texts ≡ rows_of n (journal_at h n))
      → (n ≡ node) ⊎ (n ≡ node → ⊥) → IfSome (new n) (λ texts. texts ≡ rows_of n (journal_at later n))
  holds_at n here there (inl same) = subst (λ m. IfSome (new m) (λ texts. texts ≡ rows_of m (journal_at later m))) (sym same) (holds_there here)
  holds_at n here there (inr differs) =
      subst (λ j. IfSome (new n) (λ texts. texts ≡ rows_of n j)) (sym (journal_at-other h node n (journal_at h node ++ more) differs))
      (subst (λ o. IfSome o (λ texts. texts ≡ rows_of n (journal_at h n))) (sym (others n differs)) there)

  tells_there : held node ≡ Some (rows_of node (journal_at h node)) → new node ≡ Some (rows_of node (journal_at later node))
  tells_there here = grown ∙ told_more node (journal_at h node) more (held node) here ∙ ap (λ j. Some (rows_of node j)) (sym journal_there)

  tells_at : (n : ℕ) → held node ≡ Some (rows_of node (journal_at h node)) → held n ≡ Some (rows_of n (journal_at h n)) → (n ≡ node) ⊎ (n ≡ node → ⊥)
      → new n ≡ Some (rows_of n (journal_at later n))
  tells_at n here there (inl same) = subst (λ m. new m ≡ Some (rows_of m (journal_at later m))) (sym same) (tells_there here)
  tells_at n here there (inr differs) =
      others n differs ∙ there ∙ ap (λ j. Some (rows_of n j)) (sym (journal_at-other h node n (journal_at h node ++ more) differs))

-- rows of more entries are added to those of one node
pub holds_more : (held new : Held) (h : Histories) (node : ℕ) (more : List Entry) → IsHistories h → node < NODES → HoldsRows held h
    → new node ≡ option_map (λ texts. texts ++ rows_from node (length (journal_at h node)) more) (held node)
    → ((other : ℕ) → other ≢ node → new other ≡ held other) → HoldsRows new (with_journal h node (journal_at h node ++ more))
unfolding HoldsRows
holds_more held new h node more is low holds grown others =
    λ n below. holds_at held new h node more is low grown others n (holds node low) (holds n below) (cases_eq n node)

pub tells_more : (held new : Held) (h : Histories) (node : ℕ) (more : List Entry) → IsHistories h → node < NODES → TellsRows held h
    → new node ≡ option_map (λ texts. texts ++ rows_from node (length (journal_at h node)) more) (held node)
    → ((other : ℕ) → other ≢ node → new other ≡ held other) → TellsRows new (with_journal h node (journal_at h node ++ more))
unfolding TellsRows
tells_more held new h node more is low told grown others =
    λ n below. tells_at held new h node more is low grown others n (told node low) (told n below) (cases_eq n node)
