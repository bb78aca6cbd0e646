-- Words that are joined of other words: ids, keys, lines, items and rows.
use Rattle.std.proofs.Common.{◌≡◌, ◌≤◌, ℕ, ◌==◌, ◌||◌, not, nat_lt, Bool, true, false, cond, List, [], ◌∷◌, length, map, Result, Ok, Err, refl, ap, subst, ◌∙◌, arith}
use Rattle.std.specs.Fmt.{decimal}
use Rattle.std.specs.List.{AllByRecursion}
use Rattle.std.proofs.lemmas.Bool.Decides.{nat_tests}
use Rattle.std.proofs.lemmas.List.{length-map}
use Rattle.market_amounts.specs.declared.keys.ProductKey.{ProductKey}
use Rattle.market_amounts.specs.declared.keys.RequestId.{RequestId}
use Rattle.market_events.specs.declared.bodies.PricedLine.{PricedLine}
use Rattle.market_events.specs.declared.bodies.Item.{Item}
use Rattle.market_words.specs.declared.faults.WordFault.{WordFault}
use Rattle.market_words.specs.declared.faults.WordFault.TheVariants.{Field}
use Rattle.market_events.specs.declared.replies.EntryRow.{EntryRow}
use Rattle.market_events.specs.declared.replies.OrderStatus.{OrderStatus}
use Rattle.market_words.specs.Words.{both, onto, all_of, number_up_to, number_id, key_in, id_of}
use Rattle.market_texts.specs.Reading.{cents, quantity, line_of_pieces, ruled_lines, item_of_pieces, ruled_items, status_of, in_progress, row_of_pieces, row_of, item_read, items_read, line_read, lines_read}
use Rattle.market_words.specs.Results.{◌>>=◌}
use Rattle.market_events.specs.Texts.{id_text, line_text, lines_text, item_text, items_text, status_text, row_text}
use Rattle.market_events.specs.WellFormed.{total_max, most_lines, most_items, IsLine, AreLines, IsItem, AreItems, IsRow, keys_rise}
use Rattle.market_words.proofs.WordCuts.{Lacks, lacks-joined}
use Rattle.market_words.proofs.WordReads.{ReadsWord, both_reads, both_apart, onto_apart, then_apart, all_read, all_spelled}
use Rattle.market_words.proofs.WordNumbers.{decimal_lacks, number_id_word}
use Rattle.market_texts.proofs.WordNumbers.{cents_word, quantity_word, total_word}
use Rattle.market_words.proofs.WordNames.{joined_word, NoDigit, id_lacks, id_word, key_in_reads, key_in_spelled}
use Rattle.market_texts.proofs.WordChoices.{status_word, status_lacks, progress_word}

-- the words of a line
abbrev line_parts : PricedLine → List (List ℕ)
line_parts line = decimal line.key.seller ∷ decimal line.key.product ∷ decimal line.quantity ∷ decimal line.price ∷ decimal line.freight ∷ decimal line.voucher ∷ []

-- they lack each byte that is no digit
line_parts_lack : (c : ℕ) → NoDigit c → (line : PricedLine) → IsLine line → AllByRecursion (Lacks c) (line_parts line)
line_parts_lack c other line ok =
    let key = ok.key in (
      decimal_lacks c line.key.seller other (omega (arith, key.seller)),
      (
        decimal_lacks c line.key.product other (omega (arith, key.product)),
        (
          decimal_lacks c line.quantity other (omega (arith, ok.quantity.1)),
          (
            decimal_lacks c line.price other (omega (arith, ok.price)),
            (decimal_lacks c line.freight other (omega (arith, ok.freight)), (decimal_lacks c line.voucher other (omega (arith, ok.voucher)), tt)),
          ),
        ),
      ),
    )

-- no line has a `;`
pub line_lacks : (line : PricedLine) → IsLine line → Lacks 59 (line_text line)
line_lacks line ok = lacks-joined 59 58 (line_parts line) refl (line_parts_lack 59 refl line ok)

-- the line of what its words say
abbrev line_from : ProductKey × (ℕ × (ℕ × (ℕ × ℕ))) → PricedLine
line_from p = record { key = p.0; quantity = p.1.0; price = p.1.1.0; freight = p.1.1.1.0; voucher = p.1.1.1.1 }

-- words that are read as a line are its words
line_spelled : (ts : List (List ℕ)) (line : PricedLine) → line_of_pieces ts ≡ Ok line → IsLine line × (ts ≡ line_parts line)
line_spelled [] line e = absurd (cc)
line_spelled (a ∷ []) line e = absurd (cc)
line_spelled (a ∷ b ∷ []) line e = absurd (cc)
line_spelled (a ∷ b ∷ c ∷ []) line e = absurd (cc)
line_spelled (a ∷ b ∷ c ∷ d ∷ []) line e = absurd (cc)
line_spelled (a ∷ b ∷ c ∷ d ∷ f ∷ []) line e = absurd (cc)
line_spelled (seller ∷ product ∷ q ∷ price ∷ freight ∷ voucher ∷ []) line e =
    let made = onto_apart line_from (both (key_in seller product) (both (quantity q) (both (cents price) (both (cents freight) (cents voucher))))) line e in
    let p = made.0 in
    let one = both_apart (key_in seller product) (both (quantity q) (both (cents price) (both (cents freight) (cents voucher)))) p made.1 in
    let two = both_apart (quantity q) (both (cents price) (both (cents freight) (cents voucher))) p.1 one.1 in
    let three = both_apart (cents price) (both (cents freight) (cents voucher)) p.1.1 two.1 in
    let four = both_apart (cents freight) (cents voucher) p.1.1.1 three.1 in
    let k = key_in_spelled seller product p.0 one.0 in
    let n = quantity_word.spelled q p.1.0 two.0 in
    let m = cents_word.spelled price p.1.1.0 three.0 in
    let f = cents_word.spelled freight p.1.1.1.0 four.0 in
    let v = cents_word.spelled voucher p.1.1.1.1 four.1 in
    subst (λ l. IsLine l × (seller ∷ product ∷ q ∷ price ∷ freight ∷ voucher ∷ [] ≡ line_parts l)) made.2
    (record { key = k.0; quantity = n.0; price = m.0; freight = f.0; voucher = v.0 }, λ i. k.1 i ∷ k.2 i ∷ n.1 i ∷ m.1 i ∷ f.1 i ∷ v.1 i ∷ [])
line_spelled (a ∷ b ∷ c ∷ d ∷ f ∷ g ∷ h ∷ more) line e = absurd (cc)

-- SELLER:PRODUCT:QUANTITY:PRICE:FREIGHT:VOUCHER
pub line_word : ReadsWord line_read line_text IsLine
line_word = joined_word 58 refl (record {
  reads = λ line ok.
      ap (onto line_from) (both_reads (key_in_reads line.key ok.key) (both_reads (quantity_word.reads line.quantity ok.quantity)
      (both_reads (cents_word.reads line.price ok.price) (both_reads (cents_word.reads line.freight ok.freight) (cents_word.reads line.voucher ok.voucher)))));
  spelled = λ ts line some e. line_spelled ts line e;
  some = λ line ok. omega arith;
  cut = λ line ok. line_parts_lack 58 refl line ok;
  bare = λ line ok. line_parts_lack 32 refl line ok;
})

-- a byte that no text of an element has is in none of the texts
texts_lack : {A : Type 0} (c : ℕ) (text : A → List ℕ) (ok : A → Type 0) → ((a : A) → ok a → Lacks c (text a)) → (xs : List A) → AllByRecursion ok xs → AllByRecursion (Lacks c) (map text xs)
texts_lack c text ok one [] each = tt
texts_lack c text ok one (x ∷ xs) each = (one x each.0, texts_lack c text ok one xs each.1)

-- where there is an element, there is a text
texts_some : {A : Type 0} (text : A → List ℕ) (xs : List A) → 1 ≤ length xs → 1 ≤ length (map text xs)
texts_some text xs some = omega (arith, length-map xs text)

-- and where there is a text, there is an element
some_texts : {A : Type 0} (text : A → List ℕ) (ts : List (List ℕ)) (xs : List A) → ts ≡ map text xs → 1 ≤ length ts → 1 ≤ length xs
some_texts text ts xs is some = omega (arith, ap length is, length-map xs text)

-- lines that keep the rules pass
ruled_lines_reads : (lines : List PricedLine) → AreLines lines → ruled_lines lines ≡ Ok lines
ruled_lines_reads lines ok = rw rise (let most = ok.most in grind (arith, nat_tests, most))
  where
    rise : keys_rise lines ≡ true
    rise = ok.rise

-- lines that passed keep the rules
ruled_lines_apart : (from lines : List PricedLine) → ruled_lines from ≡ Ok lines → (from ≡ lines) × (length lines ≤ most_lines) × (keys_rise lines ≡ true)
ruled_lines_apart from lines e = by_most (nat_lt most_lines (length from)) (keys_rise from) refl refl e
  where
    by_most : (b r : Bool) → nat_lt most_lines (length from) ≡ b → keys_rise from ≡ r → cond {A = Result (List PricedLine) WordFault} (b || not r) (Err Field) (Ok from) ≡ Ok lines → (from ≡ lines) × (length lines ≤ most_lines) × (keys_rise lines ≡ true)
    by_most true r more rise e = absurd (cc)
    by_most false false most rise e = absurd (cc)
    by_most false true most rise e =
        let same : from ≡ lines = cc in
        subst (λ (ls : List PricedLine). (from ≡ ls) × (length ls ≤ most_lines) × (keys_rise ls ≡ true)) same (refl, grind (arith, nat_tests, most), rise)

-- lines, joined by `;`
pub lines_word : ReadsWord lines_read lines_text AreLines
lines_word = joined_word 59 refl (record {
  reads = λ lines ok. ap (λ r. r >>= ruled_lines) (all_read line_word lines ok.each) ∙ ruled_lines_reads lines ok;
  spelled = λ ts lines some e.
      let apart = then_apart (all_of (map line_read ts)) ruled_lines lines e in
      let ruled = ruled_lines_apart apart.0 lines apart.2 in
      let spelled = all_spelled line_word ts lines (apart.1 ∙ ap Ok ruled.0) in
      (record { some = some_texts line_text ts lines spelled.1 some; most = ruled.1; each = spelled.0; rise = ruled.2 }, spelled.1);
  some = λ lines ok. texts_some line_text lines ok.some;
  cut = λ lines ok. texts_lack 59 line_text IsLine line_lacks lines ok.each;
  bare = λ lines ok. texts_lack 32 line_text IsLine line_word.bare lines ok.each;
})

-- the words of an item
abbrev item_parts : Item → List (List ℕ)
item_parts item = id_text item.checkout ∷ decimal item.customer ∷ decimal item.key.seller ∷ decimal item.key.product ∷ []

-- they lack each byte that is no digit and no dot
item_parts_lack : (c : ℕ) → NoDigit c → (46 == c) ≡ false → (item : Item) → IsItem item → AllByRecursion (Lacks c) (item_parts item)
item_parts_lack c other apart item ok =
    let key = ok.key in (
      id_lacks c other apart item.checkout ok.checkout,
      (
        decimal_lacks c item.customer other (omega (arith, ok.customer)),
        (decimal_lacks c item.key.seller other (omega (arith, key.seller)), (decimal_lacks c item.key.product other (omega (arith, key.product)), tt)),
      ),
    )

-- no item has a `;`
pub item_lacks : (item : Item) → IsItem item → Lacks 59 (item_text item)
item_lacks item ok = lacks-joined 59 58 (item_parts item) refl (item_parts_lack 59 refl refl item ok)

-- the item of what its words say
abbrev item_from : RequestId × (ℕ × ProductKey) → Item
item_from p = record { checkout = p.0; customer = p.1.0; key = p.1.1 }

-- words that are read as an item are its words
item_spelled : (ts : List (List ℕ)) (item : Item) → item_of_pieces ts ≡ Ok item → IsItem item × (ts ≡ item_parts item)
item_spelled [] item e = absurd (cc)
item_spelled (a ∷ []) item e = absurd (cc)
item_spelled (a ∷ b ∷ []) item e = absurd (cc)
item_spelled (a ∷ b ∷ c ∷ []) item e = absurd (cc)
item_spelled (checkout ∷ customer ∷ seller ∷ product ∷ []) item e =
    let made = onto_apart item_from (both (id_of checkout) (both (number_id customer) (key_in seller product))) item e in
    let p = made.0 in
    let one = both_apart (id_of checkout) (both (number_id customer) (key_in seller product)) p made.1 in
    let two = both_apart (number_id customer) (key_in seller product) p.1 one.1 in
    let id = id_word.spelled checkout p.0 one.0 in
    let n = number_id_word.spelled customer p.1.0 two.0 in
    let k = key_in_spelled seller product p.1.1 two.1 in
    subst (λ x. IsItem x × (checkout ∷ customer ∷ seller ∷ product ∷ [] ≡ item_parts x)) made.2
    (record { checkout = id.0; customer = n.0; key = k.0 }, λ i. id.1 i ∷ n.1 i ∷ k.1 i ∷ k.2 i ∷ [])
item_spelled (a ∷ b ∷ c ∷ d ∷ f ∷ more) item e = absurd (cc)

-- ID:CUSTOMER:SELLER:PRODUCT
pub item_word : ReadsWord item_read item_text IsItem
item_word = joined_word 58 refl (record {
  reads = λ item ok.
      ap (onto item_from) (both_reads (id_word.reads item.checkout ok.checkout) (both_reads (number_id_word.reads item.customer ok.customer) (key_in_reads item.key ok.key)));
  spelled = λ ts item some e. item_spelled ts item e;
  some = λ item ok. omega arith;
  cut = λ item ok. item_parts_lack 58 refl refl item ok;
  bare = λ item ok. item_parts_lack 32 refl refl item ok;
})

-- items that are not too many pass
ruled_items_reads : (items : List Item) → AreItems items → ruled_items items ≡ Ok items
ruled_items_reads items ok = let most = ok.most in grind (arith, nat_tests, most)

-- items that passed are not too many
ruled_items_apart : (from items : List Item) → ruled_items from ≡ Ok items → (from ≡ items) × (length items ≤ most_items)
ruled_items_apart from items e = by_most (nat_lt most_items (length from)) refl e
  where
    by_most : (b : Bool) → nat_lt most_items (length from) ≡ b → cond {A = Result (List Item) WordFault} b (Err Field) (Ok from) ≡ Ok items → (from ≡ items) × (length items ≤ most_items)
    by_most true more e = absurd (cc)
    by_most false most e =
        let same : from ≡ items = cc in
        subst (λ (is : List Item). (from ≡ is) × (length is ≤ most_items)) same (refl, grind (arith, nat_tests, most))

-- items, joined by `;`
pub items_word : ReadsWord items_read items_text AreItems
items_word = joined_word 59 refl (record {
  reads = λ items ok. ap (λ r. r >>= ruled_items) (all_read item_word items ok.each) ∙ ruled_items_reads items ok;
  spelled = λ ts items some e.
      let apart = then_apart (all_of (map item_read ts)) ruled_items items e in
      let ruled = ruled_items_apart apart.0 items apart.2 in
      let spelled = all_spelled item_word ts items (apart.1 ∙ ap Ok ruled.0) in
      (record { some = some_texts item_text ts items spelled.1 some; most = ruled.1; each = spelled.0 }, spelled.1);
  some = λ items ok. texts_some item_text items ok.some;
  cut = λ items ok. texts_lack 59 item_text IsItem item_lacks items ok.each;
  bare = λ items ok. texts_lack 32 item_text IsItem item_word.bare items ok.each;
})

-- the words of a row
abbrev row_parts : EntryRow → List (List ℕ)
row_parts row = id_text row.checkout ∷ decimal row.product ∷ decimal row.quantity ∷ decimal row.amount ∷ status_text row.status ∷ []

-- they lack a byte that is no digit and no dot, where the status does
row_parts_lack : (c : ℕ) → NoDigit c → (46 == c) ≡ false → (row : EntryRow) → IsRow row → Lacks c (status_text row.status) → AllByRecursion (Lacks c) (row_parts row)
row_parts_lack c other apart row ok status = (
  id_lacks c other apart row.checkout ok.checkout,
  (
    decimal_lacks c row.product other (omega (arith, ok.product)),
    (decimal_lacks c row.quantity other (omega (arith, ok.quantity.1)), (decimal_lacks c row.amount other (omega (arith, ok.amount)), (status, tt))),
  ),
)

-- the row of what its words say
abbrev row_from : RequestId × (ℕ × (ℕ × (ℕ × OrderStatus))) → EntryRow
row_from p = record { checkout = p.0; product = p.1.0; quantity = p.1.1.0; amount = p.1.1.1.0; status = p.1.1.1.1 }

-- words that are read as a row are its words
row_spelled : (ts : List (List ℕ)) (row : EntryRow) → row_of_pieces ts ≡ Ok row → IsRow row × (ts ≡ row_parts row)
row_spelled [] row e = absurd (cc)
row_spelled (a ∷ []) row e = absurd (cc)
row_spelled (a ∷ b ∷ []) row e = absurd (cc)
row_spelled (a ∷ b ∷ c ∷ []) row e = absurd (cc)
row_spelled (a ∷ b ∷ c ∷ d ∷ []) row e = absurd (cc)
row_spelled (checkout ∷ product ∷ q ∷ amount ∷ status ∷ []) row e =
    let made = onto_apart row_from (both (id_of checkout) (both (number_id product) (both (quantity q) (both (number_up_to total_max amount) (status_of status >>= in_progress))))) row e in
    let p = made.0 in
    let one = both_apart (id_of checkout) (both (number_id product) (both (quantity q) (both (number_up_to total_max amount) (status_of status >>= in_progress)))) p made.1 in
    let two = both_apart (number_id product) (both (quantity q) (both (number_up_to total_max amount) (status_of status >>= in_progress))) p.1 one.1 in
    let three = both_apart (quantity q) (both (number_up_to total_max amount) (status_of status >>= in_progress)) p.1.1 two.1 in
    let four = both_apart (number_up_to total_max amount) (status_of status >>= in_progress) p.1.1.1 three.1 in
    let id = id_word.spelled checkout p.0 one.0 in
    let k = number_id_word.spelled product p.1.0 two.0 in
    let n = quantity_word.spelled q p.1.1.0 three.0 in
    let m = total_word.spelled amount p.1.1.1.0 four.0 in
    let s = progress_word.spelled status p.1.1.1.1 four.1 in
    subst (λ r. IsRow r × (checkout ∷ product ∷ q ∷ amount ∷ status ∷ [] ≡ row_parts r)) made.2
    (record { checkout = id.0; product = k.0; quantity = n.0; amount = m.0; status = s.0 }, λ i. id.1 i ∷ k.1 i ∷ n.1 i ∷ m.1 i ∷ s.1 i ∷ [])
row_spelled (a ∷ b ∷ c ∷ d ∷ f ∷ g ∷ more) row e = absurd (cc)

-- ID:PRODUCT:QUANTITY:AMOUNT:STATUS
pub row_word : ReadsWord row_of row_text IsRow
row_word = joined_word 58 refl (record {
  reads = λ row ok.
      ap (onto row_from) (both_reads (id_word.reads row.checkout ok.checkout) (both_reads (number_id_word.reads row.product ok.product)
      (both_reads (quantity_word.reads row.quantity ok.quantity) (both_reads (total_word.reads row.amount ok.amount) (progress_word.reads row.status ok.status)))));
  spelled = λ ts row some e. row_spelled ts row e;
  some = λ row ok. omega arith;
  cut = λ row ok. row_parts_lack 58 refl refl row ok (status_lacks row.status);
  bare = λ row ok. row_parts_lack 32 refl refl row ok (status_word.bare row.status tt);
})
