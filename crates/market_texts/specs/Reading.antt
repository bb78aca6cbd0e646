-- Reading words: each form is read word by word, and the first fault is the answer. Within one word all
-- spelling comes first, then the ranges of its numbers, and then the rules on lines and items.
use Rattle.std.specs.Prelude.{ℕ, zero, suc, ◌+◌, ◌==◌, not, ◌||◌, nat_lt, if◌then◌else◌, List}
use Rattle.std.specs.Prelude.{[], ◌∷◌, length, map, Result, Ok, Err, codes}
use Rattle.market_amounts.specs.declared.keys.ProductKey.{ProductKey}
use Rattle.market_events.specs.declared.bodies.PricedLine.{PricedLine}
use Rattle.market_events.specs.declared.bodies.Item.{Item}
use Rattle.market_texts.specs.declared.faults.BodyError.{BodyError}
use Rattle.market_texts.specs.declared.faults.BodyError.TheVariants as bad
use Rattle.market_words.specs.declared.faults.WordFault.{WordFault}
use Rattle.market_words.specs.declared.faults.WordFault.TheVariants.{Field, Range}
use Rattle.market_events.specs.declared.replies.EntryRow.{EntryRow}
use Rattle.market_events.specs.declared.replies.OrderStatus.{OrderStatus}
use Rattle.market_events.specs.declared.replies.OrderStatus.TheVariants as status
use Rattle.market_words.specs.Results.{◌>>=◌}
use Rattle.market_words.specs.Words.{same_text, pieces, both, onto, all_of, number_up_to, above_zero}
use Rattle.market_words.specs.Words.{number_id, key_in, id_of}
use Rattle.market_events.specs.WellFormed.{cents_max, quantity_max, total_max, most_lines, most_items}
use Rattle.market_events.specs.WellFormed.{keys_rise, most_rows_shown}

abbrev pub cents : List ℕ → Result ℕ WordFault
cents text = number_up_to cents_max text

abbrev pub quantity : List ℕ → Result ℕ WordFault
quantity text = above_zero (number_up_to quantity_max text)

abbrev pub line_of_pieces : List (List ℕ) → Result PricedLine WordFault
line_of_pieces (seller ∷ product ∷ q ∷ price ∷ freight ∷ voucher ∷ []) =
    onto (λ p. record
    { key = p.0; quantity = p.1.0; price = p.1.1.0; freight = p.1.1.1.0; voucher = p.1.1.1.1 })
    (both (key_in seller product)
    (both (quantity q) (both (cents price) (both (cents freight) (cents voucher)))))
line_of_pieces other = Err Field

-- SELLER:PRODUCT:QUANTITY:PRICE:FREIGHT:VOUCHER
abbrev pub line_read : List ℕ → Result PricedLine WordFault
line_read text = line_of_pieces (pieces 58 text)

-- the most lines, by rising key
abbrev pub ruled_lines : List PricedLine → Result (List PricedLine) WordFault
ruled_lines lines = if nat_lt most_lines (length lines) || not (keys_rise lines) then Err Field else Ok lines

-- lines, joined by `;`
abbrev pub lines_read : List ℕ → Result (List PricedLine) WordFault
lines_read text = all_of (map line_read (pieces 59 text)) >>= ruled_lines

abbrev pub item_of_pieces : List (List ℕ) → Result Item WordFault
item_of_pieces (checkout ∷ customer ∷ seller ∷ product ∷ []) =
    onto (λ p. record { checkout = p.0; customer = p.1.0; key = p.1.1 })
    (both (id_of checkout) (both (number_id customer) (key_in seller product)))
item_of_pieces other = Err Field

-- ID:CUSTOMER:SELLER:PRODUCT
abbrev pub item_read : List ℕ → Result Item WordFault
item_read text = item_of_pieces (pieces 58 text)

abbrev pub ruled_items : List Item → Result (List Item) WordFault
ruled_items items = if nat_lt most_items (length items) then Err Field else Ok items

-- items, joined by `;`
abbrev pub items_read : List ℕ → Result (List Item) WordFault
items_read text = all_of (map item_read (pieces 59 text)) >>= ruled_items

abbrev pub status_of : List ℕ → Result OrderStatus WordFault
status_of text =
    if same_text text (codes "invoiced") then Ok status.Invoiced
    else if same_text text (codes "paid") then Ok status.Paid
    else if same_text text (codes "shipped") then Ok status.Shipped
    else if same_text text (codes "delivered") then Ok status.Delivered
    else if same_text text (codes "cancelled") then Ok status.Cancelled
    else Err Field

-- the status of an entry in progress
abbrev pub in_progress : OrderStatus → Result OrderStatus WordFault
in_progress status.Invoiced = Ok status.Invoiced
in_progress status.Paid = Ok status.Paid
in_progress status.Shipped = Ok status.Shipped
in_progress status.Delivered = Err Field
in_progress status.Cancelled = Err Field

abbrev pub row_of_pieces : List (List ℕ) → Result EntryRow WordFault
row_of_pieces (checkout ∷ product ∷ q ∷ amount ∷ status ∷ []) =
    onto (λ p. record
    { checkout = p.0; product = p.1.0; quantity = p.1.1.0; amount = p.1.1.1.0; status = p.1.1.1.1 })
    (both (id_of checkout)
    (both (number_id product)
    (both (quantity q) (both (number_up_to total_max amount) (status_of status >>= in_progress)))))
row_of_pieces other = Err Field

-- ID:PRODUCT:QUANTITY:AMOUNT:STATUS
abbrev pub row_of : List ℕ → Result EntryRow WordFault
row_of text = row_of_pieces (pieces 58 text)

-- the words that are left to read, and the number of the first of them
pub record Words : Type 0 where
  pub place : ℕ
  pub left : List (List ℕ)

-- a reader gives a value and what is left, or the first fault
abbrev pub Reader : Type 0 → Type 0
Reader A = Words → Result (A × Words) BodyError

-- one after the other
infixr 10 ◌then◌
abbrev pub ◌then◌ : {A B : Type 0} → Reader A → (A → Reader B) → Reader B
(p then f) words = p words >>= λ r. f r.0 r.1

abbrev pub give : {A : Type 0} → A → Reader A
give a words = Ok (a, words)

-- the fault with the number of its word
abbrev pub fault_at : ℕ → WordFault → BodyError
fault_at place Field = bad.Field place
fault_at place Range = bad.Range place

abbrev pub placed : {A : Type 0} → ℕ → Result A WordFault → Words → Result (A × Words) BodyError
placed place (Ok a) rest = Ok (a, rest)
placed place (Err fault) rest = Err (fault_at place fault)

-- the next word, as this is read of it
abbrev pub word_of : {A : Type 0} → (List ℕ → Result A WordFault) → ℕ → List (List ℕ)
    → Result (A × Words) BodyError
word_of read place [] = Err (bad.Field place)
word_of read place (word ∷ more) = placed place (read word) (record { place = place + 1; left = more })

abbrev pub word : {A : Type 0} → (List ℕ → Result A WordFault) → Reader A
word read words = word_of read words.place words.left

-- any word
abbrev pub any_word : List ℕ → Result (List ℕ) WordFault
any_word text = Ok text

-- a total, which is this sum
abbrev pub this_total : ℕ → List ℕ → Result ℕ WordFault
this_total sum text = number_up_to total_max text >>= λ n. if n == sum then Ok n else Err Range

-- seller and product, a word each
abbrev pub key_words : Reader ProductKey
key_words = word number_id then λ s. word number_id then λ p. give (record { seller = s; product = p })

abbrev pub rows_from : ℕ → ℕ → List (List ℕ) → Result (List EntryRow × Words) BodyError
rows_from room place [] = Ok ([], record { place = place; left = [] })
rows_from zero place (text ∷ more) =
    placed place (row_of text >>= λ row. Err Field) (record { place = place; left = more })
rows_from (suc room) place (text ∷ more) =
    placed place (row_of text) (record { place = place + 1; left = more }) >>= λ r.
    rows_from room (place + 1) more >>= λ rs. Ok (r.0 ∷ rs.0, rs.1)

-- the rows of a dashboard, to the last word; a row too many is a fault of its word
abbrev pub rows : Reader (List EntryRow)
rows words = rows_from most_rows_shown words.place words.left

-- a whole text, cut at each space: a word behind the form's last one is one too many
abbrev pub ended : {A : Type 0} → A → List (List ℕ) → Result A BodyError
ended a [] = Ok a
ended a (text ∷ more) = Err bad.Extra

abbrev pub whole : {A : Type 0} → Reader A → List ℕ → Result A BodyError
whole p text = p (record { place = 0; left = pieces 32 text }) >>= λ r. ended r.0 r.1.left
