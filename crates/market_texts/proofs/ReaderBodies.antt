-- The words of bodies, and what they are read as.
use Rattle.std.proofs.Common.{◌≡◌, ◌≤◌, ℕ, List, ◌∷◌, codes, decimal, refl, ap, ◌∙◌, append-nil}
use Rattle.market_amounts.specs.declared.keys.ProductKey.{ProductKey}
use Rattle.market_amounts.specs.declared.keys.RequestId.{RequestId}
use Rattle.market_events.specs.declared.bodies.Body.{Body}
use Rattle.market_events.specs.declared.bodies.Body.TheVariants as body
use Rattle.market_events.specs.declared.bodies.Ending.{Ending}
use Rattle.market_events.specs.declared.bodies.Ending.TheVariants as ending
use Rattle.market_events.specs.declared.bodies.PricedLine.{PricedLine}
use Rattle.market_events.specs.declared.changes.Change.{Change}
use Rattle.market_events.specs.declared.changes.Change.TheVariants as change
use Rattle.market_texts.specs.Reading.{give, word, ◌then◌}
use Rattle.market_texts.specs.Readers.{ChangeWord, change_word_of, change_by, EndingWord, ending_word_of, ending_by, body_named, body_reader}
use Rattle.market_events.specs.Texts.{id_text, key_text, change_words, ending_words, body_words}
use Rattle.market_events.specs.WellFormed.{IsChange, IsEnding, IsBody, AreLines, total_of, total_max}
use Rattle.market_texts.proofs.WordLaws.{number_id_word, cents_word, total_word, id_word, key_word, lines_word, items_word, stock_rule_word, pay_rule_word, change_word, change_word_text, ending_word, ending_word_text, this_total_word, total_of_lines-le}
use Rattle.market_texts.proofs.ReaderLaws.{Reads, Spells, ReadsKind, of_kind, kind_reads, give_reads, give_spells, word_reads, word_spells, any_spells, then_reads, then_spells, inside_reads, inside_spells, choice_spells, no_kind_spells}
use Rattle.market_texts.proofs.ReaderRequests.{request_words_read, request_words_spell}
use Rattle.market_texts.proofs.ReaderReplies.{reply_words_read, reply_words_spell}

-- the words of a change are read as it
change_reads : (key : ProductKey) (version : ℕ) (c : Change) → IsChange c →
    Reads (word change_word_of then λ w. change_by w then λ x. give (body.Changed key version x)) (change_words c) (body.Changed key version c)
change_reads key version (change.Created price freight) h = word_reads change_word _ ChangeWord.Created tt (then_reads
    (word_reads cents_word _ price h.0 (word_reads cents_word _ freight h.1 (give_reads (change.Created price freight)))) _ (give_reads _))
change_reads key version (change.Priced price) h = word_reads change_word _ ChangeWord.Priced tt (then_reads
    (word_reads cents_word _ price h (give_reads (change.Priced price))) _ (give_reads _))
change_reads key version change.Deleted h = word_reads change_word _ ChangeWord.Deleted tt
    (then_reads (give_reads change.Deleted) (λ x. give (body.Changed key version x)) (give_reads _))

-- and the words of how a checkout ended
ending_reads : (checkout : RequestId) (e : Ending) → IsEnding e →
    Reads (word ending_word_of then λ w. ending_by w then λ x. give (body.Ended checkout x)) (ending_words e) (body.Ended checkout e)
ending_reads checkout (ending.Whole total) h = word_reads ending_word _ EndingWord.Whole tt (then_reads
    (word_reads total_word _ total h (give_reads (ending.Whole total))) _ (give_reads _))
ending_reads checkout (ending.Undone rule) h = word_reads ending_word _ EndingWord.Undone tt (then_reads
    (word_reads pay_rule_word _ rule tt (give_reads (ending.Undone rule))) _ (give_reads _))

-- the sum of lines is within the range of totals
total_is : (lines : List PricedLine) (total : ℕ) → AreLines lines → total ≡ total_of lines → (total ≡ total_of lines) × (total ≤ total_max)
total_is lines total are same = (same, rw same (total_of_lines-le lines are))

-- the words of a body are read as it
body_reads : (b : Body) → IsBody b → ReadsKind body_named (body_words b) b
body_reads (body.Changed key version change) h = of_kind (codes "changed") refl (word_reads key_word _ key h.0
    (word_reads number_id_word _ version h.1 (change_reads key version change h.2)))
body_reads (body.Reserve checkout customer lines) h = of_kind (codes "reserve") refl (word_reads id_word _ checkout h.0
    (word_reads number_id_word _ customer h.1 (word_reads lines_word _ lines h.2 (give_reads _))))
body_reads (body.ReserveFailed checkout key rule) h = of_kind (codes "reserve_failed") refl (word_reads id_word _ checkout h.0
    (word_reads key_word _ key h.1 (word_reads stock_rule_word _ rule tt (give_reads _))))
body_reads (body.StockConfirmed checkout customer lines) h = of_kind (codes "stock_confirmed") refl (word_reads id_word _ checkout h.0
    (word_reads number_id_word _ customer h.1 (word_reads lines_word _ lines h.2 (give_reads _))))
body_reads (body.Invoice checkout customer lines total) h = of_kind (codes "invoice") refl (word_reads id_word _ checkout h.0
    (word_reads number_id_word _ customer h.1 (word_reads lines_word _ lines h.2
    (word_reads (this_total_word (total_of lines)) _ total (total_is lines total h.2 h.3) (give_reads _)))))
body_reads (body.Confirmed checkout customer lines total) h = of_kind (codes "confirmed") refl (word_reads id_word _ checkout h.0
    (word_reads number_id_word _ customer h.1 (word_reads lines_word _ lines h.2
    (word_reads (this_total_word (total_of lines)) _ total (total_is lines total h.2 h.3) (give_reads _)))))
body_reads (body.Ended checkout ending) h = of_kind (codes "ended") refl
    (word_reads id_word _ checkout h.0 (ending_reads checkout ending h.1))
body_reads (body.Failed checkout customer rule) h = of_kind (codes "failed") refl (word_reads id_word _ checkout h.0
    (word_reads number_id_word _ customer h.1 (word_reads pay_rule_word _ rule tt (give_reads _))))
body_reads (body.Shipped checkout) h = of_kind (codes "shipped") refl (word_reads id_word _ checkout h (give_reads _))
body_reads (body.Delivered items) h = of_kind (codes "delivered") refl (word_reads items_word _ items h (give_reads _))
body_reads (body.Asked request) h = of_kind (codes "asked") refl (then_reads (inside_reads (request_words_read request h)) _ (give_reads _))
body_reads (body.Told id reply) h = of_kind (codes "told") refl (word_reads id_word _ id h.0
    (then_reads (inside_reads (reply_words_read reply h.1)) _ (give_reads _)))

-- what is read behind the kind of a change has these words, the kind before them
change_by_spells : (w : ChangeWord) → Spells (change_by w) (λ c words. IsChange c × (change_word_text w ∷ words ≡ change_words c))
change_by_spells ChangeWord.Created = word_spells cents_word _ (λ price price_are. word_spells cents_word _ (λ freight freight_are.
    give_spells _ ((price_are, freight_are), refl)))
change_by_spells ChangeWord.Priced = word_spells cents_word _ (λ price price_are. give_spells _ (price_are, refl))
change_by_spells ChangeWord.Deleted = give_spells _ (tt, refl)

-- and behind the first word of how a checkout ended
ending_by_spells : (w : EndingWord) → Spells (ending_by w) (λ e words. IsEnding e × (ending_word_text w ∷ words ≡ ending_words e))
ending_by_spells EndingWord.Whole = word_spells total_word _ (λ total total_is. give_spells _ (total_is, refl))
ending_by_spells EndingWord.Undone = word_spells pay_rule_word _ (λ rule rule_is. give_spells _ (tt, refl))

-- what is read of a kind of body has these words, the kind before them
abbrev BodySpelled : List ℕ → Body → List (List ℕ) → Type 0
BodySpelled kind b words = IsBody b × (kind ∷ words ≡ body_words b)

-- each kind
changed_spells : Spells (body_named (codes "changed")) (BodySpelled (codes "changed"))
changed_spells = word_spells key_word _ (λ key key_is. word_spells number_id_word _ (λ version version_is.
    word_spells change_word _ (λ w w_is. then_spells (change_by_spells w) _ (λ change words known.
    give_spells _ (
      (key_is, version_is, known.0),
      ap (λ l. codes "changed" ∷ key_text key ∷ decimal version ∷ l) (append-nil (change_word_text w ∷ words) ∙ known.1),
    )))))

reserve_spells : Spells (body_named (codes "reserve")) (BodySpelled (codes "reserve"))
reserve_spells = word_spells id_word _ (λ checkout checkout_is. word_spells number_id_word _ (λ customer customer_is.
    word_spells lines_word _ (λ lines lines_are. give_spells _ ((checkout_is, customer_is, lines_are), refl))))

reserve_failed_spells : Spells (body_named (codes "reserve_failed")) (BodySpelled (codes "reserve_failed"))
reserve_failed_spells = word_spells id_word _ (λ checkout checkout_is. word_spells key_word _ (λ key key_is.
    word_spells stock_rule_word _ (λ rule rule_is. give_spells _ ((checkout_is, key_is), refl))))

stock_confirmed_spells : Spells (body_named (codes "stock_confirmed")) (BodySpelled (codes "stock_confirmed"))
stock_confirmed_spells = word_spells id_word _ (λ checkout checkout_is. word_spells number_id_word _ (λ customer customer_is.
    word_spells lines_word _ (λ lines lines_are. give_spells _ ((checkout_is, customer_is, lines_are), refl))))

invoice_spells : Spells (body_named (codes "invoice")) (BodySpelled (codes "invoice"))
invoice_spells = word_spells id_word _ (λ checkout checkout_is. word_spells number_id_word _ (λ customer customer_is.
    word_spells lines_word _ (λ lines lines_are. word_spells (this_total_word (total_of lines)) _ (λ total total_is.
    give_spells _ ((checkout_is, customer_is, lines_are, total_is.0), refl)))))

confirmed_spells : Spells (body_named (codes "confirmed")) (BodySpelled (codes "confirmed"))
confirmed_spells = word_spells id_word _ (λ checkout checkout_is. word_spells number_id_word _ (λ customer customer_is.
    word_spells lines_word _ (λ lines lines_are. word_spells (this_total_word (total_of lines)) _ (λ total total_is.
    give_spells _ ((checkout_is, customer_is, lines_are, total_is.0), refl)))))

ended_spells : Spells (body_named (codes "ended")) (BodySpelled (codes "ended"))
ended_spells = word_spells id_word _ (λ checkout checkout_is. word_spells ending_word _ (λ w w_is.
    then_spells (ending_by_spells w) _ (λ ending words known.
    give_spells _ ((checkout_is, known.0), ap (λ l. codes "ended" ∷ id_text checkout ∷ l) (append-nil (ending_word_text w ∷ words) ∙ known.1)))))

failed_spells : Spells (body_named (codes "failed")) (BodySpelled (codes "failed"))
failed_spells = word_spells id_word _ (λ checkout checkout_is. word_spells number_id_word _ (λ customer customer_is.
    word_spells pay_rule_word _ (λ rule rule_is. give_spells _ ((checkout_is, customer_is), refl))))

shipped_spells : Spells (body_named (codes "shipped")) (BodySpelled (codes "shipped"))
shipped_spells = word_spells id_word _ (λ checkout checkout_is. give_spells _ (checkout_is, refl))

delivered_spells : Spells (body_named (codes "delivered")) (BodySpelled (codes "delivered"))
delivered_spells = word_spells items_word _ (λ items items_are. give_spells _ (items_are, refl))

asked_spells : Spells (body_named (codes "asked")) (BodySpelled (codes "asked"))
asked_spells = then_spells (inside_spells request_words_spell) _ (λ request words known.
    give_spells _ (known.0, ap (λ l. codes "asked" ∷ l) (append-nil words ∙ known.1)))

told_spells : Spells (body_named (codes "told")) (BodySpelled (codes "told"))
told_spells = word_spells id_word _ (λ id id_is. then_spells (inside_spells reply_words_spell) _ (λ reply words known.
    give_spells _ ((id_is, known.0), ap (λ l. codes "told" ∷ id_text id ∷ l) (append-nil words ∙ known.1))))

-- any kind
body_spells : (kind : List ℕ) → Spells (body_named kind) (BodySpelled kind)
body_spells kind =
    choice_spells BodySpelled kind (codes "changed") changed_spells (
    choice_spells BodySpelled kind (codes "reserve") reserve_spells (
    choice_spells BodySpelled kind (codes "reserve_failed") reserve_failed_spells (
    choice_spells BodySpelled kind (codes "stock_confirmed") stock_confirmed_spells (
    choice_spells BodySpelled kind (codes "invoice") invoice_spells (
    choice_spells BodySpelled kind (codes "confirmed") confirmed_spells (
    choice_spells BodySpelled kind (codes "ended") ended_spells (
    choice_spells BodySpelled kind (codes "failed") failed_spells (
    choice_spells BodySpelled kind (codes "shipped") shipped_spells (
    choice_spells BodySpelled kind (codes "delivered") delivered_spells (
    choice_spells BodySpelled kind (codes "asked") asked_spells (
    choice_spells BodySpelled kind (codes "told") told_spells (
    no_kind_spells))))))))))))

-- the words of a body are read as it
pub body_words_read : (b : Body) → IsBody b → Reads body_reader (body_words b) b
body_words_read b h = kind_reads (body_reads b h)

-- and only a body's words are read as it
pub body_words_spell : Spells body_reader (λ b words. IsBody b × (words ≡ body_words b))
body_words_spell = any_spells _ (λ kind. body_spells kind)
