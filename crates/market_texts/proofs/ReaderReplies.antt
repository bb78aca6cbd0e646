-- The words of replies, and what they are read as.
use Rattle.std.proofs.Common.{◌≡◌, ℕ, List, ◌∷◌, codes, decimal, refl, ap, ◌∙◌, append-nil}
use Rattle.market_events.specs.declared.replies.Reply.{Reply}
use Rattle.market_events.specs.declared.replies.Reply.TheVariants as reply
use Rattle.market_events.specs.declared.replies.UndoneRule.{UndoneRule}
use Rattle.market_events.specs.declared.replies.UndoneRule.TheVariants as undone
use Rattle.market_texts.specs.Reading.{give, word, ◌then◌}
use Rattle.market_texts.specs.Readers.{UndoneWord, undone_word_of, undone_by, reply_named, reply_reader}
use Rattle.market_events.specs.Texts.{undone_words, reply_words}
use Rattle.market_events.specs.WellFormed.{IsUndoneRule, IsReply}
use Rattle.market_texts.proofs.WordLaws.{number_id_word, cents_word, pieces_word, limit_word, total_word, amount_word, quantity_word, status_word, rule_word, undone_word, undone_word_text}
use Rattle.market_texts.proofs.ReaderLaws.{Reads, Spells, ReadsKind, of_kind, kind_reads, give_reads, give_spells, word_reads, word_spells, any_spells, then_reads, then_spells, key_reads, key_spells, choice_spells, no_kind_spells}
use Rattle.market_texts.proofs.ReaderRows.{rows_reads, rows_spells}

-- the words of why a checkout was undone are read as it
undone_reads : (rule : UndoneRule) → IsUndoneRule rule →
    Reads (word undone_word_of then λ w. undone_by w then λ r. give (reply.Undone r)) (undone_words rule) (reply.Undone rule)
undone_reads undone.CartEmpty h = word_reads undone_word _ UndoneWord.CartEmpty tt
    (then_reads (give_reads undone.CartEmpty) (λ r. give (reply.Undone r)) (give_reads _))
undone_reads (undone.Gone key) h = word_reads undone_word _ UndoneWord.Gone tt (then_reads
    (key_reads _ key h (give_reads (undone.Gone key))) _ (give_reads _))
undone_reads (undone.Short key) h = word_reads undone_word _ UndoneWord.Short tt (then_reads
    (key_reads _ key h (give_reads (undone.Short key))) _ (give_reads _))
undone_reads undone.NoCard h = word_reads undone_word _ UndoneWord.NoCard tt
    (then_reads (give_reads undone.NoCard) (λ r. give (reply.Undone r)) (give_reads _))
undone_reads undone.OverLimit h = word_reads undone_word _ UndoneWord.OverLimit tt
    (then_reads (give_reads undone.OverLimit) (λ r. give (reply.Undone r)) (give_reads _))

-- the words of a reply are read as it
reply_reads : (r : Reply) → IsReply r → ReadsKind reply_named (reply_words r) r
reply_reads (reply.Created version) h = of_kind (codes "created") refl (word_reads number_id_word _ version h (give_reads _))
reply_reads (reply.Priced version) h = of_kind (codes "priced") refl (word_reads number_id_word _ version h (give_reads _))
reply_reads (reply.Deleted version) h = of_kind (codes "deleted") refl (word_reads number_id_word _ version h (give_reads _))
reply_reads (reply.View version price freight) h = of_kind (codes "view") refl (word_reads number_id_word _ version h.0
    (word_reads cents_word _ price h.1 (word_reads cents_word _ freight h.2 (give_reads _))))
reply_reads (reply.Line quantity) h = of_kind (codes "line") refl (word_reads quantity_word _ quantity h (give_reads _))
reply_reads reply.Removed h = of_kind (codes "removed") refl (give_reads _)
reply_reads (reply.Whole total) h = of_kind (codes "whole") refl (word_reads total_word _ total h (give_reads _))
reply_reads (reply.Undone rule) h = of_kind (codes "undone") refl (undone_reads rule h)
reply_reads (reply.Stocked on_hand) h = of_kind (codes "stocked") refl (word_reads pieces_word _ on_hand h (give_reads _))
reply_reads (reply.Level on_hand reserved) h = of_kind (codes "level") refl (word_reads pieces_word _ on_hand h.0
    (word_reads pieces_word _ reserved h.1 (give_reads _)))
reply_reads (reply.OrderState status total) h = of_kind (codes "order") refl (word_reads status_word _ status tt
    (word_reads total_word _ total h (give_reads _)))
reply_reads (reply.Card limit) h = of_kind (codes "card") refl (word_reads limit_word _ limit h (give_reads _))
reply_reads (reply.Delivered sellers packages) h = of_kind (codes "delivered") refl (word_reads number_id_word _ sellers h.0
    (word_reads number_id_word _ packages h.1 (give_reads _)))
reply_reads (reply.Customer confirmed failed delivered) h = of_kind (codes "customer") refl (word_reads number_id_word _ confirmed h.0
    (word_reads number_id_word _ failed h.1 (word_reads number_id_word _ delivered h.2 (give_reads _))))
reply_reads (reply.Dashboard point entries amount rs) h = of_kind (codes "dashboard") refl (word_reads number_id_word _ point h.0
    (word_reads number_id_word _ entries h.1 (word_reads amount_word _ amount h.2 (then_reads (rows_reads rs h.3) _ (give_reads _)))))
reply_reads (reply.Refused rule) h = of_kind (codes "refused") refl (word_reads rule_word _ rule tt (give_reads _))

-- what is read behind the first word of why a checkout was undone has these words, that one before them
undone_by_spells : (w : UndoneWord) →
    Spells (undone_by w) (λ rule words. IsUndoneRule rule × (undone_word_text w ∷ words ≡ undone_words rule))
undone_by_spells UndoneWord.CartEmpty = give_spells _ (tt, refl)
undone_by_spells UndoneWord.Gone = key_spells _ (λ key key_is. give_spells _ (key_is, refl))
undone_by_spells UndoneWord.Short = key_spells _ (λ key key_is. give_spells _ (key_is, refl))
undone_by_spells UndoneWord.NoCard = give_spells _ (tt, refl)
undone_by_spells UndoneWord.OverLimit = give_spells _ (tt, refl)

-- what is read of a kind of reply has these words, the kind before them
abbrev ReplySpelled : List ℕ → Reply → List (List ℕ) → Type 0
ReplySpelled kind r words = IsReply r × (kind ∷ words ≡ reply_words r)

-- each kind
created_spells : Spells (reply_named (codes "created")) (ReplySpelled (codes "created"))
created_spells = word_spells number_id_word _ (λ version version_is. give_spells _ (version_is, refl))

priced_spells : Spells (reply_named (codes "priced")) (ReplySpelled (codes "priced"))
priced_spells = word_spells number_id_word _ (λ version version_is. give_spells _ (version_is, refl))

deleted_spells : Spells (reply_named (codes "deleted")) (ReplySpelled (codes "deleted"))
deleted_spells = word_spells number_id_word _ (λ version version_is. give_spells _ (version_is, refl))

view_spells : Spells (reply_named (codes "view")) (ReplySpelled (codes "view"))
view_spells = word_spells number_id_word _ (λ version version_is. word_spells cents_word _ (λ price price_is.
    word_spells cents_word _ (λ freight freight_is. give_spells _ ((version_is, price_is, freight_is), refl))))

line_spells : Spells (reply_named (codes "line")) (ReplySpelled (codes "line"))
line_spells = word_spells quantity_word _ (λ quantity quantity_is. give_spells _ (quantity_is, refl))

removed_spells : Spells (reply_named (codes "removed")) (ReplySpelled (codes "removed"))
removed_spells = give_spells _ (tt, refl)

whole_spells : Spells (reply_named (codes "whole")) (ReplySpelled (codes "whole"))
whole_spells = word_spells total_word _ (λ total total_is. give_spells _ (total_is, refl))

undone_spells : Spells (reply_named (codes "undone")) (ReplySpelled (codes "undone"))
undone_spells = word_spells undone_word _ (λ w w_is. then_spells (undone_by_spells w) _ (λ rule words known.
    give_spells _ (known.0, ap (λ l. codes "undone" ∷ l) (append-nil (undone_word_text w ∷ words) ∙ known.1))))

stocked_spells : Spells (reply_named (codes "stocked")) (ReplySpelled (codes "stocked"))
stocked_spells = word_spells pieces_word _ (λ on_hand on_hand_is. give_spells _ (on_hand_is, refl))

level_spells : Spells (reply_named (codes "level")) (ReplySpelled (codes "level"))
level_spells = word_spells pieces_word _ (λ on_hand on_hand_is. word_spells pieces_word _ (λ reserved reserved_is.
    give_spells _ ((on_hand_is, reserved_is), refl)))

order_spells : Spells (reply_named (codes "order")) (ReplySpelled (codes "order"))
order_spells = word_spells status_word _ (λ status status_is. word_spells total_word _ (λ total total_is. give_spells _ (total_is, refl)))

card_spells : Spells (reply_named (codes "card")) (ReplySpelled (codes "card"))
card_spells = word_spells limit_word _ (λ limit limit_is. give_spells _ (limit_is, refl))

delivered_spells : Spells (reply_named (codes "delivered")) (ReplySpelled (codes "delivered"))
delivered_spells = word_spells number_id_word _ (λ sellers sellers_is. word_spells number_id_word _ (λ packages packages_is.
    give_spells _ ((sellers_is, packages_is), refl)))

customer_spells : Spells (reply_named (codes "customer")) (ReplySpelled (codes "customer"))
customer_spells = word_spells number_id_word _ (λ confirmed confirmed_is. word_spells number_id_word _ (λ failed failed_is.
    word_spells number_id_word _ (λ delivered delivered_is. give_spells _ ((confirmed_is, failed_is, delivered_is), refl))))

dashboard_spells : Spells (reply_named (codes "dashboard")) (ReplySpelled (codes "dashboard"))
dashboard_spells = word_spells number_id_word _ (λ point point_is. word_spells number_id_word _ (λ entries entries_are.
    word_spells amount_word _ (λ amount amount_is. then_spells rows_spells _ (λ rs words known.
    give_spells _ (
      (point_is, entries_are, amount_is, known.0),
      ap (λ l. codes "dashboard" ∷ decimal point ∷ decimal entries ∷ decimal amount ∷ l) (append-nil words ∙ known.1),
    )))))

refused_spells : Spells (reply_named (codes "refused")) (ReplySpelled (codes "refused"))
refused_spells = word_spells rule_word _ (λ rule rule_is. give_spells _ (tt, refl))

-- any kind
reply_spells : (kind : List ℕ) → Spells (reply_named kind) (ReplySpelled kind)
reply_spells kind =
    choice_spells ReplySpelled kind (codes "created") created_spells (
    choice_spells ReplySpelled kind (codes "priced") priced_spells (
    choice_spells ReplySpelled kind (codes "deleted") deleted_spells (
    choice_spells ReplySpelled kind (codes "view") view_spells (
    choice_spells ReplySpelled kind (codes "line") line_spells (
    choice_spells ReplySpelled kind (codes "removed") removed_spells (
    choice_spells ReplySpelled kind (codes "whole") whole_spells (
    choice_spells ReplySpelled kind (codes "undone") undone_spells (
    choice_spells ReplySpelled kind (codes "stocked") stocked_spells (
    choice_spells ReplySpelled kind (codes "level") level_spells (
    choice_spells ReplySpelled kind (codes "order") order_spells (
    choice_spells ReplySpelled kind (codes "card") card_spells (
    choice_spells ReplySpelled kind (codes "delivered") delivered_spells (
    choice_spells ReplySpelled kind (codes "customer") customer_spells (
    choice_spells ReplySpelled kind (codes "dashboard") dashboard_spells (
    choice_spells ReplySpelled kind (codes "refused") refused_spells (
    no_kind_spells))))))))))))))))

-- the words of a reply are read as it
pub reply_words_read : (r : Reply) → IsReply r → Reads reply_reader (reply_words r) r
reply_words_read r h = kind_reads (reply_reads r h)

-- and only a reply's words are read as it
pub reply_words_spell : Spells reply_reader (λ r words. IsReply r × (words ≡ reply_words r))
reply_words_spell = any_spells _ (λ kind. reply_spells kind)
