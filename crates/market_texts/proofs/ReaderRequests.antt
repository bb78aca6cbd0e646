-- The words of requests, and what they are read as.
use Rattle.std.proofs.Common.{◌≡◌, ℕ, List, ◌∷◌, codes, refl, ap, ◌∙◌, append-nil}
use Rattle.market_events.specs.declared.requests.Ask.{Ask}
use Rattle.market_events.specs.declared.requests.Ask.TheVariants as ask
use Rattle.market_events.specs.declared.requests.Request.{Request}
use Rattle.market_texts.specs.Readers.{ask_named, request_reader}
use Rattle.market_events.specs.Texts.{id_text, ask_words, request_words}
use Rattle.market_events.specs.WellFormed.{IsAsk, IsRequest}
use Rattle.market_texts.proofs.WordLaws.{number_id_word, cents_word, limit_word, id_word, quantity_word, stocked_word}
use Rattle.market_texts.proofs.ReaderLaws.{Reads, Spells, ReadsKind, of_kind, kind_reads, kind_then_reads, give_reads, give_spells, word_reads, word_spells, any_spells, then_spells, key_reads, key_spells, choice_spells, no_kind_spells}

-- the words of what is asked are read as it
ask_reads : (a : Ask) → IsAsk a → ReadsKind ask_named (ask_words a) a
ask_reads (ask.Create key price freight) h = of_kind (codes "create") refl (key_reads _ key h.0 (word_reads cents_word _ price h.1
    (word_reads cents_word _ freight h.2 (give_reads _))))
ask_reads (ask.Price key price) h = of_kind (codes "price") refl (key_reads _ key h.0 (word_reads cents_word _ price h.1 (give_reads _)))
ask_reads (ask.Delete key) h = of_kind (codes "delete") refl (key_reads _ key h (give_reads _))
ask_reads (ask.View key) h = of_kind (codes "view") refl (key_reads _ key h (give_reads _))
ask_reads (ask.Line customer key quantity voucher) h = of_kind (codes "line") refl (word_reads number_id_word _ customer h.0
    (key_reads _ key h.1 (word_reads quantity_word _ quantity h.2 (word_reads cents_word _ voucher h.3 (give_reads _)))))
ask_reads (ask.Remove customer key) h = of_kind (codes "remove") refl (word_reads number_id_word _ customer h.0
    (key_reads _ key h.1 (give_reads _)))
ask_reads (ask.Checkout customer) h = of_kind (codes "checkout") refl (word_reads number_id_word _ customer h (give_reads _))
ask_reads (ask.Stock key pieces) h = of_kind (codes "stock") refl (key_reads _ key h.0
    (word_reads stocked_word _ pieces (h.1, h.2) (give_reads _)))
ask_reads (ask.Level key) h = of_kind (codes "level") refl (key_reads _ key h (give_reads _))
ask_reads (ask.Order checkout) h = of_kind (codes "order") refl (word_reads number_id_word _ checkout.caller h.caller
    (word_reads number_id_word _ checkout.number h.number (give_reads _)))
ask_reads (ask.Card customer limit) h = of_kind (codes "card") refl (word_reads number_id_word _ customer h.0
    (word_reads limit_word _ limit h.1 (give_reads _)))
ask_reads ask.Deliver h = of_kind (codes "deliver") refl (give_reads _)
ask_reads (ask.Customer customer) h = of_kind (codes "customer") refl (word_reads number_id_word _ customer h (give_reads _))
ask_reads (ask.Dashboard seller) h = of_kind (codes "dashboard") refl (word_reads number_id_word _ seller h (give_reads _))

-- what is read of a kind of request has these words, the kind before them
abbrev AskSpelled : List ℕ → Ask → List (List ℕ) → Type 0
AskSpelled kind a words = IsAsk a × (kind ∷ words ≡ ask_words a)

-- each kind
create_spells : Spells (ask_named (codes "create")) (AskSpelled (codes "create"))
create_spells = key_spells _ (λ key key_is. word_spells cents_word _ (λ price price_are. word_spells cents_word _ (λ freight freight_are.
    give_spells _ ((key_is, price_are, freight_are), refl))))

price_spells : Spells (ask_named (codes "price")) (AskSpelled (codes "price"))
price_spells = key_spells _ (λ key key_is. word_spells cents_word _ (λ price price_are. give_spells _ ((key_is, price_are), refl)))

delete_spells : Spells (ask_named (codes "delete")) (AskSpelled (codes "delete"))
delete_spells = key_spells _ (λ key key_is. give_spells _ (key_is, refl))

view_spells : Spells (ask_named (codes "view")) (AskSpelled (codes "view"))
view_spells = key_spells _ (λ key key_is. give_spells _ (key_is, refl))

line_spells : Spells (ask_named (codes "line")) (AskSpelled (codes "line"))
line_spells = word_spells number_id_word _ (λ customer customer_is. key_spells _ (λ key key_is.
    word_spells quantity_word _ (λ quantity quantity_is. word_spells cents_word _ (λ voucher voucher_are.
    give_spells _ ((customer_is, key_is, quantity_is, voucher_are), refl)))))

remove_spells : Spells (ask_named (codes "remove")) (AskSpelled (codes "remove"))
remove_spells = word_spells number_id_word _ (λ customer customer_is. key_spells _ (λ key key_is.
    give_spells _ ((customer_is, key_is), refl)))

checkout_spells : Spells (ask_named (codes "checkout")) (AskSpelled (codes "checkout"))
checkout_spells = word_spells number_id_word _ (λ customer customer_is. give_spells _ (customer_is, refl))

stock_spells : Spells (ask_named (codes "stock")) (AskSpelled (codes "stock"))
stock_spells = key_spells _ (λ key key_is. word_spells stocked_word _ (λ pieces pieces_are.
    give_spells _ ((key_is, pieces_are.0, pieces_are.1), refl)))

level_spells : Spells (ask_named (codes "level")) (AskSpelled (codes "level"))
level_spells = key_spells _ (λ key key_is. give_spells _ (key_is, refl))

order_spells : Spells (ask_named (codes "order")) (AskSpelled (codes "order"))
order_spells = word_spells number_id_word _ (λ caller caller_is. word_spells number_id_word _ (λ number number_is.
    give_spells _ (record { caller = caller_is; number = number_is }, refl)))

card_spells : Spells (ask_named (codes "card")) (AskSpelled (codes "card"))
card_spells = word_spells number_id_word _ (λ customer customer_is. word_spells limit_word _ (λ limit limit_is.
    give_spells _ ((customer_is, limit_is), refl)))

deliver_spells : Spells (ask_named (codes "deliver")) (AskSpelled (codes "deliver"))
deliver_spells = give_spells _ (tt, refl)

customer_spells : Spells (ask_named (codes "customer")) (AskSpelled (codes "customer"))
customer_spells = word_spells number_id_word _ (λ customer customer_is. give_spells _ (customer_is, refl))

dashboard_spells : Spells (ask_named (codes "dashboard")) (AskSpelled (codes "dashboard"))
dashboard_spells = word_spells number_id_word _ (λ seller seller_is. give_spells _ (seller_is, refl))

-- any kind
ask_spells : (kind : List ℕ) → Spells (ask_named kind) (AskSpelled kind)
ask_spells kind =
    choice_spells AskSpelled kind (codes "create") create_spells (
    choice_spells AskSpelled kind (codes "price") price_spells (
    choice_spells AskSpelled kind (codes "delete") delete_spells (
    choice_spells AskSpelled kind (codes "view") view_spells (
    choice_spells AskSpelled kind (codes "line") line_spells (
    choice_spells AskSpelled kind (codes "remove") remove_spells (
    choice_spells AskSpelled kind (codes "checkout") checkout_spells (
    choice_spells AskSpelled kind (codes "stock") stock_spells (
    choice_spells AskSpelled kind (codes "level") level_spells (
    choice_spells AskSpelled kind (codes "order") order_spells (
    choice_spells AskSpelled kind (codes "card") card_spells (
    choice_spells AskSpelled kind (codes "deliver") deliver_spells (
    choice_spells AskSpelled kind (codes "customer") customer_spells (
    choice_spells AskSpelled kind (codes "dashboard") dashboard_spells (
    no_kind_spells))))))))))))))

-- the words of a request are read as it
pub request_words_read : (r : Request) → IsRequest r → Reads request_reader (request_words r) r
request_words_read r h = word_reads id_word _ r.id h.id (kind_reads (kind_then_reads (ask_reads r.ask h.ask) _ (give_reads _)))

-- and only a request's words are read as it
pub request_words_spell : Spells request_reader (λ r words. IsRequest r × (words ≡ request_words r))
request_words_spell =
    word_spells id_word _ (λ id id_is. any_spells _ (λ kind. then_spells (ask_spells kind) _ (λ a words known.
    give_spells _ (record { id = id_is; ask = known.0 }, ap (λ l. id_text id ∷ l) (append-nil (kind ∷ words) ∙ known.1)))))
