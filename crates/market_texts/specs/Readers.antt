-- The readers of requests, replies and bodies.
use Rattle.std.specs.Prelude.{◌≡◌, ℕ, if◌then◌else◌, List, Result, Ok, Err, codes}
use Rattle.market_events.specs.declared.bodies.Ending.{Ending}
use Rattle.market_events.specs.declared.bodies.Ending.TheVariants as ending
use Rattle.market_events.specs.declared.bodies.PayRule.{PayRule}
use Rattle.market_events.specs.declared.bodies.PayRule.TheVariants as pay
use Rattle.market_events.specs.declared.bodies.StockRule.{StockRule}
use Rattle.market_events.specs.declared.bodies.StockRule.TheVariants as stock
use Rattle.market_events.specs.declared.bodies.Body.{Body}
use Rattle.market_events.specs.declared.bodies.Body.TheVariants as body
use Rattle.market_events.specs.declared.changes.Change.{Change}
use Rattle.market_events.specs.declared.changes.Change.TheVariants as change
use Rattle.market_texts.specs.declared.faults.BodyError.{BodyError}
use Rattle.market_texts.specs.declared.faults.BodyError.TheVariants as bad
use Rattle.market_texts.specs.declared.faults.BodyFault.{BodyFault}
use Rattle.market_texts.specs.declared.faults.BodyFault.TheVariants.{Bad, OutOfMemory}
use Rattle.market_words.specs.declared.faults.WordFault.{WordFault}
use Rattle.market_words.specs.declared.faults.WordFault.TheVariants.{Field}
use Rattle.market_events.specs.declared.replies.Reply.{Reply}
use Rattle.market_events.specs.declared.replies.Reply.TheVariants as reply
use Rattle.market_events.specs.declared.replies.Rule.{Rule}
use Rattle.market_events.specs.declared.replies.Rule.TheVariants as rule
use Rattle.market_events.specs.declared.replies.UndoneRule.{UndoneRule}
use Rattle.market_events.specs.declared.replies.UndoneRule.TheVariants as undone
use Rattle.market_events.specs.declared.requests.Ask.{Ask}
use Rattle.market_events.specs.declared.requests.Ask.TheVariants as ask
use Rattle.market_events.specs.declared.requests.Request.{Request}
use Rattle.market_texts.specs.Reading.{Reader, ◌then◌, give, word, any_word, cents, quantity, key_words}
use Rattle.market_texts.specs.Reading.{status_of, this_total, rows, whole, items_read, lines_read}
use Rattle.market_words.specs.Words.{same_text, number_up_to, above_zero, number_id, id_of, key_of}
use Rattle.market_events.specs.WellFormed.{pieces_max, limit_max, total_max, amount_max, total_of}

abbrev pub number : Reader ℕ
number = word number_id

abbrev pub pieces_number : Reader ℕ
pieces_number = word (number_up_to pieces_max)

abbrev pub total : Reader ℕ
total = word (number_up_to total_max)

-- a kind that there is none of
abbrev pub no_kind : {A : Type 0} → Reader A
no_kind words = Err bad.Kind

-- the arguments of a kind of request
abbrev pub ask_named : List ℕ → Reader Ask
ask_named kind =
    if same_text kind (codes "create") then
    (key_words then λ k. word cents then λ p. word cents then λ f. give (ask.Create k p f))
    else if same_text kind (codes "price") then
    (key_words then λ k. word cents then λ p. give (ask.Price k p))
    else if same_text kind (codes "delete") then (key_words then λ k. give (ask.Delete k))
    else if same_text kind (codes "view") then (key_words then λ k. give (ask.View k))
    else if same_text kind (codes "line") then
    (number then λ c. key_words then λ k. word quantity then λ q. word cents then λ v. give
    (ask.Line c k q v))
    else if same_text kind (codes "remove") then (number then λ c. key_words then λ k. give (ask.Remove c k))
    else if same_text kind (codes "checkout") then (number then λ c. give (ask.Checkout c))
    else if same_text kind (codes "stock") then
    (key_words then λ k. word (λ text. above_zero (number_up_to pieces_max text)) then λ n. give
    (ask.Stock k n))
    else if same_text kind (codes "level") then (key_words then λ k. give (ask.Level k))
    else if same_text kind (codes "order") then
    (number then λ c. number then λ n. give (ask.Order (record { caller = c; number = n })))
    else if same_text kind (codes "card") then
    (number then λ c. word (number_up_to limit_max) then λ l. give (ask.Card c l))
    else if same_text kind (codes "deliver") then give ask.Deliver
    else if same_text kind (codes "customer") then (number then λ c. give (ask.Customer c))
    else if same_text kind (codes "dashboard") then (number then λ s. give (ask.Dashboard s))
    else no_kind

-- ID KIND ARGUMENT ..
abbrev pub request_reader : Reader Request
request_reader =
    word id_of then λ id. word any_word then λ kind. ask_named kind then λ a. give
    (record { id = id; ask = a })

abbrev pub rule_of : List ℕ → Result Rule WordFault
rule_of text =
    if same_text text (codes "exists") then Ok rule.Exists
    else if same_text text (codes "unknown") then Ok rule.Unknown
    else if same_text text (codes "gone") then Ok rule.Gone
    else if same_text text (codes "cart_full") then Ok rule.CartFull
    else if same_text text (codes "no_line") then Ok rule.NoLine
    else if same_text text (codes "stock_over") then Ok rule.StockOver
    else if same_text text (codes "no_order") then Ok rule.NoOrder
    else if same_text text (codes "lane_full") then Ok rule.LaneFull
    else if same_text text (codes "request_differs") then Ok rule.RequestDiffers
    else Err Field

-- the first word of why a checkout was undone
pub data UndoneWord : Type 0 where
  CartEmpty : UndoneWord
  Gone : UndoneWord
  Short : UndoneWord
  NoCard : UndoneWord
  OverLimit : UndoneWord

abbrev pub undone_word_of : List ℕ → Result UndoneWord WordFault
undone_word_of text =
    if same_text text (codes "cart_empty") then Ok UndoneWord.CartEmpty
    else if same_text text (codes "gone") then Ok UndoneWord.Gone
    else if same_text text (codes "short") then Ok UndoneWord.Short
    else if same_text text (codes "no_card") then Ok UndoneWord.NoCard
    else if same_text text (codes "over_limit") then Ok UndoneWord.OverLimit
    else Err Field

abbrev pub undone_by : UndoneWord → Reader UndoneRule
undone_by UndoneWord.CartEmpty = give undone.CartEmpty
undone_by UndoneWord.Gone = key_words then λ k. give (undone.Gone k)
undone_by UndoneWord.Short = key_words then λ k. give (undone.Short k)
undone_by UndoneWord.NoCard = give undone.NoCard
undone_by UndoneWord.OverLimit = give undone.OverLimit

abbrev pub reply_named : List ℕ → Reader Reply
reply_named kind =
    if same_text kind (codes "created") then (number then λ v. give (reply.Created v))
    else if same_text kind (codes "priced") then (number then λ v. give (reply.Priced v))
    else if same_text kind (codes "deleted") then (number then λ v. give (reply.Deleted v))
    else if same_text kind (codes "view") then
    (number then λ v. word cents then λ p. word cents then λ f. give (reply.View v p f))
    else if same_text kind (codes "line") then (word quantity then λ q. give (reply.Line q))
    else if same_text kind (codes "removed") then give reply.Removed
    else if same_text kind (codes "whole") then (total then λ t. give (reply.Whole t))
    else if same_text kind (codes "undone") then
    (word undone_word_of then λ w. undone_by w then λ r. give (reply.Undone r))
    else if same_text kind (codes "stocked") then (pieces_number then λ n. give (reply.Stocked n))
    else if same_text kind (codes "level") then
    (pieces_number then λ n. pieces_number then λ r. give (reply.Level n r))
    else if same_text kind (codes "order") then
    (word status_of then λ s. total then λ t. give (reply.OrderState s t))
    else if same_text kind (codes "card") then (word (number_up_to limit_max) then λ l. give (reply.Card l))
    else if same_text kind (codes "delivered") then
    (number then λ s. number then λ p. give (reply.Delivered s p))
    else if same_text kind (codes "customer") then
    (number then λ c. number then λ f. number then λ d. give (reply.Customer c f d))
    else if same_text kind (codes "dashboard") then
    (number then λ p. number then λ n. word (number_up_to amount_max) then λ a. rows then λ rs. give
    (reply.Dashboard p n a rs))
    else if same_text kind (codes "refused") then (word rule_of then λ r. give (reply.Refused r))
    else no_kind

abbrev pub reply_reader : Reader Reply
reply_reader = word any_word then λ kind. reply_named kind

-- the kind of a change
pub data ChangeWord : Type 0 where
  Created : ChangeWord
  Priced : ChangeWord
  Deleted : ChangeWord

abbrev pub change_word_of : List ℕ → Result ChangeWord WordFault
change_word_of text =
    if same_text text (codes "created") then Ok ChangeWord.Created
    else if same_text text (codes "priced") then Ok ChangeWord.Priced
    else if same_text text (codes "deleted") then Ok ChangeWord.Deleted
    else Err Field

abbrev pub change_by : ChangeWord → Reader Change
change_by ChangeWord.Created = word cents then λ p. word cents then λ f. give (change.Created p f)
change_by ChangeWord.Priced = word cents then λ p. give (change.Priced p)
change_by ChangeWord.Deleted = give change.Deleted

abbrev pub stock_rule_of : List ℕ → Result StockRule WordFault
stock_rule_of text =
    if same_text text (codes "gone") then Ok stock.Gone
    else if same_text text (codes "short") then Ok stock.Short
    else Err Field

abbrev pub pay_rule_of : List ℕ → Result PayRule WordFault
pay_rule_of text =
    if same_text text (codes "no_card") then Ok pay.NoCard
    else if same_text text (codes "over_limit") then Ok pay.OverLimit
    else Err Field

-- how a checkout ended
pub data EndingWord : Type 0 where
  Whole : EndingWord
  Undone : EndingWord

abbrev pub ending_word_of : List ℕ → Result EndingWord WordFault
ending_word_of text =
    if same_text text (codes "whole") then Ok EndingWord.Whole
    else if same_text text (codes "undone") then Ok EndingWord.Undone
    else Err Field

abbrev pub ending_by : EndingWord → Reader Ending
ending_by EndingWord.Whole = total then λ t. give (ending.Whole t)
ending_by EndingWord.Undone = word pay_rule_of then λ r. give (ending.Undone r)

-- inside a body, where the kind of a request or a reply is word 2, an unknown kind is a fault of that word
abbrev pub kind_fault : BodyError → BodyError
kind_fault bad.Kind = bad.Field 2
kind_fault (bad.Field place) = bad.Field place
kind_fault (bad.Range place) = bad.Range place
kind_fault bad.Extra = bad.Extra

abbrev pub faults_by : {A : Type 0} → (BodyError → BodyError) → Result A BodyError → Result A BodyError
faults_by f (Ok a) = Ok a
faults_by f (Err error) = Err (f error)

abbrev pub inside : {A : Type 0} → Reader A → Reader A
inside p words = faults_by kind_fault (p words)

abbrev pub body_named : List ℕ → Reader Body
body_named kind =
    if same_text kind (codes "changed") then
    (word key_of then λ k. number then λ v. word change_word_of then λ w. change_by w then λ c. give
    (body.Changed k v c))
    else if same_text kind (codes "reserve") then
    (word id_of then λ c. number then λ n. word lines_read then λ ls. give (body.Reserve c n ls))
    else if same_text kind (codes "reserve_failed") then
    (word id_of then λ c. word key_of then λ k. word stock_rule_of then λ r. give (body.ReserveFailed c k r))
    else if same_text kind (codes "stock_confirmed") then
    (word id_of then λ c. number then λ n. word lines_read then λ ls. give (body.StockConfirmed c n ls))
    else if same_text kind (codes "invoice") then
    (word id_of then λ c. number then λ n. word lines_read then λ ls. word (this_total (total_of ls)) then λ
    t. give (body.Invoice c n ls t))
    else if same_text kind (codes "confirmed") then
    (word id_of then λ c. number then λ n. word lines_read then λ ls. word (this_total (total_of ls)) then λ
    t. give (body.Confirmed c n ls t))
    else if same_text kind (codes "ended") then
    (word id_of then λ c. word ending_word_of then λ w. ending_by w then λ e. give (body.Ended c e))
    else if same_text kind (codes "failed") then
    (word id_of then λ c. number then λ n. word pay_rule_of then λ r. give (body.Failed c n r))
    else if same_text kind (codes "shipped") then (word id_of then λ c. give (body.Shipped c))
    else if same_text kind (codes "delivered") then (word items_read then λ is. give (body.Delivered is))
    else if same_text kind (codes "asked") then (inside request_reader then λ r. give (body.Asked r))
    else if same_text kind (codes "told") then
    (word id_of then λ id. inside reply_reader then λ r. give (body.Told id r))
    else no_kind

abbrev pub body_reader : Reader Body
body_reader = word any_word then λ kind. body_named kind

-- the request, reply or body of a text, or its first fault
abbrev pub request_of_text : List ℕ → Result Request BodyError
request_of_text text = whole request_reader text

abbrev pub reply_of_text : List ℕ → Result Reply BodyError
reply_of_text text = whole reply_reader text

abbrev pub body_of_text : List ℕ → Result Body BodyError
body_of_text text = whole body_reader text

-- what a fault says of a text, unless it is want of memory
abbrev pub TellsFault : {A : Type 0} → Result A BodyError → BodyFault → Type 0
TellsFault said (Bad error) = said ≡ Err error
TellsFault said OutOfMemory = Unit {0}

-- what a text is read as, its fault being an answer of the call
abbrev pub with_fault : {A : Type 0} → Result A BodyError → Result A BodyFault
with_fault (Ok a) = Ok a
with_fault (Err error) = Err (Bad error)
