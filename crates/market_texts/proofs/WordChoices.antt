-- Words that choose one of several values.
use Rattle.std.proofs.Common.{◌≡◌, ℕ, List, Ok, codes, true, refl, ap, subst, ◌∙◌}
use Rattle.market_events.specs.declared.bodies.PayRule.{PayRule}
use Rattle.market_events.specs.declared.bodies.PayRule.TheVariants as pay
use Rattle.market_events.specs.declared.bodies.StockRule.{StockRule}
use Rattle.market_events.specs.declared.bodies.StockRule.TheVariants as stock
use Rattle.market_events.specs.declared.replies.OrderStatus.{OrderStatus}
use Rattle.market_events.specs.declared.replies.OrderStatus.TheVariants as status
use Rattle.market_events.specs.declared.replies.Rule.{Rule}
use Rattle.market_events.specs.declared.replies.Rule.TheVariants as rule
use Rattle.market_texts.specs.Reading.{status_of, in_progress}
use Rattle.market_texts.specs.Readers.{UndoneWord, ChangeWord, EndingWord, rule_of, stock_rule_of, pay_rule_of, undone_word_of, change_word_of, ending_word_of}
use Rattle.market_words.specs.Results.{◌>>=◌}
use Rattle.market_events.specs.Texts.{status_text, text_of_rule, stock_rule_text, pay_rule_text}
use Rattle.market_events.specs.WellFormed.{IsInProgress}
use Rattle.market_words.proofs.WordCuts.{Lacks, lacks, lacks_by_test}
use Rattle.market_words.proofs.WordReads.{ReadsWord, choice, no_choice, chosen, then_apart}

-- the status of an order
pub status_word : ReadsWord status_of status_text (λ s. Unit {0})
status_word = chosen reads spelled bare
  where
    reads : (s : OrderStatus) → status_of (status_text s) ≡ Ok s
    reads status.Invoiced = refl
    reads status.Paid = refl
    reads status.Shipped = refl
    reads status.Delivered = refl
    reads status.Cancelled = refl

    spelled : (t : List ℕ) (s : OrderStatus) → status_of t ≡ Ok s → t ≡ status_text s
    spelled t =
        choice status_text t status.Invoiced (choice status_text t status.Paid (choice status_text t status.Shipped
        (choice status_text t status.Delivered (choice status_text t status.Cancelled (no_choice status_text t)))))

    bare : (s : OrderStatus) → lacks 32 (status_text s) ≡ true
    bare status.Invoiced = refl
    bare status.Paid = refl
    bare status.Shipped = refl
    bare status.Delivered = refl
    bare status.Cancelled = refl

-- no status has a `:`
pub status_lacks : (s : OrderStatus) → Lacks 58 (status_text s)
status_lacks s = lacks_by_test 58 (status_text s) (colon s)
  where
    colon : (s : OrderStatus) → lacks 58 (status_text s) ≡ true
    colon status.Invoiced = refl
    colon status.Paid = refl
    colon status.Shipped = refl
    colon status.Delivered = refl
    colon status.Cancelled = refl

-- the status of an entry in progress
pub progress_word : ReadsWord (λ text. status_of text >>= in_progress) status_text IsInProgress
progress_word = record {
  reads = reads;
  spelled = λ t s e.
      let apart = then_apart (status_of t) in_progress s e in
      let same = in_progress_apart apart.0 s apart.2 in
      (same.1, (status_word.spelled t apart.0 apart.1).1 ∙ ap status_text same.0);
  bare = λ s ok. status_word.bare s tt;
}
  where
    reads : (s : OrderStatus) → IsInProgress s → (status_of (status_text s) >>= in_progress) ≡ Ok s
    reads status.Invoiced ok = refl
    reads status.Paid ok = refl
    reads status.Shipped ok = refl
    reads status.Delivered ok = absurd ok
    reads status.Cancelled ok = absurd ok

    in_progress_apart : (a s : OrderStatus) → in_progress a ≡ Ok s → (a ≡ s) × IsInProgress s
    in_progress_apart status.Invoiced s e = let same : status.Invoiced ≡ s = cc in (same, subst IsInProgress same tt)
    in_progress_apart status.Paid s e = let same : status.Paid ≡ s = cc in (same, subst IsInProgress same tt)
    in_progress_apart status.Shipped s e = let same : status.Shipped ≡ s = cc in (same, subst IsInProgress same tt)
    in_progress_apart status.Delivered s e = absurd (cc)
    in_progress_apart status.Cancelled s e = absurd (cc)

-- why a request was refused
pub rule_word : ReadsWord rule_of text_of_rule (λ r. Unit {0})
rule_word = chosen reads spelled bare
  where
    reads : (r : Rule) → rule_of (text_of_rule r) ≡ Ok r
    reads rule.Exists = refl
    reads rule.Unknown = refl
    reads rule.Gone = refl
    reads rule.CartFull = refl
    reads rule.NoLine = refl
    reads rule.StockOver = refl
    reads rule.NoOrder = refl
    reads rule.LaneFull = refl
    reads rule.RequestDiffers = refl

    spelled : (t : List ℕ) (r : Rule) → rule_of t ≡ Ok r → t ≡ text_of_rule r
    spelled t =
        choice text_of_rule t rule.Exists (choice text_of_rule t rule.Unknown (choice text_of_rule t rule.Gone
        (choice text_of_rule t rule.CartFull (choice text_of_rule t rule.NoLine (choice text_of_rule t rule.StockOver
        (choice text_of_rule t rule.NoOrder (choice text_of_rule t rule.LaneFull (choice text_of_rule t rule.RequestDiffers (no_choice text_of_rule t)))))))))

    bare : (r : Rule) → lacks 32 (text_of_rule r) ≡ true
    bare rule.Exists = refl
    bare rule.Unknown = refl
    bare rule.Gone = refl
    bare rule.CartFull = refl
    bare rule.NoLine = refl
    bare rule.StockOver = refl
    bare rule.NoOrder = refl
    bare rule.LaneFull = refl
    bare rule.RequestDiffers = refl

-- why pieces were not reserved
pub stock_rule_word : ReadsWord stock_rule_of stock_rule_text (λ r. Unit {0})
stock_rule_word = chosen reads spelled bare
  where
    reads : (r : StockRule) → stock_rule_of (stock_rule_text r) ≡ Ok r
    reads stock.Gone = refl
    reads stock.Short = refl

    spelled : (t : List ℕ) (r : StockRule) → stock_rule_of t ≡ Ok r → t ≡ stock_rule_text r
    spelled t =
        choice stock_rule_text t stock.Gone (choice stock_rule_text t stock.Short (no_choice stock_rule_text t))

    bare : (r : StockRule) → lacks 32 (stock_rule_text r) ≡ true
    bare stock.Gone = refl
    bare stock.Short = refl

-- why a payment failed
pub pay_rule_word : ReadsWord pay_rule_of pay_rule_text (λ r. Unit {0})
pay_rule_word = chosen reads spelled bare
  where
    reads : (r : PayRule) → pay_rule_of (pay_rule_text r) ≡ Ok r
    reads pay.NoCard = refl
    reads pay.OverLimit = refl

    spelled : (t : List ℕ) (r : PayRule) → pay_rule_of t ≡ Ok r → t ≡ pay_rule_text r
    spelled t =
        choice pay_rule_text t pay.NoCard (choice pay_rule_text t pay.OverLimit (no_choice pay_rule_text t))

    bare : (r : PayRule) → lacks 32 (pay_rule_text r) ≡ true
    bare pay.NoCard = refl
    bare pay.OverLimit = refl

-- the text of the word that says why a checkout was undone
abbrev pub undone_word_text : UndoneWord → List ℕ
undone_word_text UndoneWord.CartEmpty = codes "cart_empty"
undone_word_text UndoneWord.Gone = codes "gone"
undone_word_text UndoneWord.Short = codes "short"
undone_word_text UndoneWord.NoCard = codes "no_card"
undone_word_text UndoneWord.OverLimit = codes "over_limit"

-- the word that says why a checkout was undone
pub undone_word : ReadsWord undone_word_of undone_word_text (λ w. Unit {0})
undone_word = chosen reads spelled bare
  where
    reads : (w : UndoneWord) → undone_word_of (undone_word_text w) ≡ Ok w
    reads UndoneWord.CartEmpty = refl
    reads UndoneWord.Gone = refl
    reads UndoneWord.Short = refl
    reads UndoneWord.NoCard = refl
    reads UndoneWord.OverLimit = refl

    spelled : (t : List ℕ) (w : UndoneWord) → undone_word_of t ≡ Ok w → t ≡ undone_word_text w
    spelled t =
        choice undone_word_text t UndoneWord.CartEmpty (choice undone_word_text t UndoneWord.Gone (choice undone_word_text t UndoneWord.Short
        (choice undone_word_text t UndoneWord.NoCard (choice undone_word_text t UndoneWord.OverLimit (no_choice undone_word_text t)))))

    bare : (w : UndoneWord) → lacks 32 (undone_word_text w) ≡ true
    bare UndoneWord.CartEmpty = refl
    bare UndoneWord.Gone = refl
    bare UndoneWord.Short = refl
    bare UndoneWord.NoCard = refl
    bare UndoneWord.OverLimit = refl

-- the text of the kind of a change
abbrev pub change_word_text : ChangeWord → List ℕ
change_word_text ChangeWord.Created = codes "created"
change_word_text ChangeWord.Priced = codes "priced"
change_word_text ChangeWord.Deleted = codes "deleted"

-- the kind of a change
pub change_word : ReadsWord change_word_of change_word_text (λ w. Unit {0})
change_word = chosen reads spelled bare
  where
    reads : (w : ChangeWord) → change_word_of (change_word_text w) ≡ Ok w
    reads ChangeWord.Created = refl
    reads ChangeWord.Priced = refl
    reads ChangeWord.Deleted = refl

    spelled : (t : List ℕ) (w : ChangeWord) → change_word_of t ≡ Ok w → t ≡ change_word_text w
    spelled t =
        choice change_word_text t ChangeWord.Created (choice change_word_text t ChangeWord.Priced (choice change_word_text t ChangeWord.Deleted (no_choice change_word_text t)))

    bare : (w : ChangeWord) → lacks 32 (change_word_text w) ≡ true
    bare ChangeWord.Created = refl
    bare ChangeWord.Priced = refl
    bare ChangeWord.Deleted = refl

-- the text of the word that says how a checkout ended
abbrev pub ending_word_text : EndingWord → List ℕ
ending_word_text EndingWord.Whole = codes "whole"
ending_word_text EndingWord.Undone = codes "undone"

-- the word that says how a checkout ended
pub ending_word : ReadsWord ending_word_of ending_word_text (λ w. Unit {0})
ending_word = chosen reads spelled bare
  where
    reads : (w : EndingWord) → ending_word_of (ending_word_text w) ≡ Ok w
    reads EndingWord.Whole = refl
    reads EndingWord.Undone = refl

    spelled : (t : List ℕ) (w : EndingWord) → ending_word_of t ≡ Ok w → t ≡ ending_word_text w
    spelled t =
        choice ending_word_text t EndingWord.Whole (choice ending_word_text t EndingWord.Undone (no_choice ending_word_text t))

    bare : (w : EndingWord) → lacks 32 (ending_word_text w) ≡ true
    bare EndingWord.Whole = refl
    bare EndingWord.Undone = refl
