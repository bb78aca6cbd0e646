-- Each well-formed request, reply and body is read of its text, and of no other one.
use Rattle.std.proofs.Common.{◌≡◌, ℕ, List, Result, Ok, ◌↔◌, sym, ap, ◌∙◌, arith}
use Rattle.market_events.specs.declared.bodies.Body.{Body}
use Rattle.market_texts.specs.declared.faults.BodyError.{BodyError}
use Rattle.market_events.specs.declared.replies.Reply.{Reply}
use Rattle.market_events.specs.declared.requests.Request.{Request}
use Rattle.market_texts.specs.Readers.{body_named, reply_named, request_of_text, reply_of_text, body_of_text}
use Rattle.market_events.specs.Texts.{request_words, reply_words, body_words, text_of_request, text_of_reply, text_of_body}
use Rattle.market_events.specs.WellFormed.{IsRequest, IsReply, IsBody}
use Rattle.market_texts.proofs.ReaderLaws.{whole_reads, whole_spelled, kind_some, ok_same}
use Rattle.market_texts.proofs.ReaderRequests.{request_words_read, request_words_spell}
use Rattle.market_texts.proofs.ReaderReplies.{reply_words_read, reply_words_spell}
use Rattle.market_texts.proofs.ReaderBodies.{body_words_read, body_words_spell}

-- a request is read of its text
pub request_reads : (r : Request) → IsRequest r → request_of_text (text_of_request r) ≡ Ok r
request_reads r h = whole_reads (request_words r) (omega arith) (request_words_read r h)

-- and of no other text
pub request_spelled : (t : List ℕ) (r : Request) → request_of_text t ≡ Ok r → IsRequest r × (t ≡ text_of_request r)
request_spelled t r e = whole_spelled request_words_spell t r e

-- a reply is read of its text
pub reply_reads : (r : Reply) → IsReply r → reply_of_text (text_of_reply r) ≡ Ok r
reply_reads r h = let read = reply_words_read r h in whole_reads (reply_words r) (kind_some reply_named (reply_words r) read) read

-- and of no other text
pub reply_spelled : (t : List ℕ) (r : Reply) → reply_of_text t ≡ Ok r → IsReply r × (t ≡ text_of_reply r)
reply_spelled t r e = whole_spelled reply_words_spell t r e

-- a body is read of its text
pub body_reads : (b : Body) → IsBody b → body_of_text (text_of_body b) ≡ Ok b
body_reads b h = let read = body_words_read b h in whole_reads (body_words b) (kind_some body_named (body_words b) read) read

-- and of no other text
pub body_spelled : (t : List ℕ) (b : Body) → body_of_text t ≡ Ok b → IsBody b × (t ≡ text_of_body b)
body_spelled t b e = whole_spelled body_words_spell t b e

-- where each value is read of its text, and each text that is read is the value's
module _ {A : Type 0} (read : List ℕ → Result A BodyError) (text : A → List ℕ) (ok : A → Type 0)
    (reads : (a : A) → ok a → read (text a) ≡ Ok a) (spelled : (t : List ℕ) (a : A) → read t ≡ Ok a → ok a × (t ≡ text a)) where
  -- a text is read as a value just where it is the value's
  pub read_exactly : (a : A) (t : List ℕ) → ok a → (read t ≡ Ok a) ↔ (t ≡ text a)
  read_exactly a t h = ((λ e. (spelled t a e).1), (λ e. ap read e ∙ reads a h))

  -- two values with one text are one value
  pub texts_apart : (a b : A) → ok a → ok b → text a ≡ text b → a ≡ b
  texts_apart a b a_is b_is e = ok_same a b (sym (reads a a_is) ∙ ap read e ∙ reads b b_is)

  -- what is read is well formed
  pub read_formed : (t : List ℕ) (a : A) → read t ≡ Ok a → ok a
  read_formed t a e = (spelled t a e).0
