-- What readers read of words, and which words they read.
use Rattle.std.proofs.Common.{◌≡◌, ℕ, ◌+◌, ◌≤◌, List, [], ◌∷◌, ◌++◌, length, Bool, true, false, if◌then◌else◌, Result, Ok, Err, decimal, refl, ap, sym, ◌∙◌, subst, append_assoc, append-nil, arith}
use Rattle.std.specs.List.{AllByRecursion}
use Rattle.std.proofs.lemmas.Slice.Eq.{bytes_eq-Decides}
use Rattle.market_amounts.specs.declared.keys.ProductKey.{ProductKey}
use Rattle.market_texts.specs.declared.faults.BodyError.{BodyError}
use Rattle.market_words.specs.declared.faults.WordFault.{WordFault}
use Rattle.market_words.specs.Results.{◌>>=◌}
use Rattle.market_texts.specs.Reading.{Reader, Words, ◌then◌, give, word, any_word, placed, key_words, ended, whole}
use Rattle.market_words.specs.Words.{same_text, pieces}
use Rattle.market_texts.specs.Readers.{no_kind, inside, faults_by, kind_fault}
use Rattle.market_events.specs.Texts.{spaced}
use Rattle.market_events.specs.WellFormed.{IsKey}
use Rattle.market_words.proofs.WordCuts.{Lacks, lacks, lacks_by_test, pieces_joined, joined_pieces}
use Rattle.market_texts.proofs.WordLaws.{ReadsWord, number_id_word}

-- the last words are read as this value, and none of them has a space
pub record Reads {A : Type 0} (p : Reader A) (words : List (List ℕ)) (a : A) : Type 0 where
  pub bare : AllByRecursion (Lacks 32) words
  pub end_of : ℕ → ℕ
  pub reads : (place : ℕ) → p (record { place = place; left = words }) ≡ Ok (a, record { place = end_of place; left = [] })

-- some words, which stand to the value as P says, and then the rest
abbrev pub Begins : {A : Type 0} → (A → List (List ℕ) → Type 0) → List (List ℕ) → A → Words → Type 0
Begins P left a rest = (words : List (List ℕ)) × (left ≡ words ++ rest.left) × P a words

-- whatever is read stands to the words that it is read of as P says
pub record Spells {A : Type 0} (p : Reader A) (P : A → List (List ℕ) → Type 0) : Type 0 where
  pub spelled : (place : ℕ) (left : List (List ℕ)) (a : A) (rest : Words)
      → p (record { place = place; left = left }) ≡ Ok (a, rest) → Begins P left a rest

-- what two equal answers hold
pub ok_same : {A E : Type 0} (x y : A) → ◌≡◌ {A = Result A E} (Ok x) (Ok y) → x ≡ y
ok_same x y e = cc

-- a value with no word
pub give_reads : {A : Type 0} (a : A) → Reads (give a) [] a
give_reads a = record { bare = tt; end_of = λ place. place; reads = λ place. refl }

-- and what is read of it
pub give_spells : {A : Type 0} {P : A → List (List ℕ) → Type 0} (a : A) → P a [] → Spells (give a) P
give_spells {P = P} a holds = record {
  spelled = λ place left b rest e.
      let same = ok_same (a, record { place = place; left = left }) (b, rest) e in
      ([], ap (λ r. r.1.left) same, subst (λ x. P x []) (ap (λ r. r.0) same) holds);
}

-- a word, and what is read after it
pub word_reads : {A B : Type 0} {read : List ℕ → Result A WordFault} {text : A → List ℕ} {ok : A → Type 0} → ReadsWord read text ok
    → (f : A → Reader B) (a : A) → ok a → {words : List (List ℕ)} {b : B} → Reads (f a) words b → Reads (word read then f) (text a ∷ words) b
word_reads w f a is_ok r = record {
  bare = (w.bare a is_ok, r.bare);
  end_of = λ place. r.end_of (place + 1);
  reads = λ place. rw (w.reads a is_ok) (r.reads (place + 1));
}

-- and what is read of the word
pub word_spells : {A B : Type 0} {read : List ℕ → Result A WordFault} {text : A → List ℕ} {ok : A → Type 0} {P : B → List (List ℕ) → Type 0}
    → ReadsWord read text ok → (f : A → Reader B) → ((a : A) → ok a → Spells (f a) (λ b words. P b (text a ∷ words)))
    → Spells (word read then f) P
word_spells {A} {B} {read} {text} {ok} {P} w f next = record { spelled = by_words }
  where
    by_result : (place : ℕ) (t : List ℕ) (more : List (List ℕ)) (b : B) (rest : Words) (r : Result A WordFault) → read t ≡ r
        → (placed place r (record { place = place + 1; left = more }) >>= λ s. f s.0 s.1) ≡ Ok (b, rest) → Begins P (t ∷ more) b rest
    by_result place t more b rest (Ok a) was e =
        let known = w.spelled t a was in
        let back = (next a known.0).spelled (place + 1) more b rest e in
        (text a ∷ back.0, cc, back.2)
    by_result place t more b rest (Err fault) was e = cc

    by_words : (place : ℕ) (left : List (List ℕ)) (b : B) (rest : Words)
        → (word read then f) (record { place = place; left = left }) ≡ Ok (b, rest) → Begins P left b rest
    by_words place [] b rest e = cc
    by_words place (t ∷ more) b rest e = by_result place t more b rest (read t) refl e

-- any word, and what is read after it
pub any_spells : {B : Type 0} {P : B → List (List ℕ) → Type 0} (f : List ℕ → Reader B)
    → ((t : List ℕ) → Spells (f t) (λ b words. P b (t ∷ words))) → Spells (word any_word then f) P
any_spells {B} {P} f next = record { spelled = by_words }
  where
    by_words : (place : ℕ) (left : List (List ℕ)) (b : B) (rest : Words)
        → (word any_word then f) (record { place = place; left = left }) ≡ Ok (b, rest) → Begins P left b rest
    by_words place [] b rest e = cc
    by_words place (t ∷ more) b rest e =
        let back = (next t).spelled (place + 1) more b rest e in
        (t ∷ back.0, cc, back.2)

-- one reader after another
pub then_reads : {A B : Type 0} {p : Reader A} {words : List (List ℕ)} {a : A} → Reads p words a
    → (f : A → Reader B) {b : B} → Reads (f a) [] b → Reads (p then f) words b
then_reads first f last = record {
  bare = first.bare;
  end_of = λ place. last.end_of (first.end_of place);
  reads = λ place. rw (first.reads place) (last.reads (first.end_of place));
}

-- and what is read by both
pub then_spells : {A B : Type 0} {p : Reader A} {Q : A → List (List ℕ) → Type 0} {P : B → List (List ℕ) → Type 0} → Spells p Q
    → (f : A → Reader B) → ((a : A) (front : List (List ℕ)) → Q a front → Spells (f a) (λ b words. P b (front ++ words)))
    → Spells (p then f) P
then_spells {A} {B} {p} {Q} {P} first f next = record {
  spelled = λ place left b rest e. by_first place left b rest (p (record { place = place; left = left })) refl e;
}
  where
    by_first : (place : ℕ) (left : List (List ℕ)) (b : B) (rest : Words) (r : Result (A × Words) BodyError)
        → p (record { place = place; left = left }) ≡ r → (r >>= λ s. f s.0 s.1) ≡ Ok (b, rest) → Begins P left b rest
    by_first place left b rest (Ok s) was e =
        let front = first.spelled place left s.0 s.1 was in
        let back = (next s.0 front.0 front.2).spelled s.1.place s.1.left b rest e in
        (front.0 ++ back.0, front.1 ∙ ap (λ l. front.0 ++ l) back.1 ∙ sym (append_assoc front.0 back.0 rest.left), back.2)
    by_first place left b rest (Err error) was e = cc

-- a key of two words
pub key_reads : {B : Type 0} (f : ProductKey → Reader B) (key : ProductKey) → IsKey key → {words : List (List ℕ)} {b : B}
    → Reads (f key) words b → Reads (key_words then f) (decimal key.seller ∷ decimal key.product ∷ words) b
key_reads f key is_key r = record {
  bare = (number_id_word.bare key.seller is_key.seller, (number_id_word.bare key.product is_key.product, r.bare));
  end_of = λ place. r.end_of (place + 1 + 1);
  reads = λ place. rw (number_id_word.reads key.seller is_key.seller, number_id_word.reads key.product is_key.product) (r.reads (place + 1 + 1));
}

-- and what is read of the two words
pub key_spells : {B : Type 0} {P : B → List (List ℕ) → Type 0} (f : ProductKey → Reader B)
    → ((key : ProductKey) → IsKey key → Spells (f key) (λ b words. P b (decimal key.seller ∷ decimal key.product ∷ words)))
    → Spells (key_words then f) P
key_spells {B} {P} f next =
    then_spells two f (λ key front known. subst (λ l. Spells (f key) (λ b words. P b (l ++ words))) (sym known.1) (next key known.0))
  where
    two : Spells key_words (λ key words. IsKey key × (words ≡ decimal key.seller ∷ decimal key.product ∷ []))
    two = word_spells number_id_word _ (λ seller seller_is. word_spells number_id_word _ (λ product product_is.
        give_spells _ (record { seller = seller_is; product = product_is }, refl)))

-- a choice by the kind
pub choice_spells : {B : Type 0} (P : List ℕ → B → List (List ℕ) → Type 0) (kind literal : List ℕ) {p q : Reader B}
    → Spells p (P literal) → Spells q (P kind) → Spells (if same_text kind literal then p else q) (P kind)
choice_spells {B} P kind literal {p} {q} if_same if_other = by_test (same_text kind literal) refl
  where
    by_test : (b : Bool) → same_text kind literal ≡ b → Spells (if b then p else q) (P kind)
    by_test true same = subst (λ k. Spells p (P k)) (sym ((bytes_eq-Decides kind literal).0 same)) if_same
    by_test false other = if_other

-- no kind has no words
pub no_kind_spells : {B : Type 0} {P : B → List (List ℕ) → Type 0} → Spells no_kind P
no_kind_spells = record { spelled = λ place left b rest e. cc }

-- words that begin with a kind, as they are read by that kind
pub record ReadsKind {A : Type 0} (named : List ℕ → Reader A) (words : List (List ℕ)) (a : A) : Type 0 where
  pub kind : List ℕ
  pub arguments : List (List ℕ)
  pub is : words ≡ kind ∷ arguments
  pub bare : Lacks 32 kind
  pub reads : Reads (named kind) arguments a

-- the words of a literal kind
pub of_kind : {A : Type 0} {named : List ℕ → Reader A} (kind : List ℕ) {arguments : List (List ℕ)} {a : A}
    → lacks 32 kind ≡ true → Reads (named kind) arguments a → ReadsKind named (kind ∷ arguments) a
of_kind kind {arguments} test r =
    record { kind = kind; arguments = arguments; is = refl; bare = lacks_by_test 32 kind test; reads = r }

-- the kind is the first word
pub kind_reads : {A : Type 0} {named : List ℕ → Reader A} {words : List (List ℕ)} {a : A}
    → ReadsKind named words a → Reads (word any_word then named) words a
kind_reads {A} {named} {words} {a} k = subst (λ l. Reads (word any_word then named) l a) (sym k.is) (record {
  bare = (k.bare, k.reads.bare);
  end_of = λ place. k.reads.end_of (place + 1);
  reads = λ place. k.reads.reads (place + 1);
})

-- the same, with a reader after it that reads no word
pub kind_then_reads : {A B : Type 0} {named : List ℕ → Reader A} {words : List (List ℕ)} {a : A} → ReadsKind named words a
    → (f : A → Reader B) {b : B} → Reads (f a) [] b → ReadsKind (λ kind. named kind then f) words b
kind_then_reads k f last =
    record { kind = k.kind; arguments = k.arguments; is = k.is; bare = k.bare; reads = then_reads k.reads f last }

-- a kind is a word
pub kind_some : {A : Type 0} (f : List ℕ → Reader A) (words : List (List ℕ)) {a : A} → Reads (word any_word then f) words a → 1 ≤ length words
kind_some f [] r = let none = r.reads 0 in absurd (cc)
kind_some f (t ∷ more) r = omega arith

-- a reader inside a body
pub inside_reads : {A : Type 0} {p : Reader A} {words : List (List ℕ)} {a : A} → Reads p words a → Reads (inside p) words a
inside_reads r = record { bare = r.bare; end_of = r.end_of; reads = λ place. rw (r.reads place) }

-- and what is read inside it
pub inside_spells : {A : Type 0} {p : Reader A} {P : A → List (List ℕ) → Type 0} → Spells p P → Spells (inside p) P
inside_spells {A} {p} {P} s = record {
  spelled = λ place left a rest e.
      s.spelled place left a rest (unchanged (p (record { place = place; left = left })) a rest e);
}
  where
    unchanged : (r : Result (A × Words) BodyError) (a : A) (rest : Words) → faults_by kind_fault r ≡ Ok (a, rest) → r ≡ Ok (a, rest)
    unchanged (Ok s) a rest e = e
    unchanged (Err error) a rest e = cc

-- the words of a value are the whole text
pub whole_reads : {A : Type 0} {p : Reader A} (words : List (List ℕ)) {a : A} → 1 ≤ length words → Reads p words a → whole p (spaced words) ≡ Ok a
whole_reads words some r = rw (pieces_joined 32 words some r.bare, r.reads 0)

-- and a whole text that is read is the text of its words
pub whole_spelled : {A : Type 0} {p : Reader A} {ok : A → Type 0} {words : A → List (List ℕ)} → Spells p (λ a l. ok a × (l ≡ words a))
    → (t : List ℕ) (a : A) → whole p t ≡ Ok a → ok a × (t ≡ spaced (words a))
whole_spelled {A} {p} {ok} {words} s t a e = by_read (p (record { place = 0; left = pieces 32 t })) refl e
  where
    by_left : (b : A) (rest : Words) (left : List (List ℕ)) → p (record { place = 0; left = pieces 32 t }) ≡ Ok (b, rest)
        → rest.left ≡ left → ended b left ≡ Ok a → ok a × (t ≡ spaced (words a))
    by_left b rest [] was none e =
        let read = s.spelled 0 (pieces 32 t) b rest was in
        let same = ok_same b a e in
        let all : pieces 32 t ≡ words a =
        read.1 ∙ ap (λ l. read.0 ++ l) none ∙ append-nil read.0 ∙ read.2.1 ∙ ap words same in
        (subst ok same read.2.0, sym (joined_pieces 32 t) ∙ ap spaced all)
    by_left b rest (w ∷ more) was none e = cc

    by_read : (r : Result (A × Words) BodyError) → p (record { place = 0; left = pieces 32 t }) ≡ r
        → (r >>= λ s. ended s.0 s.1.left) ≡ Ok a → ok a × (t ≡ spaced (words a))
    by_read (Ok r) was e = by_left r.0 r.1 r.1.left was refl e
    by_read (Err error) was e = cc
