-- Words that are joined of others: ids and keys.
use Rattle.std.proofs.Common.{◌≡◌, ◌≤◌, ℕ, ◌==◌, ◌&&◌, nat_le, false, List, [], ◌∷◌, length, Result, Ok, refl, ap, sym, subst, ◌∙◌, arith}
use Rattle.std.specs.Fmt.{decimal}
use Rattle.std.specs.List.{AllByRecursion, join_with_byte}
use Rattle.market_amounts.specs.declared.keys.ProductKey.{ProductKey}
use Rattle.market_amounts.specs.declared.keys.RequestId.{RequestId}
use Rattle.market_words.specs.declared.faults.WordFault.{WordFault}
use Rattle.market_words.specs.Names.{IsKey, IsRequestId, id_text, key_text}
use Rattle.market_words.specs.Words.{pieces, both, onto, number_id, key_in, id_of_pieces, id_of, key_of_pieces, key_of}
use Rattle.market_words.proofs.WordCuts.{Lacks, pieces_joined, joined_pieces, some_pieces, lacks-joined}
use Rattle.market_words.proofs.WordReads.{ReadsWord, both_reads, both_apart, onto_apart}
use Rattle.market_words.proofs.WordNumbers.{decimal_lacks, number_id_word}

-- the parts between the bytes c are read as a value just where they are the texts of its parts and it is well formed
pub record ReadsParts {A : Type 0} (c : ℕ) (read : List (List ℕ) → Result A WordFault) (parts : A → List (List ℕ)) (ok : A → Type 0) : Type 0 where
  pub reads : (a : A) → ok a → read (parts a) ≡ Ok a
  pub spelled : (ts : List (List ℕ)) (a : A) → 1 ≤ length ts → read ts ≡ Ok a → ok a × (ts ≡ parts a)
  pub some : (a : A) → ok a → 1 ≤ length (parts a)
  pub cut : (a : A) → ok a → AllByRecursion (Lacks c) (parts a)
  pub bare : (a : A) → ok a → AllByRecursion (Lacks 32) (parts a)

-- then so is their word
pub joined_word : {A : Type 0} (c : ℕ) {read : List (List ℕ) → Result A WordFault} {parts : A → List (List ℕ)} {ok : A → Type 0} → (c == 32) ≡ false → ReadsParts c read parts ok → ReadsWord (λ text. read (pieces c text)) (λ a. join_with_byte c (parts a)) ok
joined_word c {read} {parts} other law = record {
  reads = λ a ok. ap read (pieces_joined c (parts a) (law.some a ok) (law.cut a ok)) ∙ law.reads a ok;
  spelled = λ t a e.
      let spelled = law.spelled (pieces c t) a (some_pieces c t) e in
      (spelled.0, sym (joined_pieces c t) ∙ ap (join_with_byte c) spelled.1);
  bare = λ a ok. lacks-joined 32 c (parts a) other (law.bare a ok);
}

-- a byte that is no digit
abbrev pub NoDigit : ℕ → Type 0
NoDigit c = (nat_le 48 c && nat_le c 57) ≡ false

-- the words of an id
abbrev pub id_parts : RequestId → List (List ℕ)
id_parts id = decimal id.caller ∷ decimal id.number ∷ []

-- they lack each byte that is no digit
pub id_parts_lack : (c : ℕ) → NoDigit c → (id : RequestId) → IsRequestId id → AllByRecursion (Lacks c) (id_parts id)
id_parts_lack c other id ok = (decimal_lacks c id.caller other (omega (arith, ok.caller)), (decimal_lacks c id.number other (omega (arith, ok.number)), tt))

-- and so does the id, but for its dot
pub id_lacks : (c : ℕ) → NoDigit c → (46 == c) ≡ false → (id : RequestId) → IsRequestId id → Lacks c (id_text id)
id_lacks c other apart id ok = lacks-joined c 46 (id_parts id) apart (id_parts_lack c other id ok)

-- the id of two numbers
abbrev pub id_from : ℕ × ℕ → RequestId
id_from p = record { caller = p.0; number = p.1 }

-- words that are read as an id are its words
id_spelled : (ts : List (List ℕ)) (id : RequestId) → id_of_pieces ts ≡ Ok id → IsRequestId id × (ts ≡ id_parts id)
id_spelled [] id e = absurd (cc)
id_spelled (a ∷ []) id e = absurd (cc)
id_spelled (caller ∷ n ∷ []) id e =
    let made = onto_apart id_from (both (number_id caller) (number_id n)) id e in
    let parts = both_apart (number_id caller) (number_id n) made.0 made.1 in
    let first = number_id_word.spelled caller made.0.0 parts.0 in
    let second = number_id_word.spelled n made.0.1 parts.1 in
    subst (λ i. IsRequestId i × (caller ∷ n ∷ [] ≡ id_parts i)) made.2 (record { caller = first.0; number = second.0 }, λ i. first.1 i ∷ second.1 i ∷ [])
id_spelled (a ∷ b ∷ c ∷ more) id e = absurd (cc)

-- CALLER.NUMBER
pub id_word : ReadsWord id_of id_text IsRequestId
id_word = joined_word 46 refl (record {
  reads = λ id ok. ap (onto id_from) (both_reads (number_id_word.reads id.caller ok.caller) (number_id_word.reads id.number ok.number));
  spelled = λ ts id some e. id_spelled ts id e;
  some = λ id ok. omega arith;
  cut = λ id ok. id_parts_lack 46 refl id ok;
  bare = λ id ok. id_parts_lack 32 refl id ok;
})

-- the words of a key
abbrev pub key_parts : ProductKey → List (List ℕ)
key_parts key = decimal key.seller ∷ decimal key.product ∷ []

-- they lack each byte that is no digit
pub key_parts_lack : (c : ℕ) → NoDigit c → (key : ProductKey) → IsKey key → AllByRecursion (Lacks c) (key_parts key)
key_parts_lack c other key ok = (decimal_lacks c key.seller other (omega (arith, ok.seller)), (decimal_lacks c key.product other (omega (arith, ok.product)), tt))

-- the key of two numbers
abbrev pub key_from : ℕ × ℕ → ProductKey
key_from p = record { seller = p.0; product = p.1 }

-- a key is read of its words
pub key_in_reads : (key : ProductKey) → IsKey key → key_in (decimal key.seller) (decimal key.product) ≡ Ok key
key_in_reads key ok = ap (onto key_from) (both_reads (number_id_word.reads key.seller ok.seller) (number_id_word.reads key.product ok.product))

-- and of no others
pub key_in_spelled : (seller product : List ℕ) (key : ProductKey) → key_in seller product ≡ Ok key → IsKey key × (seller ≡ decimal key.seller) × (product ≡ decimal key.product)
key_in_spelled seller product key e =
    let made = onto_apart key_from (both (number_id seller) (number_id product)) key e in
    let parts = both_apart (number_id seller) (number_id product) made.0 made.1 in
    let first = number_id_word.spelled seller made.0.0 parts.0 in
    let second = number_id_word.spelled product made.0.1 parts.1 in
    subst (λ k. IsKey k × (seller ≡ decimal k.seller) × (product ≡ decimal k.product)) made.2 (record { seller = first.0; product = second.0 }, first.1, second.1)

-- words that are read as a key are its words
key_spelled : (ts : List (List ℕ)) (key : ProductKey) → key_of_pieces ts ≡ Ok key → IsKey key × (ts ≡ key_parts key)
key_spelled [] key e = absurd (cc)
key_spelled (a ∷ []) key e = absurd (cc)
key_spelled (seller ∷ product ∷ []) key e = let spelled = key_in_spelled seller product key e in (spelled.0, λ i. spelled.1 i ∷ spelled.2 i ∷ [])
key_spelled (a ∷ b ∷ c ∷ more) key e = absurd (cc)

-- SELLER:PRODUCT
pub key_word : ReadsWord key_of key_text IsKey
key_word = joined_word 58 refl (record {
  reads = λ key ok. key_in_reads key ok;
  spelled = λ ts key some e. key_spelled ts key e;
  some = λ key ok. omega arith;
  cut = λ key ok. key_parts_lack 58 refl key ok;
  bare = λ key ok. key_parts_lack 32 refl key ok;
})
