-- Keys of cells: each is read of its text and of no other one, and no two have one text.
use Rattle.std.proofs.Common.{◌≡◌, ℕ, List, [], ◌∷◌, Option, Some, None, Result, Ok, Err, IfSome, refl, ap, sym, subst, ◌∙◌, arith}
use Rattle.std.specs.Fmt.{decimal}
use Rattle.std.specs.List.{AllByRecursion, join_with_byte}
use Rattle.std.specs.Result.{result_ok}
use Rattle.market_amounts.specs.declared.keys.ProductKey.{ProductKey}
use Rattle.market_words.specs.declared.faults.WordFault.{WordFault}
use Rattle.market_events.specs.CellNames.{basket_of_pieces, basket_line_of}
use Rattle.market_events.specs.Cells.{basket_key}
use Rattle.market_words.specs.Words.{pieces, number_id}
use Rattle.market_words.specs.Results.{◌>>=◌}
use Rattle.market_events.specs.WellFormed.{IsId, IsKey}
use Rattle.market_words.proofs.WordCuts.{Lacks, pieces_joined, joined_pieces}
use Rattle.market_words.proofs.WordNumbers.{decimal_lacks, number_id_word}
use Rattle.market_words.proofs.WordReads.{ReadsWord, then_apart}

-- a text is read as a key just where it is the text of that key, which is one of these
pub record ReadsKey {K : Type 0} (read : List ℕ → Result K WordFault) (text : K → List ℕ) (ok : K → Type 0) : Type 0 where
  pub reads : (k : K) → ok k → read (text k) ≡ Ok k
  pub spelled : (t : List ℕ) (k : K) → read t ≡ Ok k → ok k × (t ≡ text k)

pub key_of_word : {K : Type 0} {read : List ℕ → Result K WordFault} {text : K → List ℕ} {ok : K → Type 0} → ReadsWord read text ok → ReadsKey read text ok
key_of_word law = record { reads = law.reads; spelled = law.spelled }

ok_is : {A E : Type 0} {a b : A} {r : Result A E} → r ≡ Ok a → r ≡ Ok b → a ≡ b
ok_is p q = cc

-- keys with one text are one key
pub one_key : {K : Type 0} {read : List ℕ → Result K WordFault} {text : K → List ℕ} {ok : K → Type 0} → ReadsKey read text ok
    → (k l : K) → ok k → ok l → text k ≡ text l → k ≡ l
one_key {read = read} law k l first second same = ok_is (law.reads k first) (ap read same ∙ law.reads l second)

-- the words of a basket's key
abbrev basket_parts : ℕ × ProductKey → List (List ℕ)
basket_parts line = decimal line.0 ∷ decimal line.1.seller ∷ decimal line.1.product ∷ []

abbrev pub IsBasketKey : ℕ × ProductKey → Type 0
IsBasketKey line = IsId line.0 × IsKey line.1

basket_parts_lack : (line : ℕ × ProductKey) → IsBasketKey line → AllByRecursion (Lacks 58) (basket_parts line)
basket_parts_lack line ok =
    let key = ok.1 in (
      decimal_lacks 58 line.0 refl (omega (arith, ok.0)),
      (decimal_lacks 58 line.1.seller refl (omega (arith, key.seller)), (decimal_lacks 58 line.1.product refl (omega (arith, key.product)), tt)),
    )

basket_parts_read : (line : ℕ × ProductKey) → IsBasketKey line → basket_of_pieces (basket_parts line) ≡ Ok line
basket_parts_read line ok =
    ap (λ r. r >>= λ c. number_id (decimal line.1.seller) >>= λ s. number_id (decimal line.1.product) >>= λ p. Ok (c, record { seller = s; product = p }))
    (number_id_word.reads line.0 ok.0)
    ∙ ap (λ r. r >>= λ s. number_id (decimal line.1.product) >>= λ p. Ok (line.0, record { seller = s; product = p }))
    (number_id_word.reads line.1.seller ok.1.seller)
    ∙ ap (λ r. r >>= λ p. Ok (line.0, record { seller = line.1.seller; product = p })) (number_id_word.reads line.1.product ok.1.product)

basket_parts_spelled : (ts : List (List ℕ)) (line : ℕ × ProductKey) → basket_of_pieces ts ≡ Ok line → IsBasketKey line × (ts ≡ basket_parts line)
basket_parts_spelled [] line e = absurd (cc)
basket_parts_spelled (a ∷ []) line e = absurd (cc)
basket_parts_spelled (a ∷ b ∷ []) line e = absurd (cc)
basket_parts_spelled (customer ∷ seller ∷ product ∷ []) line e =
    let rest : ℕ → ℕ → ℕ → Result (ℕ × ProductKey) WordFault = λ c s p. Ok (c, record { seller = s; product = p }) in
    let one = then_apart (number_id customer) (λ c. number_id seller >>= λ s. number_id product >>= rest c s) line e in
    let two = then_apart (number_id seller) (λ s. number_id product >>= rest one.0 s) line one.2 in
    let three = then_apart (number_id product) (rest one.0 two.0) line two.2 in
    let c = number_id_word.spelled customer one.0 one.1 in
    let s = number_id_word.spelled seller two.0 two.1 in
    let p = number_id_word.spelled product three.0 three.1 in
    let found : ℕ × ProductKey = (one.0, record { seller = two.0; product = three.0 }) in
    let read : rest one.0 two.0 three.0 ≡ Ok found = refl in
    subst (λ l. IsBasketKey l × (customer ∷ seller ∷ product ∷ [] ≡ basket_parts l)) (ok_is read three.2)
    ((c.0, record { seller = s.0; product = p.0 }), λ i. c.1 i ∷ s.1 i ∷ p.1 i ∷ [])
basket_parts_spelled (a ∷ b ∷ c ∷ d ∷ more) line e = absurd (cc)

-- CUSTOMER:SELLER:PRODUCT
pub basket_word : ReadsKey basket_line_of (λ line. basket_key line.0 line.1) IsBasketKey
basket_word = record {
  reads = λ line ok. ap basket_of_pieces (pieces_joined 58 (basket_parts line) (omega arith) (basket_parts_lack line ok)) ∙ basket_parts_read line ok;
  spelled = λ t line e.
      let spelled = basket_parts_spelled (pieces 58 t) line e in
      (spelled.0, sym (joined_pieces 58 t) ∙ ap (join_with_byte 58) spelled.1);
}

-- what is read of a text, where it is read
module _ {K : Type 0} {read : List ℕ → Result K WordFault} {text : K → List ℕ} {ok : K → Type 0} (law : ReadsKey read text ok) (t : List ℕ)
    (r : Result K WordFault) (said : r ≡ read t) (o : Option K) (got : o ≡ result_ok r) where
  pub read_text : IfSome o (λ k. t ≡ text k)
  read_text = subst (λ o. IfSome o (λ k. t ≡ text k)) (sym got) (by r said)
    where
      by : (r : Result K WordFault) → r ≡ read t → IfSome (result_ok r) (λ k. t ≡ text k)
      by (Ok k) said = (law.spelled t k (sym said)).1
      by (Err fault) said = tt

  pub read_ok : IfSome o ok
  read_ok = subst (λ o. IfSome o ok) (sym got) (by r said)
    where
      by : (r : Result K WordFault) → r ≡ read t → IfSome (result_ok r) ok
      by (Ok k) said = (law.spelled t k (sym said)).0
      by (Err fault) said = tt

  pub read_all : (k : K) → ok k → t ≡ text k → o ≡ Some k
  read_all k small is = got ∙ ap result_ok (said ∙ ap read is ∙ law.reads k small)

-- a fact of what is there, as another one
pub if_some : {K : Type 0} (P Q : K → Type 0) → ((k : K) → P k → Q k) → (o : Option K) → IfSome o P → IfSome o Q
if_some P Q to None p = tt
if_some P Q to (Some k) p = to k p
