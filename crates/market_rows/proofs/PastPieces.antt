-- A past whose counts are read one after the other: what is said of it so far, and at the end.
use Rattle.std.proofs.Common.{◌≡◌, ◌≢◌, ◌≤◌, ◌<◌, ℕ, suc, ◌+◌, ◌-◌, max, List, [], ◌∷◌, ◌++◌, take, length, slice_index, Option, Some, None, Ok, Err, refl, ap, sym, ◌∙◌, append_assoc, append-nil, arith}
use Rattle.std.specs.Result.{result_ok}
use Rattle.std.proofs.lemmas.List.{length-set, get_or-set_other, take_more_set, take_all}
use Rattle.market_events.specs.declared.links.TheConstants.{SERVICE_LINKS}
use Rattle.market_events.specs.Counts.{with_raised}
use Rattle.market_words.specs.declared.faults.WordFault.{WordFault}
use Rattle.market_words.specs.Words.{pieces, number_id}
use Rattle.market_rows.specs.Reading.{◌then◌, counts_read, past_read}

-- what is said of all counts, by those in front and what is said of the rest
abbrev pub behind : List ℕ → Option (List ℕ) → Option (List ℕ)
behind front (Some counts) = Some (front ++ counts)
behind front None = None

-- the counts so far, with the pieces that are left, stand for the past of the text
pub record StandsForPast (text counts : List ℕ) (link : ℕ) (left : List (List ℕ)) : Type 0 where
  pub said : behind (take link counts) (counts_read (SERVICE_LINKS - link) left) ≡ past_read text
  pub many : length counts ≡ SERVICE_LINKS
  pub zeros : (k : ℕ) → link ≤ k → slice_index counts k ≡ 0

-- behind no counts
behind_none : (said : Option (List ℕ)) → behind [] said ≡ said
behind_none (Some counts) = refl
behind_none None = refl

-- no count is read yet
pub past_begins : (text counts : List ℕ) → length counts ≡ SERVICE_LINKS → ((k : ℕ) → slice_index counts k ≡ 0) → StandsForPast text counts 0 (pieces 32 text)
unfolding past_read
past_begins text counts many zeros = record {
  said = behind_none (counts_read SERVICE_LINKS (pieces 32 text));
  many = many;
  zeros = λ k above. zeros k;
}

-- a count in front of the rest, behind other counts
one_behind : (front : List ℕ) (c : ℕ) (rest : Option (List ℕ)) → behind front (rest then λ cs. Some (c ∷ cs)) ≡ behind (front ++ c ∷ []) rest
one_behind front c (Some cs) = ap Some (sym (append_assoc front (c ∷ []) cs))
one_behind front c None = refl

-- the first of more counts
first_read : (n : ℕ) (piece : List ℕ) (more : List (List ℕ)) (c : ℕ) → number_id piece ≡ Ok c
    → counts_read (suc n) (piece ∷ more) ≡ (counts_read n more then λ cs. Some (c ∷ cs))
first_read n piece more c reads = ap (λ r. result_ok r then λ d. counts_read n more then λ cs. Some (d ∷ cs)) reads

-- one more count
pub past_more : (text counts new : List ℕ) (link c : ℕ) (left : List (List ℕ)) (piece : List ℕ) (more : List (List ℕ))
    → StandsForPast text counts link left → link < SERVICE_LINKS → left ≡ piece ∷ more → number_id piece ≡ Ok c → new ≡ with_raised counts link c
    → StandsForPast text new (link + 1) more
past_more text counts new link c left piece more stands below next reads raised =
    let here : slice_index counts link ≡ 0 = stands.zeros link (omega arith) in
    let value : max (slice_index counts link) c ≡ c = omega (arith, here) in
    let front : take (link + 1) new ≡ take link counts ++ c ∷ [] =
    ap (take (link + 1)) raised ∙ take_more_set counts link (max (slice_index counts link) c) (omega (arith, stands.many)) ∙ ap (λ v. take link counts ++ v ∷ []) value in
    let rest : SERVICE_LINKS - link ≡ suc (SERVICE_LINKS - (link + 1)) = omega (arith, below) in
    let back : counts_read (suc (SERVICE_LINKS - (link + 1))) (piece ∷ more) ≡ counts_read (SERVICE_LINKS - link) left = λ i. counts_read (sym rest i) (sym next i) in
    record {
      said = ap (λ f. behind f (counts_read (SERVICE_LINKS - (link + 1)) more)) front ∙ sym (one_behind (take link counts) c (counts_read (SERVICE_LINKS - (link + 1)) more))
          ∙ ap (behind (take link counts)) (sym (first_read (SERVICE_LINKS - (link + 1)) piece more c reads) ∙ back)
          ∙ stands.said;
      many = ap length raised ∙ length-set counts link (max (slice_index counts link) c) ∙ stands.many;
      zeros = λ k above.
          let other : k ≢ link = omega arith in
          ap (λ xs. slice_index xs k) raised ∙ get_or-set_other counts link k (max (slice_index counts link) c) 0 other ∙ stands.zeros k (omega arith);
    }

-- a piece that is no count, and no piece where there is to be one
pub past_bad : (text counts : List ℕ) (link : ℕ) (left : List (List ℕ)) (piece : List ℕ) (more : List (List ℕ)) (fault : WordFault)
    → StandsForPast text counts link left → link < SERVICE_LINKS → left ≡ piece ∷ more → number_id piece ≡ Err fault → past_read text ≡ None
past_bad text counts link left piece more fault stands below next reads =
    let rest : SERVICE_LINKS - link ≡ suc (SERVICE_LINKS - (link + 1)) = omega (arith, below) in
    let left_is : counts_read (SERVICE_LINKS - link) left ≡ counts_read (suc (SERVICE_LINKS - (link + 1))) (piece ∷ more) = λ i. counts_read (rest i) (next i) in
    sym stands.said
    ∙ ap (behind (take link counts)) (left_is ∙ ap (λ r. result_ok r then λ d. counts_read (SERVICE_LINKS - (link + 1)) more then λ cs. Some (d ∷ cs)) reads)

pub past_short : (text counts : List ℕ) (link : ℕ) (left : List (List ℕ)) → StandsForPast text counts link left → link < SERVICE_LINKS → left ≡ [] → past_read text ≡ None
past_short text counts link left stands below none =
    let rest : SERVICE_LINKS - link ≡ suc (SERVICE_LINKS - (link + 1)) = omega (arith, below) in
    let left_is : counts_read (SERVICE_LINKS - link) left ≡ None = λ i. counts_read (rest i) (none i) in sym stands.said ∙ ap (behind (take link counts)) left_is

-- behind the last count: nothing, or a piece too many
pub past_whole : (text counts : List ℕ) (link : ℕ) (left : List (List ℕ)) → StandsForPast text counts link left → link ≡ SERVICE_LINKS → left ≡ [] → past_read text ≡ Some counts
past_whole text counts link left stands last none =
    let rest : SERVICE_LINKS - link ≡ 0 = omega (arith, last) in
    let left_is : counts_read (SERVICE_LINKS - link) left ≡ Some [] = λ i. counts_read (rest i) (none i) in
    sym stands.said ∙ ap (behind (take link counts)) left_is
    ∙ ap Some (append-nil (take link counts) ∙ take_all link counts (omega (arith, stands.many, last)))

pub past_long : (text counts : List ℕ) (link : ℕ) (left : List (List ℕ)) (piece : List ℕ) (more : List (List ℕ)) → StandsForPast text counts link left → link ≡ SERVICE_LINKS → left ≡ piece ∷ more → past_read text ≡ None
past_long text counts link left piece more stands last next =
    let rest : SERVICE_LINKS - link ≡ 0 = omega (arith, last) in
    let left_is : counts_read (SERVICE_LINKS - link) left ≡ None = λ i. counts_read (rest i) (next i) in sym stands.said ∙ ap (behind (take link counts)) left_is
